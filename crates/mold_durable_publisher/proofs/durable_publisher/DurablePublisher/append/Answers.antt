use Rattle.std.proofs.Common.{◌≡◌, ◌∙◌, [], ◌∷◌, ◌++◌, ap, refl, subst}
use Rattle.mold_session.specs.Publisher.{IsPublisher, PublisherState, published}
use Rattle.mold_durable_publisher.specs.declared.durable_publisher.DurablePublisher.{DurablePublisher}
use Rattle.mold_durable_publisher.proofs.AppendLemmas.{may_retract, retract_same}
use Rattle.mold_durable_publisher.proofs.PublishingLemmas.{all_parts, append_publishes, unappended_publishes}
use Rattle.mold_durable_publisher.proofs.durable_publisher.DurablePublisher.append.Goals as goal

pub retract-requires : goal.retract-requires
retract-requires g c = record {
  unsent = may_retract c.args.self.now.publisher c.append_published.new.self.publisher c.args.message.now
      c.unsent-unsent.ensures.publisher
      (ap (λ (p : DurablePublisher g.row.S.Denot). p.publisher) c.in-Err-append_published.ensures.same
      ∙ c.in-Ok.ensures.added);
}

pub returns-in-Ok-append_published-clause-appended : goal.returns-in-Ok-append_published-clause-appended
returns-in-Ok-append_published-clause-appended g c = λ life is.
    let old = c.args.self.now in
    let new = c.append_published.new.self in
    let message = c.args.message.now in
    let both = c.in-Ok-append_published.ensures.appended life (is.lives c.in-Ok-append_published.ensures.intact) in (
      both.0,
      append_publishes g.S.Storage.shows g.S.Storage.may_leave old new life message is both.0 both.1
          (subst IsPublisher c.in-Ok.ensures.added c.append_published.ensures.publisher)
          c.in-Ok-append_published.ensures.indexed
          (c.in-Ok-append_published.ensures.added
          ∙ ap (λ (p : PublisherState). record {
            publisher = p;
            durable = record old.durable { waiting = old.durable.waiting ++ message ∷ [] };
            index = record old.index { index = new.index.index };
          }) c.in-Ok.ensures.added),
    )

pub returns-in-Err-append_published-clause-kept : goal.returns-in-Err-append_published-clause-kept
returns-in-Err-append_published-clause-kept g c = λ life is.
    let old = c.args.self.now in
    let failed = c.append_published.new.self in
    let new : DurablePublisher g.row.S.Denot = record failed { publisher = c.retract.new.self } in
    let message = c.args.message.now in
    let made : failed.publisher ≡ published old.publisher message =
    ap (λ (p : DurablePublisher g.row.S.Denot). p.publisher) c.in-Err-append_published.ensures.same
    ∙ c.in-Ok.ensures.added in
    unappended_publishes g.S.Storage.shows g.S.Storage.may_leave old new life message is
    (all_parts (record old { index = failed.index }) new
    (c.retract.ensures ∙ retract_same old.publisher failed.publisher message made)
    (ap (λ (p : DurablePublisher g.row.S.Denot). p.durable) c.in-Err-append_published.ensures.same) refl)
    c.in-Err-append_published.ensures.same_index
    (λ stored. c.in-Err-append_published.ensures.part old.publisher.journal stored
    (subst IsPublisher c.in-Ok.ensures.added c.append_published.ensures.publisher).journaled)
