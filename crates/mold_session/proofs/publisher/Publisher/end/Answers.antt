use Rattle.std.proofs.Common.{ℕ, Some, refl, sym, ap, subst, ◌∙◌, arith}
use Rattle.mold_wire.specs.declared.session.Session.{Session}
use Rattle.mold_wire.specs.Packer.{PackerState, Ended}
use Rattle.mold_session.specs.Publisher.{PublisherState, Lends, next_end}
use Rattle.mold_session.specs.Truthful.{IsTrueDatagram}
use Rattle.mold_session.proofs.PublisherLemmas.{lends_end}
use Rattle.mold_session.proofs.TruthLemmas.{end_true}
use Rattle.mold_session.proofs.publisher.Publisher.end.Goals as goal

pub returns : goal.returns
returns c =
    let f = c.self.inside in
    let bytes = c.bytes.result.now in
    let before : PublisherState = record { journal = f.journal; limit = f.limit; sent = f.sent } in
    let begun =
    ap (λ (p : PackerState). p.begun) c.end.ensures
    ∙ ap (λ (s : Session). Ended s c.next.result) c.session.ensures
    ∙ ap (λ (n : ℕ). Ended f.journal.session n) c.next.ensures.value
    in
    let lent =
    lends_end before c.end.new.self.begun bytes (sym c.if-not-is_closed.ensures) begun c.bytes.ensures.spelled
    in
    let truth = end_true before bytes c.self.invariant.1 lent in (
      (refl, (λ _. tt), c.self.view_is),
      record {
        after = tt;
        lent = subst (λ (p : PublisherState). Lends (next_end p) (Some bytes)) c.self.view_is lent;
        within = omega (
          arith,
          c.bytes.ensures.within,
          ap (λ (p : PackerState). p.limit) c.end.ensures,
          c.self.invariant.0,
          ap (λ (p : PublisherState). p.limit) c.self.view_is,
        );
        truth = subst (λ (p : PublisherState). IsTrueDatagram p.journal bytes) c.self.view_is truth;
      },
    )
