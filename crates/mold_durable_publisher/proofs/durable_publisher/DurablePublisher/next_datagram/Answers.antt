use Rattle.std.proofs.Common.{ap, refl, sym, ◌≡◌, ◌∙◌, true, false}
use Rattle.std.specs.Option.{option_copied}
use Rattle.mold_session.specs.Publisher.{PublisherState}
use Rattle.mold_durable_publisher.proofs.LendingLemmas.{after_waiting, if_idle, if_true, none_waiting, some_waiting, told_of}
use Rattle.mold_durable_publisher.proofs.LendingLemmas.{true_committed}
use Rattle.mold_durable_publisher.proofs.durable_publisher.DurablePublisher.next_datagram.Goals as goal

pub returns-then-all_committed : goal.returns-then-all_committed
returns-then-all_committed g c =
    let old = c.args.self.now in
    let none = c.all_committed.ensures.0 c.if-all_committed.true in (
      (
        refl,
        (λ _. tt),
        ap (λ (p : PublisherState). record old { publisher = p }) c.datagram.follows.holds-at-none
            ∙ after_waiting old none,
      ),
      record {
        after = tt;
        lent = some_waiting old (option_copied c.datagram.result) none c.datagram.ensures.lent;
        idle = if_idle old c.datagram.result none c.datagram.ensures.idle;
        truth = λ life is.
            if_true c.datagram.result (λ bytes. true_committed g.S.Storage.shows g.S.Storage.may_leave old life is bytes none) c.datagram.ensures.truth;
        told = λ life is.
            if_true c.datagram.result (λ bytes so. told_of g.S.Storage.shows g.S.Storage.may_leave old life is
            c.true_stays_law.ensures.message bytes (true_committed g.S.Storage.shows g.S.Storage.may_leave old life is bytes none so))
            c.datagram.ensures.truth;
      },
    )

pub returns : goal.returns
returns g c =
    let old = c.args.self.now in
    let nothing = none_waiting old (λ none. let e : false ≡ true = sym c.if-all_committed.false ∙ c.all_committed.ensures.1 none in
    cc) in (
      (refl, (λ _. tt), sym nothing.1),
      record { after = tt; lent = nothing.0; idle = nothing.1; truth = λ life is. tt; told = λ life is. tt },
    )
