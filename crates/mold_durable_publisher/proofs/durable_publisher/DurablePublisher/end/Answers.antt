use Rattle.std.proofs.Common.{ap, refl}
use Rattle.mold_session.specs.Publisher.{PublisherState, next_end}
use Rattle.mold_durable_publisher.proofs.LendingLemmas.{if_lent, told_of, true_end}
use Rattle.mold_durable_publisher.proofs.durable_publisher.DurablePublisher.end.Goals as goal

pub returns : goal.returns
returns g c =
    let lent = c.end.ensures.lent in (
      (refl, (λ _. tt), ap (λ (p : PublisherState). record c.args.self.now { publisher = p }) c.end.follows.holds-at-none),
      record {
        after = tt;
        lent = lent;
        truth = λ life is.
            if_lent (next_end c.args.self.now.publisher) c.end.result lent
            (true_end g.S.Storage.shows g.S.Storage.may_leave c.args.self.now life is);
        told = λ life is.
            if_lent (next_end c.args.self.now.publisher) c.end.result lent
            (λ bytes lends. told_of g.S.Storage.shows g.S.Storage.may_leave c.args.self.now life is
            c.true_stays_law.ensures.message bytes
            (true_end g.S.Storage.shows g.S.Storage.may_leave c.args.self.now life is bytes lends));
      },
    )
