use Rattle.std.proofs.Common.{◌∙◌, Result, Ok, Err, ap, arith, refl, subst, sym}
use Rattle.std.specs.Prelude.{OnErr}
use Rattle.mold_receiver.specs.Arbiter.{Arbitration}
use Rattle.mold_receiver.specs.View.{IsWellFormed, View}
use Rattle.mold_repair.proofs.FrontLemmas.{no_front}
use Rattle.mold_repair.proofs.TakingLemmas.{advanced_by, arrived_by, passed}
use Rattle.mold_repair.proofs.repairer.Repairer.lost.Goals as goal

on_err : {T E : Type 0} {P : Type 0} (r : Result T E) → P → OnErr r P
on_err (Ok x) p = tt
on_err (Err e) p = p

pub returns-in_default-clause-lost : goal.returns-in_default-clause-lost
returns-in_default-clause-lost c =
    let known = c.known.ensures ∙ ap (λ (v : View). v.known) c.receiver.ensures in
    record {
      between = c.advance.new.self;
      time = advanced_by c.args.now c.known.result c.args.self.now.arbiter.view c.args.self.now.pacer c.advance.new.self
          known c.advance.ensures.options c.advance.ensures.state c.advance.ensures.flights;
      gave = record { due = sym c.in_default.ensures.due; arbiter = refl; batch = refl; pacer = refl };
    }

pub returns-in_err-skip-clause-passed : goal.returns-in_err-skip-clause-passed
returns-in_err-skip-clause-passed c =
    let known = c.known.ensures ∙ ap (λ (v : View). v.known) c.receiver.ensures in
    on_err c.from_residual.result (passed c.args.now c.known.result c.args.self.now.arbiter.view c.args.self.now.pacer
    c.advance.new.self known c.advance.ensures.options c.advance.ensures.state c.advance.ensures.flights)

pub returns-clause-lost : goal.returns-clause-lost
returns-clause-lost c =
    let known = c.known.ensures ∙ ap (λ (v : View). v.known) c.receiver.ensures in
    let next = c.next-next.ensures ∙ ap (λ (v : View). v.next) c.receiver-2.ensures in
    record {
      between = c.advance.new.self;
      time = advanced_by c.args.now c.known.result c.args.self.now.arbiter.view c.args.self.now.pacer c.advance.new.self
          known c.advance.ensures.options c.advance.ensures.state c.advance.ensures.flights;
      gave = record {
        given_up = c.in-Some.ensures.some;
        arbiter = c.in_ok-skip.ensures.skipped;
        batch = c.in_ok-skip.ensures.handed;
        pacer = arrived_by c.next-next.result c.skip.new.self.view c.advance.new.self c.arrive.new.self next
            c.arrive.ensures.options c.arrive.ensures.state c.arrive.ensures.flights;
      };
    }

pub invariant_of-self-2-clause-formed : goal.invariant_of-self-2-clause-formed
invariant_of-self-2-clause-formed c =
    let old = c.args.self.now in
    let given = c.in-Some.ensures.some in
    subst IsWellFormed (sym (ap (λ (a : Arbitration). a.view) c.in_ok-skip.ensures.skipped))
    (c.well_formed_law.ensures.skipped old.arbiter.view c.in-Some.gap.end old.formed
    (omega (arith, given.first, given.some)) given.missing.0)

pub invariant_of-self-2-clause-fronted : goal.invariant_of-self-2-clause-fronted
invariant_of-self-2-clause-fronted c = no_front c.skip.new.self.view c.arrive.new.self.flights.items
