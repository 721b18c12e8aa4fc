use Rattle.std.proofs.Common.{ℕ, ◌+◌, List, length, refl, sym, ap, subst, ◌∙◌, arith}
use Rattle.std.specs.List.{AllByRecursion}
use Rattle.mold_wire.specs.Block.{IsMessage}
use Rattle.mold_capture.specs.Runs.{AreRuns, carried}
use Rattle.mold_capture.specs.Seen.{Pairs, pairs_with}
use Rattle.mold_capture.proofs.GrowLemmas.{back_is}
use Rattle.mold_capture.proofs.KeepLemmas.{same_carried, with_none, with_next}
use Rattle.mold_capture.proofs.keep.add_each.Goals as goal

pub returns-in-Err-clause-err : goal.returns-in-Err-clause-err
returns-in-Err-clause-err c =
    let before = subst (λ (n : ℕ). AreRuns c.args.runs.now n) (sym c.len-since.ensures) c.requires.are in
    let entries = back_is c.args.runs.now c.add_new.new.runs c.take_back.new.runs c.len-since.result before
    (c.add_new.ensures.since c.args.runs.now before c.loop-message.invariant.since)
    c.take_back.ensures.ordered c.take_back.ensures.out c.take_back.ensures.stays
    in
    same_carried c.args.runs.now c.take_back.new.runs c.args.kept.now c.truncate.new.self entries
    (c.truncate.ensures ∙ c.add_new.ensures.front ∙ c.loop-message.invariant.front)

pub take_back-requires-clause-within : goal.take_back-requires-clause-within
take_back-requires-clause-within c =
    c.add_new.ensures.within c.args.first c.loop-message.invariant.from c.loop-message.invariant.within

pub loop-message-preserved : goal.loop-message-preserved
loop-message-preserved c =
    let old = c.loop-message.invariant in
    let before = subst (λ (n : ℕ). AreRuns c.args.runs.now n) (sym c.len-since.ensures) c.requires.are in
    let steps = c.in-Some.ensures.steps in
    record {
      are = c.add_new.ensures.are;
      short = (subst (AllByRecursion IsMessage) steps old.short).1;
      counted = omega (arith, old.counted, ap (λ (t : List (List ℕ)). length t) steps);
      same =
          ap (λ (p : Pairs). pairs_with p (c.loop-message.number + 1) c.next.new.self) c.in_default.ensures.ok
          ∙ with_next (carried c.loop-message.runs c.loop-message.kept) c.loop-message.number
          (c.loop-message.number + 1) c.in-Some.message.now c.next.new.self refl
          ∙ ap (pairs_with (carried c.loop-message.runs c.loop-message.kept) c.loop-message.number) (sym steps)
          ∙ old.same;
      since = c.add_new.ensures.since c.args.runs.now before old.since;
      from = omega (arith, old.from);
      within = c.add_new.ensures.within c.args.first old.from old.within;
      front = c.add_new.ensures.front ∙ old.front;
      more = c.add_new.ensures.more;
    }

pub returns-clause-ok : goal.returns-clause-ok
returns-clause-ok c =
    let pairs = carried c.loop-message.runs c.loop-message.kept in
    sym (with_none pairs c.loop-message.number)
    ∙ ap (pairs_with pairs c.loop-message.number) (sym c.in-None.ensures.steps.0)
    ∙ c.loop-message.invariant.same
