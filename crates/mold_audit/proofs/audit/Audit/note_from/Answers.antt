use Rattle.std.proofs.Common.{◌<◌, ◌≤◌, ◌+◌, ◌∙◌, ap, arith, drop, length, sym, get_or, []}
use Rattle.std.specs.Option.{option_copied}
use Rattle.std.proofs.Math.ListN.{drop_of_length-le}
use Rattle.std.proofs.lemmas.Bool.{eqb-true}
use Rattle.std.proofs.lemmas.Option.{none-some, slice_get-get_or}
use Rattle.mold_audit.proofs.LawLemmas.{off_noted}
use Rattle.mold_audit.proofs.NoteLemmas.{drop_first, next_low, noted_both, noted_none}
use Rattle.mold_audit.proofs.audit.Audit.note_from.Goals as goal
use Rattle.mold_audit.proofs.audit.Audit.note_from.Goals.{in-Some, in_default}

pub loop-index-preserved : goal.loop-index-preserved
loop-index-preserved c =
    let all = c.args.batch.now.messages in
    let index = c.loop-index.index in
    let number = c.loop-index.number in
    let a = c.loop-index.self in
    let old = c.loop-index.invariant in
    elim c.match-get.branch [
      | in-Some w ↦
          let message = w.in-Some.message.now in
          let b = w.note.new.self in
          let rest = drop (index + 1) all in
          let first = drop_first all index message (sym w.in-Some.ensures) in
          rw (w.self-is, w.number-is) (record {
            ends = λ final more.
                old.ends final (rw first (noted_both a b final number message rest old.ascending w.note.ensures more));
            ascending = next_low a b number message old.ascending w.note.ensures;
            few = omega (arith, old.few, ap length first);
          })
      | in_default w ↦
          let within : index < length all = omega (arith, c.loop-index-test.true, c.len-index-end.ensures.length) in
          absurd (none-some (get_or all index []) (sym (ap option_copied w.in_default.is) ∙ c.get.ensures
          ∙ slice_get-get_or all index [] within))
    ]

pub returns : goal.returns
returns c =
    let all = c.args.batch.now.messages in
    let past : length all ≤ c.loop-index.index =
    omega (arith, c.loop-index-test.false, c.len-index-end.ensures.length) in
    let none = drop_of_length-le all {i = c.loop-index.index} past in
    c.loop-index.invariant.ends c.loop-index.self (rw none (noted_none c.loop-index.self c.loop-index.number))

pub returns-then-is_off : goal.returns-then-is_off
returns-then-is_off c =
    let none = eqb-true (length c.args.self.now.slots.items) 0 (sym c.is_off.ensures ∙ c.if-is_off.true) in
    off_noted c.args.self.now c.args.first (drop c.args.from c.args.batch.now.messages) none
