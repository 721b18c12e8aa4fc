use Rattle.std.proofs.Common.{arith, ◌≡◌, sym, ◌∙◌, ap, ◌++◌, ◌<◌, ◌-◌, length, drop, ℕ, List, take, Result, Ok, Err}
use Rattle.std.specs.Prelude.{OnErr}
use Rattle.std.proofs.lemmas.List.{take_all, take_at}
use Rattle.mold_input.specs.declared.message_format.MessageFormat.TheVariants.{Lines}
use Rattle.mold_listen.specs.Text.{handed_line, handed_text}
use Rattle.mold_listen.proofs.HandedLemmas.{first_is, after_is, none_within, handed_more, handed_all, handed_init, kept_below, written_within}
use Rattle.mold_listen.proofs.handed.push_lines.Goals as goal
use Rattle.mold_listen.proofs.handed.push_lines.Goals.{in-Some+in_ok-make_room, in_default-get}

pub loop-number-init : goal.loop-number-init
loop-number-init c =
    let all = take_all c.len-at.result c.args.out.now.items (omega arith) in
    record {
      low = omega arith;
      within = omega arith;
      printed = ap (λ (t : List ℕ). t ++ handed_text Lines c.in-Some-Some.first
          (drop (c.in-Some-Some.first - c.in-Some-Some.first) c.args.batch.now.messages)) all
          ∙ handed_init Lines c.in-Some-Some.first c.args.batch.now.messages c.args.out.now.items;
    }

pub loop-number-preserved : goal.loop-number-preserved
loop-number-preserved c =
    let after = after_is c.args.batch.now.first c.in-Some-Some.after c.args.batch.now.messages
    (sym c.in-Some-Some.is-1 ∙ c.after.ensures) in
    let first = first_is c.args.batch.now.first c.in-Some-Some.first c.args.batch.now.messages
    (sym c.in-Some-Some.is-0 ∙ c.first.ensures) in
    elim c.match-get.branch [
      | in-Some+in_ok-make_room w ↦
          let line = w.write_line-at.ensures.written in
          let text : List ℕ = w.write_line-at.new.out in
          let before = ap (take c.loop-number.at) w.as_mut_slice.ensures.value ∙ w.in_ok-make_room.ensures.front in
          let whole : take w.make_room.new.out.len (text ++ drop (length text) w.make_room.new.out.items) ≡ text =
          take_at text (drop (length text) w.make_room.new.out.items) w.make_room.new.out.len
          (omega (arith, line.size, ap (λ (t : List ℕ). length t) w.as_mut_slice.ensures.value)) in
          rw (w.out-is, w.at-is, whole)
          (record {
            low = omega (arith, line.stops, c.loop-number.invariant.low);
            within = written_within _ _ _ _ _ (omega (
              arith,
              w.in_ok-make_room.ensures.room,
              ap (λ (t : List ℕ). length t) w.as_mut_slice.ensures.value,
            )) line;
            printed = handed_more Lines _ _ _ _ _ _ _ c.loop-number.auto.number w.in-Some.ensures c.loop-number.invariant.printed
                (line.front ∙ ap (λ (t : List ℕ). t ++ handed_line c.loop-number.number w.in-Some.message.now) before);
          })
      | in_default-get w ↦
          absurd (none_within _ _ w.in_default-get.ensures
          (let e : c.loop-number.number - c.in-Some-Some.first < length c.args.batch.now.messages =
          omega (arith, after, first, c.loop-number-test.true) in e))
    ]

pub returns-clause-text : goal.returns-clause-text
returns-clause-text c =
    let after = after_is c.args.batch.now.first c.in-Some-Some.after c.args.batch.now.messages
    (sym c.in-Some-Some.is-1 ∙ c.after.ensures) in
    let first = first_is c.args.batch.now.first c.in-Some-Some.first c.args.batch.now.messages
    (sym c.in-Some-Some.is-0 ∙ c.first.ensures) in
    c.truncate.ensures.items
    ∙ handed_all Lines c.loop-number.number c.in-Some-Some.first c.args.batch.now.messages _ _
    (omega (arith, after, first, c.loop-number-test.false)) c.loop-number.invariant.printed
    ∙ ap (λ (n : ℕ). c.args.out.now.items ++ handed_text Lines n c.args.batch.now.messages) first

-- after a failed allocation
if_err : {T E : Type 0} (result : Result T E) {P : Type 0} → P → OnErr result P
if_err (Ok _) p = tt
if_err (Err _) p = p

pub returns-in_err-make_room-clause-kept : goal.returns-in_err-make_room-clause-kept
returns-in_err-make_room-clause-kept c =
    if_err c.from_residual.result
    (kept_below c.args.out.now.items c.loop-number.out.items c.make_room.new.out.items _ _ c.loop-number.at
    c.loop-number.invariant.low c.loop-number.invariant.within c.loop-number.invariant.printed
    c.make_room.ensures.front)
