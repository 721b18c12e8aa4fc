use Rattle.std.proofs.Common.{arith, ◌≡◌, sym, ◌∙◌, ap, ◌++◌, ◌<◌, ◌-◌, length, ℕ, Result, Ok, Err}
use Rattle.std.specs.Prelude.{OnErr}
use Rattle.mold_input.specs.declared.message_format.MessageFormat.TheVariants.{BlocksToEmpty}
use Rattle.mold_turns.proofs.PrintingLemmas.{begins_kept, kept_begins}
use Rattle.mold_turns.proofs.RunLemmas.{begins_trans, begins_whole}
use Rattle.mold_wire.specs.Block.{block}
use Rattle.mold_listen.specs.Text.{empty_number, handed_text, messages_to_empty}
use Rattle.mold_listen.proofs.HandedLemmas.{first_is, after_is, no_batch_number, no_batch_text, none_within, number_all, number_here, number_init, number_more}
use Rattle.mold_listen.proofs.HandedLemmas.{to_empty_all, to_empty_here, to_empty_init, to_empty_more}
use Rattle.std.proofs.lemmas.Grind.{common_steps}
use Rattle.mold_listen.proofs.handed.push_to_empty.Goals as goal
use Rattle.mold_listen.proofs.handed.push_to_empty.Goals.{in-Some+else-is_empty+in_ok-push_block, in_default-get}

pub returns-in_default-2-clause-text : goal.returns-in_default-2-clause-text
returns-in_default-2-clause-text c =
    no_batch_text c.args.batch.now.first c.args.batch.now.messages c.args.out.now.items
    (sym c.first.ensures ∙ c.in_default.is-0)

pub returns-in_default-2-clause-empty : goal.returns-in_default-2-clause-empty
returns-in_default-2-clause-empty c =
    no_batch_number c.args.batch.now.first c.args.batch.now.messages (sym c.first.ensures ∙ c.in_default.is-0)

pub loop-number-init : goal.loop-number-init
loop-number-init c = record {
  printed = to_empty_init c.in-Some-Some.first c.args.batch.now.messages c.args.out.now.items;
  found = number_init c.in-Some-Some.first c.args.batch.now.messages;
  kept = begins_whole c.args.out.now.items;
}

pub loop-number-preserved : goal.loop-number-preserved
loop-number-preserved c =
    let after = after_is c.args.batch.now.first c.in-Some-Some.after c.args.batch.now.messages
    (sym c.in-Some-Some.is-1 ∙ c.after.ensures) in
    let first = first_is c.args.batch.now.first c.in-Some-Some.first c.args.batch.now.messages
    (sym c.in-Some-Some.is-0 ∙ c.first.ensures) in
    elim c.match-get.branch [
      | in-Some+else-is_empty+in_ok-push_block w ↦
          let some : 0 < length w.in-Some.message.now = grind (arith, common_steps) in
          rw w.out-is
          (record {
            printed = to_empty_more _ _ _ _ _ _ _ c.loop-number.auto.number w.in-Some.ensures some
                c.loop-number.invariant.printed w.in_ok-push_block.ensures.text;
            found = number_more _ _ _ _ _ c.loop-number.auto.number w.in-Some.ensures some c.loop-number.invariant.found;
            kept = begins_trans c.loop-number.invariant.kept
                (record { rest = block w.in-Some.message.now; parts = w.in_ok-push_block.ensures.text });
          })
      | in_default-get w ↦
          absurd (none_within _ _ w.in_default-get.ensures
          (let e : c.loop-number.number - c.in-Some-Some.first < length c.args.batch.now.messages =
          omega (arith, after, first, c.loop-number-test.true) in e))
    ]

-- at an empty message
pub returns-then-is_empty-clause-text : goal.returns-then-is_empty-clause-text
returns-then-is_empty-clause-text c =
    let first = first_is c.args.batch.now.first c.in-Some-Some.first c.args.batch.now.messages
    (sym c.in-Some-Some.is-0 ∙ c.first.ensures) in
    let none : length c.in-Some.message.now ≡ 0 = grind (arith, common_steps) in
    to_empty_here _ _ _ _ _ _ c.in-Some.ensures none c.loop-number.invariant.printed
    ∙ ap (λ (n : ℕ). c.args.out.now.items ++ handed_text BlocksToEmpty n (messages_to_empty c.args.batch.now.messages)) first

pub returns-then-is_empty-clause-empty : goal.returns-then-is_empty-clause-empty
returns-then-is_empty-clause-empty c =
    let first = first_is c.args.batch.now.first c.in-Some-Some.first c.args.batch.now.messages
    (sym c.in-Some-Some.is-0 ∙ c.first.ensures) in
    let none : length c.in-Some.message.now ≡ 0 = grind (arith, common_steps) in
    number_here _ _ _ _ _ c.in-Some.ensures none c.loop-number.invariant.found
    ∙ ap (λ (n : ℕ). empty_number n c.args.batch.now.messages) first

-- after the last message
pub returns-clause-text : goal.returns-clause-text
returns-clause-text c =
    let after = after_is c.args.batch.now.first c.in-Some-Some.after c.args.batch.now.messages
    (sym c.in-Some-Some.is-1 ∙ c.after.ensures) in
    let first = first_is c.args.batch.now.first c.in-Some-Some.first c.args.batch.now.messages
    (sym c.in-Some-Some.is-0 ∙ c.first.ensures) in
    to_empty_all c.loop-number.number c.in-Some-Some.first c.args.batch.now.messages _ _
    (omega (arith, after, first, c.loop-number-test.false)) c.loop-number.invariant.printed
    ∙ ap (λ (n : ℕ). c.args.out.now.items ++ handed_text BlocksToEmpty n (messages_to_empty c.args.batch.now.messages)) first

pub returns-clause-empty : goal.returns-clause-empty
returns-clause-empty c =
    let after = after_is c.args.batch.now.first c.in-Some-Some.after c.args.batch.now.messages
    (sym c.in-Some-Some.is-1 ∙ c.after.ensures) in
    let first = first_is c.args.batch.now.first c.in-Some-Some.first c.args.batch.now.messages
    (sym c.in-Some-Some.is-0 ∙ c.first.ensures) in
    number_all c.loop-number.number c.in-Some-Some.first c.args.batch.now.messages _
    (omega (arith, after, first, c.loop-number-test.false)) c.loop-number.invariant.found
    ∙ ap (λ (n : ℕ). empty_number n c.args.batch.now.messages) first

-- after a failed allocation
if_err : {T E : Type 0} (result : Result T E) {P : Type 0} → P → OnErr result P
if_err (Ok _) p = tt
if_err (Err _) p = p

pub returns-in_err-push_block-clause-kept : goal.returns-in_err-push_block-clause-kept
returns-in_err-push_block-clause-kept c =
    if_err c.from_residual.result
    (kept_begins c.args.out.now.items c.push_block.new.out.items
    (begins_trans c.loop-number.invariant.kept
    (begins_kept c.loop-number.out.items c.push_block.new.out.items c.in_err-push_block.ensures.kept)))
