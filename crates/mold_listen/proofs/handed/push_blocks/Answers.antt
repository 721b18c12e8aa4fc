use Rattle.std.proofs.Common.{arith, sym, ◌∙◌, ap, ◌++◌, ◌<◌, ◌-◌, length, ℕ, Result, Ok, Err}
use Rattle.std.specs.Prelude.{OnErr}
use Rattle.mold_input.specs.declared.message_format.MessageFormat.TheVariants.{Blocks}
use Rattle.mold_turns.proofs.PrintingLemmas.{begins_kept, kept_begins}
use Rattle.mold_turns.proofs.RunLemmas.{begins_trans, begins_whole}
use Rattle.mold_wire.specs.Block.{block}
use Rattle.mold_listen.specs.Text.{handed_text}
use Rattle.mold_listen.proofs.HandedLemmas.{first_is, after_is, none_within, handed_more, handed_all, handed_init}
use Rattle.mold_listen.proofs.handed.push_blocks.Goals as goal
use Rattle.mold_listen.proofs.handed.push_blocks.Goals.{in-Some+in_ok-push_block, in_default-get}

pub loop-number-init : goal.loop-number-init
loop-number-init c = record {
  printed = handed_init Blocks c.in-Some-Some.first c.args.batch.now.messages c.args.out.now.items;
  kept = begins_whole c.args.out.now.items;
}

pub loop-number-preserved : goal.loop-number-preserved
loop-number-preserved c =
    let after = after_is c.args.batch.now.first c.in-Some-Some.after c.args.batch.now.messages
    (sym c.in-Some-Some.is-1 ∙ c.after.ensures) in
    let first = first_is c.args.batch.now.first c.in-Some-Some.first c.args.batch.now.messages
    (sym c.in-Some-Some.is-0 ∙ c.first.ensures) in
    elim c.match-get.branch [
      | in-Some+in_ok-push_block w ↦
          rw w.out-is
          (record {
            printed = handed_more Blocks _ _ _ _ _ _ _ c.loop-number.auto.number w.in-Some.ensures
                c.loop-number.invariant.printed w.in_ok-push_block.ensures.text;
            kept = begins_trans c.loop-number.invariant.kept
                (record { rest = block w.in-Some.message.now; parts = w.in_ok-push_block.ensures.text });
          })
      | in_default-get w ↦
          absurd (none_within _ _ w.in_default-get.ensures
          (let e : c.loop-number.number - c.in-Some-Some.first < length c.args.batch.now.messages =
          omega (arith, after, first, c.loop-number-test.true) in e))
    ]

pub returns-clause-text : goal.returns-clause-text
returns-clause-text c =
    let after = after_is c.args.batch.now.first c.in-Some-Some.after c.args.batch.now.messages
    (sym c.in-Some-Some.is-1 ∙ c.after.ensures) in
    let first = first_is c.args.batch.now.first c.in-Some-Some.first c.args.batch.now.messages
    (sym c.in-Some-Some.is-0 ∙ c.first.ensures) in
    handed_all Blocks c.loop-number.number c.in-Some-Some.first c.args.batch.now.messages _ _
    (omega (arith, after, first, c.loop-number-test.false)) c.loop-number.invariant.printed
    ∙ ap (λ (n : ℕ). c.args.out.now.items ++ handed_text Blocks n c.args.batch.now.messages) first

-- after a failed allocation
if_err : {T E : Type 0} (result : Result T E) {P : Type 0} → P → OnErr result P
if_err (Ok _) p = tt
if_err (Err _) p = p

pub returns-in_err-push_block-clause-kept : goal.returns-in_err-push_block-clause-kept
returns-in_err-push_block-clause-kept c =
    if_err c.from_residual.result
    (kept_begins c.args.out.now.items c.push_block.new.out.items
    (begins_trans c.loop-number.invariant.kept
    (begins_kept c.loop-number.out.items c.push_block.new.out.items c.in_err-push_block.ensures.kept)))
