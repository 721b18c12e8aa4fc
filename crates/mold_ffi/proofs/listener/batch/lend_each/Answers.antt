use Rattle.std.proofs.Common.{◌<◌, ◌∙◌, length, ap, arith, Bor, List, ℕ}
use Rattle.mold_ffi.proofs.LoanLemmas.{told_more, behind_less, left_less}
use Rattle.mold_ffi.proofs.listener.batch.lend_each.Goals as goal

pub loop-bytes-preserved : goal.loop-bytes-preserved
loop-bytes-preserved c =
    let i = c.loop-bytes.invariant in
    let n = c.loop-bytes.filled in
    let left = i.left ∙ c.in-Some.ensures.steps in
    let room : n < length c.loop-bytes.messages = omega (arith, i.room, c.loop-bytes.auto.messages, c.if-filled-messages.false) in
    record {
      left = left_less c.args.batch.now.messages c.next.new.self c.in-Some.bytes.now n left;
      room = omega (arith, room, c.loop-bytes.auto.messages);
      counted = omega (arith, i.counted, ap length c.in-Some.ensures.steps);
      told = told_more (λ (bytes : Bor (List ℕ)). bytes.now) c.loop-bytes.messages c.args.batch.now.messages c.next.new.self c.in-Some.bytes n i.told left room;
      behind = behind_less c.loop-bytes.messages c.args.messages.now c.in-Some.bytes n i.behind;
    }
