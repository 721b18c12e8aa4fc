use Rattle.std.proofs.Common.{length}
use Rattle.mold_session.specs.File.{head_2}
use Rattle.mold_session.proofs.PuttingLemmas.{fills_fits, fills_more}
use Rattle.mold_session.proofs.saving.put_file.Goals as goal

pub length_of-requires : goal.length_of-requires
length_of-requires c =
    let messages = c.args.list.now.messages in
    fills_fits c.args.bytes.now c.loop-message.bytes (head_2 c.args.session.0 c.args.closed (length messages)) messages
    c.loop-message.message-iterator c.in-Some.message.now c.next.new.self c.loop-message.used c.requires.messages
    c.in-Some.ensures.steps c.loop-message.invariant

pub loop-message-preserved : goal.loop-message-preserved
loop-message-preserved c =
    let messages = c.args.list.now.messages in
    fills_more c.args.bytes.now c.loop-message.bytes c.put_after-in-loop-message.new.bytes
    c.put_after-in-loop-message-2.new.bytes (head_2 c.args.session.0 c.args.closed (length messages))
    c.length_of.result messages c.loop-message.message-iterator c.in-Some.message.now c.next.new.self
    c.loop-message.used c.in-Some.ensures.steps c.loop-message.invariant c.length_of.ensures
    c.put_after-in-loop-message.ensures c.put_after-in-loop-message-2.ensures
