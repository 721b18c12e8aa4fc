use Rattle.std.proofs.lemmas.Result.{err_from_is_err_and}
use Rattle.mold_text.proofs.KeptLemmas.{kept_through}
use Rattle.mold_text.proofs.packet.push_messages.Goals as goal

pub returns-in_err-push_message-clause-kept : goal.returns-in_err-push_message-clause-kept
returns-in_err-push_message-clause-kept c =
    let p = err_from_is_err_and c.from_residual.result c.from_residual.ensures.1 in
    rw p.1 (kept_through c.args.out.now.items c.loop-message.out.items c.push_message.new.out.items
    c.loop-message.invariant.kept c.in_err-push_message.ensures.kept)
