use Rattle.std.proofs.lemmas.Result.{err_from_is_err_and}
use Rattle.mold_sim.proofs.ReceiverLemmas.{none_shown, one_shown, all_shown, still_kept}
use Rattle.mold_sim.proofs.report.push_receivers.Goals as goal

pub receivers-init : goal.receivers-init
receivers-init c = none_shown c.args.out.now.items c.args.world.now.subscribers

pub returns-in_err-push_receiver-clause-kept : goal.returns-in_err-push_receiver-clause-kept
returns-in_err-push_receiver-clause-kept c =
    let error = err_from_is_err_and c.from_residual.result c.from_residual.ensures.1 in
    rw error.1
    (still_kept c.args.out.now.items c.receivers.out.items c.push_receiver.new.out.items c.args.world.now.subscribers
    c.receivers.r c.receivers.invariant c.in_err-push_receiver.ensures.kept)

pub receivers-preserved : goal.receivers-preserved
receivers-preserved c =
    one_shown c.args.out.now.items c.receivers.out.items _ c.args.world.now.subscribers c.receivers.r
    (rw c.receivers-r-end.ensures at c.receivers-test.true) c.receivers.invariant c.in_ok-push_receiver.ensures.text

pub returns-clause-text : goal.returns-clause-text
returns-clause-text c =
    all_shown c.args.out.now.items c.receivers.out.items c.args.world.now.subscribers c.receivers.r
    (rw c.receivers-r-end.ensures at c.receivers-test.false) c.receivers.invariant
