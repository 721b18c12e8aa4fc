use Rattle.std.proofs.lemmas.Result.{err_from_is_err_and}
use Rattle.mold_frame.specs.Lent.{lent_datagram}
use Rattle.mold_capture_commands.proofs.AddressLemmas.{kept_last}
use Rattle.mold_capture_commands.proofs.ShownLemmas.{origin_is}
use Rattle.mold_capture_commands.proofs.shown.push_origin.Goals as goal

pub returns-in_err-push_side-2-clause-kept : goal.returns-in_err-push_side-2-clause-kept
returns-in_err-push_side-2-clause-kept c =
    let p = err_from_is_err_and c.from_residual-in_err-push_side-2.result c.from_residual-in_err-push_side-2.ensures.1 in
    rw p.1 (kept_last c.args.text.now.items c.extend_from_slice.new.self.items c.push_time.new.text.items
    c.push_side.new.text.items c.push_side-2.new.text.items _ _ _ c.in_ok-extend_from_slice.ensures.items
    c.in_ok-push_time.ensures.text c.in_ok-push_side.ensures.text c.in_err-push_side-2.ensures.kept)

pub returns-clause-text : goal.returns-clause-text
returns-clause-text c =
    origin_is c.args.text.now.items c.extend_from_slice.new.self.items c.push_time.new.text.items
    c.push_side.new.text.items c.push_side-2.new.text.items c.push.new.self.items c.args.time
    (lent_datagram c.args.datagram.now) c.in_ok-extend_from_slice.ensures.items c.in_ok-push_time.ensures.text
    c.in_ok-push_side.ensures.text c.in_ok-push_side-2.ensures.text c.in_ok-push.ensures.items
