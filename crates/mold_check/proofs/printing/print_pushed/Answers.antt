use Rattle.std.proofs.Common.{◌≡◌, ◌++◌, length, subst, take}
use Rattle.std.specs.Prelude.{OnErr, OnOk}
use Rattle.mold_check.proofs.PrintedLemmas.{printed_all, printed_former, printed_part}
use Rattle.mold_check.proofs.printing.print_pushed.Goals as goal

pub returns-in-Ok-send : goal.returns-in-Ok-send
returns-in-Ok-send g c = λ before line is line_is kept.
    printed_all _ _ _ _ before line c.args.text.now.items _ _
    (subst (λ r. OnOk r (c.args.text.now.items ≡ before ++ line)) c.in-Ok.is line_is)
    c.in-Ok-send.ensures.whole c.in-Ok-send.ensures.empty c.in-Ok-send.ensures.failures

pub returns-in-Err : goal.returns-in-Err
returns-in-Err g c = λ before line is line_is kept.
    printed_part _ _ _ _ before line c.args.text.now.items _ _ _
    (subst (λ r. OnOk r (c.args.text.now.items ≡ before ++ line)) c.in-Ok.is line_is)
    c.in-Err.ensures.front c.in-Err.ensures.fault c.in-Err.ensures.failures

pub returns-in_default : goal.returns-in_default
returns-in_default g c = λ before line is line_is kept.
    printed_former _ _ _ _ before line c.args.text.now.items _ _ c.args.len _ is
    (subst (λ r. OnErr r (take (length before) c.args.text.now.items ≡ before)) c.in_default.is kept)
    c.end_with.ensures.ends
