use Rattle.std.proofs.Common.{◌≡◌, suc, ◌-◌, sym, ap, ◌∙◌, arith}
use Rattle.mold_messages.specs.Offsets.{start_at}
use Rattle.mold_messages.proofs.PlaceLemmas.{place_first, place_behind}
use Rattle.mold_messages.proofs.offsets.offset_of.Goals as goal

pub returns-then-i-eq0 : goal.returns-then-i-eq0
returns-then-i-eq0 c = sym (ap (start_at 0 c.args.ends.now) c.if-i-eq0.true ∙ place_first 0 c.args.ends.now)

pub returns-else-i-eq0 : goal.returns-else-i-eq0
returns-else-i-eq0 c =
    let e : suc (c.args.i - 1) ≡ c.args.i = omega arith in
    sym (place_behind 0 c.args.ends.now (c.args.i - 1) 0 (omega arith)) ∙ ap (start_at 0 c.args.ends.now) e
