use Rattle.std.proofs.Common.{◌≡◌, [], ◌∷◌, sym, ap, ◌∙◌, arith}
use Rattle.mold_capture.specs.Runs.{carried}
use Rattle.mold_capture.proofs.KeepLemmas.{with_carried}
use Rattle.mold_capture.proofs.PairLemmas.{message_bounds}
use Rattle.mold_capture.proofs.RunLemmas.{found_pairs}
use Rattle.std.specs.FinMap as finite
use Rattle.mold_capture.proofs.keep.add_new.Goals as goal

pub returns-then-is_some-clause-ok : goal.returns-then-is_some-clause-ok
returns-then-is_some-clause-ok c =
    let pairs = carried c.args.runs.now c.args.kept.now in
    let found = found_pairs c.args.runs.now c.args.kept.now c.requires.are c.args.number c.run_at.result
    c.run_at.ensures.there c.run_at.ensures.covers (sym c.is_some.ensures ∙ c.if-is_some.true)
    in
    sym (with_carried pairs c.args.number (c.args.message.now ∷ [])
    (λ q m is.
    let lies = message_bounds c.args.number (c.args.message.now ∷ []) q m is in
    let here : q ≡ c.args.number = omega (arith, lies.0, lies.1) in
    (found.0, ap (finite.get pairs) here ∙ found.1)))
