use Rattle.std.proofs.Common.{◌+◌, ◌-◌, ℕ, List, length, take, drop, sym, ap, ◌∙◌, arith}
use Rattle.std.proofs.Common.{Some, slice_get, add-one}
use Rattle.std.proofs.lemmas.Option.{slice_get_past}
use Rattle.mold_capture.specs.Ends.{end_of}
use Rattle.mold_capture.proofs.KeptLemmas.{length-pieces, piece_at, end_within}
use Rattle.mold_capture.proofs.kept.Kept.get.Goals as goal

pub returns-then-i-len : goal.returns-then-i-len
returns-then-i-len c =
    let f = c.self.inside in
    sym (slice_get_past c.args.self.now c.args.i
    (omega (arith, length-pieces f.ends f.bytes.items, ap (λ (t : List (List ℕ)). length t) c.self.view_is)))

pub part-requires-clause-ordered : goal.part-requires-clause-ordered
part-requires-clause-ordered c =
    let f = c.self.inside in
    omega (
      arith,
      c.end_of-start.ensures,
      c.end_of-end.ensures ∙ ap (end_of f.ends) (add-one c.args.i),
      c.self.invariant.ordered c.args.i (omega arith),
    )

pub part-requires-clause-within : goal.part-requires-clause-within
part-requires-clause-within c =
    let f = c.self.inside in
    omega (
      arith,
      c.end_of-end.ensures,
      end_within f.ends f.bytes.items c.self.invariant (c.args.i + 1) (omega arith),
      c.deref.ensures.len,
    )

pub returns : goal.returns
returns c =
    let f = c.self.inside in
    let start = c.end_of-start.ensures in
    let end = c.end_of-end.ensures ∙ ap (end_of f.ends) (add-one c.args.i) in
    ap Some (c.part.ensures ∙ (λ j. take (end j - start j) (drop (start j) (c.deref.ensures.value j))))
    ∙ sym (piece_at f.ends f.bytes.items c.args.i (omega arith))
    ∙ ap (λ (t : List (List ℕ)). slice_get t c.args.i) c.self.view_is
