use Rattle.std.proofs.Common.{ℕ, suc, ◌+◌, List, length, sym, ap, ◌∙◌, arith, add-one}
use Rattle.std.proofs.lemmas.Option.{slice_get_past}
use Rattle.mold_messages.specs.Offsets.{start_at}
use Rattle.mold_messages.specs.Parts.{Marked, end_of}
use Rattle.mold_messages.specs.declared.parts.TheConstants.{SPACING}
use Rattle.mold_messages.proofs.PlaceLemmas.{length-pieces, piece_is, place_next, place_within}
use Rattle.mold_messages.proofs.parts.PartList.get.Goals as goal

pub returns-then-i-len : goal.returns-then-i-len
returns-then-i-len c =
    let f = c.self.inside in
    sym (slice_get_past c.args.self.now.messages c.args.i
    (omega (
      arith,
      length-pieces SPACING 0 f.ends.items f.bytes.items,
      ap (λ (m : Marked). length m.messages) c.self.view_is,
    )))

pub overflow_add-start : goal.overflow_add-start
overflow_add-start c =
    let f = c.self.inside in
    let begins = c.offset_of-start.ensures ∙ ap (λ (t : List ℕ). start_at 0 t c.args.i) c.deref.ensures.value in
    omega (
      arith,
      begins,
      place_next SPACING 0 f.ends.items (end_of f.ends.items) c.args.i c.self.invariant.0 (omega arith),
      place_within SPACING 0 f.ends.items (end_of f.ends.items) (suc c.args.i) c.self.invariant.0,
      c.self.invariant.1,
    )

pub part-requires-clause-ordered : goal.part-requires-clause-ordered
part-requires-clause-ordered c =
    let f = c.self.inside in
    let begins = c.offset_of-start.ensures ∙ ap (λ (t : List ℕ). start_at 0 t c.args.i) c.deref.ensures.value in
    let stops = c.offset_of-end.ensures ∙ ap (λ (t : List ℕ). start_at 0 t (c.args.i + 1)) c.deref-2.ensures.value
    ∙ ap (start_at 0 f.ends.items) (add-one c.args.i) in
    omega (
      arith,
      begins,
      stops,
      place_next SPACING 0 f.ends.items (end_of f.ends.items) c.args.i c.self.invariant.0 (omega arith),
    )

pub part-requires-clause-within : goal.part-requires-clause-within
part-requires-clause-within c =
    let f = c.self.inside in
    let stops = c.offset_of-end.ensures ∙ ap (λ (t : List ℕ). start_at 0 t (c.args.i + 1)) c.deref-2.ensures.value in
    omega (
      arith,
      stops,
      place_within SPACING 0 f.ends.items (end_of f.ends.items) (c.args.i + 1) c.self.invariant.0,
      c.self.invariant.1,
      ap (λ (t : List ℕ). length t) c.deref-3.ensures.value,
    )

pub returns : goal.returns
returns c =
    let f = c.self.inside in
    let begins = c.offset_of-start.ensures ∙ ap (λ (t : List ℕ). start_at 0 t c.args.i) c.deref.ensures.value in
    let stops = c.offset_of-end.ensures ∙ ap (λ (t : List ℕ). start_at 0 t (c.args.i + 1)) c.deref-2.ensures.value in
    piece_is SPACING f.ends.items f.bytes.items c.deref-3.result.now c.part.result.now c.args.self.now.messages c.args.i
    (c.offset_of-start.result + SPACING) c.offset_of-end.result (omega arith) (omega (arith, begins)) stops
    c.deref-3.ensures.value c.part.ensures (ap (λ (m : Marked). m.messages) c.self.view_is)
