use Rattle.std.proofs.Common.{ℕ, ◌+◌, List, length, sym, ap, ◌∙◌, arith}
use Rattle.std.proofs.lemmas.Option.{slice_get_past}
use Rattle.mold_messages.specs.Listed.{Listed}
use Rattle.mold_messages.specs.Offsets.{start_at}
use Rattle.mold_messages.proofs.PlaceLemmas.{length-pieces, piece_is, place_ordered, place_within}
use Rattle.mold_messages.proofs.list.MessageList.get.Goals as goal

pub returns-then-i-len : goal.returns-then-i-len
returns-then-i-len c =
    let f = c.self.inside in
    sym (slice_get_past c.args.self.now.messages c.args.i
    (omega (
      arith,
      length-pieces 0 0 f.ends.items f.bytes.items,
      ap (λ (l : Listed). length l.messages) c.self.view_is,
    )))

pub part-requires-clause-ordered : goal.part-requires-clause-ordered
part-requires-clause-ordered c =
    let f = c.self.inside in
    let begins = c.offset_of-start.ensures ∙ ap (λ (t : List ℕ). start_at 0 t c.args.i) c.deref.ensures.value in
    let stops = c.offset_of-end.ensures ∙ ap (λ (t : List ℕ). start_at 0 t (c.args.i + 1)) c.deref-2.ensures.value in
    omega (
      arith,
      begins,
      stops,
      place_ordered 0 0 f.ends.items (length f.bytes.items) c.args.i (c.args.i + 1)
          c.self.invariant (omega arith) (omega arith),
    )

pub part-requires-clause-within : goal.part-requires-clause-within
part-requires-clause-within c =
    let f = c.self.inside in
    let stops = c.offset_of-end.ensures ∙ ap (λ (t : List ℕ). start_at 0 t (c.args.i + 1)) c.deref-2.ensures.value in
    omega (arith, stops, place_within 0 0 f.ends.items (length f.bytes.items) (c.args.i + 1) c.self.invariant)

pub returns : goal.returns
returns c =
    let f = c.self.inside in
    let begins = c.offset_of-start.ensures ∙ ap (λ (t : List ℕ). start_at 0 t c.args.i) c.deref.ensures.value in
    let stops = c.offset_of-end.ensures ∙ ap (λ (t : List ℕ). start_at 0 t (c.args.i + 1)) c.deref-2.ensures.value in
    piece_is 0 f.ends.items f.bytes.items c.deref-3.result.now c.part.result.now c.args.self.now.messages c.args.i
    c.offset_of-start.result c.offset_of-end.result
    (omega arith) (omega (arith, begins)) stops c.deref-3.ensures.value c.part.ensures
    (ap (λ (l : Listed). l.messages) c.self.view_is)
