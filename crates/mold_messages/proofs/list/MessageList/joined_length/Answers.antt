use Rattle.std.proofs.Common.{◌≡◌, ℕ, ◌-◌, List, length, take, drop, ap, subst, ◌∙◌, arith}
use Rattle.mold_messages.specs.Listed.{Listed, byte_count}
use Rattle.mold_messages.specs.Offsets.{start_at}
use Rattle.mold_messages.proofs.PlaceLemmas.{length-pieces, joined_between, place_ordered}
use Rattle.mold_messages.proofs.list.MessageList.joined_length.Goals as goal

pub offset_of-requires : goal.offset_of-requires
offset_of-requires c =
    let f = c.self.inside in
    omega (arith, length-pieces 0 0 f.ends.items f.bytes.items, ap (λ (l : Listed). length l.messages) c.self.view_is)

pub offset_of-requires-2 : goal.offset_of-requires-2
offset_of-requires-2 c =
    let f = c.self.inside in
    omega (arith, length-pieces 0 0 f.ends.items f.bytes.items, ap (λ (l : Listed). length l.messages) c.self.view_is)

pub overflow_sub-result : goal.overflow_sub-result
overflow_sub-result c =
    let f = c.self.inside in
    let stops = c.offset_of.ensures ∙ ap (λ (t : List ℕ). start_at 0 t c.args.to) c.deref.ensures.value in
    let begins = c.offset_of-2.ensures ∙ ap (λ (t : List ℕ). start_at 0 t c.args.from) c.deref-2.ensures.value in
    omega (
      arith,
      begins,
      stops,
      place_ordered 0 0 f.ends.items (length f.bytes.items) c.args.from c.args.to c.self.invariant (omega arith)
          (omega (
            arith,
            length-pieces 0 0 f.ends.items f.bytes.items,
            ap (λ (l : Listed). length l.messages)
                c.self.view_is,
          )),
    )

pub returns : goal.returns
returns c =
    let f = c.self.inside in
    let stops = c.offset_of.ensures ∙ ap (λ (t : List ℕ). start_at 0 t c.args.to) c.deref.ensures.value in
    let begins = c.offset_of-2.ensures ∙ ap (λ (t : List ℕ). start_at 0 t c.args.from) c.deref-2.ensures.value in
    let sum = joined_between 0 f.ends.items f.bytes.items c.args.from c.args.to c.self.invariant (omega arith)
    (omega (arith, length-pieces 0 0 f.ends.items f.bytes.items, ap (λ (l : Listed). length l.messages) c.self.view_is))
    in
    subst (λ (l : Listed). c.offset_of.result - c.offset_of-2.result ≡ byte_count
    (take (c.args.to - c.args.from) (drop c.args.from l.messages))) c.self.view_is
    (omega (arith, begins, stops, sum))
