use Rattle.std.proofs.Common.{ℕ, List, length, ap, ◌∙◌, arith}
use Rattle.mold_messages.specs.Listed.{Listed}
use Rattle.mold_messages.specs.Offsets.{start_at}
use Rattle.mold_messages.proofs.PlaceLemmas.{rising_from, pieces_from}
use Rattle.mold_messages.proofs.list.MessageList.iter_from.Goals as goal

pub new-requires : goal.new-requires
new-requires c =
    let f = c.self.inside in
    rising_from f.ends.items f.bytes.items c.deref-2.result.now c.min-first.result c.offset_of-start.result
    (length c.deref-3.result.now) c.deref-2.ensures.value
    (c.offset_of-start.ensures ∙ ap (λ (t : List ℕ). start_at 0 t c.min-first.result) c.deref.ensures.value)
    (ap (λ (t : List ℕ). length t) c.deref-3.ensures.value) c.self.invariant

pub returns : goal.returns
returns c =
    let f = c.self.inside in
    c.new.ensures
    ∙ pieces_from f.ends.items f.bytes.items c.deref-2.result.now c.deref-3.result.now c.args.self.now.messages
    c.args.i c.min-first.result c.offset_of-start.result c.deref-2.ensures.value
    c.deref-3.ensures.value
    (c.offset_of-start.ensures ∙ ap (λ (t : List ℕ). start_at 0 t c.min-first.result) c.deref.ensures.value)
    (omega arith) (ap (λ (l : Listed). l.messages) c.self.view_is)
