use Rattle.std.proofs.Common.{ℕ, List, length, sym, ap, ◌∙◌, arith, rules}
use Rattle.std.proofs.lemmas.List.{take_all}
use Rattle.mold_messages.specs.Listed.{Listed}
use Rattle.mold_messages.specs.Offsets.{start_at}
use Rattle.mold_messages.proofs.PlaceLemmas.{length-pieces, cut}
use Rattle.mold_messages.proofs.list.MessageList.truncate.Goals as goal

pub invariant_of-self : goal.invariant_of-self
invariant_of-self c =
    let f = c.self.inside in
    (cut f.ends.items f.bytes.items c.args.keep c.offset_of-end.result c.truncate.new.self.items
    c.truncate-then-keep-len.new.self.items c.self.invariant
    (c.offset_of-end.ensures ∙ ap (λ (t : List ℕ). start_at 0 t c.args.keep) c.deref.ensures.value)
    c.truncate.ensures.items c.truncate-then-keep-len.ensures.items).rising

pub returns-then-keep-len : goal.returns-then-keep-len
returns-then-keep-len c =
    let f = c.self.inside in
    let fewer = (cut f.ends.items f.bytes.items c.args.keep c.offset_of-end.result c.truncate.new.self.items
    c.truncate-then-keep-len.new.self.items c.self.invariant
    (c.offset_of-end.ensures ∙ ap (λ (t : List ℕ). start_at 0 t c.args.keep) c.deref.ensures.value)
    c.truncate.ensures.items c.truncate-then-keep-len.ensures.items).messages
    in
    rw (← c.self.view_is) (search (rules, fewer))

pub returns-else-keep-len : goal.returns-else-keep-len
returns-else-keep-len c =
    let f = c.self.inside in
    ap (λ (t : List (List ℕ)). record c.args.self.now { messages = t })
    (sym (take_all c.args.keep c.args.self.now.messages
    (omega (
      arith,
      length-pieces 0 0 f.ends.items f.bytes.items,
      ap (λ (l : Listed). length l.messages) c.self.view_is,
    ))))
