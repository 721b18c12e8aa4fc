use Rattle.std.proofs.Common.{◌≡◌, ◌+◌, ◌++◌, ◌∷◌, List, ℕ, length, append_assoc, add-one, sym, ap, ◌∙◌, true, false, arith}
use Rattle.mold_wire.specs.Block.{block, blocks}
use Rattle.mold_receiver.specs.Keeping.{fresh_messages, is_fresh}
use Rattle.mold_receiver.specs.Shelf.{slots_on}
use Rattle.mold_receiver.specs.Store.{Message}
use Rattle.mold_receiver.proofs.KeepLemmas.{messages_no, messages_yes}
use Rattle.mold_receiver.proofs.MarkLemmas.{is_cut}
use Rattle.mold_receiver.proofs.keep.fresh_blocks.Goals.{then-is_free+in_ok-extend_from_slice, else-is_free}
use Rattle.mold_receiver.proofs.keep.fresh_blocks.Goals as goal

pub split_at-requires : goal.split_at-requires
split_at-requires c =
    let i = c.loop-message.invariant in
    (is_cut c.loop-message.rest.now c.in-Some.message.now c.next.new.self
    (i.left ∙ ap blocks c.in-Some.ensures.steps)).within

pub loop-message-preserved : goal.loop-message-preserved
loop-message-preserved c =
    let i = c.loop-message.invariant in
    let slots = slots_on c.args.shelf.now in
    let slot = c.loop-message.slot in
    let message = c.in-Some.message.now in
    let rest = c.next.new.self in
    let split : c.loop-message.message-iterator ≡ message ∷ rest = c.in-Some.ensures.steps in
    let cut = is_cut c.loop-message.rest.now message rest (i.left ∙ ap blocks split) in
    let left = c.split_at.ensures.back ∙ cut.behind in
    let counted : slot + 1 + length rest ≡ c.args.first + length c.args.blocks.now =
    omega (arith, i.counted, ap (λ (t : List Message). length t) split) in
    elim c.if-is_free.branch [
      | then-is_free+in_ok-extend_from_slice w ↦
          let free : is_fresh slots slot ≡ true = sym w.if-is_free.ensures in
          let before = c.loop-message.bytes.items in
          let later = blocks (fresh_messages slots (slot + 1) rest) in
          let one : blocks (fresh_messages slots slot c.loop-message.message-iterator) ≡ block message ++ later =
          ap blocks
          (ap (fresh_messages slots slot) split
          ∙ messages_yes slots slot message rest free
          ∙ ap (λ (n : ℕ). message ∷ fresh_messages slots n rest) (sym (add-one slot))) in
          rw w.bytes-is (record {
            taken = ap (λ (t : List ℕ). t ++ later)
                (w.in_ok-extend_from_slice.ensures.items
                ∙ ap (λ (t : List ℕ). before ++ t) (c.split_at.ensures.front ∙ cut.first))
                ∙ append_assoc before (block message) later
                ∙ ap (λ (t : List ℕ). before ++ t) (sym one)
                ∙ i.taken;
            left = left;
            counted = counted;
          })
      | else-is_free w ↦
          let taken : is_fresh slots slot ≡ false = sym w.if-is_free.ensures in
          let before = c.loop-message.bytes.items in
          rw w.bytes-is (record {
            taken = ap (λ (n : ℕ). before ++ blocks (fresh_messages slots n rest)) (add-one slot)
                ∙ ap (λ (t : List Message). before ++ blocks t) (sym (messages_no slots slot message rest taken))
                ∙ ap (λ (t : List Message). before ++ blocks (fresh_messages slots slot t)) (sym split)
                ∙ i.taken;
            left = left;
            counted = counted;
          })
    ]
