use Rattle.std.proofs.Common.{◌≡◌, ◌+◌, ◌-◌, ◌++◌, ◌∷◌, [], List, ℕ, length, take, drop, sym, ap, subst, ◌∙◌, arith}
use Rattle.std.proofs.Common.{length-drop}
use Rattle.mold_messages.specs.Parts.{Marked}
use Rattle.mold_wire.specs.Block.{blocks}
use Rattle.mold_receiver.specs.Store.{Message}
use Rattle.mold_receiver.proofs.MarkLemmas.{IsMarking, is_there, marking_one}
use Rattle.mold_receiver.proofs.batch.mark_blocks.Goals as goal

pub loop-message-preserved : goal.loop-message-preserved
loop-message-preserved c =
    let i = c.loop-message.invariant in
    let message = c.in-Some.message.now in
    let bytes = c.loop-message.list.bytes in
    let end = c.loop-message.list.end in
    let split : c.loop-message.message-iterator ≡ message ∷ c.next.new.self = c.in-Some.ensures.steps in
    let there = is_there bytes c.loop-message.at message c.next.new.self (i.there ∙ ap blocks split) in
    let at : c.loop-message.at + 2 + length message ≡ c.loop-message.at + (2 + length message) = omega arith in
    let long : c.loop-message.at + (2 + length message) - (end + 2) ≡ length message = omega (arith, i.behind) in
    let marked = rw c.in_ok-mark.was at c.mark.ensures.added in
    record {
      bytes = ap (λ (m : Marked). m.bytes) marked ∙ i.bytes;
      there = ap (λ (m : Marked). drop (c.loop-message.at + (2 + length message)) m.bytes) marked
          ∙ ap (λ (n : ℕ). drop n bytes) (sym at)
          ∙ there.behind;
      behind = ap (λ (m : Marked). m.end) marked;
      within = omega (arith, there.within, ap (λ (m : Marked). length m.bytes) marked);
      marking = marking_one c.args.list.now.messages c.loop-message.list.messages c.mark.new.self.messages message
          c.next.new.self c.args.blocks.now
          (subst (λ (t : List Message). IsMarking c.args.list.now.messages c.loop-message.list.messages t
          c.args.blocks.now) split i.marking)
          (ap (λ (m : Marked). m.messages) marked
          ∙ ap (λ (t : Message). c.loop-message.list.messages ++ t ∷ [])
          (ap (λ (n : ℕ). take n (drop (end + 2) bytes)) long
          ∙ ap (λ (n : ℕ). take (length message) (drop (n + 2) bytes)) i.behind
          ∙ there.lies));
    }

pub returns-clause-whole : goal.returns-clause-whole
returns-clause-whole c =
    let i = c.loop-message.invariant in
    let bytes = c.loop-message.list.bytes in
    let none : drop c.loop-message.at bytes ≡ [] = i.there ∙ ap blocks c.in-None.ensures.steps.0 in
    omega (arith, i.behind, i.within, length-drop c.loop-message.at bytes, ap (λ (t : List ℕ). length t) none)
