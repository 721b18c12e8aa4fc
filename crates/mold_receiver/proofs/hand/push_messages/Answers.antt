use Rattle.std.proofs.Common.{◌≡◌, ◌-◌, arith, max, List, ◌∷◌, drop, length, ap, subst}
use Rattle.mold_receiver.specs.Store.{Message}
use Rattle.mold_receiver.proofs.BatchLemmas.{IsHanding, handing_from, handing_follows}
use Rattle.mold_receiver.proofs.hand.push_messages.Goals as goal

pub push_from-requires-clause-follows : goal.push_from-requires-clause-follows
push_from-requires-clause-follows c = handing_follows _ _ _ _ _ _ c.loop-message.invariant.handing c.requires.follows

pub loop-message-preserved : goal.loop-message-preserved
loop-message-preserved c =
    let split : c.loop-message.message-iterator ≡ c.in-Some.message.now ∷ c.next.new.self = c.in-Some.ensures.steps in
    record {
      handing = handing_from c.args.batch.now c.loop-message.batch c.push_from.new.batch c.args.next
          c.loop-message.number c.in-Some.message.now c.next.new.self
          (drop (c.args.next - c.args.first) c.args.blocks.now)
          (subst (λ (t : List Message). IsHanding c.args.batch.now c.loop-message.batch c.args.next
          (max c.loop-message.number c.args.next) (drop (c.args.next - c.loop-message.number) t)
          (drop (c.args.next - c.args.first) c.args.blocks.now))
          split c.loop-message.invariant.handing)
          (rw c.in_ok-push_from.was at c.push_from.ensures.handed);
      counted = omega (arith, c.loop-message.invariant.counted, ap (λ (t : List Message). length t) split);
    }
