use Rattle.std.proofs.Common.{◌≡◌, ◌⊎◌, inl, inr, sym, ap, ◌∙◌, ℕ}
use Rattle.mold_wire.specs.Packet.{messages_of}
use Rattle.mold_wire.specs.declared.packet.Body.{Body}
use Rattle.mold_wire.specs.declared.packet.Body.TheVariants.{Heartbeat, End}
use Rattle.mold_capture.specs.Seen.{Pairs, pairs_with}
use Rattle.mold_capture.proofs.KeepLemmas.{with_none}
use Rattle.mold_capture.proofs.checker.join_messages.Goals as goal

-- A packet without messages changes nothing.
nothing : (pairs : Pairs) (n : ℕ) (body : Body) → (body ≡ Heartbeat) ⊎ (body ≡ End) →
    pairs ≡ pairs_with pairs n (messages_of body)
nothing pairs n body is =
    elim is [
      | inl beat ↦ sym (ap (λ (b : Body). pairs_with pairs n (messages_of b)) beat ∙ with_none pairs n)
      | inr end ↦ sym (ap (λ (b : Body). pairs_with pairs n (messages_of b)) end ∙ with_none pairs n)
    ]

pub returns-in-Heartbeat-clause-ok : goal.returns-in-Heartbeat-clause-ok
returns-in-Heartbeat-clause-ok c =
    nothing c.args.carried.now c.args.packet.now.sequence c.args.packet.now.body c.in-Heartbeat.is

pub returns-in-Heartbeat-2-clause-ok : goal.returns-in-Heartbeat-2-clause-ok
returns-in-Heartbeat-2-clause-ok c =
    nothing c.args.carried.now c.args.packet.now.sequence c.args.packet.now.body c.in-Heartbeat.is
