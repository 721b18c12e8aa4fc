use Rattle.std.proofs.Common.{◌≡◌, ℕ, ◌+◌, ◌≤◌, ◌⊎◌, List, [], length, subst, sym, ◌∙◌, arith, inl, inr}
use Rattle.mold_wire.specs.Packet.{messages_of}
use Rattle.mold_receiver.specs.declared.taken.Taken.{Taken}
use Rattle.mold_receiver.specs.Receive.{handed_on, view_after, taken_of}
use Rattle.mold_receiver.specs.Store.{Message}
use Rattle.mold_receiver.specs.View.{View, view_over}
use Rattle.mold_receiver.proofs.NothingLemmas.{nothing_there, nothing_beyond, nothing_view, nothing_taken, none_handed}
use Rattle.mold_receiver.proofs.receiver.Receiver.note.Goals as goal

-- The same in terms of the fields, since the packet's numbers give its top.
at_fields : (n top next : ℕ) (ms : List Message) → n + length ms ≡ top → (top ≤ next) ⊎ (ms ≡ []) →
    (n + length ms ≤ next) ⊎ (ms ≡ [])
at_fields n top next ms tops (inl below) = inl (omega (arith, tops, below))
at_fields n top next ms tops (inr none) = inr none

pub returns-clause-handed : goal.returns-clause-handed
returns-clause-handed c =
    let a = c.self.inside in
    let p = c.args.packet.now in
    let v = view_over a.room a.session a.next a.known a.ended a.slots in
    let nothing = at_fields p.sequence c.args.top a.next (messages_of p.body) c.requires.top
    (subst (λ (v : View). (c.args.top ≤ v.next) ⊎ (messages_of p.body ≡ [])) (sym c.self.view_is) c.requires.nothing) in
    subst (λ (w : View). handed_on w p.sequence (messages_of p.body) ≡ []) c.self.view_is
    (none_handed v p.sequence (messages_of p.body) c.self.invariant nothing)

pub returns-clause-taken : goal.returns-clause-taken
returns-clause-taken c =
    let a = c.self.inside in
    let p = c.args.packet.now in
    let v = view_over a.room a.session a.next a.known a.ended a.slots in
    let nothing = at_fields p.sequence c.args.top a.next (messages_of p.body) c.requires.top
    (subst (λ (v : View). (c.args.top ≤ v.next) ⊎ (messages_of p.body ≡ [])) (sym c.self.view_is) c.requires.nothing) in (
      subst (λ (w : View).
          view_over a.room a.session a.next c.max-self-inside.result c.known_end-self-inside.result a.slots ≡ view_after w p)
          c.self.view_is
          ((λ i. view_over a.room a.session a.next (c.max-self-inside.ensures i) (c.known_end-self-inside.ensures i) a.slots)
          ∙ sym (nothing_view v p c.args.top c.self.invariant c.requires.top
          (nothing_there a.next p.sequence (messages_of p.body) nothing))),
      subst (λ (w : View). ◌≡◌ {A = Taken} (record { handed = 0; kept = 0; beyond = 0 })
          (taken_of w p (view_after w p))) c.self.view_is
          (sym (nothing_taken v p c.args.top c.self.invariant c.requires.top
          (nothing_there a.next p.sequence (messages_of p.body) nothing)
          (nothing_beyond a.next p.sequence v.store (messages_of p.body) nothing))),
    )
