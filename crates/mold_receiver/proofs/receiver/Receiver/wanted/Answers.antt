use Rattle.std.proofs.Common.{◌≡◌, ℕ, ◌-◌, min, eqb, sym, ap, ◌∙◌, subst, Option, None, Some}
use Rattle.std.proofs.lemmas.Bool.{cond-false, ne_eqb}
use Rattle.mold_wire.specs.declared.request.Request.{Request}
use Rattle.mold_receiver.specs.Slots.{IsNextHeld}
use Rattle.mold_receiver.specs.View.{View, view_over}
use Rattle.mold_receiver.specs.Wanted.{wanted, gap_end}
use Rattle.mold_receiver.proofs.WantedLemmas.{gap_found}
use Rattle.mold_receiver.proofs.receiver.Receiver.wanted.Goals as goal

pub returns-clause-wanted : goal.returns-clause-wanted
returns-clause-wanted c =
    let a = c.self.inside in
    let v = view_over a.room a.session a.next a.known a.ended a.slots in
    let ask : ℕ → Request = λ n. record { session = a.session; sequence = a.next; count = n } in
    let first : IsNextHeld a.slots 0 (min (a.known - a.next) 65534) c.next_held-count.result =
    subst (λ (n : ℕ). IsNextHeld a.slots 0 n c.next_held-count.result) c.min-most.ensures c.next_held-count.ensures
    in
    subst (λ (w : View). ◌≡◌ {A = Option Request} (Some (ask c.next_held-count.result)) (wanted w)) c.self.view_is
    (ap (λ (n : ℕ). Some (ask n)) (sym (gap_found a.next a.known 65534 a.slots c.next_held-count.result first))
    ∙ sym (cond-false (eqb a.next a.known) None (Some (ask (min 65534 (gap_end v - a.next))))
    (ne_eqb a.next a.known c.if-self.false)))
