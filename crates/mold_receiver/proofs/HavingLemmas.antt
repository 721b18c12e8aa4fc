-- A message that a view has is never missing again.
use Rattle.std.proofs.Common.{◌≡◌, ℕ, ◌+◌, ◌-◌, ◌<◌, ◌≤◌, ◌&&◌, true, ltb, length, List, []}
use Rattle.std.proofs.Common.{◌⊎◌, refl, sym, ap, subst, ◌∙◌, inl, inr, arith}
use Rattle.std.specs.Prelude.{Option, None, Some, is_some}
use Rattle.std.specs.FinMap as finite
use Rattle.std.specs.Option.{option_or}
use Rattle.std.proofs.lemmas.Bool.{true≢false, and_from, cases_lt, cases_order, cond-true, lt-ltb}
use Rattle.std.proofs.lemmas.Option.{slice_get-get_or}
use Rattle.mold_wire.specs.Packet.{messages_of, top_of}
use Rattle.mold_wire.specs.Truth.{message_at}
use Rattle.mold_wire.specs.declared.packet.Packet.{Packet}
use Rattle.mold_receiver.specs.Having.{HasAllOf, HasMessage}
use Rattle.mold_receiver.specs.Receive.{HasRoomFor, undropped, view_after}
use Rattle.mold_receiver.specs.Skip.{skipped, skipped_run}
use Rattle.mold_receiver.specs.Store.{Message, Store, available, cut}
use Rattle.mold_receiver.specs.View.{View, IsWellFormed}
use Rattle.mold_receiver.proofs.LawLemmas.{next_lacks}
use Rattle.mold_receiver.proofs.RoomLemmas.{undropped_all, undropped_none}
use Rattle.mold_receiver.proofs.RuleLemmas.{available_from, message_within, none_unless}
use Rattle.mold_receiver.proofs.StoreLemmas.{get-cut, none_some, run_ends}

some_of : (o : Option Message) → is_some o ≡ true → (o ≡ None) → ⊥
some_of o some none = true≢false (sym some ∙ ap is_some none)

-- A number of a store is below `next`, or in the part that is kept.
kept_or_passed : (s : Store) (next window number : ℕ) → finite.get s next ≡ None → number < next + window →
    is_some (finite.get s number) ≡ true
    → (number < next) ⊎ (is_some (finite.get (cut s next window) number) ≡ true)
kept_or_passed s next window number stops within some =
    elim (cases_order number next) [
      | inl same ↦ absurd (some_of (finite.get s number) some
          (subst (λ (k : ℕ). finite.get s k ≡ None) (sym same) stops))
      | inr (inl below) ↦ inl below
      | inr (inr above) ↦
          let inside = and_from (ltb next number) (ltb number (next + window)) (lt-ltb next number above)
          (lt-ltb number (next + window) within) in
          inr (ap is_some (get-cut s next window number
          ∙ cond-true (ltb next number && ltb number (next + window)) (finite.get s number) None inside) ∙ some)
    ]

some_first : (a b : Option Message) → is_some a ≡ true → is_some (option_or a b) ≡ true
some_first None b some = absurd (true≢false (sym some))
some_first (Some m) b some = some

some_second : (a b : Option Message) → is_some b ≡ true → is_some (option_or a b) ≡ true
some_second None b some = some
some_second (Some m) b some = let e : is_some (Some m) ≡ true = cc in e

-- The number after those that were given up and delivered is not stored.
skip_stops : (v : View) (to : ℕ) → IsWellFormed v → finite.get v.store (to + length (skipped_run v to)) ≡ None
skip_stops v to well =
    run_ends (finite.get v.store) to (v.known - to)
    (none_unless (finite.get v.store (to + (v.known - to))) (λ m is.
    let lies = well.stored (to + (v.known - to)) m is in omega (arith, lies.2)))

within_window : (v : View) (number : ℕ) → IsWellFormed v → is_some (finite.get v.store number) ≡ true →
    (v.next < number) × (number < v.next + v.window)
within_window v number well some =
    elim (finite.get v.store number) as (λ o. finite.get v.store number ≡ o →
    (v.next < number) × (number < v.next + v.window)) [
      | None ↦ λ e. absurd (some_of (finite.get v.store number) some e)
      | Some m ↦ λ e. let lies = well.stored number m e in (lies.0, lies.1)
    ] refl

pub has_skipped : (v : View) (to : ℕ) → IsWellFormed v → v.next ≤ to → to ≤ v.known → HasAllOf v (skipped v to)
has_skipped v to well ahead within number has =
    let next = to + length (skipped_run v to) in
    elim has [
      | inl below ↦ inl (omega (arith, below, ahead))
      | inr some ↦
          kept_or_passed v.store next v.window number (skip_stops v to well)
          (omega (arith, ahead, (within_window v number well some).1)) some
    ]

-- The new `next` is not available if the packet is dropped either.
undropped_lacks : (v : View) (p : Packet) → IsWellFormed v →
    finite.get (available v.store v.next p.sequence (undropped v p)) (view_after v p).next ≡ None
undropped_lacks v p well =
    let next = (view_after v p).next in
    let ms = messages_of p.body in
    let from : v.next ≤ next = omega arith in
    let lacks = sym (available_from v.store v.next p.sequence ms next from) ∙ next_lacks v p well in
    available_from v.store v.next p.sequence (undropped v p) next from
    ∙ ap (λ (o : Option Message). option_or o (finite.get v.store next))
    (undropped_none v p next (first_none (message_at p.sequence ms next) (finite.get v.store next) lacks))
    ∙ second_none (message_at p.sequence ms next) (finite.get v.store next) lacks
  where
    first_none : (a b : Option Message) → option_or a b ≡ None → a ≡ None
    first_none None b none = refl
    first_none (Some m) b none = none

    second_none : (a b : Option Message) → option_or a b ≡ None → b ≡ None
    second_none None b none = none
    second_none (Some m) b none = absurd (none_some (sym none))

-- The packet's and the stored messages are below `next` or stored after the packet.
available_has : (v : View) (p : Packet) (number : ℕ) → IsWellFormed v → number < (view_after v p).next + v.window
    → is_some (finite.get (available v.store v.next p.sequence (undropped v p)) number) ≡ true
    → HasMessage (view_after v p) number
available_has v p number well within some =
    kept_or_passed (available v.store v.next p.sequence (undropped v p)) (view_after v p).next v.window number
    (undropped_lacks v p well) within some

pub has_received : (v : View) (p : Packet) → IsWellFormed v → HasAllOf v (view_after v p)
has_received v p well number has =
    let ms = undropped v p in
    elim has [
      | inl below ↦ inl (omega (arith, below))
      | inr some ↦
          let lies = within_window v number well some in
          available_has v p number well (omega (arith, lies.1))
          (ap is_some (available_from v.store v.next p.sequence ms number (omega (arith, lies.0)))
          ∙ some_second (message_at p.sequence ms number) (finite.get v.store number) some)
    ]

pub has_come : (v : View) (p : Packet) (number : ℕ) → IsWellFormed v → p.sequence ≤ number → number < top_of p →
    number < (view_after v p).next + v.window → HasRoomFor v p → HasMessage (view_after v p) number
has_come v p number well low high within room =
    let ms = messages_of p.body in
    let all = undropped_all v p room in
    elim (cases_lt number v.next) [
      | inl below ↦ inl (omega (arith, below))
      | inr from ↦
          let there = message_within p.sequence ms number low
          ∙ slice_get-get_or ms (number - p.sequence) [] (omega (arith, low, high)) in
          available_has v p number well within
          (ap (λ (t : List Message). is_some (finite.get (available v.store v.next p.sequence t) number)) all
          ∙ ap is_some (available_from v.store v.next p.sequence ms number from)
          ∙ some_first (message_at p.sequence ms number) (finite.get v.store number) (ap is_some there))
    ]
