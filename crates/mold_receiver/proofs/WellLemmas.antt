-- A view stays well formed when it accepts a packet.
use Rattle.std.proofs.Common.{◌≡◌, ℕ, ◌+◌, ◌-◌, ◌<◌, ◌≤◌, ◌^◌, max, ltb, length, refl, sym, ap, subst, inl, inr}
use Rattle.std.proofs.Common.{List, [], arith}
use Rattle.std.specs.Prelude.{None, Some, Ok}
use Rattle.std.specs.FinMap as finite
use Rattle.std.proofs.lemmas.Bool.{cases_Bool, cases_lt, cond-true, lt-ltb}
use Rattle.mold_wire.specs.Block.{blocks}
use Rattle.mold_wire.specs.Packet.{messages_of, top_of}
use Rattle.mold_wire.specs.declared.packet.Packet.{Packet}
use Rattle.mold_rule.specs.Refusals.{end_below, past_end}
use Rattle.mold_receiver.specs.Receive.{Reception, exceeds, is_dropped, receive, refusal, undropped, view_after}
use Rattle.mold_receiver.specs.Store.{Message, available, stored_bytes}
use Rattle.mold_receiver.specs.View.{IsWellFormed, IsWithinRoom, View}
use Rattle.mold_receiver.proofs.LawLemmas.{cut_had, goes_through, is_taken, not_past}
use Rattle.mold_receiver.proofs.RefusalLemmas.{each_none}
use Rattle.mold_receiver.proofs.RoomLemmas.{kept_from, room_left, stored_more, through_from, undropped_all, undropped_short}
use Rattle.mold_receiver.proofs.RoomLemmas.{within_less, within_more}
use Rattle.mold_receiver.proofs.RuleLemmas.{available_cases, message_bounds}
use Rattle.mold_receiver.proofs.StoreLemmas.{run_short}
use Rattle.mold_receiver.proofs.ViewLemmas.{ends_well}

-- What is stored after a packet is above `next`, in the window and below `known`.
stays_stored : (v : View) (p : Packet) → IsWellFormed v → (q : ℕ) (m : Message) →
    finite.get (view_after v p).store q ≡ Some m
    → ((view_after v p).next < q) × (q < (view_after v p).next + v.window) × (q < max v.known (top_of p))
stays_stored v p well q m is =
    let ms = undropped v p in
    let new = (view_after v p).next in
    let had = cut_had (available v.store v.next p.sequence ms) new v.window q m is in (
      had.1,
      had.2,
      elim (available_cases v.store v.next p.sequence ms q m had.0) [
        | inl carried ↦
            let bounds = message_bounds p.sequence ms q m carried.1 in
            omega (arith, bounds.1, undropped_short v p)
        | inr stored ↦ (let lies = well.stored q m stored in omega (arith, lies.2))
      ],
    )

-- The store stays within its room.
stays_within : (v : View) (p : Packet) → IsWellFormed v → IsWithinRoom v.room (stored_bytes (view_after v p).store)
stays_within v p well =
    let ms = undropped v p in
    let w = view_after v p in
    let count : ℕ = max v.known (top_of p) in
    let low : (q : ℕ) (m : Message) → finite.get v.store q ≡ Some m → q < count =
    λ q m is. (let lies = well.stored q m is in omega (arith, lies.2)) in
    let high : (q : ℕ) (m : Message) → finite.get w.store q ≡ Some m → q < count =
    λ q m is. (stays_stored v p well q m is).2 in
    let no_more : stored_bytes w.store ≤ stored_bytes v.store → IsWithinRoom v.room (stored_bytes w.store) =
    λ less. within_less v.room (stored_bytes v.store) (stored_bytes w.store) less well.bounded in
    elim (cases_lt v.next p.sequence) [
      | inr begun ↦
          no_more (omega (
            arith,
            stored_more v.store w.store 0 [] count low high
                (through_from v.store v.next w.next v.window p.sequence ms
                (omega (arith, undropped_short v p, goes_through v p well begun))),
          ))
      | inl above ↦
          let more = stored_more v.store w.store p.sequence ms count low high
          (kept_from v.store v.next w.next v.window p.sequence ms) in
          elim (cases_Bool (is_dropped v p)) [
            | inl dropped ↦
                let none : ms ≡ [] = cond-true (is_dropped v p) [] (messages_of p.body) dropped in
                no_more (omega (arith, more, ap (λ (t : List Message). length (blocks t)) none))
            | inr kept ↦
                let all : ms ≡ messages_of p.body = undropped_all v p kept in
                let bytes : ℕ = stored_bytes v.store + length (blocks (messages_of p.body)) in
                within_less v.room bytes (stored_bytes w.store)
                (omega (arith, more, ap (λ (t : List Message). length (blocks t)) all))
                (within_more v.room (stored_bytes v.store) bytes
                (room_left (ltb v.next p.sequence) (exceeds v.room bytes) (lt-ltb v.next p.sequence above) kept)
                well.bounded)
          ]
    ]

-- A view that accepts a packet stays well formed.
pub stays_well : (v : View) (p : Packet) → IsWellFormed v → top_of p < 2 ^ 64 →
    end_below p.body p.sequence v.known ≡ None → past_end v.ended p.body (top_of p) ≡ None
    → IsWellFormed (view_after v p)
stays_well v p well fits below past =
    let short = run_short (finite.get (available v.store v.next p.sequence (messages_of p.body))) v.next
    (max v.known (top_of p) - v.next) in
    record {
      first = omega (arith, well.first);
      ahead = omega (arith, well.ahead, short);
      last = omega (arith, well.last, fits);
      stored = stays_stored v p well;
      ends = ends_well v.ended p.body p.sequence v.known (top_of p) refl well.ends below past;
      bounded = stays_within v p well;
    }

pub takes_well : (v : View) (p : Packet) → IsWellFormed v → refusal v p ≡ None →
    IsWellFormed (view_after v p)
takes_well v p well none =
    let each = each_none v p none in
    stays_well v p well (not_past p each.1.1.0) each.1.1.1.1.0 each.1.1.1.1.1.0

pub receives_well : (v : View) (bytes : List ℕ) (r : Reception) → IsWellFormed v → receive v bytes ≡ Ok r →
    IsWellFormed r.view
receives_well v bytes r well is =
    let taken = is_taken v bytes r is in
    subst (λ (r : Reception). IsWellFormed r.view) (sym taken.taken) (takes_well v taken.packet well taken.accepted)
