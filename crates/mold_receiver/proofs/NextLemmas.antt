-- The view over slots after a packet that has the message `next`.
use Rattle.std.proofs.Common.{◌≡◌, ℕ, ◌+◌, ◌-◌, ◌<◌, ◌≤◌, max, min, cond, ltb, List, [], ◌++◌, length, length-append}
use Rattle.std.proofs.Common.{length-drop, drop, replicate, get_or, sym, ap, subst, ◌∙◌, inl, inr, arith}
use Rattle.std.specs.Prelude.{Option, None, Some, slice_get}
use Rattle.std.specs.FinMap as finite
use Rattle.std.proofs.lemmas.Bool.{cases_eq, cases_lt, cond-true, cond-false, lt-ltb, le-ltb}
use Rattle.std.proofs.lemmas.List.{length-replicate}
use Rattle.std.proofs.lemmas.Option.{slice_get-get_or}
use Rattle.mold_wire.specs.declared.session.Session.{Session}
use Rattle.mold_receiver.specs.Handing.{run_in, run_of}
use Rattle.mold_receiver.specs.Receive.{handed_on, count_beyond, undropped, view_at, view_after, taken_of, data_packet}
use Rattle.mold_receiver.specs.Slots.{Slot, slot_at, store_of}
use Rattle.mold_receiver.specs.Store.{Message, numbered, available, cut}
use Rattle.mold_receiver.specs.View.{IsWellFormed, view_over}
use Rattle.mold_receiver.proofs.CaseLemmas.{at_handed, at_stored, at_kept}
use Rattle.mold_receiver.proofs.NothingLemmas.{nothing_beyond}
use Rattle.mold_receiver.proofs.RoomLemmas.{begun_kept, undropped_all}
use Rattle.mold_receiver.proofs.SlotLemmas.{slot_past, slot_moved}
use Rattle.mold_receiver.proofs.StoreLemmas.{run_reads, run_ends, run_short}
use Rattle.mold_receiver.proofs.ViewLemmas.{between_of, get_from, get_below}

-- What is stored after the slots moved.
pub moved_looks : (next new : ℕ) (slots : List Slot) (count : ℕ) → next ≤ new →
    count ≡ min (new - next) (length slots) → (q : ℕ)
    → finite.get (store_of new (drop count slots ++ replicate count None)) q ≡ cond (ltb q new) None
    (finite.get (store_of next slots) q)
moved_looks next new slots count ahead is q =
    elim (cases_lt q new) [
      | inl below ↦ get_below new (drop count slots ++ replicate count None) q below
          ∙ sym (cond-true (ltb q new) None (finite.get (store_of next slots) q) (lt-ltb q new below))
      | inr low ↦
          get_from new (drop count slots ++ replicate count None) q low
          ∙ slot_moved count slots (q - new)
          ∙ elim (cases_lt (new - next) (length slots)) [
            | inl within ↦ ap (slot_at slots) (let e : count + (q - new) ≡ q - next = omega (arith, is) in e)
            | inr past ↦ slot_past slots (count + (q - new)) (omega (arith, is))
                ∙ sym (slot_past slots (q - next) (omega arith))
          ]
          ∙ sym (get_from next slots q (omega arith))
          ∙ sym (cond-false (ltb q new) None (finite.get (store_of next slots) q) (le-ltb q new low))
    ]

-- The stored messages that follow a packet.
pub record IsRun (next known top : ℕ) (slots : List Slot) (stored : List Message) : Type 0 where
  pub each : (i : ℕ) (m : Message) → slice_get stored i ≡ Some m → finite.get (store_of next slots) (top + i) ≡ Some m
  pub stops : finite.get (store_of next slots) (top + length stored) ≡ None
  pub within : top + length stored ≤ max known top

pub run_of_slots : (room : Option ℕ) (session : Session) (next known : ℕ) (ended : Option ℕ) (slots : List Slot) (top : ℕ) →
    IsWellFormed (view_over room session next known ended slots) → next ≤ top
    → IsRun next known top slots (run_in slots (top - next))
run_of_slots room session next known ended slots top well ahead =
    let start = top - next in
    let stored = run_in slots start in
    let each : (i : ℕ) (m : Message) → slice_get stored i ≡ Some m →
    finite.get (store_of next slots) (top + i) ≡ Some m =
    λ i m is.
    let place : start + i ≡ top + i - next = omega arith in
    get_from next slots (top + i) (omega arith) ∙ ap (slot_at slots) (sym place)
    ∙ run_reads (slot_at slots) start (length slots - start) i m is
    in
    let place : start + length stored ≡ top + length stored - next = omega arith in
    record {
      each = each;
      stops = get_from next slots (top + length stored) (omega arith) ∙ ap (slot_at slots) (sym place)
          ∙ run_ends (slot_at slots) start (length slots - start)
          (slot_past slots (start + (length slots - start)) (omega arith));
      within =
          elim (cases_eq (length stored) 0) [
            | inl none ↦ omega (arith, none)
            | inr some ↦
                let last = length stored - 1 in
                let lies = well.stored (top + last) (get_or stored last [])
                (each last (get_or stored last []) (slice_get-get_or stored last [] (omega (arith, some)))) in
                omega (arith, some, lies.2)
          ];
    }

-- The messages that such a packet delivers.
pub at_run : (room : Option ℕ) (session : Session) (next known : ℕ) (ended : Option ℕ) (slots : List Slot) (n top : ℕ) (ms : List Message)
    → IsWellFormed (view_over room session next known ended slots) → n ≤ next → next < top → n + length ms ≡ top
    → handed_on (view_over room session next known ended slots) n ms ≡ run_of slots next n top ms
at_run room session next known ended slots n top ms well low high tops =
    let v = view_over room session next known ended slots in
    let run = run_of_slots room session next known ended slots top well (omega arith) in
    at_handed v.store next v.window (max known (n + length ms) - next) n top ms (run_in slots (top - next))
    (between_of v well) low high tops run.each run.stops
    (omega (arith, tops, run.within, well.ahead))

pub length-run_of : (slots : List Slot) (next n top : ℕ) (ms : List Message) → n ≤ next → next < top →
    n + length ms ≡ top
    → next + length (run_of slots next n top ms) ≡ top + length (run_in slots (top - next))
length-run_of slots next n top ms low high tops =
    omega (arith, tops, length-append (drop (next - n) ms) (run_in slots (top - next)), length-drop (next - n) ms)

-- The new view is over the slots that moved.
pub at_view : (room : Option ℕ) (session : Session) (next known : ℕ) (ended : Option ℕ) (slots : List Slot) (n top : ℕ)
    (ms : List Message) (new count : ℕ)
    → IsWellFormed (view_over room session next known ended slots) → n ≤ next → next < top → n + length ms ≡ top
    → new ≡ next + length (run_of slots next n top ms) → count ≡ min (new - next) (length slots)
    → view_after (view_over room session next known ended slots) (data_packet session n ms) ≡ view_over room session new
    (max known top) ended (drop count slots ++ replicate count None)
at_view room session next known ended slots n top ms new count well low high tops is counted =
    let v = view_over room session next known ended slots in
    let moved = drop count slots ++ replicate count None in
    let run = run_of_slots room session next known ended slots top well (omega arith) in
    let at : new ≡ top + length (run_in slots (top - next)) = is ∙ length-run_of slots next n top ms low high tops in
    let here : next + length (handed_on v n ms) ≡ new =
    ap (λ (t : List Message). next + length t) (at_run room session next known ended slots n top ms well low high tops)
    ∙ sym is in
    let p = data_packet session n ms in
    let stored : cut (available v.store next n (undropped v p)) new v.window ≡ store_of new moved =
    ap (λ (t : List Message). cut (available v.store next n t) new v.window) (undropped_all v p (begun_kept v p low))
    ∙ at_stored v.store (store_of new moved) next v.window n new ms (between_of v well) (omega (arith, at))
    (omega (arith, at, tops))
    (subst (λ (q : ℕ). finite.get v.store q ≡ None) (sym at) run.stops)
    (moved_looks next new slots count (omega (arith, at)) counted)
    in
    let size : length slots ≡ length moved =
    omega (
      arith,
      counted,
      length-append (drop count slots) (replicate {A = Slot} count None),
      length-drop count slots,
      length-replicate {A = Slot} count None,
    )
    in
    ap (view_at v (data_packet session n ms)) here
    ∙ (λ i. record {
      session = session;
      next = new;
      known = max known (tops i);
      ended = ended;
      store = stored i;
      window = size i;
      room = room;
    })

pub at_taken : (room : Option ℕ) (session : Session) (next known : ℕ) (ended : Option ℕ) (slots : List Slot) (n top : ℕ)
    (ms : List Message) (new count : ℕ)
    → IsWellFormed (view_over room session next known ended slots) → n ≤ next → next < top → n + length ms ≡ top
    → new ≡ next + length (run_of slots next n top ms) → count ≡ min (new - next) (length slots)
    → taken_of (view_over room session next known ended slots) (data_packet session n ms)
    (view_after (view_over room session next known ended slots) (data_packet session n ms))
    ≡ record { handed = new - next; kept = 0; beyond = 0 }
at_taken room session next known ended slots n top ms new count well low high tops is counted =
    let v = view_over room session next known ended slots in
    let moved = drop count slots ++ replicate count None in
    let at : new ≡ top + length (run_in slots (top - next)) = is ∙ length-run_of slots next n top ms low high tops in
    let size : length slots ≡ length moved =
    omega (
      arith,
      counted,
      length-append (drop count slots) (replicate {A = Slot} count None),
      length-drop count slots,
      length-replicate {A = Slot} count None,
    )
    in
    let kept = at_kept v.store (store_of new moved) n new ms (omega (arith, at, tops))
    (moved_looks next new slots count (omega (arith, at)) counted) in
    let past : count_beyond new (store_of new moved) (numbered n ms) ≡ 0 =
    nothing_beyond new n (store_of new moved) ms (inl (omega (arith, at, tops))) in
    ap (taken_of v (data_packet session n ms))
    (at_view room session next known ended slots n top ms new count well low high tops is counted)
    ∙ (λ i. record { handed = new - next; kept = kept i; beyond = past i })

pub handed_view : (room : Option ℕ) (session : Session) (next known : ℕ) (ended : Option ℕ) (slots : List Slot) (n top : ℕ)
    (ms : List Message) (new count : ℕ) (new_known : ℕ) (new_slots : List Slot)
    → IsWellFormed (view_over room session next known ended slots) → n ≤ next → next < top → n + length ms ≡ top
    → new ≡ next + length (run_of slots next n top ms) → count ≡ min (new - next) (length slots)
    → new_known ≡ max known top → new_slots ≡ drop count slots ++ replicate count None
    → view_over room session new new_known ended new_slots ≡ view_after (view_over room session next known ended slots)
    (data_packet session n ms)
handed_view room session next known ended slots n top ms new count new_known new_slots well low high tops is counted knows
    moved =
    (λ i. view_over room session new (knows i) ended (moved i))
    ∙ sym (at_view room session next known ended slots n top ms new count well low high tops is counted)

-- A run has at most as many messages as the packet and the slots together.
pub run_few : (slots : List Slot) (next n top : ℕ) (ms : List Message) → n ≤ next → next < top → n + length ms ≡ top →
    length (run_of slots next n top ms) ≤ length ms + length slots
run_few slots next n top ms low high tops =
    omega (
      arith,
      length-run_of slots next n top ms low high tops,
      tops,
      run_short (slot_at slots) (top - next) (length slots - (top - next)),
    )

-- A packet that has the message `next` delivers at least one message.
pub some_handed : (room : Option ℕ) (session : Session) (next known : ℕ) (ended : Option ℕ) (slots : List Slot) (n top : ℕ)
    (ms : List Message)
    → IsWellFormed (view_over room session next known ended slots) → n ≤ next → next < top → n + length ms ≡ top
    → 0 < next + length (handed_on (view_over room session next known ended slots) n ms) - next
some_handed room session next known ended slots n top ms well low high tops =
    let run = ap (λ (t : List Message). length t) (at_run room session next known ended slots n top ms well low high tops) in
    omega (arith, run, length-run_of slots next n top ms low high tops)
