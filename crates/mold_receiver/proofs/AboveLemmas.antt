-- The view over slots after a packet that begins above `next`.
use Rattle.std.proofs.Common.{◌≡◌, ℕ, suc, ◌+◌, ◌-◌, ◌<◌, ◌≤◌, max, Bool, true, false, cond, leb, ltb, ◌&&◌, List, [], ◌∷◌}
use Rattle.std.proofs.Common.{length, get_or, refl, sym, ap, ◌∙◌, inl, inr, arith}
use Rattle.std.specs.Prelude.{Option, None, Some, is_some, is_none, nat_le, slice_get}
use Rattle.std.specs.List.{filter}
use Rattle.std.specs.FinMap as finite
use Rattle.std.specs.Option.{option_or}
use Rattle.std.proofs.lemmas.Bool.{and_from, and_parts, and_right, ltb-true, cases_lt, cond-false, cond-true, le-leb, lt-leb, lt-ltb, le-ltb}
use Rattle.std.proofs.lemmas.Option.{slice_get-get_or}
use Rattle.mold_wire.specs.declared.session.Session.{Session}
use Rattle.mold_wire.specs.Block.{blocks}
use Rattle.mold_wire.specs.Packet.{messages_of, top_of}
use Rattle.mold_wire.specs.declared.packet.Packet.{Packet}
use Rattle.mold_wire.specs.Truth.{message_at}
use Rattle.mold_receiver.specs.Keeping.{count_absent, is_fresh, fresh, filled}
use Rattle.mold_receiver.specs.Receive.{handed_on, count_kept, count_beyond, view_at, view_after, taken_of}
use Rattle.mold_receiver.specs.Receive.{data_packet, ended_after, exceeds, is_dropped, undropped}
use Rattle.mold_receiver.specs.Slots.{Slot, slot_at, store_of}
use Rattle.mold_receiver.specs.Store.{Message, numbered, from_next, available, cut, first_conflict, stored_bytes}
use Rattle.mold_receiver.specs.View.{View, IsWellFormed, view_over}
use Rattle.mold_receiver.proofs.CaseLemmas.{ahead_handed, ahead_stored, nothing_kept, nothing_stored}
use Rattle.mold_receiver.proofs.KeepLemmas.{slot_filled, length-filled}
use Rattle.mold_receiver.proofs.RuleLemmas.{IsBetween, message_below, message_within, count_same, count_from, option_or-none, stored_past}
use Rattle.mold_receiver.proofs.RoomLemmas.{no_message, undropped_all}
use Rattle.mold_receiver.proofs.ViewLemmas.{between_of, get_from, get_below}

message_shifted : (next n : ℕ) (ms : List Message) (q : ℕ) → next ≤ n → next ≤ q →
    message_at (n - next) ms (q - next) ≡ message_at n ms q
message_shifted next n ms q low at =
    elim (cases_lt q n) [
      | inl below ↦ message_below (n - next) ms (q - next) (omega arith) ∙ sym (message_below n ms q below)
      | inr above ↦
          let same : q - next - (n - next) ≡ q - n = omega arith in
          message_within (n - next) ms (q - next) (omega arith) ∙ ap (slice_get ms) same
          ∙ sym (message_within n ms q above)
    ]

limit_shifted : (next window q : ℕ) → next ≤ q → ltb (q - next) window ≡ ltb q (next + window)
limit_shifted next window q low =
    elim (cases_lt q (next + window)) [
      | inl below ↦ lt-ltb (q - next) window (omega arith) ∙ sym (lt-ltb q (next + window) below)
      | inr past ↦ le-ltb (q - next) window (omega arith) ∙ sym (le-ltb q (next + window) past)
    ]

-- What is stored after the fresh messages are put into their slots.
pub ahead_looks : (next n : ℕ) (slots : List Slot) (ms : List Message) → next < n → (q : ℕ)
    → finite.get (store_of next (filled slots (n - next) ms)) q ≡ option_or
    (finite.get (store_of next slots) q) (cond (ltb q (next + length slots)) (message_at n ms q) None)
ahead_looks next n slots ms above q =
    elim (cases_lt q next) [
      | inl below ↦
          get_below next (filled slots (n - next) ms) q below
          ∙ sym (ap (λ (o : Option Message). option_or o (cond (ltb q (next + length slots)) (message_at n ms q) None))
          (get_below next slots q below)
          ∙ cond-true (ltb q (next + length slots)) (message_at n ms q) None
          (lt-ltb q (next + length slots) (omega arith)) ∙ message_below n ms q (omega arith))
      | inr low ↦
          get_from next (filled slots (n - next) ms) q low
          ∙ slot_filled slots (n - next) ms (q - next)
          ∙ ap (λ (o : Option Message). option_or o
          (cond (ltb (q - next) (length slots)) (message_at (n - next) ms (q - next)) None))
          (sym (get_from next slots q low))
          ∙ ap (λ (b : Bool). option_or (finite.get (store_of next slots) q)
          (cond b (message_at (n - next) ms (q - next)) None)) (limit_shifted next (length slots) q low)
          ∙ ap (λ (o : Option Message). option_or (finite.get (store_of next slots) q)
          (cond (ltb q (next + length slots)) o None)) (message_shifted next n ms q (omega arith) low)
    ]

-- After a packet above `next`, the new view is over the slots with its fresh messages.
pub ahead_view : (room : Option ℕ) (session : Session) (next known : ℕ) (ended : Option ℕ) (slots : List Slot) (n top : ℕ)
    (ms : List Message)
    → IsWellFormed (view_over room session next known ended slots) → next < n → n + length ms ≡ top
    → first_conflict (store_of next slots) (from_next next n ms) ≡ None
    → exceeds room (stored_bytes (store_of next slots) + length (blocks ms)) ≡ false
    → view_after (view_over room session next known ended slots) (data_packet session n ms) ≡ view_over room session next
    (max known top) ended (filled slots (n - next) ms)
ahead_view room session next known ended slots n top ms well above tops none fits =
    let v = view_over room session next known ended slots in
    let kept = filled slots (n - next) ms in
    let nothing : handed_on v n ms ≡ [] =
    ahead_handed v.store next v.window (max known (n + length ms) - next) n ms (between_of v well) above in
    let here : next + length (handed_on v n ms) ≡ next = ap (λ (t : List Message). next + length t) nothing
    ∙ (let e : next + 0 ≡ next = omega arith in e) in
    let p = data_packet session n ms in
    let room_for : is_dropped v p ≡ false =
    and_right (ltb next n) (exceeds room (stored_bytes v.store + length (blocks ms))) fits in
    let stored : cut (available v.store next n (undropped v p)) next v.window ≡ store_of next kept =
    ap (λ (t : List Message). cut (available v.store next n t) next v.window) (undropped_all v p room_for)
    ∙ ahead_stored v.store (store_of next kept) next v.window n ms (between_of v well) above none
    (ahead_looks next n slots ms above)
    in
    let size : length slots ≡ length kept = sym (length-filled slots (n - next) ms) in
    ap (view_at v (data_packet session n ms)) here
    ∙ (λ i. record {
      session = session;
      next = next;
      known = max known (tops i);
      ended = ended;
      store = stored i;
      window = size i;
      room = room;
    })

filter_short : (test : ℕ × Message → Bool) (pairs : List (ℕ × Message)) → length (filter test pairs) ≤ length pairs
filter_short test [] = omega arith
filter_short test (pair ∷ pairs) =
    elim (test pair) as (λ b. length (cond b (pair ∷ filter test pairs) (filter test pairs)) ≤ suc (length pairs)) [
      | true ↦ omega (arith, filter_short test pairs)
      | false ↦ omega (arith, filter_short test pairs)
    ]

length-numbered : (n : ℕ) (ms : List Message) → length (numbered n ms) ≡ length ms
length-numbered n [] = refl
length-numbered n (m ∷ ms) = ap suc (length-numbered (suc n) ms)

pub fresh_short : (slots : List Slot) (first : ℕ) (ms : List Message) → length (fresh slots first ms) ≤ length ms
fresh_short slots first ms =
    omega (arith, filter_short (λ pair. is_fresh slots pair.0) (numbered first ms), length-numbered first ms)

new_or_not : (o p : Option Message) (b : Bool) (m : Message) → p ≡ Some m →
    (is_some (option_or o (cond b p None)) && is_none o) ≡ (b && is_none o)
new_or_not None p true m is = ap (λ (o : Option Message). is_some o && true) is
new_or_not None p false m is = refl
new_or_not (Some x) p true m is = refl
new_or_not (Some x) p false m is = refl

-- The number of kept messages is the number of fresh ones.
pub ahead_kept : (next n : ℕ) (slots : List Slot) (ms : List Message) → next < n
    → count_kept (store_of next slots) (store_of next (filled slots (n - next) ms))
    (numbered n ms) ≡ length (fresh slots (n - next) ms)
ahead_kept next n slots ms above =
    let old = store_of next slots in
    let new = store_of next (filled slots (n - next) ms) in
    count_same (λ q. is_some (finite.get new q) && is_none (finite.get old q)) (is_fresh slots) n (n - next) ms
    (λ i within.
    let place : n + i - n ≡ i = omega arith in
    let shifted : n + i - next ≡ n - next + i = omega arith in
    let there : message_at n ms (n + i) ≡ Some (get_or ms i []) = message_within n ms (n + i) (omega arith)
    ∙ ap (slice_get ms) place ∙ slice_get-get_or ms i [] within in
    ap (λ (o : Option Message). is_some o && is_none (finite.get old (n + i)))
    (ahead_looks next n slots ms above (n + i))
    ∙ new_or_not (finite.get old (n + i)) (message_at n ms (n + i)) (ltb (n + i) (next + length slots))
    (get_or ms i []) there
    ∙ ap (λ (b : Bool). b && is_none (finite.get old (n + i)))
    (sym (limit_shifted next (length slots) (n + i) (omega arith)))
    ∙ ap (λ (o : Option Message). ltb (n + i - next) (length slots) && is_none o)
    (get_from next slots (n + i) (omega arith))
    ∙ ap (is_fresh slots) shifted)

none_or_new : (o p : Option Message) (m : Message) → p ≡ Some m → is_none (option_or o p) ≡ false
none_or_new None p m is = ap is_none is
none_or_new (Some x) p m is = refl

-- The messages that are missing after the fresh ones are put into their slots are those past the window.
ahead_beyond : (next n : ℕ) (slots : List Slot) (ms : List Message) → next < n →
    IsBetween (store_of next slots) next (length slots)
    → count_beyond next (store_of next (filled slots (n - next) ms)) (numbered n ms)
    ≡ length (filter (λ (p : ℕ × Message). nat_le (next + length slots) p.0) (numbered n ms))
ahead_beyond next n slots ms above between =
    let old = store_of next slots in
    let new = store_of next (filled slots (n - next) ms) in
    let limit = next + length slots in
    count_same (λ q. leb next q && is_none (finite.get new q)) (λ q. leb limit q) n n ms
    (λ i within.
    let q = n + i in
    let looks = ahead_looks next n slots ms above q in
    ap (λ (b : Bool). b && is_none (finite.get new q)) (le-leb next q (omega (arith, above)))
    ∙ elim (cases_lt q limit) [
      | inl below ↦
          let place : q - n ≡ i = omega arith in
          let there : message_at n ms q ≡ Some (get_or ms i []) = message_within n ms q (omega arith)
          ∙ ap (slice_get ms) place ∙ slice_get-get_or ms i [] within in
          ap is_none looks
          ∙ none_or_new (finite.get old q) (cond (ltb q limit) (message_at n ms q) None) (get_or ms i [])
          (cond-true (ltb q limit) (message_at n ms q) None (lt-ltb q limit below) ∙ there)
          ∙ sym (lt-leb limit q below)
      | inr past ↦
          ap is_none (looks
          ∙ ap (option_or (finite.get old q)) (cond-false (ltb q limit) (message_at n ms q) None (le-ltb q limit past))
          ∙ option_or-none (finite.get old q)
          ∙ stored_past old next (length slots) between q past)
          ∙ sym (le-leb limit q past)
    ])

-- The counts of a packet above `next`.
pub ahead_taken : (room : Option ℕ) (session : Session) (next known : ℕ) (ended : Option ℕ) (slots : List Slot) (n top : ℕ)
    (ms : List Message)
    → IsWellFormed (view_over room session next known ended slots) → next < n → n + length ms ≡ top
    → first_conflict (store_of next slots) (from_next next n ms) ≡ None
    → exceeds room (stored_bytes (store_of next slots) + length (blocks ms)) ≡ false
    → taken_of (view_over room session next known ended slots) (data_packet session n ms)
    (view_after (view_over room session next known ended slots) (data_packet session n ms))
    ≡ record { handed = 0; kept = length (fresh slots (n - next) ms); beyond = top - max n (next + length slots) }
ahead_taken room session next known ended slots n top ms well above tops none fits =
    let v = view_over room session next known ended slots in
    let new = filled slots (n - next) ms in
    let zero_handed : next - next ≡ 0 = omega arith in
    let past : count_beyond next (store_of next new) (numbered n ms) ≡ top - max n (next + length slots) =
    ahead_beyond next n slots ms above (between_of v well)
    ∙ count_from (next + length slots) n ms ∙ ap (λ (k : ℕ). k - max n (next + length slots)) tops in
    ap (taken_of v (data_packet session n ms)) (ahead_view room session next known ended slots n top ms well above tops none fits)
    ∙ (λ i. record { handed = zero_handed i; kept = ahead_kept next n slots ms above i; beyond = past i })

-- The fields after a packet above `next`, or after one that has the message `next`, are those of the new view.
pub kept_view : (room : Option ℕ) (session : Session) (next known : ℕ) (ended : Option ℕ) (slots : List Slot) (n top : ℕ)
    (ms : List Message) (new_known : ℕ) (new_slots : List Slot)
    → IsWellFormed (view_over room session next known ended slots) → next < n → n + length ms ≡ top
    → first_conflict (store_of next slots) (from_next next n ms) ≡ None
    → exceeds room (stored_bytes (store_of next slots) + length (blocks ms)) ≡ false
    → new_known ≡ max known top → new_slots ≡ filled slots (n - next) ms
    → view_over room session next new_known ended new_slots ≡ view_after (view_over room session next known ended slots)
    (data_packet session n ms)
kept_view room session next known ended slots n top ms new_known new_slots well above tops none fits knows puts =
    (λ i. view_over room session next (knows i) ended (puts i))
    ∙ sym (ahead_view room session next known ended slots n top ms well above tops none fits)

pub above_handed : (v : View) (n : ℕ) (ms : List Message) → IsWellFormed v → v.next < n → handed_on v n ms ≡ []
above_handed v n ms well above =
    ahead_handed v.store v.next v.window (max v.known (n + length ms) - v.next) n ms (between_of v well) above

-- The view after a packet that is dropped.
pub dropped_after : (v : View) (p : Packet) → IsWellFormed v → is_dropped v p ≡ true →
    view_after v p ≡ record v { known = max v.known (top_of p); ended = ended_after p.body p.sequence v.ended }
dropped_after v p well dropped =
    let ms = messages_of p.body in
    let parts = and_parts (ltb v.next p.sequence) (exceeds v.room (stored_bytes v.store + length (blocks ms))) dropped in
    let nothing = above_handed v p.sequence ms well (ltb-true v.next p.sequence parts.0) in
    let here : v.next + length (handed_on v p.sequence ms) ≡ v.next =
    ap (λ (t : List Message). v.next + length t) nothing ∙ (let e : v.next + 0 ≡ v.next = omega arith in e) in
    let stored : cut (available v.store v.next p.sequence (undropped v p)) v.next v.window ≡ v.store =
    ap (λ (t : List Message). cut (available v.store v.next p.sequence t) v.next v.window)
    (cond-true (is_dropped v p) [] ms dropped)
    ∙ nothing_stored v.store v.next v.window p.sequence [] (between_of v well) (λ q from. no_message p.sequence q) in
    ap (view_at v p) here
    ∙ (λ i. record {
      session = v.session;
      next = v.next;
      known = max v.known (top_of p);
      ended = ended_after p.body p.sequence v.ended;
      store = stored i;
      window = v.window;
      room = v.room;
    })

-- The view and the counts after a packet above `next` that is dropped.
module _ (room : Option ℕ) (session : Session) (next known : ℕ) (ended : Option ℕ) (slots : List Slot) (n top : ℕ)
    (ms : List Message) (well : IsWellFormed (view_over room session next known ended slots)) (above : next < n)
    (tops : n + length ms ≡ top)
    (over : exceeds room (stored_bytes (store_of next slots) + length (blocks ms)) ≡ true) where
  pub dropped_view : view_after (view_over room session next known ended slots) (data_packet session n ms) ≡ view_over room
      session next (max known top) ended slots
  dropped_view =
      let v = view_over room session next known ended slots in
      let dropped : is_dropped v (data_packet session n ms) ≡ true =
      and_from (ltb next n) (exceeds room (stored_bytes v.store + length (blocks ms))) (lt-ltb next n above) over in
      dropped_after v (data_packet session n ms) well dropped
      ∙ (λ i. view_over room session next (max known (tops i)) ended slots)

  pub dropped_taken : taken_of (view_over room session next known ended slots) (data_packet session n ms)
      (view_after (view_over room session next known ended slots) (data_packet session n ms))
      ≡ record { handed = 0; kept = 0; beyond = count_absent slots (n - next) ms }
  dropped_taken =
      let v = view_over room session next known ended slots in
      let zero_handed : next - next ≡ 0 = omega arith in
      let lacked : count_beyond next v.store (numbered n ms) ≡ count_absent slots (n - next) ms =
      count_same (λ q. leb next q && is_none (finite.get v.store q)) (λ q. is_none (slot_at slots q)) n (n - next) ms
      (λ i within.
      let place : n + i - next ≡ n - next + i = omega (arith, above) in
      ap (λ (b : Bool). b && is_none (finite.get v.store (n + i))) (le-leb next (n + i) (omega (arith, above)))
      ∙ ap is_none (get_from next slots (n + i) (omega (arith, above)) ∙ ap (slot_at slots) place)) in
      ap (taken_of v (data_packet session n ms)) dropped_view
      ∙ (λ i. record { handed = zero_handed i; kept = nothing_kept v.store n ms i; beyond = lacked i })
