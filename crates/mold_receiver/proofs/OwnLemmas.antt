-- Messages that are delivered where they are in their datagram.
use Rattle.std.proofs.Common.{◌≡◌, ℕ, zero, suc, ◌+◌, ◌-◌, ◌<◌, ◌≤◌, leb, List, [], ◌∷◌, ◌++◌, length, length-append}
use Rattle.std.proofs.Common.{take, drop, refl, sym, ap, subst, ◌∙◌, append_assoc, inl, inr, arith}
use Rattle.std.proofs.Common.{◌⊎◌}
use Rattle.std.specs.Prelude.{Result, Ok}
use Rattle.std.proofs.lemmas.Bool.{cases_lt, cond-true, cond-false, le-leb, lt-leb}
use Rattle.std.proofs.lemmas.List.{append-nil, take-append-drop}
use Rattle.mold_wire.specs.Block.{blocks}
use Rattle.mold_wire.specs.Header.{header_bytes}
use Rattle.mold_wire.specs.Packet.{Spells, count_of, messages_of, top_of}
use Rattle.mold_wire.specs.Reading.{reading}
use Rattle.mold_wire.specs.declared.error.DecodeError.{DecodeError}
use Rattle.mold_wire.specs.declared.packet.Packet.{Packet}
use Rattle.mold_wire.proofs.BlockLemmas.{blocks-append}
use Rattle.mold_receiver.specs.Batch.{Handed, followed_by, handed_from}
use Rattle.mold_receiver.specs.Own.{HandsOwn, IsCopiedBehind, IsOwn, NeedsRoom, own_of, own_read}
use Rattle.mold_receiver.specs.Receive.{handed_on, receive, reception, taken_after}
use Rattle.mold_receiver.specs.Store.{Message}
use Rattle.mold_receiver.specs.View.{View}
use Rattle.mold_receiver.specs.declared.taken.Taken.{Taken}

-- A packet that doesn't begin above `next` has its messages from `next` on.
pub own_at : (v : View) (p : Packet) → p.sequence ≤ v.next →
    own_of v p ≡ drop (v.next - p.sequence) (messages_of p.body)
own_at v p low =
    cond-true (leb p.sequence v.next) (drop (v.next - p.sequence) (messages_of p.body)) []
    (le-leb p.sequence v.next low)

-- A packet that begins above `next` has none.
pub own_above : (v : View) (p : Packet) → v.next < p.sequence → own_of v p ≡ []
own_above v p above =
    cond-false (leb p.sequence v.next) (drop (v.next - p.sequence) (messages_of p.body)) []
    (lt-leb p.sequence v.next above)

drop_all : (ms : List Message) (n : ℕ) → length ms ≤ n → drop n ms ≡ []
drop_all [] zero all = refl
drop_all [] (suc n) all = refl
drop_all (m ∷ ms) zero all = absurd (omega arith)
drop_all (m ∷ ms) (suc n) all = drop_all ms n (omega arith)

-- A packet with nothing from `next` on has none.
pub own_nothing : (v : View) (p : Packet) → (top_of p ≤ v.next) ⊎ (messages_of p.body ≡ []) → own_of v p ≡ []
own_nothing v p (inl below) =
    own_at v p (omega (arith, below))
    ∙ drop_all (messages_of p.body) (v.next - p.sequence) (omega (arith, below))
own_nothing v p (inr none) =
    elim (cases_lt v.next p.sequence) [
      | inl above ↦ own_above v p above
      | inr low ↦
          own_at v p low
          ∙ drop_all (messages_of p.body) (v.next - p.sequence)
          (omega (arith, ap (λ (t : List Message). length t) none))
    ]

abbrev pub no_batch : Handed
no_batch = record { first = 0; messages = [] }

-- Such a packet delivers nothing.
pub hands_none : (v : View) (p : Packet) (own : List Message) (batch : Handed) → own_of v p ≡ [] → own ≡ [] →
    handed_on v p.sequence (messages_of p.body) ≡ [] → batch ≡ no_batch → HandsOwn v p own batch
hands_none v p own batch nothing none handed empty =
    subst (λ (b : Handed). HandsOwn v p own b) (sym empty)
    (subst (λ (t : List Message). HandsOwn v p t no_batch) (sym none)
    (record { own_is = sym nothing; whole = handed; begins = refl }))

followed_none : (n : ℕ) (ms : List Message) → followed_by no_batch n ms ≡ handed_from n ms
followed_none n [] = refl
followed_none n (m ∷ ms) = refl

handed_messages : (n : ℕ) (ms : List Message) → (handed_from n ms).messages ≡ ms
handed_messages n [] = refl
handed_messages n (m ∷ ms) = refl

-- The messages of a packet from `next` on are delivered, and then stored ones, which the batch has.
pub hands_own : (v : View) (p : Packet) (after : Handed) (at : ℕ) (run : List Message) → p.sequence ≤ v.next →
    v.next ≤ top_of p → v.next + length (drop (v.next - p.sequence) (messages_of p.body)) ≡ at →
    handed_on v p.sequence (messages_of p.body) ≡ drop (v.next - p.sequence) (messages_of p.body) ++ run →
    after ≡ followed_by no_batch at run
    → HandsOwn v p (drop (v.next - p.sequence) (messages_of p.body)) after
hands_own v p after at run low high ends handed is =
    let own = drop (v.next - p.sequence) (messages_of p.body) in
    let batch : after ≡ handed_from at run = is ∙ followed_none at run in
    let stored : after.messages ≡ run = ap (λ (b : Handed). b.messages) batch ∙ handed_messages at run in
    record {
      own_is = sym (own_at v p low);
      whole = handed ∙ ap (λ (t : List Message). own ++ t) (sym stored);
      begins = batch ∙ (λ i. handed_from (sym ends i) (sym stored i));
    }

-- If stored messages follow them, memory is needed.
pub needs_room : (v : View) (p : Packet) (run : List Message) → p.sequence ≤ v.next → 0 < length run →
    handed_on v p.sequence (messages_of p.body) ≡ drop (v.next - p.sequence) (messages_of p.body) ++ run
    → NeedsRoom v p
needs_room v p run low some handed =
    let own = drop (v.next - p.sequence) (messages_of p.body) in
    omega (
      arith,
      some,
      ap (λ (t : List Message). length t) handed,
      ap (λ (t : List Message). length t) (own_at v p low),
      length-append own run,
    )

-- A packet that begins above `next` needs memory if it is stored.
pub needs_room_above : (v : View) (p : Packet) → v.next < p.sequence →
    0 < (taken_after v p).handed + (taken_after v p).kept → NeedsRoom v p
needs_room_above v p above some =
    subst (λ (t : List Message). length t < (taken_after v p).handed + (taken_after v p).kept)
    (sym (own_above v p above)) some

-- The bytes before the blocks of some last messages.
pub record AreLast (bytes : List ℕ) (own : List Message) : Type 0 where
  pub front : List ℕ
  pub lies : bytes ≡ front ++ blocks own

last_of : (front bytes : List ℕ) (ms : List Message) (n : ℕ) → bytes ≡ front ++ blocks ms → AreLast bytes (drop n ms)
last_of front bytes ms n is = record {
  front = front ++ blocks (take n ms);
  lies = is
      ∙ ap (λ (t : List Message). front ++ blocks t) (sym (take-append-drop n ms))
      ∙ ap (λ (t : List ℕ). front ++ t) (blocks-append (take n ms) (drop n ms))
      ∙ sym (append_assoc front (blocks (take n ms)) (blocks (drop n ms)));
}

none_last : (bytes : List ℕ) → AreLast bytes []
none_last bytes = record { front = bytes; lies = sym (append-nil bytes) }

-- The blocks of a packet's own messages are its last bytes.
pub own_last : (v : View) (p : Packet) (bytes : List ℕ) → Spells p bytes → AreLast bytes (own_of v p)
own_last v p bytes spells =
    elim (cases_lt v.next p.sequence) [
      | inl above ↦ subst (λ (t : List Message). AreLast bytes t) (sym (own_above v p above)) (none_last bytes)
      | inr low ↦
          subst (λ (t : List Message). AreLast bytes t) (sym (own_at v p low))
          (last_of (header_bytes p.session.0 p.sequence (count_of p.body)) bytes (messages_of p.body)
          (v.next - p.sequence) spells.spelled)
    ]

-- What a packet delivers is what its datagram delivers.
pub is_own : (v : View) (p : Packet) (bytes : List ℕ) (own : List Message) (after : Handed) (taken : Taken) →
    reading bytes ≡ Ok p → Spells p bytes → HandsOwn v p own after → taken ≡ taken_after v p →
    IsOwn v bytes (reception v p) own after taken
is_own v p bytes own after taken read spells hands told =
    let last = subst (λ (t : List Message). AreLast bytes t) (sym hands.own_is) (own_last v p bytes spells) in
    record {
      own_is = hands.own_is ∙ ap (own_read v) (sym read);
      front = last.front;
      lies = last.lies;
      whole = hands.whole;
      begins = hands.begins;
      told = told;
      counted = omega (
        arith,
        ap (λ (t : Taken). t.handed) told,
        ap (λ (t : List Message). length t) hands.whole,
        length-append own after.messages,
      );
    }

-- Memory that a packet needs is memory that its datagram needs.
pub is_copied_behind : (v : View) (p : Packet) (bytes : List ℕ) → reading bytes ≡ Ok p →
    receive v bytes ≡ Ok (reception v p) → NeedsRoom v p → IsCopiedBehind v bytes
is_copied_behind v p bytes read received needs = record {
  reception = reception v p;
  received = received;
  some = subst (λ (r : Result Packet DecodeError).
      length (own_read v r) < (reception v p).taken.handed + (reception v p).taken.kept) (sym read) needs;
}
