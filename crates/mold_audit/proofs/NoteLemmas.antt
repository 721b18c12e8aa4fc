-- What an audit keeps after messages were delivered.
use Rattle.std.proofs.Common.{◌≡◌, ℕ, zero, suc, ◌+◌, ◌-◌, ◌%◌, ◌<◌, ◌≤◌, ◌&&◌, max, cond, Bool, true, false}
use Rattle.std.proofs.Common.{List, [], ◌∷◌, drop, length, slice_set, refl, sym, ap, ◌∙◌, inl, inr, arith}
use Rattle.std.specs.Prelude.{Option, Some, None, slice_get, nat_eq, nat_le}
use Rattle.std.specs.Option.{option_map, option_or}
use Rattle.std.proofs.lemmas.Bool.{and_from, and_parts, cases_Bool, cases_lt, cond-false, cond-true}
use Rattle.std.proofs.lemmas.Bool.{le-leb, le-ltb, leb-true, lt-leb, lt-ltb, ltb-true, ne_eqb}
use Rattle.std.proofs.lemmas.Bool.Decides.{nat_tests}
use Rattle.std.proofs.lemmas.Option.{none-some, same_Some}
use Rattle.std.proofs.lemmas.List.{length-set}
use Rattle.mold_wire.specs.Truth.{message_at}
use Rattle.mold_audit.specs.Digest.{digest}
use Rattle.mold_audit.specs.Kept.{AreEmptied, HasNoted, digest_at, digest_in, is_recent, kept, kept_in, next_after}
use Rattle.mold_audit.specs.Kept.{size_of, slot_at}
use Rattle.mold_audit.specs.declared.audit.Audit.{Audit}
use Rattle.mold_audit.proofs.DigestLemmas.{digest_some}
use Rattle.mold_audit.proofs.SlotLemmas.{apart, slot_here, slot_there}

cond_same : {X : Type 0} (b : Bool) (x y z : X) → (b ≡ true → x ≡ y) → cond b x z ≡ cond b y z
cond_same true x y z same = same refl
cond_same false x y z same = refl

pub recent_parts : (size next number : ℕ) → is_recent size next number ≡ true → (number < next) × (next ≤ number + size)
recent_parts size next number is =
    let parts = and_parts _ _ is in
    (ltb-true number next parts.0, leb-true next (number + size) parts.1)

pub is_recent_at : (size next number : ℕ) → number < next → next ≤ number + size → is_recent size next number ≡ true
is_recent_at size next number below near = and_from _ _ (lt-ltb number next below) (le-leb next (number + size) near)

pub kept_recent :
    (slots : List ℕ) (next number : ℕ) → number < next → next ≤ number + length slots →
    kept_in slots next number ≡ digest_in (slot_at slots number)
kept_recent slots next number below near =
    cond-true (is_recent (length slots) next number) (digest_in (slot_at slots number)) None
    (is_recent_at (length slots) next number below near)

pub kept_past : (slots : List ℕ) (next number : ℕ) → next ≤ number → kept_in slots next number ≡ None
kept_past slots next number past =
    let past_it = le-ltb number next past in
    cond-false (is_recent (length slots) next number) (digest_in (slot_at slots number)) None
    (ap (λ (b : Bool). b && nat_le next (number + length slots)) past_it)

digest_in_some : (slot : ℕ) → 0 < slot → digest_in slot ≡ Some slot
digest_in_some slot some =
    cond-false (nat_eq slot 0) None (Some slot) (ne_eqb slot 0 (λ none. omega (arith, some, none)))

pub message_below :
    (first : ℕ) (messages : List (List ℕ)) (number : ℕ) → number < first → message_at first messages number ≡ None
message_below first messages number below = cond-false _ _ _ (lt-leb first number below)

pub message_first :
    (first : ℕ) (message : List ℕ) (messages : List (List ℕ)) (number : ℕ) → number ≡ first →
    message_at first (message ∷ messages) number ≡ Some message
message_first first message messages number same =
    let index : number - first ≡ zero = omega arith in
    cond-true _ _ _ (le-leb first number (omega arith)) ∙ ap (slice_get (message ∷ messages)) index

pub message_next :
    (first : ℕ) (message : List ℕ) (messages : List (List ℕ)) (number : ℕ) → first < number →
    message_at first (message ∷ messages) number ≡ message_at (first + 1) messages number
message_next first message messages number above =
    let index : number - first ≡ suc (number - (first + 1)) = omega arith in
    cond-true _ _ _ (le-leb first number (omega arith)) ∙ ap (slice_get (message ∷ messages)) index
    ∙ sym (cond-true _ _ _ (le-leb (first + 1) number (omega arith)))

pub message_none : (first number : ℕ) → message_at first [] number ≡ None
message_none first number = grind (arith, nat_tests)

none_changes :
    (b : Bool) (o : Option (List ℕ)) (was : Option ℕ) → o ≡ None →
    cond b was None ≡ cond b (option_or (option_map digest o) (cond b was None)) None
none_changes b o was none =
    grind (arith, nat_tests, none)

-- What a number has after a message was noted.
noted_at :
    (old mid : List ℕ) (size next at : ℕ) (message : List ℕ) → length old ≡ size → 0 < size → next ≤ at →
    AreEmptied old mid (max next (at - size)) at at → (number : ℕ) → number < at + 1 → at + 1 ≤ number + size →
    digest_in (slot_at (slice_set mid (at % size) (digest message)) number)
    ≡ option_or (digest_at at (message ∷ []) number) (kept_in old next number)
noted_at old mid size next at message counted some ascending emptied number below near =
    let value = digest message in
    let full : length mid ≡ size = emptied.size ∙ counted in
    elim (cases_lt number at) [
      | inr above ↦
          let same : number ≡ at = omega arith in
          let here = slot_here mid size at value number full some (ap (λ (n : ℕ). n % size) same) in
          ap digest_in here ∙ digest_in_some value (digest_some message)
          ∙ sym (ap (λ (o : Option (List ℕ)). option_or (option_map digest o) (kept_in old next number))
          (message_first at message [] number same))
      | inl under ↦
          let there = slot_there mid size at value number full (apart number at size under (omega arith)) in
          let none = message_below at (message ∷ []) number under in
          ap digest_in there
          ∙ elim (cases_lt number next) [
            | inl old_one ↦
                ap digest_in (emptied.same number (omega arith) (omega arith))
                ∙ sym (kept_recent old next number old_one (omega arith))
            | inr left_out ↦
                ap digest_in (emptied.empty number (omega arith) under) ∙ sym (kept_past old next number left_out)
          ]
          ∙ sym (ap (λ (o : Option (List ℕ)). option_or (option_map digest o) (kept_in old next number)) none)
    ]

-- The digests after a message was noted.
pub noted :
    (old mid : List ℕ) (next at : ℕ) (message : List ℕ) → 0 < length old → next ≤ at →
    AreEmptied old mid (max next (at - length old)) at at → (number : ℕ) →
    kept_in (slice_set mid (at % length old) (digest message)) (at + 1) number
    ≡ cond (is_recent (length old) (at + 1) number)
    (option_or (digest_at at (message ∷ []) number) (kept_in old next number)) None
noted old mid next at message some ascending emptied number =
    let size = length old in
    let new = slice_set mid (at % size) (digest message) in
    let full : length new ≡ size = length-set mid (at % size) (digest message) ∙ emptied.size in
    ap (λ (n : ℕ). cond (is_recent n (at + 1) number) (digest_in (slot_at new number)) None) full
    ∙ cond_same (is_recent size (at + 1) number) (digest_in (slot_at new number))
    (option_or (digest_at at (message ∷ []) number) (kept_in old next number)) None
    (λ recent.
    let parts = recent_parts size (at + 1) number recent in
    noted_at old mid size next at message refl some ascending emptied number parts.0 parts.1)

-- The audit has noted a message if its slots and its next number are these.
pub has_noted :
    (old new : Audit) (mid : List ℕ) (at : ℕ) (message : List ℕ) →
    new.slots.items ≡ slice_set mid (at % size_of old) (digest message) → new.next ≡ at + 1 → 0 < size_of old →
    old.next ≤ at → AreEmptied old.slots.items mid (max old.next (at - size_of old)) at at →
    HasNoted old new at (message ∷ [])
has_noted old new mid at message slots next some ascending emptied = record {
  size = ap length slots ∙ length-set mid (at % size_of old) (digest message) ∙ emptied.size;
  next =
      next
      ∙ sym (cond-false (nat_eq (size_of old) 0) old.next (at + 1)
      (ne_eqb (size_of old) 0 (λ none. omega (arith, some, none))));
  digests = λ number.
      ap (λ (s : List ℕ). kept_in s new.next number) slots
      ∙ ap (λ (n : ℕ). kept_in (slice_set mid (at % size_of old) (digest message)) n number) next
      ∙ noted old.slots.items mid old.next at message some ascending emptied number
      ∙ ap (λ (n : ℕ). cond (is_recent (size_of old) n number)
      (option_or (digest_at at (message ∷ []) number) (kept old number)) None) (sym next);
}

-- A number noted in an audit that keeps something is the greatest one.
pub next_noted :
    (size next first : ℕ) (message : List ℕ) (messages : List (List ℕ)) → 0 < size →
    next_after size next first (message ∷ messages) ≡ first + length (message ∷ messages)
next_noted size next first message messages some =
    cond-false (nat_eq size 0) next (first + length (message ∷ messages))
    (ne_eqb size 0 (λ none. omega (arith, some, none)))

-- If nothing was delivered, nothing changes.
pub noted_none : (a : Audit) (first : ℕ) → HasNoted a a first []
noted_none a first = record {
  size = refl;
  next = refl;
  digests = λ number. none_changes (is_recent (size_of a) a.next number) (message_at first [] number)
      (digest_in (slot_at a.slots.items number)) (message_none first number);
}

-- The greatest number noted, after a message and the messages after it.
next_both :
    (size next first : ℕ) (message : List ℕ) (messages : List (List ℕ)) →
    next_after size (next_after size next first (message ∷ [])) (first + 1) messages
    ≡ next_after size next first (message ∷ messages)
next_both size next first message [] = refl
next_both size next first message (second ∷ messages) =
    elim (cases_Bool (nat_eq size 0)) [
      | inl none ↦
          cond-true (nat_eq size 0) _ _ none ∙ cond-true (nat_eq size 0) _ _ none
          ∙ sym (cond-true (nat_eq size 0) _ _ none)
      | inr some ↦
          cond-false (nat_eq size 0) _ _ some ∙ omega arith
          ∙ sym (cond-false (nat_eq size 0) _ _ some)
    ]

-- Up to its first number, a packet has its first message only.
first_only :
    (first : ℕ) (message : List ℕ) (messages : List (List ℕ)) (number : ℕ) → number ≤ first →
    message_at first (message ∷ []) number ≡ message_at first (message ∷ messages) number
first_only first message messages number low =
    elim (cases_lt number first) [
      | inl below ↦
          message_below first (message ∷ []) number below ∙ sym (message_below first (message ∷ messages) number below)
      | inr above ↦
          let same : number ≡ first = omega arith in
          message_first first message [] number same ∙ sym (message_first first message messages number same)
    ]

-- What a number has after a message was noted, and then the messages after it.
digest_both :
    (a b : Audit) (first : ℕ) (message : List ℕ) (messages : List (List ℕ)) → 0 < size_of a → a.next ≤ first →
    HasNoted a b first (message ∷ []) → (number : ℕ) → b.next ≤ number + size_of a →
    option_or (digest_at (first + 1) messages number) (kept b number)
    ≡ option_or (digest_at first (message ∷ messages) number) (kept a number)
digest_both a b first message messages some ascending is number near =
    let next : b.next ≡ first + 1 = is.next ∙ next_noted (size_of a) a.next first message [] some in
    elim (cases_lt first number) [
      | inl above ↦
          let there = ap (option_map digest) (message_next first message messages number above) in
          let before = kept_past a.slots.items a.next number (omega (arith, ascending, above)) in
          let after = kept_past b.slots.items b.next number (omega (arith, next, above)) in
          ap (option_or (digest_at (first + 1) messages number)) (after ∙ sym before)
          ∙ sym (ap (λ (o : Option ℕ). option_or o (kept a number)) there)
      | inr low ↦
          let later = ap (option_map digest) (message_below (first + 1) messages number (omega arith)) in
          let here = ap (option_map digest) (first_only first message messages number low) in
          let recent = is_recent_at (size_of a) b.next number (omega (arith, next, low)) near in
          ap (λ (o : Option ℕ). option_or o (kept b number)) later ∙ is.digests number
          ∙ cond-true (is_recent (size_of a) b.next number)
          (option_or (digest_at first (message ∷ []) number) (kept a number)) None recent
          ∙ ap (λ (o : Option ℕ). option_or o (kept a number)) here
    ]

next_grows :
    (size next first : ℕ) (messages : List (List ℕ)) → next ≤ first → next ≤ next_after size next first messages
next_grows size next first [] low = omega arith
next_grows size next first (message ∷ messages) low =
    elim (cases_Bool (nat_eq size 0)) [
      | inl none ↦ omega (arith, cond-true (nat_eq size 0) next (first + length (message ∷ messages)) none)
      | inr some ↦ omega (arith, cond-false (nat_eq size 0) next (first + length (message ∷ messages)) some, low)
    ]

-- After a message was noted, no greater number was.
pub next_low :
    (a b : Audit) (first : ℕ) (message : List ℕ) → a.next ≤ first → HasNoted a b first (message ∷ []) →
    b.next ≤ first + 1
next_low a b first message ascending is =
    elim (cases_Bool (nat_eq (size_of a) 0)) [
      | inl none ↦
          let next = cond-true (nat_eq (size_of a) 0) a.next (first + length (message ∷ [])) none in
          omega (arith, is.next, next, ascending)
      | inr some ↦
          omega (arith, is.next, cond-false (nat_eq (size_of a) 0) a.next (first + length (message ∷ [])) some)
    ]

pub drop_first :
    (messages : List (List ℕ)) (index : ℕ) (message : List ℕ) → slice_get messages index ≡ Some message →
    drop index messages ≡ message ∷ drop (index + 1) messages
drop_first [] index message is = absurd (none-some message is)
drop_first (first ∷ messages) zero message is =
    ap (λ (m : List ℕ). m ∷ messages) (same_Some first message is)
drop_first (first ∷ messages) (suc index) message is =
    let next : suc index + 1 ≡ suc (index + 1) = omega arith in
    drop_first messages index message is
    ∙ ap (λ (n : ℕ). message ∷ drop n (first ∷ messages)) (sym next)

near_both :
    (size number : ℕ) (b c : Audit) (first : ℕ) (messages : List (List ℕ)) → b.next ≤ first + 1 →
    HasNoted b c (first + 1) messages → c.next ≤ number + size → b.next ≤ number + size
near_both size number b c first messages low more near =
    omega (arith, near, next_grows (size_of b) b.next (first + 1) messages low, more.next)

-- A message was noted, and then the messages after it.
pub noted_both :
    (a b c : Audit) (first : ℕ) (message : List ℕ) (messages : List (List ℕ)) → a.next ≤ first →
    HasNoted a b first (message ∷ []) → HasNoted b c (first + 1) messages → HasNoted a c first (message ∷ messages)
noted_both a b c first message messages ascending one more = record {
  size = more.size ∙ one.size;
  next =
      more.next ∙ ap (λ (n : ℕ). next_after n b.next (first + 1) messages) one.size
      ∙ ap (λ (n : ℕ). next_after (size_of a) n (first + 1) messages) one.next
      ∙ next_both (size_of a) a.next first message messages;
  digests = λ number.
      more.digests number
      ∙ ap (λ (n : ℕ). cond (is_recent n c.next number)
      (option_or (digest_at (first + 1) messages number) (kept b number)) None) one.size
      ∙ cond_same (is_recent (size_of a) c.next number) _ _ None
      (λ recent.
      let parts = recent_parts (size_of a) c.next number recent in
      digest_both a b first message messages (omega (arith, parts.0, parts.1)) ascending one number
      (near_both (size_of a) number b c first messages (next_low a b first message ascending one) more parts.1));
}

pub next_limit :
    (size next first : ℕ) (messages : List (List ℕ)) → next ≤ first →
    next_after size next first messages ≤ first + length messages
next_limit size next first [] low = omega arith
next_limit size next first (message ∷ messages) low =
    elim (cases_Bool (nat_eq size 0)) [
      | inl none ↦ omega (arith, cond-true (nat_eq size 0) next (first + length (message ∷ messages)) none, low)
      | inr some ↦ omega (arith, cond-false (nat_eq size 0) next (first + length (message ∷ messages)) some)
    ]
