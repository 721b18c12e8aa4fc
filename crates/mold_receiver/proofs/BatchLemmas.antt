-- Batches and the messages that are appended to them.
use Rattle.std.proofs.Common.{◌≡◌, ℕ, zero, suc, ◌+◌, ◌-◌, ◌<◌, ◌≤◌, List, [], ◌∷◌, ◌++◌, length, length-append, take}
use Rattle.std.proofs.Common.{refl, sym, ap, subst, ◌∙◌, append_assoc, arith, max, drop, cond, ltb, inl, inr}
use Rattle.std.proofs.lemmas.List.{append-nil, take_at}
use Rattle.std.specs.Prelude.{Option, None, Some}
use Rattle.std.proofs.lemmas.Bool.{cases_lt, cond-true, cond-false, lt-ltb, le-ltb}
use Rattle.mold_receiver.specs.Handing.{run_in, Grew}
use Rattle.mold_receiver.specs.Slots.{Slot, count_held, slot_at}
use Rattle.mold_receiver.specs.Store.{Message, behind_some, run_from}
use Rattle.mold_receiver.proofs.SlotLemmas.{all_empty}
use Rattle.mold_receiver.proofs.StoreLemmas.{none_some}
use Rattle.mold_receiver.specs.Batch.{Handed, handed_from, Follows, FollowsIn, followed_by, joined_first}

take_all : (messages : List Message) → take (length messages) messages ≡ messages
take_all [] = refl
take_all (m ∷ messages) = ap (λ (t : List Message). m ∷ t) (take_all messages)

follows_in : (first : ℕ) (messages : List Message) (next : ℕ) (m : Message) (more : List Message) →
    FollowsIn first messages next
    → FollowsIn (joined_first first messages next) (messages ++ m ∷ more) (next + suc (length more))
follows_in first [] next m more follows = refl
follows_in first (x ∷ messages) next m more follows = omega (arith, follows, length-append messages (m ∷ more))

-- After messages are appended, the next number may follow.
pub follows_after : (batch : Handed) (next : ℕ) (more : List Message) → Follows batch next →
    Follows (followed_by batch next more) (next + length more)
follows_after batch next [] follows =
    subst (λ (n : ℕ). Follows batch n) (let e : next ≡ next + 0 = omega arith in e) follows
follows_after batch next (m ∷ more) follows = follows_in batch.first batch.messages next m more follows

first_twice : (first : ℕ) (messages : List Message) (next : ℕ) (m : Message) (more : List Message) (at : ℕ)
    → joined_first (joined_first first messages next) (messages ++ m ∷ more) at ≡ joined_first first messages next
first_twice first [] next m more at = refl
first_twice first (x ∷ messages) next m more at = refl

-- Appending some messages and then others is the same as appending both at once.
pub followed_twice : (batch : Handed) (next : ℕ) (more : List Message) (at : ℕ) (others : List Message) →
    next + length more ≡ at
    → followed_by (followed_by batch next more) at others ≡ followed_by batch next (more ++ others)
followed_twice batch next [] at others is =
    ap (λ (n : ℕ). followed_by batch n others) (let e : at ≡ next = omega (arith, is) in e)
followed_twice batch next (m ∷ more) at [] is = ap (followed_by batch next) (sym (append-nil (m ∷ more)))
followed_twice batch next (m ∷ more) at (o ∷ others) is =
    λ i. record {
      first = first_twice batch.first batch.messages next m more at i;
      messages = append_assoc batch.messages (m ∷ more) (o ∷ others) i;
    }

cut_back : (first : ℕ) (messages : List Message) (next : ℕ) (m : Message) (more : List Message)
    → handed_from (joined_first first messages next)
    (take (length messages) (messages ++ m ∷ more)) ≡ handed_from first messages
cut_back first [] next m more = refl
cut_back first (x ∷ messages) next m more =
    ap (λ (t : List Message). record { first = first; messages = x ∷ t })
    (take_at messages (m ∷ more) (length messages) refl)

-- A batch that grew and is truncated to its old length is the old batch.
pub cut_followed : (batch : Handed) (next : ℕ) (more : List Message) → batch ≡ handed_from batch.first batch.messages
    → handed_from (followed_by batch next more).first
    (take (length batch.messages) (followed_by batch next more).messages) ≡ batch
cut_followed batch next [] normal = ap (handed_from batch.first) (take_all batch.messages) ∙ sym normal
cut_followed batch next (m ∷ more) normal = cut_back batch.first batch.messages next m more ∙ sym normal

-- The state of a loop that delivers: what the batch has got so far, and what remains of the whole.
pub record IsHanding (old new : Handed) (next at : ℕ) (left whole : List Message) : Type 0 where
  pub handed : List Message
  pub batch : new ≡ followed_by old next handed
  pub parts : handed ++ left ≡ whole
  pub counted : next + length handed ≡ at

pub handing_none : (old : Handed) (next : ℕ) (whole : List Message) → IsHanding old old next next whole whole
handing_none old next whole = record { handed = []; batch = refl; parts = refl; counted = omega arith }

pub handing_one : (old new newer : Handed) (next at : ℕ) (m : Message) (left whole : List Message) →
    IsHanding old new next at (m ∷ left) whole
    → newer ≡ followed_by new at (m ∷ []) → IsHanding old newer next (suc at) left whole
handing_one old new newer next at m left whole is pushed = record {
  handed = is.handed ++ m ∷ [];
  batch = pushed ∙ ap (λ (b : Handed). followed_by b at (m ∷ [])) is.batch
      ∙ followed_twice old next is.handed at (m ∷ []) is.counted;
  parts = append_assoc is.handed (m ∷ []) left ∙ is.parts;
  counted = omega (arith, is.counted, length-append is.handed (m ∷ []));
}

pub handing_follows : (old new : Handed) (next at : ℕ) (left whole : List Message) →
    IsHanding old new next at left whole → Follows old next → Follows new at
handing_follows old new next at left whole is follows =
    subst (λ (b : Handed). Follows b at) (sym is.batch)
    (subst (λ (n : ℕ). Follows (followed_by old next is.handed) n) is.counted
    (follows_after old next is.handed follows))

pub handing_done : (old new : Handed) (next at : ℕ) (whole : List Message) → IsHanding old new next at [] whole →
    new ≡ followed_by old next whole
handing_done old new next at whole is = is.batch ∙ ap (followed_by old next) (sym (append-nil is.handed) ∙ is.parts)

-- A message of a packet is delivered if its number isn't below the first number to deliver.
pub handing_from : (old new newer : Handed) (next n : ℕ) (m : Message) (ms whole : List Message) →
    IsHanding old new next (max n next) (drop (next - n) (m ∷ ms)) whole
    → newer ≡ cond (ltb n next) new (followed_by new n (m ∷ [])) →
    IsHanding old newer next (max (n + 1) next) (drop (next - (n + 1)) ms) whole
handing_from old new newer next n m ms whole is pushed =
    elim (cases_lt n next) [
      | inl below ↦
          let one : next - n ≡ suc (next - (n + 1)) = omega arith in
          let same : max n next ≡ max (n + 1) next = omega arith in
          subst (λ (b : Handed). IsHanding old b next (max (n + 1) next) (drop (next - (n + 1)) ms) whole)
          (sym (pushed ∙ cond-true (ltb n next) new (followed_by new n (m ∷ [])) (lt-ltb n next below)))
          (subst (λ (k : ℕ). IsHanding old new next k (drop (next - (n + 1)) ms) whole) same
          (subst (λ (k : ℕ). IsHanding old new next (max n next) (drop k (m ∷ ms)) whole) one is))
      | inr above ↦
          let none : next - n ≡ 0 = omega arith in
          let at : max n next ≡ n = omega arith in
          let behind : suc n ≡ max (n + 1) next = omega arith in
          let left : 0 ≡ next - (n + 1) = omega arith in
          subst (λ (k : ℕ). IsHanding old newer next k (drop (next - (n + 1)) ms) whole) behind
          (subst (λ (k : ℕ). IsHanding old newer next (suc n) (drop k ms) whole) left
          (handing_one old new newer next n m ms whole
          (subst (λ (k : ℕ). IsHanding old new next k (m ∷ ms) whole) at
          (subst (λ (k : ℕ). IsHanding old new next (max n next) (drop k (m ∷ ms)) whole) none is))
          (pushed ∙ cond-false (ltb n next) new (followed_by new n (m ∷ [])) (le-ltb n next above))))
    ]

pub handing_begins : (old : Handed) (next n : ℕ) (ms : List Message) → n ≤ next →
    IsHanding old old next (max n next) (drop (next - n) ms) (drop (next - n) ms)
handing_begins old next n ms begun =
    subst (λ (k : ℕ). IsHanding old old next k (drop (next - n) ms) (drop (next - n) ms))
    (let e : next ≡ max n next = omega arith in e) (handing_none old next (drop (next - n) ms))

drop_none : (n : ℕ) → drop {A = Message} n [] ≡ []
drop_none zero = refl
drop_none (suc n) = refl

pub handing_ends : (old new : Handed) (next n : ℕ) (whole : List Message) →
    IsHanding old new next (max n next) (drop (next - n) []) whole → new ≡ followed_by old next whole
handing_ends old new next n whole is =
    handing_done old new next (max n next) whole
    (subst (λ (t : List Message). IsHanding old new next (max n next) t whole) (drop_none (next - n)) is)

none_run : (look : ℕ → Option Message) (at most : ℕ) → look at ≡ None → run_from look at most ≡ []
unfolding run_from
none_run look at zero is = refl
none_run look at (suc most) is = ap (λ (o : Option Message). behind_some o (run_from look (suc at) most)) is

pub slot_within : (slots : List Slot) (at : ℕ) (m : Message) → slot_at slots at ≡ Some m → at < length slots
slot_within [] at m is = absurd (none_some is)
slot_within (s ∷ slots) zero m is = omega arith
slot_within (s ∷ slots) (suc at) m is = omega (arith, slot_within slots at m is)

-- A run begins with the message of its first slot, and the rest of the run follows. If that slot is empty, the run is
-- empty.
pub run_more : (slots : List Slot) (at : ℕ) (m : Message) → slot_at slots at ≡ Some m →
    run_in slots at ≡ m ∷ run_in slots (at + 1)
unfolding run_from
run_more slots at m is =
    let within : at < length slots = omega (arith, slot_within slots at m is) in
    let one : length slots - at ≡ suc (length slots - (at + 1)) = omega arith in
    let next : suc at ≡ at + 1 = omega arith in
    ap (run_from (slot_at slots) at) one
    ∙ ap (λ (o : Option Message). behind_some o (run_from (slot_at slots) (suc at) (length slots - (at + 1)))) is
    ∙ ap (λ (k : ℕ). m ∷ run_from (slot_at slots) k (length slots - (at + 1))) next

pub run_none : (slots : List Slot) (at : ℕ) → slot_at slots at ≡ None → run_in slots at ≡ []
run_none slots at is = none_run (slot_at slots) at (length slots - at) is

-- If all slots are empty, each run is empty.
pub run_of_none : (slots : List Slot) (at : ℕ) → count_held slots ≡ 0 → run_in slots at ≡ []
run_of_none slots at none = run_none slots at (all_empty slots none at)

pub handing_length : (old new : Handed) (next at : ℕ) (whole : List Message) → IsHanding old new next at [] whole →
    next + length whole ≡ at
handing_length old new next at whole is =
    ap (λ (t : List Message). next + length t) (sym is.parts ∙ append-nil is.handed) ∙ is.counted

-- Two steps of growth are one.
pub grew_twice : (old new newer : Handed) (next at : ℕ) (more : List Message) → new ≡ followed_by old next more →
    next + length more ≡ at → Grew new newer at → Grew old newer next
grew_twice old new newer next at more is counted grew = record {
  handed = more ++ grew.handed;
  batch = grew.batch ∙ ap (λ (b : Handed). followed_by b at grew.handed) is
      ∙ followed_twice old next more at grew.handed counted;
}

-- A batch that grew and is truncated to its old length is the old batch.
pub cut_grown : (old new : Handed) (next : ℕ) → old ≡ handed_from old.first old.messages → Grew old new next →
    handed_from new.first (take (length old.messages) new.messages) ≡ old
cut_grown old new next normal grew =
    ap (λ (b : Handed). handed_from b.first (take (length old.messages) b.messages)) grew.batch
    ∙ cut_followed old next grew.handed normal
