-- How a run of calls of a storage goes on.
use Rattle.std.proofs.Common.{inl, inr, ⊎_elim, ℕ, List, refl, arith}
use Rattle.mold_durable.specs.Storage.{AreSame, Elapses, Follows, IsTornOf, IsWithin, LeavesOnly, MayTear, OnlyReads, Torn}

module _ {S : Type 0} (moment : S → ℕ) (left_since : S → ℕ → List ℕ → Type 0) where
  -- Before the first call.
  pub started :
      (old : S) (P : List ℕ → Type 0) → ((bytes : List ℕ) → left_since old (moment old) bytes → P bytes) →
      LeavesOnly moment left_since old old P
  started old P here = record { later = omega arith; each = here; before = λ earlier bytes le left. inl left }

  -- One more call, after which a crash leaves what has P.
  pub goes_on :
      (old mid new : S) (P may_leave : List ℕ → Type 0) → LeavesOnly moment left_since old mid P →
      Elapses (moment mid) (moment new) (left_since mid) (left_since new) may_leave →
      ((bytes : List ℕ) → may_leave bytes → P bytes) → LeavesOnly moment left_since old new P
  goes_on old mid new P may_leave so_far time here = record {
    later = omega (arith, so_far.later, time.later);
    each = λ bytes left.
        ⊎_elim (so_far.each bytes) (here bytes) (time.nothing_else (moment old) bytes so_far.later left);
    before = λ earlier bytes le left.
        ⊎_elim (so_far.before earlier bytes le) (λ now. inr (here bytes now))
        (time.nothing_else earlier bytes (omega (arith, le, so_far.later)) left);
  }

  -- Two runs, one after the other.
  pub joined :
      (old mid new : S) (P : List ℕ → Type 0) → LeavesOnly moment left_since old mid P →
      LeavesOnly moment left_since mid new P → LeavesOnly moment left_since old new P
  joined old mid new P first second = record {
    later = omega (arith, first.later, second.later);
    each = λ bytes left.
        ⊎_elim (first.each bytes) (λ has. has) (second.before (moment old) bytes first.later left);
    before = λ earlier bytes le left.
        ⊎_elim (first.before earlier bytes le) (λ has. inr has)
        (second.before earlier bytes (omega (arith, le, first.later)) left);
  }

  -- What has P has Q.
  pub weaker :
      (old new : S) (P Q : List ℕ → Type 0) → LeavesOnly moment left_since old new P →
      ((bytes : List ℕ) → P bytes → Q bytes) → LeavesOnly moment left_since old new Q
  weaker old new P Q run widens = record {
    later = run.later;
    each = λ bytes left. widens bytes (run.each bytes left);
    before = λ earlier bytes le left.
        ⊎_elim (λ was. inl was) (λ has. inr (widens bytes has)) (run.before earlier bytes le left);
  }

-- Bytes that were never changed are a possible outcome of every write.
pub torn_none : (at count : ℕ) (bytes : List ℕ) → Torn at count bytes bytes
torn_none at count bytes = record { before = refl; after = refl; no_shorter = omega arith; no_longer = omega arith }

-- What a crash may leave before a write, and after it.
pub torn_start :
    (may_leave : List ℕ → Type 0) (at count : ℕ) (bytes : List ℕ) → may_leave bytes →
    IsTornOf may_leave at count bytes
torn_start may_leave at count bytes left =
    record { before = bytes; left = left; torn = λ within. torn_none at count bytes }

pub torn_step :
    (old new : List ℕ → Type 0) (at count : ℕ) → Follows (MayTear at count) old new → (bytes : List ℕ) → new bytes →
    IsTornOf old at count bytes
torn_step old new at count follows bytes left =
    let from = follows bytes left in
    record { before = from.0; left = from.1; torn = from.2 }

-- A storage that is only read or synced.
module _ {S : Type 0} (shows may_leave : S → List ℕ → Type 0) (moment : S → ℕ) (left_since : S → ℕ → List ℕ → Type 0) where
  -- Before the first call.
  pub reads_none :
      (old : S) → ((bytes : List ℕ) → left_since old (moment old) bytes → may_leave old bytes) →
      OnlyReads shows may_leave moment left_since old old
  reads_none old here = record {
    shown = (λ bytes now. now, λ bytes now. now);
    crash = λ bytes now. now;
    any_moment = started moment left_since old (may_leave old) here;
  }

  -- One more call.
  pub reads_more :
      (old mid new : S) → OnlyReads shows may_leave moment left_since old mid → AreSame (shows mid) (shows new) →
      IsWithin (may_leave mid) (may_leave new) →
      Elapses (moment mid) (moment new) (left_since mid) (left_since new) (may_leave new) →
      OnlyReads shows may_leave moment left_since old new
  reads_more old mid new so_far same within time = record {
    shown = (
      λ bytes now. so_far.shown.0 bytes (same.0 bytes now),
      λ bytes now. same.1 bytes (so_far.shown.1 bytes now),
    );
    crash = λ bytes now. so_far.crash bytes (within bytes now);
    any_moment = goes_on moment left_since old mid new (may_leave old) (may_leave new) so_far.any_moment time
        (λ bytes now. so_far.crash bytes (within bytes now));
  }

  -- Two runs, one after the other.
  pub reads_joined :
      (old mid new : S) → OnlyReads shows may_leave moment left_since old mid →
      OnlyReads shows may_leave moment left_since mid new → OnlyReads shows may_leave moment left_since old new
  reads_joined old mid new first second = record {
    shown = (
      λ bytes now. first.shown.0 bytes (second.shown.0 bytes now),
      λ bytes now. second.shown.1 bytes (first.shown.1 bytes now),
    );
    crash = λ bytes now. first.crash bytes (second.crash bytes now);
    any_moment = joined moment left_since old mid new (may_leave old) first.any_moment
        (weaker moment left_since mid new (may_leave mid) (may_leave old) second.any_moment first.crash);
  }

  -- One call.
  pub reads_one :
      (old new : S) → ((bytes : List ℕ) → left_since old (moment old) bytes → may_leave old bytes) →
      AreSame (shows old) (shows new) → IsWithin (may_leave old) (may_leave new) →
      Elapses (moment old) (moment new) (left_since old) (left_since new) (may_leave new) →
      OnlyReads shows may_leave moment left_since old new
  reads_one old new here same within time = reads_more old old new (reads_none old here) same within time
