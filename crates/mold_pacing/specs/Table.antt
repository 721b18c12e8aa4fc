-- The table of requests: how a request enters it.
use Rattle.std.specs.Prelude.{◌≡◌, ℕ, ◌<◌, ◌≤◌, ◌||◌, Bool, true, false, List, [], ◌∷◌, length, nat_le, nat_lt}
use Rattle.std.specs.Prelude.{if◌then◌else◌}
use Rattle.std.specs.Prelude.{Option, None, Some, find, remove, slice_get}
use Rattle.std.specs.List.{list_any}
use Rattle.mold_pacing.specs.Flight.{is_over, is_stale}
use Rattle.mold_pacing.specs.declared.flight.Flight.{Flight}

-- Whether a request can enter the table: it has a spare place, or a request that is over.
abbrev pub has_room : ℕ → ℕ → List Flight → Bool
has_room places now fs = nat_lt (length fs) places || list_any (is_over now) fs

-- The table with a request inserted, before the first request that doesn't begin below it.
abbrev pub placed : Flight → List Flight → List Flight
placed sent [] = sent ∷ []
placed sent (f ∷ fs) = if nat_le sent.first f.first then sent ∷ f ∷ fs else f ∷ placed sent fs

-- The table without the request at this index, if there is an index.
abbrev pub without : Option ℕ → List Flight → List Flight
without None fs = fs
without (Some index) fs = remove fs index

-- The request at the index is over.
pub record IsOverAt (fs : List Flight) (now index : ℕ) : Type 0 where
  pub flight : Flight
  pub there : slice_get fs index ≡ Some flight
  pub over : flight.until ≤ now

-- The index of the request that leaves the table for a new one. It is over. There is no index only if the table has a
-- spare place.
abbrev pub CanLeave : List Flight → ℕ → ℕ → Option ℕ → Type 0
CanLeave fs places now None = length fs < places
CanLeave fs places now (Some index) = IsOverAt fs now index

-- The place for a request that begins with this number. If an earlier request for the number is over, its record is
-- `before`, and it leaves.
pub record IsPlace (fs : List Flight) (places now number : ℕ) (leaves : Option ℕ) (before : Option Flight) :
    Type 0 where
  pub can : CanLeave fs places now leaves
  pub last : before ≡ find (is_stale now number) fs
  pub again : (f : Flight) → before ≡ Some f → (index : ℕ) × (leaves ≡ Some index) × (slice_get fs index ≡ Some f)

-- The first request that passes the test is at this index.
pub record IsFound (p : Flight → Bool) (fs : List Flight) (index : ℕ) : Type 0 where
  pub flight : Flight
  pub there : slice_get fs index ≡ Some flight
  pub passes : p flight ≡ true
  pub found : find p fs ≡ Some flight

-- The requests before this index begin below `first`.
abbrev pub AreBelow : List Flight → ℕ → ℕ → Type 0
AreBelow fs index first = (i : ℕ) (f : Flight) → i < index → slice_get fs i ≡ Some f → f.first < first

-- No request before this index passes the test.
abbrev pub NonePass : (Flight → Bool) → List Flight → ℕ → Type 0
NonePass p fs index = (i : ℕ) (f : Flight) → i < index → slice_get fs i ≡ Some f → p f ≡ false
