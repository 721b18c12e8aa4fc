-- What the calls of a storage do to its bytes, and what a crash leaves of them.
use Rattle.std.specs.Prelude.{◌≡◌, ◌⊎◌, ℕ, ◌+◌, ◌≤◌, max, min, List, ◌++◌, length, take, drop, ◌-◌}

-- The bytes `new` are the bytes `old` with `bytes` written over them from offset `at` on.
abbrev pub Holds : ℕ → List ℕ → List ℕ → List ℕ → Type 0
Holds at bytes old new = new ≡ take at old ++ (bytes ++ drop (at + length bytes) old)

-- A crash may leave the bytes `new` of the bytes `old` after a write of `count` bytes at offset `at` that was not
-- synced. They have any bytes in that range, any length between the old one and the new one, and the same bytes
-- elsewhere.
pub record Torn (at count : ℕ) (old new : List ℕ) : Type 0 where
  pub before : take at new ≡ take at old
  pub after : drop (at + count) new ≡ drop (at + count) old
  pub no_shorter : length old ≤ length new
  pub no_longer : length new ≤ max (length old) (at + count)

-- The bytes after a write. Nothing is specified about a write that begins after the end of the bytes.
abbrev pub IsWritten : ℕ → List ℕ → List ℕ → List ℕ → Type 0
IsWritten at bytes old new = at ≤ length old → Holds at bytes old new

-- The bytes that a crash may leave after a write. Nothing is specified about a write that begins after the end of the
-- bytes.
abbrev pub MayTear : ℕ → ℕ → List ℕ → List ℕ → Type 0
MayTear at count old new = at ≤ length old → Torn at count old new

-- Each of the bytes `new` is one of the bytes `old` after the step.
abbrev pub Follows : (List ℕ → List ℕ → Type 0) → (List ℕ → Type 0) → (List ℕ → Type 0) → Type 0
Follows step old new = (bytes : List ℕ) → new bytes → (before : List ℕ) × old before × step before bytes

-- All bytes that satisfy `new` satisfy `old`.
abbrev pub IsWithin : (List ℕ → Type 0) → (List ℕ → Type 0) → Type 0
IsWithin old new = (bytes : List ℕ) → new bytes → old bytes

-- The same bytes satisfy `old` and `new`.
abbrev pub AreSame : (List ℕ → Type 0) → (List ℕ → Type 0) → Type 0
AreSame old new = IsWithin old new × IsWithin new old

-- The first `count` bytes of the buffer are those from offset `at` on, as many as there are or as fit.
pub record IsPartAt (at : ℕ) (bytes : List ℕ) (count : ℕ) (buffer : List ℕ) : Type 0 where
  pub counted : count ≡ min (length buffer) (length bytes - at)
  pub part : take count buffer ≡ take count (drop at bytes)

-- Time passes from the moment `before` to the moment `now`. What a crash since a moment may have left is what it may
-- have left before, or what it may leave now.
pub record Elapses (before now : ℕ) (past since : ℕ → List ℕ → Type 0) (may_leave : List ℕ → Type 0) : Type 0 where
  pub later : before ≤ now
  pub nothing_else : (moment : ℕ) (bytes : List ℕ) → moment ≤ before → since moment bytes →
      past moment bytes ⊎ may_leave bytes
  pub keeps : (moment : ℕ) (bytes : List ℕ) → moment ≤ before → past moment bytes → since moment bytes

-- A crash at any moment from `old` to `new` leaves bytes that satisfy P.
pub record LeavesOnly {S : Type 0} (moment : S → ℕ) (left_since : S → ℕ → List ℕ → Type 0) (old new : S)
    (P : List ℕ → Type 0) : Type 0 where
  pub later : moment old ≤ moment new
  pub each : (bytes : List ℕ) → left_since new (moment old) bytes → P bytes
  -- What a crash leaves since an earlier moment is what it left before the call, or it satisfies P.
  pub before : (earlier : ℕ) (bytes : List ℕ) → earlier ≤ moment old → left_since new earlier bytes →
      left_since old earlier bytes ⊎ P bytes

-- The storage was read or synced, and nothing was written: the same bytes are shown, and a crash at any moment leaves
-- only what it might have left before.
pub record OnlyReads {S : Type 0} (shows may_leave : S → List ℕ → Type 0) (moment : S → ℕ)
    (left_since : S → ℕ → List ℕ → Type 0) (old new : S) : Type 0 where
  pub shown : AreSame (shows old) (shows new)
  pub crash : IsWithin (may_leave old) (may_leave new)
  pub any_moment : LeavesOnly moment left_since old new (may_leave old)

-- All bytes that a read may return or a crash may leave satisfy P.
pub record IsKept (shows may_leave : List ℕ → Type 0) (P : List ℕ → Type 0) : Type 0 where
  pub shown : (bytes : List ℕ) → shows bytes → P bytes
  pub left : (bytes : List ℕ) → may_leave bytes → P bytes

-- One of the bytes that a crash may leave before a write, after that write.
pub record IsTornOf (may_leave : List ℕ → Type 0) (at count : ℕ) (bytes : List ℕ) : Type 0 where
  pub before : List ℕ
  pub left : may_leave before
  pub torn : MayTear at count before bytes
