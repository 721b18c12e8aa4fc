-- A storage in memory, and what a crash leaves of it.
use Rattle.std.specs.Prelude.{◌≡◌, ℕ, ◌+◌, ◌-◌, ◌≤◌, Bool, List, [], ◌∷◌, ◌++◌, length, take, drop, ◌==◌, ◌&&◌}
use Rattle.std.specs.Prelude.{if◌then◌else◌}
use Rattle.std.specs.Global.{Vec}
use Rattle.std.proofs.Common.{refl, sym, ap, subst, take_all}
use Rattle.mold_durable.specs.Storage.{IsTornOf}
use Rattle.mold_durable.specs.declared.memory_call.MemoryCall.{MemoryCall}
use Rattle.mold_durable.specs.declared.memory_call.MemoryCall.TheVariants.{Write, Sync}

-- The state of a storage in memory.
pub record MemoryState : Type 0 where
  -- what a read returns
  pub bytes : List ℕ
  -- the calls that changed what a crash may leave, in order
  pub calls : List MemoryCall
  -- the call that fails, counted from 1 for the next call, or 0
  pub fails_at : ℕ
  -- whether that call is a crash
  pub crashes : Bool
  pub failures : ℕ

-- The call that fails, counted from the next call on. After a crash, it is always the next one.
abbrev pub fails_next : Bool → ℕ → ℕ
fails_next crashes fails_at = if crashes && (fails_at == 1) then 1 else fails_at - 1

-- The bytes that a crash may leave after these calls. `before` are those that it may leave before them.
abbrev pub outcomes : (List ℕ → Type 0) → List MemoryCall → List ℕ → Type 0
outcomes before [] = before
outcomes before (Write at count ∷ calls) = outcomes (IsTornOf before at count) calls
outcomes before (Sync kept ∷ calls) = outcomes (λ bytes. bytes ≡ kept.items) calls

-- The bytes that a crash may leave after these calls of a storage that had no bytes.
abbrev pub MayLeave : List MemoryCall → List ℕ → Type 0
MayLeave calls = outcomes (λ bytes. bytes ≡ []) calls

-- A crash after the first `moment` of these calls, or after more of them, may have left these bytes.
pub record LeftSince (calls : List MemoryCall) (moment : ℕ) (bytes : List ℕ) : Type 0 where
  pub after : ℕ
  pub later : moment ≤ after
  pub left : MayLeave (take after calls) bytes

-- The bytes of the tear, written over the bytes from offset `at` on.
abbrev pub torn_over : ℕ → List ℕ → List ℕ → List ℕ
torn_over at tear bytes = take at bytes ++ (tear ++ drop (at + length tear) bytes)

-- The bytes that a crash leaves after these calls. A *tear* has the bytes that a write since the last sync leaves at
-- its offset. `all` are the tears of these writes, and `tears` those that remain. A write without a tear leaves
-- nothing.
abbrev pub left_by : List (Vec ℕ) → List ℕ → List MemoryCall → List (Vec ℕ) → List ℕ
left_by all bytes [] tears = bytes
left_by all bytes (Sync kept ∷ calls) tears = left_by all kept.items calls all
left_by all bytes (Write at count ∷ calls) [] = left_by all bytes calls []
left_by all bytes (Write at count ∷ calls) (tear ∷ tears) =
    left_by all (torn_over at (take count tear.items) bytes) calls tears

-- What a crash may leave now, it may leave since any moment that is not later.
pub left_now : (calls : List MemoryCall) (moment : ℕ) (bytes : List ℕ) → moment ≤ length calls →
    MayLeave calls bytes → LeftSince calls moment bytes
left_now calls moment bytes le left = record {
  after = length calls;
  later = le;
  left = subst (λ (t : List MemoryCall). MayLeave t bytes) (sym (whole calls)) left;
}
  where
    whole : (xs : List MemoryCall) → take (length xs) xs ≡ xs
    whole [] = refl
    whole (x ∷ xs) = ap (λ (t : List MemoryCall). x ∷ t) (whole xs)

-- Since now, a crash may have left only what it may leave now.
pub left_only : (calls : List MemoryCall) (bytes : List ℕ) → LeftSince calls (length calls) bytes →
    MayLeave calls bytes
left_only calls bytes since =
    subst (λ (t : List MemoryCall). MayLeave t bytes) (take_all since.after calls since.later) since.left
