-- How offsets in blocks represent a list of offsets.
use Rattle.std.specs.Prelude.{◌≡◌, ℕ, ◌+◌, ◌*◌, ◌/◌, ◌%◌, ◌<◌, ◌≤◌, ◌^◌, List, length, get_or, map}
use Rattle.std.specs.List.{range_with_len}
use Rattle.mold_capture.specs.declared.offsets.TheConstants.{BLOCK, MAX_STEP}

-- The offset at an index: the base of its block and its distance from the base.
abbrev pub offset : List ℕ → List ℕ → ℕ → ℕ
offset bases parts i = get_or bases (i / BLOCK) 0 + get_or parts i 0

-- The offsets that bases and distances represent.
unfoldable pub offsets : List ℕ → List ℕ → List ℕ
offsets bases parts = map (offset bases parts) (range_with_len 0 (length parts))

-- The bases and distances are valid: each block has a base, the distances grow by at most `MAX_STEP` from one to the
-- next, and the offsets have 64 bits.
pub record AreOffsets (bases parts : List ℕ) : Type 0 where
  -- each distance has a block with a base
  pub covered : length parts ≤ BLOCK * length bases
  -- each block has a distance
  pub tight : BLOCK * length bases < length parts + BLOCK
  pub near : (i : ℕ) → i < length parts → get_or parts i 0 ≤ (i % BLOCK + 1) * MAX_STEP
  pub bound : (i : ℕ) → i < length parts → offset bases parts i < 2 ^ 64

-- The bases `now` have the base of a block, which is the last block or the one after it. In the second case the base is
-- `last`. The other bases are those of `bases`.
pub record HasBase (bases : List ℕ) (block last base : ℕ) (now : List ℕ) : Type 0 where
  pub stays : (i : ℕ) → i < length bases → get_or now i 0 ≡ get_or bases i 0
  pub here : get_or now block 0 ≡ base
  pub fresh : block ≡ length bases → base ≡ last
  pub old : block < length bases → length now ≡ length bases
  pub new : block ≡ length bases → length now ≡ length bases + 1
