-- What sources and sinks of bytes do: the definitions that their contracts share.
use Rattle.std.specs.Prelude.{◌≡◌, ℕ, ◌+◌, Bool, List, ◌++◌, Option, Result, MatchResult}
use Rattle.std.specs.Io.Iter.{u64_saturate}
use Rattle.std.specs.Io.KnownBytes.{Appends}

-- The number `n` increased by one, or `u64::MAX` if it is already there.
abbrev pub one_more : ℕ → ℕ
one_more n = u64_saturate (n + 1)

-- The count of failures is unchanged if the call succeeds, and increases by one if it fails.
abbrev pub Counts : {T E : Type 0} → ℕ → ℕ → Result T E → Type 0
Counts old new result = MatchResult result (λ _. new ≡ old) (λ _. new ≡ one_more old)

-- If the bytes that the sink holds are known, a prefix of the text was appended to them.
pub record AppendsPrefix (old new : Option (List ℕ)) (text : List ℕ) : Type 0 where
  -- The prefix that was appended.
  pub front : List ℕ
  -- The rest of the text.
  pub rest : List ℕ
  pub parts : text ≡ front ++ rest
  pub appended : Appends old new front

-- The model of a reader that is used as a source.
pub record ReaderState (R : Type 0) : Type 0 where
  pub reader : R
  -- The calls that the source still passes to the reader.
  pub calls_left : ℕ
  pub failures : ℕ

-- The model of a writer that is used as a sink.
pub record WriterState (W : Type 0) : Type 0 where
  pub writer : W
  pub failures : ℕ
  -- Whether text is written to it as soon as it is available.
  pub live : Bool

-- The model of a source in memory.
pub record MemoryLeft : Type 0 where
  -- The remaining bytes.
  pub left : List ℕ
  -- The call that fails, counted from 1 for the next call. 0 means that no call fails.
  pub fails_at : ℕ
  -- The greatest number of bytes that a call moves.
  pub most : ℕ
  pub failures : ℕ

-- The model of a sink in memory.
pub record MemoryHeld : Type 0 where
  -- The bytes that the sink has taken.
  pub held : List ℕ
  -- The number of bytes that the sink can hold without allocating.
  pub room : ℕ
  -- The call that fails, counted from 1 for the next call. 0 means that no call fails.
  pub fails_at : ℕ
  -- The greatest number of bytes that a call moves.
  pub most : ℕ
  pub failures : ℕ
