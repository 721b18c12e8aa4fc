-- An input that comes in pieces, and its remaining entries.
use Rattle.std.specs.Prelude.{◌≡◌, ℕ, false, true, List, [], ◌++◌, Option, None, Some, ⊤}
use Rattle.std.specs.Io.KnownBytes.{IsAtEnd}
use Rattle.mold_input.specs.Entries.{Entry}
use Rattle.mold_input.specs.LongLines.{PartState, bytes_of}
use Rattle.mold_feeder.specs.ToEmpty.{source_left}
use Rattle.mold_feeder.specs.declared.piece_input.PieceInput.{PieceInput}

-- The entries `come`, and then those of the bytes `part` with the bytes after them, if these are known.
abbrev pub entries_after : (List ℕ → List Entry) → List Entry → List ℕ → Option (List ℕ) → Option (List Entry)
entries_after entries come part None = None
entries_after entries come part (Some left) = Some (come ++ entries (part ++ left))

-- The remaining entries are the same, if they were known.
abbrev pub KeepsRest : Option (List Entry) → Option (List Entry) → Type 0
KeepsRest None new = ⊤
KeepsRest (Some entries) None = ⊥
KeepsRest (Some entries) (Some others) = others ≡ entries

-- The bytes of the whole entries that have come and are not taken yet.
abbrev pub bytes_come : {M K : Type 0} → (M → List ℕ) → PieceInput M K → List ℕ
bytes_come unread input = unread input.come.messages ++ input.come.source

-- The remaining entries of the input, if they are known: those that have come, and those that come later.
abbrev pub entries_of_rest : {M K : Type 0} → (M → List ℕ) → (K → Option (List ℕ)) → (List ℕ → List Entry) →
    PieceInput M K → Option (List Entry)
entries_of_rest unread left entries input =
    entries_after entries (entries (bytes_come unread input)) (bytes_of input.part) (source_left left input.source)

-- What holds of an input: if it is not ready, all entries that have come were taken. If it has ended, nothing comes
-- after those that have come.
pub record IsInput {M K : Type 0} (is_part : PartState → Type 0) (unread : M → List ℕ) (left : K → Option (List ℕ))
    (input : PieceInput M K) : Type 0 where
  pub part : is_part input.part
  pub taken : input.ready ≡ false → bytes_come unread input ≡ []
  pub over : input.ended ≡ true → (bytes_of input.part ≡ []) × IsAtEnd (source_left left input.source)
