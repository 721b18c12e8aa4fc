-- How the datagrams of a check are named in its report.
use Rattle.std.specs.Prelude.{ℕ, List, [], ◌∷◌, map, slice_index_or, decimal}
use Rattle.std.specs.Borrow.{Bor}
use Rattle.mold_text.specs.Line.{joined}
use Rattle.mold_check.specs.Entries.{name_of}
use Rattle.mold_check.specs.declared.entry.Entry.{Entry}

-- The name of a datagram by a word and its number.
abbrev pub counted : List ℕ → ℕ → List ℕ
counted word number = joined (word ∷ decimal number ∷ [])

-- The name of a datagram, whose number is its index in this list of names.
abbrev pub listed : List (List ℕ) → ℕ → List ℕ
listed names number = slice_index_or names number []

-- The names of borrowed entries.
abbrev pub lent_names : List (Bor Entry) → List (List ℕ)
lent_names order = map (λ entry. name_of entry.now) order
