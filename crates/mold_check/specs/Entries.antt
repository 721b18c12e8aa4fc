-- The datagrams among the entries of a folder, and their order.
use Rattle.std.specs.Prelude.{◌≡◌, ℕ, ◌<◌, Bool, List, length, slice_index_or, codes, string_bytes}
use Rattle.std.specs.Cmp.Lexicographic.{slice_cmp}
use Rattle.std.specs.List.{ends_with, filter}
use Rattle.std.specs.List.Sorted.{IsPermutation, IsSortedBy}
use Rattle.std.specs.Ordering.{is_lt, nat_cmp}
use Rattle.std.specs.Prelude.{nat_eq}
use Rattle.mold_check.specs.declared.entry.Entry.{Entry}

-- The bytes of an entry's name.
abbrev pub name_of : Entry → List ℕ
name_of entry = string_bytes entry.name

-- The contents of an entry.
abbrev pub bytes_of : Entry → List ℕ
bytes_of entry = entry.bytes.items

-- Whether the name is that of a datagram: it ends in `.pkt`.
abbrev pub names_datagram : List ℕ → Bool
names_datagram name = ends_with nat_eq name (codes ".pkt")

-- Whether the entry is a datagram.
abbrev pub is_datagram : Entry → Bool
is_datagram entry = names_datagram (name_of entry)

-- Whether the bytes of the entry's name are below those of the other's.
abbrev pub is_below : Entry → Entry → Bool
is_below entry other = is_lt (slice_cmp nat_cmp (name_of entry) (name_of other))

-- The datagrams among the entries, in ascending order of the bytes of their names.
pub record IsOrder (entries order : List Entry) : Type 0 where
  pub moved : IsPermutation (filter is_datagram entries) order
  pub ascending : IsSortedBy is_below order

-- No two entries have the same name.
abbrev pub NamesDiffer : List Entry → Type 0
NamesDiffer entries = (i j : ℕ) (d : Entry) → i < j → j < length entries →
    name_of (slice_index_or entries i d) ≡ name_of (slice_index_or entries j d) → ⊥
