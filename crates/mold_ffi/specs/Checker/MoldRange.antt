-- A range of sequence numbers as the fields of a struct, and an array that is filled with ranges.
use Rattle.std.specs.Prelude.{◌≡◌, min, List, length, map, take, drop}
use Rattle.mold_rule.specs.Ranges as missing
use Rattle.mold_ffi.specs.declared.checker.mold_range.MoldRange.{MoldRange}

-- The range of sequence numbers with these fields.
abbrev pub range_of : MoldRange → missing.Range
range_of range = missing.range range.first range.last

-- The array begins with the ranges, in order and as many as it has room for. Its other elements are
-- unchanged.
pub record AreFilled (all : List missing.Range) (old new : List MoldRange) : Type 0 where
  pub front : map range_of (take (min (length old) (length all)) new) ≡ take (min (length old) (length all)) all
  pub behind : drop (min (length old) (length all)) new ≡ drop (min (length old) (length all)) old
