use Rattle.std.proofs.Common.{◌≡◌, ltb, take}
use Rattle.std.specs.List.{list_all}
use Rattle.hex.specs.Hex.{is_hex_digit}
use Rattle.mold_digits.proofs.digits.are_digits.Given as goal

-- The values so far are all below 16 exactly if the bytes so far are digits.
abbrev pub invariant-bytes : goal.invariant-bytes
invariant-bytes l = ltb l.seen 16 ≡ list_all is_hex_digit (take l.i l.bytes)
