use Rattle.std.proofs.Common.{◌≡◌, ◌++◌, drop, length, take}
use Rattle.std.specs.List.{flat_map}
use Rattle.mold_capture_commands.specs.Address.{after_point}
use Rattle.mold_capture_commands.proofs.address.push_points.Given as goal

-- The bytes so far are appended.
abbrev pub invariant-loop-byte : goal.invariant-loop-byte
invariant-loop-byte l = record {
  text : l.text.items ++ flat_map after_point (drop l.byte-index l.bytes) ≡ l.fn.text.items ++ flat_map after_point l.bytes;
  kept : take (length l.fn.text.items) l.text.items ≡ l.fn.text.items;
}
