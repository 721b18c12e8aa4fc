use Rattle.std.proofs.Common.{◌≡◌, ◌++◌, length, take}
use Rattle.std.specs.List.{flat_map}
use Rattle.mold_capture_commands.specs.Address.{after_colon, groups}
use Rattle.mold_capture_commands.proofs.address.push_colons.Given as goal

-- The groups so far are appended.
abbrev pub invariant-groups : goal.invariant-groups
invariant-groups l = record {
  text : l.text.items ++ flat_map after_colon (groups l.rest) ≡ l.fn.text.items ++ flat_map after_colon (groups l.bytes);
  kept : take (length l.fn.text.items) l.text.items ≡ l.fn.text.items;
}

abbrev pub decreases-groups : goal.decreases-groups
decreases-groups l = length l.rest
