use Rattle.std.proofs.Common.{◌∙◌, ℕ, List, ◌++◌, ap, sym}
use Rattle.std.specs.List.{flat_map}
use Rattle.mold_capture_commands.specs.Address.{after_colon, groups}
use Rattle.mold_capture_commands.proofs.AddressLemmas.{colons_more, kept_more}
use Rattle.mold_capture_commands.proofs.address.push_colons.Goals as goal

pub groups-preserved : goal.groups-preserved
groups-preserved c = record {
  text =
      ap (λ (b : List ℕ). c.push_colon.new.text.items ++ flat_map after_colon (groups b)) c.split_group.ensures.others
      ∙ colons_more c.args.text.now.items c.groups.text.items c.push_colon.new.text.items c.args.bytes.now c.groups.rest.now
      c.split_group.result.0.now (sym c.is_empty.ensures ∙ c.groups-test.true) c.groups.invariant.text
      c.split_group.ensures.first (c.in_ok-push_colon.ensures.text);
  kept = kept_more c.args.text.now.items c.groups.text.items c.push_colon.new.text.items _ c.groups.invariant.kept
      c.in_ok-push_colon.ensures.text;
}
