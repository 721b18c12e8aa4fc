use Rattle.std.proofs.Common.{◌≡◌, map, take, Some, true}
use Rattle.std.specs.List.{list_all}
use Rattle.mold_words.specs.CaptureOptions.{is_port, port_of}
use Rattle.mold_words.specs.Values.{values_of}
use Rattle.mold_words.proofs.capture_options.ports_of.Given as goal

abbrev pub invariant-loop-text : goal.invariant-loop-text
invariant-loop-text l = record {
  read : values_of port_of (map (λ text. text.now) (take l.text-index l.fn.texts)) ≡ Some l.ports.items;
  within : list_all is_port l.ports.items ≡ true;
}
