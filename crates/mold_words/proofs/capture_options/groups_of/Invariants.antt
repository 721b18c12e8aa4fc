use Rattle.std.proofs.Common.{◌≡◌, map, take, Some}
use Rattle.mold_words.specs.IpAddresses.{ip_of}
use Rattle.mold_words.specs.Values.{values_of}
use Rattle.mold_words.proofs.capture_options.groups_of.Given as goal

abbrev pub invariant-loop-text : goal.invariant-loop-text
invariant-loop-text l =
    values_of ip_of (map (λ text. text.now) (take l.text-index l.fn.texts)) ≡ Some l.groups.items
