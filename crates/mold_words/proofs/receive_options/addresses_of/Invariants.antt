use Rattle.std.proofs.Common.{◌≡◌, length, map, take, Some}
use Rattle.mold_words.specs.Addresses.{address_of, address_view}
use Rattle.mold_words.specs.Values.{values_of}
use Rattle.mold_words.proofs.receive_options.addresses_of.Given as goal

abbrev pub invariant-loop-text : goal.invariant-loop-text
invariant-loop-text l = record {
  read : values_of address_of (map (λ text. text.now) (take l.text-index l.fn.texts))
      ≡ Some (map address_view l.addresses.items);
  count : length l.addresses.items ≡ l.text-index;
}
