use Rattle.std.proofs.Common.{◌≡◌, map, string_bytes, take}
use Rattle.mold_words.proofs.capture_options.copied.Given as goal

abbrev pub invariant-loop-name : goal.invariant-loop-name
invariant-loop-name l =
    map string_bytes l.copies.items ≡ map (λ name. name.now) (take l.name-index l.fn.names)
