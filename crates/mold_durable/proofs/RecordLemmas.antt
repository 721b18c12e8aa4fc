-- Records, one after another.
use Rattle.std.proofs.Common.{◌≡◌, ℕ, ◌≤◌, ◌<◌, ◌^◌, List, [], ◌∷◌, ◌++◌}
use Rattle.std.proofs.Common.{refl, sym, ap, ◌∙◌, append_assoc, arith}
use Rattle.std.specs.List.{AllByRecursion}
use Rattle.byteorder.specs.Endian.{big_number}
use Rattle.mold_wire.specs.Block.{be16}
use Rattle.mold_session.specs.Journal.{IsWithin}
use Rattle.mold_session.specs.Records.{records, record_of}

-- The two bytes of a number read as that number.
pub big_number-be16 : (number : ℕ) (rest : List ℕ) → number < 2 ^ 16 → big_number 2 (be16 number ++ rest) ≡ number
big_number-be16 number rest fits = omega arith

pub records-append :
    (messages more : List (List ℕ)) → records (messages ++ more) ≡ records messages ++ records more
records-append [] more = refl
records-append (message ∷ messages) more =
    ap (λ (t : List ℕ). record_of message ++ t) (records-append messages more)
    ∙ sym (append_assoc (record_of message) (records messages) (records more))

pub each-append :
    (most : ℕ) (messages more : List (List ℕ)) → AllByRecursion (IsWithin most) messages →
    AllByRecursion (IsWithin most) more → AllByRecursion (IsWithin most) (messages ++ more)
each-append most [] more each others = others
each-append most (message ∷ messages) more each others = (each.0, each-append most messages more each.1 others)

-- Messages that are within a limit are within a larger one.
pub each_within :
    (most limit : ℕ) (messages : List (List ℕ)) → most ≤ limit → AllByRecursion (IsWithin most) messages →
    AllByRecursion (IsWithin limit) messages
each_within most limit [] le each = tt
each_within most limit (message ∷ messages) le each =
    (omega (arith, le, each.0), each_within most limit messages le each.1)
