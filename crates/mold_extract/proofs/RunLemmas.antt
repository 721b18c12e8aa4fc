-- The carried messages of a range, one run after the other.
use Rattle.std.proofs.Common.{◌≡◌, ℕ, suc, ◌+◌, ◌<◌, ◌≤◌, ◌^◌, List, [], ◌∷◌, ◌++◌, length, Option, refl, ap, ◌∙◌}
use Rattle.std.proofs.Common.{arith}
use Rattle.std.specs.Prelude.{None, Some, IfNone, slice_get}
use Rattle.std.specs.List.{flat_map}
use Rattle.std.specs.FinMap as finite
use Rattle.mold_wire.specs.Block.{block, blocks}
use Rattle.mold_capture.specs.Seen.{Pairs}
use Rattle.mold_extract.specs.Carried.{carried_between, messages_of}
use Rattle.mold_extract.specs.Run.{AgreesFrom}
use Rattle.mold_extract.specs.Text.{entry_block}
use Rattle.mold_extract.proofs.BetweenLemmas.{between_few, between_next, between_none, between_skips}

pub if_none : {T P : Type 0} (result : Option T) → P → IfNone result P
if_none None is = is
if_none (Some value) is = tt

-- The messages after the first one agree with the following numbers.
pub agrees_next : (pairs : Pairs) (n : ℕ) (all : List (List ℕ)) (m : List ℕ) (rest : List (List ℕ)) →
    AgreesFrom pairs n all → all ≡ m ∷ rest → AgreesFrom pairs (n + 1) rest
agrees_next pairs n all m rest agrees some = λ i high.
    let long : length all ≡ suc (length rest) = ap (λ (t : List (List ℕ)). length t) some in
    let number : n + 1 + i ≡ n + suc i = omega arith in
    ap (finite.get pairs) number
    ∙ agrees (suc i) (omega (arith, long, high))
    ∙ ap (λ (t : List (List ℕ)). slice_get t (suc i)) some

-- The first message of a run is the first one of the range from its number.
pub run_next : (pairs : Pairs) (n b : ℕ) (all : List (List ℕ)) (m : List ℕ) (rest : List (List ℕ)) → n < b →
    AgreesFrom pairs n all → all ≡ m ∷ rest →
    carried_between pairs n b ≡ (n, m) ∷ carried_between pairs (n + 1) b
run_next pairs n b all m rest within agrees some =
    let long : length all ≡ suc (length rest) = ap (λ (t : List (List ℕ)). length t) some in
    let here : n ≡ n + 0 = omega arith in
    let next : suc n ≡ n + 1 = omega arith in
    let is : finite.get pairs n ≡ Some m =
    ap (finite.get pairs) here
    ∙ agrees 0 (omega (arith, long))
    ∙ ap (λ (t : List (List ℕ)). slice_get t 0) some
    in
    between_next pairs n b m within is ∙ ap (λ (k : ℕ). (n, m) ∷ carried_between pairs k b) next

-- The same of a run that begins at the number `first` or later.
pub later_next : (pairs : Pairs) (n first b : ℕ) (all : List (List ℕ)) (m : List ℕ) (rest : List (List ℕ)) → n ≤ first →
    ((k : ℕ) → n ≤ k → k < first → finite.get pairs k ≡ None) → first < b → AgreesFrom pairs first all →
    all ≡ m ∷ rest → carried_between pairs n b ≡ (first, m) ∷ carried_between pairs (first + 1) b
later_next pairs n first b all m rest low none within agrees some =
    between_skips pairs n first b low none ∙ run_next pairs first b all m rest within agrees some

-- The range is empty if the next run begins after it.
pub later_none : (pairs : Pairs) (n first b : ℕ) → n ≤ first →
    ((k : ℕ) → n ≤ k → k < first → finite.get pairs k ≡ None) → b ≤ first → carried_between pairs n b ≡ []
later_none pairs n first b low none past =
    between_skips pairs n first b low none ∙ between_none pairs first b past

pub not_empty : {P : Type 0} (all : List (List ℕ)) → 0 < length all → all ≡ [] → P
not_empty all some none =
    let empty : length all ≡ 0 = ap (λ (t : List (List ℕ)). length t) none in
    absurd (omega (arith, some, empty))

-- The number of messages has 64 bits.
pub few_between : (pairs : Pairs) (first below : ℕ) (all : List (ℕ × List ℕ)) → below < 2 ^ 64 →
    all ≡ carried_between pairs first below → length all < 2 ^ 64
few_between pairs first below all bound is =
    let same : length all ≡ length (carried_between pairs first below) = ap (λ (t : List (ℕ × List ℕ)). length t) is in
    omega (arith, same, between_few pairs first below, bound)

-- The blocks of messages with and without their numbers.
pub entry_blocks : (entries : List (ℕ × List ℕ)) → flat_map entry_block entries ≡ blocks (messages_of entries)
entry_blocks [] = refl
entry_blocks (entry ∷ entries) = ap (λ (t : List ℕ). block entry.1 ++ t) (entry_blocks entries)
