-- What is written depends only on what the checker states.
use Rattle.std.proofs.Common.{◌≡◌, ℕ, ◌+◌, List, Option, refl, sym, ap, ◌∙◌, arith}
use Rattle.std.proofs.lemmas.Option.{same_Some}
use Rattle.mold_capture.specs.Seen.{Seen}
use Rattle.mold_extract.specs.Extracting.{ExtractsBlocks}
use Rattle.mold_extract.specs.Journal.{IsWholeSession, Saves}
use Rattle.mold_extract.specs.declared.extracted.Extracted.{Extracted}
use Rattle.mold_extract.specs.declared.extracted.Extracted.TheVariants.{All, Holes}
use Rattle.mold_extract.specs.declared.number_range.NumberRange.{NumberRange}

one_count : (seen : Seen) (session other : List ℕ) (m n : ℕ) → IsWholeSession seen session m →
    IsWholeSession seen other n → m ≡ n
one_count seen session other m n one two =
    let same : m + 1 ≡ n + 1 = same_Some (m + 1) (n + 1) (sym one.whole.ended ∙ two.whole.ended) in
    omega (arith, same)

pub one_saved : (seen : Seen) (old new before after : Option (List ℕ)) (one other : Extracted) →
    Saves old new seen one → Saves before after seen other → one ≡ other
one_saved seen old new before after (All m) (All n) one two =
    ap All (one_count seen one.session two.session m n one.is_whole two.is_whole)
one_saved seen old new before after (All m) Holes one two = absurd (two.0 one.session m one.is_whole)
one_saved seen old new before after Holes (All n) one two = absurd (one.0 two.session n two.is_whole)
one_saved seen old new before after Holes Holes one two = refl

pub one_blocks : (seen : Seen) (range : NumberRange) (old new before after : Option (List ℕ))
    (one other : Extracted) → ExtractsBlocks old new seen range one → ExtractsBlocks before after seen range other →
    one ≡ other
one_blocks seen range old new before after (All m) (All n) one two = ap All (one.2 ∙ sym two.2)
one_blocks seen range old new before after (All m) Holes one two = absurd (two.0 one.0)
one_blocks seen range old new before after Holes (All n) one two = absurd (one.0 two.0)
one_blocks seen range old new before after Holes Holes one two = refl
