-- Lemmas about the order that arguments give, read from the matches of a parse.
use Rattle.std.proofs.Common.{arith, ◌≡◌, ◌∙◌, List, [], ◌∷◌, ap, length, map, refl, sym, true, false, Some}
use Rattle.std.specs.Prelude.{◌==◌}
use Rattle.std.proofs.lemmas.Bool.Decides.{nat_tests}
use Rattle.clap.proofs.OnLiterals.{clap_on_literals}
use Rattle.clap.specs.Words.{App, HasMatchesOf, Text, fault_of, is_simple, is_simple_and_free}
use Rattle.clap.specs.Words.{subcommand_of, subcommand_rows_of}
use Rattle.clap.specs.declared.parser.matches.ArgMatches.{ArgMatches}
use Rattle.mold_words.specs.Words.{mold_app}
use Rattle.mold_words.specs.Orders.{AreTaken, order_in, order_of}
use Rattle.mold_words.specs.Arguments.{show_wanted}

-- `clap` specifies the matches and the errors of the program's commands
pub mold_is_simple : is_simple mold_app ≡ true
unfolding mold_app
mold_is_simple = refl

pub mold_is_free : is_simple_and_free mold_app ≡ true
unfolding mold_app
mold_is_free = refl

-- no arguments are accepted, and ask to show packets
pub none-taken : {X : Type 0} (f : X → Text) (xs : List X) → (length xs == 0) ≡ true → AreTaken (map f xs)
unfolding clap_on_literals mold_app
none-taken f [] empty = refl
none-taken f (x ∷ xs) empty = absurd (grind (arith, nat_tests))

pub none-order : {X : Type 0} (f : X → Text) (xs : List X) → (length xs == 0) ≡ true
    → order_of (map f xs) ≡ Some (show_wanted false)
unfolding clap_on_literals mold_app order_of
none-order f [] empty = refl
none-order f (x ∷ xs) empty = absurd (grind (arith, nat_tests))

-- the matches of a parse are those of the command that the arguments name
pub found-matches : (words : List Text) (app : App) (m : ArgMatches) → app ≡ mold_app → HasMatchesOf app words m
    → subcommand_of mold_app words ≡ subcommand_rows_of m
found-matches words app m same matches =
    let found = (matches (ap is_simple same ∙ mold_is_simple)).1 in
    ap (λ (a : App). subcommand_of a words) (sym same) ∙ sym found

-- the matches give what the arguments ask for
pub order_of-matches : (words : List Text) (app : App) (m : ArgMatches) → app ≡ mold_app → HasMatchesOf app words m
    → order_of words ≡ order_in (subcommand_rows_of m)
unfolding order_of
order_of-matches words app m same matches = ap order_in (found-matches words app m same matches)

-- a parse that succeeds found no error in the arguments
pub taken-by : (words : List Text) (app : App) → app ≡ mold_app → fault_of app words ≡ [] → AreTaken words
taken-by words app same none = ap (λ (a : App). fault_of a words) (sym same) ∙ none
