-- The options that remain give the clock that all of them give.
use Rattle.std.proofs.Common.{◌≡◌, ℕ, zero, suc, ◌+◌, ◌-◌, ◌<◌, ◌≤◌, min, List, length, length-drop, drop, Option}
use Rattle.std.proofs.Common.{None, Some, refl, sym, ap, ◌∙◌, arith}
use Rattle.std.proofs.lemmas.List.{drop_min}
use Rattle.std.proofs.lemmas.Grind.{common_steps}
use Rattle.std.specs.Option.{option_map_or}
use Rattle.std.specs.Prelude.{IfSome}
use Rattle.mold_pcap.specs.Options.{clock_in, clock_of, first_option, next_clock, padded}
use Rattle.mold_pcap.specs.declared.clock.Clock.{Clock}
use Rattle.mold_pcap.specs.declared.order.Order.{Order}

-- A list with an option has its four first bytes.
some_option : (order : Order) (options : List ℕ) → IfSome (first_option order options) (λ _. 4 ≤ length options)
unfolding first_option
some_option order options = grind (arith, common_steps)

-- A list of fewer than four bytes has no option.
no_option : (found : Option (ℕ × ℕ)) (len : ℕ) (clock : Clock) (next : ℕ × ℕ → Clock) → IfSome found (λ _. 4 ≤ len) →
    len < 4 → option_map_or next found clock ≡ clock
no_option None len clock next some few = refl
no_option (Some option) len clock next some few = absurd (omega (arith, some))

-- The clocks after the first option are the same if they are for each option of a list of four bytes or more.
same_option : (found : Option (ℕ × ℕ)) (len : ℕ) (clock : Clock) (one other : ℕ × ℕ → Clock) →
    IfSome found (λ _. 4 ≤ len) → ((option : ℕ × ℕ) → 4 ≤ len → one option ≡ other option) →
    option_map_or one found clock ≡ option_map_or other found clock
same_option None len clock one other some same = refl
same_option (Some option) len clock one other some same = same option some

-- More steps than the options need change nothing.
same_clock : (n m : ℕ) (order : Order) (clock : Clock) (options : List ℕ) → length options ≤ n →
    length options ≤ m → clock_in n order clock options ≡ clock_in m order clock options
same_clock zero zero order clock options first second = refl
same_clock zero (suc m) order clock options first second = sym (no_option (first_option order options) (length options)
    clock (λ found. clock_in m order (next_clock order clock options found) (drop (4 + padded found.1) options))
    (some_option order options) (omega arith))
same_clock (suc n) zero order clock options first second = no_option (first_option order options) (length options)
    clock (λ found. clock_in n order (next_clock order clock options found) (drop (4 + padded found.1) options))
    (some_option order options) (omega arith)
same_clock (suc n) (suc m) order clock options first second =
    same_option (first_option order options) (length options) clock
    (λ found. clock_in n order (next_clock order clock options found) (drop (4 + padded found.1) options))
    (λ found. clock_in m order (next_clock order clock options found) (drop (4 + padded found.1) options))
    (some_option order options)
    (λ option four.
    let rest = drop (4 + padded option.1) options in
    let less : length rest ≤ length options - 4 = omega (arith, length-drop (4 + padded option.1) options) in
    same_clock n m order (next_clock order clock options option) rest (omega (arith, less)) (omega (arith, less)))

first_step : (n : ℕ) (order : Order) (clock : Clock) (options : List ℕ) (option : ℕ × ℕ) → length options ≡ n →
    4 ≤ n → first_option order options ≡ Some option →
    clock_in n order clock options
    ≡ clock_of order (next_clock order clock options option) (drop (4 + padded option.1) options)
unfolding clock_of
first_step zero order clock options option long four is = absurd (omega arith)
first_step (suc n) order clock options option long four is =
    let rest = drop (4 + padded option.1) options in
    let less : length rest ≤ n = omega (arith, length-drop (4 + padded option.1) options) in
    ap (λ (o : Option (ℕ × ℕ)). option_map_or
    (λ found. clock_in n order (next_clock order clock options found) (drop (4 + padded found.1) options)) o clock) is
    ∙ same_clock n (length rest) order (next_clock order clock options option) rest less (omega arith)

-- The first option changes the clock, and the others follow.
pub clock_step : (order : Order) (clock : Clock) (options : List ℕ) (option : ℕ × ℕ) →
    4 ≤ length options → first_option order options ≡ Some option →
    clock_of order clock options
    ≡ clock_of order (next_clock order clock options option) (drop (4 + padded option.1) options)
unfolding clock_of
clock_step order clock options option four is = first_step (length options) order clock options option refl four is

last_step : (n : ℕ) (order : Order) (clock : Clock) (options : List ℕ) → first_option order options ≡ None →
    clock_in n order clock options ≡ clock
last_step zero order clock options is = refl
last_step (suc n) order clock options is = ap (λ (o : Option (ℕ × ℕ)). option_map_or
    (λ found. clock_in n order (next_clock order clock options found) (drop (4 + padded found.1) options)) o clock) is

-- Without an option the clock stays.
pub clock_end : (order : Order) (clock : Clock) (options : List ℕ) → first_option order options ≡ None →
    clock_of order clock options ≡ clock
unfolding clock_of
clock_end order clock options is = last_step (length options) order clock options is

-- More bytes than the list has are dropped as those that it has.
pub dropped : (n : ℕ) (options : List ℕ) → drop (min n (length options)) options ≡ drop n options
dropped n options = drop_min n options
