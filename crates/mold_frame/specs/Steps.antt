-- A number of steps, each of which may be the last.
use Rattle.std.specs.Prelude.{ℕ, zero, suc, Option, option_map}
use Rattle.std.specs.Option.{unwrap_or}

-- The state after at most `most` steps. The steps end at the first state from which there is none.
unfoldable pub after_steps : {S : Type 0} → (S → Option S) → ℕ → S → S
after_steps step zero state = state
after_steps step (suc most) state = unwrap_or (option_map (λ next. after_steps step most next) (step state)) state
