use Rattle.std.proofs.Common.{◌+◌, ◌≤◌, ◌∙◌, arith, inl, inr, sym}
use Rattle.std.proofs.lemmas.Bool.{cases_lt}
use Rattle.mold_pacing.proofs.EndLemmas.{none_in_flight, room_when_over, true_is_false}
use Rattle.mold_pacing.proofs.pacer.Pacer.deadline.Goals as goal

pub returns-clause-bound : goal.returns-clause-bound
returns-clause-bound c =
    let old = c.args.self.now in
    let fs = old.flights.items in
    let number = c.args.number in
    let last = old.state.now + old.options.ceiling in
    let free : c.free_from-free.result ≤ last =
    elim (cases_lt last c.free_from-free.result) [
      | inl before ↦
          absurd (true_is_false (sym (c.free_from-free.ensures.least last before)
          ∙ none_in_flight last number fs old.ends))
      | inr past ↦ past
    ] in
    let room : c.room_from.result ≤ last =
    elim (cases_lt last c.room_from.result) [
      | inl before ↦
          absurd (true_is_false (sym (room_when_over old.options.places last fs old.options.asks.1 old.ends)
          ∙ c.room_from.ensures.least last before))
      | inr past ↦ past
    ] in
    omega (arith, c.max-3.ensures, c.max-2.ensures, c.max.ensures, c.saturating_sub-opens.ensures, old.opens, free, room)
