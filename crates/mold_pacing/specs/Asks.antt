-- Which numbers are requested.
use Rattle.std.specs.Prelude.{Bool, ◌&&◌, nat_le, nat_lt, [], ◌∷◌}
use Rattle.std.specs.Prelude.{◌≡◌, ◌⊎◌, ℕ, ◌+◌, ◌<◌, ◌≤◌, true, false, List, min, slice_get, Some}
use Rattle.mold_pacing.specs.Flight.{AllInFlight, NoneInFlight, in_flight}
use Rattle.mold_pacing.specs.declared.ask.Ask.{Ask}
use Rattle.mold_pacing.specs.declared.flight.Flight.{Flight}
use Rattle.mold_pacing.specs.declared.gap.Gap.{Gap}

-- Whether the gaps are in ascending order, apart, none of them is empty, and the first begins at or above `low`.
abbrev pub are_gaps : ℕ → List Gap → Bool
are_gaps low [] = true
are_gaps low (g ∷ gs) = nat_le low g.first && (nat_lt g.first g.end && are_gaps g.end gs)

-- The gaps are in ascending order, apart, and none of them is empty.
pub record AreGaps (gaps : List Gap) : Type 0 where
  pub some : (i : ℕ) (g : Gap) → slice_get gaps i ≡ Some g → g.first < g.end
  pub ascend : (i j : ℕ) (g h : Gap) → i < j → slice_get gaps i ≡ Some g → slice_get gaps j ≡ Some h → g.end ≤ h.first

-- Each number of the gaps that is below `ripe` is in flight.
abbrev pub AreAllInFlight : List Flight → ℕ → ℕ → List Gap → Type 0
AreAllInFlight fs now ripe gaps = (i : ℕ) (g : Gap) → slice_get gaps i ≡ Some g →
    AllInFlight fs now g.first (min g.end ripe)

-- `first` is the least number of the gaps that is below `ripe` and not in flight. Its gap, or what is ripe of it, ends
-- at `end`.
pub record IsFirstFree (fs : List Flight) (now ripe : ℕ) (gaps : List Gap) (first end : ℕ) : Type 0 where
  pub index : ℕ
  pub gap : Gap
  pub there : slice_get gaps index ≡ Some gap
  pub low : gap.first ≤ first
  pub some : first < end
  pub ends : end ≡ min gap.end ripe
  pub free : in_flight now first fs ≡ false
  pub least : AllInFlight fs now gap.first first
  pub before : (i : ℕ) (g : Gap) → i < index → slice_get gaps i ≡ Some g → AllInFlight fs now g.first (min g.end ripe)

-- The request for a free number: it has no number in flight, and at most `most` numbers. It could not be longer: it
-- goes to `limit`, to a number in flight, or has `most` numbers.
pub record AsksFrom (fs : List Flight) (now most number limit : ℕ) (ask : Ask) : Type 0 where
  pub first : ask.first ≡ number
  pub some : ask.first < ask.end
  pub high : ask.end ≤ limit
  pub few : ask.end ≤ ask.first + most
  pub free : NoneInFlight fs now ask.first ask.end
  pub stops : (ask.end ≡ limit) ⊎ (ask.end ≡ ask.first + most) ⊎ (in_flight now ask.end fs ≡ true)
