-- What a receiver requests, and how many messages it misses.
use Rattle.std.specs.Prelude.{◌≡◌, true, ℕ, zero, suc, ◌+◌, ◌-◌, ◌<◌, ◌≤◌, ◌⊎◌, min, Bool, List, Option, None, Some}
use Rattle.std.specs.Prelude.{is_some, is_none, ◌==◌, if◌then◌else◌}
use Rattle.std.specs.FinMap as finite
use Rattle.mold_wire.specs.declared.limits.TheConstants.{MAX_COUNT}
use Rattle.mold_wire.specs.declared.request.Request.{Request}
use Rattle.mold_rule.specs.Ranges.{Range, ranges}
use Rattle.mold_receiver.specs.declared.gap.Gap.{Gap}
use Rattle.mold_receiver.specs.Store.{Message, Store}
use Rattle.mold_receiver.specs.View.{View}

-- The number of consecutive numbers from `number` on that have no message, but at most `most`.
unfoldable pub lacking_run : (ℕ → Option Message) → ℕ → ℕ → ℕ
lacking_run look number zero = 0
lacking_run look number (suc most) = if is_some (look number) then 0 else suc (lacking_run look (suc number) most)

-- The end of the gap at `next`: the least stored number, or `known` if nothing is stored.
abbrev pub gap_end : View → ℕ
gap_end v = v.next + lacking_run (finite.get v.store) v.next (v.known - v.next)

-- The request that the receiver wants next. It covers the gap at `next`, up to `MAX_COUNT` messages. There is none if
-- no message below `known` is missing.
abbrev pub wanted : View → Option Request
wanted v =
    if v.next == v.known
    then None
    else Some (record { session = v.session; sequence = v.next; count = min MAX_COUNT (gap_end v - v.next) })

-- The number of messages below `known` that the receiver misses: those neither delivered nor stored.
abbrev pub missing : View → ℕ
missing v = v.known - v.next - finite.len v.store

-- No message is stored with this number.
abbrev pub lacks : Store → ℕ → Bool
lacks store number = is_none (finite.get store number)

-- The gaps: the longest ranges of numbers from `next` to just below `known` that the store lacks, in ascending order.
abbrev pub gaps : View → List Range
gaps v = ranges (lacks v.store) v.next (v.known - v.next)

-- The gap at `next` ends just below `end`. No message below `end` is stored. The message with the number `end` is
-- stored, or `end` is `known`.
pub record IsGap (v : View) (end : ℕ) : Type 0 where
  pub after : v.next < end
  pub within : end ≤ v.known
  -- Nothing below `end` is stored.
  pub lacked : (number : ℕ) → number < end → finite.get v.store number ≡ None
  -- A message is stored at `end`, or `end` is `known`.
  pub stops : (end ≡ v.known) ⊎ (is_some (finite.get v.store end) ≡ true)

-- The first gap at or above `from`: all numbers from `from` to just below it are stored. No number of the gap is
-- stored. The number `gap.end` is stored, or it is `known`.
pub record IsNextGap (v : View) (from : ℕ) (gap : Gap) : Type 0 where
  pub after : from ≤ gap.first
  pub some : gap.first < gap.end
  pub within : gap.end ≤ v.known
  pub held : (number : ℕ) → from ≤ number → number < gap.first → is_some (finite.get v.store number) ≡ true
  pub lacked : (number : ℕ) → gap.first ≤ number → number < gap.end → finite.get v.store number ≡ None
  pub stops : (gap.end ≡ v.known) ⊎ (is_some (finite.get v.store gap.end) ≡ true)

-- All numbers from `from` to just below `known` are stored.
abbrev pub HasNoGap : View → ℕ → Type 0
HasNoGap v from =
    (number : ℕ) → from ≤ number → number < v.known → is_some (finite.get v.store number) ≡ true

-- The first number at or above `from` that is not stored: all numbers from `from` to just below it are stored.
pub record IsFirstAbsent (v : View) (from number : ℕ) : Type 0 where
  pub after : from ≤ number
  pub held : (other : ℕ) → from ≤ other → other < number → is_some (finite.get v.store other) ≡ true
  pub lacked : finite.get v.store number ≡ None
