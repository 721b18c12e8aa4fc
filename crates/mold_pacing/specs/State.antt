-- What a pacer knows besides its requests.
use Rattle.std.specs.Prelude.{◌≡◌, ◌⊎◌, ◌≤◌, ℕ, ◌+◌, ◌-◌, max, min, nat_le, nat_lt, if◌then◌else◌, Option, None, Some}
use Rattle.mold_pacing.specs.declared.flight.Flight.{Flight}
use Rattle.mold_pacing.specs.declared.options.PacerOptions.{PacerOptions}
use Rattle.mold_pacing.specs.declared.state.PacerState.{PacerState}

-- The state before any time was reported. No number is ripe.
abbrev pub fresh : PacerOptions → ℕ → PacerState
fresh options known = record {
  now = 0;
  opens = 0;
  marked = 0;
  mark = known;
  ripe = 0;
  patience = options.patience;
  most = options.most;
  full = 0;
  server = 0;
}

-- The state at a later time. A time below the last one counts as the last one. Once `patience` has passed since `mark`
-- was set, the numbers below `mark` are ripe, and `mark` becomes what is known now.
abbrev pub advanced : ℕ → ℕ → PacerState → PacerState
advanced time known s =
    let now = max s.now time in
    if nat_lt (now - s.marked) s.patience
    then record s { now = now }
    else record s { now = now; marked = now; mark = known; ripe = s.mark }

-- The state after the patience changed.
abbrev pub adapted : ℕ → PacerState → PacerState
adapted patience s = record s { patience = patience }

-- The state after a request was sent for `count` messages: the next one may be sent an interval later. If it was for
-- more than `most`, the count of full requests starts again at 0.
abbrev pub asked : ℕ → ℕ → PacerState → PacerState
asked interval count s = record s {
  opens = max s.opens s.now + interval;
  full = if nat_lt s.most count then 0 else s.full;
}

-- The state after a server responded, and perhaps freed a request: new requests go to this server. If the request was
-- for at least `most` messages, it counts as full, and `most` becomes its count, up to the option.
abbrev pub responded : PacerOptions → ℕ → Option Flight → PacerState → PacerState
responded options server None s = record s { server = server }
responded options server (Some f) s = record s {
  most = max s.most (min (f.end - f.first) options.most);
  full = if nat_le s.most (f.end - f.first) then min (s.full + 1) 4294967295 else s.full;
  server = server;
}

-- `known_at` is what was known at each time, and `begin` what was known at the beginning. The numbers below `mark` were
-- known at the time `marked`, or at the beginning. Those below `ripe` were known a patience before that time, or at the
-- beginning.
pub record IsRipened (known_at : ℕ → ℕ) (begin patience : ℕ) (s : PacerState) : Type 0 where
  pub past : s.marked ≤ s.now
  pub mark : (s.mark ≡ known_at s.marked) ⊎ (s.mark ≡ begin)
  pub ripe : (s.ripe ≤ begin) ⊎ ((time : ℕ) × (time + patience ≤ s.marked) × (s.ripe ≡ known_at time))
