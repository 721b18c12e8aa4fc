-- Giving up: a receiver that goes on without the missing messages at `next`.
use Rattle.std.specs.Prelude.{◌≡◌, ℕ, ◌+◌, ◌-◌, ◌<◌, ◌≤◌, List, length, None}
use Rattle.std.specs.FinMap as finite
use Rattle.mold_receiver.specs.Store.{Message, cut, run_from}
use Rattle.mold_receiver.specs.View.{View}

-- The messages from `next` to just below `to` are missing: they have numbers below `known` and are not stored.
abbrev pub AreMissing : View → ℕ → Type 0
AreMissing v to =
    (to ≤ v.known) × ((number : ℕ) → v.next ≤ number → number < to → finite.get v.store number ≡ None)

-- The stored messages from `to` on, up to the first number that is not stored.
abbrev pub skipped_run : View → ℕ → List Message
skipped_run v to = run_from (finite.get v.store) to (v.known - to)

-- The view with another `next`. Stored messages up to the new `next` are removed.
abbrev pub moved_to : View → ℕ → View
moved_to v next = record {
  session = v.session;
  next = next;
  known = v.known;
  ended = v.ended;
  store = cut v.store next v.window;
  window = v.window;
  room = v.room;
}

-- The view after the messages below `to` were given up. The stored messages that follow were delivered, and `next`
-- comes after them.
abbrev pub skipped : View → ℕ → View
skipped v to = moved_to v (to + length (skipped_run v to))
