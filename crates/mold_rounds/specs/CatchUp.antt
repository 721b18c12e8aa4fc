-- What catching up does to a receiver, its batch and a server.
use Rattle.std.specs.Prelude.{◌≡◌, ℕ, zero, suc, ◌+◌, ◌-◌, ◌<◌, min, List, [], ◌∷◌, length, take, unwrap_or}
use Rattle.std.specs.Option.{option_or}
use Rattle.std.specs.FinMap as finite
use Rattle.mold_receiver.specs.Gap.{messages_from}
use Rattle.mold_receiver.specs.Receive.{view_after}
use Rattle.mold_receiver.specs.Store.{Message}
use Rattle.mold_receiver.specs.View.{View}
use Rattle.mold_receiver.specs.Wanted.{gap_end}
use Rattle.mold_rounds.specs.Rounds.{rounds}
use Rattle.mold_session.specs.Answer.{answer}
use Rattle.mold_session.specs.Journal.{JournalState}
use Rattle.mold_session.specs.Server.{ServerState}
use Rattle.mold_wire.specs.Truth.{published_at}
use Rattle.mold_wire.specs.declared.limits.TheConstants.{MAX_COUNT, MAX_NUMBER}
use Rattle.mold_wire.specs.declared.packet.Packet.{Packet}

-- The message with a number: the stored one, or otherwise the published one.
abbrev pub message_of : View → List Message → ℕ → Message
message_of v published number = unwrap_or (option_or (finite.get v.store number) (published_at published number)) []

-- The messages with the numbers from `next` to just below `to`. Each is the stored message with its number, or the
-- published one if none is stored.
abbrev pub filled : View → List Message → ℕ → List Message
filled v published to = messages_from (message_of v published) v.next (to - v.next)

-- The view after catching up: everything below `known` was delivered, and nothing is stored.
abbrev pub caught_up : View → View
caught_up v = record v { next = v.known; store = finite.empty }

-- The server after it answered `count` more requests. Its count of requests stops at `MAX_NUMBER`.
abbrev pub counted_by : ServerState → ℕ → ServerState
counted_by server count =
    record server { answered = server.answered + min count (MAX_NUMBER - server.answered) }

-- The responses to the request that the view wants. The request is for the gap at `next`, up to `MAX_COUNT` messages.
abbrev pub round_answer : View → List Message → ℕ → ℕ → List Packet
round_answer v published limit burst =
    answer published v.session limit v.next (min MAX_COUNT (gap_end v - v.next)) burst

-- The view after it took the packets in order.
unfoldable pub views_after : View → List Packet → View
views_after v [] = v
views_after v (packet ∷ packets) = views_after (view_after v packet) packets

-- The view after `count` rounds, in each of which it takes all responses.
unfoldable pub rounds_view : View → List Message → ℕ → ℕ → ℕ → View
rounds_view v published limit burst zero = v
rounds_view v published limit burst (suc count) =
    views_after (rounds_view v published limit burst count)
    (round_answer (rounds_view v published limit burst count) published limit burst)

-- The view `new` has taken a prefix of the responses to the request that `v` wants, but not all of them.
pub record IsPartOfRound (v : View) (published : List Message) (limit burst : ℕ) (new : View) : Type 0 where
  -- The number of responses that were taken.
  pub taken : ℕ
  pub some_left : taken < length (round_answer v published limit burst)
  pub view : new ≡ views_after v (take taken (round_answer v published limit burst))

-- Catching up stopped in a round. The rounds before are complete, the last round is partly done, and the server
-- counted its request.
pub record IsStopped (old : View) (journal : JournalState) (server : ServerState) (new : View) (served : ServerState)
    : Type 0 where
  -- The number of complete rounds.
  pub done : ℕ
  pub some_left : done < rounds old journal.messages server.limit server.burst
  -- The next round is partly done.
  pub part : IsPartOfRound (rounds_view old journal.messages server.limit server.burst done) journal.messages
      server.limit server.burst new
  -- The server counted the requests of the complete rounds and of the next one.
  pub answered : served ≡ counted_by server (suc done)
