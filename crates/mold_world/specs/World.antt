-- The world as contracts describe it: a publisher, a re-request server, all datagrams that they sent, and receivers
-- with their arbiters and books.
use Rattle.std.specs.Prelude.{◌≡◌, ℕ, ◌≤◌, List, [], length, map}
use Rattle.mold_receiver.specs.Arbiter.{Arbitration}
use Rattle.mold_receiver.specs.Batch.{Handed}
use Rattle.mold_receiver.specs.Fresh.{fresh_arbitration}
use Rattle.mold_session.specs.Publisher.{PublisherState, fresh_publisher}
use Rattle.mold_wire.specs.Packer.{IsLimit}
use Rattle.mold_wire.specs.declared.session.Session.{Session}

-- One receiver with its arbiter, and its book: the messages that it delivered, from message 1 on.
pub record SubscriberState : Type 0 where
  pub arbitration : Arbitration
  pub book : Handed

-- The model of a world: the publisher with its journal, the server's limit and burst, the sent datagrams, and the
-- receivers. Datagrams and receivers are numbered from 0.
pub record WorldState : Type 0 where
  pub publisher : PublisherState
  pub server_limit : ℕ
  pub burst : ℕ
  pub sent : List (List ℕ)
  pub subscribers : List SubscriberState

-- A receiver that starts at message 1, with an empty book.
abbrev pub subscriber_at : Session → ℕ → SubscriberState
subscriber_at session window = record {
  arbitration = fresh_arbitration session 1 window;
  book = record { first = 0; messages = [] };
}

-- A new world. Nothing is published or sent, and there is one receiver for each window.
abbrev pub beginning : Session → ℕ → ℕ → ℕ → List ℕ → WorldState
beginning session limit server_limit burst windows = record {
  publisher = fresh_publisher session limit;
  server_limit = server_limit;
  burst = burst;
  sent = [];
  subscribers = map (subscriber_at session) windows;
}

-- The session's name has ten bytes, both datagram limits are valid, and the server's limit is at least the
-- publisher's.
pub record MayBegin (session : Session) (limit server_limit : ℕ) : Type 0 where
  pub named : length session.0 ≡ 10
  pub limited : IsLimit limit
  pub served : IsLimit server_limit
  pub room : limit ≤ server_limit
