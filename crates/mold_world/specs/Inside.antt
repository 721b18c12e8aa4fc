-- The parts of a world, and their model.
use Rattle.std.specs.Prelude.{◌≡◌, ◌≤◌}
use Rattle.mold_world.specs.Kept.{IsWorld}
use Rattle.mold_world.specs.World.{WorldState}
use Rattle.mold_world.specs.declared.participants.Participants.{Participants}

-- The model of a world's parts.
abbrev pub world_of : Participants → WorldState
world_of parts = record {
  publisher = parts.publisher;
  server_limit = parts.server.limit;
  burst = parts.server.burst;
  sent = parts.sent.messages;
  subscribers = parts.subscribers.items;
}

-- What holds of the parts of every world. The server allows messages as long as the publisher can publish.
pub record AreParts (parts : Participants) : Type 0 where
  pub world : IsWorld (world_of parts)
  pub serves : parts.publisher.journal.max_message ≤ parts.server.max_message

-- The greatest message lengths of the publisher and of the server are unchanged.
abbrev pub KeepsServing : Participants → Participants → Type 0
KeepsServing old new = (new.publisher.journal.max_message ≡ old.publisher.journal.max_message)
    × (new.server.max_message ≡ old.server.max_message)
