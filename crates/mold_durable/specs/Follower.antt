-- The state of a follower, and which messages it has returned.
use Rattle.std.specs.Prelude.{◌≡◌, ℕ, ◌<◌, ◌^◌, Bool, true, List, length}
use Rattle.mold_wire.specs.declared.limits.TheConstants.{MAX_NUMBER}
use Rattle.mold_wire.specs.declared.session.Session.{Session}
use Rattle.mold_session.specs.Contents.{IsFront}
use Rattle.mold_durable.specs.DurableJournal.{file_prefix}
use Rattle.mold_durable.specs.Following.{Writer}
use Rattle.mold_durable.specs.declared.following.TheConstants.{LONGEST_RECORD}

-- The state of a follower.
pub record FollowerState (F : Type 0) : Type 0 where
  pub file : F
  pub session : Session
  -- the largest length of a message, in bytes
  pub max_message : ℕ
  -- how many messages it has returned
  pub count : ℕ
  -- the offset of the shut gate or, if the session is closed, of the last byte of the closing record
  pub end : ℕ
  -- whether it has read the closing record
  pub closed : Bool
  -- the messages of the last poll
  pub news : List (List ℕ)

-- The state of a follower without its file.
pub record RecordFollowerState : Type 0 where
  pub session : Session
  -- the largest length of a message, in bytes
  pub max_message : ℕ
  -- how many messages it has returned
  pub count : ℕ
  -- as in `FollowerState`
  pub end : ℕ
  -- whether it has read the closing record
  pub closed : Bool
  -- the messages of the last poll
  pub news : List (List ℕ)

-- The state of a follower of this file.
abbrev pub follower_of : {F : Type 0} → F → RecordFollowerState → FollowerState F
follower_of file records = record {
  file = file;
  session = records.session;
  max_message = records.max_message;
  count = records.count;
  end = records.end;
  closed = records.closed;
  news = records.news;
}

-- The follower has returned these messages of the writer's journal. They are durable. If it has read the closing
-- record, they are all messages of the journal.
pub record Follows {F : Type 0} (history : F → (ℕ → List ℕ) → Type 0) (synced : F → ℕ) (writer : Writer)
    (bytes : ℕ → List ℕ) (follower : FollowerState F) (told : List (List ℕ)) : Type 0 where
  pub shown : history follower.file bytes
  pub named : follower.session ≡ writer.session
  pub counted : follower.count ≡ length told
  pub ends : follower.end ≡ length (file_prefix writer.session told follower.closed)
  pub durable : IsFront told (writer.messages (synced follower.file))
  pub whole : follower.closed ≡ true →
      (writer.messages (synced follower.file) ≡ told) × (writer.closed (synced follower.file) ≡ true)

-- What holds of the fields of every follower.
pub record IsFollower (count end size : ℕ) : Type 0 where
  pub few : count < MAX_NUMBER
  pub near : end < 2 ^ 63
  pub large : size ≡ LONGEST_RECORD
