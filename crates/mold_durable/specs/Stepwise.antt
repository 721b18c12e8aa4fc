-- A writer whose records are all in the file before it opens their gates, one at each moment.
use Rattle.std.specs.Prelude.{ℕ, false, List, [], ◌∷◌, ◌++◌, take, drop}
use Rattle.mold_wire.specs.declared.session.Session.{Session}
use Rattle.mold_session.specs.Records.{head_3, records}
use Rattle.mold_durable.specs.Following.{Writer}

-- The file of all messages.
abbrev pub whole_file : Session → List (List ℕ) → List ℕ
whole_file session messages = head_3 session.0 ++ (records messages ++ 0 ∷ [])

-- The records of these messages with the gate after them. The first gate is shut.
abbrev pub staged : List (List ℕ) → List ℕ
staged messages = 0 ∷ drop 1 (records messages ++ 0 ∷ [])

-- The file at each moment. At moment `n` it has the first `n` messages, and the records of the others are staged.
abbrev pub stepwise_file : Session → List (List ℕ) → ℕ → List ℕ
stepwise_file session messages moment =
    head_3 session.0 ++ (records (take moment messages) ++ staged (drop moment messages))

-- The writer of `stepwise_file`.
abbrev pub stepwise_writer : Session → List (List ℕ) → Writer
stepwise_writer session messages = record {
  session = session;
  messages = λ moment. take moment messages;
  closed = λ moment. false;
}
