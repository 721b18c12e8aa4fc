-- What a listener is made of: an arbiter, and the batch of the messages that it delivered.
use Rattle.std.specs.Prelude.{◌≡◌, ◌⊎◌, ℕ, ◌<◌, ◌≤◌, List, [], length, Option, None, Result, Ok, Err, refl}
use Rattle.std.specs.Coded.{Coded, code_by, coded×, coded_list, coded_ℕ}
use Rattle.mold_receiver.specs.Arbiter.{Arbitration, arbitrated, arbitration_code}
use Rattle.mold_receiver.specs.Batch.{Handed, Follows, followed_by}
use Rattle.mold_receiver.specs.Fresh.{fresh_arbitration_within}
use Rattle.mold_receiver.specs.Origin.{line_of}
use Rattle.mold_receiver.specs.Receive.{IsCopied, Reception, receive}
use Rattle.mold_receiver.specs.declared.origin.Origin.{Origin}
use Rattle.mold_receiver.specs.declared.taken.Taken.{Taken}
use Rattle.mold_rule.specs.declared.refusal.Refusal.{Refusal}
use Rattle.mold_rule.specs.declared.refusal.Refusal.TheVariants.{Memory}
use Rattle.mold_wire.specs.declared.session.Session.{Session}

-- A listener: the arbitration of its two lines, and the batch of the messages that it delivered since the last clear.
pub record BatchedArbitration : Type 0 where
  pub arbitration : Arbitration
  pub batch : Handed
  -- How many messages of the batch `mold_listener_hear` left there. They are its first ones.
  pub from_hear : ℕ

-- A listener is stored as the tuple of its parts.
abbrev pub batched_code : Coded BatchedArbitration
batched_code = code_by (Arbitration × (ℕ × (ℕ × List (List ℕ))))
    (coded× arbitration_code (coded× coded_ℕ (coded× coded_ℕ (coded_list (coded_list coded_ℕ)))))
    (λ b. (b.arbitration, (b.from_hear, (b.batch.first, b.batch.messages))))
    (λ p. record { arbitration = p.0; from_hear = p.1.0; batch = record { first = p.1.1.0; messages = p.1.1.1 } })
    (λ _. refl)

-- The batch is empty, or the next message to deliver follows its last message. It has the messages from `hear`.
abbrev pub IsFollowed : BatchedArbitration → Type 0
IsFollowed batched =
    Follows batched.batch batched.arbitration.view.next × (batched.from_hear ≤ length batched.batch.messages)

-- The batch has messages that only a clear may discard: those of all calls other than `mold_listener_hear`.
abbrev pub IsOwed : BatchedArbitration → Type 0
IsOwed batched = batched.from_hear < length batched.batch.messages

-- A listener that begins at sequence number `next`, whose store has this room: nothing was received on either line, and
-- nothing was delivered.
abbrev pub begun_within : Option ℕ → Session → ℕ → ℕ → BatchedArbitration
begun_within room session next window = record {
  arbitration = fresh_arbitration_within room session next window;
  batch = record { first = 0; messages = [] };
  from_hear = 0;
}

-- The same for a store without a limit.
abbrev pub begun : Session → ℕ → ℕ → BatchedArbitration
begun session next window = begun_within None session next window

-- The listener after a datagram, by the result of the receiving rule. Delivered messages join the batch. A refusal only
-- changes the report of the line.
abbrev pub received : Origin → List ℕ → BatchedArbitration → Result Reception Refusal → BatchedArbitration
received origin bytes old (Ok reception) = record {
  arbitration = arbitrated (line_of origin) bytes old.arbitration (Ok reception);
  batch = followed_by old.batch old.arbitration.view.next reception.handed;
  from_hear = old.from_hear;
}
received origin bytes old (Err refusal) = record {
  arbitration = arbitrated (line_of origin) bytes old.arbitration (Err refusal);
  batch = old.batch;
  from_hear = old.from_hear;
}

-- What a listener returns and becomes when it takes a datagram. It takes or refuses the datagram as the receiving rule
-- does; or an allocation for a copy failed, and nothing changed.
abbrev pub HasReceived : Origin → List ℕ → BatchedArbitration → BatchedArbitration → Result Taken Refusal → Type 0
HasReceived origin bytes old new (Ok taken) =
    (reception : Reception) × (receive old.arbitration.view bytes ≡ Ok reception)
    × (taken ≡ reception.taken) × (new ≡ received origin bytes old (Ok reception))
HasReceived origin bytes old new (Err refusal) =
    ((refusal ≡ Memory) × IsCopied old.arbitration.view bytes × (new ≡ old))
    ⊎ ((receive old.arbitration.view bytes ≡ Err refusal) × (new ≡ received origin bytes old (Err refusal)))

-- The same listener with an empty batch.
abbrev pub cleared : BatchedArbitration → BatchedArbitration
cleared old =
    record { arbitration = old.arbitration; batch = record { first = 0; messages = [] }; from_hear = 0 }
