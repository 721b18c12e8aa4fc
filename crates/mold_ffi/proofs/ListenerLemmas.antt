-- A listener does what its arbiter and batch do.
use Rattle.std.proofs.Common.{◌≡◌, ap, ◌∙◌, inl, inr, List, ℕ, Option, None, Some, Result, Ok, Err, IfOk, IfErr, IfSome}
use Rattle.std.proofs.Common.{OnErr, IfNone, ◌≤◌, [], ◌∷◌, arith, length, length-append, subst, sym}
use Rattle.mold_receiver.specs.Arbiter.{Arbitration, HasArbitrated, HasRefused, arbitrated}
use Rattle.mold_receiver.specs.Batch.{Handed, followed_by}
use Rattle.mold_receiver.specs.Origin.{line_of}
use Rattle.mold_receiver.specs.Store.{Message}
use Rattle.mold_receiver.specs.declared.line.Line.{Line as TheLine}
use Rattle.mold_receiver.specs.declared.origin.Origin.{Origin}
use Rattle.mold_receiver.specs.declared.origin.Origin.TheVariants.{Line}
use Rattle.mold_receiver.specs.declared.taken.Taken.{Taken}
use Rattle.mold_rule.specs.declared.refusal.Refusal.{Refusal}
use Rattle.mold_ffi.specs.Listener.BatchedArbiter.{BatchedArbitration, HasReceived}

-- For a datagram that was taken.
taken_received : (origin : Origin) (bytes : List ℕ) (old new : BatchedArbitration) (taken : Taken)
    → HasArbitrated (line_of origin) old.arbitration bytes old.batch new.arbitration new.batch taken
    → new.from_hear ≡ old.from_hear → HasReceived origin bytes old new (Ok taken)
taken_received origin bytes old new taken h kept = (
  h.reception,
  h.received,
  h.told,
  λ i. record {
    arbitration = (h.arbitration ∙ ap (arbitrated (line_of origin) bytes old.arbitration) h.received) i;
    batch = h.batch i;
    from_hear = kept i;
  },
)

-- For a datagram that was refused.
refused_received : (origin : Origin) (bytes : List ℕ) (old new : BatchedArbitration) (refused : Refusal)
    → HasRefused (line_of origin) old.arbitration bytes new.arbitration refused → new.batch ≡ old.batch
    → new.from_hear ≡ old.from_hear → HasReceived origin bytes old new (Err refused)
refused_received origin bytes old new refused (inl lacked) same kept =
    inl (lacked.0, lacked.1, λ i. record { arbitration = lacked.2 i; batch = same i; from_hear = kept i })
refused_received origin bytes old new refused (inr found) same kept =
    inr (
      found.0,
      λ i. record {
        arbitration = (found.1 ∙ ap (arbitrated (line_of origin) bytes old.arbitration) found.0) i;
        batch = same i;
        from_hear = kept i;
      },
    )

-- For any datagram.
pub datagram_received : (origin : Origin) (bytes : List ℕ) (old new : BatchedArbitration) (result : Result Taken Refusal)
    → IfOk result (λ taken. HasArbitrated (line_of origin) old.arbitration bytes old.batch new.arbitration new.batch taken)
    → IfErr result (λ refused. HasRefused (line_of origin) old.arbitration bytes new.arbitration refused)
    → OnErr result (new.batch ≡ old.batch) → new.from_hear ≡ old.from_hear → HasReceived origin bytes old new result
datagram_received origin bytes old new (Ok taken) arbitrated refused same kept =
    taken_received origin bytes old new taken arbitrated kept
datagram_received origin bytes old new (Err why) arbitrated refused same kept =
    refused_received origin bytes old new why refused same kept

-- For a datagram of a line that was taken by the quick way.
pub quickly_received : (line : TheLine) (bytes : List ℕ) (old new : BatchedArbitration) (result : Option Taken)
    → IfSome result (λ taken. HasArbitrated (Some line) old.arbitration bytes old.batch new.arbitration new.batch taken)
    → new.from_hear ≡ old.from_hear → IfSome result (λ taken. HasReceived (Line line) bytes old new (Ok taken))
quickly_received line bytes old new (Some taken) arbitrated kept =
    taken_received (Line line) bytes old new taken arbitrated kept
quickly_received line bytes old new None none kept = tt

-- The messages that a datagram delivers join the batch, which keeps its messages.
longer : (count : ℕ) (batch : Handed) (next : ℕ) (messages : List Message) → count ≤ length batch.messages
    → count ≤ length (followed_by batch next messages).messages
longer count batch next [] few = few
longer count batch next (message ∷ messages) few = omega (arith, few, length-append batch.messages (message ∷ messages))

keeps : (line : Option TheLine) (old new : Arbitration) (bytes : List ℕ) (before after : Handed) (count : ℕ)
    (taken : Taken) → count ≤ length before.messages → HasArbitrated line old bytes before new after taken
    → count ≤ length after.messages
keeps line old new bytes before after count taken few h =
    subst (λ (b : Handed). count ≤ length b.messages) (sym h.batch)
    (longer count before old.view.next h.reception.handed few)

-- After any datagram the batch has as many messages as before, or more.
pub still_has : (line : Option TheLine) (old new : Arbitration) (bytes : List ℕ) (before after : Handed)
    (count : ℕ) (result : Result Taken Refusal) → count ≤ length before.messages
    → IfOk result (λ taken. HasArbitrated line old bytes before new after taken) → OnErr result (after ≡ before)
    → count ≤ length after.messages
still_has line old new bytes before after count (Ok taken) few has same =
    keeps line old new bytes before after count taken few has
still_has line old new bytes before after count (Err why) few has same =
    subst (λ (b : Handed). count ≤ length b.messages) (sym same) few

pub quickly_has : (line : Option TheLine) (old new : Arbitration) (bytes : List ℕ) (before after : Handed)
    (count : ℕ) (result : Option Taken) → count ≤ length before.messages
    → IfSome result (λ taken. HasArbitrated line old bytes before new after taken) → IfNone result (after ≡ before)
    → count ≤ length after.messages
quickly_has line old new bytes before after count (Some taken) few has same =
    keeps line old new bytes before after count taken few has
quickly_has line old new bytes before after count None few has same =
    subst (λ (b : Handed). count ≤ length b.messages) (sym same) few
