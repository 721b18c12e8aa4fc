-- A message that is published, and then appended to the durable journal or retracted.
use Rattle.std.proofs.Common.{◌≡◌, inl, inr, ℕ, ◌-◌, ◌<◌, Bool, true, false, List, [], ◌∷◌, ◌++◌, length, take}
use Rattle.std.proofs.Common.{None, sym, ap, subst, ◌∙◌, length-append, arith}
use Rattle.std.proofs.Math.Seq.{take-append_seam}
use Rattle.std.specs.Prelude.{unwrap_or}
use Rattle.mold_session.specs.Journal.{append_refusal}
use Rattle.mold_session.specs.Publisher.{IsPublisher, PublisherState, published, retracted}
use Rattle.mold_session.specs.declared.error.AppendError.TheVariants.{Memory}
use Rattle.mold_durable.specs.DurableJournal.{waiting_refusal}
use Rattle.mold_durable.specs.declared.error.WaitingError.{WaitingError}
use Rattle.mold_durable.specs.declared.error.WaitingError.TheVariants.{Append, Broken}
use Rattle.mold_durable_publisher.specs.DurablePublisher.{IsAppendFault}
use Rattle.mold_durable_publisher.specs.declared.durable_publisher.DurablePublisher.{DurablePublisher}

-- A message that was just published is unsent.
pub may_retract : (old new : PublisherState) (message : List ℕ) → IsPublisher old → new ≡ published old message →
    new.sent < length new.journal.messages
may_retract old new message is made =
    subst (λ (p : PublisherState). p.sent < length p.journal.messages) (sym made)
    (omega (arith, is.published, length-append old.journal.messages (message ∷ [])))

-- Without it, the publisher is as before.
pub retract_same : (old new : PublisherState) (message : List ℕ) → new ≡ published old message → retracted new ≡ old
retract_same old new message made =
    let messages : List (List ℕ) = old.journal.messages in
    let all : List (List ℕ) = messages ++ message ∷ [] in
    let count : length all - 1 ≡ length messages = omega (arith, length-append messages (message ∷ [])) in
    ap (λ (p : PublisherState). retracted p) made
    ∙ ap (λ (ms : List (List ℕ)). record old { journal = record old.journal { messages = ms } })
    (ap (λ (n : ℕ). take n all) count ∙ take-append_seam messages (message ∷ []))

-- Why the durable journal refuses it.
pub append_fault : {S : Type 0} (publisher : DurablePublisher S) (message : List ℕ) (error : WaitingError)
    (broken : Bool) → publisher.durable.broken ≡ broken →
    append_refusal publisher.publisher.journal message ≡ None →
    (publisher.durable.broken ≡ true → error ≡ Broken) →
    (publisher.durable.broken ≡ false →
    error ≡ Append (unwrap_or (waiting_refusal publisher.durable message) Memory)) →
    IsAppendFault publisher message error
append_fault publisher message error true was taken broken refused = inr (taken, inl (was, broken was))
append_fault publisher message error false was taken broken refused = inr (taken, inr (was, refused was))
