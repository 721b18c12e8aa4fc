-- The properties of a publisher are kept when messages are published, sent and retracted, and when it is closed.
use Rattle.std.proofs.Common.{◌≡◌, ℕ, ◌-◌, ◌<◌, cond, ltb, eqb, Bool, true, false, List, [], ◌∷◌, ◌++◌, length, take}
use Rattle.std.proofs.Common.{length-append, length-drop, Option, None, Some, refl, sym, ◌∙◌, inl, inr, arith}
use Rattle.std.specs.List.{AllByRecursion}
use Rattle.std.proofs.lemmas.Bool.{cases_eq, eq-eqb, eqb-false, ltb-false, false≢true}
use Rattle.std.proofs.lemmas.List.{length-take}
use Rattle.std.proofs.lemmas.Option.{none-some}
use Rattle.mold_wire.specs.declared.packet.Packet.{Packet}
use Rattle.mold_session.proofs.FrontLemmas.{FrontIs, each_take, front_within}
use Rattle.mold_session.specs.Journal.{AreMessages, IsJournal, IsWithin, JournalState, append_refusal}
use Rattle.mold_session.specs.Publisher.{IsPublisher, MayPublish, PublisherState, after_datagram, closed, next_datagram}
use Rattle.mold_session.specs.Publisher.{MayResume, next_front, published, resumed_publisher, retracted, unsent_of}

-- If there is no first reason, the first check found none, and neither did the others.
none_if :
    {E : Type 0} (refused : Bool) (error : E) (others : Option E) → cond refused (Some error) others ≡ None →
    (refused ≡ false) × (others ≡ None)
none_if true error others is = absurd (none-some error (sym is))
none_if false error others is = (refl, is)

-- A message that isn't refused can be published.
pub may_publish :
    (publisher : PublisherState) (message : List ℕ) → append_refusal publisher.journal message ≡ None →
    MayPublish publisher message
may_publish publisher message none =
    let open_session = none_if publisher.journal.closed _ _ none in
    let short = none_if (ltb publisher.journal.max_message (length message)) _ _ open_session.1 in
    let number = none_if (eqb (length publisher.journal.messages) 18446744073709551614) _ _ short.1 in
    record {
      unclosed = open_session.0;
      short = ltb-false publisher.journal.max_message (length message) short.0;
      number = eqb-false (length publisher.journal.messages) 18446744073709551614 number.0;
    }

each_pushed :
    (most : ℕ) (messages : List (List ℕ)) (message : List ℕ) → AllByRecursion (IsWithin most) messages →
    IsWithin most message → AllByRecursion (IsWithin most) (messages ++ message ∷ [])
each_pushed most [] message each one = (one, tt)
each_pushed most (first ∷ messages) message each one = (each.0, each_pushed most messages message each.1 one)

pub stays_published :
    (publisher : PublisherState) (message : List ℕ) → IsPublisher publisher → MayPublish publisher message →
    IsPublisher (published publisher message)
stays_published publisher message is may =
    let longer = length-append publisher.journal.messages (message ∷ []) in
    record {
      limited = is.limited;
      longest = is.longest;
      journaled = record {
        few = omega (arith, longer, is.journaled.few, may.number);
        each = each_pushed publisher.journal.max_message publisher.journal.messages message is.journaled.each may.short;
      };
      published = omega (arith, longer, is.published);
      finished = λ closed_now. absurd (false≢true (sym may.unclosed ∙ closed_now));
    }

pub stays_sent :
    (publisher : PublisherState) (packet : Packet) → FrontIs → IsPublisher publisher →
    next_datagram publisher ≡ Some packet → IsPublisher (after_datagram publisher)
stays_sent publisher packet front_is is next =
    let messages : List (List ℕ) = publisher.journal.messages in
    let within = front_within publisher.limit (unsent_of publisher) (length messages) (next_front publisher)
    (front_is publisher.limit (unsent_of publisher) (length messages) (omega (arith, is.limited.0)))
    in
    elim (cases_eq publisher.sent (length messages)) [
      | inl all ↦ absurd (none-some packet (rw (eq-eqb publisher.sent (length messages) all) at next))
      | inr more ↦ record {
        limited = is.limited;
        longest = is.longest;
        journaled = is.journaled;
        published = omega (arith, within, length-drop publisher.sent messages, is.published);
        finished = λ closed_now. absurd (more (is.finished closed_now));
      }
    ]

pub stays_closed :
    (publisher : PublisherState) → IsPublisher publisher → publisher.sent ≡ length publisher.journal.messages →
    IsPublisher (closed publisher)
stays_closed publisher is all = record {
  limited = is.limited;
  longest = is.longest;
  journaled = record { few = is.journaled.few; each = is.journaled.each };
  published = is.published;
  finished = λ _. all;
}

-- The messages of a journal without the last one.
pub fewer_messages :
    (most : ℕ) (messages : List (List ℕ)) (count : ℕ) → AreMessages most messages → AreMessages most (take count messages)
fewer_messages most messages count are = record {
  few = omega (arith, length-take count messages, are.few);
  each = each_take (IsWithin most) count messages are.each;
}

pub stays_retracted :
    (publisher : PublisherState) → IsPublisher publisher → publisher.sent < length publisher.journal.messages →
    IsPublisher (retracted publisher)
stays_retracted publisher is unsent =
    let messages : List (List ℕ) = publisher.journal.messages in
    record {
      limited = is.limited;
      longest = is.longest;
      journaled = fewer_messages publisher.journal.max_message messages (length messages - 1) is.journaled;
      published = omega (arith, length-take (length messages - 1) messages, unsent);
      finished = λ closed_now. absurd (omega (arith, is.finished closed_now, unsent));
    }

-- A publisher of a journal whose messages all count as sent.
pub resumes : (journal : JournalState) (limit : ℕ) → IsJournal journal → MayResume journal limit →
    IsPublisher (resumed_publisher journal limit)
resumes journal limit is may = record {
  limited = may.0;
  longest = may.1;
  journaled = is;
  published = omega arith;
  finished = λ closed_now. refl;
}
