-- A new session whose messages are an input's, and a listener that starts in it.
use Rattle.std.proofs.Common.{◌≡◌, ℕ, ◌+◌, ◌<◌, ◌≤◌, Bool, List, length, Option, None, Some}
use Rattle.std.proofs.Common.{refl, sym, ap, subst, ◌∙◌, arith}
use Rattle.mold_send.specs.PublishLoop.{closed_unless, left_journal}
use Rattle.mold_feed.specs.Sent.{IsOpening}
use Rattle.mold_input.specs.Entries.{InputEntries}
use Rattle.mold_publish.proofs.DatagramLemmas.{grown}
use Rattle.mold_publish.specs.Publishing.{input_published}
use Rattle.mold_publish.specs.declared.message_refusal.MessageRefusal.{MessageRefusal}
use Rattle.mold_receiver.specs.Arbiter.{Arbitration}
use Rattle.mold_receiver.specs.Honest.{IsHonest}
use Rattle.mold_receiver.specs.Store.{Message}
use Rattle.mold_receiver.specs.View.{View, fresh}
use Rattle.mold_session.specs.Journal.{JournalState}
use Rattle.mold_session.specs.Truthful.{MayAnswer}
use Rattle.mold_wire.specs.Packer.{IsLimit}
use Rattle.mold_wire.specs.declared.session.Session.{Session}

-- ---- the journal that is left

-- the journal that publishing the input leaves
abbrev pub left_by : JournalState → InputEntries → JournalState
left_by journal input = left_journal (input_published journal input)

-- closing a journal, or leaving it open, keeps its session and its messages
unless_session : (refused : Option MessageRefusal) (journal : JournalState) →
    (closed_unless refused journal).session ≡ journal.session
unless_session None journal = refl
unless_session (Some why) journal = refl

unless_messages : (refused : Option MessageRefusal) (journal : JournalState) →
    (closed_unless refused journal).messages ≡ journal.messages
unless_messages None journal = refl
unless_messages (Some why) journal = refl

pub left_session : (journal : JournalState) (input : InputEntries) → (left_by journal input).session ≡ journal.session
left_session journal input =
    unless_session (input_published journal input).refused (input_published journal input).journal
    ∙ (grown input journal).session

pub left_messages : (journal : JournalState) (input : InputEntries) →
    (left_by journal input).messages ≡ (input_published journal input).journal.messages
left_messages journal input =
    unless_messages (input_published journal input).refused (input_published journal input).journal

-- a number in the messages before a refused entry is one in the messages of the journal that is left
pub messages_within : (journal : JournalState) (input : InputEntries) (first : ℕ) →
    first ≤ length (input_published journal input).journal.messages + 1 →
    first ≤ length (left_by journal input).messages + 1
messages_within journal input first most =
    let many = ap (λ (messages : List Message). length messages) (left_messages journal input) in
    omega (arith, many, most)

-- ---- a listener

-- the laws about a new session and about a new listener
pub record OpeningLaws : Type 0 where
  pub answers : (limit other : ℕ) (journal : JournalState) (input : InputEntries) → IsOpening journal limit →
      IsLimit other → journal.max_message + 22 ≤ other → MayAnswer (left_by journal input) other
  pub begins : (session : Session) (next window : ℕ) (published : List Message) (closed : Bool) → 1 ≤ next →
      next ≤ length published + 1 → length published < 18446744073709551615 →
      IsHonest (fresh session next window) published closed

module _ (laws : OpeningLaws) (limit : ℕ) (journal : JournalState) (input : InputEntries)
    (opening : IsOpening journal limit) (first window : ℕ) (least : 1 ≤ first)
    (most : first ≤ length (left_by journal input).messages + 1) (arbitration : Arbitration)
    (anew : arbitration.view ≡ fresh journal.session first window) where
  pub begins_honest : IsHonest arbitration.view (left_by journal input).messages (left_by journal input).closed
  begins_honest =
      let may = laws.answers limit limit journal input opening opening.limited opening.longest in
      subst (λ (v : View). IsHonest v (left_by journal input).messages (left_by journal input).closed) (sym anew)
      (laws.begins journal.session first window (left_by journal input).messages (left_by journal input).closed least
      most may.journaled.few)

  pub begins_in : arbitration.view.session ≡ (left_by journal input).session
  begins_in = ap (λ (v : View). v.session) anew ∙ sym (left_session journal input)

  pub begins_at : arbitration.view.next ≡ first
  begins_at = ap (λ (v : View). v.next) anew
