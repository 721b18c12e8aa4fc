-- A listener that printed blocks with status 0 has written the bytes that the publisher read.
use Rattle.std.proofs.Common.{arith, ◌≡◌, ◌∙◌, ℕ, ◌+◌, ◌-◌, true, List, [], ◌++◌, length, map, Option, None, Some, Result}
use Rattle.std.proofs.Common.{Ok, ap, append-nil, inl, inr, refl, subst, sym}
use Rattle.std.specs.Prelude.{IfOk}
use Rattle.std.specs.Io.KnownBytes.{Appends}
use Rattle.std.proofs.lemmas.Bool.{false≢true}
use Rattle.std.proofs.lemmas.List.{take_all}
use Rattle.mold_feed.specs.Received.{PrintsBlocks, PrintsToEmpty, WritesToEmpty, WritesToMark}
use Rattle.mold_feed.specs.Sent.{HasMessages, HasMessagesBefore, IsOpening, blocks_input, to_empty_input}
use Rattle.mold_feed.proofs.OpeningLemmas.{left_by}
use Rattle.mold_input.specs.Blocks.{block_entries}
use Rattle.mold_input.specs.BlocksToEmpty.{to_empty_entries}
use Rattle.mold_input.specs.Entries.{InputEntries}
use Rattle.mold_publish.specs.Publishing.{input_published}
use Rattle.mold_publish.specs.declared.message_refusal.MessageRefusal.{MessageRefusal}
use Rattle.mold_receiver.specs.Store.{Message}
use Rattle.mold_send.specs.PublishLoop.{closed_unless}
use Rattle.mold_session.specs.Answer.{between}
use Rattle.mold_session.specs.Journal.{JournalState}
use Rattle.mold_wire.specs.Block.{IsBytes, block, blocks}

-- the laws about the messages of an input
pub record SameBytesLaws : Type 0 where
  pub messages : (limit : ℕ) (journal : JournalState) (input : InputEntries) → IsOpening journal limit →
      (input_published journal input).refused ≡ None → HasMessages input.entries (left_by journal input)
  pub before : (limit : ℕ) (journal : JournalState) (input : InputEntries) (why : MessageRefusal) →
      IsOpening journal limit → (input_published journal input).refused ≡ Some why →
      HasMessagesBefore input why (input_published journal input).journal
  pub spelled : (messages : List (List ℕ)) (bytes : List ℕ) → IsBytes bytes →
      block_entries bytes ≡ map Ok messages → bytes ≡ blocks messages
  pub to_empty : (messages : List (List ℕ)) (bytes : List ℕ) → IsBytes bytes →
      to_empty_entries bytes ≡ map Ok messages → (rest : List ℕ) × (bytes ≡ blocks messages ++ block [] ++ rest)

-- all messages of a session are between 1 and the number after the last one
all_between : (messages : List Message) (next : ℕ) → next ≡ length messages + 1 → between messages 1 next ≡ messages
all_between messages next is = take_all (next - 1) messages (omega (arith, is))

pub none_if : (refused : Option MessageRefusal) → ((why : MessageRefusal) → refused ≡ Some why → ⊥) → refused ≡ None
none_if None never = refl
none_if (Some why) never = absurd (never why refl)

-- with status 0, all is printed
at_end : (journal : JournalState) (next : ℕ) (messages others : List Message) (old new : Option (List ℕ)) →
    WritesToEmpty journal next messages others old new 0 →
    (others ≡ []) × (journal.closed ≡ true) × (next ≡ length journal.messages + 1)
    × Appends old new (blocks messages ++ block [])
at_end journal next messages others old new (inl done) = (done.1, done.2, done.3, done.4)
at_end journal next messages others old new (inr (inl done)) = absurd (omega (arith, done.0))
at_end journal next messages others old new (inr (inr done)) = absurd (omega (arith, done.0))

module _ (laws : SameBytesLaws) (limit : ℕ) (journal : JournalState) (opening : IsOpening journal limit) where
  -- no entry is refused if the journal that is left is closed
  pub unrefused : (input : InputEntries) → (left_by journal input).closed ≡ true →
      (input_published journal input).refused ≡ None
  unrefused input closed =
      none_if (input_published journal input).refused (λ why refused.
      let left : (left_by journal input).closed ≡ (input_published journal input).journal.closed =
      ap (λ (r : Option MessageRefusal). (closed_unless r (input_published journal input).journal).closed) refused in
      false≢true (sym (laws.before limit journal input why opening refused).unclosed ∙ sym left ∙ closed))

  pub same_bytes : {E : Type 0} (bytes : List ℕ) {result : Result ℕ E} {old new : Option (List ℕ)} → IsBytes bytes →
      PrintsBlocks (left_by journal (blocks_input bytes)) 1 result old new → result ≡ Ok 0 → Appends old new bytes
  same_bytes {E} bytes {result} {old} {new} fits prints zero =
      let input : InputEntries = blocks_input bytes in
      let messages : List Message = (left_by journal input).messages in
      let written : Appends old new (blocks (between messages 1 prints.next))
      × (0 ≡ 0 → ((left_by journal input).closed ≡ true) × (prints.next ≡ length messages + 1)) =
      subst (λ (r : Result ℕ E). IfOk r (λ status. Appends old new (blocks (between messages 1 prints.next))
      × (status ≡ 0 → ((left_by journal input).closed ≡ true) × (prints.next ≡ length messages + 1)))) zero prints.text in
      let ends = written.1 refl in
      let has : HasMessages input.entries (left_by journal input) =
      laws.messages limit journal input opening (unrefused input ends.0) in
      subst (λ (text : List ℕ). Appends old new text)
      (ap blocks (all_between messages prints.next ends.1) ∙ sym (laws.spelled messages bytes fits has.read))
      written.0

  pub same_to_mark : {E : Type 0} (bytes : List ℕ) {result : Result ℕ E} {old new : Option (List ℕ)} → IsBytes bytes →
      PrintsToEmpty (left_by journal (to_empty_input bytes)) 1 result old new → result ≡ Ok 0 →
      WritesToMark bytes old new
  same_to_mark {E} bytes {result} {old} {new} fits prints zero =
      let input : InputEntries = to_empty_input bytes in
      let left : JournalState = left_by journal input in
      let ends = at_end left prints.next prints.messages prints.others old new
      (subst (λ (r : Result ℕ E). IfOk r (λ status.
      WritesToEmpty left prints.next prints.messages prints.others old new status)) zero prints.text) in
      let has : HasMessages input.entries left = laws.messages limit journal input opening (unrefused input ends.1) in
      let all : prints.messages ≡ left.messages =
      sym (append-nil prints.messages)
      ∙ ap (λ (l : List Message). prints.messages ++ l) (sym ends.0)
      ∙ sym prints.parts
      ∙ all_between left.messages prints.next ends.2 in
      let spelled = laws.to_empty left.messages bytes fits has.read in
      record {
        messages = prints.messages;
        filled = prints.filled;
        rest = spelled.0;
        parts =
            spelled.1 ∙ ap (λ (l : List Message). blocks l ++ block [] ++ spelled.0) (sym all);
        written = ends.3;
      }
