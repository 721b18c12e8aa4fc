-- What a listener that prints blocks has written at its end: the blocks of the published messages.
use Rattle.std.proofs.Common.{◌≡◌, ℕ, ◌+◌, ◌≤◌, Bool, true, false, List, [], ◌∷◌, ◌++◌, length, Option, Result, ap}
use Rattle.std.proofs.Common.{append-nil, refl, subst, sym, ◌∙◌}
use Rattle.std.specs.Prelude.{IfOk}
use Rattle.std.specs.Io.KnownBytes.{Appends}
use Rattle.std.proofs.lemmas.Result.{IfOk-weaker}
use Rattle.mold_devices.specs.Devices.{AppendsPrefix}
use Rattle.mold_feed.specs.Received.{Handed, PrintedLine, PrintsBlocks, PrintsMessages, PrintsMessagesAmong, Refuses}
use Rattle.mold_feed.specs.Received.{closing_status, messages_text, printed_lines_text}
use Rattle.mold_input.specs.declared.message_format.MessageFormat.TheVariants.{Blocks}
use Rattle.mold_listen.specs.Text.{handed_text}
use Rattle.mold_receiver.specs.Store.{Message}
use Rattle.mold_session.specs.Answer.{between}
use Rattle.mold_session.specs.Journal.{JournalState}
use Rattle.mold_wire.specs.Block.{block, blocks}

-- the text of messages as blocks is their blocks
pub blocks_text : (number : ℕ) (messages : List Message) → handed_text Blocks number messages ≡ blocks messages
unfolding handed_text
blocks_text number [] = refl
blocks_text number (message ∷ messages) =
    ap (λ (text : List ℕ). block message ++ text) (blocks_text (number + 1) messages)

-- among blocks, refusals have no text
blocks_alone : (printed_lines : List PrintedLine) →
    printed_lines_text Blocks printed_lines ≡ messages_text Blocks printed_lines
blocks_alone [] = refl
blocks_alone (Handed number message ∷ printed_lines) =
    ap (λ (text : List ℕ). block message ++ text) (blocks_alone printed_lines)
blocks_alone (Refuses bytes why ∷ printed_lines) = blocks_alone printed_lines

finishes : (over : Bool) → closing_status over ≡ 0 → over ≡ true
finishes true is = refl
finishes false is = let no : ⊥ = cc in absurd no

-- text that is the blocks of the messages was written
blocks_written : {E : Type 0} {first : ℕ} {result : Result ℕ E} {old new : Option (List ℕ)} (journal : JournalState)
    (next : ℕ) (finished : Bool) (text : List ℕ) → first ≤ next → next ≤ length journal.messages + 1 →
    (finished ≡ true → (journal.closed ≡ true) × (next ≡ length journal.messages + 1)) →
    text ≡ blocks (between journal.messages first next) →
    IfOk result (λ status. (status ≡ closing_status finished) × Appends old new text) → AppendsPrefix old new text →
    PrintsBlocks journal first result old new
blocks_written {E} {first} {result} {old} {new} journal next finished text from to ends same whole front = record {
  next = next;
  from = from;
  to = to;
  text =
      IfOk-weaker result _ _
      (λ answer written. (
        subst (λ (t : List ℕ). Appends old new t) same written.1,
        λ none. ends (finishes finished (sym written.0 ∙ none)),
      ))
      whole;
  front = subst (λ (t : List ℕ). AppendsPrefix old new t) same front;
}

-- a listener that printed messages as blocks has written their blocks
pub prints_blocks : {E : Type 0} {reporting : Bool} {first : ℕ} {result : Result ℕ E} {old new : Option (List ℕ)}
    (journal : JournalState) → PrintsMessages Blocks reporting journal first result old new →
    PrintsBlocks journal first result old new
prints_blocks {E} {reporting} {first} journal prints =
    let messages : List Message = between journal.messages first prints.next in
    blocks_written journal prints.next prints.finished _ prints.from prints.to
    (λ over. (prints.closed over, prints.all over))
    (append-nil (handed_text Blocks first messages) ∙ blocks_text first messages) prints.text prints.front

-- the same, whatever foreign bytes it received
pub prints_blocks_among : {E : Type 0} {reporting : Bool} {first : ℕ} {result : Result ℕ E}
    {old new : Option (List ℕ)} (Came : List ℕ → Type 0) (journal : JournalState) →
    PrintsMessagesAmong Blocks reporting Came journal first result old new → PrintsBlocks journal first result old new
prints_blocks_among {E} {reporting} {first} Came journal prints =
    let messages : List Message = between journal.messages first prints.next in
    blocks_written journal prints.next prints.finished _ prints.from prints.to
    (λ over. (prints.closed over, prints.all over))
    (append-nil (printed_lines_text Blocks prints.printed_lines)
    ∙ blocks_alone prints.printed_lines
    ∙ prints.messages
    ∙ blocks_text first messages)
    prints.text prints.front
