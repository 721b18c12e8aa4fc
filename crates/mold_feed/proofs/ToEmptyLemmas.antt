-- What a listener that prints blocks up to an empty one has written at its end.
use Rattle.std.proofs.Common.{◌≡◌, ℕ, ◌+◌, ◌≤◌, Bool, true, false, List, [], ◌∷◌, ◌++◌, length, Option, None, Some, Result}
use Rattle.std.proofs.Common.{ap, append-nil, arith, inl, inr, refl, subst, ◌∙◌}
use Rattle.std.specs.Prelude.{IfOk}
use Rattle.std.specs.Io.KnownBytes.{Appends}
use Rattle.std.specs.List.{AllByRecursion}
use Rattle.std.proofs.lemmas.Result.{IfOk-weaker}
use Rattle.mold_devices.specs.Devices.{AppendsPrefix}
use Rattle.mold_feed.specs.Received.{BeginsEmpty, Handed, PrintedLine, PrintsMessages, PrintsMessagesAmong, PrintsToEmpty}
use Rattle.mold_feed.specs.Received.{Refuses, WritesToEmpty}
use Rattle.mold_feed.specs.Received.{lines_to_empty, messages_text, printed_lines_text}
use Rattle.mold_input.specs.BlocksToEmpty.{IsNotEmpty}
use Rattle.mold_input.specs.declared.message_format.MessageFormat.TheVariants.{BlocksToEmpty}
use Rattle.mold_listen.specs.Text.{empty_number, end_status, end_text, handed_text, messages_to_empty}
use Rattle.mold_receiver.specs.Store.{Message}
use Rattle.mold_session.specs.Answer.{between}
use Rattle.mold_turns.proofs.PrintingLemmas.{front_more}
use Rattle.mold_session.specs.Journal.{JournalState}
use Rattle.mold_wire.specs.Block.{block, blocks}

-- the text of messages as blocks is their blocks
to_empty_text : (number : ℕ) (messages : List Message) → handed_text BlocksToEmpty number messages ≡ blocks messages
unfolding handed_text
to_empty_text number [] = refl
to_empty_text number (message ∷ messages) =
    ap (λ (text : List ℕ). block message ++ text) (to_empty_text (number + 1) messages)

-- among blocks, refusals have no text
to_empty_alone : (printed_lines : List PrintedLine) →
    printed_lines_text BlocksToEmpty printed_lines ≡ messages_text BlocksToEmpty printed_lines
to_empty_alone [] = refl
to_empty_alone (Handed number message ∷ printed_lines) =
    ap (λ (text : List ℕ). block message ++ text) (to_empty_alone printed_lines)
to_empty_alone (Refuses bytes why ∷ printed_lines) = to_empty_alone printed_lines

-- messages, and those of them before the first empty one
record Parted (number : ℕ) (messages : List Message) : Type 0 where
  others : List Message
  parts : messages ≡ messages_to_empty messages ++ others
  filled : AllByRecursion IsNotEmpty (messages_to_empty messages)
  none : empty_number number messages ≡ None → others ≡ []
  some : (empty : ℕ) → empty_number number messages ≡ Some empty → BeginsEmpty others

parted : (number : ℕ) (messages : List Message) → Parted number messages
unfolding messages_to_empty empty_number
parted number [] = record {
  others = [];
  parts = refl;
  filled = tt;
  none = λ none. refl;
  some = λ empty is. let no : ⊥ = cc in absurd no;
}
parted number ([] ∷ messages) = record {
  others = [] ∷ messages;
  parts = refl;
  filled = tt;
  none = λ none. let no : ⊥ = cc in absurd no;
  some = λ empty is. tt;
}
parted number ((byte ∷ bytes) ∷ messages) =
    let rest = parted (number + 1) messages in
    record {
      others = rest.others;
      parts = ap (λ (l : List Message). (byte ∷ bytes) ∷ l) rest.parts;
      filled = (omega arith, rest.filled);
      none = rest.none;
      some = rest.some;
    }

module _ (journal : JournalState) (next : ℕ) (messages others : List Message) (old new : Option (List ℕ)) where
  ended : (stop : Option ℕ) (finished : Bool) (status : ℕ) (note text : List ℕ) → (stop ≡ None → others ≡ []) →
      ((empty : ℕ) → stop ≡ Some empty → BeginsEmpty others) → (finished ≡ true → journal.closed ≡ true) →
      (finished ≡ true → next ≡ length journal.messages + 1) → text ≡ blocks messages →
      status ≡ end_status stop finished → Appends old new (text ++ end_text BlocksToEmpty stop finished note) →
      WritesToEmpty journal next messages others old new status
  ended None true status note text none some closed all is done written =
      inl (
        done,
        none refl,
        closed refl,
        all refl,
        subst (λ (t : List ℕ). Appends old new (t ++ block [])) is written,
      )
  ended None false status note text none some closed all is done written =
      inr (inl (done, none refl, subst (λ (t : List ℕ). Appends old new t) (append-nil text ∙ is) written))
  ended (Some empty) finished status note text none some closed all is done written =
      inr (inr (done, some empty refl, subst (λ (t : List ℕ). Appends old new t) (append-nil text ∙ is) written))

  cut_off : (stop : Option ℕ) (finished : Bool) (note text : List ℕ) → text ≡ blocks messages →
      AppendsPrefix old new (text ++ end_text BlocksToEmpty stop finished note) →
      AppendsPrefix old new (blocks messages ++ block [])
  cut_off None true note text is front = subst (λ (t : List ℕ). AppendsPrefix old new (t ++ block [])) is front
  cut_off None false note text is front =
      front_more old new (blocks messages) (block [])
      (subst (λ (t : List ℕ). AppendsPrefix old new t) (append-nil text ∙ is) front)
  cut_off (Some empty) finished note text is front =
      front_more old new (blocks messages) (block [])
      (subst (λ (t : List ℕ). AppendsPrefix old new t) (append-nil text ∙ is) front)

-- text that is the blocks before the first empty message was written, and what follows them
to_empty_written : {E : Type 0} {first : ℕ} {result : Result ℕ E} {old new : Option (List ℕ)} (journal : JournalState)
    (next : ℕ) (finished : Bool) (note text : List ℕ) → first ≤ next → next ≤ length journal.messages + 1 →
    (finished ≡ true → journal.closed ≡ true) → (finished ≡ true → next ≡ length journal.messages + 1) →
    text ≡ blocks (messages_to_empty (between journal.messages first next)) →
    IfOk result (λ status.
    (status ≡ end_status (empty_number first (between journal.messages first next)) finished)
    × Appends old new (text
    ++ end_text BlocksToEmpty (empty_number first (between journal.messages first next)) finished note)) →
    AppendsPrefix old new (text
    ++ end_text BlocksToEmpty (empty_number first (between journal.messages first next)) finished note) →
    PrintsToEmpty journal first result old new
to_empty_written {E} {first} {result} {old} {new} journal next finished note text from to closed ends is whole front =
    let all : List Message = between journal.messages first next in
    let messages : List Message = messages_to_empty all in
    let stop : Option ℕ = empty_number first all in
    let each : Parted first all = parted first all in
    record {
      next = next;
      from = from;
      to = to;
      messages = messages;
      filled = each.filled;
      others = each.others;
      parts = each.parts;
      text =
          IfOk-weaker result _ _
          (λ answer written.
          ended journal next messages each.others old new stop finished answer note text each.none each.some closed ends
          is written.0 written.1)
          whole;
      front = cut_off journal next messages each.others old new stop finished note text is front;
    }

-- a listener that prints blocks up to an empty one has written them
pub prints_to_empty : {E : Type 0} {reporting : Bool} {first : ℕ} {result : Result ℕ E} {old new : Option (List ℕ)}
    (journal : JournalState) → PrintsMessages BlocksToEmpty reporting journal first result old new →
    PrintsToEmpty journal first result old new
prints_to_empty {E} {reporting} {first} journal prints =
    let messages : List Message = messages_to_empty (between journal.messages first prints.next) in
    to_empty_written journal prints.next prints.finished _ (handed_text BlocksToEmpty first messages) prints.from
    prints.to prints.closed prints.all (to_empty_text first messages) prints.text prints.front

-- the same, whatever foreign bytes it received
pub prints_to_empty_among : {E : Type 0} {reporting : Bool} {first : ℕ} {result : Result ℕ E}
    {old new : Option (List ℕ)} (Came : List ℕ → Type 0) (journal : JournalState) →
    PrintsMessagesAmong BlocksToEmpty reporting Came journal first result old new →
    PrintsToEmpty journal first result old new
prints_to_empty_among {E} {reporting} {first} Came journal prints =
    let messages : List Message = messages_to_empty (between journal.messages first prints.next) in
    to_empty_written journal prints.next prints.finished _
    (printed_lines_text BlocksToEmpty (lines_to_empty prints.printed_lines)) prints.from prints.to prints.closed
    prints.all
    (to_empty_alone (lines_to_empty prints.printed_lines) ∙ prints.messages ∙ to_empty_text first messages)
    prints.text prints.front
