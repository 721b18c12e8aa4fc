-- Which printed lines can be printed, and where printing stops, in the format that an empty block ends.
use Rattle.std.proofs.Common.{◌≡◌, ℕ, suc, ◌+◌, List, [], ◌∷◌, ◌++◌, Option, None, Some, refl, ap, ◌∙◌, arith, append-nil}
use Rattle.mold_feed.specs.Received.{PrintedLine, Handed, Refuses, handed_of, lines_to_empty, printable_lines, printed_lines_text}
use Rattle.mold_feed.proofs.LinesTextLemmas.{messages_said, same_parts}
use Rattle.mold_feed.proofs.PrintedLineLemmas.{handing}
use Rattle.mold_feed.specs.Received.{messages_text}
use Rattle.mold_input.specs.declared.message_format.MessageFormat.{MessageFormat}
use Rattle.mold_input.specs.declared.message_format.MessageFormat.TheVariants.{Lines, Blocks, BlocksToEmpty}
use Rattle.mold_listen.specs.Text.{empty_number, handed_text, messages_to_empty, printable, stop_after}
use Rattle.mold_receiver.specs.Store.{Message, numbered}
use Rattle.mold_rule.specs.declared.refusal.Refusal.{Refusal}
use Rattle.mold_text.specs.Text.{refusal_words, refused_line}
use Rattle.mold_turns.specs.Outgoing.{note_text}

-- the number of the first empty message that the lines deliver
unfoldable pub lines_empty : List PrintedLine → Option ℕ
lines_empty [] = None
lines_empty (Handed number [] ∷ printed_lines) = Some number
lines_empty (Handed number (byte ∷ bytes) ∷ printed_lines) = lines_empty printed_lines
lines_empty (Refuses bytes why ∷ printed_lines) = lines_empty printed_lines

-- the number of the empty message before which printing has stopped after these lines
abbrev pub lines_stop : MessageFormat → Option ℕ → List PrintedLine → Option ℕ
lines_stop Lines stopped printed_lines = stopped
lines_stop Blocks stopped printed_lines = stopped
lines_stop BlocksToEmpty None printed_lines = lines_empty printed_lines
lines_stop BlocksToEmpty (Some empty) printed_lines = Some empty

-- ---- no line, and one refusal

pub none_printable : (format : MessageFormat) (stopped : Option ℕ) → printable_lines format stopped [] ≡ []
unfolding lines_to_empty
none_printable Lines stopped = refl
none_printable Blocks stopped = refl
none_printable BlocksToEmpty None = refl
none_printable BlocksToEmpty (Some empty) = refl

pub none_stops : (format : MessageFormat) (stopped : Option ℕ) → lines_stop format stopped [] ≡ stopped
unfolding lines_empty
none_stops Lines stopped = refl
none_stops Blocks stopped = refl
none_stops BlocksToEmpty None = refl
none_stops BlocksToEmpty (Some empty) = refl

pub refusal_text : (format : MessageFormat) (stopped : Option ℕ) (bytes : List ℕ) (why : Refusal) →
    printed_lines_text format (printable_lines format stopped (Refuses bytes why ∷ []))
    ≡ note_text format (refused_line (refusal_words why))
unfolding lines_to_empty
refusal_text Lines stopped bytes why = append-nil (refused_line (refusal_words why))
refusal_text Blocks stopped bytes why = refl
refusal_text BlocksToEmpty None bytes why = refl
refusal_text BlocksToEmpty (Some empty) bytes why = refl

pub refusal_stops : (format : MessageFormat) (stopped : Option ℕ) (bytes : List ℕ) (why : Refusal) →
    lines_stop format stopped (Refuses bytes why ∷ []) ≡ stopped
unfolding lines_empty
refusal_stops Lines stopped bytes why = refl
refusal_stops Blocks stopped bytes why = refl
refusal_stops BlocksToEmpty None bytes why = refl
refusal_stops BlocksToEmpty (Some empty) bytes why = refl

-- ---- lines after lines

to_empty-append : (xs ys : List PrintedLine) →
    lines_to_empty (xs ++ ys) ≡ lines_to_empty xs ++ printable_lines BlocksToEmpty (lines_empty xs) ys
unfolding lines_to_empty lines_empty
to_empty-append [] ys = refl
to_empty-append (Handed number [] ∷ xs) ys = refl
to_empty-append (Handed number (byte ∷ bytes) ∷ xs) ys =
    ap (λ (l : List PrintedLine). Handed number (byte ∷ bytes) ∷ l) (to_empty-append xs ys)
to_empty-append (Refuses bytes why ∷ xs) ys =
    ap (λ (l : List PrintedLine). Refuses bytes why ∷ l) (to_empty-append xs ys)

pub printable-append : (format : MessageFormat) (stopped : Option ℕ) (xs ys : List PrintedLine) →
    printable_lines format stopped (xs ++ ys)
    ≡ printable_lines format stopped xs ++ printable_lines format (lines_stop format stopped xs) ys
printable-append Lines stopped xs ys = refl
printable-append Blocks stopped xs ys = refl
printable-append BlocksToEmpty None xs ys = to_empty-append xs ys
printable-append BlocksToEmpty (Some empty) xs ys = refl

empty-append : (xs ys : List PrintedLine) → lines_empty (xs ++ ys) ≡ lines_stop BlocksToEmpty (lines_empty xs) ys
unfolding lines_empty
empty-append [] ys = refl
empty-append (Handed number [] ∷ xs) ys = refl
empty-append (Handed number (byte ∷ bytes) ∷ xs) ys = empty-append xs ys
empty-append (Refuses bytes why ∷ xs) ys = empty-append xs ys

pub stop-append : (format : MessageFormat) (stopped : Option ℕ) (xs ys : List PrintedLine) →
    lines_stop format stopped (xs ++ ys) ≡ lines_stop format (lines_stop format stopped xs) ys
stop-append Lines stopped xs ys = refl
stop-append Blocks stopped xs ys = refl
stop-append BlocksToEmpty None xs ys = empty-append xs ys
stop-append BlocksToEmpty (Some empty) xs ys = refl

-- ---- the lines of messages

next_number : (number : ℕ) → suc number ≡ number + 1
next_number number = omega arith

to_empty-handing : (number : ℕ) (messages : List Message) →
    lines_to_empty (handing number messages) ≡ handing number (messages_to_empty messages)
unfolding lines_to_empty messages_to_empty handing
to_empty-handing number [] = refl
to_empty-handing number ([] ∷ messages) = refl
to_empty-handing number ((byte ∷ bytes) ∷ messages) =
    ap (λ (l : List PrintedLine). Handed number (byte ∷ bytes) ∷ l) (to_empty-handing (suc number) messages)

pub printable-handing : (format : MessageFormat) (stopped : Option ℕ) (number : ℕ) (messages : List Message) →
    printable_lines format stopped (handing number messages) ≡ handing number (printable format stopped messages)
unfolding handing
printable-handing Lines stopped number messages = refl
printable-handing Blocks stopped number messages = refl
printable-handing BlocksToEmpty None number messages = to_empty-handing number messages
printable-handing BlocksToEmpty (Some empty) number messages = refl

empty-handing : (number : ℕ) (messages : List Message) → lines_empty (handing number messages) ≡ empty_number number messages
unfolding lines_empty empty_number handing
empty-handing number [] = refl
empty-handing number ([] ∷ messages) = refl
empty-handing number ((byte ∷ bytes) ∷ messages) =
    empty-handing (suc number) messages ∙ ap (λ (n : ℕ). empty_number n messages) (next_number number)

pub stop-handing : (format : MessageFormat) (stopped : Option ℕ) (number : ℕ) (messages : List Message) →
    lines_stop format stopped (handing number messages) ≡ stop_after format stopped number messages
stop-handing Lines stopped number messages = refl
stop-handing Blocks stopped number messages = refl
stop-handing BlocksToEmpty None number messages = empty-handing number messages
stop-handing BlocksToEmpty (Some empty) number messages = refl

-- ---- lines that deliver messages, and maybe refuse bytes

-- what one line and one message have in common
same_line : (index number : ℕ) (said message : Message) (handed : List (ℕ × Message)) (messages : List Message) →
    (index, said) ∷ handed ≡ numbered number (message ∷ messages) →
    (index ≡ number) × (said ≡ message) × (handed ≡ numbered (suc number) messages)
same_line index number said message handed messages same =
    let parts = same_parts (index, said) (number, message) handed (numbered (suc number) messages) same in (
      ap (λ (pair : ℕ × Message). pair.0) parts.0,
      ap (λ (pair : ℕ × Message). pair.1) parts.0,
      parts.1,
    )

empty_said : (printed_lines : List PrintedLine) (number : ℕ) (messages : List Message) →
    handed_of printed_lines ≡ numbered number messages → lines_empty printed_lines ≡ empty_number number messages
unfolding lines_empty empty_number
empty_said [] number [] handed = refl
empty_said [] number (message ∷ messages) handed = let no : ⊥ = cc in absurd no
empty_said (Handed index said ∷ printed_lines) number [] handed = let no : ⊥ = cc in absurd no
empty_said (Handed index [] ∷ printed_lines) number ([] ∷ messages) handed =
    ap Some (same_line index number [] [] (handed_of printed_lines) messages handed).0
empty_said (Handed index [] ∷ printed_lines) number ((byte ∷ bytes) ∷ messages) handed =
    let same = (same_line index number [] (byte ∷ bytes) (handed_of printed_lines) messages handed).1 in
    let no : ⊥ = cc in absurd no
empty_said (Handed index (letter ∷ said) ∷ printed_lines) number ([] ∷ messages) handed =
    let same = (same_line index number (letter ∷ said) [] (handed_of printed_lines) messages handed).1 in
    let no : ⊥ = cc in absurd no
empty_said (Handed index (letter ∷ said) ∷ printed_lines) number ((byte ∷ bytes) ∷ messages) handed =
    empty_said printed_lines (suc number) messages
    (same_line index number (letter ∷ said) (byte ∷ bytes) (handed_of printed_lines) messages handed).2
    ∙ ap (λ (n : ℕ). empty_number n messages) (next_number number)
empty_said (Refuses bytes why ∷ printed_lines) number messages handed = empty_said printed_lines number messages handed

-- printing stops where the messages stop it
pub stop_said : (format : MessageFormat) (stopped : Option ℕ) (printed_lines : List PrintedLine) (number : ℕ)
    (messages : List Message) → handed_of printed_lines ≡ numbered number messages →
    lines_stop format stopped printed_lines ≡ stop_after format stopped number messages
stop_said Lines stopped printed_lines number messages handed = refl
stop_said Blocks stopped printed_lines number messages handed = refl
stop_said BlocksToEmpty None printed_lines number messages handed = empty_said printed_lines number messages handed
stop_said BlocksToEmpty (Some empty) printed_lines number messages handed = refl

to_empty_said : (printed_lines : List PrintedLine) (number : ℕ) (messages : List Message) →
    handed_of printed_lines ≡ numbered number messages →
    handed_of (lines_to_empty printed_lines) ≡ numbered number (messages_to_empty messages)
unfolding lines_to_empty messages_to_empty
to_empty_said [] number [] handed = refl
to_empty_said [] number (message ∷ messages) handed = let no : ⊥ = cc in absurd no
to_empty_said (Handed index said ∷ printed_lines) number [] handed = let no : ⊥ = cc in absurd no
to_empty_said (Handed index [] ∷ printed_lines) number ([] ∷ messages) handed = refl
to_empty_said (Handed index [] ∷ printed_lines) number ((byte ∷ bytes) ∷ messages) handed =
    let same = (same_line index number [] (byte ∷ bytes) (handed_of printed_lines) messages handed).1 in
    let no : ⊥ = cc in absurd no
to_empty_said (Handed index (letter ∷ said) ∷ printed_lines) number ([] ∷ messages) handed =
    let same = (same_line index number (letter ∷ said) [] (handed_of printed_lines) messages handed).1 in
    let no : ⊥ = cc in absurd no
to_empty_said (Handed index (letter ∷ said) ∷ printed_lines) number ((byte ∷ bytes) ∷ messages) handed =
    let same = same_line index number (letter ∷ said) (byte ∷ bytes) (handed_of printed_lines) messages handed in
    ap (λ (n : ℕ). (n, letter ∷ said) ∷ handed_of (lines_to_empty printed_lines)) same.0
    ∙ ap (λ (m : Message). (number, m) ∷ handed_of (lines_to_empty printed_lines)) same.1
    ∙ ap (λ (l : List (ℕ × Message)). (number, byte ∷ bytes) ∷ l)
    (to_empty_said printed_lines (suc number) messages same.2)
to_empty_said (Refuses bytes why ∷ printed_lines) number messages handed =
    to_empty_said printed_lines number messages handed

-- without the refusals, the printed lines are the messages that can be printed
pub printable_said : (format : MessageFormat) (printed_lines : List PrintedLine) (number : ℕ) (messages : List Message) →
    handed_of printed_lines ≡ numbered number messages →
    messages_text format (printable_lines format None printed_lines)
    ≡ handed_text format number (printable format None messages)
printable_said Lines printed_lines number messages handed = messages_said Lines printed_lines number messages handed
printable_said Blocks printed_lines number messages handed = messages_said Blocks printed_lines number messages handed
printable_said BlocksToEmpty printed_lines number messages handed =
    messages_said BlocksToEmpty (lines_to_empty printed_lines) number (messages_to_empty messages)
    (to_empty_said printed_lines number messages handed)
