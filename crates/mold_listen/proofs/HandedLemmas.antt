-- The lines of a batch's messages, one by one.
use Rattle.std.proofs.Common.{arith, ◌≡◌, ℕ, ◌+◌, ◌-◌, ◌<◌, ◌≤◌, List, [], ◌∷◌, ◌++◌, length, drop, Option, None, Some}
use Rattle.std.proofs.Common.{ap, refl, sym, take, ◌∙◌, append_assoc, append-nil, drop_of_length-le, length-append}
use Rattle.std.proofs.lemmas.List.{drop_more, length-take, length-take-le, take-append-le, take-take, take_at}
use Rattle.std.proofs.lemmas.Option.{slice_get_within, get_or_from_slice_get, slice_get-get_or}
use Rattle.std.specs.Prelude.{slice_get}
use Rattle.mold_receiver.specs.Batch.{first_in, after_in}
use Rattle.mold_receiver.specs.Store.{Message}
use Rattle.mold_digits.specs.Writing.{IsWritten}
use Rattle.mold_input.specs.declared.message_format.MessageFormat.{MessageFormat}
use Rattle.mold_input.specs.declared.message_format.MessageFormat.TheVariants.{BlocksToEmpty}
use Rattle.mold_listen.specs.Text.{empty_number, handed_text, message_text, messages_to_empty}
use Rattle.mold_wire.specs.Block.{block}

-- bytes at `at` or after changed, so the former text is still a prefix
pub kept_below : (old now later rest more : List ℕ) (at : ℕ) → length old ≤ at → at ≤ length now →
    take at now ++ rest ≡ old ++ more → take at later ≡ take at now → take (length old) later ≡ old
kept_below old now later rest more at low within printed same =
    sym (take-take (length old) at later low)
    ∙ ap (take (length old)) same
    ∙ sym (take-append-le (length old) (take at now) rest
    (let e : length old ≤ length (take at now) = omega (arith, length-take-le at now within, low) in e))
    ∙ ap (take (length old)) printed
    ∙ take_at old more (length old) refl

-- if a batch has a first number, this is it
pub first_is : (number first : ℕ) (ms : List Message) → Some first ≡ first_in number ms → first ≡ number
first_is number first [] is = let no : ⊥ = cc in absurd no
first_is number first (message ∷ ms) is = cc

pub after_is : (number after : ℕ) (ms : List Message) → Some after ≡ after_in number ms → after ≡ number + length ms
after_is number after [] is = let no : ⊥ = cc in absurd no
after_is number after (message ∷ ms) is = cc

-- an index below the length of the list has a message
pub none_within : (ms : List Message) (k : ℕ) → None ≡ slice_get ms k → k < length ms → ⊥
none_within ms k none within = let some = slice_get-get_or ms k [] within in cc

-- the line of the message at a number is the first of the remaining lines
handed_step : (format : MessageFormat) (number first : ℕ) (ms : List Message) (message : Message) → first ≤ number →
    Some message ≡ slice_get ms (number - first) →
    handed_text format number (drop (number - first) ms)
    ≡ message_text format number message ++ handed_text format (number + 1) (drop (number + 1 - first) ms)
unfolding handed_text
handed_step format number first ms message low is =
    let buffer : ℕ = number - first in
    let here = get_or_from_slice_get ms buffer message [] (sym is) in
    ap (handed_text format number)
    (drop_more ms buffer [] (slice_get_within ms buffer message (sym is))
    ∙ ap (λ (m : Message). m ∷ drop (buffer + 1) ms) here)
    ∙ ap (λ (k : ℕ). message_text format number message ++ handed_text format (number + 1) (drop k ms))
    (let e : buffer + 1 ≡ number + 1 - first = omega arith in e)

-- after its line is written, one line fewer remains
pub handed_more : (format : MessageFormat) (number first : ℕ) (ms : List Message) (message : Message)
    (old new whole : List ℕ) → first ≤ number → Some message ≡ slice_get ms (number - first) →
    old ++ handed_text format number (drop (number - first) ms) ≡ whole →
    new ≡ old ++ message_text format number message →
    new ++ handed_text format (number + 1) (drop (number + 1 - first) ms) ≡ whole
handed_more format number first ms message old new whole low is printed written =
    let rest : List ℕ = handed_text format (number + 1) (drop (number + 1 - first) ms) in
    ap (λ (t : List ℕ). t ++ rest) written ∙ append_assoc old (message_text format number message) rest
    ∙ ap (λ (t : List ℕ). old ++ t) (sym (handed_step format number first ms message low is)) ∙ printed

pub handed_all : (format : MessageFormat) (number first : ℕ) (ms : List Message) (old whole : List ℕ) →
    first + length ms ≤ number → old ++ handed_text format number (drop (number - first) ms) ≡ whole → old ≡ whole
unfolding handed_text
handed_all format number first ms old whole high printed =
    sym (append-nil old)
    ∙ ap (λ (l : List Message). old ++ handed_text format number l) (sym (drop_of_length-le ms (omega arith)))
    ∙ printed

pub handed_init : (format : MessageFormat) (first : ℕ) (ms : List Message) (old : List ℕ) →
    old ++ handed_text format first (drop (first - first) ms) ≡ old ++ handed_text format first ms
handed_init format first ms old =
    ap (λ (k : ℕ). old ++ handed_text format first (drop k ms)) (let e : first - first ≡ 0 = omega arith in e)

-- ---- up to the first empty message

-- the message at an index is the first of the remaining messages
rest_from : (ms : List Message) (k : ℕ) (message : Message) → Some message ≡ slice_get ms k →
    drop k ms ≡ message ∷ drop (k + 1) ms
rest_from ms k message is =
    drop_more ms k [] (slice_get_within ms k message (sym is))
    ∙ ap (λ (m : Message). m ∷ drop (k + 1) ms) (get_or_from_slice_get ms k message [] (sym is))

-- an index after that of a number is the one of the next number
next_index : (number first : ℕ) → first ≤ number → number - first + 1 ≡ number + 1 - first
next_index number first low = omega arith

filled_text : (number : ℕ) (message : Message) (rest : List Message) → 0 < length message →
    handed_text BlocksToEmpty number (messages_to_empty (message ∷ rest))
    ≡ block message ++ handed_text BlocksToEmpty (number + 1) (messages_to_empty rest)
unfolding handed_text messages_to_empty
filled_text number [] rest some = absurd (omega (arith, some))
filled_text number (byte ∷ bytes) rest some = refl

filled_number : (number : ℕ) (message : Message) (rest : List Message) → 0 < length message →
    empty_number number (message ∷ rest) ≡ empty_number (number + 1) rest
unfolding empty_number
filled_number number [] rest some = absurd (omega (arith, some))
filled_number number (byte ∷ bytes) rest some = refl

empty_text : (number : ℕ) (message : Message) (rest : List Message) → length message ≡ 0 →
    handed_text BlocksToEmpty number (messages_to_empty (message ∷ rest)) ≡ []
unfolding handed_text messages_to_empty
empty_text number [] rest none = refl
empty_text number (byte ∷ bytes) rest none = absurd (omega (arith, none))

empty_at : (number : ℕ) (message : Message) (rest : List Message) → length message ≡ 0 →
    empty_number number (message ∷ rest) ≡ Some number
unfolding empty_number
empty_at number [] rest none = refl
empty_at number (byte ∷ bytes) rest none = absurd (omega (arith, none))

-- after the block of a message that is not empty, one message fewer remains
pub to_empty_more : (number first : ℕ) (ms : List Message) (message : Message) (old new whole : List ℕ) →
    first ≤ number → Some message ≡ slice_get ms (number - first) → 0 < length message →
    old ++ handed_text BlocksToEmpty number (messages_to_empty (drop (number - first) ms)) ≡ whole →
    new ≡ old ++ block message →
    new ++ handed_text BlocksToEmpty (number + 1) (messages_to_empty (drop (number + 1 - first) ms)) ≡ whole
to_empty_more number first ms message old new whole low is some printed written =
    let rest : List ℕ =
    handed_text BlocksToEmpty (number + 1) (messages_to_empty (drop (number + 1 - first) ms)) in
    let step : handed_text BlocksToEmpty number (messages_to_empty (drop (number - first) ms)) ≡ block message ++ rest =
    ap (λ (l : List Message). handed_text BlocksToEmpty number (messages_to_empty l)) (rest_from ms (number - first) message is)
    ∙ filled_text number message (drop (number - first + 1) ms) some
    ∙ ap (λ (k : ℕ). block message ++ handed_text BlocksToEmpty (number + 1) (messages_to_empty (drop k ms)))
    (next_index number first low) in
    ap (λ (t : List ℕ). t ++ rest) written ∙ append_assoc old (block message) rest
    ∙ ap (λ (t : List ℕ). old ++ t) (sym step) ∙ printed

pub number_more : (number first : ℕ) (ms : List Message) (message : Message) (whole : Option ℕ) →
    first ≤ number → Some message ≡ slice_get ms (number - first) → 0 < length message →
    empty_number number (drop (number - first) ms) ≡ whole →
    empty_number (number + 1) (drop (number + 1 - first) ms) ≡ whole
number_more number first ms message whole low is some found =
    ap (λ (k : ℕ). empty_number (number + 1) (drop k ms)) (sym (next_index number first low))
    ∙ sym (filled_number number message (drop (number - first + 1) ms) some)
    ∙ ap (empty_number number) (sym (rest_from ms (number - first) message is))
    ∙ found

-- at an empty message, all text is written
pub to_empty_here : (number first : ℕ) (ms : List Message) (message : Message) (old whole : List ℕ) →
    Some message ≡ slice_get ms (number - first) → length message ≡ 0 →
    old ++ handed_text BlocksToEmpty number (messages_to_empty (drop (number - first) ms)) ≡ whole → old ≡ whole
to_empty_here number first ms message old whole is none printed =
    sym (append-nil old)
    ∙ ap (λ (t : List ℕ). old ++ t)
    (sym
    (ap (λ (l : List Message). handed_text BlocksToEmpty number (messages_to_empty l)) (rest_from ms (number - first) message is)
    ∙ empty_text number message (drop (number - first + 1) ms) none))
    ∙ printed

pub number_here : (number first : ℕ) (ms : List Message) (message : Message) (whole : Option ℕ) →
    Some message ≡ slice_get ms (number - first) → length message ≡ 0 →
    empty_number number (drop (number - first) ms) ≡ whole → Some number ≡ whole
number_here number first ms message whole is none found =
    sym (empty_at number message (drop (number - first + 1) ms) none)
    ∙ ap (empty_number number) (sym (rest_from ms (number - first) message is))
    ∙ found

-- after the last message, all text is written
pub to_empty_all : (number first : ℕ) (ms : List Message) (old whole : List ℕ) → first + length ms ≤ number →
    old ++ handed_text BlocksToEmpty number (messages_to_empty (drop (number - first) ms)) ≡ whole → old ≡ whole
unfolding handed_text messages_to_empty
to_empty_all number first ms old whole high printed =
    sym (append-nil old)
    ∙ ap (λ (l : List Message). old ++ handed_text BlocksToEmpty number (messages_to_empty l))
    (sym (drop_of_length-le ms (omega arith)))
    ∙ printed

pub number_all : (number first : ℕ) (ms : List Message) (whole : Option ℕ) → first + length ms ≤ number →
    empty_number number (drop (number - first) ms) ≡ whole → None ≡ whole
unfolding empty_number
number_all number first ms whole high found =
    ap (empty_number number) (sym (drop_of_length-le ms (omega arith))) ∙ found

pub to_empty_init : (first : ℕ) (ms : List Message) (old : List ℕ) →
    old ++ handed_text BlocksToEmpty first (messages_to_empty (drop (first - first) ms))
    ≡ old ++ handed_text BlocksToEmpty first (messages_to_empty ms)
to_empty_init first ms old =
    ap (λ (k : ℕ). old ++ handed_text BlocksToEmpty first (messages_to_empty (drop k ms)))
    (let e : first - first ≡ 0 = omega arith in e)

pub number_init : (first : ℕ) (ms : List Message) → empty_number first (drop (first - first) ms) ≡ empty_number first ms
number_init first ms =
    ap (λ (k : ℕ). empty_number first (drop k ms)) (let e : first - first ≡ 0 = omega arith in e)

-- an empty batch has no text and no empty message
pub no_batch_text : (number : ℕ) (ms : List Message) (old : List ℕ) → first_in number ms ≡ None →
    old ≡ old ++ handed_text BlocksToEmpty number (messages_to_empty ms)
unfolding handed_text messages_to_empty
no_batch_text number [] old none = sym (append-nil old)
no_batch_text number (message ∷ ms) old none = let no : ⊥ = cc in absurd no

pub no_batch_number : (number : ℕ) (ms : List Message) → first_in number ms ≡ None → None ≡ empty_number number ms
unfolding empty_number
no_batch_number number [] none = refl
no_batch_number number (message ∷ ms) none = let no : ⊥ = cc in absurd no

-- the end of written text is within its buffer
pub written_within : (old new : List ℕ) (at end : ℕ) (text : List ℕ) → at ≤ length old →
    IsWritten old new at end text → end ≤ length new
written_within old new at end text within written =
    omega (
      arith,
      written.stops,
      ap (λ (t : List ℕ). length t) written.front,
      length-append (take at old) text,
      length-take-le at old within,
      length-take end new,
    )
