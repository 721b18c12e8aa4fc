-- Text that is written in pieces.
use Rattle.std.proofs.Common.{◌≡◌, ℕ, ◌+◌, ◌-◌, ◌<◌, ◌≤◌, ◌==◌, List, [], ◌∷◌, ◌++◌, length, drop, Option, None, Some, ap}
use Rattle.std.proofs.Common.{append-nil, append_assoc, arith, false, refl, subst, sym, true, ◌∙◌}
use Rattle.std.proofs.KnownBytes.{Appends-nil, Appends-trans}
use Rattle.std.specs.Io.KnownBytes.{Appends}
use Rattle.std.specs.Prelude.{slice_get}
use Rattle.mold_devices.specs.Devices.{AppendsPrefix}
use Rattle.mold_devices.specs.Writing.{Moves}
use Rattle.mold_input.specs.declared.message_format.MessageFormat.{MessageFormat}
use Rattle.mold_input.specs.declared.message_format.MessageFormat.TheVariants.{Lines, Blocks, BlocksToEmpty}
use Rattle.mold_listen.proofs.HandedLemmas.{handed_all, handed_more, number_all, number_here, number_more, to_empty_all}
use Rattle.mold_listen.proofs.HandedLemmas.{to_empty_here, to_empty_more}
use Rattle.mold_listen.specs.Text.{empty_number, handed_text, message_text, messages_to_empty, printable, stop_after}
use Rattle.mold_receive.specs.Receiving.{stops_at}
use Rattle.mold_receiver.specs.Batch.{first_in}
use Rattle.mold_receiver.specs.Store.{Message}
use Rattle.mold_turns.specs.Runs.{Begins}
use Rattle.mold_wire.specs.Block.{block}

-- nothing was written
pub moves_none : (held : Option (List ℕ)) (text left : List ℕ) → left ≡ text → Moves held held text left
moves_none held text left same = record { front = []; parts = sym same; appended = Appends-nil held }

-- one part was written after the other
pub moves_then : (old mid new : Option (List ℕ)) (text rest left : List ℕ) → Moves old mid text rest →
    Moves mid new rest left → Moves old new text left
moves_then old mid new text rest left first last = record {
  front = first.front ++ last.front;
  parts = first.parts ∙ ap (λ (t : List ℕ). first.front ++ t) last.parts
      ∙ sym (append_assoc first.front last.front left);
  appended = Appends-trans old mid new first.front last.front first.appended last.appended;
}

-- more text follows
pub moves_before : (old new : Option (List ℕ)) (text left more : List ℕ) → Moves old new text left →
    Moves old new (text ++ more) (left ++ more)
moves_before old new text left more moved = record {
  front = moved.front;
  parts = ap (λ (t : List ℕ). t ++ more) moved.parts ∙ append_assoc moved.front left more;
  appended = moved.appended;
}

-- a part was written, and then a prefix of the rest
pub front_then : (old mid new : Option (List ℕ)) (text rest : List ℕ) → Moves old mid text rest →
    AppendsPrefix mid new rest → AppendsPrefix old new text
front_then old mid new text rest first last = record {
  front = first.front ++ last.front;
  rest = last.rest;
  parts = first.parts ∙ ap (λ (t : List ℕ). first.front ++ t) last.parts
      ∙ sym (append_assoc first.front last.front last.rest);
  appended = Appends-trans old mid new first.front last.front first.appended last.appended;
}

-- a part was written, and then the rest
pub moves_whole : (old mid new : Option (List ℕ)) (text rest : List ℕ) → Moves old mid text rest →
    Appends mid new rest → Appends old new text
moves_whole old mid new text rest first last =
    subst (λ (t : List ℕ). Appends old new t) (sym first.parts)
    (Appends-trans old mid new first.front rest first.appended last)

-- the whole text is a prefix
pub cut_front : (old new : Option (List ℕ)) (text : List ℕ) → Appends old new text → AppendsPrefix old new text
cut_front old new text whole =
    record { front = text; rest = []; parts = sym (append-nil text); appended = whole }

-- a prefix of the text is one of the text and what follows it
pub front_before : (old new : Option (List ℕ)) (text more : List ℕ) → AppendsPrefix old new text →
    AppendsPrefix old new (text ++ more)
front_before old new text more cut = record {
  front = cut.front;
  rest = cut.rest ++ more;
  parts = ap (λ (t : List ℕ). t ++ more) cut.parts ∙ append_assoc cut.front cut.rest more;
  appended = cut.appended;
}

-- ---- messages up to one that stops printing

-- if no message stops printing, all are printed
all_filled : (number : ℕ) (messages : List Message) → empty_number number messages ≡ None →
    messages_to_empty messages ≡ messages
unfolding messages_to_empty empty_number
all_filled number [] none = refl
all_filled number ([] ∷ messages) none = let no : ⊥ = cc in absurd no
all_filled number ((byte ∷ bytes) ∷ messages) none =
    ap (λ (l : List Message). (byte ∷ bytes) ∷ l) (all_filled (number + 1) messages none)

pub all_printable : (format : MessageFormat) (number : ℕ) (messages : List Message) →
    stop_after format None number messages ≡ None → printable format None messages ≡ messages
all_printable Lines number messages none = refl
all_printable Blocks number messages none = refl
all_printable BlocksToEmpty number messages none = all_filled number messages none

-- the messages that are printed are the first ones
filled_front : (number : ℕ) (messages : List Message) →
    Begins (handed_text BlocksToEmpty number (messages_to_empty messages)) (handed_text BlocksToEmpty number messages)
unfolding messages_to_empty handed_text
filled_front number [] = record { rest = []; parts = refl }
filled_front number ([] ∷ messages) =
    record { rest = handed_text BlocksToEmpty number ([] ∷ messages); parts = refl }
filled_front number ((byte ∷ bytes) ∷ messages) =
    let more = filled_front (number + 1) messages in
    let one : List ℕ = block (byte ∷ bytes) in
    record {
      rest = more.rest;
      parts = ap (λ (t : List ℕ). one ++ t) more.parts
          ∙ sym (append_assoc one (handed_text BlocksToEmpty (number + 1) (messages_to_empty messages)) more.rest);
    }

pub printable_front : (format : MessageFormat) (number : ℕ) (messages : List Message) →
    Begins (handed_text format number (printable format None messages)) (handed_text format number messages)
printable_front Lines number messages = record { rest = []; parts = sym (append-nil _) }
printable_front Blocks number messages = record { rest = []; parts = sym (append-nil _) }
printable_front BlocksToEmpty number messages = filled_front number messages

-- a prefix of the text of the messages that are printed is one of the text of all messages
pub front_all : (format : MessageFormat) (number : ℕ) (messages : List Message) (old new : Option (List ℕ))
    (text : List ℕ) → AppendsPrefix old new (text ++ handed_text format number (printable format None messages)) →
    AppendsPrefix old new (text ++ handed_text format number messages)
front_all format number messages old new text cut =
    let printed : List ℕ = handed_text format number (printable format None messages) in
    let begins = printable_front format number messages in
    subst (λ (t : List ℕ). AppendsPrefix old new t)
    (append_assoc text printed begins.rest ∙ ap (λ (t : List ℕ). text ++ t) (sym begins.parts))
    (front_before old new (text ++ printed) begins.rest cut)

-- the text of the remaining messages that are printed
abbrev pub rest_text : MessageFormat → ℕ → ℕ → List Message → List ℕ
rest_text format number first messages =
    handed_text format number (printable format None (drop (number - first) messages))

some_bytes : (count : ℕ) → (count == 0) ≡ false → 0 < count
some_bytes count is = grind (arith, is)

no_bytes : (count : ℕ) → (count == 0) ≡ true → count ≡ 0
no_bytes count is = grind (arith, is)

-- a message that does not stop printing is the first of the remaining ones
rest_step : (format : MessageFormat) (number first : ℕ) (messages : List Message) (message : Message) →
    first ≤ number → Some message ≡ slice_get messages (number - first) → stops_at format message ≡ false →
    rest_text format number first messages
    ≡ message_text format number message ++ rest_text format (number + 1) first messages
rest_step Lines number first messages message low is goes =
    sym (handed_more Lines number first messages message [] (message_text Lines number message)
    (handed_text Lines number (drop (number - first) messages)) low is refl refl)
rest_step Blocks number first messages message low is goes =
    sym (handed_more Blocks number first messages message [] (message_text Blocks number message)
    (handed_text Blocks number (drop (number - first) messages)) low is refl refl)
rest_step BlocksToEmpty number first messages message low is goes =
    sym (to_empty_more number first messages message [] (block message)
    (handed_text BlocksToEmpty number (messages_to_empty (drop (number - first) messages))) low is
    (some_bytes (length message) goes) refl refl)

pub stop_step : (format : MessageFormat) (number first : ℕ) (messages : List Message) (message : Message)
    (whole : Option ℕ) → first ≤ number → Some message ≡ slice_get messages (number - first) →
    stops_at format message ≡ false → stop_after format None number (drop (number - first) messages) ≡ whole →
    stop_after format None (number + 1) (drop (number + 1 - first) messages) ≡ whole
stop_step Lines number first messages message whole low is goes found = found
stop_step Blocks number first messages message whole low is goes found = found
stop_step BlocksToEmpty number first messages message whole low is goes found =
    number_more number first messages message whole low is (some_bytes (length message) goes) found

-- a message that stops printing is not printed, and has this number
rest_here : (format : MessageFormat) (number first : ℕ) (messages : List Message) (message : Message) →
    Some message ≡ slice_get messages (number - first) → stops_at format message ≡ true →
    rest_text format number first messages ≡ []
rest_here Lines number first messages message is stops = let no : ⊥ = cc in absurd no
rest_here Blocks number first messages message is stops = let no : ⊥ = cc in absurd no
rest_here BlocksToEmpty number first messages message is stops =
    sym (to_empty_here number first messages message []
    (handed_text BlocksToEmpty number (messages_to_empty (drop (number - first) messages))) is
    (no_bytes (length message) stops) refl)

pub stop_here : (format : MessageFormat) (number first : ℕ) (messages : List Message) (message : Message)
    (whole : Option ℕ) → Some message ≡ slice_get messages (number - first) → stops_at format message ≡ true →
    stop_after format None number (drop (number - first) messages) ≡ whole → Some number ≡ whole
stop_here Lines number first messages message whole is stops found = let no : ⊥ = cc in absurd no
stop_here Blocks number first messages message whole is stops found = let no : ⊥ = cc in absurd no
stop_here BlocksToEmpty number first messages message whole is stops found =
    number_here number first messages message whole is (no_bytes (length message) stops) found

-- no message remains
rest_none : (format : MessageFormat) (number first : ℕ) (messages : List Message) → first + length messages ≤ number →
    rest_text format number first messages ≡ []
rest_none Lines number first messages high =
    sym (handed_all Lines number first messages [] (handed_text Lines number (drop (number - first) messages)) high refl)
rest_none Blocks number first messages high =
    sym (handed_all Blocks number first messages [] (handed_text Blocks number (drop (number - first) messages)) high
    refl)
rest_none BlocksToEmpty number first messages high =
    sym (to_empty_all number first messages []
    (handed_text BlocksToEmpty number (messages_to_empty (drop (number - first) messages))) high refl)

pub stop_none : (format : MessageFormat) (number first : ℕ) (messages : List Message) (whole : Option ℕ) →
    first + length messages ≤ number → stop_after format None number (drop (number - first) messages) ≡ whole →
    None ≡ whole
stop_none Lines number first messages whole high found = found
stop_none Blocks number first messages whole high found = found
stop_none BlocksToEmpty number first messages whole high found = number_all number first messages whole high found

-- at first, all messages remain
pub rest_init : (format : MessageFormat) (first : ℕ) (messages : List Message) →
    rest_text format first first messages ≡ handed_text format first (printable format None messages)
rest_init format first messages =
    ap (λ (k : ℕ). handed_text format first (printable format None (drop k messages)))
    (let e : first - first ≡ 0 = omega arith in e)

pub stop_init : (format : MessageFormat) (first : ℕ) (messages : List Message) →
    stop_after format None first (drop (first - first) messages) ≡ stop_after format None first messages
stop_init format first messages =
    ap (λ (k : ℕ). stop_after format None first (drop k messages)) (let e : first - first ≡ 0 = omega arith in e)

-- the text before a message and the remaining ones, by parts
parts_more : (format other : MessageFormat) (number first : ℕ) (messages : List Message) (message : Message)
    (text : List ℕ) → first ≤ number → Some message ≡ slice_get messages (number - first) →
    stops_at format message ≡ false → other ≡ format →
    text ++ rest_text format number first messages
    ≡ (text ++ message_text other number message) ++ rest_text format (number + 1) first messages
parts_more format other number first messages message text low is goes same =
    let rest : List ℕ = rest_text format (number + 1) first messages in
    ap (λ (t : List ℕ). text ++ t) (rest_step format number first messages message low is goes)
    ∙ sym (append_assoc text (message_text format number message) rest)
    ∙ ap (λ (f : MessageFormat). (text ++ message_text f number message) ++ rest) (sym same)

-- a message of the remaining ones was printed, and a part was written
pub moves_more : (format other : MessageFormat) (number first : ℕ) (messages : List Message) (message : Message)
    (old mid new : Option (List ℕ)) (whole text left : List ℕ) → first ≤ number →
    Some message ≡ slice_get messages (number - first) → stops_at format message ≡ false → other ≡ format →
    Moves old mid whole (text ++ rest_text format number first messages) →
    Moves mid new (text ++ message_text other number message) left →
    Moves old new whole (left ++ rest_text format (number + 1) first messages)
moves_more format other number first messages message old mid new whole text left low is goes same first_part last_part =
    let rest : List ℕ = rest_text format (number + 1) first messages in
    let printed : List ℕ = text ++ message_text other number message in
    moves_then old mid new whole (printed ++ rest) (left ++ rest)
    (subst (λ (t : List ℕ). Moves old mid whole t)
    (parts_more format other number first messages message text low is goes same) first_part)
    (moves_before mid new printed left rest last_part)

-- a message of the remaining ones was printed, and then a write failed
pub front_more : (format other : MessageFormat) (number first : ℕ) (messages : List Message) (message : Message)
    (old mid new : Option (List ℕ)) (whole text : List ℕ) → first ≤ number →
    Some message ≡ slice_get messages (number - first) → stops_at format message ≡ false → other ≡ format →
    Moves old mid whole (text ++ rest_text format number first messages) →
    AppendsPrefix mid new (text ++ message_text other number message) → AppendsPrefix old new whole
front_more format other number first messages message old mid new whole text low is goes same first_part last_part =
    let rest : List ℕ = rest_text format (number + 1) first messages in
    let printed : List ℕ = text ++ message_text other number message in
    front_then old mid new whole (printed ++ rest)
    (subst (λ (t : List ℕ). Moves old mid whole t)
    (parts_more format other number first messages message text low is goes same) first_part)
    (front_before mid new printed rest last_part)

-- the message at this number stops printing
pub moves_here : (format : MessageFormat) (number first : ℕ) (messages : List Message) (message : Message)
    (old new : Option (List ℕ)) (whole text : List ℕ) → Some message ≡ slice_get messages (number - first) →
    stops_at format message ≡ true → Moves old new whole (text ++ rest_text format number first messages) →
    Moves old new whole text
moves_here format number first messages message old new whole text is stops moved =
    subst (λ (t : List ℕ). Moves old new whole t)
    (ap (λ (t : List ℕ). text ++ t) (rest_here format number first messages message is stops) ∙ append-nil text)
    moved

-- no message remains
pub moves_last : (format : MessageFormat) (number first : ℕ) (messages : List Message) (old new : Option (List ℕ))
    (whole text : List ℕ) → first + length messages ≤ number →
    Moves old new whole (text ++ rest_text format number first messages) → Moves old new whole text
moves_last format number first messages old new whole text high moved =
    subst (λ (t : List ℕ). Moves old new whole t)
    (ap (λ (t : List ℕ). text ++ t) (rest_none format number first messages high) ∙ append-nil text)
    moved

-- a batch without a first number has no text, and nothing in it stops printing
pub no_text : (format : MessageFormat) (number : ℕ) (messages : List Message) → None ≡ first_in number messages →
    handed_text format number (printable format None messages) ≡ []
unfolding handed_text messages_to_empty
no_text Lines number [] none = refl
no_text Blocks number [] none = refl
no_text BlocksToEmpty number [] none = refl
no_text format number (message ∷ messages) none = let no : ⊥ = cc in absurd no

pub no_stop : (format : MessageFormat) (number : ℕ) (messages : List Message) → None ≡ first_in number messages →
    None ≡ stop_after format None number messages
unfolding empty_number
no_stop Lines number [] none = refl
no_stop Blocks number [] none = refl
no_stop BlocksToEmpty number [] none = refl
no_stop format number (message ∷ messages) none = let no : ⊥ = cc in absurd no
