-- The text of a message is the line that encodes it, with its digits in lower case.
use Rattle.std.proofs.Common.{◌≡◌, ℕ, suc, ◌+◌, ◌-◌, ◌*◌, ◌/◌, ◌%◌, ◌<◌, nat_eq, nat_lt, Bool, true, false, cond, List, [], ◌∷◌, ◌++◌, length, map}
use Rattle.std.proofs.Common.{take, drop, slice_index, decimal, Option, None, Some, Result, Ok, Err, refl, sym, ap, ◌∙◌, arith}
use Rattle.std.specs.List.{AllByRecursion}
use Rattle.std.specs.Result.{result_unwrap_or}
use Rattle.std.proofs.lemmas.Bool.{agree_below_at, eqb-true}
use Rattle.std.proofs.lemmas.List.{drop-map, length-map, take-map}
use Rattle.std.proofs.lemmas.Option.{none-some, same_Some}
use Rattle.hex.proofs.HexLemmas.{decode_of-even, decode_of-ok}
use Rattle.hex.specs.Hex.{decode_of, decode_pairs, digit_or_error, encode_lower, encode_with, hex_digit_value, lower_digits}
use Rattle.hex.specs.Hex.{pair_value, value_at, ◌>>=◌}
use Rattle.hex.specs.declared.error.FromHexError.{FromHexError}
use Rattle.mold_feed.specs.Received.{PrintedLine, Handed, Refuses, handed_of, lines_text, lower_digit, messages_text, printed_lines_text, shown}
use Rattle.mold_input.specs.Entries.{Entry, digits_entry, line_entry}
use Rattle.mold_input.specs.declared.input_fault.InputFault.TheVariants.{TooLong}
use Rattle.mold_input.specs.declared.limits.TheConstants.{MAX_LINE}
use Rattle.mold_input.specs.declared.message_format.MessageFormat.{MessageFormat}
use Rattle.mold_input.specs.declared.message_format.MessageFormat.TheVariants.{Lines}
use Rattle.mold_listen.specs.Text.{handed_text, message_text}
use Rattle.mold_receiver.specs.Store.{Message, numbered}
use Rattle.mold_rule.specs.declared.refusal.Refusal.{Refusal}
use Rattle.mold_session.specs.Answer.{between}
use Rattle.mold_text.specs.Line.{line_of, message_digits}

-- ---- a digit

-- whether the digit of a value is the lower case of the digit that was read as this value
abbrev agrees : ℕ → Option ℕ → Bool
agrees digit None = true
agrees digit (Some value) = nat_eq (slice_index lower_digits value) (lower_digit digit)

-- every digit is below 103, and the two digits agree for each number below 103
digit_below : (digit value : ℕ) → hex_digit_value digit ≡ Some value → digit < 103
digit_below digit value reads = grind (arith)

value_below : (digit value : ℕ) → hex_digit_value digit ≡ Some value → value < 16
value_below digit value reads = grind (arith)

digit_agrees : (digit : ℕ) → digit < 103 → agrees digit (hex_digit_value digit) ≡ true
digit_agrees digit below =
    agree_below_at (λ (d : ℕ). agrees d (hex_digit_value d)) (λ (d : ℕ). true) 103 digit refl below

agrees_at : (digit value : ℕ) (read : Option ℕ) → agrees digit read ≡ true → read ≡ Some value →
    slice_index lower_digits value ≡ lower_digit digit
agrees_at digit value None agree reads = absurd (none-some value reads)
agrees_at digit value (Some found) agree reads =
    ap (λ (v : ℕ). slice_index lower_digits v) (sym (same_Some found value reads))
    ∙ eqb-true (slice_index lower_digits found) (lower_digit digit) agree

-- a digit and the value that it was read as
record IsRead (digit value : ℕ) : Type 0 where
  below : value < 16
  shows : slice_index lower_digits value ≡ lower_digit digit

digit_read : (digit index value : ℕ) (read : Option ℕ) → digit_or_error digit index read ≡ Ok value → read ≡ Some value
digit_read digit index value (Some found) is = ap Some (ap (λ (r : Result ℕ FromHexError). result_unwrap_or r 0) is)
digit_read digit index value None is = cc is

is_read : (digit index value : ℕ) → value_at digit index ≡ Ok value → IsRead digit value
is_read digit index value is =
    let reads : hex_digit_value digit ≡ Some value = digit_read digit index value (hex_digit_value digit) is in
    record {
      below = value_below digit value reads;
      shows = agrees_at digit value (hex_digit_value digit) (digit_agrees digit (digit_below digit value reads)) reads;
    }

-- ---- a line

-- if `>>=` returns `Ok`, both of its steps did
bound_ok : {A B : Type 0} (result : Result A FromHexError) (f : A → Result B FromHexError) (value : B) →
    (result >>= f) ≡ Ok value → (x : A) × (result ≡ Ok x) × (f x ≡ Ok value)
bound_ok (Ok x) f value is = (x, refl, is)
bound_ok (Err error) f value is = cc is

two_more : {a b c d : ℕ} {xs ys : List ℕ} → a ≡ b → c ≡ d → xs ≡ ys → a ∷ c ∷ xs ≡ b ∷ d ∷ ys
two_more first second behind = rw (first, second, behind) refl

-- the digits of decoded bytes are the digits that were read, in lower case
pairs_shown : (index : ℕ) (digits bytes : List ℕ) → decode_pairs index digits ≡ Ok bytes →
    encode_lower bytes ≡ map lower_digit digits
unfolding decode_pairs encode_with
pairs_shown index [] bytes is =
    let none : [] ≡ bytes = ap (λ (r : Result (List ℕ) FromHexError). result_unwrap_or r []) is in
    ap encode_lower (sym none)
pairs_shown index (digit ∷ []) bytes is = cc is
pairs_shown index (high ∷ low ∷ digits) bytes is =
    let pair = bound_ok (pair_value high low index) _ bytes is in
    let first = bound_ok (value_at high index) _ pair.0 pair.1 in
    let second = bound_ok (value_at low (index + 1)) _ pair.0 first.2 in
    let behind = bound_ok (decode_pairs (index + 2) digits) _ bytes pair.2 in
    let whole : pair.0 ∷ behind.0 ≡ bytes = ap (λ (r : Result (List ℕ) FromHexError). result_unwrap_or r []) behind.2 in
    let byte : first.0 * 16 + second.0 ≡ pair.0 = ap (λ (r : Result ℕ FromHexError). result_unwrap_or r 0) second.2 in
    let one = is_read high index first.0 first.1 in
    let other = is_read low (index + 1) second.0 second.1 in
    let upper : pair.0 / 16 ≡ first.0 = omega (arith, byte, one.below, other.below) in
    let lower : pair.0 % 16 ≡ second.0 = omega (arith, byte, one.below, other.below) in
    ap encode_lower (sym whole)
    ∙ two_more
    (ap (λ (v : ℕ). slice_index lower_digits v) upper ∙ one.shows)
    (ap (λ (v : ℕ). slice_index lower_digits v) lower ∙ other.shows)
    (pairs_shown (index + 2) digits behind.0 behind.1)

-- the digits of the message that a line encodes, as they are printed
pub digits_shown : (line message : List ℕ) → decode_of line ≡ Ok message → message_digits message ≡ shown line
digits_shown [] [] is = refl
digits_shown [] (byte ∷ message) is = let long = (decode_of-ok [] (byte ∷ message) is).2 in absurd (omega (arith, long))
digits_shown (digit ∷ line) [] is = let long = (decode_of-ok (digit ∷ line) [] is).2 in absurd (omega (arith, long))
digits_shown (digit ∷ line) (byte ∷ message) is =
    let even = (decode_of-ok (digit ∷ line) (byte ∷ message) is).0 in
    pairs_shown 0 (digit ∷ line) (byte ∷ message) (sym (decode_of-even (digit ∷ line) even) ∙ is)

-- ---- lines

abbrev pub AreSpelled : List (List ℕ) → List Message → Type 0
AreSpelled lines messages = map decode_of lines ≡ map Ok messages

short_spelled : (found message : List ℕ) (long : Bool) →
    cond long (Err (TooLong (length found))) (Ok found) ≡ Ok message → found ≡ message
short_spelled found message true is = let no : ⊥ = cc in absurd no
short_spelled found message false is = ap (λ (entry : Entry). result_unwrap_or entry []) is

-- a line whose entry is a message encodes this message
entry_spelled : (digits : Result (List ℕ) FromHexError) (message : List ℕ) → digits_entry digits ≡ Ok message →
    digits ≡ Ok message
entry_spelled (Ok found) message is = ap Ok (short_spelled found message (nat_lt MAX_LINE (2 * length found)) is)
entry_spelled (Err why) message is = let no : ⊥ = cc in absurd no

-- lines whose entries are messages encode these messages
pub entries_spelled : (lines : List (List ℕ)) (messages : List Message) → map line_entry lines ≡ map Ok messages →
    AreSpelled lines messages
entries_spelled [] [] is = refl
entries_spelled [] (message ∷ messages) is = let no : ⊥ = cc in absurd no
entries_spelled (line ∷ lines) [] is = let no : ⊥ = cc in absurd no
entries_spelled (line ∷ lines) (message ∷ messages) is =
    let first : line_entry line ≡ Ok message = cc in
    let behind : map line_entry lines ≡ map Ok messages = cc in
    ap (λ (digits : Result (List ℕ) FromHexError). digits ∷ map decode_of lines)
    (entry_spelled (decode_of line) message first)
    ∙ ap (λ (rest : List (Result (List ℕ) FromHexError)). Ok message ∷ rest) (entries_spelled lines messages behind)

-- there are as many messages as lines
pub spelled_length : (lines : List (List ℕ)) (messages : List Message) → AreSpelled lines messages →
    length lines ≡ length messages
spelled_length lines messages spelled =
    sym (length-map lines decode_of)
    ∙ ap (λ (rs : List (Result (List ℕ) FromHexError)). length rs) spelled
    ∙ length-map messages Ok

-- the text of messages is the text of the lines that encode them
pub spelled_text : (number : ℕ) (lines : List (List ℕ)) (messages : List Message) → AreSpelled lines messages →
    handed_text Lines number messages ≡ lines_text number lines
unfolding handed_text lines_text
spelled_text number [] [] spelled = refl
spelled_text number [] (message ∷ messages) spelled = let no : ⊥ = cc in absurd no
spelled_text number (line ∷ lines) [] spelled = let no : ⊥ = cc in absurd no
spelled_text number (line ∷ lines) (message ∷ messages) spelled =
    let first : decode_of line ≡ Ok message = cc in
    let behind : AreSpelled lines messages = cc in
    ap (λ (digits : List ℕ). line_of (decimal number ∷ digits ∷ []) ++ handed_text Lines (number + 1) messages)
    (digits_shown line message first)
    ∙ ap (λ (text : List ℕ). line_of (decimal number ∷ shown line ∷ []) ++ text)
    (spelled_text (number + 1) lines messages behind)

-- a part of the lines encodes the same part of the messages
piece_map : {X Y : Type 0} (f : X → Y) (count index : ℕ) (xs : List X) →
    map f (take count (drop index xs)) ≡ take count (drop index (map f xs))
piece_map f count index xs = sym (take-map f count (drop index xs)) ∙ ap (take count) (sym (drop-map f index xs))

pub spelled_between : (lines : List (List ℕ)) (messages : List Message) (first next : ℕ) → AreSpelled lines messages →
    AreSpelled (between lines first next) (between messages first next)
spelled_between lines messages first next spelled =
    piece_map decode_of (next - first) (first - 1) lines
    ∙ ap (λ (rs : List (Result (List ℕ) FromHexError)). take (next - first) (drop (first - 1) rs)) spelled
    ∙ sym (piece_map Ok (next - first) (first - 1) messages)

-- the text of the messages between two numbers is the text of the lines between them
pub text_between : (lines : List (List ℕ)) (messages : List Message) (first next : ℕ) → AreSpelled lines messages →
    handed_text Lines first (between messages first next) ≡ lines_text first (between lines first next)
text_between lines messages first next spelled =
    spelled_text first (between lines first next) (between messages first next)
    (spelled_between lines messages first next spelled)

-- ---- printed lines

pub same_parts : {X : Type 0} (x y : X) (xs ys : List X) → x ∷ xs ≡ y ∷ ys → (x ≡ y) × (xs ≡ ys)
same_parts x y xs ys same = (cc, cc)

-- the messages among printed lines are printed one after the other
pub messages_said : (format : MessageFormat) (printed_lines : List PrintedLine) (number : ℕ) (messages : List Message) →
    handed_of printed_lines ≡ numbered number messages →
    messages_text format printed_lines ≡ handed_text format number messages
unfolding handed_text
messages_said format [] number [] handed = refl
messages_said format [] number (message ∷ messages) handed = let no : ⊥ = cc in absurd no
messages_said format (Handed index said ∷ printed_lines) number [] handed = let no : ⊥ = cc in absurd no
messages_said format (Handed index said ∷ printed_lines) number (message ∷ messages) handed =
    let parts = same_parts (index, said) (number, message) (handed_of printed_lines) (numbered (suc number) messages) handed in
    let at : index ≡ number = ap (λ (pair : ℕ × Message). pair.0) parts.0 in
    let same : said ≡ message = ap (λ (pair : ℕ × Message). pair.1) parts.0 in
    let after : suc number ≡ number + 1 = omega arith in
    ap (λ (n : ℕ). message_text format n said ++ messages_text format printed_lines) at
    ∙ ap (λ (m : Message). message_text format number m ++ messages_text format printed_lines) same
    ∙ ap (λ (text : List ℕ). message_text format number message ++ text)
    (messages_said format printed_lines (suc number) messages parts.1
    ∙ ap (λ (n : ℕ). handed_text format n messages) after)
messages_said format (Refuses bytes why ∷ printed_lines) number messages handed =
    messages_said format printed_lines number messages handed

-- printed lines without a refusal are lines of messages
pub all_messages : (format : MessageFormat) (Q : PrintedLine → Type 0) →
    ((bytes : List ℕ) (why : Refusal) → Q (Refuses bytes why) → ⊥) →
    (printed_lines : List PrintedLine) → AllByRecursion Q printed_lines →
    printed_lines_text format printed_lines ≡ messages_text format printed_lines
all_messages format Q none [] each = refl
all_messages format Q none (Handed number message ∷ printed_lines) each =
    ap (λ (text : List ℕ). message_text format number message ++ text)
    (all_messages format Q none printed_lines each.1)
all_messages format Q none (Refuses bytes why ∷ printed_lines) each = absurd (none bytes why each.0)
