-- What is printed for the entry of a line is what is printed for the line.
use Rattle.std.proofs.Common.{arith, ◌≡◌, ℕ, Bool, true, List, [], ◌∷◌, ◌++◌, map}
use Rattle.std.proofs.Common.{Option, None, Some, refl, sym, ap, ◌∙◌}
use Rattle.std.specs.Prelude.{◌||◌, Result, Ok, Err}
use Rattle.std.specs.List.{flat_map, list_any}
use Rattle.hex.specs.Hex.{decode_of, decode_pairs}
use Rattle.hex.proofs.HexLemmas.{decode_of-ok}
use Rattle.hex.specs.declared.error.FromHexError.{FromHexError}
use Rattle.mold_devices.specs.Lines.{lines_of}
use Rattle.mold_input.specs.Entries.{Entry, GivesNext, digits_entry, known_entries, line_entries, line_entry}
use Rattle.mold_input.specs.declared.next.Next.TheVariants.{Message, Fault, End}
use Rattle.mold_input.specs.declared.input_fault.InputFault.{InputFault}
use Rattle.mold_wire.specs.Request.{request_reading}
use Rattle.mold_show.specs.Show.{digits_text, digits_refused, line_text, line_refused, show_refused, show_text}
use Rattle.mold_show.specs.ShowRequests.{entry_refused, entry_text}
use Rattle.mold_show.proofs.ShowLemmas.{GivesFirst, GivesNone, IsFirst}

-- ---- a line

-- The entry of a line that is not empty.
digits_text-entry : (byte : ℕ) (bytes : List ℕ) (digits : Result (List ℕ) FromHexError) →
    decode_of (byte ∷ bytes) ≡ digits → digits_text true digits ≡ entry_text (digits_entry digits)
unfolding request_reading
digits_text-entry byte bytes (Err why) is = refl
digits_text-entry byte bytes (Ok []) is =
    let long = (decode_of-ok (byte ∷ bytes) [] is).2 in absurd (omega (arith, long))
digits_text-entry byte bytes (Ok (first ∷ others)) is = grind arith

digits_refused-entry : (byte : ℕ) (bytes : List ℕ) (digits : Result (List ℕ) FromHexError) →
    decode_of (byte ∷ bytes) ≡ digits → digits_refused true digits ≡ entry_refused (digits_entry digits)
unfolding request_reading
digits_refused-entry byte bytes (Err why) is = refl
digits_refused-entry byte bytes (Ok []) is =
    let long = (decode_of-ok (byte ∷ bytes) [] is).2 in absurd (omega (arith, long))
digits_refused-entry byte bytes (Ok (first ∷ others)) is = grind arith

-- What is printed for a line is the text of its entry.
line_text-entry : (line : List ℕ) → line_text true line ≡ entry_text (line_entry line)
unfolding line_text decode_pairs
line_text-entry [] = refl
line_text-entry (byte ∷ bytes) = digits_text-entry byte bytes (decode_of (byte ∷ bytes)) refl

line_refused-entry : (line : List ℕ) → line_refused true line ≡ entry_refused (line_entry line)
unfolding line_refused decode_pairs
line_refused-entry [] = refl
line_refused-entry (byte ∷ bytes) = digits_refused-entry byte bytes (decode_of (byte ∷ bytes)) refl

-- ---- the lines of an input

lines_text-entries : (lines : List (List ℕ)) →
    flat_map (line_text true) lines ≡ flat_map entry_text (map line_entry lines)
lines_text-entries [] = refl
lines_text-entries (line ∷ lines) =
    ap (λ (t : List ℕ). t ++ flat_map (line_text true) lines) (line_text-entry line)
    ∙ ap (λ (t : List ℕ). entry_text (line_entry line) ++ t) (lines_text-entries lines)

lines_refused-entries : (lines : List (List ℕ)) →
    list_any (line_refused true) lines ≡ list_any entry_refused (map line_entry lines)
lines_refused-entries [] = refl
lines_refused-entries (line ∷ lines) =
    ap (λ (b : Bool). b || list_any (line_refused true) lines) (line_refused-entry line)
    ∙ ap (λ (b : Bool). entry_refused (line_entry line) || b) (lines_refused-entries lines)

show_text-entries : (input : List ℕ) → show_text true input ≡ flat_map entry_text (line_entries input)
unfolding show_text
show_text-entries input = lines_text-entries (lines_of input)

show_refused-entries : (input : List ℕ) → show_refused true input ≡ list_any entry_refused (line_entries input)
unfolding show_refused
show_refused-entries input = lines_refused-entries (lines_of input)

-- ---- turns

-- If the first entry is read, its text is printed first.
first_entry : (entry : Entry) (xs ys : List ℕ) → line_entries xs ≡ entry ∷ line_entries ys →
    IsFirst true (entry_refused entry) xs ys (entry_text entry)
first_entry entry xs ys first = record {
  text_is =
      show_text-entries xs
      ∙ ap (flat_map entry_text) first
      ∙ ap (λ (t : List ℕ). entry_text entry ++ t) (sym (show_text-entries ys));
  refused_is =
      show_refused-entries xs
      ∙ ap (list_any entry_refused) first
      ∙ ap (λ (b : Bool). entry_refused entry || b) (sym (show_refused-entries ys));
}

pub message_first : (known left : Option (List ℕ)) (message : List ℕ) →
    GivesNext (known_entries line_entries known) (known_entries line_entries left) Message message →
    GivesFirst true (entry_refused (Ok message)) known left (entry_text (Ok message))
message_first None left message gives = tt
message_first (Some xs) None message gives = absurd gives
message_first (Some xs) (Some ys) message gives = first_entry (Ok message) xs ys gives

pub fault_first : (known left : Option (List ℕ)) (why : InputFault) (message : List ℕ) →
    GivesNext (known_entries line_entries known) (known_entries line_entries left) (Fault why) message →
    GivesFirst true true known left (entry_text (Err why))
fault_first None left why message gives = tt
fault_first (Some xs) None why message gives = absurd gives
fault_first (Some xs) (Some ys) why message gives = first_entry (Err why) xs ys gives

no_lines : (lines : List (List ℕ)) → map line_entry lines ≡ [] → lines ≡ []
no_lines [] none = refl
no_lines (line ∷ lines) none = cc none

pub none_left : (known left : Option (List ℕ)) (message : List ℕ) →
    GivesNext (known_entries line_entries known) (known_entries line_entries left) End message →
    GivesNone known left
none_left None left message gives = tt
none_left (Some xs) None message gives = absurd gives
none_left (Some xs) (Some ys) message gives = no_lines (lines_of xs) gives
