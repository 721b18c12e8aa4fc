-- Lines that hold the same are shown alike.
use Rattle.std.proofs.Common.{◌≡◌, ℕ, Bool, true, false, List, [], ◌∷◌, ◌++◌, Option, None, Some, refl, sym, ap, ◌∙◌}
use Rattle.std.specs.Prelude.{◌||◌, codes, Result, Ok, Err}
use Rattle.std.specs.List.{flat_map, list_any}
use Rattle.hex.specs.Hex.{decode_of}
use Rattle.hex.specs.declared.error.FromHexError.{FromHexError}
use Rattle.mold_devices.specs.Lines.{GivesLine, lines_of}
use Rattle.mold_input.specs.LongLines.{GivesStart}
use Rattle.mold_input.specs.PacketLines.{Content, bytes_content, content, digits_content, empty, no_packet}
use Rattle.mold_input.specs.PacketLines.{not_hex, packet}
use Rattle.mold_text.specs.Text.{fault_words, refused_line}
use Rattle.mold_wire.specs.Reading.{reading}
use Rattle.mold_wire.specs.declared.error.DecodeError.{DecodeError}
use Rattle.mold_wire.specs.declared.packet.Packet.{Packet}
use Rattle.mold_show.specs.Show.{digits_refused, digits_text, line_refused, line_text, packet_refused}
use Rattle.mold_show.specs.Show.{packet_shown, show_refused, show_text}
use Rattle.mold_show.proofs.ShowLemmas.{GivesFirst, GivesNone}

-- What is printed for a line that holds this.
abbrev content_text : Content → List ℕ
content_text empty = []
content_text not_hex = refused_line (codes "NotHex" ∷ [])
content_text (no_packet fault) = refused_line (fault_words fault)
content_text (packet bytes) = packet_shown (reading bytes)

-- Whether a line that holds this is refused.
abbrev content_refused : Content → Bool
content_refused empty = false
content_refused not_hex = true
content_refused (no_packet fault) = true
content_refused (packet bytes) = packet_refused (reading bytes)

packet_shown-content : (bytes : List ℕ) (read : Result Packet DecodeError) → reading bytes ≡ read →
    packet_shown read ≡ content_text (bytes_content bytes read)
packet_shown-content bytes (Ok p) is = ap packet_shown (sym is)
packet_shown-content bytes (Err fault) is = refl

packet_refused-content : (bytes : List ℕ) (read : Result Packet DecodeError) → reading bytes ≡ read →
    packet_refused read ≡ content_refused (bytes_content bytes read)
packet_refused-content bytes (Ok p) is = ap packet_refused (sym is)
packet_refused-content bytes (Err fault) is = refl

digits_text-content : (digits : Result (List ℕ) FromHexError) →
    digits_text false digits ≡ content_text (digits_content digits)
digits_text-content (Ok bytes) = packet_shown-content bytes (reading bytes) refl
digits_text-content (Err why) = refl

digits_refused-content : (digits : Result (List ℕ) FromHexError) →
    digits_refused false digits ≡ content_refused (digits_content digits)
digits_refused-content (Ok bytes) = packet_refused-content bytes (reading bytes) refl
digits_refused-content (Err why) = refl

line_text-content : (line : List ℕ) → line_text false line ≡ content_text (content line)
unfolding line_text content
line_text-content [] = refl
line_text-content (byte ∷ bytes) = digits_text-content (decode_of (byte ∷ bytes))

line_refused-content : (line : List ℕ) → line_refused false line ≡ content_refused (content line)
unfolding line_refused content
line_refused-content [] = refl
line_refused-content (byte ∷ bytes) = digits_refused-content (decode_of (byte ∷ bytes))

-- Lines that hold the same have the same text, and both are refused or neither is.
line_text-same : (line whole : List ℕ) → content line ≡ content whole → line_text false line ≡ line_text false whole
line_text-same line whole same = line_text-content line ∙ ap content_text same ∙ sym (line_text-content whole)

line_refused-same : (line whole : List ℕ) → content line ≡ content whole →
    line_refused false line ≡ line_refused false whole
line_refused-same line whole same =
    line_refused-content line ∙ ap content_refused same ∙ sym (line_refused-content whole)

-- ---- turns

show_text-line : (xs ys whole : List ℕ) → lines_of xs ≡ whole ∷ lines_of ys →
    show_text false xs ≡ line_text false whole ++ show_text false ys
unfolding show_text
show_text-line xs ys whole first = ap (flat_map (line_text false)) first

show_refused-line : (xs ys whole : List ℕ) → lines_of xs ≡ whole ∷ lines_of ys →
    show_refused false xs ≡ (line_refused false whole || show_refused false ys)
unfolding show_refused
show_refused-line xs ys whole first = ap (list_any (line_refused false)) first

whole_first : (known left : Option (List ℕ)) (line whole : List ℕ) → content line ≡ content whole →
    GivesLine known left true whole → GivesFirst false (line_refused false line) known left (line_text false line)
whole_first None left line whole same gives = tt
whole_first (Some xs) None line whole same gives = absurd gives
whole_first (Some xs) (Some ys) line whole same gives = record {
  text_is =
      show_text-line xs ys whole gives
      ∙ ap (λ (t : List ℕ). t ++ show_text false ys) (sym (line_text-same line whole same));
  refused_is =
      show_refused-line xs ys whole gives
      ∙ ap (λ (b : Bool). b || show_refused false ys) (sym (line_refused-same line whole same));
}

-- The text of the line that was found is printed first.
pub line_first : (known left : Option (List ℕ)) (line : List ℕ) → GivesStart content known left true line →
    GivesFirst false (line_refused false line) known left (line_text false line)
line_first known left line gives = whole_first known left line gives.whole gives.same gives.gives

none_given : (known left : Option (List ℕ)) (whole : List ℕ) → GivesLine known left false whole → GivesNone known left
none_given None left whole gives = tt
none_given (Some xs) None whole gives = absurd gives
none_given (Some xs) (Some ys) whole gives = ap lines_of gives

pub none_left : (known left : Option (List ℕ)) (line : List ℕ) → GivesStart content known left false line →
    GivesNone known left
none_left known left line gives = none_given known left gives.whole gives.gives
