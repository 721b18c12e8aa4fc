-- What a check of datagrams has found, and what is printed of it.
use Rattle.std.specs.Prelude.{ℕ, ◌+◌, ◌==◌, Bool, min, List, [], ◌∷◌, codes, decimal, Option, None, Some, is_some}
use Rattle.mold_capture.specs.Outcome.{Outcome, whole, incomplete, refused}
use Rattle.mold_capture.specs.Refusal.{refusal}
use Rattle.mold_capture.specs.Seen.{Seen, after, seen_of}
use Rattle.mold_devices.specs.Devices.{one_more}
use Rattle.mold_rule.specs.declared.refusal.Refusal.{Refusal}
use Rattle.mold_text.specs.Line.{line_of}
use Rattle.mold_text.specs.Text.{refusal_words, refused_line}
use Rattle.mold_wire.specs.declared.limits.TheConstants.{MAX_NUMBER}
use Rattle.mold_check.specs.CheckLines.{outcome_at}
use Rattle.mold_check.specs.Judge.{Judging}
use Rattle.mold_check.specs.Naming.{counted}
use Rattle.mold_check.specs.Report.{outcome_status, outcome_text}
use Rattle.mold_check.specs.declared.refused_datagram.RefusedDatagram.{RefusedDatagram}

-- What the accepted datagrams state, and the datagram that is refused, if there is one.
pub record Judgement : Type 0 where
  pub seen : Seen
  pub refused : Option RefusedDatagram

-- Before the first datagram.
abbrev pub no_judgement : Judgement
no_judgement = record { seen = seen_of []; refused = None }

-- After the datagram with this number: it is accepted, or refused for this reason.
abbrev pub judged_as : Seen → ℕ → List ℕ → Option Refusal → Judgement
judged_as seen number bytes None = record { seen = after seen bytes; refused = None }
judged_as seen number bytes (Some why) = record { seen = seen; refused = Some (record { number = number; why = why }) }

-- After the datagram with this number, given what was refused before it. After a refusal no datagram is judged.
abbrev pub added_to : Seen → Option RefusedDatagram → ℕ → List ℕ → Judgement
added_to seen (Some datagram) number bytes = record { seen = seen; refused = Some datagram }
added_to seen None number bytes = judged_as seen number bytes (refusal seen bytes)

-- After one more datagram, which has this number.
abbrev pub added : Judgement → ℕ → List ℕ → Judgement
added judgement number bytes = added_to judgement.seen judgement.refused number bytes

-- After the datagrams, of which the first has this number. The numbers stop at `MAX_NUMBER`.
unfoldable pub all_added : Judgement → ℕ → List (List ℕ) → Judgement
all_added judgement number [] = judgement
all_added judgement number (bytes ∷ list) = all_added (added judgement number bytes) (one_more number) list

-- The line of a refused datagram. The first argument names a datagram by its number.
abbrev pub refused_text : (ℕ → List ℕ) → RefusedDatagram → List ℕ
refused_text names datagram = refused_line (names datagram.number ∷ refusal_words datagram.why)

-- What is printed after the last datagram: the refused one, if there is one, otherwise the outcome.
abbrev pub found_text : (ℕ → List ℕ) → Seen → Option RefusedDatagram → List ℕ
found_text names seen (Some datagram) = refused_text names datagram
found_text names seen None = outcome_text [] (outcome_at seen seen.ended)

-- The same of a check.
abbrev pub named_text : (ℕ → List ℕ) → Judgement → List ℕ
named_text names judgement = found_text names judgement.seen judgement.refused

-- The same of a check whose datagrams are named by a word and their numbers.
abbrev pub judgement_text : List ℕ → Judgement → List ℕ
judgement_text word judgement = named_text (counted word) judgement

-- The exit status after the last datagram.
abbrev pub found_status : Seen → Option RefusedDatagram → ℕ
found_status seen (Some datagram) = 2
found_status seen None = outcome_status (outcome_at seen seen.ended)

-- The same of a check.
abbrev pub judgement_status : Judgement → ℕ
judgement_status judgement = found_status judgement.seen judgement.refused

-- Whether the session is whole. Only then the status is 0.
abbrev pub is_whole : Judgement → Bool
is_whole judgement = judgement_status judgement == 0

-- What a check of one session finds and prints. If a later part of the input is refused, nothing is printed of the
-- datagrams before it.
abbrev pub datagram_judging : Judging Judgement
datagram_judging = record {
  begins = no_judgement;
  added = added;
  decided = λ judgement. is_some judgement.refused;
  text = named_text;
  early = λ names judgement. [];
  status = judgement_status;
  whole = is_whole;
}

-- The lines of an outcome of datagrams that have the numbers from `number` on. The numbers stop at `MAX_NUMBER`.
abbrev pub numbered_text : List ℕ → ℕ → Outcome → List ℕ
numbered_text word number (whole messages) = outcome_text [] (whole messages)
numbered_text word number (incomplete missing end) = outcome_text [] (incomplete missing end)
numbered_text word number (refused index why) =
    line_of (codes "refused" ∷ word ∷ decimal (min (number + index) MAX_NUMBER) ∷ refusal_words why)
