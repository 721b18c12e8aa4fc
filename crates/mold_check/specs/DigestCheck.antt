-- What a check of digested datagrams prints. Only the line of a whole session differs from a check of datagrams.
use Rattle.std.specs.Prelude.{ℕ, List, [], ◌∷◌, codes, decimal, Option, None, Some, is_some}
use Rattle.mold_capture.specs.Outcome.{Outcome, whole, incomplete, refused}
use Rattle.mold_capture.specs.Seen.{Seen}
use Rattle.mold_text.specs.Line.{line_of}
use Rattle.mold_check.specs.CheckLines.{outcome_at}
use Rattle.mold_check.specs.Judge.{Judging}
use Rattle.mold_check.specs.Judgement.{Judgement, added, is_whole, judgement_status, no_judgement, numbered_text, refused_text}
use Rattle.mold_check.specs.Report.{outcome_text}
use Rattle.mold_check.specs.declared.refused_datagram.RefusedDatagram.{RefusedDatagram}

-- The line of a session that is whole by its digests.
abbrev pub whole_line : ℕ → List ℕ
whole_line messages = line_of (codes "whole" ∷ decimal messages ∷ codes "by" ∷ codes "digest" ∷ [])

-- The lines of the outcome of digested datagrams, which have these names.
abbrev pub digest_text : List (List ℕ) → Outcome → List ℕ
digest_text names (whole messages) = whole_line messages
digest_text names (incomplete missing end) = outcome_text names (incomplete missing end)
digest_text names (refused index why) = outcome_text names (refused index why)

-- What is printed after the last datagram: the refused one, if there is one, otherwise the outcome.
abbrev pub found_by_digest : (ℕ → List ℕ) → Seen → Option RefusedDatagram → List ℕ
found_by_digest names seen (Some datagram) = refused_text names datagram
found_by_digest names seen None = digest_text [] (outcome_at seen seen.ended)

-- The same of a check.
abbrev pub judged_by_digest : (ℕ → List ℕ) → Judgement → List ℕ
judged_by_digest names judgement = found_by_digest names judgement.seen judgement.refused

-- What a check of one session by digest finds and prints.
abbrev pub digest_judging : Judging Judgement
digest_judging = record {
  begins = no_judgement;
  added = added;
  decided = λ judgement. is_some judgement.refused;
  text = judged_by_digest;
  early = λ names judgement. [];
  status = judgement_status;
  whole = is_whole;
}

-- The lines of an outcome of digested datagrams that have the numbers from `number` on. The numbers stop at
-- `MAX_NUMBER`.
abbrev pub numbered_by_digest : List ℕ → ℕ → Outcome → List ℕ
numbered_by_digest word number (whole messages) = whole_line messages
numbered_by_digest word number (incomplete missing end) = numbered_text word number (incomplete missing end)
numbered_by_digest word number (refused index why) = numbered_text word number (refused index why)
