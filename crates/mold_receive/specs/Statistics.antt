-- The line of statistics.
use Rattle.std.specs.Prelude.{ℕ, ◌/◌, ◌-◌, Bool, true, false, List, [], ◌∷◌, ◌++◌, codes, decimal, Option, None, Some}
use Rattle.mold_receive.specs.Refused.{line_name}
use Rattle.mold_receive.specs.declared.receive_options.TheConstants.{SECOND}
use Rattle.mold_receive.specs.declared.statistics.TheConstants.{MICRO}
use Rattle.mold_receiver.specs.declared.gap.Gap.{Gap}
use Rattle.mold_receiver.specs.declared.line.Line.{Line}
use Rattle.mold_receiver.specs.declared.line.Line.TheVariants.{A, B}
use Rattle.mold_repair.specs.declared.line_stats.LineStats.{LineStats}
use Rattle.mold_repair.specs.declared.stats.RepairStats.{RepairStats}
use Rattle.mold_text.specs.Line.{line_of}

-- The words for the first missing messages: the first and the last number, or `none` twice.
abbrev pub gap_words : Option Gap → List (List ℕ)
gap_words None = codes "none" ∷ codes "none" ∷ []
gap_words (Some gap) = decimal gap.first ∷ decimal (gap.end - 1) ∷ []

-- The word for a count that may be unknown.
abbrev pub count_word : Option ℕ → List ℕ
count_word None = codes "unknown"
count_word (Some count) = decimal count

-- The words of all fields before those of the lines. The time and the delays are in nanoseconds.
abbrev pub common_words : ℕ → RepairStats → Option ℕ → List (List ℕ)
common_words now stats drops =
    codes "stats" ∷ codes "at" ∷ decimal (now / SECOND)
    ∷ codes "next" ∷ decimal stats.next
    ∷ codes "known" ∷ decimal stats.known
    ∷ codes "gap" ∷ (gap_words stats.gap
    ++ (codes "missing" ∷ decimal stats.missing
    ∷ codes "stored" ∷ decimal stats.stored
    ∷ codes "requests" ∷ decimal stats.counts.requests
    ∷ codes "answers" ∷ decimal stats.counts.answers
    ∷ codes "useless" ∷ decimal stats.counts.useless
    ∷ codes "lost" ∷ decimal stats.counts.lost
    ∷ codes "contradictions" ∷ decimal stats.counts.contradictions
    ∷ codes "dropped" ∷ count_word drops ∷ []))

-- The words of the fields of a line. The delay is printed in microseconds.
abbrev pub line_words : Line → LineStats → List (List ℕ)
line_words line stats =
    line_name line
    ∷ codes "datagrams" ∷ decimal stats.datagrams
    ∷ codes "first" ∷ decimal stats.first
    ∷ codes "again" ∷ decimal stats.again
    ∷ codes "refused" ∷ decimal stats.refused
    ∷ codes "late" ∷ decimal (stats.late / MICRO) ∷ []

-- The words of the fields of one line or of both.
abbrev pub lines_words : Bool → RepairStats → List (List ℕ)
lines_words false stats = line_words A stats.a
lines_words true stats = line_words A stats.a ++ line_words B stats.b

-- The line of statistics at the time `now`, of one line or of both. `drops` is the count of dropped datagrams, if it is
-- known.
abbrev pub stats_line : ℕ → Bool → RepairStats → Option ℕ → List ℕ
stats_line now both stats drops = line_of (common_words now stats drops ++ lines_words both stats)
