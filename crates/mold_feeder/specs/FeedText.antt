-- The lines that a publisher over ports prints.
use Rattle.std.specs.Prelude.{ℕ, ◌+◌, Bool, List, [], ◌∷◌, codes, decimal, if◌then◌else◌}
use Rattle.std.specs.Io.Iter.{u64_saturate}
use Rattle.mold_input.specs.declared.input_kind.InputKind.{InputKind}
use Rattle.mold_publish.specs.Publishing.{entry_word, refused_text}
use Rattle.mold_text.specs.Line.{line_of}
use Rattle.mold_text.specs.Text.{refused_line}
use Rattle.mold_feeder.specs.SendCounts.{is_line_lost}
use Rattle.mold_feeder.specs.declared.compared.Compared.{Compared}
use Rattle.mold_feeder.specs.declared.compared.Compared.TheVariants.{Same, Differs, End}
use Rattle.mold_feeder.specs.declared.compared.Compared.TheVariants as compared
use Rattle.mold_feeder.specs.declared.feed_stop.FeedStop.{FeedStop}
use Rattle.mold_feeder.specs.declared.feed_stop.FeedStop.TheVariants.{Ended, Other, Refused}
use Rattle.mold_feeder.specs.declared.send_counts.LineCounts.{LineCounts}

-- The first line of a session that is resumed: the number of messages that its journal has.
abbrev pub resumed_line : ℕ → List ℕ
resumed_line messages = line_of (codes "resumed" ∷ decimal messages ∷ [])

-- The count of failures: those of the lines' ports and of the port of requests, and the responses that ended early
-- because the journal could not be read. It stops at `u64::MAX`.
abbrev pub failed_count : ℕ → ℕ → ℕ → ℕ
failed_count lines requests unread = u64_saturate (u64_saturate (lines + requests) + unread)

-- The last line: the number of the session's messages, and of the data packets, responses and failures of this process.
abbrev pub fed_line : ℕ → ℕ → ℕ → ℕ → List ℕ
fed_line messages datagrams answered failed = line_of
    (codes "published" ∷ decimal messages ∷ codes "datagrams" ∷ decimal datagrams
    ∷ codes "answered" ∷ decimal answered ∷ codes "failed" ∷ decimal failed ∷ [])

-- The line of a refusal that has a name only.
abbrev pub named_line : InputKind → ℕ → List ℕ → List ℕ
named_line kind number name = refused_line (entry_word kind ∷ decimal number ∷ name ∷ [])

-- The line for the entry of this number after an input was compared with the journal. There is none for an entry that
-- is the same message.
abbrev pub compared_text : InputKind → ℕ → Compared → List ℕ
compared_text kind number Same = []
compared_text kind number Differs = named_line kind number (codes "Differs")
compared_text kind number (compared.Refused why) = refused_text number (record { kind = kind; why = why })
compared_text kind number End = named_line kind number (codes "Missing")

-- The line that a publisher prints last, if it stopped so. `last` is the last line of a session whose input ended.
abbrev pub stop_text : InputKind → FeedStop → List ℕ → List ℕ
stop_text kind (Other number compared) last = compared_text kind number compared
stop_text kind (Refused number refusal) last = refused_text number refusal
stop_text kind Ended last = last

-- The status of a publisher that stopped so, with these counts of its sends.
abbrev pub status_at : FeedStop → LineCounts → ℕ
status_at (Other number compared) counts = 2
status_at (Refused number refusal) counts = 2
status_at Ended counts = if is_line_lost counts then 1 else 0

-- The first line of a publisher whose journal has this many messages. It is printed only if the journal existed.
abbrev pub first_text : Bool → ℕ → List ℕ
first_text resumed messages = if resumed then resumed_line messages else []
