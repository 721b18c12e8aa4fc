-- What a receiver that may give up messages prints of a session.
use Rattle.std.specs.Prelude.{◌≡◌, ℕ, ◌+◌, ◌-◌, ◌<◌, ◌≤◌, ◌==◌, Bool, true, List, [], ◌∷◌, ◌++◌, length, codes, decimal}
use Rattle.std.specs.Prelude.{if◌then◌else◌, slice_get, Option, None, Some}
use Rattle.std.specs.Io.Iter.{u64_saturate}
use Rattle.std.specs.Io.KnownBytes.{Appends}
use Rattle.std.specs.List.{AllByRecursion}
use Rattle.mold_devices.specs.Devices.{AppendsPrefix}
use Rattle.mold_feed.specs.Received.{IsFed, lines_text}
use Rattle.mold_input.specs.Entries.{InputEntries}
use Rattle.mold_input.specs.declared.message_format.MessageFormat.{MessageFormat}
use Rattle.mold_input.specs.declared.message_format.MessageFormat.TheVariants.{BlocksToEmpty}
use Rattle.mold_listen.specs.Text.{end_text, handed_text}
use Rattle.mold_pacing.specs.declared.gap.Gap.{Gap}
use Rattle.mold_port_set.specs.PortSet.{Given}
use Rattle.mold_receive.specs.Receiving.{lost_text}
use Rattle.mold_receiver.specs.Store.{Message}
use Rattle.mold_repair.specs.Laws.{count_numbers}
use Rattle.mold_session.specs.Answer.{between}
use Rattle.mold_session.specs.Journal.{JournalState}
use Rattle.mold_text.specs.Line.{line_of}

-- Each of these datagrams was sent by the publisher of this input or by one of its servers, or does not encode a packet
-- of the session.
abbrev pub AreFed : (P : Type 0) → JournalState → ℕ → InputEntries → List Given → Type 0
AreFed P journal limit input datagrams = AllByRecursion (λ given. IsFed P journal limit input given.bytes) datagrams

-- The ranges follow each other between the numbers `first` and `next`. Each has at least one number.
abbrev pub AreRanges : ℕ → List Gap → ℕ → Type 0
AreRanges first [] next = first ≤ next
AreRanges first (gap ∷ gaps) next = (first ≤ gap.first) × (gap.first < gap.end) × AreRanges gap.end gaps next

-- The text of the published messages from `first` to just below `next`, in order. Those of the ranges `gaps` are left
-- out, and in place of each range is its line `lost`.
unfoldable pub printed_text : MessageFormat → List Message → ℕ → List Gap → ℕ → List ℕ
printed_text format published first [] next = handed_text format first (between published first next)
printed_text format published first (gap ∷ gaps) next =
    handed_text format first (between published first gap.first)
    ++ (lost_text format (Some gap) ++ printed_text format published gap.end gaps next)

-- The last line of a receiver that has finished: the number of the next message, the count of messages that were given
-- up, and the count of failed waits, receives and sends.
abbrev pub finished_line : ℕ → ℕ → ℕ → List ℕ
finished_line next lost failures = line_of
    (codes "finished" ∷ codes "next" ∷ decimal next ∷ codes "lost" ∷ decimal lost
    ∷ codes "failed" ∷ decimal failures ∷ [])

-- The last line of a receiver that has not finished. It also has the known top.
abbrev pub open_line : ℕ → ℕ → ℕ → ℕ → List ℕ
open_line next known lost failures = line_of
    (codes "open" ∷ codes "next" ∷ decimal next ∷ codes "known" ∷ decimal known ∷ codes "lost" ∷ decimal lost
    ∷ codes "failed" ∷ decimal failures ∷ [])

-- The last line.
abbrev pub closing_line : Bool → ℕ → ℕ → ℕ → ℕ → List ℕ
closing_line finished next known lost failures =
    if finished then finished_line next lost failures else open_line next known lost failures

-- The status: 0 if the receiver has finished and gave up nothing, otherwise 1.
abbrev pub closing_status : Bool → List Gap → ℕ
closing_status finished [] = if finished then 0 else 1
closing_status finished (gap ∷ gaps) = 1

-- The text that a receiver which started at message `first` prints of a journal: the journal's messages from there to
-- `next - 1`, without the ranges that were given up, and its last line. If messages are printed as blocks, there are
-- only the messages, and in the format `BlocksToEmpty` with status 0 the mark of the end, which is an empty block.
pub record Prints (format : MessageFormat) (journal : JournalState) (first : ℕ) (text : List ℕ) : Type 0 where
  -- the number of the next message
  pub next : ℕ
  -- the ranges that were given up
  pub gaps : List Gap
  pub finished : Bool
  -- the greatest top that the receiver knows
  pub known : ℕ
  -- the count of failed waits, receives and sends
  pub failures : ℕ
  pub order : AreRanges first gaps next
  -- the receiver does not deliver more than it knows of
  pub ahead : next ≤ known
  -- the receiver knows only of published messages
  pub received : known ≤ length journal.messages + 1
  -- a receiver finishes only if the session is closed
  pub closed : finished ≡ true → journal.closed ≡ true
  -- a receiver that has finished delivered or gave up every message
  pub all : finished ≡ true → next ≡ length journal.messages + 1
  -- the last line has the count of messages in the ranges. A count above 2^64 - 1 is printed as 2^64 - 1
  pub parts : text ≡ printed_text format journal.messages first gaps next
      ++ end_text format None (closing_status finished gaps == 0)
      (closing_line finished next known (u64_saturate (count_numbers gaps)) failures)

-- A receiver that started at message `first` has ended with this status. Its text is written to standard output.
pub record HasPrinted (format : MessageFormat) (journal : JournalState) (first status : ℕ)
    (old new : Option (List ℕ)) : Type 0 where
  pub text : List ℕ
  pub prints : Prints format journal first text
  pub written : Appends old new text
  pub status_is : status ≡ closing_status prints.finished prints.gaps

-- A receiver that started at message `first` has ended with a fault. A prefix of its text is written.
pub record HasPrintedPart (format : MessageFormat) (journal : JournalState) (first : ℕ)
    (old new : Option (List ℕ)) : Type 0 where
  pub text : List ℕ
  pub prints : Prints format journal first text
  pub front : AppendsPrefix old new text

-- A receiver that started at message `first` has written all messages from there on, and no other. In the format
-- `BlocksToEmpty` the mark of the end follows them. The session is closed.
pub record HasPrintedAll (format : MessageFormat) (journal : JournalState) (first : ℕ)
    (old new : Option (List ℕ)) : Type 0 where
  -- the count of failed waits, receives and sends
  pub failures : ℕ
  pub closed : journal.closed ≡ true
  pub written : Appends old new
      (handed_text format first (between journal.messages first (length journal.messages + 1))
      ++ end_text format None true (finished_line (length journal.messages + 1) 0 failures))

-- A receiver that started at message `first` has stopped printing before the published message `number`, which is
-- empty. It has written the blocks of the published messages up to this one, without the ranges that were given up, and
-- no mark of the end.
pub record HasPrintedToEmpty (journal : JournalState) (first number : ℕ) (old new : Option (List ℕ)) : Type 0 where
  -- the ranges that were given up
  pub gaps : List Gap
  pub order : AreRanges first gaps number
  pub empty : slice_get journal.messages (number - 1) ≡ Some []
  pub written : Appends old new (printed_text BlocksToEmpty journal.messages first gaps number)

-- A receiver of lines that started at line `first` has written all published lines from there on, each after its
-- number, and no other.
pub record HasPrintedLines (lines : List (List ℕ)) (first : ℕ) (old new : Option (List ℕ)) : Type 0 where
  -- the count of failed waits, receives and sends
  pub failures : ℕ
  pub written : Appends old new
      (lines_text first (between lines first (length lines + 1)) ++ finished_line (length lines + 1) 0 failures)
