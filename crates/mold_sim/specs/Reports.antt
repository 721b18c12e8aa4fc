-- What `mold sim` prints for an event and for a receiver.
use Rattle.std.specs.Prelude.{ℕ, ◌+◌, ◌-◌, List, [], ◌∷◌, ◌++◌, length, codes, decimal, Bool, nat_lt, if◌then◌else◌}
use Rattle.std.specs.Prelude.{Option, None, Some}
use Rattle.mold_refusals.specs.Words.{answer_words, append_words}
use Rattle.mold_session.specs.declared.error.SessionError.{SessionError}
use Rattle.mold_session.specs.declared.error.SessionError.TheVariants as session
use Rattle.mold_text.specs.Line.{line_of}
use Rattle.mold_text.specs.Text.{refusal_words}
use Rattle.mold_world.specs.Steps.{is_finished}
use Rattle.mold_world.specs.World.{SubscriberState}
use Rattle.mold_world.specs.declared.report.Report.{Report}
use Rattle.mold_world.specs.declared.report.Report.TheVariants as report
use Rattle.mold_world.specs.declared.report.WorldError.{WorldError}
use Rattle.mold_world.specs.declared.report.WorldError.TheVariants as error

-- The words of a refusal by the publisher or the re-request server: its name and its number.
abbrev pub session_words : SessionError → List (List ℕ)
session_words (session.Append why) = append_words why
session_words (session.Close unsent) = codes "Unsent" ∷ decimal unsent.count ∷ []
session_words (session.Answer why) = answer_words why

-- The words of a refused event: the name of the reason and its number. A refusal by the publisher or the server has
-- only that refusal's words. The last four are never printed for an event.
abbrev pub error_words : WorldError → List (List ℕ)
error_words error.NoReceiver = codes "NoReceiver" ∷ []
error_words error.NoSuchDatagram = codes "NoSuchDatagram" ∷ []
error_words error.NotNoise = codes "NotNoise" ∷ []
error_words (error.NotReached next) = codes "NotReached" ∷ decimal next ∷ []
error_words (error.Layer why) = session_words why
error_words error.Memory = codes "Memory" ∷ []
error_words error.BadLimit = codes "BadLimit" ∷ []
error_words (error.BadWindow r) = codes "BadWindow" ∷ decimal r ∷ []
error_words error.BadBurst = codes "BadBurst" ∷ []

-- The words of a burst: the index of the first datagram, and of the last if there are several.
abbrev pub burst_words : ℕ → ℕ → List (List ℕ)
burst_words first count =
    if nat_lt 1 count
    then codes "sent" ∷ decimal first ∷ codes "to" ∷ decimal (first + count - 1) ∷ []
    else codes "sent" ∷ decimal first ∷ []

-- The words of what an event did.
abbrev pub report_words : Report → List (List ℕ)
report_words (report.Published number) = codes "published" ∷ decimal number ∷ []
report_words (report.Sent place) = codes "sent" ∷ decimal place ∷ []
report_words (report.Burst first count) = burst_words first count
report_words report.Nothing = codes "nothing" ∷ []
report_words report.Closed = codes "closed" ∷ []
report_words (report.Delivered taken) =
    codes "delivered" ∷ decimal taken.handed ∷ decimal taken.kept ∷ decimal taken.beyond ∷ []
report_words (report.NoiseRefused why) = codes "noise" ∷ refusal_words why
report_words (report.Restarted next) = codes "restarted" ∷ decimal next ∷ []

-- The word for a receiver's state: `finished` if it has the whole session, otherwise `open`.
abbrev pub state_word : Bool → List ℕ
state_word finished = if finished then codes "finished" else codes "open"

-- The line of the receiver with this number.
abbrev pub receiver_line : ℕ → SubscriberState → List ℕ
receiver_line number place = line_of
    (codes "receiver" ∷ decimal number ∷ codes "next" ∷ decimal place.arbitration.view.next
    ∷ codes "known" ∷ decimal place.arbitration.view.known ∷ codes "book" ∷ decimal (length place.book.messages)
    ∷ state_word (is_finished place.arbitration.view) ∷ [])

-- The line of the receiver with this number, or nothing if there is no such receiver.
abbrev pub some_receiver_line : ℕ → Option SubscriberState → List ℕ
some_receiver_line number None = []
some_receiver_line number (Some place) = receiver_line number place

-- The lines of receivers with consecutive numbers from `number` on.
unfoldable pub receiver_lines : ℕ → List SubscriberState → List ℕ
receiver_lines number [] = []
receiver_lines number (place ∷ subscribers) = receiver_line number place ++ receiver_lines (number + 1) subscribers
