-- What a listener's ports may give, and what the listener prints of it.
use Rattle.std.specs.Prelude.{◌≡◌, ◌⊎◌, ⊤, ℕ, ◌+◌, ◌≤◌, Bool, true, false, nat_le, ◌&&◌, if◌then◌else◌}
use Rattle.std.specs.Prelude.{List, [], ◌∷◌, ◌++◌, codes, decimal, length, map, take, Option, None, Some, Result}
use Rattle.std.specs.Prelude.{IfOk}
use Rattle.std.specs.Io.KnownBytes.{Appends}
use Rattle.std.specs.List.{AllByRecursion, Contains, flat_map}
use Rattle.mold_devices.specs.Devices.{AppendsPrefix}
use Rattle.mold_input.specs.BlocksToEmpty.{IsNotEmpty}
use Rattle.mold_input.specs.Entries.{InputEntries}
use Rattle.mold_input.specs.declared.message_format.MessageFormat.{MessageFormat}
use Rattle.mold_input.specs.declared.message_format.MessageFormat.TheVariants.{Lines, Blocks, BlocksToEmpty}
use Rattle.mold_ports.specs.Ports.{Port, Receipt, Datagram, Quiet, Failure}
use Rattle.mold_publish.specs.Publishing.{refused_text}
use Rattle.mold_publish.specs.declared.message_refusal.MessageRefusal.{MessageRefusal}
use Rattle.mold_receiver.specs.Honest.{IsHonest}
use Rattle.mold_receiver.specs.Store.{Message, numbered}
use Rattle.mold_receiver.specs.declared.line.LineReports.{LineReports}
use Rattle.mold_rule.specs.declared.refusal.Refusal.{Refusal}
use Rattle.mold_rule.specs.declared.refusal.Refusal.TheVariants.{Malformed, WrongSession}
use Rattle.mold_session.specs.Answer.{between}
use Rattle.mold_session.specs.Journal.{JournalState}
use Rattle.mold_session.specs.Truthful.{IsTrueDatagram}
use Rattle.mold_text.specs.Line.{line_of}
use Rattle.mold_text.specs.Text.{refusal_words, refused_line}
use Rattle.mold_wire.specs.Block.{IsBytes, block, blocks}
use Rattle.mold_wire.specs.Fault.{FaultAt}
use Rattle.mold_wire.specs.Packet.{Spells}
use Rattle.mold_wire.specs.Truth.{AreForeign}
use Rattle.mold_wire.specs.declared.error.DecodeError.{DecodeError}
use Rattle.mold_wire.specs.declared.packet.Packet.{Packet}
use Rattle.mold_wire.specs.declared.session.Session.{Session}
use Rattle.mold_listen.specs.Listening.{Progress, ListenerState}
use Rattle.mold_feed.specs.Sent.{IsSent}
use Rattle.mold_listen.specs.Text.{end_note, end_status, end_text, finished_line, handed_text, message_text, open_line}
use Rattle.mold_listen.specs.Text.{printable, reports_text, stop_after}
use Rattle.mold_turns.specs.Outgoing.{note_text}
use Rattle.mold_wire.specs.declared.limits.TheConstants.{MAX_LIMIT}

-- The bytes do not encode a packet of the session.
abbrev pub IsForeign : Session → List ℕ → Type 0
IsForeign session bytes = IsBytes bytes × AreForeign session bytes

-- The bytes are a datagram that is true of the journal, or do not encode a packet of its session.
abbrev pub IsHarmless : JournalState → List ℕ → Type 0
IsHarmless journal bytes = IsTrueDatagram journal bytes ⊎ IsForeign journal.session bytes

-- The bytes were sent by the publisher of this input or by one of its servers, or do not encode a packet of the
-- session.
abbrev pub IsFed : (P : Type 0) → JournalState → ℕ → InputEntries → List ℕ → Type 0
IsFed P journal limit input bytes = IsSent P journal limit input bytes ⊎ IsForeign journal.session bytes

-- If the receive gives a datagram, then the first 65,507 bytes of that datagram satisfy `Good`.
abbrev pub Gives : {P : Type 0} → (List ℕ → Type 0) → Receipt P → Type 0
Gives Good (Datagram from bytes) = Good (take MAX_LIMIT bytes)
Gives Good Quiet = ⊤
Gives Good Failure = ⊤

-- Every datagram that the port still gives satisfies `Good`.
abbrev pub GivesOnly : {P : Type 0} → (List ℕ → Type 0) → Port P → Type 0
GivesOnly Good port = AllByRecursion (Gives Good) port.comes

-- Every datagram that the listener's three ports still give satisfies `Good`.
pub record ReceivesOnly {P : Type 0} (Good : List ℕ → Type 0) (s : ListenerState P) : Type 0 where
  pub a : GivesOnly Good s.a
  pub b : GivesOnly Good s.b
  pub requests : GivesOnly Good s.requests

-- The port still gives these bytes: they are the first 65,507 bytes of a datagram that it gives.
pub record IsReceived {P : Type 0} (port : Port P) (bytes : List ℕ) : Type 0 where
  -- the sender of the datagram
  pub from : P
  -- the whole datagram
  pub whole : List ℕ
  pub comes : Contains port.comes (Datagram from whole)
  pub seen : bytes ≡ take MAX_LIMIT whole

-- One of the listener's three ports still gives these bytes.
abbrev pub CanReceive : {P : Type 0} → ListenerState P → List ℕ → Type 0
CanReceive s bytes = IsReceived s.a bytes ⊎ IsReceived s.b bytes ⊎ IsReceived s.requests bytes

-- What a listener prints for a message or a refusal: a delivered message with its number, or some bytes with the
-- reason why they are refused.
pub data PrintedLine : Type 0 where
  Handed : ℕ → Message → PrintedLine
  Refuses : List ℕ → Refusal → PrintedLine

-- The text of one printed line on standard output. Among blocks a refusal has no text there.
abbrev pub printed_line : MessageFormat → PrintedLine → List ℕ
printed_line format (Handed number message) = message_text format number message
printed_line format (Refuses bytes why) = note_text format (refused_line (refusal_words why))

-- The text of printed lines on standard output, in order.
abbrev pub printed_lines_text : MessageFormat → List PrintedLine → List ℕ
printed_lines_text format printed_lines = flat_map (printed_line format) printed_lines

-- Of these lines, those before the first one that delivers an empty message.
unfoldable pub lines_to_empty : List PrintedLine → List PrintedLine
lines_to_empty [] = []
lines_to_empty (Handed number [] ∷ printed_lines) = []
lines_to_empty (Handed number (byte ∷ bytes) ∷ printed_lines) =
    Handed number (byte ∷ bytes) ∷ lines_to_empty printed_lines
lines_to_empty (Refuses bytes why ∷ printed_lines) = Refuses bytes why ∷ lines_to_empty printed_lines

-- Of these lines, those that are printed. If an empty block marks the end, an empty message cannot be printed, and nor
-- is anything after it. `stopped` is the number of an earlier empty message, if there was one.
abbrev pub printable_lines : MessageFormat → Option ℕ → List PrintedLine → List PrintedLine
printable_lines Lines stopped printed_lines = printed_lines
printable_lines Blocks stopped printed_lines = printed_lines
printable_lines BlocksToEmpty None printed_lines = lines_to_empty printed_lines
printable_lines BlocksToEmpty (Some empty) printed_lines = []

-- The messages that the printed lines deliver, each with its number.
abbrev pub handed_of : List PrintedLine → List (ℕ × Message)
handed_of [] = []
handed_of (Handed number message ∷ printed_lines) = (number, message) ∷ handed_of printed_lines
handed_of (Refuses bytes why ∷ printed_lines) = handed_of printed_lines

-- The reason why bytes are refused that do not encode a packet of the session: their decode fault, or `WrongSession`
-- for a packet of another session.
abbrev pub IsReason : Session → List ℕ → Refusal → Type 0
IsReason session bytes why =
    ((error : DecodeError) × FaultAt error bytes × (why ≡ Malformed error))
    ⊎ ((packet : Packet) × Spells packet bytes × (packet.session ≡ session → ⊥) × (why ≡ WrongSession))

-- If the printed line refuses bytes, these satisfy `Came` and do not encode a packet of the session. The printed
-- reason is the right one (`IsReason`).
abbrev pub RefusesForeign : (List ℕ → Type 0) → Session → PrintedLine → Type 0
RefusesForeign Came session (Handed number message) = ⊤
RefusesForeign Came session (Refuses bytes why) = Came bytes × IsForeign session bytes × IsReason session bytes why

-- The state of a listener that started at message `first` with the text `before`, and is still honest. It has since
-- printed the published messages from `first` to just below its next number in this format, and maybe refusals. In the
-- format `BlocksToEmpty` it printed those before the first empty message. Refused bytes satisfy `Came` and do not
-- encode a packet of the session. `stopped` is the number of an empty message before which printing had stopped at the
-- start, if it had.
pub record HasListened (format : MessageFormat) (journal : JournalState) (Came : List ℕ → Type 0) (first : ℕ)
    (stopped : Option ℕ) (before : List ℕ) (e : Progress) : Type 0 where
  pub kept : e.outgoing.format ≡ format
  -- the messages delivered and the bytes refused since the start
  pub printed_lines : List PrintedLine
  -- those that can be printed are printed
  pub text : e.outgoing.text ≡ before ++ printed_lines_text format (printable_lines format stopped printed_lines)
  -- printing stopped before the first empty message, if there is one
  pub stop : e.outgoing.stopped
      ≡ stop_after format stopped first (between journal.messages first e.arbitration.view.next)
  -- each refusal is of received bytes that do not encode a packet of the session
  pub refused : AllByRecursion (RefusesForeign Came journal.session) printed_lines
  pub from : first ≤ e.arbitration.view.next
  -- every delivered message was published
  pub to : e.arbitration.view.next ≤ length journal.messages + 1
  -- the delivered messages are the published ones, with their numbers
  pub handed : handed_of printed_lines ≡ numbered first (between journal.messages first e.arbitration.view.next)
  pub honest : IsHonest e.arbitration.view journal.messages journal.closed
  pub session : e.arbitration.view.session ≡ journal.session

-- The session is closed, and the listener has delivered all of its messages.
pub record HasFinished (journal : JournalState) (e : Progress) : Type 0 where
  pub closed : journal.closed ≡ true
  pub all : e.arbitration.view.next ≡ length journal.messages + 1

-- A hexadecimal digit as it is printed, in lower case.
abbrev pub lower_digit : ℕ → ℕ
lower_digit digit = if nat_le 65 digit && nat_le digit 70 then digit + 32 else digit

-- The digits of a published line as they are printed. An empty line is printed as `-`.
abbrev pub shown : List ℕ → List ℕ
shown [] = codes "-"
shown (digit ∷ digits) = map lower_digit (digit ∷ digits)

-- The text of published lines, each after its number. The first number is `number`.
unfoldable pub lines_text : ℕ → List (List ℕ) → List ℕ
lines_text number [] = []
lines_text number (line ∷ lines) =
    line_of (decimal number ∷ shown line ∷ []) ++ lines_text (number + 1) lines

-- The last line of a listener, which depends on whether it has finished.
abbrev pub closing_line : Bool → ℕ → ℕ → ℕ → List ℕ
closing_line finished next known failures =
    if finished then finished_line next failures else open_line next known failures

-- The status of a listener: 0 if it has finished, otherwise 1.
abbrev pub closing_status : Bool → ℕ
closing_status finished = if finished then 0 else 1

-- The last lines of a listener: the reports of lines A and B, if they were requested, and then its last line.
abbrev pub closing_lines : Bool → LineReports → Bool → ℕ → ℕ → ℕ → List ℕ
closing_lines reporting reports finished next known failures =
    reports_text reporting reports known ++ closing_line finished next known failures

-- What a listener prints on standard output after the messages: among lines its last lines, in the format
-- `BlocksToEmpty` the mark of the end if it has finished. `stopped` is the number of the empty message before which
-- printing stopped, if it stopped.
abbrev pub closing_text : MessageFormat → Bool → LineReports → Option ℕ → Bool → ℕ → ℕ → ℕ → List ℕ
closing_text format reporting reports stopped finished next known failures =
    end_text format stopped finished (end_note stopped (closing_lines reporting reports finished next known failures))

-- The number of the first of the journal's messages from `first` to `next - 1` that cannot be printed in this format,
-- if there is one. Only in the format `BlocksToEmpty` a message cannot be printed: an empty one.
abbrev pub stop_between : MessageFormat → JournalState → ℕ → ℕ → Option ℕ
stop_between format journal first next = stop_after format None first (between journal.messages first next)

-- The text of the journal's messages from `first` to `next - 1` in this format, as far as they can be printed.
abbrev pub published_text : MessageFormat → JournalState → ℕ → ℕ → List ℕ
published_text format journal first next =
    handed_text format first (printable format None (between journal.messages first next))

-- The text of those printed lines that deliver a message.
abbrev pub messages_text : MessageFormat → List PrintedLine → List ℕ
messages_text format [] = []
messages_text format (Handed number message ∷ printed_lines) =
    message_text format number message ++ messages_text format printed_lines
messages_text format (Refuses bytes why ∷ printed_lines) = messages_text format printed_lines

-- What a listener that started at message `first` has written to standard output: the journal's messages from there to
-- `next - 1` in this format, and its last lines. With status 0 the session is closed and all of its messages are
-- printed. With status 2, which only the format `BlocksToEmpty` has, those before the first empty one are printed.
-- After a fault, a prefix of such a text is written.
pub record PrintsMessages {E : Type 0} (format : MessageFormat) (reporting : Bool) (journal : JournalState)
    (first : ℕ) (result : Result ℕ E) (old new : Option (List ℕ)) : Type 0 where
  -- the number of the next message to deliver
  pub next : ℕ
  pub finished : Bool
  -- the greatest top that the listener knows
  pub known : ℕ
  -- the count of failed sends and receives
  pub failures : ℕ
  -- what was received on lines A and B
  pub reports : LineReports
  pub from : first ≤ next
  pub to : next ≤ length journal.messages + 1
  -- the listener does not deliver more than it knows of
  pub ahead : next ≤ known
  -- the listener knows only of published messages
  pub received : known ≤ length journal.messages + 1
  -- a listener finishes only if the session is closed
  pub closed : finished ≡ true → journal.closed ≡ true
  -- a listener that has finished printed every message
  pub all : finished ≡ true → next ≡ length journal.messages + 1
  -- after a success, the whole text is written
  pub text : IfOk result (λ status. (status ≡ end_status (stop_between format journal first next) finished)
      × Appends old new (published_text format journal first next
      ++ closing_text format reporting reports (stop_between format journal first next) finished next known failures))
  -- in any case, a prefix of the text is written
  pub front : AppendsPrefix old new (published_text format journal first next
      ++ closing_text format reporting reports (stop_between format journal first next) finished next known failures)

-- What a listener that started at message `first` has written to standard output, if its ports may also give foreign
-- bytes. Such bytes do not encode a packet of the session. The text is as for `PrintsMessages`, but among lines of
-- messages there may be lines that refuse such bytes.
pub record PrintsMessagesAmong {E : Type 0} (format : MessageFormat) (reporting : Bool) (Came : List ℕ → Type 0)
    (journal : JournalState) (first : ℕ) (result : Result ℕ E) (old new : Option (List ℕ)) : Type 0 where
  -- the number of the next message to deliver
  pub next : ℕ
  pub finished : Bool
  -- the greatest top that the listener knows
  pub known : ℕ
  -- the count of failed sends and receives
  pub failures : ℕ
  -- what was received on lines A and B
  pub reports : LineReports
  -- what was printed before the last lines, as far as it can be printed
  pub printed_lines : List PrintedLine
  -- each refusal is of received bytes that do not encode a packet of the session
  pub refused : AllByRecursion (RefusesForeign Came journal.session) printed_lines
  -- without the refusals, the text is that of the published messages
  pub messages : messages_text format (printable_lines format None printed_lines)
      ≡ published_text format journal first next
  pub from : first ≤ next
  pub to : next ≤ length journal.messages + 1
  pub ahead : next ≤ known
  pub received : known ≤ length journal.messages + 1
  -- a listener finishes only if the session is closed
  pub closed : finished ≡ true → journal.closed ≡ true
  -- a listener that has finished printed every message
  pub all : finished ≡ true → next ≡ length journal.messages + 1
  -- after a success, the whole text is written
  pub text : IfOk result (λ status. (status ≡ end_status (stop_between format journal first next) finished)
      × Appends old new (printed_lines_text format (printable_lines format None printed_lines)
      ++ closing_text format reporting reports (stop_between format journal first next) finished next known failures))
  -- in any case, a prefix of the text is written
  pub front : AppendsPrefix old new (printed_lines_text format (printable_lines format None printed_lines)
      ++ closing_text format reporting reports (stop_between format journal first next) finished next known failures)

-- What a listener that started at line `first` has written: the published lines from there to `next - 1`, each after
-- its number, the requested reports, and its last line. With status 0 it has printed all lines. After a fault, a prefix
-- of such a text is written.
pub record PrintsLines {E : Type 0} (reporting : Bool) (lines : List (List ℕ)) (first : ℕ) (result : Result ℕ E)
    (old new : Option (List ℕ)) : Type 0 where
  -- the number of the next message to deliver
  pub next : ℕ
  pub finished : Bool
  -- the greatest top that the listener knows
  pub known : ℕ
  -- the count of failed sends and receives
  pub failures : ℕ
  -- what was received on lines A and B
  pub reports : LineReports
  pub from : first ≤ next
  pub to : next ≤ length lines + 1
  -- the listener does not deliver more than it knows of
  pub ahead : next ≤ known
  -- the listener knows only of published lines
  pub received : known ≤ length lines + 1
  -- a listener that has finished printed every line
  pub all : finished ≡ true → next ≡ length lines + 1
  -- after a success, the whole text is written
  pub text : IfOk result (λ status. (status ≡ closing_status finished) × Appends old new
      (lines_text first (between lines first next) ++ closing_lines reporting reports finished next known failures))
  -- in any case, a prefix of the text is written
  pub front : AppendsPrefix old new
      (lines_text first (between lines first next) ++ closing_lines reporting reports finished next known failures)

-- What a listener that prints blocks and started at message `first` has written to standard output: the blocks of the
-- journal's messages from there to `next - 1`. With status 0 the session is closed and all of its messages are printed.
-- After a fault, a prefix of such blocks is written.
pub record PrintsBlocks {E : Type 0} (journal : JournalState) (first : ℕ) (result : Result ℕ E)
    (old new : Option (List ℕ)) : Type 0 where
  -- the number of the next message to deliver
  pub next : ℕ
  pub from : first ≤ next
  pub to : next ≤ length journal.messages + 1
  -- after a success, the blocks are written, and with status 0 no message is missing
  pub text : IfOk result (λ status. Appends old new (blocks (between journal.messages first next))
      × (status ≡ 0 → (journal.closed ≡ true) × (next ≡ length journal.messages + 1)))
  -- in any case, a prefix of the blocks is written
  pub front : AppendsPrefix old new (blocks (between journal.messages first next))

-- The first of the messages is empty.
abbrev pub BeginsEmpty : List Message → Type 0
BeginsEmpty [] = ⊥
BeginsEmpty ([] ∷ messages) = ⊤
BeginsEmpty ((byte ∷ bytes) ∷ messages) = ⊥

-- What a listener with this status has written, if it prints blocks up to an empty one. It printed `messages`, and not
-- the `others` after them, up to `next - 1`.
--
-- - With status 0 the session is closed, all of its messages are printed, and an empty block follows them.
-- - With status 1 all messages up to `next - 1` are printed.
-- - With status 2 the message after the printed ones is empty.
abbrev pub WritesToEmpty : JournalState → ℕ → List Message → List Message → Option (List ℕ) → Option (List ℕ) → ℕ →
    Type 0
WritesToEmpty journal next messages others old new status =
    ((status ≡ 0) × (others ≡ []) × (journal.closed ≡ true) × (next ≡ length journal.messages + 1)
    × Appends old new (blocks messages ++ block []))
    ⊎ ((status ≡ 1) × (others ≡ []) × Appends old new (blocks messages))
    ⊎ ((status ≡ 2) × BeginsEmpty others × Appends old new (blocks messages))

-- What a listener that prints blocks up to an empty one, and that started at message `first`, has written to standard
-- output: blocks of the journal's messages from there on, and at the end of the session an empty block. No block of a
-- message is empty. After a fault, a prefix of such blocks is written.
pub record PrintsToEmpty {E : Type 0} (journal : JournalState) (first : ℕ) (result : Result ℕ E)
    (old new : Option (List ℕ)) : Type 0 where
  -- the number of the next message to deliver
  pub next : ℕ
  pub from : first ≤ next
  pub to : next ≤ length journal.messages + 1
  -- the messages that are printed: those before the first empty one
  pub messages : List Message
  pub filled : AllByRecursion IsNotEmpty messages
  -- the messages after them
  pub others : List Message
  pub parts : between journal.messages first next ≡ messages ++ others
  pub text : IfOk result (λ status. WritesToEmpty journal next messages others old new status)
  -- in any case, a prefix of the blocks and the empty block is written
  pub front : AppendsPrefix old new (blocks messages ++ block [])

-- The bytes of an input were written up to its mark of the end, which is its first empty block, with the mark.
pub record WritesToMark (input : List ℕ) (old new : Option (List ℕ)) : Type 0 where
  -- the messages before the mark
  pub messages : List Message
  pub filled : AllByRecursion IsNotEmpty messages
  -- the bytes after the mark
  pub rest : List ℕ
  pub parts : input ≡ blocks messages ++ block [] ++ rest
  pub written : Appends old new (blocks messages ++ block [])

-- What a listener that started at line `first` has written, if line `refused_at` is refused. Its text is as for
-- `PrintsLines`. Both `next` and `known` are at most `refused_at`. The status is 1, since the session has no end. After
-- a fault, a prefix of such a text is written.
pub record PrintsOpen {E : Type 0} (reporting : Bool) (lines : List (List ℕ)) (refused_at first : ℕ)
    (result : Result ℕ E) (old new : Option (List ℕ)) : Type 0 where
  -- the number of the next message to deliver
  pub next : ℕ
  -- the greatest top that the listener knows
  pub known : ℕ
  -- the count of failed sends and receives
  pub failures : ℕ
  -- what was received on lines A and B
  pub reports : LineReports
  pub from : first ≤ next
  pub to : next ≤ refused_at
  pub ahead : next ≤ known
  pub received : known ≤ refused_at
  -- after a success, the whole text is written
  pub text : IfOk result (λ status. (status ≡ 1) × Appends old new
      (lines_text first (between lines first next) ++ closing_lines reporting reports false next known failures))
  -- in any case, a prefix of the text is written
  pub front : AppendsPrefix old new
      (lines_text first (between lines first next) ++ closing_lines reporting reports false next known failures)

-- What a loop of publisher, server and listener has written to standard output, if its listener started at message
-- `first` and the entry after these messages is refused. In this format its text is the messages from `first` to
-- `next - 1`, as far as they can be printed, and after lines also the line of the refusal. The status is 2. After a fault, a prefix of such a text is
-- written.
pub record PrintsMessagesRefused {E : Type 0} (format : MessageFormat) (messages : List Message)
    (why : MessageRefusal) (first : ℕ) (result : Result ℕ E) (old new : Option (List ℕ)) : Type 0 where
  -- the number of the next message to deliver
  pub next : ℕ
  pub from : first ≤ next
  pub to : next ≤ length messages + 1
  -- after a success, the whole text is written
  pub text : IfOk result (λ status. (status ≡ 2) × Appends old new
      (handed_text format first (printable format None (between messages first next))
      ++ note_text format (refused_text (length messages + 1) why)))
  -- in any case, a prefix of the text is written
  pub front : AppendsPrefix old new
      (handed_text format first (printable format None (between messages first next))
      ++ note_text format (refused_text (length messages + 1) why))

-- What a loop of publisher, server and listener has written, if its listener started at line `first` and line
-- `refused_at` is refused. Its text is the published lines from `first` to `next - 1`, where `next` is at most
-- `refused_at`, and then the line of the refusal. The status is 2. After a fault, a prefix of such a text is written.
pub record PrintsRefused {E : Type 0} (lines : List (List ℕ)) (refused_at : ℕ) (why : MessageRefusal) (first : ℕ)
    (result : Result ℕ E) (old new : Option (List ℕ)) : Type 0 where
  -- the number of the next message to deliver
  pub next : ℕ
  pub from : first ≤ next
  pub to : next ≤ refused_at
  -- after a success, the whole text is written
  pub text : IfOk result (λ status. (status ≡ 2) × Appends old new
      (lines_text first (between lines first next) ++ refused_text refused_at why))
  -- in any case, a prefix of the text is written
  pub front : AppendsPrefix old new (lines_text first (between lines first next) ++ refused_text refused_at why)

-- What a listener that started at line `first` has written at its end, if its ports may also give foreign bytes. Such
-- bytes do not encode a packet of the session. The text is as for `PrintsLines`, but lines that refuse such bytes may
-- be between the lines of messages.
pub record PrintsAmong {E : Type 0} (reporting : Bool) (session : Session) (Came : List ℕ → Type 0)
    (lines : List (List ℕ)) (first : ℕ) (result : Result ℕ E) (old new : Option (List ℕ)) : Type 0 where
  -- the number of the next message to deliver
  pub next : ℕ
  pub finished : Bool
  -- the greatest top that the listener knows
  pub known : ℕ
  -- the count of failed sends and receives
  pub failures : ℕ
  -- what was received on lines A and B
  pub reports : LineReports
  -- what was printed before the last lines
  pub printed_lines : List PrintedLine
  -- each refusal is of received bytes that do not encode a packet of the session
  pub refused : AllByRecursion (RefusesForeign Came session) printed_lines
  -- without the refusals, the printed lines are the published lines
  pub messages : messages_text Lines printed_lines ≡ lines_text first (between lines first next)
  pub from : first ≤ next
  pub to : next ≤ length lines + 1
  pub ahead : next ≤ known
  pub received : known ≤ length lines + 1
  -- a listener that has finished printed every line
  pub all : finished ≡ true → next ≡ length lines + 1
  -- after a success, the whole text is written
  pub text : IfOk result (λ status. (status ≡ closing_status finished) × Appends old new
      (printed_lines_text Lines printed_lines ++ closing_lines reporting reports finished next known failures))
  -- in any case, a prefix of the text is written
  pub front : AppendsPrefix old new
      (printed_lines_text Lines printed_lines ++ closing_lines reporting reports finished next known failures)
