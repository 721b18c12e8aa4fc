-- Which datagrams a publisher of an input and the servers of its journal send.
use Rattle.mold_wire.specs.declared.limits.TheConstants.{MESSAGE_OVERHEAD}
use Rattle.std.specs.Prelude.{◌≡◌, ◌⊎◌, ℕ, ◌+◌, ◌≤◌, Bool, true, false, List, [], length, map, take, slice_get}
use Rattle.std.specs.Prelude.{Option, Some, Result, Ok, Err}
use Rattle.std.specs.List.{AllByRecursion, Contains}
use Rattle.mold_devices.specs.declared.fault.CommandFault.{CommandFault}
use Rattle.mold_input.specs.Blocks.{block_entries}
use Rattle.mold_input.specs.BlocksToEmpty.{to_empty_entries}
use Rattle.mold_input.specs.Entries.{Entry, InputEntries, line_entry}
use Rattle.mold_input.specs.declared.input_kind.InputKind.TheVariants.{Lines, Blocks}
use Rattle.mold_ports.specs.Ports.{Port}
use Rattle.mold_publish.specs.Publishing.{entry_outcome, input_published}
use Rattle.mold_publish.specs.declared.message_refusal.MessageRefusal.{MessageRefusal}
use Rattle.mold_session.specs.Journal.{JournalState}
use Rattle.mold_session.specs.Truthful.{MayAnswer}
use Rattle.mold_wire.specs.Packer.{IsLimit}
use Rattle.mold_send.specs.PublishLoop.{PublishRun, left_journal}
use Rattle.mold_turns.specs.Runs.{run}
use Rattle.mold_serve.specs.Serving.{ResponderState, Service, serving}

-- A new session. Its name has 10 bytes, a datagram has room for the longest message, nothing is published yet, and it
-- is open.
pub record IsOpening (journal : JournalState) (limit : ℕ) : Type 0 where
  pub named : length journal.session.0 ≡ 10
  pub limited : IsLimit limit
  -- a message of the greatest length fits a packet alone, with 22 bytes of header and length
  pub longest : journal.max_message + MESSAGE_OVERHEAD ≤ limit
  pub empty : journal.messages ≡ []
  pub unclosed : journal.closed ≡ false

-- The input that has these lines.
abbrev pub lines_input : List (List ℕ) → InputEntries
lines_input lines = record { kind = Lines; entries = map line_entry lines }

-- The input of message blocks that has these bytes.
abbrev pub blocks_input : List ℕ → InputEntries
blocks_input bytes = record { kind = Blocks; entries = block_entries bytes }

-- The input of message blocks up to the first empty one that has these bytes.
abbrev pub to_empty_input : List ℕ → InputEntries
to_empty_input bytes = record { kind = Blocks; entries = to_empty_entries bytes }

-- The journal is closed, and its messages are the entries, in order.
pub record HasMessages (entries : List Entry) (journal : JournalState) : Type 0 where
  pub closed : journal.closed ≡ true
  -- each entry is the message with the same index
  pub read : entries ≡ map Ok journal.messages

-- The journal is open and has the messages of the first entries, in order. It refuses the entry after them for the
-- reason `why`.
pub record HasMessagesBefore (input : InputEntries) (why : MessageRefusal) (journal : JournalState) : Type 0 where
  -- the refused entry
  pub entry : Entry
  -- it is the first entry that has no message in the journal
  pub found : slice_get input.entries (length journal.messages) ≡ Some entry
  pub refused : entry_outcome input.kind journal entry ≡ Err why
  -- each entry before it is the message with the same index
  pub read : take (length journal.messages) input.entries ≡ map Ok journal.messages
  pub unclosed : journal.closed ≡ false

-- The bytes of every datagram that was sent satisfy `Good`.
abbrev pub AllSent : {P : Type 0} → (List ℕ → Type 0) → List (P × List ℕ) → Type 0
AllSent Good sent = AllByRecursion (λ letter. Good letter.1) sent

-- The two journals agree on the session, on the messages, and on whether the session is closed.
pub record IsCopy (journal copy : JournalState) : Type 0 where
  pub session : copy.session ≡ journal.session
  pub messages : copy.messages ≡ journal.messages
  pub closed : copy.closed ≡ journal.closed

-- A publisher of this input sent the datagram, on a port that had sent nothing before. The publisher may have ended
-- in any way.
pub record IsPublished (P : Type 0) (journal : JournalState) (limit : ℕ) (input : InputEntries) (bytes : List ℕ) :
    Type 0 where
  -- the addresses of lines A and B
  pub a : P
  pub b : P
  -- the numbers of heartbeats and end packets
  pub beats : ℕ
  pub ends : ℕ
  pub result : Result ℕ CommandFault
  pub before : Port P
  pub after : Port P
  pub text_old : Option (List ℕ)
  pub text_new : Option (List ℕ)
  pub file_old : Option (List ℕ)
  pub file_new : Option (List ℕ)
  -- the publisher made this run
  pub publishing : PublishRun a b beats ends limit (input_published journal input) result before after
      text_old text_new file_old file_new
  -- the port had sent nothing before the run
  pub nothing : before.sent ≡ []
  pub to : P
  pub sent : Contains after.sent (to, bytes)

-- A server with a copy of the journal sent the datagram, on a port that had sent nothing before. It may have received
-- any requests.
pub record IsServed (P : Type 0) (journal : JournalState) (bytes : List ℕ) : Type 0 where
  pub service : Service
  pub copy : IsCopy journal service.journal
  pub answers : MayAnswer service.journal service.limit
  -- which sends failed in each turn
  pub choices : List (List Bool)
  pub start : ResponderState P
  -- the port had sent nothing before the run
  pub nothing : start.port.sent ≡ []
  pub to : P
  pub sent : Contains (run (serving service) choices start).port.sent (to, bytes)

-- The datagram was sent by a publisher of this input, or by a server of the journal that the publisher left.
abbrev pub IsSent : (P : Type 0) → JournalState → ℕ → InputEntries → List ℕ → Type 0
IsSent P journal limit input bytes =
    IsPublished P journal limit input bytes ⊎ IsServed P (left_journal (input_published journal input)) bytes
