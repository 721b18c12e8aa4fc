-- A publisher with its server, and what the calls on it return.
use Rattle.std.specs.Prelude.{◌≡◌, ◌⊎◌, ℕ, ◌+◌, ◌-◌, ◌<◌, ◌≤◌, true, List, length, Option, None, Some}
use Rattle.std.specs.Prelude.{is_some}
use Rattle.mold_wire.specs.declared.limits.TheConstants.{MAX_BURST}
use Rattle.mold_wire.specs.declared.packet.Packet.{Packet}
use Rattle.mold_wire.specs.declared.session.Session.{Session}
use Rattle.mold_session.specs.File.{file_length}
use Rattle.mold_session.specs.Journal.{JournalState, append_refusal, journal_below}
use Rattle.mold_session.specs.Publisher.{PublisherState, closed, fresh_publisher, published}
use Rattle.mold_session.specs.Putting.{PutsFile}
use Rattle.mold_session.specs.Server.{ServerState, fresh_server}
use Rattle.mold_session.specs.declared.error.AppendError.{AppendError}
use Rattle.mold_ffi.specs.Buffer.{PutsPacket}
use Rattle.mold_ffi.specs.Code.AppendError.{append_error_code, append_error_number}
use Rattle.mold_ffi.specs.declared.code.TheConstants as codes
use Rattle.mold_ffi.specs.declared.publisher.exchange.Exchange.{Exchange}
use Rattle.mold_ffi.specs.declared.handle.held.Held.{Held}
use Rattle.mold_ffi.specs.declared.handle.held.Held.TheVariants.{Publisher}

-- The publisher of an open session without messages, and no server.
abbrev pub opened : Session → ℕ → Exchange
opened session limit = record { publisher = fresh_publisher session limit; server = None }

-- What the handle of this publisher holds, with its server if it has one.
abbrev pub holding : Exchange → Option Held
holding exchange = Some (Publisher exchange)

-- What a handle holds after its exchange got this publisher.
abbrev pub with_publisher : Exchange → PublisherState → Option Held
with_publisher exchange publisher = holding (record { publisher = publisher; server = exchange.server })

-- What the handle of this publisher holds after its server got this state.
abbrev pub with_server : Exchange → ServerState → Option Held
with_server exchange server = holding (record { publisher = exchange.publisher; server = Some server })

-- The journal without the unsent messages. The publisher's server responds from it.
abbrev pub sent_journal : PublisherState → JournalState
sent_journal publisher = journal_below publisher.journal (publisher.sent + 1)

-- A server with the publisher's limit, for the publisher's journal, that has answered no request.
abbrev pub server_beside : PublisherState → ℕ → ServerState
server_beside publisher burst = fresh_server publisher.limit publisher.journal.max_message burst

-- A valid maximum number of responses to a request.
abbrev pub IsBurst : ℕ → Type 0
IsBurst burst = (1 ≤ burst) × (burst ≤ MAX_BURST)

-- Either the message is published, or it is refused for the first reason that applies, or an allocation for it failed.
pub record Publishes (exchange : Exchange) (message : List ℕ) (code number : ℕ) (held : Option Held) : Type 0 where
  pub taken : append_refusal exchange.publisher.journal message ≡ None →
      ((code ≡ codes.DONE) × (number ≡ length exchange.publisher.journal.messages + 1)
      × (held ≡ with_publisher exchange (published exchange.publisher message)))
      ⊎ ((code ≡ codes.MEMORY) × (number ≡ 0) × (held ≡ holding exchange))
  pub refused : (error : AppendError) → append_refusal exchange.publisher.journal message ≡ Some error →
      (code ≡ append_error_code error) × (number ≡ append_error_number error) × (held ≡ holding exchange)

-- If there is a packet `next`, it is written to a buffer that has at least as many bytes as the limit. A shorter buffer
-- is unchanged.
pub record Sends (exchange : Exchange) (next : Option Packet) (after : PublisherState) (old new : List ℕ)
    (code size : ℕ) (held : Option Held) : Type 0 where
  pub room : length old < exchange.publisher.limit →
      (code ≡ codes.ROOM) × (size ≡ exchange.publisher.limit) × (new ≡ old) × (held ≡ holding exchange)
  pub absent : exchange.publisher.limit ≤ length old → next ≡ None →
      (code ≡ codes.ABSENT) × (size ≡ 0) × (new ≡ old) × (held ≡ holding exchange)
  pub put : (packet : Packet) → exchange.publisher.limit ≤ length old → next ≡ Some packet →
      (code ≡ codes.DONE) × PutsPacket packet old new size × (held ≡ with_publisher exchange after)

-- If every message was sent in a datagram, the session is closed. Otherwise the number of unsent messages is returned.
pub record Closes (exchange : Exchange) (code number : ℕ) (held : Option Held) : Type 0 where
  pub done : exchange.publisher.sent ≡ length exchange.publisher.journal.messages →
      (code ≡ codes.DONE) × (number ≡ 0) × (held ≡ with_publisher exchange (closed exchange.publisher))
  pub unsent : exchange.publisher.sent < length exchange.publisher.journal.messages →
      (code ≡ codes.UNSENT) × (number ≡ length exchange.publisher.journal.messages - exchange.publisher.sent)
      × (held ≡ holding exchange)

-- The journal's file is written to a buffer that has room for it. Its length is written even if there is no room.
pub record Saves (journal : JournalState) (old new : List ℕ) (code size : ℕ) : Type 0 where
  pub sized : size ≡ file_length journal.messages
  pub room : length old < file_length journal.messages → (code ≡ codes.ROOM) × (new ≡ old)
  pub put : file_length journal.messages ≤ length old →
      (code ≡ codes.DONE) × PutsFile old new journal.session journal.messages journal.closed size

-- A publisher without a server gets one, unless an allocation failed. A publisher that has a server keeps it.
pub record GivesServer (exchange : Exchange) (burst code : ℕ) (held : Option Held) : Type 0 where
  pub had : is_some exchange.server ≡ true → (code ≡ codes.BROKEN) × (held ≡ holding exchange)
  pub burst_fault : exchange.server ≡ None → (IsBurst burst → ⊥) → (code ≡ codes.BURST) × (held ≡ holding exchange)
  pub given : exchange.server ≡ None → IsBurst burst →
      ((code ≡ codes.DONE) × (held ≡ with_server exchange (server_beside exchange.publisher burst)))
      ⊎ ((code ≡ codes.MEMORY) × (held ≡ holding exchange))
