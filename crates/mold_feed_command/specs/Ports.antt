-- The sockets of the command.
use Rattle.std.specs.Prelude.{ℕ, Option, None, Some, List, [], ◌∷◌, codes}
use Rattle.std.specs.Net.Text.{socket_v4_text}
use Rattle.std.specs.declared.net.socket_addr.SocketAddrV4.{SocketAddrV4}
use Rattle.mold_text.specs.Line.{line_of}
use Rattle.mold_wiring.specs.Addresses.{IsSocketOf}
use Rattle.mold_words.specs.declared.address.Address.{Address}

-- The state of the sockets that lines are sent from. Contracts do not know what they send.
pub record SocketsState : Type 0 where
  -- the time of the last wait, in nanoseconds since the sockets were opened
  pub time : ℕ
  -- the count of failed waits and sends
  pub failures : ℕ

-- The state of a port that receives requests. Contracts do not know what it receives and sends.
pub record RequestPortState : Type 0 where
  -- the count of failed receives and sends
  pub failures : ℕ

-- There is a second line in the order and in the options, with the same address, or in neither.
abbrev pub IsSecondLine : Option Address → Option SocketAddrV4 → Type 0
IsSecondLine None None = Unit {0}
IsSecondLine (Some address) (Some socket) = IsSocketOf address socket
IsSecondLine _ _ = ⊥

-- The line for a failed send to this address. `reason` is the C library's text for the error.
abbrev pub failed_line : SocketAddrV4 → List ℕ → List ℕ
failed_line to reason = line_of (codes "failed" ∷ socket_v4_text to ∷ reason ∷ [])
