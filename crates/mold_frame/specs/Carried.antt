-- What a captured frame carries. Addresses and payloads are lists of bytes.
use Rattle.std.specs.Prelude.{ℕ, List, Option}

-- A UDP datagram.
pub record Datagram : Type 0 where
  pub source : List ℕ
  pub source_port : ℕ
  pub target : List ℕ
  pub target_port : ℕ
  pub payload : List ℕ

-- The destination of a datagram that is not whole in its frame.
pub record Target : Type 0 where
  pub address : List ℕ
  pub port : Option ℕ

-- A whole datagram, a fragment, a datagram that was cut short, another packet, or a link type that is not read.
pub data Carried : Type 0 where
  Whole : (datagram : Datagram) → Carried
  Fragment : (target : Target) → Carried
  Cut : (target : Target) → Carried
  Other : Carried
  Unread : Carried
