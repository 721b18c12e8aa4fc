-- Which datagrams pass the filters, and what a frame counts as.
use Rattle.std.specs.Prelude.{ℕ, ◌==◌, ◌||◌, ◌&&◌, Bool, true, List, length, nat_eq, Option, None, Some, if◌then◌else◌}
use Rattle.std.specs.List.{list_any, starts_with}
use Rattle.std.specs.Str.{bytes_eq}
use Rattle.mold_frame.specs.Carried.{Carried, Datagram, Target, Whole, Fragment, Cut, Other}
use Rattle.mold_frame.specs.Carried.{Unread as UnreadLink}
use Rattle.mold_frame.specs.IpAddress.{address_bytes}
use Rattle.mold_frame.specs.Lent.{lent_datagram}
use Rattle.mold_frame.specs.declared.ip_address.IpAddress.{IpAddress}
use Rattle.mold_wire.specs.declared.session.Session.{Session}
use Rattle.mold_capture_commands.specs.declared.filter.CaptureFilter.{CaptureFilter}
use Rattle.mold_capture_commands.specs.declared.found.Found.{Found as LentFound}
use Rattle.mold_capture_commands.specs.declared.found.Found.TheVariants.{Passed as LentPassed, Skipped as LentSkipped}
use Rattle.mold_capture_commands.specs.declared.found.Found.TheVariants.{Partial as LentPartial, Unread as LentUnread}

-- The port is one of these, or there are none.
abbrev pub passes_port : List ℕ → ℕ → Bool
passes_port ports port = length ports == 0 || list_any (λ p. p == port) ports

-- The address is one of these, or there are none.
abbrev pub passes_group : List IpAddress → List ℕ → Bool
passes_group groups address =
    length groups == 0 || list_any (λ group. bytes_eq (address_bytes group) address) groups

-- The payload begins with the name of the session, if there is one.
abbrev pub passes_session : Option Session → List ℕ → Bool
passes_session None payload = true
passes_session (Some session) payload = starts_with nat_eq payload session.0

-- A port that may be unknown passes.
abbrev pub may_pass_port : List ℕ → Option ℕ → Bool
may_pass_port ports None = true
may_pass_port ports (Some port) = passes_port ports port

-- A destination passes. Its port may be unknown.
unfoldable pub passes_target : CaptureFilter → Option ℕ → List ℕ → Bool
passes_target filter port address =
    may_pass_port filter.ports.items port && passes_group filter.groups.items address

-- The datagram passes all filters.
unfoldable pub passes : CaptureFilter → Datagram → Bool
passes filter datagram =
    passes_target filter (Some datagram.target_port) datagram.target
    && passes_session filter.session datagram.payload

-- What a frame counts as: a datagram that passes, another packet, a part of a datagram that would pass, or a frame of a
-- link type that is not read.
pub data Found : Type 0 where
  Passed : (datagram : Datagram) → Found
  Skipped : Found
  Partial : Found
  Unread : Found

-- What a frame with a part of a datagram counts as.
abbrev pub found_part : CaptureFilter → Target → Found
found_part filter target = if passes_target filter target.port target.address then Partial else Skipped

-- What a frame counts as that carries this.
abbrev pub found : CaptureFilter → Carried → Found
found filter (Whole datagram) = if passes filter datagram then Passed datagram else Skipped
found filter (Fragment target) = found_part filter target
found filter (Cut target) = found_part filter target
found filter Other = Skipped
found filter UnreadLink = Unread

-- The same with lists of bytes in place of slices.
abbrev pub lent_found : LentFound → Found
lent_found (LentPassed datagram) = Passed (lent_datagram datagram)
lent_found LentSkipped = Skipped
lent_found LentPartial = Partial
lent_found LentUnread = Unread
