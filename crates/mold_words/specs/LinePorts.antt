-- Defines the ports of lines that command-line arguments give.
use Rattle.std.specs.Prelude.{ℕ, ◌&&◌, List, Bool, codes, if◌then◌else◌, not, Option, None, Some}
use Rattle.std.specs.List.{slice_index}
use Rattle.std.specs.Option.{option_and_then}
use Rattle.std.specs.Str.{bytes_eq}
use Rattle.clap.specs.Words.{Text}
use Rattle.mold_words.specs.Addresses.{HostPort, address_of, address_view, cut_at, is_plain}
use Rattle.mold_words.specs.Values.{is_within, number_of}
use Rattle.mold_words.specs.declared.line_port.LinePort.{LinePort}
use Rattle.mold_words.specs.declared.line_port.LinePort.TheVariants.{Address, Descriptor}
use Rattle.mold_words.specs.declared.line_ports.TheConstants.{MAX_DESCRIPTOR, MIN_DESCRIPTOR}

-- The model of the port of a line: its address, or the descriptor of an open socket.
pub data Port : Type 0 where
  bound_to : HostPort → Port
  opened_as : ℕ → Port

-- The model of a port as the program holds it.
abbrev pub line_port_view : LinePort → Port
line_port_view (Address address) = bound_to (address_view address)
line_port_view (Descriptor number) = opened_as number

-- Whether these four numbers are a multicast group: the first one is 224 to 239.
abbrev pub is_group : List ℕ → Bool
is_group host = is_within 224 239 (slice_index host 0)

-- The port is an address that is not a multicast group, or a descriptor from 3 to 1,023.
abbrev pub is_line_port : LinePort → Bool
is_line_port (Address address) = not (is_group address.host)
is_line_port (Descriptor number) = is_within MIN_DESCRIPTOR MAX_DESCRIPTOR number

-- The descriptor that a text such as fd:3 gives.
unfoldable pub descriptor_of : Text → Option ℕ
descriptor_of text =
    option_and_then
    (λ parts. if bytes_eq parts.0 (codes "fd") && is_plain parts.1
    then number_of MIN_DESCRIPTOR MAX_DESCRIPTOR parts.1
    else None)
    (cut_at 58 text)

-- The address that a text gives, if it is not a multicast group.
unfoldable pub line_address_of : Text → Option HostPort
line_address_of text =
    option_and_then (λ address. if is_group address.0 then None else Some address) (address_of text)

-- The port of a descriptor if there is one, and otherwise of an address if there is one.
abbrev pub port_of_either : Option ℕ → Option HostPort → Option Port
port_of_either (Some number) address = Some (opened_as number)
port_of_either None None = None
port_of_either None (Some address) = Some (bound_to address)

-- The port that a text gives: a descriptor such as fd:3, or an address that is not a multicast group.
unfoldable pub line_port_of : Text → Option Port
line_port_of text = port_of_either (descriptor_of text) (line_address_of text)
