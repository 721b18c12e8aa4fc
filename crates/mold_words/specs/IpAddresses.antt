-- Defines the addresses of IPv4 and IPv6 that command-line arguments give.
use Rattle.std.specs.Prelude.{ℕ, List, Option, option_map}
use Rattle.std.specs.Net.Addr.{octets_of}
use Rattle.std.specs.Net.Reader.{read_ipv6, whole_value}
use Rattle.std.specs.Option.{option_or}
use Rattle.clap.specs.Words.{Text}
use Rattle.mold_frame.specs.declared.ip_address.IpAddress.{IpAddress}
use Rattle.mold_frame.specs.declared.ip_address.IpAddress.TheVariants.{V4, V6}
use Rattle.mold_words.specs.Addresses.{host_of}

-- The 16 bytes of the IPv6 address that a text writes. `ipv6_text_law` gives them by the grammar of such texts.
unfoldable pub ipv6_of : Text → Option (List ℕ)
ipv6_of text = option_map octets_of (whole_value (read_ipv6 text))

-- The IPv4 or IPv6 address that a text writes.
unfoldable pub ip_of : Text → Option IpAddress
ip_of text = option_or (option_map V4 (host_of text)) (option_map V6 (ipv6_of text))
