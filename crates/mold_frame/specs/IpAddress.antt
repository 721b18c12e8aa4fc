-- Addresses, and their bytes.
use Rattle.std.specs.Prelude.{ℕ, ◌==◌, List, length, if◌then◌else◌}
use Rattle.mold_frame.specs.declared.ip_address.IpAddress.{IpAddress}
use Rattle.mold_frame.specs.declared.ip_address.IpAddress.TheVariants.{V4, V6}

-- The bytes of an address, in the order of a packet.
abbrev pub address_bytes : IpAddress → List ℕ
address_bytes (V4 bytes) = bytes
address_bytes (V6 bytes) = bytes

-- The address that has these 4 or 16 bytes.
abbrev pub ip_address : List ℕ → IpAddress
ip_address bytes = if length bytes == 4 then V4 bytes else V6 bytes
