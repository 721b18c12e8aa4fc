-- Which addresses a frame carries.
use Rattle.std.specs.Prelude.{◌≡◌, List, ℕ, length, ⊤, ◌⊎◌}
use Rattle.mold_frame.specs.Carried.{Carried, Whole, Fragment, Cut, Other, Unread}

-- An address of IPv4 or of IPv6.
abbrev pub IsAddress : List ℕ → Type 0
IsAddress address = (length address ≡ 4) ⊎ (length address ≡ 16)

-- The addresses are of IPv4 or of IPv6, and those of a datagram are of one version.
abbrev pub HasAddresses : Carried → Type 0
HasAddresses (Whole datagram) = IsAddress datagram.source × (length datagram.target ≡ length datagram.source)
HasAddresses (Fragment target) = IsAddress target.address
HasAddresses (Cut target) = IsAddress target.address
HasAddresses Other = ⊤
HasAddresses Unread = ⊤
