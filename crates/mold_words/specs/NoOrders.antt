-- Defines facts about the reasons why accepted arguments give no order.
use Rattle.std.specs.Prelude.{◌≡◌, ◌⊎◌, Bool, true, false, Option, None}
use Rattle.mold_words.specs.declared.no_order.NoOrder.{NoOrder}
use Rattle.mold_words.specs.declared.no_order.NoOrder.TheVariants.{Address, Group, Host, Ip, LinePort, Memory}

-- Whether the reason is an invalid address.
abbrev pub is_address : NoOrder → Bool
is_address (Address name) = true
is_address (LinePort name) = true
is_address (Group name) = true
is_address (Host name) = true
is_address (Ip name) = true
is_address _ = false

-- The options do not give this value, and the reason is not an invalid address.
abbrev pub LacksValue : {A : Type 0} → Option A → NoOrder → Type 0
LacksValue found none = (found ≡ None) × (is_address none ≡ false)

-- The options do not give this value and the reason is not an invalid address, or the reason is `Memory`.
abbrev pub LacksOrder : {A : Type 0} → Option A → NoOrder → Type 0
LacksOrder found none = (none ≡ Memory) ⊎ LacksValue found none
