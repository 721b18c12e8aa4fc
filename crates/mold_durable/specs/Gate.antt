-- Bytes that a gate ends. What follows a shut gate does not count.
use Rattle.std.specs.Prelude.{◌≡◌, ℕ, List, ◌∷◌, ◌++◌}
use Rattle.mold_session.specs.Records.{IsShut}

-- The bytes are this prefix and then a shut gate. Any bytes may follow it.
pub record IsShutAfter (prefix bytes : List ℕ) : Type 0 where
  pub rest : List ℕ
  pub parts : bytes ≡ prefix ++ rest
  pub shut : IsShut rest

-- The bytes begin with this prefix.
pub record BeginsWith (prefix bytes : List ℕ) : Type 0 where
  pub rest : List ℕ
  pub parts : bytes ≡ prefix ++ rest

-- The bytes are this prefix, then a shut gate, and then the text. Any bytes may follow it.
pub record IsStaged (prefix text bytes : List ℕ) : Type 0 where
  pub gate : ℕ
  pub rest : List ℕ
  pub shut : gate ≡ 1 → ⊥
  pub parts : bytes ≡ prefix ++ gate ∷ (text ++ rest)
