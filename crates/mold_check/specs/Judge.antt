-- What a judge of datagrams finds, and what it prints.
use Rattle.std.specs.Prelude.{◌≡◌, ℕ, Bool, List, Err}
use Rattle.mold_wire.specs.Reading.{reading}
use Rattle.mold_wire.specs.declared.error.DecodeError.{DecodeError}

-- A judge with the states `S`, to which datagrams are added one by one, each with a number. The first argument of each
-- text names a datagram by its number.
pub record Judging (S : Type 0) : Type 0 where
  -- before the first datagram
  pub begins : S
  -- after one more datagram, which has this number
  pub added : S → ℕ → List ℕ → S
  -- whether no later datagram changes what is printed
  pub decided : S → Bool
  -- what is printed after the last datagram
  pub text : (ℕ → List ℕ) → S → List ℕ
  -- what is printed of these datagrams if the input after them is refused
  pub early : (ℕ → List ℕ) → S → List ℕ
  -- the exit status after the last datagram
  pub status : S → ℕ
  -- whether `whole` is printed of a session
  pub whole : S → Bool

-- A datagram that does not encode a packet is judged by its fault alone.
abbrev pub JudgesByFault : {S : Type 0} → Judging S → Type 0
JudgesByFault {S} judging =
    (s : S) (number : ℕ) (one other : List ℕ) (fault : DecodeError) →
    reading one ≡ Err fault → reading other ≡ Err fault → judging.added s number one ≡ judging.added s number other
