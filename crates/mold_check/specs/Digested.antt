-- What a judge of digested datagrams finds and prints.
use Rattle.std.specs.Prelude.{ℕ, List, [], map}
use Rattle.mold_digest.specs.Digested.{digested}
use Rattle.mold_check.specs.Judge.{Judging}

-- The key of the digests, and the state of the judge that the digested datagrams are added to.
pub record DigestedState (S : Type 0) : Type 0 where
  pub key : List ℕ
  pub judge : S

-- The state before the first datagram, under this key.
abbrev pub digested_beginning : {S : Type 0} → List ℕ → Judging S → DigestedState S
digested_beginning key judging = record { key = key; judge = judging.begins }

-- What is found and printed of the digested datagrams. The key is given when the judge is made, so `begins`, which has
-- no key, is not the state of any such judge.
abbrev pub digested_judging : {S : Type 0} → Judging S → Judging (DigestedState S)
digested_judging judging = record {
  begins = digested_beginning [] judging;
  added = λ s number bytes. record { key = s.key; judge = judging.added s.judge number (digested s.key bytes) };
  decided = λ s. judging.decided s.judge;
  text = λ names s. judging.text names s.judge;
  early = λ names s. judging.early names s.judge;
  status = λ s. judging.status s.judge;
  whole = λ s. judging.whole s.judge;
}

-- The digested datagrams, each with its number.
abbrev pub digested_numbered : List ℕ → List (ℕ × List ℕ) → List (ℕ × List ℕ)
digested_numbered key list = map (λ datagram. (datagram.0, digested key datagram.1)) list
