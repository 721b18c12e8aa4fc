-- What a write after a gate, and the write that opens it, leave of the bytes.
use Rattle.std.proofs.Common.{◌≡◌, ◌⊎◌, inl, inr, ℕ, ◌+◌, ◌≤◌, List, [], ◌∷◌, ◌++◌, length, take, drop, get_or}
use Rattle.std.proofs.Common.{refl, sym, ap, ◌∙◌, append_assoc, arith, length-append, take-append-drop}
use Rattle.std.proofs.lemmas.List.{take_at, drop_at, drop_more}
use Rattle.std.proofs.lemmas.Bool.{cases_eq}
use Rattle.mold_durable.specs.Gate.{IsShutAfter, BeginsWith, IsStaged}
use Rattle.mold_durable.specs.Storage.{IsWritten, MayTear}

module _ (prefix : List ℕ) (gate : ℕ) (ends : length prefix ≡ gate) where
  shut_long : (bytes : List ℕ) → IsShutAfter prefix bytes → gate + 1 ≤ length bytes
  shut_long bytes shut =
      omega (
        arith,
        ends,
        ap (λ (t : List ℕ). length t) (shut.parts ∙ ap (λ (t : List ℕ). prefix ++ t) shut.shut.parts),
        length-append prefix (shut.shut.gate ∷ shut.shut.rest),
      )

  -- The bytes up to the shut gate.
  shut_front : (bytes : List ℕ) (shut : IsShutAfter prefix bytes) → take (gate + 1) bytes ≡ prefix ++ shut.shut.gate ∷ []
  shut_front bytes shut =
      let split : bytes ≡ (prefix ++ shut.shut.gate ∷ []) ++ shut.shut.rest =
      shut.parts
      ∙ ap (λ (t : List ℕ). prefix ++ t) shut.shut.parts
      ∙ sym (append_assoc prefix (shut.shut.gate ∷ []) shut.shut.rest)
      in
      ap (take (gate + 1)) split
      ∙ take_at (prefix ++ shut.shut.gate ∷ []) shut.shut.rest (gate + 1)
      (omega (arith, ends, length-append prefix (shut.shut.gate ∷ [])))

  -- The gate stays shut in each outcome of a write after it.
  pub torn_after :
      (count : ℕ) (old new : List ℕ) → IsShutAfter prefix old → MayTear (gate + 1) count old new →
      IsShutAfter prefix new
  torn_after count old new shut tear =
      let torn = tear (shut_long old shut) in
      let front : take (gate + 1) new ≡ prefix ++ shut.shut.gate ∷ [] = torn.before ∙ shut_front old shut in
      record {
        rest = shut.shut.gate ∷ drop (gate + 1) new;
        parts =
            sym (take-append-drop (gate + 1) new)
            ∙ ap (λ (t : List ℕ). t ++ drop (gate + 1) new) front
            ∙ append_assoc prefix (shut.shut.gate ∷ []) (drop (gate + 1) new);
        shut = record { gate = shut.shut.gate; rest = drop (gate + 1) new; shut = shut.shut.shut; parts = refl };
      }

  pub written_after :
      (text old new : List ℕ) → IsShutAfter prefix old → IsWritten (gate + 1) text old new →
      IsStaged prefix text new
  written_after text old new shut written =
      let behind = drop (gate + 1 + length text) old in
      record {
        gate = shut.shut.gate;
        rest = behind;
        shut = shut.shut.shut;
        parts =
            written (shut_long old shut)
            ∙ ap (λ (t : List ℕ). t ++ (text ++ behind)) (shut_front old shut)
            ∙ append_assoc prefix (shut.shut.gate ∷ []) (text ++ behind);
      }

  staged_front : (text bytes : List ℕ) (staged : IsStaged prefix text bytes) → take gate bytes ≡ prefix
  staged_front text bytes staged =
      ap (take gate) staged.parts ∙ take_at prefix (staged.gate ∷ (text ++ staged.rest)) gate ends

  staged_rest :
      (text bytes : List ℕ) (staged : IsStaged prefix text bytes) → drop (gate + 1) bytes ≡ text ++ staged.rest
  staged_rest text bytes staged =
      ap (drop (gate + 1)) (staged.parts ∙ sym (append_assoc prefix (staged.gate ∷ []) (text ++ staged.rest)))
      ∙ drop_at (prefix ++ staged.gate ∷ []) (text ++ staged.rest) (gate + 1)
      (omega (arith, ends, length-append prefix (staged.gate ∷ [])))

  staged_long : (text bytes : List ℕ) → IsStaged prefix text bytes → gate + 1 ≤ length bytes
  staged_long text bytes staged =
      omega (
        arith,
        ends,
        ap (λ (t : List ℕ). length t) staged.parts,
        length-append prefix (staged.gate ∷ (text ++ staged.rest)),
      )

  -- The text is whole in each outcome of the write that opens the gate.
  pub torn_gate :
      (text old new : List ℕ) → IsStaged prefix text old → MayTear gate 1 old new →
      IsShutAfter prefix new ⊎ BeginsWith (prefix ++ 1 ∷ text) new
  torn_gate text old new staged tear =
      let long = staged_long text old staged in
      let torn = tear (omega (arith, long)) in
      let value = get_or new gate 0 in
      let rest : drop gate new ≡ value ∷ (text ++ staged.rest) =
      drop_more new gate 0 (omega (arith, long, torn.no_shorter))
      ∙ ap (λ (t : List ℕ). value ∷ t) (torn.after ∙ staged_rest text old staged)
      in
      let whole : new ≡ prefix ++ value ∷ (text ++ staged.rest) =
      sym (take-append-drop gate new)
      ∙ ap (λ (t : List ℕ). t ++ drop gate new) (torn.before ∙ staged_front text old staged)
      ∙ ap (λ (t : List ℕ). prefix ++ t) rest
      in
      elim (cases_eq value 1) [
        | inl is_open ↦ inr (record {
          rest = staged.rest;
          parts =
              whole
              ∙ ap (λ (v : ℕ). prefix ++ v ∷ (text ++ staged.rest)) is_open
              ∙ sym (append_assoc prefix (1 ∷ text) staged.rest);
        })
        | inr is_shut ↦ inl (record {
          rest = value ∷ (text ++ staged.rest);
          parts = whole;
          shut = record { gate = value; rest = text ++ staged.rest; shut = is_shut; parts = refl };
        })
      ]

  pub written_gate :
      (text old new : List ℕ) → IsStaged prefix text old → IsWritten gate (1 ∷ []) old new →
      BeginsWith (prefix ++ 1 ∷ text) new
  written_gate text old new staged written = record {
    rest = staged.rest;
    parts =
        written (omega (arith, staged_long text old staged))
        ∙ ap (λ (t : List ℕ). t ++ (1 ∷ drop (gate + 1) old)) (staged_front text old staged)
        ∙ ap (λ (t : List ℕ). prefix ++ 1 ∷ t) (staged_rest text old staged)
        ∙ sym (append_assoc prefix (1 ∷ text) staged.rest);
  }
