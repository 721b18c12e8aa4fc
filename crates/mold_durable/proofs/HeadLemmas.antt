-- The head of a storage, and what a crash leaves while it is written.
use Rattle.std.proofs.Common.{◌≡◌, ◌⊎◌, inl, inr, ℕ, ◌+◌, ◌≤◌, ◌<◌, eqb, Bool, true, false, List, [], ◌∷◌, ◌++◌, length}
use Rattle.std.proofs.Common.{take, drop, get_or, refl, sym, ap, subst, ◌∙◌, append_assoc, arith, length-append, take-append-drop}
use Rattle.std.proofs.lemmas.List.{take_at, append-nil}
use Rattle.std.proofs.lemmas.Bool.{true≢false}
use Rattle.std.specs.Cmp.Lexicographic.{pointwise, bytes_decides}
use Rattle.mold_wire.specs.declared.session.Session.{Session}
use Rattle.mold_durable.specs.Head.{SpellsNone, IsNoneOrEmpty}
use Rattle.mold_session.specs.Records.{magic_3, head_3, records, SpellsJournal3}
use Rattle.mold_durable.specs.Storage.{Holds, IsWritten, MayTear}

pub length-magic_3 : length magic_3 ≡ 8
unfolding magic_3
length-magic_3 = refl

pub length-head_3 : (session : List ℕ) → length session ≡ 10 → length (head_3 session) ≡ 18
length-head_3 session ten = omega (arith, length-append magic_3 session, length-magic_3)

first_of_magic : get_or magic_3 0 0 ≡ 77
unfolding magic_3
first_of_magic = refl

-- Eight zeros.
abbrev pub zeros : List ℕ
zeros = 0 ∷ 0 ∷ 0 ∷ 0 ∷ 0 ∷ 0 ∷ 0 ∷ 0 ∷ []

-- A journal begins with the magic bytes.
pub file_magic :
    (session : Session) (messages : List (List ℕ)) (closed : Bool) (bytes : List ℕ) →
    SpellsJournal3 session messages closed bytes → take 8 bytes ≡ magic_3
file_magic session messages closed bytes file =
    ap (take 8) (file.spelled ∙ append_assoc magic_3 session.0 (records messages ++ file.rest))
    ∙ take_at magic_3 (session.0 ++ (records messages ++ file.rest)) 8 length-magic_3

-- And it has at least 18 bytes.
pub file_long :
    (session : Session) (messages : List (List ℕ)) (closed : Bool) (bytes : List ℕ) →
    SpellsJournal3 session messages closed bytes → 18 ≤ length bytes
file_long session messages closed bytes file =
    omega (
      arith,
      ap (λ (t : List ℕ). length t) file.spelled,
      length-append (head_3 session.0) (records messages ++ file.rest),
      length-head_3 session.0 file.named,
    )

pub none_short : (bytes : List ℕ) → length bytes < 18 → SpellsNone bytes
none_short bytes short = λ session messages closed file. absurd (omega (arith, short, file_long session messages closed bytes file))

none_other : (bytes : List ℕ) → (take 8 bytes ≡ magic_3 → ⊥) → SpellsNone bytes
none_other bytes other = λ session messages closed file. other (file_magic session messages closed bytes file)

none_zeros : (bytes : List ℕ) → take 8 bytes ≡ zeros → SpellsNone bytes
none_zeros bytes same =
    none_other bytes (λ is.
    absurd (omega (arith, first_of_magic, ap (λ (t : List ℕ). get_or t 0 0) (sym same ∙ is))))

-- The first write, of zeros over no bytes.
pub first_written : (old new : List ℕ) → old ≡ [] → IsWritten 0 zeros old new → new ≡ zeros
first_written old new none written =
    subst (λ (t : List ℕ). Holds 0 zeros t new) none (written (omega arith))

pub first_torn : (old new : List ℕ) → old ≡ [] → MayTear 0 8 old new → SpellsNone new
first_torn old new none tear =
    let torn = tear (omega arith) in
    none_short new (omega (arith, torn.no_longer, ap (λ (t : List ℕ). length t) none))

-- The second write, of the session's name and a gate after the zeros.
pub second_written :
    (name old new : List ℕ) → old ≡ zeros → IsWritten 8 name old new → 11 ≡ length name → new ≡ zeros ++ name
second_written name old new is written eleven =
    let long = ap (λ (t : List ℕ). length t) is in
    let holds = subst (λ (t : List ℕ). Holds 8 name t new) is (written (omega (arith, long))) in
    holds ∙ ap (λ (n : ℕ). zeros ++ (name ++ drop (8 + n) zeros)) (sym eleven) ∙ ap (λ (t : List ℕ). zeros ++ t) (append-nil name)

pub second_torn : (count : ℕ) (old new : List ℕ) → old ≡ zeros → MayTear 8 count old new → SpellsNone new
second_torn count old new is tear =
    let torn = tear (omega (arith, ap (λ (t : List ℕ). length t) is)) in
    none_zeros new (torn.before ∙ ap (take 8) is)

-- The third write, of the magic bytes over the zeros.
pub third_written :
    (name old new : List ℕ) → old ≡ zeros ++ name → IsWritten 0 magic_3 old new → new ≡ magic_3 ++ name
third_written name old new is written =
    let holds = subst (λ (t : List ℕ). Holds 0 magic_3 t new) is (written (omega arith)) in
    let eight : 0 + length magic_3 ≡ 8 = omega (arith, length-magic_3) in
    holds ∙ ap (λ (n : ℕ). magic_3 ++ drop n (zeros ++ name)) eight

empty_file :
    (session : Session) (bytes : List ℕ) → length session.0 ≡ 10 → bytes ≡ magic_3 ++ (session.0 ++ 0 ∷ []) →
    SpellsJournal3 session [] false bytes
empty_file session bytes named is = record {
  named = named;
  listed = record { few = omega arith; each = tt };
  rest = 0 ∷ [];
  spelled = is ∙ sym (append_assoc magic_3 session.0 (0 ∷ []));
  ends = record { gate = 0; rest = []; shut = λ zero. cc; parts = refl };
}

pub third_file :
    (session : Session) (old new : List ℕ) → length session.0 ≡ 10 → old ≡ zeros ++ (session.0 ++ 0 ∷ []) →
    IsWritten 0 magic_3 old new → SpellsJournal3 session [] false new
third_file session old new named is written =
    empty_file session new named (third_written (session.0 ++ 0 ∷ []) old new is written)

same_or_not : (one other : List ℕ) (r : Bool) → pointwise eqb one other ≡ r → (one ≡ other) ⊎ (one ≡ other → ⊥)
same_or_not one other true is = inl ((bytes_decides one other).0 is)
same_or_not one other false is = inr (λ same. absurd (true≢false (sym ((bytes_decides one other).1 same) ∙ is)))

pub third_torn :
    (session : Session) (old new : List ℕ) → length session.0 ≡ 10 → old ≡ zeros ++ (session.0 ++ 0 ∷ []) →
    MayTear 0 8 old new → IsNoneOrEmpty session new
third_torn session old new named is tear =
    let torn = tear (omega arith) in
    let rest : drop 8 new ≡ session.0 ++ 0 ∷ [] = torn.after ∙ ap (drop 8) is in
    elim (same_or_not (take 8 new) magic_3 (pointwise eqb (take 8 new) magic_3) refl) [
      | inl same ↦ inr (empty_file session new named (
          sym (take-append-drop 8 new)
          ∙ ap (λ (t : List ℕ). t ++ drop 8 new) same
          ∙ ap (λ (t : List ℕ). magic_3 ++ t) rest
          ))
      | inr differs ↦ inl (none_other new differs)
    ]
