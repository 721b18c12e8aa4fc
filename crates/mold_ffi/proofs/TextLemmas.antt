-- Each text of a code ends in its only zero byte.
use Rattle.std.proofs.Common.{◌≡◌, ℕ, zero, suc, ◌+◌, ◌-◌, Bool, true, false, ◌&&◌, List, [], ◌∷◌, ◌++◌, length, get_or, refl, sym, ap, subst, arith}
use Rattle.std.specs.Ffi.{HasNoNul, IsNulTerminated}
use Rattle.std.proofs.lemmas.Bool.{and_parts, true≢false}
use Rattle.std.proofs.lemmas.List.{get_or_at, length_push, take_at}
use Rattle.mold_ffi.specs.Code.Text.{texts, terminated_text_of}
use Rattle.mold_ffi.specs.declared.code.texts.TheConstants.{UNKNOWN}

-- Whether the last byte is zero, and no other is.
ends : List ℕ → Bool
ends [] = false
ends (zero ∷ []) = true
ends (zero ∷ byte ∷ bytes) = false
ends (suc byte ∷ bytes) = ends bytes

all_end : List (List ℕ) → Bool
all_end [] = true
all_end (text ∷ others) = ends text && all_end others

more : (byte : ℕ) (bytes : List ℕ) → HasNoNul bytes → HasNoNul (suc byte ∷ bytes)
more byte bytes none zero inside is = omega (arith, is)
more byte bytes none (suc i) inside is = none i (omega (arith, inside)) is

-- The bytes before the zero byte.
before : (bytes : List ℕ) → ends bytes ≡ true → (text : List ℕ) × (bytes ≡ text ++ 0 ∷ []) × HasNoNul text
unfolding ends
before [] is = absurd (true≢false (sym is))
before (zero ∷ []) is = ([], refl, λ i inside none. omega (arith, inside))
before (zero ∷ byte ∷ bytes) is = absurd (true≢false (sym is))
before (suc byte ∷ bytes) is =
    let rest : (text : List ℕ) × (bytes ≡ text ++ 0 ∷ []) × HasNoNul text = before bytes is in
    let whole : suc byte ∷ bytes ≡ (suc byte ∷ rest.0) ++ 0 ∷ [] = ap (λ (it : List ℕ). suc byte ∷ it) rest.1 in
    (suc byte ∷ rest.0, whole, more byte rest.0 rest.2)

pushed : (text : List ℕ) → HasNoNul text → IsNulTerminated (text ++ 0 ∷ [])
pushed text none =
    let len : length (text ++ 0 ∷ []) ≡ length text + 1 = length_push text 0 in
    let at : length text ≡ length (text ++ 0 ∷ []) - 1 = omega arith in
    record { nonempty = omega arith; last = get_or_at text 0 [] 0 _ at; no_nul = subst HasNoNul (sym (take_at text (0 ∷ []) _ at)) none }

found : (all : List (List ℕ)) (other : List ℕ) → all_end all ≡ true → ends other ≡ true → (n : ℕ) → ends (get_or all n other) ≡ true
unfolding all_end
found [] other all end zero = end
found [] other all end (suc n) = end
found (text ∷ others) other all end zero = (and_parts (ends text) (all_end others) all).0
found (text ∷ others) other all end (suc n) = found others other (and_parts (ends text) (all_end others) all).1 end n

-- The text of any number ends in its only zero byte.
pub terminated_text_ends : (code : ℕ) → IsNulTerminated (terminated_text_of code)
unfolding ends all_end
terminated_text_ends code =
    let text = before (terminated_text_of code) (found texts UNKNOWN.now refl refl code) in
    subst IsNulTerminated (sym text.1) (pushed text.0 text.2)
