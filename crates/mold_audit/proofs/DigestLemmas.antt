-- The words of a message, and its digest as the code computes it.
use Rattle.std.proofs.Common.{◌≡◌, ℕ, zero, suc, ◌+◌, ◌-◌, ◌*◌, ◌/◌, ◌<◌, ◌≤◌, List, [], ◌∷◌, length, drop, max}
use Rattle.std.proofs.Common.{refl, sym, ap, ◌∙◌, arith, get_or}
use Rattle.std.specs.List.{fold}
use Rattle.std.proofs.lemmas.List.{get_or_past, length-drop}
use Rattle.std.proofs.lemmas.List.Sums.{fold-append}
use Rattle.byteorder.specs.Endian.{little_from, little_number}
use Rattle.mold_audit.specs.Digest.{digest, last_word, stepped, words_at}

-- Past the end of the bytes a number has zeros.
little_past : (i more : ℕ) (bytes : List ℕ) → length bytes ≤ i → little_from i more bytes ≡ 0
little_past i zero bytes past = refl
little_past i (suc more) bytes past =
    omega (arith, get_or_past bytes i 0 past, little_past (suc i) more bytes (omega arith))

-- A number that ends with the bytes is the same with zeros after it.
little_longer :
    (i count more : ℕ) (bytes : List ℕ) → length bytes ≤ i + count →
    little_from i (count + more) bytes ≡ little_from i count bytes
little_longer i zero more bytes past =
    let none : zero + more ≡ more = omega arith in
    ap (λ (n : ℕ). little_from i n bytes) none ∙ little_past i more bytes (omega arith)
little_longer i (suc count) more bytes past =
    let next : suc count + more ≡ suc (count + more) = omega arith in
    ap (λ (n : ℕ). little_from i n bytes) next
    ∙ ap (λ (n : ℕ). get_or bytes i 0 + 256 * n) (little_longer (suc i) count more bytes (omega arith))

pub short_is : (bytes : List ℕ) → length bytes < 8 → little_number (length bytes) bytes ≡ little_number 8 bytes
short_is bytes short =
    let rest : length bytes + (8 - length bytes) ≡ 8 = omega arith in
    sym (little_longer 0 (length bytes) (8 - length bytes) bytes (omega arith))
    ∙ ap (λ (n : ℕ). little_number n bytes) rest

-- The words of more than eight bytes begin with the first eight bytes.
words_more :
    (bytes : List ℕ) → 8 < length bytes →
    words_at ((length bytes - 1) / 8) bytes
    ≡ little_number 8 bytes ∷ words_at ((length (drop 8 bytes) - 1) / 8) (drop 8 bytes)
words_more bytes long =
    let count : (length bytes - 1) / 8 ≡ suc ((length (drop 8 bytes) - 1) / 8) =
    omega (arith, length-drop 8 bytes) in
    ap (λ (n : ℕ). words_at n bytes) count

-- A step for the first word of the bytes. `sum` is what the steps of all their words come to.
pub fold_more :
    (state sum : ℕ) (bytes : List ℕ) → 8 < length bytes →
    fold stepped state (words_at ((length bytes - 1) / 8) bytes) ≡ sum →
    fold stepped (stepped state (little_number 8 bytes))
    (words_at ((length (drop 8 bytes) - 1) / 8) (drop 8 bytes)) ≡ sum
fold_more state sum bytes long is =
    sym (ap (λ (ws : List ℕ). fold stepped state ws) (words_more bytes long)) ∙ is

-- The step of the last word ends the digest.
pub digest_ends :
    (state : ℕ) (message bytes : List ℕ) → length bytes ≤ 8 →
    fold stepped state (words_at ((length bytes - 1) / 8) bytes)
    ≡ fold stepped (length message) (words_at ((length message - 1) / 8) message) →
    max (stepped state (last_word message)) 1 ≡ digest message
unfolding digest
digest_ends state message bytes short is =
    let none : (length bytes - 1) / 8 ≡ zero = omega arith in
    let last = last_word message in
    let all : List ℕ = words_at ((length message - 1) / 8) message in
    let same : state ≡ fold stepped (length message) all =
    ap (λ (n : ℕ). fold stepped state (words_at n bytes)) (sym none) ∙ is in
    ap (λ (n : ℕ). max (stepped n last) 1) same
    ∙ ap (λ (n : ℕ). max n 1) (sym (fold-append stepped (length message) all (last ∷ [])))

pub digest_some : (message : List ℕ) → 0 < digest message
unfolding digest
digest_some message = omega arith
