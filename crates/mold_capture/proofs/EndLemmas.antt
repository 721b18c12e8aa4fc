-- The ends of messages, of which the first have the same length.
use Rattle.std.proofs.Common.{◌≡◌, ℕ, zero, suc, ◌+◌, ◌-◌, ◌*◌, ◌<◌, ◌≤◌, List, [], ◌∷◌, ◌++◌, length, length-append, take, get_or}
use Rattle.std.proofs.Common.{refl, sym, ap, ◌∙◌, append-nil, append_assoc, arith}
use Rattle.std.proofs.lemmas.List.{get_or_append_left, get_or-append_right, take-append-le}
use Rattle.std.proofs.lemmas.List.FromFn.{length-map-range_with_len, get_or-map-range_with_len, map-range_with_len_more}
use Rattle.std.proofs.lemmas.List.FromFn.{take-map-range_with_len}
use Rattle.std.specs.Prelude.{Result, Ok, Err, OnOk, OnErr}
use Rattle.mold_capture.specs.Ends.{end_of, equal_ends, ends_with}

length-equal : (same width : ℕ) → length (equal_ends same width) ≡ same
length-equal same width = length-map-range_with_len (λ i. (i + 1) * width) 0 same

pub length-ends : (same width : ℕ) (later : List ℕ) → length (ends_with same width later) ≡ same + length later
unfolding ends_with
length-ends same width later = omega (arith, length-append (equal_ends same width) later, length-equal same width)

-- One of the first messages ends at a multiple of their length.
pub end_same : (same width : ℕ) (later : List ℕ) (count : ℕ) → count ≤ same →
    end_of (ends_with same width later) count ≡ count * width
unfolding ends_with
end_same same width later zero within = omega arith
end_same same width later (suc i) within =
    let next : i + 1 ≡ suc i = omega arith in
    get_or_append_left (equal_ends same width) later 0 i (omega (arith, length-equal same width))
    ∙ get_or-map-range_with_len (λ i. (i + 1) * width) 0 same i i 0 (omega arith) (omega arith)
    ∙ ap (λ (n : ℕ). n * width) next

pub end_later : (same width : ℕ) (later : List ℕ) (count : ℕ) → same < count →
    end_of (ends_with same width later) count ≡ get_or later (count - same - 1) 0
unfolding ends_with
end_later same width later zero past = absurd (omega arith)
end_later same width later (suc i) past =
    let index : i - same ≡ suc i - same - 1 = omega arith in
    get_or-append_right (equal_ends same width) later same i 0 (length-equal same width) (omega arith)
    ∙ ap (λ (n : ℕ). get_or later n 0) index

-- One more message of the same length.
pub ends_more : (same width : ℕ) (later : List ℕ) → later ≡ [] →
    ends_with (same + 1) width later ≡ ends_with same width later ++ ((same + 1) * width) ∷ []
unfolding ends_with
ends_more same width later none =
    ap (λ (t : List ℕ). equal_ends (same + 1) width ++ t) none
    ∙ append-nil (equal_ends (same + 1) width)
    ∙ map-range_with_len_more (λ i. (i + 1) * width) 0 same same (omega arith)
    ∙ ap (λ (t : List ℕ). t ++ ((same + 1) * width) ∷ []) (sym (append-nil (equal_ends same width)))
    ∙ ap (λ (t : List ℕ). (equal_ends same width ++ t) ++ ((same + 1) * width) ∷ []) (sym none)

-- Without messages, their length does not matter.
pub ends_first : (same width size : ℕ) (later : List ℕ) → same ≡ 0 → ends_with same width later ≡ ends_with same size later
unfolding ends_with
ends_first same width size later none =
    ap (λ (n : ℕ). equal_ends n width ++ later) none ∙ sym (ap (λ (n : ℕ). equal_ends n size ++ later) none)

pub ends_none : (same width : ℕ) (later : List ℕ) → same ≡ 0 → later ≡ [] → ends_with same width later ≡ []
unfolding ends_with
ends_none same width later none nothing =
    ap (λ (n : ℕ). equal_ends n width ++ later) none ∙ nothing

-- One more of the later messages.
pub ends_push : (same width : ℕ) (later more : List ℕ) (end : ℕ) → more ≡ later ++ end ∷ [] →
    ends_with same width more ≡ ends_with same width later ++ end ∷ []
unfolding ends_with
ends_push same width later more end appended =
    ap (λ (t : List ℕ). equal_ends same width ++ t) appended
    ∙ sym (append_assoc (equal_ends same width) later (end ∷ []))

-- The first messages.
pub ends_cut_same : (same width keep : ℕ) (later now : List ℕ) → keep ≤ same → now ≡ [] →
    ends_with keep width now ≡ take keep (ends_with same width later)
unfolding ends_with
ends_cut_same same width keep later now within none =
    ap (λ (t : List ℕ). equal_ends keep width ++ t) none
    ∙ append-nil (equal_ends keep width)
    ∙ sym (take-map-range_with_len (λ i. (i + 1) * width) 0 same keep within)
    ∙ sym (take-append-le keep (equal_ends same width) later (omega (arith, length-equal same width)))

take_past : (xs ys : List ℕ) (n keep : ℕ) → length xs ≡ n → n ≤ keep → take keep (xs ++ ys) ≡ xs ++ take (keep - n) ys
take_past [] ys n keep long past =
    let same : keep ≡ keep - n = omega (arith, long) in ap (λ (k : ℕ). take k ys) same
take_past (x ∷ xs) ys n zero long past = absurd (omega (arith, long))
take_past (x ∷ xs) ys n (suc keep) long past =
    let same : keep - (n - 1) ≡ suc keep - n = omega (arith, long) in
    ap (λ (t : List ℕ). x ∷ t) (take_past xs ys (n - 1) keep (omega (arith, long)) (omega arith))
    ∙ ap (λ (k : ℕ). x ∷ (xs ++ take k ys)) same

pub ends_cut_later : (same width keep : ℕ) (later now : List ℕ) → same ≤ keep → now ≡ take (keep - same) later →
    ends_with same width now ≡ take keep (ends_with same width later)
unfolding ends_with
ends_cut_later same width keep later now past cut =
    ap (λ (t : List ℕ). equal_ends same width ++ t) cut
    ∙ sym (take_past (equal_ends same width) later same keep (length-equal same width) past)

-- Without later messages, the last message ends at a multiple of the length.
pub last_same : (same width : ℕ) (later now : List ℕ) → ends_with same width later ≡ now → length later ≡ 0 →
    end_of now (length now) ≡ same * width
last_same same width later now is none =
    let count : length now ≡ same =
    omega (arith, ap (λ (t : List ℕ). length t) is, length-ends same width later, none) in
    ap (end_of now) count
    ∙ ap (λ (t : List ℕ). end_of t same) (sym is)
    ∙ end_same same width later same (omega arith)

-- The last message is the last of the later ones.
pub last_later : (same width : ℕ) (later now : List ℕ) → ends_with same width later ≡ now → 0 < length later →
    end_of now (length now) ≡ get_or later (length later - 1) 0
last_later same width later now is some =
    let count : length now ≡ same + length later =
    omega (arith, ap (λ (t : List ℕ). length t) is, length-ends same width later) in
    let index : same + length later - same - 1 ≡ length later - 1 = omega arith in
    ap (end_of now) count
    ∙ ap (λ (t : List ℕ). end_of t (same + length later)) (sym is)
    ∙ end_later same width later (same + length later) (omega (arith, some))
    ∙ ap (λ (i : ℕ). get_or later i 0) index

none_later : (later : List ℕ) → length later ≡ 0 → later ≡ []
none_later [] none = refl
none_later (end ∷ later) none = absurd (omega (arith, none))

-- The length of the messages at the start is that of the next message.
other_width : (same width size : ℕ) (later : List ℕ) → (0 < same → width ≡ size) →
    ends_with same width later ≡ ends_with same size later
other_width zero width size later equal = ends_first 0 width size later refl
other_width (suc same) width size later equal =
    ap (λ (w : ℕ). ends_with (suc same) w later) (equal (omega arith))

pub times_width : (same width size : ℕ) → (0 < same → width ≡ size) → same * width ≡ same * size
times_width zero width size equal = omega arith
times_width (suc same) width size equal = ap (λ (w : ℕ). suc same * w) (equal (omega arith))

-- One more message of the same length follows the messages at the start.
pub ends_same : (same width size : ℕ) (later now : List ℕ) → ends_with same width later ≡ now → length later ≡ 0 →
    (0 < same → width ≡ size)
    → ends_with (same + 1) size later ≡ now ++ (end_of now (length now) + size) ∷ []
ends_same same width size later now is none equal =
    let end : (same + 1) * size ≡ end_of now (length now) + size =
    omega (arith, last_same same width later now is none, times_width same width size equal) in
    ends_more same size later (none_later later none)
    ∙ (λ i. (sym (other_width same width size later equal) ∙ is) i ++ end i ∷ [])

pub at_most : {E : Type 0} (r : Result (Unit {0}) E) (old now : List ℕ) (end : ℕ) → OnOk r (now ≡ old ++ end ∷ []) →
    OnErr r (now ≡ old) → length now ≤ length old + 1
at_most (Ok u) old now end added same = omega (arith, ap (λ (t : List ℕ). length t) added, length-append old (end ∷ []))
at_most (Err e) old now end added same = omega (arith, ap (λ (t : List ℕ). length t) same)
