-- Offsets in blocks.
use Rattle.std.proofs.Common.{◌≡◌, ℕ, ◌+◌, ◌-◌, ◌*◌, ◌/◌, ◌%◌, ◌<◌, ◌≤◌, ◌^◌, List, [], ◌∷◌, ◌++◌, length, take, get_or, min}
use Rattle.std.proofs.Common.{sym, ap, ◌∙◌, inl, inr, ◌⊎◌, arith}
use Rattle.std.proofs.lemmas.Bool.{cases_lt}
use Rattle.std.proofs.lemmas.List.{get_or_append_left, get_or_push, get_or-take, length_push, length-take}
use Rattle.std.proofs.lemmas.List.FromFn.{length-map-range_with_len, get_or-map-range_with_len, fill_by_all}
use Rattle.mold_capture.specs.Offsets.{offset, offsets, AreOffsets, HasBase}
use Rattle.mold_capture.specs.declared.offsets.TheConstants.{BLOCK, MAX_STEP}

pub length-offsets : (bases parts : List ℕ) → length (offsets bases parts) ≡ length parts
unfolding offsets
length-offsets bases parts = length-map-range_with_len (offset bases parts) 0 (length parts)

pub get_or-offsets : (bases parts : List ℕ) (i : ℕ) → i < length parts →
    get_or (offsets bases parts) i 0 ≡ offset bases parts i
unfolding offsets
get_or-offsets bases parts i within =
    get_or-map-range_with_len (offset bases parts) 0 (length parts) i i 0 within (omega arith)

-- An index of the list is one of a distance.
pub part_within : (bases parts now : List ℕ) (i : ℕ) → offsets bases parts ≡ now → i < length now → i < length parts
part_within bases parts now i is within =
    omega (arith, length-offsets bases parts, ap (λ (t : List ℕ). length t) is)

-- A list with the same offsets.
same_offsets : (bases parts xs : List ℕ) → length xs ≡ length parts →
    ((i : ℕ) → i < length parts → get_or xs i 0 ≡ offset bases parts i) → offsets bases parts ≡ xs
unfolding offsets
same_offsets bases parts xs long each = sym (fill_by_all (offset bases parts) xs (length parts) 0 long each)

pub offsets_none : (bases parts : List ℕ) → parts ≡ [] → offsets bases parts ≡ []
offsets_none bases parts none =
    same_offsets bases parts [] (sym (ap (λ (t : List ℕ). length t) none))
    (λ i within. absurd (omega (arith, within, ap (λ (t : List ℕ). length t) none)))

pub are_none : (bases parts : List ℕ) → bases ≡ [] → parts ≡ [] → AreOffsets bases parts
are_none bases parts none nothing =
    let no : length parts ≡ 0 = ap (λ (t : List ℕ). length t) nothing in
    let few : length bases ≡ 0 = ap (λ (t : List ℕ). length t) none in
    record {
      covered = omega arith;
      tight = omega arith;
      near = λ i within. absurd (omega arith);
      bound = λ i within. absurd (omega arith);
    }

-- The block of an offset has a base.
pub block_within : (bases parts : List ℕ) → AreOffsets bases parts → (i : ℕ) → i < length parts → i / BLOCK < length bases
block_within bases parts are i within = omega (arith, are.covered)

-- The next offset is in the last block or in the one after it.
pub next_block : (bases parts : List ℕ) → AreOffsets bases parts → length parts / BLOCK ≤ length bases
next_block bases parts are = omega (arith, are.covered)

-- The base of the next offset, and the distance from it.
pub record IsNext (bases parts : List ℕ) (last offset base : ℕ) (now : List ℕ) : Type 0 where
  pub are : AreOffsets bases parts
  pub after : 0 < length parts → last ≡ get_or (offsets bases parts) (length parts - 1) 0
  pub ordered : last ≤ offset
  pub near : offset ≤ last + MAX_STEP
  pub bound : offset < 2 ^ 64
  pub based : HasBase bases (length parts / BLOCK) last base now

-- The distance of the next offset is that of the previous one and the step, or the step.
next_near : (bases parts : List ℕ) (last offset base : ℕ) (now : List ℕ) → IsNext bases parts last offset base now →
    (base ≤ offset) × (offset - base ≤ (length parts % BLOCK + 1) * MAX_STEP)
next_near bases parts last offset base now next =
    let n = length parts in
    elim (cases_lt (n / BLOCK) (length bases)) [
      | inl known ↦
          let some : 0 < n % BLOCK = omega (arith, next.are.tight) in
          let before : n - 1 < n = omega arith in
          let block : (n - 1) / BLOCK ≡ n / BLOCK = omega arith in
          let index : (n - 1) % BLOCK + 1 ≡ n % BLOCK = omega arith in
          let is : last ≡ get_or bases ((n - 1) / BLOCK) 0 + get_or parts (n - 1) 0 =
          next.after (omega arith) ∙ get_or-offsets bases parts (n - 1) before in
          let same : get_or bases ((n - 1) / BLOCK) 0 ≡ base =
          ap (λ (k : ℕ). get_or bases k 0) block ∙ sym (next.based.stays (n / BLOCK) known) ∙ next.based.here in
          let close : get_or parts (n - 1) 0 ≤ (n % BLOCK) * MAX_STEP =
          omega (arith, next.are.near (n - 1) before, index) in
          (omega (arith, is, same, next.ordered), omega (arith, is, same, close, next.near))
      | inr fresh ↦
          let is : base ≡ last = next.based.fresh (omega (arith, next_block bases parts next.are)) in
          (omega (arith, is, next.ordered), omega (arith, is, next.near))
    ]

-- The distance of the next offset has 32 bits.
pub next_fits : (bases parts : List ℕ) (last offset base : ℕ) (now : List ℕ) → IsNext bases parts last offset base now →
    (base ≤ offset) × (offset - base < 2 ^ 32)
next_fits bases parts last offset base now next =
    let is = next_near bases parts last offset base now next in
    (is.0, omega (arith, is.1))

next_offset : (bases parts : List ℕ) (last next base : ℕ) (now more : List ℕ) → IsNext bases parts last next base now →
    more ≡ parts ++ (next - base) ∷ [] → (i : ℕ) → i < length parts + 1
    → get_or (offsets bases parts ++ next ∷ []) i 0 ≡ offset now more i
next_offset bases parts last next base now more is appended i within =
    elim (cases_lt i (length parts)) [
      | inl old ↦
          get_or_append_left (offsets bases parts) (next ∷ []) 0 i (omega (arith, old, length-offsets bases parts))
          ∙ get_or-offsets bases parts i old
          ∙ ap (λ (n : ℕ). n + get_or parts i 0)
          (sym (is.based.stays (i / BLOCK) (block_within bases parts is.are i old)))
          ∙ ap (λ (n : ℕ). get_or now (i / BLOCK) 0 + n)
          (sym (ap (λ (t : List ℕ). get_or t i 0) appended ∙ get_or_append_left parts ((next - base) ∷ []) 0 i old))
      | inr new ↦
          let here : i ≡ length parts = omega arith in
          let part : get_or more i 0 ≡ next - base =
          ap (λ (t : List ℕ). get_or t i 0) appended ∙ get_or_push parts (next - base) 0 i (sym here) in
          let at : get_or now (i / BLOCK) 0 ≡ base = ap (λ (k : ℕ). get_or now (k / BLOCK) 0) here ∙ is.based.here in
          get_or_push (offsets bases parts) next 0 i (length-offsets bases parts ∙ sym here)
          ∙ omega (arith, part, at, (next_near bases parts last next base now is).0)
    ]

pub offsets_push : (bases parts : List ℕ) (last next base : ℕ) (now more : List ℕ) → IsNext bases parts last next base now →
    more ≡ parts ++ (next - base) ∷ [] → offsets now more ≡ offsets bases parts ++ next ∷ []
offsets_push bases parts last next base now more is appended =
    let long : length more ≡ length parts + 1 =
    ap (λ (t : List ℕ). length t) appended ∙ length_push parts (next - base) in
    same_offsets now more (offsets bases parts ++ next ∷ [])
    (omega (arith, long, length_push (offsets bases parts) next, length-offsets bases parts))
    (λ i within. next_offset bases parts last next base now more is appended i (omega (arith, within, long)))

pub are_push : (bases parts : List ℕ) (last next base : ℕ) (now more : List ℕ) → IsNext bases parts last next base now →
    more ≡ parts ++ (next - base) ∷ [] → AreOffsets now more
are_push bases parts last next base now more is appended =
    let n = length parts in
    let long : length more ≡ n + 1 = ap (λ (t : List ℕ). length t) appended ∙ length_push parts (next - base) in
    let block = next_block bases parts is.are in
    let counts : (length now ≡ length bases) × (n / BLOCK < length bases)
    ⊎ (length now ≡ length bases + 1) × (n / BLOCK ≡ length bases) =
    elim (cases_lt (n / BLOCK) (length bases)) [
      | inl known ↦ inl (is.based.old known, known)
      | inr fresh ↦
          let same : n / BLOCK ≡ length bases = omega (arith, fresh, block) in
          inr (is.based.new same, same)
    ]
    in
    record {
      covered = elim counts [
        | inl known ↦ omega (arith, long, known.0, known.1, is.are.covered)
        | inr fresh ↦ omega (arith, long, fresh.0, fresh.1, is.are.covered)
      ];
      tight = elim counts [
        | inl known ↦ omega (arith, long, known.0, known.1, is.are.tight)
        | inr fresh ↦ omega (arith, long, fresh.0, fresh.1, is.are.tight)
      ];
      near = λ i within.
          elim (cases_lt i n) [
            | inl before ↦
                let same : get_or more i 0 ≡ get_or parts i 0 =
                ap (λ (t : List ℕ). get_or t i 0) appended ∙ get_or_append_left parts ((next - base) ∷ []) 0 i before in
                omega (arith, same, is.are.near i before)
            | inr after ↦
                let here : i ≡ n = omega (arith, within, long, after) in
                let part : get_or more i 0 ≡ next - base =
                ap (λ (t : List ℕ). get_or t i 0) appended ∙ get_or_push parts (next - base) 0 i (sym here) in
                let index : i % BLOCK ≡ n % BLOCK = ap (λ (k : ℕ). k % BLOCK) here in
                omega (arith, part, index, (next_near bases parts last next base now is).1)
          ];
      bound = λ i within.
          let at = next_offset bases parts last next base now more is appended i (omega (arith, within, long)) in
          elim (cases_lt i n) [
            | inl before ↦
                let first = get_or_append_left (offsets bases parts) (next ∷ []) 0 i
                (omega (arith, before, length-offsets bases parts)) in
                let was = get_or-offsets bases parts i before in
                omega (arith, at, first, was, is.are.bound i before)
            | inr after ↦
                let here : i ≡ n = omega (arith, within, long, after) in
                let last = get_or_push (offsets bases parts) next 0 i (length-offsets bases parts ∙ sym here) in
                omega (arith, at, last, is.bound)
          ];
    }

-- The first offsets.
pub record IsCut (bases parts : List ℕ) (keep : ℕ) (now fewer : List ℕ) : Type 0 where
  pub are : AreOffsets bases parts
  pub parts_cut : fewer ≡ take keep parts
  pub bases_cut : now ≡ take (length fewer / BLOCK + min 1 (length fewer % BLOCK)) bases

cut_offset : (bases parts : List ℕ) (keep : ℕ) (now fewer : List ℕ) → IsCut bases parts keep now fewer →
    (i : ℕ) → i < length fewer → offset now fewer i ≡ offset bases parts i
cut_offset bases parts keep now fewer cut i within =
    let count : length fewer ≡ min keep (length parts) =
    ap (λ (t : List ℕ). length t) cut.parts_cut ∙ length-take keep parts in
    let part : get_or fewer i 0 ≡ get_or parts i 0 =
    ap (λ (t : List ℕ). get_or t i 0) cut.parts_cut ∙ get_or-take keep parts i 0 (omega (arith, within, count)) in
    let base : get_or now (i / BLOCK) 0 ≡ get_or bases (i / BLOCK) 0 =
    ap (λ (t : List ℕ). get_or t (i / BLOCK) 0) cut.bases_cut
    ∙ get_or-take (length fewer / BLOCK + min 1 (length fewer % BLOCK)) bases (i / BLOCK) 0 (omega arith)
    in
    omega (arith, part, base)

pub offsets_cut : (bases parts : List ℕ) (keep : ℕ) (now fewer : List ℕ) → IsCut bases parts keep now fewer →
    offsets now fewer ≡ take keep (offsets bases parts)
offsets_cut bases parts keep now fewer cut =
    let count : length fewer ≡ min keep (length parts) =
    ap (λ (t : List ℕ). length t) cut.parts_cut ∙ length-take keep parts in
    same_offsets now fewer (take keep (offsets bases parts))
    (omega (arith, count, length-take keep (offsets bases parts), length-offsets bases parts))
    (λ i within.
    get_or-take keep (offsets bases parts) i 0 (omega (arith, within, count))
    ∙ get_or-offsets bases parts i (omega (arith, within, count))
    ∙ sym (cut_offset bases parts keep now fewer cut i within))

pub are_cut : (bases parts : List ℕ) (keep : ℕ) (now fewer : List ℕ) → IsCut bases parts keep now fewer →
    AreOffsets now fewer
are_cut bases parts keep now fewer cut =
    let m = length fewer in
    let count : m ≡ min keep (length parts) = ap (λ (t : List ℕ). length t) cut.parts_cut ∙ length-take keep parts in
    let blocks : length now ≡ min (m / BLOCK + min 1 (m % BLOCK)) (length bases) =
    ap (λ (t : List ℕ). length t) cut.bases_cut ∙ length-take (m / BLOCK + min 1 (m % BLOCK)) bases in
    record {
      covered = omega (arith, count, blocks, cut.are.covered);
      tight = omega (arith, count, blocks, cut.are.covered);
      near = λ i within.
          let part : get_or fewer i 0 ≡ get_or parts i 0 =
          ap (λ (t : List ℕ). get_or t i 0) cut.parts_cut ∙ get_or-take keep parts i 0 (omega (arith, within, count)) in
          omega (arith, part, cut.are.near i (omega (arith, within, count)));
      bound = λ i within.
          omega (
            arith,
            cut_offset bases parts keep now fewer cut i within,
            cut.are.bound i (omega (arith, within, count)),
          );
    }
