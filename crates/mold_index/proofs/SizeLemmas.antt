-- How many entries an index has.
use Rattle.std.proofs.Common.{◌≡◌, ℕ, zero, suc, ◌+◌, ◌-◌, ◌*◌, ◌/◌, ◌<◌, ◌≤◌, List, length, get_or, ap, subst, inl, inr}
use Rattle.std.proofs.Common.{refl, arith, [], ◌∷◌}
use Rattle.mold_index.specs.Index.{AreApart, IndexState, Indexes}
use Rattle.mold_index.specs.declared.entry.Entry.{Entry}
use Rattle.mold_index.specs.declared.layout.Layout.{Layout}
use Rattle.mold_index.proofs.OffsetLemmas.{offset-mono, offset_last}

-- From the first entry to the one at an index, each step is one of 64 messages or one of 32,768 bytes.
record AreSteps (layout : Layout) (entry : Entry) (k : ℕ) : Type 0 where
  long : ℕ
  wide : ℕ
  all : long + wide ≡ k
  messages : 64 * long + 1 ≤ entry.number
  bytes : layout.start + 32768 * wide ≤ entry.offset

steps : (index : IndexState) (lengths : List ℕ) (k : ℕ) (d : Entry) → Indexes index lengths →
    k < length index.entries → AreSteps index.layout (get_or index.entries k d) k
steps index lengths zero d is within =
    let right = is.each 0 d within in
    record {
      long = 0;
      wide = 0;
      all = omega arith;
      messages = omega (arith, right.first);
      bytes = omega (arith, right.begins);
    }
steps index lengths (suc k) d is within =
    let more : k + 1 ≡ suc k = omega arith in
    let one = steps index lengths k d is (omega (arith, within)) in
    let apart : AreApart (get_or index.entries k d) (get_or index.entries (suc k) d) =
    subst (λ (n : ℕ). AreApart (get_or index.entries k d) (get_or index.entries n d)) more
    (is.apart k d (omega (arith, within))) in
    let before = is.each k d (omega (arith, within)) in
    let right = is.each (suc k) d within in
    let rise = offset-mono index.layout lengths (get_or index.entries k d).number (get_or index.entries (suc k) d).number
    (omega (arith, apart.later)) in
    elim apart.far [
      | inl far ↦ record {
        long = one.long + 1;
        wide = one.wide;
        all = omega (arith, one.all);
        messages = omega (arith, one.messages, far);
        bytes = omega (arith, one.bytes, before.begins, right.begins, rise);
      }
      | inr far ↦ record {
        long = one.long;
        wide = one.wide + 1;
        all = omega (arith, one.all);
        messages = omega (arith, one.messages, apart.later);
        bytes = omega (arith, one.bytes, far);
      }
    ]

size_by : (index : IndexState) (lengths : List ℕ) (entries : List Entry) → Indexes index lengths →
    index.entries ≡ entries → length entries ≤ 1 + index.count / 64 + (index.end - index.layout.start) / 32768
size_by index lengths [] is same = omega arith
size_by index lengths (first ∷ rest) is same =
    let k = length rest in
    let all : k + 1 ≡ length index.entries = omega (arith, ap (λ (t : List Entry). length t) same) in
    let one = steps index lengths k first is (omega (arith, all)) in
    let right = is.each k first (omega (arith, all)) in
    let long : one.long ≤ index.count / 64 = omega (arith, one.messages, right.last, is.counted) in
    let last = offset_last index.layout lengths (get_or index.entries k first).number in
    let wide : one.wide ≤ (index.end - index.layout.start) / 32768 =
    omega (arith, one.bytes, right.begins, last, is.ends) in
    omega (arith, long, wide, one.all)

pub few_entries : (index : IndexState) (lengths : List ℕ) → Indexes index lengths →
    length index.entries ≤ 1 + index.count / 64 + (index.end - index.layout.start) / 32768
few_entries index lengths is = size_by index lengths index.entries is refl
