-- An index after its last message was removed.
use Rattle.std.proofs.Common.{◌≡◌, ℕ, ◌+◌, ◌-◌, ◌<◌, ◌≤◌, Bool, true, false, List, [], ◌∷◌, ◌++◌, Option, Some}
use Rattle.std.proofs.Common.{length, get_or, slice_get, cond, take, refl, sym, ap, subst, ◌∙◌, inl, inr}
use Rattle.std.proofs.Common.{nat_lt, arith}
use Rattle.std.proofs.lemmas.Bool.{cases_lt}
use Rattle.std.proofs.lemmas.Bool.Decides.{nat_tests}
use Rattle.std.proofs.lemmas.List.{get_or-take, length-take, length_push, take_all}
use Rattle.std.proofs.lemmas.Option.{slice_get-get_or}
use Rattle.mold_index.specs.Adding.{is_above, without_above}
use Rattle.mold_index.specs.Index.{IndexState, Indexes, IsEntry, IsNear, offset_of}
use Rattle.mold_index.specs.declared.entry.Entry.{Entry}
use Rattle.mold_index.specs.declared.layout.Layout.{Layout}
use Rattle.mold_index.proofs.OffsetLemmas.{end-push, offset-push}

-- The index without its last message, which has `len` bytes.
abbrev pub shrunk : IndexState → ℕ → List Entry → IndexState
shrunk index len entries = record {
  layout = index.layout;
  count = index.count - 1;
  end = index.end - (index.layout.overhead + len);
  entries = entries;
}

-- The entries `kept` are the first of the entries, and the others are above message `number`.
pub record IsKeptOf (number : ℕ) (entries kept : List Entry) : Type 0 where
  pub count : ℕ
  pub few : count ≤ length entries
  pub first : kept ≡ take count entries
  pub below : (k : ℕ) (d : Entry) → k < count → (get_or entries k d).number ≤ number
  pub above : (k : ℕ) (d : Entry) → count ≤ k → k < length entries → number < (get_or entries k d).number

entry_of : (layout : Layout) (lengths : List ℕ) (len : ℕ) (entry : Entry) → entry.number ≤ length lengths →
    IsEntry layout (lengths ++ len ∷ []) entry → IsEntry layout lengths entry
entry_of layout lengths len entry within right = record {
  first = right.first;
  last = within;
  begins = right.begins ∙ offset-push layout lengths len entry.number (omega (arith, within));
}

near_of : (layout : Layout) (lengths : List ℕ) (len number : ℕ) (entry : Entry) → number ≤ length lengths + 1 →
    IsNear layout (lengths ++ len ∷ []) number entry → IsNear layout lengths number entry
near_of layout lengths len number entry within near = record {
  before = near.before;
  few = near.few;
  close = omega (arith, near.close, offset-push layout lengths len number within);
}

kept_length : (number : ℕ) (entries kept : List Entry) → (is : IsKeptOf number entries kept) → length kept ≡ is.count
kept_length number entries kept is =
    ap (λ (t : List Entry). length t) is.first ∙ omega (arith, length-take is.count entries, is.few)

kept_at : (number : ℕ) (entries kept : List Entry) (k : ℕ) (d : Entry) → (is : IsKeptOf number entries kept) →
    k < is.count → get_or kept k d ≡ get_or entries k d
kept_at number entries kept k d is within =
    ap (λ (t : List Entry). get_or t k d) is.first ∙ get_or-take is.count entries k d within

pub indexes_kept : (index : IndexState) (lengths : List ℕ) (len : ℕ) (kept : List Entry) →
    Indexes index (lengths ++ len ∷ []) → IsKeptOf (index.count - 1) index.entries kept →
    Indexes (shrunk index len kept) lengths
indexes_kept index lengths len kept is keeps =
    let long : length kept ≡ keeps.count = kept_length (index.count - 1) index.entries kept keeps in
    let counted : index.count ≡ length lengths + 1 = omega (arith, is.counted, length_push lengths len) in
    let ends : index.end ≡ offset_of index.layout lengths (length lengths + 1) + (index.layout.overhead + len) =
    is.ends ∙ end-push index.layout lengths len in
    record {
      counted = omega (arith, counted);
      ends = omega (arith, ends);
      each = λ k d within.
          let inside : k < keeps.count = omega (arith, within, long) in
          rw (kept_at (index.count - 1) index.entries kept k d keeps inside)
          (entry_of index.layout lengths len (get_or index.entries k d)
          (omega (arith, keeps.below k d inside, counted))
          (is.each k d (omega (arith, inside, keeps.few))));
      apart = λ k d within.
          let inside : k + 1 < keeps.count = omega (arith, within, long) in
          rw (
            kept_at (index.count - 1) index.entries kept k d keeps (omega (arith, inside)),
            kept_at (index.count - 1) index.entries kept (k + 1) d keeps inside,
          ) (is.apart k d (omega (arith, inside, keeps.few)));
      near = λ number first last.
          let near = is.near number first (omega (arith, last, length_push lengths len)) in
          let inside : near.0 < keeps.count =
          elim (cases_lt near.0 keeps.count) [
            | inl below ↦ below
            | inr past ↦
                absurd (omega (
                  arith,
                  keeps.above near.0 near.1 past near.2,
                  ap (λ (e : Entry). e.number) near.3,
                  near.4.before,
                  counted,
                  last,
                ))
          ] in (
            near.0,
            near.1,
            omega (arith, inside, long),
            kept_at (index.count - 1) index.entries kept near.0 near.1 keeps inside ∙ near.3,
            near_of index.layout lengths len number near.1 (omega (arith, last)) near.4,
          );
    }

-- ---- which entries are kept

-- Each entry before another one is not that of the last message.
before_last : (index : IndexState) (lengths : List ℕ) (k : ℕ) (d : Entry) → Indexes index lengths →
    k + 1 < length index.entries → (get_or index.entries k d).number ≤ index.count - 1
before_last index lengths k d is within =
    omega (arith, (is.apart k d within).later, (is.each (k + 1) d within).last, is.counted)

last_at : (entries : List Entry) (k : ℕ) (d : Entry) → k + 1 ≡ length entries →
    slice_get entries (length entries - 1) ≡ Some (get_or entries k d)
last_at entries k d last =
    let at : length entries - 1 ≡ k = omega (arith, last) in
    ap (slice_get entries) at ∙ slice_get-get_or entries k d (omega (arith, last))

-- Whether the last entry is above the number, as a fact about that entry.
last_above : (number : ℕ) (entries : List Entry) (k : ℕ) (d : Entry) (above : Bool) → k + 1 ≡ length entries →
    is_above number (slice_get entries (length entries - 1)) ≡ above → nat_lt number (get_or entries k d).number ≡ above
last_above number entries k d above last is =
    subst (λ (o : Option Entry). is_above number o ≡ above) (last_at entries k d last) is

keeps_by : (index : IndexState) (lengths : List ℕ) (above : Bool) → Indexes index lengths →
    is_above (index.count - 1) (slice_get index.entries (length index.entries - 1)) ≡ above →
    IsKeptOf (index.count - 1) index.entries
    (cond above (take (length index.entries - 1) index.entries) index.entries)
keeps_by index lengths true is above = record {
  count = length index.entries - 1;
  few = omega arith;
  first = refl;
  below = λ k d within. before_last index lengths k d is (omega (arith, within));
  above = λ k d past within.
      let test = last_above (index.count - 1) index.entries k d true (omega (arith, past, within)) above in
      grind (arith, nat_tests, test);
}
keeps_by index lengths false is above = record {
  count = length index.entries;
  few = omega arith;
  first = sym (take_all (length index.entries) index.entries (omega arith));
  below = λ k d within.
      elim (cases_lt (k + 1) (length index.entries)) [
        | inl inside ↦ before_last index lengths k d is inside
        | inr past ↦
            let test = last_above (index.count - 1) index.entries k d false (omega (arith, past, within)) above in
            grind (arith, nat_tests, test)
      ];
  above = λ k d past within. absurd (omega (arith, past, within));
}

pub indexes_shrunk : (index : IndexState) (lengths : List ℕ) (len : ℕ) → Indexes index (lengths ++ len ∷ []) →
    Indexes (shrunk index len (without_above (index.count - 1) index.entries)) lengths
indexes_shrunk index lengths len is =
    indexes_kept index lengths len (without_above (index.count - 1) index.entries) is
    (keeps_by index (lengths ++ len ∷ []) (is_above (index.count - 1)
    (slice_get index.entries (length index.entries - 1))) is refl)

pub shrunk_as : (index : IndexState) (lengths : List ℕ) (len end : ℕ) (entries : List Entry) →
    Indexes index (lengths ++ len ∷ []) → end ≡ index.end - (index.layout.overhead + len) →
    entries ≡ without_above (index.count - 1) index.entries →
    Indexes (record { layout = index.layout; count = index.count - 1; end = end; entries = entries }) lengths
shrunk_as index lengths len end entries is ends same = rw (ends, same) (indexes_shrunk index lengths len is)
