use Rattle.std.proofs.Common.{◌≡◌, ℕ, ◌+◌, ◌-◌, ◌<◌, ◌≤◌, min, List, length, get_or, slice_get, ap, sym, subst, refl, ◌∙◌, arith}
use Rattle.mold_index.specs.Adding.{offset_or}
use Rattle.mold_index.specs.Index.{HasNumber, IndexState, Indexes, LeadsTo}
use Rattle.mold_index.specs.Piece.{IsPiece}
use Rattle.mold_index.specs.declared.entry.Entry.{Entry}
use Rattle.mold_index.proofs.FindLemmas.{IsSplit, leads, some_up_to, split_of}
use Rattle.mold_index.proofs.PieceLemmas.{begins_before, is_piece, split_next, stop_at, stops_within}
use Rattle.mold_index.proofs.index.Index.piece.Goals.{After-count_up_to-above, After-min}
use Rattle.mold_index.proofs.index.Index.piece.Goals as goal

-- The fields.
abbrev state : After-count_up_to-above → IndexState
state c = record {
  layout = c.self.inside.layout;
  count = c.self.inside.count;
  end = c.self.inside.end;
  entries = c.self.inside.entries.items;
}

split : (c : After-count_up_to-above) → IsSplit c.self.inside.entries.items c.args.from c.count_up_to-above.result
split c =
    split_of c.self.inside.entries.items c.deref.result.now c.args.from c.count_up_to-above.result c.deref.ensures.value
    c.self.invariant.0.indexes.apart c.count_up_to-above.ensures.split

-- The file has message `from`.
there : (c : After-count_up_to-above) → HasNumber (state c) c.args.from
there c =
    let has = c.if-not-has.ensures.value.0 refl in
    let same = ap (λ (s : IndexState). s.count) c.self.view_is in
    (has.0, omega (arith, has.1, same))

some : (c : After-count_up_to-above) → 0 < c.count_up_to-above.result
some c =
    let has = there c in
    some_up_to (state c) c.self.invariant.0.lengths c.args.from c.count_up_to-above.result c.self.invariant.0.indexes has.0
    (omega (arith, has.1, c.self.invariant.0.indexes.counted)) (split c)

bound : (c : After-count_up_to-above) → c.count_up_to-above.result ≤ length c.self.inside.entries.items
bound c = omega (arith, c.count_up_to-above.ensures.bound, ap (λ (t : List Entry). length t) c.deref.ensures.value)

-- The entry before that index leads to message `from`.
leads_there : (c : After-count_up_to-above) (lengths : List ℕ) (entry : Entry) → Indexes (state c) lengths →
    entry ≡ get_or c.self.inside.entries.items (c.count_up_to-above.result - 1) entry →
    LeadsTo c.self.inside.layout lengths c.args.from entry
leads_there c lengths entry is at =
    let has = there c in
    leads (state c) lengths c.args.from c.count_up_to-above.result entry is has.0 (omega (arith, has.1, is.counted))
    (bound c) (split c) at

-- ---- once the piece is known

abbrev state_at : After-min → IndexState
state_at c = record {
  layout = c.self.inside.layout;
  count = c.self.inside.count;
  end = c.self.inside.end;
  entries = c.self.inside.entries.items;
}

split_to : (c : After-min) → IsSplit c.self.inside.entries.items (c.args.to - 1) c.count_up_to.result
split_to c =
    split_of c.self.inside.entries.items c.deref-4.result.now (c.args.to - 1) c.count_up_to.result c.deref-4.ensures.value
    c.self.invariant.0.indexes.apart c.count_up_to.ensures.split

-- The piece ends there.
ends : (c : After-min) → c.min.result
    ≡ min
    (min (stop_at (state_at c) c.count_up_to-above.result) (c.index-entry.result.now.offset + 32767) + c.args.most)
    (stop_at (state_at c) c.count_up_to.result)
ends c =
    let inv = c.self.invariant.0 in
    let one : c.offset_or.result ≡ stop_at (state_at c) c.count_up_to-above.result =
    c.offset_or.ensures
    ∙ ap (λ (t : List Entry). offset_or (slice_get t c.count_up_to-above.result) c.self.inside.end) c.deref-2.ensures.value
    in
    let other : c.offset_or-stop.result ≡ stop_at (state_at c) c.count_up_to.result =
    c.offset_or-stop.ensures
    ∙ ap (λ (t : List Entry). offset_or (slice_get t c.count_up_to.result) c.self.inside.end) c.deref-3.ensures.value
    in
    let within = stops_within (state_at c) inv.lengths c.count_up_to.result inv.indexes in
    omega (
      arith,
      one,
      other,
      within,
      inv.below,
      inv.indexes.ends,
      c.min-latest.ensures,
      c.saturating_add.ensures,
      c.min.ensures,
    )

pub overflow_sub-above : goal.overflow_sub-above
overflow_sub-above c = some c

pub overflow_sub-result : goal.overflow_sub-result
overflow_sub-result c =
    let e = goal.at.overflow_sub-result c in
    let m = e.After-min in
    let d = e.After-count_up_to-above in
    let inv = c.self.invariant.0 in
    let leads = leads_there d inv.lengths c.index-entry.result.now inv.indexes c.index-entry.ensures in
    let one =
    begins_before (state d) inv.lengths c.args.from (c.args.from + 1) c.count_up_to-above.result c.index-entry.result.now
    inv.indexes (omega arith) leads (split_next (state d) c.args.from c.count_up_to-above.result (split d)) in
    let other =
    begins_before (state d) inv.lengths c.args.from c.args.to c.count_up_to.result c.index-entry.result.now inv.indexes
    c.if-to-from.false leads (split_to m) in
    omega (arith, one, other, ends m)

pub returns-clause-found : goal.returns-clause-found
returns-clause-found c = λ lengths is.
    let e = goal.at.returns-clause-found c in
    let m = e.After-min in
    let d = e.After-count_up_to-above in
    let has = there d in
    let was : Indexes (state d) lengths = subst (λ (s : IndexState). Indexes s lengths) (sym c.self.view_is) is in
    subst (λ (s : IndexState). IsPiece s.layout lengths c.args.from c.args.to c.args.most (record {
      entry = c.index-entry.result.now;
      len = c.min.result - c.index-entry.result.now.offset;
    })) c.self.view_is
    (is_piece (state d) lengths c.args.from c.args.to c.args.most c.count_up_to-above.result c.count_up_to.result
    c.index-entry.result.now
    (record { entry = c.index-entry.result.now; len = c.min.result - c.index-entry.result.now.offset }) was has.0
    (omega (arith, has.1, was.counted)) c.if-to-from.false
    (leads_there d lengths c.index-entry.result.now was c.index-entry.ensures) (bound d) (some d)
    c.index-entry.ensures (split d) (split_to m) refl
    (ap (λ (n : ℕ). n - c.index-entry.result.now.offset) (ends m)))
