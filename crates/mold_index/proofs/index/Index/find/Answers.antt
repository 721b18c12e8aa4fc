use Rattle.std.proofs.Common.{length, ap, sym, subst, refl, arith}
use Rattle.mold_index.specs.Index.{HasNumber, IndexState, Indexes, LeadsTo}
use Rattle.mold_index.proofs.FindLemmas.{IsSplit, leads, some_up_to, split_of}
use Rattle.mold_index.proofs.index.Index.find.Goals.{After-count_up_to-above}
use Rattle.mold_index.proofs.index.Index.find.Goals as goal

-- The fields.
abbrev state : After-count_up_to-above → IndexState
state c = record {
  layout = c.self.inside.layout;
  count = c.self.inside.count;
  end = c.self.inside.end;
  entries = c.self.inside.entries.items;
}

split : (c : After-count_up_to-above) → IsSplit c.self.inside.entries.items c.args.number c.count_up_to-above.result
split c =
    split_of c.self.inside.entries.items c.deref.result.now c.args.number c.count_up_to-above.result c.deref.ensures.value
    c.self.invariant.0.indexes.apart c.count_up_to-above.ensures.split

-- The file has the message.
there : (c : After-count_up_to-above) → HasNumber (state c) c.args.number
there c =
    let has = c.if-not-has.ensures.value.0 refl in
    let same = ap (λ (s : IndexState). s.count) c.self.view_is in
    (has.0, omega (arith, has.1, same))

pub overflow_sub-above : goal.overflow_sub-above
overflow_sub-above c =
    let has = there c in
    some_up_to (state c) c.self.invariant.0.lengths c.args.number c.count_up_to-above.result c.self.invariant.0.indexes has.0
    (omega (arith, has.1, c.self.invariant.0.indexes.counted)) (split c)

pub returns-clause-found : goal.returns-clause-found
returns-clause-found c = λ lengths is.
    let d = (goal.at.returns-clause-found c).After-count_up_to-above in
    let has = there d in
    let was : Indexes (state d) lengths = subst (λ (s : IndexState). Indexes s lengths) (sym c.self.view_is) is in
    subst (λ (s : IndexState). LeadsTo s.layout lengths c.args.number c.index.result.now) c.self.view_is
    (leads (state d) lengths c.args.number c.count_up_to-above.result c.index.result.now was has.0
    (omega (arith, has.1, was.counted))
    (omega (arith, c.count_up_to-above.ensures.bound, ap (λ t. length t) c.deref.ensures.value)) (split d) c.index.ensures)
