use Rattle.std.proofs.Common.{◌≡◌, ◌+◌, List, [], ◌∷◌, ◌++◌, sym, subst, arith}
use Rattle.mold_index.specs.Adding.{IsRoom}
use Rattle.mold_index.specs.Index.{IndexState, Indexes}
use Rattle.mold_index.specs.declared.entry.Entry.{Entry}
use Rattle.mold_index.proofs.PushLemmas.{indexes_as}
use Rattle.mold_index.proofs.index.Index.push_checked.Goals as goal

pub invariant_of-self-2 : goal.invariant_of-self-2
invariant_of-self-2 c =
    let f = c.self.inside in
    let old : IndexState = record { layout = f.layout; count = f.count; end = f.end; entries = f.entries.items } in
    let size : c.from.result + c.from-2.result ≡ f.layout.overhead + c.args.len =
    omega (arith, c.from.ensures, c.from-2.ensures) in (
      record {
        lengths = c.self.invariant.0.lengths ++ c.args.len ∷ [];
        indexes = indexes_as old c.self.invariant.0.lengths c.args.len (f.end + (c.from.result + c.from-2.result))
            c.add_if_due.new.entries.items c.self.invariant.0.indexes (omega (arith, size)) c.in_default.ensures.added;
        few = omega (arith, c.self.invariant.0.few, c.if-self.false);
        below = omega (arith, c.if-self-size-gt-MAX_END.false);
      },
      subst (λ (t : List Entry). IsRoom t c.room_after-self-inside.result) c.deref.ensures.value
          c.room_after-self-inside.ensures,
    )

pub returns-clause-indexes : goal.returns-clause-indexes
returns-clause-indexes c = λ lengths is.
    let f = c.self.inside in
    let old : IndexState = record { layout = f.layout; count = f.count; end = f.end; entries = f.entries.items } in
    let size : c.from.result + c.from-2.result ≡ f.layout.overhead + c.args.len =
    omega (arith, c.from.ensures, c.from-2.ensures) in
    let was : Indexes old lengths = subst (λ (s : IndexState). Indexes s lengths) (sym c.self.view_is) is in
    indexes_as old lengths c.args.len (f.end + (c.from.result + c.from-2.result)) c.add_if_due.new.entries.items was
    (omega (arith, size)) c.in_default.ensures.added
