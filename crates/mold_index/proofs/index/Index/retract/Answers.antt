use Rattle.std.proofs.Common.{◌≡◌, ◌+◌, ◌-◌, [], ◌∷◌, ◌++◌, sym, subst, arith}
use Rattle.mold_index.specs.Index.{IndexState, Indexes}
use Rattle.mold_index.proofs.RetractLemmas.{shrunk_as}
use Rattle.mold_index.proofs.index.Index.retract.Goals as goal

pub invariant_of-self : goal.invariant_of-self
invariant_of-self c =
    let f = c.self.inside in
    let old : IndexState = record { layout = f.layout; count = f.count; end = f.end; entries = f.entries.items } in
    let size : c.from.result + c.from-2.result ≡ f.layout.overhead + c.args.len =
    omega (arith, c.from.ensures, c.from-2.ensures) in
    let lengths = c.requires.last.lengths in
    let was : Indexes old (lengths ++ c.args.len ∷ []) =
    subst (λ (s : IndexState). Indexes s (lengths ++ c.args.len ∷ [])) (sym c.self.view_is) c.requires.last.indexes in (
      record {
        lengths = lengths;
        indexes = shrunk_as old lengths c.args.len (f.end - (c.from.result + c.from-2.result))
            c.remove_above.new.entries.items was (omega (arith, size)) c.remove_above.ensures;
        few = omega (arith, c.self.invariant.0.few);
        below = omega (arith, c.self.invariant.0.below);
      },
      c.none-self-inside.ensures c.remove_above.new.entries.items,
    )

pub returns-clause-indexes : goal.returns-clause-indexes
returns-clause-indexes c = λ lengths is.
    let f = c.self.inside in
    let old : IndexState = record { layout = f.layout; count = f.count; end = f.end; entries = f.entries.items } in
    let size : c.from.result + c.from-2.result ≡ f.layout.overhead + c.args.len =
    omega (arith, c.from.ensures, c.from-2.ensures) in
    let was : Indexes old (lengths ++ c.args.len ∷ []) =
    subst (λ (s : IndexState). Indexes s (lengths ++ c.args.len ∷ [])) (sym c.self.view_is) is in
    shrunk_as old lengths c.args.len (f.end - (c.from.result + c.from-2.result)) c.remove_above.new.entries.items was
    (omega (arith, size)) c.remove_above.ensures
