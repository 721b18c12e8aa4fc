use Rattle.std.proofs.Common.{◌≡◌, ◌+◌, [], ◌∷◌, ◌++◌, sym, subst, ◌∙◌, arith}
use Rattle.mold_index.specs.Index.{IndexState, Indexes}
use Rattle.mold_index.proofs.PushLemmas.{indexes_within, room_has}
use Rattle.mold_index.proofs.index.Index.push.Goals as goal

pub invariant_of-self : goal.invariant_of-self
invariant_of-self c =
    let f = c.self.inside in
    let old : IndexState = record { layout = f.layout; count = f.count; end = f.end; entries = f.entries.items } in
    let size : c.from.result + c.from-2.result ≡ f.layout.overhead + c.args.len =
    omega (arith, c.from.ensures, c.from-2.ensures) in
    let room = c.self.invariant.1 in
    let within = room_has f.room f.count f.end (sym c.has.ensures ∙ c.if-not-has.false) in (
      record {
        lengths = c.self.invariant.0.lengths ++ c.args.len ∷ [];
        indexes = indexes_within old f.room c.self.invariant.0.lengths c.args.len
            (f.end + (c.from.result + c.from-2.result)) c.self.invariant.0.indexes (omega (arith, size)) room within;
        few = omega (arith, room.few, within.0);
        below = omega (arith, room.below, within.1);
      },
      room,
    )

pub returns-clause-indexes : goal.returns-clause-indexes
returns-clause-indexes c = λ lengths is.
    let f = c.self.inside in
    let old : IndexState = record { layout = f.layout; count = f.count; end = f.end; entries = f.entries.items } in
    let size : c.from.result + c.from-2.result ≡ f.layout.overhead + c.args.len =
    omega (arith, c.from.ensures, c.from-2.ensures) in
    let was : Indexes old lengths = subst (λ (s : IndexState). Indexes s lengths) (sym c.self.view_is) is in
    indexes_within old f.room lengths c.args.len (f.end + (c.from.result + c.from-2.result)) was (omega (arith, size))
    c.self.invariant.1 (room_has f.room f.count f.end (sym c.has.ensures ∙ c.if-not-has.false))
