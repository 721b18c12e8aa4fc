use Rattle.std.proofs.Common.{Bool, List, ap, position, slice_get, sym, subst, ◌∙◌}
use Rattle.std.specs.List.{IsDistinct}
use Rattle.std.specs.Map.{keys_of}
use Rattle.mold_capture_commands.specs.Pairs.{same_pair}
use Rattle.mold_capture_commands.specs.declared.pair.Pair.{Pair}
use Rattle.mold_capture_commands.specs.declared.pair_tally.PairTally.{PairTally}
use Rattle.mold_capture_commands.proofs.EqLemmas.{pair_eq}
use Rattle.mold_capture_commands.proofs.LineLemmas.{place_of}
use Rattle.mold_capture_commands.proofs.pair_lines.PairLines.find.Goals as goal

pub returns-then-eq : goal.returns-then-eq
returns-then-eq c =
    let lines = c.self.inside.map.entries in
    let pair = c.args.pair.now in
    let same = sym (pair_eq pair c.in-Some.known.now) ∙ sym c.eq.ensures ∙ c.if-eq.true in
    let unique = subst (λ (eq : Pair → Pair → Bool). IsDistinct eq (keys_of lines))
    (λ i. λ one other. pair_eq one other i) c.as_slice.ensures.unique in
    let entry = ap (λ (l : List (Pair × PairTally)). slice_get l c.self.inside.last) (sym c.as_slice.ensures.entries)
    ∙ sym c.in-Some.ensures.entry in
    sym (place_of lines c.self.inside.last pair c.in-Some.known.now c.in-Some.field-0-1.now unique entry same)
    ∙ ap (λ (l : List (Pair × PairTally)). position (same_pair pair) (keys_of l)) c.self.view_is

pub returns : goal.returns
returns c =
    c.get_index_of.ensures.index
    ∙ (λ i. position (λ key. pair_eq c.args.pair.now key i) (keys_of c.self.inside.map.entries))
    ∙ ap (λ (l : List (Pair × PairTally)). position (same_pair c.args.pair.now) (keys_of l)) c.self.view_is
