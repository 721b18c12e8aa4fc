use Rattle.std.proofs.Common.{ℕ, List, length, take, sym, ap, ◌∙◌, arith}
use Rattle.std.proofs.lemmas.List.{take_all}
use Rattle.mold_capture.proofs.KeptLemmas.{IsCut, length-pieces, pieces_cut, ends_cut}
use Rattle.mold_capture.proofs.kept.Kept.truncate.Goals as goal

cut : (c : goal.After-truncate-then-keep-len) →
    IsCut c.self.inside.ends c.self.inside.bytes.items c.args.keep c.truncate.new.self
    c.truncate-then-keep-len.new.self.items
cut c = record {
  are = c.self.invariant;
  within = omega arith;
  ends_cut = c.truncate.ensures;
  bytes_cut =
      c.truncate-then-keep-len.ensures.items
      ∙ ap (λ (n : ℕ). take n c.self.inside.bytes.items) c.end_of-end.ensures;
}

pub invariant_of-self : goal.invariant_of-self
invariant_of-self c = ends_cut _ _ _ _ _ (cut c)

pub returns-then-keep-len : goal.returns-then-keep-len
returns-then-keep-len c = pieces_cut _ _ _ _ _ (cut c) ∙ ap (take c.args.keep) c.self.view_is

pub returns-else-keep-len : goal.returns-else-keep-len
returns-else-keep-len c =
    let f = c.self.inside in
    sym (take_all c.args.keep c.args.self.now
    (omega (arith, length-pieces f.ends f.bytes.items, ap (λ (t : List (List ℕ)). length t) c.self.view_is)))
