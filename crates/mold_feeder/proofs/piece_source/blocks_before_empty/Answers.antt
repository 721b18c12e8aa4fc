use Rattle.std.proofs.Common.{arith, ◌∙◌, ap, List, ℕ, length, length-drop}
use Rattle.std.proofs.lemmas.List.{take_rest}
use Rattle.mold_feeder.proofs.MarkedLemmas.{marks_next}
use Rattle.mold_feeder.proofs.piece_source.blocks_before_empty.Goals as goal

pub blocks-2-preserved : goal.blocks-2-preserved
blocks-2-preserved c = record {
  within = omega (
    arith,
    c.if-rest-len.false,
    c.blocks-2.invariant.within,
    ap (λ (t : List ℕ). length t) (take_rest c.args.bytes.now c.blocks-2.count),
    length-drop c.blocks-2.count c.args.bytes.now,
  );
  marks = marks_next c.args.bytes.now _ c.blocks-2.count c.from-len.result (take_rest c.args.bytes.now c.blocks-2.count)
      c.blocks-2.invariant.within (c.from-len.ensures ∙ c.read_u16.ensures) (omega (arith, c.if-len-eq0.false))
      c.if-rest-len.false c.blocks-2.invariant.marks;
}
