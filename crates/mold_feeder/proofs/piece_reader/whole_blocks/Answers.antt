use Rattle.std.proofs.Common.{arith, ◌∙◌, ap, List, ℕ, length, length-drop}
use Rattle.std.proofs.lemmas.List.{take_rest}
use Rattle.mold_feeder.proofs.PieceLemmas.{next_block, no_blocks_whole}
use Rattle.mold_feeder.proofs.piece_reader.whole_blocks.Goals as goal

pub blocks-2-init : goal.blocks-2-init
blocks-2-init c = record { within = omega arith; whole = no_blocks_whole }

pub blocks-2-preserved : goal.blocks-2-preserved
blocks-2-preserved c = record {
  within = omega (
    arith,
    c.if-rest-len.false,
    c.blocks-2.invariant.within,
    ap (λ (t : List ℕ). length t) (take_rest c.args.bytes.now c.blocks-2.count),
    length-drop c.blocks-2.count c.args.bytes.now,
  );
  whole = next_block c.args.bytes.now _ c.blocks-2.count c.from-len.result (take_rest c.args.bytes.now c.blocks-2.count)
      c.blocks-2.invariant.within (c.from-len.ensures ∙ c.read_u16.ensures) c.if-rest-len.false
      c.blocks-2.invariant.whole;
}
