use Rattle.std.proofs.Common.{◌+◌, ◌*◌, arith, refl, sym, ◌∙◌}
use Rattle.std.proofs.lemmas.Simd.{below_from_Fits, chunk-fits, take_more_put_chunk}
use Rattle.mold_digits.proofs.BlockLemmas.{block_bad, block_good, block_read}
use Rattle.mold_digits.proofs.DecodingLemmas.{match_err}
use mir.Syntax.{w8}
use Rattle.mold_digits.proofs.decoding.block.decode_block.Goals as goal

pub returns-then-has_large : goal.returns-then-has_large
returns-then-has_large c =
    let bytes = below_from_Fits w8 _ (chunk-fits w8 (2 * c.args.offset) 32 c.args.digits.now c.type_inv.digits) in
    let read =
    block_read c.args.digits.now _ _ _ _ (2 * c.args.offset) c.requires.digits bytes c.readings-first.ensures
    c.readings-second.ensures c.at_even_places-high.ensures c.at_odd_places-low.ensures in
    match_err _ _ _ (block_bad (2 * c.args.offset) _ _ _ read (sym c.has_large.ensures ∙ c.if-has_large.true)) refl

pub returns : goal.returns
returns c =
    let bytes = below_from_Fits w8 _ (chunk-fits w8 (2 * c.args.offset) 32 c.args.digits.now c.type_inv.digits) in
    let read =
    block_read c.args.digits.now _ _ _ _ (2 * c.args.offset) c.requires.digits bytes c.readings-first.ensures
    c.readings-second.ensures c.at_even_places-high.ensures c.at_odd_places-low.ensures in
    let good = block_good (2 * c.args.offset) _ _ _ read (sym c.has_large.ensures ∙ c.if-has_large.false) in
    let written =
    take_more_put_chunk c.args.offset c.args.out.now c.pair_bytes.result (c.args.offset + 16) (omega arith)
    c.requires.room in
    rw (good, ← c.pair_bytes.ensures.value) (refl, written)
