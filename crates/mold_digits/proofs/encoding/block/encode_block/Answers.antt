use Rattle.std.proofs.lemmas.Simd.{length-chunk}
use Rattle.mold_digits.proofs.EncodingLemmas.{block_written}
use Rattle.mold_digits.proofs.encoding.block.encode_block.Goals as goal

pub returns : goal.returns
returns c =
    block_written c.args.out.now _ _ _ c.args.offset (length-chunk c.args.offset 16 c.args.bytes.now c.requires.bytes)
    c.requires.room c.digits.ensures.front c.digits.ensures.back
