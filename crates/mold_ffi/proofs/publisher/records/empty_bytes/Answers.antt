use Rattle.std.proofs.Common.{refl, replicate, rules}
use Rattle.mold_ffi.proofs.RecordLemmas.{empty_put}
use Rattle.mold_ffi.proofs.publisher.records.empty_bytes.Goals as goal

pub returns : goal.returns
returns c =
    empty_put (replicate 19 0) c.copy_after.new.buffer c.copy_after-2.new.buffer c.magic.result c.args.session.0 refl
    c.magic.ensures (search rules) c.copy_after.ensures c.copy_after-2.ensures
