use Rattle.std.proofs.Common.{arith}
use Rattle.mold_ffi.proofs.RecordLemmas.{records_long}
use Rattle.mold_ffi.proofs.publisher.resuming.end_of.Goals as goal

pub overflow_mul-result : goal.overflow_mul-result
overflow_mul-result c =
    omega (arith, c.requires, c.next.ensures.value, c.file_length.ensures, records_long c.args.journal.now.messages)

pub overflow_add-result-2 : goal.overflow_add-result-2
overflow_add-result-2 c =
    omega (arith, c.requires, c.next.ensures.value, c.file_length.ensures, records_long c.args.journal.now.messages)

pub returns : goal.returns
returns c =
    omega (arith, c.requires, c.next.ensures.value, c.file_length.ensures, records_long c.args.journal.now.messages)
