use Rattle.std.proofs.Common.{inr, arith}
use Rattle.mold_durable.proofs.FollowingLemmas.{head_fault, head_found, head_refused_here}
use Rattle.mold_durable.proofs.following.read_head.Goals as goal

pub returns-in-Ok-split_head-clause-found : goal.returns-in-Ok-split_head-clause-found
returns-in-Ok-split_head-clause-found g c = λ writer bytes shown writes.
    head_found bytes (g.F.GrowingFile.moment c.args.file.now) (g.F.GrowingFile.moment c.read_at.new.self)
    c.read_at.new.buffer c.in-Ok.count c.in-Ok.ensures.count.0 (omega (arith, c.read_at.auto.buffer))
    (c.in-Ok.ensures.bytes bytes shown) writer writes c.in-Ok-split_head.session c.in-Ok-split_head.ensures.head

pub returns-in-Err-split_head-clause-accepted : goal.returns-in-Err-split_head-clause-accepted
returns-in-Err-split_head-clause-accepted g c = λ writer bytes shown writes.
    head_fault bytes (g.F.GrowingFile.moment c.args.file.now) (g.F.GrowingFile.moment c.read_at.new.self)
    c.read_at.new.buffer c.in-Ok.count c.in-Ok.ensures.count.0 (omega (arith, c.read_at.auto.buffer))
    (c.in-Ok.ensures.bytes bytes shown) writer writes c.in-Err-split_head.error c.in-Err-split_head.ensures.refused

pub returns-in-Err-split_head-clause-refused : goal.returns-in-Err-split_head-clause-refused
returns-in-Err-split_head-clause-refused g c = λ bytes shown.
    inr (head_refused_here bytes (g.F.GrowingFile.moment c.args.file.now) (g.F.GrowingFile.moment c.read_at.new.self)
    c.read_at.new.buffer c.in-Ok.count c.in-Ok.ensures.count.0 (omega (arith, c.read_at.auto.buffer))
    (c.in-Ok.ensures.bytes (λ moment. bytes) shown) c.in-Err-split_head.error c.in-Err-split_head.ensures.refused)
