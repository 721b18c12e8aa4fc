use Rattle.std.proofs.Common.{ℕ, length, refl, subst, take, arith}
use Rattle.std.proofs.lemmas.List.{length-take-le}
use Rattle.mold_durable.specs.Following.{IsOfPiece}
use Rattle.mold_durable.proofs.FollowingLemmas.{fault_piece, found_piece, piece_counts, piece_of_device, piece_takes}
use Rattle.mold_durable.proofs.following.read_piece.Goals as goal

pub returns-in-Ok-find_record-clause-taken : goal.returns-in-Ok-find_record-clause-taken
returns-in-Ok-find_record-clause-taken g c =
    piece_takes c.args.most c.args.at.count c.args.at.end (length c.args.piece.now) c.in-Ok.count
    (take c.in-Ok.count c.read_at.new.buffer) c.args.news.now.messages c.find_record.new.news.messages
    c.in-Ok-find_record.found (length-take-le c.in-Ok.count c.read_at.new.buffer c.in-Ok.ensures.count.0)
    (omega (arith, c.in-Ok.ensures.count.0, c.read_at.auto.buffer)) c.in-Ok.ensures.within
    c.in-Ok-find_record.ensures.found

pub returns-in-Ok-find_record-clause-found : goal.returns-in-Ok-find_record-clause-found
returns-in-Ok-find_record-clause-found g c = λ writer bytes told shown writes has.
    found_piece writer bytes writes told c.args.most c.args.at.count c.args.at.end
    (g.F.GrowingFile.moment c.args.file.now) (g.F.GrowingFile.moment c.read_at.new.self) c.read_at.new.buffer
    c.in-Ok.count c.in-Ok.ensures.count.0 has.counted has.ends c.read_at.ensures.passes.later
    (c.in-Ok.ensures.bytes bytes shown) c.args.news.now.messages c.find_record.new.news.messages
    c.in-Ok-find_record.found (omega (arith, c.ranges.most.fits)) (has.known refl) c.in-Ok-find_record.ensures.found

pub returns-in-Err-find_record-clause-accepted : goal.returns-in-Err-find_record-clause-accepted
returns-in-Err-find_record-clause-accepted g c = λ writer bytes told shown writes each has.
    piece_of_device c.args.most c.args.at.count (length c.args.piece.now) (take c.in-Ok.count c.read_at.new.buffer)
    c.in-Err-find_record.error c.in-Err-find_record.ensures.refused (λ fault.
    subst (λ (n : ℕ). IsOfPiece n c.in-Err-find_record.error) c.read_at.auto.buffer
    (fault_piece writer bytes writes told c.args.most c.args.at.count c.args.at.end
    (g.F.GrowingFile.moment c.args.file.now) (g.F.GrowingFile.moment c.read_at.new.self) c.read_at.new.buffer
    c.in-Ok.count c.in-Ok.ensures.count.0 has.counted has.ends c.read_at.ensures.passes.later
    (c.in-Ok.ensures.bytes bytes shown) c.in-Err-find_record.error (omega (arith, c.ranges.most.fits))
    (omega (arith, c.requires.some, c.read_at.auto.buffer)) each (has.known refl) fault))

pub returns-in-Err-find_record-clause-failures : goal.returns-in-Err-find_record-clause-failures
returns-in-Err-find_record-clause-failures g c =
    piece_counts c.args.most c.args.at.count (g.F.GrowingFile.failed c.args.file.now)
    (g.F.GrowingFile.failed c.read_at.new.self) (take c.in-Ok.count c.read_at.new.buffer)
    c.in-Err-find_record.error c.in-Err-find_record.ensures.refused c.in-Ok.ensures.failures
