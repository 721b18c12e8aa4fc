use Rattle.std.proofs.Common.{true, drop, sym, arith, length-append, length-drop}
use Rattle.std.proofs.lemmas.List.{length-take-le}
use Rattle.mold_durable.proofs.FollowerLemmas.{finds_since, only_device, told_later}
use Rattle.mold_durable.proofs.following.read_record.Goals as goal

pub slice_bounds-read_piece-end-2 : goal.slice_bounds-read_piece-end-2
slice_bounds-read_piece-end-2 g c = sym (length-take-le 512 c.args.buffer.now (omega (arith, c.requires.large)))

pub returns-in-Ok-read_piece-clause-found : goal.returns-in-Ok-read_piece-clause-found
returns-in-Ok-read_piece-clause-found g c = λ writer bytes told shown writes has.
    let start = g.F.GrowingFile.moment c.args.file.now in
    let middle = g.F.GrowingFile.moment c.read_piece.new.file in
    let passes = c.read_piece.ensures.passes in
    finds_since writer told start middle (g.F.GrowingFile.moment c.read_piece-in-Err-Damaged.new.file)
    c.args.news.now.messages c.read_piece.new.news.messages c.read_piece-in-Err-Damaged.new.news.messages
    c.in-Ok-read_piece.found passes.later c.in-Err-Damaged.ensures.same
    (c.in-Ok-read_piece.ensures.found writer bytes told (passes.kept bytes shown) writes
    (told_later writer bytes writes told c.args.at.count c.args.at.end start middle true passes.later has))

pub returns-in-Err-read_piece-clause-accepted : goal.returns-in-Err-read_piece-clause-accepted
returns-in-Err-read_piece-clause-accepted g c = λ writer bytes told shown writes each has.
    let start = g.F.GrowingFile.moment c.args.file.now in
    let middle = g.F.GrowingFile.moment c.read_piece.new.file in
    let passes = c.read_piece.ensures.passes in
    only_device _ c.in-Err-read_piece.error
    (omega (
      arith,
      c.requires.large,
      c.read_piece.auto.piece,
      length-take-le 512 c.args.buffer.now (omega (arith, c.requires.large)),
      length-append c.read_piece.new.piece (drop 512 c.args.buffer.now),
      length-drop 512 c.args.buffer.now,
    ))
    (c.in-Err-read_piece.ensures.accepted writer bytes told (passes.kept bytes shown) writes each
    (told_later writer bytes writes told c.args.at.count c.args.at.end start middle true passes.later has))
