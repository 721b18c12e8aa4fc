use Rattle.mold_receiver.proofs.KeptLemmas.{kept_more, more_on}
use Rattle.mold_receiver.proofs.SegmentLemmas.{more_either}
use Rattle.mold_receiver.proofs.shelf.Shelf.add_segment.Goals as goal

pub returns-clause-kept : goal.returns-clause-kept
returns-clause-kept c =
    kept_more c.args.self.now c.append.new.self c.requires.kept c.append.ensures.whole
    (more_either c.args.self.now.segments c.append.new.self c.args.bytes.now c.append.result c.append.ensures.appended
    c.append.ensures.same)

pub returns-clause-same : goal.returns-clause-same
returns-clause-same c =
    more_on c.args.self.now c.append.new.self c.requires.kept
    (more_either c.args.self.now.segments c.append.new.self c.args.bytes.now c.append.result c.append.ensures.appended
    c.append.ensures.same)
