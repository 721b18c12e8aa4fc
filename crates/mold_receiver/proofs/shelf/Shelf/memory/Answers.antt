use Rattle.std.proofs.Common.{arith}
use Rattle.mold_receiver.proofs.SizeLemmas.{memory_bound, memory_covers}
use Rattle.mold_receiver.proofs.shelf.Shelf.memory.Goals as goal

pub returns-clause-most : goal.returns-clause-most
returns-clause-most c =
    omega (
      arith,
      c.memory.ensures,
      memory_bound c.args.self.now c.requires.kept c.requires.tight,
      c.requires.kept.segments.spare.few,
      c.requires.kept.segments.spare.less,
      c.requires.kept.segments.spare.exact,
    )

pub returns-clause-least : goal.returns-clause-least
returns-clause-least c =
    omega (arith, c.memory.ensures, memory_covers c.args.self.now c.requires.kept c.requires.tight)
