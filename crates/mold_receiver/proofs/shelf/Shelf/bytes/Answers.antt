use Rattle.std.proofs.Common.{◌∙◌}
use Rattle.mold_receiver.proofs.UsedLemmas.{used_stored}
use Rattle.mold_receiver.proofs.shelf.Shelf.bytes.Goals as goal

pub returns : goal.returns
returns c = c.used.ensures ∙ used_stored c.args.self.now c.requires.kept c.requires.tight
