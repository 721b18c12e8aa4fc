use Rattle.std.proofs.Common.{◌∙◌}
use Rattle.mold_audit.proofs.DigestLemmas.{short_is}
use Rattle.mold_audit.proofs.digest.short_word.Goals as goal

pub returns : goal.returns
returns c = c.read_uint.ensures ∙ short_is c.args.message.now c.requires
