use Rattle.std.proofs.Common.{rules}
use Rattle.std.proofs.lemmas.Iterator.{YieldsList-from_slice, YieldsList-from_map_by}
use Rattle.std.proofs.lemmas.Iterator.Consumers.{map_from_collect}
use Rattle.mold_check.specs.Entries.{bytes_of}
use Rattle.mold_check.proofs.datagrams.lend_bytes.Goals as goal

pub returns : goal.returns
returns c =
    map_from_collect _ c.collect.ensures.ran
    (YieldsList-from_map_by _ (λ b. b.now) (λ e. bytes_of e.now) (YieldsList-from_slice c.args.order.now cc)
    c.map.ensures.closure (λ x r q k. search rules))
