use Rattle.std.proofs.Common.{arith, ◌∙◌, ◌<◌, None, Some, ap, length, sym}
use Rattle.std.proofs.lemmas.Grind.{common_steps}
use Rattle.std.specs.Net.Addr.{ipv4_octets}
use Rattle.std.specs.Prelude.{option_map}
use Rattle.mold_words.specs.declared.address.Address.{Address}
use Rattle.mold_sockets.proofs.SenderLemmas.{fill_more}
use Rattle.mold_sockets.proofs.receiving.responders_of.Goals as goal

pub loop-index-preserved : goal.loop-index-preserved
loop-index-preserved c =
    let within : c.loop-index.index < length c.args.order.now.servers.items = grind arith in
    let few = c.args.order.now.served in
    fill_more (option_map ipv4_octets) (λ server. Some server.host) c.loop-index.list.hosts
    c.args.order.now.servers.items c.loop-index.index (Some c.from_octets.result) c.index.result.now None
    within (omega arith)
    (ap (λ (address : Address). Some address.host) (sym c.index.ensures) ∙ ap Some (sym c.from_octets.ensures))
    c.loop-index.invariant

pub returns : goal.returns
returns c = grind (arith, common_steps)
