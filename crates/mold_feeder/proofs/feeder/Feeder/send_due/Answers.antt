use Rattle.std.proofs.Common.{◌∙◌, sym}
use Rattle.mold_feeder.proofs.FeederLemmas.{sends_data}
use Rattle.mold_feeder.proofs.feeder.Feeder.send_due.Goals as goal

pub returns-then-send_paced-clause-sent : goal.returns-then-send_paced-clause-sent
returns-then-send_paced-clause-sent g c =
    sends_data g.S.Storage.shows g.S.Storage.may_leave g.L.PortSet.modeled g.L.PortSet.state c.args.lines.now
    (g.L.PortSet.state c.args.self.now.ports).now c.args.self.now c.send_paced.new.self
    (sym c.send_paced.ensures.some ∙ c.if-send_paced.true) (c.send_paced.ensures.sent c.if-send_paced.true)
