use Rattle.mold_repair.proofs.FrontLemmas.{front_noted}
use Rattle.mold_repair.proofs.repairer.Repairer.note_line.Goals as goal

pub invariant_of-self-clause-fronted : goal.invariant_of-self-clause-fronted
invariant_of-self-clause-fronted c =
    let old = c.args.self.now in
    front_noted old.arbiter.view c.args.line c.args.datagram.now old.pacer c.note.new.pacer old.front.number
    old.front.until c.note.ensures.noted old.fronted
