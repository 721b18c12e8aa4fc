use Rattle.mold_check.proofs.EachLemmas.{inserted_key}
use Rattle.mold_check.proofs.session_table.SessionTable.add_new.Goals as goal

pub returns : goal.returns
returns g c =
    inserted_key g.J.Judge.judging c.self.inside.map.entries c.args.self.now _ c.args.key c.args.number c.args.bytes.now
    c.add.new.self c.new-judge.result c.requires c.self.view_is c.new-judge.ensures c.in_ok-add.ensures
    c.in_ok-insert.ensures.entries
