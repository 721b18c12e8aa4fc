use Rattle.std.proofs.Common.{sym, ◌∙◌}
use Rattle.mold_check.proofs.EachLemmas.{added_on}
use Rattle.mold_check.proofs.session_table.SessionTable.add.Goals as goal

pub returns-in-Some : goal.returns-in-Some
returns-in-Some g c =
    added_on g.J.Judge.judging c.self.inside.map.entries c.args.self.now c.add_at.new.self c.args.key
    c.args.number c.args.bytes.now c.in-Some.index c.add_at.result c.self.view_is (sym c.find.ensures ∙ c.in-Some.is) c.add_at.ensures
