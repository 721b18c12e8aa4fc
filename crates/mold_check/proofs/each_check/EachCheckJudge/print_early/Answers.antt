use Rattle.std.proofs.Common.{ap, subst}
use Rattle.std.specs.Prelude.{◌++◌}
use Rattle.mold_devices.specs.Writing.{Moves}
use Rattle.mold_check.specs.EachCheck.{each_text}
use Rattle.mold_check.proofs.MovedLemmas.{front_as}
use Rattle.mold_check.proofs.each_check.EachCheckJudge.print_early.Goals as goal

pub returns-in_err-print-clause-front : goal.returns-in_err-print-clause-front
returns-in_err-print-clause-front g c =
    front_as _ _ _ _
    (ap (λ s. c.args.text.now.items ++ each_text g.J.Judge.judging (g.N.Naming.named c.args.naming.now) s) c.self.view_is)
    c.in_err-print.ensures.front

pub returns-clause-moved : goal.returns-clause-moved
returns-clause-moved g c =
    subst
    (λ s. Moves (g.K.Sink.held c.args.sink.now) (g.K.Sink.held c.print.new.sink)
    (c.args.text.now.items ++ each_text g.J.Judge.judging (g.N.Naming.named c.args.naming.now) s) c.print.new.text.items)
    c.self.view_is c.in_ok-print.ensures.moved.0

pub returns-clause-front : goal.returns-clause-front
returns-clause-front g c =
    front_as _ _ _ _
    (ap (λ s. c.args.text.now.items ++ each_text g.J.Judge.judging (g.N.Naming.named c.args.naming.now) s) c.self.view_is)
    c.in_ok-print.ensures.front
