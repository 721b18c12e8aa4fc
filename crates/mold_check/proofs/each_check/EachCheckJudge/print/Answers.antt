use Rattle.std.proofs.Common.{◌∙◌, ap, sym}
use Rattle.std.specs.Prelude.{◌++◌}
use Rattle.mold_check.specs.EachCheck.{each_text}
use Rattle.mold_check.proofs.EachLemmas.{each_front, each_sent, status_none, status_some}
use Rattle.mold_check.proofs.MovedLemmas.{front_as}
use Rattle.mold_check.proofs.each_check.EachCheckJudge.print.Goals as goal

pub returns-in_err-status-clause-front : goal.returns-in_err-status-clause-front
returns-in_err-status-clause-front g c =
    front_as _ _ _ _
    (ap (λ s. c.args.text.now.items ++ each_text g.J.Judge.judging (g.N.Naming.named c.args.naming.now) s) c.self.view_is)
    c.in_err-status.ensures.front

pub returns-in_err-send-clause-front : goal.returns-in_err-send-clause-front
returns-in_err-send-clause-front g c =
    each_front g.J.Judge.judging (g.N.Naming.named c.args.naming.now) _ _ _ c.args.text.now.items _ _ _ c.args.self.now
    c.self.view_is c.in_ok-status.ensures.moved.0 c.send.ensures.front

pub returns-then-is_empty : goal.returns-then-is_empty
returns-then-is_empty g c = record {
  whole = (
    each_sent g.J.Judge.judging (g.N.Naming.named c.args.naming.now) _ _ _ c.args.text.now.items _ _ _ c.args.self.now
        c.self.view_is c.in_ok-status.ensures.moved.0 c.in_ok-send.ensures.whole,
    status_none g.J.Judge.judging c.self.inside.table _ c.args.self.now c.self.view_is
        (sym c.is_empty.ensures ∙ c.if-is_empty.true),
  );
  front =
      each_front g.J.Judge.judging (g.N.Naming.named c.args.naming.now) _ _ _ c.args.text.now.items _ _ _ c.args.self.now
      c.self.view_is c.in_ok-status.ensures.moved.0 c.in_ok-send.ensures.front;
  failures = c.in_ok-send.ensures.failures ∙ c.in_ok-status.ensures.failures;
}

pub returns : goal.returns
returns g c = record {
  whole = (
    each_sent g.J.Judge.judging (g.N.Naming.named c.args.naming.now) _ _ _ c.args.text.now.items _ _ _ c.args.self.now
        c.self.view_is c.in_ok-status.ensures.moved.0 c.in_ok-send.ensures.whole,
    status_some g.J.Judge.judging c.self.inside.table _ c.args.self.now _ c.self.view_is
        (sym c.is_empty.ensures ∙ c.if-is_empty.false) c.in_ok-status.ensures.moved.1,
  );
  front =
      each_front g.J.Judge.judging (g.N.Naming.named c.args.naming.now) _ _ _ c.args.text.now.items _ _ _ c.args.self.now
      c.self.view_is c.in_ok-status.ensures.moved.0 c.in_ok-send.ensures.front;
  failures = c.in_ok-send.ensures.failures ∙ c.in_ok-status.ensures.failures;
}
