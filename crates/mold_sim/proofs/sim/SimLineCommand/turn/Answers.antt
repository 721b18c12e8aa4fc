use Rattle.std.proofs.Common.{◌≡◌, ◌++◌, Bool, cond, sym, ap, ◌∙◌}
use Rattle.std.specs.Io.KnownBytes.{prepend_known}
use Rattle.mold_sim.specs.Reports.{receiver_lines}
use Rattle.mold_sim.specs.Sim.{SimState}
use Rattle.mold_sim.proofs.SimLemmas.{told_line, told_all}
use Rattle.mold_sim.proofs.sim.SimLineCommand.turn.Goals as goal
use Rattle.mold_sim.proofs.sim.SimLineCommand.turn.Goals.{then-self, else-self}

pub returns-then-not-branch-clause-told : goal.returns-then-not-branch-clause-told
returns-then-not-branch-clause-told g c =
    let inside = c.self.inside in
    let status : c.if-self.status ≡ cond inside.refused 2 0 =
    elim c.if-self.branch [
      | then-self w ↦ w.status-is ∙ sym (ap (λ (b : Bool). cond b 2 0) w.if-self.true)
      | else-self w ↦ w.status-is ∙ sym (ap (λ (b : Bool). cond b 2 0) w.if-self.false)
    ]
    in
    told_all c.args.self.now {left = prepend_known c.advance.new.self.rest (g.S.Source.left c.advance.new.source)}
    (record {
      line = c.advance.new.self.line;
      gives = rw c.if-not-branch.true at c.in_ok-advance.ensures.line;
      written =
          c.in_ok-push_receivers.ensures.text
          ∙ ap (λ (s : SimState). c.args.out.now.items ++ receiver_lines 0 s.world.subscribers) c.self.view_is;
      status_is = status ∙ ap (λ (s : SimState). cond s.refused 2 0) c.self.view_is;
    })

pub returns-clause-told : goal.returns-clause-told
returns-clause-told g c =
    let inside = c.self.inside in
    let s : SimState = record { world = inside.world; refused = inside.refused } in
    rw (← c.self.view_is)
    (told_line s c.print_line.new.world c.in_ok-self-inside.field-0
    {left = prepend_known c.advance.new.self.rest (g.S.Source.left c.advance.new.source)}
    (record {
      line = c.advance.new.self.line;
      gives = rw c.if-not-branch.false at c.in_ok-advance.ensures.line;
      written = rw (← c.line.ensures) c.in_ok-self-inside.ensures.text;
      refused = rw (← c.line.ensures) c.in_ok-self-inside.ensures.refused;
      goes_on = rw (← c.line.ensures) c.in_ok-self-inside.ensures.world;
    }))
