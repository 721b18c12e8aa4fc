use Rattle.std.proofs.Common.{[], ◌∷◌, List, ℕ, replicate, subst, ◌∙◌}
use Rattle.mold_feeder.specs.FeedLines.{SendsOn, lines_at}
use Rattle.mold_feeder.proofs.LineLemmas.{replicate_push, sends_more}
use Rattle.mold_feeder.proofs.feed_lines.send_often.Goals as goal

pub loop-time-preserved : goal.loop-time-preserved
loop-time-preserved g c = record {
  sends = λ modeled.
      subst
      (λ (xs : List (List ℕ)). SendsOn c.args.lines.now xs
      (lines_at (g.L.PortSet.state c.args.ports.now).sent c.args.counts.now)
      (lines_at (g.L.PortSet.state c.send_on_lines.new.ports).sent c.send_on_lines.new.counts))
      (replicate_push c.loop-time._time c.args.datagram.now)
      (sends_more c.args.lines.now (replicate c.loop-time._time c.args.datagram.now) (c.args.datagram.now ∷ []) _ _ _
      (c.loop-time.invariant.sends modeled) (c.send_on_lines.ensures.sends modeled));
  given = λ modeled. c.send_on_lines.ensures.given modeled ∙ c.loop-time.invariant.given modeled;
  clock = c.send_on_lines.ensures.clock ∙ c.loop-time.invariant.clock;
}
