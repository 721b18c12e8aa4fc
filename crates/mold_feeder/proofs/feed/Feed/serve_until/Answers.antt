use Rattle.std.proofs.Common.{◌∙◌, ap, refl}
use Rattle.mold_feeder.specs.Feeding.{state_of}
use Rattle.mold_feeder.specs.declared.feeder.Feeder.{Feeder}
use Rattle.mold_feeder.proofs.FeedingLemmas.{fed_served_on, fed_yet}
use Rattle.mold_feeder.proofs.feed.Feed.serve_until.Goals as goal

pub loop-init : goal.loop-init
loop-init g c = record {
  fed = λ life is.
      fed_yet g.S.Storage.shows g.S.Storage.may_leave g.S.Storage.moment g.S.Storage.left_since g.S.Storage.failed
      g.L.PortSet.modeled
      g.D.Datagrams.modeled c.args.lines.now g.met.S.Storage.only_now life
      (state_of g.L.PortSet.state g.D.Datagrams.port c.args.self.now) is;
  longest = c.requires.longest;
  buffer = c.requires.buffer;
  journal = refl;
  input = refl;
}

pub loop-preserved : goal.loop-preserved
loop-preserved g c = record {
  fed = λ life is.
      fed_served_on g.S.Storage.shows g.S.Storage.may_leave g.S.Storage.moment g.S.Storage.left_since g.S.Storage.failed
      g.L.PortSet.modeled g.D.Datagrams.modeled c.args.lines.now g.met.S.Storage.only_now g.L.PortSet.state g.D.Datagrams.port life
      (state_of g.L.PortSet.state g.D.Datagrams.port c.args.self.now) c.loop.self c.doze.new.self c.serve.new.self
      (c.loop.invariant.fed life is)
      (ap (λ (f : Feeder g.row.S.Denot g.row.L.Denot). f.publisher) c.doze.ensures.feeder) c.doze.ensures.sent
      c.doze.ensures.requests c.serve.ensures.fed;
  longest = c.serve.ensures.longest;
  buffer = c.serve.ensures.buffer;
  journal = c.serve.ensures.journal
      ∙ ap (λ (f : Feeder g.row.S.Denot g.row.L.Denot). f.publisher.publisher.journal) c.doze.ensures.feeder
      ∙ c.loop.invariant.journal;
  input = c.serve.ensures.input ∙ c.doze.ensures.input ∙ c.loop.invariant.input;
}
