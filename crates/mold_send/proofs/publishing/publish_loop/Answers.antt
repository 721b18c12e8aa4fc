use Rattle.std.proofs.Common.{◌≡◌, rules, sym, true}
use Rattle.mold_send.proofs.PublishLoopLemmas.{left_so, published_so}
use Rattle.mold_send.proofs.publishing.publish_loop.Goals as goal

pub returns-clause-run : goal.returns-clause-run
returns-clause-run g c modeled =
    published_so g.D.Datagrams.port c.args.a c.args.b c.args.beats c.args.ends c.args.publisher.now _ c.publish.result
    _ c.publish.new.self.two_lines.port.now _ _ _ _ _
    (let same = sym c.publish.ensures.same.two_lines.port in search rules)
    (c.publish.ensures.run modeled)

pub returns-clause-journal : goal.returns-clause-journal
returns-clause-journal g c =
    left_so c.args.publisher.now _ c.publish.result
    (g.D.Datagrams.modeled ≡ true) c.publish.new.self.publisher.now.journal _
    (let same = sym c.publish.ensures.same.publisher in search rules)
    c.publish.ensures.journal
