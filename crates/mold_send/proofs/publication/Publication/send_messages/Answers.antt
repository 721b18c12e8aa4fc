use Rattle.std.proofs.Common.{◌∙◌, arith, refl}
use Rattle.mold_publish.proofs.DatagramLemmas.{PackingLaws, all_sent}
use Rattle.mold_send.proofs.SendingLemmas.{full_went, lines_twice, same_at_first, sends_same, sent_begun, sent_end}
use Rattle.mold_send.proofs.SendingLemmas.{sent_before, sent_full, sent_not, sent_refused}
use Rattle.mold_send.proofs.publication.Publication.send_messages.Given.{Over}
use Rattle.mold_send.proofs.publication.Publication.send_messages.Goals as goal
use Rattle.mold_send.proofs.publication.Publication.send_messages.Goals.{After-packing_law}

laws : (g : Over) → After-packing_law g → PackingLaws
laws g c = record {
  is_front = c.front_law.ensures.front;
  only = c.front_law.ensures.only;
  stops = c.front_law.ensures.stops;
  some = c.front_law.ensures.some;
  whole = c.front_law.ensures.whole;
  none = c.packing_law.ensures.none;
  first = c.packing_law.ensures.first;
}

pub publishing-init : goal.publishing-init
publishing-init g c = record {
  room = c.requires.room;
  few = omega (arith, c.requires.none);
  sends = λ modeled.
      sent_begun g.M.MessageReader.input_kind g.M.MessageReader.entries c.args.self.now.two_lines.a.now c.args.self.now.two_lines.b.now c.args.self.now.publisher.now
      (g.S.Source.left c.args.source.now) _ _ _ c.in_ok-messages.ensures c.requires.none;
  same = same_at_first c.args.self.now;
  source = refl;
}

pub publishing-preserved : goal.publishing-preserved
publishing-preserved g c =
    let filled = rw c.in-Full.is at c.in_ok-fill.ensures.filled in
    let known = laws g (goal.at.publishing-preserved g c).After-packing_law in
    let went = full_went known c.publishing.self.publisher.now c.fill.new.publisher c.send_next.new.self.publisher.now
    c.publishing.self.datagrams _ filled.room filled.sent c.publishing.invariant.few c.send_next.ensures.sent
    c.send_next.ensures.counted in
    record {
      room = went.0;
      few = went.1;
      sends = λ modeled.
          sent_full known c.args.self.now.two_lines.a.now c.args.self.now.two_lines.b.now c.args.self.now.publisher.now
          c.publishing.self.publisher.now c.fill.new.publisher _ _ _ _ _ _ _
          c.publishing.self.datagrams _ (c.publishing.invariant.sends modeled) filled c.send_next.ensures.sent
          (sends_same g.D.Datagrams.port _ c.args.self.now.two_lines c.publishing.self.two_lines c.send_next.new.self.two_lines
          c.publishing.invariant.same.two_lines (c.send_next.ensures.sends modeled))
          c.send_next.ensures.counted;
      same = record {
        publisher = c.send_next.ensures.same.publisher ∙ c.publishing.invariant.same.publisher;
        two_lines = lines_twice c.publishing.invariant.same.two_lines c.send_next.ensures.same.two_lines;
      };
      source = c.in_ok-fill.ensures.failures ∙ c.publishing.invariant.source;
    }

pub returns-in_err-messages-clause-sends : goal.returns-in_err-messages-clause-sends
returns-in_err-messages-clause-sends g c modeled =
    sent_not c.args.self.now.two_lines.a.now c.args.self.now.two_lines.b.now c.args.self.now.publisher.now _ _ c.from_residual.result _ _
    c.from_residual.ensures.0

pub returns-in-End-clause-sends : goal.returns-in-End-clause-sends
returns-in-End-clause-sends g c modeled =
    sent_end (laws g (goal.at.returns-in-End-clause-sends g c).After-packing_law) c.args.self.now.two_lines.a.now
    c.args.self.now.two_lines.b.now c.args.self.now.publisher.now c.publishing.self.publisher.now c.fill.new.publisher
    _ _ _ _ _ _ _ c.publishing.self.datagrams _
    (c.publishing.invariant.sends modeled) (rw c.in-End.is at c.in_ok-fill.ensures.filled) c.send_next-in-End.ensures.sent
    (sends_same g.D.Datagrams.port _ c.args.self.now.two_lines c.publishing.self.two_lines c.send_next-in-End.new.self.two_lines
    c.publishing.invariant.same.two_lines (c.send_next-in-End.ensures.sends modeled))
    c.send_next-in-End.ensures.counted

pub returns-in-End-clause-all : goal.returns-in-End-clause-all
returns-in-End-clause-all g c none =
    let filled = rw c.in-End.is at c.in_ok-fill.ensures.filled in
    rw c.send_next-in-End.ensures.sent
    (all_sent (laws g (goal.at.returns-in-End-clause-all g c).After-packing_law) c.fill.new.publisher filled.room)

pub returns-in-End-clause-same : goal.returns-in-End-clause-same
returns-in-End-clause-same g c = record {
  publisher = c.send_next-in-End.ensures.same.publisher ∙ c.publishing.invariant.same.publisher;
  two_lines = lines_twice c.publishing.invariant.same.two_lines c.send_next-in-End.ensures.same.two_lines;
}

pub returns-in-Lines-clause-sends : goal.returns-in-Lines-clause-sends
returns-in-Lines-clause-sends g c modeled =
    sent_refused (laws g (goal.at.returns-in-Lines-clause-sends g c).After-packing_law) c.args.self.now.two_lines.a.now
    c.args.self.now.two_lines.b.now c.args.self.now.publisher.now c.publishing.self.publisher.now c.fill.new.publisher
    _ _ _ c.in-Refused.refusal _ _ c.publishing.self.datagrams
    (c.publishing.invariant.sends modeled) (rw c.in-Refused.is at c.in_ok-fill.ensures.filled) c.in-Lines.is

pub returns-in-Blocks-clause-sends : goal.returns-in-Blocks-clause-sends
returns-in-Blocks-clause-sends g c modeled =
    sent_before (laws g (goal.at.returns-in-Blocks-clause-sends g c).After-packing_law) c.args.self.now.two_lines.a.now
    c.args.self.now.two_lines.b.now c.args.self.now.publisher.now c.publishing.self.publisher.now c.fill.new.publisher
    _ _ _ _ c.in-Refused.refusal _ _ _ c.publishing.self.datagrams _
    (c.publishing.invariant.sends modeled) (rw c.in-Refused.is at c.in_ok-fill.ensures.filled) c.in-Blocks.is
    c.send_next-in-Blocks.ensures.sent
    (sends_same g.D.Datagrams.port _ c.args.self.now.two_lines c.publishing.self.two_lines c.send_next-in-Blocks.new.self.two_lines
    c.publishing.invariant.same.two_lines (c.send_next-in-Blocks.ensures.sends modeled))
    c.send_next-in-Blocks.ensures.counted
