use Rattle.std.proofs.Common.{◌≡◌, ◌∙◌, ap, length, replicate, subst, sym}
use Rattle.std.specs.Borrow.{MutBor}
use Rattle.mold_publish.specs.Sending.{end_packet}
use Rattle.mold_send.specs.PublishLoop.{SendsBoth, beat_packet}
use Rattle.mold_wire.specs.Packet.{spelling_of}
use Rattle.mold_session.specs.Publisher.{PublisherState, closed}
use Rattle.mold_send.proofs.SendingLemmas.{close_done, sends_behind}
use Rattle.mold_send.proofs.publication.Publication.send_close.Goals as goal

pub returns-clause-sends : goal.returns-clause-sends
returns-clause-sends g c modeled unclosed =
    let kept = ap (λ (p : MutBor PublisherState). p.now) c.send_beats.ensures.publisher in
    let sent = subst (λ (p : PublisherState). p.sent ≡ length p.journal.messages) (sym kept) c.requires in
    let shut = close_done c.close.result _ _ _ c.close.ensures.refused sent c.close.ensures.closed in
    sends_behind g.D.Datagrams.port
    (replicate c.args.beats (spelling_of (beat_packet c.args.self.now.publisher.now.journal)))
    (replicate c.args.ends (spelling_of (end_packet c.args.self.now.publisher.now.journal)))
    c.args.self.now.two_lines c.send_beats.new.self.two_lines c.send_ends.new.self.two_lines c.send_beats.ensures.same.two_lines
    (c.send_beats.ensures.sends modeled unclosed)
    (subst
    (λ (p : PublisherState).
    SendsBoth g.D.Datagrams.port (replicate c.args.ends (spelling_of (end_packet p.journal)))
    c.send_beats.new.self.two_lines c.send_ends.new.self.two_lines)
    (shut ∙ ap (λ (p : PublisherState). closed p) kept)
    (c.send_ends.ensures.sends modeled))
