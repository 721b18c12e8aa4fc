use Rattle.std.proofs.Common.{subst}
use Rattle.mold_input.specs.declared.message_format.MessageFormat.{MessageFormat}
use Rattle.mold_receive.specs.Receiving.{EndsIn, last_line}
use Rattle.mold_turns.specs.Outgoing.{note_side}
use Rattle.mold_recorder.specs.Recording.{state_of}
use Rattle.mold_recorder.proofs.EndingLemmas.{same_state}
use Rattle.mold_recorder.proofs.RecordingLemmas.{said_last}
use Rattle.mold_recorder.proofs.feed_recorder.FeedRecorder.end.Goals as goal

pub returns-clause-said : goal.returns-clause-said
returns-clause-said g c = λ blocks.
    let old = c.args.self.now.feed in
    let last = last_line old.repairer (g.D.PortSet.state old.ports).failures in
    said_last _ _ last c.push_end.new.self.outgoing.side
    (subst (λ (f : MessageFormat). EndsIn (note_side f last) c.push_end.new.self.outgoing.side) blocks
    c.in_ok-push_end.ensures.side)
    c.in_ok-send_side.ensures.whole

pub returns-clause-state : goal.returns-clause-state
returns-clause-state g c =
    same_state (state_of g.D.PortSet.state c.args.self.now.feed) _ c.push_end.ensures.repairer c.push_end.ensures.ports
