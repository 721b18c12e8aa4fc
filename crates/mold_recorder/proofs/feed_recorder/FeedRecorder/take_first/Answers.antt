use Rattle.std.proofs.Common.{List, ◌∷◌, [], ℕ, ap, subst, sym}
use Rattle.std.specs.Prelude.{Option}
use Rattle.mold_port_set.specs.PortSet.{Given}
use Rattle.mold_receive.specs.Receiving.{datagram_of_first, port_of}
use Rattle.mold_receive.specs.declared.first_packet.FirstPacket.{FirstPacket}
use Rattle.mold_repair.specs.declared.step.RepairStep.TheVariants.{Take}
use Rattle.mold_recorder.specs.Recording.{HasRecorded, HasStopped, state_of}
use Rattle.mold_recorder.proofs.RecordingLemmas.{recorded_first, recorded_yet, stopped_first, stopped_saved}
use Rattle.mold_recorder.proofs.feed_recorder.FeedRecorder.take_first.Goals as goal

pub returns-in-Ok-clause-recorded : goal.returns-in-Ok-clause-recorded
returns-in-Ok-clause-recorded g c = λ lines servers.
    let R : List Given → Type 0 = λ given.
    HasRecorded lines servers g.D.PortSet.modeled g.S.Storage.shows g.S.Storage.may_leave g.S.Storage.moment
    g.S.Storage.left_since given
    (state_of g.D.PortSet.state c.args.self.now.feed) (state_of g.D.PortSet.state c.take.new.self.feed)
    c.args.journal.now c.take.new.journal in
    subst (λ (f : Option FirstPacket). R (datagram_of_first lines f)) (sym c.in-Some.is)
    (subst (λ (b : List ℕ). R (record { port = port_of lines c.in-Some.first.origin; bytes = b } ∷ []))
    c.as_slice.ensures.value
    (recorded_first g.S.Storage.shows g.S.Storage.may_leave g.S.Storage.moment g.S.Storage.left_since
    g.met.S.Storage.only_now lines servers g.D.PortSet.modeled
    (Take (g.D.PortSet.state c.args.self.now.feed.ports).now c.in-Some.first.origin c.as_slice.result)
    (state_of g.D.PortSet.state c.args.self.now.feed) (state_of g.D.PortSet.state c.take.new.self.feed)
    c.args.journal.now c.take.new.journal _ c.in-Ok.ensures.taken
    (ap (λ p. g.D.PortSet.state p) c.take.ensures.ports)))

pub returns-in-Err-clause-stopped : goal.returns-in-Err-clause-stopped
returns-in-Err-clause-stopped g c = λ lines servers.
    stopped_saved g.S.Storage.shows g.S.Storage.may_leave g.S.Storage.moment g.S.Storage.left_since
    g.met.S.Storage.only_now lines servers g.D.PortSet.modeled (datagram_of_first lines c.args.first.now)
    (state_of g.D.PortSet.state c.args.self.now.feed) (state_of g.D.PortSet.state c.take.new.self.feed)
    c.args.journal.now c.take.new.journal c.save.new.journal
    (
    let R : List Given → Type 0 = λ given.
    HasStopped lines servers g.D.PortSet.modeled g.S.Storage.shows g.S.Storage.may_leave g.S.Storage.moment
    g.S.Storage.left_since given
    (state_of g.D.PortSet.state c.args.self.now.feed) (state_of g.D.PortSet.state c.take.new.self.feed)
    c.args.journal.now c.take.new.journal in
    subst (λ (f : Option FirstPacket). R (datagram_of_first lines f)) (sym c.in-Some.is)
    (subst (λ (b : List ℕ). R (record { port = port_of lines c.in-Some.first.origin; bytes = b } ∷ []))
    c.as_slice.ensures.value
    (stopped_first g.S.Storage.shows g.S.Storage.may_leave g.S.Storage.moment g.S.Storage.left_since
    g.met.S.Storage.only_now lines servers g.D.PortSet.modeled
    (Take (g.D.PortSet.state c.args.self.now.feed.ports).now c.in-Some.first.origin c.as_slice.result)
    (state_of g.D.PortSet.state c.args.self.now.feed) (state_of g.D.PortSet.state c.take.new.self.feed)
    c.args.journal.now c.take.new.journal _ c.in-Err.ensures.taken
    (ap (λ p. g.D.PortSet.state p) c.take.ensures.ports))))
    c.save.ensures.unwritten c.save.ensures.committed c.save.ensures.leaves

pub returns-in_default-clause-recorded : goal.returns-in_default-clause-recorded
returns-in_default-clause-recorded g c = λ lines servers.
    subst (λ (f : Option FirstPacket). HasRecorded lines servers g.D.PortSet.modeled g.S.Storage.shows
    g.S.Storage.may_leave g.S.Storage.moment g.S.Storage.left_since (datagram_of_first lines f)
    (state_of g.D.PortSet.state c.args.self.now.feed) (state_of g.D.PortSet.state c.args.self.now.feed)
    c.args.journal.now c.args.journal.now) (sym c.in_default.is)
    (recorded_yet g.S.Storage.shows g.S.Storage.may_leave g.S.Storage.moment g.S.Storage.left_since
    g.met.S.Storage.only_now lines servers g.D.PortSet.modeled (state_of g.D.PortSet.state c.args.self.now.feed)
    c.args.journal.now)
