use Rattle.std.proofs.Common.{[], Bool, ap, subst, sym, ◌∙◌, rules, take, ℕ, List, Ok}
use Rattle.mold_durable.specs.Follower.{RecordFollowerState}
use Rattle.mold_durable.specs.Following.{Writer, Writes}
use Rattle.mold_indexed_file.specs.Shown.{Shows}
use Rattle.mold_serve.specs.Tally.{with_outgoing}
use Rattle.mold_turns.specs.Outgoing.{OutgoingState}
use Rattle.mold_ports.specs.Ports.{Datagram, Failure, Quiet}
use Rattle.mold_serve.specs.Serving.{MayAnswer, responder_of, service_of}
use Rattle.mold_serve.proofs.ServingLemmas.{reached, tally_is, turn_met}
use Rattle.mold_follow.specs.Serving.{HasLooked, Serves, is_ahead, journal_of}
use Rattle.mold_follow.proofs.ServingLemmas.{faults_only, looked_all, looked_by, looked_in_vain, looked_more}
use Rattle.mold_follow.proofs.ServingLemmas.{looked_none, looked_then, looked_up, turn_cut_short}
use Rattle.mold_follow.proofs.serving.FollowingServer.take_turn.Given.{Over}
use Rattle.mold_follow.proofs.serving.FollowingServer.take_turn.Goals.{In_ok-look_up-in-Ok-Some}
use Rattle.mold_follow.proofs.serving.FollowingServer.take_turn.Goals as goal

-- ---- an error

pub returns-in_err-look_up-in-Ok-Some-clause-turn : goal.returns-in_err-look_up-in-Ok-Some-clause-turn
returns-in_err-look_up-in-Ok-Some-clause-turn g c = λ writer bytes told writes serves modeled. (
  told,
  (
    looked_in_vain g.F.GrowingFile.history g.F.GrowingFile.moment g.F.GrowingFile.synced writer bytes
        c.from_residual.result _ _ c.look_up.new.indexed c.look_up.new.follower told c.from_residual.ensures.0,
    (
      [],
      turn_cut_short c.from_residual.result
          (service_of (journal_of c.args.self.now.follower told) c.args.self.now.server)
          (responder_of (g.D.Datagrams.port c.args.self.now.port) c.args.self.now.tally c.args.self.now.server)
          (g.D.Datagrams.port c.receive.new.self) c.args.self.now.tally c.args.self.now.server
          c.from_residual.ensures.0 (c.receive.ensures.left modeled),
    ),
  ),
)

pub returns-in_err-catch_up-in-Ok-None-clause-turn : goal.returns-in_err-catch_up-in-Ok-None-clause-turn
returns-in_err-catch_up-in-Ok-None-clause-turn g c = λ writer bytes told writes serves modeled. (
  told,
  (
    looked_in_vain g.F.GrowingFile.history g.F.GrowingFile.moment g.F.GrowingFile.synced writer bytes
        c.from_residual-in_err-catch_up-in-Ok-None.result _ _ c.catch_up.new.indexed c.catch_up.new.follower told
        c.from_residual-in_err-catch_up-in-Ok-None.ensures.0,
    (
      [],
      turn_cut_short c.from_residual-in_err-catch_up-in-Ok-None.result
          (service_of (journal_of c.args.self.now.follower told) c.args.self.now.server)
          (responder_of (g.D.Datagrams.port c.args.self.now.port) c.args.self.now.tally c.args.self.now.server)
          (g.D.Datagrams.port c.receive.new.self) c.args.self.now.tally c.args.self.now.server
          c.from_residual-in_err-catch_up-in-Ok-None.ensures.0 (c.receive.ensures.left modeled),
    ),
  ),
)

-- ---- nothing, or a failure

pub returns-in_ok-catch_up-in-Ok-None-clause-turn : goal.returns-in_ok-catch_up-in-Ok-None-clause-turn
returns-in_ok-catch_up-in-Ok-None-clause-turn g c = λ writer bytes told writes serves modeled.
    let all = c.in_ok-catch_up-in-Ok-None.ensures.serves writer bytes told writes serves in
    let came = rw c.in-Ok-None.field-0-is at (c.in-Ok-None.ensures.came modeled) in
    let long = c.receive.auto.buffer ∙ c.requires.buffer in (
      all.told,
      (
        looked_all g.F.GrowingFile.history g.F.GrowingFile.moment g.F.GrowingFile.synced writer bytes _ _ _
            c.catch_up.new.indexed c.catch_up.new.follower told
            (looked_by (journal_of c.args.self.now.follower told) Quiet (g.D.Datagrams.port c.args.self.now.port) _ long
            came)
            all,
        (
          [],
          turn_met _ (service_of (journal_of c.args.self.now.follower all.told) c.args.self.now.server) []
              (responder_of (g.D.Datagrams.port c.args.self.now.port) c.args.self.now.tally c.args.self.now.server) _
              Quiet _ _
              long came (c.receive.ensures.left modeled)
              (reached (tally_is _ _ (search rules))),
        ),
      ),
    )

pub returns-in_ok-catch_up-in-Ok-None-clause-serves : goal.returns-in_ok-catch_up-in-Ok-None-clause-serves
returns-in_ok-catch_up-in-Ok-None-clause-serves g c = λ writer bytes told writes serves.
    let all = c.in_ok-catch_up-in-Ok-None.ensures.serves writer bytes told writes serves in
    record { told = all.told; longer = all.longer; serves = all.serves }

pub returns-in-Err-clause-turn : goal.returns-in-Err-clause-turn
returns-in-Err-clause-turn g c = λ writer bytes told writes serves modeled.
    let long = c.receive.auto.buffer ∙ c.requires.buffer in (
      told,
      (
        looked_none g.F.GrowingFile.history g.F.GrowingFile.moment g.F.GrowingFile.synced writer bytes _ _ _
            c.args.self.now.indexed c.args.self.now.follower told
            (looked_by (journal_of c.args.self.now.follower told) Failure (g.D.Datagrams.port c.args.self.now.port) _
            long
            (c.in-Err.ensures.came modeled)) serves,
        (
          [],
          turn_met _ (service_of (journal_of c.args.self.now.follower told) c.args.self.now.server) []
              (responder_of (g.D.Datagrams.port c.args.self.now.port) c.args.self.now.tally c.args.self.now.server) _
              Failure _ _
              long (c.in-Err.ensures.came modeled) (c.receive.ensures.left modeled)
              (reached
              (tally_is _ _
              (ap (λ (o : OutgoingState). with_outgoing o c.args.self.now.tally) c.count_failure.ensures))),
        ),
      ),
    )

-- ---- a request

-- What the server has when it replies.
found : (g : Over) (c : In_ok-look_up-in-Ok-Some g) (writer : Writer) (bytes : ℕ → List ℕ) (told : List (List ℕ)) →
    Writes writer bytes →
    Serves g.F.GrowingFile.history g.F.GrowingFile.moment g.F.GrowingFile.synced writer bytes c.args.self.now.indexed
    c.args.self.now.follower told →
    (after : List (List ℕ)) × HasLooked {T = Unit {0}} g.F.GrowingFile.history g.F.GrowingFile.moment
    g.F.GrowingFile.synced writer bytes (Ok tt)
    (is_ahead (journal_of c.args.self.now.follower told) (take c.in-Ok-Some.len c.receive.new.buffer))
    (g.F.GrowingFile.moment c.args.self.now.indexed.file) told c.look_up.new.indexed c.look_up.new.follower after
found g c writer bytes told writes serves =
    looked_up g.F.GrowingFile.history g.F.GrowingFile.moment g.F.GrowingFile.synced writer bytes
    (is_ahead (journal_of c.args.self.now.follower told) (take c.in-Ok-Some.len c.receive.new.buffer))
    (g.F.GrowingFile.moment c.args.self.now.indexed.file) c.args.self.now.indexed c.look_up.new.indexed
    c.args.self.now.follower c.look_up.new.follower told serves
    (λ ahead. c.in_ok-look_up-in-Ok-Some.ensures.all writer bytes told writes serves ahead)
    (λ none. c.look_up.ensures.waits (journal_of c.args.self.now.follower told) serves.shown none)

-- It may respond from the journal with these messages.
may : (g : Over) (c : In_ok-look_up-in-Ok-Some g) (writer : Writer) (bytes : ℕ → List ℕ) (after : List (List ℕ)) →
    Serves g.F.GrowingFile.history g.F.GrowingFile.moment g.F.GrowingFile.synced writer bytes c.look_up.new.indexed
    c.look_up.new.follower after →
    MayAnswer (Shows g.F.GrowingFile.history g.F.GrowingFile.moment) c.look_up.new.indexed c.args.self.now.server
    (journal_of c.args.self.now.follower after)
may g c writer bytes after serves = record {
  shown =
      subst (Shows g.F.GrowingFile.history g.F.GrowingFile.moment c.look_up.new.indexed)
      (ap (λ (f : RecordFollowerState). journal_of f after) c.look_up.ensures.follower) serves.shown;
  longest = c.requires.longest;
}

pub returns-in_ok-look_up-in-Ok-Some-clause-turn : goal.returns-in_ok-look_up-in-Ok-Some-clause-turn
returns-in_ok-look_up-in-Ok-Some-clause-turn g c = λ writer bytes told writes serves modeled.
    let history = g.F.GrowingFile.history in
    let moment = g.F.GrowingFile.moment in
    let synced = g.F.GrowingFile.synced in
    let step = (goal.at.returns-in_ok-look_up-in-Ok-Some-clause-turn g c).In_ok-look_up-in-Ok-Some in
    let has = found g step writer bytes told writes serves in
    let journal = journal_of c.args.self.now.follower told in
    let request = take c.in-Ok-Some.len c.receive.new.buffer in
    let replied =
    c.answer.ensures.replied (journal_of c.args.self.now.follower has.0) (may g step writer bytes has.0 has.1.serves)
    modeled in
    let came = rw c.in-Ok-Some.field-0-is at (c.in-Ok-Some.ensures.came modeled) in
    let long = c.receive.auto.buffer ∙ c.requires.buffer in (
      has.0,
      (
        subst (λ (looked : Bool). HasLooked history moment synced writer bytes c.answer.result looked
            (moment c.args.self.now.indexed.file) told c.answer.new.self.indexed c.answer.new.self.follower has.0)
            (sym (looked_by journal (Datagram c.in-Ok-Some.from request) (g.D.Datagrams.port c.args.self.now.port) _ long
            came))
            (looked_then history moment synced writer bytes c.answer.result (is_ahead journal request)
            (moment c.args.self.now.indexed.file) c.look_up.new.indexed c.answer.new.self.indexed c.look_up.new.follower
            c.answer.new.self.follower told has.0 writes c.answer.ensures.read c.answer.ensures.shown
            c.answer.ensures.follower has.1),
        (
          replied.0,
          turn_met _ _ replied.0
              (responder_of (g.D.Datagrams.port c.args.self.now.port) c.args.self.now.tally c.args.self.now.server) _
              (Datagram c.in-Ok-Some.from request) _ _ long came (c.receive.ensures.left modeled) replied.1,
        ),
      ),
    )

pub returns-in_ok-look_up-in-Ok-Some-clause-serves : goal.returns-in_ok-look_up-in-Ok-Some-clause-serves
returns-in_ok-look_up-in-Ok-Some-clause-serves g c = λ writer bytes told writes serves.
    let history = g.F.GrowingFile.history in
    let moment = g.F.GrowingFile.moment in
    let synced = g.F.GrowingFile.synced in
    let step = (goal.at.returns-in_ok-look_up-in-Ok-Some-clause-serves g c).In_ok-look_up-in-Ok-Some in
    let has = found g step writer bytes told writes serves in
    looked_more history moment synced writer bytes c.answer.result _ _ c.answer.new.self.indexed
    c.answer.new.self.follower told has.0
    (looked_then history moment synced writer bytes c.answer.result _ _ c.look_up.new.indexed
    c.answer.new.self.indexed c.look_up.new.follower c.answer.new.self.follower told has.0 writes c.answer.ensures.read
    c.answer.ensures.shown c.answer.ensures.follower has.1)

pub returns-in_ok-look_up-in-Ok-Some-clause-refused : goal.returns-in_ok-look_up-in-Ok-Some-clause-refused
returns-in_ok-look_up-in-Ok-Some-clause-refused g c =
    let step = (goal.at.returns-in_ok-look_up-in-Ok-Some-clause-refused g c).In_ok-look_up-in-Ok-Some in
    faults_only c.answer.result
    (MayAnswer (Shows g.F.GrowingFile.history g.F.GrowingFile.moment) c.look_up.new.indexed c.args.self.now.server)
    (λ writer bytes told. Serves g.F.GrowingFile.history g.F.GrowingFile.moment g.F.GrowingFile.synced writer bytes
    c.args.self.now.indexed c.args.self.now.follower told) _
    (λ writer bytes told writes serves.
    let has = found g step writer bytes told writes serves in
    (journal_of c.args.self.now.follower has.0, may g step writer bytes has.0 has.1.serves))
    c.answer.ensures.refused
