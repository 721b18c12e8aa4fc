-- What a recorder leaves when it has ended.
use Rattle.std.proofs.Common.{◌≡◌, inl, inr, ℕ, ◌+◌, Bool, true, false, List, [], ◌∷◌, ◌++◌, length, refl, sym, ap}
use Rattle.std.proofs.Common.{if◌then◌else◌}
use Rattle.std.proofs.Common.{subst, ◌∙◌, append_assoc, append-nil, length-append, arith}
use Rattle.mold_port_set.specs.PortSet.{Given, PortSetState}
use Rattle.mold_receive.specs.Receiving.{ReceiverState, is_finished}
use Rattle.mold_receiver.specs.Store.{Message}
use Rattle.mold_repair.specs.declared.repairer.Repairer.{Repairer}
use Rattle.mold_turns.specs.Runs.{Begins}
use Rattle.mold_session.specs.Records.{SpellsJournal3}
use Rattle.mold_durable.specs.DurableJournal.{DurableState}
use Rattle.mold_durable.specs.Life.{IsFileAround, Life, Lives, after as after_moment}
use Rattle.mold_durable.specs.Life.Moment.{Close, Commit}
use Rattle.mold_durable.specs.Storage.{LeavesOnly}
use Rattle.mold_recorder.specs.Appending.{HasAppended, IsPartFile, LeavesParts, committed_life}
use Rattle.mold_recorder.specs.Recording.{HasBroken, HasDelivered, HasEnded, HasEndedJournal, HasRecorded, HasStopped}
use Rattle.mold_recorder.specs.Recording.{IsFileLeft, LeavesFiles, RecorderState}
use Rattle.mold_recorder.proofs.AppendingLemmas.{joined, leaves_still, part_around, part_later, part_longer}
use Rattle.mold_recorder.proofs.AppendingLemmas.{part_none, weaker}
use Rattle.mold_recorder.proofs.RecordingLemmas.{OrderLaws, delivered_none, delivered_number, delivered_then}

-- ---- files

-- A file after a close.
left_close : (life : Life) (bytes : List ℕ) → IsFileAround life Close bytes → IsFileLeft life [] true bytes
left_close life bytes (inl before) = inl (part_none life [] bytes before)
left_close life bytes (inr around) =
    inr (
      refl,
      subst (λ (ms : List Message). SpellsJournal3 life.session (life.committed ++ ms) true bytes)
          (sym (append-nil life.waiting)) around,
    )

-- A file that a later life leaves.
left_later : (life : Life) (done waiting first last : List Message) (finished : Bool) (bytes : List ℕ) →
    life.waiting ++ first ≡ done ++ waiting → IsFileLeft (committed_life life done waiting) last finished bytes →
    IsFileLeft life (first ++ last) finished bytes
left_later life done waiting first last finished bytes split (inl part) =
    inl (part_later life done waiting first last bytes split part)
left_later life done waiting first last finished bytes split (inr closed) =
    inr (
      closed.0,
      subst (λ (ms : List Message). SpellsJournal3 life.session ms true bytes)
          (append_assoc life.committed done (waiting ++ last)
          ∙ ap (λ (ms : List Message). life.committed ++ ms)
          (sym (append_assoc done waiting last)
          ∙ ap (λ (ms : List Message). ms ++ last) (sym split)
          ∙ append_assoc life.waiting first last))
          closed.1,
    )

module _ {S : Type 0} (shows may_leave : S → List ℕ → Type 0) where
  -- The same life, with other words for its committed messages.
  ended_as : (journal : DurableState S) (life : Life) (committed other : List Message) (closed : Bool) →
      Lives shows may_leave journal (record life { committed = committed; closed = closed; waiting = [] }) →
      committed ≡ other →
      Lives shows may_leave journal (record life { committed = other; closed = closed; waiting = [] })
  ended_as journal life committed other closed lives same =
      subst (λ (ms : List Message).
      Lives shows may_leave journal (record life { committed = ms; closed = closed; waiting = [] })) same lives

  -- After a commit.
  pub ended_commit : (before after : DurableState S) → after ≡ record before {
    storage = after.storage;
    committed = before.committed + length before.waiting;
    end = after.end;
    waiting = [];
  } → ((life : Life) → Lives shows may_leave before life → Lives shows may_leave after (after_moment life Commit)) →
      HasEndedJournal shows may_leave before after [] false
  ended_commit before after done lives = record {
    counted = let e : after.committed ≡ before.committed + length before.waiting =
        ap (λ (j : DurableState S). j.committed) done in omega (arith, e);
    none = ap (λ (j : DurableState S). j.waiting) done;
    closed = ap (λ (j : DurableState S). j.closed) done;
    lives = λ life old_lives. ended_as after life (life.committed ++ life.waiting)
        (life.committed ++ (life.waiting ++ [])) life.closed (lives life old_lives)
        (ap (λ (ms : List Message). life.committed ++ ms) (sym (append-nil life.waiting)));
  }

  -- After a close.
  pub ended_close : (before after : DurableState S) → after ≡ record before {
    storage = after.storage;
    committed = before.committed + length before.waiting;
    end = after.end;
    closed = true;
    waiting = [];
  } → ((life : Life) → Lives shows may_leave before life → Lives shows may_leave after (after_moment life Close)) →
      HasEndedJournal shows may_leave before after [] true
  ended_close before after done lives = record {
    counted = let e : after.committed ≡ before.committed + length before.waiting =
        ap (λ (j : DurableState S). j.committed) done in omega (arith, e);
    none = ap (λ (j : DurableState S). j.waiting) done;
    closed = ap (λ (j : DurableState S). j.closed) done;
    lives = λ life old_lives. ended_as after life (life.committed ++ life.waiting)
        (life.committed ++ (life.waiting ++ [])) true (lives life old_lives)
        (ap (λ (ms : List Message). life.committed ++ ms) (sym (append-nil life.waiting)));
  }

  closed_then : (finished before mid after : Bool) → mid ≡ before → after ≡ (if finished then true else mid) →
      after ≡ (if finished then true else before)
  closed_then true before mid after same is = is
  closed_then false before mid after same is = is ∙ same

  ended_lives : (after : DurableState S) (life : Life) (finished : Bool) (committed other : List Message)
      (closed : Bool) → closed ≡ life.closed →
      Lives shows may_leave after (record life {
        committed = committed;
        closed = if finished then true else closed;
        waiting = [];
      }) → committed ≡ other →
      Lives shows may_leave after (record life {
        committed = other;
        closed = if finished then true else life.closed;
        waiting = [];
      })
  ended_lives after life finished committed other closed same lives is =
      ended_as after life committed other (if finished then true else life.closed)
      (subst (λ (b : Bool). Lives shows may_leave after (record life {
        committed = committed;
        closed = if finished then true else b;
        waiting = [];
      })) same lives) is

  module _ (moment : S → ℕ) (left_since : S → ℕ → List ℕ → Type 0) where
    -- Messages were appended, and then the journal was ended.
    pub ended_then : (before mid after : DurableState S) (first last : List Message) (finished : Bool) →
        HasAppended shows may_leave moment left_since before mid first →
        HasEndedJournal shows may_leave mid after last finished →
        HasEndedJournal shows may_leave before after (first ++ last) finished
    ended_then before mid after first last finished one two =
        let split : (life : Life) → Lives shows may_leave before life → life.waiting ++ first ≡ one.done ++
        mid.waiting =
        λ life lives. ap (λ (ms : List Message). ms ++ first) lives.waiting ∙ one.parts in
        let lengths : length before.waiting + length first ≡ length one.done + length mid.waiting =
        sym (length-append before.waiting first) ∙ ap (λ (ms : List Message). length ms) one.parts
        ∙ length-append one.done mid.waiting in
        record {
          counted = omega (arith, one.counted, two.counted, lengths, length-append first last);
          none = two.none;
          closed = closed_then finished before.closed mid.closed after.closed one.closed two.closed;
          lives = λ life lives.
              let later : Life = committed_life life one.done mid.waiting in
              ended_lives after life finished ((life.committed ++ one.done) ++ (mid.waiting ++ last))
              (life.committed ++ (life.waiting ++ (first ++ last))) life.closed refl
              (two.lives later (one.lives life lives))
              (append_assoc life.committed one.done (mid.waiting ++ last)
              ∙ ap (λ (ms : List Message). life.committed ++ ms)
              (sym (append_assoc one.done mid.waiting last)
              ∙ ap (λ (ms : List Message). ms ++ last) (sym (split life lives))
              ∙ append_assoc life.waiting first last));
        }

    -- What a commit leaves, and what a close leaves.
    pub files_commit : (before after : DurableState S) (finished : Bool) →
        ((life : Life) → Lives shows may_leave before life →
        LeavesOnly moment left_since before.storage after.storage (IsFileAround life Commit)) →
        LeavesFiles shows may_leave moment left_since before after [] finished
    files_commit before after finished around = λ life lives.
        weaker moment left_since before.storage after.storage (IsFileAround life Commit) (IsFileLeft life [] finished)
        (around life lives) (λ bytes file. inl (part_around life [] bytes file))

    pub files_close : (before after : DurableState S) → ((life : Life) → Lives shows may_leave before life →
        LeavesOnly moment left_since before.storage after.storage (IsFileAround life Close)) →
        LeavesFiles shows may_leave moment left_since before after [] true
    files_close before after around = λ life lives.
        weaker moment left_since before.storage after.storage (IsFileAround life Close) (IsFileLeft life [] true)
        (around life lives) (left_close life)

    -- What is left of messages that were appended.
    pub files_of_parts : (before after : DurableState S) (messages : List Message) (finished : Bool) →
        LeavesParts shows may_leave moment left_since before after messages →
        LeavesFiles shows may_leave moment left_since before after messages finished
    files_of_parts before after messages finished parts = λ life lives.
        weaker moment left_since before.storage after.storage (IsPartFile life messages)
        (IsFileLeft life messages finished) (parts life lives) (λ bytes part. inl part)

    -- Messages were appended, and then something was left.
    pub files_then : (before mid after : DurableState S) (first last : List Message) (finished : Bool) →
        HasAppended shows may_leave moment left_since before mid first →
        LeavesFiles shows may_leave moment left_since mid after last finished →
        LeavesFiles shows may_leave moment left_since before after (first ++ last) finished
    files_then before mid after first last finished one two = λ life lives.
        let P : List ℕ → Type 0 = IsFileLeft life (first ++ last) finished in
        let split : life.waiting ++ first ≡ one.done ++ mid.waiting =
        ap (λ (ms : List Message). ms ++ first) lives.waiting ∙ one.parts in
        let later : Life = committed_life life one.done mid.waiting in
        joined moment left_since before.storage mid.storage after.storage P
        (weaker moment left_since before.storage mid.storage (IsPartFile life first) P (one.leaves life lives)
        (λ bytes part. inl (part_longer life first last bytes part)))
        (weaker moment left_since mid.storage after.storage (IsFileLeft later last finished) P
        (two later (one.lives life lives))
        (λ bytes. left_later life one.done mid.waiting first last finished bytes split))

-- The journal was open, and is closed if the receiver is finished.
pub closed_if : (finished before after : Bool) → before ≡ false → after ≡ (if finished then true else before) →
    after ≡ finished
closed_if true before after was is = is
closed_if false before after was is = is ∙ was

-- ---- recorders

-- A receiver whose repairer and ports are unchanged is unchanged.
pub same_state : {P : Type 0} (old new : RecorderState P) → new.repairer ≡ old.repairer → new.ports ≡ old.ports →
    new ≡ old
same_state {P = P} old new repairer ports =
    ap (λ (r : Repairer). record new { repairer = r }) repairer
    ∙ ap (λ (p : PortSetState P). record old { ports = p }) ports

-- The state of a receiver without the text that it printed.
abbrev pub without_text : {P : Type 0} → ReceiverState P → RecorderState P
without_text state = record { repairer = state.repairer; ports = state.ports }

pub started_as : {P : Type 0} (old new : ReceiverState P) → old ≡ new → without_text old ≡ without_text new
started_as old new same = ap (λ (s : ReceiverState _). without_text s) same

-- A prefix of no datagrams.
begins_none : {A : Type 0} (some rest : List A) → [] ≡ some ++ rest → some ≡ []
begins_none [] rest parts = refl
begins_none {A = A} (x ∷ some) rest parts =
    let e : length {A = A} [] ≡ length (x ∷ (some ++ rest)) = ap length parts in cc

begins_whole : {A : Type 0} (xs : List A) → Begins xs xs
begins_whole xs = record { rest = []; parts = sym (append-nil xs) }

module _ {S : Type 0} (shows may_leave : S → List ℕ → Type 0) (moment : S → ℕ) (left_since : S → ℕ → List ℕ → Type 0)
    {P : Type 0} (lines : ℕ) (servers : List P) (modeled : Bool) where
  -- What was delivered before the receiver did nothing more.
  delivered_still : (first : List Given) (old new : RecorderState P) (messages : List Message) →
      HasDelivered lines servers modeled first old new messages →
      HasDelivered lines servers modeled first old new (messages ++ [])
  delivered_still first old new messages delivered =
      delivered_then lines servers modeled first old new new messages [] delivered
      (delivered_none lines servers modeled new new refl (λ is. refl) (λ is. refl))

  -- The turns were made, and the journal was ended.
  pub run_ended : (first : List Given) (old mid new : RecorderState P) (before between after : DurableState S) →
      HasRecorded lines servers modeled shows may_leave moment left_since first old mid before between →
      HasEndedJournal shows may_leave between after [] (is_finished mid.repairer) →
      LeavesFiles shows may_leave moment left_since between after [] (is_finished mid.repairer) → new ≡ mid →
      HasEnded lines servers modeled shows may_leave moment left_since first old new before after
  run_ended first old mid new before between after one ended leaves same =
      subst (λ (s : RecorderState P).
      HasEnded lines servers modeled shows may_leave moment left_since first old s before after) (sym same) (record {
        messages = one.messages ++ [];
        delivered = delivered_still first old mid one.messages one.delivered;
        ended = ended_then shows may_leave moment left_since before between after one.messages []
            (is_finished mid.repairer) one.appended ended;
        leaves = files_then shows may_leave moment left_since before between after one.messages []
            (is_finished mid.repairer) one.appended leaves;
      })

  -- The turns were made, and the end was a fault.
  pub run_broken : (first : List Given) (old mid : RecorderState P) (before between after : DurableState S) →
      HasRecorded lines servers modeled shows may_leave moment left_since first old mid before between →
      LeavesFiles shows may_leave moment left_since between after [] (is_finished mid.repairer) →
      HasBroken lines servers modeled shows may_leave moment left_since first old before after
  run_broken first old mid before between after one leaves = record {
    took = first;
    part = begins_whole first;
    end = mid;
    messages = one.messages ++ [];
    delivered = delivered_still first old mid one.messages one.delivered;
    leaves = files_then shows may_leave moment left_since before between after one.messages []
        (is_finished mid.repairer) one.appended leaves;
  }

  -- A turn was a fault.
  pub stopped_broken : (first : List Given) (old new : RecorderState P) (before after : DurableState S) →
      HasStopped lines servers modeled shows may_leave moment left_since first old new before after →
      HasBroken lines servers modeled shows may_leave moment left_since first old before after
  stopped_broken first old new before after stopped = record {
    took = first;
    part = begins_whole first;
    end = new;
    messages = stopped.messages;
    delivered = stopped.delivered;
    leaves = files_of_parts shows may_leave moment left_since before after stopped.messages (is_finished new.repairer)
        stopped.some.leaves;
  }

  -- The first packet was taken, and then the recorder ran to its end.
  pub ended_after : (first : List Given) (old mid new : RecorderState P) (before between after : DurableState S) →
      HasRecorded lines servers modeled shows may_leave moment left_since first old mid before between →
      HasEnded lines servers modeled shows may_leave moment left_since [] mid new between after →
      HasEnded lines servers modeled shows may_leave moment left_since first old new before after
  ended_after first old mid new before between after one two = record {
    messages = one.messages ++ two.messages;
    delivered = delivered_then lines servers modeled first old mid new one.messages two.messages one.delivered
        two.delivered;
    ended = ended_then shows may_leave moment left_since before between after one.messages two.messages
        (is_finished new.repairer) one.appended two.ended;
    leaves = files_then shows may_leave moment left_since before between after one.messages two.messages
        (is_finished new.repairer) one.appended two.leaves;
  }

  pub broken_after : (first : List Given) (old mid : RecorderState P) (before between after : DurableState S) →
      HasRecorded lines servers modeled shows may_leave moment left_since first old mid before between →
      HasBroken lines servers modeled shows may_leave moment left_since [] mid between after →
      HasBroken lines servers modeled shows may_leave moment left_since first old before after
  broken_after first old mid before between after one two = record {
    took = first;
    part = begins_whole first;
    end = two.end;
    messages = one.messages ++ two.messages;
    delivered = delivered_then lines servers modeled first old mid two.end one.messages two.messages one.delivered
        (subst (λ (took : List Given). HasDelivered lines servers modeled took mid two.end two.messages)
        (begins_none two.took two.part.rest two.part.parts) two.delivered);
    leaves = files_then shows may_leave moment left_since before between after one.messages two.messages
        (is_finished two.end.repairer) one.appended two.leaves;
  }

  -- Each message has its number in the journal.
  pub ended_number : OrderLaws → (first : List Given) (old new : RecorderState P) (before after : DurableState S) →
      HasEnded lines servers modeled shows may_leave moment left_since first old new before after →
      old.repairer.arbiter.view.next ≡ before.committed + 1 → before.waiting ≡ [] →
      new.repairer.arbiter.view.next ≡ after.committed + 1
  ended_number laws first old new before after ended begins none =
      let next = delivered_number laws lines servers modeled first old new ended.messages ended.delivered in
      let waits : length before.waiting ≡ 0 = ap (λ (ms : List Message). length ms) none in
      omega (arith, next, begins, waits, ended.ended.counted)

  module _ (only_now : (storage : S) (bytes : List ℕ) → left_since storage (moment storage) bytes →
      may_leave storage bytes) where
    -- Nothing was taken.
    pub broken_yet : (first : List Given) (old : RecorderState P) (journal : DurableState S) →
        HasBroken lines servers modeled shows may_leave moment left_since first old journal journal
    broken_yet first old journal = record {
      took = [];
      part = record { rest = first; parts = refl };
      end = old;
      messages = [];
      delivered = delivered_none lines servers modeled old old refl (λ is. refl) (λ is. refl);
      leaves = files_of_parts shows may_leave moment left_since journal journal [] (is_finished old.repairer)
          (leaves_still shows may_leave moment left_since only_now journal journal [] refl);
    }
