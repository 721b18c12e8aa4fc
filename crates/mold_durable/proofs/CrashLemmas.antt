-- What each call leaves of a journal whose messages were committed.
use Rattle.std.proofs.Common.{◌≡◌, inl, inr, ℕ, ◌≤◌, Bool, true, List, [], ◌++◌, Result, Ok, Err}
use Rattle.std.proofs.Common.{refl, sym, ap, subst, ◌∙◌, append_assoc, append-nil}
use Rattle.std.specs.Prelude.{IfErr, IfOk, OnOk, OnErr}
use Rattle.std.specs.List.{AllByRecursion}
use Rattle.mold_wire.specs.declared.block.TheConstants.{MAX_MESSAGE}
use Rattle.mold_wire.specs.declared.session.Session.{Session}
use Rattle.mold_session.specs.Journal.{IsWithin}
use Rattle.mold_session.specs.Records.{SpellsJournal3}
use Rattle.mold_durable.specs.Crash.{Continues, goes_on, stopped, HasPrefix, IsLaterFile, IsLive}
use Rattle.mold_durable.specs.DurableJournal.{DurableState, IsBeforeOrAfter, IsSettled}
use Rattle.mold_durable.specs.Life.{IsFileOf, Life, Lives, after as after_moment}
use Rattle.mold_durable.specs.Life.Moment.{Crash}
use Rattle.mold_durable.specs.Reading.{IsOfDevice}
use Rattle.mold_durable.specs.Storage.{LeavesOnly}
use Rattle.mold_durable.specs.declared.error.CommitError.{CommitError}
use Rattle.mold_durable.specs.declared.error.NotOpened.{NotOpened}
use Rattle.mold_durable.specs.declared.error.WaitingError.{WaitingError}
use Rattle.mold_durable.proofs.MomentLemmas.{started, weaker}

-- A file of more messages.
later_of : (session : Session) (messages extra all : List (List ℕ)) (closed : Bool) (bytes : List ℕ) →
    all ≡ messages ++ extra → SpellsJournal3 session all closed bytes → IsLaterFile session messages bytes
later_of session messages extra all closed bytes is file = record {
  more = extra;
  closed = closed;
  file = subst (λ (ms : List (List ℕ)). SpellsJournal3 session ms closed bytes) is file;
}

module _ {S : Type 0} (shows may_leave : S → List ℕ → Type 0) (session : Session) (messages : List (List ℕ)) where
  -- Right after the commit.
  pub live_first : (journal : DurableState S) → journal.session ≡ session → IsSettled shows may_leave journal messages →
      IsLive shows may_leave session messages journal
  live_first journal named settled = record {
    named = named;
    left = λ bytes now. subst (λ (s : Session). IsLaterFile s messages bytes) named
        (later_of journal.session messages [] messages journal.closed bytes (sym (append-nil messages))
        (settled.kept.left bytes now));
    state = goes_on []
        (subst (IsSettled shows may_leave journal) (sym (append-nil messages)) settled);
  }

  state_waiting : (journal : DurableState S) (waiting : List (List ℕ)) → Continues shows may_leave messages journal →
      Continues shows may_leave messages (record journal { waiting = waiting })
  state_waiting journal waiting (stopped broken) = stopped broken
  state_waiting journal waiting (goes_on more settled) = goes_on more (record {
    kept = settled.kept;
    ends = settled.ends;
    counted = settled.counted;
    named = settled.named;
    listed = settled.listed;
  })

  live_waiting : (journal : DurableState S) (waiting : List (List ℕ)) → IsLive shows may_leave session messages journal →
      IsLive shows may_leave session messages (record journal { waiting = waiting })
  live_waiting journal waiting live =
      record { named = live.named; left = live.left; state = state_waiting journal waiting live.state }

  -- After an append.
  pub append_live : (old new : DurableState S) (waiting : List (List ℕ)) (result : Result ℕ WaitingError) →
      OnOk result (new ≡ record old { waiting = waiting }) → OnErr result (new ≡ old) →
      IsLive shows may_leave session messages old → IsLive shows may_leave session messages new
  append_live old new waiting (Ok number) added same live =
      subst (IsLive shows may_leave session messages) (sym added) (live_waiting old waiting live)
  append_live old new waiting (Err error) added same live =
      subst (IsLive shows may_leave session messages) (sym same) live

  -- It does not use the storage.
  pub append_storage : (old new : DurableState S) (waiting : List (List ℕ)) (result : Result ℕ WaitingError) →
      OnOk result (new ≡ record old { waiting = waiting }) → OnErr result (new ≡ old) → new.storage ≡ old.storage
  append_storage old new waiting (Ok number) added same = ap (λ (j : DurableState S). j.storage) added
  append_storage old new waiting (Err error) added same = ap (λ (j : DurableState S). j.storage) same

  module _ (moment : S → ℕ) (left_since : S → ℕ → List ℕ → Type 0)
      (counts_now : (storage : S) (earlier : ℕ) (bytes : List ℕ) → earlier ≤ moment storage → may_leave storage bytes →
      left_since storage earlier bytes)
      (only_now : (storage : S) (bytes : List ℕ) → left_since storage (moment storage) bytes → may_leave storage bytes) where
    -- Before a call, and during one that does not use the storage.
    pub moments_still : (journal : DurableState S) (new : S) → new ≡ journal.storage →
        IsLive shows may_leave session messages journal →
        LeavesOnly moment left_since journal.storage new (IsLaterFile session messages)
    moments_still journal new same live =
        subst (λ (s : S). LeavesOnly moment left_since journal.storage s (IsLaterFile session messages)) (sym same)
        (started moment left_since journal.storage (IsLaterFile session messages)
        (λ bytes left. live.left bytes (only_now journal.storage bytes left)))

    -- A commit, with the closing record or without.
    module _ (old new : DurableState S) (is : Bool) (committed : ℕ) (result : Result (Unit {0}) CommitError)
        (acknowledged : (ms : List (List ℕ)) → IsSettled shows may_leave old ms →
        OnOk result (IsSettled shows may_leave new (ms ++ old.waiting)))
        (moments : (ms : List (List ℕ)) → IsSettled shows may_leave old ms →
        LeavesOnly moment left_since old.storage new.storage
        (IsBeforeOrAfter old.session ms old.closed (ms ++ old.waiting) is))
        (done : OnOk result (new ≡ record old {
          storage = new.storage;
          committed = committed;
          end = new.end;
          closed = is;
          waiting = [];
        }))
        (unwritten : old.broken ≡ true → new ≡ old)
        (after : OnErr result (new ≡ record old { storage = new.storage; broken = true })) where
      commit_widens : (more : List (List ℕ)) → old.session ≡ session → (bytes : List ℕ) →
          IsBeforeOrAfter old.session (messages ++ more) old.closed ((messages ++ more) ++ old.waiting) is bytes →
          IsLaterFile session messages bytes
      commit_widens more named bytes (inl before) =
          subst (λ (s : Session). IsLaterFile s messages bytes) named
          (later_of old.session messages more (messages ++ more) old.closed bytes refl before)
      commit_widens more named bytes (inr all) =
          subst (λ (s : Session). IsLaterFile s messages bytes) named
          (later_of old.session messages (more ++ old.waiting) ((messages ++ more) ++ old.waiting) is bytes
          (append_assoc messages more old.waiting) all)

      moments_of_state : IsLive shows may_leave session messages old → Continues shows may_leave messages old →
          LeavesOnly moment left_since old.storage new.storage (IsLaterFile session messages)
      moments_of_state live (stopped broken) =
          moments_still old new.storage (ap (λ (j : DurableState S). j.storage) (unwritten broken)) live
      moments_of_state live (goes_on more settled) =
          weaker moment left_since old.storage new.storage _ _ (moments (messages ++ more) settled)
          (commit_widens more live.named)

      pub commit_moments : IsLive shows may_leave session messages old →
          LeavesOnly moment left_since old.storage new.storage (IsLaterFile session messages)
      commit_moments live = moments_of_state live live.state

      same_session : (r : Result (Unit {0}) CommitError) → OnOk r (new ≡ record old {
        storage = new.storage;
        committed = committed;
        end = new.end;
        closed = is;
        waiting = [];
      }) → OnErr r (new ≡ record old { storage = new.storage; broken = true }) → new.session ≡ old.session
      same_session (Ok one) worked failed = ap (λ (j : DurableState S). j.session) worked
      same_session (Err error) worked failed = ap (λ (j : DurableState S). j.session) failed

      state_of_result : (r : Result (Unit {0}) CommitError) (more : List (List ℕ)) →
          OnOk r (IsSettled shows may_leave new ((messages ++ more) ++ old.waiting)) →
          OnErr r (new ≡ record old { storage = new.storage; broken = true }) → Continues shows may_leave messages new
      state_of_result (Ok one) more settled failed =
          goes_on (more ++ old.waiting)
          (subst (IsSettled shows may_leave new) (append_assoc messages more old.waiting) settled)
      state_of_result (Err error) more settled failed = stopped (ap (λ (j : DurableState S). j.broken) failed)

      state_after : Continues shows may_leave messages old → Continues shows may_leave messages new
      state_after (stopped broken) = stopped (ap (λ (j : DurableState S). j.broken) (unwritten broken) ∙ broken)
      state_after (goes_on more settled) = state_of_result result more (acknowledged (messages ++ more) settled) after

      pub commit_live : IsLive shows may_leave session messages old → IsLive shows may_leave session messages new
      commit_live live =
          let run = commit_moments live in
          record {
            named = same_session result done after ∙ live.named;
            left = λ bytes now. run.each bytes (counts_now new.storage (moment old.storage) bytes run.later now);
            state = state_after live.state;
          }

module _ {D : Type 0} (shows may_leave : D → List ℕ → Type 0) (disk : D) (session : Session) (messages : List (List ℕ))
    (bytes : List ℕ) (later : IsLaterFile session messages bytes) (now : shows disk bytes) where
  -- The life of the journal whose file this is.
  abbrev pub left_life : Life
  left_life =
      record { session = session; committed = messages ++ later.more; closed = later.closed; waiting = [] }

  -- The opened journal begins with the messages, since the disk shows a file that begins with them.
  pub opened_prefix : (result : Result (DurableState D) (NotOpened D)) →
      ((life : Life) (b : List ℕ) → shows disk b → IsFileOf life b →
      IfOk result (λ journal. Lives shows may_leave journal (after_moment life Crash))) →
      IfOk result (HasPrefix shows may_leave session messages)
  opened_prefix (Ok journal) found =
      let is = found left_life bytes now later.file in
      record { named = sym is.session; more = later.more; settled = is.settled }
  opened_prefix (Err fault) found = tt

  -- And it is not refused.
  pub not_refused : (result : Result (DurableState D) (NotOpened D)) →
      ((life : Life) (b : List ℕ) → shows disk b → IsFileOf life b → AllByRecursion (IsWithin MAX_MESSAGE) life.committed →
      IfErr result (λ fault. IsOfDevice fault.error)) → IfErr result (λ fault. IsOfDevice fault.error)
  not_refused result accepted = accepted left_life bytes now later.file later.file.listed.each
