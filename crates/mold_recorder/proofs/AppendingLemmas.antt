-- What a durable journal has after messages were appended to it.
use Rattle.std.proofs.Common.{Err, Ok, OnErr, OnOk, Result, true}
use Rattle.std.proofs.Common.{◌≡◌, ◌⊎◌, ⊎_elim, inl, inr, ℕ, ◌+◌, Bool, List, [], ◌∷◌, ◌++◌, length, refl, sym, ap}
use Rattle.std.proofs.Common.{subst}
use Rattle.std.proofs.Common.{◌∙◌, append_assoc, append-nil, length-append, arith}
use Rattle.mold_wire.specs.declared.session.Session.{Session}
use Rattle.mold_session.specs.Records.{SpellsJournal3}
use Rattle.mold_durable.specs.DurableJournal.{DurableState}
use Rattle.mold_durable.specs.Life.{IsFileAround, IsFileOf, Life, Lives, after as after_moment}
use Rattle.mold_durable.specs.Life.Moment.{Append, Commit}
use Rattle.mold_durable.specs.Storage.{LeavesOnly}
use Rattle.mold_durable.specs.declared.error.CommitError.{CommitError}
use Rattle.mold_recorder.specs.Appending.{HasAppended, HasAppendedSome, IsPartFile, IsSaved, LeavesParts}
use Rattle.mold_recorder.specs.Appending.{committed_life}

-- ---- files

-- A file of the committed messages has a prefix of the others, which is empty.
pub part_none : (life : Life) (more : List (List ℕ)) (bytes : List ℕ) → IsFileOf life bytes → IsPartFile life more bytes
part_none life more bytes file = record {
  front = [];
  rest = life.waiting ++ more;
  parts = refl;
  file = subst (λ (ms : List (List ℕ)). SpellsJournal3 life.session ms life.closed bytes)
      (sym (append-nil life.committed)) file;
}

-- A file before or after a commit.
pub part_around : (life : Life) (more : List (List ℕ)) (bytes : List ℕ) → IsFileAround life Commit bytes →
    IsPartFile life more bytes
part_around life more bytes (inl before) = part_none life more bytes before
part_around life more bytes (inr around) = record {
  front = life.waiting;
  rest = more;
  parts = refl;
  file = around;
}

-- A file of more messages than those so far.
pub part_longer : (life : Life) (first last : List (List ℕ)) (bytes : List ℕ) → IsPartFile life first bytes →
    IsPartFile life (first ++ last) bytes
part_longer life first last bytes part = record {
  front = part.front;
  rest = part.rest ++ last;
  parts = sym (append_assoc life.waiting first last)
      ∙ ap (λ (ms : List (List ℕ)). ms ++ last) part.parts
      ∙ append_assoc part.front part.rest last;
  file = part.file;
}

-- A file of a later life.
pub part_later : (life : Life) (done waiting first last : List (List ℕ)) (bytes : List ℕ) →
    life.waiting ++ first ≡ done ++ waiting → IsPartFile (committed_life life done waiting) last bytes →
    IsPartFile life (first ++ last) bytes
part_later life done waiting first last bytes split part = record {
  front = done ++ part.front;
  rest = part.rest;
  parts = sym (append_assoc life.waiting first last)
      ∙ ap (λ (ms : List (List ℕ)). ms ++ last) split
      ∙ append_assoc done waiting last
      ∙ ap (λ (ms : List (List ℕ)). done ++ ms) part.parts
      ∙ sym (append_assoc done part.front part.rest);
  file = subst (λ (ms : List (List ℕ)). SpellsJournal3 life.session ms life.closed bytes)
      (append_assoc life.committed done part.front) part.file;
}

-- ---- moments

module _ {S : Type 0} (moment : S → ℕ) (left_since : S → ℕ → List ℕ → Type 0) where
  -- Two runs, one after the other.
  pub joined :
      (old mid new : S) (P : List ℕ → Type 0) → LeavesOnly moment left_since old mid P →
      LeavesOnly moment left_since mid new P → LeavesOnly moment left_since old new P
  joined old mid new P first second = record {
    later = omega (arith, first.later, second.later);
    each = λ bytes left.
        ⊎_elim (first.each bytes) (λ has. has) (second.before (moment old) bytes first.later left);
    before = λ earlier bytes le left.
        ⊎_elim (first.before earlier bytes le) (λ has. inr has)
        (second.before earlier bytes (omega (arith, le, first.later)) left);
  }

  -- What has P has Q.
  pub weaker :
      (old new : S) (P Q : List ℕ → Type 0) → LeavesOnly moment left_since old new P →
      ((bytes : List ℕ) → P bytes → Q bytes) → LeavesOnly moment left_since old new Q
  weaker old new P Q run widens = record {
    later = run.later;
    each = λ bytes left. widens bytes (run.each bytes left);
    before = λ earlier bytes le left.
        ⊎_elim (λ was. inl was) (λ has. inr (widens bytes has)) (run.before earlier bytes le left);
  }

-- ---- journals

module _ {S : Type 0} (shows may_leave : S → List ℕ → Type 0) where
  -- A crash leaves a file of the committed messages.
  pub lives_file : (journal : DurableState S) (life : Life) (bytes : List ℕ) → Lives shows may_leave journal life →
      may_leave journal.storage bytes → IsFileOf life bytes
  lives_file journal life bytes lives now =
      subst (λ (b : Bool). SpellsJournal3 life.session life.committed b bytes) (sym lives.closed)
      (subst (λ (s : Session). SpellsJournal3 s life.committed journal.closed bytes) (sym lives.session)
      (lives.settled.kept.left bytes now))

  -- The same life in other words.
  pub lives_as : (journal : DurableState S) (life : Life) (committed waiting : List (List ℕ)) →
      Lives shows may_leave journal life → life.committed ≡ committed → life.waiting ≡ waiting →
      Lives shows may_leave journal (record life { committed = committed; waiting = waiting })
  lives_as journal life committed waiting lives same waits =
      subst (λ (ms : List (List ℕ)). Lives shows may_leave journal (record life { committed = ms; waiting = waiting }))
      same
      (subst (λ (ms : List (List ℕ)).
      Lives shows may_leave journal (record life { committed = life.committed; waiting = ms })) waits lives)

  module _ (moment : S → ℕ) (left_since : S → ℕ → List ℕ → Type 0)
      (only_now : (storage : S) (bytes : List ℕ) → left_since storage (moment storage) bytes → may_leave storage bytes)
    where
      -- The storage is not used.
      pub leaves_still : (old new : DurableState S) (messages : List (List ℕ)) → new.storage ≡ old.storage →
          LeavesParts shows may_leave moment left_since old new messages
      leaves_still old new messages same = λ life lives.
          let P : List ℕ → Type 0 = IsPartFile life messages in
          subst (λ (s : S). LeavesOnly moment left_since old.storage s P) (sym same) (record {
            later = omega arith;
            each = λ bytes left.
                part_none life messages bytes (lives_file old life bytes lives (only_now old.storage bytes left));
            before = λ earlier bytes le left. inl left;
          })

      -- Nothing happened.
      pub appended_none : (journal : DurableState S) →
          HasAppended shows may_leave moment left_since journal journal []
      appended_none journal = record {
        done = [];
        parts = append-nil journal.waiting;
        counted = omega arith;
        named = refl;
        closed = refl;
        lives = λ life lives. lives_as journal life (life.committed ++ []) journal.waiting lives
            (sym (append-nil life.committed)) lives.waiting;
        leaves = leaves_still journal journal [] refl;
      }

      -- A message was appended.
      pub appended_one : (old new : DurableState S) (message : List ℕ) →
          new ≡ record old { waiting = old.waiting ++ message ∷ [] } →
          ((life : Life) → Lives shows may_leave old life →
          Lives shows may_leave new (after_moment life (Append message))) →
          HasAppended shows may_leave moment left_since old new (message ∷ [])
      appended_one old new message added lives = record {
        done = [];
        parts = sym (ap (λ (j : DurableState S). j.waiting) added);
        counted = let e : new.committed ≡ old.committed = ap (λ (j : DurableState S). j.committed) added in omega
            (arith, e);
        named = ap (λ (j : DurableState S). j.session) added;
        closed = ap (λ (j : DurableState S). j.closed) added;
        lives = λ life old_lives. lives_as new (after_moment life (Append message)) (life.committed ++ []) new.waiting
            (lives life old_lives) (sym (append-nil life.committed)) (lives life old_lives).waiting;
        leaves = leaves_still old new (message ∷ []) (ap (λ (j : DurableState S). j.storage) added);
      }

      -- What a commit leaves.
      pub leaves_commit : (old new : DurableState S) → ((life : Life) → Lives shows may_leave old life →
          LeavesOnly moment left_since old.storage new.storage (IsFileAround life Commit)) →
          LeavesParts shows may_leave moment left_since old new []
      leaves_commit old new around = λ life lives.
          weaker moment left_since old.storage new.storage (IsFileAround life Commit) (IsPartFile life [])
          (around life lives) (part_around life [])

      -- A commit succeeded.
      pub appended_commit : (old new : DurableState S) → new ≡ record old {
        storage = new.storage;
        committed = old.committed + length old.waiting;
        end = new.end;
        waiting = [];
      } → ((life : Life) → Lives shows may_leave old life → Lives shows may_leave new (after_moment life Commit)) →
          ((life : Life) → Lives shows may_leave old life →
          LeavesOnly moment left_since old.storage new.storage (IsFileAround life Commit)) →
          HasAppended shows may_leave moment left_since old new []
      appended_commit old new done lives around = record {
        done = old.waiting;
        parts = ap (λ (ms : List (List ℕ)). old.waiting ++ ms) (sym (ap (λ (j : DurableState S). j.waiting) done));
        counted = ap (λ (j : DurableState S). j.committed) done;
        named = ap (λ (j : DurableState S). j.session) done;
        closed = ap (λ (j : DurableState S). j.closed) done;
        lives = λ life old_lives. lives_as new (after_moment life Commit) (life.committed ++ old.waiting) new.waiting
            (lives life old_lives) (ap (λ (ms : List (List ℕ)). life.committed ++ ms) old_lives.waiting)
            (lives life old_lives).waiting;
        leaves = leaves_commit old new around;
      }

      -- One part after the other.
      pub leaves_then : (old mid new : DurableState S) (first last : List (List ℕ)) →
          HasAppended shows may_leave moment left_since old mid first →
          LeavesParts shows may_leave moment left_since mid new last →
          LeavesParts shows may_leave moment left_since old new (first ++ last)
      leaves_then old mid new first last one two = λ life lives.
          let P : List ℕ → Type 0 = IsPartFile life (first ++ last) in
          let split : life.waiting ++ first ≡ one.done ++ mid.waiting =
          ap (λ (ms : List (List ℕ)). ms ++ first) lives.waiting ∙ one.parts in
          joined moment left_since old.storage mid.storage new.storage P
          (weaker moment left_since old.storage mid.storage (IsPartFile life first) P (one.leaves life lives)
          (part_longer life first last))
          (weaker moment left_since mid.storage new.storage
          (IsPartFile (committed_life life one.done mid.waiting) last) P
          (two (committed_life life one.done mid.waiting) (one.lives life lives))
          (λ bytes. part_later life one.done mid.waiting first last bytes split))

      pub appended_then : (old mid new : DurableState S) (first last : List (List ℕ)) →
          HasAppended shows may_leave moment left_since old mid first →
          HasAppended shows may_leave moment left_since mid new last →
          HasAppended shows may_leave moment left_since old new (first ++ last)
      appended_then old mid new first last one two = record {
        done = one.done ++ two.done;
        parts = sym (append_assoc old.waiting first last)
            ∙ ap (λ (ms : List (List ℕ)). ms ++ last) one.parts
            ∙ append_assoc one.done mid.waiting last
            ∙ ap (λ (ms : List (List ℕ)). one.done ++ ms) two.parts
            ∙ sym (append_assoc one.done two.done new.waiting);
        counted = omega (arith, one.counted, two.counted, length-append one.done two.done);
        named = two.named ∙ one.named;
        closed = two.closed ∙ one.closed;
        lives = λ life lives.
            let more = two.lives (committed_life life one.done mid.waiting) (one.lives life lives) in
            lives_as new (committed_life (committed_life life one.done mid.waiting) two.done new.waiting)
            (life.committed ++ (one.done ++ two.done)) new.waiting more
            (append_assoc life.committed one.done two.done) refl;
        leaves = leaves_then old mid new first last one two.leaves;
      }

-- ---- a prefix of the messages

module _ {S : Type 0} (shows may_leave : S → List ℕ → Type 0) (moment : S → ℕ) (left_since : S → ℕ → List ℕ → Type 0)
  where
    -- All of the messages were appended.
    pub some_all : (old new : DurableState S) (messages : List (List ℕ)) →
        HasAppended shows may_leave moment left_since old new messages →
        HasAppendedSome shows may_leave moment left_since old new messages
    some_all old new messages appended = record {
      front = messages;
      rest = [];
      parts = sym (append-nil messages);
      state = inr appended;
      leaves = appended.leaves;
    }

    -- More messages follow, which were not appended.
    pub some_longer : (old new : DurableState S) (first last : List (List ℕ)) →
        HasAppendedSome shows may_leave moment left_since old new first →
        HasAppendedSome shows may_leave moment left_since old new (first ++ last)
    some_longer old new first last some = record {
      front = some.front;
      rest = some.rest ++ last;
      parts = ap (λ (ms : List (List ℕ)). ms ++ last) some.parts ∙ append_assoc some.front some.rest last;
      state = some.state;
      leaves = λ life lives.
          weaker moment left_since old.storage new.storage (IsPartFile life first) (IsPartFile life (first ++ last))
          (some.leaves life lives) (part_longer life first last);
    }

    -- A commit failed.
    pub some_commit : (old new : DurableState S) → new.broken ≡ true → ((life : Life) → Lives shows may_leave old life →
        LeavesOnly moment left_since old.storage new.storage (IsFileAround life Commit)) →
        HasAppendedSome shows may_leave moment left_since old new []
    some_commit old new broken around = record {
      front = [];
      rest = [];
      parts = refl;
      state = inl broken;
      leaves = λ life lives.
          weaker moment left_since old.storage new.storage (IsFileAround life Commit) (IsPartFile life [])
          (around life lives) (part_around life []);
    }

    module _ (only_now : (storage : S) (bytes : List ℕ) → left_since storage (moment storage) bytes →
        may_leave storage bytes) where
      -- None of the messages was appended.
      pub some_none : (journal : DurableState S) (messages : List (List ℕ)) →
          HasAppendedSome shows may_leave moment left_since journal journal messages
      some_none journal messages = record {
        front = [];
        rest = messages;
        parts = refl;
        state = inr (appended_none shows may_leave moment left_since only_now journal);
        leaves = leaves_still shows may_leave moment left_since only_now journal journal messages refl;
      }

      -- Messages were appended, and then some more.
      pub some_then : (old mid new : DurableState S) (first last : List (List ℕ)) →
          HasAppended shows may_leave moment left_since old mid first →
          HasAppendedSome shows may_leave moment left_since mid new last →
          HasAppendedSome shows may_leave moment left_since old new (first ++ last)
      some_then old mid new first last one two = record {
        front = first ++ two.front;
        rest = two.rest;
        parts = ap (λ (ms : List (List ℕ)). first ++ ms) two.parts ∙ sym (append_assoc first two.front two.rest);
        state = ⊎_elim (λ broken. inl broken)
            (λ more. inr (appended_then shows may_leave moment left_since only_now old mid new first two.front one
            more))
            two.state;
        leaves = leaves_then shows may_leave moment left_since only_now old mid new first last one two.leaves;
      }

      saved_leaves : (old mid new : DurableState S) (messages front rest : List (List ℕ)) → messages ≡ front ++ rest →
          LeavesParts shows may_leave moment left_since old mid messages → (mid.broken ≡ true → new ≡ mid) →
          LeavesParts shows may_leave moment left_since mid new [] →
          (mid.broken ≡ true) ⊎ HasAppended shows may_leave moment left_since old mid front →
          LeavesParts shows may_leave moment left_since old new messages
      saved_leaves old mid new messages front rest parts leaves unwritten more (inl broken) =
          subst (λ (j : DurableState S). LeavesParts shows may_leave moment left_since old j messages)
          (sym (unwritten broken)) leaves
      saved_leaves old mid new messages front rest parts leaves unwritten more (inr appended) = λ life lives.
          subst (λ (ms : List (List ℕ)). LeavesOnly moment left_since old.storage new.storage (IsPartFile life ms))
          (ap (λ (ms : List (List ℕ)). ms ++ rest) (append-nil front) ∙ sym parts)
          (weaker moment left_since old.storage new.storage (IsPartFile life (front ++ []))
          (IsPartFile life ((front ++ []) ++ rest))
          (leaves_then shows may_leave moment left_since only_now old mid new front [] appended more life lives)
          (part_longer life (front ++ []) rest))

      saved_state : (old mid new : DurableState S) (front : List (List ℕ)) → (mid.broken ≡ true → new ≡ mid) →
          (new.broken ≡ true) ⊎ HasAppended shows may_leave moment left_since mid new [] →
          (mid.broken ≡ true) ⊎ HasAppended shows may_leave moment left_since old mid front →
          (new.broken ≡ true) ⊎ HasAppended shows may_leave moment left_since old new front
      saved_state old mid new front unwritten committed (inl broken) =
          inl (ap (λ (j : DurableState S). j.broken) (unwritten broken) ∙ broken)
      saved_state old mid new front unwritten (inl broken) (inr appended) = inl broken
      saved_state old mid new front unwritten (inr more) (inr appended) =
          inr (subst (λ (ms : List (List ℕ)). HasAppended shows may_leave moment left_since old new ms)
          (append-nil front)
          (appended_then shows may_leave moment left_since only_now old mid new front [] appended more))

      -- Some messages were appended, and then what waits was committed, unless the journal was broken.
      pub some_saved : (old mid new : DurableState S) (messages : List (List ℕ)) →
          HasAppendedSome shows may_leave moment left_since old mid messages → (mid.broken ≡ true → new ≡ mid) →
          (new.broken ≡ true) ⊎ HasAppended shows may_leave moment left_since mid new [] →
          LeavesParts shows may_leave moment left_since mid new [] →
          HasAppendedSome shows may_leave moment left_since old new messages
      some_saved old mid new messages some unwritten committed leaves = record {
        front = some.front;
        rest = some.rest;
        parts = some.parts;
        state = saved_state old mid new some.front unwritten committed some.state;
        leaves = saved_leaves old mid new messages some.front some.rest some.parts some.leaves unwritten leaves
            some.state;
      }

      -- A commit, whether it succeeds or not.
      pub commit_outcome : (old new : DurableState S) (result : Result (Unit {0}) CommitError) →
          OnOk result (new ≡ record old {
            storage = new.storage;
            committed = old.committed + length old.waiting;
            end = new.end;
            waiting = [];
          }) → ((life : Life) → Lives shows may_leave old life →
          OnOk result (Lives shows may_leave new (after_moment life Commit))) →
          ((life : Life) → Lives shows may_leave old life →
          LeavesOnly moment left_since old.storage new.storage (IsFileAround life Commit)) →
          OnErr result (new ≡ record old { storage = new.storage; broken = true }) →
          (new.broken ≡ true) ⊎ HasAppended shows may_leave moment left_since old new []
      commit_outcome old new (Ok _) done lives around failed =
          inr (appended_commit shows may_leave moment left_since only_now old new done lives around)
      commit_outcome old new (Err _) done lives around failed =
          inl (ap (λ (j : DurableState S). j.broken) failed)

-- After a commit nothing waits, or a write failed.
pub commit_saved : {S : Type 0} (old new : DurableState S) (result : Result (Unit {0}) CommitError) →
    OnOk result (new ≡ record old {
      storage = new.storage;
      committed = old.committed + length old.waiting;
      end = new.end;
      waiting = [];
    }) → OnErr result (new ≡ record old { storage = new.storage; broken = true }) → IsSaved new
commit_saved old new (Ok _) done failed = inr (ap (λ (j : DurableState _). j.waiting) done)
commit_saved old new (Err _) done failed = inl (ap (λ (j : DurableState _). j.broken) failed)

-- ---- a batch

-- The first messages of a batch are appended, and these remain.
pub record AppendsFront {S : Type 0} (shows may_leave : S → List ℕ → Type 0) (moment : S → ℕ)
    (left_since : S → ℕ → List ℕ → Type 0) (old new : DurableState S) (messages left : List (List ℕ)) : Type 0 where
  pub front : List (List ℕ)
  pub parts : messages ≡ front ++ left
  pub appended : HasAppended shows may_leave moment left_since old new front

module _ {S : Type 0} (shows may_leave : S → List ℕ → Type 0) (moment : S → ℕ) (left_since : S → ℕ → List ℕ → Type 0)
  where
    pub front_all : (old new : DurableState S) (messages left : List (List ℕ)) → left ≡ [] →
        AppendsFront shows may_leave moment left_since old new messages left →
        HasAppended shows may_leave moment left_since old new messages
    front_all old new messages left none is =
        subst (λ (ms : List (List ℕ)). HasAppended shows may_leave moment left_since old new ms)
        (sym (is.parts ∙ ap (λ (ms : List (List ℕ)). is.front ++ ms) none ∙ append-nil is.front)) is.appended

    module _ (only_now : (storage : S) (bytes : List ℕ) → left_since storage (moment storage) bytes →
        may_leave storage bytes) where
      pub front_none : (journal : DurableState S) (messages left : List (List ℕ)) → left ≡ messages →
          AppendsFront shows may_leave moment left_since journal journal messages left
      front_none journal messages left all = record {
        front = [];
        parts = sym all;
        appended = appended_none shows may_leave moment left_since only_now journal;
      }

      pub front_more : (old mid new : DurableState S) (messages left : List (List ℕ)) (message : List ℕ)
          (rest : List (List ℕ)) → left ≡ message ∷ rest →
          AppendsFront shows may_leave moment left_since old mid messages left →
          HasAppended shows may_leave moment left_since mid new (message ∷ []) →
          AppendsFront shows may_leave moment left_since old new messages rest
      front_more old mid new messages left message rest steps is one = record {
        front = is.front ++ message ∷ [];
        parts = is.parts ∙ ap (λ (ms : List (List ℕ)). is.front ++ ms) steps
            ∙ sym (append_assoc is.front (message ∷ []) rest);
        appended = appended_then shows may_leave moment left_since only_now old mid new is.front (message ∷ [])
            is.appended
            one;
      }

      pub front_stopped : (old mid new : DurableState S) (messages left : List (List ℕ)) (message : List ℕ)
          (rest : List (List ℕ)) → left ≡ message ∷ rest →
          AppendsFront shows may_leave moment left_since old mid messages left →
          HasAppendedSome shows may_leave moment left_since mid new (message ∷ []) →
          HasAppendedSome shows may_leave moment left_since old new messages
      front_stopped old mid new messages left message rest steps is one =
          subst (λ (ms : List (List ℕ)). HasAppendedSome shows may_leave moment left_since old new ms)
          (sym (is.parts ∙ ap (λ (ms : List (List ℕ)). is.front ++ ms) steps
          ∙ sym (append_assoc is.front (message ∷ []) rest)))
          (some_longer shows may_leave moment left_since old new (is.front ++ message ∷ []) rest
          (some_then shows may_leave moment left_since only_now old mid new is.front (message ∷ []) is.appended one))
