-- The messages of an input that join those that wait, one by one.
use Rattle.std.proofs.Common.{◌≡◌, Bool, false, inl, inr, ℕ, ◌+◌, ◌≤◌, List, [], ◌∷◌, ◌++◌, Option, Ok, Err}
use Rattle.std.proofs.Common.{refl, sym, ap, subst, ◌∙◌, append_assoc, append-nil, length-append, arith}
use Rattle.mold_durable.specs.Life.{IsFileAround, IsFileOf, Life, Lives, after as after_moment}
use Rattle.mold_durable.specs.Life.Moment.{Close, Commit}
use Rattle.mold_durable.specs.Storage.{LeavesOnly}
use Rattle.mold_durable_publisher.specs.DurablePublisher.{Publishes}
use Rattle.mold_durable_publisher.specs.Told.{IsLaterFile, IsTold, IsTrueNow}
use Rattle.mold_durable_publisher.specs.declared.durable_publisher.DurablePublisher.{DurablePublisher}
use Rattle.mold_input.specs.Entries.{Entry, GivesNext, InputEntries, with_kind}
use Rattle.mold_input.specs.declared.input_fault.InputFault.{InputFault}
use Rattle.mold_input.specs.declared.input_kind.InputKind.{InputKind}
use Rattle.mold_input.specs.declared.next.Next.TheVariants as next
use Rattle.mold_publish.specs.Publishing.{InputPublished, entry_outcome, fault_refusal}
use Rattle.mold_publish.specs.declared.message_refusal.MessageRefusal.{MessageRefusal}
use Rattle.mold_publish.proofs.PublishingLemmas.{published_end, published_fault, published_more, published_nothing, published_refused}
use Rattle.mold_session.specs.Journal.{JournalState}
use Rattle.mold_session.specs.Publisher.{PublisherState}
use Rattle.mold_session.specs.Records.{SpellsJournal3}
use Rattle.mold_wire.specs.declared.session.Session.{Session}
use Rattle.mold_feeder.specs.Feeder.{IsFileAtEnd}
use Rattle.mold_feeder.specs.Gathering.{Gathers, Grows, IsFileUpTo, JoinsNothing, JoinsWaiting, TakesGroup}
use Rattle.mold_feeder.specs.Gathering.{filled_for, with_waiting}
use Rattle.mold_feeder.specs.declared.gathered.Gathered.{Gathered}
use Rattle.mold_feeder.specs.declared.gathered.Gathered.TheVariants.{Full, End, Refused}

module _ {S : Type 0} (shows may_leave : S → List ℕ → Type 0) (kind : InputKind) (life : Life) where
  -- The entries before the rest joined those that wait.
  abbrev pub SoFar : ℕ → DurablePublisher S → DurablePublisher S → Option (List Entry) → Option (List Entry) → Type 0
  SoFar most old now known left =
      Gathers shows may_leave life most old now (with_kind kind known) (with_kind kind left) Full

  -- Before the first entry.
  pub gathered_nothing : (old : DurablePublisher S) (known : Option (List Entry)) →
      Publishes shows may_leave old life → SoFar 0 old old known known
  gathered_nothing old known is = record {
    messages = [];
    few = omega arith;
    added = sym (append-nil old.publisher.journal.messages);
    sent = refl;
    storage = refl;
    publishes = subst (λ (w : List (List ℕ)). Publishes shows may_leave old (record life { waiting = w }))
        (sym (append-nil life.waiting)) is;
    input = published_nothing kind old.publisher.journal known;
  }

  -- One more message.
  pub gathered_more : (most : ℕ) (old mid new : DurablePublisher S) (known left behind : Option (List Entry))
      (read : List ℕ) (so_far : SoFar most old mid known left) → GivesNext left behind next.Message read →
      JoinsWaiting shows may_leave (with_waiting life so_far.messages) mid new
      (entry_outcome kind mid.publisher.journal (Ok read)) → SoFar (most + 1) old new known behind
  gathered_more most old mid new known left behind read so_far gives joins = record {
    messages = so_far.messages ++ joins.message ∷ [];
    few = omega (arith, so_far.few, length-append so_far.messages (joins.message ∷ []));
    added = ap (λ (j : JournalState). j.messages) joins.journal
        ∙ ap (λ (ms : List (List ℕ)). ms ++ joins.message ∷ []) so_far.added
        ∙ append_assoc old.publisher.journal.messages so_far.messages (joins.message ∷ []);
    sent = joins.sent ∙ so_far.sent;
    storage = joins.storage ∙ so_far.storage;
    publishes = subst (λ (w : List (List ℕ)). Publishes shows may_leave new (record life { waiting = w }))
        (append_assoc life.waiting so_far.messages (joins.message ∷ [])) joins.publishes;
    input = published_more kind old.publisher.journal mid.publisher.journal new.publisher.journal known left behind read
        joins.message so_far.input gives joins.is joins.journal;
  }

  -- The messages so far.
  pub grown_so_far : (most : ℕ) (old mid new : DurablePublisher S) (known left : Option (List Entry)) →
      SoFar most old mid known left → new.publisher ≡ mid.publisher → Grows kind (with_kind kind known) old new
  grown_so_far most old mid new known left so_far same = record {
    messages = so_far.messages;
    added = ap (λ (p : PublisherState). p.journal.messages) same ∙ so_far.added;
    left = left;
    filled = filled_for Full;
    input = subst (λ (p : PublisherState). InputPublished old.publisher.journal p.journal (with_kind kind known)
        (with_kind kind left) (filled_for Full)) (sym same) so_far.input;
  }

  -- The group ends here.
  stopped : (most all : ℕ) (old now : DurablePublisher S) (known left behind : Option (List Entry)) (gathered : Gathered) →
      most ≤ all → SoFar most old now known left →
      InputPublished old.publisher.journal now.publisher.journal (with_kind kind known) (with_kind kind behind)
      (filled_for gathered) →
      Gathers shows may_leave life all old now (with_kind kind known) (with_kind kind behind) gathered
  stopped most all old now known left behind gathered le so_far input = record {
    messages = so_far.messages;
    few = omega (arith, le, so_far.few);
    added = so_far.added;
    sent = so_far.sent;
    storage = so_far.storage;
    publishes = so_far.publishes;
    input = input;
  }

  -- No entry remains.
  pub gathered_end : (most all : ℕ) (old now : DurablePublisher S) (known left behind : Option (List Entry))
      (read : List ℕ) → most ≤ all → SoFar most old now known left → GivesNext left behind next.End read →
      Gathers shows may_leave life all old now (with_kind kind known) (with_kind kind behind) End
  gathered_end most all old now known left behind read le so_far gives =
      stopped most all old now known left behind End le so_far
      (published_end kind old.publisher.journal now.publisher.journal known left behind read so_far.input gives)

  -- An entry is not a message.
  pub gathered_fault : (most all : ℕ) (old now : DurablePublisher S) (known left behind : Option (List Entry))
      (read : List ℕ) (why : InputFault) → most ≤ all → SoFar most old now known left →
      GivesNext left behind (next.Fault why) read →
      Gathers shows may_leave life all old now (with_kind kind known) (with_kind kind behind)
      (Refused (record { kind = kind; why = fault_refusal why now.publisher.journal.closed }))
  gathered_fault most all old now known left behind read why le so_far gives =
      stopped most all old now known left behind
      (Refused (record { kind = kind; why = fault_refusal why now.publisher.journal.closed })) le so_far
      (published_fault kind old.publisher.journal now.publisher.journal known left behind read why so_far.input gives)

  -- A message is refused.
  pub gathered_refused : (most all : ℕ) (old mid new : DurablePublisher S) (known left behind : Option (List Entry))
      (read : List ℕ) (refusal : MessageRefusal) → most ≤ all →
      (so_far : SoFar most old mid known left) → GivesNext left behind next.Message read →
      (entry_outcome kind mid.publisher.journal (Ok read) ≡ Err refusal)
      × JoinsNothing shows may_leave (with_waiting life so_far.messages) mid new →
      Gathers shows may_leave life all old new (with_kind kind known) (with_kind kind behind) (Refused refusal)
  gathered_refused most all old mid new known left behind read refusal le so_far gives refused =
      let same : new.publisher ≡ mid.publisher = ap (λ (p : DurablePublisher S). p.publisher) refused.1.same in
      record {
        messages = so_far.messages;
        few = omega (arith, le, so_far.few);
        added = ap (λ (p : PublisherState). p.journal.messages) same ∙ so_far.added;
        sent = ap (λ (p : PublisherState). p.sent) same ∙ so_far.sent;
        storage = ap (λ (p : DurablePublisher S). p.durable.storage) refused.1.same ∙ so_far.storage;
        publishes = refused.1.publishes;
        input = subst (λ (p : PublisherState). InputPublished old.publisher.journal p.journal (with_kind kind known)
            (with_kind kind behind) (filled_for (Refused refusal))) (sym same)
            (published_refused kind old.publisher.journal mid.publisher.journal known left behind read refusal
            so_far.input gives refused.0);
      }

  -- The group is full.
  pub gathered_full : (most all : ℕ) (old now : DurablePublisher S) (known left : Option (List Entry)) → most ≤ all →
      SoFar most old now known left →
      Gathers shows may_leave life all old now (with_kind kind known) (with_kind kind left) Full
  gathered_full most all old now known left le so_far =
      stopped most all old now known left left Full le so_far so_far.input

module _ {S : Type 0} (moment : S → ℕ) (left_since : S → ℕ → List ℕ → Type 0) where
  -- What a crash leaves meets less, too.
  pub leaves_weaker : (old new : S) (P Q : List ℕ → Type 0) → ((bytes : List ℕ) → P bytes → Q bytes) →
      LeavesOnly moment left_since old new P → LeavesOnly moment left_since old new Q
  leaves_weaker old new P Q follows leaves = record {
    later = leaves.later;
    each = λ bytes left. follows bytes (leaves.each bytes left);
    before = λ earlier bytes le left. elim (leaves.before earlier bytes le left) [
      | inl before ↦ inl before
      | inr is ↦ inr (follows bytes is)
    ];
  }

  -- The storage was not used.
  pub leaves_still : (may_leave : S → List ℕ → Type 0) → ((storage : S) (bytes : List ℕ) →
      left_since storage (moment storage) bytes → may_leave storage bytes) → (storage : S) (P : List ℕ → Type 0) →
      ((bytes : List ℕ) → may_leave storage bytes → P bytes) → LeavesOnly moment left_since storage storage P
  leaves_still may_leave only_now storage P is = record {
    later = omega arith;
    each = λ bytes left. is bytes (only_now storage bytes left);
    before = λ earlier bytes le left. inl left;
  }

  -- A crash during the first part or during the second.
  pub leaves_both : (old mid new : S) (P Q R : List ℕ → Type 0) → ((bytes : List ℕ) → P bytes → R bytes) →
      ((bytes : List ℕ) → Q bytes → R bytes) → LeavesOnly moment left_since old mid P →
      LeavesOnly moment left_since mid new Q → LeavesOnly moment left_since old new R
  leaves_both old mid new P Q R one other first second = record {
    later = omega (arith, first.later, second.later);
    each = λ bytes left. elim (second.before (moment old) bytes first.later left) [
      | inl before ↦ one bytes (first.each bytes before)
      | inr is ↦ other bytes is
    ];
    before = λ earlier bytes le left.
        elim (second.before earlier bytes (omega (arith, le, first.later)) left) [
          | inl before ↦ elim (first.before earlier bytes le before) [
            | inl still ↦ inl still
            | inr is ↦ inr (one bytes is)
          ]
          | inr is ↦ inr (other bytes is)
        ];
  }

-- The files around the closing are those at the end.
pub around_at_end : (stays_open : Bool) (life : Life) (bytes : List ℕ) → stays_open ≡ false →
    IsFileAround life Close bytes → IsFileAtEnd stays_open life bytes
around_at_end stays_open life bytes is (inl before) = inl before
around_at_end stays_open life bytes is (inr after) = inr (is, after)

-- The same files, if the journal is the same.
pub up_to_same : {S : Type 0} (life : Life) (one other : DurablePublisher S) (bytes : List ℕ) →
    other.publisher.journal ≡ one.publisher.journal → IsFileUpTo life one bytes → IsFileUpTo life other bytes
up_to_same life one other bytes same (inl file) = inl file
up_to_same life one other bytes same (inr file) =
    inr (subst (λ (j : JournalState). SpellsJournal3 life.session j.messages life.closed bytes) (sym same) file)

-- What a crash leaves now is a file of the committed messages.
pub file_now : {S : Type 0} (shows may_leave : S → List ℕ → Type 0) (publisher : DurablePublisher S) (life : Life) →
    Lives shows may_leave publisher.durable life → (bytes : List ℕ) → may_leave publisher.durable.storage bytes →
    IsFileOf life bytes
file_now shows may_leave publisher life lives bytes left =
    subst (λ (session : Session). SpellsJournal3 session life.committed life.closed bytes) (sym lives.session)
    (subst (λ (closed : Bool). SpellsJournal3 publisher.durable.session life.committed closed bytes) (sym lives.closed)
    (lives.settled.kept.left bytes left))

-- The files around a commit are those of the committed messages, and of all that the publisher has.
around_up_to : {S : Type 0} {shows may_leave : S → List ℕ → Type 0} (life : Life) (mid now : DurablePublisher S)
    (messages : List (List ℕ)) (bytes : List ℕ) → Publishes shows may_leave mid (with_waiting life messages) →
    now.publisher ≡ mid.publisher → IsFileAround (with_waiting life messages) Commit bytes → IsFileUpTo life now bytes
around_up_to life mid now messages bytes is kept (inl before) = inl before
around_up_to life mid now messages bytes is kept (inr after) =
    inr (subst (λ (ms : List (List ℕ)). SpellsJournal3 life.session ms life.closed bytes)
    (sym (ap (λ (p : PublisherState). p.journal.messages) kept ∙ is.held)) after)

module _ {S : Type 0} (shows may_leave : S → List ℕ → Type 0) (moment : S → ℕ) (left_since : S → ℕ → List ℕ → Type 0) where
  -- The storage was not used, so a crash leaves what it might have left before.
  pub told_unused : (only_now : (storage : S) (bytes : List ℕ) → left_since storage (moment storage) bytes →
      may_leave storage bytes) →
      (later : (life : Life) (datagram bytes : List ℕ) → IsTrueNow life datagram → IsLaterFile life bytes →
      IsTold datagram bytes) (publisher : DurablePublisher S) (life : Life) (datagram : List ℕ) (new : S) →
      Publishes shows may_leave publisher life → IsTrueNow life datagram → new ≡ publisher.durable.storage →
      LeavesOnly moment left_since publisher.durable.storage new (IsTold datagram)
  told_unused only_now later publisher life datagram new is so same =
      subst (λ (s : S). LeavesOnly moment left_since publisher.durable.storage s (IsTold datagram)) (sym same) (record {
        later = omega arith;
        each = λ bytes left. later life datagram bytes so (is.left bytes (only_now publisher.durable.storage bytes left));
        before = λ earlier bytes le left. inl left;
      })

  -- The storage was not used, so a crash leaves the committed messages.
  pub crash_unused : (only_now : (storage : S) (bytes : List ℕ) → left_since storage (moment storage) bytes →
      may_leave storage bytes) → (publisher now : DurablePublisher S) (life : Life) →
      Publishes shows may_leave publisher life → publisher.durable.broken ≡ false →
      now.durable.storage ≡ publisher.durable.storage →
      LeavesOnly moment left_since publisher.durable.storage now.durable.storage (IsFileUpTo life now)
  crash_unused only_now publisher now life is intact same =
      subst (λ (s : S). LeavesOnly moment left_since publisher.durable.storage s (IsFileUpTo life now)) (sym same) (record {
        later = omega arith;
        each = λ bytes left.
            inl (file_now shows may_leave publisher life (is.lives intact) bytes (only_now publisher.durable.storage bytes left));
        before = λ earlier bytes le left. inl left;
      })

  -- A commit leaves the committed messages, or those that waited too.
  pub crash_commit : (life : Life) (old : S) (mid now : DurablePublisher S) (messages : List (List ℕ)) →
      Publishes shows may_leave mid (with_waiting life messages) → mid.durable.storage ≡ old →
      now.publisher ≡ mid.publisher →
      LeavesOnly moment left_since mid.durable.storage now.durable.storage
      (IsFileAround (with_waiting life messages) Commit) →
      LeavesOnly moment left_since old now.durable.storage (IsFileUpTo life now)
  crash_commit life old mid now messages is same kept leaves =
      subst (λ (s : S). LeavesOnly moment left_since s now.durable.storage (IsFileUpTo life now)) same
      (leaves_weaker moment left_since mid.durable.storage now.durable.storage (IsFileAround (with_waiting life messages) Commit)
      (IsFileUpTo life now) (λ bytes. around_up_to life mid now messages bytes is kept) leaves)

  -- A group was not committed.
  pub group_failed : (kind : InputKind) (life : Life) (most : ℕ) (old mid new : DurablePublisher S)
      (known : Option InputEntries) (left : Option (List Entry)) (gathered : Gathered) →
      Gathers shows may_leave life most old mid known (with_kind kind left) gathered → new.publisher ≡ mid.publisher →
      Grows kind known old new
  group_failed kind life most old mid new known left gathered so_far same = record {
    messages = so_far.messages;
    added = ap (λ (p : PublisherState). p.journal.messages) same ∙ so_far.added;
    left = left;
    filled = filled_for gathered;
    input = subst (λ (p : PublisherState). InputPublished old.publisher.journal p.journal known (with_kind kind left)
        (filled_for gathered)) (sym same) so_far.input;
  }

  -- A group was committed.
  pub group_taken : (life : Life) (most : ℕ) (old mid new : DurablePublisher S) (known left : Option InputEntries)
      (gathered : Gathered) (so_far : Gathers shows may_leave life most old mid known left gathered) →
      Publishes shows may_leave new (after_moment (with_waiting life so_far.messages) Commit) →
      new.publisher ≡ mid.publisher → TakesGroup shows may_leave life most old new known left gathered
  group_taken life most old mid new known left gathered so_far is same = record {
    messages = so_far.messages;
    few = so_far.few;
    possible = so_far.publishes.possible;
    added = ap (λ (p : PublisherState). p.journal.messages) same ∙ so_far.added;
    sent = ap (λ (p : PublisherState). p.sent) same ∙ so_far.sent;
    publishes = is;
    input = subst (λ (p : PublisherState). InputPublished old.publisher.journal p.journal known left (filled_for gathered))
        (sym same) so_far.input;
  }
