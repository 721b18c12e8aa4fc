-- What each call leaves of a durable publisher whose session has a life.
use Rattle.std.proofs.Common.{◌≡◌, inl, inr, ⊎_elim, ℕ, ◌+◌, ◌≤◌, Bool, true, false, List, [], ◌∷◌, ◌++◌, length}
use Rattle.std.proofs.Common.{Result, Ok, Err, refl, sym, ap, subst, ◌∙◌, append_assoc, append-nil, length-append, arith}
use Rattle.std.proofs.lemmas.Bool.{false≢true}
use Rattle.std.specs.Prelude.{OnOk, OnErr}
use Rattle.mold_wire.specs.declared.session.Session.{Session}
use Rattle.mold_session.specs.Journal.{IsJournal, JournalState, appended}
use Rattle.mold_session.specs.Publisher.{IsPublisher, PublisherState, closed as closed_publisher, published}
use Rattle.mold_session.specs.Publisher.{resumed_publisher}
use Rattle.mold_session.specs.Records.{SpellsJournal3}
use Rattle.mold_durable.specs.DurableJournal.{DurableState}
use Rattle.mold_durable.specs.Life.{IsFileAround, Life, Lives, MayHappen, Moment, after as after_moment}
use Rattle.mold_durable.specs.Life.Moment.{Append, Close, Commit}
use Rattle.mold_durable.specs.Storage.{LeavesOnly}
use Rattle.mold_durable.specs.declared.error.CommitError.{CommitError}
use Rattle.mold_index.specs.Index.{IndexState}
use Rattle.mold_index.specs.Layouts.{lengths_of}
use Rattle.mold_indexed_file.specs.Stored.{IsOfJournal, StoredState}
use Rattle.mold_durable_publisher.specs.DurablePublisher.{Agrees, HasSameMessages, Publishes}
use Rattle.mold_durable_publisher.proofs.IndexLemmas.{AddsLength, index_more, is_of_journal, of_index, part_more}
use Rattle.mold_durable_publisher.specs.Told.{IsLaterFile, IsLife, IsTold, IsTrueNow}
use Rattle.mold_durable_publisher.specs.declared.durable_publisher.DurablePublisher.{DurablePublisher}
use Rattle.mold_durable_publisher.proofs.ToldLemmas.{Keeps, later_around, life_goes_on, same_later, told_around, told_later}

-- What a crash leaves is a file of exactly the committed messages.
settled_left :
    (life : Life) (session : Session) (closed : Bool) (bytes : List ℕ) → IsLife life → session ≡ life.session →
    closed ≡ life.closed → SpellsJournal3 session life.committed closed bytes → IsLaterFile life bytes
settled_left life session closed bytes is named ends file = record {
  messages = life.committed;
  closed = life.closed;
  file = subst (λ (b : Bool). SpellsJournal3 life.session life.committed b bytes) ends
      (subst (λ (s : Session). SpellsJournal3 s life.committed closed bytes) named file);
  later = same_later life is;
}

-- If the closing or the waiting is all that changes of a life, the same files are later ones.
left_waiting : (life : Life) (waiting : List (List ℕ)) (bytes : List ℕ) → IsLaterFile life bytes →
    IsLaterFile (record life { waiting = waiting }) bytes
left_waiting life waiting bytes later =
    record { messages = later.messages; closed = later.closed; file = later.file; later = later.later }

-- A list of length 0 is empty.
pub empty : (messages : List (List ℕ)) → length messages ≡ 0 → messages ≡ []
empty [] none = refl
empty (message ∷ messages) none = absurd (omega (arith, none))

-- A durable publisher is its parts.
pub all_parts : {S : Type 0} → (one other : DurablePublisher S) → other.publisher ≡ one.publisher →
    other.durable ≡ one.durable → other.index ≡ one.index → other ≡ one
all_parts {S} one other same_publisher same_durable same_index =
    ap (λ (p : PublisherState). record other { publisher = p }) same_publisher
    ∙ ap (λ (d : DurableState S). record { publisher = one.publisher; durable = d; index = other.index }) same_durable
    ∙ ap (λ (i : StoredState). record one { index = i }) same_index

module _ {S : Type 0} (shows may_leave : S → List ℕ → Type 0) where
  resumed_publishes : (journal : JournalState) (durable : DurableState S) (limit : ℕ) (life : Life) →
      Lives shows may_leave durable life → length durable.waiting ≡ 0 → journal.messages ≡ life.committed →
      journal.session ≡ durable.session → journal.closed ≡ durable.closed → journal.max_message ≡ durable.max_message →
      (index : StoredState) → IsOfJournal index journal →
      Publishes shows may_leave
      (record { publisher = resumed_publisher journal limit; durable = durable; index = index }) life
  resumed_publishes journal durable limit life lives none same named ends longest index stored =
      let nothing : life.waiting ≡ [] = empty life.waiting (ap (λ (ms : List (List ℕ)). length ms) lives.waiting ∙ none) in
      let is : IsLife life = record {
        few = omega (arith, lives.settled.listed.few, ap (λ (ms : List (List ℕ)). length ms) nothing);
        none = λ closed. nothing;
      } in
      record {
        possible = is;
        named = named ∙ sym lives.session;
        held = same ∙ sym (append-nil life.committed) ∙ ap (λ (ms : List (List ℕ)). life.committed ++ ms) (sym nothing);
        sent = omega (arith, ap (λ (ms : List (List ℕ)). length ms) same);
        closed = ends ∙ sym lives.closed;
        longest = longest;
        durable_named = sym lives.session;
        counted = lives.settled.counted;
        waits = sym lives.waiting;
        durable_closed = sym lives.closed;
        left = λ bytes now. settled_left life durable.session durable.closed bytes is (sym lives.session)
            (sym lives.closed) (lives.settled.kept.left bytes now);
        lives = λ intact. lives;
        indexed = of_index index journal stored;
        part = λ shown intact. stored.part;
      }

  append_parts : (old : DurablePublisher S) (life : Life) (message : List ℕ) (durable : DurableState S)
      (index : IndexState) → Publishes shows may_leave old life → MayHappen life (Append message) →
      Lives shows may_leave durable (after_moment life (Append message)) →
      durable ≡ record old.durable { waiting = old.durable.waiting ++ message ∷ [] } →
      IsJournal (appended old.publisher.journal message) → AddsLength old.index.index index message →
      Publishes shows may_leave (record {
        publisher = published old.publisher message;
        durable = durable;
        index = record old.index { index = index };
      }) (after_moment life (Append message))
  append_parts old life message durable index is may lives done journaled adds = record {
    possible = life_goes_on life (Append message) is.possible may;
    named = is.named;
    held = ap (λ (ms : List (List ℕ)). ms ++ message ∷ []) is.held
        ∙ append_assoc life.committed life.waiting (message ∷ []);
    sent = is.sent;
    closed = is.closed;
    longest = is.longest ∙ sym (ap (λ (d : DurableState S). d.max_message) done);
    durable_named = ap (λ (d : DurableState S). d.session) done ∙ is.durable_named;
    counted = ap (λ (d : DurableState S). d.committed) done ∙ is.counted;
    waits = ap (λ (d : DurableState S). d.waiting) done ∙ ap (λ (ms : List (List ℕ)). ms ++ message ∷ []) is.waits;
    durable_closed = ap (λ (d : DurableState S). d.closed) done ∙ is.durable_closed;
    left = λ bytes now. left_waiting life (life.waiting ++ message ∷ []) bytes
        (is.left bytes (subst (λ (s : S). may_leave s bytes) (ap (λ (d : DurableState S). d.storage) done) now));
    lives = λ intact. lives;
    indexed = index_more old.index index old.publisher.journal message is.indexed journaled adds;
    part = λ shown intact. part_more old.index index old.publisher.journal message is.indexed
        (is.part shown (sym (ap (λ (d : DurableState S). d.broken) done) ∙ intact)) journaled adds;
  }

  -- After an append.
  pub append_publishes : (old new : DurablePublisher S) (life : Life) (message : List ℕ) →
      Publishes shows may_leave old life → MayHappen life (Append message) →
      Lives shows may_leave new.durable (after_moment life (Append message)) →
      IsPublisher (published old.publisher message) → AddsLength old.index.index new.index.index message →
      new ≡ record {
        publisher = published old.publisher message;
        durable = record old.durable { waiting = old.durable.waiting ++ message ∷ [] };
        index = record old.index { index = new.index.index };
      } → Publishes shows may_leave new (after_moment life (Append message))
  append_publishes old new life message is may lives publisher adds done =
      subst (λ (p : DurablePublisher S). Publishes shows may_leave p (after_moment life (Append message))) (sym done)
      (append_parts old life message
      (record old.durable { waiting = old.durable.waiting ++ message ∷ [] }) new.index.index is may
      (subst (λ (p : DurablePublisher S). Lives shows may_leave p.durable (after_moment life (Append message))) done lives)
      refl publisher.journaled adds)

  -- After an append that failed: only the index may have changed, and it has the same messages.
  pub unappended_publishes : (old new : DurablePublisher S) (life : Life) (message : List ℕ) →
      Publishes shows may_leave old life → new ≡ record old { index = new.index } →
      HasSameMessages old.index new.index →
      (IsOfJournal old.index old.publisher.journal → IsOfJournal new.index old.publisher.journal) →
      Publishes shows may_leave new life
  unappended_publishes old new life message is same messages part =
      subst (λ (p : DurablePublisher S). Publishes shows may_leave p life) (sym same) (record {
        possible = is.possible;
        named = is.named;
        held = is.held;
        sent = is.sent;
        closed = is.closed;
        longest = is.longest;
        durable_named = is.durable_named;
        counted = is.counted;
        waits = is.waits;
        durable_closed = is.durable_closed;
        left = is.left;
        lives = is.lives;
        indexed = record {
          named = messages.named ∙ is.indexed.named;
          limited = messages.limited ∙ is.indexed.limited;
          journaled = is.indexed.journaled;
          indexes = messages.indexes (lengths_of old.publisher.journal.messages) is.indexed.indexes;
        };
        part = λ shown intact.
            (part (is_of_journal old.index old.publisher.journal is.indexed (is.part shown intact))).part;
      })

  pub resumed_from : (journal : JournalState) (durable : DurableState S) (index : StoredState) (limit : ℕ)
      (publisher : PublisherState) (life : Life) → publisher ≡ resumed_publisher journal limit →
      Agrees journal durable → Lives shows may_leave durable life → IsOfJournal index journal →
      journal.messages ≡ life.committed →
      Publishes shows may_leave (record { publisher = publisher; durable = durable; index = index }) life
  resumed_from journal durable index limit publisher life made agrees lives stored same =
      subst (λ (p : PublisherState).
      Publishes shows may_leave (record { publisher = p; durable = durable; index = index }) life)
      (sym made)
      (resumed_publishes journal durable limit life lives agrees.none same agrees.session agrees.closed agrees.longest
      index stored)

  -- The durable journal after a commit.
  abbrev committed_durable : DurablePublisher S → S → ℕ → DurableState S
  committed_durable old storage end = record old.durable {
    storage = storage;
    committed = old.durable.committed + length old.durable.waiting;
    end = end;
    waiting = [];
  }

  -- After a commit that succeeded.
  commit_publishes : (old : DurablePublisher S) (life : Life) (storage : S) (end : ℕ) →
      Publishes shows may_leave old life →
      Lives shows may_leave (committed_durable old storage end) (after_moment life Commit) →
      Publishes shows may_leave (record old { durable = committed_durable old storage end }) (after_moment life Commit)
  commit_publishes old life storage end is lives =
      let all = length-append life.committed life.waiting in
      let lasts = life_goes_on life Commit is.possible tt in
      record {
        possible = lasts;
        named = is.named;
        held = is.held ∙ sym (append-nil (life.committed ++ life.waiting));
        sent = omega (arith, is.sent, all);
        closed = is.closed;
        longest = is.longest;
        durable_named = is.durable_named;
        counted = omega (arith, is.counted, all, ap (λ (ms : List (List ℕ)). length ms) is.waits);
        waits = refl;
        durable_closed = is.durable_closed;
        left = λ bytes now. settled_left (after_moment life Commit) old.durable.session old.durable.closed bytes lasts
            is.durable_named is.durable_closed (lives.settled.kept.left bytes now);
        lives = λ intact. lives;
        indexed = is.indexed;
        part = is.part;
      }

  pub commit_on_ok : (old new : DurablePublisher S) (life : Life) (result : Result (Unit {0}) CommitError) →
      Publishes shows may_leave old life →
      ((l : Life) → Lives shows may_leave old.durable l →
      OnOk result (Lives shows may_leave new.durable (after_moment l Commit))) →
      OnOk result (new.durable ≡ committed_durable old new.durable.storage new.durable.end) →
      OnOk result (old.durable.broken ≡ false) → new.publisher ≡ old.publisher → new.index ≡ old.index →
      OnOk result (Publishes shows may_leave new (after_moment life Commit))
  commit_on_ok old new life (Ok one) is acknowledged done intact same same_index =
      subst (λ (p : DurablePublisher S). Publishes shows may_leave p (after_moment life Commit))
      (sym (all_parts (record old { durable = committed_durable old new.durable.storage new.durable.end }) new same done
      same_index))
      (commit_publishes old life new.durable.storage new.durable.end is
      (subst (λ (d : DurableState S). Lives shows may_leave d (after_moment life Commit)) done
      (acknowledged life (is.lives intact))))
  commit_on_ok old new life (Err error) is acknowledged done intact same same_index = tt

  -- The durable journal after the session was closed.
  abbrev closed_durable : DurablePublisher S → S → ℕ → DurableState S
  closed_durable old storage end = record old.durable {
    storage = storage;
    committed = old.durable.committed + length old.durable.waiting;
    end = end;
    closed = true;
    waiting = [];
  }

  -- After a close that succeeded.
  pub close_publishes : (old : DurablePublisher S) (durable : DurableState S) (life : Life) →
      Publishes shows may_leave old life → Lives shows may_leave durable (after_moment life Close) →
      durable ≡ closed_durable old durable.storage durable.end →
      Publishes shows may_leave
      (record { publisher = closed_publisher old.publisher; durable = durable; index = old.index })
      (after_moment life Close)
  close_publishes old durable life is lives done =
      let all = length-append life.committed life.waiting in
      let lasts = life_goes_on life Close is.possible tt in
      let named : durable.session ≡ life.session = ap (λ (d : DurableState S). d.session) done ∙ is.durable_named in
      let ends : durable.closed ≡ true = ap (λ (d : DurableState S). d.closed) done in
      record {
        possible = lasts;
        named = is.named;
        held = is.held ∙ sym (append-nil (life.committed ++ life.waiting));
        sent = omega (arith, is.sent, all);
        closed = refl;
        longest = is.longest ∙ sym (ap (λ (d : DurableState S). d.max_message) done);
        durable_named = named;
        counted = lives.settled.counted;
        waits = ap (λ (d : DurableState S). d.waiting) done;
        durable_closed = ends;
        left = λ bytes now. settled_left (after_moment life Close) durable.session durable.closed bytes lasts named ends
            (lives.settled.kept.left bytes now);
        lives = λ intact. lives;
        indexed = record {
          named = is.indexed.named;
          limited = is.indexed.limited;
          journaled = is.indexed.journaled;
          indexes = is.indexed.indexes;
        };
        part = λ shown intact. is.part shown (sym (ap (λ (d : DurableState S). d.broken) done) ∙ intact);
      }

  module _ (moment : S → ℕ) (left_since : S → ℕ → List ℕ → Type 0)
      (counts_now : (storage : S) (earlier : ℕ) (bytes : List ℕ) → earlier ≤ moment storage → may_leave storage bytes →
      left_since storage earlier bytes)
      (only_now : (storage : S) (bytes : List ℕ) → left_since storage (moment storage) bytes → may_leave storage bytes) where
    -- A call that fails, whose moment would have been `what`.
    module _ (old : DurablePublisher S) (life : Life) (what : Moment) (is : Publishes shows may_leave old life) where
      failed_intact : (storage : S) → old.durable.broken ≡ false →
          LeavesOnly moment left_since old.durable.storage storage (IsFileAround life what) →
          Publishes shows may_leave (record old { durable = record old.durable { storage = storage; broken = true } }) life
      failed_intact storage intact run = record {
        possible = is.possible;
        named = is.named;
        held = is.held;
        sent = is.sent;
        closed = is.closed;
        longest = is.longest;
        durable_named = is.durable_named;
        counted = is.counted;
        waits = is.waits;
        durable_closed = is.durable_closed;
        left = λ bytes now. later_around life what bytes is.possible
            (run.each bytes (counts_now storage (moment old.durable.storage) bytes run.later now));
        lives = λ now. absurd (false≢true (sym now));
        indexed = is.indexed;
        part = λ shown now. absurd (false≢true (sym now));
      }

      pub failed_publishes : (broken : Bool) (new : DurablePublisher S) → old.durable.broken ≡ broken →
          (Lives shows may_leave old.durable life →
          LeavesOnly moment left_since old.durable.storage new.durable.storage (IsFileAround life what)) →
          (old.durable.broken ≡ true → new.durable ≡ old.durable) → new.publisher ≡ old.publisher →
          new.index ≡ old.index → new.durable ≡ record old.durable { storage = new.durable.storage; broken = true } →
          Publishes shows may_leave new life
      failed_publishes true new was run unwritten same same_index after =
          subst (λ (p : DurablePublisher S). Publishes shows may_leave p life)
          (sym (all_parts old new same (unwritten was) same_index)) is
      failed_publishes false new was run unwritten same same_index after =
          subst (λ (p : DurablePublisher S). Publishes shows may_leave p life)
          (sym (all_parts (record old { durable = record old.durable { storage = new.durable.storage; broken = true } })
          new same after same_index))
          (failed_intact new.durable.storage was (run (is.lives was)))

      -- A call that does not use the storage.
      pub told_still : Keeps → (datagram : List ℕ) → IsTrueNow life datagram →
          LeavesOnly moment left_since old.durable.storage old.durable.storage (IsTold datagram)
      told_still keeps datagram so = record {
        later = omega arith;
        each = λ bytes since.
            told_later keeps life datagram bytes so (is.left bytes (only_now old.durable.storage bytes since));
        before = λ earlier bytes le since. inl since;
      }

      pub around_still : Lives shows may_leave old.durable life →
          LeavesOnly moment left_since old.durable.storage old.durable.storage (IsFileAround life what)
      around_still lives = record {
        later = omega arith;
        each = λ bytes since. inl (subst (λ (b : Bool). SpellsJournal3 life.session life.committed b bytes) (sym lives.closed)
            (subst (λ (s : Session). SpellsJournal3 s life.committed old.durable.closed bytes) (sym lives.session)
            (lives.settled.kept.left bytes (only_now old.durable.storage bytes since))));
        before = λ earlier bytes le since. inl since;
      }

      -- A crash during the call leaves what a datagram states that is true now.
      pub told_during : Keeps → (broken : Bool) (new : S) (datagram : List ℕ) → old.durable.broken ≡ broken →
          IsTrueNow life datagram →
          (Lives shows may_leave old.durable life →
          LeavesOnly moment left_since old.durable.storage new (IsFileAround life what)) →
          (old.durable.broken ≡ true → new ≡ old.durable.storage) →
          LeavesOnly moment left_since old.durable.storage new (IsTold datagram)
      told_during keeps true new datagram was so run unwritten =
          subst (λ (s : S). LeavesOnly moment left_since old.durable.storage s (IsTold datagram)) (sym (unwritten was))
          (told_still keeps datagram so)
      told_during keeps false new datagram was so run unwritten =
          let all = run (is.lives was) in
          record {
            later = all.later;
            each = λ bytes since. told_around keeps life what datagram bytes is.possible so (all.each bytes since);
            before = λ earlier bytes le since.
                ⊎_elim (λ now. inl now) (λ now. inr (told_around keeps life what datagram bytes is.possible so now))
                (all.before earlier bytes le since);
          }

      -- The publisher after the call, if the call failed.
      pub kept_on_err : (new : DurablePublisher S) (result : Result (Unit {0}) CommitError) →
          (Lives shows may_leave old.durable life →
          LeavesOnly moment left_since old.durable.storage new.durable.storage (IsFileAround life what)) →
          (old.durable.broken ≡ true → new.durable ≡ old.durable) → new.publisher ≡ old.publisher →
          new.index ≡ old.index →
          OnErr result (new.durable ≡ record old.durable { storage = new.durable.storage; broken = true }) →
          OnErr result (Publishes shows may_leave new life)
      kept_on_err new (Ok one) run unwritten same same_index after = tt
      kept_on_err new (Err error) run unwritten same same_index after =
          failed_publishes old.durable.broken new refl run unwritten same same_index after
