-- What a server that reads the storage leaves of a durable publisher.
use Rattle.std.proofs.Common.{◌≡◌, inl, inr, ⊎_elim, ℕ, false, List, ◌++◌, length, refl, sym, ap}
use Rattle.std.proofs.Common.{subst, ◌∙◌, append_assoc, append-nil, arith}
use Rattle.mold_wire.specs.declared.session.Session.{Session}
use Rattle.mold_session.specs.Journal.{JournalState}
use Rattle.mold_session.specs.Records.{head_3, records}
use Rattle.mold_session.specs.declared.file_version.FileVersion.TheVariants.{Three}
use Rattle.mold_durable.specs.DurableJournal.{DurableState}
use Rattle.mold_durable.specs.Life.{Life, Lives}
use Rattle.mold_durable.specs.Storage.{OnlyReads}
use Rattle.mold_indexed_file.specs.Buffer.{BufferState}
use Rattle.mold_indexed_file.specs.Shown.{IsPartOf, start_of}
use Rattle.mold_indexed_file.specs.Stored.{IsInStorage, ShowsStored, StoredState}
use Rattle.mold_durable_publisher.specs.DurablePublisher.{IsAtRest, Publishes, ShowsBytes, ShowsJournal}
use Rattle.mold_durable_publisher.specs.DurablePublisher.{WasServed}
use Rattle.mold_durable_publisher.specs.declared.durable_publisher.DurablePublisher.{DurablePublisher}
use Rattle.mold_durable_publisher.proofs.IndexLemmas.{is_of_journal}
use Rattle.mold_durable_publisher.proofs.PublishingLemmas.{empty}

module _ {S : Type 0} (shows may_leave : S → List ℕ → Type 0) where
  -- The storage has the messages of a publisher with none that waits.
  pub has_messages : (publisher : DurablePublisher S) (life : Life) → ShowsBytes shows →
      IsAtRest shows may_leave publisher life →
      IsInStorage (shows publisher.durable.storage) publisher.publisher.journal
  has_messages publisher life shown rests =
      let is = rests.publishes in
      let bytes = (shown publisher.durable.storage).0 in
      let now = (shown publisher.durable.storage).1 in
      let spells = (is.lives rests.intact).settled.kept.shown bytes now in
      let journal = publisher.publisher.journal in
      let named : publisher.durable.session ≡ journal.session = is.durable_named ∙ sym is.named in
      let all : life.committed ≡ journal.messages =
      sym (append-nil life.committed)
      ∙ ap (λ (ms : List (List ℕ)). life.committed ++ ms) (sym rests.none)
      ∙ sym is.held in
      record {
        bytes = bytes;
        shown = now;
        begins = record {
          rest = spells.rest;
          parts = spells.spelled
              ∙ sym (append_assoc (head_3 publisher.durable.session.0) (records life.committed) spells.rest)
              ∙ ap (λ (s : Session). (head_3 s.0 ++ records life.committed) ++ spells.rest) named
              ∙ ap (λ (ms : List (List ℕ)). (head_3 journal.session.0 ++ records ms) ++ spells.rest) all;
        };
      }

  pub shows_stored : (publisher : DurablePublisher S) (life : Life) → ShowsBytes shows →
      IsAtRest shows may_leave publisher life →
      ShowsStored (shows publisher.durable.storage) publisher.index publisher.publisher.journal
  shows_stored publisher life shown rests = record {
    is = is_of_journal publisher.index publisher.publisher.journal rests.publishes.indexed
        (rests.publishes.part shown rests.intact);
    has = has_messages publisher life shown rests;
  }

  pub journal_stored : (publisher : DurablePublisher S) (journal : JournalState) →
      ShowsJournal shows may_leave publisher journal →
      ShowsStored (shows publisher.durable.storage) publisher.index journal
  journal_stored publisher journal is =
      subst (λ (j : JournalState). ShowsStored (shows publisher.durable.storage) publisher.index j) (sym is.is)
      (shows_stored publisher is.life is.shown is.rests)

  module _ (moment : S → ℕ) (left_since : S → ℕ → List ℕ → Type 0) where
    read_lives : (durable : DurableState S) (storage : S) (life : Life) →
        OnlyReads shows may_leave moment left_since durable.storage storage → Lives shows may_leave durable life →
        Lives shows may_leave (record durable { storage = storage }) life
    read_lives durable storage life reads lives = record {
      settled = record {
        kept = record {
          shown = λ bytes now. lives.settled.kept.shown bytes (reads.shown.0 bytes now);
          left = λ bytes now. lives.settled.kept.left bytes (reads.crash bytes now);
        };
        ends = lives.settled.ends;
        counted = lives.settled.counted;
        named = lives.settled.named;
        listed = lives.settled.listed;
      };
      session = lives.session;
      closed = lives.closed;
      waiting = lives.waiting;
    }

    -- The publisher after its storage was read to the buffer of the index.
    abbrev read_publisher : DurablePublisher S → S → BufferState → DurablePublisher S
    read_publisher old storage buffer = record {
      publisher = old.publisher;
      durable = record old.durable { storage = storage };
      index = record old.index { buffer = buffer };
    }

    read_publishes : (old : DurablePublisher S) (storage : S) (buffer : BufferState) (life : Life) →
        OnlyReads shows may_leave moment left_since old.durable.storage storage →
        (ShowsBytes shows → old.durable.broken ≡ false → IsPartOf (start_of Three old.publisher.journal) buffer) →
        Publishes shows may_leave old life → Publishes shows may_leave (read_publisher old storage buffer) life
    read_publishes old storage buffer life reads part is = record {
      possible = is.possible;
      named = is.named;
      held = is.held;
      sent = is.sent;
      closed = is.closed;
      longest = is.longest;
      durable_named = is.durable_named;
      counted = is.counted;
      waits = is.waits;
      durable_closed = is.durable_closed;
      left = λ bytes now. is.left bytes (reads.crash bytes now);
      lives = λ intact. read_lives old.durable storage life reads (is.lives intact);
      indexed = record {
        named = is.indexed.named;
        limited = is.indexed.limited;
        journaled = is.indexed.journaled;
        indexes = is.indexed.indexes;
      };
      part = part;
    }

    -- After a datagram was packed from the storage.
    pub packed_served : (old : DurablePublisher S) (storage : S) (index : StoredState) →
        length old.durable.waiting ≡ 0 → OnlyReads shows may_leave moment left_since old.durable.storage storage →
        index ≡ record old.index { buffer = index.buffer } →
        ((journal : JournalState) → ShowsStored (shows old.durable.storage) old.index journal →
        ShowsStored (shows storage) index journal) →
        WasServed shows may_leave moment left_since old
        (record { publisher = old.publisher; durable = record old.durable { storage = storage }; index = index })
    packed_served old storage index none reads kept stored = record {
      kept = ap (λ (i : StoredState).
          record { publisher = old.publisher; durable = record old.durable { storage = storage }; index = i }) kept;
      reads = reads;
      lives = λ life is.
          subst (λ (i : StoredState). Publishes shows may_leave
          (record { publisher = old.publisher; durable = record old.durable { storage = storage }; index = i }) life)
          (sym kept)
          (read_publishes old storage index.buffer life reads
          (λ shown intact. (stored old.publisher.journal
          (shows_stored old life shown (record {
            publishes = is;
            none = sym is.waits ∙ empty old.durable.waiting none;
            intact = intact;
          }))).is.part) is);
    }

    -- The publisher stays at rest, and what is shown stays.
    pub served_rests : (old new : DurablePublisher S) (life : Life) →
        WasServed shows may_leave moment left_since old new → IsAtRest shows may_leave old life →
        IsAtRest shows may_leave new life
    served_rests old new life served rests = record {
      publishes = served.lives life rests.publishes;
      none = rests.none;
      intact = ap (λ (p : DurablePublisher S). p.durable.broken) served.kept ∙ rests.intact;
    }

    pub served_shows : (old new : DurablePublisher S) (journal : JournalState) →
        WasServed shows may_leave moment left_since old new → ShowsJournal shows may_leave old journal →
        ShowsJournal shows may_leave new journal
    served_shows old new journal served is = record {
      shown = is.shown;
      life = is.life;
      rests = served_rests old new is.life served is.rests;
      is = is.is ∙ sym (ap (λ (p : DurablePublisher S). p.publisher.journal) served.kept);
    }

    -- Two reads, one after the other.
    both_read : (first second third : S) → OnlyReads shows may_leave moment left_since first second →
        OnlyReads shows may_leave moment left_since second third →
        OnlyReads shows may_leave moment left_since first third
    both_read first second third before after = record {
      shown = (
        (λ bytes now. before.shown.0 bytes (after.shown.0 bytes now)),
        (λ bytes was. after.shown.1 bytes (before.shown.1 bytes was)),
      );
      crash = λ bytes now. before.crash bytes (after.crash bytes now);
      any_moment = record {
        later = omega (arith, before.any_moment.later, after.any_moment.later);
        each = λ bytes since. ⊎_elim (λ was. before.any_moment.each bytes was) (λ now. before.crash bytes now)
            (after.any_moment.before (moment first) bytes before.any_moment.later since);
        before = λ earlier bytes le since.
            ⊎_elim (λ was. before.any_moment.before earlier bytes le was) (λ now. inr (before.crash bytes now))
            (after.any_moment.before earlier bytes (omega (arith, le, before.any_moment.later)) since);
      };
    }

    pub both_served : (first second third : DurablePublisher S) →
        WasServed shows may_leave moment left_since first second →
        WasServed shows may_leave moment left_since second third →
        WasServed shows may_leave moment left_since first third
    both_served first second third before after = record {
      kept = after.kept
          ∙ ap (λ (p : DurablePublisher S). read_publisher p third.durable.storage third.index.buffer) before.kept;
      reads = both_read first.durable.storage second.durable.storage third.durable.storage before.reads after.reads;
      lives = λ life is. after.lives life (before.lives life is);
    }

    module _ (only_now : (storage : S) (bytes : List ℕ) → left_since storage (moment storage) bytes →
        may_leave storage bytes) where
      pub nothing_read : (storage : S) → OnlyReads shows may_leave moment left_since storage storage
      nothing_read storage = record {
        shown = ((λ bytes now. now), (λ bytes now. now));
        crash = λ bytes now. now;
        any_moment = record {
          later = omega arith;
          each = λ bytes since. only_now storage bytes since;
          before = λ earlier bytes le since. inl since;
        };
      }

      pub none_served : (publisher : DurablePublisher S) →
          WasServed shows may_leave moment left_since publisher publisher
      none_served publisher =
          record { kept = refl; reads = nothing_read publisher.durable.storage; lives = λ life is. is }
