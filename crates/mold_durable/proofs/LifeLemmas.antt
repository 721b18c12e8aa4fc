-- The life of a journal, from what is known of its committed messages.
use Rattle.std.proofs.Common.{◌≡◌, Bool, List, [], ℕ, Result, Ok, Err, refl, sym, subst}
use Rattle.std.specs.Prelude.{OnOk}
use Rattle.mold_wire.specs.declared.session.Session.{Session}
use Rattle.mold_session.specs.Journal.{JournalState}
use Rattle.mold_session.specs.Records.{SpellsJournal3}
use Rattle.mold_durable.specs.DurableJournal.{DurableState, IsSettled}
use Rattle.mold_durable.specs.Life.{IsFileOf, Life, Lives, after, journal_of}
use Rattle.mold_durable.specs.Life.Moment.{Crash}
use Rattle.mold_durable.specs.Opened.{IsOpenedWith}
use Rattle.mold_durable.specs.Reading.{IsOpened}
use Rattle.mold_durable.specs.declared.error.CommitError.{CommitError}
use Rattle.mold_durable.specs.declared.opened.Opened.{Opened}

-- The life of a journal with these committed messages.
abbrev pub life_of : {S : Type 0} → DurableState S → List (List ℕ) → Life
life_of journal messages = record {
  session = journal.session;
  committed = messages;
  closed = journal.closed;
  waiting = journal.waiting;
}

module _ {S : Type 0} (shows may_leave : S → List ℕ → Type 0) where
  pub lives :
      (journal : DurableState S) (messages : List (List ℕ)) → IsSettled shows may_leave journal messages →
      Lives shows may_leave journal (life_of journal messages)
  lives journal messages settled = record { settled = settled; session = refl; closed = refl; waiting = refl }

  pub settled_of :
      (journal : DurableState S) (life : Life) (result : Result (Unit {0}) CommitError) →
      OnOk result (Lives shows may_leave journal life) → OnOk result (IsSettled shows may_leave journal life.committed)
  settled_of journal life (Ok one) has = has.settled
  settled_of journal life (Err error) has = has

  -- A journal that was opened from a file lives on after a crash.
  pub reopened :
      (once : (one other : Session) (messages others : List (List ℕ)) (closed shut : Bool) (bytes : List ℕ) →
      SpellsJournal3 one messages closed bytes → SpellsJournal3 other others shut bytes →
      (one ≡ other) × (messages ≡ others) × (closed ≡ shut)) (journal : DurableState S) (life : Life) (bytes : List ℕ) →
      IsOpened shows may_leave journal → journal.waiting ≡ [] → shows journal.storage bytes → IsFileOf life bytes →
      Lives shows may_leave journal (after life Crash)
  reopened once journal life bytes opened none shown file =
      let same = once journal.session life.session opened.messages life.committed journal.closed life.closed bytes
      (opened.settled.kept.shown bytes shown) file in
      record {
        settled = subst (λ (m : List (List ℕ)). IsSettled shows may_leave journal m) same.1 opened.settled;
        session = sym same.0;
        closed = sym same.2;
        waiting = sym none;
      }

  -- Its taker holds the journal of that file.
  pub retaken :
      (once : (one other : Session) (messages others : List (List ℕ)) (closed shut : Bool) (bytes : List ℕ) →
      SpellsJournal3 one messages closed bytes → SpellsJournal3 other others shut bytes →
      (one ≡ other) × (messages ≡ others) × (closed ≡ shut)) {T : Type 0} (holds : T → JournalState → Type 0)
      (opened : Opened S T) (life : Life) (bytes : List ℕ) → IsOpenedWith shows may_leave holds opened →
      shows opened.journal.storage bytes → IsFileOf life bytes →
      holds opened.taker (journal_of opened.journal.max_message life)
  retaken once holds opened life bytes with shown file =
      let journal = opened.journal in
      let messages = with.is.messages in
      let same = once journal.session life.session messages life.committed journal.closed life.closed bytes
      (with.is.settled.kept.shown bytes shown) file in
      subst
      (λ (c : Bool). holds opened.taker (record {
        session = life.session;
        max_message = journal.max_message;
        messages = life.committed;
        closed = c;
      })) same.2
      (subst
      (λ (m : List (List ℕ)). holds opened.taker (record {
        session = life.session;
        max_message = journal.max_message;
        messages = m;
        closed = journal.closed;
      })) same.1
      (subst
      (λ (s : Session). holds opened.taker (record {
        session = s;
        max_message = journal.max_message;
        messages = messages;
        closed = journal.closed;
      })) same.0 with.held))
