-- Turns of a server that follows the file of its journal.
use Rattle.std.proofs.Common.{◌≡◌, ℕ, Bool, true, false, List, [], None, Some, Result, Ok, Err, refl, sym, subst, ap}
use Rattle.std.proofs.Common.{◌∙◌, ⊎_elim}
use Rattle.std.specs.Prelude.{IfErr, IsErr, OnOk}
use Rattle.mold_devices.specs.declared.fault.CommandFault.TheVariants as command
use Rattle.mold_durable.specs.Follower.{RecordFollowerState}
use Rattle.mold_durable.specs.Following.{Writer, Writes}
use Rattle.mold_follow.proofs.CatchUpLemmas.{front_same, front_twice}
use Rattle.mold_follow.specs.Serving.{HasLooked, Serves, ServesAll, ServesMore, is_looked_up, journal_of}
use Rattle.mold_indexed_file.specs.Growing.{WasRead}
use Rattle.mold_indexed_file.specs.Shown.{IndexedState, Shows}
use Rattle.mold_ports.specs.Ports.{Port, Receipt, cut, next_of, received}
use Rattle.mold_serve.specs.Answering.{Reaches}
use Rattle.mold_serve.specs.FileError.{IsReadOrMemory, device_fault}
use Rattle.mold_serve.specs.Serving.{ResponderState, Service, responder_of, serve_turn}
use Rattle.mold_serve.specs.declared.tally.Tally.{Tally}
use Rattle.mold_serve.proofs.ServingLemmas.{serving_is}
use Rattle.mold_session.specs.Journal.{JournalState}
use Rattle.mold_session.specs.Server.{ServerState}
use Rattle.mold_session.specs.declared.error.FileError.{FileError}
use Rattle.mold_turns.proofs.RunLemmas.{none_ok}
use Rattle.mold_turns.specs.Runs.{Begins}
use Rattle.mold_wire.specs.declared.limits.TheConstants.{MAX_LIMIT}

-- An error ended the turn after it had received.
pub turn_cut_short : {P T E : Type 0} (result : Result T E) (service : Service) (old : ResponderState P) (port : Port P)
    (tally : Tally) (server : ServerState) → IsErr result → port ≡ received old.port →
    Reaches result (responder_of port tally server) (serve_turn service [] old)
turn_cut_short {P} {T} {E} result service old port tally server failed left = record {
  whole = none_ok result _ failed;
  sent =
      subst (λ (p : Port P). Begins p.sent (serve_turn service [] old).port.sent) (sym left)
      ((serving_is service).sends [] old);
}

-- Whether new records are read is known of what was received.
pub looked_by : {P : Type 0} (journal : JournalState) (receipt : Receipt P) (port : Port P) (buffer : ℕ) →
    buffer ≡ MAX_LIMIT → receipt ≡ cut buffer (next_of port) →
    is_looked_up journal (cut MAX_LIMIT (next_of port)) ≡ is_looked_up journal receipt
looked_by {P} journal receipt port buffer long is =
    ap (λ (r : Receipt P). is_looked_up journal r) (sym (is ∙ ap (λ (n : ℕ). cut n (next_of port)) long))

ok_all : {T E A : Type 0} (result : Result T E) → A → OnOk result A
ok_all (Ok done) all = all
ok_all (Err error) all = tt

pub ok_then : {T E A B : Type 0} (result : Result T E) → (A → B) → OnOk result A → OnOk result B
ok_then (Ok done) then was = then was
ok_then (Err error) then was = tt

-- The error of a journal that is shown is a fault.
pub faults_only : {T : Type 0} (result : Result T FileError) (May : JournalState → Type 0)
    (P : Writer → (ℕ → List ℕ) → List (List ℕ) → Type 0) (Q : Type 0) →
    ((writer : Writer) (bytes : ℕ → List ℕ) (told : List (List ℕ)) → Writes writer bytes → P writer bytes told →
    (journal : JournalState) × May journal) →
    IfErr result (λ error. (journal : JournalState) → May journal → IsReadOrMemory error) →
    IfErr result (λ error. (writer : Writer) (bytes : ℕ → List ℕ) (told : List (List ℕ)) → Writes writer bytes →
    P writer bytes told → device_fault error ≡ None → Q)
faults_only (Ok _) May P Q may refused = tt
faults_only (Err error) May P Q may refused = λ writer bytes told writes has none.
    let shown = may writer bytes told writes has in
    ⊎_elim
    (λ read. let no : Some command.Read ≡ None = sym (ap device_fault read) ∙ none in absurd cc)
    (λ memory. let no : Some command.Memory ≡ None = sym (ap device_fault memory) ∙ none in absurd cc)
    (refused shown.0 shown.1)

module _ {F : Type 0} (history : F → (ℕ → List ℕ) → Type 0) (moment synced : F → ℕ) (writer : Writer)
    (bytes : ℕ → List ℕ) where
  -- Reading the file changes nothing of what the server has.
  pub serves_still : (old new : IndexedState F) (follower : RecordFollowerState) (told : List (List ℕ)) →
      Writes writer bytes → WasRead history moment synced old new →
      ((journal : JournalState) → Shows history moment old journal → Shows history moment new journal) →
      Serves history moment synced writer bytes old follower told →
      Serves history moment synced writer bytes new follower told
  serves_still old new follower told writes read shown serves =
      let was = serves.follows in record {
        follows = record {
          shown = read.passes.kept bytes was.shown;
          named = was.named;
          counted = was.counted;
          ends = was.ends;
          durable = front_twice was.durable (writes.grows (synced old.file) (synced new.file) read.passes.durable);
          whole = λ flag.
              let all = was.whole flag in
              let ended = writes.ends (synced old.file) (synced new.file) read.passes.durable all.1 in
              (ended.1 ∙ all.0, ended.0);
        };
        shown = shown (journal_of follower told) serves.shown;
        third = ap (λ (s : IndexedState F). s.version) read.kept ∙ serves.third;
      }

  -- An error ended the turn before it was known what the server has.
  pub looked_in_vain : {T : Type 0} (result : Result T FileError) (looked : Bool) (start : ℕ)
      (indexed : IndexedState F) (follower : RecordFollowerState) (told : List (List ℕ)) → IsErr result →
      HasLooked history moment synced writer bytes result looked start told indexed follower told
  looked_in_vain result looked start indexed follower told failed = record {
    longer = front_same told;
    serves = none_ok result _ failed;
    looks = λ flag. none_ok result _ failed;
    waits = λ flag. refl;
  }

  -- New records were read.
  pub looked_all : {T : Type 0} (result : Result T FileError) (looked : Bool) (start : ℕ) (indexed : IndexedState F)
      (follower : RecordFollowerState) (told : List (List ℕ)) → looked ≡ true →
      (all : ServesAll history moment synced writer bytes indexed follower told start) →
      HasLooked history moment synced writer bytes result looked start told indexed follower all.told
  looked_all result looked start indexed follower told flag all = record {
    longer = all.longer;
    serves = ok_all result all.serves;
    looks = λ was. ok_all result all.all;
    waits = λ none. let no : true ≡ false = sym flag ∙ none in absurd cc;
  }

  -- No new records were read.
  pub looked_none : {T : Type 0} (result : Result T FileError) (looked : Bool) (start : ℕ) (indexed : IndexedState F)
      (follower : RecordFollowerState) (told : List (List ℕ)) → looked ≡ false →
      Serves history moment synced writer bytes indexed follower told →
      HasLooked history moment synced writer bytes result looked start told indexed follower told
  looked_none result looked start indexed follower told flag serves = record {
    longer = front_same told;
    serves = ok_all result serves;
    looks = λ was. let no : true ≡ false = sym was ∙ flag in absurd cc;
    waits = λ none. refl;
  }

  -- What the server has before it replies to a request.
  pub looked_up : (looked : Bool) (start : ℕ) (old new : IndexedState F) (was now : RecordFollowerState)
      (told : List (List ℕ)) → Serves history moment synced writer bytes old was told →
      (looked ≡ true → ServesAll history moment synced writer bytes new now told start) →
      (looked ≡ false → (new ≡ old) × (now ≡ was)) →
      (after : List (List ℕ)) × HasLooked {T = Unit {0}} history moment synced writer bytes (Ok tt) looked start told
      new now after
  looked_up true start old new was now told serves all waits =
      ((all refl).told, looked_all (Ok tt) true start new now told refl (all refl))
  looked_up false start old new was now told serves all waits =
      let same = waits refl in
      (told, looked_none (Ok tt) false start new now told refl (rw same.0 rw same.1 serves))

  -- The server replied, or its reply ended with an error.
  pub looked_then : {T : Type 0} (result : Result T FileError) (looked : Bool) (start : ℕ) (old new : IndexedState F)
      (was now : RecordFollowerState) (before told : List (List ℕ)) → Writes writer bytes →
      WasRead history moment synced old new →
      ((journal : JournalState) → Shows history moment old journal → Shows history moment new journal) → now ≡ was →
      HasLooked {T = Unit {0}} history moment synced writer bytes (Ok tt) looked start before old was told →
      HasLooked history moment synced writer bytes result looked start before new now told
  looked_then result looked start old new was now before told writes read shown same has = record {
    longer = has.longer;
    serves = rw same (ok_all result (serves_still old new was told writes read shown has.serves));
    looks = λ flag. rw same (ok_all result (has.looks flag));
    waits = has.waits;
  }

  -- What a turn leaves.
  pub looked_more : {T : Type 0} (result : Result T FileError) (looked : Bool) (start : ℕ) (indexed : IndexedState F)
      (follower : RecordFollowerState) (before told : List (List ℕ)) →
      HasLooked history moment synced writer bytes result looked start before indexed follower told →
      OnOk result (ServesMore history moment synced writer bytes indexed follower before)
  looked_more result looked start indexed follower before told has =
      ok_then result (λ serves. record { told = told; longer = has.longer; serves = serves }) has.serves

  -- Turns one after the other.
  pub serves_twice : (one two : IndexedState F) (was now : RecordFollowerState) (before : List (List ℕ)) →
      (first : ServesMore history moment synced writer bytes one was before) →
      ServesMore history moment synced writer bytes two now first.told →
      ServesMore history moment synced writer bytes two now before
  serves_twice one two was now before first second = record {
    told = second.told;
    longer = front_twice first.longer second.longer;
    serves = second.serves;
  }
