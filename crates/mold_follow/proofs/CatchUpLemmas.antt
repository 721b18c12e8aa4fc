-- An index that is brought up to a file.
use Rattle.std.proofs.Common.{◌≡◌, ◌≤◌, ℕ, List, [], ◌∷◌, ◌++◌, Bool, ap, refl}
use Rattle.std.proofs.Common.{subst, sym, ◌∙◌, append_assoc, append-nil}
use Rattle.mold_durable.specs.Follower.{Follows, RecordFollowerState, follower_of}
use Rattle.mold_durable.specs.Following.{HasAll, Writer, Writes}
use Rattle.mold_durable.specs.DurableJournal.{CountsOpenError}
use Rattle.mold_durable.specs.Reading.{file_error}
use Rattle.mold_durable.specs.declared.error.OpenError.{OpenError}
use Rattle.mold_durable.specs.declared.error.OpenError.TheVariants as opening
use Rattle.mold_follow.specs.Serving.{CountsFileError, Serves, ServesMore, journal_of, with_messages}
use Rattle.mold_indexed_file.specs.Shown.{HasSince, IndexedState, IsInFile, Shows}
use Rattle.mold_session.specs.Contents.{IsFront}
use Rattle.mold_session.specs.Journal.{JournalState}
use Rattle.mold_session.specs.declared.error.FileError.{FileError}
use Rattle.mold_session.specs.declared.file_version.FileVersion.{FileVersion}
use Rattle.mold_session.specs.declared.file_version.FileVersion.TheVariants.{Three}

pub front_same : (messages : List (List ℕ)) → IsFront messages messages
front_same messages = record { extra = []; longer = rw append-nil refl }

pub front_twice : {first second third : List (List ℕ)} → IsFront first second → IsFront second third →
    IsFront first third
front_twice {first} {second} {third} one two = record {
  extra = one.extra ++ two.extra;
  longer =
      two.longer
      ∙ ap (λ (t : List (List ℕ)). t ++ two.extra) one.longer
      ∙ append_assoc first one.extra two.extra;
}

-- What has all messages of a moment has all of an earlier one.
pub has_all_earlier : {writer : Writer} {bytes : ℕ → List ℕ} {messages : List (List ℕ)} {closed : Bool} →
    Writes writer bytes → (earlier later : ℕ) → earlier ≤ later → HasAll writer messages closed later →
    HasAll writer messages closed earlier
has_all_earlier {writer} {bytes} {messages} {closed} writes earlier later before all = record {
  front = front_twice (writes.grows earlier later before) all.front;
  end = λ was. all.end (writes.ends earlier later before was).0;
}

-- ---- failures

-- The error of a follower is that of a file.
counts_error : (error : OpenError) (old new : ℕ) → CountsOpenError old new error →
    CountsFileError old new (file_error error)
counts_error opening.Read old new counts = counts
counts_error opening.Write old new counts = counts
counts_error opening.Memory old new counts = counts
counts_error (opening.Short len) old new counts = counts
counts_error opening.BadMagic old new counts = counts
counts_error opening.Full old new counts = counts
counts_error (opening.TooLong len) old new counts = counts
counts_error (opening.Damaged number) old new counts = counts

pub counts_poll : (error : OpenError) (met : FileError) (first old new : ℕ) → met ≡ file_error error → old ≡ first →
    CountsOpenError old new error → CountsFileError first new met
counts_poll error met first old new is same counts =
    rw is (counts_error error first new (subst (λ (n : ℕ). CountsOpenError n new error) same counts))

-- ---- the journal in the file

-- The law of a file that grows.
abbrev pub Growing : Type 0
Growing = (writer : Writer) (bytes : ℕ → List ℕ) (since : ℕ) (journal : JournalState) → Writes writer bytes →
    journal.session ≡ writer.session → IsFront journal.messages (writer.messages since) →
    HasSince bytes since Three journal

-- The law of the first messages of a file.
abbrev pub Prefixes : Type 0
Prefixes = (bytes : ℕ → List ℕ) (since : ℕ) (version : FileVersion) (journal front : JournalState) →
    HasSince bytes since version journal → front.session ≡ journal.session → front.closed ≡ journal.closed →
    IsFront front.messages journal.messages → HasSince bytes since version front

module _ {F : Type 0} (history : F → (ℕ → List ℕ) → Type 0) (moment synced : F → ℕ) where
  -- The file has the messages that its follower returned.
  pub in_file : Growing → (writer : Writer) (bytes : ℕ → List ℕ) (file : F) (follower : RecordFollowerState)
      (told : List (List ℕ)) → synced file ≤ moment file → Writes writer bytes →
      Follows history synced writer bytes (follower_of file follower) told →
      IsInFile history moment file Three (journal_of follower told)
  in_file growing writer bytes file follower told now writes follows = record {
    bytes = bytes;
    possible = follows.shown;
    has = growing writer bytes (moment file) (journal_of follower told) writes follows.named
        (front_twice follows.durable (writes.grows (synced file) (moment file) now));
  }

  -- It has the first of these messages.
  pub next_in_file : Prefixes → (file : F) (version : FileVersion) (journal : JournalState)
      (told rest all : List (List ℕ)) (message : List ℕ) → told ++ message ∷ rest ≡ all →
      IsInFile history moment file version (with_messages all journal) →
      IsInFile history moment file version (with_messages (told ++ message ∷ []) journal)
  next_in_file prefixes file version journal told rest all message parts has = record {
    bytes = has.bytes;
    possible = has.possible;
    has = prefixes has.bytes (moment file) version (with_messages all journal)
        (with_messages (told ++ message ∷ []) journal) has.has refl refl
        (record { extra = rest; longer = sym parts ∙ sym (append_assoc told (message ∷ []) rest) });
  }

  -- The new messages of a poll were added.
  pub serves_news : Growing → (writer : Writer) (bytes : ℕ → List ℕ) (old one two : IndexedState F)
      (was now : RecordFollowerState) (told : List (List ℕ)) → synced one.file ≤ moment one.file →
      Writes writer bytes → Serves history moment synced writer bytes old was told →
      now ≡ record was { count = now.count; end = now.end; closed = now.closed; news = now.news } →
      one ≡ record old { file = one.file } →
      ((journal : JournalState) → Shows history moment old journal → Shows history moment one journal) →
      Follows history synced writer bytes (follower_of one.file now) (told ++ now.news) →
      two ≡ record one { index = two.index } →
      ((journal : JournalState) → Shows history moment one journal →
      IsInFile history moment one.file one.version (with_messages (journal.messages ++ now.news) journal) →
      Shows history moment two (with_messages (journal.messages ++ now.news) journal)) →
      Serves history moment synced writer bytes two now (told ++ now.news)
  serves_news growing writer bytes old one two was now told known writes serves kept polled shown follows pushed more =
      let journal : journal_of now told ≡ journal_of was told =
      ap (λ (f : RecordFollowerState). journal_of f told) kept in
      let version : one.version ≡ Three = ap (λ (s : IndexedState F). s.version) polled ∙ serves.third in
      let has : IsInFile history moment one.file one.version (journal_of now (told ++ now.news)) =
      subst (λ (v : FileVersion). IsInFile history moment one.file v (journal_of now (told ++ now.news))) (sym version)
      (in_file growing writer bytes one.file now (told ++ now.news) known writes follows) in
      record {
        follows = subst (λ (file : F).
            Follows history synced writer bytes (follower_of file now) (told ++ now.news))
            (sym (ap (λ (s : IndexedState F). s.file) pushed)) follows;
        shown = more (journal_of now told)
            (subst (Shows history moment one) (sym journal) (shown (journal_of was told) serves.shown)) has;
        third = ap (λ (s : IndexedState F). s.version) pushed ∙ version;
      }

-- The messages of a poll follow the ones before.
pub serves_longer : {F : Type 0} (history : F → (ℕ → List ℕ) → Type 0) (moment synced : F → ℕ) (writer : Writer)
    (bytes : ℕ → List ℕ) (indexed : IndexedState F) (follower : RecordFollowerState)
    (before told news : List (List ℕ)) →
    IsFront before told → Serves history moment synced writer bytes indexed follower (told ++ news) →
    ServesMore history moment synced writer bytes indexed follower before
serves_longer history moment synced writer bytes indexed follower before told news longer serves = record {
  told = told ++ news;
  longer = front_twice longer (record { extra = news; longer = refl });
  serves = serves;
}
