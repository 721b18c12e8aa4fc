-- What a follower has read, and which messages it has returned.
use Rattle.std.proofs.Common.{◌≡◌, ℕ, ◌+◌, ◌≤◌, Bool, true, false, List, [], ◌∷◌, ◌++◌, length}
use Rattle.std.proofs.Common.{refl, sym, ap, subst, ◌∙◌, append_assoc, append-nil, arith, length-append}
use Rattle.std.proofs.lemmas.Bool.{true≢false}
use Rattle.mold_session.specs.Records.{head_3, record_of, records}
use Rattle.mold_durable.specs.Follower.{FollowerState, Follows}
use Rattle.mold_durable.specs.Following.{Finds, FindsMessage, HasTold, IsOfPiece, IsOpen, Reaches, ShowsGate, Takes}
use Rattle.mold_durable.specs.Following.{TakesMessage, WasShut, Writer, Writes}
use Rattle.mold_durable.specs.Group.{closing as closing_bytes}
use Rattle.mold_durable.specs.GrowingFile.{Passes}
use Rattle.mold_durable.specs.Reading.{IsOfDevice}
use Rattle.mold_durable.specs.declared.error.OpenError.{OpenError}
use Rattle.mold_durable.specs.declared.error.OpenError.TheVariants.{Short, BadMagic, Full, TooLong, Damaged, Read, Write}
use Rattle.mold_durable.specs.declared.error.OpenError.TheVariants.{Memory}
use Rattle.mold_durable.specs.declared.following.Found.{Found}
use Rattle.mold_durable.specs.declared.following.Found.TheVariants.{Message, Closing, Shut}
use Rattle.mold_durable.specs.declared.following.Look.{Look}
use Rattle.mold_durable.proofs.FollowingLemmas.{front_same, front_trans, open_later}
use Rattle.mold_durable.proofs.HeadLemmas.{length-head_3}
use Rattle.mold_durable.proofs.RecordLemmas.{records-append}

-- ---- the file

pub passes_trans : {F : Type 0} (history : F → (ℕ → List ℕ) → Type 0) (moment synced : F → ℕ) (one two three : F) →
    Passes history moment synced one two → Passes history moment synced two three →
    Passes history moment synced one three
passes_trans history moment synced one two three first second = record {
  kept = λ bytes is. second.kept bytes (first.kept bytes is);
  later = omega (arith, first.later, second.later);
  durable = omega (arith, first.durable, second.durable);
}

pub passes_same : {F : Type 0} (history : F → (ℕ → List ℕ) → Type 0) (moment synced : F → ℕ) (one : F) →
    Passes history moment synced one one
passes_same history moment synced one = record {
  kept = λ bytes is. is;
  later = omega arith;
  durable = omega arith;
}

-- ---- one record

pub only_device : (size : ℕ) (error : OpenError) → 65540 ≤ size → IsOfPiece size error → IsOfDevice error
only_device size Read large of = tt
only_device size Write large of = tt
only_device size Memory large of = tt
only_device size (Damaged number) large of = absurd (omega (arith, large, of))
only_device size Full large of = absurd of
only_device size (TooLong len) large of = absurd of
only_device size (Short len) large of = absurd of
only_device size BadMagic large of = absurd of

pub told_later : (writer : Writer) (bytes : ℕ → List ℕ) (writes : Writes writer bytes) (told : List (List ℕ))
    (count end one two : ℕ) (known : Bool) → one ≤ two → HasTold writer told count end known one →
    HasTold writer told count end known two
told_later writer bytes writes told count end one two known later has = record {
  counted = has.counted;
  ends = has.ends;
  front = front_trans told (writer.messages one) (writer.messages two) has.front (writes.grows one two later);
  known = λ flag. open_later writer bytes writes told one two later (has.known flag);
}

-- The gate is known to be open.
pub told_open : (writer : Writer) (bytes : ℕ → List ℕ) (writes : Writes writer bytes) (told : List (List ℕ))
    (count end one two : ℕ) (known : Bool) → one ≤ two → HasTold writer told count end known one →
    IsOpen writer told two → HasTold writer told count end true two
told_open writer bytes writes told count end one two known later has opened = record {
  counted = has.counted;
  ends = has.ends;
  front = front_trans told (writer.messages one) (writer.messages two) has.front (writes.grows one two later);
  known = λ flag. opened;
}

-- A read of the gate showed it open.
pub gate_passed : (writer : Writer) (bytes : ℕ → List ℕ) (writes : Writes writer bytes) (told : List (List ℕ))
    (count end one two : ℕ) (known opened : Bool) → one ≤ two → HasTold writer told count end known one →
    opened ≡ true → ShowsGate writer told one two opened → HasTold writer told count end true two
gate_passed writer bytes writes told count end one two known opened later has is shows =
    told_open writer bytes writes told count end one two known later has
    (subst (λ (b : Bool). ShowsGate writer told one two b) is shows)

pub told_known : (writer : Writer) (told : List (List ℕ)) (count end moment : ℕ) (known : Bool) → known ≡ true →
    HasTold writer told count end known moment → HasTold writer told count end true moment
told_known writer told count end moment known is has =
    subst (λ (b : Bool). HasTold writer told count end b moment) is has

pub finds_since : (writer : Writer) (told : List (List ℕ)) (one two stop : ℕ) (before old new : List (List ℕ))
    (found : Found) → one ≤ two → old ≡ before → Finds writer told two stop old new found →
    Finds writer told one stop before new found
finds_since writer told one two stop before old new (Message len opened) later same finds =
    subst (λ (t : List (List ℕ)). FindsMessage writer told stop t new len opened) same finds
finds_since writer told one two stop before old new Closing later same finds = finds
finds_since writer told one two stop before old new Shut later same finds = record {
  moment = finds.moment;
  since = omega (arith, later, finds.since);
  until = finds.until;
  exact = finds.exact;
  shut = finds.shut;
}

-- What was found is the closing record, or a shut gate.
pub taken_closing : (count end size : ℕ) (old new : List (List ℕ)) (found : Found) → found ≡ Closing →
    Takes count end size old new found → new ≡ old
taken_closing count end size old new found is takes =
    (subst (λ (f : Found). Takes count end size old new f) is takes).0

pub found_closing : (writer : Writer) (told : List (List ℕ)) (start stop : ℕ) (old new : List (List ℕ))
    (found : Found) → found ≡ Closing → Finds writer told start stop old new found →
    (writer.messages stop ≡ told) × (writer.closed stop ≡ true)
found_closing writer told start stop old new found is finds =
    subst (λ (f : Found). Finds writer told start stop old new f) is finds

pub taken_shut : (count end size : ℕ) (old new : List (List ℕ)) (found : Found) → found ≡ Shut →
    Takes count end size old new found → new ≡ old
taken_shut count end size old new found is takes = subst (λ (f : Found). Takes count end size old new f) is takes

pub found_shut : (writer : Writer) (told : List (List ℕ)) (start stop : ℕ) (old new : List (List ℕ)) (found : Found) →
    found ≡ Shut → Finds writer told start stop old new found → WasShut writer told start stop
found_shut writer told start stop old new found is finds =
    subst (λ (f : Found). Finds writer told start stop old new f) is finds

pub taken_message : (count end size len : ℕ) (old new : List (List ℕ)) (found : Found) (opened : Bool) →
    found ≡ Message len opened → Takes count end size old new found → TakesMessage count end size old new len
taken_message count end size len old new found opened is takes =
    subst (λ (f : Found). Takes count end size old new f) is takes

pub found_message : (writer : Writer) (told : List (List ℕ)) (start stop len : ℕ) (old new : List (List ℕ))
    (found : Found) (opened : Bool) → found ≡ Message len opened → Finds writer told start stop old new found →
    FindsMessage writer told stop old new len opened
found_message writer told start stop len old new found opened is finds =
    subst (λ (f : Found). Finds writer told start stop old new f) is finds

-- ---- a look

-- One more message was read.
pub told_more : (writer : Writer) (told old new : List (List ℕ)) (count end start stop len : ℕ) (known opened : Bool) →
    HasTold writer (told ++ old) count end known start → FindsMessage writer (told ++ old) stop old new len opened →
    HasTold writer (told ++ new) (count + 1) (end + len) opened stop
told_more writer told old new count end start stop len known opened has finds =
    let all = told ++ old in
    let one = finds.message ∷ [] in
    let same : all ++ one ≡ told ++ new =
    append_assoc told old one ∙ ap (λ (t : List (List ℕ)). told ++ t) (sym finds.added)
    in
    subst (λ (t : List (List ℕ)). HasTold writer t (count + 1) (end + len) opened stop) same (record {
      counted = omega (arith, has.counted, length-append all one);
      ends = omega (
        arith,
        has.ends,
        finds.long,
        ap (λ (t : List ℕ). length t) (records-append all one),
        length-append (records all) (records one),
        length-append (record_of finds.message) [],
      );
      front = record { extra = finds.more; longer = finds.follows ∙ sym (append_assoc all one finds.more) };
      known = finds.known;
    })

pub reaches_closing : (writer : Writer) (bytes : ℕ → List ℕ) (writes : Writes writer bytes) (told : List (List ℕ))
    (count end first start stop : ℕ) (known : Bool) → first ≤ stop → HasTold writer told count end known start →
    (writer.messages stop ≡ told) × (writer.closed stop ≡ true) →
    Reaches writer told first stop (record { records = record { count = count; end = end + 2; closed = true }; more = false })
reaches_closing writer bytes writes told count end first start stop known later has ended = record {
  counted = has.counted;
  ends = omega (arith, has.ends, length-append (records told) (closing_bytes true));
  front = front_same told (writer.messages stop) (sym ended.0);
  whole = λ flag. ended;
  all = λ flag. record {
    front = front_trans (writer.messages first) (writer.messages stop) told (writes.grows first stop later)
        (front_same (writer.messages stop) told ended.0);
    end = λ closed. refl;
  };
}

pub reaches_shut : (writer : Writer) (bytes : ℕ → List ℕ) (writes : Writes writer bytes) (told : List (List ℕ))
    (count end first start stop : ℕ) (known : Bool) → first ≤ start → HasTold writer told count end known start →
    WasShut writer told start stop →
    Reaches writer told first stop (record { records = record { count = count; end = end; closed = false }; more = false })
reaches_shut writer bytes writes told count end first start stop known later has shut =
    let at = shut.moment in
    let since : first ≤ at = omega (arith, later, shut.since) in
    record {
      counted = has.counted;
      ends = omega (arith, has.ends, length-append (records told) (closing_bytes false));
      front = front_trans told (writer.messages at) (writer.messages stop)
          (front_same told (writer.messages at) (sym shut.exact)) (writes.grows at stop shut.until);
      whole = λ flag. absurd (true≢false (sym flag));
      all = λ flag. record {
        front = front_trans (writer.messages first) (writer.messages at) told (writes.grows first at since)
            (front_same (writer.messages at) told shut.exact);
        end = λ closed. absurd (true≢false (sym (writes.ends first at since closed).0 ∙ shut.shut));
      };
    }

pub reaches_more : (writer : Writer) (told : List (List ℕ)) (count end first stop : ℕ) (known : Bool) →
    HasTold writer told count end known stop →
    Reaches writer told first stop (record { records = record { count = count; end = end; closed = false }; more = true })
reaches_more writer told count end first stop known has = record {
  counted = has.counted;
  ends = omega (arith, has.ends, length-append (records told) (closing_bytes false));
  front = has.front;
  whole = λ flag. absurd (true≢false (sym flag));
  all = λ flag. absurd (true≢false flag);
}

pub reaches_later : (writer : Writer) (bytes : ℕ → List ℕ) (writes : Writes writer bytes) (told : List (List ℕ))
    (start one two : ℕ) (look : Look) → one ≤ two → Reaches writer told start one look →
    Reaches writer told start two look
reaches_later writer bytes writes told start one two look later reaches = record {
  counted = reaches.counted;
  ends = reaches.ends;
  front = front_trans told (writer.messages one) (writer.messages two) reaches.front (writes.grows one two later);
  whole = λ flag.
      let was = reaches.whole flag in
      let ended = writes.ends one two later was.1 in
      (ended.1 ∙ was.0, ended.0);
  all = reaches.all;
}

-- The bytes of the records that a look has read.
pub records_more : (old new : List (List ℕ)) (message : List ℕ) → new ≡ old ++ message ∷ [] →
    length (records new) ≡ length (records old) + length (record_of message)
records_more old new message added =
    omega (
      arith,
      ap (λ (t : List (List ℕ)). length (records t)) added,
      ap (λ (t : List ℕ). length t) (records-append old (message ∷ [])),
      length-append (records old) (records (message ∷ [])),
      length-append (record_of message) [],
    )

-- ---- the follower

module _ {F : Type 0} (history : F → (ℕ → List ℕ) → Type 0) (moment synced : F → ℕ) (writer : Writer)
    (bytes : ℕ → List ℕ) (writes : Writes writer bytes) (told : List (List ℕ)) where
  -- What it has read when a look begins.
  pub told_by : (old : FollowerState F) → synced old.file ≤ moment old.file → old.closed ≡ false →
      Follows history synced writer bytes old told →
      HasTold writer told old.count old.end false (moment old.file)
  told_by old now opened follows = record {
    counted = follows.counted;
    ends =
        omega (
          arith,
          follows.ends,
          ap (λ (b : Bool). length (head_3 writer.session.0 ++ (records told ++ closing_bytes b))) opened,
          length-append (head_3 writer.session.0) (records told ++ closing_bytes false),
          length-append (records told) (closing_bytes false),
          length-head_3 writer.session.0 (writes.file 0).named,
        );
    front = front_trans told (writer.messages (synced old.file)) (writer.messages (moment old.file)) follows.durable
        (writes.grows (synced old.file) (moment old.file) now);
    known = λ flag. absurd (true≢false (sym flag));
  }

  -- A look was taken and synced.
  pub follows_on : (old new : FollowerState F) (look : Look) → Passes history moment synced old.file new.file →
      new.session ≡ old.session → new.count ≡ look.records.count → new.end ≡ look.records.end →
      new.closed ≡ look.records.closed → Follows history synced writer bytes old told →
      Reaches writer (told ++ new.news) (moment old.file) (synced new.file) look →
      Follows history synced writer bytes new (told ++ new.news)
  follows_on old new look passes session count end closed follows reaches = record {
    shown = passes.kept bytes follows.shown;
    named = session ∙ follows.named;
    counted = count ∙ reaches.counted;
    ends =
        let all = told ++ new.news in
        omega (
          arith,
          end,
          reaches.ends,
          length-append (head_3 writer.session.0) (records all ++ closing_bytes new.closed),
          length-head_3 writer.session.0 (writes.file 0).named,
          ap (λ (b : Bool). length (records all ++ closing_bytes b)) closed,
        );
    durable = reaches.front;
    whole = λ flag. reaches.whole (sym closed ∙ flag);
  }

  -- Nothing was gained.
  pub follows_still : (old new : FollowerState F) → Passes history moment synced old.file new.file →
      new.session ≡ old.session → new.count ≡ old.count → new.end ≡ old.end → new.closed ≡ old.closed →
      new.news ≡ [] → Follows history synced writer bytes old told →
      Follows history synced writer bytes new (told ++ new.news)
  follows_still old new passes session count end closed none follows =
      let same : told ≡ told ++ new.news =
      sym (append-nil told) ∙ ap (λ (t : List (List ℕ)). told ++ t) (sym none)
      in
      subst (Follows history synced writer bytes new) same (record {
        shown = passes.kept bytes follows.shown;
        named = session ∙ follows.named;
        counted = count ∙ follows.counted;
        ends =
            omega (
              arith,
              end,
              follows.ends,
              ap (λ (b : Bool). length (head_3 writer.session.0 ++ (records told ++ closing_bytes b))) closed,
            );
        durable = front_trans told (writer.messages (synced old.file)) (writer.messages (synced new.file))
            follows.durable (writes.grows (synced old.file) (synced new.file) passes.durable);
        whole = λ flag.
            let was = follows.whole (sym closed ∙ flag) in
            let ended = writes.ends (synced old.file) (synced new.file) passes.durable was.1 in
            (ended.1 ∙ was.0, ended.0);
      })
