-- Lemmas for every loop that makes turns. A loop keeps `Going`, and each way in which it can end has a lemma.
use Rattle.std.proofs.Common.{◌≡◌, ℕ, ◌+◌, ◌-◌, ◌<◌, Bool, true, false, List, [], ◌∷◌, ◌++◌, length, replicate}
use Rattle.std.proofs.Common.{Option, Result, Ok, Err, refl, sym, ap, subst, ◌∙◌, arith, append_assoc, append-nil}
use Rattle.std.proofs.Common.{length-append}
use Rattle.std.proofs.Math.ListN.{length-replicate}
use Rattle.std.proofs.lemmas.Result.{on_ok_weaker}
use Rattle.std.specs.Prelude.{IsErr, IfOk, OnErr, OnOk, if◌then◌else◌}
use Rattle.std.specs.Io.KnownBytes.{Appends}
use Rattle.std.proofs.KnownBytes.{Appends-nil, Appends-trans}
use Rattle.mold_devices.specs.Devices.{AppendsPrefix}
use Rattle.mold_devices.specs.Writing.{Moves}
use Rattle.mold_turns.specs.Outgoing.{IsBounded}
use Rattle.mold_turns.specs.Runs.{Loop, run, Begins, Rests, Ran, TurnRests, WrittenInTime}
use Rattle.mold_turns.specs.Sides.{RanBeside, RestsBeside, RestsOfTwo, TurnRestsBeside, TurnRestsOfTwo}

-- ---- prefixes

pub begins_whole : {A : Type 0} (xs : List A) → Begins xs xs
begins_whole xs = record { rest = []; parts = sym (append-nil xs) }

pub begins_more : {A : Type 0} (xs ys : List A) → Begins xs (xs ++ ys)
begins_more xs ys = record { rest = ys; parts = refl }

pub begins_none : {A : Type 0} (xs : List A) → Begins [] xs
begins_none xs = record { rest = xs; parts = refl }

pub begins_trans : {A : Type 0} {xs ys zs : List A} → Begins xs ys → Begins ys zs → Begins xs zs
begins_trans {A} {xs} {ys} {zs} p q = record {
  rest = p.rest ++ q.rest;
  parts = q.parts ∙ ap (λ (l : List A). l ++ q.rest) p.parts ∙ append_assoc xs p.rest q.rest;
}

-- a prefix of a list is still a prefix with the same elements put before both
pub begins_behind : {A : Type 0} (ws : List A) {xs ys : List A} → Begins xs ys → Begins (ws ++ xs) (ws ++ ys)
begins_behind {A} ws {xs} {ys} p = record {
  rest = p.rest;
  parts = ap (λ (l : List A). ws ++ l) p.parts ∙ sym (append_assoc ws xs p.rest);
}

-- ---- successes and faults

pub on_ok : {T E : Type 0} (result : Result T E) {P : Type 0} → P → OnOk result P
on_ok (Ok _) p = p
on_ok (Err _) p = tt

pub on_err : {T E : Type 0} (result : Result T E) {P : Type 0} → P → OnErr result P
on_err (Ok _) p = tt
on_err (Err _) p = p

pub none_ok : {T E : Type 0} (result : Result T E) (P : Type 0) → IsErr result → OnOk result P
none_ok (Ok _) P failed = let no : ⊥ = cc in absurd no
none_ok (Err _) P failed = tt

pub none_answered : {T E : Type 0} (result : Result T E) (P : T → Type 0) → IsErr result → IfOk result P
none_answered (Ok _) P failed = let no : ⊥ = cc in absurd no
none_answered (Err _) P failed = tt

-- ---- what a loop has to satisfy

-- text put before a state's text changes only that text, and a turn only appends to what is printed and sent
pub record IsLoop {C S M : Type 0} (loop : Loop C S M) (behind : List ℕ → S → S) : Type 0 where
  pub none : (s : S) → behind [] s ≡ s
  pub twice : (front back : List ℕ) (s : S) → behind front (behind back s) ≡ behind (front ++ back) s
  pub turn : (front : List ℕ) (choice : C) (s : S) → loop.turn choice (behind front s) ≡ behind front (loop.turn choice s)
  pub over : (front : List ℕ) (s : S) → loop.over (behind front s) ≡ loop.over s
  pub text : (front : List ℕ) (s : S) → loop.text (behind front s) ≡ front ++ loop.text s
  pub sent : (front : List ℕ) (s : S) → loop.sent (behind front s) ≡ loop.sent s
  pub prints : (choice : C) (s : S) → Begins (loop.text s) (loop.text (loop.turn choice s))
  pub sends : (choice : C) (s : S) → Begins (loop.sent s) (loop.sent (loop.turn choice s))

-- ---- runs

run_over : {C S M : Type 0} (loop : Loop C S M) (choice : C) (more : List C) (s : S) →
    loop.over (loop.turn choice s) ≡ true → run loop (choice ∷ more) s ≡ loop.turn choice s
unfolding run
run_over {C} {S} {M} loop choice more s over =
    let after = loop.turn choice s in
    ap (λ (b : Bool). if b then after else run loop more after) over

run_on : {C S M : Type 0} (loop : Loop C S M) (choice : C) (more : List C) (s : S) →
    loop.over (loop.turn choice s) ≡ false → run loop (choice ∷ more) s ≡ run loop more (loop.turn choice s)
unfolding run
run_on {C} {S} {M} loop choice more s over =
    let after = loop.turn choice s in
    ap (λ (b : Bool). if b then after else run loop more after) over

run_none : {C S M : Type 0} (loop : Loop C S M) (s : S) → run loop [] s ≡ s
unfolding run
run_none loop s = refl

-- the run after one more turn
behind_if : {C S M A : Type 0} (loop : Loop C S M) (part : S → List A) (over : Bool) (after rest : S) →
    Begins (part after) (part rest) → Begins (part after) (part (if over then after else rest))
behind_if loop part true after rest grows = begins_whole (part after)
behind_if loop part false after rest grows = grows

-- what only grows in a turn only grows in a run
pub grows_in : {C S M A : Type 0} (loop : Loop C S M) (part : S → List A) →
    ((choice : C) (s : S) → Begins (part s) (part (loop.turn choice s))) →
    (choices : List C) (s : S) → Begins (part s) (part (run loop choices s))
unfolding run
grows_in loop part grows [] s = begins_whole (part s)
grows_in loop part grows (choice ∷ more) s =
    let after = loop.turn choice s in
    begins_trans (grows choice s)
    (behind_if loop part (loop.over after) after (run loop more after) (grows_in loop part grows more after))

-- it also grows from the end of the first turn on
grows_from : {C S M A : Type 0} (loop : Loop C S M) (part : S → List A) →
    ((choice : C) (s : S) → Begins (part s) (part (loop.turn choice s))) →
    (choice : C) (more : List C) (s : S) → Begins (part (loop.turn choice s)) (part (run loop (choice ∷ more) s))
unfolding run
grows_from loop part grows choice more s =
    let after = loop.turn choice s in
    behind_if loop part (loop.over after) after (run loop more after) (grows_in loop part grows more after)

-- ---- between turns

-- `count` turns were made since `start`, and the text written since then is known. For all later choices, the run
-- continues from `now`, with the written text put before the text of `now`.
pub record Going {C S M : Type 0} (loop : Loop C S M) (behind : List ℕ → S → S) (start : S)
    (old new : Option (List ℕ)) (count : ℕ) (now : S) : Type 0 where
  pub choices : List C
  pub counted : length choices ≡ count
  pub written : List ℕ
  pub appended : Appends old new written
  pub goes_on : (more : List C) → run loop (choices ++ more) start ≡ run loop more (behind written now)

-- the choices of the turns so far, of the present turn, and of the remaining turns
filled : {C : Type 0} → List C → C → ℕ → ℕ → List C
filled choices choice count turns = choices ++ choice ∷ replicate (turns - (count + 1)) choice

filled_length : {C : Type 0} (choices : List C) (choice : C) (count turns : ℕ) → length choices ≡ count →
    count < turns → length (filled choices choice count turns) ≡ turns
unfolding filled
filled_length choices choice count turns counted few =
    let fill = length-replicate (turns - (count + 1)) choice in
    omega (arith, length-append choices (choice ∷ replicate (turns - (count + 1)) choice), fill, counted, few)

module _ {C S M : Type 0} {loop : Loop C S M} {behind : List ℕ → S → S} (is : IsLoop loop behind) where
  -- before the first turn
  pub going_init : (start : S) (held : Option (List ℕ)) → Going loop behind start held held 0 start
  going_init start held = record {
    choices = [];
    counted = refl;
    written = [];
    appended = Appends-nil held;
    goes_on = λ more. ap (run loop more) (sym (is.none start));
  }

  -- all turns were made
  pub rests_end : {T E : Type 0} (result : Result T E) {start now : S} {old new : Option (List ℕ)} {turns : ℕ} →
      Going loop behind start old new turns now → Rests loop behind turns start result old new now
  rests_end result {start} {now} going =
      let end : run loop going.choices start ≡ behind going.written now =
      ap (λ (l : List C). run loop l start) (sym (append-nil going.choices)) ∙ going.goes_on []
      ∙ run_none loop (behind going.written now) in
      record {
        choices = going.choices;
        counted = going.counted;
        written = going.written;
        appended = going.appended;
        whole = on_ok result end;
        front =
            subst (λ (t : List ℕ). Begins going.written t)
            (sym (ap loop.text end ∙ is.text going.written now)) (begins_more going.written (loop.text now));
        sent =
            subst (λ (t : List M). Begins (loop.sent now) t)
            (sym (ap loop.sent end ∙ is.sent going.written now)) (begins_whole (loop.sent now));
      }

  pub rests_all : {T E : Type 0} (result : Result T E) {start now : S} {old new : Option (List ℕ)} {count : ℕ}
      (turns : ℕ) → count ≡ turns → Going loop behind start old new count now →
      Rests loop behind turns start result old new now
  rests_all result {start} {now} {old} {new} {count} turns made going =
      rests_end result (subst (λ (n : ℕ). Going loop behind start old new n now) made going)

  -- ---- one turn and the write after it. The lemmas are unfoldable, since other texts and sends depend on the choice.

  -- the turn was made, and some of the text was written
  unfoldable pub turn_sent : {T E : Type 0} (result : Result T E) {start : S} {old new : Option (List ℕ)} {left : List ℕ}
      (choice : C) (after now : S) → after ≡ loop.turn choice start → (moves : Moves old new (loop.text after) left) →
      after ≡ behind moves.front now → TurnRests loop behind start result old new now
  turn_sent result {start} {old} {new} {left} choice after now made moves same = record {
    choice = choice;
    written = moves.front;
    appended = moves.appended;
    whole = on_ok result (sym made ∙ same);
    front =
        subst (λ (s : S). Begins moves.front (loop.text s)) made (record { rest = left; parts = moves.parts });
    sent =
        subst (λ (l : List M). Begins (loop.sent now) l)
        (sym (is.sent moves.front now) ∙ sym (ap loop.sent same) ∙ ap loop.sent made) (begins_whole (loop.sent now));
  }

  -- the turn failed: it sent a prefix of what it was to send, and a prefix of the former text was written
  unfoldable pub turn_failed : {T E : Type 0} (result : Result T E) {start : S} {old new : Option (List ℕ)} (choice : C)
      (now : S) → AppendsPrefix old new (loop.text start) → Begins (loop.sent now) (loop.sent (loop.turn choice start)) →
      IsErr result → TurnRests loop behind start result old new now
  turn_failed result {start} {old} {new} choice now cut sent failed = record {
    choice = choice;
    written = cut.front;
    appended = cut.appended;
    whole = none_ok result _ failed;
    front = begins_trans (record { rest = cut.rest; parts = cut.parts }) (is.prints choice start);
    sent = sent;
  }

  -- the turn was made, and the write failed
  unfoldable pub turn_cut : {T E : Type 0} (result : Result T E) {start : S} {old new : Option (List ℕ)} (choice : C)
      (after now : S) → after ≡ loop.turn choice start → AppendsPrefix old new (loop.text after) →
      loop.sent now ≡ loop.sent after → IsErr result → TurnRests loop behind start result old new now
  turn_cut result {start} {old} {new} choice after now made cut same failed = record {
    choice = choice;
    written = cut.front;
    appended = cut.appended;
    whole = none_ok result _ failed;
    front = subst (λ (s : S). Begins cut.front (loop.text s)) made (record { rest = cut.rest; parts = cut.parts });
    sent =
        subst (λ (l : List M). Begins (loop.sent now) l) (same ∙ ap loop.sent made) (begins_whole (loop.sent now));
  }

  -- a turn was made and some text written, and the loop goes on
  pub going_turned : {T E : Type 0} {value : T} {start now : S} {old mid new : Option (List ℕ)} {count : ℕ}
      (after : S) → Going loop behind start old mid count now →
      TurnRests {T = T} {E = E} loop behind now (Ok value) mid new after → loop.over after ≡ false →
      Going loop behind start old new (count + 1) after
  going_turned {T} {E} {value} {start} {now} {old} {mid} {new} {count} after going turned on =
      let made : loop.turn turned.choice (behind going.written now) ≡ behind (going.written ++ turned.written) after =
      is.turn going.written turned.choice now ∙ ap (behind going.written) turned.whole
      ∙ is.twice going.written turned.written after in
      record {
        choices = going.choices ++ turned.choice ∷ [];
        counted = omega (arith, length-append going.choices (turned.choice ∷ []), going.counted);
        written = going.written ++ turned.written;
        appended = Appends-trans old mid new going.written turned.written going.appended turned.appended;
        goes_on = λ more.
            ap (λ (l : List C). run loop l start) (append_assoc going.choices (turned.choice ∷ []) more)
            ∙ going.goes_on (turned.choice ∷ more)
            ∙ run_on loop turned.choice more (behind going.written now)
            (ap loop.over made ∙ is.over (going.written ++ turned.written) after ∙ on)
            ∙ ap (run loop more) made;
      }

  -- the loop ended after a turn, whose text was written if it was large
  pub rests_turned : {T E U F : Type 0} (result : Result T E) {value : U} {start now : S}
      {old mid new : Option (List ℕ)} {count : ℕ} (turns : ℕ) (after : S) → Going loop behind start old mid count now →
      count < turns → TurnRests {T = U} {E = F} loop behind now (Ok value) mid new after → loop.over after ≡ true →
      Rests loop behind turns start result old new after
  unfolding filled
  rests_turned result {value} {start} {now} {old} {mid} {new} {count} turns after going few turned over =
      let choice : C = turned.choice in
      let fill : List C = replicate (turns - (count + 1)) choice in
      let written : List ℕ = going.written ++ turned.written in
      let made : loop.turn choice (behind going.written now) ≡ behind written after =
      is.turn going.written choice now ∙ ap (behind going.written) turned.whole
      ∙ is.twice going.written turned.written after in
      let end : run loop (filled going.choices choice count turns) start ≡ behind written after =
      going.goes_on (choice ∷ fill)
      ∙ run_over loop choice fill (behind going.written now) (ap loop.over made ∙ is.over written after ∙ over)
      ∙ made in
      record {
        choices = filled going.choices choice count turns;
        counted = filled_length going.choices choice count turns going.counted few;
        written = written;
        appended = Appends-trans old mid new going.written turned.written going.appended turned.appended;
        whole = on_ok result end;
        front =
            subst (λ (t : List ℕ). Begins written t)
            (sym (ap loop.text end ∙ is.text written after)) (begins_more written (loop.text after));
        sent =
            subst (λ (t : List M). Begins (loop.sent after) t)
            (sym (ap loop.sent end ∙ is.sent written after)) (begins_whole (loop.sent after));
      }

  -- a turn, or the write after it, ended in a fault
  pub rests_broken : {T E U F : Type 0} (result : Result T E) (inner : Result U F) {start now : S}
      {old mid new : Option (List ℕ)} {count : ℕ} (turns : ℕ) (after : S) → Going loop behind start old mid count now →
      count < turns → TurnRests loop behind now inner mid new after → IsErr result →
      Rests loop behind turns start result old new after
  unfolding filled
  rests_broken result inner {start} {now} {old} {mid} {new} {count} turns after going few turned failed =
      let choice : C = turned.choice in
      let fill : List C = replicate (turns - (count + 1)) choice in
      let here : S = behind going.written now in
      let end : run loop (filled going.choices choice count turns) start ≡ run loop (choice ∷ fill) here =
      going.goes_on (choice ∷ fill) in
      let made : loop.turn choice here ≡ behind going.written (loop.turn choice now) =
      is.turn going.written choice now in
      record {
        choices = filled going.choices choice count turns;
        counted = filled_length going.choices choice count turns going.counted few;
        written = going.written ++ turned.written;
        appended = Appends-trans old mid new going.written turned.written going.appended turned.appended;
        whole = none_ok result _ failed;
        front =
            subst (λ (s : S). Begins (going.written ++ turned.written) (loop.text s)) (sym end)
            (begins_trans
            (subst (λ (t : List ℕ). Begins (going.written ++ turned.written) t)
            (sym (ap loop.text made ∙ is.text going.written (loop.turn choice now)))
            (begins_behind going.written turned.front))
            (grows_from loop loop.text is.prints choice fill here));
        sent =
            subst (λ (s : S). Begins (loop.sent after) (loop.sent s)) (sym end)
            (begins_trans
            (subst (λ (l : List M). Begins (loop.sent after) l)
            (sym (ap loop.sent made ∙ is.sent going.written (loop.turn choice now))) turned.sent)
            (grows_from loop loop.sent is.sends choice fill here));
      }

  -- ---- what a fault finds unwritten

  -- a fault in a turn
  pub in_time : {start now : S} {old mid new : Option (List ℕ)} {count : ℕ} (live : Bool) (ends : S → Type 0)
      (more : List ℕ) (going : Going loop behind start old mid count now) → ends (behind going.written now) →
      IsBounded live (loop.text now) → Appends mid new more → WrittenInTime loop start live old new ends
  in_time {start} {now} {old} {mid} {new} live ends more going ports bounded appended =
      let end : run loop going.choices start ≡ behind going.written now =
      ap (λ (l : List C). run loop l start) (sym (append-nil going.choices)) ∙ going.goes_on []
      ∙ run_none loop (behind going.written now) in
      record {
        choices = going.choices;
        ports = subst ends (sym end) ports;
        written = going.written;
        kept = loop.text now;
        parts = ap loop.text end ∙ is.text going.written now;
        bounded = bounded;
        more = more;
        appended = Appends-trans old mid new going.written more going.appended appended;
      }

  -- a fault after all turns
  pub in_time_end : {T E : Type 0} {value : T} {turns : ℕ} {start now : S} {old mid new : Option (List ℕ)} (live : Bool)
      (ends : S → Type 0) (more : List ℕ)
      (rests : Rests {T = T} {E = E} loop behind turns start (Ok value) old mid now) →
      ends (behind rests.written now) → IsBounded live (loop.text now) → Appends mid new more →
      WrittenInTime loop start live old new ends
  in_time_end {T} {E} {value} {turns} {start} {now} {old} {mid} {new} live ends more rests ports bounded appended = record {
    choices = rests.choices;
    ports = subst ends (sym rests.whole) ports;
    written = rests.written;
    kept = loop.text now;
    parts = ap loop.text rests.whole ∙ is.text rests.written now;
    bounded = bounded;
    more = more;
    appended = Appends-trans old mid new rests.written more rests.appended appended;
  }

  -- a fault before the first turn
  pub in_time_none : {start : S} {held : Option (List ℕ)} (live : Bool) (ends : S → Type 0) → ends start →
      IsBounded live (loop.text start) → WrittenInTime loop start live held held ends
  in_time_none {start} {held} live ends ports bounded = record {
    choices = [];
    ports = subst ends (sym (run_none loop start)) ports;
    written = [];
    kept = loop.text start;
    parts = ap loop.text (run_none loop start);
    bounded = bounded;
    more = [];
    appended = Appends-nil held;
  }

  -- ---- after the turns

  module _ (turns : ℕ) (start : S) (last : S → List ℕ) (status : S → ℕ) (agrees : S → Type 0) where
    -- a fault before the first turn
    pub ran_none : {E : Type 0} (result : Result ℕ E) (choice : C) (held : Option (List ℕ)) → IsErr result →
        Ran loop turns start last status agrees result held held (loop.sent start)
    ran_none result choice held failed = record {
      choices = replicate turns choice;
      counted = length-replicate turns choice;
      whole = none_answered result _ failed;
      left = none_ok result _ failed;
      front = record { front = []; rest = _; parts = refl; appended = Appends-nil held };
      sent = grows_in loop loop.sent is.sends (replicate turns choice) start;
    }

    -- a fault in a turn, or after the turns before the rest of the text was written
    pub ran_cut : {T E F : Type 0} (before : Result T F) (result : Result ℕ E) {old new : Option (List ℕ)} {now : S} →
        Rests loop behind turns start before old new now → IsErr result →
        Ran loop turns start last status agrees result old new (loop.sent now)
    ran_cut before result {old} {new} {now} rests failed =
        let end : S = run loop rests.choices start in
        record {
          choices = rests.choices;
          counted = rests.counted;
          whole = none_answered result _ failed;
          left = none_ok result _ failed;
          front = record {
            front = rests.written;
            rest = rests.front.rest ++ last end;
            parts =
                ap (λ (t : List ℕ). t ++ last end) rests.front.parts
                ∙ append_assoc rests.written rests.front.rest (last end);
            appended = rests.appended;
          };
          sent = rests.sent;
        }

    module _ (last_behind : (front : List ℕ) (s : S) → last (behind front s) ≡ last s)
        {T F : Type 0} (value : T) {old mid : Option (List ℕ)} (now : S)
        (rests : Rests {T = T} {E = F} loop behind turns start (Ok value) old mid now) where
      -- the run's text and last line are the written text followed by the text that is still to be written
      whole_text : loop.text (run loop rests.choices start) ++ last (run loop rests.choices start)
          ≡ rests.written ++ (loop.text now ++ last now)
      whole_text =
          ap (λ (s : S). loop.text s ++ last s) rests.whole
          ∙ ap (λ (t : List ℕ). t ++ last (behind rests.written now)) (is.text rests.written now)
          ∙ ap (λ (t : List ℕ). (rests.written ++ loop.text now) ++ t) (last_behind rests.written now)
          ∙ append_assoc rests.written (loop.text now) (last now)

      -- the last write failed
      pub ran_front : {E : Type 0} (result : Result ℕ E) {new : Option (List ℕ)} (text : List ℕ) →
          text ≡ loop.text now ++ last now → AppendsPrefix mid new text → IsErr result →
          Ran loop turns start last status agrees result old new (loop.sent now)
      ran_front result {new} text is_text cut failed = record {
        choices = rests.choices;
        counted = rests.counted;
        whole = none_answered result _ failed;
        left = none_ok result _ failed;
        front = record {
          front = rests.written ++ cut.front;
          rest = cut.rest;
          parts =
              whole_text ∙ ap (λ (t : List ℕ). rests.written ++ t) (sym is_text ∙ cut.parts)
              ∙ sym (append_assoc rests.written cut.front cut.rest);
          appended = Appends-trans old mid new rests.written cut.front rests.appended cut.appended;
        };
        sent = rests.sent;
      }

      -- all text was written
      pub ran_whole : {E : Type 0} (answer : ℕ) {new : Option (List ℕ)} (text : List ℕ) →
          text ≡ loop.text now ++ last now → Appends mid new text →
          answer ≡ status (behind rests.written now) → agrees (behind rests.written now) →
          Ran {E = E} loop turns start last status agrees (Ok answer) old new (loop.sent now)
      ran_whole answer {new} text is_text appended is_status agree =
          let whole = Appends-trans old mid new rests.written text rests.appended appended in
          let all : loop.text (run loop rests.choices start) ++ last (run loop rests.choices start)
          ≡ rests.written ++ text = whole_text ∙ ap (λ (t : List ℕ). rests.written ++ t) (sym is_text) in
          record {
            choices = rests.choices;
            counted = rests.counted;
            whole = (
              subst (λ (t : List ℕ). Appends old new t) (sym all) whole,
              is_status ∙ ap status (sym rests.whole),
            );
            left = subst agrees (sym rests.whole) agree;
            front = record {
              front = loop.text (run loop rests.choices start) ++ last (run loop rests.choices start);
              rest = [];
              parts = sym (append-nil (loop.text (run loop rests.choices start) ++ last (run loop rests.choices start)));
              appended = subst (λ (t : List ℕ). Appends old new t) (sym all) whole;
            };
            sent = rests.sent;
          }

-- ---- a loop that also writes to standard error

-- text put before the text for standard error changes only that text, and a turn only appends to it
pub record IsBeside {C S M : Type 0} (loop : Loop C S M) (behind beside : List ℕ → S → S) (side : S → List ℕ) :
    Type 0 where
  pub nothing : (s : S) → beside [] s ≡ s
  pub twice : (one two : List ℕ) (s : S) → beside one (beside two s) ≡ beside (one ++ two) s
  pub turn : (said : List ℕ) (choice : C) (s : S) → loop.turn choice (beside said s) ≡ beside said (loop.turn choice s)
  pub over : (said : List ℕ) (s : S) → loop.over (beside said s) ≡ loop.over s
  pub text : (said : List ℕ) (s : S) → loop.text (beside said s) ≡ loop.text s
  pub sent : (said : List ℕ) (s : S) → loop.sent (beside said s) ≡ loop.sent s
  pub swaps : (said front : List ℕ) (s : S) → beside said (behind front s) ≡ behind front (beside said s)
  pub adds : (said : List ℕ) (s : S) → side (beside said s) ≡ said ++ side s
  pub same : (front : List ℕ) (s : S) → side (behind front s) ≡ side s
  pub says : (choice : C) (s : S) → Begins (side s) (side (loop.turn choice s))

-- `count` turns were made since `start`, and what was written since then to both outputs is known
pub record GoingBeside {C S M : Type 0} (loop : Loop C S M) (behind beside : List ℕ → S → S) (start : S)
    (old new errors_old errors_new : Option (List ℕ)) (count : ℕ) (now : S) : Type 0 where
  pub said : List ℕ
  pub appended : Appends errors_old errors_new said
  pub going : Going loop behind start old new count (beside said now)

module _ {C S M : Type 0} {loop : Loop C S M} {behind beside : List ℕ → S → S} {side : S → List ℕ}
    (is : IsLoop loop behind) (apart : IsBeside loop behind beside side) where
  -- a turn with text put before on standard error
  unfoldable pub turn_beside : {T E : Type 0} (result : Result T E) {start now : S} {old new : Option (List ℕ)}
      (said : List ℕ) → TurnRests loop behind start result old new now →
      TurnRests loop behind (beside said start) result old new (beside said now)
  turn_beside result {start} {now} {old} {new} said turned =
      let made : loop.turn turned.choice (beside said start) ≡ beside said (loop.turn turned.choice start) =
      apart.turn said turned.choice start in
      record {
        choice = turned.choice;
        written = turned.written;
        appended = turned.appended;
        whole =
            on_ok_weaker result
            (λ whole. made ∙ ap (beside said) whole ∙ apart.swaps said turned.written now) turned.whole;
        front =
            subst (λ (t : List ℕ). Begins turned.written t)
            (sym (ap loop.text made ∙ apart.text said (loop.turn turned.choice start))) turned.front;
        sent =
            subst (λ (l : List M). Begins l (loop.sent (loop.turn turned.choice (beside said start))))
            (sym (apart.sent said now))
            (subst (λ (l : List M). Begins (loop.sent now) l)
            (sym (ap loop.sent made ∙ apart.sent said (loop.turn turned.choice start))) turned.sent);
      }

  -- before the first turn
  pub beside_init : (start : S) (held errors : Option (List ℕ)) →
      GoingBeside loop behind beside start held held errors errors 0 start
  beside_init start held errors = record {
    said = [];
    appended = Appends-nil errors;
    going =
        subst (λ (s : S). Going loop behind start held held 0 s) (sym (apart.nothing start))
        (going_init is start held);
  }

  -- a turn was made, and the loop goes on
  pub beside_turned : {T E : Type 0} {value : T} {start now : S}
      {old mid new errors_old errors_mid errors_new : Option (List ℕ)} {count : ℕ} (after : S) →
      GoingBeside loop behind beside start old mid errors_old errors_mid count now →
      TurnRestsBeside {T = T} {E = E} loop behind beside side now (Ok value) mid new errors_mid errors_new after →
      loop.over after ≡ false → GoingBeside loop behind beside start old new errors_old errors_new (count + 1) after
  beside_turned {T} {E} {value} {start} {now} {old} {mid} {new} {errors_old} {errors_mid} {errors_new} {count} after
      going turned on = record {
        said = going.said ++ turned.said;
        appended =
            Appends-trans errors_old errors_mid errors_new going.said turned.said going.appended turned.appended;
        going =
            subst (λ (s : S). Going loop behind start old new (count + 1) s) (apart.twice going.said turned.said after)
            (going_turned is (beside going.said (beside turned.said after)) going.going
            (turn_beside {T = T} {E = E} (Ok value) going.said turned.turn)
            (apart.over going.said (beside turned.said after) ∙ apart.over turned.said after ∙ on));
      }

  -- after a success, what was written to standard error is a prefix of the run's text there
  said_begins : {T E : Type 0} {value : T} {start now : S} {old new : Option (List ℕ)} {turns : ℕ} (said : List ℕ)
      (rests : Rests {T = T} {E = E} loop behind turns start (Ok value) old new (beside said now)) →
      Begins said (side (run loop rests.choices start))
  said_begins {now = now} said rests =
      subst (λ (t : List ℕ). Begins said t)
      (sym (ap side rests.whole ∙ apart.same rests.written (beside said now) ∙ apart.adds said now))
      (begins_more said (side now))

  -- the loop ended after a turn
  pub beside_rests_turned : {T E U F : Type 0} {last : T} {value : U} {start now : S}
      {old mid new errors_old errors_mid errors_new : Option (List ℕ)} {count : ℕ} (turns : ℕ) (after : S) →
      GoingBeside loop behind beside start old mid errors_old errors_mid count now → count < turns →
      TurnRestsBeside {T = U} {E = F} loop behind beside side now (Ok value) mid new errors_mid errors_new after →
      loop.over after ≡ true →
      RestsBeside {T = T} {E = E} loop behind beside side turns start (Ok last) old new errors_old errors_new after
  beside_rests_turned {T} {E} {U} {F} {last} {value} {start} {now} {old} {mid} {new} {errors_old} {errors_mid}
      {errors_new} {count} turns after going few turned over =
      let said : List ℕ = going.said ++ turned.said in
      let rests : Rests {T = T} {E = E} loop behind turns start (Ok last) old new (beside said after) =
      subst (λ (s : S). Rests {T = T} {E = E} loop behind turns start (Ok last) old new s)
      (apart.twice going.said turned.said after)
      (rests_turned is {T = T} {E = E} {U = U} {F = F} (Ok last) turns (beside going.said (beside turned.said after)) going.going few
      (turn_beside {T = U} {E = F} (Ok value) going.said turned.turn)
      (apart.over going.said (beside turned.said after) ∙ apart.over turned.said after ∙ over)) in
      record {
        said = said;
        appended =
            Appends-trans errors_old errors_mid errors_new going.said turned.said going.appended turned.appended;
        rests = rests;
        front = said_begins said rests;
      }

  -- all turns were made
  pub beside_rests_all : {T E : Type 0} {last : T} {start now : S} {old new errors_old errors_new : Option (List ℕ)}
      {count : ℕ} (turns : ℕ) → count ≡ turns →
      GoingBeside loop behind beside start old new errors_old errors_new count now →
      RestsBeside {T = T} {E = E} loop behind beside side turns start (Ok last) old new errors_old errors_new now
  beside_rests_all {T} {E} {last} {start} {now} {old} {new} {errors_old} {errors_new} {count} turns made going =
      let rests : Rests {T = T} {E = E} loop behind turns start (Ok last) old new (beside going.said now) =
      rests_all is {T = T} {E = E} (Ok last) turns made going.going in
      record { said = going.said; appended = going.appended; rests = rests; front = said_begins going.said rests }

  -- a turn, or a write after it, ended in a fault
  pub beside_rests_broken : {T E U F : Type 0} (result : Result T E) (inner : Result U F) {start now : S}
      {old mid new errors_old errors_mid errors_new : Option (List ℕ)} {count : ℕ} (turns : ℕ) (after : S) →
      GoingBeside loop behind beside start old mid errors_old errors_mid count now → count < turns →
      TurnRestsBeside loop behind beside side now inner mid new errors_mid errors_new after → IsErr result →
      RestsBeside loop behind beside side turns start result old new errors_old errors_new after
  unfolding rests_broken filled turn_beside
  beside_rests_broken result inner {start} {now} {old} {mid} {new} {errors_old} {errors_mid} {errors_new} {count} turns
      after going few turned failed =
      let choice : C = turned.turn.choice in
      let fill : List C = replicate (turns - (count + 1)) choice in
      let here : S = behind going.going.written (beside going.said now) in
      let rests : Rests loop behind turns start result old new (beside going.said (beside turned.said after)) =
      rests_broken is result inner turns (beside going.said (beside turned.said after)) going.going few
      (turn_beside inner going.said turned.turn) failed in
      record {
        said = going.said ++ turned.said;
        appended =
            Appends-trans errors_old errors_mid errors_new going.said turned.said going.appended turned.appended;
        rests = record {
          choices = filled going.going.choices choice count turns;
          counted = rests.counted;
          written = rests.written;
          appended = rests.appended;
          whole = none_ok result _ failed;
          front = rests.front;
          sent =
              subst (λ (l : List M). Begins l (loop.sent (run loop rests.choices start)))
              (apart.sent going.said (beside turned.said after) ∙ apart.sent turned.said after
              ∙ sym (apart.sent (going.said ++ turned.said) after)) rests.sent;
        };
        front =
            subst (λ (s : S). Begins (going.said ++ turned.said) (side s)) (sym (going.going.goes_on (choice ∷ fill)))
            (begins_trans
            (subst (λ (t : List ℕ). Begins (going.said ++ turned.said) t)
            (sym (ap side (is.turn going.going.written choice (beside going.said now))
            ∙ apart.same going.going.written (loop.turn choice (beside going.said now))
            ∙ ap side (apart.turn going.said choice now) ∙ apart.adds going.said (loop.turn choice now)))
            (begins_behind going.said turned.front))
            (grows_from loop side apart.says choice fill here));
      }

  -- ---- a loop that sends from two ports

  module _ (other : S → List M) (keeps : (front : List ℕ) (s : S) → other (behind front s) ≡ other s)
      (kept : (said : List ℕ) (s : S) → other (beside said s) ≡ other s)
      (more_sent : (choice : C) (s : S) → Begins (other s) (other (loop.turn choice s))) where
    -- all turns were made
    pub two_all : {T E : Type 0} {last : T} {start now : S} {old new errors_old errors_new : Option (List ℕ)}
        {count : ℕ} (turns : ℕ) → count ≡ turns →
        GoingBeside loop behind beside start old new errors_old errors_new count now →
        RestsOfTwo {T = T} {E = E} loop other behind beside side turns start (Ok last) old new errors_old errors_new now
    two_all {T} {E} {last} {start} {now} {old} {new} {errors_old} {errors_new} {count} turns made going =
        let rests : RestsBeside {T = T} {E = E} loop behind beside side turns start (Ok last) old new errors_old
        errors_new now = beside_rests_all {T = T} {E = E} turns made going in
        record {
          rests = rests;
          others =
              subst (λ (l : List M). Begins (other now) l)
              (sym (ap other rests.rests.whole ∙ keeps rests.rests.written (beside rests.said now)
              ∙ kept rests.said now))
              (begins_whole (other now));
        }

    -- a turn, or a write after it, ended in a fault
    pub two_broken : {T E U F : Type 0} (result : Result T E) (inner : Result U F) {start now : S}
        {old mid new errors_old errors_mid errors_new : Option (List ℕ)} {count : ℕ} (turns : ℕ) (after : S) →
        GoingBeside loop behind beside start old mid errors_old errors_mid count now → count < turns →
        TurnRestsOfTwo loop other behind beside side now inner mid new errors_mid errors_new after → IsErr result →
        RestsOfTwo loop other behind beside side turns start result old new errors_old errors_new after
    unfolding beside_rests_broken filled
    two_broken result inner {start} {now} {count = count} turns after going few made failed =
        let choice : C = made.turn.turn.choice in
        let fill : List C = replicate (turns - (count + 1)) choice in
        let here : S = behind going.going.written (beside going.said now) in
        record {
          rests = beside_rests_broken result inner turns after going few made.turn failed;
          others =
              subst (λ (s : S). Begins (other after) (other s)) (sym (going.going.goes_on (choice ∷ fill)))
              (begins_trans
              (subst (λ (l : List M). Begins (other after) l)
              (sym (ap other (is.turn going.going.written choice (beside going.said now))
              ∙ keeps going.going.written (loop.turn choice (beside going.said now))
              ∙ ap other (apart.turn going.said choice now) ∙ kept going.said (loop.turn choice now)))
              made.others)
              (grows_from loop other more_sent choice fill here));
        }

  -- ---- after the turns

  module _ (turns : ℕ) (start : S) (last last_side : S → List ℕ) (status : S → ℕ) (agrees : S → Type 0) where
    -- a fault before the first turn
    pub ran_beside_none : {E : Type 0} (result : Result ℕ E) (choice : C) (held errors : Option (List ℕ)) →
        IsErr result →
        RanBeside loop side turns start last last_side status agrees result held held errors errors (loop.sent start)
    ran_beside_none result choice held errors failed = record {
      ran = ran_none is turns start last status agrees result choice held failed;
      said = none_ok result _ failed;
      said_front = record { front = []; rest = _; parts = refl; appended = Appends-nil errors };
    }

    -- a fault in a turn
    pub ran_beside_cut : {T E F : Type 0} (before : Result T F) (result : Result ℕ E)
        {old new errors_old errors_new : Option (List ℕ)} {now : S}
        (rests : RestsBeside loop behind beside side turns start before old new errors_old errors_new now) →
        IsErr result →
        RanBeside loop side turns start last last_side status agrees result old new errors_old errors_new
        (loop.sent (beside rests.said now))
    unfolding ran_cut
    ran_beside_cut before result rests failed =
        let end : S = run loop rests.rests.choices start in
        record {
          ran = ran_cut is turns start last status agrees before result rests.rests failed;
          said = none_ok result _ failed;
          said_front = record {
            front = rests.said;
            rest = rests.front.rest ++ last_side end;
            parts =
                ap (λ (t : List ℕ). t ++ last_side end) rests.front.parts
                ∙ append_assoc rests.said rests.front.rest (last_side end);
            appended = rests.appended;
          };
        }

    module _ (last_behind : (front : List ℕ) (s : S) → last (behind front s) ≡ last s)
        (side_behind : (front : List ℕ) (s : S) → last_side (behind front s) ≡ last_side s)
        (side_beside : (said : List ℕ) (s : S) → last_side (beside said s) ≡ last_side s)
        {T F : Type 0} (value : T) {old mid errors_old errors_mid : Option (List ℕ)} (now : S)
        (rests : RestsBeside {T = T} {E = F} loop behind beside side turns start (Ok value) old mid errors_old errors_mid
        now) where
      -- the run's text for standard error is the written text followed by the text that is still to be written
      whole_side : side (run loop rests.rests.choices start) ++ last_side (run loop rests.rests.choices start)
          ≡ rests.said ++ (side now ++ last_side now)
      whole_side =
          ap (λ (s : S). side s ++ last_side s) rests.rests.whole
          ∙ ap (λ (t : List ℕ). t ++ last_side (behind rests.rests.written (beside rests.said now)))
          (apart.same rests.rests.written (beside rests.said now) ∙ apart.adds rests.said now)
          ∙ ap (λ (t : List ℕ). (rests.said ++ side now) ++ t)
          (side_behind rests.rests.written (beside rests.said now) ∙ side_beside rests.said now)
          ∙ append_assoc rests.said (side now) (last_side now)

      -- one of the last writes failed
      pub ran_beside_front : {E : Type 0} (result : Result ℕ E) {new errors_new : Option (List ℕ)}
          (text beside_text : List ℕ) → text ≡ loop.text (beside rests.said now) ++ last (beside rests.said now) →
          AppendsPrefix mid new text → beside_text ≡ side now ++ last_side now →
          AppendsPrefix errors_mid errors_new beside_text → IsErr result →
          RanBeside loop side turns start last last_side status agrees result old new errors_old errors_new
          (loop.sent (beside rests.said now))
      unfolding ran_front
      ran_beside_front result {new} {errors_new} text beside_text is_text cut is_side side_cut failed = record {
        ran = ran_front is turns start last status agrees last_behind value (beside rests.said now) rests.rests result text
            is_text cut failed;
        said = none_ok result _ failed;
        said_front = record {
          front = rests.said ++ side_cut.front;
          rest = side_cut.rest;
          parts =
              whole_side ∙ ap (λ (t : List ℕ). rests.said ++ t) (sym is_side ∙ side_cut.parts)
              ∙ sym (append_assoc rests.said side_cut.front side_cut.rest);
          appended =
              Appends-trans errors_old errors_mid errors_new rests.said side_cut.front rests.appended
              side_cut.appended;
        };
      }

      -- all text was written
      pub ran_beside_whole : {E : Type 0} (answer : ℕ) {new errors_new : Option (List ℕ)} (text beside_text : List ℕ) →
          text ≡ loop.text (beside rests.said now) ++ last (beside rests.said now) → Appends mid new text →
          beside_text ≡ side now ++ last_side now → Appends errors_mid errors_new beside_text →
          answer ≡ status (behind rests.rests.written (beside rests.said now)) →
          agrees (behind rests.rests.written (beside rests.said now)) →
          RanBeside {E = E} loop side turns start last last_side status agrees (Ok answer) old new errors_old errors_new
          (loop.sent (beside rests.said now))
      unfolding ran_whole
      ran_beside_whole {E} answer {new} {errors_new} text beside_text is_text appended is_side said is_status agree =
          let all : side (run loop rests.rests.choices start) ++ last_side (run loop rests.rests.choices start)
          ≡ rests.said ++ beside_text = whole_side ∙ ap (λ (t : List ℕ). rests.said ++ t) (sym is_side) in
          let whole = Appends-trans errors_old errors_mid errors_new rests.said beside_text rests.appended said in
          record {
            ran = ran_whole is turns start last status agrees last_behind value (beside rests.said now) rests.rests {E = E}
                answer text is_text appended is_status agree;
            said = subst (λ (t : List ℕ). Appends errors_old errors_new t) (sym all) whole;
            said_front = record {
              front = rests.said ++ beside_text;
              rest = [];
              parts = all ∙ sym (append-nil (rests.said ++ beside_text));
              appended = whole;
            };
          }
