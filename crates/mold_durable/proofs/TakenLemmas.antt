-- What a taker holds after several messages.
use Rattle.std.proofs.Common.{◌≡◌, ℕ, ◌+◌, ◌-◌, ◌<◌, ◌≤◌, Bool, true, false, List, [], ◌∷◌, ◌++◌, length, take, drop}
use Rattle.std.proofs.Common.{refl, sym, ap, subst, append_assoc, append-nil, arith, length-append}
use Rattle.std.specs.List.{AllByRecursion}
use Rattle.mold_session.specs.Journal.{AreMessages, IsJournal, IsWithin, JournalState, appended}
use Rattle.mold_durable.specs.MessageTaker.{HasTaken, HoldsOpen, MayTake, continued}
use Rattle.mold_durable.specs.Reading.{AreSkipped, IsNextRecord}
use Rattle.mold_durable.specs.declared.records.NextRecord.TheVariants.{Message}
use Rattle.mold_durable.proofs.ReadingLemmas.{record_message}
use Rattle.mold_durable.proofs.RecordLemmas.{each-append}

each_front : (most : ℕ) (messages more : List (List ℕ)) → AllByRecursion (IsWithin most) (messages ++ more) →
    AllByRecursion (IsWithin most) messages
each_front most [] more each = tt
each_front most (message ∷ messages) more each = (each.0, each_front most messages more each.1)

front_listed : (most : ℕ) (messages more : List (List ℕ)) → AreMessages most (messages ++ more) → AreMessages most messages
front_listed most messages more listed = record {
  few = omega (arith, listed.few, length-append messages more);
  each = each_front most messages more listed.each;
}

module _ {T : Type 0} (holds : T → JournalState → Type 0) where
  -- No message was taken yet.
  pub taken_none : (taker : T) → HasTaken holds false taker taker []
  taken_none taker journal held is_open listed =
      subst (λ (c : Bool). holds taker (record journal { messages = journal.messages ++ []; closed = c })) is_open
      (subst (λ (m : List (List ℕ)). holds taker (record journal { messages = m })) (sym (append-nil journal.messages)) held)

  -- One message was taken.
  taken_one : (old new : T) (message : List ℕ) →
      ((journal : JournalState) → holds old journal → journal.closed ≡ false → IsJournal (appended journal message) →
      holds new (appended journal message)) → HasTaken holds false old new (message ∷ [])
  taken_one old new message step journal held is_open listed =
      subst (λ (c : Bool). holds new (record journal { messages = journal.messages ++ message ∷ []; closed = c })) is_open
      (step journal held is_open listed)

  -- Some messages were taken, and then more.
  pub taken_joined : (closed : Bool) (old middle new : T) (messages more : List (List ℕ)) →
      HasTaken holds false old middle messages → HasTaken holds closed middle new more →
      HasTaken holds closed old new (messages ++ more)
  taken_joined closed old middle new messages more first second journal held is_open listed =
      let all = append_assoc journal.messages messages more in
      let parts = subst (AreMessages journal.max_message) (sym all) listed in
      let so_far = first journal held is_open (front_listed journal.max_message (journal.messages ++ messages) more parts) in
      subst (λ (m : List (List ℕ)). holds new (record journal { messages = m; closed = closed })) all
      (second (continued journal messages false) so_far refl parts)

  pub taken_next : (old middle new : T) (message : List ℕ) →
      ((journal : JournalState) → holds middle journal → journal.closed ≡ false → IsJournal (appended journal message) →
      holds new (appended journal message)) → (messages : List (List ℕ)) → HasTaken holds false old middle messages →
      HasTaken holds false old new (messages ++ message ∷ [])
  taken_next old middle new message step messages first =
      taken_joined false old middle new messages (message ∷ []) first (taken_one middle new message step)

  -- The end of the session was taken.
  pub taken_closed : (old middle new : T) (messages : List (List ℕ)) → HasTaken holds false old middle messages →
      ((journal : JournalState) → holds middle journal → holds new (record journal { closed = true })) →
      HasTaken holds true old new messages
  taken_closed old middle new messages taken step journal held is_open listed =
      step (continued journal messages false) (taken journal held is_open listed)

  -- The journal is still open after some messages.
  pub open_more : (most start count : ℕ) (old new : T) (messages : List (List ℕ)) → HoldsOpen holds most start old →
      HasTaken holds false old new messages → count ≡ start + length messages → count < 18446744073709551615 →
      AllByRecursion (IsWithin most) messages → HoldsOpen holds most count new
  open_more most start count old new messages is taken counted few each =
      let before = is.journal.messages in
      let all = each-append most before messages is.each each in
      let number : count ≡ length (before ++ messages) =
      omega (arith, counted, is.counted, length-append before messages) in
      record {
        journal = continued is.journal messages false;
        held = taken is.journal is.held is.is_open (record {
          few = omega (arith, number, few);
          each = subst (λ (n : ℕ). AllByRecursion (IsWithin n) (before ++ messages)) (sym is.limited) all;
        });
        is_open = refl;
        limited = is.limited;
        counted = number;
        each = all;
      }

  -- The journal takes a message that is not too long, unless it is full.
  may_take : (most count : ℕ) (taker : T) (message : List ℕ) → HoldsOpen holds most count taker →
      count < 18446744073709551614 → length message ≤ most → MayTake holds taker message
  may_take most count taker message is few within =
      let before = is.journal.messages in
      record {
        journal = is.journal;
        held = is.held;
        is_open = is.is_open;
        more = record {
          few = omega (arith, few, is.counted, length-append before (message ∷ []));
          each = subst (λ (n : ℕ). AllByRecursion (IsWithin n) (before ++ message ∷ [])) (sym is.limited)
              (each-append most before (message ∷ []) is.each (within, tt));
        };
      }

  -- The message of the next record may be taken.
  pub may_take_next : (most start count at len : ℕ) (old new : T) (bytes rest : List ℕ) → HoldsOpen holds most start old →
      AreSkipped (HasTaken holds false old new) most start count at bytes →
      IsNextRecord most count rest (Message len) → MayTake holds new (take (len - 4) (drop 4 rest))
  may_take_next most start count at len old new bytes rest is so_far next =
      let one = next.3 in
      let same : take (len - 4) (drop 4 rest) ≡ one.message =
      record_message one.message (drop len rest) rest len one.parts refl next.2
      in
      may_take most count new (take (len - 4) (drop 4 rest))
      (open_more most start count old new so_far.messages is so_far.taken so_far.counted so_far.few so_far.each) next.0
      (omega (arith, one.within, ap (λ (t : List ℕ). length t) same))
