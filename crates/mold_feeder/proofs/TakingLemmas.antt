-- What is taken of an input that comes in pieces.
use Rattle.std.proofs.Common.{◌≡◌, ◌∙◌, ◌&&◌, ◌-◌, cond, length, map, nat_lt, take, ℕ, Bool, not, true, false, List, [], ◌∷◌, ◌++◌, Option, None, Some, Result, Ok, Err}
use Rattle.std.proofs.Common.{ap, inl, inr, refl, sym, subst, append_assoc, append-nil}
use Rattle.std.specs.Io.KnownBytes.{IsAtEnd}
use Rattle.std.specs.Prelude.{⊤}
use Rattle.mold_input.specs.Entries.{Entry}
use Rattle.mold_input.specs.LongLines.{PartState, bytes_of}
use Rattle.mold_input.specs.declared.input_kind.InputKind.{InputKind}
use Rattle.mold_publish.specs.Publishing.{PublishedInput, entries_published, entry_outcome, published_from}
use Rattle.mold_publish.specs.declared.filling.Filled.{Filled}
use Rattle.mold_publish.specs.declared.filling.Filled.TheVariants as filled
use Rattle.mold_publish.specs.declared.message_refusal.MessageRefusal.{MessageRefusal}
use Rattle.mold_session.specs.Journal.{JournalState, appended}
use Rattle.std.specs.Str.{bytes_eq}
use Rattle.mold_publish.specs.declared.refusal_reason.RefusalReason.{RefusalReason}
use Rattle.mold_publish.specs.declared.refusal_reason.RefusalReason.TheVariants.{NotTaken}
use Rattle.mold_session.specs.Journal.{message_numbered}
use Rattle.mold_session.specs.Publisher.{PublisherState, closed}
use Rattle.mold_feeder.specs.Feeder.{ended}
use Rattle.mold_feeder.specs.declared.feed_end.FeedEnd.{FeedEnd}
use Rattle.mold_feeder.specs.declared.feed_stop.FeedStop.{FeedStop}
use Rattle.mold_feeder.specs.declared.feed_stop.FeedStop.TheVariants as stop
use Rattle.mold_session.specs.declared.error.AppendError.TheVariants.{TooLong}
use Rattle.mold_feeder.specs.Comparison.{ComparesAll, ComparesFirst, compared_entry, compared_with}
use Rattle.mold_feeder.specs.Gathering.{filled_for}
use Rattle.mold_feeder.specs.declared.compared.Compared.{Compared}
use Rattle.mold_feeder.specs.declared.compared.Compared.TheVariants as compared
use Rattle.mold_feeder.specs.declared.compared.Compared.TheVariants.{Differs, Same}
use Rattle.mold_feeder.specs.Input.{IsInput, KeepsRest, entries_after, entries_of_rest}
use Rattle.mold_feeder.specs.Taking.{ComparesCome, IsSameTo, IsStop, Takes, TakesAfter, TakesCome, TakesInput}
use Rattle.mold_feeder.specs.ToEmpty.{source_left}
use Rattle.mold_feeder.specs.Taking.{TakesPart, TakesYet, filled_now, is_end, is_same, left_of, refusal_of, reopened}
use Rattle.mold_feeder.specs.Taking.{stop_at, taken_at}
use Rattle.mold_feeder.specs.declared.gathered.Gathered.{Gathered}
use Rattle.mold_feeder.specs.declared.gathered.Gathered.TheVariants.{Full, End, Refused}
use Rattle.mold_feeder.specs.declared.piece_input.PieceInput.{PieceInput}

-- ---- what entries are published as, after others

abbrev pub after_refusal : InputKind → JournalState → Option MessageRefusal → List Entry → PublishedInput
after_refusal kind journal None more = entries_published kind journal more
after_refusal kind journal (Some why) more = record { journal = journal; refused = Some why }

abbrev pub published_after : InputKind → PublishedInput → List Entry → PublishedInput
published_after kind done more = after_refusal kind done.journal done.refused more

from_append : (kind : InputKind) (journal : JournalState) (outcome : Result (List ℕ) MessageRefusal)
    (xs ys : List Entry) → ((next : JournalState) →
    entries_published kind next (xs ++ ys) ≡ published_after kind (entries_published kind next xs) ys) →
    published_from journal outcome (λ next. entries_published kind next (xs ++ ys))
    ≡ published_after kind (published_from journal outcome (λ next. entries_published kind next xs)) ys
from_append kind journal (Ok message) xs ys same = same (appended journal message)
from_append kind journal (Err why) xs ys same = refl

published_append : (kind : InputKind) (journal : JournalState) (xs ys : List Entry) →
    entries_published kind journal (xs ++ ys) ≡ published_after kind (entries_published kind journal xs) ys
unfolding entries_published
published_append kind journal [] ys = refl
published_append kind journal (entry ∷ xs) ys =
    from_append kind journal (entry_outcome kind journal entry) xs ys (λ next. published_append kind next xs ys)

none_published : (kind : InputKind) (journal : JournalState) →
    entries_published kind journal [] ≡ record { journal = journal; refused = None }
unfolding entries_published
none_published kind journal = refl

-- ---- a turn

come_taken : (kind : InputKind) (old new : JournalState) (all come left later : List Entry) (taken : Option Gathered) →
    come ++ later ≡ all → TakesCome kind old new come left taken →
    Takes kind old new (Some all) (Some (left_of taken left ++ later)) (filled_now taken)
come_taken kind old new all come left later None same takes =
    ap (entries_published kind old) (sym same)
    ∙ ap (λ (j : JournalState). entries_published kind j (come ++ later)) (sym takes.0)
    ∙ ap (λ (es : List Entry). entries_published kind new (es ++ later)) (sym takes.1)
come_taken kind old new all come left later (Some Full) same takes =
    ap (entries_published kind old) (sym same)
    ∙ published_append kind old come later
    ∙ ap (λ (p : PublishedInput). published_after kind p later) takes
    ∙ sym (published_append kind new left later)
come_taken kind old new all come left later (Some End) same takes =
    ap (entries_published kind old) (sym same)
    ∙ published_append kind old come later
    ∙ ap (λ (p : PublishedInput). published_after kind p later) takes
come_taken kind old new all come left later (Some (Refused refusal)) same takes =
    ap (entries_published kind old) (sym same)
    ∙ published_append kind old come later
    ∙ ap (λ (p : PublishedInput). published_after kind p later) takes

-- What a turn takes of what has come, it takes of the input.
pub turn_takes : (kind : InputKind) (old new : JournalState) (known : Option (List Entry))
    (entries : List ℕ → List Entry) (come left : List Entry) (part : List ℕ) (bytes : Option (List ℕ))
    (taken : Option Gathered) → KeepsRest known (entries_after entries come part bytes) →
    TakesCome kind old new come left taken →
    Takes kind old new known (entries_after entries (left_of taken left) part bytes) (filled_now taken)
turn_takes kind old new None entries come left part bytes taken keeps takes = tt
turn_takes kind old new (Some all) entries come left part None taken keeps takes = absurd keeps
turn_takes kind old new (Some all) entries come left part (Some bytes) taken keeps takes =
    come_taken kind old new all come left (entries (part ++ bytes)) taken keeps takes

-- Nothing was taken.
pub takes_nothing : (kind : InputKind) (old new : JournalState) (known left : Option (List Entry)) → new ≡ old →
    KeepsRest known left → Takes kind old new known left filled.Full
takes_nothing kind old new None left same keeps = tt
takes_nothing kind old new (Some all) None same keeps = absurd keeps
takes_nothing kind old new (Some all) (Some others) same keeps =
    ap (entries_published kind old) (sym keeps)
    ∙ ap (λ (j : JournalState). entries_published kind j others) (sym same)

pub takes_yet : (kind : InputKind) (journal : JournalState) (known : Option (List Entry)) →
    Takes kind journal journal known known filled.Full
takes_yet kind journal None = tt
takes_yet kind journal (Some entries) = refl

-- More was taken.
pub takes_then : (kind : InputKind) (old mid new : JournalState) (known behind left : Option (List Entry))
    (last : Filled) → Takes kind old mid known behind filled.Full → Takes kind mid new behind left last →
    Takes kind old new known left last
takes_then kind old mid new None behind left last first second = tt
takes_then kind old mid new (Some all) None left last first second = absurd first
takes_then kind old mid new (Some all) (Some entries) None last first second = absurd second
takes_then kind old mid new (Some all) (Some entries) (Some others) last first second = first ∙ second

-- ---- a fault

-- Since these messages were published, the journal has not changed.
pub part_at : (kind : InputKind) (old published now : JournalState) (known left : Option (List Entry))
    (filled : Filled) → now ≡ published → Takes kind old published known left filled → TakesPart kind old known now
part_at kind old published now known left filled same takes =
    (left, (filled, subst (λ (j : JournalState). Takes kind old j known left filled) (sym same) takes))

pub part_none : (kind : InputKind) (old new : JournalState) (known : Option (List Entry)) → new ≡ old →
    TakesPart kind old known new
part_none kind old new known same = part_at kind old old new known known filled.Full same (takes_yet kind old known)

-- More was taken.
pub part_then : (kind : InputKind) (old mid new : JournalState) (known behind : Option (List Entry)) →
    Takes kind old mid known behind filled.Full → TakesPart kind mid behind new → TakesPart kind old known new
part_then kind old mid new known behind first part =
    (part.0, (part.1.0, takes_then kind old mid new known behind part.0 part.1.0 first part.1.1))

part_filled : (kind : InputKind) (old new : JournalState) (all come left later : List Entry) (last : Filled) →
    come ++ later ≡ all → Takes kind old new (Some come) (Some left) last → TakesPart kind old (Some all) new
part_filled kind old new all come left later filled.Full same takes =
    (Some (left ++ later), (filled.Full, come_taken kind old new all come left later (Some Full) same takes))
part_filled kind old new all come left later filled.End same takes =
    (Some later, (filled.Full, come_taken kind old new all come left later (Some End) same takes))
part_filled kind old new all come left later (filled.Refused why) same takes = (
  Some (left ++ later),
  (filled.Refused why, come_taken kind old new all come left later (Some (Refused why)) same takes),
)

part_known : (kind : InputKind) (old new : JournalState) (all come later : List Entry) (left : Option (List Entry))
    (last : Filled) → come ++ later ≡ all → Takes kind old new (Some come) left last → TakesPart kind old (Some all) new
part_known kind old new all come later None last same takes = absurd takes
part_known kind old new all come later (Some left) last same takes =
    part_filled kind old new all come left later last same takes

-- What was taken of what has come was taken of the input.
pub part_of_rest : (kind : InputKind) (old new : JournalState) (known : Option (List Entry))
    (entries : List ℕ → List Entry) (come : List Entry) (part : List ℕ) (bytes : Option (List ℕ)) →
    KeepsRest known (entries_after entries come part bytes) → TakesPart kind old (Some come) new →
    TakesPart kind old known new
part_of_rest kind old new None entries come part bytes keeps takes = (None, (filled.Full, tt))
part_of_rest kind old new (Some all) entries come part None keeps takes = absurd keeps
part_of_rest kind old new (Some all) entries come part (Some bytes) keeps takes =
    part_known kind old new all come (entries (part ++ bytes)) takes.0 takes.1.0 keeps takes.1.1

-- ---- the end

pub goes_on : (taken : Option Gathered) (over : Bool) → stop_at taken over ≡ None → filled_now taken ≡ filled.Full
goes_on None over is = refl
goes_on (Some Full) over is = refl
goes_on (Some End) over is = refl
goes_on (Some (Refused refusal)) over is = absurd (cc)

-- No entry remains, as far as they are known.
abbrev pub EndsRest : Option (List Entry) → Type 0
EndsRest None = ⊤
EndsRest (Some entries) = entries ≡ []

end_takes : (kind : InputKind) (old new : JournalState) (known left : Option (List Entry)) → EndsRest left →
    Takes kind old new known left filled.Full → Takes kind old new known left filled.End
end_takes kind old new None left ends takes = tt
end_takes kind old new (Some all) None ends takes = absurd takes
end_takes kind old new (Some all) (Some entries) ends takes =
    takes ∙ ap (entries_published kind new) ends ∙ none_published kind new

-- The input is taken no further.
pub stops : (kind : InputKind) (old new : JournalState) (known left : Option (List Entry)) (taken : Option Gathered)
    (over : Bool) (gathered : Gathered) → stop_at taken over ≡ Some gathered → (over ≡ true → EndsRest left) →
    Takes kind old new known left (filled_now taken) → Takes kind old new known left (filled_for gathered)
stops kind old new known left None over gathered is ends takes = absurd (cc)
stops kind old new known left (Some Full) over gathered is ends takes = absurd (cc)
stops kind old new known left (Some End) false gathered is ends takes = absurd (cc)
stops kind old new known left (Some End) true Full is ends takes = absurd (cc)
stops kind old new known left (Some End) true End is ends takes = end_takes kind old new known left (ends refl) takes
stops kind old new known left (Some End) true (Refused refusal) is ends takes = absurd (cc)
stops kind old new known left (Some (Refused refusal)) over gathered is ends takes =
    let same : Refused refusal ≡ gathered = cc in
    subst (λ (g : Gathered). Takes kind old new known left (filled_for g)) same takes

over_parts : (ready ended : Bool) → (not ready && ended) ≡ true → (ready ≡ false) × (ended ≡ true)
over_parts true ended is = absurd (cc)
over_parts false ended is = (refl, is)

over_known : (entries : List ℕ → List Entry) (come part : List ℕ) (left : Option (List ℕ)) → come ≡ [] → part ≡ [] →
    IsAtEnd left → entries [] ≡ [] → EndsRest (entries_after entries (entries come) part left)
over_known entries come part None none over end nothing = tt
over_known entries come part (Some left) none over end nothing =
    ap (λ (t : List ℕ). entries t ++ entries (part ++ left)) none
    ∙ ap (λ (t : List ℕ). entries [] ++ entries (t ++ left)) over
    ∙ ap (λ (t : List ℕ). entries [] ++ entries t) end
    ∙ ap (λ (es : List Entry). entries [] ++ es) nothing
    ∙ append-nil (entries [])
    ∙ nothing

-- If the input is over, no entry remains.
pub over_rest : {M K : Type 0} (is_part : PartState → Type 0) (unread : M → List ℕ) (left : K → Option (List ℕ))
    (entries : List ℕ → List Entry) (input : PieceInput M K) → IsInput is_part unread left input → entries [] ≡ [] →
    (not input.ready && input.ended) ≡ true → EndsRest (entries_of_rest unread left entries input)
over_rest is_part unread left entries input is nothing over =
    let parts = over_parts input.ready input.ended over in
    let rest = is.over parts.1 in
    over_known entries _ (bytes_of input.part) (source_left left input.source) (is.taken parts.0) rest.0 rest.1 nothing

-- ---- the comparison

compared_differs : (same : Bool) → cond same Same Differs ≡ compared.End → ⊥
compared_differs true is = cc
compared_differs false is = cc

with_never : (found : Option (List ℕ)) (message : List ℕ) → compared_with found message ≡ compared.End → ⊥
with_never None message is = cc
with_never (Some other) message is = compared_differs (bytes_eq other message) is

long_never : (long : Bool) (why : RefusalReason) (found : Compared) → (found ≡ compared.End → ⊥) →
    cond long (compared.Refused why) found ≡ compared.End → ⊥
long_never true why found never is = cc
long_never false why found never is = never is

entry_never : (journal : JournalState) (number : ℕ) (entry : Entry) → compared_entry journal number entry ≡ compared.End → ⊥
entry_never journal number (Err why) is = cc
entry_never journal number (Ok message) is =
    long_never (nat_lt journal.max_message (length message)) (NotTaken (TooLong (length message)))
    (compared_with (message_numbered journal.messages number) message)
    (with_never (message_numbered journal.messages number) message) is

end_first : (journal : JournalState) (number : ℕ) (mid left : List Entry) → ComparesFirst journal number mid left compared.End →
    mid ≡ []
end_first journal number [] left first = refl
end_first journal number (entry ∷ entries) left first = absurd (entry_never journal number entry (sym first.0))

first_more : (journal : JournalState) (number : ℕ) (mid left later : List Entry) (found : Compared) →
    (found ≡ compared.End → ⊥) → ComparesFirst journal number mid left found →
    ComparesFirst journal number (mid ++ later) (left ++ later) found
first_more journal number [] left later found never first = absurd (never first)
first_more journal number (entry ∷ entries) left later found never first =
    (first.0, ap (λ (es : List Entry). es ++ later) first.1)

module _ (journal : JournalState) (from to : ℕ) (come left later : List Entry) where
  same_more : (mid : List Entry) →
      map Ok (take (from - 1) journal.messages) ++ come ≡ map Ok (take (to - 1) journal.messages) ++ mid →
      map Ok (take (from - 1) journal.messages) ++ (come ++ later)
      ≡ map Ok (take (to - 1) journal.messages) ++ (mid ++ later)
  same_more mid same =
      sym (append_assoc (map Ok (take (from - 1) journal.messages)) come later)
      ∙ ap (λ (es : List Entry). es ++ later) same
      ∙ append_assoc (map Ok (take (to - 1) journal.messages)) mid later

-- What was compared of what has come was compared of the input.
come_compared : (journal : JournalState) (from to : ℕ) (come left later : List Entry) (found : Compared) →
    ComparesAll journal from to (Some come) (Some left) found →
    ComparesCome journal from to (Some (come ++ later)) (Some (left_of (taken_at found) left ++ later)) found
come_compared journal from to come left later compared.End is =
    same_more journal from to come left later is.mid is.same
    ∙ ap (λ (es : List Entry). map Ok (take (to - 1) journal.messages) ++ (es ++ later))
    (end_first journal to is.mid left is.stops)
come_compared journal from to come left later Same is = record {
  mid = is.mid ++ later;
  same = same_more journal from to come left later is.mid is.same;
  stops = (is.stops.0, ap (λ (es : List Entry). es ++ later) is.stops.1);
}
come_compared journal from to come left later Differs is = record {
  mid = is.mid ++ later;
  same = same_more journal from to come left later is.mid is.same;
  stops = first_more journal to is.mid left later Differs (λ e. cc) is.stops;
}
come_compared journal from to come left later (compared.Refused why) is = record {
  mid = is.mid ++ later;
  same = same_more journal from to come left later is.mid is.same;
  stops = first_more journal to is.mid left later (compared.Refused why) (λ e. cc) is.stops;
}

unknown_compared : (journal : JournalState) (from to : ℕ) (left : Option (List Entry)) (found : Compared) →
    ComparesCome journal from to None left found
unknown_compared journal from to left compared.End = tt
unknown_compared journal from to left Same = tt
unknown_compared journal from to left Differs = tt
unknown_compared journal from to left (compared.Refused why) = tt

pub rest_compared : (journal : JournalState) (from to : ℕ) (entries : List ℕ → List Entry) (come left : List Entry)
    (part : List ℕ) (bytes : Option (List ℕ)) (found : Compared) →
    ComparesAll journal from to (Some come) (Some left) found →
    ComparesCome journal from to (entries_after entries come part bytes)
    (entries_after entries (left_of (taken_at found) left) part bytes) found
rest_compared journal from to entries come left part None found is = unknown_compared journal from to None found
rest_compared journal from to entries come left part (Some bytes) found is =
    come_compared journal from to come left (entries (part ++ bytes)) found is

pub same_yet : (journal : JournalState) (from : ℕ) (known : Option (List Entry)) → IsSameTo journal from from known known
same_yet journal from None = tt
same_yet journal from (Some entries) = refl

-- More entries are the same.
pub same_kept : (journal : JournalState) (from to : ℕ) (known left other : Option (List Entry)) →
    IsSameTo journal from to known left → KeepsRest left other → IsSameTo journal from to known other
same_kept journal from to None left other same keeps = tt
same_kept journal from to (Some all) None other same keeps = absurd same
same_kept journal from to (Some all) (Some entries) None same keeps = absurd keeps
same_kept journal from to (Some all) (Some entries) (Some others) same keeps =
    same ∙ ap (λ (es : List Entry). map Ok (take (to - 1) journal.messages) ++ es) (sym keeps)

same_then : (journal : JournalState) (from at to : ℕ) (known behind left : Option (List Entry)) →
    IsSameTo journal from at known behind → IsSameTo journal at to behind left → IsSameTo journal from to known left
same_then journal from at to None behind left first second = tt
same_then journal from at to (Some all) None left first second = absurd first
same_then journal from at to (Some all) (Some entries) None first second = absurd second
same_then journal from at to (Some all) (Some entries) (Some others) first second = first ∙ second

all_then : (journal : JournalState) (from at to : ℕ) (known behind left : Option (List Entry)) (found : Compared) →
    IsSameTo journal from at known behind → ComparesAll journal at to behind left found →
    ComparesAll journal from to known left found
all_then journal from at to None behind left found first second = tt
all_then journal from at to (Some all) None left found first second = absurd first
all_then journal from at to (Some all) (Some entries) None found first second = absurd second
all_then journal from at to (Some all) (Some entries) (Some others) found first second =
    record { mid = second.mid; same = first ∙ second.same; stops = second.stops }

end_all : (journal : JournalState) (from to : ℕ) (known left : Option (List Entry)) → EndsRest left →
    IsSameTo journal from to known left → ComparesAll journal from to known left compared.End
end_all journal from to None left ends same = tt
end_all journal from to (Some all) None ends same = absurd same
end_all journal from to (Some all) (Some entries) ends same = record {
  mid = [];
  same = same ∙ ap (λ (es : List Entry). map Ok (take (to - 1) journal.messages) ++ es) ends;
  stops = refl;
}

-- The comparison goes on.
pub compare_on : (journal : JournalState) (from at to : ℕ) (known behind left : Option (List Entry)) (found : Compared)
    (over : Bool) → (is_end found && not over) ≡ true → IsSameTo journal from at known behind →
    ComparesCome journal at to behind left found → IsSameTo journal from to known left
compare_on journal from at to known behind left compared.End over on first second =
    same_then journal from at to known behind left first second
compare_on journal from at to known behind left Same over on first second = absurd (cc)
compare_on journal from at to known behind left Differs over on first second = absurd (cc)
compare_on journal from at to known behind left (compared.Refused why) over on first second = absurd (cc)

-- The comparison stops.
pub compare_stops : (journal : JournalState) (from at to : ℕ) (known behind left : Option (List Entry)) (found : Compared)
    (over : Bool) → (is_end found && not over) ≡ false → (over ≡ true → EndsRest left) →
    IsSameTo journal from at known behind → ComparesCome journal at to behind left found →
    ComparesAll journal from to known left found
compare_stops journal from at to known behind left compared.End true on ends first second =
    end_all journal from to known left (ends refl) (same_then journal from at to known behind left first second)
compare_stops journal from at to known behind left compared.End false on ends first second = absurd (cc)
compare_stops journal from at to known behind left Same over on ends first second =
    all_then journal from at to known behind left Same first second
compare_stops journal from at to known behind left Differs over on ends first second =
    all_then journal from at to known behind left Differs first second
compare_stops journal from at to known behind left (compared.Refused why) over on ends first second =
    all_then journal from at to known behind left (compared.Refused why) first second

-- ---- why the loop stops

pub is_stop : (taken : Option Gathered) (over : Bool) (gathered : Gathered) → stop_at taken over ≡ Some gathered →
    IsStop gathered
is_stop None over Full is = absurd (cc)
is_stop (Some Full) over Full is = absurd (cc)
is_stop (Some End) false Full is = absurd (cc)
is_stop (Some End) true Full is = absurd (cc)
is_stop (Some (Refused refusal)) over Full is = absurd (cc)
is_stop taken over End is = tt
is_stop taken over (Refused refusal) is = tt

pub not_refused : (gathered : Gathered) → IsStop gathered → refusal_of gathered ≡ None → filled_for gathered ≡ filled.End
not_refused Full is none = absurd is
not_refused End is none = refl
not_refused (Refused refusal) is none = absurd (cc)

pub was_refused : (gathered : Gathered) (refusal : MessageRefusal) → refusal_of gathered ≡ Some refusal →
    filled_for gathered ≡ filled.Refused refusal
was_refused Full refusal is = absurd (cc)
was_refused End refusal is = absurd (cc)
was_refused (Refused other) refusal is =
    let same : other ≡ refusal = cc in ap (λ (r : MessageRefusal). filled.Refused r) same

pub is_not_same : (found : Compared) → is_same found ≡ false → found ≡ Same → ⊥
is_not_same Same is same = cc
is_not_same Differs is same = cc
is_not_same compared.End is same = cc
is_not_same (compared.Refused why) is same = cc

pub all_same : (found : Compared) → is_same found ≡ true → found ≡ Same
all_same Same is = refl
all_same Differs is = absurd (cc)
all_same compared.End is = absurd (cc)
all_same (compared.Refused why) is = absurd (cc)

pub reopened_same : (old new : JournalState) → new.closed ≡ old.closed → reopened old new ≡ new
reopened_same old new same = ap (λ (c : Bool). record new { closed = c }) (sym same)

ended_cases : (stays : Bool) (old : JournalState) (publisher : PublisherState) →
    reopened old (cond stays publisher (closed publisher)).journal ≡ reopened old publisher.journal
ended_cases true old publisher = refl
ended_cases false old publisher = refl

-- The journal after the end, without its end.
pub reopened_ended : (end : FeedEnd) (old : JournalState) (publisher : PublisherState) →
    publisher.journal.closed ≡ old.closed → reopened old (ended end publisher).journal ≡ publisher.journal
reopened_ended end old publisher same = ended_cases end.stays_open old publisher ∙ reopened_same old publisher.journal same

-- All entries were published, and since then the session was closed or not.
pub takes_ended : (kind : InputKind) (begun : ℕ) (old published served last : JournalState)
    (known left : Option (List Entry)) (gathered : Gathered) → IsStop gathered → refusal_of gathered ≡ None →
    Takes kind old published known left (filled_for gathered) → served ≡ published → served.closed ≡ old.closed →
    reopened served last ≡ served → TakesAfter kind begun old (reopened old last) known stop.Ended
takes_ended kind begun old published served last known left gathered is none takes kept shut same = (
  left,
  subst (λ (j : JournalState). Takes kind old j known left filled.End)
      (sym (ap (λ (c : Bool). record last { closed = c }) (sym shut) ∙ same ∙ kept))
      (subst (Takes kind old published known left) (not_refused gathered is none) takes),
)

-- The same, if the journal and the entries are the same.
pub takes_same : (has : JournalState → Type 0) (appends : Bool) (kind : InputKind) (one other new : JournalState)
    (known mine : Option (List Entry)) (last : FeedStop) → one ≡ other → known ≡ mine →
    TakesInput (has one) appends kind one (reopened one new) known last →
    TakesInput (has other) appends kind other (reopened other new) mine last
takes_same has appends kind one other new known mine last journal entries takes =
    subst (λ (es : Option (List Entry)). TakesInput (has other) appends kind other (reopened other new) es last) entries
    (subst (λ (j : JournalState). TakesInput (has j) appends kind j (reopened j new) known last) journal takes)

pub yet_none : (has : Type 0) (appends : Bool) (kind : InputKind) (old new : JournalState)
    (known : Option (List Entry)) → new ≡ old → TakesYet has appends kind old known new
yet_none has true kind old new known same = part_none kind old new known same
yet_none has false kind old new known same = inl same

-- The same, if the journal and the entries are the same.
pub yet_same : (has : JournalState → Type 0) (appends : Bool) (kind : InputKind) (one other new : JournalState)
    (known mine : Option (List Entry)) → one ≡ other → known ≡ mine → TakesYet (has one) appends kind one known new →
    TakesYet (has other) appends kind other mine new
yet_same has appends kind one other new known mine journal entries takes =
    subst (λ (es : Option (List Entry)). TakesYet (has other) appends kind other es new) entries
    (subst (λ (j : JournalState). TakesYet (has j) appends kind j known new) journal takes)

after_yet : (kind : InputKind) (begun : ℕ) (old new : JournalState) (known : Option (List Entry)) (last : FeedStop) →
    TakesAfter kind begun old new known last → TakesPart kind old known new
after_yet kind begun old new known (stop.Other number found) takes = absurd takes
after_yet kind begun old new known (stop.Refused number refusal) takes =
    (takes.1.0, (filled.Refused refusal, takes.1.1))
after_yet kind begun old new known stop.Ended takes = (takes.0, (filled.End, takes.1))

behind_yet : (has : Type 0) (kind : InputKind) (old new : JournalState) (known : Option (List Entry)) (last : FeedStop) →
    TakesInput has false kind old new known last → TakesYet has false kind old known new
behind_yet has kind old new known (stop.Other number found) takes = inl takes.0
behind_yet has kind old new known (stop.Refused number refusal) takes =
    inr (
      takes.0,
      (
        takes.1.0,
        (
          takes.1.1.0,
          after_yet kind 0 old new takes.1.0 (stop.Refused number refusal)
              takes.1.1.1,
        ),
      ),
    )
behind_yet has kind old new known stop.Ended takes =
    inr (takes.0, (takes.1.0, (takes.1.1.0, after_yet kind 0 old new takes.1.0 stop.Ended takes.1.1.1)))

input_yet : (has : Type 0) (appends : Bool) (kind : InputKind) (old new : JournalState) (known : Option (List Entry))
    (last : FeedStop) → TakesInput has appends kind old new known last → TakesYet has appends kind old known new
input_yet has true kind old new known last takes = after_yet kind (length old.messages) old new known last takes
input_yet has false kind old new known last takes = behind_yet has kind old new known last takes

-- What was taken until the publisher stopped, if the session was not closed.
pub stop_yet : (has : Type 0) (appends : Bool) (kind : InputKind) (old new : JournalState) (known : Option (List Entry))
    (last : FeedStop) → new.closed ≡ old.closed → TakesInput has appends kind old (reopened old new) known last →
    TakesYet has appends kind old known new
stop_yet has appends kind old new known last same takes =
    input_yet has appends kind old new known last
    (subst (λ (j : JournalState). TakesInput has appends kind old j known last) (reopened_same old new same) takes)

-- The journal after the end, if the session stays open.
pub ended_open : (stays : Bool) (publisher : PublisherState) → not stays ≡ false →
    (cond stays publisher (closed publisher)).journal ≡ publisher.journal
ended_open true publisher is = refl
ended_open false publisher is = absurd (cc)

-- The first entries are the messages of the journal.
pub takes_behind : (has : Type 0) (kind : InputKind) (old new : JournalState) (known mid : Option (List Entry))
    (number : ℕ) (found : Compared) (stop : FeedStop) → found ≡ Same → (has → ComparesAll old 1 number known mid found) →
    TakesAfter kind 0 old new mid stop → TakesInput has false kind old new known stop
takes_behind has kind old new known mid number found (stop.Other other why) same compares takes = absurd takes
takes_behind has kind old new known mid number found (stop.Refused other refusal) same compares takes =
    (number, (mid, ((λ is. subst (ComparesAll old 1 number known mid) same (compares is)), takes)))
takes_behind has kind old new known mid number found stop.Ended same compares takes =
    (number, (mid, ((λ is. subst (ComparesAll old 1 number known mid) same (compares is)), takes)))
