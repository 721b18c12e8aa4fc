-- What a publisher over ports takes of an input that comes in pieces.
use Rattle.std.specs.Prelude.{◌≡◌, ◌⊎◌, ◌≤◌, ◌+◌, ◌-◌, ℕ, Bool, true, false, List, [], ◌++◌, length, map, take}
use Rattle.std.specs.Prelude.{Option, None, Some, ⊤, Ok}
use Rattle.mold_input.specs.Entries.{Entry, with_kind}
use Rattle.mold_input.specs.declared.input_kind.InputKind.{InputKind}
use Rattle.mold_publish.specs.Publishing.{InputPublished}
use Rattle.mold_publish.specs.declared.filling.Filled.{Filled}
use Rattle.mold_publish.specs.declared.filling.Filled.TheVariants as filled
use Rattle.mold_publish.specs.declared.message_refusal.MessageRefusal.{MessageRefusal}
use Rattle.mold_session.specs.Journal.{JournalState}
use Rattle.mold_session.specs.Publisher.{PublisherState}
use Rattle.mold_feeder.specs.Comparison.{ComparesAll}
use Rattle.mold_feeder.specs.Gathering.{filled_for}
use Rattle.mold_feeder.specs.declared.compared.Compared.{Compared}
use Rattle.mold_feeder.specs.declared.compared.Compared.TheVariants as compared
use Rattle.mold_feeder.specs.declared.feed_stop.FeedStop.{FeedStop}
use Rattle.mold_feeder.specs.declared.feed_stop.FeedStop.TheVariants as stop
use Rattle.mold_feeder.specs.declared.gathered.Gathered.{Gathered}
use Rattle.mold_feeder.specs.declared.gathered.Gathered.TheVariants.{Full, End, Refused}

-- The messages of an input before its rest were published, if its entries are known.
abbrev pub Takes : InputKind → JournalState → JournalState → Option (List Entry) → Option (List Entry) → Filled → Type 0
Takes kind old new known left filled = InputPublished old new (with_kind kind known) (with_kind kind left) filled

-- A group was taken of the entries that have come, or nothing.
abbrev pub TakesCome : InputKind → JournalState → JournalState → List Entry → List Entry → Option Gathered → Type 0
TakesCome kind old new come left None = (new ≡ old) × (left ≡ come)
TakesCome kind old new come left (Some gathered) = Takes kind old new (Some come) (Some left) (filled_for gathered)

-- The reason why an input was taken no further. The end of what has come is not the end of the input.
abbrev pub filled_now : Option Gathered → Filled
filled_now None = filled.Full
filled_now (Some Full) = filled.Full
filled_now (Some End) = filled.Full
filled_now (Some (Refused refusal)) = filled.Refused refusal

-- The remaining entries of what has come. At its end there are none.
abbrev pub left_of : Option Gathered → List Entry → List Entry
left_of (Some End) left = []
left_of (Some Full) left = left
left_of (Some (Refused refusal)) left = left
left_of None left = left

-- Why the input is taken no further, if it is. `over` states whether the input has ended and all entries were taken.
abbrev pub stop_at : Option Gathered → Bool → Option Gathered
stop_at None over = None
stop_at (Some Full) over = None
stop_at (Some End) false = None
stop_at (Some End) true = Some End
stop_at (Some (Refused refusal)) over = Some (Refused refusal)

-- The entries are the journal's messages from number `from` on, up to but not including `to`, and then `left`. If they
-- are not known, the relation states nothing.
abbrev pub IsSameTo : JournalState → ℕ → ℕ → Option (List Entry) → Option (List Entry) → Type 0
IsSameTo journal from to None left = ⊤
IsSameTo journal from to (Some entries) None = ⊥
IsSameTo journal from to (Some entries) (Some left) =
    map Ok (take (from - 1) journal.messages) ++ entries ≡ map Ok (take (to - 1) journal.messages) ++ left

-- The entries that have come were compared. At their end, the comparison goes on.
abbrev pub ComparesCome : JournalState → ℕ → ℕ → Option (List Entry) → Option (List Entry) → Compared → Type 0
ComparesCome journal from to known left compared.End = IsSameTo journal from to known left
ComparesCome journal from to known left compared.Same = ComparesAll journal from to known left compared.Same
ComparesCome journal from to known left compared.Differs = ComparesAll journal from to known left compared.Differs
ComparesCome journal from to known left (compared.Refused why) =
    ComparesAll journal from to known left (compared.Refused why)

-- Whether a comparison stopped because there was no further entry.
abbrev pub is_end : Compared → Bool
is_end compared.End = true
is_end compared.Same = false
is_end compared.Differs = false
is_end (compared.Refused why) = false

-- The end of what has come, if a comparison stopped there.
abbrev pub taken_at : Compared → Option Gathered
taken_at compared.End = Some End
taken_at compared.Same = None
taken_at compared.Differs = None
taken_at (compared.Refused why) = None

-- Publishing stops at the end of the input or at a refused entry.
abbrev pub IsStop : Gathered → Type 0
IsStop Full = ⊥
IsStop End = ⊤
IsStop (Refused refusal) = ⊤

-- Why an entry is refused, if publishing stopped there.
abbrev pub refusal_of : Gathered → Option MessageRefusal
refusal_of Full = None
refusal_of End = None
refusal_of (Refused refusal) = Some refusal

-- Whether all messages of the journal were compared.
abbrev pub is_same : Compared → Bool
is_same compared.Same = true
is_same compared.Differs = false
is_same compared.End = false
is_same (compared.Refused why) = false

-- The journal without its end, if it was closed meanwhile.
abbrev pub reopened : JournalState → JournalState → JournalState
reopened old new = record new { closed = old.closed }

-- The messages of the entries were published until the publisher stopped so. `begun` messages came before the first
-- entry of the input.
abbrev pub TakesAfter : InputKind → ℕ → JournalState → JournalState → Option (List Entry) → FeedStop → Type 0
TakesAfter kind begun old new known (stop.Other number found) = ⊥
TakesAfter kind begun old new known (stop.Refused number refusal) =
    (number ≡ length new.messages + 1 - begun)
    × ((left : Option (List Entry)) × Takes kind old new known left (filled.Refused refusal))
TakesAfter kind begun old new known stop.Ended = (left : Option (List Entry)) × Takes kind old new known left filled.End

-- All messages of the journal were compared with the first entries, and the messages of the entries after them were
-- published. The messages were compared as a file has them: `has` states that it has those of the journal.
abbrev pub TakesBehind : Type 0 → InputKind → JournalState → JournalState → Option (List Entry) → FeedStop → Type 0
TakesBehind has kind old new known stop =
    (number : ℕ) × ((mid : Option (List Entry)) × ((has → ComparesAll old 1 number known mid compared.Same)
    × TakesAfter kind 0 old new mid stop))

-- What the loop took of its input until it stopped. The first entries are the messages of the journal, unless the input
-- continues after them. If they are not, nothing was published. `has` states that the file with which the input is
-- compared has the messages of the journal.
abbrev pub TakesInput : Type 0 → Bool → InputKind → JournalState → JournalState → Option (List Entry) → FeedStop →
    Type 0
TakesInput has true kind old new known stop = TakesAfter kind (length old.messages) old new known stop
TakesInput has false kind old new known (stop.Other number found) =
    (new ≡ old) × (((found ≡ compared.Same) → ⊥)
    × ((left : Option (List Entry)) × (has → ComparesAll old 1 number known left found)))
TakesInput has false kind old new known (stop.Refused number refusal) =
    TakesBehind has kind old new known (stop.Refused number refusal)
TakesInput has false kind old new known stop.Ended = TakesBehind has kind old new known stop.Ended

-- Nothing was published.
abbrev pub TakesNothing : JournalState → JournalState → Type 0
TakesNothing old new = new ≡ old

-- The messages of the input before its rest were published.
abbrev pub TakesPart : InputKind → JournalState → Option (List Entry) → JournalState → Type 0
TakesPart kind old known new =
    (left : Option (List Entry)) × ((filled : Filled) × Takes kind old new known left filled)

-- What the loop took of its input before a fault. Nothing was published before all messages of the journal were
-- compared, unless the input continues after them. `has` states that the file with which it is compared has them.
abbrev pub TakesYet : Type 0 → Bool → InputKind → JournalState → Option (List Entry) → JournalState → Type 0
TakesYet has true kind old known new = TakesPart kind old known new
TakesYet has false kind old known new =
    TakesNothing old new
    ⊎ ((number : ℕ)
    × ((mid : Option (List Entry)) × ((has → ComparesAll old 1 number known mid compared.Same)
    × TakesPart kind old mid new)))

-- After the input was published, all messages were sent on the lines.
abbrev pub AllSent : PublisherState → FeedStop → Type 0
AllSent publisher (stop.Other number found) = ⊤
AllSent publisher (stop.Refused number refusal) = length publisher.journal.messages ≤ publisher.sent
AllSent publisher stop.Ended = length publisher.journal.messages ≤ publisher.sent
