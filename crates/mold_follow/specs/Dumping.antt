-- What `dump --follow` prints: for the messages that its follower returned, what `dump` prints for a file that has them.
use Rattle.std.specs.Prelude.{◌≡◌, ℕ, ◌-◌, Bool, true, false, ◌||◌, nat_le, List, [], ◌++◌, length, Option, None, Some}
use Rattle.std.specs.Prelude.{if◌then◌else◌}
use Rattle.std.specs.Io.KnownBytes.{Appends}
use Rattle.mold_devices.specs.Devices.{AppendsPrefix}
use Rattle.mold_devices.specs.declared.fault.CommandFault.{CommandFault}
use Rattle.mold_devices.specs.declared.fault.CommandFault.TheVariants as command
use Rattle.mold_durable.specs.Follower.{FollowerState, Follows}
use Rattle.mold_durable.specs.Following.{AllWithin, Writer, Writes}
use Rattle.mold_follow.specs.declared.looked.Looked.{Looked}
use Rattle.mold_follow.specs.declared.looked.Looked.TheVariants.{Ended, Paused, Stopped}
use Rattle.mold_session.specs.declared.error.FileError.{FileError}
use Rattle.mold_show.specs.Dump.{dump_fault, dumped, fault_status, fault_text, has_unprintable, last_text, messages_text}
use Rattle.mold_show.specs.Dump.{printed, reaches_end}
use Rattle.mold_show.specs.declared.dump_options.DumpOptions.{DumpOptions}

-- What an output has before and after, if that is known.
abbrev pub Outputs : Type 0
Outputs = Option (List ℕ) × Option (List ℕ)

-- ---- the text

-- A dump is over after `total` messages if the journal is closed, or if `count` of them are from number `from` on.
abbrev pub is_over : DumpOptions → Bool → ℕ → Bool
is_over options closed total = closed || nat_le options.count (total - (options.from - 1))

-- The text of a dump that ended after these messages, with this fault of the file if there is one. It is that of `dump`
-- for a file with these messages and this fault.
abbrev pub followed_text : DumpOptions → List (List ℕ) → Option FileError → Bool → List ℕ
followed_text options messages fault closed =
    messages_text options.format (printed options messages)
    ++ last_text options.format (dump_fault options messages fault) (reaches_end options closed (length messages))

-- A dump ended after these messages with this status: at a fault of the file, at an empty message that cannot be
-- printed, or because it was over.
pub record EndsAfter (options : DumpOptions) (messages : List (List ℕ)) (fault : Option FileError) (closed : Bool)
    (status : ℕ) (output errors : Outputs) : Type 0 where
  pub text : Appends output.0 output.1 (followed_text options messages fault closed)
  pub report : Appends errors.0 errors.1 (fault_text options.format (dump_fault options messages fault))
  pub ended : status ≡ fault_status (dump_fault options messages fault)
  pub over : status ≡ 0 → is_over options closed (length messages) ≡ true

-- All messages that are asked for of these are written, and nothing else.
pub record GoesOn (options : DumpOptions) (messages : List (List ℕ)) (output errors : Outputs) : Type 0 where
  pub printable : has_unprintable options.format (dumped options messages) ≡ false
  pub text : Appends output.0 output.1 (messages_text options.format (dumped options messages))
  pub quiet : errors.1 ≡ errors.0

-- A fault ended a dump after these messages. A prefix of the text for them was written. If a read failed, all of it was.
pub record BreaksAfter (options : DumpOptions) (messages : List (List ℕ)) (fault : CommandFault) (output : Outputs) :
    Type 0 where
  pub error : Option FileError
  pub closed : Bool
  pub front : AppendsPrefix output.0 output.1 (followed_text options messages error closed)
  pub whole : fault ≡ command.Read → Appends output.0 output.1 (messages_text options.format (printed options messages))

-- ---- one look

-- What follows the messages of a look: the mark of the end if the dump is over and reaches it.
abbrev pub mark_of : DumpOptions → Bool → ℕ → List ℕ
mark_of options closed total =
    if is_over options closed total then last_text options.format None (reaches_end options closed total) else []

-- What a look at the file left, after which these are all messages.
abbrev pub LeavesAfter : DumpOptions → List (List ℕ) → Option FileError → Bool → Outputs → Outputs → Looked → Type 0
LeavesAfter options messages fault closed output errors (Ended status) =
    EndsAfter options messages fault closed status output errors
LeavesAfter options messages fault closed output errors Paused = GoesOn options messages output errors
LeavesAfter options messages fault closed output errors Stopped = GoesOn options messages output errors

-- If the file is that of a writer whose journal begins with these messages, and whose messages the follower allows, it
-- has no fault.
abbrev pub IsProper : {F : Type 0} → (F → (ℕ → List ℕ) → Type 0) → (F → ℕ) → FollowerState F → List (List ℕ) →
    Option FileError → Type 0
IsProper history synced follower messages fault =
    (writer : Writer) (bytes : ℕ → List ℕ) → Writes writer bytes → AllWithin follower.max_message writer →
    Follows history synced writer bytes follower messages → fault ≡ None

-- A look at the file and what it left. If the file has a fault, the look returned no message.
pub record Looks {F : Type 0} (history : F → (ℕ → List ℕ) → Type 0) (synced : F → ℕ) (options : DumpOptions)
    (old new : FollowerState F) (told : List (List ℕ)) (output errors : Outputs) (looked : Looked) : Type 0 where
  pub fault : Option FileError
  pub proper : IsProper history synced old told fault
  pub left : LeavesAfter options (told ++ new.news) fault new.closed output errors looked

-- ---- all looks

-- The follower was opened as `old`, and has returned these messages since. If its file is that of a writer, it follows
-- the writer's journal.
pub record Returned {F : Type 0} (history : F → (ℕ → List ℕ) → Type 0) (synced : F → ℕ) (old new : FollowerState F)
    (messages : List (List ℕ)) : Type 0 where
  pub longest : new.max_message ≡ old.max_message
  pub follows : (writer : Writer) (bytes : ℕ → List ℕ) → Writes writer bytes →
      Follows history synced writer bytes old [] → Follows history synced writer bytes new messages

-- How a dump ended after these messages, or that it goes on.
abbrev pub EndsOrGoesOn : DumpOptions → List (List ℕ) → Option FileError → Bool → Outputs → Outputs → Option ℕ → Type 0
EndsOrGoesOn options messages fault closed output errors (Some status) =
    EndsAfter options messages fault closed status output errors
EndsOrGoesOn options messages fault closed output errors None = GoesOn options messages output errors

-- What a dump of some looks printed, and the status with which it ended. `None` is a dump that goes on.
pub record FollowsToEnd {F : Type 0} (history : F → (ℕ → List ℕ) → Type 0) (synced : F → ℕ) (options : DumpOptions)
    (old new : FollowerState F) (output errors : Outputs) (ended : Option ℕ) : Type 0 where
  pub messages : List (List ℕ)
  pub returned : Returned history synced old new messages
  pub fault : Option FileError
  pub proper : IsProper history synced old [] fault
  pub left : EndsOrGoesOn options messages fault new.closed output errors ended

-- What a dump that a fault ended printed. The messages are those that the follower returned.
pub record FollowsToFault {F : Type 0} (history : F → (ℕ → List ℕ) → Type 0) (synced : F → ℕ) (options : DumpOptions)
    (old new : FollowerState F) (output : Outputs) (fault : CommandFault) : Type 0 where
  pub messages : List (List ℕ)
  pub returned : Returned history synced old new messages
  pub broken : BreaksAfter options messages fault output
