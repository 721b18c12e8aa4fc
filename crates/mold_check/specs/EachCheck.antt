-- What a check of several sessions finds and prints. Each session is judged by itself.
use Rattle.std.specs.Prelude.{ℕ, ◌||◌, Bool, true, false, min, max, List, [], ◌∷◌, ◌++◌, length, map, codes, decimal, Option}
use Rattle.std.specs.Prelude.{None, Some, Result, Ok, Err}
use Rattle.std.specs.List.{filter, flat_map}
use Rattle.std.specs.Str.{bytes_eq}
use Rattle.hex.specs.Hex.{encode_lower}
use Rattle.mold_capture.specs.Outcome.{Outcome}
use Rattle.mold_devices.specs.Devices.{one_more}
use Rattle.mold_text.specs.Line.{line_of}
use Rattle.mold_wire.specs.Reading.{reading}
use Rattle.mold_wire.specs.declared.error.DecodeError.{DecodeError}
use Rattle.mold_wire.specs.declared.limits.TheConstants.{MAX_NUMBER}
use Rattle.mold_wire.specs.declared.packet.Packet.{Packet}
use Rattle.mold_wire.specs.declared.session.Session.{Session}
use Rattle.mold_check.specs.CheckLines.{outcome_of}
use Rattle.mold_check.specs.Groups.{distinct, stepped}
use Rattle.mold_check.specs.Judge.{Judging}
use Rattle.mold_check.specs.Report.{outcome_status, outcome_text}
use Rattle.mold_check.specs.declared.session_key.SessionKey.{SessionKey}

-- The session of a decoded datagram. Bytes that do not encode a packet have none.
abbrev pub key_read : Result Packet DecodeError → SessionKey
key_read (Ok packet) = record { session = Some packet.session }
key_read (Err fault) = record { session = None }

-- The session that a datagram belongs to. Bytes that do not encode a packet belong to none.
abbrev pub key_of : List ℕ → SessionKey
key_of bytes = key_read (reading bytes)

-- Two names are equal, or both are missing.
abbrev pub same_name : Option Session → Option Session → Bool
same_name None None = true
same_name (Some one) (Some other) = bytes_eq one.0 other.0
same_name None (Some other) = false
same_name (Some one) None = false

-- Two sessions are equal, or both are missing.
unfoldable pub same_key : SessionKey → SessionKey → Bool
same_key one other = same_name one.session other.session

-- ---- the text, as a function of all datagrams

-- The sessions of numbered datagrams, each of them once, in the order of their first appearance. Bytes that do not
-- encode a packet count as one more session.
abbrev pub sessions_of : List (ℕ × List ℕ) → List SessionKey
sessions_of list = distinct same_key (map (λ datagram. key_of datagram.1) list)

-- The datagrams of a session.
unfoldable pub of_session : SessionKey → List (ℕ × List ℕ) → List (ℕ × List ℕ)
of_session key list = filter (λ datagram. same_key (key_of datagram.1) key) list

-- The outcome of the datagrams of a session.
abbrev pub session_outcome : List (ℕ × List ℕ) → SessionKey → Outcome
session_outcome list key = outcome_of (map (λ datagram. datagram.1) (of_session key list))

-- The line with the name of a session.
abbrev pub session_line : Session → List ℕ
session_line session = line_of (codes "session" ∷ encode_lower session.0 ∷ [])

-- The lines of the datagrams that do not encode a packet, of which there are this many.
abbrev pub none_text : ℕ → List ℕ
none_text count =
    line_of (codes "session" ∷ codes "none" ∷ []) ++ line_of (codes "refused" ∷ decimal count ∷ [])

-- The lines of a session: its name, and the outcome of its datagrams. The first argument names a datagram by its number.
-- Of the datagrams that do not encode a packet, the number is printed. It stops at `MAX_NUMBER`.
abbrev pub session_text_by : (ℕ → List ℕ) → List (ℕ × List ℕ) → Outcome → Option Session → List ℕ
session_text_by names own outcome None = none_text (min (length own) MAX_NUMBER)
session_text_by names own outcome (Some session) =
    session_line session ++ outcome_text (map (λ datagram. names datagram.0) own) outcome

-- The same of a session of these datagrams.
abbrev pub session_text : (ℕ → List ℕ) → List (ℕ × List ℕ) → SessionKey → List ℕ
session_text names list key = session_text_by names (of_session key list) (session_outcome list key) key.session

-- The exit status for a session. For datagrams that do not encode a packet it is that of a refusal.
abbrev pub session_status_by : Outcome → Option Session → ℕ
session_status_by outcome None = 2
session_status_by outcome (Some session) = outcome_status outcome

-- The same of a session of these datagrams.
abbrev pub session_status : List (ℕ × List ℕ) → SessionKey → ℕ
session_status list key = session_status_by (session_outcome list key) key.session

-- What is printed of all datagrams.
abbrev pub sessions_text : (ℕ → List ℕ) → List (ℕ × List ℕ) → List ℕ
sessions_text names list = flat_map (session_text names list) (sessions_of list)

-- The greatest number of a list, or 0.
abbrev pub greatest : List ℕ → ℕ
greatest [] = 0
greatest (number ∷ numbers) = max number (greatest numbers)

-- The exit status of sessions that have these: the greatest. Without a session it is 1, since nothing is whole: a check
-- of no datagram has this status too.
abbrev pub greatest_status : List ℕ → ℕ
greatest_status [] = 1
greatest_status (status ∷ others) = greatest (status ∷ others)

-- The exit status for all datagrams.
abbrev pub sessions_status : List (ℕ × List ℕ) → ℕ
sessions_status list = greatest_status (map (session_status list) (sessions_of list))

-- ---- the state

-- The states of the sessions, in the order of first appearance, and the number of datagrams that do not encode a packet.
-- They are one of the sessions, whose state is not printed.
pub record EachState (S : Type 0) : Type 0 where
  pub entries : List (SessionKey × S)
  pub refused : ℕ

-- The states of the sessions after one more datagram of this session.
abbrev pub entries_added : {S : Type 0} → Judging S → List (SessionKey × S) → SessionKey → ℕ → List ℕ →
    List (SessionKey × S)
entries_added judging entries key number bytes =
    stepped same_key judging.begins (λ s. judging.added s number bytes) entries key

-- The number of datagrams that do not encode a packet, with one more datagram of this session.
abbrev pub more_refused : Option Session → ℕ → ℕ
more_refused None count = one_more count
more_refused (Some session) count = count

-- The state after one more datagram.
abbrev pub each_added : {S : Type 0} → Judging S → EachState S → ℕ → List ℕ → EachState S
each_added judging s number bytes = record {
  entries = entries_added judging s.entries (key_of bytes) number bytes;
  refused = more_refused (key_of bytes).session s.refused;
}

-- What is printed of a session in this state.
abbrev pub entry_text_by : {S : Type 0} → Judging S → (ℕ → List ℕ) → ℕ → Option Session → S → List ℕ
entry_text_by judging names refused None s = none_text refused
entry_text_by judging names refused (Some session) s = session_line session ++ judging.text names s

-- The same of an entry.
abbrev pub entry_text : {S : Type 0} → Judging S → (ℕ → List ℕ) → ℕ → SessionKey × S → List ℕ
entry_text judging names refused entry = entry_text_by judging names refused entry.0.session entry.1

-- What is printed of all sessions.
abbrev pub entries_text : {S : Type 0} → Judging S → (ℕ → List ℕ) → ℕ → List (SessionKey × S) → List ℕ
entries_text judging names refused entries = flat_map (entry_text judging names refused) entries

-- The same of a state.
abbrev pub each_text : {S : Type 0} → Judging S → (ℕ → List ℕ) → EachState S → List ℕ
each_text judging names s = entries_text judging names s.refused s.entries

-- The exit status for a session in this state.
abbrev pub entry_status_by : {S : Type 0} → Judging S → Option Session → S → ℕ
entry_status_by judging None s = 2
entry_status_by judging (Some session) s = judging.status s

-- The statuses of all sessions.
abbrev pub entries_statuses : {S : Type 0} → Judging S → List (SessionKey × S) → List ℕ
entries_statuses judging entries = map (λ entry. entry_status_by judging entry.0.session entry.1) entries

-- Whether a session in this state is whole. Datagrams that do not encode a packet are no whole session.
abbrev pub entry_whole : {S : Type 0} → Judging S → Option Session → S → Bool
entry_whole judging None s = false
entry_whole judging (Some session) s = judging.whole s

-- Whether some session is whole.
abbrev pub some_whole : {S : Type 0} → Judging S → List (SessionKey × S) → Bool
some_whole judging [] = false
some_whole judging (entry ∷ entries) =
    entry_whole judging entry.0.session entry.1 || some_whole judging entries

-- What a check of each session by itself finds and prints. No refusal ends it. If a later part of the input is refused,
-- the sessions before it are printed.
abbrev pub each_judging : {S : Type 0} → Judging S → Judging (EachState S)
each_judging judging = record {
  begins = record { entries = []; refused = 0 };
  added = each_added judging;
  decided = λ s. false;
  text = each_text judging;
  early = each_text judging;
  status = λ s. greatest_status (entries_statuses judging s.entries);
  whole = λ s. some_whole judging s.entries;
}

-- The state of a judge after these datagrams.
unfoldable pub all_judged : {S : Type 0} → Judging S → S → List (ℕ × List ℕ) → S
all_judged judging s [] = s
all_judged judging s (datagram ∷ list) = all_judged judging (judging.added s datagram.0 datagram.1) list

-- The datagrams, each with its number, of which the first has this one. The numbers stop at `MAX_NUMBER`.
unfoldable pub with_numbers : ℕ → List (List ℕ) → List (ℕ × List ℕ)
with_numbers number [] = []
with_numbers number (bytes ∷ list) = (number, bytes) ∷ with_numbers (one_more number) list
