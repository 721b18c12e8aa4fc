-- The lines about refused datagrams, and how often they are printed.
use Rattle.std.specs.Prelude.{ℕ, ◌+◌, ◌*◌, Bool, true, false, ◌||◌, not, nat_le, List, [], ◌∷◌, ◌++◌, codes, decimal, min, take}
use Rattle.std.specs.Prelude.{Option, None, Some, if◌then◌else◌, slice_get, slice_set}
use Rattle.hex.specs.Hex.{encode_lower}
use Rattle.mold_receive.specs.declared.refusal_limit.RefusalLimit.{RefusalLimit}
use Rattle.mold_receive.specs.declared.receive_options.TheConstants.{MOST_PORTS, SECOND}
use Rattle.mold_receive.specs.declared.refusal_limit.TheConstants.{REASONS}
use Rattle.mold_receiver.specs.declared.line.Line.{Line as TheLine}
use Rattle.mold_receiver.specs.declared.line.Line.TheVariants.{A, B}
use Rattle.mold_repair.specs.declared.origin.RepairOrigin.{RepairOrigin}
use Rattle.mold_repair.specs.declared.origin.RepairOrigin.TheVariants.{Line, Server}
use Rattle.mold_rule.specs.declared.refusal.Refusal.{Refusal}
use Rattle.mold_rule.specs.declared.refusal.Refusal.TheVariants.{Malformed, WrongSession, SequenceZero, PastLast}
use Rattle.mold_rule.specs.declared.refusal.Refusal.TheVariants.{EndConflict, EndBelow, PastEnd, Conflict, Memory}
use Rattle.mold_text.specs.Line.{line_of}
use Rattle.mold_text.specs.Text.{refusal_words}
use Rattle.mold_wire.specs.declared.session.TheConstants.{SESSION_LENGTH}

-- The name of a line.
abbrev pub line_name : TheLine → List ℕ
line_name A = codes "a"
line_name B = codes "b"

-- The words for where a datagram arrived: a line, or a server, counted from 1.
abbrev pub origin_words : RepairOrigin → List (List ℕ)
origin_words (Line line) = line_name line ∷ []
origin_words (Server server) = codes "server" ∷ decimal (server + 1) ∷ []

-- Whether this is the refusal of a datagram of another session.
abbrev pub is_foreign : Refusal → Bool
is_foreign WrongSession = true
is_foreign why = false

-- The words for the reason of a refusal. After `WrongSession`, the session of the datagram follows.
abbrev pub reason_words : Refusal → List ℕ → List (List ℕ)
reason_words why bytes =
    if is_foreign why then codes "WrongSession" ∷ encode_lower (take SESSION_LENGTH bytes) ∷ [] else refusal_words why

-- The line about a refused datagram.
abbrev pub refused_from : RepairOrigin → Refusal → List ℕ → List ℕ
refused_from origin why bytes = line_of (codes "refused" ∷ origin_words origin ++ reason_words why bytes)

-- The index of a reason.
abbrev pub reason_index : Refusal → ℕ
reason_index (Malformed fault) = 0
reason_index WrongSession = 1
reason_index SequenceZero = 2
reason_index PastLast = 3
reason_index (EndConflict end) = 4
reason_index (EndBelow known) = 5
reason_index (PastEnd end) = 6
reason_index (Conflict number) = 7
reason_index Memory = 8

-- The index of an origin: 0 and 1 for the lines, and then those of the servers.
abbrev pub origin_index : RepairOrigin → ℕ
origin_index (Line A) = 0
origin_index (Line B) = 1
origin_index (Server server) = server + 2

-- The index of an origin and a reason. There are at most `MOST_PORTS` origins.
abbrev pub slot_of : RepairOrigin → Refusal → ℕ
slot_of origin why = min (origin_index origin) MOST_PORTS * REASONS + reason_index why

-- Whether there is a flag, and it is not set.
abbrev pub is_unset : Option Bool → Bool
is_unset None = false
is_unset (Some flag) = not flag

-- Whether no line was printed for this origin and this reason.
abbrev pub is_first : RefusalLimit → RepairOrigin → Refusal → Bool
is_first limit origin why = is_unset (slice_get limit.printed (slot_of origin why))

-- Whether a line about a refusal may be printed at the time `now`.
abbrev pub may_print : RefusalLimit → RepairOrigin → Refusal → ℕ → Bool
may_print limit origin why now = is_first limit origin why || nat_le limit.from now

-- The limit after a line was printed at the time `now`.
abbrev pub after_line : RefusalLimit → RepairOrigin → Refusal → ℕ → RefusalLimit
after_line limit origin why now = record {
  printed = slice_set limit.printed (slot_of origin why) true;
  from = now + SECOND;
}
