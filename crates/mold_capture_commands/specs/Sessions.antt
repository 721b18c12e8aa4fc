-- What `mold sessions --capture` prints for its files.
use Rattle.std.specs.Prelude.{ℕ, List, [], ◌∷◌, ◌++◌, map, codes, decimal, Option, None, Some, if◌then◌else◌}
use Rattle.std.specs.List.{flat_map}
use Rattle.hex.specs.Hex.{encode_lower}
use Rattle.mold_frame.specs.Carried.{Datagram}
use Rattle.mold_frame.specs.IpAddress.{address_bytes}
use Rattle.mold_text.specs.Line.{line_of}
use Rattle.mold_wire.specs.declared.session.Session.{Session}
use Rattle.mold_capture_commands.specs.Address.{endpoint_text}
use Rattle.mold_capture_commands.specs.Captures.{counts_of, faults_text, founds_of, has_fault}
use Rattle.mold_capture_commands.specs.Checking.{CaptureFile}
use Rattle.mold_capture_commands.specs.Counts.{others_text}
use Rattle.mold_capture_commands.specs.Filter.{Found, Passed, Skipped, Partial, Unread}
use Rattle.mold_capture_commands.specs.Pairs.{distinct, pair_of, readings_of, tally_of}
use Rattle.mold_capture_commands.specs.declared.filter.CaptureFilter.{CaptureFilter}
use Rattle.mold_capture_commands.specs.declared.pair.Pair.{Pair}
use Rattle.mold_capture_commands.specs.declared.pair_tally.PairTally.{PairTally}

-- A datagram that passes, followed by others.
abbrev pub datagram_before : Found → List Datagram → List Datagram
datagram_before (Passed datagram) others = datagram ∷ others
datagram_before Skipped others = others
datagram_before Partial others = others
datagram_before Unread others = others

-- The datagrams that pass.
unfoldable pub datagrams : List Found → List Datagram
datagrams [] = []
datagrams (found ∷ list) = datagram_before found (datagrams list)

-- The datagrams that pass, in all files.
abbrev pub datagrams_of : CaptureFilter → List CaptureFile → List Datagram
datagrams_of filter files = datagrams (founds_of filter files)

-- A number that may be missing.
abbrev pub number_or_none : Option ℕ → List ℕ
number_or_none None = codes "none"
number_or_none (Some number) = decimal number

-- The end of the line of a pair with a session.
abbrev pub tally_words : PairTally → List (List ℕ)
tally_words tally =
    codes "datagrams" ∷ decimal tally.datagrams
    ∷ codes "messages" ∷ number_or_none tally.first ∷ number_or_none tally.last
    ∷ codes "heartbeats" ∷ decimal tally.heartbeats
    ∷ codes "end" ∷ number_or_none tally.end ∷ []

-- The line of a pair after its destination: of the datagrams of a session, or of those that do not encode a packet.
abbrev pub session_words : Option Session → PairTally → List (List ℕ)
session_words None tally = codes "none" ∷ codes "refused" ∷ decimal tally.datagrams ∷ []
session_words (Some session) tally = encode_lower session.0 ∷ tally_words tally

-- The line of a pair.
abbrev pub pair_text : Pair → PairTally → List ℕ
pair_text pair tally = line_of (
    codes "to" ∷ endpoint_text (address_bytes pair.target) pair.port
    ∷ codes "session" ∷ session_words pair.session tally)

-- The lines of the pairs of a list of datagrams.
abbrev pub pairs_text : List Datagram → List ℕ
pairs_text list = flat_map (λ pair. pair_text pair (tally_of (readings_of pair list))) (distinct (map pair_of list))

-- What is printed for the files: the lines of the pairs, the counts of the other frames, and the lines of the files at
-- fault.
abbrev pub sessions_text : CaptureFilter → List CaptureFile → List ℕ
sessions_text filter files =
    pairs_text (datagrams_of filter files)
    ++ (others_text (counts_of (founds_of filter files)) ++ faults_text files)

-- The exit status: 2 if a file is at fault, otherwise 0.
abbrev pub sessions_status : List CaptureFile → ℕ
sessions_status files = if has_fault files then 2 else 0
