-- How a datagram that is sent joins the datagrams that were sent before.
use Rattle.std.specs.Prelude.{◌≡◌, ℕ, List, [], ◌∷◌, ◌++◌, length, Bool, true, false, Option, None, Some}
use Rattle.mold_wire.specs.Packet.{spelling_of}
use Rattle.mold_wire.specs.declared.packet.Packet.{Packet}
use Rattle.mold_world.specs.declared.report.Report.{Report}
use Rattle.mold_world.specs.declared.report.Report.TheVariants as report

-- The sent datagrams after one more is sent, if there is one.
abbrev pub stored : List (List ℕ) → Option (List ℕ) → List (List ℕ)
stored sent None = sent
stored sent (Some bytes) = sent ++ bytes ∷ []

-- The report of sending a datagram, if there is one.
abbrev pub stored_report : List (List ℕ) → Option (List ℕ) → Report
stored_report sent None = report.Nothing
stored_report sent (Some bytes) = report.Sent (length sent)

-- Either the first of the packets was sent and the others remain, or there was no packet to send.
abbrev pub SendsFirst : Bool → List (List ℕ) → List Packet → List (List ℕ) → List Packet → Type 0
SendsFirst true sent packets now left =
    (packet : Packet) × (packets ≡ packet ∷ left) × (now ≡ sent ++ spelling_of packet ∷ [])
SendsFirst false sent packets now left = (packets ≡ []) × (now ≡ sent)
