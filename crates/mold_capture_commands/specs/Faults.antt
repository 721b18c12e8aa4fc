-- The lines of files at fault.
use Rattle.std.specs.Prelude.{ℕ, List, [], ◌∷◌, codes, decimal, Option, None, Some, ⊤}
use Rattle.mold_devices.specs.declared.fault.ReadFault.{ReadFault}
use Rattle.mold_devices.specs.declared.fault.ReadFault.TheVariants.{Read, Memory}
use Rattle.mold_pcap.specs.declared.fault.CaptureFault.{CaptureFault}
use Rattle.mold_pcap.specs.declared.fault.CaptureFault.TheVariants.{Cut, TooLong, BadBlock, NoInterface, NoCapture}
use Rattle.mold_text.specs.Line.{line_of}

-- What holds if a read failed.
abbrev pub OnRead : ReadFault → Type 0 → Type 0
OnRead Read statement = statement
OnRead Memory statement = ⊤

-- The line of a file whose part at this byte is at fault.
abbrev pub at_text : List ℕ → List ℕ → ℕ → List ℕ
at_text name fault at = line_of (codes "capture" ∷ name ∷ fault ∷ decimal at ∷ [])

-- The line of the file with this name, which can't be read from this byte on.
abbrev pub unread_text : List ℕ → ℕ → List ℕ
unread_text name at = at_text name (codes "Unread") at

-- The line of the file with this name, if it is at fault.
abbrev pub fault_text : List ℕ → Option CaptureFault → List ℕ
fault_text name None = []
fault_text name (Some (Cut at)) = at_text name (codes "Cut") at
fault_text name (Some (TooLong at)) = at_text name (codes "TooLong") at
fault_text name (Some (BadBlock at)) = at_text name (codes "BadBlock") at
fault_text name (Some (NoInterface at)) = at_text name (codes "NoInterface") at
fault_text name (Some NoCapture) = line_of (codes "capture" ∷ name ∷ codes "NoCapture" ∷ [])
