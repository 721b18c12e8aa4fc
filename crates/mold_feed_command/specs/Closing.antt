-- What `mold close` prints, and what the journal has after it.
use Rattle.std.specs.Prelude.{◌≡◌, ◌⊎◌, ℕ, Bool, true, false, List, [], ◌∷◌, codes, decimal, Result, Ok, Err}
use Rattle.std.specs.Prelude.{Option}
use Rattle.std.specs.Io.KnownBytes.{Appends}
use Rattle.mold_devices.specs.Devices.{AppendsPrefix, one_more}
use Rattle.mold_devices.specs.declared.fault.CommandFault.{CommandFault}
use Rattle.mold_devices.specs.declared.fault.CommandFault.TheVariants.{Memory, Read, Write}
use Rattle.mold_durable.specs.DurableJournal.{DurableState}
use Rattle.mold_text.specs.Line.{line_of}
use Rattle.mold_text.specs.Text.{refused_line}

-- The line for a journal: the number of its messages, or the refusal of one that is closed already.
abbrev pub close_text : Bool → ℕ → List ℕ
close_text false count = line_of (codes "closed" ∷ decimal count ∷ [])
close_text true count = refused_line (codes "Closed" ∷ [])

-- The status for a journal that is open, or closed already.
abbrev pub close_status : Bool → ℕ
close_status false = 0
close_status true = 2

-- How the command ends for an opened journal. `failed` counts the failures of its storage, and `sink_failed` those of
-- the sink, whose known bytes are `held`.
abbrev pub EndsClose : {S K : Type 0} → (failed : S → ℕ) → (held : K → Option (List ℕ)) → (sink_failed : K → ℕ) →
    (old new : DurableState S) → (sink_old sink_new : K) → Result ℕ CommandFault → Type 0
-- The line is printed, and the journal is closed.
EndsClose failed held sink_failed old new sink_old sink_new (Ok status) =
    (status ≡ close_status old.closed) × (new.closed ≡ true)
    × Appends (held sink_old) (held sink_new) (close_text old.closed old.committed)
    × (failed new.storage ≡ failed old.storage) × (sink_failed sink_new ≡ sink_failed sink_old)
-- An allocation failed before the journal was closed.
EndsClose failed held sink_failed old new sink_old sink_new (Err Memory) = (new ≡ old) × (sink_new ≡ sink_old)
-- The storage failed, and nothing is printed. Or the journal is closed, and the sink failed.
EndsClose failed held sink_failed old new sink_old sink_new (Err Write) =
    ((sink_new ≡ sink_old) × (failed new.storage ≡ one_more (failed old.storage)))
    ⊎ ((new.closed ≡ true) × AppendsPrefix (held sink_old) (held sink_new) (close_text old.closed old.committed)
    × (sink_failed sink_new ≡ one_more (sink_failed sink_old)))
EndsClose failed held sink_failed old new sink_old sink_new (Err Read) = ⊥
