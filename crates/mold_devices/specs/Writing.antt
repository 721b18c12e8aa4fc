-- What is written of a text, and what a command writes before it ends with a fault.
use Rattle.std.specs.Prelude.{◌≡◌, ◌⊎◌, ℕ, List, ◌++◌, Option}
use Rattle.std.specs.Io.KnownBytes.{Appends}
use Rattle.mold_devices.specs.Devices.{AppendsPrefix, one_more}
use Rattle.mold_devices.specs.declared.fault.CommandFault.{CommandFault}
use Rattle.mold_devices.specs.declared.fault.CommandFault.TheVariants.{Write}

-- A prefix of `text` was written, and `left` is the rest.
pub record Moves (old new : Option (List ℕ)) (text left : List ℕ) : Type 0 where
  -- The text that was written.
  pub front : List ℕ
  pub parts : text ≡ front ++ left
  pub appended : Appends old new front

-- A command that met the fault `met` writes its text. It ends with the fault `last`: `met` if the write succeeds,
-- `Write` if it fails after a prefix of the text. The two numbers are the sink's counts of failures before and after.
abbrev pub EndsWith : CommandFault → CommandFault → Option (List ℕ) → Option (List ℕ) → List ℕ → ℕ → ℕ → Type 0
EndsWith met last old new text failed_old failed_new =
    ((last ≡ met) × (Appends old new text × (failed_new ≡ failed_old)))
    ⊎ ((last ≡ Write) × (AppendsPrefix old new text × (failed_new ≡ one_more failed_old)))
