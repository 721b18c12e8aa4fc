-- Which refusals and outcomes depend on the bytes of messages.
use Rattle.std.specs.Prelude.{⊤}
use Rattle.mold_rule.specs.declared.refusal.Refusal.{Refusal}
use Rattle.mold_rule.specs.declared.refusal.Refusal.TheVariants.{Conflict}
use Rattle.mold_capture.specs.Outcome.{Outcome, whole, incomplete, refused}

-- The refusal isn't `Conflict`, the only one for which messages are compared.
abbrev pub IsNoConflict : Refusal → Type 0
IsNoConflict (Conflict number) = ⊥
IsNoConflict other = ⊤

-- The datagrams are not refused for a conflict.
abbrev pub IsWithoutConflict : Outcome → Type 0
IsWithoutConflict (whole count) = ⊤
IsWithoutConflict (incomplete missing end) = ⊤
IsWithoutConflict (refused index why) = IsNoConflict why
