-- The counts of a datagram do not depend on the order in which they are changed.
use Rattle.std.proofs.Common.{◌≡◌, ℕ, ◌+◌, Bool, true, false, cond, refl}
use Rattle.std.specs.Io.Iter.{u64_saturate}
use Rattle.std.specs.Prelude.{None, Option, Some}
use Rattle.mold_receiver.specs.declared.line.Line.TheVariants.{A, B}
use Rattle.mold_receiver.specs.declared.taken.Taken.{Taken}
use Rattle.mold_repair.specs.Stats.{counted_contradiction, counted_taken, is_useless}
use Rattle.mold_repair.specs.declared.origin.RepairOrigin.{RepairOrigin}
use Rattle.mold_repair.specs.declared.origin.RepairOrigin.TheVariants.{Line, Server}
use Rattle.mold_repair.specs.declared.stats.RepairCounts.{RepairCounts}

abbrev told : ℕ → RepairCounts → RepairCounts
told number c = counted_contradiction (Some number) c

again_on_a : (b : Bool) (number : ℕ) (c : RepairCounts) →
    cond b (record (told number c) { again_a = u64_saturate (c.again_a + 1) }) (told number c)
    ≡ told number (cond b (record c { again_a = u64_saturate (c.again_a + 1) }) c)
again_on_a true number c = refl
again_on_a false number c = refl

again_on_b : (b : Bool) (number : ℕ) (c : RepairCounts) →
    cond b (record (told number c) { again_b = u64_saturate (c.again_b + 1) }) (told number c)
    ≡ told number (cond b (record c { again_b = u64_saturate (c.again_b + 1) }) c)
again_on_b true number c = refl
again_on_b false number c = refl

answered : (b : Bool) (number : ℕ) (c : RepairCounts) →
    cond b (record (told number c) { answers = u64_saturate (c.answers + 1); useless = u64_saturate (c.useless + 1) })
    (record (told number c) { answers = u64_saturate (c.answers + 1) })
    ≡ told number (cond b (record c { answers = u64_saturate (c.answers + 1); useless = u64_saturate (c.useless + 1) })
    (record c { answers = u64_saturate (c.answers + 1) }))
answered true number c = refl
answered false number c = refl

-- A contradiction and the datagram may be counted in either order.
pub counted_either : (origin : RepairOrigin) (taken : Taken) (found : Option ℕ) (c : RepairCounts) →
    counted_taken origin taken (counted_contradiction found c) ≡ counted_contradiction found (counted_taken origin taken c)
counted_either origin taken None c = refl
counted_either (Line A) taken (Some number) c = again_on_a (is_useless taken) number c
counted_either (Line B) taken (Some number) c = again_on_b (is_useless taken) number c
counted_either (Server server) taken (Some number) c = answered (is_useless taken) number c
