use Rattle.std.proofs.Common.{◌≡◌, ℕ, ◌<◌, List, subst, arith}
use Rattle.std.specs.Prelude.{Result, Ok, Err, OnOk}
use Rattle.std.specs.Io.KnownBytes.{Appends}
use Rattle.mold_devices.specs.Devices.{Counts}
use Rattle.mold_wiring.proofs.ending.print_fault.Goals as goal

-- a result whose count of failures did not rise is no failure
unless_failed : {T E : Type 0} (old new : ℕ) (r : Result T E) (P : Type 0) → OnOk r P → Counts old new r →
    old < 18446744073709551615 → new ≡ old → P
unless_failed old new (Ok x) P ok counts few same = ok
unless_failed old new (Err x) P ok counts few same = absurd (omega (arith, counts, same, few))

pub returns-clause-told : goal.returns-clause-told
returns-clause-told g c = λ few same.
    subst (λ (t : List ℕ). Appends (g.K.Sink.held c.args.sink.now) (g.K.Sink.held c.write_all.new.sink) t) c.as_bytes.ensures.value
    (unless_failed _ _ c.write_all.result _ c.write_all.ensures.whole c.write_all.ensures.failures few same)
