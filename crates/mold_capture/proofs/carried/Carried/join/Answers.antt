use Rattle.std.proofs.Common.{◌≡◌, ◌+◌, length, None, ap, subst, arith}
use Rattle.mold_rule.specs.Refusals.{conflict_at}
use Rattle.mold_capture.specs.Refusal.{conflict}
use Rattle.mold_capture.specs.Runs.{AreFree}
use Rattle.mold_capture.specs.Seen.{Pairs, BringNew}
use Rattle.mold_capture.proofs.KeepLemmas.{free_brings, free_conflict, memory_told, always_memory, always_ok}
use Rattle.mold_capture.proofs.carried.Carried.join.Goals as goal

pub add_all-requires-clause-free : goal.add_all-requires-clause-free
add_all-requires-clause-free c = λ f run number has covers low high.
    c.is_free.ensures c.if-is_free.true f run number has covers low (omega (arith, c.from.ensures, c.len.ensures.length))

none : (c : goal.After-add_all) → conflict c.args.self.now c.args.first c.args.blocks.now ≡ None
none c =
    let free : AreFree c.self.inside.runs c.args.first (c.args.first + length c.args.blocks.now) =
    λ f run number has covers low high.
    c.is_free.ensures c.if-is_free.true f run number has covers low (omega (arith, c.from.ensures, c.len.ensures.length))
    in
    subst (λ (p : Pairs). conflict p c.args.first c.args.blocks.now ≡ None) c.self.view_is
    (free_conflict c.self.inside.runs c.self.inside.kept c.self.invariant c.args.first c.args.blocks.now free)

pub returns-then-is_free-clause-new : goal.returns-then-is_free-clause-new
returns-then-is_free-clause-new c =
    let free : AreFree c.self.inside.runs c.args.first (c.args.first + length c.args.blocks.now) =
    λ f run number has covers low high.
    c.is_free.ensures c.if-is_free.true f run number has covers low (omega (arith, c.from.ensures, c.len.ensures.length))
    in
    always_memory c.add_all.result _
    (subst (λ (p : Pairs). BringNew p c.args.first c.args.blocks.now) c.self.view_is
    (free_brings c.self.inside.runs c.self.inside.kept c.self.invariant c.args.first c.args.blocks.now
    c.len.ensures.range.0 free))

pub returns-then-is_free-clause-refused : goal.returns-then-is_free-clause-refused
returns-then-is_free-clause-refused c = memory_told c.add_all.result _ c.add_all.ensures.memory (ap conflict_at (none c))

pub returns-then-is_free-clause-taken : goal.returns-then-is_free-clause-taken
returns-then-is_free-clause-taken c = always_ok c.add_all.result _ (none c)
