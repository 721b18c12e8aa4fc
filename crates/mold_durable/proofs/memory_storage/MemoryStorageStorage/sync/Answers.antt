use Rattle.std.proofs.Common.{◌∙◌, ap, length, subst, sym}
use Rattle.mold_durable.specs.Memory.{LeftSince, MayLeave, MemoryState}
use Rattle.mold_durable.specs.Storage.{Elapses}
use Rattle.mold_durable.specs.declared.memory_call.MemoryCall.TheVariants.{Sync}
use Rattle.mold_durable.proofs.MemoryLemmas.{elapses_to, synced_only, synced_possible}
use Rattle.mold_durable.proofs.memory_storage.MemoryStorageStorage.sync.Goals as goal

pub invariant_of-self-in-Ok : goal.invariant_of-self-in-Ok
invariant_of-self-in-Ok c =
    let added = c.in-Ok.ensures.added in
    synced_possible c.self.inside.calls.items c.add_sync.new.calls.items added.0 added.2 c.self.inside.bytes.items
    (added.1 ∙ c.deref.ensures.value)

pub returns-in-Ok-clause-durable : goal.returns-in-Ok-clause-durable
returns-in-Ok-clause-durable c = λ bytes left.
    let added = c.in-Ok.ensures.added in
    synced_only c.self.inside.calls.items c.add_sync.new.calls.items added.0 added.2 c.self.inside.bytes.items bytes
    (added.1 ∙ c.deref.ensures.value) left
    ∙ ap (λ (s : MemoryState). s.bytes) c.self.view_is

pub returns-in-Ok-clause-crash : goal.returns-in-Ok-clause-crash
returns-in-Ok-clause-crash c = λ bytes left.
    let added = c.in-Ok.ensures.added in
    let same = synced_only c.self.inside.calls.items c.add_sync.new.calls.items added.0 added.2
    c.self.inside.bytes.items bytes (added.1 ∙ c.deref.ensures.value) left
    in
    subst (λ (s : MemoryState). MayLeave s.calls bytes) c.self.view_is
    (subst (MayLeave c.self.inside.calls.items) (sym same) c.self.invariant)

pub returns-in-Ok-clause-time : goal.returns-in-Ok-clause-time
returns-in-Ok-clause-time c =
    let later = c.add_sync.new.calls.items in
    let added = c.in-Ok.ensures.added in
    subst (λ (s : MemoryState).
    Elapses (length s.calls) (length later) (LeftSince s.calls) (LeftSince later) (MayLeave later)) c.self.view_is
    (elapses_to c.self.inside.calls.items later (Sync added.0) added.2)
