use Rattle.std.proofs.Common.{◌≡◌, ◌++◌, ◌∷◌, [], ◌∙◌, ℕ, List, ap, length, refl, subst}
use Rattle.mold_durable.specs.Memory.{LeftSince, MayLeave, MemoryState, torn_over}
use Rattle.mold_durable.specs.Storage.{Elapses, Follows, MayTear}
use Rattle.mold_durable.specs.declared.memory_call.MemoryCall.{MemoryCall}
use Rattle.mold_durable.specs.declared.memory_call.MemoryCall.TheVariants.{Write}
use Rattle.mold_durable.proofs.MemoryLemmas.{elapses_to, follows_none, follows_write, same_possible, written_possible}
use Rattle.mold_durable.proofs.memory_storage.MemoryStorageStorage.write_at.Goals as goal

-- The same of the calls of the model.
follows_of : (calls later : List MemoryCall) (state : MemoryState) (at count : ℕ) → calls ≡ state.calls →
    Follows (MayTear at count) (MayLeave calls) (MayLeave later) →
    Follows (MayTear at count) (MayLeave state.calls) (MayLeave later)
follows_of calls later state at count is follows =
    subst (λ (t : List MemoryCall). Follows (MayTear at count) (MayLeave t) (MayLeave later)) is follows

passes_of : (calls later : List MemoryCall) (state : MemoryState) (at count : ℕ) → calls ≡ state.calls →
    later ≡ calls ++ Write at count ∷ [] →
    Elapses (length state.calls) (length later) (LeftSince state.calls) (LeftSince later) (MayLeave later)
passes_of calls later state at count is added =
    subst (λ (t : List MemoryCall).
    Elapses (length t) (length later) (LeftSince t) (LeftSince later) (MayLeave later)) is
    (elapses_to calls later (Write at count) added)

pub returns-in-Err-clause-crash : goal.returns-in-Err-clause-crash
returns-in-Err-clause-crash c =
    let calls = c.self.inside.calls.items in
    let later = c.add_write.new.calls.items in
    let count = length c.args.bytes.now in
    follows_of calls later c.args.self.now c.args.at count (ap (λ (s : MemoryState). s.calls) c.self.view_is)
    (follows_none calls later c.args.at count c.in-Err.ensures.same)

pub invariant_of-self-in_err-begin : goal.invariant_of-self-in_err-begin
invariant_of-self-in_err-begin c =
    same_possible c.self.inside.calls.items c.add_write.new.calls.items c.args.at (length c.args.bytes.now)
    c.in-Ok.ensures.added c.self.inside.bytes.items c.self.invariant

pub returns-in_err-begin-clause-crash : goal.returns-in_err-begin-clause-crash
returns-in_err-begin-clause-crash c =
    let calls = c.self.inside.calls.items in
    let later = c.add_write.new.calls.items in
    let count = length c.args.bytes.now in
    follows_of calls later c.args.self.now c.args.at count (ap (λ (s : MemoryState). s.calls) c.self.view_is)
    (follows_write calls later c.args.at count c.in-Ok.ensures.added)

pub returns-in_err-begin-clause-time : goal.returns-in_err-begin-clause-time
returns-in_err-begin-clause-time c =
    passes_of c.self.inside.calls.items c.add_write.new.calls.items c.args.self.now c.args.at
    (length c.args.bytes.now) (ap (λ (s : MemoryState). s.calls) c.self.view_is) c.in-Ok.ensures.added

pub invariant_of-self-in-Ok-written_over : goal.invariant_of-self-in-Ok-written_over
invariant_of-self-in-Ok-written_over c =
    let bytes = c.self.inside.bytes.items in
    written_possible c.self.inside.calls.items c.add_write.new.calls.items c.args.at (length c.args.bytes.now)
    c.in-Ok.ensures.added bytes c.args.bytes.now c.in-Ok-written_over.next.items c.self.invariant refl
    (c.in-Ok-written_over.ensures
    ∙ ap (λ (t : List ℕ). torn_over c.args.at c.args.bytes.now t) c.deref.ensures.value)

pub invariant_of-self-in-Err-written_over : goal.invariant_of-self-in-Err-written_over
invariant_of-self-in-Err-written_over c =
    same_possible c.self.inside.calls.items c.add_write.new.calls.items c.args.at (length c.args.bytes.now)
    c.in-Ok.ensures.added c.self.inside.bytes.items c.self.invariant

pub returns-in-Ok-written_over-clause-crash : goal.returns-in-Ok-written_over-clause-crash
returns-in-Ok-written_over-clause-crash c =
    let calls = c.self.inside.calls.items in
    let later = c.add_write.new.calls.items in
    let count = length c.args.bytes.now in
    follows_of calls later c.args.self.now c.args.at count (ap (λ (s : MemoryState). s.calls) c.self.view_is)
    (follows_write calls later c.args.at count c.in-Ok.ensures.added)

pub returns-in-Ok-written_over-clause-time : goal.returns-in-Ok-written_over-clause-time
returns-in-Ok-written_over-clause-time c =
    passes_of c.self.inside.calls.items c.add_write.new.calls.items c.args.self.now c.args.at
    (length c.args.bytes.now) (ap (λ (s : MemoryState). s.calls) c.self.view_is) c.in-Ok.ensures.added

pub returns-in-Err-written_over-clause-crash : goal.returns-in-Err-written_over-clause-crash
returns-in-Err-written_over-clause-crash c =
    let calls = c.self.inside.calls.items in
    let later = c.add_write.new.calls.items in
    let count = length c.args.bytes.now in
    follows_of calls later c.args.self.now c.args.at count (ap (λ (s : MemoryState). s.calls) c.self.view_is)
    (follows_write calls later c.args.at count c.in-Ok.ensures.added)

pub returns-in-Err-written_over-clause-time : goal.returns-in-Err-written_over-clause-time
returns-in-Err-written_over-clause-time c =
    passes_of c.self.inside.calls.items c.add_write.new.calls.items c.args.self.now c.args.at
    (length c.args.bytes.now) (ap (λ (s : MemoryState). s.calls) c.self.view_is) c.in-Ok.ensures.added
