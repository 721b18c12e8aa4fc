-- `mold_listener_messages` lends the handle, and writes what it borrows. So the handle rests as `lend_batch` states.
use Rattle.mold_ffi.proofs.Walking.{◌≡◌, refl, List, [], ◌∷◌, named, fact, tables, id⊢, ftrue, flft}
use Rattle.mold_ffi.proofs.Walking.{‵, raw, ◌⊛◌, some, later, ◌$◌, ◌∵◌, !, qed, by, move, keep, drop, use1, split, split3, join, pick, await, suffices, frame}
use Rattle.mold_ffi.proofs.Walking.{no_more, and_then, stop, fld, whole, sub, agg, addr, get_in, returns, enter, alloc_all, pass_all, free_all, look_at, get, through, sets, lands_as}
use Rattle.mold_ffi.proofs.Walking.{MutRef, mut_vals, mut_Tells, heard, nothing, calls_at, triple_of, Stays, ends_at}
use Rattle.mold_ffi.proofs.Reading.{Lent, lent_typed, all_said, said_Go, four_facts}
use Rattle.std.specs.Prelude.{ℕ, ◌<◌, ◌^◌, Some, None, length, min, map, take, drop as list_drop}
use Rattle.std.proofs.Common.{w64, Bor}
use Rattle.std.proofs.raw_atomic.Walks.{proved}
use Rattle.std.specs.Option.{option_copied}
use Rattle.std.specs.Io.BufRead.{Rests}
use denote.Builtin.{u8, usize}
use denote.Laws.{Is, shows}
use denote.Plain.{uint_Lawful}
use denote.Slice.{ShrSlice, MutSlice, mut_slice_vals, mut_slice_Tells}
use denote.Steps.{peeks}
use denote.Triple.Clauses.{lasts}
use denote.Triple.Table.{framed}
use types.ByLocal.{look_in_at}
use types.Kit.{use2}
use types.Run.{from, hop}
use Rattle.mold_ffi.specs.Handle.Borrow.{listening}
use Rattle.mold_ffi.specs.Listener.BatchedArbiter.{BatchedArbitration}
use Rattle.mold_receiver.specs.Batch.{Handed}
use Rattle.mold_ffi.specs.contracts.handle.mold_handle.MoldHandle.{the_row as H}
use Rattle.mold_ffi.specs.contracts.handle.borrow.lend_batch as lends
use Rattle.mold_ffi.proofs.handle.borrow.lend_batch.Met as lends_met
use Rattle.mold_ffi.specs.contracts.listener.batch.write_messages as writes
use Rattle.mold_ffi.proofs.listener.batch.write_messages.Met as writes_met
use Rattle.mold_ffi.specs.contracts.listener.batch.mold_listener_messages as f
use Rattle.mold_ffi.specs.contracts.listener.batch.mold_listener_messages.Key.{name as own_name}
use Rattle.mold_ffi.proofs.listener.batch.mold_listener_messages.Statement.{statement}
use Rattle.mold_ffi.proofs.listener.batch.mold_listener_messages.Code as code

abbrev stayed : Stays f.ended.signature.params f.ended.kept
stayed = all_said f.ended.signature.params f.ended.kept

pub mold_listener_messages_spec : {M : Type 1} → statement M
mold_listener_messages_spec 𝓤 𝓛 𝓜 𝓡 wired =
    let c = f.clauses 𝓛 𝓜.mem 𝓡.returns in
    proved 𝓛 f.ended stayed c 𝓜 𝓡 (said_Go 𝓛 2 f.ended.signature.params f.ended.kept)
    own_name code.function (code.unfolded 𝓤 𝓛.H 𝓜 𝓡 wired)
    (λ κs. (mut_vals, (mut_slice_vals, tt)))
    (λ κs. (mut_Tells (named 0) κs.0 H, (mut_slice_Tells (named 1) κs.1.0 (ShrSlice (named 0) κs.0 u8), tt))) (λ κs qs bounds a _ are.
    let κ = κs.0 in let q = qs.0 in let κ' = κs.1.0 in let q' = qs.1.0 in let l = a.0 in let m = a.1.0 in
    let few : length m.now < 2 ^ 64 = are.1.0.0.1.0 in
    let G = triple_of 𝓛 lends.signature (lends.spec 𝓛 𝓜.mem 𝓡.returns) in
    let W = triple_of 𝓛 writes.signature (writes.spec 𝓛 𝓜.mem 𝓡.returns) in
    let z : G.Ghost = (((κ, tt), (q, tt), tt, (l, tt), (mut_vals l, tt)), tt) in
    let After = Rests H l (λ new. new.handle.value ≡ l.now.handle.value) in
    qed 𝓛 (((‵ (flft κ q) ⊛ ‵ (flft κ' q') ⊛ ‵ ftrue) ⊛ ‵ ((MutRef (named 0) κ H).own_val l (mut_vals l))
    ⊛ ‵ ((MutSlice (named 1) κ' (ShrSlice (named 0) κ u8)).own_val m (mut_slice_vals m)) ⊛ ‵ ftrue) ∷ ‵ ftrue ∷ []) ∵
    split ! $ split3 ! $ move ! (3 ∷ []) $ split ! $ move ! (1 ∷ []) $ split ! $ keep ! (0 ∷ 2 ∷ 4 ∷ 3 ∷ []) $
    enter ! _ _ _ _ _ $ alloc_all ! (λ locals. pass_all ! refl ((tt, tt), ((tt, (tt, (record { fits = few }, tt))), tt)) $
    -- [the array's reference; the listener's reference; the tokens of both; the locals]
    sets ! (addr ! (through ! refl (stop !))) refl (tt, tt) $
    nothing ! $ move ! (2 ∷ 0 ∷ []) $ join ! $ nothing ! $ move ! (4 ∷ 0 ∷ []) $ join ! $ join ! $ nothing ! $ move ! (1 ∷ 0 ∷ []) $
    use2 𝓛 (raw (G.pre z)) (id⊢ 𝓤 _) $
    calls_at ! (framed 𝓤 𝓛.H 𝓜 (tables 𝓤 𝓛.H 𝓜 𝓡 𝓡.env)) G (lends_met.met 𝓤 𝓛 𝓜 𝓡 (code.calls-mold_ffi::handle::borrow::lend_batch 𝓡.env wired)) z
    (and_then ! (get ! refl) (no_more !)) (λ v.
    use1 𝓛 (later (some (λ (r : (Lent κ).Denot). ((‵ (flft κ q) ⊛ ‵ ftrue) ⊛ ‵ ((Lent κ).own_val r (v ∷ []))) ⊛ some (λ (ws : Unit {0} × Unit {0}).
    ‵ (lasts lends.ended z.0.0 z.0.3 ws) ⊛ (‵ After ⊛ (
    raw (fact 𝓤 ((batched : BatchedArbitration) → listening l.now.handle.value ≡ Some batched → option_copied r ≡ Some batched.batch))
    ⊛ raw (fact 𝓤 (listening l.now.handle.value ≡ None → option_copied r ≡ None)))))))) (id⊢ 𝓤 _) $
    await ! tt $ pick ! (λ r. split ! $ split ! $ split ! $ move ! (3 ∷ []) $ pick ! (λ ws. split ! $ drop ! $ split ! $ move ! (1 ∷ []) $ split ! $
    heard ! _ (λ lent. heard ! _ (λ none. move ! (3 ∷ []) $ peeks ! (Lent κ) (Is (Lent κ)) (shows 𝓛 (Lent κ)) r (v ∷ []) (λ is.
    lands_as ! refl refl (lent_typed 𝓛 κ r v is) $
    -- [what was borrowed; how the handle rests; the listener's token; nothing; the array's reference; the other token]
    sets ! (addr ! (from ! (fld ! refl (hop ! (look_in_at ! 2 (sub ! 0 refl (whole !))) (stop !))))) refl (tt, tt) $
    sets ! (agg ! (and_then ! (get ! refl) (and_then ! (get_in ! (fld ! refl (stop !)) (sub ! 1 refl (whole !))) (no_more !)))) refl (tt, (tt, (record { fits = few }, tt))) $
    move ! (4 ∷ 3 ∷ []) $ join ! $ move ! (1 ∷ 0 ∷ []) $ join ! $
    nothing ! $ move ! (4 ∷ 0 ∷ []) $ join ! $ move ! (3 ∷ 0 ∷ []) $ join ! $ join ! $ nothing ! $ move ! (1 ∷ 0 ∷ []) $
    let z' : W.Ghost = ((κs, qs, bounds, (r, (m, tt)), (v ∷ [], (mut_slice_vals m, tt))), tt) in
    use2 𝓛 (raw (W.pre z')) (id⊢ 𝓤 _) $
    calls_at ! (framed 𝓤 𝓛.H 𝓜 (tables 𝓤 𝓛.H 𝓜 𝓡 𝓡.env)) W (writes_met.met 𝓤 𝓛 𝓜 𝓡 (code.calls-mold_ffi::listener::batch::write_messages 𝓡.env wired)) z'
    (and_then ! (get ! refl) (and_then ! (get ! refl) (no_more !))) (λ u.
    use1 𝓛 (later (some (λ (x : ℕ). ((‵ (flft κ q) ⊛ ‵ (flft κ' q') ⊛ ‵ ftrue) ⊛ ‵ (usize.own_val x (u ∷ []))) ⊛
    some (λ (ws : Unit {0} × (List (Bor (List ℕ)) × Unit {0})). ‵ (lasts writes.ended κs z'.0.3 ws) ⊛ (
    raw (fact 𝓤 ((batch : Handed) → option_copied r ≡ Some batch → x ≡ min (length m.now) (length batch.messages)))
    ⊛ raw (fact 𝓤 ((batch : Handed) → option_copied r ≡ Some batch →
    map (λ bytes. bytes.now) (take x ws.1.0) ≡ take x batch.messages))
    ⊛ raw (fact 𝓤 (list_drop x ws.1.0 ≡ list_drop x m.now))
    ⊛ raw (fact 𝓤 (option_copied r ≡ None → (x ≡ 0) × (ws.1.0 ≡ m.now)))))))) (id⊢ 𝓤 _) $
    await ! tt $ pick ! (λ x. split ! $ split ! $ move ! (2 ∷ []) $ pick ! (λ ws. split ! $ move ! (1 ∷ []) $
    split ! $ heard ! _ (λ counted. split ! $ heard ! _ (λ told. split ! $ heard ! _ (λ behind. heard ! _ (λ no_listener.
    -- [the array's last elements; the tokens; the count; how the handle rests]
    move ! (2 ∷ []) $ peeks ! usize (Is usize) (shows 𝓛 usize) x (u ∷ []) (λ small.
    lands_as ! refl refl ((uint_Lawful 𝓛 w64).typed x _ small).0 $
    returns ! (look_at ! 0 refl) $ free_all ! refl $
    suffices ! _ (ends_at 𝓛 f.ended stayed c ((κs, qs, bounds, a, (mut_vals l, (mut_slice_vals m, tt))), tt) u x
    (tt, (ws.1.0, tt)) (tt, (tt, tt))) $
    move ! (1 ∷ 0 ∷ []) $ join ! $ move ! (1 ∷ 0 ∷ []) $ join ! $ frame ! $ frame ! $
    let Counted : Type 0 = (batched : BatchedArbitration) → listening l.now.handle.value ≡ Some batched →
    x ≡ min (length m.now) (length batched.batch.messages) in
    let Told : Type 0 = (batched : BatchedArbitration) → listening l.now.handle.value ≡ Some batched →
    map (λ bytes. bytes.now) (take x ws.1.0) ≡ take x batched.batch.messages in
    let Behind : Type 0 = list_drop x ws.1.0 ≡ list_drop x m.now in
    let Broken : Type 0 = listening l.now.handle.value ≡ None → (x ≡ 0) × (ws.1.0 ≡ m.now) in
    by ! (four_facts 𝓤 Counted Told Behind Broken (λ batched is. counted batched.batch (lent batched is))
    (λ batched is. told batched.batch (lent batched is)) behind (λ other. no_listener (none other)))))))))))))))))))
