-- `lend` makes a reference of the handle's pointer. The handle then holds what is written through it.
use Rattle.mold_ffi.proofs.Walking.{◌≡◌, refl, sym, ℕ, List, [], ◌∷◌, Ura, full_share, named, Val, vptr, SProp, ent, sep, Lft, GName, Share, Fml, ftrue}
use Rattle.mold_ffi.proofs.Walking.{flft, fsep, Env, Calls, Loops, WpFn, Tables, Logic, sem, fact, tables, tables_of, Memory, Routine, Fun, WpFn-mono, id⊢}
use Rattle.mold_ffi.proofs.Walking.{‵, ◌⊛◌, some, at_ret, ◌$◌, ◌∵◌, !, qed, by, move, keep, use1, drop, split, join, pick, rewrite, fsplit, fsplit3, fjoin}
use Rattle.mold_ffi.proofs.Walking.{suffices, frame, done, raw, later, await, group, fpack, whole, sub, look_in, stop, fld, load, of_opd, first, blocks, exec}
use Rattle.mold_ffi.proofs.Walking.{returns, enter, addr, alloc_all, pass_all, free_all, look_at, get, through, sets, env, sets_last, owns, part_at, mem}
use Rattle.mold_ffi.proofs.Walking.{cell_at, part_of, block_ptr, MutRef, mut_vals, mut_Tells, plain, mut_ref_to, heard, nothing, opens, triple_of, entered}
use Rattle.mold_ffi.proofs.Walking.{Stays, stay_dropped, walk_of, ends_at, walked, walk_Meets, Goes-spent_ref, token, bare, no, follows, Part, lends_Part}
use Rattle.mold_ffi.proofs.Walking.{D, R, B, τ, word, allocator_owns, box_out, box_in, Option, Some, is_some, true, after, says}
use Rattle.mold_ffi.proofs.AsBox.{E, has}
use Rattle.mold_ffi.specs.declared.handle.held.Held.{Held}
use Rattle.mold_ffi.specs.contracts.handle.held.Held as held
use Rattle.mold_ffi.specs.contracts.handle.Handle.{the_row as H}
use Rattle.mold_ffi.specs.contracts.handle.Handle.lend as this_one
use Rattle.mold_ffi.specs.contracts.handle.Handle.lend.Key.{name as own_name}
use Rattle.mold_ffi.proofs.handle.Handle.lend.Statement.{statement}
use Rattle.mold_ffi.proofs.handle.Handle.lend.Code as code

abbrev stays : Stays (this_one.ended).signature.params (this_one.ended).kept
stays = (stay_dropped (mut_ref_to (0 ∷ []) tt (plain (λ _. H))) no, tt)

-- The handle after a value was written through the borrow.
abbrev with_held : H.Denot → Held → H.Denot
with_held handle new = record { at = handle.at; alloc = handle.alloc; value = Some new }

module _ {M : Type 1} {𝓤 : Ura M} (𝓛 : Logic 𝓤) (memory : Memory → SProp 𝓤) (run : Routine → Fun 𝓤) (κ : Lft) (q : Share) (rb ro : ℕ) (γ : GName)
    (handle : H.Denot) where
  open 𝓛 use {A}

  abbrev bound : (walk_of 𝓛 this_one.ended stays (this_one.clauses 𝓛 memory run)).Ghost
  bound = (((κ, tt), (q, tt), tt, (record { ref_ptr = (rb, ro); ghost_name = γ; now = handle }, tt), (vptr rb ro ∷ [], tt)), tt)

  abbrev After : Val → SProp 𝓤
  After = (walk_of 𝓛 this_one.ended stays (this_one.clauses 𝓛 memory run)).post bound

  abbrev boxed : Held → D E
  boxed x = record { ptr = handle.at; alloc = handle.alloc; value = x }

  module _ (found : (x : Held) × (handle.value ≡ Some x)) (block offset : ℕ) (bits : Val) where
    -- What the handle owns apart from the value that it holds.
    abbrev Rest : Fml
    Rest = fsep (fsep (token E.al handle.alloc (bare (τ E)) (block_ptr block offset)) (allocator_owns E handle.alloc bits))
        (cell_at full_share H.mir (word E bits block offset ∷ []) rb ro)

    back : handle.at ≡ block_ptr block offset → (new : Held)
        → ent 𝓤 (sep 𝓤 (sem 𝓛 ((mem (R E)).own_at new block offset)) (sem 𝓛 Rest)) (sem 𝓛 ((mem H).own_at (with_held handle new) rb ro))
    unfolding part_of
    back there new =
        qed 𝓛 (‵ (part_at (R E) full_share new block offset) ∷ ‵ Rest ∷ []) ∵ move ! (1 ∷ []) $ fsplit ! $ fsplit ! $ move ! (3 ∷ []) $
        box_in E ! (boxed new) block offset new there refl $
        use1 𝓛 (‵ (H.own_val (with_held handle new) (word E bits block offset ∷ []))) (id⊢ 𝓤 _) $ move ! (1 ∷ 0 ∷ []) $ fjoin ! $
        fpack ! (List Val) (λ words. fsep (cell_at full_share H.mir words rb ro) (H.own_val (with_held handle new) words)) (word E bits block offset ∷ []) $
        done !

    exits : (γ' : GName)
        → ent 𝓤 (sep 𝓤 (sem 𝓛 ((MutRef (named 0) κ held.the_row).own_val (record { ref_ptr = (block, offset); ghost_name = γ'; now = found.0 })
        (vptr block offset ∷ []))) (sep 𝓤 (A.lft κ q) (sem 𝓛 (follows H held.the_row γ γ' (with_held handle))))) (After (vptr block offset))
    exits γ' =
        qed 𝓛 (‵ ((MutRef (named 0) κ held.the_row).own_val (record { ref_ptr = (block, offset); ghost_name = γ'; now = found.0 }) (vptr block offset ∷ []))
        ∷ ‵ (flft κ q) ∷ ‵ (follows H held.the_row γ γ' (with_held handle)) ∷ []) ∵
        suffices ! _ (ends_at 𝓛 this_one.ended stays (this_one.clauses 𝓛 memory run) bound (vptr block offset)
        (record { ref_ptr = (block, offset); ghost_name = γ'; now = found.0 }) (tt, tt) (tt, tt)) $
        nothing ! $ nothing ! $ fjoin ! $ join ! $ nothing ! $ move ! (2 ∷ 0 ∷ []) $ join ! $ join ! $ frame ! $ says ! (sym found.1) $ done !

  module _ (C : Calls 𝓤 𝓛.H) (Λ : Loops 𝓤 𝓛.H) where
    walk : ent 𝓤 (sep 𝓤 (sep 𝓤 (sep 𝓤 (A.lft κ q) (sem 𝓛 ftrue))
        (sem 𝓛 (owns (MutRef (named 0) κ H ∷ []) (record { ref_ptr = (rb, ro); ghost_name = γ; now = handle }, tt) (vptr rb ro ∷ [], tt))))
        (fact 𝓤 (is_some handle.value ≡ true))) (WpFn 𝓤 𝓛.H C Λ code.function (vptr rb ro ∷ []) After)
    walk =
        qed 𝓛 (((‵ (flft κ q) ⊛ ‵ ftrue)
        ⊛ ‵ (owns (MutRef (named 0) κ H ∷ []) (record { ref_ptr = (rb, ro); ghost_name = γ; now = handle }, tt) (vptr rb ro ∷ [], tt)))
        ∷ raw (fact 𝓤 (is_some handle.value ≡ true)) ∷ []) ∵
        move ! (1 ∷ []) $ heard ! (is_some handle.value ≡ true) (λ holds. let found = has handle.value holds in
        split ! $
        enter ! C Λ code.function (vptr rb ro ∷ []) _ $
        alloc_all ! (λ locals. pass_all ! refl ((tt, tt), tt) $
        let En : Env 𝓤 𝓛.H = env (code.function).locals locals in
        move ! (1 ∷ []) $ fsplit ! $ fsplit3 ! $ drop ! $ move ! (3 ∷ []) $ split ! $ move ! (2 ∷ 3 ∷ 0 ∷ []) $
        opens ! tt H {h = handle} rb ro (λ words. move ! (1 ∷ []) $
        rewrite ! 0 (λ (value : Option Held). ‵ (H.own_val (record { at = handle.at; alloc = handle.alloc; value = value }) words)) found.1 refl $
        -- A handle that is not empty owns what a box owns.
        use1 𝓛 (‵ ((B E).own_val (boxed found.0) words)) (id⊢ 𝓤 _) $
        box_out E ! (boxed found.0) words (λ block offset bits there as_word fits.
        move ! (1 ∷ 2 ∷ []) $ fjoin ! $ move ! (1 ∷ []) $
        rewrite ! 2 (λ (us : List Val). ‵ (cell_at full_share H.mir us rb ro)) as_word refl $
        first ! $ blocks ! $
        sets ! (of_opd ! (load ! (through ! refl (fld ! refl (stop !))) (look_in ! 2 (sub ! 0 refl (whole !))))) refl (tt, tt) $
        sets ! (of_opd ! (get ! refl)) refl (tt, tt) $
        sets_last ! (addr ! (through ! refl (stop !))) refl (tt, tt) $
        exec ! C Λ En (after 1 (code.function).body) (at_ret En After) $
        sets ! (of_opd ! (get ! refl)) refl (tt, tt) $
        move ! (1 ∷ 2 ∷ []) $ fjoin ! $ move ! (2 ∷ 3 ∷ 4 ∷ 1 ∷ 0 ∷ []) $ group ! 5 $
        use1 𝓛 (later (some (λ (γ' : GName). raw (Part 𝓛 H held.the_row (with_held handle) (named 0) κ q rb ro block offset γ
        (sem 𝓛 (Rest found block offset bits)) (back found block offset bits there) found.0 γ'))))
        (lends_Part 𝓛 H held.the_row (with_held handle) (named 0) κ q rb ro block offset γ (sem 𝓛 (Rest found block offset bits))
        (back found block offset bits there) (H.coded.code handle) (H.coded.code handle) found.0) $ await ! tt $ pick ! (λ γ'.
        returns ! (look_at ! 0 refl) $ free_all ! refl $
        keep ! (0 ∷ []) $ by ! (exits found block offset bits γ'))))))

pub lend_spec : {M : Type 1} → statement M
unfolding tables_of
lend_spec 𝓤 𝓛 𝓜 𝓡 wired =
    let 𝓣 : Tables 𝓤 𝓛.H = tables_of 𝓤 𝓛.H 𝓜 (tables 𝓤 𝓛.H 𝓜 𝓡 𝓡.env) in
    entered 𝓤 𝓛.H (triple_of 𝓛 this_one.signature (this_one.spec 𝓛 𝓜.mem 𝓡.returns)) 𝓣.C 𝓣.Λ own_name code.function (code.unfolded 𝓤 𝓛.H 𝓜 𝓡 wired)
    (walk_Meets 𝓛 this_one.ended stays (Goes-spent_ref 𝓛 1 (0 ∷ []) tt (plain (λ _. H)), tt)
    (this_one.clauses 𝓛 𝓜.mem 𝓡.returns) (WpFn 𝓤 𝓛.H 𝓣.C 𝓣.Λ code.function) (WpFn-mono 𝓤 𝓛.H 𝓛.laws 𝓣 code.function)
    (walked 𝓛 this_one.ended stays (this_one.clauses 𝓛 𝓜.mem 𝓡.returns) (WpFn 𝓤 𝓛.H 𝓣.C 𝓣.Λ code.function)
    (λ lives. (mut_vals, tt)) (λ lives. (mut_Tells (named 0) lives.0 H, tt))
    (λ lives shares bounds a g are. walk 𝓛 𝓜.mem 𝓡.returns lives.0 shares.0 a.0.ref_ptr.0 a.0.ref_ptr.1 a.0.ghost_name a.0.now 𝓣.C 𝓣.Λ)))
