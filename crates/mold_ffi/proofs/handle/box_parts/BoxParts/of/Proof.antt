-- `of` takes the pointer and the allocator of the box, and the parts own what the box owned.
use Rattle.mold_ffi.proofs.Walking.{◌≡◌, refl, sym, subst, ap, ◌∙◌, List, [], ◌∷◌, ◌++◌, Ura, Fn, Args, Dict, a_type, dcons, dnil, inst_fn, bare, Val}
use Rattle.mold_ffi.proofs.Walking.{vstruct, of_list, SProp, ent, id⊢, never, fst∗, ftrue, fsep, flft, ◌⊑◌, Fun, fact, tables, tables_of, Memory, Routine}
use Rattle.mold_ffi.proofs.Walking.{WpFn, Tables, Logic, sem, fm_of, WpFn-mono, Item, ‵, raw, ◌⊛◌, some, later, ◌$◌, ◌∵◌, !, qed, by, move, drop, use1, join}
use Rattle.mold_ffi.proofs.Walking.{split, split3, pick, rewrite, await, fsplit, fjoin, fpick, feq_l, suffices, done, whole, sub, agg, stop, fld, no_more}
use Rattle.mold_ffi.proofs.Walking.{and_then, of_opd, returns, enter, alloc_all, pass_all, free_all, look_at, get, get_in, sets, lands_as, RattleType, no}
use Rattle.mold_ffi.proofs.Walking.{bounded, Ptr, RawPtr, block_ptr, null_ptr, ptr_val, in_a_block, plain, heard, nothing, only, Tuple, calls_at, Ended}
use Rattle.mold_ffi.proofs.Walking.{Clauses, triple_of, Triple, Contract, entered, says, Stays, stay_dropped, walk_of, ends_at, walk_Meets, token, handle_tells}
use Rattle.mold_ffi.proofs.Walking.{Goes-blank, box_owns, Bx, D, τ, R, P, B, word, box_typed, box_out, box_in}
use Rattle.mold_ffi.specs.contracts.handle.box_parts.BoxParts as parts
use Rattle.std_alloc.specs.contracts.boxed.Box.into_raw_with_allocator as taking
use Rattle.std_alloc.proofs.boxed.Box.into_raw_with_allocator.Symbol as taking_name
use Rattle.std_alloc.proofs.boxed.Box.into_raw_with_allocator.Met as taking_met
use Rattle.mold_ffi.specs.contracts.handle.box_parts.BoxParts.of as this_one
use Rattle.mold_ffi.specs.contracts.handle.box_parts.BoxParts.of.Key.{name as own_name}
use Rattle.mold_ffi.proofs.handle.box_parts.BoxParts.of.Statement.{statement}
use Rattle.mold_ffi.proofs.handle.box_parts.BoxParts.of.Code as code

module _ (E : Bx) (dropping : Dict) where
  abbrev given : Args
  given = bounded (a_type ∷ a_type ∷ []) (E.row, (E.al.row, tt)) (dcons E.al.d (dcons E.al.drops (dcons dropping dnil)))

  abbrev body : Fn
  body = inst_fn given code.function

  abbrev ended : Ended
  ended = this_one.ended E.row E.al.row E.al.g E.al.d E.al.drops dropping

  abbrev stays : Stays ended.signature.params ended.kept
  stays = (stay_dropped (plain (λ _. B E)) no, tt)

  abbrev Made : RattleType
  Made = parts.the_row (R E) (P E) E.al.g

  module _ {M : Type 1} {𝓤 : Ura M} (𝓛 : Logic 𝓤) (memory : Memory → SProp 𝓤) (run : Routine → Fun 𝓤) (𝓣 : Tables 𝓤 𝓛.H) where
    open 𝓛 use {H}

    abbrev clauses : Clauses 𝓤 ended
    clauses = this_one.clauses E.row E.al.row E.al.g E.al.d E.al.drops dropping 𝓛 memory run

    abbrev Taken : Contract 𝓤
    Taken = triple_of 𝓛 (taking.signature E.row E.al.row E.al.g E.al.d E.al.drops dropping)
        (taking.spec E.row E.al.row E.al.g E.al.d E.al.drops dropping 𝓛 memory run)

    walk : Triple 𝓤 (𝓣.C (taking_name.name given)) Taken → (z : (walk_of 𝓛 ended stays clauses).Ghost)
        → ent 𝓤 ((walk_of 𝓛 ended stays clauses).pre z) (WpFn 𝓤 H 𝓣.C 𝓣.Λ body (z.0.4.0 ++ []) ((walk_of 𝓛 ended stays clauses).post z))
    walk known z =
        let lives = z.0.0 in let shares = z.0.1 in let boxed = z.0.3.0 in let alloc = boxed.alloc in let After = (walk_of 𝓛 ended stays clauses).post z in
        let alive : Item 𝓤 = ‵ (flft lives.0 shares.0) ⊛ ‵ (flft lives.1.0 shares.1.0) ⊛ ‵ ftrue in
        let within : Item 𝓤 = raw (fact 𝓤 (lives.0 ⊑ E.row.lives)) ⊛ raw (fact 𝓤 (lives.1.0 ⊑ E.al.row.lives)) ⊛ ‵ ftrue in
        qed 𝓛 ((alive ⊛ ‵ (fsep ((B E).own_val boxed z.0.4.0) ftrue)) ∷ within ∷ []) ∵ split ! $ move ! (1 ∷ []) $ fsplit ! $
        box_out E ! boxed z.0.4.0 (λ block offset bits at_block as_word fits. box_in E ! boxed block offset boxed.value at_block refl $
        let whole_word = word E bits block offset in
        let call : Taken.Ghost = ((lives, shares, tt, (boxed, tt), (whole_word ∷ [], tt)), tt) in
        let Context : List (Item 𝓤) = ‵ ((B E).own_val boxed (whole_word ∷ [])) ∷ ‵ ftrue ∷ alive ∷ within ∷ [] in
        by ! (subst (λ (words : List Val). ent 𝓤 (types.Kit.⋆ 𝓛 Context) (WpFn 𝓤 H 𝓣.C 𝓣.Λ body (words ++ []) After)) (sym as_word)
        (qed 𝓛 Context ∵ enter ! 𝓣.C 𝓣.Λ body (whole_word ∷ []) _ $
        alloc_all ! (λ locals. pass_all ! refl (box_typed E bits block offset fits, tt) $
        sets ! (of_opd ! (get ! refl)) refl (box_typed E bits block offset fits) $
        fjoin ! $ move ! (1 ∷ 0 ∷ []) $ join ! $ join ! $ use1 𝓛 (raw (Taken.pre call)) (id⊢ 𝓤 _) $
        -- The call, and what it returns: a pointer in a block, and the allocator.
        calls_at ! (fm_of 𝓤 H 𝓛.laws 𝓣) Taken known call (and_then ! (get ! refl) (no_more !)) (λ answer.
        use1 𝓛 (later (some (λ (r : Ptr × E.al.row.Denot). (alive ⊛ ‵ ((Tuple (RawPtr ∷ P E ∷ [])).own_val r (answer ∷ [])))
        ⊛ some (λ (_ : (Unit {0} × (Unit {0} × Unit {0})) × Unit {0}). ‵ (fsep (fsep ftrue (fsep ftrue ftrue)) ftrue)
        ⊛ (raw (fact 𝓤 (r.1 ≡ alloc)) ⊛ ‵ (box_owns (token E.al alloc) (R E) r.0 boxed.value)))))) (id⊢ 𝓤 _) $
        await ! tt $ pick ! (λ r. split ! $ move ! (1 ∷ []) $ pick ! (λ _. split3 ! $ drop ! $ heard ! (r.1 ≡ alloc) (λ same_alloc.
        in_a_block ! r.0 (λ p. box_owns (token E.al alloc) (R E) p boxed.value) (fst∗ 𝓤 (never 𝓤) (sem 𝓛 (token E.al alloc (bare (τ E)) null_ptr)))
        (λ block' offset' there.
        move ! (1 ∷ []) $ split ! $ move ! (1 ∷ []) $ fpick ! (λ both. fsplit ! $ feq_l ! (λ as_pair. fsplit ! $ feq_l ! (λ as_pointer. fsplit ! $
        rewrite ! 0 (λ (a : E.al.row.Denot). ‵ (E.al.row.own_val a both.1.0)) same_alloc refl $
        handle_tells E.al ! alloc both.1.0 (λ bits' as_bits fits'.
        let box_there : D E = record { ptr = block_ptr block' offset'; alloc = alloc; value = boxed.value } in
        let made : Made.Denot = record { pointer = block_ptr block' offset'; alloc = alloc; value = boxed.value } in
        let typed = box_typed E bits' block' offset' fits' in
        lands_as ! (ap only (as_pair ∙ (λ i. vstruct (of_list ((as_pointer ∙ ap (λ (p : Ptr). ptr_val p ∷ []) there) i ++ (as_bits i ++ []))) ∷ []))) refl
        typed $
        sets ! (of_opd ! (get_in ! (fld ! refl (stop !)) (sub ! 0 refl (whole !)))) refl (tt, tt) $
        sets ! (of_opd ! (get_in ! (fld ! refl (stop !)) (sub ! 1 refl (whole !)))) refl fits' $
        sets ! (of_opd ! (get ! refl)) refl fits' $
        sets ! (agg ! (and_then ! (get ! refl) (and_then ! (get ! refl) (no_more !)))) refl typed $ returns ! (look_at ! 0 refl) $ free_all ! refl $
        -- [the allocator; true; the tokens; the value with the right to free it]
        move ! (3 ∷ []) $ fsplit ! $ box_in E ! box_there block' offset' boxed.value refl refl $
        use1 𝓛 (‵ (Made.own_val made (word E bits' block' offset' ∷ []))) (id⊢ 𝓤 _) $ move ! (1 ∷ []) $ drop ! $
        suffices ! _ (ends_at 𝓛 ended stays clauses z (word E bits' block' offset') made ((tt, (tt, tt)), tt) (tt, tt)) $ says ! refl $
        nothing ! $ nothing ! $ fjoin ! $ join ! $ move ! (1 ∷ 0 ∷ []) $ join ! $ done !)))))))))))))

pub of_spec : {M : Type 1} → statement M
unfolding tables_of
of_spec 𝓤 𝓛 𝓜 𝓡 wired X Z X_laws Z_laws g d drops dropping allocator met glue =
    let E : Bx = record { row = X; laws = X_laws; al = record { row = Z; laws = Z_laws; g = g; d = d; drops = drops } } in
    let 𝓣 : Tables 𝓤 𝓛.H = tables_of 𝓤 𝓛.H 𝓜 (tables 𝓤 𝓛.H 𝓜 𝓡 𝓡.env) in
    let f = body E dropping in
    entered 𝓤 𝓛.H (triple_of 𝓛 (ended E dropping).signature (this_one.spec X Z g d drops dropping 𝓛 𝓜.mem 𝓡.returns)) 𝓣.C 𝓣.Λ
    (own_name (given E dropping)) f (code.unfolded 𝓤 𝓛.H 𝓜 𝓡 wired (X, (Z, tt)) d drops dropping)
    (walk_Meets 𝓛 (ended E dropping) (stays E dropping) (Goes-blank 𝓛 2 (plain (λ _. B E)) no (λ lives x w. tt), tt)
    (clauses E dropping 𝓛 𝓜.mem 𝓡.returns 𝓣) (WpFn 𝓤 𝓛.H 𝓣.C 𝓣.Λ f) (WpFn-mono 𝓤 𝓛.H 𝓛.laws 𝓣 f)
    (walk E dropping 𝓛 𝓜.mem 𝓡.returns 𝓣
    (taking_met.met 𝓤 𝓛 𝓜 𝓡 (code.calls-std_alloc::boxed::Box::into_raw_with_allocator 𝓡.env wired) X Z X_laws Z_laws g d drops dropping allocator met glue)))
