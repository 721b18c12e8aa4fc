-- `into_box` makes a box of the pointer, which gets what the parts own.
use Rattle.mold_ffi.proofs.Walking.{◌≡◌, refl, sym, subst, ap, List, [], ◌∷◌, ◌++◌, T, Ura, Fn, Body, place, copy, assign, rv_opd, seq, return, inst_fn}
use Rattle.mold_ffi.proofs.Walking.{Val, vptr, has_ty, WT, SProp, ent, id⊢, ftrue, fsep, flft, ◌⊑◌, Fun, fact, tables, tables_of, Memory, Routine, WpFn}
use Rattle.mold_ffi.proofs.Walking.{Tables, Logic, fm_of, WpFn-mono, Item, at_ret, ‵, raw, ◌⊛◌, some, later, ◌$◌, ◌∵◌, !, qed, by, move, drop, use1, join}
use Rattle.mold_ffi.proofs.Walking.{split, split3, pick, rewrite, await, fsplit, fjoin, feq_i, suffices, done, whole, sub, stop, fld, no_more, and_then}
use Rattle.mold_ffi.proofs.Walking.{of_opd, returns, enter, first, blocks, exec, alloc_all, pass_all, free_all, look_at, get, get_in, sets, lands_last, env}
use Rattle.mold_ffi.proofs.Walking.{RattleType, no, block_ptr, plain, heard, nothing, only, calls_at_last, Ended, Clauses, triple_of, Triple, Contract}
use Rattle.mold_ffi.proofs.Walking.{entered, says, Stays, stay_dropped, walk_of, ends_at, walk_Meets, token, Goes-blank, box_owns, Bx, D, R, P, B, args}
use Rattle.mold_ffi.proofs.Walking.{box_ty, word, box_typed, box_out, box_in}
use Rattle.mold_ffi.specs.contracts.handle.box_parts.BoxParts as parts
use Rattle.std_alloc.specs.contracts.boxed.Box.from_raw as making
use Rattle.std_alloc.proofs.boxed.Box.from_raw.Symbol as making_name
use Rattle.std_alloc.proofs.boxed.Box.from_raw.Met as making_met
use Rattle.mold_ffi.specs.contracts.handle.box_parts.BoxParts.into_box as this_one
use Rattle.mold_ffi.specs.contracts.handle.box_parts.BoxParts.into_box.Key.{name as own_name}
use Rattle.mold_ffi.proofs.handle.box_parts.BoxParts.into_box.Statement.{statement}
use Rattle.mold_ffi.proofs.handle.box_parts.BoxParts.into_box.Code as code

-- What remains after the call.
abbrev rest : Body
rest = seq (assign (place 0 []) (rv_opd (copy (place 4 [])))) return

module _ (E : Bx) where
  abbrev body : Fn
  body = inst_fn (args E) code.function

  abbrev ended : Ended
  ended = this_one.ended E.row E.al.row E.al.g E.al.d E.al.drops

  abbrev Given : RattleType
  Given = parts.the_row (R E) (P E) E.al.g

  abbrev stays : Stays ended.signature.params ended.kept
  stays = (stay_dropped (plain (λ _. Given)) no, tt)

  module _ {M : Type 1} {𝓤 : Ura M} (𝓛 : Logic 𝓤) (memory : Memory → SProp 𝓤) (run : Routine → Fun 𝓤) (𝓣 : Tables 𝓤 𝓛.H) where
    open 𝓛 use {H}

    abbrev clauses : Clauses 𝓤 ended
    clauses = this_one.clauses E.row E.al.row E.al.g E.al.d E.al.drops 𝓛 memory run

    abbrev Made : Contract 𝓤
    Made = triple_of 𝓛 (making.signature E.row E.al.row E.al.g E.al.d E.al.drops) (making.spec E.row E.al.row E.al.g E.al.d E.al.drops 𝓛 memory run)

    walk : Triple 𝓤 (𝓣.C (making_name.name (args E))) Made → (z : (walk_of 𝓛 ended stays clauses).Ghost)
        → ent 𝓤 ((walk_of 𝓛 ended stays clauses).pre z) (WpFn 𝓤 H 𝓣.C 𝓣.Λ body (z.0.4.0 ++ []) ((walk_of 𝓛 ended stays clauses).post z))
    walk known z =
        let lives = z.0.0 in let shares = z.0.1 in let alloc = z.0.3.0.alloc in let value = z.0.3.0.value in
        let After = (walk_of 𝓛 ended stays clauses).post z in
        let boxed : D E = record { ptr = z.0.3.0.pointer; alloc = alloc; value = value } in
        let alive : Item 𝓤 = ‵ (flft lives.0 shares.0) ⊛ ‵ (flft lives.1.0 shares.1.0) ⊛ ‵ ftrue in
        let within : Item 𝓤 = raw (fact 𝓤 (lives.0 ⊑ E.row.lives)) ⊛ raw (fact 𝓤 (lives.1.0 ⊑ E.al.row.lives)) ⊛ ‵ ftrue in
        qed 𝓛 ((alive ⊛ ‵ (fsep ((B E).own_val boxed z.0.4.0) ftrue)) ∷ within ∷ []) ∵ split ! $ move ! (1 ∷ []) $ fsplit ! $
        box_out E ! boxed z.0.4.0 (λ block offset bits at_block as_word fits. fjoin ! $
        let whole_word = word E bits block offset in
        let call : Made.Ghost = ((lives, shares, tt, (alloc, (block_ptr block offset, tt)), (bits ∷ [], (vptr block offset ∷ [], tt))), value) in
        let Context : List (Item 𝓤) =
        ‵ (box_owns (token E.al alloc) (R E) (block_ptr block offset) value) ∷ ‵ ((P E).own_val alloc (bits ∷ [])) ∷ ‵ ftrue ∷ alive ∷ within ∷ [] in
        by ! (subst (λ (words : List Val). ent 𝓤 (types.Kit.⋆ 𝓛 Context) (WpFn 𝓤 H 𝓣.C 𝓣.Λ body (words ++ []) After)) (sym as_word)
        (qed 𝓛 Context ∵ enter ! 𝓣.C 𝓣.Λ body (whole_word ∷ []) _ $
        alloc_all ! (λ locals. pass_all ! refl (box_typed E bits block offset fits, tt) $
        sets ! (of_opd ! (get_in ! (fld ! refl (stop !)) (sub ! 0 refl (whole !)))) refl (tt, tt) $
        sets ! (of_opd ! (get_in ! (fld ! refl (stop !)) (sub ! 1 refl (whole !)))) refl fits $
        first ! $ blocks ! $ sets ! (of_opd ! (get ! refl)) refl fits $
        move ! (4 ∷ []) $ split3 ! $ move ! (2 ∷ []) $ drop ! $ move ! (1 ∷ 2 ∷ []) $ join ! $ move ! (1 ∷ 0 ∷ []) $ join ! $
        -- [what the call requires; the allocator; true; the tokens]
        move ! (2 ∷ []) $ feq_i ! (List Val) (vptr block offset ∷ []) (vptr block offset ∷ []) refl $ fjoin ! $
        move ! (2 ∷ 0 ∷ []) $ fjoin ! $ move ! (2 ∷ 0 ∷ []) $ join ! $ join ! $ use1 𝓛 (raw (Made.pre call)) (id⊢ 𝓤 _) $
        calls_at_last ! (fm_of 𝓤 H 𝓛.laws 𝓣) Made known call (and_then ! (get ! refl) (and_then ! (get ! refl) (no_more !))) (λ answer.
        use1 𝓛 (later (some (λ (r : D E). (alive ⊛ ‵ ((B E).own_val r (answer ∷ [])))
        ⊛ some (λ (_ : Unit {0} × (Unit {0} × Unit {0})). ‵ (fsep ftrue (fsep ftrue ftrue))
        ⊛ (raw (fact 𝓤 (r.value ≡ value)) ⊛ raw (fact 𝓤 (r.alloc ≡ alloc))))))) (id⊢ 𝓤 _) $
        await ! tt $ pick ! (λ r. split ! $ move ! (1 ∷ []) $ pick ! (λ _. split3 ! $ drop ! $ heard ! (r.value ≡ value) (λ same_value. drop ! $
        split ! $ move ! (1 ∷ []) $
        box_out E ! r (answer ∷ []) (λ block' offset' bits' there as_answer fits'. box_in E ! r block' offset' r.value there refl $
        rewrite ! 0 (λ (words : List Val). ‵ ((B E).own_val r words)) (sym as_answer) refl $
        let typed : T (has_ty (box_ty E) answer) × WT answer =
        subst (λ (v : Val). T (has_ty (box_ty E) v) × WT v) (sym (ap only as_answer)) (box_typed E bits' block' offset' fits') in
        lands_last ! refl typed $ exec ! 𝓣.C 𝓣.Λ (env body.locals locals) rest (at_ret (env body.locals locals) After) $
        sets ! (of_opd ! (get ! refl)) refl typed $ returns ! (look_at ! 0 refl) $ free_all ! refl $
        suffices ! _ (ends_at 𝓛 ended stays clauses z answer r ((tt, (tt, tt)), tt) (tt, tt)) $ says ! same_value $
        nothing ! $ nothing ! $ fjoin ! $ join ! $ move ! (1 ∷ 0 ∷ []) $ join ! $ done !)))))))))

pub into_box_spec : {M : Type 1} → statement M
unfolding tables_of
into_box_spec 𝓤 𝓛 𝓜 𝓡 wired X Z X_laws Z_laws g d drops allocator met =
    let E : Bx = record { row = X; laws = X_laws; al = record { row = Z; laws = Z_laws; g = g; d = d; drops = drops } } in
    let 𝓣 : Tables 𝓤 𝓛.H = tables_of 𝓤 𝓛.H 𝓜 (tables 𝓤 𝓛.H 𝓜 𝓡 𝓡.env) in
    let f = body E in
    entered 𝓤 𝓛.H (triple_of 𝓛 (ended E).signature (this_one.spec X Z g d drops 𝓛 𝓜.mem 𝓡.returns)) 𝓣.C 𝓣.Λ
    (own_name (args E)) f (code.unfolded 𝓤 𝓛.H 𝓜 𝓡 wired (X, (Z, tt)) d drops)
    (walk_Meets 𝓛 (ended E) (stays E) (Goes-blank 𝓛 2 (plain (λ _. Given E)) no (λ lives x w. tt), tt)
    (clauses E 𝓛 𝓜.mem 𝓡.returns 𝓣) (WpFn 𝓤 𝓛.H 𝓣.C 𝓣.Λ f) (WpFn-mono 𝓤 𝓛.H 𝓛.laws 𝓣 f)
    (walk E 𝓛 𝓜.mem 𝓡.returns 𝓣
    (making_met.met 𝓤 𝓛 𝓜 𝓡 (code.calls-std_alloc::boxed::Box::from_raw 𝓡.env wired) X Z X_laws Z_laws g d drops allocator met)))
