-- `empty` makes a handle of the null pointer and the allocator, which owns nothing else.
use Rattle.mold_ffi.proofs.Walking.{refl, sym, subst, List, [], ◌∷◌, ◌++◌, Ura, Val, vstruct, vcons, vnil, SProp, ent, emp, ftrue, fsep, Fun, tables}
use Rattle.mold_ffi.proofs.Walking.{tables_of, Memory, Routine, WpFn, Tables, Logic, WpFn-mono, Item, ‵, raw, ◌⊛◌, ◌$◌, ◌∵◌, !, qed, by, move, drop, join}
use Rattle.mold_ffi.proofs.Walking.{split, fsplit, fjoin, feq_i, fpack, suffices, done, agg, no_more, and_then, lit, returns, enter, alloc_all, pass_all}
use Rattle.mold_ffi.proofs.Walking.{free_all, look_at, get, sets, Valss, RawPtr, null_ptr, ptr_val, yes, nothing, shape, to, within}
use Rattle.mold_ffi.proofs.Walking.{triple_of, entered, says, Stays, stay_dropped, walk_of, ends_at, Goes-dropped, walk_Meets, handle_tells, and_tt, lit<}
use Rattle.mold_ffi.proofs.Walking.{None}
use Rattle.mold_ffi.proofs.AsBox.{E, FromAllocator}
use Rattle.mold_ffi.specs.contracts.handle.Handle as handle
use Rattle.mold_ffi.specs.contracts.handle.Handle.empty as this_one
use Rattle.mold_ffi.specs.contracts.handle.Handle.empty.Key.{name as own_name}
use Rattle.mold_ffi.proofs.handle.Handle.empty.Statement.{statement}
use Rattle.mold_ffi.proofs.handle.Handle.empty.Code as code

abbrev stays : Stays (this_one.ended).signature.params (this_one.ended).kept
stays = (stay_dropped FromAllocator yes, tt)

abbrev null_word : Val → Val
null_word bits = vstruct (vcons (ptr_val null_ptr) (vcons bits vnil))

module _ {M : Type 1} {𝓤 : Ura M} (𝓛 : Logic 𝓤) (memory : Memory → SProp 𝓤) (run : Routine → Fun 𝓤) (𝓣 : Tables 𝓤 𝓛.H) where
  open 𝓛 use {H}

  walk : (z : (walk_of 𝓛 this_one.ended stays (this_one.clauses 𝓛 memory run)).Ghost)
      → ent 𝓤 ((walk_of 𝓛 this_one.ended stays (this_one.clauses 𝓛 memory run)).pre z)
      (WpFn 𝓤 H 𝓣.C 𝓣.Λ code.function (z.0.4.0 ++ []) ((walk_of 𝓛 this_one.ended stays (this_one.clauses 𝓛 memory run)).post z))
  walk z =
      let After = (walk_of 𝓛 this_one.ended stays (this_one.clauses 𝓛 memory run)).post z in
      let alloc = z.0.3.0 in
      let made : handle.the_row.Denot = record { at = null_ptr; alloc = alloc; value = None } in
      qed 𝓛 ((‵ ftrue ⊛ ‵ (fsep (E.al.row.own_val alloc z.0.4.0) ftrue)) ∷ raw (emp 𝓤) ∷ []) ∵ split ! $ drop ! $ fsplit ! $
      handle_tells E.al ! alloc z.0.4.0 (λ bits as_bits fits. move ! (1 ∷ 2 ∷ []) $ drop ! $ drop ! $
      let Context : List (Item 𝓤) = ‵ (E.al.row.own_val alloc (bits ∷ [])) ∷ [] in
      by ! (subst (λ (words : List Val). ent 𝓤 (types.Kit.⋆ 𝓛 Context) (WpFn 𝓤 H 𝓣.C 𝓣.Λ code.function (words ++ []) After)) (sym as_bits)
      (qed 𝓛 Context ∵ enter ! 𝓣.C 𝓣.Λ code.function (bits ∷ []) _ $
      alloc_all ! (λ locals. pass_all ! refl (fits, tt) $
      sets ! (agg ! (and_then ! (lit ! tt) (and_then ! (get ! refl) (no_more !)))) refl (and_tt _ fits.0, (record { fits = lit< tt }, (fits.1, tt))) $
      returns ! (look_at ! 0 refl) $ free_all ! refl $
      -- [nothing; the allocator]: the fields; nothing else is owned.
      nothing ! $ move ! (1 ∷ 0 ∷ []) $ fjoin ! $
      feq_i ! (List Val) (ptr_val null_ptr ∷ []) (ptr_val null_ptr ∷ []) refl $ fjoin ! $
      feq_i ! (List Val) (null_word bits ∷ []) (null_word bits ∷ []) refl $ fjoin ! $
      fpack ! (Valss (RawPtr ∷ E.al.row ∷ [])) (within (shape handle.the_type) (to handle.the_type made) (null_word bits ∷ []))
      (ptr_val null_ptr ∷ [], (bits ∷ [], tt)) $
      nothing ! $ move ! (1 ∷ 0 ∷ []) $ fjoin ! $
      suffices ! _ (ends_at 𝓛 this_one.ended stays (this_one.clauses 𝓛 memory run) z (null_word bits) made (tt, tt) (tt, tt)) $ says ! refl $
      nothing ! $ nothing ! $ fjoin ! $ join ! $ nothing ! $ join ! $ done !))))

pub empty_spec : {M : Type 1} → statement M
unfolding tables_of
empty_spec 𝓤 𝓛 𝓜 𝓡 wired =
    let 𝓣 : Tables 𝓤 𝓛.H = tables_of 𝓤 𝓛.H 𝓜 (tables 𝓤 𝓛.H 𝓜 𝓡 𝓡.env) in
    entered 𝓤 𝓛.H (triple_of 𝓛 this_one.signature (this_one.spec 𝓛 𝓜.mem 𝓡.returns)) 𝓣.C 𝓣.Λ own_name code.function (code.unfolded 𝓤 𝓛.H 𝓜 𝓡 wired)
    (walk_Meets 𝓛 this_one.ended stays (Goes-dropped 𝓛 0 FromAllocator yes (λ lives x w. refl), tt)
    (this_one.clauses 𝓛 𝓜.mem 𝓡.returns) (WpFn 𝓤 𝓛.H 𝓣.C 𝓣.Λ code.function) (WpFn-mono 𝓤 𝓛.H 𝓛.laws 𝓣 code.function)
    (walk 𝓛 𝓜.mem 𝓡.returns 𝓣))
