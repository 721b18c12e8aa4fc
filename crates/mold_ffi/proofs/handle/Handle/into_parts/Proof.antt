-- `into_parts` moves the pointer and the allocator, and the parts own what the handle owned.
use Rattle.mold_ffi.proofs.Walking.{◌≡◌, refl, sym, subst, List, [], ◌∷◌, ◌++◌, Ura, Val, SProp, ent, id⊢, ftrue, fsep, Fun, fact, tables, tables_of}
use Rattle.mold_ffi.proofs.Walking.{Memory, Routine, WpFn, Tables, Logic, WpFn-mono, Item, ‵, raw, ◌⊛◌, ◌$◌, ◌∵◌, !, qed, by, move, drop, use1, join}
use Rattle.mold_ffi.proofs.Walking.{split, rewrite, fsplit, fjoin, suffices, done, whole, sub, agg, stop, fld, no_more, and_then, of_opd, returns, enter}
use Rattle.mold_ffi.proofs.Walking.{alloc_all, pass_all, free_all, look_at, get, get_in, sets, yes, type_at, heard, nothing, triple_of, entered, says, Stays}
use Rattle.mold_ffi.proofs.Walking.{stay_dropped, walk_of, ends_at, Goes-dropped, walk_Meets, D, B, word, box_typed, box_out, box_in, Option, is_some, true}
use Rattle.mold_ffi.proofs.AsBox.{E, FromHandle, has}
use Rattle.mold_ffi.specs.declared.handle.held.Held.{Held}
use Rattle.mold_ffi.specs.contracts.handle.Handle as handle
use Rattle.mold_ffi.specs.contracts.handle.Handle.into_parts as this_one
use Rattle.mold_ffi.specs.contracts.handle.Handle.into_parts.Key.{name as own_name}
use Rattle.mold_ffi.proofs.handle.Handle.into_parts.Statement.{statement}
use Rattle.mold_ffi.proofs.handle.Handle.into_parts.Code as code

abbrev stays : Stays (this_one.ended).signature.params (this_one.ended).kept
stays = (stay_dropped FromHandle yes, tt)

module _ {M : Type 1} {𝓤 : Ura M} (𝓛 : Logic 𝓤) (memory : Memory → SProp 𝓤) (run : Routine → Fun 𝓤) (𝓣 : Tables 𝓤 𝓛.H) where
  open 𝓛 use {H}

  walk : (z : (walk_of 𝓛 this_one.ended stays (this_one.clauses 𝓛 memory run)).Ghost)
      → ent 𝓤 ((walk_of 𝓛 this_one.ended stays (this_one.clauses 𝓛 memory run)).pre z)
      (WpFn 𝓤 H 𝓣.C 𝓣.Λ code.function (z.0.4.0 ++ []) ((walk_of 𝓛 this_one.ended stays (this_one.clauses 𝓛 memory run)).post z))
  walk z =
      let After = (walk_of 𝓛 this_one.ended stays (this_one.clauses 𝓛 memory run)).post z in
      let given = z.0.3.0 in
      qed 𝓛 ((‵ ftrue ⊛ ‵ (fsep (handle.the_row.own_val given z.0.4.0) ftrue)) ∷ raw (fact 𝓤 (is_some given.value ≡ true)) ∷ []) ∵
      split ! $ drop ! $ fsplit ! $ move ! (2 ∷ []) $ heard ! (is_some given.value ≡ true) (λ holds.
      let found = has given.value holds in
      let boxed : D E = record { ptr = given.at; alloc = given.alloc; value = found.0 } in
      let Made = type_at (this_one.signature).result tt in
      let made : Made.Denot = record { pointer = given.at; alloc = given.alloc; value = found.0 } in
      rewrite ! 0 (λ (value : Option Held). ‵ (handle.the_row.own_val (record { at = given.at; alloc = given.alloc; value = value }) z.0.4.0)) found.1 refl $
      -- A handle that is not empty owns what a box owns.
      use1 𝓛 (‵ ((B E).own_val boxed z.0.4.0)) (id⊢ 𝓤 _) $
      box_out E ! boxed z.0.4.0 (λ block offset bits there as_word fits.
      let word_there = word E bits block offset in
      box_in E ! boxed block offset boxed.value there refl $ use1 𝓛 (‵ (Made.own_val made (word_there ∷ []))) (id⊢ 𝓤 _) $
      move ! (1 ∷ []) $ drop ! $
      let Context : List (Item 𝓤) = ‵ (Made.own_val made (word_there ∷ [])) ∷ [] in
      by ! (subst (λ (words : List Val). ent 𝓤 (types.Kit.⋆ 𝓛 Context) (WpFn 𝓤 H 𝓣.C 𝓣.Λ code.function (words ++ []) After)) (sym as_word)
      (qed 𝓛 Context ∵ enter ! 𝓣.C 𝓣.Λ code.function (word_there ∷ []) _ $
      alloc_all ! (λ locals. pass_all ! refl (box_typed E bits block offset fits, tt) $
      sets ! (of_opd ! (get_in ! (fld ! refl (stop !)) (sub ! 0 refl (whole !)))) refl (tt, tt) $
      sets ! (of_opd ! (get_in ! (fld ! refl (stop !)) (sub ! 1 refl (whole !)))) refl fits $
      sets ! (of_opd ! (get ! refl)) refl (tt, tt) $
      sets ! (agg ! (and_then ! (get ! refl) (and_then ! (get ! refl) (no_more !)))) refl (box_typed E bits block offset fits) $
      returns ! (look_at ! 0 refl) $ free_all ! refl $
      suffices ! _ (ends_at 𝓛 this_one.ended stays (this_one.clauses 𝓛 memory run) z word_there made (tt, tt) (tt, tt)) $ says ! (sym found.1) $
      nothing ! $ nothing ! $ fjoin ! $ join ! $ nothing ! $ join ! $ done !)))))

pub into_parts_spec : {M : Type 1} → statement M
unfolding tables_of
into_parts_spec 𝓤 𝓛 𝓜 𝓡 wired =
    let 𝓣 : Tables 𝓤 𝓛.H = tables_of 𝓤 𝓛.H 𝓜 (tables 𝓤 𝓛.H 𝓜 𝓡 𝓡.env) in
    entered 𝓤 𝓛.H (triple_of 𝓛 this_one.signature (this_one.spec 𝓛 𝓜.mem 𝓡.returns)) 𝓣.C 𝓣.Λ own_name code.function (code.unfolded 𝓤 𝓛.H 𝓜 𝓡 wired)
    (walk_Meets 𝓛 this_one.ended stays (Goes-dropped 𝓛 0 FromHandle yes (λ lives x w. refl), tt)
    (this_one.clauses 𝓛 𝓜.mem 𝓡.returns) (WpFn 𝓤 𝓛.H 𝓣.C 𝓣.Λ code.function) (WpFn-mono 𝓤 𝓛.H 𝓛.laws 𝓣 code.function)
    (walk 𝓛 𝓜.mem 𝓡.returns 𝓣))
