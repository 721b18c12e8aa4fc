-- Reexports the names that the walks cite. It declares nothing.
pub use mathlib.Core.Path.{◌≡◌, refl, sym, subst, ap, ◌∙◌}
pub use mathlib.Core.List.{List, [], ◌∷◌, ◌++◌}
pub use lib.Dec.{T}
pub use seplogic.Ra.Ura.{Ura}
pub use mir.Syntax.{Fn, Body, Args, Dict, a_type, dcons, dnil, place, copy, assign, rv_opd, seq, return}
pub use mir.MapTy.{inst_fn}
pub use mir.Raw.{raw as bare}
pub use mir.Val.{Val, vptr, vstruct, of_list, has_ty, WT}
pub use base.Logic.{SProp, ent, emp, id⊢, never, fst∗}
pub use base.Fml.{ftrue, fsep, flft}
pub use contract.BorrowLft.{◌⊑◌}
pub use contract.Monad.{Fun, fact}
pub use contract.Running.{tables}
unfoldable pub use contract.Running.{tables_of}
pub use prog.Memory.{Memory}
pub use prog.Routine.{Routine}
pub use prog.Wp.{WpFn, Tables}
pub use types.Logic.{Logic, sem}
pub use sound.WpLaws.{fm_of, WpFn-mono}
pub use types.Kit.{Item, at_ret, ‵, raw, ◌⊛◌, some, later, ◌$◌, ◌∵◌, !, qed, by, move, drop, use1, join, split, split3, pick, rewrite, await}
pub use types.Kit.{fsplit, fjoin, fpick, feq_l, feq_i, suffices, done}
pub use types.Part.{whole, sub, agg}
pub use types.Run.{stop, fld, no_more, and_then, of_opd, returns, enter, first, blocks, exec}
pub use types.ByLocal.{alloc_all, pass_all, free_all, look_at, get, get_in, sets, lands_as, lands_last, env}
pub use denote.RattleType.{RattleType}
pub use denote.Exit.{yes, no}
pub use denote.Param.{bounded}
pub use denote.RawPtr.{Ptr, RawPtr, block_ptr, null_ptr, ptr_val, in_a_block}
pub use denote.Signature.{plain, type_at}
pub use denote.Steps.{heard, nothing, only}
pub use denote.Struct.Tuple.{Tuple}
pub use denote.Triple.Call.{calls_at, calls_at_last}
pub use denote.Triple.Clauses.{Ended, Clauses}
pub use denote.Triple.Spec.{triple_of}
pub use denote.Triple.Statement.{Triple, Contract}
pub use denote.Triple.Table.{entered}
pub use denote.Triple.Walked.{says, Stays, stay_dropped, walk_of, ends_at, walk_Meets, Goes-dropped}
pub use Rattle.std.proofs.alloc.Calls.{token, handle_tells, Goes-blank}
pub use Rattle.std_alloc.specs.Box.Ownership.{box_owns}
pub use Rattle.std_alloc.proofs.BoxSteps.Form.{Bx, D, τ, R, P, B, args, box_ty, word, box_typed}
pub use Rattle.std_alloc.proofs.BoxSteps.Steps.{box_out, box_in}
pub use Rattle.std.proofs.Common.{ℕ, Option, Some, None, is_some, true, lit<}
pub use base.Fraction.{full_share}
pub use base.Logic.{sep, via}
pub use base.Fml.{Lft, GName, Share, Fml}
pub use mir.Syntax.{named}
pub use mir.Val.{vcons, vnil}
pub use prog.Wp.{Env, Calls, Loops}
pub use types.Kit.{keep, fsplit3, frame, group, fpack}
pub use types.Part.{look_in}
pub use types.Run.{lit, load, addr}
pub use types.ByLocal.{through, sets_last}
pub use denote.Follow.{follows, Part, lends_Part}
pub use denote.Memory.{part_at, mem, cell_at}
unfoldable pub use denote.Memory.{part_of}
pub use denote.RattleType.{owns, Valss}
pub use denote.Ref.{MutRef, mut_vals, mut_Tells}
pub use denote.Signature.{mut_ref_to}
pub use denote.Steps.{opens}
pub use denote.Struct.Owning.{shape, to}
pub use denote.Struct.Struct.{within}
pub use denote.Triple.Entry.{on_entry}
pub use denote.Triple.Walked.{walked, Goes-spent_ref}
pub use Rattle.std_alloc.proofs.BoxSteps.Form.{handle as allocator_owns}
pub use Rattle.std_alloc.proofs.ResultValues.{and_tt}
pub use Rattle.std_alloc.proofs.VecSteps.Shapes.{after}
