use Rattle.std.proofs.Common.{◌∷◌, length, refl, inl, subst, sym, ◌∙◌, arith}
use Rattle.std.proofs.lemmas.Bool.{eqb-true}
use Rattle.mold_session.specs.FileFault.{RecordFault, cut_message}
use Rattle.mold_session.specs.declared.error.FileError.{FileError}
use Rattle.mold_session.proofs.RecordReadingLemmas.{block_fault}
use Rattle.mold_session.proofs.checking.skip_record_block.Goals as goal

pub returns-then-is_empty-clause-refused : goal.returns-then-is_empty-clause-refused
returns-then-is_empty-clause-refused c = (
  refl,
  cut_message c.args.rest.now (omega (arith, c.requires, c.if-count-eq-MAX_MESSAGES.false)) refl
      (inl (omega (arith, eqb-true (length c.args.rest.now) 0 (sym c.is_empty.ensures ∙ c.if-is_empty.true)))),
)

pub returns-in-Err-clause-refused : goal.returns-in-Err-clause-refused
returns-in-Err-clause-refused c =
    subst (λ (e : FileError). RecordFault c.args.most c.args.count (1 ∷ 0 ∷ c.args.rest.now) e)
    (sym c.record_fault.ensures)
    (block_fault c.args.most c.args.count c.args.rest.now c.in-Err.error c.in-Err.ensures.refused)
