use Rattle.mold_receiver.proofs.KeptLemmas.{kept_new, new_on}
use Rattle.mold_receiver.proofs.TightLemmas.{tight_new}
use Rattle.mold_receiver.proofs.shelf.Shelf.new.Goals as goal

pub returns-clause-kept : goal.returns-clause-kept
returns-clause-kept c =
    kept_new c.in_ok-new.field-0 c.in_ok-new-2.field-0 c.in_ok-new-3.field-0 c.args.window c.requires.some c.requires.few
    c.in_ok-new.ensures c.in_ok-new-3.ensures.whole
    c.in_ok-new-3.ensures.empty c.in_ok-new-2.ensures

pub returns-clause-empty : goal.returns-clause-empty
returns-clause-empty c =
    new_on c.in_ok-new.field-0 c.in_ok-new-3.field-0 c.args.window c.in_ok-new.ensures

pub returns-clause-tight : goal.returns-clause-tight
returns-clause-tight c =
    tight_new _ c.args.window c.in_ok-new.ensures c.in_ok-new-3.ensures.none
