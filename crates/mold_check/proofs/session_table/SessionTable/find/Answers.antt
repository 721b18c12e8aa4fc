use Rattle.std.proofs.Common.{ap, slice_get, sym, ◌∙◌}
use Rattle.mold_check.proofs.EachLemmas.{found_key, found_last}
use Rattle.mold_check.proofs.session_table.SessionTable.find.Goals as goal

pub returns-then-eq : goal.returns-then-eq
returns-then-eq g c =
    found_last c.self.inside.map.entries _ c.self.inside.last c.args.key.now c.in-Some.known.now c.in-Some.field-0-1.now
    c.as_slice.ensures.unique
    (ap (λ l. slice_get l c.self.inside.last) (sym c.as_slice.ensures.entries) ∙ sym c.in-Some.ensures.entry)
    (sym c.eq.ensures ∙ c.if-eq.true) c.self.view_is

pub returns : goal.returns
returns g c =
    found_key c.self.inside.map.entries _ c.args.key.now _ c.get_index_of.ensures.index c.self.view_is
