use Rattle.std.proofs.Common.{◌≡◌, ◌-◌, ◌%◌, ◌∙◌, ap, arith, length, max, refl, slice_set, sym, List, ℕ}
use Rattle.std.proofs.lemmas.List.{with_items_is}
use Rattle.mold_audit.specs.Digest.{digest}
use Rattle.mold_audit.specs.Kept.{AreEmptied}
use Rattle.mold_audit.proofs.NoteLemmas.{has_noted}
use Rattle.mold_audit.proofs.audit.Audit.note.Goals as goal

pub returns : goal.returns
returns c =
    let old = c.args.self.now in
    let slots = old.slots.items in
    let mid = c.empty_slots.new.slots in
    let at = c.args.number in
    let count : c.len-size.result ≡ length slots = omega (arith, c.len-size.ensures, old.slots.ok.0) in
    let from : c.max-from.result ≡ max old.next (at - length slots) =
    c.max-from.ensures ∙ ap (max old.next) (c.saturating_sub.ensures ∙ ap (λ (n : ℕ). at - n) count) in
    let emptied : AreEmptied slots mid (max old.next (at - length slots)) at at =
    rw (from, c.deref_mut.ensures.value) at c.empty_slots.ensures in
    let same = with_items_is old.slots mid (emptied.size ∙ sym old.slots.ok.0) in
    has_noted old _ mid at c.args.message.now
    (rw (count, c.digest_of.ensures)
    (ap (λ (s : List ℕ). slice_set s (at % length slots) (digest c.args.message.now)) same))
    refl (omega (arith, count, c.if-size-eq0.false)) c.requires.ascending emptied
