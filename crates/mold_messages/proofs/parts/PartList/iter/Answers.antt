use Rattle.std.proofs.Common.{◌≡◌, ℕ, List, length, take, ap, ◌∙◌, arith}
use Rattle.mold_messages.specs.Offsets.{pieces, start_at}
use Rattle.mold_messages.specs.Parts.{Marked, end_of}
use Rattle.mold_messages.specs.declared.parts.TheConstants.{SPACING}
use Rattle.mold_messages.proofs.PlaceLemmas.{pieces_tight}
use Rattle.mold_messages.proofs.parts.PartList.iter.Goals as goal

pub returns : goal.returns
returns c =
    let f = c.self.inside in
    let all : c.len.result ≡ length f.ends.items = omega (arith, c.len.ensures) in
    let last : c.offset_of-end.result ≡ end_of f.ends.items =
    c.offset_of-end.ensures
    ∙ ap (λ (t : List ℕ). start_at 0 t c.len.result) c.deref.ensures.value
    ∙ ap (start_at 0 f.ends.items) all in
    c.new.ensures
    ∙ ap (λ (t : List ℕ). pieces SPACING 0 t (take c.offset_of-end.result c.deref-3.result.now)) c.deref-2.ensures.value
    ∙ ap (λ (t : List ℕ). pieces SPACING 0 f.ends.items (take c.offset_of-end.result t)) c.deref-3.ensures.value
    ∙ ap (λ (n : ℕ). pieces SPACING 0 f.ends.items (take n f.bytes.items)) last
    ∙ pieces_tight SPACING 0 f.ends.items (end_of f.ends.items) f.bytes.items c.self.invariant.0 c.self.invariant.1
    ∙ ap (λ (m : Marked). m.messages) c.self.view_is
