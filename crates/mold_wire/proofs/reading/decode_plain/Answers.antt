use Rattle.std.proofs.Common.{◌≡◌, ℕ, List, length, sym, subst, ◌∙◌}
use Rattle.std.proofs.lemmas.Bool.{eqb-true}
use Rattle.std.proofs.lemmas.List.{nil_from_length}
use Rattle.std.proofs.lemmas.Slice.Eq.{bytes_eq-Decides}
use Rattle.mold_wire.specs.Block.{AreBlocksAndRest}
use Rattle.mold_wire.specs.Packet.{Spells}
use Rattle.mold_wire.proofs.BlockLemmas.{are_blocks}
use Rattle.mold_wire.proofs.PacketLemmas.{spells_whole}
use Rattle.mold_wire.proofs.ReadingLemmas.{reading-spelled}
use Rattle.mold_wire.proofs.reading.decode_plain.Goals as goal

pub plain_body_from-requires-clause-blocks : goal.plain_body_from-requires-clause-blocks
plain_body_from-requires-clause-blocks c =
    let none = eqb-true (length c.in-Ok.rest.now) 0 (sym c.is_empty.ensures ∙ c.if-not-is_empty.false) in
    are_blocks _ c.in_ok-header.behind.now c.in-Ok.rest.now
    (subst (λ (n : ℕ). AreBlocksAndRest n c.in_ok-header.behind.now c.in-Ok.rest.now) c.stated.ensures c.in-Ok.ensures)
    (nil_from_length c.in-Ok.rest.now none)

pub returns-clause-spelled : goal.returns-clause-spelled
returns-clause-spelled c =
    let header = c.in_ok-header.header in
    let none = eqb-true (length c.in-Ok.rest.now) 0 (sym c.is_empty.ensures ∙ c.if-not-is_empty.false) in
    let all =
    are_blocks _ c.in_ok-header.behind.now c.in-Ok.rest.now
    (subst (λ (n : ℕ). AreBlocksAndRest n c.in_ok-header.behind.now c.in-Ok.rest.now) c.stated.ensures c.in-Ok.ensures)
    (nil_from_length c.in-Ok.rest.now none)
    in
    let same : header.session.0 ≡ c.args.session.now.0 =
    sym ((bytes_eq-Decides c.args.session.now.0 header.session.0).0 (sym c.is_same.ensures ∙ c.if-not-is_same.false)) in
    subst (λ (name : List ℕ).
    Spells (record { session = record { 0 = name }; sequence = header.sequence; body = c.plain_body_from.result })
    c.args.bytes.now) same
    (spells_whole header c.args.bytes.now c.in_ok-header.behind.now _ c.plain_body_from.result c.in_ok-header.ensures
    all.spelled c.plain_body_from.ensures)

pub returns-clause-exact : goal.returns-clause-exact
returns-clause-exact c = reading-spelled _ c.args.bytes.now (returns-clause-spelled c)
