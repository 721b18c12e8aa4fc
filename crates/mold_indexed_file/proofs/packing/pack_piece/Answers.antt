use Rattle.std.proofs.Common.{◌≡◌, ℕ, ◌-◌, [], ap, subst, ◌∙◌}
use Rattle.mold_wire.specs.Packer.{Open, PackerState}
use Rattle.mold_wire.specs.declared.session.Session.{Session}
use Rattle.mold_session.specs.Loading.{message_spelling}
use Rattle.mold_index.specs.Scan.{FindsMessage}
use Rattle.mold_indexed_file.proofs.PackLemmas.{gathers_first}
use Rattle.mold_indexed_file.proofs.packing.pack_piece.Goals.{Else-not-add}
use Rattle.mold_indexed_file.proofs.packing.pack_piece.Goals as goal

-- The packet was begun for the plan's next message.
begun : (c : Else-not-add) → c.start.new.self
    ≡ record { limit = c.args.packer.now.limit; begun = Open c.args.plan.now.session c.args.plan.now.from [] }
begun c =
    let made : Session → ℕ → PackerState =
    λ session sequence. record { limit = c.args.packer.now.limit; begun = Open session sequence [] } in
    c.start.ensures
    ∙ ap (λ (s : Session). made s c.from-from.result) c.session.ensures
    ∙ ap (λ (n : ℕ). made c.args.plan.now.session n) c.from-from.ensures.value

found : (c : Else-not-add) → FindsMessage (message_spelling c.args.version) (c.args.plan.now.from - c.args.first)
    c.args.bytes.now c.in_ok-message.message.now c.in_ok-message.rest.now
found c =
    subst (λ (n : ℕ). FindsMessage (message_spelling c.args.version) (n - c.args.first) c.args.bytes.now
    c.in_ok-message.message.now c.in_ok-message.rest.now) c.from-from.ensures.value c.in_ok-message.ensures

pub loop-count-init : goal.loop-count-init
loop-count-init c =
    gathers_first (message_spelling c.args.version) (c.args.plan.now.from - c.args.first) c.args.bytes.now
    c.args.plan.now.session c.args.plan.now.from c.args.packer.now c.start.new.self c.add.new.self
    c.in_ok-message.message.now c.in_ok-message.rest.now c.packet_length_law.ensures.one_more
    c.packet_length_law.ensures.none c.requires.limit (found c) (begun c)
    (c.add.ensures.fits.0 c.if-not-add.false) c.if-not-add.ensures.added
