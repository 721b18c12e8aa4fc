use Rattle.std.proofs.Common.{◌≡◌, true, false, sym, ◌∙◌, arith}
use Rattle.mold_session.proofs.PackingLemmas.{gathers_none, gathers_more, packed_all, packed_most, packed_full}
use Rattle.mold_unsent.proofs.packing.pack_front.Goals.{then-count-most-via-then-count-most}
use Rattle.mold_unsent.proofs.packing.pack_front.Goals.{then-count-most-via-else-count-most+then-not-add}
use Rattle.mold_unsent.proofs.packing.pack_front.Goals as goal

pub loop-message-init : goal.loop-message-init
loop-message-init c =
    gathers_none c.args.packer.now.limit c.args.session c.args.sequence c.args.messages c.args.most c.start.new.self
    c.into_iter-message-iterator.result
    c.requires c.packet_length_law.ensures.none c.start.ensures
    c.into_iter-message-iterator.ensures.into_iter_gives

pub overflow_add-count : goal.overflow_add-count
overflow_add-count c =
    let few = c.loop-message.invariant.few in
    omega (arith, few, c.if-count-most.false, c.ranges.most.fits)

pub loop-message-preserved : goal.loop-message-preserved
loop-message-preserved c =
    gathers_more c.args.packer.now.limit c.args.session c.args.sequence c.args.messages c.args.most
    c.loop-message.packer c.loop-message.message-iterator c.loop-message.count
    c.in-Some.message.now c.next.new.self c.add.new.self c.packet_length_law.ensures.one_more c.loop-message.invariant
    c.if-count-most.false c.in-Some.ensures.steps
    c.if-not-add.ensures.added (c.add.ensures.fits.0 c.if-not-add.false)

pub returns-in-None : goal.returns-in-None
returns-in-None c =
    packed_all c.args.packer.now c.args.session c.args.sequence c.args.messages c.args.most c.loop-message.packer
    c.loop-message.message-iterator c.loop-message.count
    c.front_law.ensures.stops c.loop-message.invariant c.in-None.ensures.steps.0

pub returns-then-count-most : goal.returns-then-count-most
returns-then-count-most c =
    elim c.then-count-most.branch [
      | then-count-most-via-then-count-most w ↦
          packed_most c.args.packer.now c.args.session c.args.sequence c.args.messages c.args.most
          c.loop-message.packer c.then-count-most.packer c.loop-message.message-iterator c.loop-message.count
          c.front_law.ensures.stops c.loop-message.invariant w.if-count-most.true w.packer-is
      | then-count-most-via-else-count-most+then-not-add w ↦
          packed_full c.args.packer.now c.args.session c.args.sequence c.args.messages c.args.most
          c.loop-message.packer c.loop-message.message-iterator c.loop-message.count
          c.in-Some.message.now c.next.new.self c.then-count-most.packer c.packet_length_law.ensures.one_more
          c.front_law.ensures.stops c.loop-message.invariant c.in-Some.ensures.steps
          (w.packer-is ∙ w.if-not-add.ensures.same)
          (λ room. let e : false ≡ true = sym w.if-not-add.true ∙ w.add.ensures.fits.1 room in cc)
    ]
