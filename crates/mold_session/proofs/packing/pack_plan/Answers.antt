use Rattle.std.proofs.Common.{◌≡◌, ℕ, arith, subst, sym}
use Rattle.mold_wire.specs.Packer.{Open}
use Rattle.mold_wire.specs.declared.session.Session.{Session}
use Rattle.mold_session.proofs.ServingLemmas.{packed_next}
use Rattle.mold_session.proofs.packing.pack_plan.Goals as goal

pub returns : goal.returns
returns c = record {
  packed = λ room to.
      packed_next c.args.packer.now c.pack_front.new.packer c.args.journal.now c.args.plan.now c.session.result
      c.from-from.result c.to.result c.iter_from-messages.result c.pack_front.result
      c.front_law.ensures.only c.front_law.ensures.some
      (λ limit message. (c.packet_length_law.ensures.alone limit message).0)
      c.to.ensures.plan c.iter_from-messages.ensures.journal room to c.session.ensures
      c.from-from.ensures.value c.to.ensures.value c.iter_from-messages.ensures.from c.pack_front.ensures;
  begun = (
    c.pack_front.ensures.found,
    sym c.pack_front.ensures.counted,
    subst
        (λ (s : Session). c.pack_front.new.packer ≡ record {
          limit = c.args.packer.now.limit;
          begun = Open s c.args.plan.now.from c.pack_front.ensures.found;
        })
        c.session.ensures
        (subst
        (λ (n : ℕ). c.pack_front.new.packer ≡ record {
          limit = c.args.packer.now.limit;
          begun = Open c.session.result n c.pack_front.ensures.found;
        })
        c.from-from.ensures.value c.pack_front.ensures.begun),
  );
  within = omega (
    arith,
    c.pack_front.ensures.counted,
    c.pack_front.ensures.longest.few,
    c.from-from.ensures.value,
    c.to.ensures.value,
    c.to.ensures.plan,
  );
}
