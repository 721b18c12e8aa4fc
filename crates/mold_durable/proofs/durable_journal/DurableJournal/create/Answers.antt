use Rattle.std.proofs.Common.{ℕ, List, [], length, inl, refl, sym, arith, ap, length-append}
use Rattle.mold_durable.specs.Group.{GroupState}
use Rattle.mold_durable.specs.Head.{IsNoneOrEmpty}
use Rattle.mold_session.specs.Records.{head_3}
use Rattle.mold_durable.proofs.HeadLemmas.{length-head_3, none_short}
use Rattle.mold_durable.proofs.MomentLemmas.{started}
use Rattle.mold_durable.proofs.durable_journal.DurableJournal.create.Goals as goal

pub returns-in_default-clause-any_moment : goal.returns-in_default-clause-any_moment
returns-in_default-clause-any_moment g c = λ empty.
    started g.S.Storage.moment g.S.Storage.left_since c.args.storage (IsNoneOrEmpty c.args.session)
    (λ b left. inl (none_short b
    (omega (arith, ap (λ (t : List ℕ). length t) (empty.left b (g.met.S.Storage.only_now c.args.storage b left))))))

pub returns-in-Ok-write_head-clause-settled : goal.returns-in-Ok-write_head-clause-settled
returns-in-Ok-write_head-clause-settled g c = λ empty.
    let named = c.in-Ok-write_head.ensures.named in
    record {
      settled = record {
        kept = c.in-Ok-write_head.ensures.kept empty;
        ends = omega (arith, length-append (head_3 c.args.session.0) [], length-head_3 c.args.session.0 named);
        counted = refl;
        named = named;
        listed = record { few = omega arith; each = tt };
      };
      session = refl;
      closed = refl;
      waiting = sym (ap (λ (s : GroupState). s.messages) c.in-Ok.ensures);
    }
