use Rattle.std.proofs.Common.{◌≡◌, ◌+◌, ◌-◌, ◌<◌, [], length, subst, sym, true, ◌∙◌}
use Rattle.mold_wire.specs.Block.{blocks as packed}
use Rattle.mold_receiver.specs.declared.taken.Taken.{Taken}
use Rattle.mold_receiver.specs.Keeping.{count_absent}
use Rattle.mold_receiver.specs.Receive.{data_packet, exceeds, handed_on, taken_of, view_after}
use Rattle.mold_receiver.specs.Store.{stored_bytes}
use Rattle.mold_receiver.specs.View.{View, view_over}
use Rattle.mold_receiver.proofs.AboveLemmas.{above_handed, dropped_taken, dropped_view}
use Rattle.mold_receiver.proofs.receiver.Receiver.drop_messages.Goals as goal

pub returns-clause-taken : goal.returns-clause-taken
returns-clause-taken c =
    let a = c.self.inside in
    let blocks = c.args.blocks.now in
    let above = subst (λ (v : View). v.next < c.args.first) (sym c.self.view_is) c.requires.above in
    let over = subst (λ (v : View). exceeds v.room (stored_bytes v.store + length (packed blocks)) ≡ true)
    (sym c.self.view_is) c.requires.room in
    let beyond : c.count_absent-beyond.result ≡ count_absent a.slots (c.args.first - a.next) blocks =
    c.count_absent-beyond.ensures in (
      subst (λ (v : View).
          view_over a.room a.session a.next c.max-self-inside.result a.ended a.slots ≡ view_after v
          (data_packet v.session c.args.first blocks)) c.self.view_is
          ((λ i. view_over a.room a.session a.next (c.max-self-inside.ensures i) a.ended a.slots)
          ∙ sym (dropped_view a.room a.session a.next a.known a.ended a.slots c.args.first c.args.top blocks
          c.self.invariant above c.requires.top over)),
      subst (λ (v : View). ◌≡◌ {A = Taken} (record { handed = 0; kept = 0; beyond = c.count_absent-beyond.result })
          (taken_of v (data_packet v.session c.args.first blocks)
          (view_after v (data_packet v.session c.args.first blocks)))) c.self.view_is
          ((λ i. record { handed = 0; kept = 0; beyond = beyond i })
          ∙ sym (dropped_taken a.room a.session a.next a.known a.ended a.slots c.args.first c.args.top blocks
          c.self.invariant above c.requires.top over)),
    )

pub returns-clause-handed : goal.returns-clause-handed
returns-clause-handed c =
    let a = c.self.inside in
    let blocks = c.args.blocks.now in
    let above = subst (λ (v : View). v.next < c.args.first) (sym c.self.view_is) c.requires.above in
    subst (λ (v : View). handed_on v c.args.first blocks ≡ []) c.self.view_is
    (above_handed (view_over a.room a.session a.next a.known a.ended a.slots) c.args.first blocks c.self.invariant above)
