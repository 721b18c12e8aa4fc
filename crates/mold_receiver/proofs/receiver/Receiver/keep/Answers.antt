use Rattle.std.proofs.Common.{◌≡◌, ◌+◌, ◌-◌, ◌<◌, max, [], length, subst, sym, ap, ◌∙◌, arith, None, false, refl}
use Rattle.std.specs.Prelude.{Result, Ok, Err, OnErr}
use Rattle.mold_wire.specs.declared.packet.Body.TheVariants.{Data}
use Rattle.mold_receiver.specs.declared.taken.Taken.{Taken}
use Rattle.mold_receiver.specs.Keeping.{fresh}
use Rattle.mold_wire.specs.Block.{blocks as packed}
use Rattle.mold_receiver.specs.Receive.{TakesMemory, exceeds, data_packet, handed_on, view_after, taken_of}
use Rattle.mold_rule.specs.Refusals.{past_end}
use Rattle.mold_receiver.specs.Store.{first_conflict, from_next, stored_bytes}
use Rattle.mold_receiver.specs.View.{View, IsWellFormed, view_over}
use Rattle.mold_receiver.proofs.WellLemmas.{stays_well}
use Rattle.mold_receiver.proofs.AboveLemmas.{above_handed, kept_view, ahead_taken}
use Rattle.mold_receiver.proofs.receiver.Receiver.keep.Goals as goal

pub invariant_of-self-2 : goal.invariant_of-self-2
invariant_of-self-2 c =
    let a = c.self.inside in
    let blocks = c.args.blocks.now in
    let above = subst (λ (v : View). v.next < c.args.first) (sym c.self.view_is) c.requires.above in
    let none = subst (λ (v : View). first_conflict v.store (from_next v.next c.args.first blocks) ≡ None)
    (sym c.self.view_is) c.requires.same in
    let room = subst (λ (v : View). exceeds v.room (stored_bytes v.store + length (packed blocks)) ≡ false)
    (sym c.self.view_is) c.requires.room in
    let end = subst (λ (v : View). past_end v.ended (Data blocks) (c.args.first + length blocks) ≡ None)
    (sym c.self.view_is) (ap (past_end c.args.self.now.ended (Data blocks)) c.requires.top ∙ c.requires.end) in
    let puts = rw c.in_ok-kept.was at c.keep.ensures.filled in
    subst IsWellFormed
    (sym (kept_view a.room a.session a.next a.known a.ended a.slots c.args.first c.args.top blocks c.max-self-inside.result
    c.keep.new.self c.self.invariant above c.requires.top none room c.max-self-inside.ensures puts))
    (stays_well (view_over a.room a.session a.next a.known a.ended a.slots)
    (data_packet a.session c.args.first blocks) c.self.invariant
    (omega (arith, c.requires.top, c.ranges.top.fits)) refl end)

pub returns-clause-taken : goal.returns-clause-taken
returns-clause-taken c =
    let a = c.self.inside in
    let blocks = c.args.blocks.now in
    let above = subst (λ (v : View). v.next < c.args.first) (sym c.self.view_is) c.requires.above in
    let none = subst (λ (v : View). first_conflict v.store (from_next v.next c.args.first blocks) ≡ None)
    (sym c.self.view_is) c.requires.same in
    let room = subst (λ (v : View). exceeds v.room (stored_bytes v.store + length (packed blocks)) ≡ false)
    (sym c.self.view_is) c.requires.room in
    let kept : c.in_ok-kept.kept ≡ length (fresh a.slots (c.args.first - a.next) blocks) = c.in_ok-kept.ensures.count in
    let beyond : c.count_beyond-beyond.result ≡ c.args.top - max c.args.first (a.next + length a.slots) =
    omega (arith, c.count_beyond-beyond.ensures, c.len.ensures.length, c.len-2.ensures.length, c.requires.top, above)
    in
    let puts = rw c.in_ok-kept.was at c.keep.ensures.filled in (
      subst (λ (v : View).
          view_over a.room a.session a.next c.max-self-inside.result a.ended c.keep.new.self ≡ view_after v
          (data_packet v.session c.args.first blocks)) c.self.view_is
          (kept_view a.room a.session a.next a.known a.ended a.slots c.args.first c.args.top blocks c.max-self-inside.result
          c.keep.new.self c.self.invariant above c.requires.top none room c.max-self-inside.ensures puts),
      subst (λ (v : View). ◌≡◌ {A = Taken}
          (record { handed = 0; kept = c.in_ok-kept.kept; beyond = c.count_beyond-beyond.result })
          (taken_of v (data_packet v.session c.args.first blocks)
          (view_after v (data_packet v.session c.args.first blocks)))) c.self.view_is
          ((λ i. record { handed = 0; kept = kept i; beyond = beyond i })
          ∙ sym (ahead_taken a.room a.session a.next a.known a.ended a.slots c.args.first c.args.top blocks c.self.invariant above
          c.requires.top none room)),
    )

pub returns-in_err-kept-clause-handed : goal.returns-in_err-kept-clause-handed
returns-in_err-kept-clause-handed c =
    let a = c.self.inside in
    let blocks = c.args.blocks.now in
    let above = subst (λ (v : View). v.next < c.args.first) (sym c.self.view_is) c.requires.above in
    subst (λ (v : View). handed_on v c.args.first blocks ≡ []) c.self.view_is
    (above_handed (view_over a.room a.session a.next a.known a.ended a.slots) c.args.first blocks c.self.invariant above)

pub returns-clause-handed : goal.returns-clause-handed
returns-clause-handed c =
    let a = c.self.inside in
    let blocks = c.args.blocks.now in
    let above = subst (λ (v : View). v.next < c.args.first) (sym c.self.view_is) c.requires.above in
    subst (λ (v : View). handed_on v c.args.first blocks ≡ []) c.self.view_is
    (above_handed (view_over a.room a.session a.next a.known a.ended a.slots) c.args.first blocks c.self.invariant above)

on_err : {T E : Type 0} {P : Type 0} (r : Result T E) → P → OnErr r P
on_err (Ok x) p = tt
on_err (Err e) p = p

pub returns-in_err-kept-clause-needed : goal.returns-in_err-kept-clause-needed
returns-in_err-kept-clause-needed c =
    let a = c.self.inside in
    let blocks = c.args.blocks.now in
    let above = subst (λ (v : View). v.next < c.args.first) (sym c.self.view_is) c.requires.above in
    let none = subst (λ (v : View). first_conflict v.store (from_next v.next c.args.first blocks) ≡ None)
    (sym c.self.view_is) c.requires.same in
    let room = subst (λ (v : View). exceeds v.room (stored_bytes v.store + length (packed blocks)) ≡ false)
    (sym c.self.view_is) c.requires.room in
    let needed : 0 < length (fresh a.slots (c.args.first - a.next) blocks) =
    rw c.in_err-kept.was at c.keep.ensures.needed in
    on_err c.from_residual.result
    (subst (λ (v : View). TakesMemory v (data_packet v.session c.args.first blocks)) c.self.view_is
    (subst (λ (t : Taken). 0 < t.handed + t.kept)
    (sym (ahead_taken a.room a.session a.next a.known a.ended a.slots c.args.first c.args.top blocks c.self.invariant above
    c.requires.top none room)) (omega (arith, needed))))
