use Rattle.std.proofs.Common.{◌≡◌, ◌+◌, ℕ, take, sym, ap, subst, ◌∙◌, arith}
use Rattle.std.specs.Prelude.{Some, None}
use Rattle.mold_receiver.specs.Places.{place_at}
use Rattle.mold_receiver.proofs.ReleaseLemmas.{IsReleasing, flushed, held_more, held_same, held_short, pending_more}
use Rattle.mold_receiver.proofs.ReleaseLemmas.{pending_same, pending_there, place_there}
use Rattle.mold_receiver.proofs.SkipLemmas.{first_left, one_left}
use Rattle.mold_receiver.proofs.release.release.Goals.{in-Some, then-place-key, else-place-key, in_default}
use Rattle.mold_receiver.proofs.release.release.Goals as goal

pub let_go-requires-clause-some : goal.let_go-requires-clause-some
let_go-requires-clause-some c =
    let i = c.loop-slot.invariant in
    pending_there c.args.segments.now c.loop-slot.segments c.args.ring.now c.loop-slot._slot c.loop-slot.key
    c.loop-slot.pending c.requires.counted i.releasing

pub let_go-requires-2-clause-some : goal.let_go-requires-2-clause-some
let_go-requires-2-clause-some c =
    let i = c.loop-slot.invariant in
    pending_there c.args.segments.now c.loop-slot.segments c.args.ring.now c.loop-slot._slot c.loop-slot.key
    c.loop-slot.pending c.requires.counted i.releasing

pub overflow_add-held : goal.overflow_add-held
overflow_add-held c =
    let i = c.loop-slot.invariant in
    omega (
      arith,
      i.held,
      held_short c.args.segments.now c.args.ring.now c.loop-slot._slot,
      place_there c.args.ring.now c.loop-slot._slot c.in-Some.place (sym (first_left c.args.ring.now c.loop-slot.ring c.loop-slot._slot i.left) ∙ sym c.pop.ensures.place ∙ c.in-Some.is),
      c.requires.few,
    )

pub overflow_add-pending : goal.overflow_add-pending
overflow_add-pending c =
    let i = c.loop-slot.invariant in
    elim c.if-place-key.branch [
      | then-place-key w ↦ rw w.pending-is (omega arith)
      | else-place-key w ↦
          rw w.pending-is (omega (
            arith,
            i.few,
            i.held,
            held_short c.args.segments.now c.args.ring.now c.loop-slot._slot,
            place_there c.args.ring.now c.loop-slot._slot c.in-Some.place (sym (first_left c.args.ring.now c.loop-slot.ring c.loop-slot._slot i.left) ∙ sym c.pop.ensures.place ∙ c.in-Some.is),
            c.requires.few,
          ))
    ]

pub loop-slot-preserved : goal.loop-slot-preserved
loop-slot-preserved c =
    let i = c.loop-slot.invariant in
    let old = c.args.segments.now in
    let now = c.loop-slot.segments in
    let ring = c.args.ring.now in
    let slot = c.loop-slot._slot in
    let first = first_left ring c.loop-slot.ring slot i.left in
    let left = one_left ring c.loop-slot.ring c.pop.new.self slot i.left c.pop.ensures.moved
    (omega (arith, c.requires.within, c.loop-slot-test.true)) in
    elim c.match-pop.branch [
      | in-Some w ↦
          let at : place_at ring slot ≡ Some w.in-Some.place = sym first ∙ sym c.pop.ensures.place ∙ w.in-Some.is in
          let place = w.in-Some.place in
          elim w.if-place-key.branch [
            | then-place-key w' ↦
                rw (
                  w.segments-is,
                  w.key-is,
                  w.pending-is,
                  w.held-is,
                  w'.segments-is,
                  w'.key-is,
                  w'.pending-is,
                )
                (record {
                  whole = w'.let_go.ensures.whole;
                  releasing = pending_more old w'.let_go.new.self ring slot place 0 at
                      (flushed old now w'.let_go.new.self (take slot ring) c.loop-slot.key c.loop-slot.pending
                      place.segment i.releasing
                      (pending_there old now ring slot c.loop-slot.key c.loop-slot.pending c.requires.counted i.releasing)
                      w'.let_go.ensures.lost);
                  held = ap (λ (n : ℕ). n + 1) i.held ∙ sym (held_more old ring slot place at);
                  few = omega arith;
                  left = left;
                })
            | else-place-key w' ↦
                rw (
                  w.segments-is,
                  w.key-is,
                  w.pending-is,
                  w.held-is,
                  w'.segments-is,
                  w'.key-is,
                  w'.pending-is,
                )
                (record {
                  whole = i.whole;
                  releasing = (let same : place.segment ≡ c.loop-slot.key = w'.if-place-key.false in
                      subst (λ (k : ℕ). IsReleasing old now (take (slot + 1) ring) k (c.loop-slot.pending + 1)) same
                      (pending_more old now ring slot place c.loop-slot.pending at
                      (subst (λ (k : ℕ). IsReleasing old now (take slot ring) k c.loop-slot.pending) (sym same)
                      i.releasing)));
                  held = ap (λ (n : ℕ). n + 1) i.held ∙ sym (held_more old ring slot place at);
                  few = omega (arith, i.few);
                  left = left;
                })
          ]
      | in_default w ↦
          let at : place_at ring slot ≡ None = sym first ∙ sym c.pop.ensures.place ∙ w.in_default.is in
          rw (w.segments-is, w.key-is, w.pending-is, w.held-is) (record {
            whole = i.whole;
            releasing = pending_same old now ring slot c.loop-slot.key c.loop-slot.pending at i.releasing;
            held = i.held ∙ sym (held_same old ring slot at);
            few = i.few;
            left = left;
          })
    ]
