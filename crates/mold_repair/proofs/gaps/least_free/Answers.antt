use Rattle.std.proofs.Common.{◌∙◌, ap, arith, inl, inr}
use Rattle.mold_receiver.specs.View.{View}
use Rattle.mold_repair.proofs.FrontLemmas.{not_missing}
use Rattle.std.proofs.lemmas.Bool.{cases_lt}
use Rattle.mold_repair.proofs.GapLemmas.{not_wanted}
use Rattle.mold_repair.proofs.gaps.least_free.Goals as goal

pub loop-from-smaller : goal.loop-from-smaller
loop-from-smaller c =
    elim c.hole-hole.ensures.some [
      | inl some ↦ omega (arith, some, c.hole-hole.ensures.low, c.loop-from-test.true)
      | inr last ↦ omega (arith, last, c.ranges.limit.fits, c.loop-from-test.true)
    ]

pub loop-from-preserved : goal.loop-from-preserved
loop-from-preserved c =
    let i = c.loop-from.invariant in
    let hole = c.hole-hole.result in
    record {
      sent = λ number below wants. elim (cases_lt number c.loop-from.from.number) [
        | inl before ↦ i.sent number before wants
        | inr after ↦ elim (cases_lt number hole.first) [
          | inl busy ↦ c.hole-hole.ensures.busy number (omega (arith, after)) busy
          | inr inside ↦
              absurd (not_wanted c.args.arbiter.now.view c.args.pacer.now.state.ripe number wants
              (c.first_absent-first.ensures.held number (omega (arith, inside))
              (omega (arith, below, c.if-first-hole.false))))
        ]
      ];
      ahead = λ time q before below missing. elim (cases_lt q c.loop-from.from.number) [
        | inl early ↦ i.ahead time q (omega (arith, before, c.min-until.ensures)) early missing
        | inr after ↦ elim (cases_lt q hole.first) [
          | inl busy ↦ c.hole-hole.ensures.stays time (omega (arith, before, c.min-until.ensures)) q after busy
          | inr inside ↦
              absurd (not_missing c.args.arbiter.now.view q missing
              (c.first_absent-first.ensures.held q inside (omega (arith, below, c.if-first-hole.false))))
        ]
      ];
      later = omega (arith, i.later, c.hole-hole.ensures.later, c.min-until.ensures);
      passed = λ k f before there later. elim c.hole-hole.ensures.some [
        | inl some ↦ omega (arith, c.hole-hole.ensures.passed k f before there later, some)
        | inr last ↦ omega (arith, c.hole-hole.ensures.passed k f before there later, last, c.hole-hole.type_inv)
      ];
      low = elim c.hole-hole.ensures.some [
        | inl some ↦ omega (arith, i.low, c.hole-hole.ensures.low, some)
        | inr last ↦ omega (arith, i.low, last, c.ranges.limit.fits, c.loop-from-test.true)
      ];
    }

pub returns-then-first-limit-clause-front : goal.returns-then-first-limit-clause-front
returns-then-first-limit-clause-front c =
    let i = c.loop-from.invariant in
    let known = c.known-known.ensures ∙ ap (λ (v : View). v.known) c.receiver.ensures in
    record {
      known = omega (arith, known, c.min.ensures);
      sent = λ time q before below missing. elim (cases_lt q c.loop-from.from.number) [
        | inl early ↦ i.ahead time q (omega (arith, before, c.min-until.ensures)) early missing
        | inr after ↦ elim (cases_lt q c.hole-hole.result.first) [
          | inl busy ↦ c.hole-hole.ensures.stays time (omega (arith, before, c.min-until.ensures)) q after busy
          | inr inside ↦
              absurd (not_missing c.args.arbiter.now.view q missing
              (c.first_absent-first.ensures.held q inside (omega (arith, below, c.min.ensures))))
        ]
      ];
    }

pub returns-then-first-limit-clause-later : goal.returns-then-first-limit-clause-later
returns-then-first-limit-clause-later c =
    omega (arith, c.loop-from.invariant.later, c.hole-hole.ensures.later, c.min-until.ensures)

pub returns-else-first-limit-clause-front : goal.returns-else-first-limit-clause-front
returns-else-first-limit-clause-front c =
    let i = c.loop-from.invariant in
    let known = c.known-known.ensures ∙ ap (λ (v : View). v.known) c.receiver.ensures in
    record {
      known = omega (arith, known, c.min.ensures);
      sent = λ time q before below missing. elim (cases_lt q c.loop-from.from.number) [
        | inl early ↦ i.ahead time q (omega (arith, before, c.min-until.ensures)) early missing
        | inr after ↦ elim (cases_lt q c.hole-hole.result.first) [
          | inl busy ↦ c.hole-hole.ensures.stays time (omega (arith, before, c.min-until.ensures)) q after busy
          | inr inside ↦
              absurd (not_missing c.args.arbiter.now.view q missing
              (c.first_absent-first.ensures.held q inside (omega (arith, below, c.min.ensures))))
        ]
      ];
    }

pub returns-else-first-limit-clause-later : goal.returns-else-first-limit-clause-later
returns-else-first-limit-clause-later c =
    omega (arith, c.loop-from.invariant.later, c.hole-hole.ensures.later, c.min-until.ensures)

pub returns-clause-front : goal.returns-clause-front
returns-clause-front c =
    let known = c.known-known.ensures ∙ ap (λ (v : View). v.known) c.receiver.ensures in
    record {
      known = omega (arith, known, c.min-2.ensures);
      sent = λ time q before below missing.
          c.loop-from.invariant.ahead time q before (omega (arith, below, c.min-2.ensures)) missing;
    }

pub returns-clause-later : goal.returns-clause-later
returns-clause-later c = c.loop-from.invariant.later
