use Rattle.std.proofs.Common.{◌≡◌, Some, List, ℕ, length, ap, refl, sym, subst, ◌∙◌, arith}
use Rattle.std.specs.Prelude.{Option, is_some}
use Rattle.slab.proofs.SlabLemmas.{Updates-with_value}
use Rattle.slab.specs.Slab.{Slab, Updates, get}
use Rattle.mold_receiver.specs.Segments.{bytes_of, size_of}
use Rattle.mold_receiver.specs.declared.segment.Segment.{Segment}
use Rattle.mold_receiver.proofs.SegmentLemmas.{appended_with, are_moved, bytes_few, counted_more, is_there, used_there}
use Rattle.mold_receiver.proofs.segments.Segments.move_to.Goals.{in-Some, in_default}
use Rattle.mold_receiver.proofs.segments.Segments.move_to.Goals as goal

pub move_to-old-requires-clause-fits : goal.move_to-old-requires-clause-fits
move_to-old-requires-clause-fits c =
    omega (
      arith,
      c.requires.fits.least,
      used_there c.args.self.now c.args.key c.in-Some.segment.now c.requires.whole (sym c.in-Some.ensures.value),
    )

pub save-requires : goal.save-requires
save-requires c =
    let old = c.args.self.now in
    let key = c.args.key in
    let before = c.in-Some.segment.now in
    let after = c.move_to-old.new.self in
    let had : get old.table key ≡ Some before = sym c.in-Some.ensures.value in
    record {
      whole = are_moved old _ key before after c.args.memory (length c.args.bytes.now) c.requires.whole
          c.requires.there had (Updates-with_value old.table key after (ap is_some had)) c.requires.fits
          c.move_to-old.ensures.filled c.move_to-old.ensures.size c.move_to-old.ensures.room refl
          c.requires.whole.spare
          (counted_more old _ key _ _ before after c.requires.whole had
          (Updates-with_value old.table key after (ap is_some had)) c.move_to-old.ensures.filled
          (omega (arith, c.saturating_add-self.ensures)));
    }

pub overflow_cast-result : goal.overflow_cast-result
overflow_cast-result c =
    omega (
      arith,
      ap (λ (t : List ℕ). length t) c.bytes-start.ensures,
      bytes_few c.args.self.now c.args.key c.requires.whole,
    )

pub returns-clause-whole : goal.returns-clause-whole
returns-clause-whole c =
    elim c.match-get_mut.branch [
      | in-Some w ↦
          let whole = w.save.ensures.whole in
          rw w.self-is whole
      | in_default w ↦ absurd (is_there c.args.self.now c.args.key c.requires.there w.in_default.ensures.value)
    ]

pub returns-clause-appended : goal.returns-clause-appended
returns-clause-appended c =
    let old = c.args.self.now in
    let key = c.args.key in
    elim c.match-get_mut.branch [
      | in-Some w ↦
          let before = w.in-Some.segment.now in
          let after = w.move_to-old.new.self in
          let had : get old.table key ≡ Some before = sym w.in-Some.ensures.value in
          rw w.self-is
          (appended_with old _ _ (Some before) after c.args.bytes.now had
          (subst (λ (t : Slab Segment). Updates old.table t key (Some after)) (sym w.save.ensures.table)
          (Updates-with_value old.table key after (ap is_some had)))
          (ap (λ (t : List ℕ). length t) c.bytes-start.ensures
          ∙ ap (λ (o : Option Segment). length (bytes_of o)) had)
          w.move_to-old.ensures.live w.move_to-old.ensures.used)
      | in_default w ↦ absurd (is_there old key c.requires.there w.in_default.ensures.value)
    ]

pub returns-clause-roomy : goal.returns-clause-roomy
returns-clause-roomy c =
    elim c.match-get_mut.branch [
      | in-Some w ↦ rw w.self-is w.save.ensures.roomy
      | in_default w ↦ rw w.self-is refl
    ]

pub returns-clause-size : goal.returns-clause-size
returns-clause-size c =
    let old = c.args.self.now in
    let key = c.args.key in
    elim c.match-get_mut.branch [
      | in-Some w ↦
          let after = w.move_to-old.new.self in
          rw w.self-is
          (ap (λ (t : Slab Segment). size_of (get t key)) w.save.ensures.table
          ∙ ap size_of (Updates-with_value old.table key after (ap is_some (sym w.in-Some.ensures.value))).changed
          ∙ w.move_to-old.ensures.size)
      | in_default w ↦ absurd (is_there old key c.requires.there w.in_default.ensures.value)
    ]
