use Rattle.std.proofs.Common.{◌∙◌, ap, refl, arith, List, [], ℕ, length, length-append}
use Rattle.mold_receiver.specs.Segments.{bytes_at, more_at}
use Rattle.mold_receiver.proofs.SegmentLemmas.{are_tight}
use Rattle.mold_receiver.proofs.segments.Segments.tighten.Goals.{then-size-used+in_ok-memory, else-size-used}
use Rattle.mold_receiver.proofs.segments.Segments.tighten.Goals as goal

pub returns-after-size-used-clause-whole : goal.returns-after-size-used-clause-whole
returns-after-size-used-clause-whole c =
    let old = c.args.self.now in
    let key = c.in-Some.key in
    let used = ap (λ (t : List ℕ). length t) c.bytes-used.ensures in
    elim c.if-size-used.branch [
      | then-size-used+in_ok-memory w ↦
          let moved = w.move_to.ensures in
          rw w.self-is
          (are_tight w.move_to.new.self _ key moved.whole (moved.roomy ∙ c.in-Some.is)
          (omega (
            arith,
            used,
            moved.size,
            w.in_ok-memory.ensures.0,
            ap (λ (t : List ℕ). length t) (moved.appended.bytes key),
            length-append (bytes_at old key) (more_at w.move_to.result.segment [] key),
          )) refl refl refl refl)
      | else-size-used w ↦
          rw w.self-is
          (are_tight old _ key c.requires.whole c.in-Some.is
          (omega (arith, used, c.size.ensures, w.if-size-used.false)) refl refl refl refl)
    ]
