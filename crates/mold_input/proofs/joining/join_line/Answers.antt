use Rattle.std.proofs.Common.{◌∙◌, ◌++◌, ℕ, List, arith, subst, take}
use Rattle.mold_devices.proofs.LineLemmas.{IsOver, found_end, none_found}
use Rattle.mold_input.specs.LongLines.{IsSameStart}
use Rattle.mold_input.proofs.StartLemmas.{starting_ends, starting_more, starting_over}
use Rattle.mold_input.proofs.joining.join_line.Goals as goal

pub returns-then-count-eq0-clause-line : goal.returns-then-count-eq0-clause-line
returns-then-count-eq0-clause-line g c =
    let none = c.if-count-eq0.true in
    let read = c.in_ok-count.ensures in
    let left = g.S.Source.left c.refill.new.source in
    let over : IsOver left c.refill.new.self = record { empty = read.len ∙ none; at_end = read.end none } in
    starting_over g.P.Part.meaning _ (g.S.Source.left c.pieces.source) left (g.P.Part.bytes c.pieces.part)
    c.refill.new.self c.is_empty.result c.pieces.invariant.starting read.bytes over c.is_empty.ensures

pub returns-in-Some-clause-line : goal.returns-in-Some-clause-line
returns-in-Some-clause-line g c =
    let piece = c.refill.new.self in
    let at = c.in-Some.at in
    let part = g.P.Part.bytes c.pieces.part in
    let new = g.P.Part.bytes c.add-in-Some.new.self in
    let found = found_end c.rest-in-pieces.result.now piece at c.rest-in-pieces.ensures.value c.in-Some.ensures in
    rw (c.skip.ensures)
    (starting_ends g.P.Part.meaning _ (g.S.Source.left c.pieces.source) (g.S.Source.left c.refill.new.source) part
    piece new at c.pieces.invariant.starting c.in_ok-count.ensures.bytes found
    (subst (λ (t : List ℕ). IsSameStart g.P.Part.meaning new (part ++ take at t)) c.rest-in-Some.ensures.value
    c.in_ok-add-2.ensures))

pub pieces-preserved : goal.pieces-preserved
pieces-preserved g c =
    let piece = c.refill.new.self in
    let part = g.P.Part.bytes c.pieces.part in
    let new = g.P.Part.bytes c.add-in-pieces.new.self in
    let none = none_found c.rest-in-pieces.result.now piece c.rest-in-pieces.ensures.value c.in_default.ensures in
    let lower = c.in_ok-count.ensures.bound (omega (arith, c.if-count-eq0.false)) in
    record {
      starting =
          starting_more g.P.Part.meaning _ (g.S.Source.left c.pieces.source) (g.S.Source.left c.refill.new.source)
          part piece new c.pieces.invariant.starting c.in_ok-count.ensures.bytes none
          (subst (λ (t : List ℕ). IsSameStart g.P.Part.meaning new (part ++ t)) c.rest-in-pieces-2.ensures.value
          c.in_ok-add-3.ensures);
      lower = omega (arith, c.refill.ensures.kept, c.pieces.invariant.lower);
      work = λ some. omega (arith, lower, c.pieces.invariant.lower);
      failures = c.in_ok-count.ensures.failures ∙ c.pieces.invariant.failures;
    }
