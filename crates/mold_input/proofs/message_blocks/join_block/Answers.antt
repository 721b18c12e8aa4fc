use Rattle.std.proofs.Common.{◌≡◌, ◌∙◌, ◌++◌, ◌<◌, ◌≤◌, List, ℕ, arith, length, length-append, length-drop, length-take-le, take, ap}
use Rattle.std.proofs.Common.{sym}
use Rattle.std.proofs.lemmas.Bool.{eqb-true, eqb-false}
use Rattle.mold_input.specs.Blocks.{missing_of}
use Rattle.mold_input.proofs.JoiningLemmas.{gives_cut, gives_end, gives_joined, joining_more}
use Rattle.mold_input.proofs.JoiningLemmas.{joining_same}
use Rattle.mold_input.proofs.message_blocks.join_block.Goals as goal

pub returns-then-lacking-eq0-clause-next : goal.returns-then-lacking-eq0-clause-next
returns-then-lacking-eq0-clause-next g c =
    gives_joined _ _ c.pieces.joined.items c.pieces.invariant.joining
    (omega (arith, c.missing-lacking.ensures, ap missing_of c.as_slice.ensures.value, c.if-lacking-eq0.true))

pub returns-then-is_empty-clause-next : goal.returns-then-is_empty-clause-next
returns-then-is_empty-clause-next g c =
    let none = eqb-true _ 0 (sym c.is_empty.ensures ∙ c.if-is_empty.true) in
    gives_end _ _ c.pieces.joined.items _
    (joining_same _ _ _ c.pieces.joined.items c.pieces.invariant.joining c.in_ok-has_bytes.ensures.same)
    (omega (arith, none, c.pieces.joined.ok.0)) (c.in_ok-has_bytes.ensures.end (c.if-not-branch.true))

pub returns-then-not-branch-clause-next : goal.returns-then-not-branch-clause-next
returns-then-not-branch-clause-next g c =
    let some = eqb-false _ 0 (sym c.is_empty.ensures ∙ c.if-is_empty.false) in
    gives_cut _ _ c.pieces.joined.items _
    (joining_same _ _ _ c.pieces.joined.items c.pieces.invariant.joining c.in_ok-has_bytes.ensures.same)
    (omega (arith, some, c.pieces.joined.ok.0))
    (omega (arith, c.missing-lacking.ensures, ap missing_of c.as_slice.ensures.value, c.if-lacking-eq0.false))
    (c.in_ok-has_bytes.ensures.end (c.if-not-branch.true))

pub pieces-preserved : goal.pieces-preserved
pieces-preserved g c =
    let piece = c.has_bytes.new.piece in
    let count = c.min-count.result in
    let some : 0 < length piece = c.in_ok-has_bytes.ensures.some c.if-not-branch.false in
    let rest : length c.rest.result.now ≡ length piece = ap (λ (t : List ℕ). length t) c.rest.ensures.value in
    let few : count ≤ missing_of c.pieces.joined.items =
    omega (arith, c.min-count.ensures, c.missing-lacking.ensures, ap missing_of c.as_slice.ensures.value) in
    let within : count ≤ length piece = omega (arith, c.min-count.ensures, rest) in
    let added : c.extend_from_slice.new.self.items ≡ c.pieces.joined.items ++ take count piece =
    c.in_ok-extend_from_slice.ensures.items
    ∙ ap (λ (t : List ℕ). c.pieces.joined.items ++ take count t) c.rest-in-pieces.ensures.value in
    record {
      joining =
          rw (c.skip.ensures, added)
          (joining_more _ (g.S.Source.left c.has_bytes.new.source) c.pieces.joined.items piece count
          (joining_same _ _ _ c.pieces.joined.items c.pieces.invariant.joining c.in_ok-has_bytes.ensures.same)
          few within);
      work =
          omega (
            arith,
            within,
            ap (λ (t : List ℕ). length t) c.skip.ensures,
            length-drop count piece,
            ap (λ (t : List ℕ). length t) added,
            length-append c.pieces.joined.items (take count piece),
            length-take-le count piece within,
            c.in_ok-has_bytes.ensures.work,
            c.pieces.invariant.work,
          );
      failures = c.in_ok-has_bytes.ensures.failures ∙ c.pieces.invariant.failures;
    }
