use Rattle.std.proofs.Common.{◌≡◌, ◌∙◌, ◌++◌, ℕ, List, ap, arith, eqb, subst, sym}
use Rattle.std.specs.Io.KnownBytes.{Consumes, prepend_known}
use Rattle.std.proofs.KnownBytes.{Consumes-nil, Consumes-trans}
use Rattle.mold_devices.specs.Lines.{HasNoEnd}
use Rattle.mold_devices.proofs.LineLemmas.{HasNoEnd-append, InPieces, IsOver, begun_line, begun_unread, found_end, gives_joined}
use Rattle.mold_devices.proofs.LineLemmas.{gives_end, none_found, on_err}
use Rattle.mold_devices.proofs.lines.join_line.Goals as goal

pub returns-then-count-eq0-clause-line : goal.returns-then-count-eq0-clause-line
returns-then-count-eq0-clause-line g c =
    let none = c.if-count-eq0.true in
    let read = c.in_ok-count.ensures in
    let known = prepend_known c.args.piece.now (g.S.Source.left c.args.source.now) in
    let left = g.S.Source.left c.refill.new.source in
    let line : InPieces known (g.S.Source.left c.pieces.source) left c.pieces.joined.items c.refill.new.self =
    record { begun = c.pieces.invariant.read; no_end = c.pieces.invariant.no_end; read = read.bytes }
    in
    let over : IsOver left c.refill.new.self = record { empty = read.len ∙ none; at_end = read.end none } in
    gives_end line over (c.is_empty.ensures ∙ ap (λ (n : ℕ). eqb n 0) c.pieces.joined.ok.0)

pub returns-in-Some-clause-line : goal.returns-in-Some-clause-line
returns-in-Some-clause-line g c =
    let old = prepend_known c.args.piece.now (g.S.Source.left c.args.source.now) in
    let new = g.S.Source.left c.refill.new.source in
    let piece = c.refill.new.self in
    let at = c.in-Some.at in
    let joined = c.pieces.joined.items in
    let line : InPieces old (g.S.Source.left c.pieces.source) new joined piece =
    record {
      begun = c.pieces.invariant.read;
      no_end = c.pieces.invariant.no_end;
      read = c.in_ok-count.ensures.bytes;
    }
    in
    let found = found_end c.rest-in-pieces.result.now piece at c.rest-in-pieces.ensures.value c.in-Some.ensures in
    rw (c.skip.ensures, c.in_ok-extend_from_slice-2.ensures.items, c.rest-in-Some.ensures.value)
    (gives_joined line found)

pub pieces-preserved : goal.pieces-preserved
pieces-preserved g c =
    let known = prepend_known c.args.piece.now (g.S.Source.left c.args.source.now) in
    let joined = c.pieces.joined.items in
    let piece = c.refill.new.self in
    let added : c.extend_from_slice-in-pieces.new.self.items ≡ joined ++ piece =
    c.in_ok-extend_from_slice-3.ensures.items ∙ ap (λ (t : List ℕ). joined ++ t) c.rest-in-pieces-2.ensures.value in
    let none = none_found c.rest-in-pieces.result.now piece c.rest-in-pieces.ensures.value c.in_default.ensures in
    let lower = c.in_ok-count.ensures.bound (omega arith) in
    record {
      read =
          subst (Consumes known (g.S.Source.left c.refill.new.source)) (sym added)
          (Consumes-trans known (g.S.Source.left c.pieces.source) (g.S.Source.left c.refill.new.source) joined piece
          c.pieces.invariant.read c.in_ok-count.ensures.bytes);
      no_end = subst HasNoEnd (sym added) (HasNoEnd-append joined piece c.pieces.invariant.no_end none);
      lower = omega (arith, c.refill.ensures.kept, c.pieces.invariant.lower);
      work = λ some. omega (arith, lower);
      failures = c.in_ok-count.ensures.failures ∙ c.pieces.invariant.failures;
    }

pub returns-in_err-extend_from_slice-clause-begun : goal.returns-in_err-extend_from_slice-clause-begun
returns-in_err-extend_from_slice-clause-begun g c =
    let known = prepend_known c.args.piece.now (g.S.Source.left c.args.source.now) in
    on_err c.from_residual.result
    (subst (λ (t : List ℕ). Consumes known known t) (sym (c.in_err-extend_from_slice.ensures.items ∙ c.requires.empty))
    (Consumes-nil known))

pub returns-in_err-count-clause-begun : goal.returns-in_err-count-clause-begun
returns-in_err-count-clause-begun g c =
    on_err c.from_residual-in_err-count.result
    (begun_unread (prepend_known c.args.piece.now (g.S.Source.left c.args.source.now)) (g.S.Source.left c.pieces.source)
    (g.S.Source.left c.refill.new.source) c.pieces.joined.items c.refill.new.self c.pieces.invariant.read
    c.in_err-count.ensures.left c.in_err-count.ensures.none)

pub returns-in_err-extend_from_slice-2-clause-begun : goal.returns-in_err-extend_from_slice-2-clause-begun
returns-in_err-extend_from_slice-2-clause-begun g c =
    let known = prepend_known c.args.piece.now (g.S.Source.left c.args.source.now) in
    let left = g.S.Source.left c.refill.new.source in
    on_err c.from_residual-in_err-extend_from_slice-2.result
    (subst (λ (t : List ℕ). Consumes known (prepend_known c.refill.new.self left) t)
    (sym c.in_err-extend_from_slice-2.ensures.items)
    (begun_line known (g.S.Source.left c.pieces.source) left c.pieces.joined.items c.refill.new.self
    c.pieces.invariant.read c.in_ok-count.ensures.bytes))

pub returns-in_err-extend_from_slice-3-clause-begun : goal.returns-in_err-extend_from_slice-3-clause-begun
returns-in_err-extend_from_slice-3-clause-begun g c =
    let known = prepend_known c.args.piece.now (g.S.Source.left c.args.source.now) in
    let left = g.S.Source.left c.refill.new.source in
    on_err c.from_residual-in_err-extend_from_slice-3.result
    (subst (λ (t : List ℕ). Consumes known (prepend_known c.refill.new.self left) t)
    (sym c.in_err-extend_from_slice-3.ensures.items)
    (begun_line known (g.S.Source.left c.pieces.source) left c.pieces.joined.items c.refill.new.self
    c.pieces.invariant.read c.in_ok-count.ensures.bytes))
