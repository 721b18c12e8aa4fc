use Rattle.std.proofs.Common.{◌≡◌, ◌+◌, ℕ, List, take, drop, true, sym, ap, subst, ◌∙◌, Option, None}
use Rattle.std.specs.Prelude.{OnErr}
use Rattle.std.specs.Io.KnownBytes.{Consumes, prepend_known}
use Rattle.mold_devices.specs.Lines.{LineState, GivesLine, line_in, rest_in}
use Rattle.mold_devices.specs.declared.lines.Lines.TheInside.{Inside}
use Rattle.mold_devices.proofs.LineLemmas.{found_end, gives_read}
use Rattle.mold_devices.proofs.lines.Lines.advance.Goals as goal
use Rattle.mold_devices.proofs.lines.Lines.advance.Given.{Over}
use Rattle.mold_devices.proofs.lines.Lines.advance.Goals.{After-clear, in-Some, in_default}

-- The bytes of the piece after the previous line are the remaining bytes.
rest_is : (g : Over) → (c : After-clear g) → c.args.self.now.rest ≡ c.match-self.self-inside.piece.value
rest_is g c =
    let shown : c.args.self.now.rest ≡ rest_in c.self.inside.inside c.self.inside.piece.value =
    sym (ap (λ (s : LineState). s.rest) c.self.view_is)
    in
    elim c.match-self.branch [
      | in-Some w ↦
          shown
          ∙ ap (λ (o : Option ℕ). rest_in o c.self.inside.piece.value) w.in-Some.is
          ∙ ap (λ (t : List ℕ). drop (w.in-Some.len + 1) t) (sym w.deref_mut.ensures.value)
          ∙ sym w.skip.ensures
          ∙ sym (ap (λ (l : Inside). l.piece.value) w.self-inside-is)
      | in_default w ↦
          shown
          ∙ ap (λ (o : Option ℕ). rest_in o c.self.inside.piece.value) w.in_default.is
          ∙ sym (ap (λ (l : Inside). l.piece.value) w.self-inside-is)
    ]

pub returns-in-Some-memchr-clause-line : goal.returns-in-Some-memchr-clause-line
returns-in-Some-memchr-clause-line g c =
    let known = g.S.Source.left c.args.source.now in
    let piece = c.match-self.self-inside.piece.value in
    let at = c.in-Some-memchr.at in
    let same = rest_is g (goal.at.returns-in-Some-memchr-clause-line g c).After-clear in
    let behind = prepend_known (drop (at + 1) piece) known in
    subst (λ (t : List ℕ). GivesLine (prepend_known t known) behind true (take at piece)) (sym same)
    (gives_read known piece at (found_end c.rest.result.now piece at (c.rest.ensures.value ∙ c.deref.ensures) c.in-Some-memchr.ensures))

pub returns-clause-begun : goal.returns-clause-begun
returns-clause-begun g c =
    let known = g.S.Source.left c.args.source.now in
    let left = g.S.Source.left c.join_line.new.source in
    let inside = c.match-self.self-inside in
    let same = rest_is g (goal.at.returns-clause-begun g c).After-clear in
    let none : inside.inside ≡ None =
    elim c.match-self.branch [
      | in-Some w ↦ ap (λ (l : Inside). l.inside) w.self-inside-is
      | in_default w ↦ ap (λ (l : Inside). l.inside) w.self-inside-is ∙ w.in_default.is
    ]
    in
    subst
    (λ (o : Option ℕ). OnErr c.join_line.result (Consumes (prepend_known c.args.self.now.rest known)
    (prepend_known (rest_in o c.join_line.new.piece) left) (line_in o c.join_line.new.joined.items c.join_line.new.piece)))
    (sym none)
    (subst
    (λ (t : List ℕ). OnErr c.join_line.result (Consumes (prepend_known t known)
    (prepend_known c.join_line.new.piece left) c.join_line.new.joined.items))
    (sym (same ∙ sym c.deref_mut-2.ensures.value)) c.join_line.ensures.begun)
