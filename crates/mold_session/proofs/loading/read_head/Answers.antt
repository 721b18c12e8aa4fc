use Rattle.std.proofs.Common.{◌≡◌, ℕ, length, take, sym, subst, ◌∙◌, arith}
use Rattle.std.specs.Io.KnownBytes.{Consumes, prepend_known}
use Rattle.std.proofs.lemmas.List.{take_all}
use Rattle.std.proofs.lemmas.Result.{IfErr-weaker}
use Rattle.mold_session.specs.File.{magic_1, magic_2}
use Rattle.mold_session.specs.FileFault.{JournalFault}
use Rattle.mold_session.specs.Loading.{NumbersFault, Refuses}
use Rattle.mold_session.specs.Records.{magic_3}
use Rattle.mold_session.proofs.HeadLemmas.{bad_magic, refused_behind, numbers_refused, unequal, same_magic, differs, compares}
use Rattle.mold_session.proofs.loading.read_head.Goals as goal

pub returns-then-ne-clause-refused : goal.returns-then-ne-clause-refused
returns-then-ne-clause-refused g c = λ most.
    let known = prepend_known c.args.piece.now (g.S.Source.left c.args.source.now) in
    let left = prepend_known c.fill.new.piece (g.S.Source.left c.fill.new.source) in
    let front = c.fill.new.buffer in
    let long : length front ≡ 18 = omega arith in
    let all : take c.in_ok-count.count front ≡ front =
    take_all c.in_ok-count.count front (omega (arith, c.if-count-lt18.false, long))
    in
    bad_magic known left front most (subst (Consumes known left) all c.in_ok-count.ensures.bytes) long
    (unequal c.split_at.result.0.now c.as_slice.result.now magic_1 front
    (sym c.eq.ensures ∙ c.if-eq.false) c.split_at.ensures.front
    (c.as_slice.ensures ∙ c.first_magic.ensures))
    (unequal c.split_at.result.0.now c.as_slice-3.result.now magic_2 front
    (differs _ (sym c.ne.ensures ∙ c.if-ne.true)) c.split_at.ensures.front
    (c.as_slice-3.ensures ∙ c.second_magic.ensures))
    (unequal c.split_at.result.0.now c.as_slice-2.result.now magic_3 front
    (sym c.eq-2.ensures ∙ c.if-eq-2.false) c.split_at.ensures.front
    (c.as_slice-2.ensures ∙ c.third_magic.ensures))

pub returns-clause-refused : goal.returns-clause-refused
returns-clause-refused g c =
    let known = prepend_known c.args.piece.now (g.S.Source.left c.args.source.now) in
    let left = prepend_known c.fill.new.piece (g.S.Source.left c.fill.new.source) in
    let front = c.fill.new.buffer in
    let long : length front ≡ 18 = omega arith in
    let all : take c.in_ok-count.count front ≡ front =
    take_all c.in_ok-count.count front (omega (arith, c.if-count-lt18.false, long))
    in
    let is : take 8 front ≡ magic_2 =
    same_magic c.split_at.result.0.now c.as_slice-3.result.now magic_2 front
    (compares _ (sym c.ne.ensures ∙ c.if-ne.false)) c.split_at.ensures.front
    (c.as_slice-3.ensures ∙ c.second_magic.ensures)
    in
    IfErr-weaker c.read_numbers.result (Refuses NumbersFault left)
    (λ error. (most : ℕ) → Refuses (JournalFault most) known error)
    (λ error fault most. refused_behind NumbersFault (JournalFault most) known left front
    (subst (Consumes known left) all c.in_ok-count.ensures.bytes) (numbers_refused front most long is) error fault)
    c.read_numbers.ensures.refused
