use Rattle.std.proofs.Common.{◌++◌, ◌∙◌, ◌≡◌, List, ap, drop, subst, sym, take, ℕ}
use Rattle.mold_input.specs.LongLines.{PartState}
use Rattle.mold_feeder.specs.ToEmpty.{StartsEmpty}
use Rattle.mold_feeder.proofs.MarkedLemmas.{refilled, refilled_cut}
use Rattle.mold_feeder.proofs.piece_source.PieceSource.refill_blocks.Goals as goal

pub returns-in_ok-extend-2-clause-bytes : goal.returns-in_ok-extend-2-clause-bytes
returns-in_ok-extend-2-clause-bytes g c =
    let tail = c.args.self.now.tail.kept in
    let piece = c.refill.new.self in
    let len = c.blocks_before_empty-len.result in
    let all : c.extend.new.self.kept ≡ tail ++ piece =
    ap (λ (s : PartState). s.kept) c.in_ok-extend.ensures
    ∙ ap (λ (t : List ℕ). tail ++ t) (c.rest.ensures.value ∙ c.deref.ensures) in
    let front : c.in_ok-self.field-0.kept ≡ take len (tail ++ piece) =
    ap (λ (s : PartState). s.kept) c.in_ok-self.ensures.whole ∙ ap (take len) all in
    let behind : c.split.new.self.kept ≡ drop len (tail ++ piece) =
    ap (λ (s : PartState). s.kept) c.in_ok-self.ensures.left ∙ ap (drop len) all in
    rw (c.requires, c.if-self.false)
    (refilled_cut tail piece len c.kept.result.now c.in_ok-self.field-0.kept c.split.new.self.kept
    (c.kept.ensures ∙ all) front behind c.blocks_before_empty-len.ensures.marks
    c.extend-then-not-self.new.self.kept (g.K.Source.left c.args.self.now.source)
    (g.K.Source.left c.refill.new.source) (ap (λ (s : PartState). s.kept) c.in_ok-extend-2.ensures)
    c.in_ok-count.ensures.bytes (c.in_ok-count.ensures.end c.if-count-eq0.true)
    c.blocks_before_empty-len.ensures.next
    (λ empty. c.starts_empty-self.ensures.not c.if-not-self.true (subst StartsEmpty (sym c.kept-2.ensures) empty)))

pub returns-else-count-eq0-clause-bytes : goal.returns-else-count-eq0-clause-bytes
returns-else-count-eq0-clause-bytes g c =
    let tail = c.args.self.now.tail.kept in
    let piece = c.refill.new.self in
    let len = c.blocks_before_empty-len.result in
    let all : c.extend.new.self.kept ≡ tail ++ piece =
    ap (λ (s : PartState). s.kept) c.in_ok-extend.ensures
    ∙ ap (λ (t : List ℕ). tail ++ t) (c.rest.ensures.value ∙ c.deref.ensures) in
    let front : c.in_ok-self.field-0.kept ≡ take len (tail ++ piece) =
    ap (λ (s : PartState). s.kept) c.in_ok-self.ensures.whole ∙ ap (take len) all in
    let behind : c.split.new.self.kept ≡ drop len (tail ++ piece) =
    ap (λ (s : PartState). s.kept) c.in_ok-self.ensures.left ∙ ap (drop len) all in
    rw (c.requires, c.if-self.false)
    (refilled tail piece len c.kept.result.now c.in_ok-self.field-0.kept c.split.new.self.kept
    (c.kept.ensures ∙ all) front behind c.blocks_before_empty-len.ensures.marks c.starts_empty-self.result
    (g.K.Source.left c.args.self.now.source) (g.K.Source.left c.refill.new.source)
    (λ over. subst StartsEmpty c.kept-2.ensures (c.starts_empty-self.ensures.empty over))
    c.in_ok-count.ensures.bytes)
