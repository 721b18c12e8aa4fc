use Rattle.std.proofs.Common.{◌≡◌, ◌∙◌, ◌++◌, ap, drop, List, ℕ, replicate, subst, sym, take, take-append-drop}
use Rattle.mold_input.specs.Blocks.{block_entries}
use Rattle.mold_input.specs.LongLines.{PartState, bytes_of}
use Rattle.mold_feeder.specs.Pieces.{AreWhole}
use Rattle.mold_feeder.proofs.PieceLemmas.{split_at}
use Rattle.mold_feeder.proofs.piece_reader.MessageBlocksPieceReader.add.Goals as goal

pub returns-clause-split : goal.returns-clause-split
returns-clause-split c = λ more.
    let part = c.args.part.now in
    let bytes = c.args.bytes.now in
    let all = part.kept ++ bytes in
    let count = c.whole_blocks-count.result in
    let extended = c.in_ok-extend.ensures in
    let whole : bytes_of c.in_ok-whole.whole ≡ take count all =
    ap bytes_of c.in_ok-whole.ensures.whole
    ∙ ap (λ (s : PartState). replicate s.counted 48 ++ take count s.kept) extended
    ∙ ap (λ (n : ℕ). replicate n 48 ++ take count all) c.requires.0
    in
    let rest : bytes_of c.split.new.self ≡ drop count all =
    ap bytes_of c.in_ok-whole.ensures.left ∙ ap (λ (s : PartState). drop count s.kept) extended
    in
    let kept = c.kept.ensures ∙ ap (λ (s : PartState). s.kept) extended in
    let is = subst (λ (t : List ℕ). AreWhole block_entries (take count t)) kept c.whole_blocks-count.ensures.whole in
    ap (λ (t : List ℕ). block_entries t ++ block_entries (bytes_of c.split.new.self ++ more)) whole
    ∙ ap (λ (t : List ℕ). block_entries (take count all) ++ block_entries (t ++ more)) rest
    ∙ split_at block_entries (take count all) (drop count all) (bytes_of part) bytes more is
    (take-append-drop count all
    ∙ sym (ap (λ (n : ℕ). (replicate n 48 ++ part.kept) ++ bytes) c.requires.0))
