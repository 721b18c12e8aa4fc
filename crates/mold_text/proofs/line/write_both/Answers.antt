use Rattle.std.proofs.Common.{map, subst, sym, ◌∙◌}
use Rattle.mold_digits.specs.Writing.{IsWritten}
use Rattle.mold_text.specs.Line.{word_text}
use Rattle.mold_text.proofs.LineLemmas.{joined_more}
use Rattle.mold_text.proofs.WritingLemmas.{written_twice}
use Rattle.mold_text.proofs.line.write_both.Goals as goal

pub returns-clause-written : goal.returns-clause-written
returns-clause-written c =
    subst (IsWritten c.args.out.now c.write_spaced.new.out c.args.at c.write_spaced.result)
    (joined_more c.args.words.now (map word_text c.args.others.now) (sym c.is_empty.ensures ∙ c.if-is_empty.false))
    (written_twice _ _ _ _ _ _ _ _ c.write_joined-end.ensures.written c.write_spaced.ensures.written)
