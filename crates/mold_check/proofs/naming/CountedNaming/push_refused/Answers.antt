use Rattle.std.proofs.Common.{ap, ◌∙◌, ◌++◌, List, ℕ}
use Rattle.std.proofs.lemmas.Result.{on_ok_weaker}
use Rattle.mold_text.specs.Text.{refusal_words}
use Rattle.mold_check.proofs.JudgementLemmas.{named_line}
use Rattle.mold_check.proofs.naming.CountedNaming.push_refused.Goals as goal

pub returns-clause-line : goal.returns-clause-line
returns-clause-line c =
    on_ok_weaker c.push_refusal.result
    (λ is. is ∙ ap (λ (t : List ℕ). c.args.text.now.items ++ t)
    (named_line c.args.self.now.word.now c.args.number (refusal_words c.args.why)))
    c.push_refusal.ensures.text
