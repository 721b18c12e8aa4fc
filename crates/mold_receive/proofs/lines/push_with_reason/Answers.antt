use Rattle.std.proofs.Common.{◌≡◌, ◌++◌, ℕ, List, [], ◌∷◌, Bool, true, ap, map, sym, take, ◌∙◌}
use Rattle.std.specs.Prelude.{codes, if◌then◌else◌}
use Rattle.std.proofs.lemmas.List.{take_min}
use Rattle.std.proofs.lemmas.Result.{on_ok_weaker}
use Rattle.hex.specs.Hex.{encode_lower}
use Rattle.mold_receive.specs.Refused.{is_foreign}
use Rattle.mold_text.specs.Line.{line_of, word_text}
use Rattle.mold_text.specs.Text.{refusal_words}
use Rattle.mold_receive.proofs.lines.push_with_reason.Goals as goal

pub returns-clause-line : goal.returns-clause-line
returns-clause-line c =
    let bytes = c.args.datagram.now in
    let foreign : is_foreign c.args.why ≡ true = cc (c.is_foreign.ensures, c.if-not-is_foreign.false) in
    on_ok_weaker c.push_line_with.result
    (λ is.
    is
    ∙ ap (λ (s : List ℕ). c.args.out.now.items
    ++ line_of (map word_text c.args.before.now ++ codes "WrongSession" ∷ encode_lower s ∷ []))
    (ap (λ (n : ℕ). take n bytes) c.min.ensures ∙ take_min 10 bytes)
    ∙ ap (λ (b : Bool). c.args.out.now.items ++ line_of (map word_text c.args.before.now
    ++ (if b then codes "WrongSession" ∷ encode_lower (take 10 bytes) ∷ [] else refusal_words c.args.why)))
    (sym foreign))
    c.push_line_with.ensures.line
