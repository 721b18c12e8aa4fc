use Rattle.std.proofs.Common.{◌≡◌, ◌++◌, ◌∷◌, [], List, ℕ, subst}
use Rattle.std.specs.Prelude.{OnOk, codes, decimal}
use Rattle.hex.specs.Hex.{encode_lower}
use Rattle.mold_text.specs.Line.{line_of}
use Rattle.mold_capture_commands.proofs.session_text.push_tally.Goals as goal

pub returns : goal.returns
returns c =
    let tally = c.args.tally.now in
    let first = c.number_word.ensures in
    let last = c.long_number_word.ensures in
    let end = c.number_word-2.ensures in
    subst
    (λ (words : List (List ℕ)). OnOk c.push_line.result (c.push_line.new.out.items ≡ c.args.text.now.items ++ line_of words))
    (λ i. codes "session" ∷ encode_lower c.args.session.now.0 ∷ codes "datagrams" ∷ decimal tally.datagrams
    ∷ codes "messages" ∷ first i ∷ last i ∷ codes "heartbeats" ∷ decimal tally.heartbeats ∷ codes "end" ∷ end i ∷ [])
    c.push_line.ensures.line
