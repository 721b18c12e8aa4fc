use Rattle.std.proofs.Common.{◌≡◌, ◌++◌, ◌∷◌, List, ℕ, ap, subst, ◌∙◌}
use Rattle.std.specs.Prelude.{OnOk, codes}
use Rattle.mold_text.specs.Line.{line_of}
use Rattle.mold_capture_commands.specs.Address.{endpoint_text}
use Rattle.mold_frame.specs.IpAddress.{address_bytes}
use Rattle.mold_capture_commands.specs.Sessions.{session_words}
use Rattle.mold_capture_commands.proofs.TextLemmas.{to_line}
use Rattle.mold_capture_commands.proofs.session_text.push_pair.Goals as goal

pub returns : goal.returns
returns c =
    let pair = c.args.pair.now in
    let tally = c.args.tally.now in
    let rest : List ℕ = line_of (codes "session" ∷ session_words pair.session tally) in
    let endpoint = c.in_ok-push_endpoint.ensures.text
    ∙ ap (λ (address : List ℕ). c.extend_from_slice.new.self.items ++ endpoint_text address pair.port) c.as_bytes.ensures in
    let written = c.in_ok-push.ensures.items
    ∙ ap (λ (t : List ℕ). t ++ codes " ") (endpoint
    ∙ ap (λ (t : List ℕ). t ++ endpoint_text (address_bytes pair.target) pair.port) c.in_ok-extend_from_slice.ensures.items) in
    subst (λ (t : List ℕ). OnOk c.push_session.result (c.push_session.new.text.items ≡ t))
    (ap (λ (t : List ℕ). t ++ rest) written
    ∙ to_line c.args.text.now.items (endpoint_text (address_bytes pair.target) pair.port) (codes "session")
    (session_words pair.session tally))
    c.push_session.ensures
