use Rattle.std.proofs.Common.{◌++◌, [], ◌∷◌, ℕ, List, ap, ◌∙◌}
use Rattle.mold_capture.proofs.KeptLemmas.{IsPushed, pieces_push}
use Rattle.mold_capture.proofs.kept.Kept.push.Goals as goal

pub returns-in-Ok-clause-added : goal.returns-in-Ok-clause-added
returns-in-Ok-clause-added c =
    let f = c.self.inside in
    let is : IsPushed f.ends f.bytes.items c.args.message.now c.push.new.self c.extend_from_slice.new.self.items =
    record {
      are = c.self.invariant;
      ends_more = c.in-Ok.ensures.added;
      bytes_more = c.in_ok-extend_from_slice.ensures.items;
    }
    in
    pieces_push _ _ _ _ _ is ∙ ap (λ (t : List (List ℕ)). t ++ c.args.message.now ∷ []) c.self.view_is
