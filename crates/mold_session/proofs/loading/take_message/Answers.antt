use Rattle.std.proofs.Common.{◌≡◌, ◌≤◌, ℕ, List, length, length-drop, ap, ◌∙◌, arith}
use Rattle.std.specs.Io.KnownBytes.{prepend_known}
use Rattle.mold_session.proofs.LoadingLemmas.{taking_more}
use Rattle.mold_session.proofs.loading.take_message.Goals as goal

pub loop-missing-preserved : goal.loop-missing-preserved
loop-missing-preserved g c =
    let len : length c.rest.result.now ≡ length c.has_more.new.piece =
    ap (λ (t : List ℕ). length t) c.rest.ensures.value
    in
    let within : c.min-count.result ≤ length c.has_more.new.piece = omega (arith, len, c.min-count.ensures) in
    let few : c.min-count.result ≤ c.loop-missing.missing = omega (arith, c.min-count.ensures) in
    let less : length c.skip.new.self ≤ length c.has_more.new.piece =
    omega (
      arith,
      ap (λ (t : List ℕ). length t) c.skip.ensures,
      length-drop c.min-count.result c.has_more.new.piece,
    )
    in
    record {
      taking = taking_more (prepend_known c.args.piece.now (g.S.Source.left c.args.source.now))
          (prepend_known c.loop-missing.piece (g.S.Source.left c.loop-missing.source))
          (g.S.Source.left c.has_more.new.source) c.has_more.new.piece c.rest-in-loop-missing.result.now c.skip.new.self
          c.args.list.now.messages c.loop-missing.list.messages c.extend_last.new.self.messages c.loop-missing.missing
          c.min-count.result c.args.len c.loop-missing.invariant.taking c.in_ok-has_more.ensures.same
          c.rest-in-loop-missing.ensures.value c.skip.ensures within few c.in_ok-extend_last.ensures.added;
      work = omega (arith, less, c.in_ok-has_more.ensures.work, c.loop-missing.invariant.work);
      counted = c.in_ok-has_more.ensures.failures ∙ c.loop-missing.invariant.counted;
    }
