use Rattle.std.proofs.Common.{◌∙◌, arith}
use Rattle.mold_audit.proofs.DigestLemmas.{digest_ends, fold_more}
use Rattle.mold_audit.proofs.digest.digest_of.Goals as goal

pub loop-rest-preserved : goal.loop-rest-preserved
loop-rest-preserved c =
    let rest = c.loop-rest.rest.now in
    let done = fold_more c.loop-rest.digest _ rest c.loop-rest-test.true c.loop-rest.invariant in
    rw (c.split_at.ensures.back, c.step-digest.ensures, c.read_u64.ensures) done

pub returns : goal.returns
returns c =
    let ends = digest_ends c.loop-rest.digest c.args.message.now c.loop-rest.rest.now (omega arith)
    c.loop-rest.invariant in
    c.max.ensures ∙ rw (c.step.ensures, c.last_word.ensures) ends
