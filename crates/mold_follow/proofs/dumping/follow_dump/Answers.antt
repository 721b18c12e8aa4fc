use Rattle.mold_follow.proofs.DumpingLemmas.{dumping_broken, dumping_ended, dumping_first, dumping_more}
use Rattle.mold_follow.proofs.DumpingLemmas.{if_err, look_ended, look_goes_on}
use Rattle.mold_follow.proofs.dumping.follow_dump.Goals as goal

pub loop-look-init : goal.loop-look-init
loop-look-init g c = dumping_first _ _ c.args.options c.args.follower.now _ _

pub returns-in_err-looked-clause-broken : goal.returns-in_err-looked-clause-broken
returns-in_err-looked-clause-broken g c =
    if_err c.from_residual.result c.in_err-looked.field-0.0 _ c.from_residual.ensures.1
    (dumping_broken _ _ c.args.options _ c.loop-look.follower _ _ _ _ _ _ c.loop-look.invariant
    c.in_err-looked.ensures.follows c.in_err-looked.ensures.longest c.in_err-looked.field-0.0 _
    (c.in_err-looked.ensures.broken c.loop-look.invariant.messages _ _ c.loop-look.invariant.counted
    c.loop-look.invariant.going))

pub returns-in-Some-clause-whole : goal.returns-in-Some-clause-whole
returns-in-Some-clause-whole g c =
    dumping_ended _ _ c.args.options _ c.loop-look.follower _ _ _ _ _ _ c.loop-look.invariant
    c.in_ok-looked.ensures.follows c.in_ok-looked.ensures.longest c.in-Some.status _ _
    (look_ended _ _ c.args.options c.loop-look.follower _ c.loop-look.invariant.messages _ _ _ c.in-Some.status
    c.in-Some.ensures.ended
    (c.in_ok-looked.ensures.looks c.loop-look.invariant.messages _ _ c.loop-look.invariant.counted
    c.loop-look.invariant.going))

pub loop-look-preserved : goal.loop-look-preserved
loop-look-preserved g c =
    dumping_more _ _ c.args.options _ c.loop-look.follower _ _ _ _ _ _ c.loop-look.invariant
    c.in_ok-looked.ensures.follows c.in_ok-looked.ensures.longest _ _ _ c.in_ok-looked.ensures.counted
    (look_goes_on _ _ c.args.options c.loop-look.follower _ c.loop-look.invariant.messages _ _ _ c.in-None.ensures.going
    (c.in_ok-looked.ensures.looks c.loop-look.invariant.messages _ _ c.loop-look.invariant.counted
    c.loop-look.invariant.going))
