use Rattle.mold_pacing.proofs.PlaceLemmas.{place_end}
use Rattle.mold_pacing.proofs.WalkLemmas.{gaps_are}
use Rattle.mold_pacing.proofs.pacer.Pacer.poll.Goals as goal

pub first_free-requires-clause-gaps : goal.first_free-requires-clause-gaps
first_free-requires-clause-gaps c = gaps_are c.args.gaps.now c.requires

pub ask_for-ask-requires-clause-before : goal.ask_for-ask-requires-clause-before
ask_for-ask-requires-clause-before c =
    place_end _ _ _ _ c.in_ok-place.place.leaves c.in_ok-place.place.before c.in_ok-place.ensures.place
