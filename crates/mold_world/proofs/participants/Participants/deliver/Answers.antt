use Rattle.std.proofs.Common.{◌≡◌, Err, Some, refl, sym, ap, ◌∙◌}
use Rattle.std.specs.Prelude.{slice_get}
use Rattle.std.proofs.lemmas.Option.{slice_get_read}
use Rattle.std.proofs.lemmas.Result.{err_from_is_err_and}
use Rattle.mold_world.proofs.PlaceRowLemmas.{deliver_done, deliver_nobody, deliver_nothing, deliver_wanting, none_there}
use Rattle.mold_world.specs.Inside.{world_of}
use Rattle.mold_world.specs.declared.report.WorldError.{WorldError}
use Rattle.mold_world.proofs.participants.Participants.deliver.Goals.{In-Some}
use Rattle.mold_world.proofs.participants.Participants.deliver.Goals as goal

-- The receiver that was found.
found_here : (c : In-Some) → slice_get c.args.self.now.subscribers.items c.args.r ≡ Some c.in-Some.subscriber.now
found_here c =
    slice_get_read c.args.self.now.subscribers.items _ c.args.r c.in-Some.subscriber.now c.args.self.now.subscribers.ok.0
    (c.in-Some.ensures.variant.0 refl) c.in-Some.ensures.value

pub returns-in_default-clause-applied : goal.returns-in_default-clause-applied
returns-in_default-clause-applied c = (
  deliver_nobody (world_of c.args.self.now) c.args.r c.args.way c.args.sent
      (none_there c.args.self.now.subscribers.items _ c.args.r c.args.self.now.subscribers.ok.0 c.in_default.ensures.variant.1),
  refl,
)

pub returns-in_default-get-clause-applied : goal.returns-in_default-get-clause-applied
returns-in_default-get-clause-applied c =
    let here = found_here (goal.at.returns-in_default-get-clause-applied c).In-Some in
    deliver_nothing (world_of c.args.self.now) c.args.r c.args.way c.args.sent c.in-Some.subscriber.now _ here
    (sym c.in_default-get.ensures) refl

pub give-requires : goal.give-requires
give-requires c =
    let here = found_here (goal.at.give-requires c).In-Some in
    (c.requires.world.subscribers c.args.r c.in-Some.subscriber.now here).follows

pub returns-in_err-give-clause-applied : goal.returns-in_err-give-clause-applied
returns-in_err-give-clause-applied c =
    let here = found_here (goal.at.returns-in_err-give-clause-applied c).In-Some in
    let e = err_from_is_err_and c.from_residual.result c.from_residual.ensures.1 in
    rw (e.1 ∙ ap (λ (t : WorldError). Err t) e.2)
    (deliver_wanting (world_of c.args.self.now) c.args.r c.args.way c.args.sent c.in-Some.subscriber.now
    c.give.new.self c.in-Some-get.bytes.now here (sym c.in-Some-get.ensures) c.in_err-give.ensures.copied
    c.in_err-give.ensures.same)

pub returns-clause-applied : goal.returns-clause-applied
returns-clause-applied c =
    let here = found_here (goal.at.returns-clause-applied c).In-Some in
    deliver_done (world_of c.args.self.now) c.args.r c.args.way c.args.sent c.in-Some.subscriber.now
    c.give.new.self c.in-Some-get.bytes.now _ here (sym c.in-Some-get.ensures) c.in_ok-give.ensures.told
    c.in_ok-give.ensures.given
