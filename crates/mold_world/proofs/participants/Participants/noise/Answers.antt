use Rattle.std.proofs.Common.{◌≡◌, Some, refl, ap, ◌∙◌}
use Rattle.std.specs.Prelude.{slice_get}
use Rattle.std.proofs.lemmas.Option.{slice_get_read}
use Rattle.mold_wire.specs.Reading.{reading}
use Rattle.mold_wire.specs.declared.session.Session.{Session}
use Rattle.mold_world.proofs.PlaceRowLemmas.{noise_done, noise_never_wants, noise_nobody, noise_own, none_there}
use Rattle.mold_world.specs.Effect.{is_own}
use Rattle.mold_world.specs.Inside.{world_of}
use Rattle.mold_world.proofs.participants.Participants.noise.Goals.{In-Some}
use Rattle.mold_world.proofs.participants.Participants.noise.Goals as goal

-- The receiver that was found.
found_here : (c : In-Some) → slice_get c.args.self.now.subscribers.items c.args.r ≡ Some c.in-Some.subscriber.now
found_here c =
    slice_get_read c.args.self.now.subscribers.items _ c.args.r c.in-Some.subscriber.now c.args.self.now.subscribers.ok.0
    (c.in-Some.ensures.variant.0 refl) c.in-Some.ensures.value

pub returns-in_default-clause-applied : goal.returns-in_default-clause-applied
returns-in_default-clause-applied c = (
  noise_nobody (world_of c.args.self.now) c.args.r c.args.way c.args.bytes.now
      (none_there c.args.self.now.subscribers.items _ c.args.r c.args.self.now.subscribers.ok.0 c.in_default.ensures.variant.1),
  refl,
)

pub returns-then-is_own-clause-applied : goal.returns-then-is_own-clause-applied
returns-then-is_own-clause-applied c =
    let here = found_here (goal.at.returns-then-is_own-clause-applied c).In-Some in
    let named = c.session.ensures ∙ ap (λ t. t.session) c.journal.ensures in
    noise_own (world_of c.args.self.now) c.args.r c.args.way c.args.bytes.now c.in-Some.subscriber.now _ here
    (c.if-is_own.ensures ∙ ap (λ (t : Session). is_own t (reading c.args.bytes.now)) named) refl

pub give-requires : goal.give-requires
give-requires c =
    let here = found_here (goal.at.give-requires c).In-Some in
    (c.requires.world.subscribers c.args.r c.in-Some.subscriber.now here).follows

pub returns-in_err-give-clause-applied : goal.returns-in_err-give-clause-applied
returns-in_err-give-clause-applied c =
    let here = found_here (goal.at.returns-in_err-give-clause-applied c).In-Some in
    let named = c.session.ensures ∙ ap (λ t. t.session) c.journal.ensures in
    absurd (noise_never_wants (world_of c.args.self.now) c.args.r c.args.bytes.now c.in-Some.subscriber.now
    c.requires.world here
    (c.if-is_own.ensures ∙ ap (λ (t : Session). is_own t (reading c.args.bytes.now)) named)
    c.in_err-give.ensures.copied)

pub returns-clause-applied : goal.returns-clause-applied
returns-clause-applied c =
    let here = found_here (goal.at.returns-clause-applied c).In-Some in
    let named = c.session.ensures ∙ ap (λ t. t.session) c.journal.ensures in
    noise_done (world_of c.args.self.now) c.args.r c.args.way c.args.bytes.now c.in-Some.subscriber.now
    c.give.new.self _ here
    (c.if-is_own.ensures ∙ ap (λ (t : Session). is_own t (reading c.args.bytes.now)) named)
    c.in_ok-give.ensures.told c.in_ok-give.ensures.given
