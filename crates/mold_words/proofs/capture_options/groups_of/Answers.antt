use Rattle.std.proofs.Common.{◌∙◌, [], ◌∷◌, ◌++◌, Some, ap, inr, refl, sym}
use Rattle.std.specs.Borrow.{Bor}
use Rattle.std.specs.Option.{option_map}
use Rattle.clap.specs.Words.{Text}
use Rattle.mold_frame.specs.declared.ip_address.IpAddress.{IpAddress}
use Rattle.mold_words.specs.IpAddresses.{ip_of}
use Rattle.mold_words.specs.Values.{values_of}
use Rattle.mold_words.proofs.ValuesLemmas.{more, stops}
use Rattle.mold_words.proofs.capture_options.groups_of.Goals as goal

-- the element that an index after the end of the list reads as
no_text : Bor Text
no_text = record { ref_ptr = (0, 0); now = [] }

pub loop-text-init : goal.loop-text-init
unfolding values_of
loop-text-init c = rw (c.new-groups.ensures.items) refl

pub returns-in_default : goal.returns-in_default
unfolding no_text
returns-in_default c =
    inr (
      stops ip_of c.args.texts.now c.loop-text.text-index no_text c.loop-text.groups.items c.loop-text-test.true
          c.loop-text.invariant (sym c.in_default.ensures),
      refl,
    )

pub loop-text-preserved : goal.loop-text-preserved
unfolding no_text
loop-text-preserved c =
    let items = c.loop-text.groups.items in
    more ip_of c.args.texts.now c.loop-text.text-index no_text items c.loop-text-test.true c.loop-text.invariant
    ∙ ap (option_map (λ (group : IpAddress). items ++ group ∷ [])) (sym c.in-Some.ensures)
    ∙ ap Some (sym c.in_default-push.ensures.items)
