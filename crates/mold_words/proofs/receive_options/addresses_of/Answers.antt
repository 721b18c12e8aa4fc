use Rattle.std.proofs.Common.{◌∙◌, ◌+◌, [], ◌∷◌, ◌++◌, Some, ap, inr, length, map, refl, sym}
use Rattle.std.specs.Borrow.{Bor}
use Rattle.std.specs.Option.{option_map}
use Rattle.std.proofs.lemmas.List.{length-append, map-append}
use Rattle.clap.specs.Words.{Text}
use Rattle.mold_words.specs.Addresses.{HostPort, address_of, address_view}
use Rattle.mold_words.specs.Values.{values_of}
use Rattle.mold_words.proofs.ValuesLemmas.{more, stops}
use Rattle.mold_words.proofs.receive_options.addresses_of.Goals as goal

-- the element that an index after the end of the list reads as
no_text : Bor Text
no_text = record { ref_ptr = (0, 0); now = [] }

pub loop-text-init : goal.loop-text-init
unfolding values_of
loop-text-init c = rw (c.new-addresses.ensures.items) (record { read = refl; count = refl })

pub returns-in_default-clause-value : goal.returns-in_default-clause-value
unfolding no_text
returns-in_default-clause-value c =
    inr (
      stops address_of c.args.texts.now c.loop-text.text-index no_text (map address_view c.loop-text.addresses.items)
          c.loop-text-test.true c.loop-text.invariant.read (sym c.in_default.ensures),
      refl,
    )

pub loop-text-preserved : goal.loop-text-preserved
unfolding no_text
loop-text-preserved c =
    let items = c.loop-text.addresses.items in
    let all = map address_view items in
    record {
      read = more address_of c.args.texts.now c.loop-text.text-index no_text all c.loop-text-test.true c.loop-text.invariant.read
          ∙ ap (option_map (λ (address : HostPort). all ++ address ∷ [])) (sym c.in-Some.ensures)
          ∙ ap Some (sym (ap (map address_view) c.in_default-push.ensures.items
          ∙ map-append address_view items (c.in-Some.address ∷ [])));
      count = ap length c.in_default-push.ensures.items ∙ length-append items (c.in-Some.address ∷ [])
          ∙ ap (λ n. n + 1) c.loop-text.invariant.count;
    }
