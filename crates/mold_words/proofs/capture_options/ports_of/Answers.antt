use Rattle.std.proofs.Common.{◌∙◌, ℕ, [], ◌∷◌, ◌++◌, Some, ap, inr, refl, sym}
use Rattle.std.specs.Borrow.{Bor}
use Rattle.std.specs.Option.{option_map}
use Rattle.std.proofs.lemmas.List.Folds.{list_all-append}
use Rattle.clap.specs.Words.{Text}
use Rattle.mold_words.specs.CaptureOptions.{is_port, port_of}
use Rattle.mold_words.specs.Values.{values_of}
use Rattle.mold_words.proofs.ValuesLemmas.{more, stops}
use Rattle.mold_words.proofs.capture_options.ports_of.Goals as goal

-- the element that an index after the end of the list reads as
no_text : Bor Text
no_text = record { ref_ptr = (0, 0); now = [] }

pub loop-text-init : goal.loop-text-init
unfolding values_of
loop-text-init c = rw (c.new-ports.ensures.items) (record { read = refl; within = refl })

pub returns-in_default-clause-value : goal.returns-in_default-clause-value
unfolding no_text
returns-in_default-clause-value c =
    inr (
      stops port_of c.args.texts.now c.loop-text.text-index no_text c.loop-text.ports.items c.loop-text-test.true
          c.loop-text.invariant.read (sym c.in_default.ensures.value),
      refl,
    )

pub loop-text-preserved : goal.loop-text-preserved
unfolding no_text
loop-text-preserved c =
    let items = c.loop-text.ports.items in
    record {
      read = more port_of c.args.texts.now c.loop-text.text-index no_text items c.loop-text-test.true
          c.loop-text.invariant.read
          ∙ ap (option_map (λ (port : ℕ). items ++ port ∷ [])) (sym c.in-Some.ensures.value)
          ∙ ap Some (sym c.in_default-push.ensures.items);
      within = rw (c.in_default-push.ensures.items)
          (list_all-append is_port items (c.in-Some.port ∷ []) ∙ rw (c.loop-text.invariant.within, c.in-Some.ensures.within) refl);
    }
