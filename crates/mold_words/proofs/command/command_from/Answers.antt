use Rattle.std.proofs.Common.{◌∙◌, sym, ap, arith, [], fold, get_or, map}
use Rattle.std.proofs.lemmas.List.{take_all}
use Rattle.clap.specs.Words.{App, new_app}
use Rattle.mold_words.specs.Words.{with_option}
use Rattle.mold_words.specs.Table.{option_of}
use Rattle.mold_words.specs.declared.table.OptionRow.{OptionRow}
use Rattle.mold_words.specs.declared.table.Kind.TheVariants.{Flag}
use Rattle.mold_words.proofs.FoldLemmas.{fold-map_more}
use Rattle.mold_words.proofs.command.command_from.Goals as goal

-- the element that an index after the end of the list reads as
no_option : OptionRow
no_option = record {
  name = record { ref_ptr = (0, 0); now = [] };
  kind = Flag;
  help = record { ref_ptr = (0, 0); now = [] };
}

pub loop-option-preserved : goal.loop-option-preserved
unfolding no_option
loop-option-preserved c =
    let options = c.args.row.options.now in
    let i = c.loop-option.option-index in
    let added : App → App = λ app. with_option app (option_of (get_or options i no_option)) in
    record {
      app = c.in_ok-command.ensures.app ∙ ap added c.loop-option.invariant.app
          ∙ sym (fold-map_more with_option (new_app c.args.row.name.now) option_of options i no_option (omega arith));
      local = c.in_ok-command.ensures.local;
    }

pub loop-option-init : goal.loop-option-init
loop-option-init c = record {
  app = rw (c.after_help-command.ensures, c.about.ensures) c.new.ensures.app;
  local = rw (c.after_help-command.ensures, c.about.ensures) c.new.ensures.local;
}

pub returns : goal.returns
returns c =
    let options = c.args.row.options.now in
    record {
      app = c.loop-option.invariant.app
          ∙ ap (λ rows. fold with_option (new_app c.args.row.name.now) (map option_of rows))
          (take_all c.loop-option.option-index options (omega arith));
      local = c.loop-option.invariant.local;
    }
