use Rattle.std.proofs.Common.{◌≡◌, ◌∙◌, [], Some, ap, refl}
use Rattle.clap.specs.Words.{Rule, Text, new_rule}
use Rattle.mold_words.specs.Words.{rule_for}
use Rattle.mold_words.specs.declared.table.Kind.{Kind}
use Rattle.mold_words.specs.declared.table.Kind.TheVariants.{Flag, Optional, Repeated, Required, RequiredRepeated, Word}
use Rattle.mold_words.proofs.command.argument_of.Goals as goal

-- an option with a value that is given by its name
named : (name : Text) (kind : Kind) → (kind ≡ Flag → ⊥) → (kind ≡ Word → ⊥)
    → record (new_rule name) {
      long = Some name;
      action = (rule_for [] kind).action;
      value_names = 1;
      required = (rule_for [] kind).required;
    }
    ≡ rule_for name kind
named name Flag flag word = absurd (flag refl)
named name Word flag word = absurd (word refl)
named name Optional flag word = refl
named name Repeated flag word = refl
named name Required flag word = refl
named name RequiredRepeated flag word = refl

pub returns-in_default-clause-rule : goal.returns-in_default-clause-rule
returns-in_default-clause-rule c =
    let name = c.args.option.name.now in
    rw (c.value_name-in_default-2.ensures, c.long-in_default.ensures)
    (ap (λ (rule : Rule). record rule { long = Some name; value_names = 1 }) c.plain_argument-argument.ensures.rule
    ∙ named name c.args.option.kind c.in_default.not-Flag c.in_default.not-Word)
