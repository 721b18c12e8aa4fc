-- Lemmas about the faults that report arguments.
use Rattle.std.proofs.Common.{◌≡◌, ◌∙◌, ◌⊎◌, Bool, List, [], Option, Result, Ok, Err, None, is_err, true}
use Rattle.std.proofs.lemmas.Bool.{false≢true}
use Rattle.std.proofs.lemmas.Option.{none-some}
use Rattle.std.proofs.Common.{ap, inl, inr, refl, subst, sym}
use Rattle.std.specs.declared.string.String.{String}
use Rattle.std.specs.declared.alloc.AllocError.{AllocError}
use Rattle.std.specs.declared.alloc.Global.{Global}
use Rattle.clap.specs.Words.{App, HasKind, HasMatchesOf, IsAmong, Kinds, Row, Text, fault_of, kind_of}
use Rattle.clap.specs.Words.{subcommand_of, subcommand_rows_of}
use Rattle.clap.specs.declared.parser.matches.ArgMatches.{ArgMatches}
use Rattle.mold_words.proofs.OrderLemmas.{found-matches, order_of-matches}
use Rattle.clap.specs.declared.error.Error.{Error}
use Rattle.clap.specs.declared.error.kind.ErrorKind.{ErrorKind}
use Rattle.clap.specs.declared.error.kind.ErrorKind.TheVariants.{OutOfMemory}
use Rattle.mold_words.specs.Words.{mold_app}
use Rattle.mold_words.specs.NoOrders.{is_address}
use Rattle.mold_words.specs.Orders.{lacks_address, order_in, order_of, Say}
use Rattle.mold_words.specs.Arguments.{Arguments}
use Rattle.mold_words.specs.Faults.{IsClapFault, IsFaultOf, fault_of_kind, fault_if_made, value_fault}
use Rattle.mold_words.specs.declared.no_order.NoOrder.{NoOrder}
use Rattle.mold_words.specs.declared.no_order.NoOrder.TheVariants as no_order
use Rattle.mold_words.specs.declared.fault.UsageFault.{UsageFault}
use Rattle.mold_words.specs.declared.fault.UsageFault.TheVariants.{Memory}

-- an error of one of the kinds, or of memory, is reported as such
tells-told : (kinds : Kinds) (error : ErrorKind) (text : Result (String Global) AllocError)
    → (error ≡ OutOfMemory) ⊎ IsAmong error kinds → IsClapFault kinds (fault_if_made error text)
tells-told kinds error (Err refused) has = inl refl
tells-told kinds error (Ok text) (inl memory) = inl (ap (λ kind. fault_of_kind kind text) memory)
tells-told kinds error (Ok text) (inr among) = inr (error, text, among, refl)

-- so is the error of a parse of the program's arguments
pub tells-parse : (words : List Text) (app : App) (error : Error) (kind : ErrorKind)
    (text : Result (String Global) AllocError) (fault : UsageFault)
    → app ≡ mold_app → HasKind (fault_of app words) error → kind ≡ kind_of error → fault ≡ fault_if_made kind text
    → IsClapFault (fault_of mold_app words) fault
tells-parse words app error kind text fault same has is made =
    let kinds = ap (λ (a : App). fault_of a words) same in
    let told_here = tells-told (fault_of app words) (kind_of error) text has in
    subst (λ (ks : Kinds). IsClapFault ks fault) kinds
    (subst (IsClapFault (fault_of app words)) (sym (made ∙ ap (λ k. fault_if_made k text) is)) told_here)

-- without an error to report, the fault is `Memory`
pub tells-nothing : (kinds : Kinds) (fault : UsageFault) → kinds ≡ [] → IsClapFault kinds fault → fault ≡ Memory
tells-nothing kinds fault none (inl memory) = memory
tells-nothing kinds fault none (inr fault_of_kind) = absurd (subst (IsAmong fault_of_kind.0) none fault_of_kind.2)

-- arguments give no order: either an allocation failed, and no text is made, or they ask for nothing; in the second
-- case the reason is an invalid address exactly when an address of the command is invalid
pub record GivesNone (words : List Text) (none : NoOrder) (found : Option (Text × List Row))
    (text : Result (String Global) AllocError) : Type 0 where
  pub named : subcommand_of mold_app words ≡ found
  pub says : order_of words ≡ order_in found
  pub nothing : (none ≡ no_order.Memory) ⊎ ((order_in found ≡ None) × (is_address none ≡ lacks_address found))
  pub unmade : none ≡ no_order.Memory → is_err text ≡ true

pub gives-none : (words : List Text) (app : App) (m : ArgMatches) (none : NoOrder)
    (text : Result (String Global) AllocError) → app ≡ mold_app → HasMatchesOf app words m
    → (none ≡ no_order.Memory) ⊎ ((order_in (subcommand_rows_of m) ≡ None)
    × (is_address none ≡ lacks_address (subcommand_rows_of m)))
    → (none ≡ no_order.Memory → is_err text ≡ true) → GivesNone words none (subcommand_rows_of m) text
gives-none words app m none text same matches nothing unmade = record {
  named = found-matches words app m same matches;
  says = order_of-matches words app m same matches;
  nothing = nothing;
  unmade = unmade;
}

unmade-memory : (is : Bool) (text : Result (String Global) AllocError) → is_err text ≡ true
    → value_fault is text ≡ Memory
unmade-memory is (Ok text) unmade = absurd (false≢true unmade)
unmade-memory is (Err refused) unmade = refl

fault_of_kind-value : (words : List Text) (is : Bool) (text : Result (String Global) AllocError) (fault : UsageFault)
    → order_of words ≡ None → is ≡ lacks_address (subcommand_of mold_app words) → fault ≡ value_fault is text
    → IsFaultOf words fault
fault_of_kind-value words is (Ok text) fault nothing same made =
    inr (nothing, (text, made ∙ ap (λ (b : Bool). value_fault b (Ok text)) same))
fault_of_kind-value words is (Err refused) fault nothing same made = inl (inl made)

-- the fault reports that
pub tells-none : (words : List Text) (none : NoOrder) (found : Option (Text × List Row))
    (text : Result (String Global) AllocError) (fault : UsageFault) → GivesNone words none found text
    → fault ≡ value_fault (is_address none) text → IsFaultOf words fault
tells-none words none found text fault gives made =
    elim gives.nothing [
      | inl memory ↦ inl (inl (made ∙ unmade-memory (is_address none) text (gives.unmade memory)))
      | inr nothing ↦ fault_of_kind-value words (is_address none) text fault (gives.says ∙ nothing.0)
          (nothing.1 ∙ sym (ap lacks_address gives.named)) made
    ]

-- if the arguments ask for something, the fault is `Memory`
pub says-none : (words : List Text) (none : NoOrder) (found : Option (Text × List Row))
    (text : Result (String Global) AllocError) (fault : UsageFault) (wanted : Arguments)
    → GivesNone words none found text → fault ≡ value_fault (is_address none) text → Say words wanted
    → fault ≡ Memory
says-none words none found text fault wanted gives made say =
    elim gives.nothing [
      | inl memory ↦ made ∙ unmade-memory (is_address none) text (gives.unmade memory)
      | inr nothing ↦ absurd (none-some wanted (sym (gives.says ∙ nothing.0) ∙ say.1))
    ]
