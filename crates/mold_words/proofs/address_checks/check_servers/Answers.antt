use Rattle.std.proofs.Common.{◌≡◌, ◌∙◌, List, map, refl, sym}
use Rattle.std.specs.Borrow.{Bor}
use Rattle.std.specs.List.{list_any}
use Rattle.std.specs.Prelude.{is_some, not}
use Rattle.clap.proofs.WalkLemmas.{list_any-map}
use Rattle.clap.specs.Words.{Text}
use Rattle.mold_words.specs.Addresses.{address_of}
use Rattle.mold_words.proofs.address_checks.check_servers.Goals as goal

-- the test of the texts that are borrowed is the test of their contents
borrowed : (texts : List (Bor Text)) → list_any (λ text. not (is_some (address_of text.now))) texts
    ≡ list_any (λ text. not (is_some (address_of text))) (map (λ text. text.now) texts)
borrowed texts = list_any-map (λ text. not (is_some (address_of text))) (λ (text : Bor Text). text.now) texts

pub returns-then-have_no_address : goal.returns-then-have_no_address
returns-then-have_no_address c = (
  rw (← c.texts_in.ensures, c.in-Some.is)
      (sym (borrowed c.in-Some.texts.now) ∙ sym c.have_no_address.ensures ∙ c.if-have_no_address.true),
  refl,
)

pub returns : goal.returns
returns c =
    rw (← c.texts_in.ensures, c.in-Some.is)
    (sym (borrowed c.in-Some.texts.now) ∙ sym c.have_no_address.ensures ∙ c.if-have_no_address.false)
