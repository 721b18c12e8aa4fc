use Rattle.std.proofs.Common.{◌≡◌, ◌∙◌, List, map, refl, sym}
use Rattle.std.specs.Borrow.{Bor}
use Rattle.std.specs.List.{list_any}
use Rattle.std.specs.Prelude.{is_some, not}
use Rattle.clap.proofs.WalkLemmas.{list_any-map}
use Rattle.clap.specs.Words.{Text}
use Rattle.mold_words.specs.IpAddresses.{ip_of}
use Rattle.mold_words.proofs.address_checks.check_groups.Goals as goal

-- the test of the texts that are borrowed is the test of their contents
borrowed : (texts : List (Bor Text)) → list_any (λ text. not (is_some (ip_of text.now))) texts
    ≡ list_any (λ text. not (is_some (ip_of text))) (map (λ text. text.now) texts)
borrowed texts = list_any-map (λ text. not (is_some (ip_of text))) (λ (text : Bor Text). text.now) texts

pub returns-then-have_no_ip : goal.returns-then-have_no_ip
returns-then-have_no_ip c = (
  rw (← c.texts_in.ensures, c.in-Some.is)
      (sym (borrowed c.in-Some.texts.now) ∙ sym c.have_no_ip.ensures ∙ c.if-have_no_ip.true),
  refl,
)

pub returns : goal.returns
returns c =
    rw (← c.texts_in.ensures, c.in-Some.is)
    (sym (borrowed c.in-Some.texts.now) ∙ sym c.have_no_ip.ensures ∙ c.if-have_no_ip.false)
