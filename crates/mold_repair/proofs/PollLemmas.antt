-- What a poll returns.
use Rattle.std.proofs.Common.{◌≡◌, ℕ, ◌==◌, false, Option, None, Some, MatchOption, cond, ap, arith}
use Rattle.std.proofs.lemmas.Bool.Decides.{nat_tests}
use Rattle.mold_pacing.specs.Run.{Takes}
use Rattle.mold_pacing.specs.declared.ask.Ask.{Ask as Sent}
use Rattle.mold_pacing.specs.declared.pacer.Pacer.{Pacer}
use Rattle.mold_pacing.specs.declared.step.Step.TheVariants.{Advance}
use Rattle.mold_receiver.specs.View.{View}
use Rattle.mold_repair.specs.Polls.{HasPolled, HasRequested, HasSentAll, IsStill, ask_of, returned}
use Rattle.mold_repair.specs.declared.ask.Ask.{Ask}
use Rattle.mold_repair.specs.declared.options.RepairOptions.{RepairOptions}
use Rattle.mold_wire.specs.declared.session.Session.{Session}

pub polled_none : (options : RepairOptions) (v : View) (old between new : Pacer) (now : ℕ) (result : Option Ask)
    → Takes old between (Advance now v.known) None → options.servers ≡ 0 → result ≡ None
    → HasSentAll options.give_up v between new → HasPolled options v old new now result
polled_none options v old between new now result took zero is all = record {
  between = between;
  time = took;
  none = λ _. (is, all);
  some = λ some. absurd (omega (arith, zero, some));
}

pub polled_some : (options : RepairOptions) (v : View) (old between new : Pacer) (now : ℕ) (result : Option Ask)
    (sent : Option Sent) → Takes old between (Advance now v.known) None → (options.servers ≡ 0 → ⊥)
    → MatchOption sent (IsStill options.give_up v between new) (HasRequested options.give_up v between new)
    → result ≡ returned v.session options.servers sent → HasPolled options v old new now result
polled_some options v old between new now result sent took some did answer = record {
  between = between;
  time = took;
  none = λ zero. absurd (some zero);
  some = λ _. record { sent = sent; polled = did; answer = answer };
}

pub returned_none : (session : Session) (servers : ℕ) (sent : Sent) → servers ≡ 0 →
    returned session servers (Some sent) ≡ None
returned_none session servers sent is = ap (λ n. returned session n (Some sent)) is

pub returned_some : (session : Session) (servers : ℕ) (sent : Sent) → (servers ≡ 0 → ⊥) →
    returned session servers (Some sent) ≡ Some (ask_of session sent)
returned_some session servers sent some =
    let off : (servers == 0) ≡ false = grind (arith, nat_tests, some) in
    ap (λ b. cond b None (Some (ask_of session sent))) off
