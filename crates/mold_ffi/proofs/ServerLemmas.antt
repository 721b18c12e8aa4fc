-- Servers of both kinds of handles.
use Rattle.std.proofs.Common.{◌≡◌, ℕ, List, ap, subst}
use Rattle.mold_session.specs.Journal.{JournalState}
use Rattle.mold_session.specs.Server.{ServerState}
use Rattle.mold_ffi.specs.Server.Answering.{Answers, Plans, Serves}
use Rattle.mold_ffi.specs.declared.server.mold_plan.MoldPlan.{MoldPlan}

-- The response, the plan and the datagram of a server are those of the value that holds it.
pub answers_held : (T : Type 0) (server one : ServerState) (journal lent : JournalState) (request old new : List ℕ)
    (before code number : ℕ) (holding : ServerState → T) (after : ServerState) → one ≡ server → lent ≡ journal →
    Answers ServerState one lent request old new before code number (λ s. s) after →
    Answers T server journal request old new before code number holding (holding after)
answers_held T server one journal lent request old new before code number holding after same same_journal given =
    let answers : Answers ServerState server journal request old new before code number (λ s. s) after =
    subst (λ (j : JournalState). Answers ServerState server j request old new before code number (λ s. s) after)
    same_journal
    (subst (λ (v : ServerState). Answers ServerState v lent request old new before code number (λ s. s) after) same given)
    in
    record {
      foreign = λ not. let a = answers.foreign not in (a.0, a.1, a.2, ap holding a.3);
      room = λ suits short. let a = answers.room suits short in (a.0, a.1, a.2, ap holding a.3);
      refused = λ error suits long asks. let a = answers.refused error suits long asks in
          (a.0, a.1, a.2, ap holding a.3);
      answered = λ asked suits long asks. let a = answers.answered asked suits long asks in (a.0, a.1, ap holding a.2);
    }

pub plans_held : (T : Type 0) (server one : ServerState) (journal lent : JournalState) (request : List ℕ)
    (old new : MoldPlan) (before code number : ℕ) (holding : ServerState → T) (after : ServerState) → one ≡ server →
    lent ≡ journal → Plans ServerState one lent request old new before code number (λ s. s) after →
    Plans T server journal request old new before code number holding (holding after)
plans_held T server one journal lent request old new before code number holding after same same_journal given =
    let plans : Plans ServerState server journal request old new before code number (λ s. s) after =
    subst (λ (j : JournalState). Plans ServerState server j request old new before code number (λ s. s) after)
    same_journal
    (subst (λ (v : ServerState). Plans ServerState v lent request old new before code number (λ s. s) after) same given)
    in
    record {
      foreign = λ not. let a = plans.foreign not in (a.0, a.1, a.2, ap holding a.3);
      refused = λ error suits asks. let a = plans.refused error suits asks in (a.0, a.1, a.2, ap holding a.3);
      planned = λ plan suits asks. let a = plans.planned plan suits asks in (a.0, a.1, a.2, ap holding a.3);
    }

pub serves_held : (server one : ServerState) (journal lent : JournalState) (fields after : MoldPlan) (old new : List ℕ)
    (before code size : ℕ) → one ≡ server → lent ≡ journal → Serves one lent fields after old new before code size →
    Serves server journal fields after old new before code size
serves_held server one journal lent fields after old new before code size same same_journal given =
    subst (λ (j : JournalState). Serves server j fields after old new before code size) same_journal
    (subst (λ (v : ServerState). Serves v lent fields after old new before code size) same given)
