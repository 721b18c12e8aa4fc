-- What a server does with requests and plans.
use Rattle.std.specs.Prelude.{◌≡◌, ℕ, ◌+◌, ◌<◌, ◌≤◌, List, length, Ok, Err}
use Rattle.mold_wire.specs.declared.request.Request.{Request}
use Rattle.mold_session.specs.Answer.{PlanState, IsSpent, next_part, next_packet, moved}
use Rattle.mold_session.specs.Journal.{JournalState}
use Rattle.mold_session.specs.Putting.{Puts}
use Rattle.mold_session.specs.Server.{ServerState, SpellsAnswer, checked_request, planning, counted}
use Rattle.mold_session.specs.declared.error.AnswerError.{AnswerError}
use Rattle.mold_ffi.specs.Buffer.{PutsPacket}
use Rattle.mold_ffi.specs.Code.AnswerError.{answer_error_code, answer_error_number}
use Rattle.mold_ffi.specs.Server.MoldPlan.{plan_of, plan_fields}
use Rattle.mold_ffi.specs.declared.code.TheConstants as codes
use Rattle.mold_ffi.specs.declared.server.mold_plan.MoldPlan.{MoldPlan}

-- The server may respond from the journal: it allows messages as long as the journal does.
abbrev pub Suits : ServerState → JournalState → Type 0
Suits server journal = journal.max_message ≤ server.max_message

-- The buffer begins with the first response to a request, which is `size` bytes long. Its other bytes are unchanged.
pub record PutsAnswer (server : ServerState) (journal : JournalState) (request old new : List ℕ)
    (size : ℕ) : Type 0 where
  pub bytes : List ℕ
  pub spelled : SpellsAnswer journal server request bytes
  pub put : Puts old new bytes size

-- Either the first response is written to a buffer that has at least as many bytes as the limit, or the request is
-- refused for the first reason that applies. Afterwards the handle holds `held`, which is `holding` of the server's new
-- state.
pub record Answers (T : Type 0) (server : ServerState) (journal : JournalState) (request old new : List ℕ)
    (before code number : ℕ) (holding : ServerState → T) (held : T) : Type 0 where
  pub foreign : (Suits server journal → ⊥) →
      (code ≡ codes.BROKEN) × (number ≡ before) × (new ≡ old) × (held ≡ holding server)
  pub room : Suits server journal → length old < server.limit →
      (code ≡ codes.ROOM) × (number ≡ server.limit) × (new ≡ old) × (held ≡ holding server)
  pub refused : (error : AnswerError) → Suits server journal → server.limit ≤ length old →
      checked_request journal request ≡ Err error →
      (code ≡ answer_error_code error) × (number ≡ answer_error_number error) × (new ≡ old) × (held ≡ holding server)
  pub answered : (asked : Request) → Suits server journal → server.limit ≤ length old →
      checked_request journal request ≡ Ok asked →
      (code ≡ codes.DONE) × PutsAnswer server journal request old new number × (held ≡ holding (counted server))

-- The responses to a request are planned, or the request is refused for the first reason that applies. Afterwards the
-- handle holds `held`, which is `holding` of the server's new state.
pub record Plans (T : Type 0) (server : ServerState) (journal : JournalState) (request : List ℕ) (old new : MoldPlan)
    (before code number : ℕ) (holding : ServerState → T) (held : T) : Type 0 where
  pub foreign : (Suits server journal → ⊥) →
      (code ≡ codes.BROKEN) × (number ≡ before) × (new ≡ old) × (held ≡ holding server)
  pub refused : (error : AnswerError) → Suits server journal → planning journal server.burst request ≡ Err error →
      (code ≡ answer_error_code error) × (number ≡ answer_error_number error) × (new ≡ old) × (held ≡ holding server)
  pub planned : (plan : PlanState) → Suits server journal → planning journal server.burst request ≡ Ok plan →
      (code ≡ codes.DONE) × (number ≡ 0) × (new ≡ plan_fields plan) × (held ≡ holding (counted server))

-- A plan that the server may have made for this journal: its messages are the journal's, and it has at most as many
-- datagrams as the server's burst.
pub record MayServe (server : ServerState) (journal : JournalState) (plan : PlanState) : Type 0 where
  pub suits : Suits server journal
  pub first : 1 ≤ plan.from
  pub ordered : plan.from ≤ plan.to
  pub within : plan.to ≤ length journal.messages + 1
  pub few : plan.left ≤ server.burst
  pub session : plan.session ≡ journal.session

-- The next packet of a plan is written to a buffer that has at least as many bytes as the limit, and the plan moves
-- past its messages.
pub record Serves (server : ServerState) (journal : JournalState) (fields after : MoldPlan) (old new : List ℕ)
    (before code size : ℕ) : Type 0 where
  pub broken : (MayServe server journal (plan_of fields) → ⊥) →
      (code ≡ codes.BROKEN) × (size ≡ before) × (new ≡ old) × (after ≡ fields)
  pub room : MayServe server journal (plan_of fields) → length old < server.limit →
      (code ≡ codes.ROOM) × (size ≡ server.limit) × (new ≡ old) × (after ≡ fields)
  pub absent : MayServe server journal (plan_of fields) → server.limit ≤ length old → IsSpent (plan_of fields) →
      (code ≡ codes.ABSENT) × (size ≡ 0) × (new ≡ old) × (after ≡ fields)
  pub put : MayServe server journal (plan_of fields) → server.limit ≤ length old → (IsSpent (plan_of fields) → ⊥) →
      (code ≡ codes.DONE)
      × PutsPacket (next_packet journal.messages server.limit (plan_of fields)) old new size
      × (after ≡ plan_fields
      (moved (plan_of fields) (length (next_part journal.messages server.limit (plan_of fields)))))
