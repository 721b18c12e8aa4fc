-- What an event does, from the contracts of the functions of publisher and server.
use Rattle.std.proofs.Common.{◌≡◌, ℕ, zero, suc, ◌+◌, ◌≤◌, cond, ltb, List, [], ◌∷◌, ◌++◌, length, drop}
use Rattle.std.proofs.Common.{refl, sym, ap, subst, ◌∙◌, inl, inr, arith}
use Rattle.std.specs.Prelude.{◌==◌, Option, None, Some, Bool, true, false, Ok, Err, unwrap_or, IsOk, IfSome, IsSome, Result, IfOk, IfErr, OnOk, OnErr}
use Rattle.std.proofs.lemmas.Bool.{lt-ltb, eqb-true}
use Rattle.std.proofs.lemmas.Option.{none-some, same_Some}
use Rattle.std.proofs.Math.Seq.{drop-length}
use Rattle.mold_messages.specs.Listed.{HasRoom, Listed}
use Rattle.mold_wire.specs.Packet.{Spells, messages_of}
use Rattle.mold_wire.specs.Packing.{Fits, IsFront, front}
use Rattle.mold_wire.specs.declared.packet.Packet.{Packet}
use Rattle.mold_wire.specs.declared.packet.Body.TheVariants.{Data}
use Rattle.mold_session.specs.Journal.{append_refusal}
use Rattle.mold_session.specs.Publisher.{IsPublisher, Lends, PublisherState, after_datagram, closed, next_datagram, next_end}
use Rattle.mold_session.specs.Publisher.{next_front, next_heartbeat, published, unsent_of}
use Rattle.mold_session.specs.declared.error.AppendError.{AppendError}
use Rattle.mold_session.specs.declared.error.AppendError.TheVariants.{Closed, TooLong, Full, Memory as AppendMemory}
use Rattle.mold_session.specs.declared.error.Unsent.{Unsent}
use Rattle.mold_world.specs.Effect.{Outcome, effect, publishing, sending, unsent_count}
use Rattle.mold_world.specs.declared.event.EventOf.TheVariants.{Publish, Datagram, Heartbeat, Close, End}
use Rattle.mold_world.specs.Refusals.{Applies, MayWant, Refuses, append_error}
use Rattle.mold_world.specs.Event.{Happening}
use Rattle.mold_world.specs.Sending.{stored, stored_report}
use Rattle.mold_world.specs.World.{WorldState}
use Rattle.mold_world.specs.declared.report.Report.{Report}
use Rattle.mold_world.specs.declared.report.Report.TheVariants as report
use Rattle.mold_session.specs.declared.error.SessionError.TheVariants as session
use Rattle.mold_world.specs.declared.report.WorldError.{WorldError}
use Rattle.mold_world.specs.declared.report.WorldError.TheVariants.{Memory, Layer as Refusal}

-- A message is published.
pub publish_done :
    (w : WorldState) (message : List ℕ) (number : ℕ) (new : PublisherState) →
    append_refusal w.publisher.journal message ≡ None → number ≡ length w.publisher.journal.messages + 1 →
    new ≡ published w.publisher message →
    effect w (Publish message) ≡ Ok (report.Published number, record w { publisher = new })
unfolding effect
publish_done w message number new none counted is =
    ap (λ (t : Option AppendError). publishing w message t) none
    ∙ (λ j. Ok (report.Published (sym counted j), record w { publisher = sym is j }))

-- The rule never refuses a message with `Memory`.
refused_by :
    (shut long full : Bool) (len : ℕ) (cause : AppendError) →
    cond {A = Option AppendError} shut (Some Closed)
    (cond long (Some (TooLong len)) (cond full (Some Full) None)) ≡ Some cause →
    append_error cause ≡ Refusal (session.Append cause)
refused_by true long full len cause is =
    subst (λ (t : AppendError). append_error t ≡ Refusal (session.Append t)) (same_Some Closed cause is) refl
refused_by false true full len cause is =
    subst (λ (t : AppendError). append_error t ≡ Refusal (session.Append t)) (same_Some (TooLong len) cause is) refl
refused_by false false true len cause is =
    subst (λ (t : AppendError). append_error t ≡ Refusal (session.Append t)) (same_Some Full cause is) refl
refused_by false false false len cause is = absurd (none-some cause is)

publish_refusal :
    (w : WorldState) (message : List ℕ) (refusal : Option AppendError) (cause : AppendError) →
    append_refusal w.publisher.journal message ≡ refusal → cause ≡ unwrap_or refusal AppendMemory →
    Refuses w (Publish message) (append_error cause)
unfolding effect
publish_refusal w message None cause none is =
    inl (ap append_error is, subst (λ (t : Option AppendError). IsOk (publishing w message t)) (sym none) refl)
publish_refusal w message (Some refusal) cause some is =
    inr (ap (λ (t : Option AppendError). publishing w message t) some
    ∙ ap (λ (t : WorldError). Err t) (sym (ap append_error is ∙ refused_by w.publisher.journal.closed
    (ltb w.publisher.journal.max_message (length message))
    (length w.publisher.journal.messages == 18446744073709551614) (length message) refusal some)))

pub publish_refused :
    (w : WorldState) (message : List ℕ) (cause : AppendError) (error : WorldError) (new : PublisherState) →
    cause ≡ unwrap_or (append_refusal w.publisher.journal message) AppendMemory → error ≡ append_error cause →
    new ≡ w.publisher → Refuses w (Publish message) error × (record w { publisher = new } ≡ w)
publish_refused w message cause error new is told same = (
  subst (λ (t : WorldError). Refuses w (Publish message) t) (sym told)
      (publish_refusal w message (append_refusal w.publisher.journal message) cause refl is),
  ap (λ (t : PublisherState). record w { publisher = t }) same,
)

-- The next datagram is stored.
send_stored :
    (w : WorldState) (next : Option Packet) (publisher : PublisherState) (lent : Option (List ℕ)) →
    Lends next lent → (next ≡ None → publisher ≡ w.publisher) →
    sending w next publisher
    ≡ Ok (stored_report w.sent lent, record w { publisher = publisher; sent = stored w.sent lent })
send_stored w None publisher None lends idle =
    ap (λ (t : PublisherState). Ok (report.Nothing, record w { publisher = t })) (sym (idle refl))
send_stored w None publisher (Some bytes) lends idle = absurd lends
send_stored w (Some packet) publisher None lends idle = absurd lends
send_stored w (Some packet) publisher (Some bytes) lends idle =
    ap (λ (t : List ℕ). Ok (report.Sent (length w.sent), record w { publisher = publisher; sent = w.sent ++ t ∷ [] }))
    (sym lends.spelled)

-- A function of the publisher returned a datagram, and that was stored.
pub record IsStored (w : WorldState) (next : Option Packet) (publisher : PublisherState) (told : Report)
    (new : PublisherState) (sent : List (List ℕ)) : Type 0 where
  pub lent : Option (List ℕ)
  pub lends : Lends next lent
  pub left : new ≡ publisher
  pub reported : told ≡ stored_report w.sent lent
  pub now : sent ≡ stored w.sent lent

sent_row :
    (w : WorldState) (next : Option Packet) (publisher : PublisherState) (told : Report) (new : PublisherState)
    (sent : List (List ℕ)) → (next ≡ None → publisher ≡ w.publisher) → IsStored w next publisher told new sent →
    sending w next publisher ≡ Ok (told, record w { publisher = new; sent = sent })
sent_row w next publisher told new sent idle is =
    send_stored w next publisher is.lent is.lends idle
    ∙ (λ j. Ok (sym is.reported j, record w { publisher = sym is.left j; sent = sym is.now j }))

-- The datagram is stored, or the allocation failed.
pub record IsStoredOr (w : WorldState) (next : Option Packet) (result : Result Report WorldError)
    (new : PublisherState) (sent : List (List ℕ)) : Type 0 where
  pub lent : Option (List ℕ)
  pub lends : Lends next lent
  pub left : new ≡ w.publisher
  pub told : IfOk result (λ told. told ≡ stored_report w.sent lent)
  pub now : OnOk result (sent ≡ stored w.sent lent)
  pub some : OnErr result (IsSome lent)
  pub same : OnErr result (sent ≡ w.sent)
  pub memory : IfErr result (λ error. error ≡ Memory)

lends_some : (next : Option Packet) (lent : Option (List ℕ)) → Lends next lent → IsSome lent → IsSome next
lends_some None None lends some = some
lends_some None (Some bytes) lends some = absurd lends
lends_some (Some packet) lent lends some = refl

-- So the event that sends the datagram is applied or refused.
pub sent_applied :
    (w : WorldState) (happening : Happening) (next : Option Packet) (result : Result Report WorldError)
    (new : PublisherState) (sent : List (List ℕ)) → effect w happening ≡ sending w next w.publisher →
    (IsSome next → MayWant w happening) → IsStoredOr w next result new sent →
    Applies w happening result (record w { publisher = new; sent = sent })
sent_applied w happening next (Ok told) new sent row wants is =
    row ∙ sent_row w next w.publisher told new sent (λ _. refl)
    (record { lent = is.lent; lends = is.lends; left = is.left; reported = is.told; now = is.now })
sent_applied w happening next (Err error) new sent row wants is = (
  inl (is.memory, wants (lends_some next is.lent is.lends is.some)),
  λ i. record w { publisher = is.left i; sent = is.same i },
)

pub heartbeat_row : (w : WorldState) → effect w Heartbeat ≡ sending w (next_heartbeat w.publisher) w.publisher
unfolding effect
heartbeat_row w = refl

pub end_row : (w : WorldState) → effect w End ≡ sending w (next_end w.publisher) w.publisher
unfolding effect
end_row w = refl

front_nothing : (limit most : ℕ) → front limit [] most ≡ []
unfolding front
front_nothing limit zero = refl
front_nothing limit (suc most) = refl

-- If no message is unsent, a data packet event changes nothing.
idle_datagram :
    (publisher : PublisherState) (none : Bool) → (publisher.sent == length publisher.journal.messages) ≡ none →
    cond {A = Option Packet} none None (Some (record {
      session = publisher.journal.session;
      sequence = publisher.sent + 1;
      body = Data (next_front publisher);
    })) ≡ None → after_datagram publisher ≡ publisher
idle_datagram publisher true all is =
    let nothing : next_front publisher ≡ [] =
    ap (λ (t : List (List ℕ)). front publisher.limit t (length publisher.journal.messages))
    (ap (λ (t : ℕ). drop t publisher.journal.messages) (eqb-true publisher.sent (length publisher.journal.messages) all)
    ∙ drop-length publisher.journal.messages)
    ∙ front_nothing publisher.limit (length publisher.journal.messages)
    in
    ap (λ (t : ℕ). record publisher { sent = t })
    (ap (λ (t : List (List ℕ)). publisher.sent + length t) nothing ∙ omega arith)
idle_datagram publisher false some is = absurd (none-some _ (sym is))

pub datagram_row :
    (w : WorldState) (told : Report) (new : PublisherState) (sent : List (List ℕ)) →
    IsStored w (next_datagram w.publisher) (after_datagram w.publisher) told new sent →
    effect w Datagram ≡ Ok (told, record w { publisher = new; sent = sent })
unfolding effect
datagram_row w told new sent is =
    sent_row w (next_datagram w.publisher) (after_datagram w.publisher) told new sent
    (idle_datagram w.publisher (w.publisher.sent == length w.publisher.journal.messages) refl) is

-- A datagram that the publisher returns is within its limit.
within_limit :
    (publisher : PublisherState) (none : Bool) (bytes : List ℕ) →
    ((packet : Packet) (bytes : List ℕ) (limit : ℕ) → Spells packet bytes → Fits limit (messages_of packet.body) →
    length bytes ≤ limit) → Fits publisher.limit (next_front publisher) →
    Lends (cond {A = Option Packet} none None (Some (record {
      session = publisher.journal.session;
      sequence = publisher.sent + 1;
      body = Data (next_front publisher);
    }))) (Some bytes) → length bytes ≤ publisher.limit
within_limit publisher true bytes law fits lends = absurd lends
within_limit publisher false bytes law fits lends = law _ bytes publisher.limit lends fits

-- So it fits the space that was allocated for the longest datagram.
pub datagram_room :
    (publisher : PublisherState) (list : Listed) (limit : ℕ) (lent : Option (List ℕ)) →
    ((limit : ℕ) (messages : List (List ℕ)) (most : ℕ) → 20 ≤ limit →
    IsFront limit messages most (front limit messages most)) →
    ((packet : Packet) (bytes : List ℕ) (limit : ℕ) → Spells packet bytes → Fits limit (messages_of packet.body) →
    length bytes ≤ limit) → IsPublisher publisher → limit ≡ publisher.limit → HasRoom list 1 limit →
    Lends (next_datagram publisher) lent → IfSome lent (λ bytes. HasRoom list 1 (length bytes))
datagram_room publisher list limit None longest law is same room lends = tt
datagram_room publisher list limit (Some bytes) longest law is same room lends =
    let low = is.limited.0 in
    let within = within_limit publisher (publisher.sent == length publisher.journal.messages) bytes law
    (longest publisher.limit (unsent_of publisher) (length publisher.journal.messages) (omega (arith, low))).fits lends
    in
    record { messages = room.messages; bytes = omega (arith, room.bytes, within, same) }

-- The closing of the session.
pub close_done :
    (w : WorldState) (new : PublisherState) → w.publisher.sent ≡ length w.publisher.journal.messages →
    new ≡ closed w.publisher → effect w Close ≡ Ok (report.Closed, record w { publisher = new })
unfolding effect
close_done w new all is =
    ap (λ (t : Bool). cond {A = Outcome} t (Err (Refusal (session.Close (record { count = unsent_count w.publisher }))))
    (Ok (report.Closed, record w { publisher = closed w.publisher })))
    (ap (λ (t : ℕ). ltb 0 t) (let none : unsent_count w.publisher ≡ 0 = omega (arith, all) in none))
    ∙ (λ j. Ok (report.Closed, record w { publisher = sym is j }))

pub close_refused :
    (w : WorldState) (error : Unsent) (new : PublisherState) →
    error ≡ record { count = unsent_count w.publisher } → w.publisher.sent + 1 ≤ length w.publisher.journal.messages →
    new ≡ w.publisher → Refuses w Close (Refusal (session.Close error)) × (record w { publisher = new } ≡ w)
unfolding effect
close_refused w error new is some same = (
  inr (ap (λ (t : Bool). cond {A = Outcome} t (Err (Refusal (session.Close (record { count = unsent_count w.publisher }))))
      (Ok (report.Closed, record w { publisher = closed w.publisher })))
      (lt-ltb 0 (unsent_count w.publisher) (omega (arith, some)))
      ∙ ap (λ (t : Unsent). Err (Refusal (session.Close t))) (sym is)),
  ap (λ (t : PublisherState). record w { publisher = t }) same,
)
