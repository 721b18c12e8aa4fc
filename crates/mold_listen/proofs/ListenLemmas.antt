-- What each step of a listener changes.
use Rattle.std.proofs.Common.{◌≡◌, ℕ, suc, Bool, true, false, List, [], ◌∷◌, ◌++◌, Option, None, Some, Result, zero, ap, append-nil, refl, sym, ◌∙◌}
use Rattle.std.proofs.lemmas.Result.{on_ok_weaker}
use Rattle.std.specs.Prelude.{OnOk}
use Rattle.mold_wire.specs.Request.{request_spelling}
use Rattle.mold_wire.specs.declared.request.Request.{Request}
use Rattle.mold_receiver.specs.Arbiter.{Arbitration, HasArbitrated, arbitrates}
use Rattle.mold_receiver.specs.Batch.{Handed, followed_by}
use Rattle.mold_receiver.specs.Receive.{Reception}
use Rattle.mold_receiver.specs.Store.{Message}
use Rattle.mold_receiver.specs.declared.line.Line.{Line}
use Rattle.mold_receiver.specs.declared.taken.Taken.{Taken}
use Rattle.mold_input.specs.declared.message_format.MessageFormat.{MessageFormat}
use Rattle.mold_input.specs.declared.message_format.MessageFormat.TheVariants.{Lines, Blocks, BlocksToEmpty}
use Rattle.mold_listen.specs.Text.{empty_number, handed_text, messages_to_empty, printable, stop_after, taking_side, taking_stop}
use Rattle.mold_listen.specs.Text.{taking_text}
use Rattle.mold_rule.specs.declared.refusal.Refusal.{Refusal}
use Rattle.mold_ports.specs.Ports.{Port, Receipt, Datagram, Quiet, Failure, cut, next_of, offered, received}
use Rattle.mold_listen.specs.Listening.{Asking, Progress, HasAsked, asked, asking, progress, with_next_receipt, receive_responses, with_receipt, is_datagram}
use Rattle.mold_listen.specs.Listening.{receives, taken, with_handed}
use Rattle.mold_turns.specs.Outgoing.{OutgoingState, with_both, with_more, with_stop}
use Rattle.mold_turns.proofs.OutgoingLemmas.{outgoing_is}
use Rattle.mold_wire.specs.declared.limits.TheConstants.{MAX_LIMIT}

-- no message prints nothing and stops nothing
no_text : (format : MessageFormat) (stopped : Option ℕ) (number : ℕ) → handed_text format number (printable format stopped []) ≡ []
unfolding handed_text messages_to_empty
no_text Lines stopped number = refl
no_text Blocks stopped number = refl
no_text BlocksToEmpty None number = refl
no_text BlocksToEmpty (Some empty) number = refl

no_stop : (format : MessageFormat) (stopped : Option ℕ) (number : ℕ) → stop_after format stopped number [] ≡ stopped
unfolding empty_number
no_stop Lines stopped number = refl
no_stop Blocks stopped number = refl
no_stop BlocksToEmpty None number = refl
no_stop BlocksToEmpty (Some empty) number = refl

none_handed : (number : ℕ) (outgoing : OutgoingState) → with_handed number [] outgoing ≡ with_stop outgoing.stopped (with_more [] outgoing)
none_handed number outgoing =
    ap (λ (text : List ℕ). with_stop (stop_after outgoing.format outgoing.stopped number []) (with_more text outgoing))
    (no_text outgoing.format outgoing.stopped number)
    ∙ ap (λ (stop : Option ℕ). with_stop stop (with_more [] outgoing)) (no_stop outgoing.format outgoing.stopped number)

-- an empty batch that was given messages has these, numbered from the same number on
batch_handed : (next : ℕ) (messages : List Message) (outgoing : OutgoingState) →
    with_handed (followed_by (record { first = 0; messages = [] }) next messages).first
    (followed_by (record { first = 0; messages = [] }) next messages).messages outgoing
    ≡ with_handed next messages outgoing
batch_handed next [] outgoing = none_handed 0 outgoing ∙ sym (none_handed next outgoing)
batch_handed next (message ∷ messages) outgoing = refl

-- a datagram that is taken prints nothing to standard error
more_alone : (text : List ℕ) (outgoing : OutgoingState) → with_more text outgoing ≡ with_both text [] outgoing
more_alone text outgoing =
    outgoing_is (with_more text outgoing) (with_both text [] outgoing) refl (sym (append-nil outgoing.side)) refl refl refl

-- after printing stopped, messages print nothing and stop nothing
pub stopped_handed : (number : ℕ) (messages : List Message) (outgoing : OutgoingState) → (outgoing.stopped ≡ None → ⊥) →
    outgoing
    ≡ with_stop (stop_after BlocksToEmpty outgoing.stopped number messages)
    (with_more (handed_text BlocksToEmpty number (printable BlocksToEmpty outgoing.stopped messages)) outgoing)
unfolding handed_text
stopped_handed number messages outgoing some =
    outgoing_is outgoing
    (with_stop (stop_after BlocksToEmpty outgoing.stopped number messages)
    (with_more (handed_text BlocksToEmpty number (printable BlocksToEmpty outgoing.stopped messages)) outgoing))
    (text outgoing.stopped some) refl refl refl (stop outgoing.stopped some)
  where
    text : (stopped : Option ℕ) → (stopped ≡ None → ⊥) →
        outgoing.text ≡ outgoing.text ++ handed_text BlocksToEmpty number (printable BlocksToEmpty stopped messages)
    text None some = absurd (some refl)
    text (Some empty) some = sym (append-nil outgoing.text)

    stop : (stopped : Option ℕ) → (stopped ≡ None → ⊥) → stopped ≡ stop_after BlocksToEmpty stopped number messages
    stop None some = absurd (some refl)
    stop (Some empty) some = refl

-- a datagram was taken, and what it delivers was written
pub taken_ok : (line : Option Line) (bytes : List ℕ) (old new : Arbitration) (before after : Handed) (t : Taken)
    (outgoing out : OutgoingState) → before ≡ record { first = 0; messages = [] } →
    HasArbitrated line old bytes before new after t → out ≡ with_handed after.first after.messages outgoing →
    progress new out ≡ taken line bytes (progress old outgoing)
taken_ok line bytes old new before after t outgoing out empty has written =
    let next : ℕ = old.view.next in
    let handed : List Message = has.reception.handed in
    let batch : after ≡ followed_by (record { first = 0; messages = [] }) next handed =
    has.batch ∙ ap (λ (b : Handed). followed_by b next handed) empty in
    let text : List ℕ = handed_text outgoing.format next (printable outgoing.format outgoing.stopped handed) in
    let to : Result Reception Refusal → OutgoingState =
    λ r. with_stop (taking_stop outgoing.format outgoing.stopped next r)
    (with_both (taking_text outgoing.format outgoing.stopped next r) (taking_side outgoing.format r) outgoing) in
    ap (λ (a : Arbitration). progress a out) has.arbitration
    ∙ ap (progress (arbitrates line bytes old))
    (written ∙ ap (λ (b : Handed). with_handed b.first b.messages outgoing) batch
    ∙ batch_handed next handed outgoing
    ∙ ap (with_stop (stop_after outgoing.format outgoing.stopped next handed)) (more_alone text outgoing)
    ∙ ap to (sym has.received))

-- ---- one receive

-- a receive gave what the port gives next, truncated to the buffer
pub received_next : {P : Type 0} (line : Option Line) (port : Port P) (e : Progress) (n : ℕ) (receipt : Receipt P) →
    n ≡ MAX_LIMIT → receipt ≡ cut n (next_of port) → with_receipt line receipt e ≡ with_next_receipt line port e
unfolding with_next_receipt
received_next {P} line port e n receipt long is =
    ap (λ (r : Receipt P). with_receipt line r e) (is ∙ ap (λ (k : ℕ). cut k (next_of port)) long)

cut_is : {P : Type 0} (n : ℕ) (receipt : Receipt P) → is_datagram (cut n receipt) ≡ is_datagram receipt
cut_is n (Datagram from bytes) = refl
cut_is n Quiet = refl
cut_is n Failure = refl

pub datagram_next : {P : Type 0} (n : ℕ) (port : Port P) (receipt : Receipt P) → receipt ≡ cut n (next_of port) →
    is_datagram receipt ≡ is_datagram (next_of port)
datagram_next n port receipt is = ap is_datagram is ∙ cut_is n (next_of port)

-- ---- the responses to a request

-- one more receive of a response
abbrev pub stepped : {P : Type 0} → Asking P → Asking P
stepped s = record { port = received s.port; progress = with_next_receipt None s.port s.progress }

more_received : {P : Type 0} (n : ℕ) (comes : List (Receipt P)) (sent : List (P × List ℕ)) (failures : ℕ) (e : Progress) →
    let s : Asking P = record { port = record { comes = comes; sent = sent; failures = failures }; progress = e } in
    is_datagram (next_of s.port) ≡ true →
    receive_responses (receives n (stepped s).port.comes) (stepped s) ≡ receive_responses (receives (suc n) comes) s
unfolding receives receive_responses
more_received n [] sent failures e came = let no : ⊥ = cc in absurd no
more_received n (Datagram from bytes ∷ comes) sent failures e came = refl
more_received n (Quiet ∷ comes) sent failures e came = let no : ⊥ = cc in absurd no
more_received n (Failure ∷ comes) sent failures e came = let no : ⊥ = cc in absurd no

last_received : {P : Type 0} (n : ℕ) (comes : List (Receipt P)) (sent : List (P × List ℕ)) (failures : ℕ) (e : Progress) →
    let s : Asking P = record { port = record { comes = comes; sent = sent; failures = failures }; progress = e } in
    is_datagram (next_of s.port) ≡ false → stepped s ≡ receive_responses (receives (suc n) comes) s
unfolding receives receive_responses
last_received n [] sent failures e came = refl
last_received n (Datagram from bytes ∷ comes) sent failures e came = let no : ⊥ = cc in absurd no
last_received n (Quiet ∷ comes) sent failures e came = refl
last_received n (Failure ∷ comes) sent failures e came = refl

pub none_received : {P : Type 0} (left : ℕ) (s : Asking P) → left ≡ 0 → s ≡ receive_responses (receives left s.port.comes) s
unfolding receives receive_responses
none_received left s none = ap (λ (n : ℕ). receive_responses (receives n s.port.comes) s) (sym none)

-- a response came: the remaining receives give the same end as all receives
pub answer_received : {P : Type 0} (left n : ℕ) (s after whole : Asking P) → left ≡ suc n →
    is_datagram (next_of s.port) ≡ true → after ≡ stepped s →
    receive_responses (receives left s.port.comes) s ≡ whole → receive_responses (receives n after.port.comes) after ≡ whole
answer_received {P} left n s after whole more came is printed =
    ap (λ (a : Asking P). receive_responses (receives n a.port.comes) a) is
    ∙ more_received n s.port.comes s.port.sent s.port.failures s.progress came
    ∙ ap (λ (k : ℕ). receive_responses (receives k s.port.comes) s) (sym more)
    ∙ printed

-- no response came: the receives are over
pub after_responses : {P : Type 0} (left n : ℕ) (s after whole : Asking P) → left ≡ suc n →
    is_datagram (next_of s.port) ≡ false → after ≡ stepped s →
    receive_responses (receives left s.port.comes) s ≡ whole → after ≡ whole
after_responses {P} left n s after whole more came is printed =
    is
    ∙ last_received n s.port.comes s.port.sent s.port.failures s.progress came
    ∙ ap (λ (k : ℕ). receive_responses (receives k s.port.comes) s) (sym more)
    ∙ printed

pub asking_is : {P : Type 0} (port : Port P) (arbitration : Arbitration) (outgoing : OutgoingState) (s : Asking P) →
    port ≡ s.port → progress arbitration outgoing ≡ s.progress → asking port arbitration outgoing ≡ s
asking_is {P} port arbitration outgoing s is_port is_hearing =
    ap (λ (p : Port P). asking p arbitration outgoing) is_port
    ∙ ap {B = Asking P} (λ (e : Progress). record { port = s.port; progress = e }) is_hearing

-- receiving sends nothing
pub hearing_sends : {P : Type 0} (count : ℕ) (s : Asking P) → (receive_responses count s).port.sent ≡ s.port.sent
unfolding receive_responses
hearing_sends zero s = refl
hearing_sends (suc count) s = hearing_sends count (stepped s)

-- a request was sent, and responses were received
pub has_asked : {P T E : Type 0} (request : Request) (wish : Option Request) (server : P) (burst : ℕ)
    (result : Result T E) (before after : Asking P) (mid : Port P) (failed : Bool) (bytes : List ℕ) →
    wish ≡ Some request → mid ≡ offered failed server bytes before.port → failed ≡ false →
    bytes ≡ request_spelling request → after.port.sent ≡ mid.sent →
    OnOk result (after ≡ receive_responses (receives burst mid.comes) (record { port = mid; progress = before.progress })) →
    HasAsked wish server burst result before after
has_asked {P} request wish server burst result before after mid failed bytes is_wish offers succeeds spelled sent with_receipt =
    let to : Port P → Asking P = λ p. receive_responses (receives burst p.comes) (record { port = p; progress = before.progress }) in
    let port : Port P = offered false server (request_spelling request) before.port in
    let is_mid : mid ≡ port =
    offers ∙ ap (λ (b : Bool). offered b server bytes before.port) succeeds
    ∙ ap (λ (l : List ℕ). offered false server l before.port) spelled in
    let done : to port ≡ asked wish server burst false before =
    ap (λ (w : Option Request). asked w server burst false before) (sym is_wish) in
    record {
      fails = false;
      whole = on_ok_weaker result (λ is. is ∙ ap to is_mid ∙ done) with_receipt;
      sent =
          sent ∙ ap (λ (p : Port P). p.sent) is_mid
          ∙ sym (hearing_sends (receives burst port.comes) (record { port = port; progress = before.progress }))
          ∙ ap (λ (s : Asking P). s.port.sent) done;
    }
