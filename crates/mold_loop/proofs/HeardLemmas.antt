-- Lemmas about the datagrams that a loop's publisher passes, and what the listener receives.
use Rattle.std.proofs.Common.{arith, ◌≡◌, ◌∙◌, ℕ, ◌+◌, Bool, true, false, List, [], ◌∷◌, ◌++◌, length, map}
use Rattle.std.proofs.Common.{Option, None, Some, Result, Ok, ap, refl, sym, subst}
use Rattle.std.proofs.lemmas.List.{map-append}
use Rattle.std.proofs.lemmas.Result.{on_ok_weaker}
use Rattle.std.proofs.KnownBytes.{Appends-nil, Appends-trans}
use Rattle.std.specs.Prelude.{IsErr, OnOk, if◌then◌else◌}
use Rattle.std.specs.Io.KnownBytes.{Appends}
use Rattle.mold_devices.specs.Devices.{AppendsPrefix}
use Rattle.mold_ports.specs.Ports.{Port}
use Rattle.mold_receiver.specs.declared.line.Line.{Line}
use Rattle.mold_receiver.specs.declared.line.Line.TheVariants.{A, B}
use Rattle.mold_session.specs.Publisher.{Lends}
use Rattle.mold_wire.specs.declared.packet.Packet.{Packet}
use Rattle.mold_send.proofs.SendingLemmas.{lent_none}
use Rattle.mold_turns.proofs.RunLemmas.{begins_behind, begins_more, begins_none, begins_trans, begins_whole, grows_in}
use Rattle.mold_turns.proofs.RunLemmas.{none_ok, on_ok}
use Rattle.mold_listen.proofs.TurnLemmas.{hear_both, hear_prints, hear_says, hearing_both}
use Rattle.mold_turns.specs.Outgoing.{OutgoingState, with_fronts}
use Rattle.mold_turns.proofs.OutgoingLemmas.{fronts_twice}
use Rattle.mold_listen.specs.Listening.{Progress}
use Rattle.mold_loop.specs.Looping.{ComesOfBoth, HasPassed, LineState, Outcome, LeftOut, Failed, PassRests, Sent}
use Rattle.mold_loop.specs.Looping.{Pass, goes_out, after_line_if, after_routes, is_sent, line_state, offered_by, passed, passing, port_after}
use Rattle.mold_loop.specs.Looping.{received_if, outgoing_after, routed_by, sent_by, texts_front}
use Rattle.mold_loop.specs.Writing.{WritesPart}
use Rattle.mold_loop.specs.Passing.{routed, routes_of}
use Rattle.mold_send.specs.PublishLoop.{spelled_some}
use Rattle.mold_turns.specs.Runs.{Begins, Loop, run}
use Rattle.mold_loop.specs.declared.loop_parts.Drops.{Drops}
use Rattle.mold_loop.specs.declared.loop_parts.Routes.{Routes}

-- ---- one datagram

routes_are : (one other : Routes) → one.a ≡ other.a → one.b ≡ other.b → one ≡ other
routes_are one other same_a same_b =
    ap {B = Routes} (λ (x : Bool). record { a = x; b = one.b }) same_a
    ∙ ap {B = Routes} (λ (x : Bool). record { a = other.a; b = x }) same_b

-- it is offered on its lines, and received where it is sent
pub has_passed : {P T E : Type 0} (a b : P) (routes sent : Routes) (datagram : List ℕ) (result : Result T E)
    (before after : LineState P) (port : Port P) (printer : OutgoingState) →
    ComesOfBoth routes sent a b datagram before.publisher port before.progress.outgoing printer →
    after.publisher ≡ port →
    OnOk result (after ≡ after_routes sent (line_state port before.a before.b before.progress.arbitration printer)) →
    HasPassed a b ((routes, datagram) ∷ []) result before after
unfolding run passed
has_passed {P} a b routes sent datagram result before after port printer comes same with_receipt =
    let one : Pass = record { datagram = datagram; a = comes.on_a.outcome; b = comes.on_b.outcome } in
    let mid : LineState P = line_state port before.a before.b before.progress.arbitration printer in
    let is_port : port ≡ (offered_by a b one before).publisher =
    comes.on_b.port ∙ ap (λ (p : Port P). port_after comes.on_b.outcome b datagram p) comes.on_a.port in
    let is_report : printer ≡ outgoing_after comes.on_b.outcome (outgoing_after comes.on_a.outcome before.progress.outgoing) =
    comes.on_b.outgoing ∙ ap (λ (r : OutgoingState). outgoing_after comes.on_b.outcome r) comes.on_a.outgoing in
    let is_mid : mid ≡ offered_by a b one before =
    ap (λ (p : Port P). line_state p before.a before.b before.progress.arbitration printer) is_port
    ∙ ap (λ (r : OutgoingState). line_state (offered_by a b one before).publisher before.a before.b
    before.progress.arbitration r) is_report in
    record {
      passes = one ∷ [];
      are =
          ap {B = List (Routes × List ℕ)} (λ (r : Routes). (r, datagram) ∷ [])
          (routes_are (record { a = goes_out one.a; b = goes_out one.b }) routes (sym comes.on_a.goes_as)
          (sym comes.on_b.goes_as));
      whole =
          on_ok_weaker result
          (λ is. is
          ∙ ap (λ (r : Routes). after_routes r mid) (routes_are sent (sent_by one) comes.on_a.sent_as comes.on_b.sent_as)
          ∙ ap (after_routes (sent_by one)) is_mid)
          with_receipt;
      offered = same ∙ is_port;
    }

pub passed_none : {P T E : Type 0} (a b : P) (result : Result T E) (s : LineState P) → HasPassed a b [] result s s
unfolding run
passed_none a b result s = record { passes = []; are = refl; whole = on_ok result refl; offered = refl }

-- the publisher has no next datagram
pub passed_not : {P T E : Type 0} (drops : Drops) (number : ℕ) (a b : P) (packet : Option Packet)
    (result : Result T E) (s : LineState P) → Lends packet None →
    HasPassed a b (routed drops number (spelled_some packet)) result s s
passed_not drops number a b packet result s lends =
    subst (λ (l : List (Routes × List ℕ)). HasPassed a b l result s s)
    (ap (routed drops number) (sym (lent_none packet lends)))
    (passed_none a b result s)

-- ---- text that precedes the text of a state

outgoing_before : (front said : List ℕ) (o : Outcome) (r : OutgoingState) →
    outgoing_after o (with_fronts front said r) ≡ with_fronts front said (outgoing_after o r)
outgoing_before front said LeftOut r = refl
outgoing_before front said Failed r = refl
outgoing_before front said Sent r = refl

offered_before : {P : Type 0} (front said : List ℕ) (a b : P) (pass : Pass) (s : LineState P) →
    offered_by a b pass (texts_front front said s) ≡ texts_front front said (offered_by a b pass s)
offered_before {P} front said a b pass s =
    let of : OutgoingState → LineState P =
    λ r. line_state (offered_by a b pass s).publisher s.a s.b s.progress.arbitration r in
    ap (λ (r : OutgoingState). of (outgoing_after pass.b r)) (outgoing_before front said pass.a s.progress.outgoing)
    ∙ ap of (outgoing_before front said pass.b (outgoing_after pass.a s.progress.outgoing))

received_if_before : {P : Type 0} (front said : List ℕ) (on : Bool) (line : Line) (port : Port P) (e : Progress) →
    after_line_if on line port (hearing_both front said e) ≡ hearing_both front said (after_line_if on line port e)
received_if_before front said false line port e = refl
received_if_before front said true line port e = hear_both front said (Some line) port e

received_on_before : {P : Type 0} (front said : List ℕ) (lines : Routes) (s : LineState P) →
    after_routes lines (texts_front front said s) ≡ texts_front front said (after_routes lines s)
received_on_before {P} front said lines s =
    let of : Progress → LineState P =
    λ e. record { publisher = s.publisher; a = received_if lines.a s.a; b = received_if lines.b s.b; progress = e } in
    ap (λ (e : Progress). of (after_line_if lines.b B s.b e)) (received_if_before front said lines.a A s.a s.progress)
    ∙ ap of (received_if_before front said lines.b B s.b (after_line_if lines.a A s.a s.progress))

passed_before : {P : Type 0} (a b : P) (front said : List ℕ) (pass : Pass) (s : LineState P) →
    passed a b pass (texts_front front said s) ≡ texts_front front said (passed a b pass s)
unfolding passed
passed_before a b front said pass s =
    ap (after_routes (sent_by pass)) (offered_before front said a b pass s)
    ∙ received_on_before front said (sent_by pass) (offered_by a b pass s)

texts_twice : {P : Type 0} (front said back more : List ℕ) (s : LineState P) →
    texts_front front said (texts_front back more s) ≡ texts_front (front ++ back) (said ++ more) s
texts_twice {P} front said back more s =
    ap {B = LineState P} (line_state s.publisher s.a s.b s.progress.arbitration)
    (fronts_twice front said back more s.progress.outgoing)

-- ---- passing only appends to what is printed and sent

outgoing_prints : (o : Outcome) (r : OutgoingState) → (outgoing_after o r).text ≡ r.text
outgoing_prints LeftOut r = refl
outgoing_prints Failed r = refl
outgoing_prints Sent r = refl

received_if_prints : {P : Type 0} (on : Bool) (line : Line) (port : Port P) (e : Progress) →
    Begins e.outgoing.text (after_line_if on line port e).outgoing.text
received_if_prints false line port e = begins_whole e.outgoing.text
received_if_prints true line port e = hear_prints (Some line) port e

pub passed_prints : {P : Type 0} (a b : P) (pass : Pass) (s : LineState P) →
    Begins s.progress.outgoing.text (passed a b pass s).progress.outgoing.text
unfolding passed
passed_prints {P} a b pass s =
    let mid : LineState P = offered_by a b pass s in
    let with_receipt : Progress = after_line_if (is_sent pass.a) A mid.a mid.progress in
    subst (λ (t : List ℕ). Begins t (after_routes (sent_by pass) mid).progress.outgoing.text)
    (outgoing_prints pass.b (outgoing_after pass.a s.progress.outgoing) ∙ outgoing_prints pass.a s.progress.outgoing)
    (begins_trans (received_if_prints (is_sent pass.a) A mid.a mid.progress)
    (received_if_prints (is_sent pass.b) B mid.b with_receipt))

outgoing_says : (o : Outcome) (r : OutgoingState) → (outgoing_after o r).side ≡ r.side
outgoing_says LeftOut r = refl
outgoing_says Failed r = refl
outgoing_says Sent r = refl

received_if_says : {P : Type 0} (on : Bool) (line : Line) (port : Port P) (e : Progress) →
    Begins e.outgoing.side (after_line_if on line port e).outgoing.side
received_if_says false line port e = begins_whole e.outgoing.side
received_if_says true line port e = hear_says (Some line) port e

pub passed_says : {P : Type 0} (a b : P) (pass : Pass) (s : LineState P) →
    Begins s.progress.outgoing.side (passed a b pass s).progress.outgoing.side
unfolding passed
passed_says {P} a b pass s =
    let mid : LineState P = offered_by a b pass s in
    let with_receipt : Progress = after_line_if (is_sent pass.a) A mid.a mid.progress in
    subst (λ (t : List ℕ). Begins t (after_routes (sent_by pass) mid).progress.outgoing.side)
    (outgoing_says pass.b (outgoing_after pass.a s.progress.outgoing) ∙ outgoing_says pass.a s.progress.outgoing)
    (begins_trans (received_if_says (is_sent pass.a) A mid.a mid.progress)
    (received_if_says (is_sent pass.b) B mid.b with_receipt))

-- ---- runs

if_behind : {S : Type 0} (f : S → S) (c : Bool) (x y : S) → (if c then f x else f y) ≡ f (if c then x else y)
if_behind f true x y = refl
if_behind f false x y = refl

-- a run keeps what is put before the texts of its state
pub run_behind : {C S M : Type 0} (loop : Loop C S M) (put : S → S) →
    ((choice : C) (s : S) → loop.turn choice (put s) ≡ put (loop.turn choice s)) →
    ((s : S) → loop.over (put s) ≡ loop.over s) → (choices : List C) (s : S) →
    run loop choices (put s) ≡ put (run loop choices s)
unfolding run
run_behind loop put turns overs [] s = refl
run_behind {C} {S} {M} loop put turns overs (choice ∷ more) s =
    let after : S = loop.turn choice s in
    ap (λ (t : S). if loop.over t then t else run loop more t) (turns choice s)
    ∙ ap (λ (b : Bool). if b then put after else run loop more (put after)) (overs after)
    ∙ ap (λ (t : S). if loop.over after then put after else t) (run_behind loop put turns overs more after)
    ∙ if_behind put (loop.over after) after (run loop more after)

passes_behind : {P : Type 0} (a b : P) (front said : List ℕ) (passes : List Pass) (s : LineState P) →
    run (passing a b) passes (texts_front front said s) ≡ texts_front front said (run (passing a b) passes s)
passes_behind a b front said passes s =
    run_behind (passing a b) (texts_front front said) (passed_before a b front said) (λ s. refl) passes s

-- runs over datagrams compose
pub passes_more : {P : Type 0} (a b : P) (xs ys : List Pass) (s : LineState P) →
    run (passing a b) (xs ++ ys) s ≡ run (passing a b) ys (run (passing a b) xs s)
unfolding run
passes_more a b [] ys s = refl
passes_more a b (x ∷ xs) ys s = passes_more a b xs ys (passed a b x s)

pub lines_grow : {P A : Type 0} (a b : P) (part : LineState P → List A) →
    ((pass : Pass) (s : LineState P) → Begins (part s) (part (passed a b pass s))) → (xs ys : List Pass)
    (s : LineState P) → Begins (part (run (passing a b) xs s)) (part (run (passing a b) (xs ++ ys) s))
lines_grow {P} {A} a b part grows xs ys s =
    subst (λ (t : LineState P). Begins (part (run (passing a b) xs s)) (part t)) (sym (passes_more a b xs ys s))
    (grows_in (passing a b) part grows ys (run (passing a b) xs s))

-- ---- the datagrams so far

pub routed_more : (drops : Drops) (number : ℕ) (xs ys : List (List ℕ)) →
    routed drops number (xs ++ ys) ≡ routed drops number xs ++ routed drops (number + length xs) ys
routed_more drops number [] ys = ap (λ (n : ℕ). routed drops n ys) (omega arith)
routed_more drops number (x ∷ xs) ys =
    ap (λ (l : List (Routes × List ℕ)). (routes_of drops number, x) ∷ l)
    (routed_more drops (number + 1) xs ys
    ∙ ap (λ (n : ℕ). routed drops (number + 1) xs ++ routed drops n ys) (omega arith))

-- the datagrams are passed: a prefix of each text is written, and the rest remains
pub record Heard {P : Type 0} (a b : P) (datagrams : List (Routes × List ℕ)) (before after : LineState P)
    (old new errors_old errors_new : Option (List ℕ)) : Type 0 where
  pub passes : List Pass
  pub are : map routed_by passes ≡ datagrams
  pub written : List ℕ
  pub appended : Appends old new written
  pub said : List ℕ
  pub told : Appends errors_old errors_new said
  pub whole : run (passing a b) passes before ≡ texts_front written said after

-- the datagrams are passed, and then a fault occurs
pub record HeardFront {P : Type 0} (a b : P) (datagrams : List (Routes × List ℕ)) (before after : LineState P)
    (old new errors_old errors_new : Option (List ℕ)) : Type 0 where
  pub passes : List Pass
  pub are : map routed_by passes ≡ datagrams
  pub written : List ℕ
  pub appended : Appends old new written
  pub said : List ℕ
  pub told : Appends errors_old errors_new said
  pub text : Begins written (run (passing a b) passes before).progress.outgoing.text
  pub side : Begins said (run (passing a b) passes before).progress.outgoing.side
  pub offered : after.publisher ≡ (run (passing a b) passes before).publisher

pub received_none : {P : Type 0} (a b : P) (s : LineState P) (held errors : Option (List ℕ)) →
    Heard a b [] s s held held errors errors
unfolding run
received_none a b s held errors = record {
  passes = [];
  are = refl;
  written = [];
  appended = Appends-nil held;
  said = [];
  told = Appends-nil errors;
  whole = refl;
}

both_are : (xs ys : List Pass) (ds es : List (Routes × List ℕ)) → map routed_by xs ≡ ds → map routed_by ys ≡ es →
    map routed_by (xs ++ ys) ≡ ds ++ es
both_are xs ys ds es first second =
    map-append routed_by xs ys
    ∙ ap (λ (l : List (Routes × List ℕ)). l ++ map routed_by ys) first
    ∙ ap (λ (l : List (Routes × List ℕ)). ds ++ l) second

more_run : {P : Type 0} (a b : P) (xs ys : List Pass) (written said : List ℕ) (before now : LineState P) →
    run (passing a b) xs before ≡ texts_front written said now →
    run (passing a b) (xs ++ ys) before ≡ texts_front written said (run (passing a b) ys now)
more_run a b xs ys written said before now whole =
    passes_more a b xs ys before ∙ ap (run (passing a b) ys) whole ∙ passes_behind a b written said ys now

-- ---- datagrams and the writes after them

-- they are passed, and then a prefix of each text is written
pub rests_written : {P T E U F : Type 0} (a b : P) {ds : List (Routes × List ℕ)} (value : U) (result : Result T E)
    (before made : LineState P) {old new errors_old errors_new : Option (List ℕ)} (left : OutgoingState) →
    HasPassed {T = U} {E = F} a b ds (Ok value) before made →
    WritesPart result made.progress.outgoing left old new errors_old errors_new →
    PassRests a b ds result before (line_state made.publisher made.a made.b made.progress.arbitration left) old new
    errors_old errors_new
rests_written {P} a b value result before made left has writes = record {
  passes = has.passes;
  are = has.are;
  written = writes.written;
  appended = writes.appended;
  said = writes.said;
  told = writes.told;
  whole =
      on_ok_weaker result
      (λ is. sym has.whole ∙ ap (line_state made.publisher made.a made.b made.progress.arbitration) is) writes.whole;
  text = subst (λ (s : LineState P). Begins writes.written s.progress.outgoing.text) has.whole writes.text;
  side = subst (λ (s : LineState P). Begins writes.said s.progress.outgoing.side) has.whole writes.side;
  offered = ap (λ (s : LineState P). s.publisher) has.whole;
}

-- memory runs out while they are passed, and a prefix of the former text is written
pub rests_failed : {P T E U F : Type 0} (a b : P) {ds : List (Routes × List ℕ)} (step : Result U F) (result : Result T E)
    {before made : LineState P} {old new : Option (List ℕ)} (errors : Option (List ℕ)) (after : LineState P) →
    HasPassed a b ds step before made → after.publisher ≡ made.publisher →
    AppendsPrefix old new before.progress.outgoing.text → IsErr result →
    PassRests a b ds result before after old new errors errors
rests_failed a b step result {before} errors after has same cut failed = record {
  passes = has.passes;
  are = has.are;
  written = cut.front;
  appended = cut.appended;
  said = [];
  told = Appends-nil errors;
  whole = none_ok result _ failed;
  text =
      begins_trans (record { rest = cut.rest; parts = cut.parts })
      (grows_in (passing a b) (passing a b).text (passed_prints a b) has.passes before);
  side = begins_none _;
  offered = same ∙ has.offered;
}

-- more datagrams are passed, and a prefix of each text is written
pub received_more : {P T E : Type 0} (a b : P) {xs ys : List (Routes × List ℕ)} {before now after : LineState P}
    {old mid new errors_old errors_mid errors_new : Option (List ℕ)} (value : T) →
    Heard a b xs before now old mid errors_old errors_mid →
    PassRests {T = T} {E = E} a b ys (Ok value) now after mid new errors_mid errors_new →
    Heard a b (xs ++ ys) before after old new errors_old errors_new
received_more {P} a b {xs} {ys} {before} {now} {after} {old} {mid} {new} {errors_old} {errors_mid} {errors_new} value
    with_receipt has = record {
      passes = with_receipt.passes ++ has.passes;
      are = both_are with_receipt.passes has.passes xs ys with_receipt.are has.are;
      written = with_receipt.written ++ has.written;
      appended = Appends-trans old mid new with_receipt.written has.written with_receipt.appended has.appended;
      said = with_receipt.said ++ has.said;
      told =
          Appends-trans errors_old errors_mid errors_new with_receipt.said has.said with_receipt.told has.told;
      whole =
          more_run a b with_receipt.passes has.passes with_receipt.written with_receipt.said before now
          with_receipt.whole
          ∙ ap (texts_front with_receipt.written with_receipt.said) has.whole
          ∙ texts_twice with_receipt.written with_receipt.said has.written has.said after;
    }

-- a fault occurs while the datagrams are passed, or in the writes after them
pub received_failed : {P T E : Type 0} (a b : P) {xs ys : List (Routes × List ℕ)} {before now after : LineState P}
    {old mid new errors_old errors_mid errors_new : Option (List ℕ)} (result : Result T E) →
    Heard a b xs before now old mid errors_old errors_mid →
    PassRests a b ys result now after mid new errors_mid errors_new →
    HeardFront a b (xs ++ ys) before after old new errors_old errors_new
received_failed {P} a b {xs} {ys} {before} {now} {after} {old} {mid} {new} {errors_old} {errors_mid} {errors_new} result
    with_receipt has =
    let end : run (passing a b) (with_receipt.passes ++ has.passes) before
    ≡ texts_front with_receipt.written with_receipt.said (run (passing a b) has.passes now) =
    more_run a b with_receipt.passes has.passes with_receipt.written with_receipt.said before now with_receipt.whole in
    record {
      passes = with_receipt.passes ++ has.passes;
      are = both_are with_receipt.passes has.passes xs ys with_receipt.are has.are;
      written = with_receipt.written ++ has.written;
      appended = Appends-trans old mid new with_receipt.written has.written with_receipt.appended has.appended;
      said = with_receipt.said ++ has.said;
      told =
          Appends-trans errors_old errors_mid errors_new with_receipt.said has.said with_receipt.told has.told;
      text =
          subst (λ (s : LineState P). Begins (with_receipt.written ++ has.written) s.progress.outgoing.text) (sym end)
          (begins_behind with_receipt.written has.text);
      side =
          subst (λ (s : LineState P). Begins (with_receipt.said ++ has.said) s.progress.outgoing.side) (sym end)
          (begins_behind with_receipt.said has.side);
      offered = has.offered ∙ ap (λ (s : LineState P). s.publisher) (sym end);
    }

-- after the datagrams are passed, a fault occurs, and a prefix of the text is written
pub received_cut : {P : Type 0} (a b : P) {xs : List (Routes × List ℕ)} {before now : LineState P}
    {old mid new errors_old errors_new : Option (List ℕ)} (after : LineState P) → after.publisher ≡ now.publisher →
    Heard a b xs before now old mid errors_old errors_new → AppendsPrefix mid new now.progress.outgoing.text →
    HeardFront a b xs before after old new errors_old errors_new
received_cut {P} a b {xs} {before} {now} {old} {mid} {new} after same with_receipt cut = record {
  passes = with_receipt.passes;
  are = with_receipt.are;
  written = with_receipt.written ++ cut.front;
  appended = Appends-trans old mid new with_receipt.written cut.front with_receipt.appended cut.appended;
  said = with_receipt.said;
  told = with_receipt.told;
  text =
      subst (λ (s : LineState P). Begins (with_receipt.written ++ cut.front) s.progress.outgoing.text) (sym with_receipt.whole)
      (begins_behind with_receipt.written (record { rest = cut.rest; parts = cut.parts }));
  side =
      subst (λ (s : LineState P). Begins with_receipt.said s.progress.outgoing.side) (sym with_receipt.whole)
      (begins_more with_receipt.said now.progress.outgoing.side);
  offered = same ∙ ap (λ (s : LineState P). s.publisher) (sym with_receipt.whole);
}

pub received_still : {P : Type 0} (a b : P) {xs : List (Routes × List ℕ)} {before now : LineState P}
    {old new errors_old errors_new : Option (List ℕ)} → Heard a b xs before now old new errors_old errors_new →
    HeardFront a b xs before now old new errors_old errors_new
received_still a b {xs} {before} {now} {old} {new} with_receipt =
    received_cut a b now refl with_receipt (record { front = []; rest = _; parts = refl; appended = Appends-nil new })
