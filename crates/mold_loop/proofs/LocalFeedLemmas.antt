-- Lemmas that carry facts of `LocalFeed` from one step to the next.
use Rattle.std.proofs.Common.{◌≡◌, ◌∙◌, ℕ, Bool, List, Option, Result, ap, refl, subst, sym}
use Rattle.std.specs.Borrow.{Bor}
use Rattle.std.specs.Prelude.{IfSome}
use Rattle.mold_input.specs.Entries.{InputEntries}
use Rattle.mold_ports.specs.Ports.{Port}
use Rattle.mold_publish.specs.Publishing.{input_published}
use Rattle.mold_receiver.specs.Arbiter.{Arbitration}
use Rattle.mold_session.specs.Publisher.{PublisherState}
use Rattle.mold_session.specs.Server.{ServerState}
use Rattle.mold_loop.specs.LocalFeed.{IsSame, OnlyPasses, OnlyRepairs, PassesAndWrites, lines}
use Rattle.mold_loop.specs.Looping.{LineState, LoopRun, PassRests, line_state, lines_at}
use Rattle.mold_turns.specs.Outgoing.{OutgoingState}
use Rattle.mold_loop.specs.Passing.{routed}
use Rattle.mold_loop.specs.Repairing.{RepairState, answers_sent, repair_state, repairing, rounds_at}
use Rattle.mold_loop.specs.Repairing.{rounds_side, side_before, text_before}
use Rattle.mold_turns.specs.Sides.{RestsOfTwo, TurnRestsOfTwo}
use Rattle.mold_serve.specs.Serving.{Service}
use Rattle.mold_loop.specs.declared.local_feed.LocalFeed.{LocalFeed}
use Rattle.mold_loop.specs.declared.loop_parts.Drops.{Drops}
use Rattle.mold_loop.specs.declared.loop_parts.Listener.{Listener}
use Rattle.mold_loop.specs.declared.loop_parts.LoopOptions.{LoopOptions}
use Rattle.mold_loop.specs.declared.loop_parts.LoopPorts.{LoopPorts}
use Rattle.mold_loop.specs.declared.loop_parts.Routes.{Routes}

-- ---- what stays unchanged

pub same_at_first : {D A : Type 0} (feed : LocalFeed D A) → IsSame feed feed
same_at_first feed = record { ports = refl; options = refl; buffer = refl; listener = refl }

pub same_twice : {D A : Type 0} {one two three : LocalFeed D A} → IsSame one two → IsSame two three → IsSame one three
same_twice first second = record {
  ports = second.ports ∙ first.ports;
  options = second.options ∙ first.options;
  buffer = second.buffer ∙ first.buffer;
  listener = second.listener ∙ first.listener;
}

pub passes_at_first : {D A P : Type 0} (modeled : Bool) (port : D → Port P) (feed : LocalFeed D A) →
    OnlyPasses modeled port feed feed
passes_at_first modeled port feed =
    record { same = same_at_first feed; server = refl; requests = refl; a = λ t. refl; b = λ t. refl }

pub passes_twice : {D A P : Type 0} {modeled : Bool} {port : D → Port P} {one two three : LocalFeed D A} →
    OnlyPasses modeled port one two → OnlyPasses modeled port two three → OnlyPasses modeled port one three
passes_twice first second = record {
  same = same_twice first.same second.same;
  server = second.server ∙ first.server;
  requests = second.requests ∙ first.requests;
  a = λ t. second.a t ∙ first.a t;
  b = λ t. second.b t ∙ first.b t;
}

pub repairs_at_first : {D A : Type 0} (feed : LocalFeed D A) → OnlyRepairs feed feed
repairs_at_first feed = record { same = same_at_first feed; publisher = refl; a = refl; b = refl }

pub repairs_twice : {D A : Type 0} {one two three : LocalFeed D A} → OnlyRepairs one two → OnlyRepairs two three →
    OnlyRepairs one three
repairs_twice first second = record {
  same = same_twice first.same second.same;
  publisher = second.publisher ∙ first.publisher;
  a = second.a ∙ first.a;
  b = second.b ∙ first.b;
}

-- ---- what was passed, with the options of the first state

pub passed_from : {D P T E : Type 0} (port : D → Port P) (datagrams : List (Routes × List ℕ)) (result : Result T E)
    {first old : LocalFeed D P} (new : LocalFeed D P) {held now errors_held errors_now : Option (List ℕ)} → IsSame
    first old →
    PassesAndWrites port datagrams result old new held now errors_held errors_now →
    PassRests first.options.now.peers.a first.options.now.peers.b datagrams result (lines port old) (lines port new)
    held now errors_held errors_now
passed_from {D} {P} port datagrams result {first} {old} new {held} {now} {errors_held} {errors_now} same passes =
    subst
    (λ (o : Bor (LoopOptions P)). PassRests o.now.peers.a o.now.peers.b datagrams result (lines port old) (lines port new)
    held now errors_held errors_now)
    same.options passes

pub next_passed : {D P T E : Type 0} (port : D → Port P) (number : ℕ) (datagrams : List (List ℕ)) (result : Result T E)
    {first old : LocalFeed D P} (new : LocalFeed D P) {held now errors_held errors_now : Option (List ℕ)} → IsSame
    first old →
    PassesAndWrites port (routed old.options.now.drops number datagrams) result old new held now errors_held errors_now
    →
    PassRests first.options.now.peers.a first.options.now.peers.b (routed first.options.now.drops number datagrams) result
    (lines port old) (lines port new) held now errors_held errors_now
next_passed {D} {P} port number datagrams result {first} {old} new {held} {now} {errors_held} {errors_now} same passes =
    subst
    (λ (o : Bor (LoopOptions P)). PassRests o.now.peers.a o.now.peers.b (routed o.now.drops number datagrams) result
    (lines port old) (lines port new) held now errors_held errors_now)
    same.options passes

-- one round of requests, with the options of the first state and an equal service
pub round_from : {D P T E : Type 0} {one other : Service} {before : RepairState P} {result : Result T E}
    {held now errors_held errors_now : Option (List ℕ)} {after : RepairState P} {first old : LocalFeed D P} → one ≡
    other → IsSame first old →
    TurnRestsOfTwo (repairing old.options.now.peers.server one) answers_sent text_before side_before rounds_side before
    result held now errors_held errors_now after →
    TurnRestsOfTwo (repairing first.options.now.peers.server other) answers_sent text_before side_before rounds_side
    before result held now errors_held errors_now after
round_from {D} {P} {T} {E} {one} {other} {before} {result} {held} {now} {errors_held} {errors_now} {after} {first}
    {old} is same made =
    subst
    (λ (s : Service). TurnRestsOfTwo (repairing first.options.now.peers.server s) answers_sent text_before side_before
    rounds_side before result
    held now errors_held errors_now after)
    is
    (subst
    (λ (o : Bor (LoopOptions P)). TurnRestsOfTwo (repairing o.now.peers.server one) answers_sent text_before
    side_before rounds_side before result
    held now errors_held errors_now after)
    same.options made)

-- the rounds of requests, with the options of the first state
pub rounds_from : {D P T E : Type 0} (service : Service) {before : RepairState P} {result : Result T E}
    {held now errors_held errors_now : Option (List ℕ)} {after : RepairState P} {first old : LocalFeed D P} → IsSame
    first old →
    RestsOfTwo (repairing old.options.now.peers.server service) answers_sent text_before side_before rounds_side
    old.options.now.turns before
    result held now errors_held errors_now after →
    RestsOfTwo (repairing first.options.now.peers.server service) answers_sent text_before side_before rounds_side
    first.options.now.turns before
    result held now errors_held errors_now after
rounds_from {D} {P} {T} {E} service {before} {result} {held} {now} {errors_held} {errors_now} {after} {first} {old}
    same rests =
    subst
    (λ (o : Bor (LoopOptions P)). RestsOfTwo (repairing o.now.peers.server service) answers_sent text_before
    side_before rounds_side o.now.turns
    before result held now errors_held errors_now after)
    same.options rests

-- ---- the caller's borrowed values end as the loop left them

pub ends_publisher : {D A : Type 0} {end left : LoopPorts D A} → end ≡ left → end.publisher ≡ left.publisher
ends_publisher {D} {A} same = ap (λ (p : LoopPorts D A). p.publisher) same

pub ends_a : {D A : Type 0} {end left : LoopPorts D A} → end ≡ left → end.a ≡ left.a
ends_a {D} {A} same = ap (λ (p : LoopPorts D A). p.a) same

pub ends_b : {D A : Type 0} {end left : LoopPorts D A} → end ≡ left → end.b ≡ left.b
ends_b {D} {A} same = ap (λ (p : LoopPorts D A). p.b) same

pub ends_server : {D A : Type 0} {end left : LoopPorts D A} → end ≡ left → end.server ≡ left.server
ends_server {D} {A} same = ap (λ (p : LoopPorts D A). p.server) same

pub ends_requests : {D A : Type 0} {end left : LoopPorts D A} → end ≡ left → end.requests ≡ left.requests
ends_requests {D} {A} same = ap (λ (p : LoopPorts D A). p.requests) same

pub ends_arbiter : {end left : Listener} → end ≡ left → end.arbiter ≡ left.arbiter
ends_arbiter same = ap (λ (l : Listener). l.arbiter) same

pub ends_outgoing : {end left : Listener} → end ≡ left → end.printer.outgoing ≡ left.printer.outgoing
ends_outgoing same = ap (λ (l : Listener). l.printer.outgoing) same

-- the port of a line sent nothing
pub sent_so : {D P : Type 0} (port : D → Port P) (before left end : D) → end ≡ left →
    (port left).sent ≡ (port before).sent → (port end).sent ≡ (port before).sent
sent_so {D} port before left end is sent = subst (λ (d : D). (port d).sent ≡ (port before).sent) (sym is) sent

-- the models of the lines and of the rounds are those that the loop left
pub lines_so : {D A P : Type 0} (port : D → Port P) (ports : LoopPorts D A) (listener : Listener) (publisher a b : D)
    (arbitration : Arbitration) (outgoing : OutgoingState) → publisher ≡ ports.publisher → a ≡ ports.a →
    b ≡ ports.b → arbitration ≡ listener.arbiter → outgoing ≡ listener.printer.outgoing →
    line_state (port publisher) (port a) (port b) arbitration outgoing ≡ lines_at port ports listener
lines_so {D} {A} {P} port ports listener publisher a b arbitration outgoing is_publisher is_a is_b is_arbiter is_outgoing =
    let of : D → D → D → Arbitration → OutgoingState → LineState P = λ p q r w o. line_state (port p) (port q) (port r) w o in
    ap (λ (d : D). of d a b arbitration outgoing) is_publisher
    ∙ ap (λ (d : D). of ports.publisher d b arbitration outgoing) is_a
    ∙ ap (λ (d : D). of ports.publisher ports.a d arbitration outgoing) is_b
    ∙ ap (λ (w : Arbitration). of ports.publisher ports.a ports.b w outgoing) is_arbiter
    ∙ ap (λ (o : OutgoingState). of ports.publisher ports.a ports.b listener.arbiter o) is_outgoing

pub rounds_so : {D A P : Type 0} (port : D → Port P) (ports : LoopPorts D A) (last : ServerState) (listener : Listener)
    (server requests : D) (arbitration : Arbitration) (outgoing : OutgoingState) → server ≡ ports.server →
    requests ≡ ports.requests → arbitration ≡ listener.arbiter → outgoing ≡ listener.printer.outgoing →
    repair_state (port server) (port requests) last arbitration outgoing ≡ rounds_at port ports last listener
rounds_so {D} {A} {P} port ports last listener server requests arbitration outgoing is_server is_requests is_arbiter is_outgoing =
    let of : D → D → Arbitration → OutgoingState → RepairState P = λ p q w o. repair_state (port p) (port q) last w o in
    ap (λ (d : D). of d requests arbitration outgoing) is_server
    ∙ ap (λ (d : D). of ports.server d arbitration outgoing) is_requests
    ∙ ap (λ (w : Arbitration). of ports.server ports.requests w outgoing) is_arbiter
    ∙ ap (λ (o : OutgoingState). of ports.server ports.requests listener.arbiter o) is_outgoing

-- so `LoopRun` of the left states is `LoopRun` of the final ones
pub loop_so : {P E : Type 0} (reporting : Bool) (drops : Drops) (a b to : P) (turns : ℕ) (start : PublisherState) (server : ServerState)
    (from : LineState P) (begun : RepairState P) (known : Option InputEntries) (result : Result ℕ E)
    (old new errors_old errors_new : Option (List ℕ)) (lines_left lines_end : LineState P)
    (rounds_left rounds_end : RepairState P) →
    lines_end ≡ lines_left → rounds_end ≡ rounds_left →
    IfSome known (λ input. LoopRun reporting drops a b to turns start.limit start.sent
    (input_published start.journal input) server from begun result old new errors_old errors_new lines_left
    rounds_left) →
    IfSome known (λ input. LoopRun reporting drops a b to turns start.limit start.sent
    (input_published start.journal input) server from begun result old new errors_old errors_new lines_end rounds_end)
loop_so {P} reporting drops a b to turns start server from begun known result old new errors_old errors_new lines_left
    lines_end rounds_left rounds_end is_lines is_rounds ran =
    let leaves : LineState P → RepairState P → Type 0 =
    λ l r. IfSome known (λ input. LoopRun reporting drops a b to turns start.limit start.sent
    (input_published start.journal input) server from begun result old new errors_old errors_new l r) in
    subst (λ (l : LineState P). leaves l rounds_end) (sym is_lines)
    (subst (λ (r : RepairState P). leaves lines_left r) (sym is_rounds) ran)
