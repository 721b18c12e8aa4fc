-- Lemmas about the sends of a loop's publisher, derived from the datagrams that it passes.
use Rattle.std.proofs.Common.{◌≡◌, ◌∙◌, ℕ, Bool, List, [], ◌∷◌, ◌++◌, true, false, map}
use Rattle.std.proofs.Common.{Option, None, Some, Result, Ok, Err, ap, refl, sym, subst, append_assoc}
use Rattle.std.proofs.lemmas.List.{map-append}
use Rattle.std.specs.Prelude.{IfSome}
use Rattle.mold_input.specs.Entries.{InputEntries}
use Rattle.mold_ports.specs.Ports.{Port, offered}
use Rattle.mold_publish.specs.Publishing.{PublishedInput, input_published}
use Rattle.mold_session.specs.Publisher.{PublisherState}
use Rattle.mold_session.specs.Server.{ServerState}
use Rattle.mold_loop.specs.Looping.{LineState, LoopRun, Outcome, LeftOut, Failed, Sent, Pass}
use Rattle.mold_loop.specs.Looping.{goes_out, passed, passing, port_after, routed_by}
use Rattle.mold_loop.specs.Passing.{LoopSends, Offers, all_routed, all_sends, send_if, sends_on}
use Rattle.mold_loop.specs.Repairing.{RepairState}
use Rattle.mold_turns.specs.Runs.{Begins, run}
use Rattle.mold_loop.specs.declared.loop_parts.Drops.{Drops}
use Rattle.mold_loop.specs.declared.loop_parts.Routes.{Routes}
use Rattle.mold_turns.proofs.RunLemmas.{begins_whole}

-- offers compose
offers_more : {P : Type 0} (xs ys : List (P × List ℕ)) (old mid new : Port P) → Offers xs old mid → Offers ys mid new →
    Offers (xs ++ ys) old new
offers_more [] ys old mid new first second = subst (λ (p : Port _). Offers ys p new) first second
offers_more (x ∷ xs) ys old mid new first second =
    (first.0, offers_more xs ys (offered first.0 x.0 x.1 old) mid new first.1 second)

sends_more : {P : Type 0} (a b : P) (xs ys : List (Routes × List ℕ)) →
    all_sends a b (xs ++ ys) ≡ all_sends a b xs ++ all_sends a b ys
sends_more a b [] ys = refl
sends_more {P} a b (x ∷ xs) ys =
    ap (λ (l : List (P × List ℕ)). sends_on x.0 a b x.1 ++ l) (sends_more a b xs ys)
    ∙ sym (append_assoc (sends_on x.0 a b x.1) (all_sends a b xs) (all_sends a b ys))

-- a datagram that is passed is offered
outcome_offers : {P : Type 0} (o : Outcome) (to : P) (datagram : List ℕ) (port : Port P) →
    Offers (send_if (goes_out o) to datagram) port (port_after o to datagram port)
outcome_offers LeftOut to datagram port = refl
outcome_offers Failed to datagram port = (true, refl)
outcome_offers Sent to datagram port = (false, refl)

pass_offers : {P : Type 0} (a b : P) (pass : Pass) (s : LineState P) →
    Offers (sends_on (routed_by pass).0 a b pass.datagram) s.publisher (passed a b pass s).publisher
unfolding passed
pass_offers {P} a b pass s =
    let mid : Port P = port_after pass.a a pass.datagram s.publisher in
    offers_more (send_if (goes_out pass.a) a pass.datagram) (send_if (goes_out pass.b) b pass.datagram) s.publisher mid
    (port_after pass.b b pass.datagram mid) (outcome_offers pass.a a pass.datagram s.publisher)
    (outcome_offers pass.b b pass.datagram mid)

passes_offer : {P : Type 0} (a b : P) (passes : List Pass) (s : LineState P) →
    Offers (all_sends a b (map routed_by passes)) s.publisher (run (passing a b) passes s).publisher
unfolding run
passes_offer a b [] s = refl
passes_offer {P} a b (pass ∷ more) s =
    let after : LineState P = passed a b pass s in
    offers_more (sends_on (routed_by pass).0 a b pass.datagram) (all_sends a b (map routed_by more)) s.publisher
    after.publisher (run (passing a b) more after).publisher (pass_offers a b pass s) (passes_offer a b more after)

-- the sends of a prefix of the passes are a prefix of all sends
first_sends : {P : Type 0} (a b : P) {front passes : List Pass} (all : List (Routes × List ℕ)) → Begins front passes →
    map routed_by passes ≡ all → Begins (all_sends a b (map routed_by front)) (all_sends a b all)
first_sends a b {front} {passes} all begins are = record {
  rest = all_sends a b (map routed_by begins.rest);
  parts =
      ap (λ (l : List (Routes × List ℕ)). all_sends a b l)
      (sym are ∙ ap (λ (l : List Pass). map routed_by l) begins.parts ∙ map-append routed_by front begins.rest)
      ∙ sends_more a b (map routed_by front) (map routed_by begins.rest);
}

module _ {P E : Type 0} {reporting : Bool} (drops : Drops) (a b to : P) (turns limit sent : ℕ) (published : PublishedInput)
    (server : ServerState) (lines : LineState P) (rounds : RepairState P)
    (old new errors_old errors_new : Option (List ℕ))
    (lines_left : LineState P) (rounds_left : RepairState P) where
  run_sends : (result : Result ℕ E) →
      LoopRun reporting drops a b to turns limit sent published server lines rounds result old new errors_old
      errors_new lines_left rounds_left →
      LoopSends drops a b limit sent published result lines.publisher lines_left.publisher
  run_sends (Ok status) ran = record {
    front = all_sends a b (map routed_by ran.passes);
    offers =
        subst (λ (p : Port P). Offers (all_sends a b (map routed_by ran.passes)) lines.publisher p)
        (sym ran.left.publisher_left) (passes_offer a b ran.passes lines);
    begins = first_sends a b (all_routed drops limit sent published) (begins_whole ran.passes) ran.are;
    whole = ap (λ (l : List (Routes × List ℕ)). all_sends a b l) ran.are;
  }
  run_sends (Err fault) ran = record {
    front = all_sends a b (map routed_by ran.offers.front);
    offers =
        subst (λ (p : Port P). Offers (all_sends a b (map routed_by ran.offers.front)) lines.publisher p)
        (sym ran.offers.port) (passes_offer a b ran.offers.front lines);
    begins = first_sends a b (all_routed drops limit sent published) ran.offers.begins ran.are;
    whole = tt;
  }

-- the publisher's port after the loop's run determines which datagrams were sent
pub loop_sends : {P E : Type 0} (reporting : Bool) (drops : Drops) (a b to : P) (turns : ℕ) (start : PublisherState) (server : ServerState)
    (lines : LineState P) (rounds : RepairState P) (known : Option InputEntries) (result : Result ℕ E)
    (old new errors_old errors_new : Option (List ℕ)) (lines_left : LineState P) (rounds_left : RepairState P) →
    IfSome known (λ input. LoopRun reporting drops a b to turns start.limit start.sent
    (input_published start.journal input) server lines rounds result old new errors_old errors_new lines_left
    rounds_left) →
    IfSome known (λ input. LoopSends drops a b start.limit start.sent
    (input_published start.journal input) result lines.publisher lines_left.publisher)
loop_sends reporting drops a b to turns start server lines rounds None result old new errors_old errors_new lines_left
    rounds_left ran = tt
loop_sends reporting drops a b to turns start server lines rounds (Some input) result old new errors_old errors_new
    lines_left rounds_left ran =
    run_sends drops a b to turns start.limit start.sent (input_published start.journal input) server lines rounds
    old new errors_old errors_new lines_left rounds_left result ran
