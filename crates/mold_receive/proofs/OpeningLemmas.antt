-- The wait for the first packet of a session.
use Rattle.std.proofs.Common.{◌≡◌, ◌⊎◌, inl, inr, ℕ, ◌++◌, [], ◌∷◌, Bool, true, false, List, ap, refl, subst, sym, append-nil, append_assoc, ◌∙◌}
use Rattle.std.specs.Prelude.{Option, None, Some, Result, Ok, Err, IfOk, ◌&&◌, not, is_some}
use Rattle.std.specs.Option.{option_map}
use Rattle.mold_port_set.specs.PortSet.{Given, PortSetState}
use Rattle.mold_receive.specs.Opening.{HasAwaited, HasLooked, NoneOpens, first_in, is_end, is_opener}
use Rattle.mold_receive.specs.Opening.{opens_with}
use Rattle.mold_receive.specs.Receiving.{datagram_of_first, port_of}
use Rattle.mold_receive.specs.declared.came.Came.{Came}
use Rattle.mold_receive.specs.declared.came.Came.TheVariants.{Nothing, Other, First}
use Rattle.mold_receive.specs.declared.first_packet.FirstPacket.{FirstPacket}
use Rattle.mold_repair.specs.declared.origin.RepairOrigin.{RepairOrigin}
use Rattle.mold_rule.specs.Refusals.{refusal_of}
use Rattle.mold_rule.specs.declared.refusal.Refusal.{Refusal}
use Rattle.mold_wire.specs.Reading.{reading}
use Rattle.mold_wire.specs.declared.error.DecodeError.{DecodeError}
use Rattle.mold_wire.specs.declared.packet.Body.{Body}
use Rattle.mold_wire.specs.declared.packet.Body.TheVariants.{Data, Heartbeat}
use Rattle.mold_wire.specs.declared.packet.Packet.{Packet}
use Rattle.mold_wire.specs.declared.session.Session.{Session}

none_then : (session : Option Session) (some more : List Given) → NoneOpens session some → NoneOpens session more →
    NoneOpens session (some ++ more)
none_then session [] more first last = last
none_then session (datagram ∷ some) more first last = (first.0, none_then session some more first.1 last)

-- the ports gave one datagram
pub awaited_one : {P : Type 0} (lines : ℕ) (session : Option Session) (modeled : Bool) (old new : PortSetState P) (origin : RepairOrigin)
    (bytes : List ℕ) (came : Came) → HasLooked session origin bytes came →
    (modeled ≡ true → new.given ≡ old.given ++ record { port = port_of lines origin; bytes = bytes } ∷ []) →
    (modeled ≡ true → new.sent ≡ old.sent) → HasAwaited lines session modeled old new (first_in came)
awaited_one lines session modeled old new origin bytes Nothing looked given sent = absurd looked
awaited_one lines session modeled old new origin bytes Other looked given sent = record {
  passed = record { port = port_of lines origin; bytes = bytes } ∷ [];
  foreign = (looked, tt);
  given = given;
  sent = sent;
  is = tt;
}
awaited_one lines session modeled old new origin bytes (First first) looked given sent = record {
  passed = [];
  foreign = tt;
  given = λ is. given is
      ∙ ap (λ (o : RepairOrigin). old.given ++ record { port = port_of lines o; bytes = bytes } ∷ []) (sym looked.1)
      ∙ ap (λ (b : List ℕ). old.given ++ record { port = port_of lines first.origin; bytes = b } ∷ []) (sym looked.2);
  sent = sent;
  is = looked.0;
}

-- one wait without a first packet, and then another one
pub awaited_then : {P : Type 0} (lines : ℕ) (session : Option Session) (modeled : Bool) (old mid new : PortSetState P)
    (first : Option FirstPacket) → HasAwaited lines session modeled old mid None →
    HasAwaited lines session modeled mid new first → HasAwaited lines session modeled old new first
awaited_then {P = P} lines session modeled old mid new first one two = record {
  passed = one.passed ++ two.passed;
  foreign = none_then session one.passed two.passed one.foreign two.foreign;
  given = λ is. two.given is
      ∙ ap (λ (g : List Given). g ++ (two.passed ++ datagram_of_first lines first))
      (one.given is ∙ ap (λ (g : List Given). old.given ++ g) (append-nil one.passed))
      ∙ append_assoc old.given one.passed (two.passed ++ datagram_of_first lines first)
      ∙ ap (λ (g : List Given). old.given ++ g) (sym (append_assoc one.passed two.passed (datagram_of_first lines first)));
  sent = λ is. two.sent is ∙ one.sent is;
  is = two.is;
}

-- the same, if the second wait has its session from the state that the first one left
pub awaited_more : {P : Type 0} (lines : ℕ) (session other : Option Session) (modeled : Bool) (old mid new : PortSetState P)
    (first : Option FirstPacket) → HasAwaited lines session modeled old mid None → other ≡ session →
    HasAwaited lines other modeled mid new first → HasAwaited lines session modeled old new first
awaited_more {P = P} lines session other modeled old mid new first one same two =
    awaited_then lines session modeled old mid new first one
    (subst (λ (s : Option Session). HasAwaited lines s modeled mid new first) same two)

pub if_ok_map : {T E : Type 0} {P Q : T → Type 0} (result : Result T E) → ((t : T) → P t → Q t) → IfOk result P →
    IfOk result Q
if_ok_map (Ok t) more holds = more t holds
if_ok_map (Err _) more holds = tt

and_false : (b : Bool) → (b && false) ≡ false
and_false true = refl
and_false false = refl

-- a packet whose header is refused does not open the session
pub refused_not : (session : Option Session) (bytes : List ℕ) (packet : Packet) (refusal : Refusal) →
    reading bytes ≡ Ok packet →
    refusal_of (option_map (λ s. s.0) session) 0 None None packet ≡ Some refusal → opens_with session bytes ≡ false
refused_not session bytes packet refusal read refused =
    ap (λ (r : Result Packet DecodeError). is_opener (option_map (λ s. s.0) session) r) read
    ∙ ap (λ (r : Option Refusal). not (is_end packet.body) && not (is_some r)) refused
    ∙ and_false (not (is_end packet.body))

-- a data packet or a heartbeat that is not refused opens it
pub admitted_opens : (session : Option Session) (bytes : List ℕ) (packet : Packet) → reading bytes ≡ Ok packet →
    refusal_of (option_map (λ s. s.0) session) 0 None None packet ≡ None → is_end packet.body ≡ false →
    opens_with session bytes ≡ true
admitted_opens session bytes packet read admitted body =
    ap (λ (r : Result Packet DecodeError). is_opener (option_map (λ s. s.0) session) r) read
    ∙ ap (λ (r : Option Refusal). not (is_end packet.body) && not (is_some r)) admitted
    ∙ ap (λ (b : Bool). not b && true) body

-- a data packet or a heartbeat is no end packet
pub goes_on : (body : Body) → ((messages : List (List ℕ)) × (body ≡ Data messages)) ⊎ (body ≡ Heartbeat) →
    is_end body ≡ false
goes_on body (inl has) = ap (λ (b : Body). is_end b) has.1
goes_on body (inr beat) = ap (λ (b : Body). is_end b) beat
