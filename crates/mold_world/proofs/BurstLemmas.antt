-- The datagrams of a plan, sent one after the other.
use Rattle.std.proofs.Common.{◌≡◌, ℕ, suc, ◌<◌, List, [], ◌∷◌, ◌++◌, length, map, take, refl, sym, ap, ◌∙◌, append_assoc, arith}
use Rattle.std.specs.Prelude.{Bool, true, false}
use Rattle.std.proofs.lemmas.List.{append-nil}
use Rattle.std.proofs.Math.Seq.{take-append_seam}
use Rattle.mold_wire.specs.Packet.{spelling_of}
use Rattle.mold_wire.specs.declared.packet.Packet.{Packet}
use Rattle.mold_session.specs.Answer.{PlanState}
use Rattle.mold_session.specs.Server.{ServerState}
use Rattle.mold_world.specs.Sending.{SendsFirst}

-- What was sent so far follows what was sent before. Together with the remaining packets it is the whole plan.
pub record SentSoFar (before : List (List ℕ)) (packets : List Packet) (now : List (List ℕ)) (left : List Packet) : Type 0 where
  pub more : List (List ℕ)
  pub behind : now ≡ before ++ more
  pub all : now ++ map spelling_of left ≡ before ++ map spelling_of packets

pub record Goes (first now : ServerState) (plan still : PlanState) : Type 0 where
  pub server : now ≡ first
  pub session : still.session ≡ plan.session
  pub to : still.to ≡ plan.to

pub sent_nothing : (before : List (List ℕ)) (packets : List Packet) → SentSoFar before packets before packets
sent_nothing before packets = record { more = []; behind = sym (append-nil before); all = refl }

pub sent_more :
    (before : List (List ℕ)) (packets : List Packet) (now : List (List ℕ)) (left : List Packet) (new : List (List ℕ))
    (still : List Packet) (more : Bool) → more ≡ true → SentSoFar before packets now left →
    SendsFirst more now left new still → SentSoFar before packets new still
sent_more before packets now left new still false is so sends = absurd (let e = is in cc)
sent_more before packets now left new still true is so sends =
    let one : List (List ℕ) = spelling_of sends.0 ∷ [] in
    record {
      more = so.more ++ one;
      behind = sends.2 ∙ ap (λ (t : List (List ℕ)). t ++ one) so.behind ∙ append_assoc before so.more one;
      all = ap (λ (t : List (List ℕ)). t ++ map spelling_of still) sends.2
          ∙ append_assoc now one (map spelling_of still)
          ∙ ap (λ (t : List Packet). now ++ map spelling_of t) (sym sends.1)
          ∙ so.all;
    }

pub fewer_left :
    (now : List (List ℕ)) (left : List Packet) (new : List (List ℕ)) (still : List Packet) (more : Bool) →
    more ≡ true → SendsFirst more now left new still → length still < length left
fewer_left now left new still false is sends = absurd (let e = is in cc)
fewer_left now left new still true is sends =
    let e : length left ≡ suc (length still) = ap (λ (t : List Packet). length t) sends.1 in omega (arith, e)

pub sent_all :
    (before : List (List ℕ)) (packets : List Packet) (now : List (List ℕ)) (left : List Packet) (new : List (List ℕ))
    (still : List Packet) (more : Bool) → more ≡ false → SentSoFar before packets now left →
    SendsFirst more now left new still → new ≡ before ++ map spelling_of packets
sent_all before packets now left new still true is so sends = absurd (let e = is in cc)
sent_all before packets now left new still false is so sends =
    sends.1
    ∙ sym (ap (λ (t : List Packet). now ++ map spelling_of t) sends.0 ∙ append-nil now)
    ∙ so.all

pub sent_behind :
    (before : List (List ℕ)) (packets : List Packet) (now : List (List ℕ)) (left : List Packet) →
    SentSoFar before packets now left → take (length before) now ≡ before
sent_behind before packets now left so =
    ap (λ (t : List (List ℕ)). take (length before) t) so.behind ∙ take-append_seam before so.more
