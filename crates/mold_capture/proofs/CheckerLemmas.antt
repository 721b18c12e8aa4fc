-- What a checker holds, and what it returns.
use Rattle.std.proofs.Common.{◌≡◌, ℕ, ◌-◌, max, false, List, [], refl, sym, ap, ◌∙◌}
use Rattle.std.proofs.Common.{arith}
use Rattle.std.specs.Prelude.{Option, None, Some, is_none, Result, Ok, Err, IfOk}
use Rattle.std.specs.FinMap as finite
use Rattle.std.specs.Option.{option_map, option_or}
use Rattle.std.proofs.lemmas.Bool.{true≢false}
use Rattle.mold_wire.specs.Packet.{messages_of, top_of}
use Rattle.mold_wire.specs.Reading.{reading}
use Rattle.mold_wire.specs.declared.packet.Packet.{Packet}
use Rattle.mold_wire.specs.declared.session.Session.{Session}
use Rattle.mold_rule.specs.declared.refusal.Refusal.{Refusal}
use Rattle.mold_rule.specs.declared.refusal.Refusal.TheVariants.{Malformed, WrongSession, SequenceZero, PastLast}
use Rattle.mold_rule.specs.declared.refusal.Refusal.TheVariants.{EndConflict, EndBelow, PastEnd, Conflict, Memory}
use Rattle.mold_rule.specs.Refusals.{conflict_at, refusal_of}
use Rattle.mold_capture.specs.Refusal.{conflict, refusal, refusal_read, told}
use Rattle.mold_capture.specs.Seen.{Pairs, Seen, IsSound, after, end_in, joined, joined_read, pairs_with, seen_by}
use Rattle.mold_capture.specs.Verdict.{IsWholeSeen, lacks, missing_in}
use Rattle.mold_capture.proofs.GapLemmas.{none_lacking, lacking_none}

-- A reason other than `Memory` is reported as it is.
told_other : (why : Refusal) → (why ≡ Memory → ⊥) → told why ≡ Some why
told_other Memory other = absurd (other refl)
told_other (Malformed error) other = refl
told_other WrongSession other = refl
told_other SequenceZero other = refl
told_other PastLast other = refl
told_other (EndConflict end) other = refl
told_other (EndBelow known) other = refl
told_other (PastEnd end) other = refl
told_other (Conflict number) other = refl

session_or : (o : Option Session) (s : Session) →
    option_map (λ (x : Session). x.0) (option_or o (Some s)) ≡ option_or (option_map (λ (x : Session). x.0) o) (Some s.0)
session_or None s = refl
session_or (Some x) s = refl

-- The fields of a checker before and after a packet joins.
pub record Joins (session now_session : Option Session) (known now_known : ℕ) (ended now_ended : Option ℕ) (pairs now_pairs : Pairs) (p : Packet) : Type 0 where
  pub session_is : now_session ≡ option_or session (Some p.session)
  pub known_is : now_known ≡ max known (top_of p)
  pub ended_is : now_ended ≡ option_or ended (end_in p.body p.sequence)
  pub pairs_is : now_pairs ≡ pairs_with pairs p.sequence (messages_of p.body)

pub joins_is : (session now_session : Option Session) (known now_known : ℕ) (ended now_ended : Option ℕ) (pairs now_pairs : Pairs) (p : Packet) →
    Joins session now_session known now_known ended now_ended pairs now_pairs p
    → seen_by now_session now_known now_ended now_pairs ≡ joined (seen_by session known ended pairs) p
joins_is session now_session known now_known ended now_ended pairs now_pairs p joins =
    let named = ap (option_map (λ (x : Session). x.0)) joins.session_is ∙ session_or session p.session in
    λ i. record {
      session = named i;
      known = joins.known_is i;
      ended = joins.ended_is i;
      pairs = joins.pairs_is i;
    }

some_carried : (o : Option (List ℕ)) → is_none o ≡ false → (m : List ℕ) × (o ≡ Some m)
some_carried None is = absurd (true≢false is)
some_carried (Some m) is = (m, refl)

-- If there is an end and nothing is missing, the datagrams are whole.
pub none_whole : (seen : Seen) → IsSound seen → (end : ℕ) → seen.ended ≡ Some end → missing_in seen ≡ [] →
    IsWholeSeen seen end
none_whole seen sound end ended none =
    record {
      ended = ended;
      carried = λ k low high.
          some_carried (finite.get seen.pairs k)
          (none_lacking (lacks seen.pairs) 1 (seen.known - 1) none k low (omega (arith, sound.ended end ended)));
    }

-- If the datagrams are whole, nothing is missing.
pub whole_none : (seen : Seen) → IsSound seen → (end : ℕ) → IsWholeSeen seen end → missing_in seen ≡ []
whole_none seen sound end whole =
    lacking_none (lacks seen.pairs) 1 (seen.known - 1)
    (λ q low below.
    let found = whole.carried q low (omega (arith, sound.first, sound.ended end whole.ended)) in
    ap is_none found.1)

pub ok_then : {X E : Type 0} (r : Result X E) (P Q : X → Type 0) → ((x : X) → P x → Q x) → IfOk r P → IfOk r Q
ok_then (Ok x) P Q to holds = to x holds
ok_then (Err e) P Q to holds = tt

-- A datagram that encodes a packet is refused because of its header.
pub read_early : (before seen : Seen) (bytes : List ℕ) (p : Packet) (why : Refusal) → before ≡ seen
    → reading bytes ≡ Ok p
    → ((other : Option ℕ) → refusal_of before.session before.known before.ended other p ≡ Some why)
    → (why ≡ Memory → ⊥) → refusal seen bytes ≡ told why
read_early before seen bytes p why same read header other =
    ap (λ (s : Seen). refusal s bytes) (sym same) ∙ ap (refusal_read before) read
    ∙ header (conflict before.pairs p.sequence (messages_of p.body)) ∙ sym (told_other why other)

-- A datagram that encodes a packet is refused because of a conflict.
pub read_late : (before seen : Seen) (bytes : List ℕ) (p : Packet) → before ≡ seen → reading bytes ≡ Ok p
    → ((other : Option ℕ) → refusal_of before.session before.known before.ended other p ≡ conflict_at other)
    → refusal seen bytes ≡ conflict_at (conflict before.pairs p.sequence (messages_of p.body))
read_late before seen bytes p same read header =
    ap (λ (s : Seen). refusal s bytes) (sym same) ∙ ap (refusal_read before) read
    ∙ header (conflict before.pairs p.sequence (messages_of p.body))

-- What is stated after a datagram that encodes a packet.
pub read_joined : (before seen : Seen) (bytes : List ℕ) (p : Packet) → before ≡ seen → reading bytes ≡ Ok p
    → joined before p ≡ after seen bytes
read_joined before seen bytes p same read =
    sym (ap (joined_read before) read) ∙ ap (λ (s : Seen). after s bytes) same
