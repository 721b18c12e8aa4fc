-- Why a digested datagram is refused.
use Rattle.std.proofs.Common.{◌≡◌, ◌⊎◌, inl, inr, ℕ, suc, false, List, [], ◌∷◌, ◌++◌, map}
use Rattle.std.proofs.Common.{refl, sym, ap, subst, ◌∙◌}
use Rattle.std.specs.Prelude.{Option, None, Some, Result, Ok, Err, nat_lt}
use Rattle.std.specs.List.{All}
use Rattle.std.specs.FinMap as finite
use Rattle.std.specs.Option.{option_map}
use Rattle.std.specs.Str.{bytes_eq}
use Rattle.std.proofs.lemmas.Bool.{cases_Bool, cond-true, cond-false, not-false, not_from_true}
use Rattle.std.proofs.lemmas.Option.{none-some, same_Some}
use Rattle.std.proofs.lemmas.Slice.Eq.{bytes_eq-Decides}
use Rattle.mold_wire.specs.Block.{IsBytes}
use Rattle.mold_wire.specs.Packet.{messages_of, top_of}
use Rattle.mold_wire.specs.Reading.{reading}
use Rattle.mold_wire.specs.declared.error.DecodeError.{DecodeError}
use Rattle.mold_wire.specs.declared.limits.TheConstants.{MAX_NUMBER}
use Rattle.mold_wire.specs.declared.packet.Packet.{Packet}
use Rattle.mold_wire.specs.declared.packet.Body.{Body}
use Rattle.mold_wire.specs.declared.packet.Body.TheVariants.{Data, Heartbeat, End}
use Rattle.mold_rule.specs.Held.{Store, differs, first_conflict, numbered}
use Rattle.mold_rule.specs.Refusals.{conflict_at, end_below, end_conflict, first_some, past_end, past_last}
use Rattle.mold_rule.specs.Refusals.{refuse_if, sequence_zero, wrong_session}
use Rattle.mold_rule.specs.declared.refusal.Refusal.{Refusal}
use Rattle.mold_rule.specs.declared.refusal.Refusal.TheVariants.{Malformed, WrongSession, SequenceZero, PastLast}
use Rattle.mold_rule.specs.declared.refusal.Refusal.TheVariants.{EndConflict, EndBelow, PastEnd, Conflict, Memory}
use Rattle.mold_capture.specs.Refusal.{conflict, packet_refusal, reason, refusal_read}
use Rattle.mold_capture.specs.Seen.{seen_of}
use Rattle.mold_digest.specs.Conflicts.{IsNoConflict}
use Rattle.mold_digest.specs.Key.{digest}
use Rattle.mold_digest.specs.Digested.{digested, digested_body, digested_list, digested_packet}
use Rattle.mold_digest.proofs.DigestedLemmas.{ReadsBack}
use Rattle.mold_digest.proofs.SaidLemmas.{messages_digested}
use Rattle.mold_digest.proofs.PacketLemmas.{IsSpelled, SeenAlike, read_digested, reading_digested, seen_digested, top_digested}

-- ---- the header

end_conflict_digested : (key : List ℕ) (body : Body) (n : ℕ) (ended : Option ℕ) →
    end_conflict (digested_body key body) n ended ≡ end_conflict body n ended
end_conflict_digested key (Data ms) n ended = refl
end_conflict_digested key Heartbeat n ended = refl
end_conflict_digested key End n ended = refl

end_below_digested : (key : List ℕ) (body : Body) (n known : ℕ) →
    end_below (digested_body key body) n known ≡ end_below body n known
end_below_digested key (Data ms) n known = refl
end_below_digested key Heartbeat n known = refl
end_below_digested key End n known = refl

past_end_digested : (key : List ℕ) (ended : Option ℕ) (body : Body) (top : ℕ) →
    past_end ended (digested_body key body) top ≡ past_end ended body top
past_end_digested key None body top = refl
past_end_digested key (Some end) (Data ms) top = refl
past_end_digested key (Some end) Heartbeat top = refl
past_end_digested key (Some end) End top = refl

-- The refusals of a packet that come before `Conflict`.
abbrev before : Option (List ℕ) → ℕ → Option ℕ → Packet → List (Option Refusal)
before session known ended p =
    wrong_session session p.session.0
    ∷ sequence_zero p
    ∷ past_last p
    ∷ end_conflict p.body p.sequence ended
    ∷ end_below p.body p.sequence known
    ∷ past_end ended p.body (top_of p)
    ∷ []

before_digested : (key : List ℕ) (session : Option (List ℕ)) (known : ℕ) (ended : Option ℕ) (p : Packet) →
    before session known ended (digested_packet key p) ≡ before session known ended p
before_digested key session known ended p =
    let top = top_digested key p in
    let past = past_end_digested key ended p.body (top_of (digested_packet key p)) ∙ ap (past_end ended p.body) top in
    λ i.
    wrong_session session p.session.0
    ∷ sequence_zero p
    ∷ refuse_if (nat_lt MAX_NUMBER (top i)) PastLast
    ∷ end_conflict_digested key p.body p.sequence ended i
    ∷ end_below_digested key p.body p.sequence known i
    ∷ past i
    ∷ []

-- ---- the messages

differs_digested : (f : List ℕ → List ℕ) (o : Option (List ℕ)) (m : List ℕ) → differs o m ≡ false →
    differs (option_map f o) (f m) ≡ false
differs_digested f None m same = refl
differs_digested f (Some held) m same =
    let one = (bytes_eq-Decides held m).0 (not-false (bytes_eq held m) same) in
    not_from_true (bytes_eq (f held) (f m)) ((bytes_eq-Decides (f held) (f m)).1 (ap f one))

agree_digested : (f : List ℕ → List ℕ) (store other : Store) →
    ((q : ℕ) → finite.get other q ≡ option_map f (finite.get store q)) → (n : ℕ) (ms : List (List ℕ)) →
    first_conflict store (numbered n ms) ≡ None → first_conflict other (numbered n (map f ms)) ≡ None
agree_digested f store other get n [] none = refl
agree_digested f store other get n (m ∷ ms) none =
    elim (cases_Bool (differs (finite.get store n) m)) [
      | inl t ↦ absurd (none-some n (sym none ∙ cond-true _ _ _ t))
      | inr same ↦
          cond-false _ _ _
          (ap (λ (o : Option (List ℕ)). differs o (f m)) (get n) ∙ differs_digested f (finite.get store n) m same)
          ∙ agree_digested f store other get (suc n) ms (sym (cond-false _ _ _ same) ∙ none)
    ]

conflict_none : (o : Option ℕ) → conflict_at o ≡ None → o ≡ None
conflict_none None none = refl
conflict_none (Some n) none = absurd (none-some (Conflict n) (sym none))

-- ---- the first reason

no_conflict : (n : ℕ) (why : Refusal) → Conflict n ≡ why → IsNoConflict why → ⊥
no_conflict n why same is = subst IsNoConflict (sym same) is

-- A refusal that isn't `Conflict` doesn't depend on the messages that differ.
first_other : (rs : List (Option Refusal)) (d e : Option ℕ) (why : Refusal) → IsNoConflict why →
    first_some (rs ++ conflict_at d ∷ []) ≡ Some why → first_some (rs ++ conflict_at e ∷ []) ≡ Some why
first_other [] None e why other is = absurd (none-some why is)
first_other [] (Some n) e why other is = absurd (no_conflict n why (same_Some (Conflict n) why is) other)
first_other (None ∷ rs) d e why other is = first_other rs d e why other is
first_other (Some r ∷ rs) d e why other is = is

-- If nothing is refused, nothing is refused when no message differs.
first_none : (rs : List (Option Refusal)) (d e : Option ℕ) → (d ≡ None → e ≡ None) →
    first_some (rs ++ conflict_at d ∷ []) ≡ None → first_some (rs ++ conflict_at e ∷ []) ≡ None
first_none [] None e agrees none = ap (λ (o : Option ℕ). first_some (conflict_at o ∷ [])) (agrees refl)
first_none [] (Some n) e agrees none = absurd (none-some (Conflict n) (sym none))
first_none (None ∷ rs) d e agrees none = first_none rs d e agrees none
first_none (Some r ∷ rs) d e agrees none = absurd (none-some r (sym none))

-- What the reasons to refuse a datagram and the digested one have in common.
pub record Alike (one other : Option Refusal) : Type 0 where
  pub none : one ≡ None → other ≡ None
  pub same : (why : Refusal) → IsNoConflict why → one ≡ Some why → other ≡ Some why
  pub back : (why : Refusal) → IsNoConflict why → other ≡ Some why → one ≡ Some why

alike_refl : (o : Option Refusal) → Alike o o
alike_refl o = record { none = λ is. is; same = λ why other is. is; back = λ why other is. is }

packet_alike : (key : List ℕ) (list : List (List ℕ)) → SeenAlike key list → (p : Packet) →
    Alike (packet_refusal (seen_of list) p) (packet_refusal (seen_of (digested_list key list)) (digested_packet key p))
packet_alike key list alike p =
    let seen = seen_of list in
    let other = seen_of (digested_list key list) in
    let rs = before seen.session seen.known seen.ended p in
    let d = conflict seen.pairs p.sequence (messages_of p.body) in
    let e = conflict other.pairs p.sequence (messages_of (digested_body key p.body)) in
    let head : before other.session other.known other.ended (digested_packet key p) ≡ rs =
    (λ i. before (alike.session i) (alike.known i) (alike.ended i) (digested_packet key p))
    ∙ before_digested key seen.session seen.known seen.ended p in
    let whole : packet_refusal other (digested_packet key p) ≡ first_some (rs ++ conflict_at e ∷ []) =
    ap (λ (t : List (Option Refusal)). first_some (t ++ conflict_at e ∷ [])) head in
    let agrees : d ≡ None → e ≡ None =
    λ none.
    ap (λ (ms : List (List ℕ)). first_conflict other.pairs (numbered p.sequence ms)) (messages_digested key p.body)
    ∙ agree_digested (digest key) seen.pairs other.pairs alike.pairs p.sequence (messages_of p.body) none in
    record {
      none = λ is. whole ∙ first_none rs d e agrees is;
      same = λ why plain is. whole ∙ first_other rs d e why plain is;
      back = λ why plain is. first_other rs e d why plain (sym whole ∙ is);
    }

read_alike : (key : List ℕ) (list : List (List ℕ)) → SeenAlike key list → (r : Result Packet DecodeError) →
    Alike (refusal_read (seen_of list) r) (refusal_read (seen_of (digested_list key list)) (read_digested key r))
read_alike key list alike (Ok p) = packet_alike key list alike p
read_alike key list alike (Err error) = alike_refl (Some (Malformed error))

-- A digested datagram after digested ones is refused for the reason for which the datagram is refused, except for
-- `Conflict`.
pub reason_alike : ReadsBack → IsSpelled → (key : List ℕ) (list : List (List ℕ)) (bytes : List ℕ) →
    All IsBytes list → IsBytes bytes →
    Alike (reason list bytes) (reason (digested_list key list) (digested key bytes))
reason_alike reads spelled key list bytes fits fit =
    subst (λ (r : Result Packet DecodeError). Alike (reason list bytes) (refusal_read (seen_of (digested_list key list)) r))
    (sym (reading_digested reads spelled key bytes fit))
    (read_alike key list (seen_digested reads spelled key list fits) (reading bytes))

-- Each refusal is `Conflict` or isn't.
pub refusal_cases : (why : Refusal) → IsNoConflict why ⊎ ((n : ℕ) × (why ≡ Conflict n))
refusal_cases (Malformed error) = inl tt
refusal_cases WrongSession = inl tt
refusal_cases SequenceZero = inl tt
refusal_cases PastLast = inl tt
refusal_cases (EndConflict end) = inl tt
refusal_cases (EndBelow known) = inl tt
refusal_cases (PastEnd end) = inl tt
refusal_cases (Conflict n) = inr (n, refl)
refusal_cases Memory = inl tt

-- If a digested datagram is refused for a conflict, so is the datagram.
pub conflict_back : (one other : Option Refusal) → Alike one other → (n : ℕ) → other ≡ Some (Conflict n) →
    (m : ℕ) × (one ≡ Some (Conflict m))
conflict_back None other alike n is = absurd (none-some (Conflict n) (sym (alike.none refl) ∙ is))
conflict_back (Some why) other alike n is =
    elim (refusal_cases why) [
      | inl plain ↦ absurd (no_conflict n why (sym (same_Some why (Conflict n) (sym (alike.same why plain refl) ∙ is))) plain)
      | inr found ↦ (found.0, ap Some found.1)
    ]
