-- A packet isn't refused exactly when it contradicts nothing.
use Rattle.std.proofs.Common.{◌≡◌, ℕ, suc, false, List, [], ◌∷◌, refl, sym, ap}
use Rattle.std.proofs.Common.{◌∙◌, inl, inr, arith}
use Rattle.std.specs.Prelude.{Option, None, Some}
use Rattle.std.specs.FinMap as finite
use Rattle.std.specs.Str.{bytes_eq}
use Rattle.std.proofs.lemmas.Bool.{cases_Bool, cases_order, cond-true, cond-false, not-false, not_from_true}
use Rattle.std.proofs.lemmas.Option.{none-some, same_Some}
use Rattle.std.proofs.lemmas.Slice.Eq.{bytes_eq-Decides}
use Rattle.mold_wire.specs.Packet.{messages_of}
use Rattle.mold_wire.specs.Truth.{message_at}
use Rattle.mold_wire.specs.declared.packet.Packet.{Packet}
use Rattle.mold_rule.specs.Held.{differs}
use Rattle.mold_rule.specs.Refusals.{IsAdmitted, refusal_of}
use Rattle.mold_capture.specs.Seen.{Pairs, Seen}
use Rattle.mold_capture.specs.Refusal.{conflict, packet_refusal}
use Rattle.mold_capture.proofs.PairLemmas.{message_first, message_next, message_bounds}
use Rattle.mold_capture.proofs.JoinLemmas.{MayJoin}

-- The law of mold_rule that these proofs use.
pub record RuleLaw : Type 0 where
  pub none : (session : Option (List ℕ)) (known : ℕ) (ended : Option ℕ) (p : Packet) →
      IsAdmitted session known ended p → refusal_of session known ended None p ≡ None
  pub admitted : (session : Option (List ℕ)) (known : ℕ) (ended number : Option ℕ) (p : Packet) →
      refusal_of session known ended number p ≡ None → IsAdmitted session known ended p
  pub same : (session : Option (List ℕ)) (known : ℕ) (ended number : Option ℕ) (p : Packet) →
      refusal_of session known ended number p ≡ None → number ≡ None

differs_not : (o : Option (List ℕ)) (m : List ℕ) → differs o m ≡ false → (other : List ℕ) → o ≡ Some other → other ≡ m
differs_not None m not_so other is = absurd (none-some other is)
differs_not (Some x) m not_so other is =
    sym (same_Some x other is) ∙ (bytes_eq-Decides x m).0 (not-false (bytes_eq x m) not_so)

not_differs : (o : Option (List ℕ)) (m : List ℕ) → ((other : List ℕ) → o ≡ Some other → other ≡ m) →
    differs o m ≡ false
not_differs None m same = refl
not_differs (Some x) m same = not_from_true (bytes_eq x m) ((bytes_eq-Decides x m).1 (same x refl))

pub conflict_first : (pairs : Pairs) (n : ℕ) (m : List ℕ) (ms : List (List ℕ)) → conflict pairs n (m ∷ ms) ≡ None →
    (differs (finite.get pairs n) m ≡ false) × (conflict pairs (suc n) ms ≡ None)
conflict_first pairs n m ms none =
    elim (cases_Bool (differs (finite.get pairs n) m)) [
      | inl t ↦ absurd (none-some _ (sym none ∙ cond-true _ _ _ t))
      | inr f ↦ (f, sym (cond-false _ _ _ f) ∙ none)
    ]

pub agrees_to : (pairs : Pairs) (n : ℕ) (ms : List (List ℕ)) → conflict pairs n ms ≡ None →
    (q : ℕ) (m other : List ℕ) → message_at n ms q ≡ Some m → finite.get pairs q ≡ Some other → other ≡ m
agrees_to pairs n [] none q m other carried is =
    (let bounds = message_bounds n [] q m carried in absurd (omega (arith, bounds.0, bounds.1)))
agrees_to pairs n (x ∷ ms) none q m other carried is =
    let parts = conflict_first pairs n x ms none in
    elim (cases_order q n) [
      | inl same ↦
          differs_not (finite.get pairs n) x parts.0 other (ap (finite.get pairs) (sym same) ∙ is)
          ∙ same_Some x m (sym (message_first n x ms q same) ∙ carried)
      | inr (inl below) ↦ (let bounds = message_bounds n (x ∷ ms) q m carried in absurd (omega (arith, bounds.0)))
      | inr (inr above) ↦ agrees_to pairs (suc n) ms parts.1 q m other (sym (message_next n x ms q above) ∙ carried) is
    ]

pub agrees_from : (pairs : Pairs) (n : ℕ) (ms : List (List ℕ)) →
    ((q : ℕ) (m other : List ℕ) → message_at n ms q ≡ Some m → finite.get pairs q ≡ Some other → other ≡ m)
    → conflict pairs n ms ≡ None
agrees_from pairs n [] agrees = refl
agrees_from pairs n (x ∷ ms) agrees =
    cond-false _ _ _
    (not_differs (finite.get pairs n) x (λ other is. agrees n x other (message_first n x ms n refl) is))
    ∙ agrees_from pairs (suc n) ms
    (λ q m other carried is.
    let bounds = message_bounds (suc n) ms q m carried in
    agrees q m other (message_next n x ms q (omega (arith, bounds.0)) ∙ carried) is)

-- A packet that isn't refused contradicts nothing.
pub joins_from : RuleLaw → (seen : Seen) (packet : Packet) → packet_refusal seen packet ≡ None → MayJoin seen packet
joins_from rule seen packet none =
    let other = conflict seen.pairs packet.sequence (messages_of packet.body) in
    record {
      admitted = rule.admitted seen.session seen.known seen.ended other packet none;
      agrees = agrees_to seen.pairs packet.sequence (messages_of packet.body)
          (rule.same seen.session seen.known seen.ended other packet none);
    }

-- A packet that contradicts nothing isn't refused.
pub joins_to : RuleLaw → (seen : Seen) (packet : Packet) → MayJoin seen packet → packet_refusal seen packet ≡ None
joins_to rule seen packet may =
    ap (λ (o : Option ℕ). refusal_of seen.session seen.known seen.ended o packet)
    (agrees_from seen.pairs packet.sequence (messages_of packet.body) may.agrees)
    ∙ rule.none seen.session seen.known seen.ended packet may.admitted
