-- What a list of datagrams states sums it up: it is what all sessions that explain the list have in common.
use Rattle.std.proofs.Common.{◌≡◌, ℕ, suc, ◌+◌, ◌-◌, true, List, [], ◌∷◌, ◌++◌, length, refl, sym, ap, subst}
use Rattle.std.proofs.Common.{◌∙◌, inl, inr, arith, append_assoc}
use Rattle.std.specs.Prelude.{None, Some, Ok, Err}
use Rattle.std.specs.List.{All}
use Rattle.std.specs.FinMap as finite
use Rattle.std.specs.Ordering.{nat_cmp}
use Rattle.std.proofs.Math.Seq.{take-append_seam}
use Rattle.std.proofs.lemmas.List.{append-nil, same_lists}
use Rattle.std.proofs.lemmas.List.Elements.{All-nil, All-push, All-pop, All-take, All-contains}
use Rattle.std.proofs.lemmas.Option.{none-some, same_Some, get_or_from_slice_get}
use Rattle.mold_wire.specs.Packet.{Spells}
use Rattle.mold_wire.specs.Reading.{reading}
use Rattle.mold_wire.specs.Truth.{published_at, Carries, IsTrueBody}
use Rattle.mold_wire.specs.declared.packet.Packet.{Packet}
use Rattle.mold_wire.specs.declared.packet.Body.{Body}
use Rattle.mold_capture.specs.Consistent.{IsSaidBy, Explains, Consistent, IsCarried, HasEnd, Whole}
use Rattle.mold_capture.specs.Seen.{Seen, seen_of, joined, joined_read, after, IsSound}
use Rattle.mold_capture.specs.Refusal.{refusal_read, reason}
use Rattle.mold_capture.specs.Verdict.{IsWholeSeen}
use Rattle.mold_capture.proofs.PairLemmas.{option_or_cases, published_in}
use Rattle.mold_capture.proofs.JoinLemmas.{Allows, MayJoin, may_join, still_allowed, was_allowed, was_named, was_true}
use Rattle.mold_capture.proofs.JoinLemmas.{still_sound, true_carried, filled, some_allowed}
use Rattle.mold_capture.proofs.RefusalLemmas.{RuleLaw, joins_from, joins_to}
use Rattle.mold_capture.proofs.ListLemmas.{ReadsBack, one_packet, seen-push, get_carried, carried_get, end_told, end_found}

-- What is stated fits together, and exactly the sessions that explain the list agree with it.
pub record SumsUp (list : List (List ℕ)) (seen : Seen) : Type 0 where
  pub sound : IsSound seen
  pub allows : (session : List ℕ) (P : List (List ℕ)) → Explains session P list → Allows seen session P
  pub explains : (session : List ℕ) (P : List (List ℕ)) → Allows seen session P → Explains session P list

nothing_carried : (q : ℕ) (m : List ℕ) → finite.get (seen_of []).pairs q ≡ Some m → ⊥
nothing_carried q m is = none-some m (sym (finite.get-empty nat_cmp q) ∙ is)

pub sums_none : SumsUp [] (seen_of [])
sums_none = record {
  sound = record {
    first = omega arith;
    last = omega arith;
    ended = λ number is. absurd (none-some number is);
    carried = λ q m is. absurd (nothing_carried q m is);
  };
  allows = λ session P explained. record {
    few = explained.few;
    named = λ name is. absurd (none-some name is);
    known = omega arith;
    ended = λ number is. absurd (none-some number is);
    carried = λ q m is. absurd (nothing_carried q m is);
  };
  explains = λ session P allows. record { few = allows.few; each = All-nil (IsSaidBy session P) };
}

-- The datagrams without the last one, and the last one.
pub explained_front : (session : List ℕ) (P list : List (List ℕ)) (bytes : List ℕ) →
    Explains session P (list ++ bytes ∷ []) → Explains session P list
explained_front session P list bytes explained =
    record {
      few = explained.few;
      each = (All-pop (IsSaidBy session P) (list ++ bytes ∷ []) list (Some bytes) refl explained.each).0;
    }

pub explained_last : (session : List ℕ) (P list : List (List ℕ)) (bytes : List ℕ) →
    Explains session P (list ++ bytes ∷ []) → IsSaidBy session P bytes
explained_last session P list bytes explained =
    (All-pop (IsSaidBy session P) (list ++ bytes ∷ []) list (Some bytes) refl explained.each).1

pub sums_more : ReadsBack → (list : List (List ℕ)) (seen : Seen) (bytes : List ℕ) (v : Packet) → SumsUp list seen →
    Spells v bytes → MayJoin seen v → SumsUp (list ++ bytes ∷ []) (joined seen v)
sums_more reads list seen bytes v sums spelled may =
    record {
      sound = still_sound seen v sums.sound may;
      allows = λ session P explained.
          let said = explained_last session P list bytes explained in
          let one : said.packet ≡ v = one_packet reads said.packet v bytes said.spelled spelled in
          subst (λ (u : Packet). Allows (joined seen u) session P) one
          (still_allowed seen said.packet session P
          (sums.allows session P (explained_front session P list bytes explained))
          said.named said.spelled.is_packet.body said.is_true);
      explains = λ session P allows. record {
        few = allows.few;
        each =
            All-push (IsSaidBy session P) list bytes
            (sums.explains session P (was_allowed seen v session P allows)).each
            (record {
              packet = v;
              spelled = spelled;
              named = was_named seen v session P may allows;
              is_true = was_true seen v session P may allows;
            });
      };
    }

-- A packet may join the list if a session explains both.
pub explained_joins : (list : List (List ℕ)) (seen : Seen) (bytes session : List ℕ) (P : List (List ℕ)) →
    SumsUp list seen → (explained : Explains session P (list ++ bytes ∷ []))
    → MayJoin seen (explained_last session P list bytes explained).packet
explained_joins list seen bytes session P sums explained =
    let said = explained_last session P list bytes explained in
    may_join seen said.packet session P (sums.allows session P (explained_front session P list bytes explained))
    said.named said.spelled.is_packet.body said.is_true

pub explained_before : (session : List ℕ) (P list more : List (List ℕ)) → Explains session P (list ++ more) →
    Explains session P list
explained_before session P list more explained =
    record {
      few = explained.few;
      each =
          subst (λ (t : List (List ℕ)). All (IsSaidBy session P) t) (take-append_seam list more)
          (All-take (IsSaidBy session P) (length list) (list ++ more) explained.each);
    }

sums_behind : ReadsBack → (list more : List (List ℕ)) (session : List ℕ) (P : List (List ℕ)) →
    SumsUp list (seen_of list) → Explains session P (list ++ more) → SumsUp (list ++ more) (seen_of (list ++ more))
sums_behind reads list [] session P sums explained =
    subst (λ (t : List (List ℕ)). SumsUp t (seen_of t)) (sym (append-nil list)) sums
sums_behind reads list (bytes ∷ more) session P sums explained =
    let regrouped : (list ++ bytes ∷ []) ++ more ≡ list ++ bytes ∷ more = append_assoc list (bytes ∷ []) more in
    let all = subst (λ (t : List (List ℕ)). Explains session P t) (sym regrouped) explained in
    let front = explained_before session P (list ++ bytes ∷ []) more all in
    let said = explained_last session P list bytes front in
    let first = sums_more reads list (seen_of list) bytes said.packet sums said.spelled
    (explained_joins list (seen_of list) bytes session P sums front)
    in
    let at = seen-push list bytes said.packet (reads said.packet bytes said.spelled) in
    subst (λ (t : List (List ℕ)). SumsUp t (seen_of t)) regrouped
    (sums_behind reads (list ++ bytes ∷ []) more session P
    (subst (λ (s : Seen). SumsUp (list ++ bytes ∷ []) s) (sym at) first) all)

pub sums_up : ReadsBack → (list : List (List ℕ)) → Consistent list → SumsUp list (seen_of list)
sums_up reads list consistent =
    sums_behind reads [] list consistent.0 consistent.1 sums_none consistent.2

pub some_session : (seen : Seen) (v : Packet) → MayJoin seen v → (name : List ℕ) →
    (joined seen v).session ≡ Some name → name ≡ v.session.0
some_session seen v may name is =
    elim (option_or_cases seen.session (Some v.session.0) name is) [
      | inl old ↦ sym (may.admitted.named name old)
      | inr new ↦ sym (same_Some v.session.0 name new.1)
    ]

-- A datagram that isn't refused keeps the list consistent.
pub accepted : ReadsBack → RuleLaw → (list : List (List ℕ)) (bytes : List ℕ) (v : Packet) → Consistent list → Spells v bytes →
    reason list bytes ≡ None → Consistent (list ++ bytes ∷ [])
accepted reads rule list bytes v consistent spelled none =
    let seen = seen_of list in
    let read = reads v bytes spelled in
    let may = joins_from rule seen v (sym (ap (refusal_read seen) read) ∙ none) in
    let sums = sums_more reads list seen bytes v (sums_up reads list consistent) spelled may in
    let allows = some_allowed (joined seen v) v.session.0 sums.sound (some_session seen v may) in
    (v.session.0, filled (joined seen v).pairs 1 ((joined seen v).known - 1), sums.explains _ _ allows)

-- A datagram that isn't refused is decoded as a packet.
pub read_or_refused : (list : List (List ℕ)) (bytes : List ℕ) → reason list bytes ≡ None →
    (v : Packet) × (reading bytes ≡ Ok v)
read_or_refused list bytes none =
    elim (reading bytes) as (λ r. refusal_read (seen_of list) r ≡ None → (v : Packet) × (r ≡ Ok v)) [
      | Ok v ↦ λ e. (v, refl)
      | Err error ↦ λ e. absurd (none-some _ (sym e))
    ] none

-- What is stated with one more datagram.
pub after_more : ReadsBack → (list : List (List ℕ)) (bytes : List ℕ) → Consistent (list ++ bytes ∷ []) →
    seen_of (list ++ bytes ∷ []) ≡ after (seen_of list) bytes
after_more reads list bytes (session, P, explained) =
    let said = explained_last session P list bytes explained in
    let read = reads said.packet bytes said.spelled in
    seen-push list bytes said.packet read ∙ sym (ap (joined_read (seen_of list)) read)

-- The empty list of datagrams is consistent.
pub none_consistent : Consistent []
none_consistent = ([], [], record { few = omega arith; each = All-nil (IsSaidBy [] []) })

-- A datagram isn't refused if the list with it is consistent.
pub not_refused : ReadsBack → RuleLaw → (list : List (List ℕ)) (bytes : List ℕ) → Consistent (list ++ bytes ∷ []) →
    reason list bytes ≡ None
not_refused reads rule list bytes (session, P, explained) =
    let seen = seen_of list in
    let said = explained_last session P list bytes explained in
    let sums = sums_up reads list (session, P, explained_front session P list bytes explained) in
    ap (refusal_read seen) (reads said.packet bytes said.spelled)
    ∙ joins_to rule seen said.packet (explained_joins list seen bytes session P sums explained)

pub front_consistent : (list more : List (List ℕ)) → Consistent (list ++ more) → Consistent list
front_consistent list more (session, P, explained) = (session, P, explained_before session P list more explained)

-- The end is one more than the number of messages of a session that explains the list.
pub end_at : ReadsBack → (session : List ℕ) (P list : List (List ℕ)) → Explains session P list → (number : ℕ) →
    HasEnd list number → number ≡ length P + 1
end_at reads session P list explained number has =
    let said = All-contains (IsSaidBy session P) list has.bytes explained.each has.member in
    let one : said.packet ≡ has.packet = one_packet reads said.packet has.packet has.bytes said.spelled has.spelled in
    let truth = subst (λ (u : Packet). IsTrueBody u.body u.sequence P true) one said.is_true.said in
    sym has.at ∙ (subst (λ (b : Body). IsTrueBody b has.packet.sequence P true) has.ended truth).1

-- A carried message is the message of every session that explains the list.
pub carried_at : ReadsBack → (session : List ℕ) (P list : List (List ℕ)) → Explains session P list → (q : ℕ) (m : List ℕ) →
    IsCarried list q m → published_at P q ≡ Some m
carried_at reads session P list explained q m is =
    let said = All-contains (IsSaidBy session P) list is.bytes explained.each is.member in
    let one : said.packet ≡ is.packet = one_packet reads said.packet is.packet is.bytes said.spelled is.spelled in
    true_carried said.packet.body said.packet.sequence P said.is_true.said q m
    (subst (λ (u : Packet). Carries u q m) (sym one) is.carried)

-- At most one list of messages makes datagrams whole.
pub one_whole : ReadsBack → (list P Q : List (List ℕ)) → Whole list P → Whole list Q → P ≡ Q
one_whole reads list P Q whole other =
    let first = end_at reads whole.session P list whole.explained whole.ended.0 whole.ended.1 in
    let second = end_at reads other.session Q list other.explained whole.ended.0 whole.ended.1 in
    same_lists P Q (omega arith) (λ k d within.
    let found = whole.carried (suc k) (omega arith) (omega arith) in
    let one = carried_at reads whole.session P list whole.explained (suc k) found.0 found.1 in
    let two = carried_at reads other.session Q list other.explained (suc k) found.0 found.1 in
    get_or_from_slice_get P k found.0 d (sym (published_in P k) ∙ one)
    ∙ sym (get_or_from_slice_get Q k found.0 d (sym (published_in Q k) ∙ two)))

-- If datagrams are whole, they have an end packet and carry every message below the end.
pub whole_received : ReadsBack → (list P : List (List ℕ)) → Whole list P → IsWholeSeen (seen_of list) (length P + 1)
whole_received reads list P whole =
    let session = whole.session in
    let has = whole.ended.1 in
    let sums = sums_up reads list (session, P, whole.explained) in
    let allows = sums.allows session P whole.explained in
    let end = end_found reads session P list whole.explained.each has.bytes has.packet has.member has.spelled has.ended in
    record {
      ended = end.1 ∙ ap (λ (n : ℕ). Some n) (allows.ended end.0 end.1);
      carried = λ k low high.
          let found = whole.carried k low (omega arith) in
          carried_get reads session P list whole.explained.each k found.0 found.1.bytes found.1.packet found.1.member
          found.1.spelled found.1.carried;
    }

-- If datagrams have an end packet and carry every message below the end, they are whole.
pub received_whole : ReadsBack → (list : List (List ℕ)) → Consistent list → (count : ℕ) →
    IsWholeSeen (seen_of list) (count + 1) → (P : List (List ℕ)) × (Whole list P × (length P ≡ count))
received_whole reads list (session, P, explained) count received =
    let sums = sums_up reads list (session, P, explained) in
    let length_is : count + 1 ≡ length P + 1 = (sums.allows session P explained).ended (count + 1) received.ended in
    let whole : Whole list P = record {
      session = session;
      explained = explained;
      ended = (count + 1, end_told reads session P list explained.each (count + 1) received.ended);
      carried = λ q low high.
          let found = received.carried q low (omega arith) in
          (found.0, get_carried reads session P list explained.each q found.0 found.1);
    }
    in
    (P, (whole, omega arith))
