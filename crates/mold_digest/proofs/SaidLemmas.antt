-- A session that explains datagrams explains the digested datagrams once its messages are digested too.
use Rattle.std.proofs.Common.{◌≡◌, ℕ, ◌-◌, Bool, true, false, cond, List, map}
use Rattle.std.proofs.Common.{refl, sym, ap, ◌∙◌, arith}
use Rattle.std.specs.Prelude.{Option, None, Some, nat_le, slice_get}
use Rattle.std.specs.List.{Contains}
use Rattle.std.specs.Option.{option_map}
use Rattle.std.proofs.lemmas.List.{get_or-map, length-map}
use Rattle.std.proofs.lemmas.List.Elements.{All-map, All-weaker}
use Rattle.std.proofs.lemmas.Option.{none-some, same_Some, slice_get-map}
use Rattle.mold_wire.specs.Packet.{messages_of}
use Rattle.mold_wire.specs.Truth.{message_at, IsTrueBody}
use Rattle.mold_wire.specs.declared.packet.Body.{Body}
use Rattle.mold_wire.specs.declared.packet.Body.TheVariants.{Data, Heartbeat, End}
use Rattle.mold_capture.specs.Consistent.{Consistent, Explains, HasEnd, IsCarried, IsSaidBy, Whole}
use Rattle.mold_digest.specs.Key.{digest}
use Rattle.mold_digest.specs.Digested.{digested, digested_body, digested_list, digested_packet, digests}
use Rattle.mold_digest.proofs.DigestedLemmas.{ReadsBack, digested_spelled}

cond_map : {X Y : Type 0} (f : X → Y) (b : Bool) (here : Option X) (other : Option Y) →
    other ≡ option_map f here → cond b other None ≡ option_map f (cond b here None)
cond_map f true here other is = is
cond_map f false here other is = refl

pub message_at-map : (f : List ℕ → List ℕ) (n : ℕ) (ms : List (List ℕ)) (q : ℕ) →
    message_at n (map f ms) q ≡ option_map f (message_at n ms q)
message_at-map f n ms q =
    cond_map f (nat_le n q) (slice_get ms (q - n)) (slice_get (map f ms) (q - n)) (slice_get-map f ms (q - n))

pub mapped_some : {X Y : Type 0} (f : X → Y) (o : Option X) (y : Y) → option_map f o ≡ Some y →
    (x : X) × ((o ≡ Some x) × (f x ≡ y))
mapped_some f None y is = absurd (none-some y is)
mapped_some f (Some x) y is = (x, (refl, same_Some (f x) y is))

pub messages_digested : (key : List ℕ) (body : Body) →
    messages_of (digested_body key body) ≡ digests key (messages_of body)
messages_digested key (Data ms) = refl
messages_digested key Heartbeat = refl
messages_digested key End = refl

true_digested : (key : List ℕ) (body : Body) (n : ℕ) (P : List (List ℕ)) → IsTrueBody body n P true →
    IsTrueBody (digested_body key body) n (digests key P) true
true_digested key (Data ms) n P said = (
  said.0,
  λ q m is.
      let found = mapped_some (digest key) (message_at n ms q) m (sym (message_at-map (digest key) n ms q) ∙ is) in
      message_at-map (digest key) 1 P q ∙ ap (option_map (digest key)) (said.1 q found.0 found.1.0)
      ∙ ap Some found.1.1,
)
true_digested key Heartbeat n P said = (said.0, omega (arith, said.1, length-map P (digest key)))
true_digested key End n P said = (said.0, omega (arith, said.1, length-map P (digest key)))

pub said_digested : ReadsBack → (key session : List ℕ) (P : List (List ℕ)) (bytes : List ℕ) →
    IsSaidBy session P bytes → IsSaidBy session (digests key P) (digested key bytes)
said_digested reads key session P bytes said = record {
  packet = digested_packet key said.packet;
  spelled = digested_spelled reads key bytes said.packet said.spelled;
  named = said.named;
  is_true = record {
    few = omega (arith, said.is_true.few, length-map P (digest key));
    said = true_digested key said.packet.body said.packet.sequence P said.is_true.said;
  };
}

explains_digested : ReadsBack → (key session : List ℕ) (P list : List (List ℕ)) → Explains session P list →
    Explains session (digests key P) (digested_list key list)
explains_digested reads key session P list explains = record {
  few = omega (arith, explains.few, length-map P (digest key));
  each =
      All-map (IsSaidBy session (digests key P)) (digested key) list
      (All-weaker (IsSaidBy session P) (λ bytes. IsSaidBy session (digests key P) (digested key bytes))
      (said_digested reads key session P) list explains.each);
}

-- The digested datagrams of consistent datagrams are consistent.
pub consistent_digested : ReadsBack → (key : List ℕ) (list : List (List ℕ)) → Consistent list →
    Consistent (digested_list key list)
consistent_digested reads key list consistent =
    let session = consistent.0 in
    let P = consistent.1 in
    (session, digests key P, explains_digested reads key session P list consistent.2)

contains_mapped : {X Y : Type 0} (f : X → Y) (xs : List X) (x : X) → Contains xs x → Contains (map f xs) (f x)
contains_mapped f xs x (k, lt, is) =
    (k, omega (arith, lt, length-map xs f), get_or-map f xs k x (f x) lt ∙ ap f is)

end_digested : ReadsBack → (key : List ℕ) (list : List (List ℕ)) (number : ℕ) → HasEnd list number →
    HasEnd (digested_list key list) number
end_digested reads key list number has = record {
  bytes = digested key has.bytes;
  packet = digested_packet key has.packet;
  member = contains_mapped (digested key) list has.bytes has.member;
  spelled = digested_spelled reads key has.bytes has.packet has.spelled;
  ended = ap (digested_body key) has.ended;
  at = has.at;
}

carried_digested : ReadsBack → (key : List ℕ) (list : List (List ℕ)) (number : ℕ) (message : List ℕ) →
    IsCarried list number message → IsCarried (digested_list key list) number (digest key message)
carried_digested reads key list number message is =
    let packet = is.packet in
    record {
      bytes = digested key is.bytes;
      packet = digested_packet key packet;
      member = contains_mapped (digested key) list is.bytes is.member;
      spelled = digested_spelled reads key is.bytes packet is.spelled;
      carried =
          ap (λ (ms : List (List ℕ)). message_at packet.sequence ms number) (messages_digested key packet.body)
          ∙ message_at-map (digest key) packet.sequence (messages_of packet.body) number
          ∙ ap (option_map (digest key)) is.carried;
    }

-- The digested datagrams of whole datagrams are whole, with the digests of the messages.
pub whole_digested : ReadsBack → (key : List ℕ) (list P : List (List ℕ)) → Whole list P →
    Whole (digested_list key list) (digests key P)
whole_digested reads key list P is = record {
  session = is.session;
  explained = explains_digested reads key is.session P list is.explained;
  ended = (is.ended.0, end_digested reads key list is.ended.0 is.ended.1);
  carried = λ number low high.
      let found = is.carried number low (omega (arith, high, length-map P (digest key))) in
      (digest key found.0, carried_digested reads key list number found.0 found.1);
}
