-- Which sessions agree with what datagrams state, and how a further packet changes that.
use Rattle.std.proofs.Common.{◌≡◌, ℕ, zero, suc, ◌+◌, ◌-◌, ◌<◌, ◌≤◌, true, List, [], ◌∷◌, length, refl, sym, ap, subst}
use Rattle.std.proofs.Common.{◌∙◌, inl, inr, get_or, arith}
use Rattle.std.specs.Prelude.{Option, Some, slice_get, unwrap_or}
use Rattle.std.specs.FinMap as finite
use Rattle.std.proofs.lemmas.Option.{none-some, same_Some}
use Rattle.mold_wire.specs.Packet.{IsBody, messages_of, top_of}
use Rattle.mold_wire.specs.Truth.{message_at, published_at, Carries, IsTrueBody, IsTruePacket}
use Rattle.mold_wire.specs.declared.packet.Packet.{Packet}
use Rattle.mold_wire.specs.declared.packet.Body.{Body}
use Rattle.mold_wire.specs.declared.packet.Body.TheVariants.{Data, Heartbeat, End}
use Rattle.mold_wire.specs.declared.session.Session.{Session}
use Rattle.mold_rule.specs.Refusals.{IsAdmitted}
use Rattle.mold_capture.specs.Seen.{Pairs, Seen, end_in, joined, IsSound}
use Rattle.mold_capture.proofs.PairLemmas.{option_cases, option_or_cases, option_or_first, option_or_second}
use Rattle.mold_capture.proofs.PairLemmas.{message_bounds, message_there, message_none, message_within, get-with}

-- A session with this name and these messages agrees with what is stated.
pub record Allows (seen : Seen) (session : List ℕ) (P : List (List ℕ)) : Type 0 where
  pub few : length P < 18446744073709551615
  pub named : (name : List ℕ) → seen.session ≡ Some name → name ≡ session
  pub known : seen.known ≤ length P + 1
  pub ended : (number : ℕ) → seen.ended ≡ Some number → number ≡ length P + 1
  pub carried : (q : ℕ) (m : List ℕ) → finite.get seen.pairs q ≡ Some m → published_at P q ≡ Some m

-- The packet's header contradicts nothing, and its messages equal the carried messages with their numbers.
pub record MayJoin (seen : Seen) (packet : Packet) : Type 0 where
  pub admitted : IsAdmitted seen.session seen.known seen.ended packet
  pub agrees : (q : ℕ) (m other : List ℕ) → Carries packet q m → finite.get seen.pairs q ≡ Some other → other ≡ m

-- A packet, from its parts.
abbrev pub made : Session → ℕ → Body → Packet
made session sequence body = record { session = session; sequence = sequence; body = body }

true_first : (body : Body) (n : ℕ) (P : List (List ℕ)) → IsTrueBody body n P true → 1 ≤ n
true_first (Data ms) n P said = said.0
true_first Heartbeat n P said = said.0
true_first End n P said = omega (arith, said.1)

pub true_carried : (body : Body) (n : ℕ) (P : List (List ℕ)) → IsTrueBody body n P true → (q : ℕ) (m : List ℕ) →
    message_at n (messages_of body) q ≡ Some m → published_at P q ≡ Some m
true_carried (Data ms) n P said q m is = said.1 q m is
true_carried Heartbeat n P said q m is = absurd (none-some m (sym (message_none n q) ∙ is))
true_carried End n P said q m is = absurd (none-some m (sym (message_none n q) ∙ is))

true_top : (body : Body) (n : ℕ) (P : List (List ℕ)) → IsBody body → IsTrueBody body n P true →
    n + length (messages_of body) ≤ length P + 1
true_top (Data ms) n P is_body said =
    let last : ℕ = n + length ms - 1 in
    let there = message_there n ms last (omega (arith, is_body.0)) (omega (arith, is_body.0)) in
    let bounds = message_bounds 1 P last (get_or ms (last - n) []) (said.1 last (get_or ms (last - n) []) there) in
    omega (arith, bounds.1, said.0)
true_top Heartbeat n P is_body said = omega (arith, said.1)
true_top End n P is_body said = omega (arith, said.1)

true_end : (body : Body) (n : ℕ) (P : List (List ℕ)) → IsTrueBody body n P true → body ≡ End → n ≡ length P + 1
true_end body n P said end = (subst (λ (b : Body). IsTrueBody b n P true) end said).1

pub end_is : (body : Body) (n number : ℕ) → end_in body n ≡ Some number → (body ≡ End) × (n ≡ number)
end_is (Data ms) n number is = absurd (none-some number is)
end_is Heartbeat n number is = absurd (none-some number is)
end_is End n number is = (refl, same_Some n number is)

-- A packet may join if it is true of a session that agrees with what is stated.
pub may_join : (seen : Seen) (packet : Packet) (session : List ℕ) (P : List (List ℕ)) → Allows seen session P →
    packet.session.0 ≡ session → IsBody packet.body → IsTruePacket packet P true → MayJoin seen packet
may_join seen packet session P allows named is_body truth =
    let n = packet.sequence in
    let top = true_top packet.body n P is_body truth.said in
    record {
      admitted = record {
        named = λ name is. named ∙ sym (allows.named name is);
        first = true_first packet.body n P truth.said;
        last = omega (arith, top, allows.few);
        same_end = λ end number is. true_end packet.body n P truth.said end ∙ sym (allows.ended number is);
        above = λ end. omega (arith, true_end packet.body n P truth.said end, allows.known);
        within = λ number is. omega (arith, top, allows.ended number is);
      };
      agrees = λ q m other carried is.
          same_Some other m
          (sym (allows.carried q other is) ∙ true_carried packet.body n P truth.said q m carried);
    }

pub still_allowed : (seen : Seen) (packet : Packet) (session : List ℕ) (P : List (List ℕ)) → Allows seen session P →
    packet.session.0 ≡ session → IsBody packet.body → IsTruePacket packet P true → Allows (joined seen packet) session P
still_allowed seen packet session P allows named is_body truth =
    let n = packet.sequence in
    record {
      few = allows.few;
      named = λ name is.
          elim (option_or_cases seen.session (Some packet.session.0) name is) [
            | inl old ↦ allows.named name old
            | inr new ↦ sym (same_Some packet.session.0 name new.1) ∙ named
          ];
      known = omega (arith, allows.known, true_top packet.body n P is_body truth.said);
      ended = λ number is.
          elim (option_or_cases seen.ended (end_in packet.body n) number is) [
            | inl old ↦ allows.ended number old
            | inr new ↦
                let told = end_is packet.body n number new.1 in
                sym told.1 ∙ true_end packet.body n P truth.said told.0
          ];
      carried = λ q m is.
          elim (option_or_cases (finite.get seen.pairs q) (message_at n (messages_of packet.body) q) m
          (sym (get-with seen.pairs n (messages_of packet.body) q) ∙ is)) [
            | inl old ↦ allows.carried q m old
            | inr new ↦ true_carried packet.body n P truth.said q m new.1
          ];
    }

pub was_allowed : (seen : Seen) (packet : Packet) (session : List ℕ) (P : List (List ℕ)) →
    Allows (joined seen packet) session P → Allows seen session P
was_allowed seen packet session P allows =
    record {
      few = allows.few;
      named = λ name is. allows.named name (option_or_first seen.session (Some packet.session.0) name is);
      known = omega (arith, allows.known);
      ended = λ number is.
          allows.ended number (option_or_first seen.ended (end_in packet.body packet.sequence) number is);
      carried = λ q m is.
          allows.carried q m
          (get-with seen.pairs packet.sequence (messages_of packet.body) q
          ∙ option_or_first (finite.get seen.pairs q) (message_at packet.sequence (messages_of packet.body) q) m is);
    }

pub was_named : (seen : Seen) (packet : Packet) (session : List ℕ) (P : List (List ℕ)) → MayJoin seen packet →
    Allows (joined seen packet) session P → packet.session.0 ≡ session
was_named seen packet session P may allows =
    elim (option_cases seen.session) [
      | inl none ↦ allows.named packet.session.0 (option_or_second seen.session (Some packet.session.0) none)
      | inr found ↦
          may.admitted.named found.0 found.1
          ∙ allows.named found.0 (option_or_first seen.session (Some packet.session.0) found.0 found.1)
    ]

was_said : (seen : Seen) (s : Session) (n : ℕ) (body : Body) (session : List ℕ) (P : List (List ℕ)) →
    MayJoin seen (made s n body) → Allows (joined seen (made s n body)) session P → IsTrueBody body n P true
was_said seen s n (Data ms) session P may allows = (
  may.admitted.first,
  λ q m is.
      elim (option_cases (finite.get seen.pairs q)) [
        | inl none ↦
            allows.carried q m
            (get-with seen.pairs n ms q ∙ option_or_second (finite.get seen.pairs q) (message_at n ms q) none ∙ is)
        | inr found ↦
            allows.carried q m
            (get-with seen.pairs n ms q
            ∙ option_or_first (finite.get seen.pairs q) (message_at n ms q) m
            (found.1 ∙ ap (λ (x : List ℕ). Some x) (may.agrees q m found.0 is found.1)))
      ],
)
was_said seen s n Heartbeat session P may allows = (may.admitted.first, omega (arith, allows.known))
was_said seen s n End session P may allows = (
  refl,
  elim (option_cases seen.ended) [
    | inl none ↦ allows.ended n (option_or_second seen.ended (Some n) none)
    | inr found ↦
        may.admitted.same_end refl found.0 found.1
        ∙ allows.ended found.0 (option_or_first seen.ended (Some n) found.0 found.1)
  ],
)

-- If a session agrees with what is stated after the packet, then the packet is true of the session.
pub was_true : (seen : Seen) (packet : Packet) (session : List ℕ) (P : List (List ℕ)) → MayJoin seen packet →
    Allows (joined seen packet) session P → IsTruePacket packet P true
was_true seen packet session P may allows =
    record {
      few = allows.few;
      said = was_said seen packet.session packet.sequence packet.body session P may allows;
    }

end_top : (packet : Packet) → packet.body ≡ End → top_of packet ≡ packet.sequence
end_top packet end =
    let none : length (messages_of packet.body) ≡ 0 = ap (λ (b : Body). length (messages_of b)) end in
    omega (arith, none)

pub still_sound : (seen : Seen) (packet : Packet) → IsSound seen → MayJoin seen packet → IsSound (joined seen packet)
still_sound seen packet sound may =
    record {
      first = omega (arith, sound.first);
      last = omega (arith, sound.last, may.admitted.last);
      ended = λ number is.
          elim (option_or_cases seen.ended (end_in packet.body packet.sequence) number is) [
            | inl old ↦ omega (arith, sound.ended number old, may.admitted.within number old)
            | inr new ↦
                let told = end_is packet.body packet.sequence number new.1 in
                omega (arith, told.1, end_top packet told.0, may.admitted.above told.0)
          ];
      carried = λ q m is.
          elim (option_or_cases (finite.get seen.pairs q) (message_at packet.sequence (messages_of packet.body) q) m
          (sym (get-with seen.pairs packet.sequence (messages_of packet.body) q) ∙ is)) [
            | inl old ↦ (let lies = sound.carried q m old in (lies.0, omega (arith, lies.1)))
            | inr new ↦
                let lies = message_bounds packet.sequence (messages_of packet.body) q m new.1 in
                (omega (arith, lies.0, may.admitted.first), omega (arith, lies.1))
          ];
    }

-- The carried messages from a number on, with an empty message for each missing one.
abbrev pub filled : Pairs → ℕ → ℕ → List (List ℕ)
filled pairs number zero = []
filled pairs number (suc more) = unwrap_or (finite.get pairs number) [] ∷ filled pairs (suc number) more

pub length-filled : (pairs : Pairs) (number more : ℕ) → length (filled pairs number more) ≡ more
length-filled pairs number zero = refl
length-filled pairs number (suc more) = ap suc (length-filled pairs (suc number) more)

filled_at : (pairs : Pairs) (number more i : ℕ) → i < more →
    slice_get (filled pairs number more) i ≡ Some (unwrap_or (finite.get pairs (number + i)) [])
filled_at pairs number zero i within = absurd (omega arith)
filled_at pairs number (suc more) zero within =
    let here : number ≡ number + 0 = omega arith in
    ap (λ (q : ℕ). Some (unwrap_or (finite.get pairs q) [])) here
filled_at pairs number (suc more) (suc i) within =
    let there : suc number + i ≡ number + suc i = omega arith in
    filled_at pairs (suc number) more i (omega arith)
    ∙ ap (λ (q : ℕ). Some (unwrap_or (finite.get pairs q) [])) there

pub filled_published : (pairs : Pairs) (more q : ℕ) (m : List ℕ) → 1 ≤ q → q < suc more →
    finite.get pairs q ≡ Some m → published_at (filled pairs 1 more) q ≡ Some m
filled_published pairs more q m low high is =
    let at : 1 + (q - 1) ≡ q = omega arith in
    message_within 1 (filled pairs 1 more) q low
    ∙ filled_at pairs 1 more (q - 1) (omega arith)
    ∙ ap (λ (k : ℕ). Some (unwrap_or (finite.get pairs k) [])) at
    ∙ ap (λ (o : Option (List ℕ)). Some (unwrap_or o [])) is

-- What fits together is stated by some session: the one with the carried messages.
pub some_allowed : (seen : Seen) (session : List ℕ) → IsSound seen →
    ((name : List ℕ) → seen.session ≡ Some name → name ≡ session)
    → Allows seen session (filled seen.pairs 1 (seen.known - 1))
some_allowed seen session sound named =
    let count = length-filled seen.pairs 1 (seen.known - 1) in
    record {
      few = omega (arith, count, sound.first, sound.last);
      named = named;
      known = omega (arith, count, sound.first);
      ended = λ number is. omega (arith, count, sound.first, sound.ended number is);
      carried = λ q m is.
          let lies = sound.carried q m is in
          filled_published seen.pairs (seen.known - 1) q m lies.0 (omega (arith, lies.1)) is;
    }
