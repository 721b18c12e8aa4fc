-- The laws of the definitions.
use Rattle.std.proofs.Common.{◌≡◌, ℕ, zero, suc, ◌+◌, ◌-◌, ◌<◌, ◌≤◌, ◌^◌, ◌⊎◌, max, min, Bool, true, not, cond, eqb}
use Rattle.std.proofs.Common.{get_or, [], ltb, ◌&&◌, List, refl, sym, ap, subst, ◌∙◌, inl, inr, arith}
use Rattle.std.specs.Prelude.{Option, None, Some, Result, Ok, Err, is_some, slice_get}
use Rattle.std.specs.FinMap as finite
use Rattle.std.specs.Option.{option_or}
use Rattle.std.specs.Str.{bytes_eq}
use Rattle.std.proofs.lemmas.Bool.{cases_eq, cases_lt, cases_Bool, cond-true, cond-false, lt-ltb, ltb-true, eq-eqb}
use Rattle.std.proofs.lemmas.Bool.{ne_eqb, and_parts}
use Rattle.std.proofs.lemmas.Option.{slice_get-get_or}
use Rattle.std.proofs.lemmas.Slice.Eq.{bytes_eq-Decides}
use Rattle.mold_wire.specs.Packet.{messages_of, top_of}
use Rattle.mold_wire.specs.Truth.{Carries, message_at}
use Rattle.mold_wire.specs.Reading.{reading}
use Rattle.mold_wire.specs.declared.packet.Packet.{Packet}
use Rattle.mold_wire.specs.declared.request.Request.{Request}
use Rattle.mold_wire.specs.declared.session.Session.{Session}
use Rattle.mold_rule.specs.declared.refusal.Refusal.{Refusal}
use Rattle.mold_rule.specs.declared.refusal.Refusal.TheVariants.{WrongSession}
use Rattle.mold_receiver.specs.Receive.{IsTakenPacket, Reception, decide, handed_on, receive, receive_read}
use Rattle.mold_receiver.specs.Receive.{reception, refusal, undropped, view_after}
use Rattle.mold_rule.specs.Refusals.{past_last, wrong_session}
use Rattle.mold_receiver.specs.Store.{Message, Store, available, cut}
use Rattle.mold_receiver.specs.View.{View, IsWellFormed}
use Rattle.mold_receiver.specs.Wanted.{IsGap, gap_end, lacking_run, wanted}
use Rattle.mold_receiver.proofs.RuleLemmas.{available_cases, available_from, none_unless, message_bounds}
use Rattle.mold_receiver.proofs.RoomLemmas.{undropped_is}
use Rattle.mold_receiver.proofs.RuleLemmas.{message_within}
use Rattle.mold_receiver.proofs.StoreLemmas.{get-cut, none_some, run_reads, run_ends}
use Rattle.mold_receiver.proofs.RefusalLemmas.{each_none}
use Rattle.mold_receiver.proofs.WantedLemmas.{lacking_short, lacking_long, lacking_ends}

pub some_same : {X : Type 0} {x y : X} → ◌≡◌ {A = Option X} (Some x) (Some y) → x ≡ y
some_same e = cc

same_ok : {x y : Reception} → ◌≡◌ {A = Result Reception Refusal} (Ok x) (Ok y) → x ≡ y
same_ok e = cc

err_ok : {x : Refusal} {y : Reception} → ◌≡◌ {A = Result Reception Refusal} (Err x) (Ok y) → ⊥
err_ok e = cc

-- No number at or above both `known` and the packet's top is available.
past_known : (v : View) (p : Packet) → IsWellFormed v →
    finite.get (available v.store v.next p.sequence (messages_of p.body))
    (v.next + (max v.known (top_of p) - v.next)) ≡ None
past_known v p well =
    let q = v.next + (max v.known (top_of p) - v.next) in
    none_unless (finite.get (available v.store v.next p.sequence (messages_of p.body)) q) (λ m is.
    elim (available_cases v.store v.next p.sequence (messages_of p.body) q m is) [
      | inl carried ↦
          (let bounds = message_bounds p.sequence (messages_of p.body) q m carried.1 in omega
          (arith, bounds.1, well.ahead))
      | inr had ↦ (let lies = well.stored q m had in omega (arith, lies.2, well.ahead))
    ])

pub next_lacks : (v : View) (p : Packet) → IsWellFormed v →
    finite.get (available v.store v.next p.sequence (messages_of p.body)) (view_after v p).next ≡ None
next_lacks v p well =
    run_ends (finite.get (available v.store v.next p.sequence (messages_of p.body))) v.next
    (max v.known (top_of p) - v.next) (past_known v p well)

pub handed_reads : (v : View) (p : Packet) (i : ℕ) (m : Message) →
    slice_get (handed_on v p.sequence (messages_of p.body)) i ≡ Some m
    → finite.get (available v.store v.next p.sequence (messages_of p.body)) (v.next + i) ≡ Some m
handed_reads v p i m is =
    run_reads (finite.get (available v.store v.next p.sequence (messages_of p.body))) v.next
    (max v.known (top_of p) - v.next) i m is

had_or_carried : (v : View) (p : Packet) (q : ℕ) (m : Message) →
    finite.get (available v.store v.next p.sequence (messages_of p.body)) q ≡ Some m
    → (finite.get v.store q ≡ Some m) ⊎ (Carries p q m)
had_or_carried v p q m is =
    elim (available_cases v.store v.next p.sequence (messages_of p.body) q m is) [
      | inl carried ↦ inr carried.1
      | inr had ↦ inl had
    ]

pub handed_had : (v : View) (p : Packet) (i : ℕ) (m : Message) →
    slice_get (handed_on v p.sequence (messages_of p.body)) i ≡ Some m
    → (finite.get v.store (v.next + i) ≡ Some m) ⊎ (Carries p (v.next + i) m)
handed_had v p i m is = had_or_carried v p (v.next + i) m (handed_reads v p i m is)

pub cut_had : (s : Store) (next window q : ℕ) (m : Message) → finite.get (cut s next window) q ≡ Some m →
    (finite.get s q ≡ Some m) × (next < q) × (q < next + window)
cut_had s next window q m is =
    let limit = ltb next q && ltb q (next + window) in
    elim (cases_Bool limit) [
      | inl inside ↦
          let parts = and_parts (ltb next q) (ltb q (next + window)) inside in (
            sym (cond-true limit (finite.get s q) None inside) ∙ sym (get-cut s next window q)
                ∙ is,
            ltb-true next q parts.0,
            ltb-true q (next + window) parts.1,
          )
      | inr out ↦ absurd (none_some (sym (get-cut s next window q ∙ cond-false limit _ _ out) ∙ is))
    ]

pub stored_had : (v : View) (p : Packet) (q : ℕ) (m : Message) → finite.get (view_after v p).store q ≡ Some m
    → (finite.get v.store q ≡ Some m) ⊎ (Carries p q m)
stored_had v p q m is =
    elim (available_cases v.store v.next p.sequence (undropped v p) q m
    (cut_had (available v.store v.next p.sequence (undropped v p)) (view_after v p).next v.window q m is).0) [
      | inl carried ↦ inr (undropped_is v p q m carried.1)
      | inr had ↦ inl had
    ]

own_session : (session : Session) (p : Packet) → wrong_session (Some session.0) p.session.0 ≡ None →
    p.session ≡ session
own_session session p none =
    elim (cases_Bool (bytes_eq p.session.0 session.0)) [
      | inl same ↦ (let e = (bytes_eq-Decides p.session.0 session.0).0 same in λ i. record { 0 = e i })
      | inr other ↦
          absurd (none_some (sym none ∙ ap (λ (b : Bool). cond (not b) (Some WrongSession) None) other))
    ]

taken_packet : (v : View) (bytes : List ℕ) (p : Packet) (r : Reception) → reading bytes ≡ Ok p →
    decide (refusal v p) (reception v p) ≡ Ok r → IsTakenPacket v bytes r
taken_packet v bytes p r read is =
    elim (refusal v p) as (λ o. refusal v p ≡ o → decide o (reception v p) ≡ Ok r →
    IsTakenPacket v bytes r) [
      | None ↦ λ e is. record {
        packet = p;
        read = read;
        session = own_session v.session p (each_none v p e).0;
        accepted = e;
        taken = same_ok (sym is);
      }
      | Some x ↦ λ e is. absurd (err_ok is)
    ] refl is

pub is_taken : (v : View) (bytes : List ℕ) (r : Reception) → receive v bytes ≡ Ok r → IsTakenPacket v bytes r
is_taken v bytes r is =
    elim (reading bytes) as (λ o. reading bytes ≡ o → receive_read v o ≡ Ok r → IsTakenPacket v bytes r) [
      | Ok p ↦ λ e is. taken_packet v bytes p r e is
      | Err x ↦ λ e is. absurd (err_ok is)
    ] refl is

pub not_past : (p : Packet) → past_last p ≡ None → top_of p < 2 ^ 64
not_past p none =
    elim (cases_lt 18446744073709551615 (top_of p)) [
      | inl past ↦ absurd
          (none_some (sym none
          ∙ cond-true (ltb 18446744073709551615 (top_of p)) _ _ (lt-ltb 18446744073709551615 (top_of p) past)))
      | inr within ↦ omega arith
    ]

-- A packet that begins at or below `next` is delivered to its end.
pub goes_through : (v : View) (p : Packet) → IsWellFormed v → p.sequence ≤ v.next → top_of p ≤ (view_after v p).next
goes_through v p well begun =
    let new = (view_after v p).next in
    let ms = messages_of p.body in
    elim (cases_lt new (top_of p)) [
      | inr high ↦ high
      | inl short ↦
          let there : message_at p.sequence ms new ≡ Some (get_or ms (new - p.sequence) []) =
          message_within p.sequence ms new (omega (arith, begun))
          ∙ slice_get-get_or ms (new - p.sequence) [] (omega (arith, short, begun))
          in
          absurd (none_some (sym (next_lacks v p well) ∙ available_from v.store v.next p.sequence ms new (omega arith)
          ∙ ap (λ (o : Option Message). option_or o (finite.get v.store new)) there))
    ]

-- The request that is wanted.
ask : View → Request
ask v = record { session = v.session; sequence = v.next; count = min 65534 (gap_end v - v.next) }

pub wanted_none : (v : View) → wanted v ≡ None → v.next ≡ v.known
wanted_none v is =
    elim (cases_eq v.next v.known) [
      | inl same ↦ same
      | inr other ↦ absurd (none_some (sym is ∙ cond-false (eqb v.next v.known) None _ (ne_eqb v.next v.known other)))
    ]

pub wanted_lacks : (v : View) (r : Request) → wanted v ≡ Some r → v.next ≡ v.known → ⊥
wanted_lacks v r is same = none_some (sym (cond-true (eqb v.next v.known) None _ (eq-eqb v.next v.known same)) ∙ is)

pub wanted_is : (v : View) (r : Request) → wanted v ≡ Some r →
    (r.session ≡ v.session) × (r.sequence ≡ v.next) × (r.count ≡ min 65534 (gap_end v - v.next))
wanted_is v r is =
    let asked = some_same (sym (cond-false (eqb v.next v.known) None _ (ne_eqb v.next v.known (wanted_lacks v r is)))
    ∙ is) in (
      ap (λ (q : Request). q.session) (sym asked),
      ap (λ (q : Request). q.sequence) (sym asked),
      ap (λ (q : Request). q.count) (sym asked),
    )

-- The gap ends at a stored message or at `known`.
gap_stops : (look : ℕ → Option Message) (number most : ℕ) →
    (lacking_run look number most ≡ most) ⊎ (is_some (look (number + lacking_run look number most)) ≡ true)
unfolding lacking_run
gap_stops look number zero = inl refl
gap_stops look number (suc most) =
    let here : number ≡ number + 0 = omega arith in
    let at : suc number + lacking_run look (suc number) most ≡ number + suc (lacking_run look (suc number) most) =
    omega arith in
    elim (look number) as (λ o. look number ≡ o →
    (cond (is_some o) 0 (suc (lacking_run look (suc number) most)) ≡ suc most) ⊎
    (is_some (look (number + cond (is_some o) 0 (suc (lacking_run look (suc number) most)))) ≡ true)) [
      | None ↦ λ e. elim (gap_stops look (suc number) most) [
        | inl whole ↦ inl (ap suc whole)
        | inr some ↦ inr (subst (λ (n : ℕ). is_some (look n) ≡ true) at some)
      ]
      | Some m ↦ λ e. inr (subst (λ (n : ℕ). is_some (look n) ≡ true) here (ap is_some e))
    ] refl

gap_lacks : (look : ℕ → Option Message) (number most i : ℕ) → i < lacking_run look number most →
    look (number + i) ≡ None
gap_lacks look number most i below =
    none_unless (look (number + i))
    (λ m is. omega (
      arith,
      below,
      lacking_ends look number most i (omega (arith, below, lacking_short look number most)) (ap is_some is),
    ))

pub gap_is : (v : View) (r : Request) → IsWellFormed v → wanted v ≡ Some r → IsGap v (gap_end v)
gap_is v r well is =
    let look = finite.get v.store in
    let short = lacking_short look v.next (v.known - v.next) in
    let long = lacking_long look v.next (v.known - v.next) 1 (omega (arith, well.ahead, wanted_lacks v r is))
    (λ i below.
    none_unless (look (v.next + i))
    (λ m had. let lies = well.stored (v.next + i) m had in omega (arith, below, lies.0)))
    in
    record {
      after = omega (arith, long);
      within = omega (arith, short, well.ahead);
      lacked = λ q below.
          elim (cases_lt q v.next) [
            | inl low ↦ none_unless (look q) (λ m had. let lies = well.stored q m had in omega (arith, low, lies.0))
            | inr high ↦
                let at : v.next + (q - v.next) ≡ q = omega arith in
                subst (λ (n : ℕ). look n ≡ None) at
                (gap_lacks look v.next (v.known - v.next) (q - v.next) (omega (arith, below, high)))
          ];
      stops = elim (gap_stops look v.next (v.known - v.next)) [
        | inl whole ↦ inl (omega (arith, whole, well.ahead))
        | inr some ↦ inr some
      ];
    }
