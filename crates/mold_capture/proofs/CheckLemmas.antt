-- What a check of a list returns.
use Rattle.std.proofs.Common.{◌≡◌, ℕ, ◌+◌, ◌<◌, ◌≤◌, List, [], ◌∷◌, ◌++◌, length, take, get_or, refl, sym, ap, subst, ◌∙◌, arith}
use Rattle.std.proofs.Common.{Bor, map, zero, suc}
use Rattle.std.proofs.lemmas.List.{take_more, take_all}
use Rattle.std.specs.Prelude.{None, Some}
use Rattle.std.proofs.lemmas.Option.{none-some}
use Rattle.mold_wire.specs.Packet.{Spells}
use Rattle.mold_wire.specs.declared.packet.Packet.{Packet}
use Rattle.mold_rule.specs.declared.refusal.Refusal.{Refusal}
use Rattle.mold_rule.specs.declared.refusal.Refusal.TheVariants.{Malformed, WrongSession, SequenceZero, PastLast}
use Rattle.mold_rule.specs.declared.refusal.Refusal.TheVariants.{EndConflict, EndBelow, PastEnd, Conflict, Memory}
use Rattle.mold_capture.specs.declared.verdict.Verdict.{Verdict}
use Rattle.mold_capture.specs.declared.verdict.Verdict.TheVariants.{Whole as IsWhole, Incomplete}
use Rattle.mold_capture.specs.Check.{IsRefusedAt}
use Rattle.mold_capture.specs.Consistent.{Consistent}
use Rattle.mold_capture.specs.Refusal.{reason, refusal, told}
use Rattle.mold_capture.specs.Seen.{Seen, BringsNew, after, seen_of}
use Rattle.mold_capture.specs.Verdict.{IsVerdict, IsVerdictOn}
use Rattle.mold_capture.proofs.ListLemmas.{ReadsBack}
use Rattle.mold_capture.proofs.RefusalLemmas.{RuleLaw}
use Rattle.mold_capture.proofs.SumLemmas.{none_consistent, accepted, not_refused, after_more, received_whole, whole_received}

-- The prefix with one more datagram.
pub front_more : (list : List (List ℕ)) (i : ℕ) (bytes : List ℕ) → i < length list → get_or list i [] ≡ bytes →
    take (i + 1) list ≡ take i list ++ bytes ∷ []
front_more list i bytes within at =
    take_more list i [] within ∙ ap (λ (b : List ℕ). take i list ++ b ∷ []) at

-- The facts about a datagram that is refused for a reason.
pub refused_for : ReadsBack → RuleLaw → (list : List (List ℕ)) (i : ℕ) (bytes : List ℕ) (why : Refusal) → i < length list →
    get_or list i [] ≡ bytes → Consistent (take i list) → reason (take i list) bytes ≡ Some why
    → (i < length list) × Consistent (take i list) × (Consistent (take (i + 1) list) → ⊥)
    × (reason (take i list) (get_or list i []) ≡ Some why)
refused_for reads rule list i bytes why within at consistent is = (
  within,
  consistent,
  λ more.
      none-some why
      (sym (not_refused reads rule (take i list) bytes (subst Consistent (front_more list i bytes within at) more)) ∙ is),
  ap (reason (take i list)) at ∙ is,
)

refused_at : ReadsBack → RuleLaw → (list : List (List ℕ)) (i : ℕ) (bytes : List ℕ) → i < length list → get_or list i [] ≡ bytes →
    Consistent (take i list) → (why : Refusal) → reason (take i list) bytes ≡ told why
    → (why ≡ Memory → BringsNew (seen_of (take i list)) bytes) → IsRefusedAt i why list
refused_at reads rule list i bytes within at all Memory is new =
    (omega arith, all, λ below. subst (BringsNew (seen_of (take i list))) (sym at) (new refl))
refused_at reads rule list i bytes within at all (Malformed e) is new = refused_for reads rule list i bytes _ within at all is
refused_at reads rule list i bytes within at all WrongSession is new = refused_for reads rule list i bytes _ within at all is
refused_at reads rule list i bytes within at all SequenceZero is new = refused_for reads rule list i bytes _ within at all is
refused_at reads rule list i bytes within at all PastLast is new = refused_for reads rule list i bytes _ within at all is
refused_at reads rule list i bytes within at all (EndConflict e) is new = refused_for reads rule list i bytes _ within at all is
refused_at reads rule list i bytes within at all (EndBelow k) is new = refused_for reads rule list i bytes _ within at all is
refused_at reads rule list i bytes within at all (PastEnd e) is new = refused_for reads rule list i bytes _ within at all is
refused_at reads rule list i bytes within at all (Conflict n) is new = refused_for reads rule list i bytes _ within at all is

-- The first `i` datagrams are consistent, and `seen` is what they state.
pub record HasChecked (list : List (List ℕ)) (i : ℕ) (seen : Seen) : Type 0 where
  pub consistent : Consistent (take i list)
  pub said : seen ≡ seen_of (take i list)

pub checked_refused : ReadsBack → RuleLaw → (list : List (List ℕ)) (i : ℕ) (bytes : List ℕ) (seen : Seen) (why : Refusal) →
    HasChecked list i seen → i < length list → refusal seen bytes ≡ told why
    → (why ≡ Memory → BringsNew seen bytes) → get_or list i [] ≡ bytes → IsRefusedAt i why list
checked_refused reads rule list i bytes seen why checked within is new at =
    refused_at reads rule list i bytes within at checked.consistent why
    (ap (λ (s : Seen). refusal s bytes) (sym checked.said) ∙ is)
    (λ memory. subst (λ (s : Seen). BringsNew s bytes) checked.said (new memory))

pub checked_more : ReadsBack → RuleLaw → (list : List (List ℕ)) (i : ℕ) (bytes : List ℕ) (seen now : Seen) (v : Packet) →
    HasChecked list i seen → i < length list → now ≡ after seen bytes → get_or list i [] ≡ bytes → Spells v bytes
    → refusal seen bytes ≡ None → HasChecked list (i + 1) now
checked_more reads rule list i bytes seen now v checked within is at spelled none =
    let nothing = ap (λ (s : Seen). refusal s bytes) (sym checked.said) ∙ none in
    let more = accepted reads rule (take i list) bytes v checked.consistent spelled nothing in
    let front = front_more list i bytes within at in
    record {
      consistent = subst Consistent (sym front) more;
      said =
          is ∙ ap (λ (s : Seen). after s bytes) checked.said
          ∙ sym (after_more reads (take i list) bytes more)
          ∙ ap seen_of (sym front);
    }

pub verdict_on : ReadsBack → (list : List (List ℕ)) → Consistent list → (v : Verdict) → IsVerdict v (seen_of list) →
    IsVerdictOn v list
verdict_on reads list consistent (IsWhole messages) is = received_whole reads list consistent messages is
verdict_on reads list consistent (Incomplete missing end) is =
    (consistent, is.0, is.1, λ P whole. is.2 (length P + 1) (whole_received reads list P whole))

-- The borrowed datagrams.
abbrev pub bytes_of : List (Bor (List ℕ)) → List (List ℕ)
bytes_of list = map (λ b. b.now) list

pub length-bytes_of : (list : List (Bor (List ℕ))) → length (bytes_of list) ≡ length list
length-bytes_of [] = refl
length-bytes_of (b ∷ list) = ap suc (length-bytes_of list)

pub bytes_at : (list : List (Bor (List ℕ))) (i : ℕ) (d : Bor (List ℕ)) → i < length list →
    get_or (bytes_of list) i [] ≡ (get_or list i d).now
bytes_at [] i d within = absurd (omega arith)
bytes_at (b ∷ list) zero d within = refl
bytes_at (b ∷ list) (suc i) d within = bytes_at list i d (omega arith)

pub none_checked : (list : List (List ℕ)) (seen : Seen) → seen ≡ seen_of [] → HasChecked list 0 seen
none_checked list seen is = record { consistent = none_consistent; said = is }

-- All datagrams are checked.
pub all_checked : (list : List (List ℕ)) (i : ℕ) (seen : Seen) → length list ≤ i → HasChecked list i seen →
    Consistent list × (seen ≡ seen_of list)
all_checked list i seen all checked =
    let whole = take_all i list all in
    (subst Consistent whole checked.consistent, checked.said ∙ ap seen_of whole)
