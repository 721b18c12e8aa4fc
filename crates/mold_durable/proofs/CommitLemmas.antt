-- What a commit makes of a settled journal.
use Rattle.std.proofs.Common.{◌≡◌, ◌⊎◌, inl, inr, ⊎_elim, ℕ, ◌+◌, ◌<◌, ◌^◌, Bool, false, List, [], ◌∷◌, ◌++◌, length}
use Rattle.std.proofs.Common.{sym, ap, subst, ◌∙◌, arith, length-append}
use Rattle.std.specs.List.{AllByRecursion}
use Rattle.mold_wire.specs.declared.block.TheConstants.{MAX_MESSAGE}
use Rattle.mold_wire.specs.declared.limits.TheConstants.{MAX_NUMBER}
use Rattle.mold_session.specs.Journal.{AreMessages, IsWithin}
use Rattle.mold_durable.specs.DurableJournal.{DurableState, IsSettled, IsBeforeOrAfter, file_prefix}
use Rattle.mold_durable.specs.Gate.{IsShutAfter, BeginsWith}
use Rattle.mold_durable.specs.Group.{closing}
use Rattle.mold_session.specs.Records.{records, SpellsJournal3}
use Rattle.mold_durable.specs.Storage.{IsKept, LeavesOnly}
use Rattle.mold_durable.proofs.FileLemmas.{file_shut, shut_file, opened_file, prefix_longer}
use Rattle.mold_durable.proofs.MomentLemmas.{started, weaker}
use Rattle.mold_durable.proofs.RecordLemmas.{each-append, each_within}

-- The committed messages and those that wait are within the limits.
pub all_listed :
    (messages waiting : List (List ℕ)) (committed most : ℕ) → AreMessages MAX_MESSAGE messages →
    committed ≡ length messages → committed + length waiting < MAX_NUMBER → most < 2 ^ 16 →
    AllByRecursion (IsWithin most) waiting → AreMessages MAX_MESSAGE (messages ++ waiting)
all_listed messages waiting committed most listed counted few small each = record {
  few = omega (arith, counted, few, length-append messages waiting);
  each = each-append MAX_MESSAGE messages waiting listed.each (each_within most MAX_MESSAGE waiting (omega (arith, small)) each);
}

-- The bytes that a commit leaves for each prefix before the gate.
abbrev pub Opens : {S : Type 0} → (S → List ℕ → Type 0) → (S → List ℕ → Type 0) → S → S → ℕ → List ℕ → Type 0
Opens shows may_leave old new gate text =
    (prefix : List ℕ) → length prefix ≡ gate → IsKept (shows old) (may_leave old) (IsShutAfter prefix) →
    IsKept (shows new) (may_leave new) (BeginsWith (prefix ++ 1 ∷ text))

-- What a crash leaves meanwhile.
abbrev pub Passes :
    {S : Type 0} → (S → ℕ) → (S → ℕ → List ℕ → Type 0) → (S → List ℕ → Type 0) → (S → List ℕ → Type 0) → S → S → ℕ →
    List ℕ → Type 0
Passes moment left_since shows may_leave old new gate text =
    (prefix : List ℕ) → length prefix ≡ gate → IsKept (shows old) (may_leave old) (IsShutAfter prefix) →
    LeavesOnly moment left_since old new (λ bytes. IsShutAfter prefix bytes ⊎ BeginsWith (prefix ++ 1 ∷ text) bytes)

module _ {S : Type 0} (shows may_leave : S → List ℕ → Type 0) where
  open_ends :
      (journal : DurableState S) (messages : List (List ℕ)) → journal.closed ≡ false →
      IsSettled shows may_leave journal messages → length (file_prefix journal.session messages false) ≡ journal.end
  open_ends journal messages unclosed settled =
      sym (settled.ends ∙ ap (λ (b : Bool). length (file_prefix journal.session messages b)) unclosed)

  open_kept :
      (journal : DurableState S) (messages : List (List ℕ)) → journal.closed ≡ false →
      IsSettled shows may_leave journal messages →
      IsKept (shows journal.storage) (may_leave journal.storage) (IsShutAfter (file_prefix journal.session messages false))
  open_kept journal messages unclosed settled = record {
    shown = λ bytes now. file_shut journal.session messages bytes
        (subst (λ (b : Bool). SpellsJournal3 journal.session messages b bytes) unclosed (settled.kept.shown bytes now));
    left = λ bytes now. file_shut journal.session messages bytes
        (subst (λ (b : Bool). SpellsJournal3 journal.session messages b bytes) unclosed (settled.kept.left bytes now));
  }

  -- The journal after a commit.
  pub settled_after :
      (old new : DurableState S) (messages : List (List ℕ)) (closes : Bool) (text : List ℕ) →
      IsSettled shows may_leave old messages → old.closed ≡ false →
      1 ∷ text ≡ records old.waiting ++ (closing closes ++ 0 ∷ []) →
      AreMessages MAX_MESSAGE (messages ++ old.waiting) →
      Opens shows may_leave old.storage new.storage old.end text → new.session ≡ old.session → new.closed ≡ closes →
      new.end ≡ old.end + length text → new.committed ≡ old.committed + length old.waiting →
      IsSettled shows may_leave new (messages ++ old.waiting)
  settled_after old new messages closes text settled unclosed is_text listed opens same_session same_closed ends counted =
      let prefix = file_prefix old.session messages false in
      let kept = opens prefix (open_ends old messages unclosed settled) (open_kept old messages unclosed settled) in
      let whole : (bytes : List ℕ) → BeginsWith (prefix ++ 1 ∷ text) bytes →
      SpellsJournal3 new.session (messages ++ old.waiting) new.closed bytes = λ bytes begins.
      subst (λ (s : _). SpellsJournal3 s (messages ++ old.waiting) new.closed bytes) (sym same_session)
      (subst (λ (b : Bool). SpellsJournal3 old.session (messages ++ old.waiting) b bytes) (sym same_closed)
      (opened_file old.session messages old.waiting closes text bytes settled.named listed is_text begins))
      in
      record {
        kept = record {
          shown = λ bytes now. whole bytes (kept.shown bytes now);
          left = λ bytes now. whole bytes (kept.left bytes now);
        };
        ends =
            ends
            ∙ ap (λ (n : ℕ). n + length text) (sym (open_ends old messages unclosed settled))
            ∙ sym (prefix_longer old.session messages old.waiting closes text is_text)
            ∙ ap (λ (s : _). length (file_prefix s (messages ++ old.waiting) closes)) (sym same_session)
            ∙ ap (λ (b : Bool). length (file_prefix new.session (messages ++ old.waiting) b)) (sym same_closed);
        counted = omega (arith, counted, settled.counted, length-append messages old.waiting);
        named = subst (λ (s : _). length s.0 ≡ 10) (sym same_session) settled.named;
        listed = listed;
      }

  module _ (moment : S → ℕ) (left_since : S → ℕ → List ℕ → Type 0) where
    -- What a crash leaves during a commit.
    pub moments_of :
        (old : DurableState S) (new : S) (messages : List (List ℕ)) (closes : Bool) (text : List ℕ) →
        IsSettled shows may_leave old messages → old.closed ≡ false →
        1 ∷ text ≡ records old.waiting ++ (closing closes ++ 0 ∷ []) →
        AreMessages MAX_MESSAGE (messages ++ old.waiting) →
        Passes moment left_since shows may_leave old.storage new old.end text →
        LeavesOnly moment left_since old.storage new
        (IsBeforeOrAfter old.session messages false (messages ++ old.waiting) closes)
    moments_of old new messages closes text settled unclosed is_text listed passes =
        let prefix = file_prefix old.session messages false in
        weaker moment left_since old.storage new _ _
        (passes prefix (open_ends old messages unclosed settled) (open_kept old messages unclosed settled))
        (λ bytes has. ⊎_elim
        (λ shut. inl (shut_file old.session messages bytes settled.named settled.listed shut))
        (λ begins. inr (opened_file old.session messages old.waiting closes text bytes settled.named listed is_text begins))
        has)

    -- Before a call, and during one that does nothing.
    pub moments_none :
        (old : DurableState S) (messages after : List (List ℕ)) (closes : Bool) →
        ((bytes : List ℕ) → left_since old.storage (moment old.storage) bytes → may_leave old.storage bytes) →
        IsSettled shows may_leave old messages →
        LeavesOnly moment left_since old.storage old.storage
        (IsBeforeOrAfter old.session messages old.closed after closes)
    moments_none old messages after closes only settled =
        started moment left_since old.storage (IsBeforeOrAfter old.session messages old.closed after closes)
        (λ bytes left. inl (settled.kept.left bytes (only bytes left)))
