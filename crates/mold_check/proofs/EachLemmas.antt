-- A check of several sessions, and the table of their states.
use Rattle.std.proofs.Common.{◌++◌, ◌≡◌, ℕ, Bool, true, false, List, [], ◌∷◌, length, refl, sym, ap, ◌∙◌, subst, true≢false, arith}
use Rattle.std.specs.Prelude.{IfSome, None, Option, Some, Result, Ok, Err, OnOk, ◌==◌, max, position, slice_get, ⊤}
use Rattle.std.specs.Io.KnownBytes.{Appends}
use Rattle.std.specs.List.{IsDistinct}
use Rattle.std.specs.Map.{keys_of, values_of}
use Rattle.std.proofs.lemmas.Bool.Decides.{nat_tests}
use Rattle.std.specs.Str.{bytes_eq}
use Rattle.std.proofs.lemmas.Slice.Eq.{bytes_eq-Decides}
use Rattle.indexmap.specs.IndexMap.{insert_entry, set_value_at}
use Rattle.mold_devices.specs.Devices.{AppendsPrefix}
use Rattle.mold_devices.specs.Writing.{Moves}
use Rattle.mold_wire.specs.declared.session.Session.{Session}
use Rattle.mold_check.specs.EachCheck.{EachState, each_text, entries_added, entries_statuses, entries_text, greatest, greatest_status, same_key, same_name}
use Rattle.mold_check.specs.Groups.{stepped}
use Rattle.mold_check.specs.Judge.{Judging}
use Rattle.mold_check.specs.contracts.session_key.SessionKeyPartialEq.TheImpl.{eq-value}
use Rattle.mold_check.specs.declared.session_key.SessionKey.{SessionKey}
use Rattle.mold_check.proofs.GroupLemmas.{IsSame, more_at, more_new, place_of}
use Rattle.mold_check.proofs.MovedLemmas.{rest_front, rest_sent}

-- ---- equality of sessions

bytes_equal : (one other : List ℕ) → bytes_eq one other ≡ true → one ≡ other
bytes_equal one other = (bytes_eq-Decides one other).0

name_equal : (one other : Option Session) → same_name one other ≡ true → one ≡ other
name_equal None None h = refl
name_equal (Some one) (Some other) h =
    ap (λ (bytes : List ℕ). Some (record { 0 = bytes })) (bytes_equal one.0 other.0 h)
name_equal None (Some other) h = absurd (true≢false (sym h))
name_equal (Some one) None h = absurd (true≢false (sym h))

name_same : (name : Option Session) → same_name name name ≡ true
name_same None = refl
name_same (Some session) = (bytes_eq-Decides session.0 session.0).1 refl

pub same_key_law : IsSame same_key
unfolding same_key
same_key_law = record {
  equal = λ one other h. ap (λ (name : Option Session). record { session = name }) (name_equal one.session other.session h);
  reflexive = λ one. name_same one.session;
}

-- The derived equality of sessions.
eq_names : (one other : Option Session) →
    eq-value.it (record { session = one }) (record { session = other }) ≡ same_name one other
eq_names None None = refl
eq_names None (Some other) = refl
eq_names (Some one) None = refl
eq_names (Some one) (Some other) = refl

pub key_eq : (one other : SessionKey) → eq-value.it one other ≡ same_key one other
unfolding same_key
key_eq one other = eq_names one.session other.session

-- ---- the table

-- The last session is that of the key.
pub found_last : {S : Type 0} (entries now : List (SessionKey × S)) (index : ℕ) (key known : SessionKey) (s : S) →
    IsDistinct eq-value.it (keys_of entries) → slice_get entries index ≡ Some (known, s) → eq-value.it key known ≡ true →
    entries ≡ now → Some index ≡ position (same_key key) (keys_of now)
found_last {S} entries now index key known s unique at same is =
    sym (place_of same_key same_key_law entries index key known s
    (subst (λ (eq : SessionKey → SessionKey → Bool). IsDistinct eq (keys_of entries)) (λ i. λ one other. key_eq one other i) unique)
    at (sym (key_eq key known) ∙ same))
    ∙ ap (λ (l : List (SessionKey × S)). position (same_key key) (keys_of l)) is

-- The session was searched for.
pub found_key : {S : Type 0} (entries now : List (SessionKey × S)) (key : SessionKey) (index : Option ℕ) →
    index ≡ position (eq-value.it key) (keys_of entries) → entries ≡ now →
    index ≡ position (same_key key) (keys_of now)
found_key {S} entries now key index found is =
    found
    ∙ (λ i. position (λ other. key_eq key other i) (keys_of entries))
    ∙ ap (λ (l : List (SessionKey × S)). position (same_key key) (keys_of l)) is

-- A session was inserted that was not there.
pub inserted_key : {S : Type 0} (judging : Judging S) (entries now new : List (SessionKey × S)) (key : SessionKey)
    (number : ℕ) (bytes : List ℕ) (s begun : S) → position (same_key key) (keys_of now) ≡ None → entries ≡ now →
    begun ≡ judging.begins → s ≡ judging.added begun number bytes → new ≡ insert_entry eq-value.it entries key s →
    new ≡ stepped same_key judging.begins (λ s. judging.added s number bytes) now key
inserted_key {S} judging entries now new key number bytes s begun absent is begins added inserted =
    inserted
    ∙ (λ i. insert_entry (λ one other. key_eq one other i) entries key s)
    ∙ ap (λ (l : List (SessionKey × S)). insert_entry same_key l key s) is
    ∙ ap (insert_entry same_key now key) (added ∙ ap (λ (b : S). judging.added b number bytes) begins)
    ∙ more_new same_key judging.begins (λ s. judging.added s number bytes) now key absent

-- A datagram was added to a session that is there.
pub added_on : {S : Type 0} {E : Type 0} (judging : Judging S) (entries now new : List (SessionKey × S)) (key : SessionKey)
    (number : ℕ) (bytes : List ℕ) (index : ℕ) (r : Result ⊤ E) → entries ≡ now →
    position (same_key key) (keys_of now) ≡ Some index →
    IfSome (slice_get (values_of entries) index)
    (λ s. OnOk r (new ≡ set_value_at entries index (judging.added s number bytes))) →
    OnOk r (new ≡ entries_added judging now key number bytes)
added_on {S} {E} judging entries now new key number bytes index r same there added = by r added
  where
    by : (r : Result ⊤ E) → IfSome (slice_get (values_of entries) index)
        (λ s. OnOk r (new ≡ set_value_at entries index (judging.added s number bytes))) →
        OnOk r (new ≡ entries_added judging now key number bytes)
    by (Ok done) added =
        more_at same_key judging.begins (λ s. judging.added s number bytes) entries new key index
        (ap (λ (l : List (SessionKey × S)). position (same_key key) (keys_of l)) same ∙ there) added
        ∙ ap (λ (l : List (SessionKey × S)). entries_added judging l key number bytes) same
    by (Err e) added = tt

-- ---- the greatest status

-- One more session.
pub status_more : (now status next rest total judged : ℕ) → next ≡ max now status → status ≡ judged →
    max now (max judged rest) ≡ total → max next rest ≡ total
status_more now status next rest total judged is known so = omega (arith, is, known, so)

-- No session is left.
pub status_all : (now total : ℕ) → max now 0 ≡ total → now ≡ total
status_all now total so = omega (arith, so)

-- ---- the text

-- A prefix of the text of all sessions was written, from the parts of the state.
pub each_front : {S : Type 0} (judging : Judging S) (names : ℕ → List ℕ) (old mid new : Option (List ℕ))
    (text left : List ℕ) (entries : List (SessionKey × S)) (refused : ℕ) (now : EachState S) →
    record { entries = entries; refused = refused } ≡ now →
    Moves old mid (text ++ entries_text judging names refused entries) left → AppendsPrefix mid new left →
    AppendsPrefix old new (text ++ each_text judging names now)
each_front {S} judging names old mid new text left entries refused now is moves front =
    subst (λ (s : EachState S). AppendsPrefix old new (text ++ each_text judging names s)) is
    (rest_front old mid new _ left moves front)

-- All of it was written.
pub each_sent : {S : Type 0} (judging : Judging S) (names : ℕ → List ℕ) (old mid new : Option (List ℕ))
    (text left : List ℕ) (entries : List (SessionKey × S)) (refused : ℕ) (now : EachState S) →
    record { entries = entries; refused = refused } ≡ now →
    Moves old mid (text ++ entries_text judging names refused entries) left → Appends mid new left →
    Appends old new (text ++ each_text judging names now)
each_sent {S} judging names old mid new text left entries refused now is moves sent =
    subst (λ (s : EachState S). Appends old new (text ++ each_text judging names s)) is
    (rest_sent old mid new _ left moves sent)

is_some : {T : Type 0} (first : T) (others : List T) → (length (first ∷ others) == 0) ≡ true → ⊥
is_some first others none = grind (arith, nat_tests)

-- Without a session the status is 1.
pub status_none : {S : Type 0} (judging : Judging S) (entries : List (SessionKey × S)) (refused : ℕ) (now : EachState S) →
    record { entries = entries; refused = refused } ≡ now → (length entries == 0) ≡ true →
    1 ≡ greatest_status (entries_statuses judging now.entries)
status_none judging [] refused now is none = ap (λ s. greatest_status (entries_statuses judging s.entries)) is
status_none judging (entry ∷ entries) refused now is none = absurd (is_some entry entries none)

-- With a session it is the greatest one.
pub status_some : {S : Type 0} (judging : Judging S) (entries : List (SessionKey × S)) (refused : ℕ) (now : EachState S)
    (status : ℕ) → record { entries = entries; refused = refused } ≡ now → (length entries == 0) ≡ false →
    status ≡ greatest (entries_statuses judging entries) →
    status ≡ greatest_status (entries_statuses judging now.entries)
status_some judging [] refused now status is some found = absurd (true≢false some)
status_some judging (entry ∷ entries) refused now status is some found =
    found ∙ ap (λ s. greatest_status (entries_statuses judging s.entries)) is
