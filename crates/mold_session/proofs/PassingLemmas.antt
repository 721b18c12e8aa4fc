-- How whole messages are passed, and their lengths taken.
use Rattle.std.proofs.Common.{◌≡◌, ℕ, ◌+◌, ◌-◌, ◌≤◌, List, [], ◌∷◌, ◌++◌, length, length-append, append-nil, take, refl}
use Rattle.std.proofs.Common.{sym, ap, subst, ◌∙◌, append_assoc, arith, map}
use Rattle.std.specs.List.{AllByRecursion}
use Rattle.std.proofs.lemmas.List.{map-append}
use Rattle.std.proofs.Math.Seq.{take-append_seam}
use Rattle.std.proofs.lemmas.List.Concat.{flat_map-append}
use Rattle.mold_wire.specs.declared.block.TheConstants.{MAX_MESSAGE}
use Rattle.mold_session.specs.Checking.{HasLength, HasPassed, PassesWhole}
use Rattle.mold_session.specs.Journal.{IsWithin}
use Rattle.mold_session.specs.Loading.{message_spelling, messages_spelling}
use Rattle.mold_session.specs.declared.file_version.FileVersion.{FileVersion}

pub none_passed : {T : Type 0} (takes : T → T → List ℕ → Type 0) (version : FileVersion) (most : ℕ) (bytes : List ℕ)
    (taker : T) → HasPassed takes version most 0 bytes bytes taker taker
none_passed takes version most bytes taker = record {
  messages = [];
  each = tt;
  counted = refl;
  parts = refl;
  taken = λ earlier before is. subst (takes earlier taker) (sym (append-nil before)) is;
}

each_more : (most : ℕ) (before : List (List ℕ)) (message : List ℕ) → AllByRecursion (IsWithin most) before →
    IsWithin most message → AllByRecursion (IsWithin most) (before ++ message ∷ [])
each_more most [] message each one = (one, tt)
each_more most (first ∷ before) message each one = (each.0, each_more most before message each.1 one)

-- One more message was passed.
pub one_passed : {T : Type 0} (takes : T → T → List ℕ → Type 0) (version : FileVersion) (most count len : ℕ)
    (bytes rest behind : List ℕ) (old now new : T) → HasPassed takes version most count bytes rest old now →
    HasLength (message_spelling version) most rest len behind →
    ((earlier : T) (lengths : List ℕ) → takes earlier now lengths → takes earlier new (lengths ++ len ∷ [])) →
    HasPassed takes version most (count + 1) bytes behind old new
one_passed takes version most count len bytes rest behind old now new has next taken =
    let spell : List ℕ → List ℕ = message_spelling version in
    let all : List (List ℕ) → List ℕ = messages_spelling version in
    let sizes : List (List ℕ) → List ℕ = map (λ (message : List ℕ). length message) in
    let one : List (List ℕ) = next.message ∷ [] in
    record {
      messages = has.messages ++ one;
      each = each_more most has.messages next.message has.each next.within;
      counted = omega (arith, has.counted, length-append has.messages one);
      parts =
          has.parts
          ∙ ap (λ (t : List ℕ). all has.messages ++ t) next.parts
          ∙ sym (append_assoc (all has.messages) (spell next.message) behind)
          ∙ ap (λ (t : List ℕ). t ++ behind)
          (ap (λ (t : List ℕ). all has.messages ++ t) (sym (append-nil (spell next.message)))
          ∙ sym (flat_map-append spell has.messages one));
      taken = λ earlier before is.
          subst (takes earlier new)
          (ap (λ (n : ℕ). (before ++ sizes has.messages) ++ n ∷ []) next.counted
          ∙ append_assoc before (sizes has.messages) (length next.message ∷ [])
          ∙ ap (λ (t : List ℕ). before ++ t)
          (sym (map-append (λ (message : List ℕ). length message) has.messages one)))
          (taken earlier (before ++ sizes has.messages) (has.taken earlier before is));
    }

-- The taker did not take another length.
pub not_passed : {T : Type 0} (takes : T → T → List ℕ → Type 0) (version : FileVersion) (most count : ℕ)
    (bytes rest : List ℕ) (old now new : T) → HasPassed takes version most count bytes rest old now →
    ((earlier : T) (lengths : List ℕ) → takes earlier now lengths → takes earlier new lengths) →
    HasPassed takes version most count bytes rest old new
not_passed takes version most count bytes rest old now new has same = record {
  messages = has.messages;
  each = has.each;
  counted = has.counted;
  parts = has.parts;
  taken = λ earlier before is.
      same earlier (before ++ map (λ (message : List ℕ). length message) has.messages) (has.taken earlier before is);
}

-- The bytes before the remaining ones are the messages that were passed.
pub passed_before : {T : Type 0} (takes : T → T → List ℕ → Type 0) (version : FileVersion) (most limit count : ℕ)
    (bytes rest : List ℕ) (old new : T) → HasPassed takes version most count bytes rest old new → count ≤ limit →
    PassesWhole takes version most limit bytes (length bytes - length rest) count old new
passed_before takes version most limit count bytes rest old new has few =
    let before = messages_spelling version has.messages in
    let long : length bytes ≡ length before + length rest =
    ap (λ (t : List ℕ). length t) has.parts ∙ length-append before rest
    in
    let len : length bytes - length rest ≡ length before = omega (arith, long) in
    record {
      messages = has.messages;
      few = omega (arith, few, has.counted);
      each = has.each;
      counted = has.counted;
      within = omega (arith, long);
      parts =
          ap (λ (n : ℕ). take n bytes) len
          ∙ ap (take (length before)) has.parts
          ∙ take-append_seam before rest;
      taken = has.taken;
    }

-- Messages with at most `most` bytes are messages of a file.
pub each_message : (most : ℕ) (messages : List (List ℕ)) → most ≤ MAX_MESSAGE →
    AllByRecursion (IsWithin most) messages → AllByRecursion (IsWithin MAX_MESSAGE) messages
each_message most [] bound each = tt
each_message most (message ∷ messages) bound each =
    let within : length message ≤ most = each.0 in
    (omega (arith, bound, within), each_message most messages bound each.1)
