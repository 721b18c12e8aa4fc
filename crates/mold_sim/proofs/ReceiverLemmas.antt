-- The lines of the receivers, one after the other.
use Rattle.std.proofs.Common.{◌≡◌, ℕ, zero, suc, ◌+◌, ◌<◌, ◌≤◌, List, [], ◌∷◌, ◌++◌, length, length-append, drop, take}
use Rattle.std.proofs.Common.{refl, sym, ap, ◌∙◌, append_assoc, append-nil, arith, add-one}
use Rattle.std.specs.Prelude.{slice_get}
use Rattle.std.proofs.lemmas.List.{drop_all, take-take, take_at}
use Rattle.mold_sim.specs.Reports.{receiver_lines, some_receiver_line}
use Rattle.mold_world.specs.World.{SubscriberState}

-- The lines of the first `count` receivers were appended.
pub record AreShown (old new : List ℕ) (subscribers : List SubscriberState) (count : ℕ) : Type 0 where
  pub added : List ℕ
  pub written : new ≡ old ++ added
  pub rest : receiver_lines 0 subscribers ≡ added ++ receiver_lines count (drop count subscribers)

-- At the start no line was appended.
pub none_shown : (old : List ℕ) (subscribers : List SubscriberState) → AreShown old old subscribers 0
none_shown old subscribers = record { added = []; written = sym (append-nil old); rest = refl }

-- The lines from one receiver on begin with that receiver's line.
one_line : (number count : ℕ) (subscribers : List SubscriberState) → count < length subscribers →
    receiver_lines number (drop count subscribers)
    ≡ some_receiver_line number (slice_get subscribers count) ++ receiver_lines (number + 1) (drop (count + 1) subscribers)
unfolding receiver_lines
one_line number count [] lt = absurd (omega arith)
one_line number zero (place ∷ subscribers) lt = refl
one_line number (suc count) (place ∷ subscribers) lt =
    let line = some_receiver_line number (slice_get subscribers count) in
    one_line number count subscribers (omega arith)
    ∙ ap (λ (n : ℕ). line ++ receiver_lines (number + 1) (drop n subscribers)) (add-one count)
    ∙ ap (λ (n : ℕ). line ++ receiver_lines (number + 1) (drop n (place ∷ subscribers))) (sym (add-one (suc count)))

-- One more line.
pub one_shown : (old new newer : List ℕ) (subscribers : List SubscriberState) (count : ℕ) → count < length subscribers →
    AreShown old new subscribers count → newer ≡ new ++ some_receiver_line count (slice_get subscribers count) →
    AreShown old newer subscribers (count + 1)
one_shown old new newer subscribers count lt shown written =
    let line = some_receiver_line count (slice_get subscribers count) in
    record {
      added = shown.added ++ line;
      written = written ∙ ap (λ (t : List ℕ). t ++ line) shown.written ∙ append_assoc old shown.added line;
      rest =
          shown.rest
          ∙ ap (λ (t : List ℕ). shown.added ++ t) (one_line count count subscribers lt)
          ∙ sym (append_assoc shown.added line (receiver_lines (count + 1) (drop (count + 1) subscribers)));
    }

-- The old text stays a prefix of the new one.
pub still_kept : (old mid new : List ℕ) (subscribers : List SubscriberState) (count : ℕ) → AreShown old mid subscribers count →
    take (length mid) new ≡ mid → take (length old) new ≡ old
still_kept old mid new subscribers count shown kept =
    let within : length old ≤ length mid = omega (arith, ap length shown.written, length-append old shown.added) in
    sym (take-take (length old) (length mid) new within)
    ∙ ap (take (length old)) (kept ∙ shown.written)
    ∙ take_at old shown.added (length old) refl

no_lines : (number : ℕ) → receiver_lines number [] ≡ []
unfolding receiver_lines
no_lines number = refl

-- After the last receiver, all lines were appended.
pub all_shown : (old new : List ℕ) (subscribers : List SubscriberState) (count : ℕ) → length subscribers ≤ count →
    AreShown old new subscribers count → new ≡ old ++ receiver_lines 0 subscribers
all_shown old new subscribers count all shown =
    let none = ap (receiver_lines count) (drop_all count subscribers all) ∙ no_lines count in
    let added : receiver_lines 0 subscribers ≡ shown.added =
    shown.rest ∙ ap (λ (t : List ℕ). shown.added ++ t) none ∙ append-nil shown.added
    in
    shown.written ∙ ap (λ (t : List ℕ). old ++ t) (sym added)
