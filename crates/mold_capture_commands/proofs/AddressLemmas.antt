-- Addresses of IPv6, group by group, and text that stays.
use Rattle.std.proofs.Common.{◌≡◌, ◌∙◌, ℕ, false, List, [], ◌∷◌, ◌++◌, ap, append_assoc, drop, length, arith, refl, sym, take}
use Rattle.std.specs.Prelude.{◌==◌}
use Rattle.std.proofs.lemmas.Grind.{common_steps}
use Rattle.std.specs.List.{flat_map}
use Rattle.std.proofs.lemmas.List.{take_all}
use Rattle.mold_text.proofs.KeptLemmas.{kept_through}
use Rattle.mold_capture_commands.specs.Address.{after_colon, groups}

-- The first group of bytes, and the others.
groups_more : (bytes : List ℕ) → (length bytes == 0) ≡ false → groups bytes ≡ take 2 bytes ∷ groups (drop 2 bytes)
groups_more [] some = let no : ⊥ = cc in absurd no
groups_more (byte ∷ []) some = refl
groups_more (first ∷ second ∷ others) some = refl

-- One more group is appended.
pub colons_more : (start now next : List ℕ) (bytes rest group : List ℕ) → (length rest == 0) ≡ false →
    now ++ flat_map after_colon (groups rest) ≡ start ++ flat_map after_colon (groups bytes) → group ≡ take 2 rest →
    next ≡ now ++ after_colon group →
    next ++ flat_map after_colon (groups (drop 2 rest)) ≡ start ++ flat_map after_colon (groups bytes)
colons_more start now next bytes rest group some so first is =
    ap (λ (t : List ℕ). t ++ flat_map after_colon (groups (drop 2 rest))) (is ∙ ap (λ (g : List ℕ). now ++ after_colon g) first)
    ∙ append_assoc now (after_colon (take 2 rest)) (flat_map after_colon (groups (drop 2 rest)))
    ∙ ap (λ (gs : List (List ℕ)). now ++ flat_map after_colon gs) (sym (groups_more rest some))
    ∙ so

-- The earlier text stays when more text follows it.
pub kept_more : (old now next more : List ℕ) → take (length old) now ≡ old → next ≡ now ++ more →
    take (length old) next ≡ old
kept_more old now next more kept is = grind (arith, common_steps)

-- The earlier text stays when three parts follow it and a fourth one fails.
pub kept_last : (old a b now next x y z : List ℕ) → a ≡ old ++ x → b ≡ a ++ y → now ≡ b ++ z →
    take (length now) next ≡ now → take (length old) next ≡ old
kept_last old a b now next x y z is then last kept =
    kept_through old now next
    (kept_more old b now z (kept_more old a b y (kept_more old old a x (take_all (length old) old (omega arith)) is) then) last)
    kept
