-- The worked example, computed.
use Rattle.std.proofs.Common.{◌≡◌, ◌∙◌, ap, ℕ, T, List, [], ◌∷◌, sum_by}
use Rattle.std.specs.Prelude.{is_none, ◌-◌, length}
use Rattle.std.specs.Ordering.{nat_cmp}
use Rattle.std.specs.FinMap as finite
use Rattle.mold_rule.specs.Ranges.{ranges}
use Rattle.mold_receiver.specs.Store.{Message}
use Rattle.mold_receiver.specs.Wanted.{missing}
use Rattle.mold_rounds.specs.Examples.{five, received, twenty}
use Rattle.mold_rounds.specs.Rounds.{asks, asks_within, messages_in, rounds}
use Rattle.mold_session.specs.Datagrams.{packing, packing_within}
use Rattle.mold_wire.specs.Packing.{front, packet_length}

-- A store given by its entries, in a form that computes.
by_entries : (window : ℕ) (stored : List (ℕ × Message)) (burst : ℕ) → T (finite.is_sorted nat_cmp stored) →
    rounds (received window stored) five 64 burst
    ≡ sum_by (λ gap. asks 64 burst (messages_in five gap)) (ranges (λ q. is_none (finite.find nat_cmp q stored)) 1 5)
by_entries window stored burst sorted = λ i. sum_by (λ gap. asks 64 burst (messages_in five gap))
    (ranges (λ q. is_none (finite.get-from_sorted nat_cmp stored q sorted i)) 1 5)

pub two_gaps : rounds (received 8 ((3, twenty 3) ∷ [])) five 64 1 ≡ 2
unfolding ranges asks asks_within packing packing_within front packet_length
two_gaps = by_entries 8 ((3, twenty 3) ∷ []) 1 tt

pub one_gap : rounds (received 1 []) five 64 1 ≡ 3
unfolding ranges asks asks_within packing packing_within front packet_length
one_gap = by_entries 1 [] 1 tt

pub bursts_of_two : rounds (received 1 []) five 64 2 ≡ 2
unfolding ranges asks asks_within packing packing_within front packet_length
bursts_of_two = by_entries 1 [] 2 tt

pub bursts_of_three : rounds (received 1 []) five 64 3 ≡ 1
unfolding ranges asks asks_within packing packing_within front packet_length
bursts_of_three = by_entries 1 [] 3 tt

pub three_gaps : rounds (received 8 ((2, twenty 2) ∷ (4, twenty 4) ∷ [])) five 64 1 ≡ 3
unfolding ranges asks asks_within packing packing_within front packet_length
three_gaps = by_entries 8 ((2, twenty 2) ∷ (4, twenty 4) ∷ []) 1 tt

-- The number of missing messages is 5 minus the number of stored ones.
pub missing_of : (window : ℕ) (stored : List (ℕ × Message)) → T (finite.is_sorted nat_cmp stored) →
    missing (received window stored) ≡ 5 - length stored
missing_of window stored sorted =
    ap (λ (n : ℕ). 5 - n)
    (finite.len-entries {R = nat_cmp} (finite.from_sorted stored)
    ∙ ap length (finite.entries-from_sorted nat_cmp stored sorted))
