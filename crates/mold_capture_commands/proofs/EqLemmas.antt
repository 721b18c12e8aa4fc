-- The derived equality of pairs.
use Rattle.std.proofs.Common.{◌≡◌, ℕ, ◌&&◌, refl}
use Rattle.std.specs.Prelude.{Option, None, Some, ◌==◌}
use Rattle.mold_wire.specs.declared.session.Session.{Session}
use Rattle.mold_capture_commands.specs.Pairs.{same_address, same_pair, same_session}
use Rattle.mold_capture_commands.specs.contracts.pair.PairPartialEq.TheImpl.{eq-value}
use Rattle.mold_capture_commands.specs.declared.pair.Pair.{Pair}
use Rattle.mold_frame.specs.declared.ip_address.IpAddress.{IpAddress}
use Rattle.mold_frame.specs.declared.ip_address.IpAddress.TheVariants.{V4, V6}

eq_fields : (a b : IpAddress) (p q : ℕ) (s t : Option Session) →
    eq-value.it (record { target = a; port = p; session = s }) (record { target = b; port = q; session = t })
    ≡ (same_address a b && (p == q && same_session s t))
eq_fields (V4 a) (V4 b) p q None None = refl
eq_fields (V4 a) (V4 b) p q None (Some t) = refl
eq_fields (V4 a) (V4 b) p q (Some s) None = refl
eq_fields (V4 a) (V4 b) p q (Some s) (Some t) = refl
eq_fields (V4 a) (V6 b) p q None None = refl
eq_fields (V4 a) (V6 b) p q None (Some t) = refl
eq_fields (V4 a) (V6 b) p q (Some s) None = refl
eq_fields (V4 a) (V6 b) p q (Some s) (Some t) = refl
eq_fields (V6 a) (V4 b) p q None None = refl
eq_fields (V6 a) (V4 b) p q None (Some t) = refl
eq_fields (V6 a) (V4 b) p q (Some s) None = refl
eq_fields (V6 a) (V4 b) p q (Some s) (Some t) = refl
eq_fields (V6 a) (V6 b) p q None None = refl
eq_fields (V6 a) (V6 b) p q None (Some t) = refl
eq_fields (V6 a) (V6 b) p q (Some s) None = refl
eq_fields (V6 a) (V6 b) p q (Some s) (Some t) = refl

pub pair_eq : (one other : Pair) → eq-value.it one other ≡ same_pair one other
unfolding same_pair
pair_eq one other = eq_fields one.target other.target one.port other.port one.session other.session
