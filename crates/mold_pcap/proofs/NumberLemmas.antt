-- Numbers that were written are read back.
use Rattle.std.proofs.Common.{◌≡◌, ℕ, ◌+◌, ◌^◌, ◌<◌, List, ◌++◌, length, drop, refl, arith}
use Rattle.byteorder.specs.Numbers.{big_number-reads_back, little_number-reads_back}
use Rattle.mold_pcap.specs.Numbers.{number}
use Rattle.mold_pcap.specs.Written.{number_bytes}
use Rattle.mold_pcap.specs.declared.order.Order.{Order}
use Rattle.mold_pcap.specs.declared.order.Order.TheVariants.{Big, Little}

-- A number is read back, whatever follows it.
pub reads_back : (order : Order) (n x : ℕ) (rest : List ℕ) → x < 256 ^ n → number order n (number_bytes order n x
    ++ rest) ≡ x
reads_back Big n x rest fits = big_number-reads_back n x rest fits
reads_back Little n x rest fits = little_number-reads_back n x rest fits

-- The bytes after a number.
pub after_4 : (order : Order) (x : ℕ) (rest : List ℕ) → drop 4 (number_bytes order 4 x ++ rest) ≡ rest
after_4 Big x rest = refl
after_4 Little x rest = refl

pub after_2 : (order : Order) (x : ℕ) (rest : List ℕ) → drop 2 (number_bytes order 2 x ++ rest) ≡ rest
after_2 Big x rest = refl
after_2 Little x rest = refl

pub long_4 : (order : Order) (x : ℕ) (rest : List ℕ) → length (number_bytes order 4 x ++ rest) ≡ 4 + length rest
long_4 Big x rest = omega arith
long_4 Little x rest = omega arith

pub long_2 : (order : Order) (x : ℕ) (rest : List ℕ) → length (number_bytes order 2 x ++ rest) ≡ 2 + length rest
long_2 Big x rest = omega arith
long_2 Little x rest = omega arith

pub after_8 : (order : Order) (x y : ℕ) (rest : List ℕ) →
    drop 8 (number_bytes order 4 x ++ (number_bytes order 4 y ++ rest)) ≡ rest
after_8 Big x y rest = refl
after_8 Little x y rest = refl

pub after_16 : (order : Order) (x y z w : ℕ) (rest : List ℕ) → drop 16 (number_bytes order 4 x
    ++ (number_bytes order 4 y ++ (number_bytes order 4 z ++ (number_bytes order 4 w ++ rest)))) ≡ rest
after_16 Big x y z w rest = refl
after_16 Little x y z w rest = refl

pub after_12 : (order : Order) (x y z : ℕ) (rest : List ℕ) →
    drop 12 (number_bytes order 4 x ++ (number_bytes order 4 y ++ (number_bytes order 4 z ++ rest))) ≡ rest
after_12 Big x y z rest = refl
after_12 Little x y z rest = refl

pub after_20 : (order : Order) (x y z w v : ℕ) (rest : List ℕ) → drop 20 (number_bytes order 4 x
    ++ (number_bytes order 4 y
    ++ (number_bytes order 4 z ++ (number_bytes order 4 w ++ (number_bytes order 4 v ++ rest))))) ≡ rest
after_20 Big x y z w v rest = refl
after_20 Little x y z w v rest = refl
