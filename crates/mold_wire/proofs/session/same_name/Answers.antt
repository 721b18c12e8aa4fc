use Rattle.std.proofs.Common.{◌≡◌, ℕ, List, nat_eq, drop, sym, ap, ◌∙◌, arith}
use Rattle.std.specs.Str.{bytes_eq}
use Rattle.std.proofs.lemmas.Bool.{eq-eqb, eqb-true}
use Rattle.std.proofs.lemmas.Bool.Decides.{same_from_decides}
use Rattle.std.proofs.lemmas.Slice.Eq.{bytes_eq-Decides}
use Rattle.byteorder.specs.Endian.{big_number}
use Rattle.byteorder.specs.Numbers.{big_from-take}
use Rattle.mold_wire.proofs.SessionLemmas.{same_numbers}
use Rattle.mold_wire.proofs.session.same_name.Goals as goal

pub returns-then-read_u64 : goal.returns-then-read_u64
returns-then-read_u64 c =
    let name = c.args.name.now in
    let other = c.args.other.now in
    let front : c.read_u64.result ≡ big_number 8 name =
    c.read_u64.ensures ∙ ap (big_number 8) c.split_at.ensures.front ∙ big_from-take 0 8 8 name (omega arith) in
    let other_front : c.read_u64-2.result ≡ big_number 8 other =
    c.read_u64-2.ensures ∙ ap (big_number 8) c.split_at-2.ensures.front ∙ big_from-take 0 8 8 other (omega arith) in
    let back : c.read_u16.result ≡ big_number 2 (drop 8 name) =
    c.read_u16.ensures ∙ ap (big_number 2) c.split_at.ensures.back in
    let other_back : c.read_u16-then-read_u64.result ≡ big_number 2 (drop 8 other) =
    c.read_u16-then-read_u64.ensures ∙ ap (big_number 2) c.split_at-2.ensures.back in
    same_from_decides (nat_eq c.read_u16.result c.read_u16-then-read_u64.result) (bytes_eq name other) (
      (λ yes. same_numbers name other (λ i. omega (arith, c.type_inv.name i)) (λ i. omega (arith, c.type_inv.other i))
          c.requires.name c.requires.other (sym front ∙ c.if-read_u64.true ∙ other_front)
          (sym back ∙ eqb-true c.read_u16.result c.read_u16-then-read_u64.result yes ∙ other_back)),
      (λ same. eq-eqb c.read_u16.result c.read_u16-then-read_u64.result
          (back ∙ ap (λ (t : List ℕ). big_number 2 (drop 8 t)) same ∙ sym other_back)),
    )
    (bytes_eq-Decides name other)
