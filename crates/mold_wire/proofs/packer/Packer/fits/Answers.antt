use Rattle.std.proofs.Common.{ℕ, List, ◌↔◌, IsTrue, length, sym, subst}
use Rattle.mold_wire.specs.Buffer.{over, begun_in, fields_of, Holds}
use Rattle.mold_wire.specs.Packer.{PackerState, HasRoom}
use Rattle.mold_wire.proofs.packer.Packer.fits.Goals as goal

pub returns : goal.returns
returns c =
    let begun = begun_in (fields_of c.self.inside) in
    subst (λ (s : PackerState). IsTrue c.fits_in.result ↔ HasRoom s.limit s.begun c.args.len) c.self.view_is
    (subst (λ (t : List ℕ). IsTrue c.fits_in.result ↔ HasRoom (length t) begun c.args.len) c.deref.ensures.value
    (c.fits_in.ensures.held c.self.inside.count begun
    (subst (λ (t : List ℕ). Holds (over t c.self.inside.used c.self.inside.count c.self.inside.is_open) begun)
    (sym c.deref.ensures.value) c.self.invariant)))
