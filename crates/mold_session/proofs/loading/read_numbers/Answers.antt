use Rattle.std.proofs.Common.{◌≡◌, eqb, ◌∷◌, take, refl, subst}
use Rattle.std.specs.Io.KnownBytes.{Consumes, prepend_known}
use Rattle.mold_wire.specs.Block.{be64}
use Rattle.mold_session.specs.File.{closed_byte}
use Rattle.mold_session.proofs.HeadLemmas.{numbers_are}
use Rattle.mold_session.proofs.loading.read_numbers.Goals as goal

pub returns-clause-read : goal.returns-clause-read
returns-clause-read g c =
    let known = prepend_known c.args.piece.now (g.S.Source.left c.args.source.now) in
    let left = prepend_known c.fill.new.piece (g.S.Source.left c.fill.new.source) in
    let byte = c.split_numbers-byte.result.0 in
    let number = c.split_numbers-byte.result.1 in
    let bytes : take c.in_ok-count.count c.fill.new.buffer ≡ closed_byte (eqb byte 1) ∷ be64 number =
    numbers_are c.fill.new.buffer c.in_ok-count.count byte number c.if-count-lt9.false c.if-byte-gt1.false
    c.split_numbers-byte.ensures.parts
    in
    record {
      count = number;
      fits = c.split_numbers-byte.ensures.fits;
      same = refl;
      stated = refl;
      consumed = subst (Consumes known left) bytes c.in_ok-count.ensures.bytes;
    }
