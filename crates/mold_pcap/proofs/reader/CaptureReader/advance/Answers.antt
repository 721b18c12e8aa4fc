use Rattle.std.proofs.Common.{◌≡◌, sym, ap, ◌∙◌}
use Rattle.std.specs.Io.KnownBytes.{prepend_known}
use Rattle.mold_pcap.specs.Reading.{ReaderState}
use Rattle.mold_pcap.specs.declared.kind.Kind.TheVariants.{Spent}
use Rattle.mold_pcap.proofs.CaptureLemmas.{gives_spent}
use Rattle.mold_pcap.proofs.reader.CaptureReader.advance.Goals as goal

pub returns-then-is_spent-clause-end : goal.returns-then-is_spent-clause-end
returns-then-is_spent-clause-end g c =
    let is : c.args.self.now.format.kind ≡ Spent =
    ap (λ (s : ReaderState). s.format.kind) (sym c.self.view_is) ∙ c.is_spent.ensures.0 c.if-is_spent.true
    in
    gives_spent c.args.self.now.format (prepend_known c.args.self.now.rest (g.S.Source.left c.args.source.now)) is
