use Rattle.std.proofs.Common.{sym, subst}
use Rattle.mold_pcap.specs.Formats.{FormatState}
use Rattle.mold_pcap.specs.Looks.{IsLook, look}
use Rattle.mold_pcap.specs.declared.kind.Kind.TheVariants.{Start, Classic, Blocks}
use Rattle.mold_pcap.specs.declared.look.Look.{Look}
use Rattle.mold_pcap.proofs.LookLemmas.{is_look}
use Rattle.mold_pcap.proofs.format.Format.look.Goals as goal

pub returns-in-Start-clause-fits : goal.returns-in-Start-clause-fits
unfolding look
returns-in-Start-clause-fits c =
    let inside = c.self.inside in
    let format : FormatState =
    record { kind = Start; order = inside.order; at = inside.at; interfaces = inside.interfaces }
    in
    subst (λ (l : Look). IsLook l c.args.bytes.now) (sym c.look_at_start.ensures) (is_look format c.args.bytes.now)

pub returns-in-Classic-clause-fits : goal.returns-in-Classic-clause-fits
unfolding look
returns-in-Classic-clause-fits c =
    let inside = c.self.inside in
    let format : FormatState = record {
      kind = Classic c.in-Classic.link c.in-Classic.resolution;
      order = inside.order;
      at = inside.at;
      interfaces = inside.interfaces;
    } in
    subst (λ (l : Look). IsLook l c.args.bytes.now) (sym c.look_at_record.ensures) (is_look format c.args.bytes.now)

pub returns-in-Blocks-clause-fits : goal.returns-in-Blocks-clause-fits
unfolding look
returns-in-Blocks-clause-fits c =
    let inside = c.self.inside in
    let format : FormatState =
    record { kind = Blocks; order = inside.order; at = inside.at; interfaces = inside.interfaces }
    in
    subst (λ (l : Look). IsLook l c.args.bytes.now) (sym c.look_at_block.ensures) (is_look format c.args.bytes.now)
