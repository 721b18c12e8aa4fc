use Rattle.std.proofs.Common.{refl, sym, ◌∙◌}
use Rattle.std.specs.Prelude.{None}
use Rattle.mold_receive.proofs.CallLemmas.{on_err_of}
use Rattle.mold_receive.proofs.OpeningLemmas.{admitted_opens, goes_on, refused_not}
use Rattle.mold_receive.proofs.opening.opener_of.Goals as goal

pub returns-in_err-check_header-clause-refused : goal.returns-in_err-check_header-clause-refused
returns-in_err-check_header-clause-refused c =
    on_err_of c.from_residual.result
    (refused_not c.args.session c.args.datagram.now c.in-Ok.packet _ (sym c.decode.ensures.exact ∙ c.in-Ok.is)
    (c.in_err-check_header.ensures.refused None))

pub returns-in-Data : goal.returns-in-Data
returns-in-Data c = record {
  opens = record {
    packet = c.in-Ok.packet;
    read = sym c.decode.ensures.exact ∙ c.in-Ok.is;
    opens = admitted_opens c.args.session c.args.datagram.now c.in-Ok.packet (sym c.decode.ensures.exact ∙ c.in-Ok.is)
        (c.in_ok-check_header.ensures.passed None) (goes_on c.in-Ok.packet.body c.in-Data.is);
    named = refl;
    numbered = refl;
  };
  end = tt;
  refused = tt;
}
