use Rattle.std.proofs.Common.{◌+◌, [], Some, refl, sym, ap, subst, ◌∙◌, arith}
use Rattle.mold_wire.specs.declared.session.Session.{Session}
use Rattle.mold_wire.specs.Packer.{PackerState, Open}
use Rattle.mold_session.specs.Publisher.{PublisherState, Lends, next_heartbeat}
use Rattle.mold_session.specs.Truthful.{IsTrueDatagram}
use Rattle.mold_session.proofs.PublisherLemmas.{lends_heartbeat}
use Rattle.mold_session.proofs.TruthLemmas.{heartbeat_true}
use Rattle.mold_session.proofs.publisher.Publisher.heartbeat.Goals as goal

pub returns : goal.returns
returns c =
    let f = c.self.inside in
    let bytes = c.bytes.result.now in
    let before : PublisherState = record { journal = f.journal; limit = f.limit; sent = f.sent } in
    let begun =
    ap (λ (p : PackerState). p.begun) c.start.ensures
    ∙ ap (λ (s : Session). Open s (f.sent + 1) []) c.session.ensures
    in
    let lent =
    lends_heartbeat before c.start.new.self.begun bytes (sym c.if-is_closed.ensures) begun c.bytes.ensures.spelled
    in
    let truth = heartbeat_true before bytes c.self.invariant.1 lent in (
      (refl, (λ _. tt), c.self.view_is),
      record {
        after = tt;
        lent = subst (λ (p : PublisherState). Lends (next_heartbeat p) (Some bytes)) c.self.view_is lent;
        within = omega (
          arith,
          c.bytes.ensures.within,
          ap (λ (p : PackerState). p.limit) c.start.ensures,
          c.self.invariant.0,
          ap (λ (p : PublisherState). p.limit) c.self.view_is,
        );
        truth = subst (λ (p : PublisherState). IsTrueDatagram p.journal bytes) c.self.view_is truth;
      },
    )
