use Rattle.std.proofs.Common.{◌≡◌, ◌∙◌, IfNone, IfSome, List, arith, subst, sym, true}
use Rattle.mold_pacing.specs.declared.flight.Flight.{Flight}
use Rattle.mold_pacing.specs.Flight.{is_over, waits_until}
use Rattle.std.specs.List.{list_all, list_any}
use Rattle.mold_pacing.proofs.RangeLemmas.{cannot_send, sends_by}
use Rattle.mold_pacing.proofs.pacer.Pacer.can_send.Goals as goal

pub returns-then-now-self : goal.returns-then-now-self
returns-then-now-self c =
    let old = c.args.self.now in
    cannot_send old old.bounds.over (omega (arith, c.if-len-self.false, c.len.ensures, old.flights.ok.0)) c.if-now-self.true old.waits

pub returns : goal.returns
returns c =
    let old = c.args.self.now in
    let items = c.deref.ensures.value in
    sends_by old c.least_until.result c.is_none.result c.is_none.ensures c.least_until.ensures.some
    (subst (λ (fs : List Flight). IfSome c.least_until.result (λ time. list_all (waits_until time) fs ≡ true)) items
    c.least_until.ensures.waits)
    (subst (λ (fs : List Flight). IfNone c.least_until.result (list_any (is_over old.state.now) fs ≡ true)) items
    c.least_until.ensures.none)
    (omega (arith, c.if-len-self.false, c.len.ensures, old.flights.ok.0)) (sym c.is_open.ensures ∙ c.if-not-is_open.false)
