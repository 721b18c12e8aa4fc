use Rattle.std.proofs.Common.{◌≡◌, Bool, [], ℕ, ap, inr, length, subst, sym}
use Rattle.std.specs.Prelude.{IfOk}
use Rattle.mold_session.specs.Journal.{JournalState}
use Rattle.std.proofs.lemmas.Result.{IfOk-weaker, on_err_weaker}
use Rattle.mold_devices.proofs.LineLemmas.{on_err}
use Rattle.mold_feeder.specs.Feeding.{MayClose, MayCloseAfter, closes_at, grown, state_of}
use Rattle.mold_feeder.specs.Input.{entries_of_rest}
use Rattle.mold_feeder.specs.Taking.{TakesAfter, TakesInput, TakesPart, TakesYet, reopened}
use Rattle.mold_feeder.specs.Comparison.{ComparesAll}
use Rattle.mold_feeder.specs.JournalMessages.{HasMessages}
use Rattle.mold_feeder.specs.declared.compared.Compared.TheVariants.{Same}
use Rattle.mold_feeder.specs.declared.feed_stop.FeedStop.TheVariants as stop
use Rattle.mold_feeder.proofs.TakingLemmas.{all_same, is_not_same, takes_behind, yet_none}
use Rattle.mold_feeder.proofs.FeedingLemmas.{broken_now, broken_then, broken_weaker, fed_then}
use Rattle.mold_feeder.proofs.feed.Feed.run.Goals as goal

pub returns-clause-fed : goal.returns-clause-fed
returns-clause-fed g c = λ life is.
    let one = c.in_ok-number.ensures.fed life is in
    IfOk-weaker c.publish_all-2.result _ _
    (λ stop next. (
      next.0,
      fed_then g.S.Storage.shows g.S.Storage.may_leave g.S.Storage.moment g.S.Storage.left_since g.S.Storage.failed
          g.L.PortSet.modeled
          g.D.Datagrams.modeled c.args.options.now.lines life [] next.0 (closes_at c.args.options.now.end stop)
          (state_of g.L.PortSet.state g.D.Datagrams.port c.args.self.now) (state_of g.L.PortSet.state g.D.Datagrams.port c.compare.new.self)
          (state_of g.L.PortSet.state g.D.Datagrams.port c.publish_all-2.new.self) one (next.1),
    ))
    (c.publish_all-2.ensures.fed (grown life []) one.rests)

pub returns-then-options-clause-taken : goal.returns-then-options-clause-taken
returns-then-options-clause-taken g c = λ life is.
    let new = c.publish_all.new.self.feeder.publisher.publisher.journal in
    let begun : c.count-begun.result ≡ length c.args.self.now.feeder.publisher.publisher.journal.messages =
    c.count-begun.ensures.value in
    subst (λ (a : Bool). IfOk c.publish_all.result (TakesInput (HasMessages g.J.Source.left c.args.journal.now c.args.self.now.feeder.publisher.publisher.journal.messages 1) a g.M.MessageReader.input_kind c.args.self.now.feeder.publisher.publisher.journal
    (reopened c.args.self.now.feeder.publisher.publisher.journal new) (entries_of_rest g.M.InputReader.unread g.K.Source.left g.M.MessageReader.entries c.args.self.now.input))) (sym c.if-options.true)
    (subst (λ (n : ℕ). IfOk c.publish_all.result (TakesAfter g.M.MessageReader.input_kind n c.args.self.now.feeder.publisher.publisher.journal
    (reopened c.args.self.now.feeder.publisher.publisher.journal new) (entries_of_rest g.M.InputReader.unread g.K.Source.left g.M.MessageReader.entries c.args.self.now.input))) begun
    (c.publish_all.ensures.taken life is))

pub returns-then-not-is_same-clause-taken : goal.returns-then-not-is_same-clause-taken
returns-then-not-is_same-clause-taken g c = λ life is.
    let test = c.if-not-is_same.true in
    let same = c.is_same.ensures in
    subst (λ (a : Bool). TakesInput (HasMessages g.J.Source.left c.args.journal.now c.args.self.now.feeder.publisher.publisher.journal.messages 1) a g.M.MessageReader.input_kind c.args.self.now.feeder.publisher.publisher.journal
    (reopened c.args.self.now.feeder.publisher.publisher.journal c.compare.new.self.feeder.publisher.publisher.journal) (entries_of_rest g.M.InputReader.unread g.K.Source.left g.M.MessageReader.entries c.args.self.now.input)
    (stop.Other c.in_ok-number.number c.in_ok-number.compared)) (sym c.if-options.false) (
      ap (reopened c.args.self.now.feeder.publisher.publisher.journal) c.in_ok-number.ensures.journal,
      (
        is_not_same c.in_ok-number.compared (cc),
        ((entries_of_rest g.M.InputReader.unread g.K.Source.left g.M.MessageReader.entries c.compare.new.self.input), c.in_ok-number.ensures.compared),
      ),
    )

pub returns-clause-taken : goal.returns-clause-taken
returns-clause-taken g c = λ life is.
    let new = c.publish_all-2.new.self.feeder.publisher.publisher.journal in
    let test = c.if-not-is_same.false in
    let same = c.is_same.ensures in
    IfOk-weaker c.publish_all-2.result _ _
    (λ stop takes.
    subst (λ (a : Bool). TakesInput (HasMessages g.J.Source.left c.args.journal.now c.args.self.now.feeder.publisher.publisher.journal.messages 1) a g.M.MessageReader.input_kind c.args.self.now.feeder.publisher.publisher.journal
    (reopened c.args.self.now.feeder.publisher.publisher.journal new) (entries_of_rest g.M.InputReader.unread g.K.Source.left g.M.MessageReader.entries c.args.self.now.input) stop) (sym c.if-options.false)
    (takes_behind (HasMessages g.J.Source.left c.args.journal.now c.args.self.now.feeder.publisher.publisher.journal.messages 1) g.M.MessageReader.input_kind c.args.self.now.feeder.publisher.publisher.journal (reopened c.args.self.now.feeder.publisher.publisher.journal new)
    (entries_of_rest g.M.InputReader.unread g.K.Source.left g.M.MessageReader.entries c.args.self.now.input) (entries_of_rest g.M.InputReader.unread g.K.Source.left g.M.MessageReader.entries c.compare.new.self.input)
    c.in_ok-number.number c.in_ok-number.compared stop (all_same c.in_ok-number.compared (cc))
    c.in_ok-number.ensures.compared
    (subst (λ (j : JournalState). TakesAfter g.M.MessageReader.input_kind 0 j (reopened j new)
    (entries_of_rest g.M.InputReader.unread g.K.Source.left g.M.MessageReader.entries c.compare.new.self.input) stop)
    c.in_ok-number.ensures.journal takes)))
    (c.publish_all-2.ensures.taken (grown life []) (c.in_ok-number.ensures.fed life is).rests)

pub returns-in_err-number-clause-broken : goal.returns-in_err-number-clause-broken
returns-in_err-number-clause-broken g c = λ life is.
    on_err _
    (broken_now g.S.Storage.shows g.S.Storage.may_leave g.S.Storage.moment g.S.Storage.left_since g.S.Storage.failed
    g.L.PortSet.modeled
    g.D.Datagrams.modeled c.args.options.now.lines g.met.S.Storage.only_now
    (TakesYet (HasMessages g.J.Source.left c.args.journal.now c.args.self.now.feeder.publisher.publisher.journal.messages 1) c.args.options.now.appends g.M.MessageReader.input_kind c.args.self.now.feeder.publisher.publisher.journal
    (entries_of_rest g.M.InputReader.unread g.K.Source.left g.M.MessageReader.entries c.args.self.now.input))
    (MayClose (HasMessages g.J.Source.left c.args.journal.now c.args.self.now.feeder.publisher.publisher.journal.messages 1) c.args.options.now.end c.args.options.now.appends g.M.MessageReader.input_kind
    c.args.self.now.feeder.publisher.publisher.journal
    (entries_of_rest g.M.InputReader.unread g.K.Source.left g.M.MessageReader.entries c.args.self.now.input)) life []
    (state_of g.L.PortSet.state g.D.Datagrams.port c.args.self.now)
    (state_of g.L.PortSet.state g.D.Datagrams.port c.compare.new.self)
    (yet_none (HasMessages g.J.Source.left c.args.journal.now c.args.self.now.feeder.publisher.publisher.journal.messages 1) c.args.options.now.appends g.M.MessageReader.input_kind c.args.self.now.feeder.publisher.publisher.journal
    c.compare.new.self.feeder.publisher.publisher.journal
    (entries_of_rest g.M.InputReader.unread g.K.Source.left g.M.MessageReader.entries c.args.self.now.input)
    c.compare.ensures.journal)
    (c.compare.ensures.fed life is))

pub returns-then-options-clause-broken : goal.returns-then-options-clause-broken
returns-then-options-clause-broken g c = λ life is.
    let old = c.args.self.now.feeder.publisher.publisher.journal in
    let kind = g.M.MessageReader.input_kind in
    let known =
    entries_of_rest g.M.InputReader.unread g.K.Source.left g.M.MessageReader.entries c.args.self.now.input in
    let begun : c.count-begun.result ≡ length old.messages =
    c.count-begun.ensures.value in
    on_err_weaker c.publish_all.result
    (broken_weaker g.S.Storage.shows g.S.Storage.may_leave g.S.Storage.moment g.S.Storage.left_since g.S.Storage.failed
    g.L.PortSet.modeled
    g.D.Datagrams.modeled c.args.options.now.lines (TakesYet (HasMessages g.J.Source.left c.args.journal.now c.args.self.now.feeder.publisher.publisher.journal.messages 1) c.args.options.now.appends g.M.MessageReader.input_kind
    c.args.self.now.feeder.publisher.publisher.journal
    (entries_of_rest g.M.InputReader.unread g.K.Source.left g.M.MessageReader.entries c.args.self.now.input))
    (MayClose (HasMessages g.J.Source.left c.args.journal.now c.args.self.now.feeder.publisher.publisher.journal.messages 1) c.args.options.now.end c.args.options.now.appends g.M.MessageReader.input_kind
    c.args.self.now.feeder.publisher.publisher.journal
    (entries_of_rest g.M.InputReader.unread g.K.Source.left g.M.MessageReader.entries c.args.self.now.input)) life
    (TakesPart kind old known)
    (MayCloseAfter c.args.options.now.end kind c.count-begun.result old known)
    (state_of g.L.PortSet.state g.D.Datagrams.port c.args.self.now)
    (state_of g.L.PortSet.state g.D.Datagrams.port c.publish_all.new.self)
    (λ journal part. subst (λ (a : Bool). TakesYet (HasMessages g.J.Source.left c.args.journal.now c.args.self.now.feeder.publisher.publisher.journal.messages 1) a kind old known journal) (sym c.if-options.true) part)
    (λ journal may. (
      may.0,
      subst (λ (a : Bool). TakesInput (HasMessages g.J.Source.left c.args.journal.now c.args.self.now.feeder.publisher.publisher.journal.messages 1) a kind old (reopened old journal) known stop.Ended) (sym c.if-options.true)
          (subst (λ (n : ℕ). TakesAfter kind n old (reopened old journal) known stop.Ended) begun may.1),
    )))
    (c.publish_all.ensures.broken life is)

pub returns-clause-broken : goal.returns-clause-broken
returns-clause-broken g c = λ life is.
    let old = c.args.self.now.feeder.publisher.publisher.journal in
    let mid = c.compare.new.self.feeder.publisher.publisher.journal in
    let kind = g.M.MessageReader.input_kind in
    let known =
    entries_of_rest g.M.InputReader.unread g.K.Source.left g.M.MessageReader.entries c.args.self.now.input in
    let behind = entries_of_rest g.M.InputReader.unread g.K.Source.left g.M.MessageReader.entries
    c.compare.new.self.input in
    let number = c.in_ok-number.number in
    let found = c.in_ok-number.compared in
    let test = c.if-not-is_same.false in
    let same = c.is_same.ensures in
    let all : found ≡ Same = all_same found (cc) in
    let one = c.in_ok-number.ensures.fed life is in
    on_err_weaker c.publish_all-2.result
    (λ broken.
    broken_then g.S.Storage.shows g.S.Storage.may_leave g.S.Storage.moment g.S.Storage.left_since g.S.Storage.failed
    g.L.PortSet.modeled
    g.D.Datagrams.modeled c.args.options.now.lines (TakesYet (HasMessages g.J.Source.left c.args.journal.now c.args.self.now.feeder.publisher.publisher.journal.messages 1) c.args.options.now.appends g.M.MessageReader.input_kind
    c.args.self.now.feeder.publisher.publisher.journal
    (entries_of_rest g.M.InputReader.unread g.K.Source.left g.M.MessageReader.entries c.args.self.now.input))
    (MayClose (HasMessages g.J.Source.left c.args.journal.now c.args.self.now.feeder.publisher.publisher.journal.messages 1) c.args.options.now.end c.args.options.now.appends g.M.MessageReader.input_kind
    c.args.self.now.feeder.publisher.publisher.journal
    (entries_of_rest g.M.InputReader.unread g.K.Source.left g.M.MessageReader.entries c.args.self.now.input)) life []
    (state_of g.L.PortSet.state g.D.Datagrams.port c.args.self.now)
    (state_of g.L.PortSet.state g.D.Datagrams.port c.compare.new.self)
    (state_of g.L.PortSet.state g.D.Datagrams.port c.publish_all-2.new.self) one
    (broken_weaker g.S.Storage.shows g.S.Storage.may_leave g.S.Storage.moment g.S.Storage.left_since g.S.Storage.failed
    g.L.PortSet.modeled
    g.D.Datagrams.modeled c.args.options.now.lines (TakesYet (HasMessages g.J.Source.left c.args.journal.now c.args.self.now.feeder.publisher.publisher.journal.messages 1) c.args.options.now.appends g.M.MessageReader.input_kind
    c.args.self.now.feeder.publisher.publisher.journal
    (entries_of_rest g.M.InputReader.unread g.K.Source.left g.M.MessageReader.entries c.args.self.now.input))
    (MayClose (HasMessages g.J.Source.left c.args.journal.now c.args.self.now.feeder.publisher.publisher.journal.messages 1) c.args.options.now.end c.args.options.now.appends g.M.MessageReader.input_kind
    c.args.self.now.feeder.publisher.publisher.journal
    (entries_of_rest g.M.InputReader.unread g.K.Source.left g.M.MessageReader.entries c.args.self.now.input))
    (grown life []) (TakesPart kind mid behind)
    (MayCloseAfter c.args.options.now.end kind 0 mid behind)
    (state_of g.L.PortSet.state g.D.Datagrams.port c.compare.new.self)
    (state_of g.L.PortSet.state g.D.Datagrams.port c.publish_all-2.new.self)
    (λ journal part.
    subst (λ (a : Bool). TakesYet (HasMessages g.J.Source.left c.args.journal.now c.args.self.now.feeder.publisher.publisher.journal.messages 1) a kind old known journal) (sym c.if-options.false)
    (inr (
      number,
      (
        behind,
        (
          (λ has. subst (ComparesAll old 1 number known behind) all (c.in_ok-number.ensures.compared has)),
          subst (λ (j : JournalState). TakesPart kind j behind journal) c.compare.ensures.journal part,
        ),
      ),
    )))
    (λ journal may. (
      may.0,
      subst (λ (a : Bool). TakesInput (HasMessages g.J.Source.left c.args.journal.now c.args.self.now.feeder.publisher.publisher.journal.messages 1) a kind old (reopened old journal) known stop.Ended) (sym c.if-options.false)
          (takes_behind (HasMessages g.J.Source.left c.args.journal.now c.args.self.now.feeder.publisher.publisher.journal.messages 1) kind old (reopened old journal) known behind number found stop.Ended all
          c.in_ok-number.ensures.compared
          (subst (λ (j : JournalState). TakesAfter kind 0 j (reopened j journal) behind stop.Ended)
          c.compare.ensures.journal may.1)),
    )) broken))
    (c.publish_all-2.ensures.broken (grown life []) one.rests)
