use Rattle.std.proofs.Common.{◌≡◌, ◌+◌, ℕ, false, List, ◌++◌, length, refl, ap, subst, ◌∙◌, arith}
use Rattle.mold_durable.specs.DurableJournal.{DurableState, IsBeforeOrAfter, IsSettled}
use Rattle.mold_durable.specs.Group.{GroupState, IsTextOf}
use Rattle.mold_durable.specs.Storage.{LeavesOnly}
use Rattle.mold_durable.proofs.CommitLemmas.{all_listed, moments_of, settled_after}
use Rattle.mold_durable.proofs.durable_journal.DurableJournal.put.Goals as goal

pub returns-in-Err-clause-any_moment : goal.returns-in-Err-clause-any_moment
returns-in-Err-clause-any_moment g c =
    let f = c.self.inside in
    let unclosed : f.closed ≡ false = ap (λ (s : DurableState g.row.S.Denot). s.closed) c.self.view_is ∙ c.requires.open in
    let is_text = subst (λ (s : GroupState). IsTextOf s c.text-text.result.now) c.set_closes.ensures c.text-text.ensures in
    let i = c.self.invariant in
    subst (λ (s : DurableState g.row.S.Denot). (messages : List (List ℕ)) →
    IsSettled g.S.Storage.shows g.S.Storage.may_leave s messages →
    LeavesOnly g.S.Storage.moment g.S.Storage.left_since s.storage c.put_after_gate.new.storage
    (IsBeforeOrAfter s.session messages false (messages ++ s.waiting) c.args.closes)) c.self.view_is
    (λ messages settled.
    moments_of g.S.Storage.shows g.S.Storage.may_leave g.S.Storage.moment g.S.Storage.left_since _
    c.put_after_gate.new.storage messages c.args.closes c.text-text.result.now settled unclosed is_text
    (all_listed messages f.group.messages f.committed f.max_message settled.listed settled.counted i.few i.most i.each)
    c.put_after_gate.ensures.any_moment)

pub returns-in-Ok-clause-acknowledged : goal.returns-in-Ok-clause-acknowledged
returns-in-Ok-clause-acknowledged g c =
    let f = c.self.inside in
    let unclosed : f.closed ≡ false = ap (λ (s : DurableState g.row.S.Denot). s.closed) c.self.view_is ∙ c.requires.open in
    let is_text = subst (λ (s : GroupState). IsTextOf s c.text-text.result.now) c.set_closes.ensures c.text-text.ensures in
    let i = c.self.invariant in
    let new : DurableState g.row.S.Denot = record {
      storage = c.put_after_gate.new.storage;
      session = f.session;
      max_message = f.max_message;
      committed = f.committed + c.len.result;
      end = f.end + length c.text-text.result.now;
      closed = c.args.closes;
      waiting = c.clear.new.self.messages;
      broken = f.broken;
    } in
    subst (λ (s : DurableState g.row.S.Denot). (messages : List (List ℕ)) →
    IsSettled g.S.Storage.shows g.S.Storage.may_leave s messages →
    IsSettled g.S.Storage.shows g.S.Storage.may_leave new (messages ++ s.waiting)) c.self.view_is
    (λ messages settled.
    settled_after g.S.Storage.shows g.S.Storage.may_leave _ new messages c.args.closes c.text-text.result.now settled
    unclosed is_text
    (all_listed messages f.group.messages f.committed f.max_message settled.listed settled.counted i.few i.most i.each)
    c.in-Ok.ensures.kept refl refl refl
    (omega (arith, c.len.ensures, ap (λ (s : GroupState). length s.messages) c.set_closes.ensures)))

pub returns-in-Ok-clause-any_moment : goal.returns-in-Ok-clause-any_moment
returns-in-Ok-clause-any_moment g c =
    let f = c.self.inside in
    let unclosed : f.closed ≡ false = ap (λ (s : DurableState g.row.S.Denot). s.closed) c.self.view_is ∙ c.requires.open in
    let is_text = subst (λ (s : GroupState). IsTextOf s c.text-text.result.now) c.set_closes.ensures c.text-text.ensures in
    let i = c.self.invariant in
    subst (λ (s : DurableState g.row.S.Denot). (messages : List (List ℕ)) →
    IsSettled g.S.Storage.shows g.S.Storage.may_leave s messages →
    LeavesOnly g.S.Storage.moment g.S.Storage.left_since s.storage c.put_after_gate.new.storage
    (IsBeforeOrAfter s.session messages false (messages ++ s.waiting) c.args.closes)) c.self.view_is
    (λ messages settled.
    moments_of g.S.Storage.shows g.S.Storage.may_leave g.S.Storage.moment g.S.Storage.left_since _
    c.put_after_gate.new.storage messages c.args.closes c.text-text.result.now settled unclosed is_text
    (all_listed messages f.group.messages f.committed f.max_message settled.listed settled.counted i.few i.most i.each)
    c.put_after_gate.ensures.any_moment)
