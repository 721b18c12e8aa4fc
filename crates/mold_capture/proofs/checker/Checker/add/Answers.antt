use Rattle.std.proofs.Common.{max, sym, ap, rules, subst, ◌∙◌}
use Rattle.mold_wire.specs.Packet.{messages_of}
use Rattle.mold_rule.specs.Refusals.{conflict_at}
use Rattle.mold_capture.specs.Refusal.{conflict}
use Rattle.mold_capture.specs.Seen.{IsSound, seen_by}
use Rattle.mold_capture.proofs.JoinLemmas.{still_sound}
use Rattle.mold_capture.proofs.RefusalLemmas.{joins_from}
use Rattle.mold_capture.proofs.CheckerLemmas.{Joins, joins_is, read_early, read_late, read_joined}
use Rattle.mold_capture.proofs.checker.Checker.add.Goals as goal

pub returns-in_err-top-clause-refused : goal.returns-in_err-top-clause-refused
returns-in_err-top-clause-refused c =
    let f = c.self.inside in
    let refused = read_early (seen_by f.session f.known f.ended f.carried) c.args.self.now c.args.bytes.now
    c.in-Ok.packet c.in_err-top.field-0.0 c.self.view_is (sym c.decode.ensures.exact ∙ c.in-Ok.is)
    c.in_err-top.ensures.refused c.in_err-top.ensures.cause in
    search (rules, refused)

pub returns-in_err-join_messages-clause-refused : goal.returns-in_err-join_messages-clause-refused
returns-in_err-join_messages-clause-refused c =
    let f = c.self.inside in
    let refused = read_late (seen_by f.session f.known f.ended f.carried) c.args.self.now c.args.bytes.now
    c.in-Ok.packet c.self.view_is (sym c.decode.ensures.exact ∙ c.in-Ok.is) c.in_ok-top.ensures.passed
    ∙ c.in_err-join_messages.ensures.refused in
    search (rules, refused)

-- The checker's fields are the old ones joined with the packet.
joined_parts : (c : goal.After-ended-1) → Joins c.self.inside.session c.or-self-inside.result c.self.inside.known
    c.max-self-inside.result c.self.inside.ended c.known_end-ended.result c.self.inside.carried
    c.join_messages.new.carried c.in-Ok.packet
joined_parts c = record {
  session_is = c.or-self-inside.ensures;
  known_is = c.max-self-inside.ensures ∙ ap (max c.self.inside.known) c.in_ok-top.ensures.top;
  ended_is = c.known_end-ended.ensures;
  pairs_is = c.in_ok-join_messages.ensures.ok;
}

pub invariant_of-self-2 : goal.invariant_of-self-2
invariant_of-self-2 c =
    let f = c.self.inside in
    let before = seen_by f.session f.known f.ended f.carried in
    let other = conflict before.pairs c.in-Ok.packet.sequence (messages_of c.in-Ok.packet.body) in
    let none = c.in_ok-top.ensures.passed other ∙ ap conflict_at c.in_ok-join_messages.ensures.taken in
    subst IsSound (sym (joins_is _ _ _ _ _ _ _ _ c.in-Ok.packet (joined_parts c)))
    (still_sound before c.in-Ok.packet c.self.invariant (joins_from (record {
      none = c.refusal_law.ensures.none;
      admitted = c.refusal_law.ensures.admitted;
      same = c.refusal_law.ensures.same;
    }) before c.in-Ok.packet none))

pub returns-clause-ok : goal.returns-clause-ok
returns-clause-ok c =
    let f = c.self.inside in
    let before = seen_by f.session f.known f.ended f.carried in
    joins_is _ _ _ _ _ _ _ _ c.in-Ok.packet (joined_parts c)
    ∙ read_joined before c.args.self.now c.args.bytes.now c.in-Ok.packet c.self.view_is
    (sym c.decode.ensures.exact ∙ c.in-Ok.is)
