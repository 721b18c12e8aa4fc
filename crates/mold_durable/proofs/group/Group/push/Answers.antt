use Rattle.std.proofs.Common.{◌≡◌, ◌+◌, ℕ, Bool, List, [], ◌∷◌, ◌++◌, false, ap, subst, sym, ◌∙◌}
use Rattle.mold_durable.specs.Group.{GroupState, IsGroup}
use Rattle.mold_durable.proofs.GroupLemmas.{made_push}
use Rattle.mold_durable.proofs.group.Group.push.Goals as goal

pub invariant_of-self-2 : goal.invariant_of-self-2
invariant_of-self-2 c =
    let f = c.self.inside in
    let open_group : f.closes ≡ false = ap (λ (t : GroupState). t.closes) c.self.view_is ∙ c.requires.open in
    let group = subst (λ (b : Bool). IsGroup f.count b f.bytes.items) open_group c.self.invariant in
    let is = made_push f.count f.bytes.items c.put_record.new.bytes.items c.args.message.now group c.requires.short
    c.in_ok-put_record.ensures.put in
    subst (λ (b : Bool). IsGroup (f.count + 1) b c.put_record.new.bytes.items) (sym open_group) is.group

pub returns-clause-added : goal.returns-clause-added
returns-clause-added c =
    let f = c.self.inside in
    let open_group : f.closes ≡ false = ap (λ (t : GroupState). t.closes) c.self.view_is ∙ c.requires.open in
    let group = subst (λ (b : Bool). IsGroup f.count b f.bytes.items) open_group c.self.invariant in
    let is = made_push f.count f.bytes.items c.put_record.new.bytes.items c.args.message.now group c.requires.short
    c.in_ok-put_record.ensures.put in
    ap (λ (t : List (List ℕ)). record { messages = t; closes = f.closes }) is.same
    ∙ ap (λ (t : GroupState). record t { messages = t.messages ++ c.args.message.now ∷ [] }) c.self.view_is
