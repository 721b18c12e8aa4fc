use Rattle.std.proofs.Common.{◌⊎◌, inl, ℕ, List, ◌∷◌, ◌++◌}
use Rattle.mold_durable.specs.Gate.{IsShutAfter, BeginsWith, IsStaged}
use Rattle.mold_durable.proofs.GateLemmas.{torn_after, written_after, torn_gate, written_gate}
use Rattle.mold_durable.proofs.MomentLemmas.{joined, weaker}
use Rattle.mold_durable.proofs.gate.put_after_gate.Goals as goal

pub returns-in_err-write_synced-clause-any_moment : goal.returns-in_err-write_synced-clause-any_moment
returns-in_err-write_synced-clause-any_moment g c = λ prefix ends kept.
    let P : List ℕ → Type 0 = λ b. IsShutAfter prefix b ⊎ BeginsWith (prefix ++ 1 ∷ c.args.text.now) b in
    weaker g.S.Storage.moment g.S.Storage.left_since c.args.storage.now c.write_synced.new.storage _ P
    c.write_synced.ensures.any_moment
    (λ b torn. inl (torn_after prefix c.args.gate ends _ torn.before b (kept.left torn.before torn.left) torn.torn))

pub returns-in_err-write_synced-2-clause-any_moment : goal.returns-in_err-write_synced-2-clause-any_moment
returns-in_err-write_synced-2-clause-any_moment g c = λ prefix ends kept.
    let P : List ℕ → Type 0 = λ b. IsShutAfter prefix b ⊎ BeginsWith (prefix ++ 1 ∷ c.args.text.now) b in
    let first = weaker g.S.Storage.moment g.S.Storage.left_since c.args.storage.now c.write_synced.new.storage _ P
    c.write_synced.ensures.any_moment
    (λ b torn. inl (torn_after prefix c.args.gate ends _ torn.before b (kept.left torn.before torn.left) torn.torn))
    in
    let staged : (b : List ℕ) → g.S.Storage.may_leave c.write_synced.new.storage b → IsStaged prefix c.args.text.now b = λ b now.
    let from = c.in_ok-write_synced.ensures.durable b now in
    written_after prefix c.args.gate ends c.args.text.now from.0 b (kept.shown from.0 from.1) from.2
    in
    let second = weaker g.S.Storage.moment g.S.Storage.left_since c.write_synced.new.storage c.write_synced-2.new.storage _ P
    c.write_synced-2.ensures.any_moment
    (λ b torn. torn_gate prefix c.args.gate ends c.args.text.now torn.before b (staged torn.before torn.left) torn.torn)
    in
    joined g.S.Storage.moment g.S.Storage.left_since c.args.storage.now c.write_synced.new.storage c.write_synced-2.new.storage P first second

pub returns-clause-any_moment : goal.returns-clause-any_moment
returns-clause-any_moment g c = λ prefix ends kept.
    let P : List ℕ → Type 0 = λ b. IsShutAfter prefix b ⊎ BeginsWith (prefix ++ 1 ∷ c.args.text.now) b in
    let first = weaker g.S.Storage.moment g.S.Storage.left_since c.args.storage.now c.write_synced.new.storage _ P
    c.write_synced.ensures.any_moment
    (λ b torn. inl (torn_after prefix c.args.gate ends _ torn.before b (kept.left torn.before torn.left) torn.torn))
    in
    let staged : (b : List ℕ) → g.S.Storage.may_leave c.write_synced.new.storage b → IsStaged prefix c.args.text.now b = λ b now.
    let from = c.in_ok-write_synced.ensures.durable b now in
    written_after prefix c.args.gate ends c.args.text.now from.0 b (kept.shown from.0 from.1) from.2
    in
    let second = weaker g.S.Storage.moment g.S.Storage.left_since c.write_synced.new.storage c.write_synced-2.new.storage _ P
    c.write_synced-2.ensures.any_moment
    (λ b torn. torn_gate prefix c.args.gate ends c.args.text.now torn.before b (staged torn.before torn.left) torn.torn)
    in
    joined g.S.Storage.moment g.S.Storage.left_since c.args.storage.now c.write_synced.new.storage c.write_synced-2.new.storage P first second

pub returns-clause-kept : goal.returns-clause-kept
returns-clause-kept g c = λ prefix ends kept.
    let staged : (b : List ℕ) → g.S.Storage.shows c.write_synced.new.storage b → IsStaged prefix c.args.text.now b = λ b now.
    let from = c.in_ok-write_synced.ensures.shown b now in
    written_after prefix c.args.gate ends c.args.text.now from.0 b (kept.shown from.0 from.1) from.2
    in
    record {
      shown = λ b now.
          let from = c.in_ok-write_synced-2.ensures.shown b now in
          written_gate prefix c.args.gate ends c.args.text.now from.0 b (staged from.0 from.1) from.2;
      left = λ b now.
          let from = c.in_ok-write_synced-2.ensures.durable b now in
          written_gate prefix c.args.gate ends c.args.text.now from.0 b (staged from.0 from.1) from.2;
    }
