use Rattle.std.proofs.Common.{◌≡◌, inl, ℕ, List, [], ◌∷◌, ◌++◌, length, arith, ap, subst, ◌∙◌, length-append}
use Rattle.mold_durable.specs.Head.{IsNoneOrEmpty}
use Rattle.mold_durable.specs.Storage.{IsWritten, MayTear}
use Rattle.mold_durable.proofs.HeadLemmas.{length-magic_3, zeros, first_torn, first_written, second_torn, second_written, third_torn, third_file}
use Rattle.mold_durable.proofs.MomentLemmas.{joined, weaker}
use Rattle.mold_durable.proofs.head.write_head.Goals as goal

pub returns-in_err-write_synced-2-clause-any_moment : goal.returns-in_err-write_synced-2-clause-any_moment
returns-in_err-write_synced-2-clause-any_moment g c = λ kept.
    let P = IsNoneOrEmpty c.args.session in
    let M = g.S.Storage.moment in
    let L = g.S.Storage.left_since in
    let one = weaker M L c.args.storage.now c.write_synced.new.storage _ P c.write_synced.ensures.any_moment
    (λ b torn. inl (first_torn torn.before b (kept.left torn.before torn.left) torn.torn)) in
    let zero : (b : List ℕ) → g.S.Storage.may_leave c.write_synced.new.storage b → b ≡ zeros = λ b now.
    let from = c.in_ok-write_synced.ensures.durable b now in
    first_written from.0 b (kept.shown from.0 from.1) from.2
    in
    let two = weaker M L c.write_synced.new.storage c.write_synced-2.new.storage _ P c.write_synced-2.ensures.any_moment
    (λ b torn. inl (second_torn _ torn.before b (zero torn.before torn.left) torn.torn)) in
    joined M L c.args.storage.now c.write_synced.new.storage c.write_synced-2.new.storage P one two

pub returns-in_err-write_synced-3-clause-any_moment : goal.returns-in_err-write_synced-3-clause-any_moment
returns-in_err-write_synced-3-clause-any_moment g c = λ kept.
    let P = IsNoneOrEmpty c.args.session in
    let M = g.S.Storage.moment in
    let L = g.S.Storage.left_since in
    let one = weaker M L c.args.storage.now c.write_synced.new.storage _ P c.write_synced.ensures.any_moment
    (λ b torn. inl (first_torn torn.before b (kept.left torn.before torn.left) torn.torn)) in
    let zero : (b : List ℕ) → g.S.Storage.may_leave c.write_synced.new.storage b → b ≡ zeros = λ b now.
    let from = c.in_ok-write_synced.ensures.durable b now in
    first_written from.0 b (kept.shown from.0 from.1) from.2
    in
    let two = weaker M L c.write_synced.new.storage c.write_synced-2.new.storage _ P c.write_synced-2.ensures.any_moment
    (λ b torn. inl (second_torn _ torn.before b (zero torn.before torn.left) torn.torn)) in
    let zero_shown : (b : List ℕ) → g.S.Storage.shows c.write_synced.new.storage b → b ≡ zeros = λ b now.
    let from = c.in_ok-write_synced.ensures.shown b now in
    first_written from.0 b (kept.shown from.0 from.1) from.2
    in
    let name = c.name_and_gate.result in
    let is_name = c.name_and_gate.ensures.bytes in
    let eleven : 11 ≡ length name =
    omega (arith, ap (λ (t : List ℕ). length t) is_name, length-append c.args.session.0 (0 ∷ []), c.name_and_gate.ensures.named) in
    let named : (b : List ℕ) → g.S.Storage.may_leave c.write_synced-2.new.storage b → b ≡ zeros ++ (c.args.session.0 ++ 0 ∷ []) = λ b now.
    let from = c.in_ok-write_synced-2.ensures.durable b now in
    second_written name from.0 b (zero_shown from.0 from.1) from.2 eleven ∙ ap (λ (t : List ℕ). zeros ++ t) is_name
    in
    let eight : length c.magic.result ≡ 8 = ap (λ (t : List ℕ). length t) c.magic.ensures ∙ length-magic_3 in
    let three = weaker M L c.write_synced-2.new.storage c.write_synced-3.new.storage _ P c.write_synced-3.ensures.any_moment
    (λ b torn. third_torn c.args.session torn.before b c.name_and_gate.ensures.named (named torn.before torn.left)
    (subst (λ (n : ℕ). MayTear 0 n torn.before b) eight torn.torn)) in
    joined M L c.args.storage.now c.write_synced-2.new.storage c.write_synced-3.new.storage P
    (joined M L c.args.storage.now c.write_synced.new.storage c.write_synced-2.new.storage P one two) three

pub returns-clause-any_moment : goal.returns-clause-any_moment
returns-clause-any_moment g c = λ kept.
    let P = IsNoneOrEmpty c.args.session in
    let M = g.S.Storage.moment in
    let L = g.S.Storage.left_since in
    let one = weaker M L c.args.storage.now c.write_synced.new.storage _ P c.write_synced.ensures.any_moment
    (λ b torn. inl (first_torn torn.before b (kept.left torn.before torn.left) torn.torn)) in
    let zero : (b : List ℕ) → g.S.Storage.may_leave c.write_synced.new.storage b → b ≡ zeros = λ b now.
    let from = c.in_ok-write_synced.ensures.durable b now in
    first_written from.0 b (kept.shown from.0 from.1) from.2
    in
    let two = weaker M L c.write_synced.new.storage c.write_synced-2.new.storage _ P c.write_synced-2.ensures.any_moment
    (λ b torn. inl (second_torn _ torn.before b (zero torn.before torn.left) torn.torn)) in
    let zero_shown : (b : List ℕ) → g.S.Storage.shows c.write_synced.new.storage b → b ≡ zeros = λ b now.
    let from = c.in_ok-write_synced.ensures.shown b now in
    first_written from.0 b (kept.shown from.0 from.1) from.2
    in
    let name = c.name_and_gate.result in
    let is_name = c.name_and_gate.ensures.bytes in
    let eleven : 11 ≡ length name =
    omega (arith, ap (λ (t : List ℕ). length t) is_name, length-append c.args.session.0 (0 ∷ []), c.name_and_gate.ensures.named) in
    let named : (b : List ℕ) → g.S.Storage.may_leave c.write_synced-2.new.storage b → b ≡ zeros ++ (c.args.session.0 ++ 0 ∷ []) = λ b now.
    let from = c.in_ok-write_synced-2.ensures.durable b now in
    second_written name from.0 b (zero_shown from.0 from.1) from.2 eleven ∙ ap (λ (t : List ℕ). zeros ++ t) is_name
    in
    let eight : length c.magic.result ≡ 8 = ap (λ (t : List ℕ). length t) c.magic.ensures ∙ length-magic_3 in
    let three = weaker M L c.write_synced-2.new.storage c.write_synced-3.new.storage _ P c.write_synced-3.ensures.any_moment
    (λ b torn. third_torn c.args.session torn.before b c.name_and_gate.ensures.named (named torn.before torn.left)
    (subst (λ (n : ℕ). MayTear 0 n torn.before b) eight torn.torn)) in
    joined M L c.args.storage.now c.write_synced-2.new.storage c.write_synced-3.new.storage P
    (joined M L c.args.storage.now c.write_synced.new.storage c.write_synced-2.new.storage P one two) three

pub returns-clause-kept : goal.returns-clause-kept
returns-clause-kept g c = λ kept.
    let zero_shown : (b : List ℕ) → g.S.Storage.shows c.write_synced.new.storage b → b ≡ zeros = λ b now.
    let from = c.in_ok-write_synced.ensures.shown b now in
    first_written from.0 b (kept.shown from.0 from.1) from.2
    in
    let name = c.name_and_gate.result in
    let is_name = c.name_and_gate.ensures.bytes in
    let eleven : 11 ≡ length name =
    omega (arith, ap (λ (t : List ℕ). length t) is_name, length-append c.args.session.0 (0 ∷ []), c.name_and_gate.ensures.named) in
    let named_shown : (b : List ℕ) → g.S.Storage.shows c.write_synced-2.new.storage b → b ≡ zeros ++ (c.args.session.0 ++ 0 ∷ []) = λ b now.
    let from = c.in_ok-write_synced-2.ensures.shown b now in
    second_written name from.0 b (zero_shown from.0 from.1) from.2 eleven ∙ ap (λ (t : List ℕ). zeros ++ t) is_name
    in
    record {
      shown = λ b now.
          let from = c.in_ok-write_synced-3.ensures.shown b now in
          third_file c.args.session from.0 b c.name_and_gate.ensures.named (named_shown from.0 from.1)
          (subst (λ (t : List ℕ). IsWritten 0 t from.0 b) c.magic.ensures from.2);
      left = λ b now.
          let from = c.in_ok-write_synced-3.ensures.durable b now in
          third_file c.args.session from.0 b c.name_and_gate.ensures.named (named_shown from.0 from.1)
          (subst (λ (t : List ℕ). IsWritten 0 t from.0 b) c.magic.ensures from.2);
    }
