use Rattle.std.proofs.Common.{arith, ◌≡◌, ◌<◌, ◌-◌, ℕ, List, ◌++◌, length, take, drop, take-append-drop, length-append}
use Rattle.std.proofs.Common.{append_assoc, ap, sym, ◌∙◌}
use Rattle.std.proofs.lemmas.Grind.{common_steps}
use Rattle.std.proofs.lemmas.List.{take_rest}
use Rattle.std.proofs.KnownBytes.{Appends-trans}
use Rattle.mold_devices.proofs.sink.write_all.Goals as goal

-- A prefix of the rest moves to the bytes that are done.
moved : (all done rest : List ℕ) (n : ℕ) → all ≡ done ++ rest →
    all ≡ (done ++ take n rest) ++ take (length rest - n) (drop n rest)
moved all done rest n e =
    e ∙ ap (λ l. done ++ l) (sym (take-append-drop n rest) ∙ ap (λ l. take n rest ++ l) (sym (take_rest rest n)))
    ∙ sym (append_assoc done (take n rest) (take (length rest - n) (drop n rest)))

-- If the rest is not empty, neither are all the bytes.
some : (all done rest : List ℕ) → all ≡ done ++ rest → 0 < length rest → 0 < length all
some all done rest e h = omega (arith, ap length e, length-append done rest)

pub loop-rest-preserved : goal.loop-rest-preserved
loop-rest-preserved g c =
    let so_far = c.loop-rest.invariant in
    let rest = c.loop-rest.rest.now in
    let count = c.in_ok-count.count in
    let left : 0 < length rest = grind (arith, common_steps) in
    let there : 0 < length c.args.bytes.now = some _ so_far.done rest so_far.parts left in
    record {
      done = so_far.done ++ take count rest;
      parts = moved c.args.bytes.now so_far.done rest count so_far.parts;
      taken = Appends-trans _ _ _ so_far.done (take count rest) so_far.taken c.in_ok-count.ensures.bytes;
      counted = c.in_ok-count.ensures.failures ∙ so_far.counted;
      live = c.in_ok-count.ensures.live ∙ so_far.live;
      untouched = λ none. absurd (omega (arith, there, none));
    }
