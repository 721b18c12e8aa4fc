use Rattle.std.proofs.Common.{ℕ, length, sym, subst, ◌∙◌, arith}
use Rattle.std.specs.Prelude.{Result, Ok, Err, OnErr}
use Rattle.mold_receiver.specs.Keeping.{AreFree, fresh}
use Rattle.mold_receiver.specs.Shelf.{slots_on}
use Rattle.mold_receiver.proofs.KeepLemmas.{filled_none, none_said}
use Rattle.mold_receiver.proofs.PlacedLemmas.{all_fresh}
use Rattle.mold_receiver.proofs.keep.keep_fresh.Goals as goal

pub returns-then-not-has_fresh-clause-filled : goal.returns-then-not-has_fresh-clause-filled
returns-then-not-has_fresh-clause-filled c =
    let slots = slots_on c.args.shelf.now in
    sym (filled_none slots c.args.first c.args.blocks.now
    (none_said (length (fresh slots c.args.first c.args.blocks.now)) c.if-not-has_fresh.ensures.1))

on_err : {T E : Type 0} {P : Type 0} (r : Result T E) → P → OnErr r P
on_err (Ok x) p = tt
on_err (Err e) p = p

pub returns-in_err-keep_all-clause-needed : goal.returns-in_err-keep_all-clause-needed
returns-in_err-keep_all-clause-needed c =
    let slots = slots_on c.args.shelf.now in
    let free : AreFree slots c.args.first (length c.args.blocks.now) =
    subst (λ (n : ℕ). AreFree slots c.args.first n) (c.from.ensures ∙ c.len-count.ensures.length)
    (c.are_free.ensures.0 c.if-are_free.true) in
    on_err c.from_residual.result
    (omega (
      arith,
      all_fresh slots c.args.first c.args.blocks.now free,
      c.len-count.ensures.range.0,
      c.len-count.ensures.length,
    ))

pub returns-then-are_free-clause-count : goal.returns-then-are_free-clause-count
returns-then-are_free-clause-count c =
    let slots = slots_on c.args.shelf.now in
    let free : AreFree slots c.args.first (length c.args.blocks.now) =
    subst (λ (n : ℕ). AreFree slots c.args.first n) (c.from.ensures ∙ c.len-count.ensures.length)
    (c.are_free.ensures.0 c.if-are_free.true) in
    c.from-then-are_free.ensures ∙ c.len-count.ensures.length
    ∙ sym (all_fresh slots c.args.first c.args.blocks.now free)

pub keep_all-requires-clause-free : goal.keep_all-requires-clause-free
keep_all-requires-clause-free c =
    subst (λ (n : ℕ). AreFree (slots_on c.args.shelf.now) c.args.first n) (c.from.ensures ∙ c.len-count.ensures.length)
    (c.are_free.ensures.0 c.if-are_free.true)
