use Rattle.std.proofs.Common.{ℕ, ◌≡◌, ◌+◌, ◌++◌, List, true, take, drop, length, length-append, subst, ap, ◌∙◌, arith}
use Rattle.mold_wire.specs.Block.{block}
use Rattle.mold_wire.specs.Buffer.{over, Holds}
use Rattle.mold_wire.specs.Header.{recounted}
use Rattle.mold_wire.specs.Packer.{with_message}
use Rattle.mold_wire.proofs.PackerLemmas.{added, behind_added}
use Rattle.mold_wire.proofs.buffer.add_in.Goals as goal

pub returns-clause-held : goal.returns-clause-held
returns-clause-held c begun holds =
    let new : List ℕ = c.put_count.new.packet ++ c.put_block.new.out in
    let rest : List ℕ = drop (length c.args.message.now) (drop 2 c.split_at_mut-packet.result.1.now) in
    let laid :
    new ≡ recounted (c.args.count + 1) (take c.args.used c.args.buffer.now) ++ (block c.args.message.now ++ rest) =
    ap (λ (t : List ℕ). t ++ c.put_block.new.out)
    (c.put_count.ensures ∙ ap (recounted (c.args.count + 1)) c.split_at_mut-packet.ensures.front)
    ∙ ap (λ (t : List ℕ). recounted (c.args.count + 1) (take c.args.used c.args.buffer.now) ++ t) c.put_block.ensures
    in
    subst (λ (n : ℕ). Holds (over new n (c.args.count + 1) true) (with_message c.args.message.now begun)) (omega arith)
    (added c.args.used c.args.count c.args.buffer.now new rest c.args.message.now begun holds c.requires.room
    (omega (arith, length-append c.put_count.new.packet c.put_block.new.out)) laid)

pub returns-clause-behind : goal.returns-clause-behind
returns-clause-behind c =
    let old : List ℕ = c.args.buffer.now in
    let new : List ℕ = c.put_count.new.packet ++ c.put_block.new.out in
    let head : List ℕ = recounted (c.args.count + 1) (take c.args.used old) in
    let len : ℕ = length c.args.message.now in
    let laid : new ≡ head ++ (block c.args.message.now ++ drop len (drop 2 (drop c.args.used old))) =
    ap (λ (t : List ℕ). t ++ c.put_block.new.out)
    (c.put_count.ensures ∙ ap (recounted (c.args.count + 1)) c.split_at_mut-packet.ensures.front)
    ∙ ap (λ (t : List ℕ). head ++ t) c.put_block.ensures
    ∙ ap (λ (t : List ℕ). head ++ (block c.args.message.now ++ drop len (drop 2 t))) c.split_at_mut-packet.ensures.back
    in
    subst (λ (n : ℕ). drop n new ≡ drop n old) (omega arith)
    (behind_added c.args.used (c.args.count + 1) old new c.args.message.now c.requires.header
    (omega (arith, c.requires.room)) laid)
