use Rattle.std.proofs.Common.{ℕ, List, ◌++◌, length, refl, ap, ◌∙◌}
use Rattle.std.proofs.lemmas.Result.{on_ok_weaker, on_err_weaker}
use Rattle.mold_session.specs.File.{head_2}
use Rattle.mold_session.proofs.MovingLemmas.{on_err}
use Rattle.mold_session.proofs.SavingLemmas.{saves_none, next_fits, saves_more, saves_front_in_block, saves_front, saves_all, file_saved, file_begun}
use Rattle.mold_session.proofs.saving.save_file.Goals as goal

pub loop-message-init : goal.loop-message-init
loop-message-init g c =
    let messages = c.args.list.now.messages in
    record {
      saves = saves_none (g.K.Sink.held c.args.sink.now) (head_2 c.args.session.0 c.args.closed (length messages))
          messages c.into_iter-message-iterator.result c.keep.new.self
          (c.into_iter-message-iterator.ensures.into_iter_gives ∙ c.iter-message-items.ensures)
          (c.keep.ensures ∙ ap (λ (t : List ℕ). t ++ c.head.result) c.new-buffer.ensures ∙ c.head.ensures.head
          ∙ ap (head_2 c.args.session.0 c.args.closed) c.len.ensures);
      counted = refl;
    }

pub put_block-requires : goal.put_block-requires
put_block-requires g c =
    let messages = c.args.list.now.messages in
    next_fits (g.K.Sink.held c.args.sink.now) (g.K.Sink.held c.loop-message.sink)
    (head_2 c.args.session.0 c.args.closed (length messages)) messages c.loop-message.message-iterator
    c.in-Some.message.now c.next.new.self c.loop-message.buffer c.requires c.in-Some.ensures.steps
    c.loop-message.invariant.saves

pub loop-message-preserved : goal.loop-message-preserved
loop-message-preserved g c =
    let messages = c.args.list.now.messages in
    record {
      saves = saves_more (g.K.Sink.held c.args.sink.now) (g.K.Sink.held c.loop-message.sink)
          (g.K.Sink.held c.put_block.new.sink) (head_2 c.args.session.0 c.args.closed (length messages)) messages
          c.loop-message.message-iterator c.in-Some.message.now c.next.new.self c.loop-message.buffer
          c.put_block.new.buffer c.in-Some.ensures.steps c.loop-message.invariant.saves
          c.in_ok-put_block.ensures.moved;
      counted = c.in_ok-put_block.ensures.failures ∙ c.loop-message.invariant.counted;
    }

pub returns-in_err-put_block-clause-front : goal.returns-in_err-put_block-clause-front
returns-in_err-put_block-clause-front g c =
    let messages = c.args.list.now.messages in
    on_err c.from_residual.result
    (file_begun (g.K.Sink.held c.args.sink.now) (g.K.Sink.held c.put_block.new.sink) c.args.session c.args.closed
    (length messages) messages c.head.ensures.named c.requires refl
    (saves_front_in_block (g.K.Sink.held c.args.sink.now) (g.K.Sink.held c.loop-message.sink)
    (g.K.Sink.held c.put_block.new.sink) (head_2 c.args.session.0 c.args.closed (length messages)) messages
    c.loop-message.message-iterator c.in-Some.message.now c.next.new.self c.loop-message.buffer
    c.in-Some.ensures.steps c.loop-message.invariant.saves c.in_err-put_block.ensures.front))

pub returns-clause-whole : goal.returns-clause-whole
returns-clause-whole g c =
    let messages = c.args.list.now.messages in
    on_ok_weaker c.flush.result
    (λ done. file_saved (g.K.Sink.held c.args.sink.now) (g.K.Sink.held c.flush.new.sink) c.args.session c.args.closed
    (length messages) messages c.head.ensures.named c.requires refl
    (saves_all (g.K.Sink.held c.args.sink.now) (g.K.Sink.held c.loop-message.sink) (g.K.Sink.held c.flush.new.sink)
    (head_2 c.args.session.0 c.args.closed (length messages)) messages c.loop-message.message-iterator
    c.loop-message.buffer c.loop-message.invariant.saves c.in-None.ensures.steps.0 done))
    c.flush.ensures.whole

pub returns-clause-front : goal.returns-clause-front
returns-clause-front g c =
    let messages = c.args.list.now.messages in
    on_err_weaker c.flush.result
    (λ begun. file_begun (g.K.Sink.held c.args.sink.now) (g.K.Sink.held c.flush.new.sink) c.args.session c.args.closed
    (length messages) messages c.head.ensures.named c.requires refl
    (saves_front (g.K.Sink.held c.args.sink.now) (g.K.Sink.held c.loop-message.sink) (g.K.Sink.held c.flush.new.sink)
    (head_2 c.args.session.0 c.args.closed (length messages)) messages c.loop-message.message-iterator
    c.loop-message.buffer c.loop-message.invariant.saves begun))
    c.flush.ensures.front
