use Rattle.std.proofs.Common.{ap, refl, sym, ◌∙◌, ◌++◌, Bool, List, ℕ, Some, None}
use Rattle.mold_durable.specs.Follower.{FollowerState}
use Rattle.mold_serve.specs.FileError.{device_fault}
use Rattle.mold_follow.specs.Dumping.{BreaksAfter, EndsAfter, EndsOrGoesOn, GoesOn}
use Rattle.mold_devices.specs.declared.fault.CommandFault.TheVariants as command
use Rattle.mold_follow.proofs.DumpingLemmas.{idle_break, if_err, memory_not_read, not_of_device, with_closed, with_list}
use Rattle.mold_follow.proofs.DumpingLemmas.{without_news}
use Rattle.mold_follow.proofs.dumping.take_look.Goals as goal

pub returns-in_err-status-in-Err-clause-broken : goal.returns-in_err-status-in-Err-clause-broken
returns-in_err-status-in-Err-clause-broken g c = λ told start first counted going.
    if_err c.from_residual.result c.in_err-status-in-Err.field-0.0 _ c.from_residual.ensures.1
    (without_news
    (λ (messages : List (List ℕ)). BreaksAfter c.args.options messages c.in_err-status-in-Err.field-0.0
    (start, g.K.Sink.held c.end_refused.new.devices.sink))
    told _ (ap (λ (f : FollowerState _). f.news) c.in-Err.ensures.same)
    (c.in_err-status-in-Err.ensures.broken told start first going))

pub returns-in-Err-clause-looks : goal.returns-in-Err-clause-looks
returns-in-Err-clause-looks g c = λ told start first counted going. record {
  fault = Some c.load_error.result;
  proper = λ writer bytes writes within follows.
      absurd
      (not_of_device c.in-Err.error (ap device_fault (sym c.load_error.ensures) ∙ c.in_ok-status-in-Err.ensures.refused)
      (c.in-Err.ensures.accepted writer bytes told writes within follows));
  left =
      without_news
      (λ (messages : List (List ℕ)).
      EndsAfter c.args.options messages (Some c.load_error.result) c.poll.new.self.closed c.in_ok-status-in-Err.status
      (start, g.K.Sink.held c.end_refused.new.devices.sink) (first, g.E.Sink.held c.end_refused.new.devices.errors))
      told _ (ap (λ (f : FollowerState _). f.news) c.in-Err.ensures.same)
      (c.in_ok-status-in-Err.ensures.left told start first c.poll.new.self.closed going);
}

pub returns-in_default-clause-broken : goal.returns-in_default-clause-broken
returns-in_default-clause-broken g c = λ told start first counted going.
    idle_break c.args.options told start _ first _ going c.poll.new.self.news command.Memory memory_not_read

pub returns-in_err-status-clause-broken : goal.returns-in_err-status-clause-broken
returns-in_err-status-clause-broken g c = λ told start first counted going.
    if_err c.from_residual-in_err-status.result c.in_err-status.field-0.0 _ c.from_residual-in_err-status.ensures.1
    (with_list
    (λ (messages : List (List ℕ)). BreaksAfter c.args.options messages c.in_err-status.field-0.0
    (start, g.K.Sink.held c.write_news.new.devices.sink))
    told _ _ c.news-gained.ensures (c.in_err-status.ensures.broken told start first counted going))

pub returns-in-Some-2-clause-looks : goal.returns-in-Some-2-clause-looks
returns-in-Some-2-clause-looks g c = λ told start first counted going. record {
  fault = None;
  proper = λ writer bytes writes within follows. refl;
  left =
      with_closed
      (λ (closed : Bool).
      EndsOrGoesOn c.args.options (told ++ c.poll.new.self.news) None closed
      (start, g.K.Sink.held c.write_news.new.devices.sink) (first, g.E.Sink.held c.write_news.new.devices.errors)
      (Some c.in-Some-2.status))
      c.is_closed.result c.poll.new.self.closed c.is_closed.ensures
      (with_list
      (λ (messages : List (List ℕ)).
      EndsOrGoesOn c.args.options messages None c.is_closed.result
      (start, g.K.Sink.held c.write_news.new.devices.sink) (first, g.E.Sink.held c.write_news.new.devices.errors)
      (Some c.in-Some-2.status))
      told _ _ c.news-gained.ensures
      (rw c.in-Some-2.is at (c.in_ok-status.ensures.left told start first counted going)));
}

pub returns-in-None-clause-looks : goal.returns-in-None-clause-looks
returns-in-None-clause-looks g c = λ told start first counted going. record {
  fault = None;
  proper = λ writer bytes writes within follows. refl;
  left =
      with_list
      (λ (messages : List (List ℕ)).
      GoesOn c.args.options messages
      (start, g.K.Sink.held c.write_news.new.devices.sink) (first, g.E.Sink.held c.write_news.new.devices.errors))
      told _ _ c.news-gained.ensures
      (rw c.in-None.is at (c.in_ok-status.ensures.left told start first counted going));
}

pub returns-in-None-2-clause-looks : goal.returns-in-None-2-clause-looks
returns-in-None-2-clause-looks g c = λ told start first counted going. record {
  fault = None;
  proper = λ writer bytes writes within follows. refl;
  left =
      with_list
      (λ (messages : List (List ℕ)).
      GoesOn c.args.options messages
      (start, g.K.Sink.held c.write_news.new.devices.sink) (first, g.E.Sink.held c.write_news.new.devices.errors))
      told _ _ c.news-gained.ensures
      (rw c.in-None-2.is at (c.in_ok-status.ensures.left told start first counted going));
}
