use Rattle.std.proofs.Common.{◌++◌, ◌∙◌, List, ℕ, ap, append_assoc, subst}
use Rattle.mold_devices.specs.Devices.{AppendsPrefix}
use Rattle.mold_devices.specs.Writing.{Moves}
use Rattle.mold_devices.proofs.DeviceLemmas.{front_more}
use Rattle.mold_capture_commands.specs.Counts.{others_text}
use Rattle.mold_capture_commands.specs.SessionState.{SessionState, lines_text, state_text}
use Rattle.mold_capture_commands.proofs.TextLemmas.{moved_prefix}
use Rattle.mold_capture_commands.proofs.sessions.Sessions.print.Goals as goal

pub returns-in_err-send-clause-front : goal.returns-in_err-send-clause-front
returns-in_err-send-clause-front g c =
    let old = g.K.Sink.held c.args.sink.now in
    let mid = g.K.Sink.held c.print.new.sink in
    let new = g.K.Sink.held c.send.new.sink in
    let lines = lines_text c.self.inside.frames.lines in
    let left = c.print.new.text.items in
    let others = others_text c.self.inside.frames.counts in
    let moved = subst (λ (t : List ℕ). Moves old mid (t ++ lines) left) c.new-text.ensures.items
    c.in_ok-print.ensures.moved in
    subst (λ (s : SessionState). AppendsPrefix old new (state_text s)) c.self.view_is
    (moved_prefix old mid new lines left (others ++ c.self.inside.faults.items) c.extend_from_slice.new.self.items
    (others ++ c.as_slice.result.now) moved
    (c.in_ok-extend_from_slice.ensures.items
    ∙ ap (λ (t : List ℕ). t ++ c.as_slice.result.now) c.in_ok-push_others.ensures
    ∙ append_assoc left others c.as_slice.result.now)
    (ap (λ (t : List ℕ). others ++ t) c.as_slice.ensures.value) c.send.ensures.front)

pub returns-clause-front : goal.returns-clause-front
returns-clause-front g c =
    let old = g.K.Sink.held c.args.sink.now in
    let mid = g.K.Sink.held c.print.new.sink in
    let new = g.K.Sink.held c.send.new.sink in
    let lines = lines_text c.self.inside.frames.lines in
    let left = c.print.new.text.items in
    let others = others_text c.self.inside.frames.counts in
    let moved = subst (λ (t : List ℕ). Moves old mid (t ++ lines) left) c.new-text.ensures.items
    c.in_ok-print.ensures.moved in
    subst (λ (s : SessionState). AppendsPrefix old new (state_text s)) c.self.view_is
    (moved_prefix old mid new lines left (others ++ c.self.inside.faults.items) c.extend_from_slice.new.self.items
    (others ++ c.as_slice.result.now) moved
    (c.in_ok-extend_from_slice.ensures.items
    ∙ ap (λ (t : List ℕ). t ++ c.as_slice.result.now) c.in_ok-push_others.ensures
    ∙ append_assoc left others c.as_slice.result.now)
    (ap (λ (t : List ℕ). others ++ t) c.as_slice.ensures.value) c.send.ensures.front)

pub returns-in_err-print-clause-front : goal.returns-in_err-print-clause-front
returns-in_err-print-clause-front g c =
    let old = g.K.Sink.held c.args.sink.now in
    let mid = g.K.Sink.held c.print.new.sink in
    let lines = lines_text c.self.inside.frames.lines in
    let front = subst (λ (t : List ℕ). AppendsPrefix old mid (t ++ lines)) c.new-text.ensures.items
    c.print.ensures.front in
    subst (λ (s : SessionState). AppendsPrefix old mid (state_text s)) c.self.view_is
    (front_more old mid lines (others_text c.self.inside.frames.counts ++ c.self.inside.faults.items) front)

pub returns-in_err-push_others-clause-front : goal.returns-in_err-push_others-clause-front
returns-in_err-push_others-clause-front g c =
    let old = g.K.Sink.held c.args.sink.now in
    let mid = g.K.Sink.held c.print.new.sink in
    let lines = lines_text c.self.inside.frames.lines in
    let front = subst (λ (t : List ℕ). AppendsPrefix old mid (t ++ lines)) c.new-text.ensures.items
    c.print.ensures.front in
    subst (λ (s : SessionState). AppendsPrefix old mid (state_text s)) c.self.view_is
    (front_more old mid lines (others_text c.self.inside.frames.counts ++ c.self.inside.faults.items) front)

pub returns-in_err-extend_from_slice-clause-front : goal.returns-in_err-extend_from_slice-clause-front
returns-in_err-extend_from_slice-clause-front g c =
    let old = g.K.Sink.held c.args.sink.now in
    let mid = g.K.Sink.held c.print.new.sink in
    let lines = lines_text c.self.inside.frames.lines in
    let front = subst (λ (t : List ℕ). AppendsPrefix old mid (t ++ lines)) c.new-text.ensures.items
    c.print.ensures.front in
    subst (λ (s : SessionState). AppendsPrefix old mid (state_text s)) c.self.view_is
    (front_more old mid lines (others_text c.self.inside.frames.counts ++ c.self.inside.faults.items) front)
