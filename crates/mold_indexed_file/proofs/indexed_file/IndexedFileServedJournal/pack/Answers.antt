use Rattle.std.proofs.Common.{inl, inr, ◌≡◌, ◌+◌, ◌-◌, ap, length, subst, ◌∙◌, arith}
use Rattle.mold_session.specs.Loading.{message_spelling}
use Rattle.mold_index.specs.Layouts.{layout_of}
use Rattle.mold_indexed_file.specs.Packed.{HasPackedFrom, Lacks, missing}
use Rattle.mold_indexed_file.specs.Shown.{IndexedState}
use Rattle.mold_indexed_file.proofs.PackLemmas.{too_long}
use Rattle.mold_indexed_file.proofs.ShownLemmas.{shown_lacks, shown_next, shown_some}
use Rattle.mold_indexed_file.proofs.indexed_file.IndexedFileServedJournal.pack.Goals.{in-Ok, in-Ok-eq0, in-Err}
use Rattle.mold_indexed_file.proofs.indexed_file.IndexedFileServedJournal.pack.Goals as goal

pub returns-clause-packed : goal.returns-clause-packed
returns-clause-packed g c =
    let history = g.F.GrowingFile.history in
    let moment = g.F.GrowingFile.moment in
    let plan = c.args.plan.now in
    let read = c.in_ok-read_next.ensures in
    let f = c.self.inside in
    let old = c.args.self.now in
    let next = c.read_next.new.self in
    let inside : IndexedState g.row.F.Denot = record {
      file = f.file;
      session = f.session;
      version = f.version;
      max_message = f.max_message;
      index = f.index;
      buffer = f.buffer;
    } in
    let same : IndexedState g.row.F.Denot = record {
      file = next.file;
      session = old.session;
      version = old.version;
      max_message = old.max_message;
      index = old.index;
      buffer = next.buffer;
    } in
    let is : inside ≡ same = ◌∙◌ {c = same} c.self.view_is read.kept in
    elim c.match-pack_piece.branch [
      | in-Ok w ↦
          let packed = rw c.bytes-2.ensures at rw c.entry-first.ensures at w.in-Ok.ensures.packed in
          rw w.result-is (λ journal shows may.
          shown_next history moment old journal plan c.args.packer.now c.pack_piece.new.packer w.in-Ok.count
          (moment next.file) next.buffer c.packet_length_law.ensures.one_more
          c.front_law.ensures.stops c.front_law.ensures.only c.front_law.ensures.some
          (λ limit message. (c.packet_length_law.ensures.alone limit message).0)
          (subst (λ (s : IndexedState g.row.F.Denot). length s.session.0 ≡ 10) is c.self.invariant.named)
          (subst (λ (s : IndexedState g.row.F.Denot). s.index.layout ≡ layout_of s.version) is c.self.invariant.laid)
          c.from.ensures.plan may shows (rw c.limit.ensures at (read.read shows.has.bytes shows.has.possible))
          c.pack_piece.ensures.limit
          (subst (λ (s : IndexedState g.row.F.Denot). HasPackedFrom (message_spelling s.version)
          (plan.from - s.buffer.entry.number) (plan.to - plan.from) s.buffer.bytes plan.session plan.from
          c.pack_piece.new.packer w.in-Ok.count) is packed))
      | in-Ok-eq0 w ↦ rw w.result-is tt
      | in-Err w ↦ rw w.result-is tt
    ]

pub returns-clause-refused : goal.returns-clause-refused
returns-clause-refused g c =
    let history = g.F.GrowingFile.history in
    let moment = g.F.GrowingFile.moment in
    let plan = c.args.plan.now in
    let read = c.in_ok-read_next.ensures in
    let f = c.self.inside in
    let old = c.args.self.now in
    let next = c.read_next.new.self in
    let inside : IndexedState g.row.F.Denot = record {
      file = f.file;
      session = f.session;
      version = f.version;
      max_message = f.max_message;
      index = f.index;
      buffer = f.buffer;
    } in
    let same : IndexedState g.row.F.Denot = record {
      file = next.file;
      session = old.session;
      version = old.version;
      max_message = old.max_message;
      index = old.index;
      buffer = next.buffer;
    } in
    let is : inside ≡ same = ◌∙◌ {c = same} c.self.view_is read.kept in
    elim c.match-pack_piece.branch [
      | in-Ok w ↦ rw w.result-is tt
      | in-Ok-eq0 w ↦
          let packed = rw w.in-Ok-eq0.field-0-test at rw c.bytes-2.ensures at rw c.entry-first.ensures at
          w.in-Ok-eq0.ensures.packed in
          rw w.result-is (λ journal shows may.
          absurd (shown_some history moment old journal plan c.args.packer.now c.pack_piece.new.packer
          (moment next.file) next.buffer c.packet_length_law.ensures.one_more
          c.front_law.ensures.stops c.front_law.ensures.only c.front_law.ensures.some
          (λ limit message. (c.packet_length_law.ensures.alone limit message).0)
          (omega (arith, c.if-from-to.false, c.from.ensures.value, c.to.ensures.value, c.from.ensures.plan))
          (subst (λ (s : IndexedState g.row.F.Denot). length s.session.0 ≡ 10) is c.self.invariant.named)
          (subst (λ (s : IndexedState g.row.F.Denot). s.index.layout ≡ layout_of s.version) is c.self.invariant.laid)
          c.from.ensures.plan may shows (rw c.limit.ensures at (read.read shows.has.bytes shows.has.possible))
          c.pack_piece.ensures.limit
          (subst (λ (s : IndexedState g.row.F.Denot). HasPackedFrom (message_spelling s.version)
          (plan.from - s.buffer.entry.number) (plan.to - plan.from) s.buffer.bytes plan.session plan.from
          c.pack_piece.new.packer 0) is packed)))
      | in-Err w ↦
          let lacks = rw c.bytes-2.ensures at rw c.entry-first.ensures at w.in-Err.ensures.lacks in
          rw w.result-is (λ journal shows may.
          absurd (shown_lacks history moment old journal plan c.args.packer.now c.pack_piece.new.packer
          w.in-Err.none.index (moment next.file) next.buffer
          c.packet_length_law.ensures.none
          (omega (arith, c.if-from-to.false, c.from.ensures.value, c.to.ensures.value, c.from.ensures.plan))
          (subst (λ (s : IndexedState g.row.F.Denot). length s.session.0 ≡ 10) is c.self.invariant.named)
          (subst (λ (s : IndexedState g.row.F.Denot). s.index.layout ≡ layout_of s.version) is c.self.invariant.laid)
          c.from.ensures.plan may shows (rw c.limit.ensures at (read.read shows.has.bytes shows.has.possible))
          c.pack_piece.ensures.limit
          (subst (λ (s : IndexedState g.row.F.Denot). Lacks (message_spelling s.version)
          (plan.from - s.buffer.entry.number) (plan.to - plan.from) s.buffer.bytes plan.session plan.from
          c.pack_piece.new.packer w.in-Err.none.index) is lacks)))
    ]

pub returns-clause-lacking : goal.returns-clause-lacking
returns-clause-lacking g c = λ bytes shown.
    elim c.match-pack_piece.branch [
      | in-Ok w ↦ rw w.result-is tt
      | in-Ok-eq0 w ↦ rw w.result-is (inr (inr (rw c.limit.ensures at (c.in_ok-read_next.ensures.read bytes shown))))
      | in-Err w ↦ rw w.result-is (inr (inr (rw c.limit.ensures at (c.in_ok-read_next.ensures.read bytes shown))))
    ]

pub returns-clause-error : goal.returns-clause-error
returns-clause-error g c =
    let plan = c.args.plan.now in
    let read = c.in_ok-read_next.ensures in
    let f = c.self.inside in
    let old = c.args.self.now in
    let next = c.read_next.new.self in
    let inside : IndexedState g.row.F.Denot = record {
      file = f.file;
      session = f.session;
      version = f.version;
      max_message = f.max_message;
      index = f.index;
      buffer = f.buffer;
    } in
    let same : IndexedState g.row.F.Denot = record {
      file = next.file;
      session = old.session;
      version = old.version;
      max_message = old.max_message;
      index = old.index;
      buffer = next.buffer;
    } in
    let is : inside ≡ same = ◌∙◌ {c = same} c.self.view_is read.kept in
    elim c.match-pack_piece.branch [
      | in-Ok w ↦ rw w.result-is tt
      | in-Ok-eq0 w ↦
          let packed = rw w.in-Ok-eq0.field-0-test at rw c.bytes-2.ensures at rw c.entry-first.ensures at
          w.in-Ok-eq0.ensures.packed in
          rw w.result-is (inr (inr (inr (
            subst (λ (s : IndexedState g.row.F.Denot). w.missing.result ≡ missing s.version plan.from) is
                (w.missing.ensures ∙ ap (missing f.version) w.from-in-Ok-eq0.ensures.value),
            too_long old.version next.buffer plan c.pack_piece.new.packer c.packet_length_law.ensures.one_more
                (omega (arith, c.if-from-to.false, c.from.ensures.value, c.to.ensures.value, c.from.ensures.plan))
                (subst (λ (s : IndexedState g.row.F.Denot). HasPackedFrom (message_spelling s.version)
                (plan.from - s.buffer.entry.number) (plan.to - plan.from) s.buffer.bytes plan.session plan.from
                c.pack_piece.new.packer 0) is packed),
          ))))
      | in-Err w ↦
          let lacks = rw c.bytes-2.ensures at rw c.entry-first.ensures at w.in-Err.ensures.lacks in
          rw w.result-is (inr (inr (inl (record {
            index = w.in-Err.none.index;
            lacks = subst (λ (s : IndexedState g.row.F.Denot). Lacks (message_spelling s.version)
                (plan.from - s.buffer.entry.number) (plan.to - plan.from) s.buffer.bytes plan.session plan.from
                c.pack_piece.new.packer w.in-Err.none.index) is lacks;
            named = subst
                (λ (s : IndexedState g.row.F.Denot).
                w.missing-in-Err.result ≡ missing s.version (s.buffer.entry.number + w.in-Err.none.index))
                is (rw c.entry-first.ensures at w.missing-in-Err.ensures);
          }))))
    ]
