use Rattle.std.proofs.Common.{inl, inr, ◌≡◌, ◌+◌, ◌-◌, ap, length, subst, ◌∙◌, arith}
use Rattle.mold_session.specs.Loading.{message_spelling}
use Rattle.mold_session.specs.declared.file_version.FileVersion.TheVariants.{Three}
use Rattle.mold_index.specs.Layouts.{layout_of}
use Rattle.mold_indexed_file.specs.Packed.{HasPackedFrom, Lacks, missing}
use Rattle.mold_indexed_file.specs.Stored.{StoredState}
use Rattle.mold_indexed_file.proofs.PackLemmas.{too_long}
use Rattle.mold_indexed_file.proofs.ShownLemmas.{shown_lacks, shown_next, shown_some}
use Rattle.mold_indexed_file.proofs.StoredLemmas.{any_history, as_shows, at_once, indexed_of}
use Rattle.mold_indexed_file.proofs.storage_index.StorageIndex.pack_from.Goals.{in-Ok, in-Ok-eq0, in-Err}
use Rattle.mold_indexed_file.proofs.storage_index.StorageIndex.pack_from.Goals as goal

pub returns-clause-packed : goal.returns-clause-packed
returns-clause-packed g c =
    let shown = g.S.Storage.shows c.args.storage.now in
    let plan = c.args.plan.now in
    let read = c.in_ok-read_next.ensures in
    let f = c.self.inside in
    let old = c.args.self.now in
    let next = c.read_next.new.self in
    let inside : StoredState =
    record { session = f.session; max_message = f.max_message; index = f.index; buffer = f.buffer } in
    let same : StoredState = record old { buffer = next.buffer } in
    let is : inside ≡ same = ◌∙◌ {c = same} c.self.view_is read.kept in
    elim c.match-pack_piece.branch [
      | in-Ok w ↦
          let packed = rw c.bytes-2.ensures at rw c.entry-first.ensures at w.in-Ok.ensures.packed in
          rw w.result-is (λ journal shows may.
          shown_next any_history at_once (indexed_of old) journal plan c.args.packer.now c.pack_piece.new.packer
          w.in-Ok.count 0 next.buffer c.packet_length_law.ensures.one_more
          c.front_law.ensures.stops c.front_law.ensures.only c.front_law.ensures.some
          (λ limit message. (c.packet_length_law.ensures.alone limit message).0)
          (subst (λ (s : StoredState). length s.session.0 ≡ 10) is c.self.invariant.named)
          (subst (λ (s : StoredState). s.index.layout ≡ layout_of Three) is c.self.invariant.laid)
          c.from.ensures.plan may (as_shows shown old journal shows)
          (rw c.limit.ensures at (read.read shows.has.bytes shows.has.shown)) c.pack_piece.ensures.limit
          (subst (λ (s : StoredState). HasPackedFrom (message_spelling Three)
          (plan.from - s.buffer.entry.number) (plan.to - plan.from) s.buffer.bytes plan.session plan.from
          c.pack_piece.new.packer w.in-Ok.count) is packed))
      | in-Ok-eq0 w ↦ rw w.result-is tt
      | in-Err w ↦ rw w.result-is tt
    ]

pub returns-clause-refused : goal.returns-clause-refused
returns-clause-refused g c =
    let shown = g.S.Storage.shows c.args.storage.now in
    let plan = c.args.plan.now in
    let read = c.in_ok-read_next.ensures in
    let f = c.self.inside in
    let old = c.args.self.now in
    let next = c.read_next.new.self in
    let inside : StoredState =
    record { session = f.session; max_message = f.max_message; index = f.index; buffer = f.buffer } in
    let same : StoredState = record old { buffer = next.buffer } in
    let is : inside ≡ same = ◌∙◌ {c = same} c.self.view_is read.kept in
    elim c.match-pack_piece.branch [
      | in-Ok w ↦ rw w.result-is tt
      | in-Ok-eq0 w ↦
          let packed = rw w.in-Ok-eq0.field-0-test at rw c.bytes-2.ensures at rw c.entry-first.ensures at
          w.in-Ok-eq0.ensures.packed in
          rw w.result-is (λ journal shows may.
          absurd (shown_some any_history at_once (indexed_of old) journal plan c.args.packer.now
          c.pack_piece.new.packer 0 next.buffer c.packet_length_law.ensures.one_more
          c.front_law.ensures.stops c.front_law.ensures.only c.front_law.ensures.some
          (λ limit message. (c.packet_length_law.ensures.alone limit message).0)
          (omega (arith, c.if-from-to.false, c.from.ensures.value, c.to.ensures.value, c.from.ensures.plan))
          (subst (λ (s : StoredState). length s.session.0 ≡ 10) is c.self.invariant.named)
          (subst (λ (s : StoredState). s.index.layout ≡ layout_of Three) is c.self.invariant.laid)
          c.from.ensures.plan may (as_shows shown old journal shows)
          (rw c.limit.ensures at (read.read shows.has.bytes shows.has.shown)) c.pack_piece.ensures.limit
          (subst (λ (s : StoredState). HasPackedFrom (message_spelling Three)
          (plan.from - s.buffer.entry.number) (plan.to - plan.from) s.buffer.bytes plan.session plan.from
          c.pack_piece.new.packer 0) is packed)))
      | in-Err w ↦
          let lacks = rw c.bytes-2.ensures at rw c.entry-first.ensures at w.in-Err.ensures.lacks in
          rw w.result-is (λ journal shows may.
          absurd (shown_lacks any_history at_once (indexed_of old) journal plan c.args.packer.now
          c.pack_piece.new.packer w.in-Err.none.index 0 next.buffer
          c.packet_length_law.ensures.none
          (omega (arith, c.if-from-to.false, c.from.ensures.value, c.to.ensures.value, c.from.ensures.plan))
          (subst (λ (s : StoredState). length s.session.0 ≡ 10) is c.self.invariant.named)
          (subst (λ (s : StoredState). s.index.layout ≡ layout_of Three) is c.self.invariant.laid)
          c.from.ensures.plan may (as_shows shown old journal shows)
          (rw c.limit.ensures at (read.read shows.has.bytes shows.has.shown)) c.pack_piece.ensures.limit
          (subst (λ (s : StoredState). Lacks (message_spelling Three)
          (plan.from - s.buffer.entry.number) (plan.to - plan.from) s.buffer.bytes plan.session plan.from
          c.pack_piece.new.packer w.in-Err.none.index) is lacks)))
    ]

pub returns-clause-error : goal.returns-clause-error
returns-clause-error g c =
    let plan = c.args.plan.now in
    let read = c.in_ok-read_next.ensures in
    let f = c.self.inside in
    let old = c.args.self.now in
    let next = c.read_next.new.self in
    let inside : StoredState =
    record { session = f.session; max_message = f.max_message; index = f.index; buffer = f.buffer } in
    let same : StoredState = record old { buffer = next.buffer } in
    let is : inside ≡ same = ◌∙◌ {c = same} c.self.view_is read.kept in
    elim c.match-pack_piece.branch [
      | in-Ok w ↦ rw w.result-is tt
      | in-Ok-eq0 w ↦
          let packed = rw w.in-Ok-eq0.field-0-test at rw c.bytes-2.ensures at rw c.entry-first.ensures at
          w.in-Ok-eq0.ensures.packed in
          rw w.result-is (inr (inr (inr (
            w.missing.ensures ∙ ap (missing Three) w.from-in-Ok-eq0.ensures.value,
            too_long Three next.buffer plan c.pack_piece.new.packer c.packet_length_law.ensures.one_more
                (omega (arith, c.if-from-to.false, c.from.ensures.value, c.to.ensures.value, c.from.ensures.plan))
                (subst (λ (s : StoredState). HasPackedFrom (message_spelling Three)
                (plan.from - s.buffer.entry.number) (plan.to - plan.from) s.buffer.bytes plan.session plan.from
                c.pack_piece.new.packer 0) is packed),
          ))))
      | in-Err w ↦
          let lacks = rw c.bytes-2.ensures at rw c.entry-first.ensures at w.in-Err.ensures.lacks in
          rw w.result-is (inr (inr (inl (record {
            index = w.in-Err.none.index;
            lacks = subst (λ (s : StoredState). Lacks (message_spelling Three)
                (plan.from - s.buffer.entry.number) (plan.to - plan.from) s.buffer.bytes plan.session plan.from
                c.pack_piece.new.packer w.in-Err.none.index) is lacks;
            named = subst
                (λ (s : StoredState).
                w.missing-in-Err.result ≡ missing Three (s.buffer.entry.number + w.in-Err.none.index))
                is (rw c.entry-first.ensures at w.missing-in-Err.ensures);
          }))))
    ]
