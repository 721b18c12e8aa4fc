use Rattle.std.proofs.Common.{inr, sym, subst}
use Rattle.mold_session.specs.declared.file_version.FileVersion.TheVariants.{Three}
use Rattle.mold_indexed_file.specs.Buffer.{most_bytes}
use Rattle.mold_indexed_file.specs.Read.{HasReadFor}
use Rattle.mold_indexed_file.specs.Shown.{start_of}
use Rattle.mold_indexed_file.specs.Stored.{ShowsStored, StoredState}
use Rattle.mold_indexed_file.proofs.ShownLemmas.{part_none, part_read}
use Rattle.mold_indexed_file.proofs.StoredLemmas.{any_history, as_shows, at_once, indexed_of, still_stored}
use Rattle.mold_indexed_file.proofs.storage_index.StorageIndex.read_next.Goals.{in-Ok, in-Err}
use Rattle.mold_indexed_file.proofs.storage_index.StorageIndex.read_next.Goals as goal

pub returns-clause-read : goal.returns-clause-read
returns-clause-read g c = λ bytes shown.
    let f = c.self.inside in
    elim c.match-read_stored.branch [
      | in-Ok w ↦
          let made : HasReadFor f.index c.args.plan.now.from c.args.plan.now.to
          (most_bytes Three c.args.limit f.max_message) (λ moment. bytes) 0 0 f.buffer c.read_stored.new.self = record {
            piece = c.in-Some.piece;
            is = λ lengths has.
                rw c.from.ensures.value at rw c.to.ensures.value at rw c.most_bytes-most.ensures at
                (c.in-Some.ensures.found lengths has);
            begins = w.in-Ok.ensures.entry;
            read = inr (w.in-Ok.ensures.read bytes shown);
          } in
          rw w.result-is
          (subst (λ (s : StoredState). HasReadFor s.index c.args.plan.now.from c.args.plan.now.to
          (most_bytes Three c.args.limit s.max_message) (λ moment. bytes) 0 0 s.buffer c.read_stored.new.self)
          c.self.view_is made)
      | in-Err w ↦ rw w.result-is tt
    ]

pub returns-clause-shown : goal.returns-clause-shown
returns-clause-shown g c = λ journal shows.
    let f = c.self.inside in
    let shown = g.S.Storage.shows c.args.storage.now in
    let old : StoredState =
    record { session = f.session; max_message = f.max_message; index = f.index; buffer = f.buffer } in
    let was : ShowsStored shown old journal =
    subst (λ (s : StoredState). ShowsStored shown s journal) (sym c.self.view_is) shows in
    still_stored shown (g.S.Storage.shows c.read_stored.new.storage) old c.read_stored.new.self journal
    c.read_stored.ensures.storage.shown was
    (elim c.match-read_stored.branch [
      | in-Ok w ↦
          part_read any_history at_once (indexed_of old) journal c.from.result c.to.result c.most_bytes-most.result
          c.in-Some.piece c.read_stored.new.self 0 c.self.invariant.named c.self.invariant.laid
          (as_shows shown old journal was) c.in-Some.ensures.found w.in-Ok.ensures.entry
          (w.in-Ok.ensures.read was.has.bytes was.has.shown)
      | in-Err w ↦ part_none (start_of Three journal) c.read_stored.new.self w.in-Err.ensures.none
    ])
