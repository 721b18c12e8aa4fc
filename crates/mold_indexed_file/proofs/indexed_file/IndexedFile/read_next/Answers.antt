use Rattle.std.proofs.Common.{inr, refl, sym, subst}
use Rattle.mold_indexed_file.specs.Buffer.{most_bytes}
use Rattle.mold_indexed_file.specs.Read.{HasReadFor}
use Rattle.mold_indexed_file.specs.Shown.{IndexedState, Shows, start_of}
use Rattle.mold_indexed_file.proofs.ShownLemmas.{part_none, part_read, still_shows}
use Rattle.mold_indexed_file.proofs.indexed_file.IndexedFile.read_next.Goals.{in-Ok, in-Err}
use Rattle.mold_indexed_file.proofs.indexed_file.IndexedFile.read_next.Goals as goal

pub returns-clause-read : goal.returns-clause-read
returns-clause-read g c = λ bytes shown.
    let history = g.F.GrowingFile.history in
    let moment = g.F.GrowingFile.moment in
    let f = c.self.inside in
    elim c.match-read.branch [
      | in-Ok w ↦
          let was = subst (λ (s : IndexedState g.row.F.Denot). history s.file bytes) (sym c.self.view_is) shown in
          let made : HasReadFor f.index c.args.plan.now.from c.args.plan.now.to
          (most_bytes f.version c.args.limit f.max_message) bytes (moment f.file) (moment c.read.new.file)
          f.buffer c.read.new.self = record {
            piece = c.in-Some.piece;
            is = λ lengths has.
                rw c.from.ensures.value at rw c.to.ensures.value at rw c.most_bytes-most.ensures at
                (c.in-Some.ensures.found lengths has);
            begins = w.in-Ok.ensures.entry;
            read = inr (w.in-Ok.ensures.read bytes was);
          } in
          rw w.result-is
          (subst (λ (s : IndexedState g.row.F.Denot). HasReadFor s.index c.args.plan.now.from c.args.plan.now.to
          (most_bytes s.version c.args.limit s.max_message) bytes (moment s.file) (moment c.read.new.file)
          s.buffer c.read.new.self) c.self.view_is made)
      | in-Err w ↦ rw w.result-is tt
    ]

pub returns-clause-shown : goal.returns-clause-shown
returns-clause-shown g c = λ journal shows.
    let history = g.F.GrowingFile.history in
    let moment = g.F.GrowingFile.moment in
    let f = c.self.inside in
    let old : IndexedState g.row.F.Denot = record {
      file = f.file;
      session = f.session;
      version = f.version;
      max_message = f.max_message;
      index = f.index;
      buffer = f.buffer;
    } in
    let new : IndexedState g.row.F.Denot = record {
      file = c.read.new.file;
      session = f.session;
      version = f.version;
      max_message = f.max_message;
      index = f.index;
      buffer = c.read.new.self;
    } in
    let was : Shows history moment old journal =
    subst (λ (s : IndexedState g.row.F.Denot). Shows history moment s journal) (sym c.self.view_is) shows in
    still_shows history moment g.F.GrowingFile.synced old new journal c.read.ensures.passes refl refl refl refl was
    (elim c.match-read.branch [
      | in-Ok w ↦
          part_read history moment old journal c.from.result c.to.result c.most_bytes-most.result c.in-Some.piece
          c.read.new.self (moment c.read.new.file) c.self.invariant.named c.self.invariant.laid was
          c.in-Some.ensures.found
          w.in-Ok.ensures.entry (w.in-Ok.ensures.read was.has.bytes was.has.possible)
      | in-Err w ↦ part_none (start_of f.version journal) c.read.new.self w.in-Err.ensures.none
    ])
