use Rattle.std.proofs.Common.{None, ap}
use Rattle.mold_session.specs.Publisher.{PublisherState}
use Rattle.mold_ffi.specs.declared.publisher.exchange.Exchange.{Exchange}
use Rattle.mold_ffi.proofs.ResumingLemmas.{only_third}
use Rattle.mold_ffi.proofs.publisher.resuming.resumed.Goals as goal

exchange_of : PublisherState → Exchange
exchange_of publisher = record { publisher = publisher; server = None }

pub returns-in-Ok-resume : goal.returns-in-Ok-resume
unfolding exchange_of
returns-in-Ok-resume c =
    let journal = c.in-Ok.journal in
    record {
      journal = journal;
      made = ap exchange_of c.in-Ok-resume.ensures.made;
      bound = c.in-Ok.ensures.bound;
      listed = c.in-Ok.ensures.listed;
      spelled = only_third journal.session journal.messages journal.closed c.args.bytes.now c.requires.third
          (rw c.new.ensures at c.in-Ok.ensures.whole);
    }
