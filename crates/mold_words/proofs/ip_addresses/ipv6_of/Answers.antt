use Rattle.std.proofs.Common.{◌∙◌, Some, ap, sym}
use Rattle.mold_words.proofs.IpLemmas.{unwritten_given, written_given}
use Rattle.mold_words.proofs.ip_addresses.ipv6_of.Goals as goal

pub returns-in-Ok : goal.returns-in-Ok
returns-in-Ok c =
    ap Some (c.octets.ensures)
    ∙ sym (written_given c.args.text.now _ (rw (← c.as_bytes.ensures.value) c.in-Ok.ensures))

pub returns-in-Err : goal.returns-in-Err
returns-in-Err c = unwritten_given c.args.text.now (rw (← c.as_bytes.ensures.value) c.in-Err.ensures)
