use Rattle.std.proofs.Common.{◌∙◌}
use Rattle.mold_frame.specs.Written.{ipv4_bytes, ipv6_bytes}
use Rattle.mold_frame.proofs.Ipv4Lemmas.{ipv4-written}
use Rattle.mold_frame.proofs.Ipv6Lemmas.{ipv6-written}
use Rattle.mold_frame.proofs.LawLemmas.{cooked-ipv4, cooked-ipv6, ethernet-ipv4, ethernet-ipv6, of_ipv4, of_ipv6}
use Rattle.mold_frame.proofs.laws.frame_law.Goals as goal

pub returns-clause-ethernet : goal.returns-clause-ethernet
returns-clause-ethernet c d checksum fields tags start padding is are tagged begins =
    ethernet-ipv4 d checksum fields tags start padding is are tagged begins

pub returns-clause-ethernet_ipv6 : goal.returns-clause-ethernet_ipv6
returns-clause-ethernet_ipv6 c d checksum fields tags start padding is are tagged begins =
    ethernet-ipv6 d checksum fields tags start padding is are tagged begins

pub returns-clause-cooked : goal.returns-clause-cooked
returns-clause-cooked c d checksum fields tags start padding is are tagged begins =
    cooked-ipv4 d checksum fields tags start padding is are tagged begins

pub returns-clause-cooked_ipv6 : goal.returns-clause-cooked_ipv6
returns-clause-cooked_ipv6 c d checksum fields tags start padding is are tagged begins =
    cooked-ipv6 d checksum fields tags start padding is are tagged begins

pub returns-clause-ipv4 : goal.returns-clause-ipv4
returns-clause-ipv4 c d checksum fields padding is are =
    of_ipv4 (ipv4_bytes checksum fields d padding) ∙ ipv4-written d checksum fields padding is are

pub returns-clause-ipv6 : goal.returns-clause-ipv6
returns-clause-ipv6 c d checksum fields padding is are =
    of_ipv6 (ipv6_bytes checksum fields d padding) ∙ ipv6-written d checksum fields padding is are
