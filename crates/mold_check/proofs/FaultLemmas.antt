-- A datagram that does not encode a packet is judged by its fault alone.
use Rattle.std.proofs.Common.{◌≡◌, ℕ, List, refl, sym, ap, ◌∙◌}
use Rattle.std.specs.Prelude.{Option, None, Some, Result, Err}
use Rattle.mold_capture.specs.Refusal.{refusal_read}
use Rattle.mold_capture.specs.Seen.{Seen}
use Rattle.mold_digest.specs.Digested.{digested, digested_read}
use Rattle.mold_wire.specs.Reading.{reading}
use Rattle.mold_wire.specs.declared.error.DecodeError.{DecodeError}
use Rattle.mold_wire.specs.declared.packet.Packet.{Packet}
use Rattle.mold_check.specs.DigestCheck.{digest_judging}
use Rattle.mold_check.specs.Digested.{digested_judging}
use Rattle.mold_check.specs.EachCheck.{each_judging, key_read, more_refused, same_key}
use Rattle.mold_check.specs.Groups.{stepped}
use Rattle.mold_check.specs.Judge.{Judging, JudgesByFault}
use Rattle.mold_check.specs.Judgement.{added_to, datagram_judging, judged_as}
use Rattle.mold_check.specs.declared.refused_datagram.RefusedDatagram.{RefusedDatagram}

-- Of one session, whatever was refused before.
added_same : (seen : Seen) (before : Option RefusedDatagram) (number : ℕ) (one other : List ℕ) (fault : DecodeError) →
    reading one ≡ Err fault → reading other ≡ Err fault →
    added_to seen before number one ≡ added_to seen before number other
added_same seen (Some datagram) number one other fault is so = refl
added_same seen None number one other fault is so =
    ap (λ (r : Result Packet DecodeError). judged_as seen number one (refusal_read seen r)) is
    ∙ sym (ap (λ (r : Result Packet DecodeError). judged_as seen number other (refusal_read seen r)) so)

pub datagram_fault : JudgesByFault datagram_judging
datagram_fault s number one other fault is so = added_same s.seen s.refused number one other fault is so

pub digest_fault : JudgesByFault digest_judging
digest_fault s number one other fault is so = added_same s.seen s.refused number one other fault is so

-- Of each session by itself: both datagrams belong to no session.
pub each_fault : {S : Type 0} (judging : Judging S) → JudgesByFault judging → JudgesByFault (each_judging judging)
each_fault judging law s number one other fault is so =
    let same : reading one ≡ reading other = is ∙ sym so in
    λ i. record {
      entries =
          stepped same_key judging.begins (λ before. law before number one other fault is so i) s.entries
          (key_read (same i));
      refused = more_refused (key_read (same i)).session s.refused;
    }

-- By digest: both datagrams stay.
stays : (key bytes : List ℕ) (fault : DecodeError) → reading bytes ≡ Err fault → digested key bytes ≡ bytes
unfolding digested
stays key bytes fault is = ap (digested_read key bytes) is

pub digested_fault : {S : Type 0} (judging : Judging S) → JudgesByFault judging →
    JudgesByFault (digested_judging judging)
digested_fault {S} judging law s number one other fault is so =
    ap (λ (judge : S). record { key = s.key; judge = judge })
    (law s.judge number (digested s.key one) (digested s.key other) fault
    (ap reading (stays s.key one fault is) ∙ is) (ap reading (stays s.key other fault so) ∙ so))
