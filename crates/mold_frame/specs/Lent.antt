-- What a frame carries, as lists of bytes in place of slices.
use Rattle.mold_frame.specs.Carried.{Datagram, Target, Carried, Whole, Fragment, Cut, Other, Unread}
use Rattle.mold_frame.specs.declared.carried.Carried.{Carried as LentCarried}
use Rattle.mold_frame.specs.declared.carried.Carried.TheVariants.{Whole as LentWhole, Fragment as LentFragment}
use Rattle.mold_frame.specs.declared.carried.Carried.TheVariants.{Cut as LentCut, Other as LentOther}
use Rattle.mold_frame.specs.declared.carried.Carried.TheVariants.{Unread as LentUnread}
use Rattle.mold_frame.specs.declared.datagram.Datagram.{Datagram as LentDatagram}
use Rattle.mold_frame.specs.declared.target.Target.{Target as LentTarget}
use Rattle.mold_frame.specs.Ipv6.{Payload}
use Rattle.mold_frame.specs.declared.payload.Payload.{Payload as LentPayload}
use Rattle.mold_frame.specs.Link.{Tagged}
use Rattle.mold_frame.specs.declared.tagged.Tagged.{Tagged as LentTagged}

-- The datagram whose addresses and payload are the bytes of these slices.
abbrev pub lent_datagram : LentDatagram → Datagram
lent_datagram d =
    record {
      source = d.source.now;
      source_port = d.source_port;
      target = d.target.now;
      target_port = d.target_port;
      payload = d.payload.now;
    }

-- The destination whose address is the bytes of this slice.
abbrev pub lent_target : LentTarget → Target
lent_target t = record { address = t.address.now; port = t.port }

-- What a frame carries, with the bytes of these slices.
abbrev pub lent_carried : LentCarried → Carried
lent_carried (LentWhole datagram) = Whole (lent_datagram datagram)
lent_carried (LentFragment target) = Fragment (lent_target target)
lent_carried (LentCut target) = Cut (lent_target target)
lent_carried LentOther = Other
lent_carried LentUnread = Unread

-- What follows an IPv6 header or an extension header, with the bytes of this slice.
abbrev pub lent_payload : LentPayload → Payload
lent_payload p = record { next = p.next; size = p.size; bytes = p.bytes.now }

-- What follows a link's header or a tag, with the bytes of this slice.
abbrev pub lent_tagged : LentTagged → Tagged
lent_tagged t = record { protocol = t.protocol; bytes = t.bytes.now }
