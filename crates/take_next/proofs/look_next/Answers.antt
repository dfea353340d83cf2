-- `take_next::look_next`: the place that the search found is one of its store.
use Rattle.take_next.proofs.LookNext.{place_below, length_within}
use Rattle.take_next.proofs.look_next.Goals as goal

pub header_bytes-requires : goal.header_bytes-requires
header_bytes-requires c =
    let f = rw c.in-Some-State.field-0-is at c.in-Some-State.ensures in
    (c.requires.places, place_below _ _ _ _ _ _ c.requires _ (f _ _))

pub packet_bytes-requires : goal.packet_bytes-requires
packet_bytes-requires c =
    let f = rw c.in-Some-Stored.field-0-is at c.in-Some-Stored.ensures in
    (c.requires.slots, length_within _ _ _ _ _ _ c.requires _ _ (f _ _))
