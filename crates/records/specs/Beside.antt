-- The bytes of the lent stores that belong to no packet. 01, 'What the contracts say': "store bytes are equations in the call's inputs, for
-- refused calls too; a slot without a packet holds anything". For a slot with a packet, `seen` has the packet's bytes; those past them are
-- unchanged. A state packet fills its piece.
use Rattle.std.specs.Prelude.{◌≡◌, ℕ, ◌-◌, ◌<◌, List, slice_index}
use Rattle.model.specs.Slots.{ceiling}
use Rattle.records_words.specs.Words.{sent_in, held_of}
use Rattle.records.specs.Cut.{beyond, outgoing_slot, incoming_slot}
use Rattle.records.specs.Seen.{Lent}

-- in each slot of z bytes, those past its first `size` are unchanged
abbrev pub Stay : (z : ℕ) → (size : ℕ → ℕ) → (before after : List ℕ) → Type 0
Stay z size before after = (i : ℕ) → i < ceiling → beyond z after i (size i) ≡ beyond z before i (size i)

-- the length of the packet in slot i, from its word
abbrev pub sent_size : List ℕ → ℕ → ℕ
sent_size words i = (sent_in words i).length

abbrev pub held_size : List ℕ → ℕ → ℕ
held_size words i = (held_of (slice_index words i)).past - 1

pub record Beside (before after : Lent) : Type 0 where
  pub outgoing : Stay outgoing_slot (sent_size after.sent) before.outgoing after.outgoing
  pub incoming : Stay incoming_slot (held_size after.held) before.incoming after.incoming
