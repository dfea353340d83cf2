-- A fresh stream is seen as the model's fresh end, whatever the words and the stores hold, and its records are properly laid out: its
-- windows have no numbers and its queue has no words.
use Rattle.std.proofs.Common.{◌≡◌, ℕ, ◌+◌, ◌%◌, ◌^◌, ◌<◌, true, List, refl, arith}
use Rattle.model.specs.Stream as model
use Rattle.records.specs.Seen.{Lent, entry_words, seen_queue, seen, formed}
use Rattle.records.specs.Open.{fresh_stream, fresh_totals}
use Rattle.records.proofs.SeenOutgoing.{none_stored}
use Rattle.records.proofs.SeenIncoming.{none_held}

pub seen_fresh : (local remote segments clock : ℕ) (l : Lent) → clock < 2 ^ 60 → seen (fresh_stream local remote segments clock) fresh_totals l ≡ model.fresh local remote segments clock
unfolding seen fresh_stream seen_queue entry_words model.fresh
seen_fresh local remote segments clock l h =
    let due : (clock + 1_000_000_000) % 2 ^ 64 ≡ clock + 1_000_000_000 = omega arith in
    rw (none_stored 0 l.sent l.outgoing, none_held 0 l.held l.incoming, due)

pub fresh_formed : (local remote segments clock : ℕ) (queue : List ℕ) → formed (fresh_stream local remote segments clock) queue ≡ true
unfolding formed fresh_stream entry_words
fresh_formed local remote segments clock queue = refl
