-- What the session says of a command, by its kind: each law reduces it to what that arm of `act` shows.
use Prim.Native.Nat.{ℕ, ◌≤◌, ◌<◌}
use mathlib.Core.Path.{◌≡◌, sym, ap, ◌∙◌}
use mathlib.Core.Bool.{true}
use mathlib.Core.List.{List, []}
use lib.Dec.{ltb, leb}
use lib.ListN.{length, get_or, replicate}
use borrow.Author.Tests.{ltb-true, leb-true}
use Rattle.rtt.specs.declared.nanos.Nanos.{Nanos}
use Rattle.model.specs.Lists.{Bytes}
use Rattle.model.specs.Sending as model
use Rattle.model.specs.Receiving as model_in
use Rattle.model.specs.Driving as model_out
use Rattle.session_ends.specs.declared.SessionEnd.{SessionEnd}
use Rattle.session_ends.specs.Calls.{Stores}
use Rattle.session_script.specs.declared.Command.{Command}
use Rattle.session_script.specs.declared.Command.TheVariants as command
use Rattle.session_text.specs.declared.lines.Name.TheVariants as name
use Rattle.session_commands.specs.Acting.{KeptEnd, lined, lined_read, kept_after, acted, has_datagram, short_read}
use Rattle.session_commands.specs.Acts.{Acts}

-- `s` is what was seen of the end before the command; the end, its stores and the line are as after it
module _ (k : Command) (s : KeptEnd) (theirs : List Bytes) (e : SessionEnd) (b : Stores) (kept : Bytes) (len : ℕ) (text : Bytes) where
  pub as_write : (number size fill : ℕ) → k ≡ command.Write number size fill
      → Acts (lined name.Write number (model.write (replicate size fill) s.end) s.kept) e b kept len text
      → Acts (acted k s theirs) e b kept len text
  unfolding acted
  as_write number size fill is a = rw is a

  pub as_drive : (number : ℕ) (clock : Nanos) → k ≡ command.Drive number clock
      → Acts (lined name.Drive number (model_out.drive clock.0 s.end) s.kept) e b kept len text → Acts (acted k s theirs) e b kept len text
  unfolding acted
  as_drive number clock is a = rw is a

  pub as_take : (number : ℕ) → k ≡ command.Take number
      → Acts (lined name.Take number (model_out.take 14_000 s.end) (kept_after (model_out.take 14_000 s.end) s.kept)) e b kept len text
      → Acts (acted k s theirs) e b kept len text
  unfolding acted
  as_take number is a = rw is a

  pub as_hand : (number which : ℕ) (clock : Nanos) → k ≡ command.Hand number which clock → has_datagram k theirs ≡ true
      → (which < length theirs → Acts (lined name.Hand number (model_in.deliver (get_or theirs which []) clock.0 s.end) s.kept) e b kept len text)
      → Acts (acted k s theirs) e b kept len text
  unfolding acted
  as_hand number which clock is has a =
      let there : ltb which (length theirs) ≡ true = sym (ap (λ (c : Command). has_datagram c theirs) is) ∙ has in
      rw is (a (ltb-true which (length theirs) there))

  pub as_read : (number size : ℕ) → k ≡ command.Read number size → short_read k ≡ true
      → (size ≤ 4_096 → Acts (lined_read number (model_in.read size s.end) s.kept) e b kept len text) → Acts (acted k s theirs) e b kept len text
  unfolding acted
  as_read number size is has a =
      let short : leb size 4_096 ≡ true = sym (ap short_read is) ∙ has in
      rw is (a (leb-true size 4_096 short))

  pub as_close : (number : ℕ) → k ≡ command.Close number → Acts (lined name.Close number (model.close s.end) s.kept) e b kept len text
      → Acts (acted k s theirs) e b kept len text
  unfolding acted
  as_close number is a = rw is a
