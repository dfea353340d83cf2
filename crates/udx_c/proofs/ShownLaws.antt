-- A part as numbers is in the same store, so the bytes there are those of the part.
use Prim.Native.Nat.{◌≤◌}
use native.Mathlib.Omega.{arith}
use mathlib.Core.Path.{◌≡◌, refl, sym, ap}
use mathlib.Core.Bool.{cond}
use Rattle.std.specs.Prelude.{Option, None, Some}
use lib.ListN.{length}
use lib.Dec.{eqb}
use Rattle.model.specs.Lists.{Bytes}
use Rattle.udx_c_part.specs.declared.Store.{Store}
use Rattle.udx_c_part.specs.declared.Store.TheVariants.{Outgoing, Headers}
use Rattle.udx_c_part.specs.declared.Part.{Part}
use Rattle.udx_c_part.specs.Place.{store_of, Shows}
use Rattle.udx_c_part.proofs.Looked.{looked_shown}
use Rattle.udx_c_numbers.specs.Flat.{stream_of, totals_of}
use Rattle.udx_c.specs.Shown.{header_byte, flat_part, ShownBy, LooksShown}

flat_shown : (shown outgoing headers : Bytes) (p : Option Part) → Shows shown outgoing headers p → ShownBy shown outgoing headers (flat_part p)
flat_shown shown outgoing headers None h = record { bytes = sym h; within = omega arith; long = ap length (sym h); flag = omega arith }
flat_shown shown outgoing headers (Some p) h =
    let (store, flag) = same_store p.store in
    record { bytes = rw store h.bytes; within = rw store h.within; long = h.long; flag = flag }
  where
    same_store : (x : Store) → (cond (eqb (header_byte x) 1) headers outgoing ≡ store_of x outgoing headers) × (header_byte x ≤ 1)
    same_store Outgoing = (refl, omega arith)
    same_store Headers = (refl, omega arith)

pub looks_shown : LooksShown
looks_shown s t l r looks k = rw (looks.known k) (flat_shown _ l.outgoing l.headers _ (looked_shown (stream_of s) (totals_of t) l))
