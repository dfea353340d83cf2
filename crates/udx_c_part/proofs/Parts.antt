-- A part within its store has as many bytes as its length says; each kind of part is within its store.
use Prim.Native.Nat.{ℕ, ◌+◌, ◌≤◌, ◌<◌}
use native.Mathlib.Omega.{arith}
use mathlib.Core.Path.{◌≡◌, sym, ap, ◌∙◌}
use lib.ListN.{length, take, drop, length-take, length-drop}
use Rattle.model.specs.Lists.{Bytes}
use Rattle.udx_c_part.specs.declared.Part.{Part}
use Rattle.udx_c_part.specs.Place.{header_part, packet_part, store_of, part_bytes, PartOf}

cut_length : (start k : ℕ) (store : Bytes) → start + k ≤ length store → length (take k (drop start store)) ≡ k
cut_length start k store h = simp (length-take, length-drop) (omega arith)

module _ (outgoing headers : Bytes) where
  pub part_of : (p : Part) (shown : Bytes) → part_bytes p outgoing headers ≡ shown → p.start + p.length ≤ length (store_of p.store outgoing headers)
      → PartOf shown outgoing headers p
  part_of p shown b w = record { bytes = b; within = w; long = sym (cut_length p.start p.length (store_of p.store outgoing headers) w) ∙ ap length b }

  pub header_within : (place : ℕ) → place < 64 → length headers ≡ 1_280 → (header_part place).start + (header_part place).length ≤ length headers
  header_within place h l = omega arith

  pub packet_within : (n k : ℕ) → k ≤ 1_400 → length outgoing ≡ 44_800 → (packet_part n k).start + (packet_part n k).length ≤ length outgoing
  packet_within n k h l = omega arith
