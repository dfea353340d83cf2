-- The numbers that a call returns represent exactly the records they were made from, so the next call continues from there.
use Rattle.std.specs.Prelude.{◌≡◌, false}
use Rattle.records.specs.declared.Stream.{Stream}
use Rattle.records.specs.declared.Totals.{Totals}
use Rattle.udx_c_numbers.specs.Bytes.{is_strange}
use Rattle.udx_c_numbers.specs.Flat.{stream_of, totals_of, flat_stream, flat_totals}

pub record ComesBack : Type 0 where
  pub stream : (s : Stream) → stream_of (flat_stream s) ≡ s
  pub totals : (t : Totals) → totals_of (flat_totals t) ≡ t
  -- and no byte of it is strange
  pub known : (s : Stream) → is_strange (flat_stream s).ending ≡ false
