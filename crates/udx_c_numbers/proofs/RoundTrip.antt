-- The numbers that a call returns represent its records (`ComesBack`): each enum is recovered from its byte.
use mathlib.Core.Path.{◌≡◌, refl}
use mathlib.Core.Bool.{Bool, true, false, cond}
use lib.Dec.{eqb, ltb}
use Rattle.std.specs.Prelude.{None, Some, Option}
use Rattle.error.specs.declared.UdxError.{UdxError}
use Rattle.error.specs.declared.UdxError.TheVariants as error
use Rattle.records.specs.declared.StreamState.{StreamState}
use Rattle.records.specs.declared.StreamState.TheVariants as state
use Rattle.records.specs.declared.Stream.{Stream}
use Rattle.records.specs.declared.Totals.{Totals}
use Rattle.udx_c_numbers.specs.Bytes.{error_byte, error_of, state_byte, state_of, is_strange}
use Rattle.udx_c_numbers.specs.Flat.{stream_of, totals_of, flat_stream, flat_totals}
use Rattle.udx_c_numbers.specs.RoundTrip.{ComesBack}

error_back : (e : Option UdxError) → error_of (error_byte e) ≡ e
error_back None = refl
error_back (Some error.ConnectionReset) = refl
error_back (Some error.UnexpectedEof) = refl
error_back (Some error.TimedOut) = refl

error_known : (e : Option UdxError) → ltb 3 (error_byte e) ≡ false
error_known None = refl
error_known (Some error.ConnectionReset) = refl
error_known (Some error.UnexpectedEof) = refl
error_known (Some error.TimedOut) = refl

state_back : (s : StreamState) → state_of (state_byte s) ≡ s
state_back state.Open = refl
state_back state.LocalClosed = refl
state_back state.RemoteClosed = refl
state_back state.BothClosed = refl

state_known : (s : StreamState) → ltb 3 (state_byte s) ≡ false
state_known state.Open = refl
state_known state.LocalClosed = refl
state_known state.RemoteClosed = refl
state_known state.BothClosed = refl

flag_back : (b : Bool) → eqb (cond b 1 0) 1 ≡ b
flag_back true = refl
flag_back false = refl

flag_known : (b : Bool) → ltb 1 (cond b 1 0) ≡ false
flag_known true = refl
flag_known false = refl

stream_back : (s : Stream) → stream_of (flat_stream s) ≡ s
unfolding stream_of flat_stream
stream_back s = let e = s.ending in rw (error_back e.error, state_back e.state, flag_back e.ended) refl

totals_back : (t : Totals) → totals_of (flat_totals t) ≡ t
unfolding totals_of flat_totals
totals_back t = refl

all_known : (s : Stream) → is_strange (flat_stream s).ending ≡ false
unfolding flat_stream
all_known s = let e = s.ending in rw (error_known e.error, state_known e.state, flag_known e.ended) refl

pub comes_back : ComesBack
comes_back = record { stream = stream_back; totals = totals_back; known = all_known }
