-- The contract of a call with the totals lent is that of a call on the records: the two are equal by computation.
use mathlib.Core.Path.{refl}
use seplogic.Ra.Ura.{Ura}
use base.Logic.{SProp}
use prog.Memory.{Memory}
use prog.Routine.{Routine}
use types.Logic.{Logic}
use contract.Monad.{Fun}
use Rattle.promise_ways.specs.LentTotals.{ContractsWithTotalsLent}

pub contracts_with_totals_lent : {M : Type 1} {𝓤 : Ura M} (𝓛 : Logic 𝓤) (mem : Memory → SProp 𝓤) (run : Routine → Fun 𝓤) → ContractsWithTotalsLent 𝓛 mem run
contracts_with_totals_lent 𝓛 mem run =
    record {
      write = λ κs x r y. (refl, refl);
      deliver = λ κs x r y. (refl, refl);
      drive = λ κs x r y. (refl, refl);
      take = λ κs x r y. (refl, refl);
      read = λ κs x r y. (refl, refl);
      close = λ κs x r y. (refl, refl);
    }
