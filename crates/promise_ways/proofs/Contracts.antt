-- A call from C is the contract of the C function: the two are equal by computation.
use mathlib.Core.Path.{refl}
use seplogic.Ra.Ura.{Ura}
use base.Logic.{SProp}
use prog.Memory.{Memory}
use prog.Routine.{Routine}
use types.Logic.{Logic}
use contract.Monad.{Fun}
use Rattle.promise_ways.specs.CallContracts.{ContractsOfC}

pub contracts_of_c : {M : Type 1} {𝓤 : Ura M} (𝓛 : Logic 𝓤) (mem : Memory → SProp 𝓤) (run : Routine → Fun 𝓤) → ContractsOfC 𝓛 mem run
contracts_of_c 𝓛 mem run =
    record {
      write = λ κs x r y. (refl, refl);
      deliver = λ κs x r y. (refl, refl);
      drive = λ κs x r y. (refl, refl);
      take = λ κs x r y. (refl, refl);
      read = λ κs x r y. (refl, refl);
      close = λ κs x r y. (refl, refl);
      look = λ κs x r y. (refl, refl);
      opens = λ κs x r y. (refl, refl);
      encode = λ κs x r y. (refl, refl);
      decode = λ κs x r y. (refl, refl);
      layout_stream = λ κs x r y. (refl, refl);
      layout_totals = λ κs x r y. (refl, refl);
      layout_step = λ κs x r y. (refl, refl);
    }
