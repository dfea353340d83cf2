-- A call on the records is the contract of the exported function: the two are equal by computation.
use mathlib.Core.Path.{refl}
use seplogic.Ra.Ura.{Ura}
use base.Logic.{SProp}
use prog.Memory.{Memory}
use prog.Routine.{Routine}
use types.Logic.{Logic}
use contract.Monad.{Fun}
use Rattle.promise.specs.CallContracts.{Contracts}

pub contracts : {M : Type 1} {𝓤 : Ura M} (𝓛 : Logic 𝓤) (mem : Memory → SProp 𝓤) (run : Routine → Fun 𝓤) → Contracts 𝓛 mem run
contracts 𝓛 mem run =
    record {
      write = λ κs x r y. (refl, refl);
      deliver = λ κs x r y. (refl, refl);
      drive = λ κs x r y. (refl, refl);
      take = λ κs x r y. (refl, refl);
      read = λ κs x r y. (refl, refl);
      close = λ κs x r y. (refl, refl);
      look = λ κs x r y. (refl, refl);
      opens = λ κs x r y. (refl, refl);
      encode = λ κs x r y. (refl, refl);
      decode = λ κs x r y. (refl, refl);
      next-at = λ κs x r y. (refl, refl);
      read-from = λ κs x r y. (refl, refl);
      new_reader = λ κs x r y. (refl, refl);
      moved_reader = λ κs x r y. (refl, refl);
      next-block = λ κs x r y. (refl, refl);
    }
