-- Demand 1 in 01's sentences for the calls with the totals lent: as for the calls by value, from `ContractsWithTotalsLent`.
use seplogic.Ra.Ura.{Ura}
use base.Logic.{SProp}
use prog.Memory.{Memory}
use prog.Routine.{Routine}
use types.Logic.{Logic}
use contract.Monad.{Fun}
use Rattle.promise_ways.proofs.LentTotals.{contracts_with_totals_lent}
use Rattle.promise_sentences.specs.CallsWithTotalsLent.{DemandOneWithTotalsLent}
use Rattle.promise_sentences.proofs.Calls.{promises, write_says, deliver_says, drive_says, take_says, read_says, close_says}

pub demand_one_with_totals_lent : {M : Type 1} {𝓤 : Ura M} (𝓛 : Logic 𝓤) (mem : Memory → SProp 𝓤) (run : Routine → Fun 𝓤)
    → DemandOneWithTotalsLent 𝓛 mem run
demand_one_with_totals_lent {𝓤 = 𝓤} 𝓛 mem run =
    let c = contracts_with_totals_lent 𝓛 mem run in
    record {
      write = λ κs x r y. promises 𝓤 _ _ _ _ (c.write κs x r y) (write_says _ _ _ _ _ _);
      deliver = λ κs x r y. promises 𝓤 _ _ _ _ (c.deliver κs x r y) (deliver_says _ _ _ _ _ _ _);
      drive = λ κs x r y. promises 𝓤 _ _ _ _ (c.drive κs x r y) (drive_says _ _ _ _ _ _);
      take = λ κs x r y. promises 𝓤 _ _ _ _ (c.take κs x r y) (take_says _ _ _ _ _ _ _);
      read = λ κs x r y. promises 𝓤 _ _ _ _ (c.read κs x r y) (read_says _ _ _ _ _ _ _);
      close = λ κs x r y. promises 𝓤 _ _ _ _ (c.close κs x r y) (close_says _ _ _ _ _);
    }
