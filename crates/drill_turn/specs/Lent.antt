-- What a run of a drill is lent, before its ends are opened.
use Rattle.std.specs.Prelude.{◌≡◌, replicate}
use Rattle.session_commands.specs.Fresh.{FreshStores}
use Rattle.drill_broken.specs.Fresh.{FreshSpare}
use Rattle.drill_turn.specs.declared.lent.DrillLent.{DrillLent}

-- nothing is stored with either end, and every byte of the buffers is 0
pub record FreshLent (d : DrillLent) : Type 0 where
  pub zero : FreshStores d.zero
  pub one : FreshStores d.one
  pub scratch : d.scratch ≡ replicate 65_536 0
  pub spare : FreshSpare d.spare
  pub line : d.line ≡ replicate 8_400 0
