-- When a command line is faulty.
use Rattle.std.specs.Prelude.{◌≡◌, ◌⊎◌, Option, None}
use Rattle.lt_command.specs.Plan.{Plan}
use Rattle.lt_answers.specs.declared.status.Status.{Status}
use Rattle.lt_answers.specs.declared.status.Status.TheVariants.{Usage, NoMemory}

-- Usage is told exactly where the words ask for nothing, but for want of memory.
pub record TellsUsage (asked : Option Plan) (status : Status) : Type 0 where
  pub only : status ≡ Usage → asked ≡ None
  pub always : asked ≡ None → (status ≡ Usage) ⊎ (status ≡ NoMemory)
