-- Objects that are alive.
use Rattle.std.proofs.Common.{◌≡◌, ℕ, Option, Some, None, Result, Ok, Err, Bool, true, false, refl}
use Rattle.std.specs.Prelude.{is_ok, slice_get, if◌then◌else◌}
use Rattle.lt_model.specs.declared.operator.Ub.{Ub}
use Rattle.lt_model.specs.declared.operator.Ub.TheVariants.{Ended}
use Rattle.lt_model.specs.Memory.{Memory, Block, if_alive}
use Rattle.lt_ir.specs.Running.{is_alive}

abbrev chosen : Bool → Block → Result Block Ub
chosen b block = if b then Ok block else Err Ended

alive_in : (o : Option Block) → is_ok (if_alive o) ≡ (elim o [ None ↦ false | Some it ↦ it.alive ])
alive_in None = refl
alive_in (Some block) = here block.alive
  where
    here : (b : Bool) → is_ok (chosen b block) ≡ b
    here true = refl
    here false = refl

-- an object that may be used is alive
pub alive_is : (m : Memory) (block : ℕ) → is_ok (if_alive (slice_get m block)) ≡ is_alive m block
alive_is m block = alive_in (slice_get m block)
