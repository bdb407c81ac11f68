-- The value of what an expression is as a constant, as the program holds it.
use Rattle.lt_tree.specs.declared.typed.constancy.Constancy.{Constancy}
use Rattle.lt_tree.specs.declared.typed.constancy.Constancy.TheVariants as held
use Rattle.lt_tree.specs.Typing.Constants as spec

abbrev pub constancy_of : Constancy → spec.Constancy
constancy_of held.Varying = spec.varying
constancy_of held.Faulty = spec.faulty
constancy_of (held.Number z) = spec.number z
constancy_of held.NullConstant = spec.null_constant
constancy_of held.NullAddress = spec.null_address
constancy_of (held.Address object offset) = spec.address object offset
