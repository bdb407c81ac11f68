-- The examples compute.
use Rattle.std.proofs.Common.{refl}
use Rattle.lt_tree.specs.Typing.UnitTyping.{typing_to, typing_of}
use Rattle.lt_tree.specs.Typing.Rules.{number_of}
use Rattle.lt_tree.specs.Typing.Extents.{struct_cells, struct_extent, struct_has_constant}
use Rattle.lt_erased_typing.specs.Examples.{MarksHideOperands, MarksShowRegisters}

pub hidden : MarksHideOperands
unfolding typing_to typing_of number_of struct_cells struct_extent struct_has_constant
hidden = (refl, refl, refl, refl, refl, refl, refl)

pub shown : MarksShowRegisters
unfolding typing_to typing_of number_of struct_cells struct_extent struct_has_constant
shown = (refl, refl)
