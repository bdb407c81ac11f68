-- The examples of typed expressions compute.
use Rattle.std.proofs.Common.{refl}
use Rattle.lt_tree.specs.Typing.UnitTyping.{typing_of}
use Rattle.lt_tree.specs.Typing.Extents.{struct_cells, struct_extent, struct_has_constant}
use Rattle.lt_tree_laws.specs.Typing.ExpressionExamples as u

pub constants : u.ConstantsHaveTheirTypes
unfolding typing_of
constants = ((refl, refl), (refl, refl), (refl, refl), (refl, refl), (refl, refl), (refl, refl), (refl, refl), (refl, refl), (refl, refl), refl)

pub names : u.NamesAreSought
unfolding typing_of struct_cells
names = (refl, refl, refl, refl, refl, refl)

pub pointers : u.PointersAreMovedAndCompared
unfolding typing_of struct_cells
pointers = (refl, refl, refl, refl, refl, refl, refl, refl, refl, refl, refl, refl, refl, refl)

pub integers : u.IntegersAreConverted
unfolding typing_of struct_cells
integers = (refl, refl, refl, refl, refl)

pub assignments : u.AssignmentsFit
unfolding typing_of struct_cells struct_has_constant
assignments = (refl, refl, refl, refl, refl, refl, refl, refl, refl, refl, refl)

pub parts : u.PartsAreFound
unfolding typing_of struct_cells struct_extent
parts = (refl, refl, refl, refl, refl, refl, refl, refl, refl, refl, refl, refl, refl, refl, refl, refl, refl, refl, refl, refl, refl, refl)
