-- The examples of typed units and programs compute.
use Rattle.std.proofs.Common.{refl}
use Rattle.lt_tree.specs.Typing.Rules.{number_of}
use Rattle.lt_tree.specs.Typing.UnitTyping.{typing_to}
use Rattle.lt_tree.specs.Typing.Extents.{struct_cells, struct_extent, struct_has_constant}
use Rattle.lt_tree.specs.Typing.Filling.{first_in_struct}
use Rattle.lt_tree.specs.Typing.Shapes.{struct_cells_at}
use Rattle.lt_tree_laws.specs.Typing.UnitExamples as u
use Rattle.lt_tree_laws.specs.Typing.ProgramExamples as v

pub first_rule : u.FirstRuleIsAnswered
unfolding typing_to number_of
first_rule = (refl, refl, refl, refl)

pub names : u.NamesAreDeclaredOnce
unfolding typing_to number_of
names = (refl, refl, refl, refl, refl)

pub functions : u.FunctionsAgree
unfolding typing_to number_of
functions = (refl, refl, refl, refl, refl)

pub files : u.FilesAreTyped
unfolding typing_to number_of struct_cells struct_extent
files = (refl, refl)

pub types : u.TypesAreNamed
unfolding typing_to number_of
types = (refl, refl, refl, refl, refl, refl, refl)

pub lengths : u.LengthsAreBounded
unfolding typing_to number_of struct_cells struct_extent
lengths = (refl, refl, refl, refl, refl, refl, refl, refl)

pub initialisers : u.InitialisersFit
unfolding typing_to number_of struct_cells struct_extent first_in_struct
initialisers = (refl, refl, refl, refl, refl, refl, refl, refl)

pub statements : u.StatementsFit
unfolding typing_to number_of struct_cells
statements = (refl, refl, refl, refl, refl, refl, refl, refl, refl, refl, refl, refl)

pub calls : u.CallsAreAnswered
unfolding typing_to number_of
calls = (refl, refl, refl)

pub marks : u.MarksFit
unfolding typing_to number_of
marks = (refl, refl, refl, refl, refl, refl, refl, refl, refl, refl)

pub conversions : v.ConversionsAreWrittenOut
unfolding typing_to number_of
conversions = refl

pub places : v.PlacesStayPlaces
unfolding typing_to number_of
places = refl

pub calls_and_marks : v.CallsAndMarksStay
unfolding typing_to number_of struct_cells struct_extent struct_has_constant
calls_and_marks = refl

pub spread : v.InitialisersAreSpread
unfolding typing_to number_of struct_cells struct_extent first_in_struct
spread = (refl, refl, refl, refl)

pub cells : v.ObjectsHaveCells
unfolding typing_to number_of struct_cells struct_extent struct_cells_at
cells = (refl, refl, refl)
