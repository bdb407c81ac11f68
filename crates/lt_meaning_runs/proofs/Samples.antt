-- The worked examples of runs compute.
use Rattle.std.proofs.Common.{refl}
use Rattle.lt_model.specs.Memory.{load, store, create_shaped}
use Rattle.lt_tree.specs.Typing.UnitTyping.{typing_to}
use Rattle.lt_tree.specs.Typing.Extents.{struct_cells, struct_extent}
use Rattle.lt_tree.specs.Typing.Shapes.{struct_cells_at}
use Rattle.lt_meaning_runs.specs.Samples as s

pub division : s.DivisionByZero
unfolding typing_to struct_cells struct_extent struct_cells_at load store create_shaped
division = refl

pub unsequenced : s.ReadAndWritten
unfolding typing_to struct_cells struct_extent struct_cells_at load store create_shaped
unsequenced = refl

pub no_input : s.NothingLeft
unfolding typing_to struct_cells struct_extent struct_cells_at load store create_shaped
no_input = refl

pub ticks : s.TicksOfALoop
unfolding typing_to struct_cells struct_extent struct_cells_at load store create_shaped
ticks = (refl, refl)

pub divided : s.WrittenBeforeDivided
unfolding typing_to struct_cells struct_extent struct_cells_at load store create_shaped
divided = refl

pub twice : s.WrittenTwice
unfolding typing_to struct_cells struct_extent struct_cells_at load store create_shaped
twice = refl

pub before_a_call : s.WrittenBeforeACall
unfolding typing_to struct_cells struct_extent struct_cells_at load store create_shaped
before_a_call = refl

pub ended : s.EndedObject
unfolding typing_to struct_cells struct_extent struct_cells_at load store create_shaped
ended = refl

pub quiet : s.QuietPredicate
unfolding typing_to struct_cells struct_extent struct_cells_at load store create_shaped
quiet = refl

pub past_the_end : s.OnePastTheEnd
unfolding typing_to struct_cells struct_extent struct_cells_at load store create_shaped
past_the_end = (refl, refl)
