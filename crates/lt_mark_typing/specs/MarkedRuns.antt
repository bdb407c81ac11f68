-- That a unit with marks added runs as the unit without them does.
use Rattle.std.specs.Prelude.{◌≡◌, ℕ, nat_le, Bool, List, length, slice_get, Some}
use Rattle.lt_model.specs.declared.scalar.DataModel.{DataModel}
use Rattle.lt_model.specs.declared.input.Input.{Input}
use Rattle.lt_tree.specs.Tree as c
use Rattle.lt_tree.specs.Typing.Entities.{Function}
use Rattle.lt_tree.specs.Typing.UnitTyping.{IsProgramTo}
use Rattle.lt_tree.specs.Typing.Programs.{Program}
use Rattle.lt_ir.specs.Running.{Over}
use Rattle.lt_meaning.specs.Runs.{run}
use Rattle.lt_mark_laws.specs.Laws.{without_new}
use Rattle.lt_object_laws.specs.Renamed.{renumbered}
use Rattle.lt_object_laws.specs.Beside.{HasFurtherBlocks}
use Rattle.lt_object_laws.specs.Further.{blocks_of, further_cells}
use Rattle.lt_object_laws.specs.Laws.{AreNamed, HasRoomFor}
use Rattle.lt_type_laws.specs.Renumbered.{memory_with, input_with}
use Rattle.lt_type_laws.specs.TypeLists.{Renumbers}
use Rattle.lt_mark_typing.specs.MarkedPrograms.{IsMadeBeside}

-- whether an id is this one or comes behind it
abbrev pub is_from : ℕ → ℕ → Bool
is_from id n = nat_le id n

-- Both runs are over in the same way, with the same ticks and values left, and made the same marks, new ones aside. The second one's memory is the first's, in whose
-- cells types have the numbers that r gives, with further blocks among the others, as the flags say; a run that ends early may not have come to make the last ones.
pub record RunsBeside (new : ℕ → Bool) (further : List Bool) (r : ℕ → ℕ) (a b : Over) : Type 0 where
  pub end : a.end ≡ b.end
  pub ticks : a.at.ticks ≡ b.at.ticks
  pub stubs : a.at.stubs ≡ b.at.stubs
  pub marks : without_new new a.at.marks ≡ without_new new b.at.marks
  pub not_made : List Bool
  pub cells : ℕ
  pub memory : HasFurtherBlocks (renumbered further) further not_made cells (memory_with r a.at.memory) b.at.memory

-- Each function of the second program runs as that of the first does, new marks and further objects aside, on every input, in whose cells types have the numbers of
-- the second program's list (r), where the run has room for the cells of the further objects.
abbrev pub FunctionsRunBeside : (new : ℕ → Bool) → (further : List Bool) → Program → Program → Type 0
FunctionsRunBeside new further p q =
    (length q.functions ≡ length p.functions)
    × ((n : ℕ) (f g : Function) (input : Input) (ticks : ℕ) (r : ℕ → ℕ) → slice_get p.functions n ≡ Some f → slice_get q.functions n ≡ Some g
    → Renumbers r p.types q.types → AreNamed input → HasRoomFor (further_cells further q) p f input ticks
    → RunsBeside new (blocks_of further q) r (run p f input ticks) (run q g (input_with r input) ticks))

-- The unit has a program, where ids are set aside but for a greatest, which is made of the other program with marks whose ids are new, and runs as that does. Its
-- further objects, string literals and parameters of type names in the predicates of new marks, aren't compared.
abbrev pub RunsAs : (new : ℕ → Bool) → DataModel → Program → c.Unit → Type 0
RunsAs new model program unit =
    (greatest : ℕ) × (other : Program) × (further : List Bool) × IsProgramTo greatest model unit other × IsMadeBeside new further program other × FunctionsRunBeside new further program other
