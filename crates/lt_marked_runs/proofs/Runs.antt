-- What is made of a typed unit's program runs as it.
use Rattle.std.proofs.Common.{◌≡◌, ℕ, List, map, length, Some, Bool, refl, sym, ap, ◌∙◌, subst}
use Rattle.std.proofs.lemmas.List.{length-map}
use Rattle.std.proofs.lemmas.Option.{slice_get-map}
use Rattle.std.specs.Prelude.{slice_get, option_map}
use Rattle.lt_model.specs.declared.scalar.DataModel.{DataModel}
use Rattle.lt_model.specs.declared.input.Input.{Input}
use Rattle.lt_tree.specs.Tree as c
use Rattle.lt_tree.specs.Typing.Types.{CType}
use Rattle.lt_tree.specs.Typing.Extents.{Structs}
use Rattle.lt_tree.specs.Typing.Shapes.{shape_of}
use Rattle.lt_tree.specs.Typing.Entities.{Function}
use Rattle.lt_tree.specs.Typing.UnitTyping.{IsProgramTo}
use Rattle.lt_tree.specs.Typing.Programs.{Program}
use Rattle.lt_ir.specs.Running.{Over}
use Rattle.lt_meaning.specs.Expressions.{shape}
use Rattle.lt_meaning.specs.Runs.{run, initials}
use Rattle.lt_mark_laws.specs.Laws.{without_new, AreAlike, MarksChangeNothing}
use Rattle.lt_object_laws.specs.Renamed.{renumbered, function_with}
use Rattle.lt_object_laws.specs.Beside.{HasFurtherBlocks}
use Rattle.lt_object_laws.specs.Further.{HasFurtherObjects, blocks_of, further_cells, further_cells_in}
use Rattle.lt_object_laws.specs.Laws.{IsBeside, AreNamed, HasRoomFor, FurtherObjectsChangeNothing}
use Rattle.lt_type_laws.specs.Renumbered.{memory_with, input_with, over_with}
use Rattle.lt_type_laws.specs.TypeLists.{Renumbers, HasItsTypes, HasTypesOfObjects}
use Rattle.lt_type_laws.specs.Laws.{UnitsHaveTheirTypes, FunctionsAccess, AccessedTypesChangeNothing}
use Rattle.lt_type_laws.proofs.Units.{objects_in_both, members_in_both}
use Rattle.lt_typed_addresses.specs.Laws.{AddressesOfUnitsAreThere}
use Rattle.lt_mark_typing.specs.MarkedPrograms.{IsMadeBeside}
use Rattle.lt_mark_typing.specs.MarkedRuns.{RunsBeside, FunctionsRunBeside}
use Rattle.lt_listed_types.specs.Laws.{TypesOfAccessesAreListed}
use Rattle.lt_marked_runs.specs.Laws.{ProgramsRunBeside}
use Rattle.lt_marked_runs.proofs.Sizes.{further_cells_same, statics_same, as_large}
use Rattle.lt_marked_runs.proofs.Along.{HasTheSame, kept, runs_along}
use Rattle.lt_marked_runs.proofs.Types.{found_there}
use Rattle.lt_marked_runs.proofs.Kept.{steps_kept}
use Rattle.lt_marked_runs.proofs.Before.{functions_before}
use Rattle.lt_marked_runs.proofs.Room.{room_kept}

-- a run beside another, with marks added too
both_beside : (new : ℕ → Bool) (flags : List Bool) (r : ℕ → ℕ) (a b c : Over) → IsBeside flags (over_with r a) b → AreAlike new b c → RunsBeside new flags r a c
both_beside new flags r a b c h g = record {
  end = h.end ∙ g.end;
  ticks = h.ticks ∙ g.ticks;
  stubs = h.stubs ∙ g.stubs;
  marks = ap (without_new new) h.marks ∙ g.marks;
  not_made = h.not_made;
  cells = h.cells;
  memory = subst (λ memory. HasFurtherBlocks (renumbered flags) flags h.not_made h.cells (memory_with r a.at.memory) memory) g.memory h.memory;
}

-- programs with the same types have objects of a type with as many cells
shapes_long : (p q : Program) → p.model ≡ q.model → p.structs ≡ q.structs → p.types ≡ q.types → (t : CType) → length (shape p t).cells ≡ length (shape q t).cells
shapes_long p q model structs types t =
    ap (λ m. length (shape_of m p.structs p.types t).cells) model ∙ ap (λ (s : Structs). length (shape_of q.model s p.types t).cells) structs ∙ ap (λ ts. length (shape_of q.model q.structs ts t).cells) types

module _ (marks_nothing : MarksChangeNothing) (further_nothing : FurtherObjectsChangeNothing) (accessed_nothing : AccessedTypesChangeNothing) (units_types : UnitsHaveTheirTypes) (types_listed : TypesOfAccessesAreListed)
    (addresses_there : AddressesOfUnitsAreThere) where
  module _ (new : ℕ → Bool) (further : List Bool) (greatest last : ℕ) (model : DataModel) (unit marked : c.Unit) (p q : Program) (here : IsProgramTo greatest model unit p) (there : IsProgramTo last model marked q)
      (made : IsMadeBeside new further p q) where
    -- with the types of the second program
    abbrev typed : Program
    typed = record p { types = q.types }

    -- with its objects, too
    abbrev furthered : Program
    furthered = record typed { objects = made.objects; functions = map (function_with (renumbered further)) p.functions }

    keeps : HasTheSame (record p { objects = made.objects; functions = map (function_with (renumbered further)) p.functions }) q
    keeps = kept made.steps

    types_here : HasItsTypes p
    types_here = units_types greatest model unit p here

    types_there : HasItsTypes q
    types_there = units_types last model marked q there

    of_objects : HasTypesOfObjects p q
    of_objects = record { structs = sym keeps.structs; objects = found_there made.further_ones q.objects keeps.objects }

    -- by the types of the second list, too
    access_there : FunctionsAccess q.types p.functions
    access_there = functions_before (renumbered further) q.types p.functions (steps_kept q.types made.steps (types_listed last model marked q there))

    with_types : (r : ℕ → ℕ) → Renumbers r p.types q.types → (n : ℕ) (f : Function) (ticks : ℕ) → slice_get p.functions n ≡ Some f → (input : Input) → run typed f (input_with r input) ticks ≡ over_with r (run p f input ticks)
    with_types r renumbers n f ticks at_f input =
        accessed_nothing r p typed n f input ticks refl renumbers (objects_in_both p q types_here types_there of_objects) (members_in_both p q types_here types_there of_objects) (types_listed greatest model unit p here) access_there at_f

    has_further : HasFurtherObjects further typed furthered
    has_further = record {
      model = refl;
      structs = refl;
      types = refl;
      objects = made.further_ones;
      functions = refl;
      addresses = addresses_there greatest model unit p here;
    }

    blocks_same : blocks_of further furthered ≡ blocks_of further q
    blocks_same = statics_same further made.objects q.objects keeps.objects

    cells_as_many : further_cells further q ≡ further_cells further furthered
    cells_as_many =
        sym (further_cells_same (blocks_of further furthered) (initials furthered made.objects) (initials q q.objects) (as_large furthered q (shapes_long furthered q keeps.model keeps.structs refl) made.objects q.objects keeps.objects)
        ∙ ap (λ flags. further_cells_in flags (initials q q.objects)) blocks_same)

    runs_so : (n : ℕ) (f g : Function) (input : Input) (ticks : ℕ) (r : ℕ → ℕ) → slice_get p.functions n ≡ Some f → slice_get q.functions n ≡ Some g
        → Renumbers r p.types q.types → AreNamed input → HasRoomFor (further_cells further q) p f input ticks
        → RunsBeside new (blocks_of further q) r (run p f input ticks) (run q g (input_with r input) ticks)
    runs_so n f g input ticks r at_f at_g renumbers named room =
        both_beside new (blocks_of further q) r (run p f input ticks) (run furthered (function_with (renumbered further) f) (input_with r input) ticks) (run q g (input_with r input) ticks)
        (subst (λ flags. IsBeside flags (over_with r (run p f input ticks)) (run furthered (function_with (renumbered further) f) (input_with r input) ticks)) blocks_same
        (subst (λ it. IsBeside (blocks_of further furthered) it (run furthered (function_with (renumbered further) f) (input_with r input) ticks))
        (with_types r renumbers n f ticks at_f input)
        (further_nothing further typed furthered f (input_with r input) ticks has_further named
        (subst (λ k. HasRoomFor k typed f (input_with r input) ticks) cells_as_many
        (room_kept r p q f ticks (with_types r renumbers n f ticks at_f) input (further_cells further q) room)))))
        (runs_along marks_nothing q.types (input_with r input) ticks n made.steps (function_with (renumbered further) f) g
        (slice_get-map (function_with (renumbered further)) p.functions n ∙ ap (option_map (function_with (renumbered further))) at_f) at_g)

    run_so : FunctionsRunBeside new further p q
    run_so = (sym keeps.functions ∙ length-map p.functions (function_with (renumbered further)), runs_so)

  pub run_beside : ProgramsRunBeside
  run_beside = run_so
