-- What is asked of a program with another list of types.
use Rattle.std.proofs.Common.{◌≡◌, ℕ, zero, suc, List, [], ◌∷◌, map, Some, None, Bool, true, refl, ap, ◌∙◌}
use Rattle.std.specs.Prelude.{slice_get}
use Rattle.std.specs.List.{AllByRecursion}
use Rattle.lt_tree.specs.Typing.Types.{CType, Void, is_struct}
use Rattle.lt_tree.specs.Typing.Shapes.{shape_of}
use Rattle.lt_tree.specs.Typing.Entities.{Object, Function}
use Rattle.lt_tree.specs.Typing.Programs.{Program}
use Rattle.lt_meaning.specs.Expressions.{cell_type, shape}
use Rattle.lt_meaning.specs.Statements.{type_of_object}
use Rattle.lt_meaning.specs.Runs.{shapes_of}
use Rattle.lt_type_laws.specs.Accesses.{AccessesItems}
use Rattle.lt_type_laws.specs.Renumbered.{shape_with}
use Rattle.lt_type_laws.proofs.Memory.{Comparison, MeetAlike, ShapeFits}
use Rattle.lt_type_laws.proofs.Machine.{ShapesFit}

-- an object of the type has the same cells, whose types have the other numbers
abbrev pub HasShape : Comparison → Program → List CType → CType → Type 0
HasShape seen program types t =
    (shape_of program.model program.structs types t ≡ shape_with seen.numbers (shape_of program.model program.structs program.types t))
    × ShapeFits seen (shape_of program.model program.structs program.types t).cells

-- Accesses meet alike by types that pass a test, by which alone functions get at memory. Structs and objects have the same cells.
pub record IsAlike (seen : Comparison) (test : CType → Bool) (program : Program) (types : List CType) : Type 0 where
  pub accesses : (t : CType) → test t ≡ true → MeetAlike seen (cell_type program t) (cell_type (record program { types = types }) t)
  pub functions : AllByRecursion (λ (f : Function). AccessesItems test f.body) program.functions
  pub structs : (t : CType) → is_struct t ≡ true → HasShape seen program types t
  pub objects : AllByRecursion (λ (object : Object). HasShape seen program types object.type) program.objects

-- ---- the shapes of objects

module _ (seen : Comparison) (test : CType → Bool) (program : Program) (types : List CType) (alike : IsAlike seen test program types) where
  found_shape : (objects : List Object) → AllByRecursion (λ (object : Object). HasShape seen program types object.type) objects → (n : ℕ)
      → HasShape seen program types (elim (slice_get objects n) as (λ _. CType) [ None ↦ Void | Some object ↦ object.type ])
  found_shape [] h n = (refl, (tt, tt))
  found_shape (x ∷ xs) h zero = h.0
  found_shape (x ∷ xs) h (suc n) = found_shape xs h.1 n

  pub object_shape : (n : ℕ) → HasShape seen program types (type_of_object program n)
  object_shape n = found_shape program.objects alike.objects n

  pub shapes_same : (ns : List ℕ) → shapes_of (record program { types = types }) ns ≡ map (shape_with seen.numbers) (shapes_of program ns)
  shapes_same [] = refl
  shapes_same (n ∷ ns) =
      ap (λ it. it ∷ shapes_of (record program { types = types }) ns) (object_shape n).0 ∙ ap (λ its. shape_with seen.numbers (shape program (type_of_object program n)) ∷ its) (shapes_same ns)

  pub shapes_fit : (ns : List ℕ) → ShapesFit seen (shapes_of program ns)
  shapes_fit [] = tt
  shapes_fit (n ∷ ns) = ((object_shape n).1, shapes_fit ns)
