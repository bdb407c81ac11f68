-- Accesses by types of two lists meet the same cells where these have the numbers of the second list, whatever numbers others have.
use Rattle.std.proofs.Common.{◌≡◌, ℕ, zero, suc, List, [], ◌∷◌, Some, Bool, true, refl, sym, ap, ◌∙◌, subst}
use Rattle.std.specs.Prelude.{◌&&◌, slice_get}
use Rattle.std.specs.List.{AllByRecursion, list_any}
use Rattle.lt_model.specs.declared.cell.CellType.{CellType}
use Rattle.lt_model.specs.declared.cell.CellType.TheVariants as cell
use Rattle.lt_model.specs.declared.cell.ShapeCell.{ShapeCell}
use Rattle.lt_model.specs.declared.input.BlockIn.{BlockIn}
use Rattle.lt_tree.specs.Typing.Types.{CType, Void, Num, Pointer, Array, Struct, Function, Floating, Qualified, bare, same}
use Rattle.lt_tree.specs.Typing.Extents.{StructType}
use Rattle.lt_tree.specs.Typing.Entities.{Object, Function as SomeFunction}
use Rattle.lt_tree.specs.Typing.Shapes.{place_among, pointer_type}
use Rattle.lt_tree.specs.Typing.Programs.{Program, made_of, types_of_struct}
use Rattle.lt_meaning.specs.Expressions.{cell_type}
use Rattle.lt_meaning.specs.Runs.{run}
use Rattle.lt_type_laws.specs.Accesses.{is_named_in, AccessesItems}
use Rattle.lt_type_laws.specs.Renumbered.{input_with}
use Rattle.lt_type_laws.specs.TypeLists.{is_of, AreOf, AreAmong, Renumbers}
use Rattle.lt_type_laws.specs.Laws.{AccessedTypesChangeNothing}
use Rattle.lt_type_laws.proofs.Equal.{and_left, and_right, and_both}
use Rattle.lt_type_laws.proofs.Cells.{no_some, some_is}
use Rattle.lt_type_laws.proofs.Memory.{Comparison, MeetAlike, numbers, pointers, same_tests}
use Rattle.lt_type_laws.proofs.Programs.{IsAlike}
use Rattle.lt_type_laws.proofs.Shapes.{IsNumbered, structs_alike, objects_alike}
use Rattle.lt_type_laws.proofs.Passing.{functions_both}
use Rattle.lt_type_laws.proofs.Runs.{run_same}

-- cells may have any numbers
abbrev comparison : (ℕ → ℕ) → Comparison
comparison r = record { numbers = r; held = λ n. true }

of_any : (ty : CellType) → is_of (λ n. true) ty ≡ true
of_any (cell.Num s) = refl
of_any (cell.Pointer k) = refl

cells_of_any : (cells : List ShapeCell) → AllByRecursion (λ (cell : ShapeCell). is_of (λ n. true) cell.ty ≡ true) cells
cells_of_any [] = tt
cells_of_any (c ∷ cs) = (of_any c.ty, cells_of_any cs)

blocks_of_any : (blocks : List BlockIn) → AreOf (λ n. true) blocks
blocks_of_any [] = tt
blocks_of_any (it ∷ its) = (cells_of_any it.shape.cells, blocks_of_any its)

-- ---- types of both lists

module _ (types others : List CType) where
  abbrev InBoth : CType → Type 0
  InBoth t = (list_any (same t) types ≡ true) × (list_any (same t) others ≡ true)

  both_listed : (them : List CType) → AreAmong types them → AreAmong others them → AllByRecursion InBoth them
  both_listed [] h g = tt
  both_listed (t ∷ ts) h g = ((h.0, g.0), both_listed ts h.1 g.1)

  pub each_listed : {A : Type 0} (made : A → List CType) (xs : List A) → AllByRecursion (λ (x : A). AreAmong types (made x) × AreAmong others (made x)) xs → AllByRecursion (λ (x : A). AllByRecursion InBoth (made x)) xs
  each_listed made [] h = tt
  each_listed made (x ∷ xs) h = (both_listed (made x) h.0.0 h.0.1, each_listed made xs h.1)

  -- ---- accesses by them

  module _ (r : ℕ → ℕ) (h : Renumbers r types others) where
    types_alike : (t : CType) → InBoth (bare t) → MeetAlike (comparison r) (pointer_type types t) (pointer_type others t)
    types_alike t f =
        pointers
        (λ n any.
        same_tests (comparison r) (place_among 0 (bare t) others) (r n) (place_among 0 (bare t) types) n (λ e. sym (h.apart t f.0 f.1 n (sym e))) (λ e. h.there t f.0 f.1 ∙ ap r e))

    pub numbered : (t : CType) → InBoth (bare t) → IsNumbered (comparison r) types others t
    numbered t f = record { there = h.there t f.0 f.1; held = refl; meets = types_alike t f }

    abbrev named : CType → Bool
    named t = is_named_in types t && is_named_in others t

    listed : (t : CType) → list_any (same (bare t)) types && list_any (same (bare t)) others ≡ true → MeetAlike (comparison r) (pointer_type types t) (pointer_type others t)
    listed t f = types_alike t (and_left (list_any (same (bare t)) types) (list_any (same (bare t)) others) f, and_right (list_any (same (bare t)) types) (list_any (same (bare t)) others) f)

    pub accesses_alike : (p : Program) → (t : CType) → named t ≡ true → MeetAlike (comparison r) (cell_type (record p { types = types }) t) (cell_type (record p { types = others }) t)
    accesses_alike p (Num s) f = numbers
    accesses_alike p (Qualified q t) f = accesses_alike p t f
    accesses_alike p Void f = listed Void f
    accesses_alike p (Pointer t) f = listed (Pointer t) f
    accesses_alike p (Array t n) f = listed (Array t n) f
    accesses_alike p (Struct n) f = listed (Struct n) f
    accesses_alike p (Function t us dots) f = listed (Function t us dots) f
    accesses_alike p Floating f = listed Floating f

-- ---- the law

module _ (r : ℕ → ℕ) (p q : Program) (renumbers : Renumbers r p.types q.types) (objects : AllByRecursion (λ (object : Object). AreAmong p.types (made_of object.type) × AreAmong q.types (made_of object.type)) p.objects)
    (members : AllByRecursion (λ (it : StructType). AreAmong p.types (types_of_struct it) × AreAmong q.types (types_of_struct it)) p.structs) where
  abbrev test : CType → Bool
  test t = is_named_in p.types t && is_named_in q.types t

  program_alike : AllByRecursion (λ (f : SomeFunction). AccessesItems test f.body) p.functions → IsAlike (comparison r) test p q.types
  program_alike functions =
      let structs = each_listed p.types q.types types_of_struct p.structs members in
      record {
        accesses = accesses_alike p.types q.types r renumbers p;
        functions = functions;
        structs = structs_alike (comparison r) p.types q.types (InBoth p.types q.types) (numbered p.types q.types r renumbers) p.model p.structs structs;
        objects = objects_alike (comparison r) p.types q.types (InBoth p.types q.types) (numbered p.types q.types r renumbers) p.model p.structs structs p.objects
            (each_listed p.types q.types (λ (object : Object). made_of object.type) p.objects objects);
      }

one_of : (P : SomeFunction → Type 0) (fs : List SomeFunction) (n : ℕ) (f : SomeFunction) → AllByRecursion P fs → slice_get fs n ≡ Some f → P f
one_of P [] n f h e = absurd (no_some e)
one_of P (g ∷ gs) zero f h e = subst P (some_is e) h.0
one_of P (g ∷ gs) (suc n) f h e = one_of P gs n f h.1 e

pub accessed_change_nothing : AccessedTypesChangeNothing
accessed_change_nothing r p q n f input ticks but_for_types renumbers objects members here there at =
    let functions =
    functions_both (is_named_in p.types) (is_named_in q.types) (λ t. is_named_in p.types t && is_named_in q.types t) (λ t h g. and_both (is_named_in p.types t) (is_named_in q.types t) h g) p.functions here there in
    ap (λ it. run it f (input_with r input) ticks) but_for_types
    ∙ run_same (comparison r) (λ t. is_named_in p.types t && is_named_in q.types t) p q.types (program_alike r p q renumbers objects members functions) f input ticks
    (one_of (λ (g : SomeFunction). AccessesItems (λ t. is_named_in p.types t && is_named_in q.types t) g.body) p.functions n f functions at) (blocks_of_any input.blocks)
