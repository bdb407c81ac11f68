-- A list that has each type of another may stand in its place.
use Rattle.std.proofs.Common.{◌≡◌, ◌<◌, ℕ, List, length, Bool, true, false, refl, sym, ap, ◌∙◌}
use Rattle.std.proofs.lemmas.Bool.{ltb-true, lt-ltb}
use Rattle.std.specs.Prelude.{nat_lt}
use Rattle.std.specs.List.{list_any}
use Rattle.lt_tree.specs.Typing.Types.{CType, Void, Num, Pointer, Array, Struct, Function, Floating, Qualified, bare, same}
use Rattle.lt_tree.specs.Typing.Shapes.{place_among, pointer_type}
use Rattle.lt_tree.specs.Typing.Programs.{Program}
use Rattle.lt_meaning.specs.Expressions.{cell_type}
use Rattle.lt_meaning.specs.Runs.{run}
use Rattle.lt_type_laws.specs.Renumbered.{input_with}
use Rattle.lt_type_laws.specs.TypeLists.{HaveNumbers, HasOtherTypes}
use Rattle.lt_type_laws.specs.Laws.{OtherTypesChangeNothing}
use Rattle.lt_type_laws.proofs.Memory.{Comparison, MeetAlike, numbers, pointers, same_tests}
use Rattle.lt_type_laws.proofs.Programs.{IsAlike}
use Rattle.lt_type_laws.proofs.Lists.{number_within, number_behind}
use Rattle.lt_type_laws.proofs.Shapes.{IsNumbered, structs_alike, objects_alike}
use Rattle.lt_type_laws.proofs.Passing.{items_pass, functions_pass}
use Rattle.lt_type_laws.proofs.Runs.{run_same}

-- cells have integer types, or types of the first list
abbrev comparison : (ℕ → ℕ) → List CType → Comparison
comparison r types = record { numbers = r; held = λ n. nat_lt n (length types) }

module _ (r : ℕ → ℕ) (types others : List CType) (h : HaveNumbers r types others) where
  there_by : (t : CType) (n : ℕ) → n < length types → place_among 0 (bare t) types ≡ n → (b : Bool) → list_any (same (bare t)) types ≡ b → place_among 0 (bare t) others ≡ r n
  there_by t n within e true f = h.listed t f ∙ ap r e
  there_by t n within e false f = absurd (number_behind types (bare t) n f within e)

  back_by : (t : CType) (n : ℕ) → n < length types → place_among 0 (bare t) others ≡ r n → (b : Bool) → list_any (same (bare t)) types ≡ b → place_among 0 (bare t) types ≡ n
  back_by t n within e true f = h.apart (place_among 0 (bare t) types) n (number_within types (bare t) f) within (sym (h.listed t f) ∙ e)
  back_by t n within e false f = absurd (h.unlisted t f n within e)

  -- accesses meet cells of types of the first list alike, by any type
  pub types_alike : (t : CType) → MeetAlike (comparison r types) (pointer_type types t) (pointer_type others t)
  types_alike t =
      pointers
      (λ n less.
      same_tests (comparison r types) (place_among 0 (bare t) others) (r n) (place_among 0 (bare t) types) n (λ e. back_by t n (ltb-true n (length types) less) e (list_any (same (bare t)) types) refl)
      (λ e. there_by t n (ltb-true n (length types) less) e (list_any (same (bare t)) types) refl))

  pub numbered : (t : CType) → list_any (same (bare t)) types ≡ true → IsNumbered (comparison r types) types others t
  numbered t f = record { there = h.listed t f; held = lt-ltb (place_among 0 (bare t) types) (length types) (number_within types (bare t) f); meets = types_alike t }

module _ (r : ℕ → ℕ) (p q : Program) (h : HasOtherTypes r p q) where
  accesses_alike : (t : CType) → MeetAlike (comparison r p.types) (cell_type p t) (cell_type (record p { types = q.types }) t)
  accesses_alike (Num s) = numbers
  accesses_alike (Qualified q t) = accesses_alike t
  accesses_alike Void = types_alike r p.types q.types h.numbers Void
  accesses_alike (Pointer t) = types_alike r p.types q.types h.numbers (Pointer t)
  accesses_alike (Array t n) = types_alike r p.types q.types h.numbers (Array t n)
  accesses_alike (Struct n) = types_alike r p.types q.types h.numbers (Struct n)
  accesses_alike (Function t us dots) = types_alike r p.types q.types h.numbers (Function t us dots)
  accesses_alike Floating = types_alike r p.types q.types h.numbers Floating

  program_alike : IsAlike (comparison r p.types) (λ t. true) p q.types
  program_alike = record {
    accesses = λ t passes. accesses_alike t;
    functions = functions_pass (λ t. true) (λ t. refl) p.functions;
    structs = structs_alike (comparison r p.types) p.types q.types (λ t. list_any (same t) p.types ≡ true) (numbered r p.types q.types h.numbers) p.model p.structs h.members;
    objects = objects_alike (comparison r p.types) p.types q.types (λ t. list_any (same t) p.types ≡ true) (numbered r p.types q.types h.numbers) p.model p.structs h.members p.objects h.objects;
  }

pub nothing_changes : OtherTypesChangeNothing
nothing_changes r p q f input ticks h below =
    ap (λ it. run it f (input_with r input) ticks) h.but_for_types
    ∙ run_same (comparison r p.types) (λ t. true) p q.types (program_alike r p q h) f input ticks (items_pass (λ t. true) (λ t. refl) f.body) below
