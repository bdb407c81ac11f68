-- The variables, functions and labels of a function's code are there.
use Rattle.std.proofs.Common.{◌≡◌, ℕ, zero, suc, ◌+◌, ◌<◌, ◌==◌, Bool, true, false, List, [], ◌∷◌, length, map, Option, Some, None, slice_get, refl, ap, ◌∙◌, arith}
use Rattle.std.specs.Prelude.{if◌then◌else◌}
use Rattle.std.specs.Str.{bytes_eq}
use Rattle.std.proofs.lemmas.Bool.{lt-ltb}
use Rattle.std.proofs.lemmas.List.{length-map}
use Rattle.lt_model.specs.declared.cell.Shape.{Shape}
use Rattle.lt_tree.specs.Typing.Entities.{Function, Object, is_static as is_made_first}
use Rattle.lt_tree.specs.Typing.Programs.{Program}
use Rattle.lt_ir.specs.declared.variable.Variable.TheVariants as variable
use Rattle.lt_ir.specs.Ranges.{Counts, is_variable}
use Rattle.lt_meaning.specs.Expressions.{shape}
use Rattle.lt_meaning.specs.Statements.{type_of_object}
use Rattle.lt_meaning.specs.Runs.{place_among, locals_of, is_there_first, statics_before, initial, initials, other_variable, variable_of}
use Rattle.lt_tables.specs.Lookups.{name_among, function_number, label_number}
use Rattle.lt_emit.specs.Emission.{Here, counts_of, local_shapes}
use Rattle.lt_emit.proofs.Emitted.{longer}

-- ---- places among others

same_place : {k j : ℕ} → Some k ≡ Some j → k ≡ j
same_place is = cc

pub place_within : (k n : ℕ) (ms : List ℕ) (j : ℕ) → place_among k n ms ≡ Some j → j < k + length ms
place_within k n [] j is = absurd (cc)
place_within k n (m ∷ ms) j is = by (m == n) is (place_within (suc k) n ms j)
  where
    by : (b : Bool) → (if b then Some k else place_among (suc k) n ms) ≡ Some j
        → (place_among (suc k) n ms ≡ Some j → j < suc k + length ms) → j < k + length (m ∷ ms)
    by true is behind = omega (arith, same_place is)
    by false is behind = omega (arith, behind is)

pub name_within : (k : ℕ) (name : List ℕ) (its : List (List ℕ)) (j : ℕ) → name_among k name its ≡ Some j → j < k + length its
name_within k name [] j is = absurd (cc)
name_within k name (it ∷ its) j is = by (bytes_eq it name) is (name_within (suc k) name its j)
  where
    by : (b : Bool) → (if b then Some k else name_among (suc k) name its) ≡ Some j
        → (name_among (suc k) name its ≡ Some j → j < suc k + length its) → j < k + length (it ∷ its)
    by true is behind = omega (arith, same_place is)
    by false is behind = omega (arith, behind is)

-- a function with a body, and a label
pub function_in : (program : Program) (name : List ℕ) (k : ℕ) → function_number program name ≡ Some k → k < length program.functions
function_in program name k is =
    let name_of : Function → List ℕ = λ f. f.name in
    omega (arith, name_within 0 name (map name_of program.functions) k is, length-map program.functions name_of)

pub label_in : (program : Program) (id k : ℕ) → label_number program id ≡ Some k → k < length program.labels
label_in program id k is =
    omega (arith, place_within 0 id (map (λ label. label.id) program.labels) k is, length-map program.labels (λ label. label.id))

-- ---- objects that are there from the start

static_within :
    (program : Program) (objects : List Object) (n : ℕ) (object : Object) → slice_get objects n ≡ Some object
    → is_made_first object.life ≡ true → statics_before n objects < length (initials program objects)
static_within program [] n object at first = absurd (cc)
static_within program (o ∷ objects) zero object at first =
    let same : o ≡ object = cc in
    by (is_made_first o.life) (ap (λ it. is_made_first it.life) same ∙ first)
  where
    by : (b : Bool) → b ≡ true
        → 0 < length (if b then initial program o ∷ initials program objects else initials program objects)
    by true is = omega arith
    by false is = absurd (cc)
static_within program (o ∷ objects) (suc n) object at first =
    by (is_made_first o.life) (static_within program objects n object at first)
  where
    by : (b : Bool) → statics_before n objects < length (initials program objects)
        → (if b then suc (statics_before n objects) else statics_before n objects)
        < length (if b then initial program o ∷ initials program objects else initials program objects)
    by true less = omega (arith, less)
    by false less = less

static_in : (program : Program) (n : ℕ) → is_there_first program n ≡ true
    → statics_before n program.objects < length (initials program program.objects)
static_in program n is = by (slice_get program.objects n) refl is
  where
    by : (found : Option Object) → slice_get program.objects n ≡ found
        → (elim found [ None ↦ false | Some object ↦ is_made_first object.life ]) ≡ true
        → statics_before n program.objects < length (initials program program.objects)
    by None at is = absurd (cc)
    by (Some object) at is = static_within program program.objects n object at is

-- ---- variables

module _ (here : Here) (nodes structs registers : ℕ) (n : ℕ) where
  abbrev counts : Counts
  counts = counts_of here nodes structs registers

  locals_there : length (local_shapes here.program here.function) ≡ length (locals_of here.function.body) + 1
  locals_there =
      let shape_of : ℕ → Shape = λ m. shape here.program (type_of_object here.program m) in
      longer (map shape_of (locals_of here.function.body)) (record { cells = []; size = 0 })
      ∙ ap (λ k. k + 1) (length-map (locals_of here.function.body) shape_of)

  local_in : (found : Option ℕ) → place_among 0 n (locals_of here.function.body) ≡ found
      → is_variable counts (elim found [ None ↦ variable.Local (length (locals_of here.function.body)) | Some k ↦ variable.Local k ]) ≡ true
  local_in None is = lt-ltb (length (locals_of here.function.body)) counts.locals (omega (arith, locals_there))
  local_in (Some k) is =
      lt-ltb k counts.locals (omega (arith, locals_there, place_within 0 n (locals_of here.function.body) k is))

  other_in : (first : Bool) → is_there_first here.program n ≡ first
      → is_variable counts (if first then variable.Static (statics_before n here.program.objects)
      else elim (place_among 0 n (locals_of here.function.body)) [ None ↦ variable.Local (length (locals_of here.function.body)) | Some k ↦ variable.Local k ]) ≡ true
  other_in true is = lt-ltb (statics_before n here.program.objects) counts.statics (static_in here.program n is)
  other_in false is = local_in (place_among 0 n (locals_of here.function.body)) refl

  named_in : (found : Option ℕ) → place_among 0 n here.function.parameters ≡ found
      → is_variable counts (elim found [ None ↦ other_variable here.program (locals_of here.function.body) n | Some k ↦ variable.Parameter k ]) ≡ true
  named_in None is = other_in (is_there_first here.program n) refl
  named_in (Some k) is = lt-ltb k counts.params (omega (arith, place_within 0 n here.function.parameters k is))

  -- what an object is called is there
  pub variable_in : is_variable counts (variable_of here.program here.function n) ≡ true
  variable_in = named_in (place_among 0 n here.function.parameters) refl
