-- What is looked up while a program is lowered, and what the answers are.
use Rattle.std.specs.Prelude.{◌≡◌, ℕ, suc, List, [], ◌∷◌, map, not, Option, Some, None, is_some, if◌then◌else◌, slice_index_or}
use Rattle.std.specs.List.{filter}
use Rattle.std.specs.Str.{bytes_eq}
use Rattle.std.specs.Global.{Vec}
use Rattle.std.specs.HashMap.{HashMap, get_by}
use Rattle.lt_tree.specs.declared.typed.types.TypeId.{TypeId}
use Rattle.lt_tree.specs.Typing.Types.{CType, is_struct, is_void, qualifiers_of}
use Rattle.lt_tree.specs.Typing.Entities.{Function}
use Rattle.lt_tree.specs.Typing.Programs.{Program}
use Rattle.lt_tree.specs.Typing.TypeRows.{type_in}
use Rattle.lt_meaning.specs.Expressions.{cell_type, scalar_in}
use Rattle.lt_meaning.specs.Runs.{place_among, locals_of, is_there_first, statics_before}
use Rattle.lt_tables.specs.declared.facts.TypeFacts.{TypeFacts}

-- ---- types

-- what is known of a type
pub record AreFactsOf (program : Program) (t : CType) (facts : TypeFacts) : Type 0 where
  pub cell : facts.cell ≡ cell_type program t
  pub scalar : facts.scalar ≡ scalar_in t
  pub holds_struct : facts.is_struct ≡ is_struct t
  pub holds_void : facts.is_void ≡ is_void t
  pub holds_constant : facts.is_constant ≡ (qualifiers_of t).constant

-- what is known of each type of a table; an id that has no row is that of void
abbrev pub HaveFacts : Program → List CType → List TypeFacts → TypeFacts → Type 0
HaveFacts program types known other =
    (id : TypeId) → AreFactsOf program (type_in types id) (slice_index_or known id.place other)

-- ---- names and ids

-- the place of the first of these names that is this one
abbrev pub name_among : ℕ → List ℕ → List (List ℕ) → Option ℕ
name_among k name [] = None
name_among k name (it ∷ its) = if bytes_eq it name then Some k else name_among (suc k) name its

-- of a function among those with a body, and of a label with this id
abbrev pub function_number : Program → List ℕ → Option ℕ
function_number program name = name_among 0 name (map (λ f. f.name) program.functions)

abbrev pub label_number : Program → (id : ℕ) → Option ℕ
label_number program id = place_among 0 id (map (λ label. label.id) program.labels)

-- the functions that are declared and have no body
abbrev pub stubs_of : Program → List (List ℕ)
stubs_of program = filter (λ name. not (is_some (function_number program name))) (map (λ f. f.name) program.declared)

-- what a map has for a name
abbrev pub place_in : {S : Type 0} → HashMap (Vec ℕ) ℕ S → List ℕ → Option ℕ
place_in places name = get_by (λ key. bytes_eq name key.items) places

-- the number of an object among those that are there from the start
abbrev pub static_number : Program → ℕ → Option ℕ
static_number program n = if is_there_first program n then Some (statics_before n program.objects) else None

-- the place of an object among the parameters of a function, and among those that its statements begin
abbrev pub parameter_number : Function → ℕ → Option ℕ
parameter_number f n = place_among 0 n f.parameters

abbrev pub local_number : Function → ℕ → Option ℕ
local_number f n = place_among 0 n (locals_of f.body)
