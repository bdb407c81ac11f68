-- What a specification's line has to be like in its place, where the lines before it are lines of the specification.
use Rattle.std.specs.Prelude.{ℕ, suc, pos, nat_abs, ◌^◌, ◌==◌, ◌&&◌, ◌||◌, nat_lt, nat_le, int_le, Bool, true, false, not, if◌then◌else◌, List, [], ◌∷◌, ◌++◌, length, map, filter_map, codes, Option, Some, None, is_some, is_none, option_map}
use Rattle.std.specs.List.{list_all, list_any}
use Rattle.std.specs.Str.{bytes_eq}
use Rattle.lt_model.specs.declared.input.Place.{Place}
use Rattle.lt_model.specs.declared.scalar.DataModel.{DataModel}
use Rattle.lt_model.specs.declared.scalar.Scalar.{Scalar}
use Rattle.lt_model.specs.Operators.{is_value}
use Rattle.lt_tree.specs.Typing.Types.{CType, Array, Function as FunctionType, is_scalar, is_integer, scalar_of, target_of}
use Rattle.lt_token.specs.Words.{is_no_identifier}
use Rattle.lt_tree.specs.Typing.Expressions.{has_floating, has_pointer_to_function}
use Rattle.lt_tree.specs.Typing.Extents.{has_size, has_too_many_cells}
use Rattle.lt_tree.specs.Typing.Entities.{Declared, Function}
use Rattle.lt_tree.specs.Typing.Programs.{Program}
use Rattle.lt_meaning.specs.Runs.{stops, function_among}
use Rattle.lt_entry.specs.Lines.{Row}
use Rattle.lt_entry.specs.Written.{Numeral, value_of, PlaceWord, TargetWord}
use Rattle.lt_entry.specs.Reading.{read_place, read_target}
use Rattle.lt_entry.specs.TypeNames.{type_named}
use Rattle.lt_entry.specs.Naming.{Block, block_root, parameters_of, Scope, roots, root_among, default_block, Named, named_by, targets_of}
use Rattle.lt_entry.specs.SpecificationLines.{Line, entry_line, block_line, range_line, points_line, stub_line, require_line, is_in_form, Addend, addends}

-- ---- the entry

-- the number of a function among those with bodies
abbrev pub number_from : ℕ → List ℕ → List Function → Option ℕ
number_from k name [] = None
number_from k name (f ∷ fs) = if bytes_eq f.name name then Some k else number_from (suc k) name fs

-- a function whose parameters are integers or pointers
abbrev pub may_be_entry : Program → ℕ → Bool
may_be_entry program k = list_all (λ parameter. is_scalar parameter.type) (parameters_of program k)

abbrev pub entry_if_fit : Program → Option ℕ → Option ℕ
entry_if_fit program None = None
entry_if_fit program (Some k) = if may_be_entry program k then Some k else None

-- the function of this name that has a body, if it may be an entry
abbrev pub entry_named : Program → List ℕ → Option ℕ
entry_named program name = entry_if_fit program (number_from 0 name program.functions)

-- the entry that the first line names
abbrev pub entry_of : Program → List Line → Option ℕ
entry_of program (entry_line name ∷ lines) = entry_named program name
entry_of program lines = None

-- ---- what names stand for on a line

-- the block that a line makes
abbrev pub block_of_line : Program → Line → Option Block
block_of_line program (block_line name type count) =
    option_map (λ t. record { name = name; element = t; count = nat_abs (value_of count) }) (type_named program.file type)
block_of_line program line = None

-- a line of the file that begins with `points`, the name and what has the form of a target
abbrev pub points_at : List ℕ → List (List ℕ) → Bool
points_at name (first ∷ second ∷ third ∷ words) = bytes_eq first (codes "points") && bytes_eq second name && is_some (read_target third)
points_at name words = false

-- The default blocks: one for each parameter that points to what has a size, and for which no line of the file says where it points.
abbrev pub default_blocks : Program → List Row → (entry : ℕ) → List Block
default_blocks program rows entry =
    filter_map (λ parameter. if list_any (λ row. points_at parameter.name row.words) rows then None else default_block program parameter) (parameters_of program entry)

-- what names stand for behind these lines of a file with these rows
abbrev pub scope_behind : Program → List Row → (entry : ℕ) → List Line → Scope
scope_behind program rows entry lines = record {
  program = program;
  parameters = parameters_of program entry;
  blocks = filter_map (block_of_line program) lines ++ default_blocks program rows entry;
}

-- ---- cells

abbrev pub same_place : Place → Place → Bool
same_place p q = bytes_eq p.root q.root && p.offset == q.offset

abbrev pub is_place_in : List Named → Place → Bool
is_place_in its place = list_any (λ it. same_place it.place place) its

-- whether a `range` or `points` line names the cell
abbrev pub names_cell : Scope → Place → Line → Bool
names_cell scope place (range_line word low high) = is_place_in (named_by scope word) place
names_cell scope place (points_line word targets) = is_place_in (named_by scope word) place
names_cell scope place line = false

-- A place names something, and this holds of each part that it names.
abbrev pub each_named : (Named → Bool) → List Named → Bool
each_named test [] = false
each_named test (it ∷ its) = test it && list_all test its

-- the range isn't empty, and its ends are values of the type
abbrev pub is_range : DataModel → (low high : Numeral) → Option Scalar → Bool
is_range model low high None = false
is_range model low high (Some s) = int_le (value_of low) (value_of high) && is_value model s (value_of low) && is_value model s (value_of high)

abbrev pub have_targets : Scope → List TargetWord → Option CType → Bool
have_targets scope [] t = false
have_targets scope targets None = false
have_targets scope targets (Some pointed) = list_all (λ target. not (length (targets_of scope pointed target) == 0)) targets

-- ---- functions without a body

-- a function without a body that gives an integer
pub record Stub : Type 0 where
  pub name : List ℕ
  pub type : Scalar

abbrev pub integer_result : CType → Option Scalar
integer_result (FunctionType result parameters dots) = scalar_of result
integer_result t = None

abbrev pub stub_of : Program → Declared → Option Stub
stub_of program f =
    if is_some (function_among f.name program.functions) || stops f.name then None
    else option_map (λ s. record { name = f.name; type = s }) (integer_result f.type)

abbrev pub stubs_of : Program → List Stub
stubs_of program = filter_map (stub_of program) program.declared

abbrev pub stub_among : List ℕ → List Stub → Option Scalar
stub_among name [] = None
stub_among name (stub ∷ stubs) = if bytes_eq stub.name name then Some stub.type else stub_among name stubs

abbrev pub names_stub : List ℕ → Line → Bool
names_stub name (stub_line other low high) = bytes_eq other name
names_stub name line = false

-- ---- blocks

-- An array of this type may be made: an object may have the type of its elements.
abbrev pub is_block : Program → Numeral → Option CType → Bool
is_block program count None = false
is_block program count (Some t) =
    int_le (pos 1) (value_of count) && has_size program.structs t && not (has_floating t) && not (has_pointer_to_function t)
    && not (has_too_many_cells program.structs (Array t (nat_abs (value_of count))))

-- ---- requirements

abbrev pub is_small_factor : Option Numeral → Bool
is_small_factor None = true
is_small_factor (Some factor) = nat_lt factor.size (2 ^ 31)

-- the place names an integer cell
abbrev pub is_term : Scope → Addend → Bool
is_term scope addend = each_named (λ it. is_integer it.type) (named_by scope addend.term.place) && is_small_factor addend.term.factor

-- ---- lines

-- the line in this scope, behind these lines
abbrev pub fits_in : Scope → List Line → Line → Bool
fits_in scope before (entry_line name) = false
fits_in scope before (block_line name type count) =
    not (is_no_identifier name) && is_none (root_among (roots scope) name) && is_block scope.program count (type_named scope.program.file type)
fits_in scope before (range_line place low high) =
    each_named (λ it. is_range scope.program.model low high (scalar_of it.type) && not (list_any (names_cell scope it.place) before)) (named_by scope place)
fits_in scope before (points_line place targets) =
    each_named (λ it. have_targets scope targets (target_of it.type) && not (list_any (names_cell scope it.place) before)) (named_by scope place)
fits_in scope before (stub_line name low high) =
    is_range scope.program.model low high (stub_among name (stubs_of scope.program)) && not (list_any (names_stub name) before)
fits_in scope before (require_line sum relation constant) =
    nat_le (length (addends sum)) 16 && list_all (is_term scope) (addends sum) && nat_lt constant.size (2 ^ 63)

abbrev pub fits_behind : Program → List Row → Option ℕ → List Line → Line → Bool
fits_behind program rows None before line = false
fits_behind program rows (Some entry) before line = fits_in (scope_behind program rows entry before) before line

abbrev pub fits_where : Program → List Row → List Line → Line → Bool
fits_where program rows [] (entry_line name) = is_some (entry_named program name)
fits_where program rows [] line = false
fits_where program rows (first ∷ before) line = fits_behind program rows (entry_of program (first ∷ before)) (first ∷ before) line

-- Whether a line may stand behind these lines in a file with these rows. That the cells of a requirement are free is asked of the whole file.
abbrev pub fits : Program → List Row → List Line → Line → Bool
fits program rows before line = is_in_form line && fits_where program rows before line

-- ---- free cells

abbrev pub names_place : Scope → Place → Option PlaceWord → Bool
names_place scope place None = false
names_place scope place (Some word) = is_place_in (named_by scope word) place

-- a line of the file that begins with `range` and a place that names the cell
abbrev pub is_ranged_by : Scope → Place → List (List ℕ) → Bool
is_ranged_by scope place (first ∷ second ∷ words) = bytes_eq first (codes "range") && names_place scope place (read_place second)
is_ranged_by scope place words = false

-- The cell is one of a parameter or a block, or a line of the file begins with `range` and its place. That such a line is in its place itself
-- is asked of that line.
abbrev pub is_free : Scope → List Row → Named → Bool
is_free scope rows it =
    is_some (root_among (scope.parameters ++ map block_root scope.blocks) it.place.root) || list_any (λ row. is_ranged_by scope it.place row.words) rows

-- the cells of the line's requirement are free in a file with these rows
abbrev pub needs_free : Scope → List Row → Line → Bool
needs_free scope rows (require_line sum relation constant) = list_all (λ addend. list_all (is_free scope rows) (named_by scope addend.term.place)) (addends sum)
needs_free scope rows line = true
