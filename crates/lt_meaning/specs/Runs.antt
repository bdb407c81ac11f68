-- Calls and runs, C11 6.5.2.2 and 5.1.2.2.
use Rattle.std.specs.Prelude.{ℕ, zero, suc, pos, ◌+◌, ◌==◌, List, [], ◌∷◌, ◌++◌, map, Bool, true, false, not, ◌&&◌}
use Rattle.std.specs.Prelude.{Option, Some, None, length, if◌then◌else◌, slice_get, codes}
use Rattle.std.specs.Str.{bytes_eq, byte}
use Rattle.std.specs.List.{list_any}
use Rattle.lt_model.specs.declared.cell.Content.{Content}
use Rattle.lt_model.specs.declared.cell.Content.TheVariants as content
use Rattle.lt_model.specs.declared.cell.Shape.{Shape}
use Rattle.lt_model.specs.declared.cell.StoredCell.{StoredCell}
use Rattle.lt_model.specs.declared.input.Input.{Input}
use Rattle.lt_model.specs.declared.scalar.DataModel.{DataModel}
use Rattle.lt_model.specs.declared.run.End.TheVariants.{Returned, Stopped, Steps}
use Rattle.lt_model.specs.Memory.{as_type, new_cell}
use Rattle.lt_tree.specs.Typing.Constants.{Constancy, number, address}
use Rattle.lt_tree.specs.Typing.Types.{CType, Num, Pointer, Qualified, Function as FunctionType, is_void}
use Rattle.lt_tree.specs.Typing.Entities.{Function, Object, Life, literal, local_static, is_static as is_made_first}
use Rattle.lt_tree.specs.Typing.Entities.{is_sealed}
use Rattle.lt_tree.specs.Typing.TypedTree as e
use Rattle.lt_tree.specs.Typing.TypedTree.{Statement, Items, Cases, Local as Local', StartPart}
use Rattle.lt_tree.specs.Typing.Programs.{Program}
use Rattle.lt_model.specs.State.{Gives, Ends}
use Rattle.lt_ir.specs.declared.variable.Variable.{Variable}
use Rattle.lt_ir.specs.declared.variable.Variable.TheVariants.{Parameter, Local, Static as StaticObject}
use Rattle.lt_ir.specs.declared.code.Static.{Static}
use Rattle.lt_ir.specs.Running.{At, Answer, Step, gives, over, ◌>>=◌, ◌>>◌, tick, one_deeper, seals, stub_value}
use Rattle.lt_ir.specs.Running.{begin_parameters, end_parameters, statics_of, with_scope, Over}
use Rattle.lt_ir.specs.Evaluation.{store_parameters}
use Rattle.lt_ir.specs.Starting.{started, nowhere}
use Rattle.lt_meaning.specs.Expressions.{Around, Calls, shape}
use Rattle.lt_meaning.specs.Statements.{Flow, Returns, type_of_object, is_sealed_object, parts_in, exec_items}

-- ---- how a function names objects

abbrev pub place_among : ℕ → ℕ → List ℕ → Option ℕ
place_among k n [] = None
place_among k n (m ∷ ms) = if m == n then Some k else place_among (suc k) n ms

-- how many of the first n objects are there from the start
abbrev pub statics_before : ℕ → List Object → ℕ
statics_before zero objects = 0
statics_before (suc n) [] = 0
statics_before (suc n) (object ∷ objects) =
    if is_made_first object.life then suc (statics_before n objects) else statics_before n objects

abbrev pub is_there_first : Program → ℕ → Bool
is_there_first program n = elim (slice_get program.objects n) [ None ↦ false | Some object ↦ is_made_first object.life ]

-- the objects that the statements of a function begin, in the order of the text
abbrev pub begun_by : List Local' → List ℕ
begun_by [] = []
begun_by (it ∷ its) = it.object ∷ begun_by its

abbrev mutual
  pub locals_in : Statement → List ℕ
  locals_in (e.Compound items) = locals_of items
  locals_in (e.If test body) = locals_in body
  locals_in (e.IfElse test body other) = locals_in body ++ locals_in other
  locals_in (e.While test body) = locals_in body
  locals_in (e.Do body test) = locals_in body
  locals_in (e.For (e.Locals its) test step body) = begun_by its ++ locals_in body
  locals_in (e.For start test step body) = locals_in body
  locals_in (e.Switch operand cases) = locals_among cases
  locals_in s = []

  pub locals_of : Items → List ℕ
  locals_of e.no_items = []
  locals_of (e.a_local it rest) = it.object ∷ locals_of rest
  locals_of (e.a_statement first rest) = locals_in first ++ locals_of rest
  locals_of (e.a_label label rest) = locals_of rest

  pub locals_among : Cases → List ℕ
  locals_among e.no_cases = []
  locals_among (e.a_case labels first rest) = locals_in first ++ locals_among rest

-- An object that is there from the start, or a local object by its place among those of the function. A name of neither
-- kind has a variable behind these, which never begins.
abbrev pub other_variable : Program → List ℕ → ℕ → Variable
other_variable program locals n =
    if is_there_first program n then StaticObject (statics_before n program.objects)
    else elim (place_among 0 n locals) [ None ↦ Local (length locals) | Some k ↦ Local k ]

abbrev pub variable_of : Program → Function → ℕ → Variable
variable_of program f n =
    elim (place_among 0 n f.parameters) [ None ↦ other_variable program (locals_of f.body) n | Some k ↦ Parameter k ]

-- ---- objects that are there from the start

abbrev pub fixed_content : Program → Constancy → Content
fixed_content program (number z) = content.Number z
fixed_content program (address n offset) =
    content.Address (Some (record { block = statics_before n program.objects; offset = offset }))
fixed_content program c = content.Address None

-- a content in the cell at an offset, as the cell's type has it
abbrev pub fixed_in : DataModel → ℕ → Content → List StoredCell → List StoredCell
fixed_in model offset c [] = []
fixed_in model offset c (it ∷ cells) =
    if it.offset == offset then record it { holds = as_type model it.ty c } ∷ cells
    else it ∷ fixed_in model offset c cells

abbrev pub letters_in : DataModel → ℕ → List ℕ → List StoredCell → List StoredCell
letters_in model offset [] cells = cells
letters_in model offset (b ∷ bytes) cells =
    letters_in model (offset + 1) bytes (fixed_in model offset (content.Number (pos b)) cells)

abbrev pub part_in : Program → StartPart → List StoredCell → List StoredCell
part_in program (e.stored offset v) cells = cells
part_in program (e.fixed offset t c) cells = fixed_in program.model offset (fixed_content program c) cells
part_in program (e.letters offset s bytes) cells = letters_in program.model offset bytes cells

abbrev pub all_parts_in : Program → List StartPart → List StoredCell → List StoredCell
all_parts_in program [] cells = cells
all_parts_in program (part ∷ parts) cells = all_parts_in program parts (part_in program part cells)

-- Files name the objects of file scope alone: the name of a `static` object of a block ends in `#`, and that of a
-- string literal is empty.
abbrev pub name_in_files : Object → List ℕ
name_in_files object = by_life object.life
  where
    by_life : Life → List ℕ
    by_life literal = []
    by_life local_static = object.name ++ byte "#" ∷ []
    by_life life = object.name

-- the cells of an object with what they hold first
abbrev pub started_cells : Program → Object → List StoredCell
started_cells program object =
    all_parts_in program (parts_in object.start) (map (new_cell true) (shape program object.type).cells)

abbrev pub initial : Program → Object → Static
initial program object = record {
  block = record { name = name_in_files object; shape = shape program object.type };
  cells = map (λ cell. cell.holds) (started_cells program object);
  writable = not (is_sealed object);
}

-- in the order of the text
abbrev pub initials : Program → List Object → List Static
initials program [] = []
initials program (object ∷ objects) =
    if is_made_first object.life then initial program object ∷ initials program objects else initials program objects

-- ---- functions without a body

-- the functions that end a run where they have no body
abbrev pub stops : List ℕ → Bool
stops name = list_any (bytes_eq name) (codes "abort" ∷ codes "exit" ∷ codes "_Exit" ∷ codes "__assert_fail" ∷ [])

abbrev pub without_body : List ℕ → CType → (is_taken : Bool) → Step Content
without_body name t is_taken =
    if stops name then over Stopped else (if is_taken && not (is_void t) then stub_value name else gives content.Unset)

-- ---- functions with a body

abbrev pub shapes_of : Program → List ℕ → List Shape
shapes_of program [] = []
shapes_of program (n ∷ ns) = shape program (type_of_object program n) ∷ shapes_of program ns

-- parameters that are declared `const` have their only value
abbrev pub seal_parameters : Program → ℕ → List ℕ → Step (Unit {0})
seal_parameters program k [] = gives tt
seal_parameters program k (n ∷ ns) =
    (if is_sealed_object program n then seals (Parameter k) else gives tt) >> seal_parameters program (suc k) ns

abbrev pub back : At → Step (Unit {0})
back before at = Gives tt (record at { scope = before.scope; depth = before.depth })

-- 0 or null, as a value of the type
abbrev pub zero_in : CType → Content
zero_in (Num s) = content.Number (pos 0)
zero_in (Pointer t) = content.Address None
zero_in (Qualified q t) = zero_in t
zero_in t = content.Unset

abbrev pub zero_of_result : CType → Content
zero_of_result (FunctionType t ts dots) = zero_in t
zero_of_result t = content.Unset

-- What a function gives that comes to the end of its body: `main` gives 0, C11 5.1.2.2.3.
abbrev pub value_at_end : Function → Content
value_at_end f = if bytes_eq f.name (codes "main") then zero_of_result f.type else content.Unset

-- the value of a call
abbrev pub value_of_call : Function → Flow → Content
value_of_call f (Returns (Some c)) = c
value_of_call f flow = value_at_end f

-- what is known inside a function's body
abbrev pub inside_of : Program → Calls → Function → Around
inside_of program calls f =
    record { program = program; variable = variable_of program f; calls = calls; tracks = true }

-- what a function's body does, whose parameters have their values
abbrev pub body_of : Program → Calls → Function → Step Flow
body_of program calls f = do
  seal_parameters program 0 f.parameters
  flow ← exec_items (inside_of program calls f) f.body
  end_parameters 0 (shapes_of program f.parameters)
  gives flow

abbrev pub with_body : Program → Calls → Function → List Content → Step Content
with_body program calls f xs before = (do
  one_deeper
  with_scope (statics_of before.scope)
  begin_parameters 0 (shapes_of program f.parameters)
  store_parameters program.model 0 (shapes_of program f.parameters) xs
  flow ← body_of program calls f
  back before
  gives (value_of_call f flow)) before

abbrev pub function_among : List ℕ → List Function → Option Function
function_among name [] = None
function_among name (f ∷ fs) = if bytes_eq f.name name then Some f else function_among name fs

abbrev pub call_of : Program → Calls → List ℕ → CType → List Content → Bool → Step Content
call_of program calls name t xs is_taken =
    elim (function_among name program.functions) [
      | None ↦ without_body name t is_taken
      | Some f ↦ with_body program calls f xs
    ]

-- Calls, each of which spends a tick; the number bounds the ticks that are left.
abbrev pub invoke : Program → ℕ → Calls
invoke program zero name t xs is_taken = over Steps
invoke program (suc n) name t xs is_taken = tick >> call_of program (invoke program n) name t xs is_taken

-- ---- runs

abbrev pub name_of_object : Program → ℕ → List ℕ
name_of_object program n = elim (slice_get program.objects n) [ None ↦ [] | Some object ↦ object.name ]

abbrev pub over_by : Answer Flow → Over
over_by (Gives flow at) = record { end = Returned; at = at }
over_by (Ends end at) = record { end = end; at = at }

-- all that is there when the body begins of the function with which a run begins
abbrev pub begun : Program → Function → Input → Step (Unit {0})
begun program f input =
    started program.model (initials program program.objects) (map (name_of_object program) f.parameters)
    (shapes_of program f.parameters) input

-- The run of a function with so many ticks; its own call spends none and is the first active one.
abbrev pub run : Program → Function → Input → ℕ → Over
run program f input ticks =
    over_by ((begun program f input >> body_of program (invoke program (suc ticks)) f) (nowhere input ticks))
