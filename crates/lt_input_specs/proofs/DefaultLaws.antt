-- What the line `entry` alone says.
use Rattle.std.proofs.Common.{◌≡◌, ℕ, ◌+◌, ◌*◌, ◌<◌, Bool, true, false, cond, List, [], ◌∷◌, ◌++◌, length, map, slice_get, Option, Some, None, refl, sym, ap, ◌∙◌, subst, arith}
use Rattle.std.specs.Prelude.{option_map, unwrap_or, pos, if◌then◌else◌}
use Rattle.std.specs.List.{filter_map, flat_map, cons_option}
use Rattle.std.proofs.lemmas.List.{append-nil}
use Rattle.std.proofs.lemmas.List.Folds.{flat_map-map}
use Rattle.lt_model.specs.declared.cell.Shape.{Shape}
use Rattle.lt_model.specs.declared.cell.StoredCell.{StoredCell}
use Rattle.lt_model.specs.declared.cell.ShapeCell.{ShapeCell}
use Rattle.lt_model.specs.declared.input.BlockIn.{BlockIn}
use Rattle.lt_model.specs.declared.input.FreeCell.{FreeCell}
use Rattle.lt_model.specs.declared.input.Want.{Want}
use Rattle.lt_model.specs.Layout.{then_some, within, resized, single_extent, struct_extent}
use Rattle.lt_tree.specs.Typing.Types.{CType, Array, element}
use Rattle.lt_tree.specs.Typing.Extents.{elements}
use Rattle.lt_tree.specs.Typing.Shapes.{cells_at, struct_cells_at}
use Rattle.lt_tree.specs.Typing.Entities.{Object, is_linked}
use Rattle.lt_tree.specs.Typing.Programs.{Program}
use Rattle.lt_meaning.specs.Expressions.{shape}
use Rattle.lt_meaning.specs.Runs.{started_cells}
use Rattle.lt_entry.specs.Naming.{Root, Block, Scope, block_root, root_among, default_block, parameters_of}
use Rattle.lt_entry.specs.Conditions.{scope_behind, stubs_of, default_blocks}
use Rattle.lt_entry.specs.Meaning.{block_in, only_null, stub_range, freed_cell, freed_cells, freed_unless_hidden, free_cell, free_cells, null_or_default, cells_said, said_in}
use Rattle.lt_entry.specs.Specifications.{Specification, specification_in}
use Rattle.std.specs.Borrow.{Bor}
use Rattle.lt_model.specs.declared.input.StubRange.{StubRange}
use Rattle.lt_tree.specs.declared.typed.entity.Object as memory
use Rattle.lt_tree.specs.declared.typed.types.TypeId.{TypeId}
use Rattle.lt_tree.specs.declared.typed.program.Program as typed
use Rattle.lt_tree.specs.Typing.TypeRows.{type_in}
use Rattle.lt_tree.specs.Typing.ProgramView.{program_of}
use Rattle.lt_entry.specs.Written.{default_name}
use Rattle.lt_input_names.specs.Blocks.{program_types}
use Rattle.lt_input_specs.specs.Defaults.{root_of, block_to, want_to, parameter_cells, plain_cell}
use Rattle.lt_input_specs.proofs.Lists.{map-filter_map, filter_map-map}

-- ---- an array of one element

pub shape-one : (program : Program) (t : CType) → shape program (Array t 1) ≡ shape program t
shape-one program t =
    let known = struct_extent program.model program.structs (length program.structs) in
    let one : 1 * elements t ≡ elements t = omega arith in
    ap (λ (l : List ShapeCell). let s : Shape = record { cells = l; size = (shape program (Array t 1)).size } in s) (append-nil (shape program t).cells)
    ∙ ap (λ (n : ℕ). let s : Shape = record { cells = (shape program t).cells; size = unwrap_or (then_some (then_some (single_extent program.model known (element t)) (λ e. resized e (within (e.size * n)))) (λ e. Some e.size)) 0 } in s) one

-- ---- no cell of an object of the program is free

none_said : (scope : Scope) (object : Object) (cells : List StoredCell) → filter_map (freed_cell scope [] object) cells ≡ []
none_said scope object [] = refl
none_said scope object (cell ∷ cells) = none_said scope object cells

none_freed : (scope : Scope) (object : Object) → freed_unless_hidden scope [] object ≡ []
none_freed scope object = by (root_among scope.parameters object.name) refl
  where
    linked : (b : Bool) → is_linked object.life ≡ b → freed_cells scope [] object ≡ []
    linked true e = rw e (none_said scope object (started_cells scope.program object))
    linked false e = rw e refl

    by : (o : Option Root) → root_among scope.parameters object.name ≡ o → freed_unless_hidden scope [] object ≡ []
    by None e = rw (e, freed_unless_hidden) (linked (is_linked object.life) refl)
    by (Some root) e = rw (e, freed_unless_hidden) refl

pub none_free : (scope : Scope) (objects : List Object) → flat_map (freed_unless_hidden scope []) objects ≡ []
none_free scope [] = refl
none_free scope (object ∷ objects) = rw (none_freed scope object) (none_free scope objects)

-- ---- all of it

-- the cells of a block
abbrev pub block_cells : Program → BlockIn → List FreeCell
block_cells program block = map (plain_cell program.model block.name only_null) block.shape.cells

map-same : {A B : Type 0} (f g : A → B) (xs : List A) → ((x : A) → f x ≡ g x) → map f xs ≡ map g xs
map-same f g [] each = refl
map-same f g (x ∷ xs) each = ap (λ y. y ∷ map f xs) (each x) ∙ ap (λ l. g x ∷ l) (map-same f g xs each)

flat_map-same : {A B : Type 0} (f g : A → List B) (xs : List A) → ((x : A) → f x ≡ g x) → flat_map f xs ≡ flat_map g xs
flat_map-same f g [] each = refl
flat_map-same f g (x ∷ xs) each = ap (λ l. l ++ flat_map f xs) (each x) ∙ ap (λ l. g x ++ l) (flat_map-same f g xs each)

-- the cells of an object of which no line says anything
free_plain : (scope : Scope) (pointer : Want) (root : Root) → free_cells scope [] pointer root ≡ map (plain_cell scope.program.model root.name pointer) (shape scope.program root.type).cells
free_plain scope pointer root = map-same (free_cell scope [] pointer root) (plain_cell scope.program.model root.name pointer) (shape scope.program root.type).cells (λ it. refl)

said_by : (program : Program) (entry : ℕ) (parameters : List Root) (blocks : List Block) → specification_in (record { program = program; parameters = parameters; blocks = blocks }) entry [] ≡ record {
  spec = record {
    entry = entry;
    blocks = map (block_in program) blocks;
    cells = flat_map (parameter_cells program) parameters ++ flat_map (block_cells program) (map (block_in program) blocks);
    stubs = map (stub_range program []) (stubs_of program);
    needs = [];
  };
  blocks = blocks;
}
said_by program entry parameters blocks =
    let scope : Scope = record { program = program; parameters = parameters; blocks = blocks } in
    let front : List FreeCell = flat_map (parameter_cells program) parameters in
    let old : List FreeCell = flat_map (λ parameter. free_cells scope [] (null_or_default program parameter) parameter) parameters in
    let behind : List FreeCell = flat_map (λ block. free_cells scope [] only_null (block_root block)) blocks in
    let objects : List FreeCell = flat_map (freed_unless_hidden scope []) program.objects in
    let first : old ≡ front = flat_map-same _ (parameter_cells program) parameters (λ parameter. free_plain scope (null_or_default program parameter) parameter) in
    let second : behind ≡ flat_map (block_cells program) (map (block_in program) blocks) =
    flat_map-same _ (λ block. block_cells program (block_in program block)) blocks (λ block. free_plain scope only_null (block_root block)) ∙ sym (flat_map-map (block_cells program) (block_in program) blocks) in
    let e : (old ++ behind) ++ objects ≡ front ++ flat_map (block_cells program) (map (block_in program) blocks) =
    ap (λ l. (old ++ behind) ++ l) (none_free scope program.objects) ∙ append-nil (old ++ behind) ∙ ap (λ l. l ++ behind) first ∙ ap (λ l. front ++ l) second in
    ap (λ l. let s : Specification = record {
      spec = record {
        entry = entry;
        blocks = map (block_in program) blocks;
        cells = l;
        stubs = map (stub_range program []) (stubs_of program);
        needs = [];
      };
      blocks = blocks;
    } in s) e

filter_map-same : {A B : Type 0} (f g : A → Option B) (xs : List A) → ((x : A) → f x ≡ g x) → filter_map f xs ≡ filter_map g xs
filter_map-same f g [] each = refl
filter_map-same f g (x ∷ xs) each = ap (λ o. cons_option o (filter_map f xs)) (each x) ∙ ap (cons_option (g x)) (filter_map-same f g xs each)

-- No line of no file says where a parameter points.
none_points : (program : Program) (entry : ℕ) → default_blocks program [] entry ≡ filter_map (default_block program) (parameters_of program entry)
none_points program entry = filter_map-same _ (default_block program) (parameters_of program entry) (λ parameter. refl)

pub default_said : (program : Program) (entry : ℕ) → specification_in (scope_behind program [] entry []) entry [] ≡ record {
  spec = record {
    entry = entry;
    blocks = map (block_in program) (filter_map (default_block program) (parameters_of program entry));
    cells = flat_map (parameter_cells program) (parameters_of program entry) ++ flat_map (block_cells program) (map (block_in program) (filter_map (default_block program) (parameters_of program entry)));
    stubs = map (stub_range program []) (stubs_of program);
    needs = [];
  };
  blocks = filter_map (default_block program) (parameters_of program entry);
}
default_said program entry =
    ap (λ (l : List Block). specification_in (record { program = program; parameters = parameters_of program entry; blocks = l }) entry []) (none_points program entry)
    ∙ said_by program entry (parameters_of program entry) (filter_map (default_block program) (parameters_of program entry))

-- ---- as it is made

-- a pointer that has a default block, or none
pub want_default : (program : typed.Program) (object : memory.Object) (t : Option TypeId) → option_map (block_to program object) t ≡ default_block (program_of program) (root_of program object)
    → null_or_default (program_of program) (root_of program object) ≡ want_to (option_map (λ u. default_name object.name) t)
want_default program object None e = rw (← e) refl
want_default program object (Some t) e = rw (← e) refl

-- a default block, as an input has it
pub block_made : (program : typed.Program) (object : memory.Object) (t : TypeId) → Some (block_to program object t) ≡ default_block (program_of program) (root_of program object)
    → option_map (block_in (program_of program)) (default_block (program_of program) (root_of program object)) ≡ Some (record { name = default_name object.name; shape = shape (program_of program) (type_in (program_types program) t) })
block_made program object t e =
    ap (option_map (block_in (program_of program))) (sym e)
    ∙ ap (λ s. let o : Option BlockIn = Some (record { name = default_name object.name; shape = s }) in o) (shape-one (program_of program) (type_in (program_types program) t))

pub default_whole : (program : typed.Program) (entry : ℕ) (objects : List (Bor memory.Object)) (blocks : List Block) (shapes : List BlockIn) (front cells : List FreeCell) (stubs : List StubRange)
    → map (λ object. root_of program object.now) objects ≡ parameters_of (program_of program) entry
    → blocks ≡ filter_map (λ object. default_block (program_of program) (root_of program object.now)) objects
    → shapes ≡ filter_map (λ object. option_map (block_in (program_of program)) (default_block (program_of program) (root_of program object.now))) objects
    → front ≡ flat_map (λ object. parameter_cells (program_of program) (root_of program object.now)) objects
    → cells ≡ front ++ flat_map (block_cells (program_of program)) shapes
    → stubs ≡ map (stub_range (program_of program) []) (stubs_of (program_of program))
    → record { spec = record { entry = entry; blocks = shapes; cells = cells; stubs = stubs; needs = [] }; blocks = blocks } ≡ specification_in (scope_behind (program_of program) [] entry []) entry []
default_whole program entry objects blocks shapes front cells stubs are made put first all ranges =
    let p = program_of program in
    let root : Bor memory.Object → Root = λ object. root_of program object.now in
    let e : blocks ≡ filter_map (default_block p) (parameters_of p entry) = made ∙ sym (filter_map-map (default_block p) root objects) ∙ ap (filter_map (default_block p)) are in
    let f : shapes ≡ map (block_in p) (filter_map (default_block p) (parameters_of p entry)) =
    put ∙ sym (filter_map-map (λ r. option_map (block_in p) (default_block p r)) root objects) ∙ ap (filter_map (λ r. option_map (block_in p) (default_block p r))) are
    ∙ sym (map-filter_map (block_in p) (default_block p) (parameters_of p entry)) in
    let g : front ≡ flat_map (parameter_cells p) (parameters_of p entry) = first ∙ sym (flat_map-map (parameter_cells p) root objects) ∙ ap (flat_map (parameter_cells p)) are in
    rw (all, ranges, g, e, f) (sym (default_said p entry))
