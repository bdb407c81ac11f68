-- The cells of a program's objects that lines free.
use Rattle.std.proofs.Common.{◌≡◌, ℕ, ◌+◌, ◌==◌, Bool, true, false, cond, List, [], ◌∷◌, ◌++◌, map, Option, Some, None, refl, sym, ap, ◌∙◌, slice_get}
use Rattle.std.specs.Prelude.{◌&&◌, ◌||◌, not, is_some, if◌then◌else◌, option_map, option_and_then, option_to_list, pos}
use Rattle.std.specs.Borrow.{Bor}
use Rattle.std.specs.List.{filter, filter_map, cons_option, flat_map, zip, list_any}
use Rattle.std.specs.Str.{bytes_eq}
use Rattle.std.proofs.lemmas.List.{append-nil}
use Rattle.std.proofs.lemmas.List.Folds.{flat_map-map}
use Rattle.std.proofs.lemmas.Option.{slice_get-map}
use Rattle.lt_model.specs.declared.scalar.DataModel.{DataModel}
use Rattle.lt_model.specs.declared.cell.Content.{Content}
use Rattle.lt_model.specs.declared.cell.Content.TheVariants as content
use Rattle.lt_model.specs.declared.cell.ShapeCell.{ShapeCell}
use Rattle.lt_model.specs.declared.cell.StoredCell.{StoredCell}
use Rattle.lt_model.specs.declared.input.FreeCell.{FreeCell}
use Rattle.lt_model.specs.declared.input.StartValue.{StartValue}
use Rattle.lt_model.specs.declared.input.StartValue.TheVariants as start
use Rattle.lt_model.specs.declared.input.Want.{Want}
use Rattle.lt_model.specs.Memory.{as_type, new_cell}
use Rattle.lt_tree.specs.declared.typed.entity.Object.{Object}
use Rattle.lt_tree.specs.declared.typed.program.Program as typed
use Rattle.lt_tree.specs.Typing.Entities as k
use Rattle.lt_tree.specs.Typing.Entities.{is_linked, is_static}
use Rattle.lt_tree.specs.Typing.EntityView.{life_of, object_of}
use Rattle.lt_tree.specs.Typing.Programs.{Program}
use Rattle.lt_tree.specs.Typing.ProgramView.{program_of}
use Rattle.lt_tree.specs.Typing.TypedTree as e
use Rattle.lt_tree.specs.Typing.TypedTree.{StartPart}
use Rattle.lt_meaning.specs.Expressions.{shape}
use Rattle.lt_meaning.specs.Statements.{parts_in}
use Rattle.lt_meaning.specs.Runs.{fixed_content, fixed_in, letters_in, part_in, all_parts_in, started_cells, initial, initials}
use Rattle.lt_ir.specs.declared.code.Static.{Static}
use Rattle.lt_entry.specs.Naming.{Root, Block, Scope, root_among}
use Rattle.lt_entry.specs.SpecificationLines.{Line}
use Rattle.lt_entry.specs.Meaning.{nameable, start_of, freed_cell, freed_unless_hidden}
use Rattle.lt_input_names.specs.Blocks.{program_types}
use Rattle.lt_input_names.specs.Stubs.{has_name}
use Rattle.lt_input_specs.specs.Defaults.{root_of}
use Rattle.lt_spec_reader.specs.declared.objects.Lookups.{Lookups}
use Rattle.lt_spec_reader.specs.Said.{found_at, HasSaid}
use Rattle.lt_spec_reader.specs.Objects.{is_first_life, target_in, start_by, cell_by, cells_by, freed_by, all_freed_by}
use Rattle.lt_spec_reader.proofs.OwnLaws.{own_is}

-- ---- lists

-- joined lists of what is seen of items
pub joined_of : {A B C : Type 0} (f : B → List C) (g : A → B) (xs : List A) (ys : List B) → map g xs ≡ ys → flat_map (λ x. f (g x)) xs ≡ flat_map f ys
joined_of f g xs ys is = sym (flat_map-map f g xs) ∙ ap (flat_map f) is

cons_is : {A : Type 0} (o : Option A) (xs : List A) → option_to_list o ++ xs ≡ cons_option o xs
cons_is None xs = refl
cons_is (Some x) xs = refl

-- ---- the cells of a shape, with what they hold first

abbrev pub shape_cell : StoredCell → ShapeCell
shape_cell it = record { offset = it.offset; ty = it.ty }

fixed_shapes : (model : DataModel) (offset : ℕ) (c : Content) (cells : List StoredCell) → map shape_cell (fixed_in model offset c cells) ≡ map shape_cell cells
fixed_shapes model offset c [] = refl
fixed_shapes model offset c (it ∷ cells) = by (it.offset == offset) (fixed_shapes model offset c cells)
  where
    by : (b : Bool) → map shape_cell (fixed_in model offset c cells) ≡ map shape_cell cells → map shape_cell (if b then record it { holds = as_type model it.ty c } ∷ cells else it ∷ fixed_in model offset c cells) ≡ shape_cell it ∷ map shape_cell cells
    by true rest = refl
    by false rest = ap (λ l. shape_cell it ∷ l) rest

letters_shapes : (model : DataModel) (offset : ℕ) (bytes : List ℕ) (cells : List StoredCell) → map shape_cell (letters_in model offset bytes cells) ≡ map shape_cell cells
letters_shapes model offset [] cells = refl
letters_shapes model offset (b ∷ bytes) cells =
    letters_shapes model (offset + 1) bytes (fixed_in model offset (content.Number (pos b)) cells) ∙ fixed_shapes model offset (content.Number (pos b)) cells

part_shapes : (program : Program) (part : StartPart) (cells : List StoredCell) → map shape_cell (part_in program part cells) ≡ map shape_cell cells
part_shapes program (e.stored offset v) cells = refl
part_shapes program (e.fixed offset t c) cells = fixed_shapes program.model offset (fixed_content program c) cells
part_shapes program (e.letters offset s bytes) cells = letters_shapes program.model offset bytes cells

all_shapes : (program : Program) (parts : List StartPart) (cells : List StoredCell) → map shape_cell (all_parts_in program parts cells) ≡ map shape_cell cells
all_shapes program [] cells = refl
all_shapes program (part ∷ parts) cells = all_shapes program parts (part_in program part cells) ∙ part_shapes program part cells

new_shapes : (cells : List ShapeCell) → map shape_cell (map (new_cell true) cells) ≡ cells
new_shapes [] = refl
new_shapes (it ∷ cells) = ap (λ l. it ∷ l) (new_shapes cells)

-- storing first parts changes no offset and no type of a cell
started_shapes : (program : Program) (object : k.Object) → map shape_cell (started_cells program object) ≡ (shape program object.type).cells
started_shapes program object = all_shapes program (parts_in object.start) (map (new_cell true) (shape program object.type).cells) ∙ new_shapes (shape program object.type).cells

-- ---- objects that are there from the start

mapped_twice : {A B C : Type 0} (f : B → C) (g : A → B) (xs : List A) → map (λ x. f (g x)) xs ≡ map f (map g xs)
mapped_twice f g [] = refl
mapped_twice f g (x ∷ xs) = ap (λ l. f (g x) ∷ l) (mapped_twice f g xs)

kept_mapped : {A B : Type 0} (p : B → Bool) (f : A → B) (xs : List A) → map f (filter (λ x. p (f x)) xs) ≡ filter p (map f xs)
kept_mapped p f [] = refl
kept_mapped p f (x ∷ xs) = by (p (f x)) (kept_mapped p f xs)
  where
    by : (b : Bool) → map f (filter (λ x. p (f x)) xs) ≡ filter p (map f xs) → map f (cond b (x ∷ filter (λ x. p (f x)) xs) (filter (λ x. p (f x)) xs)) ≡ cond b (f x ∷ filter p (map f xs)) (filter p (map f xs))
    by true h = ap (λ l. f x ∷ l) h
    by false h = h

linked_first : (life : k.Life) → is_static life ≡ false → is_linked life ≡ false
linked_first k.linked h = absurd (cc)
linked_first k.local_static h = refl
linked_first k.literal h = refl
linked_first k.automatic h = refl
linked_first k.parameter h = refl
linked_first k.unmade h = refl

zipped_now : {A B C : Type 0} (f : A → B → List C) (xs : List (Bor A)) (ys : List B) → flat_map (λ p. f p.0.now p.1) (zip xs ys) ≡ flat_map (λ p. f p.0 p.1) (zip (map (λ it. it.now) xs) ys)
zipped_now f [] ys = refl
zipped_now f (x ∷ xs) [] = refl
zipped_now f (x ∷ xs) (y ∷ ys) = ap (λ l. f x.now y ++ l) (zipped_now f xs ys)

abbrev named_target : ℕ → Option (List ℕ) → StartValue
named_target offset o = elim o [
  | None ↦ start.Other
  | Some name ↦ start.Point (Some (record { root = name; offset = offset }))
]

abbrev free_with : k.Object → StoredCell → Want → StartValue → FreeCell
free_with object it w s = record { at = record { root = object.name; offset = it.offset }; ty = it.ty; want = w; start = s }

module _ (lookups : Lookups) (program : typed.Program) (scope : Scope) (lines : List Line) (same : scope.program ≡ program_of program)
    (hidden : (name : List ℕ) → has_name lookups.hidden name ≡ is_some (root_among scope.parameters name)) (said : HasSaid scope lines lookups.wants.now)
    (firsts : map (λ it. it.now) lookups.firsts.items ≡ filter (λ it. is_first_life it.life) program.objects.items) where
  abbrev view : Object → k.Object
  view object = object_of (program_types program) object

  target_is : (offset : ℕ) (o : Option (Bor Object)) → target_in lookups offset o ≡ named_target offset (option_and_then (nameable scope.parameters) (option_map (λ b. view b.now) o))
  target_is offset None = refl
  target_is offset (Some b) = by (is_linked (life_of b.now.life)) (has_name lookups.hidden b.now.name) (root_among scope.parameters b.now.name) (hidden b.now.name)
    where
      by : (l h : Bool) (r : Option Root) → h ≡ is_some r
          → (if l && not h then start.Point (Some (record { root = b.now.name; offset = offset })) else start.Other) ≡ named_target offset (if l then elim r [ None ↦ Some b.now.name | Some root ↦ None ] else None)
      by false h r is = refl
      by true h None is = rw is refl
      by true h (Some root) is = rw is refl

  firsts_are : map (λ (b : Bor Object). view b.now) lookups.firsts.items ≡ filter (λ object. is_static object.life) scope.program.objects
  firsts_are =
      mapped_twice view (λ (b : Bor Object). b.now) lookups.firsts.items ∙ ap (map view) firsts
      ∙ kept_mapped (λ (object : k.Object). is_static object.life) view program.objects.items ∙ ap (λ p. filter (λ object. is_static object.life) p.objects) (sym same)

  start_is : (c : Content) → start_by lookups c ≡ start_of scope.program scope.parameters c
  start_is (content.Number z) = refl
  start_is (content.Address None) = refl
  start_is (content.Address (Some at)) =
      target_is at.offset (slice_get lookups.firsts.items at.block)
      ∙ ap (λ o. named_target at.offset (option_and_then (nameable scope.parameters) o)) (sym (slice_get-map (λ (b : Bor Object). view b.now) lookups.firsts.items at.block) ∙ ap (λ l. slice_get l at.block) firsts_are)
  start_is content.Unset = refl

  cell_is : (object : k.Object) (it : StoredCell) → cell_by lookups object.name (shape_cell it) it.holds ≡ freed_cell scope lines object it
  cell_is object it =
      ap (λ s. option_map (λ w. free_with object it w s) (found_at lookups.wants.now (record { root = object.name; offset = it.offset }))) (start_is it.holds)
      ∙ ap (option_map (λ w. free_with object it w (start_of scope.program scope.parameters it.holds))) (said (record { root = object.name; offset = it.offset }))

  cells_are : (object : k.Object) (cells : List StoredCell) → cells_by lookups object.name (map shape_cell cells) (map (λ cell. cell.holds) cells) ≡ filter_map (freed_cell scope lines object) cells
  cells_are object [] = refl
  cells_are object (it ∷ cells) =
      ap (λ l. option_to_list (cell_by lookups object.name (shape_cell it) it.holds) ++ l) (cells_are object cells)
      ∙ cons_is (cell_by lookups object.name (shape_cell it) it.holds) (filter_map (freed_cell scope lines object) cells)
      ∙ ap (λ o. cons_option o (filter_map (freed_cell scope lines object) cells)) (cell_is object it)

  started_are : (object : Object) → cells_by lookups object.name (shape (program_of program) (view object).type).cells (map (λ cell. cell.holds) (started_cells (program_of program) (view object)))
      ≡ filter_map (freed_cell scope lines (view object)) (started_cells scope.program (view object))
  started_are object =
      ap (λ l. cells_by lookups object.name l (map (λ cell. cell.holds) (started_cells (program_of program) (view object)))) (sym (started_shapes (program_of program) (view object)))
      ∙ cells_are (view object) (started_cells (program_of program) (view object))
      ∙ ap (λ p. filter_map (freed_cell scope lines (view object)) (started_cells p (view object))) (sym same)

  object_is : (object : Object) → freed_by lookups object (initial (program_of program) (view object)) ≡ freed_unless_hidden scope lines (view object)
  object_is object =
      by (is_linked (life_of object.life)) (has_name lookups.hidden object.name) (root_among scope.parameters object.name) (hidden object.name)
    where
      by : (l h : Bool) (r : Option Root) → h ≡ is_some r
          → (if l && not h then cells_by lookups object.name (shape (program_of program) (view object).type).cells (map (λ cell. cell.holds) (started_cells (program_of program) (view object))) else [])
          ≡ elim r [ None ↦ if l then filter_map (freed_cell scope lines (view object)) (started_cells scope.program (view object)) else [] | Some root ↦ [] ]
      by true h None is = rw is (started_are object)
      by true h (Some root) is = rw is refl
      by false h None is = refl
      by false h (Some root) is = refl

  unlinked : (object : k.Object) → is_static object.life ≡ false → freed_unless_hidden scope lines object ≡ []
  unlinked object h = by (is_linked object.life) (root_among scope.parameters object.name) (linked_first object.life h)
    where
      by : (l : Bool) (r : Option Root) → l ≡ false → ◌≡◌ {A = List FreeCell} (elim r [ None ↦ if l then filter_map (freed_cell scope lines object) (started_cells scope.program object) else [] | Some root ↦ [] ]) []
      by l None is = rw is refl
      by l (Some root) is = refl

  objects_are : (objects : List Object) → flat_map (λ p. freed_by lookups p.0 p.1) (zip (filter (λ it. is_first_life it.life) objects) (initials (program_of program) (map view objects))) ≡ flat_map (freed_unless_hidden scope lines) (map view objects)
  objects_are [] = refl
  objects_are (object ∷ objects) = by (is_static (life_of object.life)) refl (objects_are objects)
    where
      by : (b : Bool) → is_static (life_of object.life) ≡ b
          → flat_map (λ p. freed_by lookups p.0 p.1) (zip (filter (λ it. is_first_life it.life) objects) (initials (program_of program) (map view objects))) ≡ flat_map (freed_unless_hidden scope lines) (map view objects)
          → flat_map (λ p. freed_by lookups p.0 p.1) (zip (cond b (object ∷ filter (λ it. is_first_life it.life) objects) (filter (λ it. is_first_life it.life) objects)) (cond b (initial (program_of program) (view object) ∷ initials (program_of program) (map view objects)) (initials (program_of program) (map view objects))))
          ≡ freed_unless_hidden scope lines (view object) ++ flat_map (freed_unless_hidden scope lines) (map view objects)
      by true is rest =
          ap (λ l. freed_by lookups object (initial (program_of program) (view object)) ++ l) rest ∙ ap (λ l. l ++ flat_map (freed_unless_hidden scope lines) (map view objects)) (object_is object)
      by false is rest = rest ∙ ap (λ l. l ++ flat_map (freed_unless_hidden scope lines) (map view objects)) (sym (unlinked (view object) is))

  -- the cells of the objects that are there from the start are those that lines free
  pub all_are : (all : List Static) → all ≡ initials (program_of program) (program_of program).objects → all_freed_by lookups all ≡ flat_map (freed_unless_hidden scope lines) scope.program.objects
  all_are all is =
      ap (all_freed_by lookups) is ∙ zipped_now (freed_by lookups) lookups.firsts.items (initials (program_of program) (program_of program).objects)
      ∙ ap (λ l. flat_map (λ p. freed_by lookups p.0 p.1) (zip l (initials (program_of program) (program_of program).objects))) firsts
      ∙ objects_are program.objects.items ∙ ap (λ p. flat_map (freed_unless_hidden scope lines) p.objects) (sym same)

-- the names of parameters
pub hidden_is : (program : typed.Program) (parameters : List (Bor Object)) (roots : List Root) (name : List ℕ) → roots ≡ map (λ object. root_of program object.now) parameters
    → (list_any (λ (it : Bor Object). bytes_eq it.now.name name) parameters || false || false) ≡ is_some (root_among roots name)
hidden_is program parameters roots name are =
    sym (own_is (λ (object : Bor Object). root_of program object.now) (λ (block : Block). block) (λ (block : Block). block) parameters [] [] roots [] name (sym are) refl)
    ∙ ap (λ l. is_some (root_among l name)) (append-nil roots)
