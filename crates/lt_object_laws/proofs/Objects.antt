-- What is asked of a program's objects is the same where further ones stand among them.
use Rattle.std.proofs.Common.{◌≡◌, ℕ, pos, zero, suc, List, [], ◌∷◌, ◌++◌, map, length, Option, Some, None, Bool, true, false, refl, sym, ap, ◌∙◌, subst}
use Rattle.std.proofs.lemmas.Bool.{false≢true}
use Rattle.std.proofs.lemmas.List.{length-map}
use Rattle.std.specs.Prelude.{◌==◌, ◌+◌, not, if◌then◌else◌, slice_get}
use Rattle.std.specs.List.{AllByRecursion}
use Rattle.lt_model.specs.declared.cell.Content.{Content}
use Rattle.lt_model.specs.declared.cell.Content.TheVariants as content
use Rattle.lt_model.specs.declared.cell.StoredCell.{StoredCell}
use Rattle.lt_model.specs.declared.scalar.DataModel.{DataModel}
use Rattle.lt_model.specs.Memory.{as_type, new_cell}
use Rattle.lt_tree.specs.Tree.{Unit as SourceUnit}
use Rattle.lt_tree.specs.Typing.Types.{CType, Void}
use Rattle.lt_tree.specs.Typing.Extents.{size_of}
use Rattle.lt_tree.specs.Typing.Shapes.{struct_cells_at}
use Rattle.lt_tree.specs.Typing.Constants.{Constancy, number, address, varying, faulty, null_constant, null_address}
use Rattle.lt_tree.specs.Typing.TypedTree as e
use Rattle.lt_tree.specs.Typing.TypedTree.{Start, StartPart, Items}
use Rattle.lt_tree.specs.Typing.Entities.{Function, Label, Fact, Declared, Frame, Object, Life, linked, local_static, literal, automatic, parameter, unmade, is_static, is_literal, is_sealed}
use Rattle.lt_tree.specs.Typing.Programs.{Program}
use Rattle.lt_tree.specs.Typing.Types.{Num, Array}
use Rattle.lt_model.specs.declared.scalar.Scalar.TheVariants as S
use Rattle.lt_ir.specs.declared.variable.Variable.{Variable}
use Rattle.lt_ir.specs.declared.variable.Variable.TheVariants.{Parameter, Local, Static as StaticObject}
use Rattle.lt_ir.specs.declared.code.Static.{Static}
use Rattle.lt_meaning.specs.Expressions.{shape}
use Rattle.lt_meaning.specs.Statements.{parts_in, type_of_object, is_sealed_object}
use Rattle.lt_meaning.specs.Runs.{place_among, statics_before, is_there_first, locals_of, other_variable, variable_of, fixed_content, fixed_in, letters_in, part_in, all_parts_in, name_in_files, initial, initials, shapes_of, name_of_object}
use Rattle.lt_object_laws.specs.Renamed.{renumbered, constancy_with, part_with, parts_with, object_with, function_with, items_with}
use Rattle.lt_object_laws.specs.Beside.{content_with, cell_with}
use Rattle.lt_object_laws.specs.Further.{AreLetters, IsFurther, a_string, never_made, HasFurther, no_objects, an_object, a_further_object, IsThere, further_statics}
use Rattle.lt_object_laws.proofs.Memory.{as_type_with, new_cells}
use Rattle.lt_object_laws.proofs.Trees.{items_locals, among_with, parts_in_with}
use Rattle.lt_object_laws.proofs.Filling.{AreSuited, string_suited}
use Rattle.lt_object_laws.proofs.Beginning.{StaticsWith, no_statics, a_static, a_further_static}

pub found_with : {B : Type 0} (r : ℕ → ℕ) (g : Object → B) (d : B) → ((x : Object) → g (object_with r x) ≡ g x) → {further : List Bool} {xs ys : List Object} → HasFurther r further xs ys → (n : ℕ)
    → elim (slice_get ys (renumbered further n)) as (λ _. B) [ None ↦ d | Some x ↦ g x ] ≡ elim (slice_get xs n) as (λ _. B) [ None ↦ d | Some x ↦ g x ]
found_with r g d k no_objects n = refl
found_with r g d k (an_object x h) zero = k x
found_with r g d k (an_object x h) (suc n) = found_with r g d k h n
found_with r g d k (a_further_object y f h) n = found_with r g d k h n

-- how many objects stand before one that is there from the start
pub statics_with : (r : ℕ → ℕ) {further : List Bool} {xs ys : List Object} → HasFurther r further xs ys → (n : ℕ) → elim (slice_get xs n) as (λ _. Bool) [ None ↦ false | Some x ↦ is_static x.life ] ≡ true
    → statics_before (renumbered further n) ys ≡ renumbered (further_statics further ys) (statics_before n xs)
statics_with r no_objects n h = absurd (false≢true h)
statics_with r (an_object {further} {objects = xs} {others = ys} x d) zero h = sym (ap (λ b. renumbered (if b then false ∷ further_statics further ys else further_statics further ys) 0) h)
statics_with r (an_object {further} {objects = xs} {others = ys} x d) (suc n) h = by (is_static x.life) (statics_with r d n h)
  where
    by : (b : Bool) → statics_before (renumbered further n) ys ≡ renumbered (further_statics further ys) (statics_before n xs)
        → (if b then suc (statics_before (renumbered further n) ys) else statics_before (renumbered further n) ys) ≡ renumbered (if b then false ∷ further_statics further ys else further_statics further ys) (if b then suc (statics_before n xs) else statics_before n xs)
    by true g = ap suc g
    by false g = g
statics_with r (a_further_object {further} {objects = xs} {others = ys} y f d) n h = by (is_static y.life) (statics_with r d n h)
  where
    by : (b : Bool) → statics_before (renumbered further n) ys ≡ renumbered (further_statics further ys) (statics_before n xs)
        → (if b then suc (statics_before (renumbered further n) ys) else statics_before (renumbered further n) ys) ≡ renumbered (if b then true ∷ further_statics further ys else further_statics further ys) (statics_before n xs)
    by true g = ap suc g
    by false g = g

-- ---- names in files

file_name_by : (r : ℕ → ℕ) (node : ℕ) (name : List ℕ) (type : CType) (life : Life) (start : Option Start)
    → name_in_files (object_with r (record { node = node; name = name; type = type; life = life; start = start })) ≡ name_in_files (record { node = node; name = name; type = type; life = life; start = start })
file_name_by r node name type linked start = refl
file_name_by r node name type local_static start = refl
file_name_by r node name type literal start = refl
file_name_by r node name type automatic start = refl
file_name_by r node name type parameter start = refl
file_name_by r node name type unmade start = refl

file_name_with : (r : ℕ → ℕ) (x : Object) → name_in_files (object_with r x) ≡ name_in_files x
file_name_with r x = file_name_by r x.node x.name x.type x.life x.start

no_name_by : (node : ℕ) (name : List ℕ) (type : CType) (life : Life) (start : Option Start) → is_literal life ≡ true → name_in_files (record { node = node; name = name; type = type; life = life; start = start }) ≡ []
no_name_by node name type literal start h = refl
no_name_by node name type life start h = absurd (false≢true h)

no_name : (x : Object) → is_literal x.life ≡ true → name_in_files x ≡ []
no_name x h = no_name_by x.node x.name x.type x.life x.start h

-- ---- contents of cells

module _ (names : ℕ → ℕ) where
  fixed_same : (model : DataModel) (offset : ℕ) (c : Content) (cells : List StoredCell) → fixed_in model offset (content_with names c) (map (cell_with names) cells) ≡ map (cell_with names) (fixed_in model offset c cells)
  fixed_same model offset c [] = refl
  fixed_same model offset c (it ∷ cells) = by (it.offset == offset) (fixed_same model offset c cells)
    where
      by : (b : Bool) → fixed_in model offset (content_with names c) (map (cell_with names) cells) ≡ map (cell_with names) (fixed_in model offset c cells)
          → (if b then record (cell_with names it) { holds = as_type model it.ty (content_with names c) } ∷ map (cell_with names) cells else cell_with names it ∷ fixed_in model offset (content_with names c) (map (cell_with names) cells))
          ≡ map (cell_with names) (if b then record it { holds = as_type model it.ty c } ∷ cells else it ∷ fixed_in model offset c cells)
      by true h = ap (λ held. record { offset = it.offset; ty = it.ty; holds = held } ∷ map (cell_with names) cells) (as_type_with names model it.ty c)
      by false h = ap (λ them. cell_with names it ∷ them) h

  letters_same : (model : DataModel) (offset : ℕ) (bytes : List ℕ) (cells : List StoredCell) → letters_in model offset bytes (map (cell_with names) cells) ≡ map (cell_with names) (letters_in model offset bytes cells)
  letters_same model offset [] cells = refl
  letters_same model offset (b ∷ bytes) cells =
      ap (λ them. letters_in model (offset + 1) bytes them) (fixed_same model offset (content.Number (pos b)) cells) ∙ letters_same model (offset + 1) bytes (fixed_in model offset (content.Number (pos b)) cells)

  held_same : (cells : List StoredCell) → map (λ (cell : StoredCell). cell.holds) (map (cell_with names) cells) ≡ map (content_with names) (map (λ (cell : StoredCell). cell.holds) cells)
  held_same [] = refl
  held_same (c ∷ cs) = ap (λ them. content_with names c.holds ∷ them) (held_same cs)

-- ---- programs

module _ (P : Program) (u : SourceUnit) (ds : List Declared) (fs : List Function) (fr : Frame) (ls : List Label) (xs : List Fact) (os : List Object) (further : List Bool) (objects_with : HasFurther (renumbered further) further P.objects os) where
  abbrev Q : Program
  Q = record P { unit = u; declared = ds; functions = fs; file = fr; labels = ls; facts = xs; objects = os }

  abbrev r : ℕ → ℕ
  r = renumbered further

  abbrev pub names : ℕ → ℕ
  names = renumbered (further_statics further os)

  pub types_same : (n : ℕ) → type_of_object Q (r n) ≡ type_of_object P n
  types_same n = found_with r (λ x. x.type) Void (λ x. refl) objects_with n

  pub seals_as : (n : ℕ) → is_sealed_object Q (r n) ≡ is_sealed_object P n
  seals_as n = found_with r is_sealed false (λ x. refl) objects_with n

  first_same : (n : ℕ) → is_there_first Q (r n) ≡ is_there_first P n
  first_same n = found_with r (λ x. is_static x.life) false (λ x. refl) objects_with n

  pub names_same : (ns : List ℕ) → map (name_of_object Q) (map r ns) ≡ map (name_of_object P) ns
  names_same [] = refl
  names_same (n ∷ ns) = ap (λ name. name ∷ map (name_of_object Q) (map r ns)) (found_with r (λ x. x.name) [] (λ x. refl) objects_with n) ∙ ap (λ l. name_of_object P n ∷ l) (names_same ns)

  pub shapes_same : (ns : List ℕ) → shapes_of Q (map r ns) ≡ shapes_of P ns
  shapes_same [] = refl
  shapes_same (n ∷ ns) = ap (λ t. shape P t ∷ shapes_of Q (map r ns)) (types_same n) ∙ ap (λ l. shape P (type_of_object P n) ∷ l) (shapes_same ns)

  -- ---- variables

  abbrev pub renamed_variable : Variable → Variable
  renamed_variable (Parameter k) = Parameter k
  renamed_variable (Local k) = Local k
  renamed_variable (StaticObject k) = StaticObject (names k)

  abbrev local_by : List ℕ → Option ℕ → Variable
  local_by locals found = elim (found) as (λ _. Variable) [ None ↦ Local (length locals) | Some k ↦ Local k ]

  abbrev other_by : List ℕ → Bool → ℕ → ℕ → Variable
  other_by locals is_there k n = if is_there then StaticObject k else local_by locals (place_among 0 n locals)

  local_same : (k : ℕ) (found : Option ℕ) → elim (found) as (λ _. Variable) [ None ↦ Local k | Some j ↦ Local j ] ≡ renamed_variable (elim (found) as (λ _. Variable) [ None ↦ Local k | Some j ↦ Local j ])
  local_same k None = refl
  local_same k (Some j) = refl

  other_same : (locals : List ℕ) (b : Bool) (k n : ℕ) → (b ≡ true → k ≡ names (statics_before n P.objects)) → other_by (map r locals) b k (r n) ≡ renamed_variable (other_by locals b (statics_before n P.objects) n)
  other_same locals true k n h = ap StaticObject (h refl)
  other_same locals false k n h =
      ap (λ found. elim (found) as (λ _. Variable) [ None ↦ Local (length (map r locals)) | Some j ↦ Local j ]) (among_with further 0 n locals)
      ∙ ap (λ k. elim (place_among 0 n locals) as (λ _. Variable) [ None ↦ Local k | Some j ↦ Local j ]) (length-map locals r) ∙ local_same (length locals) (place_among 0 n locals)

  abbrev variable_by : Option ℕ → Variable → Variable
  variable_by found v = elim (found) as (λ _. Variable) [ None ↦ v | Some k ↦ Parameter k ]

  by_same : (found : Option ℕ) (v w : Variable) → w ≡ renamed_variable v → variable_by found w ≡ renamed_variable (variable_by found v)
  by_same None v w h = h
  by_same (Some k) v w h = refl

  pub variable_same : (f : Function) (n : ℕ) → variable_of Q (function_with r f) (r n) ≡ renamed_variable (variable_of P f n)
  variable_same f n =
      ap (λ found. variable_by found (other_variable Q (locals_of (items_with r f.body)) (r n))) (among_with further 0 n f.parameters)
      ∙ by_same (place_among 0 n f.parameters) (other_variable P (locals_of f.body) n) (other_variable Q (locals_of (items_with r f.body)) (r n))
      (ap (λ locals. other_by locals (is_there_first Q (r n)) (statics_before (r n) os) (r n)) (items_locals r f.body)
      ∙ ap (λ b. other_by (map r (locals_of f.body)) b (statics_before (r n) os) (r n)) (first_same n)
      ∙ other_same (locals_of f.body) (is_there_first P n) (statics_before (r n) os) n (λ h. statics_with r objects_with n h))

  -- ---- what objects hold from the start

  content_same : (c : Constancy) (offset : ℕ) (t : CType) → IsThere P (e.fixed offset t c) → fixed_content Q (constancy_with r c) ≡ content_with names (fixed_content P c)
  content_same varying offset t h = refl
  content_same faulty offset t h = refl
  content_same (number z) offset t h = refl
  content_same null_constant offset t h = refl
  content_same null_address offset t h = refl
  content_same (address n at) offset t h = ap (λ k. content.Address (Some (record { block = k; offset = at }))) (statics_with r objects_with n h)

  part_same : (part : StartPart) (cells : List StoredCell) → IsThere P part → part_in Q (part_with r part) (map (cell_with names) cells) ≡ map (cell_with names) (part_in P part cells)
  part_same (e.stored offset v) cells h = refl
  part_same (e.fixed offset t c) cells h = ap (λ x. fixed_in P.model offset x (map (cell_with names) cells)) (content_same c offset t h) ∙ fixed_same names P.model offset (fixed_content P c) cells
  part_same (e.letters offset s bytes) cells h = letters_same names P.model offset bytes cells

  parts_same : (parts : List StartPart) (cells : List StoredCell) → AllByRecursion (IsThere P) parts → all_parts_in Q (parts_with r parts) (map (cell_with names) cells) ≡ map (cell_with names) (all_parts_in P parts cells)
  parts_same [] cells h = refl
  parts_same (part ∷ parts) cells h = ap (all_parts_in Q (parts_with r parts)) (part_same part cells h.0) ∙ parts_same parts (part_in P part cells) h.1

  initial_same : (x : Object) → AllByRecursion (IsThere P) (parts_in x.start) → record (initial P x) { cells = map (content_with names) (initial P x).cells } ≡ initial Q (object_with r x)
  initial_same x h =
      let new = map (new_cell true) (shape P x.type).cells in
      let made : List ℕ → List Content → Static = λ name held. record { block = record { name = name; shape = shape P x.type }; cells = held; writable = not (is_sealed x) } in
      ap (λ name. made name (map (content_with names) (initial P x).cells)) (sym (file_name_with r x))
      ∙ ap (made (name_in_files (object_with r x)))
      (sym (ap (λ parts. map (λ (cell : StoredCell). cell.holds) (all_parts_in Q parts new)) (parts_in_with r x.start)
      ∙ ap (λ cells. map (λ (cell : StoredCell). cell.holds) (all_parts_in Q (parts_with r (parts_in x.start)) cells)) (sym (new_cells names [] [] 0 true (shape P x.type).cells))
      ∙ ap (map (λ (cell : StoredCell). cell.holds)) (parts_same (parts_in x.start) new h) ∙ held_same names (all_parts_in P (parts_in x.start) new)))

  one_initial : (b : Bool) (flags : List Bool) (x : Object) (its others : List Static) → AllByRecursion (IsThere P) (parts_in x.start) → StaticsWith names P.model flags its others
      → StaticsWith names P.model (if b then false ∷ flags else flags) (if b then initial P x ∷ its else its) (if b then initial Q (object_with r x) ∷ others else others)
  one_initial true flags x its others h d = subst (λ it. StaticsWith names P.model (false ∷ flags) (initial P x ∷ its) (it ∷ others)) (initial_same x h) (a_static (initial P x) d)
  one_initial false flags x its others h d = d

  string_same : (y : Object) (n : ℕ) → y.type ≡ Array (Num S.Char) n → AreLetters (parts_in y.start) → AreSuited P.model (initial Q y).block.shape.cells (initial Q y).cells
  string_same y n type letters =
      subst (λ t. AreSuited P.model (shape Q t).cells (map (λ (cell : StoredCell). cell.holds) (all_parts_in Q (parts_in y.start) (map (new_cell true) (shape Q t).cells)))) (sym type)
      (string_suited Q (parts_in y.start) (struct_cells_at P.model P.structs P.types (length P.structs)) n (size_of P.model P.structs (Num S.Char)) letters)

  further_initial : (flags : List Bool) (y : Object) (its others : List Static) → IsFurther y → StaticsWith names P.model flags its others
      → StaticsWith names P.model (if is_static y.life then true ∷ flags else flags) its (if is_static y.life then initial Q y ∷ others else others)
  further_initial flags y its others (a_string {n = n} life type letters) d =
      subst (λ b. StaticsWith names P.model (if b then true ∷ flags else flags) its (if b then initial Q y ∷ others else others)) (sym (ap is_static life))
      (a_further_static (initial Q y) (no_name y (ap is_literal life)) (string_same y n type letters) d)
  further_initial flags y its others (never_made life) d = subst (λ b. StaticsWith names P.model (if b then true ∷ flags else flags) its (if b then initial Q y ∷ others else others)) (sym (ap is_static life)) d

  pub initials_with : {flags : List Bool} {xs' ys : List Object} → HasFurther r flags xs' ys → AllByRecursion (λ (x : Object). AllByRecursion (IsThere P) (parts_in x.start)) xs'
      → StaticsWith names P.model (further_statics flags ys) (initials P xs') (initials Q ys)
  initials_with no_objects h = no_statics
  initials_with (an_object {further = flags} {objects = xs'} {others = ys} x d) h = one_initial (is_static x.life) (further_statics flags ys) x (initials P xs') (initials Q ys) h.0 (initials_with d h.1)
  initials_with (a_further_object {further = flags} {objects = xs'} {others = ys} y f d) h = further_initial (further_statics flags ys) y (initials P xs') (initials Q ys) f (initials_with d h)

-- ---- a program beside itself

module _ (P : Program) where
  -- what stands before a further block that comes behind all these objects keeps its number
  before_all : (tail : List Bool) (objects : List Object) (n : ℕ) → elim (slice_get objects n) as (λ _. Bool) [ None ↦ false | Some x ↦ is_static x.life ] ≡ true
      → renumbered (map (λ _. false) (initials P objects) ++ tail) (statics_before n objects) ≡ statics_before n objects
  before_all tail [] n h = absurd (false≢true h)
  before_all tail (x ∷ objects) zero h = ap (λ b. renumbered (map (λ _. false) (if b then initial P x ∷ initials P objects else initials P objects) ++ tail) 0) h
  before_all tail (x ∷ objects) (suc n) h = by (is_static x.life) (before_all tail objects n h)
    where
      by : (b : Bool) → renumbered (map (λ _. false) (initials P objects) ++ tail) (statics_before n objects) ≡ statics_before n objects
          → renumbered (map (λ _. false) (if b then initial P x ∷ initials P objects else initials P objects) ++ tail) (if b then suc (statics_before n objects) else statics_before n objects) ≡ (if b then suc (statics_before n objects) else statics_before n objects)
      by true g = ap suc g
      by false g = g

  abbrev low : ℕ → ℕ
  low = renumbered (map (λ _. false) (initials P P.objects) ++ true ∷ [])

  content_low : (c : Constancy) (offset : ℕ) (t : CType) → IsThere P (e.fixed offset t c) → fixed_content P c ≡ content_with low (fixed_content P c)
  content_low varying offset t h = refl
  content_low faulty offset t h = refl
  content_low (number z) offset t h = refl
  content_low null_constant offset t h = refl
  content_low null_address offset t h = refl
  content_low (address n at) offset t h = ap (λ k. content.Address (Some (record { block = k; offset = at }))) (sym (before_all (true ∷ []) P.objects n h))

  part_low : (part : StartPart) (cells : List StoredCell) → IsThere P part → part_in P part (map (cell_with low) cells) ≡ map (cell_with low) (part_in P part cells)
  part_low (e.stored offset v) cells h = refl
  part_low (e.fixed offset t c) cells h = ap (λ x. fixed_in P.model offset x (map (cell_with low) cells)) (content_low c offset t h) ∙ fixed_same low P.model offset (fixed_content P c) cells
  part_low (e.letters offset s bytes) cells h = letters_same low P.model offset bytes cells

  parts_low : (parts : List StartPart) (cells : List StoredCell) → AllByRecursion (IsThere P) parts → all_parts_in P parts (map (cell_with low) cells) ≡ map (cell_with low) (all_parts_in P parts cells)
  parts_low [] cells h = refl
  parts_low (part ∷ parts) cells h = ap (all_parts_in P parts) (part_low part cells h.0) ∙ parts_low parts (part_in P part cells) h.1

  initial_low : (x : Object) → AllByRecursion (IsThere P) (parts_in x.start) → record (initial P x) { cells = map (content_with low) (initial P x).cells } ≡ initial P x
  initial_low x h =
      let new = map (new_cell true) (shape P x.type).cells in
      ap (λ held. record (initial P x) { cells = held })
      (sym (ap (λ cells. map (λ (cell : StoredCell). cell.holds) (all_parts_in P (parts_in x.start) cells)) (sym (new_cells low [] [] 0 true (shape P x.type).cells))
      ∙ ap (map (λ (cell : StoredCell). cell.holds)) (parts_low (parts_in x.start) new h) ∙ held_same low (all_parts_in P (parts_in x.start) new)))

  one_low : (b : Bool) (x : Object) (its : List Static) → AllByRecursion (IsThere P) (parts_in x.start) → StaticsWith low P.model (map (λ _. false) its) its its
      → StaticsWith low P.model (map (λ _. false) (if b then initial P x ∷ its else its)) (if b then initial P x ∷ its else its) (if b then initial P x ∷ its else its)
  one_low true x its h d = subst (λ it. StaticsWith low P.model (false ∷ map (λ _. false) its) (initial P x ∷ its) (it ∷ its)) (initial_low x h) (a_static (initial P x) d)
  one_low false x its h d = d

  pub statics_low : (objects : List Object) → AllByRecursion (λ (x : Object). AllByRecursion (IsThere P) (parts_in x.start)) objects → StaticsWith low P.model (map (λ _. false) (initials P objects)) (initials P objects) (initials P objects)
  statics_low [] h = no_statics
  statics_low (x ∷ objects) h = one_low (is_static x.life) x (initials P objects) h.0 (statics_low objects h.1)
