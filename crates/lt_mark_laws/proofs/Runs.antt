-- Runs of a program with marks added are the same, new marks aside.
use Rattle.std.proofs.Common.{◌≡◌, ℕ, zero, suc, List, [], ◌∷◌, Option, Some, None, Bool, true, false, refl, sym, ap, ◌∙◌, subst}
use Rattle.std.specs.Prelude.{◌++◌, ◌&&◌, not, if◌then◌else◌, map, length}
use Rattle.std.specs.Str.{bytes_eq}
use Rattle.lt_model.specs.declared.cell.Content.{Content}
use Rattle.lt_model.specs.declared.cell.Content.TheVariants as content
use Rattle.lt_model.specs.declared.cell.CellType.{CellType}
use Rattle.lt_model.specs.declared.cell.Shape.{Shape}
use Rattle.lt_model.specs.declared.cell.ShapeCell.{ShapeCell}
use Rattle.lt_model.specs.declared.cell.StoredCell.{StoredCell}
use Rattle.lt_model.specs.declared.input.Input.{Input}
use Rattle.lt_model.specs.declared.input.BlockIn.{BlockIn}
use Rattle.lt_model.specs.declared.input.CellSet.{CellSet}
use Rattle.lt_model.specs.declared.input.CellSet.TheVariants as cellset
use Rattle.lt_model.specs.declared.scalar.DataModel.{DataModel}
use Rattle.lt_model.specs.declared.run.End.TheVariants.{Stopped, Steps}
use Rattle.lt_model.specs.Memory.{new_cell}
use Rattle.lt_model.specs.State.{Made, untouched, Gives, Ends}
use Rattle.lt_tree.specs.Tree.{Unit as SourceUnit}
use Rattle.lt_tree.specs.Typing.Types.{CType, is_void}
use Rattle.lt_tree.specs.Typing.Constants.{Constancy, number, address, varying, faulty, null_constant, null_address}
use Rattle.lt_tree.specs.Typing.TypedTree as e
use Rattle.lt_tree.specs.Typing.TypedTree.{Value, Statement, Items, Cases, Local as Local', StartPart}
use Rattle.lt_tree.specs.Typing.Entities.{Function, Label, Fact, Declared, Frame, Object, is_static}
use Rattle.lt_tree.specs.Typing.Programs.{Program}
use Rattle.lt_ir.specs.declared.variable.Variable.{Variable}
use Rattle.lt_ir.specs.declared.variable.Variable.TheVariants.{Parameter, Local, Static as StaticObject}
use Rattle.lt_ir.specs.declared.code.Static.{Static}
use Rattle.lt_ir.specs.Running.{At, Answer, Step, gives, seals, statics_of, begin_parameters, end_parameters}
use Rattle.lt_ir.specs.Evaluation.{store_parameters}
use Rattle.lt_ir.specs.Starting.{Root, put, fill, start_static, start_statics, seal_statics, start_blocks, start_parameters, root_among, point_named, type_at, put_if_there, put_in, set_one, set_all, sets, started, parameter_roots, static_roots, nowhere}
use Rattle.lt_meaning.specs.Expressions.{Around, Calls, shape}
use Rattle.lt_meaning.specs.Statements.{Flow, Next, Breaks, Continues, Returns, exec_items, parts_in, is_sealed_object, type_of_object}
use Rattle.lt_meaning.specs.Runs.{run, is_there_first, statics_before, place_among, variable_of, begun_by, locals_in, locals_of, locals_among, fixed_content, fixed_in, part_in, all_parts_in, initial, initials, stops, without_body, shapes_of, seal_parameters, back, value_of_call, inside_of, body_of, with_body, function_among, invoke, name_of_object, over_by, begun}
use Rattle.lt_mark_laws.specs.Laws.{AreAlike, MarksChangeNothing}
use Rattle.lt_mark_laws.specs.Added as a
use Rattle.lt_mark_laws.specs.Added.{AddsLocal, AddsLocals, AddsForStart, AddsOptional, AddsStatement, AddsItems, AddsCases, AddsFunction, AddsFunctions, AddsProgram, AreSameObjects}
use Rattle.lt_mark_laws.proofs.Alike.{remarked, Alike, Same, then_same, gives_same, over_same, if_same}
use Rattle.lt_mark_laws.proofs.Machine.{tick_same, deeper_same, scope_same, begin_parameters_same, end_parameters_same, store_parameters_same, seals_same, stub_same, begins_same, bound_same, created_same, stored_same}
use Rattle.lt_mark_laws.proofs.Objects as objects
use Rattle.lt_mark_laws.proofs.Objects.{each}
use Rattle.lt_mark_laws.proofs.Statements.{items_same}

-- ---- variables are the same

begun_same : (new : ℕ → Bool) (x y : List Local') → AddsLocals new x y → begun_by x ≡ begun_by y
begun_same new [] [] h = refl
begun_same new (x ∷ xs) (y ∷ ys) h = ap (λ n. n ∷ begun_by xs) h.0.0 ∙ ap (λ l. y.object ∷ l) (begun_same new xs ys h.1)
begun_same new [] (y ∷ ys) h = absurd h
begun_same new (x ∷ xs) [] h = absurd h

for_locals : (new : ℕ → Bool) (x y : e.ForStart) (v w s r : Option Value) (c d : Statement) → AddsForStart new x y → locals_in c ≡ locals_in d → locals_in (e.For x v s c) ≡ locals_in (e.For y w r d)
for_locals new e.Nothing e.Nothing v w s r c d h q = q
for_locals new (e.First x) (e.First y) v w s r c d h q = q
for_locals new (e.Locals x) (e.Locals y) v w s r c d h q = ap (λ l. l ++ locals_in c) (begun_same new x y h) ∙ ap (λ l. begun_by y ++ l) q
for_locals new e.Nothing (e.First y) v w s r c d h q = absurd h
for_locals new e.Nothing (e.Locals y) v w s r c d h q = absurd h
for_locals new (e.First x) e.Nothing v w s r c d h q = absurd h
for_locals new (e.First x) (e.Locals y) v w s r c d h q = absurd h
for_locals new (e.Locals x) e.Nothing v w s r c d h q = absurd h
for_locals new (e.Locals x) (e.First y) v w s r c d h q = absurd h

mutual
  statement_locals : {new : ℕ → Bool} {c d : Statement} → AddsStatement new c d → locals_in c ≡ locals_in d
  statement_locals (a.Compound d) = items_locals d
  statement_locals (a.Evaluates d) = refl
  statement_locals a.Null = refl
  statement_locals (a.If d1 d2) = statement_locals d2
  statement_locals (a.IfElse {b = b} {c = c} d1 d2 d3) = ap (λ l. l ++ locals_in c) (statement_locals d2) ∙ ap (λ l. locals_in b ++ l) (statement_locals d3)
  statement_locals (a.While d1 d2) = statement_locals d2
  statement_locals (a.Do d1 d2) = statement_locals d1
  statement_locals {new = new} (a.For {x} {y} {v} {w} {s} {r} {a = c} {b = d} h h1 h2 d3) = for_locals new x y v w s r c d h (statement_locals d3)
  statement_locals (a.Switch d1 d2) = cases_locals d2
  statement_locals a.Break = refl
  statement_locals a.Continue = refl
  statement_locals (a.Return h) = refl

  items_locals : {new : ℕ → Bool} {is js : Items} → AddsItems new is js → locals_of is ≡ locals_of js
  items_locals a.no_items = refl
  items_locals (a.a_local {b = y} {is = is} h d) = ap (λ n. n ∷ locals_of is) h.0 ∙ ap (λ l. y.object ∷ l) (items_locals d)
  items_locals (a.a_statement {b = b} {is = is} d1 d2) = ap (λ l. l ++ locals_of is) (statement_locals d1) ∙ ap (λ l. locals_in b ++ l) (items_locals d2)
  items_locals (a.a_label d1 d2) = items_locals d2
  items_locals (a.an_added_label is_new d) = items_locals d

  cases_locals : {new : ℕ → Bool} {cs ds : Cases} → AddsCases new cs ds → locals_among cs ≡ locals_among ds
  cases_locals a.no_cases = refl
  cases_locals (a.a_case {b = b} {cs = cs} d rest) = ap (λ l. l ++ locals_among cs) (statement_locals d) ∙ ap (λ l. locals_in b ++ l) (cases_locals rest)

-- ---- programs

module _ (new : ℕ → Bool) (P : Program) (u : SourceUnit) (ds : List Declared) (fs : List Function) (fr : Frame) (ls : List Label) (xs : List Fact) (os : List Object) (objects_same : AreSameObjects P.objects os) where
  abbrev S : {A : Type 0} → Step A → Step A → Type 0
  S s r = Same new s r

  abbrev Q : Program
  Q = record P { unit = u; declared = ds; functions = fs; file = fr; labels = ls; facts = xs; objects = os }

  -- ---- objects that are there from the start

  fixed_same : (c : Constancy) → fixed_content P c ≡ fixed_content Q c
  fixed_same varying = refl
  fixed_same faulty = refl
  fixed_same (number z) = refl
  fixed_same null_constant = refl
  fixed_same null_address = refl
  fixed_same (address n offset) = ap (λ k. content.Address (Some (record { block = k; offset = offset }))) (objects.statics_same n P.objects os objects_same)

  part_same : (part : StartPart) (cells : List StoredCell) → part_in P part cells ≡ part_in Q part cells
  part_same (e.stored offset v) cells = refl
  part_same (e.fixed offset t c) cells = ap (λ x. fixed_in P.model offset x cells) (fixed_same c)
  part_same (e.letters offset s bytes) cells = refl

  parts_same : (parts : List StartPart) (cells : List StoredCell) → all_parts_in P parts cells ≡ all_parts_in Q parts cells
  parts_same [] cells = refl
  parts_same (part ∷ parts) cells = parts_same parts (part_in P part cells) ∙ ap (all_parts_in Q parts) (part_same part cells)

  initial_same : (object : Object) → initial P object ≡ initial Q object
  initial_same object = ap (λ cells. record (initial P object) { cells = map (λ cell. cell.holds) cells }) (parts_same (parts_in object.start) (map (new_cell true) (shape P object.type).cells))

  renumbered_same : (x : Object) (n : ℕ) → initial Q (record x { node = n }) ≡ initial Q x
  renumbered_same x n = ap (λ name. record (initial Q x) { block = record { name = name; shape = shape Q x.type } }) (objects.file_name_same x n)

  initials_by : (b : Bool) (x y : Object) (xs' ys : List Object) → initial P x ≡ initial Q y → initials P xs' ≡ initials Q ys → (if b then initial P x ∷ initials P xs' else initials P xs') ≡ (if b then initial Q y ∷ initials Q ys else initials Q ys)
  initials_by true x y xs' ys h k = ap (λ it. it ∷ initials P xs') h ∙ ap (λ l. initial Q y ∷ l) k
  initials_by false x y xs' ys h k = k

  initials_same : (xs' ys : List Object) → AreSameObjects xs' ys → initials P xs' ≡ initials Q ys
  initials_same [] [] h = refl
  initials_same (x ∷ xs') (y ∷ ys) h = initials_by (is_static x.life) x y xs' ys (initial_same x ∙ sym (renumbered_same x y.node) ∙ ap (initial Q) h.0) (initials_same xs' ys h.1) ∙ ap (λ life. if is_static life then initial Q y ∷ initials Q ys else initials Q ys) (ap (λ o. o.life) h.0)
  initials_same [] (y ∷ ys) h = absurd h
  initials_same (x ∷ xs') [] h = absurd h

  shapes_same : (ns : List ℕ) → shapes_of P ns ≡ shapes_of Q ns
  shapes_same [] = refl
  shapes_same (n ∷ ns) = ap (λ t. shape P t ∷ shapes_of P ns) (objects.type_same P.objects os objects_same n) ∙ ap (λ l. shape P (type_of_object Q n) ∷ l) (shapes_same ns)

  -- ---- functions

  names_same : (ns : List ℕ) → map (name_of_object P) ns ≡ map (name_of_object Q) ns
  names_same [] = refl
  names_same (n ∷ ns) = ap (λ name. name ∷ map (name_of_object P) ns) (objects.name_same P.objects os objects_same n) ∙ ap (λ l. name_of_object Q n ∷ l) (names_same ns)

  abbrev one_variable : List ℕ → List ℕ → Bool → ℕ → ℕ → Variable
  one_variable parameters locals is_there k n = elim (place_among 0 n parameters) [ None ↦ (if is_there then StaticObject k else elim (place_among 0 n locals) [ None ↦ Local (length locals) | Some j ↦ Local j ]) | Some j ↦ Parameter j ]

  variable_at : (f : Function) (body : Items) (node : ℕ) → AddsItems new f.body body → (n : ℕ) → variable_of P f n ≡ variable_of Q (record f { node = node; body = body }) n
  variable_at f body node d n = ap (λ locals. one_variable f.parameters locals (is_there_first P n) (statics_before n P.objects) n) (items_locals d) ∙ ap (λ b. one_variable f.parameters (locals_of body) b (statics_before n P.objects) n) (objects.static_same P.objects os objects_same n) ∙ ap (λ k. one_variable f.parameters (locals_of body) (is_there_first Q n) k n) (objects.statics_same n P.objects os objects_same)

  pub variable_same : (f : Function) (body : Items) (node : ℕ) → AddsItems new f.body body → variable_of P f ≡ variable_of Q (record f { node = node; body = body })
  variable_same f body node d = each (variable_of P f) (variable_of Q (record f { node = node; body = body })) (variable_at f body node d)

  seal_one : (b : Bool) (k : ℕ) → S (if b then seals (Parameter k) else gives (tt {0})) (if b then seals (Parameter k) else gives (tt {0}))
  seal_one b k = if_same new b (seals (Parameter k)) (gives (tt {0})) (seals (Parameter k)) (gives (tt {0})) (seals_same new (Parameter k)) (gives_same new (tt {0}))

  seal_at : (n k : ℕ) → S (if is_sealed_object P n then seals (Parameter k) else gives (tt {0})) (if is_sealed_object Q n then seals (Parameter k) else gives (tt {0}))
  seal_at n k = subst (λ b. S (if is_sealed_object P n then seals (Parameter k) else gives (tt {0})) (if b then seals (Parameter k) else gives (tt {0}))) (objects.sealed_same P.objects os objects_same n) (seal_one (is_sealed_object P n) k)

  seal_same : (k : ℕ) (ns : List ℕ) → S (seal_parameters P k ns) (seal_parameters Q k ns)
  seal_same k [] = gives_same new (tt {0})
  seal_same k (n ∷ ns) = then_same new _ _ _ _ (seal_at n k) (λ _. seal_same (suc k) ns)

  without_body_same : (name : List ℕ) (t : CType) (b : Bool) → S (without_body name t b) (without_body name t b)
  without_body_same name t b = if_same new (stops name) _ _ _ _ (over_same new _ Stopped) (if_same new (b && not (is_void t)) _ _ _ _ (stub_same new name) (gives_same new content.Unset))

  value_same_of : (f : Function) (body : Items) (node : ℕ) (flow : Flow) → value_of_call f flow ≡ value_of_call (record f { node = node; body = body }) flow
  value_same_of f body node Next = refl
  value_same_of f body node Breaks = refl
  value_same_of f body node Continues = refl
  value_same_of f body node (Returns None) = refl
  value_same_of f body node (Returns (Some c)) = refl

  pub renamed : (f g : Function) → AddsFunction new f g → record f { node = g.node; body = g.body } ≡ g
  renamed f g h = ap (λ n. record g { name = n; type = f.type; parameters = f.parameters }) h.name ∙ ap (λ t. record g { type = t; parameters = f.parameters }) h.type ∙ ap (λ ns. record g { parameters = ns }) h.parameters

  abbrev in_body : Calls → (ℕ → Variable) → Around
  in_body calls' variable = record { program = Q; variable = variable; calls = calls'; tracks = true }

  items_in_body : (calls calls' : Calls) (calls_same : (f : List ℕ) (t : CType) (cs : List Content) (b : Bool) → Same new (calls f t cs b) (calls' f t cs b)) (f : Function) (body : Items) (node : ℕ) → AddsItems new f.body body → S (exec_items (inside_of P calls f) f.body) (exec_items (inside_of Q calls' (record f { node = node; body = body })) body)
  items_in_body calls calls' calls_same f body node d = subst (λ variable. S (exec_items (inside_of P calls f) f.body) (exec_items (in_body calls' variable) body)) (variable_same f body node d) (items_same new P u ds fs fr ls xs os objects_same (variable_of P f) calls calls' calls_same true d)

  body_same : (calls calls' : Calls) (calls_same : (f : List ℕ) (t : CType) (cs : List Content) (b : Bool) → Same new (calls f t cs b) (calls' f t cs b)) (f : Function) (body : Items) (node : ℕ) → AddsItems new f.body body → S (body_of P calls f) (body_of Q calls' (record f { node = node; body = body }))
  body_same calls calls' calls_same f body node d = then_same new _ _ _ _ (seal_same 0 f.parameters) (λ _. then_same new _ _ _ _ (items_in_body calls calls' calls_same f body node d) (λ flow. then_same new _ _ _ _ (subst (λ shapes. S (end_parameters 0 (shapes_of P f.parameters)) (end_parameters 0 shapes)) (shapes_same f.parameters) (end_parameters_same new 0 (shapes_of P f.parameters))) (λ _. gives_same new flow)))

  back_same : (before : At) (ms : List Made) → S (back before) (back (remarked ms before))
  back_same before ms = record { alike = λ at ns same. (refl, (refl, same)) }

  with_body_here : (calls calls' : Calls) (calls_same : (f : List ℕ) (t : CType) (cs : List Content) (b : Bool) → Same new (calls f t cs b) (calls' f t cs b)) (f : Function) (body : Items) (node : ℕ) (cs : List Content) → AddsItems new f.body body → S (with_body P calls f cs) (with_body Q calls' (record f { node = node; body = body }) cs)
  with_body_here calls calls' calls_same f body node cs d = record { alike = λ at ms same. (then_same new _ _ _ _ (deeper_same new) (λ _. then_same new _ _ _ _ (scope_same new (statics_of at.scope)) (λ _. then_same new _ _ _ _ (subst (λ shapes. S (begin_parameters 0 (shapes_of P f.parameters)) (begin_parameters 0 shapes)) (shapes_same f.parameters) (begin_parameters_same new 0 (shapes_of P f.parameters))) (λ _. then_same new _ _ _ _ (subst (λ shapes. S (store_parameters P.model 0 (shapes_of P f.parameters) cs) (store_parameters P.model 0 shapes cs)) (shapes_same f.parameters) (store_parameters_same new P.model 0 (shapes_of P f.parameters) cs)) (λ _. then_same new _ _ _ _ (body_same calls calls' calls_same f body node d) (λ flow. then_same new _ _ _ _ (back_same at ms) (λ _. subst (λ c. S (gives (value_of_call f flow)) (gives c)) (value_same_of f body node flow) (gives_same new (value_of_call f flow))))))))).alike at ms same }

  with_body_same : (calls calls' : Calls) (calls_same : (f : List ℕ) (t : CType) (cs : List Content) (b : Bool) → Same new (calls f t cs b) (calls' f t cs b)) (f g : Function) (cs : List Content) → AddsFunction new f g → S (with_body P calls f cs) (with_body Q calls' g cs)
  with_body_same calls calls' calls_same f g cs h = subst (λ g. S (with_body P calls f cs) (with_body Q calls' g cs)) (renamed f g h) (with_body_here calls calls' calls_same f g.body g.node cs h.body)

  found_same : (calls calls' : Calls) (calls_same : (f : List ℕ) (t : CType) (cs : List Content) (b : Bool) → Same new (calls f t cs b) (calls' f t cs b)) (name : List ℕ) (t : CType) (cs : List Content) (b : Bool) (x y : Option Function) → AddsOptional (AddsFunction new) x y → S (elim (x) as (λ _. Step Content) [ None ↦ without_body name t b | Some f ↦ with_body P calls f cs ]) (elim (y) as (λ _. Step Content) [ None ↦ without_body name t b | Some f ↦ with_body Q calls' f cs ])
  found_same calls calls' calls_same name t cs b None None h = without_body_same name t b
  found_same calls calls' calls_same name t cs b (Some f) (Some g) h = with_body_same calls calls' calls_same f g cs h
  found_same calls calls' calls_same name t cs b None (Some g) h = absurd h
  found_same calls calls' calls_same name t cs b (Some f) None h = absurd h

  found_by : (b : Bool) (f g : Function) (x y : Option Function) → AddsFunction new f g → AddsOptional (AddsFunction new) x y → AddsOptional (AddsFunction new) (if b then Some f else x) (if b then Some g else y)
  found_by true f g x y h k = h
  found_by false f g x y h k = k

  functions_among : (name : List ℕ) (x y : List Function) → AddsFunctions new x y → AddsOptional (AddsFunction new) (function_among name x) (function_among name y)
  functions_among name [] [] h = tt
  functions_among name (f ∷ x) (g ∷ y) h = subst (λ n. AddsOptional (AddsFunction new) (function_among name (f ∷ x)) (if bytes_eq n name then Some g else function_among name y)) h.0.name (found_by (bytes_eq f.name name) f g (function_among name x) (function_among name y) h.0 (functions_among name x y h.1))
  functions_among name [] (g ∷ y) h = absurd h
  functions_among name (f ∷ x) [] h = absurd h

  pub invoke_same : AddsFunctions new P.functions fs → (n : ℕ) (f : List ℕ) (t : CType) (cs : List Content) (b : Bool) → S (invoke P n f t cs b) (invoke Q n f t cs b)
  invoke_same h zero f t cs b = over_same new _ Steps
  invoke_same h (suc n) f t cs b = then_same new _ _ _ _ (tick_same new) (λ _. found_same (invoke P n) (invoke Q n) (invoke_same h n) f t cs b (function_among f P.functions) (function_among f fs) (functions_among f P.functions fs h))

  -- ---- how a run begins

  put_same : (m : DataModel) (block offset : ℕ) (ty : CellType) (c : Content) → S (put m block offset ty c) (put m block offset ty c)
  put_same m block offset ty c = then_same new _ _ _ _ (stored_same new false m ty (Some (record { block = block; offset = offset })) c untouched) (λ _. gives_same new (tt {0}))

  fill_same : (m : DataModel) (block : ℕ) (cells : List ShapeCell) (cs : List Content) → S (fill m block cells cs) (fill m block cells cs)
  fill_same m block [] cs = gives_same new (tt {0})
  fill_same m block (cell ∷ cells) [] = gives_same new (tt {0})
  fill_same m block (cell ∷ cells) (c ∷ cs) = then_same new _ _ _ _ (put_same m block cell.offset cell.ty c) (λ _. fill_same m block cells cs)

  static_same : (m : DataModel) (k : ℕ) (it : Static) → S (start_static m k it) (start_static m k it)
  static_same m k it = then_same new _ _ _ _ (created_same new it.block.shape true) (λ block. then_same new _ _ _ _ (fill_same m block it.block.shape.cells it.cells) (λ _. bound_same new (StaticObject k) block))

  statics_same : (m : DataModel) (k : ℕ) (its : List Static) → S (start_statics m k its) (start_statics m k its)
  statics_same m k [] = gives_same new (tt {0})
  statics_same m k (it ∷ its) = then_same new _ _ _ _ (static_same m k it) (λ _. statics_same m (suc k) its)

  seal_statics_same : (k : ℕ) (its : List Static) → S (seal_statics k its) (seal_statics k its)
  seal_statics_same k [] = gives_same new (tt {0})
  seal_statics_same k (it ∷ its) = then_same new _ _ _ _ (if_same new it.writable (gives (tt {0})) (seals (StaticObject k)) (gives (tt {0})) (seals (StaticObject k)) (gives_same new (tt {0})) (seals_same new (StaticObject k))) (λ _. seal_statics_same (suc k) its)

  blocks_same : (its : List BlockIn) → S (start_blocks its) (start_blocks its)
  blocks_same [] = gives_same new []
  blocks_same (it ∷ its) = then_same new _ _ _ _ (created_same new it.shape true) (λ block. then_same new _ _ _ _ (blocks_same its) (λ roots. gives_same new (record { name = it.name; block = block; cells = it.shape.cells } ∷ roots)))

  start_parameters_same : (k : ℕ) (shapes : List Shape) → S (start_parameters k shapes) (start_parameters k shapes)
  start_parameters_same k [] = gives_same new (tt {0})
  start_parameters_same k (shape ∷ shapes) = then_same new _ _ _ _ (begins_same new (Parameter k) shape true) (λ _. start_parameters_same (suc k) shapes)

  put_there_same : (m : DataModel) (block offset : ℕ) (ty : Option CellType) (c : Content) → S (put_if_there m block offset ty c) (put_if_there m block offset ty c)
  put_there_same m block offset None c = gives_same new (tt {0})
  put_there_same m block offset (Some ty) c = put_same m block offset ty c

  put_in_same : (m : DataModel) (root : Option Root) (offset : ℕ) (c : Content) → S (put_in m root offset c) (put_in m root offset c)
  put_in_same m None offset c = gives_same new (tt {0})
  put_in_same m (Some root) offset c = put_there_same m root.block offset (type_at offset root.cells) c

  set_one_same : (m : DataModel) (roots : List Root) (it : CellSet) → S (set_one m roots it) (set_one m roots it)
  set_one_same m roots (cellset.Number p z) = put_in_same m (root_among roots p.root) p.offset (content.Number z)
  set_one_same m roots (cellset.Point p target) = put_in_same m (root_among roots p.root) p.offset (content.Address (point_named roots target))

  set_all_same : (m : DataModel) (roots : List Root) (its : List CellSet) → S (set_all m roots its) (set_all m roots its)
  set_all_same m roots [] = gives_same new (tt {0})
  set_all_same m roots (it ∷ its) = then_same new _ _ _ _ (set_one_same m roots it) (λ _. set_all_same m roots its)

  sets_same : (m : DataModel) (statics : List Static) (names : List (List ℕ)) (shapes : List Shape) (its : List CellSet) (roots : List Root) → S (sets m statics names shapes its roots) (sets m statics names shapes its roots)
  sets_same m statics names shapes its roots = record { alike = λ at ms same. (set_all_same m (parameter_roots at.scope 0 names shapes (roots ++ static_roots 0 statics)) its).alike at ms same }

  started_same : (m : DataModel) (statics : List Static) (names : List (List ℕ)) (shapes : List Shape) (input : Input) → S (started m statics names shapes input) (started m statics names shapes input)
  started_same m statics names shapes input = then_same new _ _ _ _ (statics_same m 0 statics) (λ _. then_same new _ _ _ _ (blocks_same input.blocks) (λ roots. then_same new _ _ _ _ (start_parameters_same 0 shapes) (λ _. then_same new _ _ _ _ (sets_same m statics names shapes input.cells roots) (λ _. seal_statics_same 0 statics))))

  begun_alike : (f : Function) (body : Items) (node : ℕ) (input : Input) → S (begun P f input) (begun Q (record f { node = node; body = body }) input)
  begun_alike f body node input =
      subst (λ names. S (begun P f input) (started P.model (initials Q os) names (shapes_of Q f.parameters) input)) (names_same f.parameters)
      (subst (λ statics. S (begun P f input) (started P.model statics (map (name_of_object P) f.parameters) (shapes_of Q f.parameters) input)) (initials_same P.objects os objects_same)
      (subst (λ shapes. S (begun P f input) (started P.model (initials P P.objects) (map (name_of_object P) f.parameters) shapes input)) (shapes_same f.parameters) (started_same P.model (initials P P.objects) (map (name_of_object P) f.parameters) (shapes_of P f.parameters) input)))

  over_alike : (m n : Answer Flow) → Alike new m n → AreAlike new (over_by m) (over_by n)
  over_alike (Gives x at1) (Gives y at2) h = record { end = refl; memory = ap (λ at. at.memory) (sym h.1.0); ticks = ap (λ at. at.ticks) (sym h.1.0); stubs = ap (λ at. at.stubs) (sym h.1.0); marks = h.1.1 }
  over_alike (Ends x at1) (Ends y at2) h = record { end = h.0; memory = ap (λ at. at.memory) (sym h.1.0); ticks = ap (λ at. at.ticks) (sym h.1.0); stubs = ap (λ at. at.stubs) (sym h.1.0); marks = h.1.1 }
  over_alike (Gives x at1) (Ends y at2) h = absurd h
  over_alike (Ends x at1) (Gives y at2) h = absurd h

  run_here : AddsFunctions new P.functions fs → (f : Function) (body : Items) (node : ℕ) (input : Input) (ticks : ℕ) → AddsItems new f.body body → AreAlike new (run P f input ticks) (run Q (record f { node = node; body = body }) input ticks)
  run_here h f body node input ticks d = over_alike _ _ ((then_same new (begun P f input) (begun Q (record f { node = node; body = body }) input) _ _ (begun_alike f body node input) (λ _. body_same (invoke P (suc ticks)) (invoke Q (suc ticks)) (invoke_same h (suc ticks)) f body node d)).alike (nowhere input ticks) [] refl)

  run_same : AddsFunctions new P.functions fs → (f g : Function) (input : Input) (ticks : ℕ) → AddsFunction new f g → AreAlike new (run P f input ticks) (run Q g input ticks)
  run_same h f g input ticks d = subst (λ g. AreAlike new (run P f input ticks) (run Q g input ticks)) (renamed f g d) (run_here h f g.body g.node input ticks d.body)

-- ---- the law

pub with_marks : {new : ℕ → Bool} (p q : Program) → AddsProgram new p q → record p { unit = q.unit; declared = q.declared; functions = q.functions; file = q.file; labels = q.labels; facts = q.facts; objects = q.objects } ≡ q
with_marks p q h = ap (λ x. record q { model = x; structs = p.structs; types = p.types }) h.model ∙ ap (λ x. record q { structs = x; types = p.types }) h.structs ∙ ap (λ x. record q { types = x }) h.types

pub nothing_changes : MarksChangeNothing
nothing_changes new p q f g input ticks h d = subst (λ q. AreAlike new (run p f input ticks) (run q g input ticks)) (with_marks p q h) (run_same new p q.unit q.declared q.functions q.file q.labels q.facts q.objects h.objects h.functions f g input ticks d)
