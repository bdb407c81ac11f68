-- The typing of statements and units stays in range.
use Rattle.std.proofs.Common.{◌≡◌, subst, ℕ, true, false, List, [], ◌∷◌, ◌++◌, map, Bool, Option, Some, None}
use Rattle.std.specs.Prelude.{if◌then◌else◌, filter_map, unwrap_or, ◌||◌}
use Rattle.std.specs.List.{flat_map, list_any}
use Rattle.lt_model.specs.declared.scalar.DataModel.{DataModel}
use Rattle.lt_model.specs.declared.scalar.Scalar.{Scalar}
use Rattle.lt_model.specs.Conversions.{promoted}
use Rattle.lt_tree.specs.Tree as c
use Rattle.lt_tree.specs.Typing.Types.{CType, CTypes, no_types, a_type, Void, Num, Pointer, Array, Struct, Function, Floating, Qualified, bare, all_bare, same as same_type, is_integer, unqualified}
use Rattle.lt_tree.specs.Typing.Extents.{Member, StructType}
use Rattle.lt_tree.specs.Typing.Rules.{broken_if, unless, bad_case, stray_jump}
use Rattle.lt_tree.specs.Typing.TypedTree as e
use Rattle.lt_tree.specs.Typing.TypedTree.{Value, Local}
use Rattle.lt_tree.specs.Typing.Entities.{Known, Function as Defined, a_function, at_start, bind_name}
use Rattle.lt_tree.specs.Typing.Steps.{Outcome}
use Rattle.lt_tree.specs.Typing.Expressions.{Typed, as_value, as_truth, own_type, value_in, scalar_in}
use Rattle.lt_tree.specs.Typing.Operations.{promoted_value}
use Rattle.lt_tree.specs.Typing.Specifying.{elsewhere}
use Rattle.lt_tree.specs.Typing.Declarators.{Parameters}
use Rattle.lt_tree.specs.Typing.Declaring.{definition_faults, with_declared}
use Rattle.lt_tree.specs.Typing.DeclarationTyping.{declaration, effective_in_for}
use Rattle.lt_tree.specs.Typing.StatementTyping.{Around, in_a_loop, in_a_switch, test_faults, optional_test_faults, optional_expression, optional_test, optional_value, TypedStart, for_start, switch_type, switch_value, Seen, is_new_case, with_case, case_value, labels, return_faults, returned, locals_before, statement, items, cases}
use Rattle.lt_tree.specs.Typing.Programs.{Program, typed, made_of, all_made_of, with_new, types_of_struct, types_in, program_of}
use Rattle.lt_tree.specs.Typing.UnitTyping.{around_body, frame_of, objects_of, external, externals, defined_in, answer, typing_to}
use Rattle.lt_tree.specs.Typing.Ranges.{Reference, Lists, to_parameter, in_type, in_types, in_value, in_option, in_for_start, in_statement, in_items, in_cases, in_member, in_struct, in_object, in_frame, in_fact, in_local, IsInRange}
use Rattle.lt_ranges.specs.Laws.{ProgramsAreInRange}
use Rattle.lt_ranges.proofs.References.{Has, none, cons, head, both, front, back, Kept, same, then_kept, later, pushed, appended}
use Rattle.lt_ranges.proofs.Steps.{Sound, lists_of, Good, went, broke, bind, onward, done, Any, judged, unmarked, blocked, in_innermost, with_frames, in_new_frame, unmarked_here, entered, new_frame, scoped}
use Rattle.lt_ranges.proofs.TypesInRange.{T, unqualified_in}
use Rattle.lt_ranges.proofs.TypedInRange.{V, TypedIn, later_typed, value_in_range, converted_value_in}
use Rattle.lt_ranges.proofs.Growth.{bound, defined, declared_in}
use Rattle.lt_ranges.proofs.Specified.{in_parameters}
use Rattle.lt_ranges.proofs.RangedExpressions.{MaybeIn, of_expression, of_mark, of_specifiers, of_declarator}
use Rattle.lt_ranges.proofs.RangedDeclarations.{LocalsIn, DeclaredLocalsIn, of_declaration_by}

-- ---- parts of statements

of_declaration : (d : c.Declaration) (known : Known) → Sound known → Good DeclaredLocalsIn (lists_of known) (declaration d known)
of_declaration d known s = of_declaration_by (λ class. class) d known s

of_optional : (it : Option c.Expression) (known : Known) → Sound known → Good MaybeIn (lists_of known) (optional_expression it known)
of_optional None known s = done known s tt
of_optional (Some it) known s = bind (of_expression it as_value known s) (λ x k kept s x_in. done k s x_in)

of_optional_test : (it : Option c.Expression) (known : Known) → Sound known → Good MaybeIn (lists_of known) (optional_test it known)
of_optional_test None known s = done known s tt
of_optional_test (Some it) known s = bind (of_expression it as_truth known s) (λ x k kept s x_in. done k s x_in)

later_maybe : {b b' : Lists} (x : Option Typed) → Kept b b' → MaybeIn b x → MaybeIn b' x
later_maybe None kept h = tt
later_maybe (Some x) kept h = later_typed kept h

optional_value_in : {b : Lists} (x : Option Typed) → MaybeIn b x → Has b (in_option in_value (optional_value x))
optional_value_in None h = none
optional_value_in (Some x) h = value_in_range h

abbrev StartIn : Lists → TypedStart → Type 0
StartIn b it = Has b (in_for_start it.start)

of_start : (start : c.ForStart) (known : Known) → Sound known → Good StartIn (lists_of known) (for_start start known)
of_start c.Nothing known s = done known s none
of_start (c.First it) known s = bind (of_expression it as_value known s) (λ x k kept s x_in. done k s (value_in_range x_in))
of_start (c.Declares d) known s = bind (of_declaration_by effective_in_for d known s) (λ it k kept s h. done k s h)

of_labels : (them : List c.Label) (scalar : Option Scalar) (seen : Seen) (known : Known) → Sound known → Good Any (lists_of known) (labels them scalar seen known)
of_labels [] scalar seen known s = done known s tt
of_labels (c.Case it ∷ rest) scalar seen known s =
    bind (unmarked known.is_unmarked (of_expression it as_value (unmarked_here (entered known)) s)) (λ x k kept s x_in. bind
    (bind (judged known.next (unless (is_new_case seen (case_value k.model scalar x)) bad_case) k s) (λ u k kept s r. done {P = Any} k s tt))
    (λ z k kept s r. bind (of_labels rest scalar (with_case seen z) k s) (λ others k kept s h. done k s tt)))
of_labels (c.Default ∷ rest) scalar seen known s =
    bind (judged known.next (broken_if bad_case seen.has_default) (entered known) s)
    (λ u k kept s r. bind (of_labels rest scalar (record seen { has_default = true }) k s) (λ others k kept s h. done k s tt))

switch_in : {b : Lists} {x : Typed} (m : DataModel) → TypedIn b x → V b (switch_value m x)
switch_in {b} {x} m h =
    elim (is_integer (own_type x)) as (λ v. V b (if v then promoted_value m x else value_in x))
    [ true ↦ converted_value_in (Num (promoted m (scalar_in x))) (value_in x) none (value_in_range h) | false ↦ value_in_range h ]

-- what a return gives, where the function's type is in range
returned_in : {b : Lists} (result : CType) (x : Option Typed) → T b result → MaybeIn b x → Has b (in_option in_value (returned result x))
returned_in result None h i = none
returned_in result (Some x) h i = converted_value_in (unqualified result) (value_in x) (unqualified_in result h) (value_in_range i)

locals_before_in : {b : Lists} (locals : List Local) (items : e.Items) → LocalsIn b locals → Has b (in_items items) → Has b (in_items (locals_before locals items))
locals_before_in [] items h i = i
locals_before_in (local ∷ locals) items h i = both (front {rs = in_local local} _ h) (locals_before_in locals items (back (in_local local) h) i)

-- ---- statements

abbrev StatementIn : Lists → e.Statement → Type 0
StatementIn b it = Has b (in_statement it)

abbrev ItemsIn : Lists → e.Items → Type 0
ItemsIn b them = Has b (in_items them)

abbrev CasesIn : Lists → e.Cases → Type 0
CasesIn b them = Has b (in_cases them)

mutual
  of_statement : (it : c.Statement) (around : Around) (known : Known) → Sound known → T (lists_of known) around.result → Good StatementIn (lists_of known) (statement it around known)
  of_statement (c.Compound list) around known s r =
      let start = entered known in
      bind (scoped start s (of_items list around (in_new_frame start) (new_frame start s) r)) (λ found k kept s h. done k s h)
  of_statement (c.Evaluates it) around known s r = bind (of_expression it as_value (entered known) s) (λ x k kept s x_in. done k s (value_in_range x_in))
  of_statement c.Null around known s r = done (entered known) s none
  of_statement (c.If test body) around known s r =
      let start = in_new_frame (entered known) in
      scoped (entered known) s (bind (of_expression test as_truth start (new_frame known s)) (λ x k kept_x s x_in. bind (scoped k s (of_statement body around (in_new_frame k) (new_frame k s) (later kept_x r)))
      (λ first k kept_f s f_in. bind (judged known.next (test_faults x) k s) (λ u k kept s c. done k s (both (later (then_kept kept_f kept) (value_in_range x_in)) (later kept f_in))))))
  of_statement (c.IfElse test body other) around known s r =
      let start = in_new_frame (entered known) in
      scoped (entered known) s (bind (of_expression test as_truth start (new_frame known s)) (λ x k kept_x s x_in. bind (scoped k s (of_statement body around (in_new_frame k) (new_frame k s) (later kept_x r)))
      (λ first k kept_f s f_in. bind (scoped k s (of_statement other around (in_new_frame k) (new_frame k s) (later (then_kept kept_x kept_f) r)))
      (λ second k kept_s s s_in. bind (judged known.next (test_faults x) k s)
      (λ u k kept s c. done k s (both (later (then_kept kept_f (then_kept kept_s kept)) (value_in_range x_in)) (both (later (then_kept kept_s kept) f_in) (later kept s_in))))))))
  of_statement (c.While test body) around known s r =
      let start = in_new_frame (entered known) in
      scoped (entered known) s (bind (of_expression test as_truth start (new_frame known s)) (λ x k kept_x s x_in. bind (scoped k s (of_statement body (in_a_loop around) (in_new_frame k) (new_frame k s) (later kept_x r)))
      (λ first k kept_f s f_in. bind (judged known.next (test_faults x) k s) (λ u k kept s c. done k s (both (later (then_kept kept_f kept) (value_in_range x_in)) (later kept f_in))))))
  of_statement (c.Do body test) around known s r =
      let start = in_new_frame (entered known) in
      scoped (entered known) s (bind (scoped start (new_frame known s) (of_statement body (in_a_loop around) (in_new_frame start) (new_frame start (new_frame known s)) r)) (λ first k kept_f s f_in. bind (of_expression test as_truth k s)
      (λ x k kept_x s x_in. bind (judged known.next (test_faults x) k s) (λ u k kept s c. done k s (both (later (then_kept kept_x kept) f_in) (later kept (value_in_range x_in)))))))
  of_statement (c.For begin test step body) around known s r =
      let start = in_new_frame (entered known) in
      scoped (entered known) s (bind (of_start begin start (new_frame known s)) (λ b k kept_b s b_in. bind (of_optional_test test k s) (λ x k kept_x s x_in. bind (of_optional step k s)
      (λ y k kept_y s y_in. bind (scoped k s (of_statement body (in_a_loop around) (in_new_frame k) (new_frame k s) (later (then_kept kept_b (then_kept kept_x kept_y)) r)))
      (λ first k kept_f s f_in. bind (judged known.next (b.faults ++ optional_test_faults x) k s) (λ u k kept s c. let last = then_kept kept_f kept in
      done k s (both (later (then_kept kept_x (then_kept kept_y last)) b_in) (both (later (then_kept kept_y last) (optional_value_in x x_in)) (both (later last (optional_value_in y y_in)) (later kept f_in))))))))))
  of_statement (c.Switch operand list) around known s r =
      let start = in_new_frame (entered known) in
      scoped (entered known) s (bind (of_expression operand as_truth start (new_frame known s)) (λ x k0 kept_x s x_in. bind (of_cases list (switch_type k0.model x) (record { values = []; has_default = false }) (in_a_switch around) k0 s (later kept_x r))
      (λ found k kept_c s c_in. bind (judged known.next (test_faults x ++ unless (is_integer (own_type x)) bad_case) k s) (λ u k kept s c. done k s (both (later (then_kept kept_c kept) (switch_in k0.model x_in)) (later kept c_in))))))
  of_statement c.Break around known s r = bind (judged known.next (unless (around.in_loop || around.in_switch) stray_jump) (entered known) s) (λ u k kept s c. done k s none)
  of_statement c.Continue around known s r = bind (judged known.next (unless around.in_loop stray_jump) (entered known) s) (λ u k kept s c. done k s none)
  of_statement (c.Return it) around known s r =
      bind (of_optional it (entered known) s) (λ x k kept_x s x_in. bind (judged known.next (return_faults around.result x) k s)
      (λ u k kept s c. done k s (returned_in around.result x (later (then_kept kept_x kept) r) (later_maybe x kept x_in))))

  of_items : (them : c.Items) (around : Around) (known : Known) → Sound known → T (lists_of known) around.result → Good ItemsIn (lists_of known) (items them around known)
  of_items c.no_items around known s r = done known s none
  of_items (c.a_declaration first rest) around known s r =
      bind (of_declaration first (entered known) s) (λ it k kept_i s i_in. bind (judged known.next it.faults k s) (λ u k kept_u s c. bind (of_items rest around k s (later (then_kept kept_i kept_u) r))
      (λ others k kept s h. done k s (locals_before_in it.locals others (later (then_kept kept_u kept) i_in) h))))
  of_items (c.a_statement first rest) around known s r =
      bind (of_statement first around (entered known) s r) (λ it k kept_i s i_in. bind (of_items rest around k s (later kept_i r)) (λ others k kept s h. done k s (both (later kept i_in) h)))
  of_items (c.a_label first rest) around known s r =
      bind (of_mark first (entered known) s) (λ m k kept_m s m_in. bind (of_items rest around k s (later kept_m r)) (λ others k kept s h. done k s (both (later kept m_in) h)))

  of_cases : (them : c.Cases) (scalar : Option Scalar) (seen : Seen) (around : Around) (known : Known) → Sound known → T (lists_of known) around.result
      → Good CasesIn (lists_of known) (cases them scalar seen around known)
  of_cases c.no_cases scalar seen around known s r = done known s none
  of_cases (c.a_case list first rest) scalar seen around known s r =
      bind (of_labels list scalar seen known s) (λ it k kept_l s l. bind (scoped k s (of_statement first around (in_new_frame k) (new_frame k s) (later kept_l r)))
      (λ body k kept_b s b_in. bind (of_cases rest scalar it.seen around k s (later (then_kept kept_l kept_b) r)) (λ others k kept s h. done k s (both (later kept b_in) h))))

-- ---- units

result_in : {b : Lists} (t : CType) → T b t → T b (around_body t).result
result_in (Function t ts dots) h = front {rs = in_type t} _ h
result_in Void h = none
result_in _ h = none

frame_in : {b : Lists} (them : Option Parameters) → Has b (in_option (in_parameters true) them) → Has b (in_frame (frame_of them))
frame_in None h = none
frame_in (Some them) h = back (map to_parameter them.objects) (back (in_types them.types) h)

objects_in : {b : Lists} (them : Option Parameters) → Has b (in_option (in_parameters true) them) → Has b (map to_parameter (objects_of them))
objects_in None h = none
objects_in (Some them) h = front {rs = map to_parameter them.objects} _ (back (in_types them.types) h)

-- where a function is declared, and its body is in a scope of its own
abbrev with_function : List ℕ → CType → Known → Known
with_function name t known = bind_name name a_function (with_declared name t known)

of_external : (it : c.External) (known : Known) → Sound known → Good Any (lists_of known) (external it known)
of_external (c.Defines sp d body) known s =
    bind (of_specifiers sp elsewhere (entered known) s) (λ it k kept s it_in. bind (of_declarator d it true (definition_faults it.storage) k s it_in) (λ declared k kept s d_in.
    let name : List ℕ = unwrap_or declared.name [] in
    let there = declared_in name declared.type k d_in.type s in
    let start = with_function name declared.type k in
    let start_sound : Sound start = bound name a_function (with_declared name declared.type k) there.there there.sound in
    let frame = frame_of declared.parameters in
    let frame_there : Has (lists_of start) (in_frame frame) = later there.kept (frame_in declared.parameters d_in.parameters) in
    let result_there : T (lists_of start) (around_body declared.type).result = later there.kept (result_in declared.type d_in.type) in
    let inside = record start { frames = frame ∷ start.frames } in
    onward there.kept (bind (blocked start.frames start_sound.frames (of_items body (around_body declared.type) inside (with_frames start (frame ∷ start.frames) (both frame_there start_sound.frames) start_sound) result_there))
    (λ found k2 kept2 s2 h. let f : Defined = record { node = known.next; name = name; type = declared.type; parameters = objects_of declared.parameters; body = found.0 } in
    let all_kept = then_kept there.kept kept2 in
    went same (defined f k2 (cons (head (later kept2 there.there)) (both (later all_kept d_in.type) (both (later all_kept (objects_in declared.parameters d_in.parameters)) h.0))) s2) tt))))
of_external (c.Declared d) known s = bind (of_declaration d (entered known) s) (λ it k kept s h. judged known.next it.faults k s)

of_externals : (them : List c.External) (known : Known) → Sound known → Good Any (lists_of known) (externals them known)
of_externals [] known s = done known s tt
of_externals (x ∷ xs) known s = bind (of_external x known s) (λ u k kept s h. of_externals xs k s)

-- ---- the types of a program

mutual
  bare_in : {b : Lists} (t : CType) → T b t → T b (bare t)
  bare_in (Pointer t) h = bare_in t h
  bare_in (Array t n) h = bare_in t h
  bare_in (Function t ts dots) h = both (bare_in t (front {rs = in_type t} _ h)) (all_bare_in ts (back (in_type t) h))
  bare_in (Qualified q t) h = bare_in t h
  bare_in Void h = h
  bare_in (Num x) h = h
  bare_in (Struct k) h = h
  bare_in Floating h = h

  all_bare_in : {b : Lists} (ts : CTypes) → Has b (in_types ts) → Has b (in_types (all_bare ts))
  all_bare_in no_types h = none
  all_bare_in (a_type t ts) h = both (bare_in t (front {rs = in_type t} _ h)) (all_bare_in ts (back (in_type t) h))

abbrev TypesIn : Lists → List CType → Type 0
TypesIn b ts = Has b (flat_map in_type ts)

mutual
  made_of_in : {b : Lists} (t : CType) → T b t → TypesIn b (made_of t)
  made_of_in (Pointer t) h = pushed in_type (made_of t) (Pointer (bare t)) (made_of_in t h) (bare_in t h)
  made_of_in (Array t n) h = pushed in_type (made_of t) (Array (bare t) n) (made_of_in t h) (bare_in t h)
  made_of_in (Function t ts dots) h =
      pushed in_type (made_of t ++ all_made_of ts) (bare (Function t ts dots))
      (appended in_type (made_of t) (all_made_of ts) (made_of_in t (front {rs = in_type t} _ h)) (all_made_of_in ts (back (in_type t) h))) (bare_in (Function t ts dots) h)
  made_of_in (Qualified q t) h = made_of_in t h
  made_of_in Void h = none
  made_of_in (Num x) h = none
  made_of_in (Struct k) h = both h none
  made_of_in Floating h = none

  all_made_of_in : {b : Lists} (ts : CTypes) → Has b (in_types ts) → TypesIn b (all_made_of ts)
  all_made_of_in no_types h = none
  all_made_of_in (a_type t ts) h = appended in_type (made_of t) (all_made_of ts) (made_of_in t (front {rs = in_type t} _ h)) (all_made_of_in ts (back (in_type t) h))

-- the types of which these are made
made_of_all : {A : Type 0} {b : Lists} (type : A → CType) (list : List A) → Has b (flat_map (λ a. in_type (type a)) list) → TypesIn b (flat_map (λ a. made_of (type a)) list)
made_of_all type [] h = none
made_of_all type (a ∷ list) h =
    appended in_type (made_of (type a)) (flat_map (λ a. made_of (type a)) list) (made_of_in (type a) (front {rs = in_type (type a)} _ h)) (made_of_all type list (back (in_type (type a)) h))

-- what stands in each of a list
weaker : {A : Type 0} {b : Lists} (of of' : A → List Reference) (list : List A) → ((a : A) → Has b (of a) → Has b (of' a)) → Has b (flat_map of list) → Has b (flat_map of' list)
weaker of of' [] f h = none
weaker of of' (a ∷ list) f h = both (f a (front {rs = of a} _ h)) (weaker of of' list f (back (of a) h))

made_of_members : {b : Lists} (members : Option (List Member)) → Has b (in_option (flat_map in_member) members)
    → TypesIn b (elim members [ None ↦ [] | Some members ↦ flat_map (λ member. made_of member.type) members ])
made_of_members None h = none
made_of_members (Some members) h = made_of_all (λ member. member.type) members h

made_of_structs : {b : Lists} (structs : List StructType) → Has b (flat_map in_struct structs) → TypesIn b (flat_map types_of_struct structs)
made_of_structs [] h = none
made_of_structs (it ∷ structs) h =
    appended in_type (types_of_struct it) (flat_map types_of_struct structs) (made_of_members it.members (front {rs = in_struct it} _ h)) (made_of_structs structs (back (in_struct it) h))

kept_or_new : {b : Lists} (is_there : Bool) (found : List CType) (t : CType) → TypesIn b found → T b t → TypesIn b (if is_there then found else found ++ t ∷ [])
kept_or_new true found t h i = h
kept_or_new false found t h i = pushed in_type found t h i

with_new_in : {b : Lists} (found ts : List CType) → TypesIn b found → TypesIn b ts → TypesIn b (with_new found ts)
with_new_in found [] h i = h
with_new_in found (t ∷ ts) h i =
    with_new_in (if list_any (same_type t) found then found else found ++ t ∷ []) ts (kept_or_new (list_any (same_type t) found) found t h (front {rs = in_type t} _ i)) (back (in_type t) i)

all_types_in : (known : Known) → Sound known → TypesIn (lists_of known) (types_in known)
all_types_in known s =
    let objects = made_of_all (λ object. object.type) known.objects (weaker in_object (λ object. in_type object.type) known.objects (λ object h. front _ h) s.objects) in
    let declared = made_of_all (λ f. f.type) known.declared s.declared in
    let facts = made_of_all (λ fact. fact.type) known.facts (weaker in_fact (λ fact. in_type fact.type) known.facts (λ fact h. front _ h) s.facts) in
    with_new_in [] (flat_map types_of_struct known.structs ++ flat_map (λ object. made_of object.type) known.objects ++ flat_map (λ f. made_of f.type) known.declared ++ flat_map (λ fact. made_of fact.type) known.facts) none
    (appended in_type (flat_map types_of_struct known.structs ++ flat_map (λ object. made_of object.type) known.objects ++ flat_map (λ f. made_of f.type) known.declared) (flat_map (λ fact. made_of fact.type) known.facts)
    (appended in_type (flat_map types_of_struct known.structs ++ flat_map (λ object. made_of object.type) known.objects) (flat_map (λ f. made_of f.type) known.declared)
    (appended in_type (flat_map types_of_struct known.structs) (flat_map (λ object. made_of object.type) known.objects) (made_of_structs known.structs s.structs) objects) declared) facts)

-- ---- programs

program_in : (unit : c.Unit) (known : Known) → Sound known → IsInRange (program_of unit known)
program_in unit known s =
    (both (both (both (both (both (both s.structs s.objects) s.declared) s.functions) (in_innermost known.frames s.frames)) (all_types_in known s)) s.facts).each

nothing_known : (model : DataModel) (defined : List (List ℕ)) → Sound (at_start model defined)
nothing_known model defined = record { frames = none; structs = none; objects = none; declared = none; functions = none; facts = none }

answered : {b : Lists} (unit : c.Unit) (o : Outcome (Unit {0})) (program : Program) → Good Any b o → answer unit o ≡ typed program → IsInRange program
answered unit o program (went {a} {known} kept s h) is = let it : program_of unit known ≡ program = cc in subst IsInRange it (program_in unit known s)
answered unit o program broke is = absurd cc

pub programs_are_in_range : ProgramsAreInRange
unfolding typing_to
programs_are_in_range model unit program is =
    answered unit (externals unit (at_start model (filter_map defined_in unit))) program (of_externals unit (at_start model (filter_map defined_in unit)) (nothing_known model (filter_map defined_in unit))) is
