-- The type ids of a program that is the same, whatever types are added later, have rows.
use Rattle.std.proofs.Common.{◌≡◌, sym, subst, ◌∙◌, pos, List, [], ◌∷◌, length, map, Option, None, arith}
use Rattle.std.specs.List.{flat_map}
use Rattle.std.specs.Global.{Box}
use Rattle.lt_tree.specs.declared.typed.types.TypeId.{TypeId}
use Rattle.lt_tree.specs.declared.typed.tree.Value.{Value}
use Rattle.lt_tree.specs.declared.typed.tree.Place.{Place}
use Rattle.lt_tree.specs.declared.typed.tree.Mark.{Mark}
use Rattle.lt_tree.specs.declared.typed.tree.Place.TheBlock as at
use Rattle.lt_tree.specs.declared.typed.statement.StartPart.{StartPart}
use Rattle.lt_tree.specs.declared.typed.statement.StartPart.TheVariants as part_of
use Rattle.lt_tree.specs.declared.typed.statement.Start.{Start}
use Rattle.lt_tree.specs.declared.typed.statement.Local.{Local}
use Rattle.lt_tree.specs.declared.typed.statement.ForStart.{ForStart}
use Rattle.lt_tree.specs.declared.typed.statement.ForStart.TheVariants as start
use Rattle.lt_tree.specs.declared.typed.statement.Statement.{Statement}
use Rattle.lt_tree.specs.declared.typed.statement.Item.{Item}
use Rattle.lt_tree.specs.declared.typed.statement.Item.TheBlock as block
use Rattle.lt_tree.specs.declared.typed.entity.Member.{Member}
use Rattle.lt_tree.specs.declared.typed.entity.StructType.{StructType}
use Rattle.lt_tree.specs.declared.typed.entity.Object.{Object}
use Rattle.lt_tree.specs.declared.typed.entity.Declared.{Declared}
use Rattle.lt_tree.specs.declared.typed.entity.Function.{Function}
use Rattle.lt_tree.specs.declared.typed.entity.Entity.TheVariants as stands
use Rattle.lt_tree.specs.declared.typed.entity.Bound.{Bound}
use Rattle.lt_tree.specs.declared.typed.entity.Entity.{Entity}
use Rattle.lt_tree.specs.declared.typed.entity.Fact.{Fact}
use Rattle.lt_tree.specs.Typing.Types.{CType, Void}
use Rattle.lt_tree.specs.Typing.TypedTree as e
use Rattle.lt_tree.specs.Typing.TypedTree.{type_of, type_at}
use Rattle.lt_tree.specs.Typing.Entities as k
use Rattle.lt_tree.specs.Typing.TypeRows.{type_in, types_of_rows}
use Rattle.lt_tree.specs.Typing.ValueView.{value_of, values_of, place_of, marks_of, mark_of, bindings_of}
use Rattle.lt_tree.specs.Typing.StatementView.{start_part_of, start_of, local_of, for_start_of, maybe_of, statement_of, items_of, item_before, cases_of, items_in}
use Rattle.lt_tree.specs.Typing.EntityView.{member_of, struct_of, object_of, declared_of, function_of, entity_of, bound_of, fact_of}
use Rattle.lt_tree.specs.Typing.ProgramView.{program_at}
use Rattle.lt_tree.specs.Typing.TypeIds.{ids_in_value, ids_in_values, ids_in_place, ids_in_marks, ids_in_mark, ids_in_bindings, ids_in_part, ids_in_start, ids_in_local, ids_in_for_start, ids_in_maybe, ids_in_statement, ids_in_items, ids_in_item, ids_in_cases, ids_in_member, ids_in_struct, ids_in_object, ids_in_declared, ids_in_function, ids_in_entity, ids_in_bound, ids_in_fact, ids_among, AreBelow}
use Rattle.lt_ranges.specs.Laws.{LastingIdsHaveRows}
use Rattle.lt_ranges.proofs.LastingIds.{Same, part, length_of_rows, Below, none, first, both, head_or, tail_of, in_list, in_option}

-- ---- the parts of an expression, and anything where it has none

abbrev any_value : e.Value
any_value = e.Constant Void (pos 0)

abbrev any_place : e.Place
any_place = e.Object Void 0

abbrev value_1 : e.Value → e.Value
value_1 (e.Convert how t v) = v
value_1 (e.Minus t v) = v
value_1 (e.Complement t v) = v
value_1 (e.Not t v) = v
value_1 (e.Arithmetic t op s a b) = a
value_1 (e.Move t op size side a b) = a
value_1 (e.Distance t size a b) = a
value_1 (e.Compare t op a b) = a
value_1 (e.Logical t op a b) = a
value_1 (e.Conditional t v a b) = v
value_1 (e.Assign t place v) = v
value_1 (e.Update t op s place v) = v
value_1 (e.UpdatePointer t op size place v) = v
value_1 (e.Marked t ms v) = v
value_1 (e.Decide t v p q) = v
value_1 (e.After t v id) = v
value_1 _ = any_value

abbrev value_2 : e.Value → e.Value
value_2 (e.Arithmetic t op s a b) = b
value_2 (e.Move t op size side a b) = b
value_2 (e.Distance t size a b) = b
value_2 (e.Compare t op a b) = b
value_2 (e.Logical t op a b) = b
value_2 (e.Conditional t v a b) = a
value_2 _ = any_value

abbrev value_3 : e.Value → e.Value
value_3 (e.Conditional t v a b) = b
value_3 _ = any_value

abbrev the_place : e.Value → e.Place
the_place (e.Load t place) = place
the_place (e.Whole t place) = place
the_place (e.Decay t place) = place
the_place (e.AddressOf t place) = place
the_place (e.Assign t place v) = place
the_place (e.Update t op s place v) = place
the_place (e.UpdatePointer t op size place v) = place
the_place (e.Step t gives op s place) = place
the_place (e.StepPointer t gives op size place) = place
the_place _ = any_place

abbrev the_values : e.Value → e.Values
the_values (e.Call t f vs) = vs
the_values (e.Comma t vs) = vs
the_values _ = e.no_values

abbrev the_marks : e.Value → e.Marks
the_marks (e.Marked t ms v) = ms
the_marks _ = e.no_marks

abbrev first_value : e.Values → e.Value
first_value e.no_values = any_value
first_value (e.a_value v vs) = v

abbrev rest_values : e.Values → e.Values
rest_values e.no_values = e.no_values
rest_values (e.a_value v vs) = vs

abbrev left_in : e.Place → e.Value
left_in (e.Object t n) = any_value
left_in (e.Pointed t v) = v
left_in (e.Element t size side a b) = a
left_in (e.Part t offset place) = any_value
left_in (e.Held t v) = v

abbrev right_in : e.Place → e.Value
right_in (e.Element t size side a b) = b
right_in _ = any_value

abbrev whole_of : e.Place → e.Place
whole_of (e.Part t offset place) = place
whole_of _ = any_place

abbrev any_mark : e.Mark
any_mark = e.mark any_value 0 e.no_bindings

abbrev first_mark : e.Marks → e.Mark
first_mark e.no_marks = any_mark
first_mark (e.a_mark m ms) = m

abbrev rest_marks : e.Marks → e.Marks
rest_marks e.no_marks = e.no_marks
rest_marks (e.a_mark m ms) = ms

abbrev predicate_of : e.Mark → e.Value
predicate_of (e.mark v id bs) = v

abbrev bound_by : e.Mark → e.Bindings
bound_by (e.mark v id bs) = bs

abbrev first_bound : e.Bindings → e.Value
first_bound e.no_bindings = any_value
first_bound (e.a_binding name v bs) = v

abbrev rest_bound : e.Bindings → e.Bindings
rest_bound e.no_bindings = e.no_bindings
rest_bound (e.a_binding name v bs) = bs

-- ---- expressions

module _ {types : List CType} where
  mutual
    in_value : (v : Value) → Same types (λ ts. value_of ts v) → Below types (ids_in_value v)
    in_value (at.Constant ty z) h = first ty (part type_of h) none
    in_value (at.Load' ty p place) h = first ty (part type_of h) (in_place place (part the_place h))
    in_value (at.Whole' ty p place) h = first ty (part type_of h) (in_place place (part the_place h))
    in_value (at.Decay' ty p place) h = first ty (part type_of h) (in_place place (part the_place h))
    in_value (at.AddressOf' ty p place) h = first ty (part type_of h) (in_place place (part the_place h))
    in_value (at.Convert' ty conversion p v) h = first ty (part type_of h) (in_value v (part value_1 h))
    in_value (at.Minus' ty p v) h = first ty (part type_of h) (in_value v (part value_1 h))
    in_value (at.Complement' ty p v) h = first ty (part type_of h) (in_value v (part value_1 h))
    in_value (at.Not' ty p v) h = first ty (part type_of h) (in_value v (part value_1 h))
    in_value (at.Arithmetic' ty op operands p a q b) h = first ty (part type_of h) (both (ids_in_value a) (in_value a (part value_1 h)) (in_value b (part value_2 h)))
    in_value (at.Move' ty op size pointer p a q b) h = first ty (part type_of h) (both (ids_in_value a) (in_value a (part value_1 h)) (in_value b (part value_2 h)))
    in_value (at.Distance' ty size p a q b) h = first ty (part type_of h) (both (ids_in_value a) (in_value a (part value_1 h)) (in_value b (part value_2 h)))
    in_value (at.Compare' ty op p a q b) h = first ty (part type_of h) (both (ids_in_value a) (in_value a (part value_1 h)) (in_value b (part value_2 h)))
    in_value (at.Logical' ty op p a q b) h = first ty (part type_of h) (both (ids_in_value a) (in_value a (part value_1 h)) (in_value b (part value_2 h)))
    in_value (at.Conditional' ty p v q a r b) h =
        first ty (part type_of h) (both (ids_in_value v) (in_value v (part value_1 h)) (both (ids_in_value a) (in_value a (part value_2 h)) (in_value b (part value_3 h))))
    in_value (at.Assign' ty p place q v) h = first ty (part type_of h) (both (ids_in_place place) (in_place place (part the_place h)) (in_value v (part value_1 h)))
    in_value (at.Update' ty op operands p place q v) h = first ty (part type_of h) (both (ids_in_place place) (in_place place (part the_place h)) (in_value v (part value_1 h)))
    in_value (at.UpdatePointer' ty op size p place q v) h = first ty (part type_of h) (both (ids_in_place place) (in_place place (part the_place h)) (in_value v (part value_1 h)))
    in_value (at.Step' ty gives op operands p place) h = first ty (part type_of h) (in_place place (part the_place h))
    in_value (at.StepPointer' ty gives op size p place) h = first ty (part type_of h) (in_place place (part the_place h))
    in_value (at.Call' ty function shape arguments) h = first ty (part type_of h) (in_values arguments (part the_values h))
    in_value (at.Comma' ty shape parts) h = first ty (part type_of h) (in_values parts (part the_values h))
    in_value (at.Marked' ty shape marks p v) h = first ty (part type_of h) (both (ids_in_marks marks) (in_marks marks (part the_marks h)) (in_value v (part value_1 h)))
    in_value (at.Decide' ty p v when_true when_false) h = first ty (part type_of h) (in_value v (part value_1 h))
    in_value (at.After' ty p v id) h = first ty (part type_of h) (in_value v (part value_1 h))

    in_values : {m : _} (vs : at.Row_of-Value m) → Same types (λ ts. values_of ts vs) → Below types (ids_in_values vs)
    in_values at.end_of-Value h = none
    in_values (at.more_of-Value v vs) h = both (ids_in_value v) (in_value v (part first_value h)) (in_values vs (part rest_values h))

    in_place : (place : Place) → Same types (λ ts. place_of ts place) → Below types (ids_in_place place)
    in_place (at.Object ty number) h = first ty (part type_at h) none
    in_place (at.Pointed' ty p v) h = first ty (part type_at h) (in_value v (part left_in h))
    in_place (at.Element' ty size pointer p a q b) h = first ty (part type_at h) (both (ids_in_value a) (in_value a (part left_in h)) (in_value b (part right_in h)))
    in_place (at.Part' ty offset p place) h = first ty (part type_at h) (in_place place (part whole_of h))
    in_place (at.Held' ty p v) h = first ty (part type_at h) (in_value v (part left_in h))

    in_marks : {m : _} (ms : at.Row_of-Mark m) → Same types (λ ts. marks_of ts ms) → Below types (ids_in_marks ms)
    in_marks at.end_of-Mark h = none
    in_marks (at.more_of-Mark mark ms) h = both (ids_in_mark mark) (in_mark mark (part first_mark h)) (in_marks ms (part rest_marks h))

    in_mark : (mark : Mark) → Same types (λ ts. mark_of ts mark) → Below types (ids_in_mark mark)
    in_mark (at.struct-Mark p v id shape bound) h = both (ids_in_value v) (in_value v (part predicate_of h)) (in_bindings bound (part bound_by h))

    in_bindings : {m : _} (bs : at.Row_of-Binding m) → Same types (λ ts. bindings_of ts bs) → Below types (ids_in_bindings bs)
    in_bindings at.end_of-Binding h = none
    in_bindings (at.more_of-Binding name p v bs) h = both (ids_in_value v) (in_value v (part first_bound h)) (in_bindings bs (part rest_bound h))

-- ---- how objects start

abbrev stored_in : e.StartPart → e.Value
stored_in (e.stored offset v) = v
stored_in _ = any_value

abbrev fixed_type : e.StartPart → CType
fixed_type (e.fixed offset t content) = t
fixed_type _ = Void

in_part : {types : List CType} (it : StartPart) → Same types (λ ts. start_part_of ts it) → Below types (ids_in_part it)
in_part (part_of.Stored offset v) h = in_value v.value (part stored_in h)
in_part (part_of.Fixed offset ty content) h = first ty (part fixed_type h) none
in_part (part_of.Letters offset ty bytes) h = none

in_start : {types : List CType} (it : Start) → Same types (λ ts. start_of ts it) → Below types (ids_in_start it)
in_start it h = in_list start_part_of ids_in_part in_part it.parts.items (part (λ s. s.parts) h)

in_local : {types : List CType} (it : Local) → Same types (λ ts. local_of ts it) → Below types (ids_in_local it)
in_local it h = in_option start_of ids_in_start in_start it.start (part (λ l. l.start) h)

-- ---- the parts of a statement

abbrev start_value : e.ForStart → e.Value
start_value (e.First v) = v
start_value _ = any_value

abbrev start_locals : e.ForStart → List e.Local
start_locals (e.Locals locals) = locals
start_locals _ = []

in_for_start : {types : List CType} (it : ForStart) → Same types (λ ts. for_start_of ts it) → Below types (ids_in_for_start it)
in_for_start start.Nothing h = none
in_for_start (start.First v) h = in_value v.value (part start_value h)
in_for_start (start.Locals locals) h = in_list local_of ids_in_local in_local locals.items (part start_locals h)

in_maybe : {types : List CType} (it : Option (Box Value)) → Same types (λ ts. maybe_of ts it) → Below types (ids_in_maybe it)
in_maybe it h = in_option (λ ts v. value_of ts v.value) (λ v. ids_in_value v.value) (λ v i. in_value v.value i) it h

abbrev any_local : e.Local
any_local = record { object = 0; start = None }

abbrev the_items : e.Statement → e.Items
the_items (e.Compound items) = items
the_items _ = e.no_items

abbrev the_value : e.Statement → e.Value
the_value (e.Evaluates v) = v
the_value (e.If v body) = v
the_value (e.IfElse v body other) = v
the_value (e.While v body) = v
the_value (e.Do body v) = v
the_value (e.Switch v cases) = v
the_value _ = any_value

abbrev the_body : e.Statement → e.Statement
the_body (e.If v body) = body
the_body (e.IfElse v body other) = body
the_body (e.While v body) = body
the_body (e.Do body v) = body
the_body (e.For start test step body) = body
the_body _ = e.Null

abbrev the_other : e.Statement → e.Statement
the_other (e.IfElse v body other) = other
the_other _ = e.Null

abbrev the_start : e.Statement → e.ForStart
the_start (e.For start test step body) = start
the_start _ = e.Nothing

abbrev the_test : e.Statement → Option e.Value
the_test (e.For start test step body) = test
the_test (e.Return v) = v
the_test _ = None

abbrev the_step : e.Statement → Option e.Value
the_step (e.For start test step body) = step
the_step _ = None

abbrev the_cases : e.Statement → e.Cases
the_cases (e.Switch v cases) = cases
the_cases _ = e.no_cases

abbrev first_local : e.Items → e.Local
first_local (e.a_local local items) = local
first_local _ = any_local

abbrev first_statement : e.Items → e.Statement
first_statement (e.a_statement s items) = s
first_statement _ = e.Null

abbrev first_label : e.Items → e.Mark
first_label (e.a_label m items) = m
first_label _ = any_mark

abbrev rest_items : e.Items → e.Items
rest_items e.no_items = e.no_items
rest_items (e.a_local local items) = items
rest_items (e.a_statement s items) = items
rest_items (e.a_label m items) = items

abbrev first_case : e.Cases → e.Statement
first_case e.no_cases = e.Null
first_case (e.a_case labels s cases) = s

abbrev rest_cases : e.Cases → e.Cases
rest_cases e.no_cases = e.no_cases
rest_cases (e.a_case labels s cases) = cases

-- what stands behind an item
rest_behind : {types : List CType} (it : Item) (rest : List CType → e.Items) → Same types (λ ts. item_before ts it (rest ts)) → Same types rest
rest_behind (block.Local local) rest h = part rest_items h
rest_behind (block.Statement s) rest h = part rest_items h
rest_behind (block.Label m) rest h = part rest_items h

-- ---- statements

module _ {types : List CType} where
  mutual
    in_statement : (it : Statement) → Same types (λ ts. statement_of ts it) → Below types (ids_in_statement it)
    in_statement (block.Compound' shape items) h = in_items items (part the_items h)
    in_statement (block.Evaluates v) h = in_value v.value (part the_value h)
    in_statement block.Null h = none
    in_statement (block.If' v p body) h = both (ids_in_value v.value) (in_value v.value (part the_value h)) (in_statement body (part the_body h))
    in_statement (block.IfElse' v p body q other) h =
        both (ids_in_value v.value) (in_value v.value (part the_value h)) (both (ids_in_statement body) (in_statement body (part the_body h)) (in_statement other (part the_other h)))
    in_statement (block.While' v p body) h = both (ids_in_value v.value) (in_value v.value (part the_value h)) (in_statement body (part the_body h))
    in_statement (block.Do' p body v) h = both (ids_in_statement body) (in_statement body (part the_body h)) (in_value v.value (part the_value h))
    in_statement (block.For' start test step p body) h =
        both (ids_in_for_start start) (in_for_start start (part the_start h)) (both (ids_in_maybe test) (in_maybe test (part the_test h))
        (both (ids_in_maybe step) (in_maybe step (part the_step h)) (in_statement body (part the_body h))))
    in_statement (block.Switch' v shape cases) h = both (ids_in_value v.value) (in_value v.value (part the_value h)) (in_cases cases (part the_cases h))
    in_statement block.Break h = none
    in_statement block.Continue h = none
    in_statement (block.Return v) h = in_maybe v (part the_test h)

    in_items : {m : _} (them : block.Row_of-Item m) → Same types (λ ts. items_of ts them) → Below types (ids_in_items them)
    in_items block.end_of-Item h = none
    in_items (block.more_of-Item it rest) h = both (ids_in_item it) (in_item it (λ ts. items_of ts rest) h) (in_items rest (rest_behind it (λ ts. items_of ts rest) h))

    in_item : (it : Item) (rest : List CType → e.Items) → Same types (λ ts. item_before ts it (rest ts)) → Below types (ids_in_item it)
    in_item (block.Local local) rest h = in_local local (part first_local h)
    in_item (block.Statement s) rest h = in_statement s (part first_statement h)
    in_item (block.Label m) rest h = in_mark m (part first_label h)

    in_cases : {m : _} (them : block.Row_of-Case m) → Same types (λ ts. cases_of ts them) → Below types (ids_in_cases them)
    in_cases block.end_of-Case h = none
    in_cases (block.more_of-Case labels s rest) h = both (ids_in_statement s) (in_statement s (part first_case h)) (in_cases rest (part rest_cases h))

in_body : {types : List CType} (them : List Item) → Same types (λ ts. items_in ts them) → Below types (flat_map ids_in_item them)
in_body [] h = none
in_body (it ∷ rest) h = both (ids_in_item it) (in_item it (λ ts. items_in ts rest) h) (in_body rest (rest_behind it (λ ts. items_in ts rest) h))

-- ---- what is declared

in_member : {types : List CType} (it : Member) → Same types (λ ts. member_of ts it) → Below types (ids_in_member it)
in_member it h = first it.ty (part (λ m. m.type) h) none

pub in_struct : {types : List CType} (it : StructType) → Same types (λ ts. struct_of ts it) → Below types (ids_in_struct it)
in_struct it h =
    in_option (λ ts members. map (member_of ts) members.items) (λ members. flat_map ids_in_member members.items) (λ members i. in_list member_of ids_in_member in_member members.items i) it.members (part (λ s. s.members) h)

pub in_object : {types : List CType} (it : Object) → Same types (λ ts. object_of ts it) → Below types (ids_in_object it)
in_object it h = first it.ty (part (λ o. o.type) h) (in_option start_of ids_in_start in_start it.start (part (λ o. o.start) h))

pub in_declared : {types : List CType} (it : Declared) → Same types (λ ts. declared_of ts it) → Below types (ids_in_declared it)
in_declared it h = first it.ty (part (λ d. d.type) h) none

pub in_function : {types : List CType} (it : Function) → Same types (λ ts. function_of ts it) → Below types (ids_in_function it)
in_function it h = first it.ty (part (λ f. f.type) h) (in_body it.body.items (part (λ f. f.body) h))

abbrev typedef_type : k.Entity → CType
typedef_type (k.a_typedef t) = t
typedef_type _ = Void

in_entity : {types : List CType} (it : Entity) → Same types (λ ts. entity_of ts it) → Below types (ids_in_entity it)
in_entity (stands.Object number is_register) h = none
in_entity stands.Function h = none
in_entity (stands.Typedef ty) h = first ty (part typedef_type h) none
in_entity (stands.Enumerator z) h = none

pub in_bound : {types : List CType} (it : Bound) → Same types (λ ts. bound_of ts it) → Below types (ids_in_bound it)
in_bound it h = in_entity it.entity (part (λ b. b.entity) h)

pub in_fact : {types : List CType} (it : Fact) → Same types (λ ts. fact_of ts it) → Below types (ids_in_fact it)
in_fact it h = first it.ty (part (λ f. f.type) h) none

in_types : {types : List CType} (ids : List TypeId) → Same types (λ ts. map (type_in ts) ids) → Below types ids
in_types [] h = none
in_types (id ∷ ids) h = first id (part (head_or Void) h) (in_types ids (part tail_of h))

-- ---- programs

pub lasting_ids_have_rows : LastingIdsHaveRows
lasting_ids_have_rows unit model structs objects declared functions file types labels facts table lasts =
    let same : Same (types_of_rows table) (λ at. program_at at unit model structs objects declared functions file types labels facts) = record { is = λ t u c d. lasts t c ∙ sym (lasts u d) } in
    let in_structs = in_list struct_of ids_in_struct in_struct structs (part (λ q. q.structs) same) in
    let in_objects = in_list object_of ids_in_object in_object objects (part (λ q. q.objects) same) in
    let in_names = in_list declared_of ids_in_declared in_declared declared (part (λ q. q.declared) same) in
    let in_bodies = in_list function_of ids_in_function in_function functions (part (λ q. q.functions) same) in
    let in_file = in_list bound_of ids_in_bound in_bound file.names.items (part (λ q. q.file.names) same) in
    let in_listed = in_types types (part (λ q. q.types) same) in
    let in_facts = in_list fact_of ids_in_fact in_fact facts (part (λ q. q.facts) same) in
    let below = both _ (both _ (both _ (both _ (both _ (both _ in_structs in_objects) in_names) in_bodies) in_file) in_listed) in_facts in
    let as_many : length (types_of_rows table) ≡ length table = omega (arith, length_of_rows [] table) in
    subst (λ n. AreBelow n (ids_among structs objects declared functions file types facts)) as_many below.each
