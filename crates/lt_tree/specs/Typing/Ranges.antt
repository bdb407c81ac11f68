-- That each number and each name by which a typed program refers to something is that of something that is there.
use Rattle.std.specs.Prelude.{◌≡◌, ℕ, zero, suc, ◌<◌, ◌==◌, Bool, true, false, if◌then◌else◌, List, [], ◌∷◌, ◌++◌, length, map, slice_get, Option, Some, None, is_some}
use Rattle.std.specs.List.{AllByRecursion, AllByRecursion-prop, flat_map}
use Rattle.std.specs.Coded.{Coded-set, coded_bool, coded_ℕ, coded_list, coded_option, le_prop}
use Rattle.lt_tree.specs.Typing.Types.{CType, CTypes, no_types, a_type, Void, Num, Pointer, Array, Struct, Function as FunctionType, Floating, Qualified}
use Rattle.lt_tree.specs.Typing.Extents.{Member, StructType, Structs}
use Rattle.lt_tree.specs.Typing.Constants.{Constancy, address}
use Rattle.lt_tree.specs.Typing.TypedTree as e
use Rattle.lt_tree.specs.Typing.TypedTree.{Value, Values, Place, Marks, Mark, Bindings, names_bound, StartPart, stored, fixed, letters, Start, Local, ForStart, Statement, Items, Cases}
use Rattle.lt_tree.specs.Typing.Operands.{holds}
use Rattle.lt_tree.specs.Typing.Operations.{is_right_number}
use Rattle.lt_tree.specs.Typing.Entities.{Life, automatic, parameter, Object, Declared, declared_among, Function, Entity, an_object, a_function, a_typedef, an_enumerator, Bound, Tagged, a_struct, an_enum, Tag, Frame, Label, Fact}
use Rattle.lt_tree.specs.Typing.Programs.{Program}

-- ---- what a program refers to

-- a number or a name that stands in a program
pub data Reference : Type 0 where
  to_object : (number : ℕ) → Reference
  -- an object that is created where its declaration is reached
  to_local : (number : ℕ) → Reference
  -- an object that is a parameter of a function with a body
  to_parameter : (number : ℕ) → Reference
  to_struct : (number : ℕ) → Reference
  to_function : (name : List ℕ) → Reference
  -- with so many arguments
  to_call : (name : List ℕ) (arguments : ℕ) → Reference
  -- a mark that binds these names
  to_label : (id : ℕ) (bound : List (List ℕ)) → Reference

-- what there is: objects and structs by their places, functions that are declared by their names, and labels by their ids
pub record Lists : Type 0 where
  pub objects : List Object
  pub structs : Structs
  pub declared : List Declared
  pub labels : List Label

abbrev pub is_automatic : Life → Bool
is_automatic automatic = true
is_automatic _ = false

abbrev pub is_parameter : Life → Bool
is_parameter parameter = true
is_parameter _ = false

-- there is an object with this number, and it lives so
abbrev pub lives : (Life → Bool) → List Object → ℕ → Bool
lives so objects n = holds (λ object. so object.life) (slice_get objects n)

-- a function of this type takes so many arguments
abbrev pub takes : ℕ → CType → Bool
takes n (FunctionType result ts dots) = is_right_number n ts dots
takes n _ = false

-- the names that the label of this id binds
abbrev pub bound_by : ℕ → List Label → Option (List (List ℕ))
bound_by id [] = None
bound_by id (label ∷ labels) = if label.id == id then Some label.bound else bound_by id labels

-- it refers to something that is there
abbrev pub IsThere : Lists → Reference → Type 0
IsThere lists (to_object n) = n < length lists.objects
IsThere lists (to_local n) = lives is_automatic lists.objects n ≡ true
IsThere lists (to_parameter n) = lives is_parameter lists.objects n ≡ true
IsThere lists (to_struct k) = k < length lists.structs
IsThere lists (to_function name) = is_some (declared_among name lists.declared) ≡ true
IsThere lists (to_call name n) = holds (takes n) (declared_among name lists.declared) ≡ true
IsThere lists (to_label id names) = bound_by id lists.labels ≡ Some names

-- all of these do
abbrev pub AreThere : Lists → List Reference → Type 0
AreThere lists references = AllByRecursion (IsThere lists) references

-- ---- types and constants

abbrev mutual
  pub in_type : CType → List Reference
  in_type (Struct k) = to_struct k ∷ []
  in_type (Pointer t) = in_type t
  in_type (Array t n) = in_type t
  in_type (FunctionType t ts dots) = in_type t ++ in_types ts
  in_type (Qualified q t) = in_type t
  in_type Void = []
  in_type (Num s) = []
  in_type Floating = []

  pub in_types : CTypes → List Reference
  in_types no_types = []
  in_types (a_type t ts) = in_type t ++ in_types ts

abbrev pub in_constancy : Constancy → List Reference
in_constancy (address object offset) = to_object object ∷ []
in_constancy _ = []

-- ---- expressions

abbrev pub count_values : Values → ℕ
count_values e.no_values = zero
count_values (e.a_value first rest) = suc (count_values rest)

abbrev mutual
  pub in_value : Value → List Reference
  in_value (e.Constant t z) = in_type t
  in_value (e.Load t place) = in_type t ++ in_place place
  in_value (e.Whole t place) = in_type t ++ in_place place
  in_value (e.Decay t place) = in_type t ++ in_place place
  in_value (e.AddressOf t place) = in_type t ++ in_place place
  in_value (e.Convert how t v) = in_type t ++ in_value v
  in_value (e.Minus t v) = in_type t ++ in_value v
  in_value (e.Complement t v) = in_type t ++ in_value v
  in_value (e.Not t v) = in_type t ++ in_value v
  in_value (e.Arithmetic t op s a b) = in_type t ++ (in_value a ++ in_value b)
  in_value (e.Move t op size side a b) = in_type t ++ (in_value a ++ in_value b)
  in_value (e.Distance t size a b) = in_type t ++ (in_value a ++ in_value b)
  in_value (e.Compare t op a b) = in_type t ++ (in_value a ++ in_value b)
  in_value (e.Logical t op a b) = in_type t ++ (in_value a ++ in_value b)
  in_value (e.Conditional t test a b) = in_type t ++ (in_value test ++ (in_value a ++ in_value b))
  in_value (e.Assign t place v) = in_type t ++ (in_place place ++ in_value v)
  in_value (e.Update t op s place v) = in_type t ++ (in_place place ++ in_value v)
  in_value (e.UpdatePointer t op size place v) = in_type t ++ (in_place place ++ in_value v)
  in_value (e.Step t gives op s place) = in_type t ++ in_place place
  in_value (e.StepPointer t gives op size place) = in_type t ++ in_place place
  in_value (e.Call t name vs) = in_type t ++ (to_call name (count_values vs) ∷ in_values vs)
  in_value (e.Comma t vs) = in_type t ++ in_values vs
  in_value (e.Marked t ms v) = in_type t ++ (in_marks ms ++ in_value v)
  in_value (e.Decide t v when_true when_false) = in_type t ++ (to_label when_true [] ∷ to_label when_false [] ∷ in_value v)
  in_value (e.After t v id) = in_type t ++ (to_label id [] ∷ in_value v)

  pub in_values : Values → List Reference
  in_values e.no_values = []
  in_values (e.a_value v vs) = in_value v ++ in_values vs

  pub in_place : Place → List Reference
  in_place (e.Object t n) = in_type t ++ to_object n ∷ []
  in_place (e.Pointed t v) = in_type t ++ in_value v
  in_place (e.Element t size side a b) = in_type t ++ (in_value a ++ in_value b)
  in_place (e.Part t offset place) = in_type t ++ in_place place
  in_place (e.Held t v) = in_type t ++ in_value v

  pub in_marks : Marks → List Reference
  in_marks e.no_marks = []
  in_marks (e.a_mark m ms) = in_mark m ++ in_marks ms

  pub in_mark : Mark → List Reference
  in_mark (e.mark predicate id bound) = to_label id (names_bound bound) ∷ in_value predicate ++ in_bindings bound

  pub in_bindings : Bindings → List Reference
  in_bindings e.no_bindings = []
  in_bindings (e.a_binding name v bs) = in_value v ++ in_bindings bs

-- ---- how objects start

abbrev pub in_start_part : StartPart → List Reference
in_start_part (stored offset v) = in_value v
in_start_part (fixed offset t content) = in_type t ++ in_constancy content
in_start_part (letters offset s bytes) = []

abbrev pub in_start : Start → List Reference
in_start start = flat_map in_start_part start.parts

-- what may be left out
abbrev pub in_option : {A : Type 0} → (A → List Reference) → Option A → List Reference
in_option of None = []
in_option of (Some a) = of a

abbrev pub in_local : Local → List Reference
in_local local = to_local local.object ∷ in_option in_start local.start

-- ---- statements

abbrev pub in_for_start : ForStart → List Reference
in_for_start e.Nothing = []
in_for_start (e.First v) = in_value v
in_for_start (e.Locals locals) = flat_map in_local locals

abbrev mutual
  pub in_statement : Statement → List Reference
  in_statement (e.Compound items) = in_items items
  in_statement (e.Evaluates v) = in_value v
  in_statement (e.If test body) = in_value test ++ in_statement body
  in_statement (e.IfElse test body other) = in_value test ++ (in_statement body ++ in_statement other)
  in_statement (e.While test body) = in_value test ++ in_statement body
  in_statement (e.Do body test) = in_statement body ++ in_value test
  in_statement (e.For start test step body) = in_for_start start ++ (in_option in_value test ++ (in_option in_value step ++ in_statement body))
  in_statement (e.Switch v cases) = in_value v ++ in_cases cases
  in_statement (e.Return v) = in_option in_value v
  in_statement e.Null = []
  in_statement e.Break = []
  in_statement e.Continue = []

  pub in_items : Items → List Reference
  in_items e.no_items = []
  in_items (e.a_local local items) = in_local local ++ in_items items
  in_items (e.a_statement s items) = in_statement s ++ in_items items
  in_items (e.a_label m items) = in_mark m ++ in_items items

  pub in_cases : Cases → List Reference
  in_cases e.no_cases = []
  in_cases (e.a_case labels s cases) = in_statement s ++ in_cases cases

-- ---- what is declared

abbrev pub in_member : Member → List Reference
in_member member = in_type member.type

abbrev pub in_struct : StructType → List Reference
in_struct it = in_option (flat_map in_member) it.members

abbrev pub in_object : Object → List Reference
in_object object = in_type object.type ++ in_option in_start object.start

abbrev pub in_declared : Declared → List Reference
in_declared f = in_type f.type

abbrev pub in_function : Function → List Reference
in_function f = to_function f.name ∷ in_type f.type ++ (map to_parameter f.parameters ++ in_items f.body)

abbrev pub in_entity : List ℕ → Entity → List Reference
in_entity name (an_object n is_register) = to_object n ∷ []
in_entity name a_function = to_function name ∷ []
in_entity name (a_typedef t) = in_type t
in_entity name (an_enumerator z) = []

abbrev pub in_bound : Bound → List Reference
in_bound b = in_entity b.name b.entity

abbrev pub in_tagged : Tagged → List Reference
in_tagged (a_struct k) = to_struct k ∷ []
in_tagged (an_enum is_complete) = []

abbrev pub in_tag : Tag → List Reference
in_tag tag = in_tagged tag.tagged

abbrev pub in_frame : Frame → List Reference
in_frame frame = flat_map in_bound frame.names ++ flat_map in_tag frame.tags

abbrev pub in_fact : Fact → List Reference
in_fact fact = in_type fact.type ++ (in_constancy fact.constancy ++ in_option (λ n. to_object n ∷ []) fact.object)

-- ---- programs

-- all that stands in these parts of a program
abbrev pub references_among : Structs → List Object → List Declared → List Function → Frame → List CType → List Fact → List Reference
references_among structs objects declared functions file types facts =
    flat_map in_struct structs
    ++ flat_map in_object objects
    ++ flat_map in_declared declared
    ++ flat_map in_function functions
    ++ in_frame file
    ++ flat_map in_type types
    ++ flat_map in_fact facts

abbrev pub lists_among : Structs → List Object → List Declared → List Label → Lists
lists_among structs objects declared labels = record { objects = objects; structs = structs; declared = declared; labels = labels }

abbrev pub references : Program → List Reference
references program = references_among program.structs program.objects program.declared program.functions program.file program.types program.facts

abbrev pub lists_in : Program → Lists
lists_in program = lists_among program.structs program.objects program.declared program.labels

-- Each object, struct, function and label to which something in the program refers is there: a local object that is created is automatic,
-- a parameter one of a function with a body, a call has as many arguments as the function takes, and a mark's label binds the mark's names.
abbrev pub IsInRange : Program → Type 0
IsInRange program = AreThere (lists_in program) (references program)

-- ---- these are facts

IsThere-prop : (lists : Lists) (r : Reference) → IsProp (IsThere lists r)
IsThere-prop lists (to_object n) = le_prop
IsThere-prop lists (to_local n) = Coded-set coded_bool _ _
IsThere-prop lists (to_parameter n) = Coded-set coded_bool _ _
IsThere-prop lists (to_struct k) = le_prop
IsThere-prop lists (to_function name) = Coded-set coded_bool _ _
IsThere-prop lists (to_call name n) = Coded-set coded_bool _ _
IsThere-prop lists (to_label id names) = Coded-set (coded_option (coded_list (coded_list coded_ℕ))) _ _

pub AreThere-prop : (lists : Lists) (rs : List Reference) → IsProp (AreThere lists rs)
AreThere-prop lists rs = AllByRecursion-prop (IsThere lists) (IsThere-prop lists) rs
