-- The types to which a typed program refers that lies in memory, by their ids, and that each has a row in the program's table.
use Rattle.std.specs.Prelude.{◌≡◌, ℕ, ◌<◌, List, [], ◌∷◌, ◌++◌, Option, None, Some, slice_get}
use Rattle.std.specs.List.{AllByRecursion, AllByRecursion-prop, flat_map}
use Rattle.std.specs.Coded.{Π_prop, le_prop}
use Rattle.std.specs.Global.{Box}
use Rattle.lt_tree.specs.declared.typed.types.TypeId.{TypeId}
use Rattle.lt_tree.specs.declared.typed.types.TypeRow.{TypeRow}
use Rattle.lt_tree.specs.declared.typed.types.TypeRow.TheVariants as row
use Rattle.lt_tree.specs.declared.typed.tree.Value.{Value}
use Rattle.lt_tree.specs.declared.typed.tree.Place.{Place}
use Rattle.lt_tree.specs.declared.typed.tree.Mark.{Mark}
use Rattle.lt_tree.specs.declared.typed.tree.Place.TheBlock as at
use Rattle.lt_tree.specs.declared.typed.statement.StartPart.{StartPart}
use Rattle.lt_tree.specs.declared.typed.statement.StartPart.TheVariants as part
use Rattle.lt_tree.specs.declared.typed.statement.Start.{Start}
use Rattle.lt_tree.specs.declared.typed.statement.Local.{Local}
use Rattle.lt_tree.specs.declared.typed.statement.ForStart.{ForStart}
use Rattle.lt_tree.specs.declared.typed.statement.ForStart.TheVariants as start
use Rattle.lt_tree.specs.declared.typed.statement.Statement.{Statement}
use Rattle.lt_tree.specs.declared.typed.statement.Item.{Item}
use Rattle.lt_tree.specs.declared.typed.statement.Item.TheBlock as block
use Rattle.lt_tree.specs.declared.typed.entity.Member.{Member}
use Rattle.lt_tree.specs.declared.typed.entity.StructType.{StructType}
use Rattle.lt_tree.specs.declared.typed.entity.Object.{Object}
use Rattle.lt_tree.specs.declared.typed.entity.Declared.{Declared}
use Rattle.lt_tree.specs.declared.typed.entity.Function.{Function}
use Rattle.lt_tree.specs.declared.typed.entity.Entity.{Entity}
use Rattle.lt_tree.specs.declared.typed.entity.Entity.TheVariants as stands
use Rattle.lt_tree.specs.declared.typed.entity.Bound.{Bound}
use Rattle.lt_tree.specs.declared.typed.entity.Frame.{Frame}
use Rattle.lt_tree.specs.declared.typed.entity.Fact.{Fact}

-- ---- expressions

abbrev mutual
  pub ids_in_value : Value → List TypeId
  ids_in_value (at.Constant ty z) = ty ∷ []
  ids_in_value (at.Load' ty p place) = ty ∷ ids_in_place place
  ids_in_value (at.Whole' ty p place) = ty ∷ ids_in_place place
  ids_in_value (at.Decay' ty p place) = ty ∷ ids_in_place place
  ids_in_value (at.AddressOf' ty p place) = ty ∷ ids_in_place place
  ids_in_value (at.Convert' ty conversion p operand) = ty ∷ ids_in_value operand
  ids_in_value (at.Minus' ty p operand) = ty ∷ ids_in_value operand
  ids_in_value (at.Complement' ty p operand) = ty ∷ ids_in_value operand
  ids_in_value (at.Not' ty p operand) = ty ∷ ids_in_value operand
  ids_in_value (at.Arithmetic' ty op operands p left q right) = ty ∷ ids_in_value left ++ ids_in_value right
  ids_in_value (at.Move' ty op size pointer p left q right) = ty ∷ ids_in_value left ++ ids_in_value right
  ids_in_value (at.Distance' ty size p left q right) = ty ∷ ids_in_value left ++ ids_in_value right
  ids_in_value (at.Compare' ty op p left q right) = ty ∷ ids_in_value left ++ ids_in_value right
  ids_in_value (at.Logical' ty op p left q right) = ty ∷ ids_in_value left ++ ids_in_value right
  ids_in_value (at.Conditional' ty p test q left r right) = ty ∷ ids_in_value test ++ (ids_in_value left ++ ids_in_value right)
  ids_in_value (at.Assign' ty p place q value) = ty ∷ ids_in_place place ++ ids_in_value value
  ids_in_value (at.Update' ty op operands p place q value) = ty ∷ ids_in_place place ++ ids_in_value value
  ids_in_value (at.UpdatePointer' ty op size p place q value) = ty ∷ ids_in_place place ++ ids_in_value value
  ids_in_value (at.Step' ty gives op operands p place) = ty ∷ ids_in_place place
  ids_in_value (at.StepPointer' ty gives op size p place) = ty ∷ ids_in_place place
  ids_in_value (at.Call' ty function shape arguments) = ty ∷ ids_in_values arguments
  ids_in_value (at.Comma' ty shape parts) = ty ∷ ids_in_values parts
  ids_in_value (at.Marked' ty shape marks p value) = ty ∷ ids_in_marks marks ++ ids_in_value value
  ids_in_value (at.Decide' ty p operand when_true when_false) = ty ∷ ids_in_value operand
  ids_in_value (at.After' ty p operand id) = ty ∷ ids_in_value operand

  pub ids_in_values : {m : _} → at.Row_of-Value m → List TypeId
  ids_in_values at.end_of-Value = []
  ids_in_values (at.more_of-Value first rest) = ids_in_value first ++ ids_in_values rest

  pub ids_in_place : Place → List TypeId
  ids_in_place (at.Object ty number) = ty ∷ []
  ids_in_place (at.Pointed' ty p pointer) = ty ∷ ids_in_value pointer
  ids_in_place (at.Element' ty size pointer p left q right) = ty ∷ ids_in_value left ++ ids_in_value right
  ids_in_place (at.Part' ty offset p whole) = ty ∷ ids_in_place whole
  ids_in_place (at.Held' ty p value) = ty ∷ ids_in_value value

  pub ids_in_marks : {m : _} → at.Row_of-Mark m → List TypeId
  ids_in_marks at.end_of-Mark = []
  ids_in_marks (at.more_of-Mark first rest) = ids_in_mark first ++ ids_in_marks rest

  pub ids_in_mark : Mark → List TypeId
  ids_in_mark (at.struct-Mark p predicate id shape bound) = ids_in_value predicate ++ ids_in_bindings bound

  pub ids_in_bindings : {m : _} → at.Row_of-Binding m → List TypeId
  ids_in_bindings at.end_of-Binding = []
  ids_in_bindings (at.more_of-Binding name p value rest) = ids_in_value value ++ ids_in_bindings rest

-- ---- how objects start

abbrev pub ids_in_part : StartPart → List TypeId
ids_in_part (part.Stored offset value) = ids_in_value value.value
ids_in_part (part.Fixed offset ty content) = ty ∷ []
ids_in_part (part.Letters offset ty bytes) = []

abbrev pub ids_in_start : Start → List TypeId
ids_in_start s = flat_map ids_in_part s.parts.items

-- what may be left out
abbrev pub ids_in_option : {A : Type 0} → (A → List TypeId) → Option A → List TypeId
ids_in_option of None = []
ids_in_option of (Some a) = of a

abbrev pub ids_in_local : Local → List TypeId
ids_in_local l = ids_in_option ids_in_start l.start

-- ---- statements

abbrev pub ids_in_for_start : ForStart → List TypeId
ids_in_for_start start.Nothing = []
ids_in_for_start (start.First value) = ids_in_value value.value
ids_in_for_start (start.Locals locals) = flat_map ids_in_local locals.items

abbrev pub ids_in_maybe : Option (Box Value) → List TypeId
ids_in_maybe value = ids_in_option (λ v. ids_in_value v.value) value

abbrev mutual
  pub ids_in_statement : Statement → List TypeId
  ids_in_statement (block.Compound' shape items) = ids_in_items items
  ids_in_statement (block.Evaluates value) = ids_in_value value.value
  ids_in_statement block.Null = []
  ids_in_statement (block.If' test p body) = ids_in_value test.value ++ ids_in_statement body
  ids_in_statement (block.IfElse' test p body q other) = ids_in_value test.value ++ (ids_in_statement body ++ ids_in_statement other)
  ids_in_statement (block.While' test p body) = ids_in_value test.value ++ ids_in_statement body
  ids_in_statement (block.Do' p body test) = ids_in_statement body ++ ids_in_value test.value
  ids_in_statement (block.For' start test step p body) =
      ids_in_for_start start ++ (ids_in_maybe test ++ (ids_in_maybe step ++ ids_in_statement body))
  ids_in_statement (block.Switch' operand shape cases) = ids_in_value operand.value ++ ids_in_cases cases
  ids_in_statement block.Break = []
  ids_in_statement block.Continue = []
  ids_in_statement (block.Return value) = ids_in_maybe value

  pub ids_in_items : {m : _} → block.Row_of-Item m → List TypeId
  ids_in_items block.end_of-Item = []
  ids_in_items (block.more_of-Item first rest) = ids_in_item first ++ ids_in_items rest

  pub ids_in_item : Item → List TypeId
  ids_in_item (block.Local local) = ids_in_local local
  ids_in_item (block.Statement statement) = ids_in_statement statement
  ids_in_item (block.Label mark) = ids_in_mark mark

  pub ids_in_cases : {m : _} → block.Row_of-Case m → List TypeId
  ids_in_cases block.end_of-Case = []
  ids_in_cases (block.more_of-Case labels statement rest) = ids_in_statement statement ++ ids_in_cases rest

-- ---- what is declared

abbrev pub ids_in_member : Member → List TypeId
ids_in_member m = m.ty ∷ []

abbrev pub ids_in_struct : StructType → List TypeId
ids_in_struct s = ids_in_option (λ members. flat_map ids_in_member members.items) s.members

abbrev pub ids_in_object : Object → List TypeId
ids_in_object o = o.ty ∷ ids_in_option ids_in_start o.start

abbrev pub ids_in_declared : Declared → List TypeId
ids_in_declared d = d.ty ∷ []

abbrev pub ids_in_function : Function → List TypeId
ids_in_function f = f.ty ∷ flat_map ids_in_item f.body.items

abbrev pub ids_in_entity : Entity → List TypeId
ids_in_entity (stands.Object number is_register) = []
ids_in_entity stands.Function = []
ids_in_entity (stands.Typedef ty) = ty ∷ []
ids_in_entity (stands.Enumerator z) = []

abbrev pub ids_in_bound : Bound → List TypeId
ids_in_bound b = ids_in_entity b.entity

abbrev pub ids_in_frame : Frame → List TypeId
ids_in_frame f = flat_map ids_in_bound f.names.items

abbrev pub ids_in_fact : Fact → List TypeId
ids_in_fact f = f.ty ∷ []

-- what a row of the table is made of
abbrev pub ids_in_row : TypeRow → List TypeId
ids_in_row (row.Pointer t) = t ∷ []
ids_in_row (row.Array t n) = t ∷ []
ids_in_row (row.Function f) = f.result ∷ f.parameters.items
ids_in_row (row.Qualified q t) = t ∷ []
ids_in_row _ = []

-- ---- programs

-- all that stand in the parts of a program
abbrev pub ids_among : List StructType → List Object → List Declared → List Function → Frame → List TypeId → List Fact → List TypeId
ids_among structs objects declared functions file types facts =
    flat_map ids_in_struct structs
    ++ flat_map ids_in_object objects
    ++ flat_map ids_in_declared declared
    ++ flat_map ids_in_function functions
    ++ ids_in_frame file
    ++ types
    ++ flat_map ids_in_fact facts

-- the place of its row is below this
abbrev pub IsBelow : ℕ → TypeId → Type 0
IsBelow n id = id.place < n

-- of each of these ids
abbrev pub AreBelow : ℕ → List TypeId → Type 0
AreBelow n ids = AllByRecursion (IsBelow n) ids

-- what a row is made of has rows before it
abbrev pub AreMadeOfRowsBefore : List TypeRow → Type 0
AreMadeOfRowsBefore rows = (k : ℕ) (r : TypeRow) → slice_get rows k ≡ Some r → AreBelow k (ids_in_row r)

-- ---- these are facts

pub AreBelow-prop : (n : ℕ) (ids : List TypeId) → IsProp (AreBelow n ids)
AreBelow-prop n ids = AllByRecursion-prop (IsBelow n) (λ id. le_prop) ids

pub AreMadeOfRowsBefore-prop : (rows : List TypeRow) → IsProp (AreMadeOfRowsBefore rows)
AreMadeOfRowsBefore-prop rows = Π_prop (λ k. Π_prop (λ r. Π_prop (λ is. AreBelow-prop k (ids_in_row r))))
