-- What is promised of each piece of a statement's code: the relation's piece stands from its point.
use Rattle.std.specs.Prelude.{◌≡◌, ◌≤◌, ℕ, ℤ, pos, suc, ◌+◌, ◌*◌, List, [], ◌∷◌, map, reverse, length, true, false, Option, Some, None, unwrap_or, IfOk, IfSome, Result, slice_get}
use Rattle.std.specs.Borrow.{Bor}
use Rattle.std.specs.Ordering.{int_cmp}
use Rattle.std.specs.BTreeMap.{BTreeMap, get, btree_map_len}
use Rattle.std.specs.Global.{Vec}
use Rattle.std.specs.declared.alloc.AllocError.{AllocError}
use Rattle.lt_tree.specs.declared.typed.tree.Value.{Value}
use Rattle.lt_tree.specs.declared.typed.statement.Statement.{Statement}
use Rattle.lt_tree.specs.declared.typed.statement.Item.{Item}
use Rattle.lt_tree.specs.declared.typed.statement.Item.TheVariants as item
use Rattle.lt_tree.specs.declared.typed.statement.Case.{Case}
use Rattle.lt_tree.specs.declared.typed.statement.Label.{Label}
use Rattle.lt_tree.specs.declared.typed.statement.Label.TheVariants as label
use Rattle.lt_tree.specs.declared.typed.statement.Local.{Local}
use Rattle.lt_tree.specs.declared.typed.statement.StartPart.{StartPart}
use Rattle.lt_tree.specs.declared.typed.statement.ForStart.{ForStart}
use Rattle.lt_tree.specs.declared.typed.statement.ForStart.TheVariants as for_start
use Rattle.lt_tree.specs.Typing.Entities.{Function}
use Rattle.lt_tree.specs.Typing.Types.{CType, Num}
use Rattle.lt_tree.specs.Typing.TypedTree as e
use Rattle.lt_tree.specs.Typing.ValueView.{value_of, mark_of}
use Rattle.lt_tree.specs.Typing.StatementView.{statement_of, items_in, cases_in, local_of, start_part_of}
use Rattle.lt_model.specs.declared.cell.Content.TheVariants as content
use Rattle.lt_model.specs.declared.scalar.Scalar.{Scalar}
use Rattle.lt_ir.specs.declared.variable.Variable.{Variable}
use Rattle.lt_ir.specs.declared.node.Arm.{Arm}
use Rattle.lt_ir.specs.declared.node.Node.TheVariants as node
use Rattle.lt_ir.specs.Tables.{arm_of}
use Rattle.lt_meaning.specs.Statements.{parts_in}
use Rattle.lt_code.specs.Costs.{Cost, alone, turn, ◌⊕◌, of_part, of_parts, of_statement, of_items, of_cases, optional_value, optional_test}
use Rattle.lt_code.specs.Costs.{full_value as value_cost, full_test as whole_test}
use Rattle.lt_code.specs.Pieces.{Piece, one, nothing, ◌▸◌}
use Rattle.lt_meaning.specs.Expressions.{dropped, cell_type}
use Rattle.lt_code.specs.Code.{Site as CodeSite, mark, full_value, up_to, constant, program_in}
use Rattle.lt_code.specs.Bodies as code
use Rattle.lt_code.specs.Bodies.{Exits, Entry, arms_of, default_of, HasCode, HasEnds, label_of}
use Rattle.lt_emit.specs.Turning.{turned_arm, are_below}
use Rattle.lt_emit.specs.declared.builder.Builder.{Builder}
use Rattle.lt_emit.specs.Spending.{Spends}
use Rattle.lt_emit.specs.Emission.{Here, here_of, Finished, site_in, Adds, Emits, GivesWithin, HasPoint}
use Rattle.lt_emit.specs.Known.{IsKnown, IsMarked}
use Rattle.lt_lower.specs.declared.flow.Exits.{Exits as HeldExits}
use Rattle.lt_lower.specs.declared.flow.Entered.{Entered}
use Rattle.lt_lower.specs.Known.{IsKnownPart, AreKnownParts, IsKnownStatement, AreKnownItems, AreKnownCases, IsKnownLocal, AreKnownLocals, IsKnownIfThere}

-- ---- where statements lead

-- the points of the nodes to which a statement leads
abbrev pub exits_in : Finished → HeldExits → Exits
exits_in it x = record {
  next = it.point x.next;
  back = it.point x.back;
  leaves = it.point x.leaves;
  breaks = it.point x.breaks;
  continues = it.point x.continues;
}

-- each of these nodes is there
pub record HasExits (b : Builder) (x : HeldExits) : Type 0 where
  pub next : HasPoint b x.next
  pub back : HasPoint b x.back
  pub leaves : HasPoint b x.leaves
  pub breaks : HasPoint b x.breaks
  pub continues : HasPoint b x.continues

-- Where there is memory, something was added that costs no more than this, and the exits are there that are answered.
pub record GivesExits (before after : Builder) (result : Result HeldExits AllocError) (cost : Cost)
    (Fact : HeldExits → Here → Finished → Type 0) : Type 0 where
  pub adds : IfOk result (λ x. Adds before after (Fact x))
  pub spends : IfOk result (λ x. Spends cost before after)
  pub within : IfOk result (λ x. HasExits after x)

-- ---- objects

-- a piece of code that is about an object
abbrev pub ObjectStands : (CodeSite → Variable → Piece) → (object : ℕ) → (to from : ℕ) → Here → Finished → Type 0
ObjectStands piece object to from here it =
    piece (site_in here it) ((site_in here it).names.variable object) (it.point from) (it.point to)

-- a byte goes to a character
abbrev pub letter : CodeSite → Variable → Scalar → (offset byte : ℕ) → Piece
letter s v t offset byte =
    up_to s 1 (code.part_address s v offset ▸ constant s 1 (content.Number (pos byte))
    ▸ one s.stands (node.Store 0 1 1 (cell_type (program_in s) (Num t)) false))

abbrev pub LettersStand : (object : ℕ) → Scalar → (offset : ℕ) → List ℕ → (to from : ℕ) → Here → Finished → Type 0
LettersStand object t offset bytes = ObjectStands (λ s v. code.letters s v t offset bytes) object

-- a part of an object's first value, and what it costs
abbrev pub part_cost : (List CType → e.StartPart) → Here → Cost
part_cost part here = of_part here.program.functions (part here.types)

abbrev pub parts_cost : List StartPart → Here → Cost
parts_cost all here = of_parts here.program.functions (map (start_part_of here.types) all)

abbrev pub HasPart : (List CType → e.StartPart) → (object : ℕ) → (to from : ℕ) → Here → Finished → Type 0
HasPart part object to from here it =
    IsKnownPart here (part here.types) → ObjectStands (λ s v. code.part s v (part here.types)) object to from here it

abbrev pub PartStands : (object : ℕ) → StartPart → (to from : ℕ) → Here → Finished → Type 0
PartStands object part = HasPart (λ types. start_part_of types part) object

abbrev pub PartsStand : (object : ℕ) → List StartPart → (to from : ℕ) → Here → Finished → Type 0
PartsStand object all to from here it =
    AreKnownParts here (map (start_part_of here.types) all)
    → ObjectStands (λ s v. code.parts s v (map (start_part_of here.types) all)) object to from here it

-- a local object begins, and gets its first value: it is created and sealed
abbrev pub opened : List Function → e.Local → Cost
opened functions it = alone 2 ⊕ of_parts functions (parts_in it.start)

abbrev pub opening_cost : Local → Here → Cost
opening_cost local here = opened here.program.functions (local_of here.types local)

abbrev pub OpeningStands : Local → (to from : ℕ) → Here → Finished → Type 0
OpeningStands local to from here it =
    IsKnownLocal here (local_of here.types local)
    → code.opening (site_in here it) (local_of here.types local) (it.point from) (it.point to)

-- objects begin, one behind the other
abbrev pub openings : CodeSite → List e.Local → Piece
openings s [] = nothing
openings s (first ∷ rest) = code.opening s first ▸ openings s rest

abbrev pub all_opened : List Function → List e.Local → Cost
all_opened functions [] = alone 0
all_opened functions (first ∷ rest) = opened functions first ⊕ all_opened functions rest

abbrev pub openings_cost : List Local → Here → Cost
openings_cost its here = all_opened here.program.functions (map (local_of here.types) its)

abbrev pub OpeningsStand : List Local → (to from : ℕ) → Here → Finished → Type 0
OpeningsStand its to from here it =
    AreKnownLocals here (map (local_of here.types) its)
    → openings (site_in here it) (map (local_of here.types) its) (it.point from) (it.point to)

-- at each exit of what follows a declaration the object ends
abbrev pub EndsStand : (object : ℕ) → (inner outer : HeldExits) → Here → Finished → Type 0
EndsStand object inner outer here it =
    HasEnds (site_in here it).stands ((site_in here it).names.variable object) (exits_in it inner) (exits_in it outer)

-- and so does each of several
abbrev pub all_end : CodeSite → List e.Local → (inner outer : Exits) → Type 0
all_end s [] inner outer = inner ≡ outer
all_end s (first ∷ rest) inner outer =
    (between : Exits) × HasEnds s.stands (s.names.variable first.object) between outer × all_end s rest inner between

abbrev pub AllEnd : List Local → (inner outer : HeldExits) → Here → Finished → Type 0
AllEnd its inner outer here it =
    all_end (site_in here it) (map (local_of here.types) its) (exits_in it inner) (exits_in it outer)

-- ---- what stands before the first `;` of a `for`

abbrev pub start_opens : CodeSite → e.ForStart → Piece
start_opens s e.Nothing = nothing
start_opens s (e.First v) = full_value s dropped v 0
start_opens s (e.Locals its) = openings s its

-- without the ends of its objects
abbrev pub start_opened : List Function → e.ForStart → Cost
start_opened functions e.Nothing = alone 0
start_opened functions (e.First v) = value_cost functions 0 v
start_opened functions (e.Locals its) = all_opened functions its

abbrev pub start_cost : (List CType → e.ForStart) → Here → Cost
start_cost start here = start_opened here.program.functions (start here.types)

-- how many objects it declares
abbrev pub declared_in : ForStart → ℕ
declared_in for_start.Nothing = 0
declared_in (for_start.First v) = 0
declared_in (for_start.Locals its) = length its.items

abbrev pub IsKnownStart : Here → e.ForStart → Type 0
IsKnownStart here e.Nothing = Unit {0}
IsKnownStart here (e.First v) = IsKnown here v
IsKnownStart here (e.Locals its) = AreKnownLocals here its

abbrev pub StartOpens : (List CType → e.ForStart) → (to from : ℕ) → Here → Finished → Type 0
StartOpens start to from here it =
    IsKnownStart here (start here.types) → start_opens (site_in here it) (start here.types) (it.point from) (it.point to)

abbrev pub start_ends : CodeSite → e.ForStart → (inner outer : Exits) → Type 0
start_ends s (e.Locals its) inner outer = all_end s its inner outer
start_ends s start inner outer = inner ≡ outer

abbrev pub StartEnds : (List CType → e.ForStart) → (inner outer : HeldExits) → Here → Finished → Type 0
StartEnds start inner outer here it = start_ends (site_in here it) (start here.types) (exits_in it inner) (exits_in it outer)

-- ---- statements

abbrev pub HasFlow : (List CType → e.Statement) → HeldExits → (from : ℕ) → Here → Finished → Type 0
HasFlow s x from here it =
    IsKnownStatement here (s here.types)
    → code.flows (site_in here it) (s here.types) (it.point from) (exits_in it x)

abbrev pub statement_cost : (List CType → e.Statement) → Here → Cost
statement_cost s here = of_statement here.program.functions (s here.types)

abbrev pub GivesFlow :
    (before after : Builder) → Result ℕ AllocError → (List CType → e.Statement) → HeldExits → Type 0
GivesFlow before after result s x = GivesWithin before after result (statement_cost s) (HasFlow s x)

abbrev pub FlowStands : Statement → HeldExits → (from : ℕ) → Here → Finished → Type 0
FlowStands s = HasFlow (λ types. statement_of types s)

-- an expression that may be left out
abbrev pub maybe_at : List CType → Option (Bor Value) → Option e.Value
maybe_at types None = None
maybe_at types (Some v) = Some (value_of types v.now)

abbrev pub optional_cost : Option (Bor Value) → Here → Cost
optional_cost v here = optional_value here.program.functions (maybe_at here.types v)

abbrev pub optional_test_cost : Option (Bor Value) → Here → Cost
optional_test_cost v here = optional_test here.program.functions (maybe_at here.types v)

abbrev pub OptionalStands : Option (Bor Value) → (to from : ℕ) → Here → Finished → Type 0
OptionalStands v to from here it =
    IsKnownIfThere here (maybe_at here.types v)
    → code.optional_value (site_in here it) (maybe_at here.types v) (it.point from) (it.point to)

abbrev pub OptionalTestStands : Option (Bor Value) → (on off from : ℕ) → Here → Finished → Type 0
OptionalTestStands v on off from here it =
    IsKnownIfThere here (maybe_at here.types v)
    → code.optional_test (site_in here it) (maybe_at here.types v) (it.point from) (it.point on) (it.point off)

-- the turns of a loop
abbrev pub HasTurns : (test step : Option e.Value) → (body : Statement) → HeldExits → (from : ℕ) → Here → Finished → Type 0
HasTurns test step body x from here it =
    IsKnownIfThere here test → IsKnownIfThere here step → IsKnownStatement here (statement_of here.types body)
    → code.loop (site_in here it) test step (code.flows (site_in here it) (statement_of here.types body)) (it.point from)
    (exits_in it x)

abbrev pub turns_cost : (test step : Option (Bor Value)) → (body : Statement) → Here → Cost
turns_cost test step body here =
    turn ⊕ optional_test_cost test here ⊕ optional_cost step here ⊕ statement_cost (λ types. statement_of types body) here

abbrev pub TurnsStand : (test step : Option (Bor Value)) → (body : Statement) → HeldExits → (from : ℕ) → Here → Finished → Type 0
TurnsStand test step body x from here it =
    HasTurns (maybe_at here.types test) (maybe_at here.types step) body x from here it

-- those of a `do`
abbrev pub do_cost : Statement → Value → Here → Cost
do_cost body test here =
    turn ⊕ statement_cost (λ types. statement_of types body) here ⊕ whole_test here.program.functions (value_of here.types test)

abbrev pub DoStands : Statement → Value → HeldExits → (head : ℕ) → Here → Finished → Type 0
DoStands body test x head here it =
    IsKnown here (value_of here.types test) → IsKnownStatement here (statement_of here.types body)
    → code.do_loop (site_in here it) (value_of here.types test) (code.flows (site_in here it) (statement_of here.types body))
    (it.point head) (exits_in it x)

-- ---- items

-- without the ends of their objects
abbrev pub items_opened : List Function → e.Items → Cost
items_opened functions e.no_items = alone 0
items_opened functions (e.a_local it rest) = opened functions it ⊕ items_opened functions rest
items_opened functions (e.a_statement first rest) = of_statement functions first ⊕ items_opened functions rest
items_opened functions (e.a_label first rest) = alone 1 ⊕ items_opened functions rest

abbrev pub opened_cost : List Item → Here → Cost
opened_cost its here = items_opened here.program.functions (items_in here.types its)

abbrev pub items_cost : List Item → Here → Cost
items_cost its here = of_items here.program.functions (items_in here.types its)

-- how many objects they declare
abbrev pub declared_by : Item → ℕ
declared_by (item.Local local) = 1
declared_by (item.Statement s) = 0
declared_by (item.Label m) = 0

abbrev pub declared_along : List Item → ℕ
declared_along [] = 0
declared_along (it ∷ its) = declared_by it + declared_along its

abbrev pub ItemsStand : List Item → HeldExits → (from : ℕ) → Here → Finished → Type 0
ItemsStand its x from here it =
    AreKnownItems here (items_in here.types its)
    → code.items (site_in here it) (items_in here.types its) (it.point from) (exits_in it x)

-- what an item does, where the items behind it stand
abbrev pub ItemStands : Item → HeldExits → (to from : ℕ) → Here → Finished → Type 0
ItemStands (item.Local local) x to = OpeningStands local to
ItemStands (item.Statement s) x to = FlowStands s (record x { next = to })
ItemStands (item.Label m) x to = λ from here it.
    IsMarked here (mark_of here.types m) → mark (site_in here it) (mark_of here.types m) (it.point from) (it.point to)

abbrev pub item_cost : Item → Here → Cost
item_cost (item.Local local) = opening_cost local
item_cost (item.Statement s) = statement_cost (λ types. statement_of types s)
item_cost (item.Label m) = λ here. alone 1

-- the exits of the items behind an item
abbrev pub EndsBehind : Item → (inner outer : HeldExits) → Here → Finished → Type 0
EndsBehind (item.Local local) inner outer here it = EndsStand local.object inner outer here it
EndsBehind (item.Statement s) inner outer here it = inner ≡ outer
EndsBehind (item.Label m) inner outer here it = inner ≡ outer

-- the exits of the items from each on
abbrev pub EndsAlong : List Item → List HeldExits → Here → Finished → Type 0
EndsAlong its exits here it =
    (k : ℕ) (item : Item) (outer inner : HeldExits) → slice_get its k ≡ Some item → slice_get exits k ≡ Some outer
    → slice_get exits (suc k) ≡ Some inner → EndsBehind item inner outer here it

-- Where there is memory, the ends of the objects that items declare were added: the exits of the items from each on.
pub record GivesAlong (before after : Builder) (result : Result (Vec HeldExits) AllocError) (its : List Item) (x : HeldExits)
    : Type 0 where
  pub adds : IfOk result (λ all. Adds before after (EndsAlong its all.items))
  pub spends : IfOk result (λ all. Spends (alone (5 * declared_along its)) before after)
  pub first : IfOk result (λ all. slice_get all.items 0 ≡ Some x)
  pub each : IfOk result (λ all. length all.items ≡ length its + 1)
  pub within : IfOk result (λ all. (k : ℕ) (y : HeldExits) → slice_get all.items k ≡ Some y → HasExits after y)
  -- where no object is declared, they are all the same
  pub unchanged : declared_along its ≡ 0 → IfOk result (λ all. slice_get all.items (length its) ≡ Some x)

-- ---- statements of a `switch`

-- their code, which begins at a node, with the points of their labels
abbrev pub HasCases : List Case → HeldExits → (from : ℕ) → List Arm → (default : Option ℕ) → Here → Finished → Type 0
HasCases its x from arms default here it =
    AreKnownCases here (cases_in here.types its)
    → (entries : List Entry)
    × code.cases (site_in here it) (cases_in here.types its) entries (it.point from) (exits_in it x)
    × (arms_of entries ≡ map (turned_arm it.point) arms)
    × ((to : ℕ) → default_of entries (it.point to) ≡ it.point (unwrap_or default to))

abbrev pub cases_cost : List Case → Here → Cost
cases_cost its here = of_cases here.program.functions (cases_in here.types its)

abbrev pub CasesStand : List Case → HeldExits → Entered → Here → Finished → Type 0
CasesStand its x all = HasCases its x all.from all.arms.items all.default

-- all that arms lead to is there
abbrev pub HasArms : Builder → List Arm → Type 0
HasArms b arms = are_below (length b.nodes.items) (map (λ arm. arm.next) arms) ≡ true

-- Where there is memory, the statements of a `switch` were added, and all that their labels lead to is there.
pub record GivesCases (before after : Builder) (result : Result Entered AllocError) (its : List Case) (x : HeldExits)
    : Type 0 where
  pub adds : IfOk result (λ all. Adds before after (CasesStand its x all))
  pub spends : IfOk result (λ all. Spends (cases_cost its (here_of before)) before after)
  pub within : IfOk result (λ all. HasPoint after all.from)
  pub arms : IfOk result (λ all. HasArms after all.arms.items)
  pub default : IfOk result (λ all. IfSome all.default (HasPoint after))

-- the arms of labels that lead to a node, and those behind
abbrev pub arms_at : List Label → (point : ℕ) → List Arm → List Arm
arms_at [] point arms = arms
arms_at (label.Case z ∷ labels) point arms = record { value = z; next = point } ∷ arms_at labels point arms
arms_at (label.Default ∷ labels) point arms = arms_at labels point arms

abbrev pub default_at : List Label → (point : ℕ) → Option ℕ → Option ℕ
default_at [] point default = default
default_at (label.Case z ∷ labels) point default = default_at labels point default
default_at (label.Default ∷ labels) point default = Some point

-- labels were put before others; the arms stand in turned order
pub record PutsLabels (before after : Entered) (labels : List Label) : Type 0 where
  pub from : after.from ≡ before.from
  pub arms : reverse after.arms.items ≡ arms_at labels before.from (reverse before.arms.items)
  pub default : after.default ≡ default_at labels before.from before.default

-- a statement was put before others, with its labels
pub record PutsCase (before after : Builder) (entered : Entered) (all : Entered) (it : Case) (x : HeldExits) : Type 0 where
  pub code : Emits before after all.from (FlowStands it.statement (record x { next = entered.from }) all.from)
  pub spends : Spends (statement_cost (λ types. statement_of types it.statement) (here_of before)) before after
  pub arms : reverse all.arms.items ≡ arms_at it.labels.items all.from (reverse entered.arms.items)
  pub default : all.default ≡ default_at it.labels.items all.from entered.default

-- an entry of a map by value, as an arm
abbrev pub entry_arm : ℤ × ℕ → Arm
entry_arm entry = record { value = entry.0; next = entry.1 }

-- In a map by value each number finds what it finds first among arms, and no more entries are in it.
pub record FindsArms (nodes : BTreeMap ℤ ℕ) (arms : List Arm) : Type 0 where
  pub finds : (default : ℕ) (z : ℤ) → unwrap_or (get int_cmp nodes z) default ≡ arm_of arms default z
  pub fits : btree_map_len nodes ≤ length arms

-- the choice of a `switch`
abbrev pub ChoiceStands : List Arm → (default from : ℕ) → Here → Finished → Type 0
ChoiceStands arms default from here it =
    (table : List Arm) × (slice_get it.nodes (it.point from)
    ≡ Some (node.Switch 0 (map (turned_arm it.point) arms) table (it.point default)))
