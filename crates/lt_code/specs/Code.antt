-- Where the code of expressions stands in a graph. The code of an expression goes from one program point to another,
-- and leaves its value in a
-- register, and its footprint there too; the registers below stay, and those above have no footprints.
use Rattle.std.specs.Prelude.{◌≡◌, ℕ, suc, pos, ◌+◌, ◌<◌, List, [], ◌∷◌, map, Bool, true, false, Option, Some, None}
use Rattle.std.specs.Prelude.{if◌then◌else◌, slice_get, ◌⊎◌}
use Rattle.std.specs.Str.{bytes_eq}
use Rattle.lt_model.specs.declared.cell.Content.{Content}
use Rattle.lt_model.specs.declared.cell.Content.TheVariants as content
use Rattle.lt_model.specs.declared.cell.Shape.{Shape}
use Rattle.lt_model.specs.declared.operator.Op.{Op}
use Rattle.lt_model.specs.declared.operator.Op.TheVariants as O
use Rattle.lt_model.specs.declared.scalar.Scalar.{Scalar}
use Rattle.lt_tree.specs.declared.expression.LogicalOp.{LogicalOp}
use Rattle.lt_tree.specs.declared.expression.LogicalOp.TheVariants as logical
use Rattle.lt_tree.specs.Typing.Types.{CType, is_struct, is_void}
use Rattle.lt_tree.specs.Typing.Entities.{Function}
use Rattle.lt_tree.specs.Typing.TypedTree as e
use Rattle.lt_tree.specs.Typing.TypedTree.{Value, Values, Place, Conversion, Marks, Mark, Side, on_left, on_right, When}
use Rattle.lt_tree.specs.Typing.TypedTree.{type_of, no_values, a_value}
use Rattle.lt_tree.specs.Typing.Programs.{Program}
use Rattle.lt_ir.specs.declared.code.LabelInfo.{LabelInfo}
use Rattle.lt_ir.specs.declared.node.Access.{Access}
use Rattle.lt_ir.specs.declared.node.Access.TheVariants as access
use Rattle.lt_ir.specs.declared.node.Movement.TheVariants.{Elements, Member}
use Rattle.lt_ir.specs.declared.node.Parts.{Parts}
use Rattle.lt_ir.specs.declared.node.Parts.TheVariants.{Unsequenced, Sequenced, Settled, Read, Target}
use Rattle.lt_ir.specs.declared.node.Node.TheVariants as node
use Rattle.lt_ir.specs.declared.pure.Pure.{Pure}
use Rattle.lt_ir.specs.declared.pure.How.TheVariants as how
use Rattle.lt_ir.specs.Pure.{Fixed}
use Rattle.lt_ir.specs.PureView.{pure_of}
use Rattle.lt_ir.specs.Evaluation.{of_truth}
use Rattle.lt_ir.specs.Graph.{shape_at}
use Rattle.lt_meaning.specs.Expressions.{Fate, wanted, unconverted, dropped_branch, untaken, takes, inside, of_branch}
use Rattle.lt_meaning.specs.Expressions.{of_last, fate_of_part, cell_type, shape, scalar_in, all_ones}
use Rattle.lt_meaning.specs.Runs.{stops}
use Rattle.lt_meaning.specs.Clashes.{cannot_clash, is_of}
use Rattle.lt_code.specs.Pieces.{Stands, Piece, one, nothing, ◌▸◌, when, either, beside, Test, behind, leads, both_ways}
use Rattle.lt_code.specs.Pieces.{swapped}
use Rattle.lt_code.specs.Predicates.{Names, pure_in, names_bound, pures_bound}

-- what is known where the code of a function stands
pub record Site : Type 1 where
  pub names : Names
  pub locals : List Shape
  pub structs : List Shape
  pub labels : List LabelInfo
  -- the names of functions without a body that have values
  pub stubs : List (List ℕ)
  pub registers : ℕ
  pub stands : Stands
  -- whether footprints are tracked
  pub tracks : Bool

abbrev pub program_in : Site → Program
program_in s = s.names.program

-- ---- nodes

-- a piece that uses registers up to this one
abbrev pub up_to : Site → ℕ → Piece → Piece
up_to s r piece = beside (r < s.registers) piece

abbrev pub clash : Site → Parts → Piece
clash s parts = when s.tracks (one s.stands (node.Clash parts))

abbrev pub constant : Site → (r : ℕ) → Content → Piece
constant s r c = one s.stands (node.Constant r c false)

-- another content, with the footprint that was there
abbrev pub replaced : Site → (r : ℕ) → Content → Piece
replaced s r c = one s.stands (node.Constant r c true)

abbrev pub integer : Site → (to from : ℕ) → Scalar → Piece
integer s to from k = one s.stands (node.Convert to from (how.ToInteger k))

-- what one register has goes to another
abbrev pub content_moved : Site → (to from : ℕ) → Piece
content_moved s to from = one s.stands (node.Convert to from how.AsItIs)

abbrev pub pointer_in : Side → ℕ → ℕ → ℕ
pointer_in on_left left right = left
pointer_in on_right left right = right

abbrev pub count_in : Side → ℕ → ℕ → ℕ
count_in on_left left right = right
count_in on_right left right = left

-- a pointer and a number in r and the register behind it
abbrev pub moved_by : Site → (r : ℕ) → Op → ℕ → Side → Piece
moved_by s r op size side =
    one s.stands (node.Move r (pointer_in side r (r + 1)) (Elements (count_in side r (r + 1)) op size))

-- ---- accesses

-- the place of a struct's shape in the function's table
abbrev pub IsShapeOf : Site → CType → ℕ → Type 0
IsShapeOf s t k = shape_at s.structs k ≡ shape (program_in s) t

abbrev pub IsAccessTo : (is_a_struct : Bool) → Site → CType → Access → Type 0
IsAccessTo true s t (access.Struct k) = IsShapeOf s t k
IsAccessTo true s t (access.Scalar ty) = ⊥
IsAccessTo false s t it = it ≡ access.Scalar (cell_type (program_in s) t)

-- something that is done with what an access of a type is to
abbrev pub with_access : Site → CType → (Access → Parts) → Piece
with_access s t parts from to =
    (it : Access) × IsAccessTo (is_struct t) s t it × s.stands from (node.Clash (parts it) to)

-- what is to be written at the address in a register is no pending write
abbrev pub target : Site → CType → (r : ℕ) → Piece
target s t r = when s.tracks (with_access s t (Target r))

abbrev pub scalar_target : Site → CType → (r : ℕ) → Piece
scalar_target s t r = clash s (Target r (access.Scalar (cell_type (program_in s) t)))

-- the cells of a struct are read where it is copied or passed on
abbrev pub reads : Site → CType → (r : ℕ) → Piece
reads s t r = when (is_struct t) (when s.tracks (with_access s t (Read r)))

abbrev pub struct_copied : Site → CType → (place from : ℕ) → Piece
struct_copied s t place value from to = (k : ℕ) × IsShapeOf s t k
    × s.stands from (node.Copy place value k s.tracks to)

abbrev pub scalar_stored : Site → CType → (place value gives : ℕ) → Piece
scalar_stored s t place value gives = one s.stands (node.Store place value gives (cell_type (program_in s) t) s.tracks)

-- a value goes to the address in a register, and is there then
abbrev pub assigned : Site → CType → (place value : ℕ) → Piece
assigned s t place value = either (is_struct t) (struct_copied s t place value) (scalar_stored s t place value value)

-- ---- conversions

abbrev pub conversion : Site → Conversion → CType → (r : ℕ) → Piece
conversion s e.to_integer t r = integer s r r (scalar_in t)
conversion s e.to_truth t r = one s.stands (node.Convert r r how.ToTruth)
conversion s e.to_null t r = replaced s r (content.Address None)
conversion s e.to_pointer t r = one s.stands (node.Convert r r how.ToPointer)
conversion s e.to_void t r = replaced s r content.Unset

abbrev pub conversion_here : Site → Fate → Conversion → CType → (r : ℕ) → Piece
conversion_here s unconverted it t r = nothing
conversion_here s dropped_branch it t r = nothing
conversion_here s fate it t r = conversion s it t r

-- the outermost conversion of an expression, where it was left
abbrev pub late : Site → Value → (r : ℕ) → Piece
late s (e.Convert it t v) r = conversion s it t r
late s v r = nothing

-- ---- marks

abbrev pub IsLabel : Site → ℕ → (id : ℕ) → List (List ℕ) → Type 0
IsLabel s k id names = (info : LabelInfo) × (slice_get s.labels k ≡ Some info) × (info.id ≡ id) × (info.bound ≡ names)

abbrev pub mark : Site → Mark → Piece
mark s (e.mark predicate id bound) from to =
    (k : ℕ) × (q : Pure) × (qs : List Pure) × IsLabel s k id (names_bound bound)
    × (pure_of q ≡ pure_in s.names predicate) × (map pure_of qs ≡ pures_bound s.names bound)
    × s.stands from (node.Mark k q qs to)

abbrev pub marks : Site → Marks → Piece
marks s e.no_marks = nothing
marks s (e.a_mark first rest) = mark s first ▸ marks s rest

-- a mark that is true, or isn't
abbrev pub fixed_mark : Site → (id : ℕ) → Bool → Piece
fixed_mark s id b from to =
    (k : ℕ) × (q : Pure) × IsLabel s k id [] × (pure_of q ≡ Fixed (of_truth b)) × s.stands from (node.Mark k q [] to)

-- ---- calls

abbrev pub count_of : Values → ℕ
count_of no_values = 0
count_of (a_value v vs) = suc (count_of vs)

-- the place of a function among those with a body
abbrev pub number_among : ℕ → List ℕ → List Function → Option ℕ
number_among k name [] = None
number_among k name (f ∷ fs) = if bytes_eq f.name name then Some k else number_among (suc k) name fs

-- the values of arguments, from register r on, each converted and there
abbrev pub passed : Site → Values → (r : ℕ) → Piece
passed s no_values r = nothing
passed s (a_value v vs) r = late s v r ▸ one s.stands (node.Convert r r how.ToValue) ▸ passed s vs (r + 1)

abbrev pub taken_into : Bool → ℕ → Option ℕ
taken_into true r = Some r
taken_into false r = None

-- the next value for a function without a body, by its place in the graph's table
abbrev pub next_for : Stands → (stubs : List (List ℕ)) → List ℕ → (r : ℕ) → Piece
next_for P stubs name r from to = (k : ℕ) × (slice_get stubs k ≡ Some name) × P from (node.Stub k r to)

-- the value of a function without a body: void has none, and others have it from the input
abbrev pub stub : Stands → (stubs : List (List ℕ)) → List ℕ → CType → (r : ℕ) → Piece
stub P stubs name t r = either (is_void t) (one P (node.Constant r content.Unset true)) (next_for P stubs name r)

-- the call itself, behind its arguments and its tick
abbrev pub call_by_number : Stands → (stubs : List (List ℕ)) → (is_taken : Bool) → List ℕ → CType → (r n : ℕ) →
    Option ℕ → Piece
call_by_number P stubs is_taken name t r n None =
    either (stops name) (λ from to. P from node.Stop) (when is_taken (stub P stubs name t r))
call_by_number P stubs is_taken name t r n (Some k) = one P (node.Call k (taken_into is_taken r) r n)

abbrev pub call : Stands → (stubs : List (List ℕ)) → List Function → (is_taken : Bool) → List ℕ → CType → (r n : ℕ) →
    Piece
call P stubs functions is_taken name t r n =
    call_by_number P stubs is_taken name t r n (number_among 0 name functions)

-- ---- tests

abbrev pub truth : Site → (r : ℕ) → Bool → Piece
truth s r b = replaced s r (of_truth b)

-- the value of a test
abbrev pub as_value : Site → (r : ℕ) → Test → Piece
as_value s r test = both_ways test (truth s r true) (truth s r false)

-- the right operand of `&&` and `||`, behind the sequence point
abbrev pub second : Site → (r : ℕ) → Test → Test
second s r right =
    leads (behind (clash s (Settled r)) right) (clash s (Sequenced r (r + 1))) (clash s (Sequenced r (r + 1)))

abbrev pub connected : Site → LogicalOp → (r : ℕ) → (left right : Test) → Test
connected s logical.And r left right from on off =
    (r + 1 < s.registers) × (m1 : ℕ) × (m2 : ℕ) × left from m1 m2 × second s r right m1 on off
    × clash s (Settled r) m2 off
connected s logical.Or r left right from on off =
    (r + 1 < s.registers) × (m1 : ℕ) × (m2 : ℕ) × left from m1 m2 × clash s (Settled r) m1 on
    × second s r right m2 on off

-- `pc_decide`
abbrev pub decided : Site → (when_true when_false : ℕ) → Test → Test
decided s when_true when_false operand =
    leads operand (fixed_mark s when_true true ▸ fixed_mark s when_false false) (fixed_mark s when_true false
    ▸ fixed_mark s when_false true)

-- ---- load, modify, store: the lvalue in r, what lay there behind it, then the right operand, then what is made of
-- both

abbrev pub loaded : Site → CType → (place : Piece) → (r : ℕ) → Piece
loaded s t place r = place ▸ one s.stands (node.Load (r + 1) r (cell_type (program_in s) t) s.tracks)

abbrev pub load_modify_store : Site → CType → (r : ℕ) → (place operand modify : Piece) → (gives : ℕ) → Piece
load_modify_store s t r place operand modify gives =
    up_to s (r + 3) (loaded s t place r ▸ operand ▸ scalar_target s t r ▸ modify ▸ scalar_stored s t r (r + 3) gives)

-- the right operand of `++` and `--`
abbrev pub number_one : Site → (r : ℕ) → Piece
number_one s r = constant s (r + 2) (content.Number (pos 1))

-- in the type of the operation, and back in the type of the lvalue
abbrev pub computed : Site → CType → Op → Scalar → (r : ℕ) → Piece
computed s t op k r =
    integer s (r + 3) (r + 1) k ▸ one s.stands (node.Apply (r + 3) (r + 3) (r + 2) op k)
    ▸ integer s (r + 3) (r + 3) (scalar_in t)

abbrev pub stepped : Site → Op → ℕ → (r : ℕ) → Piece
stepped s op size r = one s.stands (node.Move (r + 3) (r + 1) (Elements (r + 2) op size))

abbrev pub kept_in : When → ℕ → ℕ → ℕ
kept_in e.before old new = old
kept_in e.after old new = new

-- `++` and `--`
abbrev pub stepping : Site → CType → (r : ℕ) → (place modify : Piece) → When → Piece
stepping s t r place modify gives =
    load_modify_store s t r place (number_one s r) modify (kept_in gives (r + 1) (r + 3))

-- ---- expressions

-- the code of an expression as a value, which goes to register r, and as a test
pub record Codes : Type 1 where
  pub value : Fate → (r : ℕ) → Piece
  pub test : (r : ℕ) → Test

-- as a test: its value, and a branch
abbrev pub plain : Site → (Fate → (r : ℕ) → Piece) → Codes
plain s value =
    record { value = value; test = λ r. behind (value wanted r) (λ from on off. s.stands from (node.Branch r on off)) }

-- two operands in r and the register behind it; the first has the footprint of both
abbrev pub operands : Site → (r : ℕ) → (left right : Codes) → Piece
operands s r left right = left.value wanted r ▸ right.value wanted (r + 1) ▸ clash s (Unsequenced r (r + 1))

-- an operator on two operands
abbrev pub binary : Site → (left right : Codes) → ((r : ℕ) → Piece) → Codes
binary s left right operator = plain s (λ fate r. up_to s (r + 1) (operands s r left right ▸ operator r))

-- a branch of `?:`
abbrev pub branch : Site → Fate → (r : ℕ) → Codes → Piece
branch s fate r arm = clash s (Settled r) ▸ arm.value (of_branch fate) (r + 1)

abbrev pub chosen : Site → Fate → (r : ℕ) → (test left right : Codes) → Piece
chosen s fate r test left right = both_ways (test.test r) (branch s fate r left) (branch s fate r right)

abbrev mutual
  pub codes_of : Site → Value → Codes
  codes_of s (e.Constant t z) = plain s (λ fate r. up_to s r (constant s r (content.Number z)))
  codes_of s (e.Load t p) =
      plain s (λ fate r. up_to s r (place_of s p r
      ▸ one s.stands (node.Load r r (cell_type (program_in s) t) s.tracks)))
  codes_of s (e.Whole t p) = plain s (λ fate r. place_of s p r)
  codes_of s (e.Decay t p) = plain s (λ fate r. place_of s p r)
  codes_of s (e.AddressOf t p) = plain s (λ fate r. place_of s p r)
  codes_of s (e.Convert e.to_void t v) =
      plain s (λ fate r. up_to s r ((codes_of s v).value untaken r ▸ replaced s r content.Unset))
  codes_of s (e.Convert it t v) =
      plain s (λ fate r. up_to s r ((codes_of s v).value (inside fate) r ▸ conversion_here s fate it t r))
  codes_of s (e.Minus t v) =
      plain s (λ fate r. up_to s (r + 1) ((codes_of s v).value wanted r ▸ constant s (r + 1) (content.Number (pos 0))
      ▸ one s.stands (node.Apply r (r + 1) r O.Sub (scalar_in t))))
  codes_of s (e.Complement t v) =
      plain s (λ fate r. up_to s (r + 1) ((codes_of s v).value wanted r
      ▸ constant s (r + 1) (all_ones (program_in s) t)
      ▸ one s.stands (node.Apply r r (r + 1) O.Xor (scalar_in t))))
  codes_of s (e.Not t v) = record {
    value = λ fate r. up_to s r (both_ways ((codes_of s v).test r) (truth s r false) (truth s r true));
    test = λ r. swapped ((codes_of s v).test r);
  }
  codes_of s (e.Arithmetic t op k a b) =
      binary s (codes_of s a) (codes_of s b) (λ r. one s.stands (node.Apply r r (r + 1) op k))
  codes_of s (e.Move t op size side a b) = binary s (codes_of s a) (codes_of s b) (λ r. moved_by s r op size side)
  codes_of s (e.Distance t size a b) =
      binary s (codes_of s a) (codes_of s b) (λ r. one s.stands (node.Subtract r r (r + 1) size))
  codes_of s (e.Compare t op a b) =
      binary s (codes_of s a) (codes_of s b) (λ r. one s.stands (node.Compare r r (r + 1) op))
  codes_of s (e.Logical t op a b) = record {
    value = λ fate r. up_to s r (as_value s r (connected s op r ((codes_of s a).test r) ((codes_of s b).test (r + 1))));
    test = λ r. connected s op r ((codes_of s a).test r) ((codes_of s b).test (r + 1));
  }
  codes_of s (e.Conditional t test a b) =
      plain s (λ fate r. up_to s (r + 1) (chosen s fate r (codes_of s test) (codes_of s a) (codes_of s b)
      ▸ clash s (Sequenced r (r + 1)) ▸ content_moved s r (r + 1)))
  codes_of s (e.Assign t p v) =
      plain s (λ fate r. up_to s (r + 1) (place_of s p r ▸ (codes_of s v).value unconverted (r + 1)
      ▸ reads s t (r + 1) ▸ clash s (Unsequenced r (r + 1)) ▸ target s t r ▸ late s v (r + 1)
      ▸ assigned s t r (r + 1)))
  codes_of s (e.Update t op k p v) =
      plain s (λ fate r. load_modify_store s t r (place_of s p r) ((codes_of s v).value wanted (r + 2)
      ▸ clash s (Unsequenced r (r + 2))) (computed s t op k r) (r + 3))
  codes_of s (e.UpdatePointer t op size p v) =
      plain s (λ fate r. load_modify_store s t r (place_of s p r) ((codes_of s v).value wanted (r + 2)
      ▸ clash s (Unsequenced r (r + 2))) (stepped s op size r) (r + 3))
  codes_of s (e.Step t when op k p) =
      plain s (λ fate r. stepping s t r (place_of s p r) (computed s t op k r) when)
  codes_of s (e.StepPointer t when op size p) =
      plain s (λ fate r. stepping s t r (place_of s p r) (stepped s op size r) when)
  codes_of s (e.Call t name vs) =
      plain s (λ fate r. up_to s r (arguments_of s vs r ▸ clash s (Settled r) ▸ passed s vs r ▸ one s.stands node.Tick
      ▸ call s.stands s.stubs (program_in s).functions (takes fate) name t r (count_of vs)))
  codes_of s (e.Comma t no_values) = plain s (λ fate r. up_to s r (constant s r content.Unset))
  codes_of s (e.Comma t (a_value v vs)) =
      plain s (λ fate r. up_to s r (constant s r content.Unset
      ▸ parts_of s (of_last fate) ((codes_of s v).value (fate_of_part (of_last fate) vs)) vs r))
  codes_of s (e.Marked t ms v) = record {
    value = λ fate r. marks s ms ▸ (codes_of s v).value (of_last fate) r;
    test = λ r. behind (marks s ms) ((codes_of s v).test r);
  }
  codes_of s (e.Decide t v when_true when_false) = record {
    value = λ fate r. up_to s r (as_value s r (decided s when_true when_false ((codes_of s v).test r)));
    test = λ r. decided s when_true when_false ((codes_of s v).test r);
  }
  codes_of s (e.After t v id) = plain s (λ fate r. (codes_of s v).value (of_last fate) r ▸ fixed_mark s id true)

  -- the code of an lvalue, whose address goes to register r
  pub place_of : Site → Place → (r : ℕ) → Piece
  place_of s (e.Object t n) r = up_to s r (one s.stands (node.Address r (s.names.variable n)))
  place_of s (e.Pointed t v) r =
      up_to s r ((codes_of s v).value wanted r ▸ one s.stands (node.Convert r r how.ToPointer))
  place_of s (e.Element t size side a b) r =
      up_to s (r + 1) (operands s r (codes_of s a) (codes_of s b) ▸ moved_by s r O.Add size side)
  place_of s (e.Part t offset p) r = up_to s r (place_of s p r ▸ one s.stands (node.Move r r (Member offset)))
  place_of s (e.Held t v) r =
      up_to s r ((codes_of s v).value wanted r ▸ one s.stands (node.Convert r r how.ToPointer))

  -- arguments, from register r on
  pub arguments_of : Site → Values → (r : ℕ) → Piece
  arguments_of s no_values r = up_to s r (constant s r content.Unset)
  arguments_of s (a_value v vs) r =
      up_to s (r + 1) ((codes_of s v).value unconverted r ▸ arguments_of s vs (r + 1) ▸ reads s (type_of v) r
      ▸ clash s (Unsequenced r (r + 1)))

  -- the parts of a comma expression; the footprint of those before is in register r
  pub parts_of : Site → Fate → (first : (r : ℕ) → Piece) → Values → (r : ℕ) → Piece
  parts_of s fate first no_values r =
      up_to s (r + 1) (first (r + 1) ▸ clash s (Sequenced r (r + 1)) ▸ content_moved s r (r + 1))
  parts_of s fate first (a_value next rest) r =
      up_to s (r + 1) (first (r + 1) ▸ clash s (Settled (r + 1)) ▸ clash s (Sequenced r (r + 1))
      ▸ parts_of s fate ((codes_of s next).value (fate_of_part fate rest)) rest r)

abbrev pub value_code : Site → Fate → Value → (r : ℕ) → Piece
value_code s fate v = (codes_of s v).value fate

abbrev pub test_code : Site → Value → (r : ℕ) → Test
test_code s v = (codes_of s v).test

-- ---- full expressions

abbrev pub tracking_at : Bool → Site → Site
tracking_at tracks s = record s { tracks = tracks }

-- Where nothing can clash in a full expression, its code needn't track footprints.
abbrev pub full_value : Site → Fate → Value → (r : ℕ) → Piece
full_value s fate v r from to =
    value_code (tracking_at true s) fate v r from to
    ⊎ ((is_of cannot_clash v ≡ true) × value_code (tracking_at false s) fate v r from to)

abbrev pub full_test : Site → Value → (r : ℕ) → Test
full_test s v r from on off =
    test_code (tracking_at true s) v r from on off
    ⊎ ((is_of cannot_clash v ≡ true) × test_code (tracking_at false s) v r from on off)
