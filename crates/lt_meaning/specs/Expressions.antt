-- What expressions do, C11 6.5: operands from left to right, then the clash of unsequenced parts, then what the
-- operator itself may meet.
use Rattle.std.specs.Prelude.{ℤ, ℕ, pos, negsuc, List, [], ◌∷◌, Bool, true, false, not, ◌&&◌, Option, Some, None}
use Rattle.std.specs.Prelude.{if◌then◌else◌}
use Rattle.lt_model.specs.declared.cell.Address.{Address}
use Rattle.lt_model.specs.declared.cell.CellType.{CellType}
use Rattle.lt_model.specs.declared.cell.CellType.TheVariants as cell
use Rattle.lt_model.specs.declared.cell.Content.{Content}
use Rattle.lt_model.specs.declared.cell.Content.TheVariants as content
use Rattle.lt_model.specs.declared.cell.Shape.{Shape}
use Rattle.lt_model.specs.declared.cell.ShapeCell.{ShapeCell}
use Rattle.lt_model.specs.declared.scalar.Scalar.{Scalar}
use Rattle.lt_model.specs.declared.scalar.Scalar.TheVariants as S
use Rattle.lt_model.specs.declared.operator.Op.TheVariants as O
use Rattle.lt_model.specs.Scalar.{convert_of}
use Rattle.lt_model.specs.State.{Footprint, Valued, untouched, Gives, Binding}
use Rattle.lt_tree.specs.declared.expression.LogicalOp.{LogicalOp}
use Rattle.lt_tree.specs.declared.expression.LogicalOp.TheVariants as logical
use Rattle.lt_tree.specs.Typing.Types.{CType, Num, Qualified, scalar_of, is_struct}
use Rattle.lt_tree.specs.Typing.Shapes.{shape_of, pointer_type}
use Rattle.lt_tree.specs.Typing.Programs.{Program}
use Rattle.lt_tree.specs.Typing.TypedTree as e
use Rattle.lt_tree.specs.Typing.TypedTree.{Value, Values, Place, Marks, Mark, Bindings, Side, on_left, on_right, When}
use Rattle.lt_tree.specs.Typing.TypedTree.{Conversion, type_of, no_values, a_value}
use Rattle.lt_ir.specs.declared.variable.Variable.{Variable}
use Rattle.lt_ir.specs.Running.{At, Step, gives, ◌>>=◌, place, marks, quietly, one_more, marked_with}
use Rattle.lt_ir.specs.Evaluation.{valued, number_in, address_in, used, truth_in, of_truth, grown, settled_in, apart}
use Rattle.lt_ir.specs.Evaluation.{aimed, one_cell, loaded, stored, copied, with_reads, moved, member_at, applied}
use Rattle.lt_ir.specs.Evaluation.{counted, compared}

-- what calling a function of this name on these values gives; the flag says whether its value is taken
abbrev pub Calls : Type 0
Calls = List ℕ → CType → List Content → (is_taken : Bool) → Step Content

-- What becomes of an expression's value. A call gives none where it is a whole expression statement, or is cast to
-- `void`; a value that is dropped elsewhere is taken all the same, but not used.
pub data Fate : Type 0 where
  wanted : Fate
  -- wanted, but its outermost conversion is made by whoever wants it
  unconverted : Fate
  -- left of a comma, and in the head of a `for`
  dropped : Fate
  -- in a branch of a `?:` whose value is dropped: its outermost conversion isn't made
  dropped_branch : Fate
  untaken : Fate

-- what is known where an expression stands
pub record Around : Type 0 where
  pub program : Program
  -- how this function names the objects of the program
  pub variable : ℕ → Variable
  pub calls : Calls
  -- whether footprints are tracked
  pub tracks : Bool

-- with footprints tracked, or not
abbrev pub tracking : Bool → Around → Around
tracking tracks here = record here { tracks = tracks }

-- ---- types

-- how memory names a scalar type
abbrev pub cell_type : Program → CType → CellType
cell_type program (Num s) = cell.Num s
cell_type program (Qualified q t) = cell_type program t
cell_type program t = pointer_type program.types t

abbrev pub shape : Program → CType → Shape
shape program t = shape_of program.model program.structs program.types t

-- the cells of a scalar or a struct of this type
abbrev pub cells_of : Program → CType → List ShapeCell
cells_of program t = if is_struct t then (shape program t).cells else one_cell (cell_type program t)

abbrev pub scalar_in : CType → Scalar
scalar_in t = elim (scalar_of t) [ None ↦ S.Int | Some s ↦ s ]

-- a number in the type
abbrev pub in_type : Program → CType → ℤ → Content
in_type program t z = content.Number (convert_of program.model (scalar_in t) z)

-- the number whose bits are all 1
abbrev pub all_ones : Program → CType → Content
all_ones program t = in_type program t (negsuc 0)

-- ---- parts of expressions, over what their own parts do

-- A struct that is copied or passed on is read; the reads belong to the part that gives it.
abbrev pub taken : Around → CType → Valued Content → Step Footprint
taken here t x = if is_struct t then with_reads here.tracks (cells_of here.program t) x else gives x.footprint

abbrev pub converted : Program → Conversion → CType → Content → Step Content
converted program e.to_integer t c =
    number_in c >>= (λ z. gives (in_type program t z))
converted program e.to_truth t c = truth_in c >>= (λ b. gives (of_truth b))
converted program e.to_null t c = gives (content.Address None)
converted program e.to_pointer t c = address_in c >>= (λ a. gives (content.Address a))
converted program e.to_void t c = gives content.Unset

-- ---- what becomes of values

abbrev pub takes : Fate → Bool
takes untaken = false
takes fate = true

-- of the operand of a conversion
abbrev pub inside : Fate → Fate
inside dropped_branch = dropped
inside fate = wanted

-- of a branch of `?:`
abbrev pub of_branch : Fate → Fate
of_branch wanted = wanted
of_branch unconverted = wanted
of_branch fate = dropped_branch

-- of the last part of a comma expression, and of what stands behind marks
abbrev pub of_last : Fate → Fate
of_last wanted = wanted
of_last unconverted = wanted
of_last fate = dropped

-- a conversion where it stands, unless that is left to others
abbrev pub converted_here : Fate → Program → Conversion → CType → Content → Step Content
converted_here unconverted program how t c = gives c
converted_here dropped_branch program how t c = gives c
converted_here fate program how t c = converted program how t c

-- the outermost conversion of an expression, where it was left
abbrev pub late : Program → Value → Content → Step Content
late program (e.Convert how t v) c = converted program how t c
late program v c = gives c

-- the pointer and the number of two operands
abbrev pub pointer_of : Side → Content → Content → Content
pointer_of on_left a b = a
pointer_of on_right a b = b

abbrev pub count_of : Side → Content → Content → Content
count_of on_left a b = b
count_of on_right a b = a

-- the left operand of `&&` and `||` decides whether the right one is evaluated
abbrev pub decides : LogicalOp → Bool → Bool
decides logical.And b = not b
decides logical.Or b = b

-- how the value of an expression is given in `++` and `--`
abbrev pub kept : When → Content → Content → Content
kept e.before old new = old
kept e.after old new = new

-- the right operand of `&&` and `||`
abbrev pub second_truth : (tracks : Bool) → Footprint → Step (Valued Content) → Step (Valued Content)
second_truth tracks left right = do
  y ← right
  b ← truth_in y.value
  gives (valued (of_truth b) (grown tracks left y.footprint))

-- a value goes to a place; the footprint is that of the operands
abbrev pub assigned : Around → CType → Option Address → Content → Footprint → (is_a_struct : Bool) →
    Step (Valued Content)
assigned here t place c operands true = do
  from ← address_in c
  footprint ← copied here.tracks here.program.model (shape here.program t) place from operands
  gives (valued (content.Address place) footprint)
assigned here t place c operands false = do
  it ← used c
  footprint ← stored here.tracks here.program.model (cell_type here.program t) place it operands
  gives (valued it footprint)

-- a content goes to a place, and the expression has a value of its own
abbrev pub updated : Around → CType → Option Address → Content → Content → Footprint → Step (Valued Content)
updated here t place new value operands = do
  footprint ← stored here.tracks here.program.model (cell_type here.program t) place new operands
  gives (valued value footprint)

-- the values of arguments, each converted and there
abbrev pub passed : Program → Values → List Content → Step (List Content)
passed program (a_value v vs) (c ∷ cs) = do
  x ← late program v c >>= used
  xs ← passed program vs cs
  gives (x ∷ xs)
passed program vs cs = gives []

-- The arguments are settled before the body is entered; the body adds nothing.
abbrev pub called : Around → CType → List ℕ → (is_taken : Bool) → Values → Step (Valued (List Content)) →
    Step (Valued Content)
called here t f is_taken vs arguments = do
  xs ← arguments
  ys ← passed here.program vs xs.value
  c ← here.calls f t ys is_taken
  gives (valued c (settled_in here.tracks xs.footprint))

-- arguments, the first of which is unsequenced with the others
abbrev pub with_argument : Around → CType → Valued Content → Valued (List Content) → Step (Valued (List Content))
with_argument here t x xs = do
  p ← taken here t x
  footprint ← apart here.tracks p xs.footprint
  gives (valued (x.value ∷ xs.value) footprint)

-- a part of a comma expression with others behind it is dropped
abbrev pub fate_of_part : Fate → Values → Fate
fate_of_part fate no_values = fate
fate_of_part fate (a_value v vs) = dropped

-- a part of a comma expression and those behind it, if there are any; the value is the last one's
abbrev pub comma_from : (tracks : Bool) → Footprint → Valued Content → Option (Footprint → Step (Valued Content)) →
    Step (Valued Content)
comma_from tracks before x None = gives (valued x.value (grown tracks before x.footprint))
comma_from tracks before x (Some rest) = rest (grown tracks before (settled_in tracks x.footprint))

-- ---- predicates and bound expressions are pure: they read and compute alone, and their footprints don't count

abbrev mutual
  pub is_pure : Value → Bool
  is_pure (e.Constant t z) = true
  is_pure (e.Load t p) = is_pure_place p
  is_pure (e.Whole t p) = is_pure_place p
  is_pure (e.Decay t p) = is_pure_place p
  is_pure (e.AddressOf t p) = is_pure_place p
  is_pure (e.Convert how t v) = is_pure v
  is_pure (e.Minus t v) = is_pure v
  is_pure (e.Complement t v) = is_pure v
  is_pure (e.Not t v) = is_pure v
  is_pure (e.Arithmetic t op s a b) = is_pure a && is_pure b
  is_pure (e.Move t op size side a b) = is_pure a && is_pure b
  is_pure (e.Distance t size a b) = is_pure a && is_pure b
  is_pure (e.Compare t op a b) = is_pure a && is_pure b
  is_pure (e.Logical t op a b) = is_pure a && is_pure b
  is_pure (e.Conditional t test a b) = is_pure test && (is_pure a && is_pure b)
  is_pure (e.Comma t vs) = are_pure vs
  is_pure v = false

  pub is_pure_place : Place → Bool
  is_pure_place (e.Object t n) = true
  is_pure_place (e.Pointed t v) = is_pure v
  is_pure_place (e.Element t size side a b) = is_pure a && is_pure b
  is_pure_place (e.Part t offset p) = is_pure_place p
  is_pure_place (e.Held t v) = is_pure v

  pub are_pure : Values → Bool
  are_pure no_values = true
  are_pure (a_value v vs) = is_pure v && are_pure vs

-- what a pure expression gives, if it gives something
abbrev pub pure_only : {A : Type 0} → Bool → Option A → Option A
pure_only true it = it
pure_only false it = None

-- ---- expressions

abbrev mutual
  -- the value of an expression, and what becomes of it
  pub eval : Around → Fate → Value → Step (Valued Content)
  eval here fate (e.Constant t z) = gives (valued (content.Number z) untouched)
  eval here fate (e.Load t p) = place_of here p >>= loaded here.tracks here.program.model (cell_type here.program t)
  eval here fate (e.Whole t p) = place_of here p >>= (λ x. gives (valued (content.Address x.value) x.footprint))
  eval here fate (e.Decay t p) = place_of here p >>= (λ x. gives (valued (content.Address x.value) x.footprint))
  eval here fate (e.AddressOf t p) = place_of here p >>= (λ x. gives (valued (content.Address x.value) x.footprint))
  eval here fate (e.Convert e.to_void t operand) =
      eval here untaken operand >>= (λ x. gives (valued content.Unset x.footprint))
  eval here fate (e.Convert how t operand) = do
    x ← eval here (inside fate) operand
    c ← converted_here fate here.program how t x.value
    gives (valued c x.footprint)
  eval here fate (e.Minus t operand) = do
    x ← eval here wanted operand
    z ← applied here.program.model O.Sub (scalar_in t) (content.Number (pos 0)) x.value
    gives (valued (content.Number z) x.footprint)
  eval here fate (e.Complement t operand) = do
    x ← eval here wanted operand
    z ← applied here.program.model O.Xor (scalar_in t) x.value (all_ones here.program t)
    gives (valued (content.Number z) x.footprint)
  eval here fate (e.Not t operand) = do
    x ← eval here wanted operand
    b ← truth_in x.value
    gives (valued (of_truth (not b)) x.footprint)
  eval here fate (e.Arithmetic t op s left right) = do
    x ← eval here wanted left
    y ← eval here wanted right
    footprint ← apart here.tracks x.footprint y.footprint
    z ← applied here.program.model op s x.value y.value
    gives (valued (content.Number z) footprint)
  eval here fate (e.Move t op size side left right) = do
    x ← eval here wanted left
    y ← eval here wanted right
    footprint ← apart here.tracks x.footprint y.footprint
    a ← moved op size (pointer_of side x.value y.value) (count_of side x.value y.value)
    gives (valued (content.Address a) footprint)
  eval here fate (e.Distance t size left right) = do
    x ← eval here wanted left
    y ← eval here wanted right
    footprint ← apart here.tracks x.footprint y.footprint
    z ← counted size x.value y.value
    gives (valued (content.Number z) footprint)
  eval here fate (e.Compare t op left right) = do
    x ← eval here wanted left
    y ← eval here wanted right
    footprint ← apart here.tracks x.footprint y.footprint
    b ← compared op x.value y.value
    gives (valued (of_truth b) footprint)
  eval here fate (e.Logical t op left right) = do
    x ← eval here wanted left
    b ← truth_in x.value
    if decides op b then gives (valued (of_truth b) (settled_in here.tracks x.footprint))
        else second_truth here.tracks (settled_in here.tracks x.footprint) (eval here wanted right)
  eval here fate (e.Conditional t test left right) = do
    x ← eval here wanted test
    b ← truth_in x.value
    y ← (if b then eval here (of_branch fate) left else eval here (of_branch fate) right)
    gives (valued y.value (grown here.tracks (settled_in here.tracks x.footprint) y.footprint))
  eval here fate (e.Assign t p v) = do
    x ← place_of here p
    y ← eval here unconverted v
    q ← taken here t y
    operands ← apart here.tracks x.footprint q
    footprint ← aimed here.tracks (cells_of here.program t) x.value operands
    c ← late here.program v y.value
    assigned here t x.value c footprint (is_struct t)
  eval here fate (e.Update t op s p v) = do
    x ← place_of here p
    old ← loaded here.tracks here.program.model (cell_type here.program t) x
    y ← eval here wanted v
    operands ← apart here.tracks old.footprint y.footprint
    footprint ← aimed here.tracks (one_cell (cell_type here.program t)) x.value operands
    a ← number_in old.value
    z ← applied here.program.model op s (content.Number (convert_of here.program.model s a)) y.value
    updated here t x.value (in_type here.program t z) (in_type here.program t z) footprint
  eval here fate (e.UpdatePointer t op size p v) = do
    x ← place_of here p
    old ← loaded here.tracks here.program.model (cell_type here.program t) x
    y ← eval here wanted v
    operands ← apart here.tracks old.footprint y.footprint
    footprint ← aimed here.tracks (one_cell (cell_type here.program t)) x.value operands
    a ← moved op size old.value y.value
    updated here t x.value (content.Address a) (content.Address a) footprint
  eval here fate (e.Step t when op s p) = do
    x ← place_of here p
    old ← loaded here.tracks here.program.model (cell_type here.program t) x
    footprint ← aimed here.tracks (one_cell (cell_type here.program t)) x.value old.footprint
    a ← number_in old.value
    z ← applied here.program.model op s (content.Number (convert_of here.program.model s a)) (content.Number (pos 1))
    updated here t x.value (in_type here.program t z) (kept when old.value (in_type here.program t z)) footprint
  eval here fate (e.StepPointer t when op size p) = do
    x ← place_of here p
    old ← loaded here.tracks here.program.model (cell_type here.program t) x
    footprint ← aimed here.tracks (one_cell (cell_type here.program t)) x.value old.footprint
    a ← moved op size old.value (content.Number (pos 1))
    updated here t x.value (content.Address a) (kept when old.value (content.Address a)) footprint
  eval here fate (e.Call t f arguments) = called here t f (takes fate) arguments (arguments_of here arguments)
  eval here fate (e.Comma t parts) =
      elim (parts_of here (of_last fate) parts) [
        | None ↦ gives (valued content.Unset untouched)
        | Some step ↦ step untouched
      ]
  eval here fate (e.Marked t ms v) = λ at. eval here (of_last fate) v (marked_all here ms at)
  eval here fate (e.Decide t v when_true when_false) = do
    x ← eval here wanted v
    b ← truth_in x.value
    λ at. Gives (valued (of_truth b) x.footprint) (marks when_false (not b) [] (marks when_true b [] at))
  eval here fate (e.After t v id) = eval here (of_last fate) v >>= (λ x at. Gives x (marks id true [] at))

  -- where a place lies
  pub place_of : Around → Place → Step (Valued (Option Address))
  place_of here (e.Object t n) = place (here.variable n) >>= (λ a. gives (valued a untouched))
  place_of here (e.Pointed t pointer) = do
    x ← eval here wanted pointer
    a ← address_in x.value
    gives (valued a x.footprint)
  place_of here (e.Element t size side left right) = do
    x ← eval here wanted left
    y ← eval here wanted right
    footprint ← apart here.tracks x.footprint y.footprint
    a ← moved O.Add size (pointer_of side x.value y.value) (count_of side x.value y.value)
    gives (valued a footprint)
  place_of here (e.Part t offset whole) = do
    x ← place_of here whole
    a ← member_at offset x.value
    gives (valued a x.footprint)
  place_of here (e.Held t v) = do
    x ← eval here wanted v
    a ← address_in x.value
    gives (valued a x.footprint)

  pub arguments_of : Around → Values → Step (Valued (List Content))
  arguments_of here no_values = gives (valued [] untouched)
  arguments_of here (a_value first rest) = do
    x ← eval here unconverted first
    xs ← arguments_of here rest
    with_argument here (type_of first) x xs

  -- the parts of a comma expression, each before the next, and what becomes of the last one's value
  pub parts_of : Around → Fate → Values → Option (Footprint → Step (Valued Content))
  parts_of here fate no_values = None
  parts_of here fate (a_value first rest) =
      Some (λ before. eval here (fate_of_part fate rest) first
      >>= (λ x. comma_from here.tracks before x (parts_of here fate rest)))

  -- the values of bound expressions, where each has one
  pub bound_at : Around → Bindings → At → Option (List Binding)
  bound_at here e.no_bindings at = Some []
  bound_at here (e.a_binding name v rest) at =
      one_more name (pure_only (is_pure v)
      (quietly (eval (tracking false here) wanted v >>= (λ x. number_in x.value)) at)) (bound_at here rest at)

  pub marked : Around → Mark → At → At
  marked here (e.mark predicate id bound) at =
      marked_with id (pure_only (is_pure predicate)
      (quietly (eval (tracking false here) wanted predicate >>= (λ x. truth_in x.value)) at))
      (bound_at here bound at) at

  pub marked_all : Around → Marks → At → At
  marked_all here e.no_marks at = at
  marked_all here (e.a_mark first rest) at = marked_all here rest (marked here first at)
