-- Typed trees, over which the meaning of C recurses: each expression has its type, names are resolved, conversions are written out, and places
-- (lvalues) are a type of their own. What an implementation may not choose stays as it was written: operands stand in the order of the text.
use Rattle.std.specs.Prelude.{ℕ, ℤ, Bool, List, [], ◌∷◌, Option}
use Rattle.lt_model.specs.declared.operator.Op.{Op}
use Rattle.lt_model.specs.declared.scalar.Scalar.{Scalar}
use Rattle.lt_tree.specs.declared.expression.LogicalOp.{LogicalOp}
use Rattle.lt_tree.specs.Typing.Types.{CType}
use Rattle.lt_tree.specs.Typing.Constants.{Constancy}

-- C11 6.3
pub data Conversion : Type 0 where
  -- between integer types, C11 6.3.1.2 and 6.3.1.3
  to_integer : Conversion
  -- a pointer to `_Bool`: whether it isn't null
  to_truth : Conversion
  -- a null pointer constant to a pointer
  to_null : Conversion
  -- a pointer to another pointer type; the address stays
  to_pointer : Conversion
  -- the value is dropped
  to_void : Conversion

-- which operand is the pointer
pub data Side : Type 0 where
  on_left : Side
  on_right : Side

-- whether `++` and `--` give the value before or after
pub data When : Type 0 where
  before : When
  after : When

mutual
  -- An expression with its type first, which has no qualifiers.
  pub data Value : Type 0 where
    Constant : (type : CType) (value : ℤ) → Value
    -- a scalar, read
    Load : (type : CType) (place : Place) → Value
    -- a struct, whose cells are read where they are copied
    Whole : (type : CType) (place : Place) → Value
    -- the address of an array's first element
    Decay : (type : CType) (place : Place) → Value
    -- `&`; nothing is read
    AddressOf : (type : CType) (place : Place) → Value
    Convert : (how : Conversion) (type : CType) (operand : Value) → Value
    Minus : (type : CType) (operand : Value) → Value
    Complement : (type : CType) (operand : Value) → Value
    -- of a scalar, as the tests of `&&`, `||`, `?:` and statements
    Not : (type : CType) (operand : Value) → Value
    -- An operator on two integers in this type, to which they are converted; the right operand of a shift has a type of its own.
    Arithmetic : (type : CType) (op : Op) (operands : Scalar) (left right : Value) → Value
    -- a pointer moved by a number of elements of this size
    Move : (type : CType) (op : Op) (size : ℕ) (pointer : Side) (left right : Value) → Value
    -- the number of elements of this size between two pointers
    Distance : (type : CType) (size : ℕ) (left right : Value) → Value
    -- two pointers compared
    Compare : (type : CType) (op : Op) (left right : Value) → Value
    Logical : (type : CType) (op : LogicalOp) (left right : Value) → Value
    Conditional : (type : CType) (test left right : Value) → Value
    -- the value, converted to the type of the place, is stored; a struct is copied
    Assign : (type : CType) (place : Place) (value : Value) → Value
    -- `op=` on integers: the place's value is converted to the type of the operation and the result back
    Update : (type : CType) (op : Op) (operands : Scalar) (place : Place) (value : Value) → Value
    -- `+=` and `-=` on a pointer to elements of this size
    UpdatePointer : (type : CType) (op : Op) (size : ℕ) (place : Place) (value : Value) → Value
    -- `++` and `--` on an integer, in its promoted type
    Step : (type : CType) (gives : When) (op : Op) (operands : Scalar) (place : Place) → Value
    -- `++` and `--` on a pointer to elements of this size
    StepPointer : (type : CType) (gives : When) (op : Op) (size : ℕ) (place : Place) → Value
    -- of the function of this name, whether it has a body or not
    Call : (type : CType) (function : List ℕ) (arguments : Values) → Value
    Comma : (type : CType) (parts : Values) → Value
    Marked : (type : CType) (marks : Marks) (value : Value) → Value
    -- `pc_decide`
    Decide : (type : CType) (operand : Value) (when_true when_false : ℕ) → Value
    -- `pc_after`
    After : (type : CType) (operand : Value) (id : ℕ) → Value

  pub data Values : Type 0 where
    no_values : Values
    a_value : (first : Value) (rest : Values) → Values

  -- Where a value lies, with its type first, which has its qualifiers. Nothing is read but the pointers that lead there.
  pub data Place : Type 0 where
    -- an object, by its number
    Object : (type : CType) (number : ℕ) → Place
    -- `*p`
    Pointed : (type : CType) (pointer : Value) → Place
    -- `a[i]` of elements of this size
    Element : (type : CType) (size : ℕ) (pointer : Side) (left right : Value) → Place
    -- `s.m`, where the offset is that of `m`; `p->m` is `(*p).m`
    Part : (type : CType) (offset : ℕ) (whole : Place) → Place
    -- where a struct lies that is the value of an expression; it is no lvalue
    Held : (type : CType) (value : Value) → Place

  pub data Marks : Type 0 where
    no_marks : Marks
    a_mark : (first : Mark) (rest : Marks) → Marks

  pub data Mark : Type 0 where
    mark : (predicate : Value) (id : ℕ) (bound : Bindings) → Mark

  pub data Bindings : Type 0 where
    no_bindings : Bindings
    a_binding : (name : List ℕ) (value : Value) (rest : Bindings) → Bindings

-- ---- how objects start, C11 6.7.9

pub data StartPart : Type 0 where
  -- a full expression's value, of the type of the scalar or struct at this offset
  stored : (offset : ℕ) (value : Value) → StartPart
  -- what a scalar at this offset of an object holds that is there from the start
  fixed : (offset : ℕ) (type : CType) (content : Constancy) → StartPart
  -- bytes in characters of this type, from this offset on
  letters : (offset : ℕ) (type : Scalar) (bytes : List ℕ) → StartPart

-- The parts that are stored, in the order of the text; what they leave out is zero where the whole is zeroed first.
pub record Start : Type 0 where
  pub zeroed : Bool
  pub parts : List StartPart

-- a local object that is created, and how it starts
pub record Local : Type 0 where
  pub object : ℕ
  pub start : Option Start

-- ---- statements, C11 6.8

pub data ForStart : Type 0 where
  Nothing : ForStart
  First : (value : Value) → ForStart
  -- objects that end with the loop
  Locals : (locals : List Local) → ForStart

-- the value is of the type of the switch
pub data Label : Type 0 where
  Case : (value : ℤ) → Label
  Default : Label

mutual
  pub data Statement : Type 0 where
    Compound : (items : Items) → Statement
    -- no value is taken
    Evaluates : (value : Value) → Statement
    Null : Statement
    If : (test : Value) (body : Statement) → Statement
    IfElse : (test : Value) (body other : Statement) → Statement
    While : (test : Value) (body : Statement) → Statement
    Do : (body : Statement) (test : Value) → Statement
    For : (start : ForStart) (test step : Option Value) (body : Statement) → Statement
    -- of a promoted integer
    Switch : (operand : Value) (cases : Cases) → Statement
    Break : Statement
    Continue : Statement
    -- with a value of the function's type
    Return : (value : Option Value) → Statement

  -- the items of a block; declarations that create nothing aren't among them
  pub data Items : Type 0 where
    no_items : Items
    a_local : (first : Local) (rest : Items) → Items
    a_statement : (first : Statement) (rest : Items) → Items
    a_label : (first : Mark) (rest : Items) → Items

  pub data Cases : Type 0 where
    no_cases : Cases
    a_case : (labels : List Label) (first : Statement) (rest : Cases) → Cases

-- ---- types

abbrev pub type_of : Value → CType
type_of (Constant t z) = t
type_of (Load t place) = t
type_of (Whole t place) = t
type_of (Decay t place) = t
type_of (AddressOf t place) = t
type_of (Convert how t v) = t
type_of (Minus t v) = t
type_of (Complement t v) = t
type_of (Not t v) = t
type_of (Arithmetic t op s a b) = t
type_of (Move t op size side a b) = t
type_of (Distance t size a b) = t
type_of (Compare t op a b) = t
type_of (Logical t op a b) = t
type_of (Conditional t v a b) = t
type_of (Assign t place v) = t
type_of (Update t op s place v) = t
type_of (UpdatePointer t op size place v) = t
type_of (Step t gives op s place) = t
type_of (StepPointer t gives op size place) = t
type_of (Call t f vs) = t
type_of (Comma t vs) = t
type_of (Marked t ms v) = t
type_of (Decide t v p q) = t
type_of (After t v id) = t

abbrev pub type_at : Place → CType
type_at (Object t n) = t
type_at (Pointed t p) = t
type_at (Element t size side a b) = t
type_at (Part t offset whole) = t
type_at (Held t v) = t

-- ---- lists

abbrev pub with_value : Values → Value → Values
with_value no_values v = a_value v no_values
with_value (a_value first rest) v = a_value first (with_value rest v)

-- the names that a mark binds
abbrev pub names_bound : Bindings → List (List ℕ)
names_bound no_bindings = []
names_bound (a_binding name value rest) = name ∷ names_bound rest
