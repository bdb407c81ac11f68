-- Trees of C as values, without where they lie in memory, in the order of C11 6.5 to 6.9.
use Rattle.std.specs.Prelude.{ℕ, Bool, List, Option}
use Rattle.lt_model.specs.declared.operator.Op.{Op}
pub use Rattle.lt_model.specs.Types.{Qualifiers}
use Rattle.lt_tree.specs.declared.expression.UnaryOp.{UnaryOp}
use Rattle.lt_tree.specs.declared.expression.LogicalOp.{LogicalOp}
use Rattle.lt_tree.specs.declared.specifier.Storage.{Storage}
use Rattle.lt_tree.specs.declared.specifier.BasicType.{BasicType}
use Rattle.lt_tree.specs.declared.specifier.TypeWord.{TypeWord}

-- the words among specifiers that are no part of a type, C11 6.7.1, 6.7.3 and 6.7.4; storage classes in the order of the source
pub record Words : Type 0 where
  pub storage : List Storage
  pub inline : Bool
  pub noreturn : Bool
  pub qualifiers : Qualifiers

mutual
  -- an expression, C11 6.5; parentheses leave no node
  pub data Expression : Type 0 where
    Name : (name : List ℕ) → Expression
    -- an integer or character constant, as written
    Constant : (text : List ℕ) → Expression
    -- the bytes that adjacent literals spell together
    Text : (bytes : List ℕ) → Expression
    Index : (whole index : Expression) → Expression
    Call : (callee : Expression) (arguments : Expressions) → Expression
    Member : (whole : Expression) (name : List ℕ) → Expression
    Arrow : (pointer : Expression) (name : List ℕ) → Expression
    PostInc : (target : Expression) → Expression
    PostDec : (target : Expression) → Expression
    PreInc : (target : Expression) → Expression
    PreDec : (target : Expression) → Expression
    Unary : (op : UnaryOp) (operand : Expression) → Expression
    SizeofExpr : (operand : Expression) → Expression
    SizeofType : (specifiers : Specifiers) (declarator : Declarator) → Expression
    Cast : (specifiers : Specifiers) (declarator : Declarator) (operand : Expression) → Expression
    Binary : (op : Op) (left right : Expression) → Expression
    Logical : (op : LogicalOp) (left right : Expression) → Expression
    Conditional : (test left right : Expression) → Expression
    -- with the operator that is applied first, if there is one
    Assign : (op : Option Op) (target value : Expression) → Expression
    -- two or more parts, of which the first is no comma expression
    Comma : (parts : Expressions) → Expression
    -- behind one or more marks
    Marked : (marks : Marks) (value : Expression) → Expression
    -- ids are held as written
    Decide : (operand : Expression) (when_true when_false tag : List ℕ) → Expression
    After : (operand : Expression) (id tag : List ℕ) → Expression

  pub data Expressions : Type 0 where
    no_expressions : Expressions
    an_expression : (first : Expression) (rest : Expressions) → Expressions

  -- an expression that may be left out
  pub data Maybe : Type 0 where
    absent : Maybe
    present : (e : Expression) → Maybe

  pub data Marks : Type 0 where
    no_marks : Marks
    a_mark : (first : Mark) (rest : Marks) → Marks

  -- a label, with the names that it binds; the id is held as written
  pub data Mark : Type 0 where
    mark : (predicate : Expression) (id tag : List ℕ) (bound : Bindings) → Mark

  pub data Bindings : Type 0 where
    no_bindings : Bindings
    a_binding : (name : List ℕ) (value : Expression) (rest : Bindings) → Bindings

  -- C11 6.7
  pub data Specifiers : Type 0 where
    specifiers : (words : Words) (types : TypeSpecifiers) → Specifiers

  pub data TypeSpecifiers : Type 0 where
    no_types : TypeSpecifiers
    a_type : (first : TypeSpecifier) (rest : TypeSpecifiers) → TypeSpecifiers

  -- C11 6.7.2
  pub data TypeSpecifier : Type 0 where
    -- all type words together, where they name a type
    Basic : (type : BasicType) → TypeSpecifier
    -- one of the words that name none together
    Word : (word : TypeWord) → TypeSpecifier
    StructTag : (tag : List ℕ) → TypeSpecifier
    Struct : (tag : Option (List ℕ)) (members : Members) → TypeSpecifier
    EnumTag : (tag : List ℕ) → TypeSpecifier
    Enum : (tag : Option (List ℕ)) (enumerators : Enumerators) → TypeSpecifier
    Named : (name : List ℕ) → TypeSpecifier

  -- C11 6.7.2.1
  pub data Members : Type 0 where
    no_members : Members
    a_member : (first : StructMember) (rest : Members) → Members

  pub data StructMember : Type 0 where
    member : (specifiers : Specifiers) (declarators : MemberDeclarators) → StructMember

  pub data MemberDeclarators : Type 0 where
    no_declarators : MemberDeclarators
    a_declarator : (first : Declarator) (width : Maybe) (rest : MemberDeclarators) → MemberDeclarators

  -- C11 6.7.2.2
  pub data Enumerators : Type 0 where
    no_enumerators : Enumerators
    an_enumerator : (name : List ℕ) (value : Maybe) (rest : Enumerators) → Enumerators

  -- C11 6.7.6; an abstract declarator has no name
  pub data Declarator : Type 0 where
    declarator : (name : Option (List ℕ)) (parts : Parts) → Declarator

  -- from the name outwards: `*a[3]` has the array first, `(*a)[3]` the pointer
  pub data Parts : Type 0 where
    no_parts : Parts
    Pointer : (qualifiers : Qualifiers) (rest : Parts) → Parts
    Array : (length : Maybe) (rest : Parts) → Parts
    Function : (parameters : Parameters) (rest : Parts) → Parts

  -- what stands in the parentheses of a function's declarator: nothing, `void` alone, or parameters, with `...` behind them or not
  pub data Parameters : Type 0 where
    Unstated : Parameters
    Void : Parameters
    Listed : (parameters : ParameterList) → Parameters
    Open : (parameters : ParameterList) → Parameters

  pub data ParameterList : Type 0 where
    no_parameters : ParameterList
    a_parameter : (specifiers : Specifiers) (declarator : Declarator) (rest : ParameterList) → ParameterList

-- C11 6.7.9
mutual
  pub data Initialiser : Type 0 where
    Value : (value : Expression) → Initialiser
    Braces : (parts : Initialisers) → Initialiser

  pub data Initialisers : Type 0 where
    no_initialisers : Initialisers
    an_initialiser : (first : Initialiser) (rest : Initialisers) → Initialisers

pub record InitDeclarator : Type 0 where
  pub declarator : Declarator
  pub initialiser : Option Initialiser

-- C11 6.7
pub record Declaration : Type 0 where
  pub specifiers : Specifiers
  pub declarators : List InitDeclarator

-- what stands before the first `;` of a `for`
pub data ForStart : Type 0 where
  Nothing : ForStart
  First : (e : Expression) → ForStart
  Declares : (declaration : Declaration) → ForStart

-- C11 6.8.1, in the body of a `switch`
pub data Label : Type 0 where
  Case : (value : Expression) → Label
  Default : Label

mutual
  -- C11 6.8
  pub data Statement : Type 0 where
    Compound : (items : Items) → Statement
    Evaluates : (e : Expression) → Statement
    Null : Statement
    If : (test : Expression) (body : Statement) → Statement
    IfElse : (test : Expression) (body other : Statement) → Statement
    While : (test : Expression) (body : Statement) → Statement
    Do : (body : Statement) (test : Expression) → Statement
    For : (start : ForStart) (test step : Option Expression) (body : Statement) → Statement
    Switch : (operand : Expression) (cases : Cases) → Statement
    Break : Statement
    Continue : Statement
    Return : (value : Option Expression) → Statement

  -- the items of a block
  pub data Items : Type 0 where
    no_items : Items
    a_declaration : (first : Declaration) (rest : Items) → Items
    a_statement : (first : Statement) (rest : Items) → Items
    a_label : (first : Mark) (rest : Items) → Items

  -- the statements in the body of a `switch`, each with its labels
  pub data Cases : Type 0 where
    no_cases : Cases
    a_case : (labels : List Label) (first : Statement) (rest : Cases) → Cases

-- C11 6.9
pub data External : Type 0 where
  Defines : (specifiers : Specifiers) (declarator : Declarator) (body : Items) → External
  Declared : (declaration : Declaration) → External

abbrev pub Unit : Type 0
Unit = List External
