-- The canonical text of a tree.
use Rattle.std.specs.Prelude.{ℕ, suc, ◌+◌, Bool, true, false, ◌||◌, ◌&&◌, ◌==◌, nat_lt, nat_le, if◌then◌else◌, List, [], ◌∷◌, ◌++◌, map, Option, Some, None}
use Rattle.lt_model.specs.declared.operator.Op.{Op}
use Rattle.lt_model.specs.declared.operator.Op.TheVariants as op
use Rattle.lt_tree.specs.declared.expression.UnaryOp.{UnaryOp}
use Rattle.lt_tree.specs.declared.expression.UnaryOp.TheVariants as unary
use Rattle.lt_tree.specs.declared.expression.LogicalOp.{LogicalOp}
use Rattle.lt_tree.specs.declared.expression.LogicalOp.TheVariants as logical
use Rattle.lt_tree.specs.declared.specifier.Storage.{Storage}
use Rattle.lt_tree.specs.declared.specifier.Storage.TheVariants as storage
use Rattle.lt_tree.specs.declared.specifier.BasicType.{BasicType}
use Rattle.lt_tree.specs.declared.specifier.BasicType.TheVariants as basic
use Rattle.lt_tree.specs.declared.specifier.TypeWord.{TypeWord}
use Rattle.lt_tree.specs.declared.specifier.TypeWord.TheVariants as type_word
use Rattle.lt_tree.specs.declared.terminal.Terminal.{Terminal}
use Rattle.lt_tree.specs.declared.terminal.Terminal.TheVariants as t
use Rattle.lt_tree.specs.Tree as c
use Rattle.lt_tree.specs.Grammar.{Level, comma, marked, assignment, conditional, binary, cast, unary as unary_level, postfix, primary}
use Rattle.lt_tree.specs.Pieces.{Word, Piece, word, gap, indent, line_end, bytes_of, text_of}
use Rattle.lt_tree.specs.Pieces as p

abbrev pub Pieces : Type 0
Pieces = List Piece

-- ---- words

abbrev pub sign : Terminal → Piece
sign k = word (p.sign k)

abbrev pub name : List ℕ → Piece
name w = word (p.name w)

abbrev pub constant : List ℕ → Piece
constant w = word (p.constant w)

abbrev pub literal : List ℕ → Piece
literal bytes = word (p.literal bytes)

abbrev pub sign_of_unary : UnaryOp → Terminal
sign_of_unary unary.AddressOf = t.Ampersand
sign_of_unary unary.Dereference = t.Star
sign_of_unary unary.Plus = t.Plus
sign_of_unary unary.Minus = t.Minus
sign_of_unary unary.Complement = t.Tilde
sign_of_unary unary.Not = t.Exclamation

abbrev pub sign_of_binary : Op → Terminal
sign_of_binary op.Add = t.Plus
sign_of_binary op.Sub = t.Minus
sign_of_binary op.Mul = t.Star
sign_of_binary op.Div = t.Slash
sign_of_binary op.Rem = t.Percent
sign_of_binary op.Shl = t.ShiftLeft
sign_of_binary op.Shr = t.ShiftRight
sign_of_binary op.And = t.Ampersand
sign_of_binary op.Or = t.Bar
sign_of_binary op.Xor = t.Caret
sign_of_binary op.Lt = t.Less
sign_of_binary op.Le = t.LessEqual
sign_of_binary op.Gt = t.Greater
sign_of_binary op.Ge = t.GreaterEqual
sign_of_binary op.Eq = t.EqualEqual
sign_of_binary op.Ne = t.NotEqual

abbrev pub sign_of_logical : LogicalOp → Terminal
sign_of_logical logical.And = t.AndAnd
sign_of_logical logical.Or = t.OrOr

-- no operator of a relation has an assignment
abbrev pub sign_of_assignment : Option Op → Terminal
sign_of_assignment None = t.Equal
sign_of_assignment (Some op.Mul) = t.StarEqual
sign_of_assignment (Some op.Div) = t.SlashEqual
sign_of_assignment (Some op.Rem) = t.PercentEqual
sign_of_assignment (Some op.Add) = t.PlusEqual
sign_of_assignment (Some op.Sub) = t.MinusEqual
sign_of_assignment (Some op.Shl) = t.ShiftLeftEqual
sign_of_assignment (Some op.Shr) = t.ShiftRightEqual
sign_of_assignment (Some op.And) = t.AmpersandEqual
sign_of_assignment (Some op.Xor) = t.CaretEqual
sign_of_assignment (Some op.Or) = t.BarEqual
sign_of_assignment (Some _) = t.Other

abbrev pub sign_of_storage : Storage → Terminal
sign_of_storage storage.Typedef = t.Typedef
sign_of_storage storage.Extern = t.Extern
sign_of_storage storage.Static = t.Static
sign_of_storage storage.Auto = t.Auto
sign_of_storage storage.Register = t.Register

abbrev pub sign_of_word : TypeWord → Terminal
sign_of_word type_word.Void = t.Void
sign_of_word type_word.Char = t.Char
sign_of_word type_word.Short = t.Short
sign_of_word type_word.Int = t.Int
sign_of_word type_word.Long = t.Long
sign_of_word type_word.Float = t.Float
sign_of_word type_word.Double = t.Double
sign_of_word type_word.Signed = t.Signed
sign_of_word type_word.Unsigned = t.Unsigned
sign_of_word type_word.Bool = t.Bool

-- the words of a type, as they are written
abbrev pub words_of : BasicType → List TypeWord
words_of basic.Void = type_word.Void ∷ []
words_of basic.Char = type_word.Char ∷ []
words_of basic.SignedChar = type_word.Signed ∷ type_word.Char ∷ []
words_of basic.UnsignedChar = type_word.Unsigned ∷ type_word.Char ∷ []
words_of basic.Short = type_word.Short ∷ []
words_of basic.UnsignedShort = type_word.Unsigned ∷ type_word.Short ∷ []
words_of basic.Int = type_word.Int ∷ []
words_of basic.Unsigned = type_word.Unsigned ∷ []
words_of basic.Long = type_word.Long ∷ []
words_of basic.UnsignedLong = type_word.Unsigned ∷ type_word.Long ∷ []
words_of basic.LongLong = type_word.Long ∷ type_word.Long ∷ []
words_of basic.UnsignedLongLong = type_word.Unsigned ∷ type_word.Long ∷ type_word.Long ∷ []
words_of basic.Bool = type_word.Bool ∷ []
words_of basic.Float = type_word.Float ∷ []
words_of basic.Double = type_word.Double ∷ []
words_of basic.LongDouble = type_word.Long ∷ type_word.Double ∷ []

-- ---- levels

-- how tightly a level binds
abbrev pub rank : Level → ℕ
rank comma = 0
rank marked = 1
rank assignment = 2
rank conditional = 3
rank (binary n) = 4 + n
rank cast = 14
rank unary_level = 15
rank postfix = 16
rank primary = 17

-- how tightly a binary operator binds, from `||`, which is 0, to `*`, which is 9
abbrev pub tightness : Op → ℕ
tightness op.Or = 2
tightness op.Xor = 3
tightness op.And = 4
tightness op.Eq = 5
tightness op.Ne = 5
tightness op.Lt = 6
tightness op.Le = 6
tightness op.Gt = 6
tightness op.Ge = 6
tightness op.Shl = 7
tightness op.Shr = 7
tightness op.Add = 8
tightness op.Sub = 8
tightness op.Mul = 9
tightness op.Div = 9
tightness op.Rem = 9

abbrev pub tightness_of_logical : LogicalOp → ℕ
tightness_of_logical logical.Or = 0
tightness_of_logical logical.And = 1

-- the level of an expression
abbrev pub level_of : c.Expression → Level
level_of (c.Name w) = primary
level_of (c.Constant w) = primary
level_of (c.Text bytes) = primary
level_of (c.Decide e yes_id no_id tag) = primary
level_of (c.After e id tag) = primary
level_of (c.Index whole place) = postfix
level_of (c.Call callee arguments) = postfix
level_of (c.Member e w) = postfix
level_of (c.Arrow e w) = postfix
level_of (c.PostInc e) = postfix
level_of (c.PostDec e) = postfix
level_of (c.PreInc e) = unary_level
level_of (c.PreDec e) = unary_level
level_of (c.Unary o e) = unary_level
level_of (c.SizeofExpr e) = unary_level
level_of (c.SizeofType s d) = unary_level
level_of (c.Cast s d e) = cast
level_of (c.Binary o left right) = binary (tightness o)
level_of (c.Logical o left right) = binary (tightness_of_logical o)
level_of (c.Conditional test left right) = conditional
level_of (c.Assign o target value) = assignment
level_of (c.Marked marks e) = marked
level_of (c.Comma parts) = comma

abbrev pub in_parentheses : Pieces → Pieces
in_parentheses inside = sign t.OpenParen ∷ inside ++ sign t.CloseParen ∷ []

-- an operand, in parentheses exactly where its own level is lower than its place asks
abbrev pub placed : Level → Level → Pieces → Pieces
placed asked own inside = if nat_lt (rank own) (rank asked) then in_parentheses inside else inside

-- ---- spaces

abbrev pub spaced : Terminal → Pieces
spaced k = gap ∷ sign k ∷ gap ∷ []

abbrev pub comma_gap : Pieces
comma_gap = sign t.Comma ∷ gap ∷ []

abbrev pub starts_signed : List ℕ → Bool
starts_signed [] = false
starts_signed (b ∷ bytes) = (b == 43) || (b == 45) || (b == 38)

-- a prefix operator and its operand: one space where the operand's text begins with `+`, `-` or `&`
abbrev pub prefixed : Terminal → Pieces → Pieces
prefixed k operand = sign k ∷ (if starts_signed (text_of operand) then gap ∷ operand else operand)

-- an integer constant, and no character constant
abbrev pub is_integer : c.Expression → Bool
is_integer (c.Constant (b ∷ bytes)) = nat_le 48 b && nat_le b 57
is_integer _ = false

abbrev pub gap_if : Bool → Pieces
gap_if b = if b then gap ∷ [] else []

-- with one space between what isn't empty
abbrev pub apart : Pieces → Pieces → Pieces
apart front [] = front
apart [] back = back
apart front back = front ++ gap ∷ back

abbrev pub word_if : Bool → Terminal → Pieces
word_if b k = if b then sign k ∷ [] else []

abbrev pub signs_apart : List Terminal → Pieces
signs_apart [] = []
signs_apart (k ∷ ks) = apart (sign k ∷ []) (signs_apart ks)

abbrev pub qualifiers_pieces : c.Qualifiers → Pieces
qualifiers_pieces q = apart (word_if q.constant t.Const) (word_if q.volatile t.Volatile)

-- storage classes, `inline`, `_Noreturn`, `const`, `volatile`
abbrev pub words_pieces : c.Words → Pieces
words_pieces words =
    apart (signs_apart (map sign_of_storage words.storage))
    (apart (word_if words.inline t.Inline) (apart (word_if words.noreturn t.Noreturn) (qualifiers_pieces words.qualifiers)))

-- the name of a declarator, if it has one
abbrev pub name_if : Option (List ℕ) → Pieces
name_if None = []
name_if (Some w) = name w ∷ []

-- `*` with its qualifiers before what it belongs to
abbrev pub pointing : c.Qualifiers → Pieces → Pieces
pointing q inner = sign t.Star ∷ apart (qualifiers_pieces q) inner

-- the tag of a struct or enum, if it has one
abbrev pub name_behind : Option (List ℕ) → Pieces
name_behind None = []
name_behind (Some w) = gap ∷ name w ∷ []

-- what stands under `[]` or `()` is in parentheses if it is a pointer
abbrev pub grouped : Bool → Pieces → Pieces
grouped pointer inner = if pointer then in_parentheses inner else inner

-- ---- expressions, types and declarators; n is the level of indentation of the line

unfoldable mutual
  -- an expression where this level is asked
  pub operand : ℕ → Level → c.Expression → Pieces
  operand n asked (c.Name w) = name w ∷ []
  operand n asked (c.Constant w) = constant w ∷ []
  operand n asked (c.Text bytes) = literal bytes ∷ []
  operand n asked (c.Index whole place) = placed asked postfix (operand n postfix whole ++ sign t.OpenIndex ∷ operand n comma place ++ sign t.CloseIndex ∷ [])
  operand n asked (c.Call callee arguments) = placed asked postfix (operand n postfix callee ++ in_parentheses (list n assignment arguments))
  operand n asked (c.Member e w) = placed asked postfix (operand n postfix e ++ gap_if (is_integer e) ++ sign t.Dot ∷ name w ∷ [])
  operand n asked (c.Arrow e w) = placed asked postfix (operand n postfix e ++ sign t.Arrow ∷ name w ∷ [])
  operand n asked (c.PostInc e) = placed asked postfix (operand n postfix e ++ sign t.Increment ∷ [])
  operand n asked (c.PostDec e) = placed asked postfix (operand n postfix e ++ sign t.Decrement ∷ [])
  operand n asked (c.PreInc e) = placed asked unary_level (prefixed t.Increment (operand n unary_level e))
  operand n asked (c.PreDec e) = placed asked unary_level (prefixed t.Decrement (operand n unary_level e))
  operand n asked (c.Unary o e) = placed asked unary_level (prefixed (sign_of_unary o) (operand n cast e))
  operand n asked (c.SizeofExpr e) = placed asked unary_level (sign t.Sizeof ∷ gap ∷ operand n unary_level e)
  operand n asked (c.SizeofType s d) = placed asked unary_level (sign t.Sizeof ∷ in_parentheses (apart (specifiers n s) (declarator n d)))
  operand n asked (c.Cast s d e) = placed asked cast (in_parentheses (apart (specifiers n s) (declarator n d)) ++ operand n cast e)
  operand n asked (c.Binary o left right) =
      placed asked (binary (tightness o)) (operand n (binary (tightness o)) left ++ spaced (sign_of_binary o) ++ operand n (binary (suc (tightness o))) right)
  operand n asked (c.Logical o left right) =
      placed asked (binary (tightness_of_logical o))
      (operand n (binary (tightness_of_logical o)) left ++ spaced (sign_of_logical o) ++ operand n (binary (suc (tightness_of_logical o))) right)
  operand n asked (c.Conditional test left right) =
      placed asked conditional (operand n (binary 0) test ++ spaced t.Question ++ operand n comma left ++ spaced t.Colon ++ operand n conditional right)
  operand n asked (c.Assign o target value) = placed asked assignment (operand n unary_level target ++ spaced (sign_of_assignment o) ++ operand n assignment value)
  operand n asked (c.Comma parts) = placed asked comma (list n marked parts)
  operand n asked (c.Marked marks e) = placed asked marked (marks_pieces n marks ++ operand n assignment e)
  operand n asked (c.Decide e yes_id no_id tag) =
      sign t.Decide ∷ in_parentheses (operand n assignment e ++ comma_gap ++ constant yes_id ∷ comma_gap ++ constant no_id ∷ comma_gap ++ literal tag ∷ [])
  operand n asked (c.After e id tag) =
      sign t.After ∷ in_parentheses (operand n assignment e ++ comma_gap ++ constant id ∷ comma_gap ++ literal tag ∷ [])

  -- expressions with commas between
  pub list : ℕ → Level → c.Expressions → Pieces
  list n asked c.no_expressions = []
  list n asked (c.an_expression e c.no_expressions) = operand n asked e
  list n asked (c.an_expression e (c.an_expression f es)) = operand n asked e ++ comma_gap ++ list n asked (c.an_expression f es)

  -- each with a comma behind it
  pub marks_pieces : ℕ → c.Marks → Pieces
  marks_pieces n c.no_marks = []
  marks_pieces n (c.a_mark m ms) = mark n m ++ comma_gap ++ marks_pieces n ms

  pub mark : ℕ → c.Mark → Pieces
  mark n (c.mark e id tag c.no_bindings) =
      sign t.Label ∷ in_parentheses (operand n assignment e ++ comma_gap ++ constant id ∷ comma_gap ++ literal tag ∷ [])
  mark n (c.mark e id tag (c.a_binding w value bound)) =
      sign t.LabelBind ∷ in_parentheses (operand n assignment e ++ comma_gap ++ constant id ∷ comma_gap ++ literal tag
      ∷ comma_gap ++ name w ∷ comma_gap ++ operand n assignment value ++ bindings n bound)

  -- each with a comma before it
  pub bindings : ℕ → c.Bindings → Pieces
  bindings n c.no_bindings = []
  bindings n (c.a_binding w value bound) = comma_gap ++ name w ∷ comma_gap ++ operand n assignment value ++ bindings n bound

  pub specifiers : ℕ → c.Specifiers → Pieces
  specifiers n (c.specifiers words types) = apart (words_pieces words) (type_specifiers n types)

  pub type_specifiers : ℕ → c.TypeSpecifiers → Pieces
  type_specifiers n c.no_types = []
  type_specifiers n (c.a_type first rest) = apart (type_specifier n first) (type_specifiers n rest)

  pub type_specifier : ℕ → c.TypeSpecifier → Pieces
  type_specifier n (c.Basic type) = signs_apart (map sign_of_word (words_of type))
  type_specifier n (c.Word w) = sign (sign_of_word w) ∷ []
  type_specifier n (c.StructTag w) = sign t.Struct ∷ gap ∷ name w ∷ []
  type_specifier n (c.Struct tag members) = apart (sign t.Struct ∷ name_behind tag) (sign t.OpenBrace ∷ line_end ∷ member_lines (suc n) members ++ indent n ∷ sign t.CloseBrace ∷ [])
  type_specifier n (c.EnumTag w) = sign t.Enum ∷ gap ∷ name w ∷ []
  type_specifier n (c.Enum tag es) = apart (sign t.Enum ∷ name_behind tag) (sign t.OpenBrace ∷ line_end ∷ enumerator_lines (suc n) es ++ indent n ∷ sign t.CloseBrace ∷ [])
  type_specifier n (c.Named w) = name w ∷ []

  -- each on a line of its own
  pub member_lines : ℕ → c.Members → Pieces
  member_lines n c.no_members = []
  member_lines n (c.a_member (c.member s ds) rest) = indent n ∷ apart (specifiers n s) (member_declarators n ds) ++ sign t.Semicolon ∷ line_end ∷ member_lines n rest

  pub member_declarators : ℕ → c.MemberDeclarators → Pieces
  member_declarators n c.no_declarators = []
  member_declarators n (c.a_declarator d width c.no_declarators) = declarator n d ++ after_sign n t.Colon width
  member_declarators n (c.a_declarator d width (c.a_declarator e wide ds)) = declarator n d ++ after_sign n t.Colon width ++ comma_gap ++ member_declarators n (c.a_declarator e wide ds)

  -- each on a line of its own, with a comma after each but the last
  pub enumerator_lines : ℕ → c.Enumerators → Pieces
  enumerator_lines n c.no_enumerators = []
  enumerator_lines n (c.an_enumerator w value c.no_enumerators) = indent n ∷ name w ∷ after_sign n t.Equal value ++ line_end ∷ []
  enumerator_lines n (c.an_enumerator w value (c.an_enumerator v other es)) =
      indent n ∷ name w ∷ after_sign n t.Equal value ++ sign t.Comma ∷ line_end ∷ enumerator_lines n (c.an_enumerator v other es)

  -- a bit-field's width, or an enumerator's value
  pub after_sign : ℕ → Terminal → c.Maybe → Pieces
  after_sign n k c.absent = []
  after_sign n k (c.present e) = spaced k ++ operand n conditional e

  pub declarator : ℕ → c.Declarator → Pieces
  declarator n (c.declarator w parts) = around n (name_if w) false parts

  -- parts from the name outwards, around what stands inside; `pointer` says that a `*` stands before it
  pub around : ℕ → Pieces → Bool → c.Parts → Pieces
  around n inner pointer c.no_parts = inner
  around n inner pointer (c.Pointer q rest) = around n (pointing q inner) true rest
  around n inner pointer (c.Array length rest) = around n (grouped pointer inner ++ sign t.OpenIndex ∷ maybe n length ++ sign t.CloseIndex ∷ []) false rest
  around n inner pointer (c.Function ps rest) = around n (grouped pointer inner ++ in_parentheses (parameters n ps)) false rest

  pub maybe : ℕ → c.Maybe → Pieces
  maybe n c.absent = []
  maybe n (c.present e) = operand n conditional e

  pub parameters : ℕ → c.Parameters → Pieces
  parameters n c.Unstated = []
  parameters n c.Void = sign t.Void ∷ []
  parameters n (c.Listed ps) = parameter_list n ps
  parameters n (c.Open ps) = parameter_list n ps ++ comma_gap ++ sign t.Ellipsis ∷ []

  pub parameter_list : ℕ → c.ParameterList → Pieces
  parameter_list n c.no_parameters = []
  parameter_list n (c.a_parameter s d c.no_parameters) = apart (specifiers n s) (declarator n d)
  parameter_list n (c.a_parameter s d (c.a_parameter s' d' ps)) = apart (specifiers n s) (declarator n d) ++ comma_gap ++ parameter_list n (c.a_parameter s' d' ps)

abbrev pub expression : ℕ → c.Expression → Pieces
expression n e = operand n comma e
