-- Expressions that may stand where these names are in scope, spelt well, with no mark in the type names and operands of `sizeof` in them.
use Rattle.std.specs.Prelude.{◌≡◌, false, Option, Some}
use Rattle.std.specs.List.{All}
use Rattle.lt_model.specs.declared.operator.Op.{Op}
use Rattle.lt_tree.specs.declared.terminal.Terminal.{Terminal}
use Rattle.lt_tree.specs.Tree as c
use Rattle.lt_tree.specs.Comma.{followed_by}
use Rattle.lt_tree.specs.Scope.{Scope, is_type}
use Rattle.lt_tree.specs.Operators.{assignment_of}
use Rattle.lt_tree.specs.Erasure.{erased, erased_specifiers, erased_declarator}
use Rattle.lt_tree.specs.Canon.{sign_of_assignment}
use Rattle.lt_print.proofs.CuttingQuotes.{IsByte}
use Rattle.lt_print.proofs.Written.{is_other}
use Rattle.lt_print.proofs.Clean.{IsIdentifier, IsConstant}
use Rattle.lt_print.proofs.Spelt.{SpeltSpecifiers, SpeltDeclarator}
use Rattle.lt_print.proofs.Claims.{IsSequence, TypeNameAgain}

-- a type name
pub record GoodType (scope : Scope) (s : c.Specifiers) (d : c.Declarator) : Type 0 where
  pub again : TypeNameAgain scope s d
  pub words : SpeltSpecifiers s
  pub parts : SpeltDeclarator d
  pub same_words : erased_specifiers s ≡ s
  pub same_parts : erased_declarator d ≡ d

-- an operator of an assignment
pub record GoodAssignment (op : Option Op) : Type 0 where
  pub sign : Terminal
  pub is : assignment_of sign ≡ Some op
  pub written : is_other (sign_of_assignment op) ≡ false

abbrev pub AreSome : c.Marks → Type 0
AreSome c.no_marks = ⊥
AreSome (c.a_mark m ms) = Unit {0}

abbrev mutual
  pub Good : Scope → c.Expression → Type 0
  Good scope (c.Name w) = (is_type scope w ≡ false) × IsIdentifier w
  Good scope (c.Constant w) = IsConstant w
  Good scope (c.Text bytes) = All IsByte bytes
  Good scope (c.Index whole place) = Good scope whole × Good scope place
  Good scope (c.Call callee arguments) = Good scope callee × GoodAll scope arguments
  Good scope (c.Member e w) = Good scope e × IsIdentifier w
  Good scope (c.Arrow e w) = Good scope e × IsIdentifier w
  Good scope (c.PostInc e) = Good scope e
  Good scope (c.PostDec e) = Good scope e
  Good scope (c.PreInc e) = Good scope e
  Good scope (c.PreDec e) = Good scope e
  Good scope (c.Unary op e) = Good scope e
  Good scope (c.SizeofExpr e) = Good scope e × (erased e ≡ e)
  Good scope (c.SizeofType s d) = GoodType scope s d
  Good scope (c.Cast s d e) = GoodType scope s d × Good scope e
  Good scope (c.Binary op left right) = Good scope left × Good scope right
  Good scope (c.Logical op left right) = Good scope left × Good scope right
  Good scope (c.Conditional test left right) = Good scope test × Good scope left × Good scope right
  Good scope (c.Assign op target value) = GoodAssignment op × Good scope target × Good scope value
  Good scope (c.Comma parts) = IsSequence parts × GoodAll scope parts
  Good scope (c.Marked marks e) = AreSome marks × GoodMarks scope marks × Good scope e
  Good scope (c.Decide e when_true when_false tag) = Good scope e × IsConstant when_true × IsConstant when_false × All IsByte tag
  Good scope (c.After e id tag) = Good scope e × IsConstant id × All IsByte tag

  pub GoodAll : Scope → c.Expressions → Type 0
  GoodAll scope c.no_expressions = Unit {0}
  GoodAll scope (c.an_expression e es) = Good scope e × GoodAll scope es

  pub GoodMarks : Scope → c.Marks → Type 0
  GoodMarks scope c.no_marks = Unit {0}
  GoodMarks scope (c.a_mark m ms) = GoodMark scope m × GoodMarks scope ms

  pub GoodMark : Scope → c.Mark → Type 0
  GoodMark scope (c.mark e id tag bound) = Good scope e × IsConstant id × All IsByte tag × GoodBindings scope bound

  pub GoodBindings : Scope → c.Bindings → Type 0
  GoodBindings scope c.no_bindings = Unit {0}
  GoodBindings scope (c.a_binding w e bound) = IsIdentifier w × Good scope e × GoodBindings scope bound

-- a comma expression that goes on
pub longer : (front parts : c.Expressions) → IsSequence front → IsSequence (followed_by front parts)
longer c.no_expressions parts is = absurd is
longer (c.an_expression e c.no_expressions) parts is = absurd is
longer (c.an_expression e (c.an_expression x xs)) parts is = is

-- parts that follow others
pub all_joined : (scope : Scope) (front parts : c.Expressions) → GoodAll scope front → GoodAll scope parts → GoodAll scope (followed_by front parts)
all_joined scope c.no_expressions parts a b = b
all_joined scope (c.an_expression e es) parts a b = (a.0, all_joined scope es parts a.1 b)
