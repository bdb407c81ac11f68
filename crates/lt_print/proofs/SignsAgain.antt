-- What a sign is written for is read from it.
use Rattle.std.proofs.Common.{◌≡◌, ◌≤◌, Option, Some, ap, ◌∙◌, arith}
use Rattle.lt_model.specs.declared.operator.Op.{Op}
use Rattle.lt_model.specs.declared.operator.Op.TheVariants as op
use Rattle.lt_tree.specs.declared.expression.UnaryOp.{UnaryOp}
use Rattle.lt_tree.specs.declared.expression.LogicalOp.{LogicalOp}
use Rattle.lt_tree.specs.declared.expression.LogicalOp.TheVariants as logical
use Rattle.lt_tree.specs.declared.specifier.Storage.{Storage}
use Rattle.lt_tree.specs.declared.specifier.BasicType.{BasicType}
use Rattle.lt_tree.specs.declared.specifier.TypeWord.{TypeWord}
use Rattle.lt_tree.specs.declared.terminal.Terminal.{Terminal}
use Rattle.lt_tree.specs.Operators.{arithmetic, connective, infix_of, prefix_of, assignment_of, storage_of, type_word_of}
use Rattle.lt_tree.specs.TypeWords.{basic_of}
use Rattle.lt_tree.specs.Canon.{sign_of_unary, sign_of_binary, sign_of_logical, sign_of_assignment, sign_of_storage, sign_of_word, words_of, tightness, tightness_of_logical}
use Rattle.lt_tree_laws.proofs.SignsBack.{read_back}

pub binary_sign : (o : Op) → infix_of (sign_of_binary o) ≡ Some (arithmetic o, tightness o)
binary_sign o = read_back.0 o

pub logical_sign : (o : LogicalOp) → infix_of (sign_of_logical o) ≡ Some (connective o, tightness_of_logical o)
logical_sign o = read_back.1 o

pub unary_sign : (o : UnaryOp) → prefix_of (sign_of_unary o) ≡ Some o
unary_sign o = read_back.2 o

-- an assignment that some sign is
pub assignment_sign : (k : Terminal) (o : Option Op) → assignment_of k ≡ Some o → assignment_of (sign_of_assignment o) ≡ Some o
assignment_sign k o e = ap assignment_of (read_back.3 k o e) ∙ e

pub storage_sign : (class : Storage) → storage_of (sign_of_storage class) ≡ Some class
storage_sign class = read_back.4 class

pub word_sign : (word : TypeWord) → type_word_of (sign_of_word word) ≡ Some word
word_sign word = read_back.5 word

pub basic_again : (type : BasicType) → basic_of (words_of type) ≡ Some type
basic_again type = read_back.6 type

-- there are ten levels of operators
pub tight : (o : Op) → tightness o ≤ 9
tight op.Add = omega arith
tight op.Sub = omega arith
tight op.Mul = omega arith
tight op.Div = omega arith
tight op.Rem = omega arith
tight op.Shl = omega arith
tight op.Shr = omega arith
tight op.And = omega arith
tight op.Or = omega arith
tight op.Xor = omega arith
tight op.Lt = omega arith
tight op.Le = omega arith
tight op.Gt = omega arith
tight op.Ge = omega arith
tight op.Eq = omega arith
tight op.Ne = omega arith

pub tight_logical : (o : LogicalOp) → tightness_of_logical o ≤ 9
tight_logical logical.And = omega arith
tight_logical logical.Or = omega arith
