-- Signs and terminals are read back, each by its cases.
use Rattle.std.proofs.Common.{◌≡◌, Option, Some, None, refl}
use Rattle.lt_model.specs.declared.operator.Op.{Op}
use Rattle.lt_model.specs.declared.operator.Op.TheVariants as op
use Rattle.lt_token.specs.Words as all
use Rattle.lt_tree.specs.declared.expression.UnaryOp.{UnaryOp}
use Rattle.lt_tree.specs.declared.expression.UnaryOp.TheVariants as unary
use Rattle.lt_tree.specs.declared.expression.LogicalOp.{LogicalOp}
use Rattle.lt_tree.specs.declared.expression.LogicalOp.TheVariants as logical
use Rattle.lt_tree.specs.declared.specifier.Storage.{Storage}
use Rattle.lt_tree.specs.declared.specifier.Storage.TheVariants as storage
use Rattle.lt_tree.specs.declared.specifier.BasicType.{BasicType}
use Rattle.lt_tree.specs.declared.specifier.BasicType.TheVariants as basic
use Rattle.lt_tree.specs.declared.specifier.TypeWord.{TypeWord}
use Rattle.lt_tree.specs.declared.specifier.TypeWord.TheVariants as w
use Rattle.lt_tree.specs.declared.terminal.Terminal.{Terminal}
use Rattle.lt_tree.specs.declared.terminal.Terminal.TheVariants as t
use Rattle.lt_tree.specs.Symbols.{keywords, punctuators, reserved}
use Rattle.lt_tree.specs.Operators.{arithmetic, connective, infix_of, prefix_of, assignment_of, storage_of, type_word_of}
use Rattle.lt_tree.specs.TypeWords.{basic_of, spellings, all_words, same_word}
use Rattle.lt_tree.specs.Canon.{sign_of_binary, sign_of_logical, sign_of_unary, sign_of_assignment, sign_of_storage, sign_of_word, words_of, tightness, tightness_of_logical}
use Rattle.lt_tree_laws.specs.Laws.{SignsAreReadBack, TerminalsAreTokens}

binary : (o : Op) → infix_of (sign_of_binary o) ≡ Some (arithmetic o, tightness o)
binary op.Add = refl
binary op.Sub = refl
binary op.Mul = refl
binary op.Div = refl
binary op.Rem = refl
binary op.Shl = refl
binary op.Shr = refl
binary op.And = refl
binary op.Or = refl
binary op.Xor = refl
binary op.Lt = refl
binary op.Le = refl
binary op.Gt = refl
binary op.Ge = refl
binary op.Eq = refl
binary op.Ne = refl

connectives : (o : LogicalOp) → infix_of (sign_of_logical o) ≡ Some (connective o, tightness_of_logical o)
connectives logical.And = refl
connectives logical.Or = refl

prefixes : (o : UnaryOp) → prefix_of (sign_of_unary o) ≡ Some o
prefixes unary.AddressOf = refl
prefixes unary.Dereference = refl
prefixes unary.Plus = refl
prefixes unary.Minus = refl
prefixes unary.Complement = refl
prefixes unary.Not = refl

-- the sign of the assignment that is read, if one is
signs : (o p : Option Op) → Some o ≡ Some p → sign_of_assignment p ≡ sign_of_assignment o
signs o p e = rw (some_same o p e) refl
  where
    some_same : (o p : Option Op) → Some o ≡ Some p → p ≡ o
    some_same o p e = cc

assignments : (k : Terminal) (o : Option Op) → assignment_of k ≡ Some o → sign_of_assignment o ≡ k
assignments t.Equal o e = signs None o e
assignments t.StarEqual o e = signs (Some op.Mul) o e
assignments t.SlashEqual o e = signs (Some op.Div) o e
assignments t.PercentEqual o e = signs (Some op.Rem) o e
assignments t.PlusEqual o e = signs (Some op.Add) o e
assignments t.MinusEqual o e = signs (Some op.Sub) o e
assignments t.ShiftLeftEqual o e = signs (Some op.Shl) o e
assignments t.ShiftRightEqual o e = signs (Some op.Shr) o e
assignments t.AmpersandEqual o e = signs (Some op.And) o e
assignments t.CaretEqual o e = signs (Some op.Xor) o e
assignments t.BarEqual o e = signs (Some op.Or) o e
assignments k o e = absurd cc

classes : (class : Storage) → storage_of (sign_of_storage class) ≡ Some class
classes storage.Typedef = refl
classes storage.Extern = refl
classes storage.Static = refl
classes storage.Auto = refl
classes storage.Register = refl

words : (word : TypeWord) → type_word_of (sign_of_word word) ≡ Some word
words w.Void = refl
words w.Char = refl
words w.Short = refl
words w.Int = refl
words w.Long = refl
words w.Float = refl
words w.Double = refl
words w.Signed = refl
words w.Unsigned = refl
words w.Bool = refl

types : (type : BasicType) → basic_of (words_of type) ≡ Some type
unfolding spellings all_words same_word
types basic.Void = refl
types basic.Char = refl
types basic.SignedChar = refl
types basic.UnsignedChar = refl
types basic.Short = refl
types basic.UnsignedShort = refl
types basic.Int = refl
types basic.Unsigned = refl
types basic.Long = refl
types basic.UnsignedLong = refl
types basic.LongLong = refl
types basic.UnsignedLongLong = refl
types basic.Bool = refl
types basic.Float = refl
types basic.Double = refl
types basic.LongDouble = refl

pub read_back : SignsAreReadBack
read_back = (binary, connectives, prefixes, assignments, classes, words, types)

pub terminals : TerminalsAreTokens
unfolding keywords punctuators reserved all.keywords all.punctuators all.skipped all.unsupported
terminals = (refl, refl, refl, refl, refl, refl)
