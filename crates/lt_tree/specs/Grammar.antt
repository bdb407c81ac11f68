-- The grammar of expressions, of the types in them and of declarators, C11 6.5, 6.7.2, 6.7.6 and 6.7.7, each rule beside its production.
-- A relation says that the symbols ts, up to the rest, are this tree. It also gives the spots: for each node of the tree, in the order of a
-- walk from parent to child, the byte of its first token; `spots` has these before `more`.
use Rattle.std.specs.Prelude.{◌≡◌, ℕ, suc, Bool, true, false, List, [], ◌∷◌, ◌++◌, Option, Some, None}
use Rattle.lt_model.specs.declared.operator.Op.{Op}
use Rattle.lt_tree.specs.declared.expression.UnaryOp.{UnaryOp}
use Rattle.lt_tree.specs.declared.specifier.Storage.{Storage}
use Rattle.lt_tree.specs.declared.specifier.TypeWord.{TypeWord}
use Rattle.lt_tree.specs.declared.terminal.Terminal.{Terminal}
use Rattle.lt_tree.specs.declared.terminal.Terminal.TheVariants as t
use Rattle.lt_tree.specs.Strings.{Spells}
use Rattle.lt_tree.specs.Tree as c
use Rattle.lt_tree.specs.Comma.{followed_by, is_comma}
use Rattle.lt_tree.specs.Symbols as s
use Rattle.lt_tree.specs.Symbols.{Symbol, start_of}
use Rattle.lt_tree.specs.TypeWords.{gathered}
use Rattle.lt_tree.specs.Scope.{Scope, is_type, after_expression, after_type, after_specifiers, after_parts, after_inside, after_member_declarator, after_member, after_enumerator, after_parameter}
use Rattle.lt_tree.specs.Operators.{Infix, operation, infix_of, prefix_of, assignment_of, storage_of, type_word_of}
use Rattle.lt_tree.specs.Ahead.{Naming, named, nameless, either, naming_behind, behind_star, takes_name, takes_none, opens_parameters, begins_direct, sees, begins_specifier, begins_declarator, begins_suffix, is_void_alone, goes_on}

-- The levels of an expression, the loosest first. The binary operators have levels from 0, `||`, to 9, `*`.
pub data Level : Type 0 where
  comma : Level
  marked : Level
  assignment : Level
  conditional : Level
  binary : ℕ → Level
  cast : Level
  unary : Level
  postfix : Level
  primary : Level

-- a literal, as written, and the bytes between its quotes
pub data IsLiteral : (text : List ℕ) → (bytes : List ℕ) → Type 0 where
  quoted : {text bytes : List ℕ} → Spells text bytes → IsLiteral (34 ∷ text) bytes

-- STRING+
pub data IsText : (ts : List Symbol) → (bytes : List ℕ) → (rest : List Symbol) → Type 0 where
  one_literal : {w bytes : List ℕ} {at : ℕ} {rest : List Symbol} → IsLiteral w bytes → IsText (s.literal w at ∷ rest) bytes rest
  more_literals : {w front bytes : List ℕ} {at : ℕ} {ts rest : List Symbol}
      → IsLiteral w front → IsText ts bytes rest → IsText (s.literal w at ∷ ts) (front ++ bytes) rest

-- qualifier*
pub data AreQualifiers : (ts : List Symbol) → (qualifiers : c.Qualifiers) → (rest : List Symbol) → Type 0 where
  no_qualifiers : {ts : List Symbol} → sees t.Const ts ≡ false → sees t.Volatile ts ≡ false
      → AreQualifiers ts (record { constant = false; volatile = false }) ts
  constant : {at : ℕ} {ts rest : List Symbol} {q : c.Qualifiers}
      → AreQualifiers ts q rest → AreQualifiers (s.sign t.Const at ∷ ts) (record q { constant = true }) rest
  volatile : {at : ℕ} {ts rest : List Symbol} {q : c.Qualifiers}
      → AreQualifiers ts q rest → AreQualifiers (s.sign t.Volatile at ∷ ts) (record q { volatile = true }) rest

-- the qualifiers and other words of specifiers that have none
abbrev pub no_words : c.Words
no_words = record { storage = []; inline = false; noreturn = false; qualifiers = record { constant = false; volatile = false } }

abbrev pub with_storage : Storage → c.Words → c.Words
with_storage class words = record words { storage = class ∷ words.storage }

abbrev pub with_const : c.Words → c.Words
with_const words = record words { qualifiers = record { constant = true; volatile = words.qualifiers.volatile } }

abbrev pub with_volatile : c.Words → c.Words
with_volatile words = record words { qualifiers = record { constant = words.qualifiers.constant; volatile = true } }

-- a declarator that is no node: it has neither name nor parts
abbrev pub is_missing : Option (List ℕ) → c.Parts → Bool
is_missing None c.no_parts = true
is_missing name parts = false

-- the parts of a declarator, and then those around it
abbrev pub joined : c.Parts → c.Parts → c.Parts
joined c.no_parts outer = outer
joined (c.Pointer q rest) outer = c.Pointer q (joined rest outer)
joined (c.Array length rest) outer = c.Array length (joined rest outer)
joined (c.Function parameters rest) outer = c.Function parameters (joined rest outer)

mutual
  pub data IsExpression : (scope : Scope) → (level : Level) → (ts : List Symbol) → (e : c.Expression) → (rest : List Symbol) → (spots more : List ℕ) → Type 0 where
    -- primary = NAME | CONSTANT | STRING+ | '(' expr ')'; a typedef name in scope is no NAME here
    name : {scope : Scope} {w : List ℕ} {at : ℕ} {rest : List Symbol} {more : List ℕ}
        → is_type scope w ≡ false → IsExpression scope primary (s.name w at ∷ rest) (c.Name w) rest (at ∷ more) more
    constant : {scope : Scope} {w : List ℕ} {at : ℕ} {rest : List Symbol} {more : List ℕ}
        → IsExpression scope primary (s.constant w at ∷ rest) (c.Constant w) rest (at ∷ more) more
    text : {scope : Scope} {ts rest : List Symbol} {bytes more : List ℕ}
        → IsText ts bytes rest → IsExpression scope primary ts (c.Text bytes) rest (start_of ts ∷ more) more
    parentheses : {scope : Scope} {a b : ℕ} {ts rest : List Symbol} {e : c.Expression} {spots more : List ℕ}
        → IsExpression scope comma ts e (s.sign t.CloseParen b ∷ rest) spots more
        → IsExpression scope primary (s.sign t.OpenParen a ∷ ts) e rest spots more
    -- | 'pc_decide' '(' assign ',' CONSTANT ',' CONSTANT ',' STRING ')'
    decide : {scope : Scope} {at a b c' d f g h i : ℕ} {ts rest : List Symbol} {e : c.Expression} {yes_id no_id raw tag spots more : List ℕ}
        → IsExpression scope assignment ts e
        (s.sign t.Comma b ∷ s.constant yes_id c' ∷ s.sign t.Comma d ∷ s.constant no_id f ∷ s.sign t.Comma g ∷ s.literal raw h ∷ s.sign t.CloseParen i ∷ rest) spots more
        → IsLiteral raw tag
        → IsExpression scope primary (s.sign t.Decide at ∷ s.sign t.OpenParen a ∷ ts) (c.Decide e yes_id no_id tag) rest (at ∷ spots) more
    -- | 'pc_after' '(' assign ',' CONSTANT ',' STRING ')'
    after : {scope : Scope} {at a b c' d f g : ℕ} {ts rest : List Symbol} {e : c.Expression} {id raw tag spots more : List ℕ}
        → IsExpression scope assignment ts e (s.sign t.Comma b ∷ s.constant id c' ∷ s.sign t.Comma d ∷ s.literal raw f ∷ s.sign t.CloseParen g ∷ rest) spots more
        → IsLiteral raw tag
        → IsExpression scope primary (s.sign t.After at ∷ s.sign t.OpenParen a ∷ ts) (c.After e id tag) rest (at ∷ spots) more
    -- postfix = primary | postfix '[' expr ']' | postfix '(' assign,* ')' | postfix '.' NAME | postfix '->' NAME | postfix '++' | postfix '--'
    of_primary : {scope : Scope} {ts rest : List Symbol} {e : c.Expression} {spots more : List ℕ}
        → IsExpression scope primary ts e rest spots more → IsExpression scope postfix ts e rest spots more
    index : {scope : Scope} {a b : ℕ} {ts us rest : List Symbol} {whole place : c.Expression} {spots between more : List ℕ}
        → IsExpression scope postfix ts whole (s.sign t.OpenIndex a ∷ us) spots between
        → IsExpression scope comma us place (s.sign t.CloseIndex b ∷ rest) between more
        → IsExpression scope postfix ts (c.Index whole place) rest (start_of ts ∷ spots) more
    call : {scope : Scope} {a b : ℕ} {ts us rest : List Symbol} {callee : c.Expression} {arguments : c.Expressions} {spots between more : List ℕ}
        → IsExpression scope postfix ts callee (s.sign t.OpenParen a ∷ us) spots between
        → AreArguments scope us arguments (s.sign t.CloseParen b ∷ rest) between more
        → IsExpression scope postfix ts (c.Call callee arguments) rest (start_of ts ∷ spots) more
    member : {scope : Scope} {a b : ℕ} {w : List ℕ} {ts rest : List Symbol} {e : c.Expression} {spots more : List ℕ}
        → IsExpression scope postfix ts e (s.sign t.Dot a ∷ s.name w b ∷ rest) spots more
        → IsExpression scope postfix ts (c.Member e w) rest (start_of ts ∷ spots) more
    arrow : {scope : Scope} {a b : ℕ} {w : List ℕ} {ts rest : List Symbol} {e : c.Expression} {spots more : List ℕ}
        → IsExpression scope postfix ts e (s.sign t.Arrow a ∷ s.name w b ∷ rest) spots more
        → IsExpression scope postfix ts (c.Arrow e w) rest (start_of ts ∷ spots) more
    increment_behind : {scope : Scope} {a : ℕ} {ts rest : List Symbol} {e : c.Expression} {spots more : List ℕ}
        → IsExpression scope postfix ts e (s.sign t.Increment a ∷ rest) spots more
        → IsExpression scope postfix ts (c.PostInc e) rest (start_of ts ∷ spots) more
    decrement_behind : {scope : Scope} {a : ℕ} {ts rest : List Symbol} {e : c.Expression} {spots more : List ℕ}
        → IsExpression scope postfix ts e (s.sign t.Decrement a ∷ rest) spots more
        → IsExpression scope postfix ts (c.PostDec e) rest (start_of ts ∷ spots) more
    -- unary = postfix | ('++' | '--') unary | PREFIX cast | 'sizeof' unary | 'sizeof' '(' typename ')'
    of_postfix : {scope : Scope} {ts rest : List Symbol} {e : c.Expression} {spots more : List ℕ}
        → IsExpression scope postfix ts e rest spots more → IsExpression scope unary ts e rest spots more
    increment_before : {scope : Scope} {at : ℕ} {ts rest : List Symbol} {e : c.Expression} {spots more : List ℕ}
        → IsExpression scope unary ts e rest spots more
        → IsExpression scope unary (s.sign t.Increment at ∷ ts) (c.PreInc e) rest (at ∷ spots) more
    decrement_before : {scope : Scope} {at : ℕ} {ts rest : List Symbol} {e : c.Expression} {spots more : List ℕ}
        → IsExpression scope unary ts e rest spots more
        → IsExpression scope unary (s.sign t.Decrement at ∷ ts) (c.PreDec e) rest (at ∷ spots) more
    prefixed : {scope : Scope} {k : Terminal} {at : ℕ} {op : UnaryOp} {ts rest : List Symbol} {e : c.Expression} {spots more : List ℕ}
        → prefix_of k ≡ Some op → IsExpression scope cast ts e rest spots more
        → IsExpression scope unary (s.sign k at ∷ ts) (c.Unary op e) rest (at ∷ spots) more
    sizeof_expression : {scope : Scope} {at : ℕ} {ts rest : List Symbol} {e : c.Expression} {spots more : List ℕ}
        → IsExpression scope unary ts e rest spots more
        → IsExpression scope unary (s.sign t.Sizeof at ∷ ts) (c.SizeofExpr e) rest (at ∷ spots) more
    sizeof_type : {scope : Scope} {at a b : ℕ} {ts rest : List Symbol} {ss : c.Specifiers} {d : c.Declarator} {spots more : List ℕ}
        → IsTypeName scope ts ss d (s.sign t.CloseParen b ∷ rest) spots more
        → IsExpression scope unary (s.sign t.Sizeof at ∷ s.sign t.OpenParen a ∷ ts) (c.SizeofType ss d) rest (at ∷ spots) more
    -- cast = unary | '(' typename ')' cast
    of_unary : {scope : Scope} {ts rest : List Symbol} {e : c.Expression} {spots more : List ℕ}
        → IsExpression scope unary ts e rest spots more → IsExpression scope cast ts e rest spots more
    cast_to : {scope : Scope} {at b : ℕ} {ts us rest : List Symbol} {ss : c.Specifiers} {d : c.Declarator} {e : c.Expression} {spots between more : List ℕ}
        → IsTypeName scope ts ss d (s.sign t.CloseParen b ∷ us) spots between → IsExpression scope cast us e rest between more
        → IsExpression scope cast (s.sign t.OpenParen at ∷ ts) (c.Cast ss d e) rest (at ∷ spots) more
    -- the binary levels; operators of one level group to the left
    of_cast : {scope : Scope} {n : ℕ} {ts rest : List Symbol} {e : c.Expression} {spots more : List ℕ}
        → IsExpression scope cast ts e rest spots more → IsExpression scope (binary n) ts e rest spots more
    of_tighter : {scope : Scope} {n : ℕ} {ts rest : List Symbol} {e : c.Expression} {spots more : List ℕ}
        → IsExpression scope (binary (suc n)) ts e rest spots more → IsExpression scope (binary n) ts e rest spots more
    operates : {scope : Scope} {k : Terminal} {at n : ℕ} {op : Infix} {ts us rest : List Symbol} {left right : c.Expression} {spots between more : List ℕ}
        → IsExpression scope (binary n) ts left (s.sign k at ∷ us) spots between → infix_of k ≡ Some (op, n)
        → IsExpression scope (binary (suc n)) us right rest between more
        → IsExpression scope (binary n) ts (operation op left right) rest (start_of ts ∷ spots) more
    -- cond = or | or '?' expr ':' cond
    of_binary : {scope : Scope} {ts rest : List Symbol} {e : c.Expression} {spots more : List ℕ}
        → IsExpression scope (binary 0) ts e rest spots more → IsExpression scope conditional ts e rest spots more
    choice : {scope : Scope} {a b : ℕ} {ts us vs rest : List Symbol} {test left right : c.Expression} {spots first second more : List ℕ}
        → IsExpression scope (binary 0) ts test (s.sign t.Question a ∷ us) spots first
        → IsExpression scope comma us left (s.sign t.Colon b ∷ vs) first second
        → IsExpression scope conditional vs right rest second more
        → IsExpression scope conditional ts (c.Conditional test left right) rest (start_of ts ∷ spots) more
    -- assign = cond | unary ASSIGNOP assign
    of_conditional : {scope : Scope} {ts rest : List Symbol} {e : c.Expression} {spots more : List ℕ}
        → IsExpression scope conditional ts e rest spots more → IsExpression scope assignment ts e rest spots more
    assigns : {scope : Scope} {k : Terminal} {at : ℕ} {op : Option Op} {ts us rest : List Symbol} {target value : c.Expression} {spots between more : List ℕ}
        → IsExpression scope unary ts target (s.sign k at ∷ us) spots between → assignment_of k ≡ Some op
        → IsExpression scope assignment us value rest between more
        → IsExpression scope assignment ts (c.Assign op target value) rest (start_of ts ∷ spots) more
    -- marked = (mark ',')* assign
    of_assignment : {scope : Scope} {ts rest : List Symbol} {e : c.Expression} {spots more : List ℕ}
        → IsExpression scope assignment ts e rest spots more → IsExpression scope marked ts e rest spots more
    behind_marks : {scope : Scope} {ts us rest : List Symbol} {marks : c.Marks} {e : c.Expression} {spots between more : List ℕ}
        → AreMarks scope ts marks us spots between → IsExpression scope assignment us e rest between more
        → IsExpression scope marked ts (c.Marked marks e) rest (start_of ts ∷ spots) more
    -- expr = marked | expr ',' marked; the parts of a comma expression that begins another are its own, and it is no node
    of_marked : {scope : Scope} {ts rest : List Symbol} {e : c.Expression} {spots more : List ℕ}
        → IsExpression scope marked ts e rest spots more → IsExpression scope comma ts e rest spots more
    sequence : {scope : Scope} {a : ℕ} {ts us rest : List Symbol} {first : c.Expression} {parts : c.Expressions} {spots between more : List ℕ}
        → IsExpression scope marked ts first (s.sign t.Comma a ∷ us) spots between → is_comma first ≡ false
        → AreParts scope us parts rest between more
        → IsExpression scope comma ts (c.Comma (c.an_expression first parts)) rest (start_of ts ∷ spots) more
    longer_sequence : {scope : Scope} {a p : ℕ} {ts us rest : List Symbol} {front parts : c.Expressions} {spots between more : List ℕ}
        → IsExpression scope marked ts (c.Comma front) (s.sign t.Comma a ∷ us) (p ∷ spots) between
        → AreParts scope us parts rest between more
        → IsExpression scope comma ts (c.Comma (followed_by front parts)) rest (start_of ts ∷ spots) more

  -- marked,+
  pub data AreParts : (scope : Scope) → (ts : List Symbol) → (parts : c.Expressions) → (rest : List Symbol) → (spots more : List ℕ) → Type 0 where
    last_part : {scope : Scope} {ts rest : List Symbol} {e : c.Expression} {spots more : List ℕ}
        → IsExpression scope marked ts e rest spots more → AreParts scope ts (c.an_expression e c.no_expressions) rest spots more
    more_parts : {scope : Scope} {a : ℕ} {ts us rest : List Symbol} {e : c.Expression} {es : c.Expressions} {spots between more : List ℕ}
        → IsExpression scope marked ts e (s.sign t.Comma a ∷ us) spots between → AreParts scope us es rest between more
        → AreParts scope ts (c.an_expression e es) rest spots more

  -- assign,*
  pub data AreArguments : (scope : Scope) → (ts : List Symbol) → (arguments : c.Expressions) → (rest : List Symbol) → (spots more : List ℕ) → Type 0 where
    no_arguments : {scope : Scope} {ts : List Symbol} {more : List ℕ} → AreArguments scope ts c.no_expressions ts more more
    last_argument : {scope : Scope} {ts rest : List Symbol} {e : c.Expression} {spots more : List ℕ}
        → IsExpression scope assignment ts e rest spots more → AreArguments scope ts (c.an_expression e c.no_expressions) rest spots more
    more_arguments : {scope : Scope} {a : ℕ} {ts us rest : List Symbol} {e f : c.Expression} {es : c.Expressions} {spots between more : List ℕ}
        → IsExpression scope assignment ts e (s.sign t.Comma a ∷ us) spots between → AreArguments scope us (c.an_expression f es) rest between more
        → AreArguments scope ts (c.an_expression e (c.an_expression f es)) rest spots more

  -- mark = 'pc_label' '(' assign ',' CONSTANT ',' STRING ')' | 'pc_label_bind' '(' assign ',' CONSTANT ',' STRING (',' NAME ',' assign)+ ')'
  pub data IsMark : (scope : Scope) → (ts : List Symbol) → (mark : c.Mark) → (rest : List Symbol) → (spots more : List ℕ) → Type 0 where
    label : {scope : Scope} {at a b c' d f g : ℕ} {ts rest : List Symbol} {e : c.Expression} {id raw tag spots more : List ℕ}
        → IsExpression scope assignment ts e (s.sign t.Comma b ∷ s.constant id c' ∷ s.sign t.Comma d ∷ s.literal raw f ∷ s.sign t.CloseParen g ∷ rest) spots more
        → IsLiteral raw tag
        → IsMark scope (s.sign t.Label at ∷ s.sign t.OpenParen a ∷ ts) (c.mark e id tag c.no_bindings) rest (at ∷ spots) more
    binding_label : {scope : Scope} {at a b c' d f g : ℕ} {ts us rest : List Symbol} {e : c.Expression} {id raw tag : List ℕ} {bound : c.Bindings} {spots between more : List ℕ}
        → IsExpression scope assignment ts e (s.sign t.Comma b ∷ s.constant id c' ∷ s.sign t.Comma d ∷ s.literal raw f ∷ us) spots between
        → IsLiteral raw tag → AreBindings scope us bound (s.sign t.CloseParen g ∷ rest) between more
        → IsMark scope (s.sign t.LabelBind at ∷ s.sign t.OpenParen a ∷ ts) (c.mark e id tag bound) rest (at ∷ spots) more

  -- (',' NAME ',' assign)+
  pub data AreBindings : (scope : Scope) → (ts : List Symbol) → (bound : c.Bindings) → (rest : List Symbol) → (spots more : List ℕ) → Type 0 where
    last_binding : {scope : Scope} {a b d : ℕ} {w : List ℕ} {ts rest : List Symbol} {e : c.Expression} {spots more : List ℕ}
        → IsExpression scope assignment ts e rest spots more
        → AreBindings scope (s.sign t.Comma a ∷ s.name w b ∷ s.sign t.Comma d ∷ ts) (c.a_binding w e c.no_bindings) rest spots more
    more_bindings : {scope : Scope} {a b d : ℕ} {w : List ℕ} {ts us rest : List Symbol} {e : c.Expression} {bound : c.Bindings} {spots between more : List ℕ}
        → IsExpression scope assignment ts e us spots between → AreBindings scope us bound rest between more
        → AreBindings scope (s.sign t.Comma a ∷ s.name w b ∷ s.sign t.Comma d ∷ ts) (c.a_binding w e bound) rest spots more

  -- (mark ',')+
  pub data AreMarks : (scope : Scope) → (ts : List Symbol) → (marks : c.Marks) → (rest : List Symbol) → (spots more : List ℕ) → Type 0 where
    last_mark : {scope : Scope} {a : ℕ} {ts rest : List Symbol} {m : c.Mark} {spots more : List ℕ}
        → IsMark scope ts m (s.sign t.Comma a ∷ rest) spots more → AreMarks scope ts (c.a_mark m c.no_marks) rest spots more
    more_marks : {scope : Scope} {a : ℕ} {ts us rest : List Symbol} {m : c.Mark} {ms : c.Marks} {spots between more : List ℕ}
        → IsMark scope ts m (s.sign t.Comma a ∷ us) spots between → AreMarks scope us ms rest between more
        → AreMarks scope ts (c.a_mark m ms) rest spots more

  -- typename = specs abstract?
  pub data IsTypeName : (scope : Scope) → (ts : List Symbol) → (ss : c.Specifiers) → (d : c.Declarator) → (rest : List Symbol) → (spots more : List ℕ) → Type 0 where
    type_name : {scope : Scope} {ts us rest : List Symbol} {ss : c.Specifiers} {d : c.Declarator} {spots between more : List ℕ}
        → AreSpecifiers scope ts ss us spots between → IsDeclarator (after_specifiers ss scope) nameless us d rest between more
        → IsTypeName scope ts ss d rest spots more

  -- specs: one or more of the words for storage, `inline`, `_Noreturn`, qualifiers, type words, structs, enums and typedef names
  pub data AreSpecifiers : (scope : Scope) → (ts : List Symbol) → (ss : c.Specifiers) → (rest : List Symbol) → (spots more : List ℕ) → Type 0 where
    some_specifiers : {scope : Scope} {ts rest : List Symbol} {words : c.Words} {types : c.TypeSpecifiers} {spots more : List ℕ}
        → begins_specifier scope false ts ≡ true → AreFurther scope false ts words types rest spots more
        → AreSpecifiers scope ts (c.specifiers words (gathered types)) rest spots more

  -- specifiers up to what is none; `typed` says that a type was named before
  pub data AreFurther : (scope : Scope) → (typed : Bool) → (ts : List Symbol) → (words : c.Words) → (types : c.TypeSpecifiers) → (rest : List Symbol) → (spots more : List ℕ) → Type 0 where
    no_further : {scope : Scope} {typed : Bool} {ts : List Symbol} {more : List ℕ}
        → begins_specifier scope typed ts ≡ false → AreFurther scope typed ts no_words c.no_types ts more more
    storage : {scope : Scope} {typed : Bool} {k : Terminal} {at : ℕ} {class : Storage} {ts rest : List Symbol} {words : c.Words} {types : c.TypeSpecifiers} {spots more : List ℕ}
        → storage_of k ≡ Some class → AreFurther scope typed ts words types rest spots more
        → AreFurther scope typed (s.sign k at ∷ ts) (with_storage class words) types rest spots more
    inline_word : {scope : Scope} {typed : Bool} {at : ℕ} {ts rest : List Symbol} {words : c.Words} {types : c.TypeSpecifiers} {spots more : List ℕ}
        → AreFurther scope typed ts words types rest spots more
        → AreFurther scope typed (s.sign t.Inline at ∷ ts) (record words { inline = true }) types rest spots more
    noreturn_word : {scope : Scope} {typed : Bool} {at : ℕ} {ts rest : List Symbol} {words : c.Words} {types : c.TypeSpecifiers} {spots more : List ℕ}
        → AreFurther scope typed ts words types rest spots more
        → AreFurther scope typed (s.sign t.Noreturn at ∷ ts) (record words { noreturn = true }) types rest spots more
    const_word : {scope : Scope} {typed : Bool} {at : ℕ} {ts rest : List Symbol} {words : c.Words} {types : c.TypeSpecifiers} {spots more : List ℕ}
        → AreFurther scope typed ts words types rest spots more
        → AreFurther scope typed (s.sign t.Const at ∷ ts) (with_const words) types rest spots more
    volatile_word : {scope : Scope} {typed : Bool} {at : ℕ} {ts rest : List Symbol} {words : c.Words} {types : c.TypeSpecifiers} {spots more : List ℕ}
        → AreFurther scope typed ts words types rest spots more
        → AreFurther scope typed (s.sign t.Volatile at ∷ ts) (with_volatile words) types rest spots more
    type_word : {scope : Scope} {typed : Bool} {k : Terminal} {at : ℕ} {word : TypeWord} {ts rest : List Symbol} {words : c.Words} {types : c.TypeSpecifiers} {spots more : List ℕ}
        → type_word_of k ≡ Some word → AreFurther scope true ts words types rest spots more
        → AreFurther scope typed (s.sign k at ∷ ts) words (c.a_type (c.Word word) types) rest spots more
    typedef_name : {scope : Scope} {w : List ℕ} {at : ℕ} {ts rest : List Symbol} {words : c.Words} {types : c.TypeSpecifiers} {spots more : List ℕ}
        → is_type scope w ≡ true → AreFurther scope true ts words types rest spots more
        → AreFurther scope false (s.name w at ∷ ts) words (c.a_type (c.Named w) types) rest spots more
    struct_or_enum : {scope : Scope} {typed : Bool} {ts us rest : List Symbol} {type : c.TypeSpecifier} {words : c.Words} {types : c.TypeSpecifiers} {spots between more : List ℕ}
        → IsTagged scope ts type us spots between → AreFurther (after_type type scope) true us words types rest between more
        → AreFurther scope typed ts words (c.a_type type types) rest spots more

  -- struct = 'struct' NAME? '{' member* '}' | 'struct' NAME; enum = 'enum' NAME? '{' (NAME ('=' cond)?),+ ','? '}' | 'enum' NAME
  pub data IsTagged : (scope : Scope) → (ts : List Symbol) → (type : c.TypeSpecifier) → (rest : List Symbol) → (spots more : List ℕ) → Type 0 where
    struct_tag : {scope : Scope} {a b : ℕ} {w : List ℕ} {rest : List Symbol} {more : List ℕ}
        → sees t.OpenBrace rest ≡ false → IsTagged scope (s.sign t.Struct a ∷ s.name w b ∷ rest) (c.StructTag w) rest more more
    struct_with_tag : {scope : Scope} {a b d : ℕ} {w : List ℕ} {ts rest : List Symbol} {members : c.Members} {spots more : List ℕ}
        → AreMembers scope ts members rest spots more
        → IsTagged scope (s.sign t.Struct a ∷ s.name w b ∷ s.sign t.OpenBrace d ∷ ts) (c.Struct (Some w) members) rest spots more
    struct_without_tag : {scope : Scope} {a d : ℕ} {ts rest : List Symbol} {members : c.Members} {spots more : List ℕ}
        → AreMembers scope ts members rest spots more
        → IsTagged scope (s.sign t.Struct a ∷ s.sign t.OpenBrace d ∷ ts) (c.Struct None members) rest spots more
    enum_tag : {scope : Scope} {a b : ℕ} {w : List ℕ} {rest : List Symbol} {more : List ℕ}
        → sees t.OpenBrace rest ≡ false → IsTagged scope (s.sign t.Enum a ∷ s.name w b ∷ rest) (c.EnumTag w) rest more more
    enum_with_tag : {scope : Scope} {a b d : ℕ} {w : List ℕ} {ts rest : List Symbol} {enumerators : c.Enumerators} {spots more : List ℕ}
        → AreEnumerators scope ts enumerators rest spots more
        → IsTagged scope (s.sign t.Enum a ∷ s.name w b ∷ s.sign t.OpenBrace d ∷ ts) (c.Enum (Some w) enumerators) rest spots more
    enum_without_tag : {scope : Scope} {a d : ℕ} {ts rest : List Symbol} {enumerators : c.Enumerators} {spots more : List ℕ}
        → AreEnumerators scope ts enumerators rest spots more
        → IsTagged scope (s.sign t.Enum a ∷ s.sign t.OpenBrace d ∷ ts) (c.Enum None enumerators) rest spots more

  -- member* '}', with member = specs (declarator (':' cond)?),* ';'; the enumerators of a member are in scope for those behind it
  pub data AreMembers : (scope : Scope) → (ts : List Symbol) → (members : c.Members) → (rest : List Symbol) → (spots more : List ℕ) → Type 0 where
    no_more_members : {scope : Scope} {at : ℕ} {rest : List Symbol} {more : List ℕ} → AreMembers scope (s.sign t.CloseBrace at ∷ rest) c.no_members rest more more
    one_more_member : {scope : Scope} {ts us vs rest : List Symbol} {ss : c.Specifiers} {ds : c.MemberDeclarators} {members : c.Members} {spots first second more : List ℕ}
        → AreSpecifiers scope ts ss us spots first → AreMemberDeclarators (after_specifiers ss scope) (naming_behind ss) us ds vs first second
        → AreMembers (after_member (c.member ss ds) scope) vs members rest second more
        → AreMembers scope ts (c.a_member (c.member ss ds) members) rest (start_of ts ∷ spots) more

  -- (declarator (':' cond)?),* ';'; only the first stands directly behind the specifiers
  pub data AreMemberDeclarators : (scope : Scope) → (naming : Naming) → (ts : List Symbol) → (ds : c.MemberDeclarators) → (rest : List Symbol) → (spots more : List ℕ) → Type 0 where
    no_member_declarators : {scope : Scope} {naming : Naming} {at : ℕ} {rest : List Symbol} {more : List ℕ}
        → AreMemberDeclarators scope naming (s.sign t.Semicolon at ∷ rest) c.no_declarators rest more more
    last_member_declarator : {scope : Scope} {naming : Naming} {at : ℕ} {ts us rest : List Symbol} {d : c.Declarator} {width : c.Maybe} {spots between more : List ℕ}
        → IsDeclarator scope naming ts d us spots between → IsAfterSign (after_inside d scope) t.Colon us width (s.sign t.Semicolon at ∷ rest) between more
        → AreMemberDeclarators scope naming ts (c.a_declarator d width c.no_declarators) rest spots more
    more_member_declarators : {scope : Scope} {naming : Naming} {at : ℕ} {ts us vs rest : List Symbol} {d e : c.Declarator} {width wide : c.Maybe} {ds : c.MemberDeclarators} {spots first second more : List ℕ}
        → IsDeclarator scope naming ts d us spots first → IsAfterSign (after_inside d scope) t.Colon us width (s.sign t.Comma at ∷ vs) first second
        → AreMemberDeclarators (after_member_declarator d width scope) named vs (c.a_declarator e wide ds) rest second more
        → AreMemberDeclarators scope naming ts (c.a_declarator d width (c.a_declarator e wide ds)) rest spots more

  -- (SIGN cond)?
  pub data IsAfterSign : (scope : Scope) → (k : Terminal) → (ts : List Symbol) → (e : c.Maybe) → (rest : List Symbol) → (spots more : List ℕ) → Type 0 where
    left_out : {scope : Scope} {k : Terminal} {ts : List Symbol} {more : List ℕ} → sees k ts ≡ false → IsAfterSign scope k ts c.absent ts more more
    given : {scope : Scope} {k : Terminal} {at : ℕ} {ts rest : List Symbol} {e : c.Expression} {spots more : List ℕ}
        → IsExpression scope conditional ts e rest spots more → IsAfterSign scope k (s.sign k at ∷ ts) (c.present e) rest spots more

  -- (NAME ('=' cond)?),+ ','? '}'; an enumerator is in scope for the values behind it
  pub data AreEnumerators : (scope : Scope) → (ts : List Symbol) → (enumerators : c.Enumerators) → (rest : List Symbol) → (spots more : List ℕ) → Type 0 where
    last_enumerator : {scope : Scope} {a b : ℕ} {w : List ℕ} {ts rest : List Symbol} {value : c.Maybe} {spots more : List ℕ}
        → IsAfterSign scope t.Equal ts value (s.sign t.CloseBrace b ∷ rest) spots more
        → AreEnumerators scope (s.name w a ∷ ts) (c.an_enumerator w value c.no_enumerators) rest (a ∷ spots) more
    last_enumerator_and_comma : {scope : Scope} {a b d : ℕ} {w : List ℕ} {ts rest : List Symbol} {value : c.Maybe} {spots more : List ℕ}
        → IsAfterSign scope t.Equal ts value (s.sign t.Comma b ∷ s.sign t.CloseBrace d ∷ rest) spots more
        → AreEnumerators scope (s.name w a ∷ ts) (c.an_enumerator w value c.no_enumerators) rest (a ∷ spots) more
    more_enumerators : {scope : Scope} {a b : ℕ} {w : List ℕ} {ts us rest : List Symbol} {value : c.Maybe} {es : c.Enumerators} {spots between more : List ℕ}
        → IsAfterSign scope t.Equal ts value (s.sign t.Comma b ∷ us) spots between → AreEnumerators (after_enumerator w value scope) us es rest between more
        → AreEnumerators scope (s.name w a ∷ ts) (c.an_enumerator w value es) rest (a ∷ spots) more

  -- a declarator; where it may lack a name, it may be missing as a whole, and then it is no node
  pub data IsDeclarator : (scope : Scope) → (naming : Naming) → (ts : List Symbol) → (d : c.Declarator) → (rest : List Symbol) → (spots more : List ℕ) → Type 0 where
    written : {scope : Scope} {naming : Naming} {ts rest : List Symbol} {name : Option (List ℕ)} {parts : c.Parts} {spots more : List ℕ}
        → ArePointers scope naming ts c.no_parts name parts rest spots more → is_missing name parts ≡ false
        → IsDeclarator scope naming ts (c.declarator name parts) rest (start_of ts ∷ spots) more
    missing : {scope : Scope} {naming : Naming} {ts : List Symbol} {more : List ℕ} → takes_none naming ≡ true → begins_declarator ts ≡ false
        → IsDeclarator scope naming ts (c.declarator None c.no_parts) ts more more

  -- declarator = ('*' qualifier*)* direct. The parts are those of this declarator, from its name outwards, and then the outer ones.
  pub data ArePointers : (scope : Scope) → (naming : Naming) → (ts : List Symbol) → (outer : c.Parts) → (name : Option (List ℕ)) → (parts : c.Parts) → (rest : List Symbol) → (spots more : List ℕ) → Type 0 where
    pointer : {scope : Scope} {naming : Naming} {at : ℕ} {ts us rest : List Symbol} {outer parts : c.Parts} {q : c.Qualifiers} {name : Option (List ℕ)} {spots more : List ℕ}
        → AreQualifiers ts q us → ArePointers scope (behind_star naming) us (c.Pointer q outer) name parts rest spots more
        → ArePointers scope naming (s.sign t.Star at ∷ ts) outer name parts rest spots more
    no_pointer : {scope : Scope} {naming : Naming} {ts rest : List Symbol} {outer parts : c.Parts} {name : Option (List ℕ)} {spots more : List ℕ}
        → sees t.Star ts ≡ false → IsDirect scope naming ts outer name parts rest spots more
        → ArePointers scope naming ts outer name parts rest spots more

  -- direct = NAME | '(' declarator ')' | direct '[' cond? ']' | direct '(' params? ')', and nothing in the place of NAME where it has none;
  -- what the inner parts declare is in scope for the outer ones
  pub data IsDirect : (scope : Scope) → (naming : Naming) → (ts : List Symbol) → (outer : c.Parts) → (name : Option (List ℕ)) → (parts : c.Parts) → (rest : List Symbol) → (spots more : List ℕ) → Type 0 where
    by_name : {scope : Scope} {naming : Naming} {w : List ℕ} {at : ℕ} {ts rest : List Symbol} {outer parts : c.Parts} {spots more : List ℕ}
        → takes_name naming scope w ≡ true → AreSuffixes scope ts outer parts rest spots more
        → IsDirect scope naming (s.name w at ∷ ts) outer (Some w) parts rest spots more
    by_nothing : {scope : Scope} {naming : Naming} {ts rest : List Symbol} {outer parts : c.Parts} {spots more : List ℕ}
        → takes_none naming ≡ true → begins_direct scope ts ≡ false → AreSuffixes scope ts outer parts rest spots more
        → IsDirect scope naming ts outer None parts rest spots more
    nested : {scope : Scope} {naming : Naming} {a b : ℕ} {ts us rest : List Symbol} {outer suffixed parts : c.Parts} {name : Option (List ℕ)} {spots between more : List ℕ} (inner : c.Parts)
        → opens_parameters naming scope ts ≡ false → ArePointers scope naming ts suffixed name parts (s.sign t.CloseParen b ∷ us) spots between
        → parts ≡ joined inner suffixed → AreSuffixes (after_parts inner scope) us outer suffixed rest between more
        → IsDirect scope naming (s.sign t.OpenParen a ∷ ts) outer name parts rest spots more

  -- ('[' cond? ']' | '(' params? ')')*, before the outer parts
  pub data AreSuffixes : (scope : Scope) → (ts : List Symbol) → (outer parts : c.Parts) → (rest : List Symbol) → (spots more : List ℕ) → Type 0 where
    no_suffix : {scope : Scope} {ts : List Symbol} {outer : c.Parts} {more : List ℕ} → begins_suffix ts ≡ false → AreSuffixes scope ts outer outer ts more more
    unsized_array : {scope : Scope} {a b : ℕ} {ts rest : List Symbol} {outer parts : c.Parts} {spots more : List ℕ}
        → AreSuffixes scope ts outer parts rest spots more
        → AreSuffixes scope (s.sign t.OpenIndex a ∷ s.sign t.CloseIndex b ∷ ts) outer (c.Array c.absent parts) rest spots more
    array : {scope : Scope} {a b : ℕ} {ts us rest : List Symbol} {outer parts : c.Parts} {e : c.Expression} {spots between more : List ℕ}
        → IsExpression scope conditional ts e (s.sign t.CloseIndex b ∷ us) spots between → AreSuffixes (after_expression e scope) us outer parts rest between more
        → AreSuffixes scope (s.sign t.OpenIndex a ∷ ts) outer (c.Array (c.present e) parts) rest spots more
    function : {scope : Scope} {a : ℕ} {ts us rest : List Symbol} {outer parts : c.Parts} {inside : c.Parameters} {spots between more : List ℕ}
        → AreParameters scope ts inside us spots between → AreSuffixes scope us outer parts rest between more
        → AreSuffixes scope (s.sign t.OpenParen a ∷ ts) outer (c.Function inside parts) rest spots more

  -- params? ')', with params = 'void' | param,+ (',' '...')?
  pub data AreParameters : (scope : Scope) → (ts : List Symbol) → (inside : c.Parameters) → (rest : List Symbol) → (spots more : List ℕ) → Type 0 where
    unstated : {scope : Scope} {at : ℕ} {rest : List Symbol} {more : List ℕ} → AreParameters scope (s.sign t.CloseParen at ∷ rest) c.Unstated rest more more
    void_alone : {scope : Scope} {a b : ℕ} {rest : List Symbol} {more : List ℕ}
        → AreParameters scope (s.sign t.Void a ∷ s.sign t.CloseParen b ∷ rest) c.Void rest more more
    listed : {scope : Scope} {at : ℕ} {ts rest : List Symbol} {ps : c.ParameterList} {spots more : List ℕ}
        → is_void_alone ts ≡ false → IsParameterList scope ts ps (s.sign t.CloseParen at ∷ rest) spots more
        → AreParameters scope ts (c.Listed ps) rest spots more
    open_list : {scope : Scope} {a b d : ℕ} {ts rest : List Symbol} {ps : c.ParameterList} {spots more : List ℕ}
        → IsParameterList scope ts ps (s.sign t.Comma a ∷ s.sign t.Ellipsis b ∷ s.sign t.CloseParen d ∷ rest) spots more
        → AreParameters scope ts (c.Open ps) rest spots more

  -- param,+, with param = specs (declarator | abstract)?; a parameter's name is in scope for those behind it
  pub data IsParameterList : (scope : Scope) → (ts : List Symbol) → (ps : c.ParameterList) → (rest : List Symbol) → (spots more : List ℕ) → Type 0 where
    last_parameter : {scope : Scope} {ts us rest : List Symbol} {ss : c.Specifiers} {d : c.Declarator} {spots between more : List ℕ}
        → AreSpecifiers scope ts ss us spots between → IsDeclarator (after_specifiers ss scope) either us d rest between more
        → IsParameterList scope ts (c.a_parameter ss d c.no_parameters) rest spots more
    more_parameters : {scope : Scope} {at : ℕ} {ts us vs rest : List Symbol} {ss : c.Specifiers} {d : c.Declarator} {ps : c.ParameterList} {spots first second more : List ℕ}
        → AreSpecifiers scope ts ss us spots first → IsDeclarator (after_specifiers ss scope) either us d (s.sign t.Comma at ∷ vs) first second
        → IsParameterList (after_parameter ss d scope) vs ps rest second more
        → IsParameterList scope ts (c.a_parameter ss d ps) rest spots more

-- The front of the symbols is this expression, and it can't go on behind it.
pub record IsWhole (scope : Scope) (ts : List Symbol) (e : c.Expression) (rest : List Symbol) (spots more : List ℕ) : Type 0 where
  pub derived : IsExpression scope comma ts e rest spots more
  pub ends : goes_on rest ≡ false
