-- How many symbols a derivation takes, and what it begins with.
use Rattle.std.proofs.Common.{◌≡◌, ℕ, ◌<◌, ◌≤◌, Bool, true, false, List, [], ◌∷◌, length, Option, Some, None, refl, subst, arith}
use Rattle.std.proofs.lemmas.Bool.{false_from_ne_true}
use Rattle.lt_tree.specs.declared.expression.UnaryOp.{UnaryOp}
use Rattle.lt_tree.specs.declared.terminal.Terminal.{Terminal}
use Rattle.lt_tree.specs.declared.terminal.Terminal.TheVariants as t
use Rattle.lt_tree.specs.Tree as c
use Rattle.lt_tree.specs.Symbols.{Symbol, name, constant, literal, sign}
use Rattle.lt_tree.specs.Scope.{Scope}
use Rattle.lt_tree.specs.Operators.{prefix_of}
use Rattle.lt_tree.specs.Ahead.{Naming, same_terminal, sees}
use Rattle.lt_tree.specs.Grammar as g
use Rattle.lt_tree.specs.Grammar.{Level, IsText, IsExpression, IsMark, AreMarks}
use Rattle.lt_tree.specs.Declarations as dc
use Rattle.lt_tree.specs.Declarations.{IsInitialiser, AreInitialisers, IsOptionalInitialiser, AreDeclarators, IsDeclaration}
use Rattle.lt_tree.specs.Statements as st
use Rattle.lt_tree.specs.Statements.{IsOptional, IsForStart, AreLabels, IsStatement, AreItems, AreCases}
use Rattle.lt_expr.proofs.CompleteFronts.{same_is}
use Rattle.lt_expr.proofs.CompleteStarts.{shorter, mark_shorter, specifiers_shorter, declarator_short}

-- ---- what no expression begins with

abbrev pub opens : Terminal → Bool
opens t.OpenBrace = false
opens t.CloseBrace = false
opens t.CloseParen = false
opens t.Semicolon = false
opens t.If = false
opens t.Else = false
opens t.While = false
opens t.Do = false
opens t.For = false
opens t.Switch = false
opens t.Case = false
opens t.Default = false
opens t.Break = false
opens t.Continue = false
opens t.Return = false
opens k = true

abbrev pub may_open : List Symbol → Bool
may_open [] = false
may_open (sign k at ∷ ts) = opens k
may_open (_ ∷ ts) = true

abbrev Opens : Option UnaryOp → Terminal → Type 0
Opens None k = Unit {0}
Opens (Some op) k = opens k ≡ true

prefix_opens : (k : Terminal) → Opens (prefix_of k) k
prefix_opens t.Ampersand = refl
prefix_opens t.Star = refl
prefix_opens t.Plus = refl
prefix_opens t.Minus = refl
prefix_opens t.Tilde = refl
prefix_opens t.Exclamation = refl
prefix_opens k = tt

prefix_is_open : (k : Terminal) (op : UnaryOp) → prefix_of k ≡ Some op → opens k ≡ true
prefix_is_open k op e = subst (λ (x : Option UnaryOp). Opens x k) e (prefix_opens k)

text_opens : {ts rest : List Symbol} {bytes : List ℕ} → IsText ts bytes rest → may_open ts ≡ true
text_opens (g.one_literal l) = refl
text_opens (g.more_literals l x) = refl

mark_opens : {scope : Scope} {ts rest : List Symbol} {m : c.Mark} {spots more : List ℕ} → IsMark scope ts m rest spots more → may_open ts ≡ true
mark_opens (g.label x l) = refl
mark_opens (g.binding_label x l b) = refl

marks_open : {scope : Scope} {ts rest : List Symbol} {ms : c.Marks} {spots more : List ℕ} → AreMarks scope ts ms rest spots more → may_open ts ≡ true
marks_open (g.last_mark x) = mark_opens x
marks_open (g.more_marks x z) = mark_opens x

pub expression_opens : {scope : Scope} {l : Level} {ts rest : List Symbol} {e : c.Expression} {spots more : List ℕ} → IsExpression scope l ts e rest spots more → may_open ts ≡ true
expression_opens (g.name i) = refl
expression_opens g.constant = refl
expression_opens (g.text x) = text_opens x
expression_opens (g.parentheses x) = refl
expression_opens (g.decide x l) = refl
expression_opens (g.after x l) = refl
expression_opens (g.of_primary x) = expression_opens x
expression_opens (g.index x z) = expression_opens x
expression_opens (g.call x z) = expression_opens x
expression_opens (g.member x) = expression_opens x
expression_opens (g.arrow x) = expression_opens x
expression_opens (g.increment_behind x) = expression_opens x
expression_opens (g.decrement_behind x) = expression_opens x
expression_opens (g.of_postfix x) = expression_opens x
expression_opens (g.increment_before x) = refl
expression_opens (g.decrement_before x) = refl
expression_opens (g.prefixed i x) = prefix_is_open _ _ i
expression_opens (g.sizeof_expression x) = refl
expression_opens (g.sizeof_type x) = refl
expression_opens (g.of_unary x) = expression_opens x
expression_opens (g.cast_to x z) = refl
expression_opens (g.of_cast x) = expression_opens x
expression_opens (g.of_tighter x) = expression_opens x
expression_opens (g.operates x i z) = expression_opens x
expression_opens (g.of_binary x) = expression_opens x
expression_opens (g.choice x z w) = expression_opens x
expression_opens (g.of_conditional x) = expression_opens x
expression_opens (g.assigns x i z) = expression_opens x
expression_opens (g.of_assignment x) = expression_opens x
expression_opens (g.behind_marks x z) = marks_open x
expression_opens (g.of_marked x) = expression_opens x
expression_opens (g.sequence x i z) = expression_opens x
expression_opens (g.longer_sequence x z) = expression_opens x

-- so no such terminal stands there
pub unseen : (k : Terminal) (ts : List Symbol) → same_terminal t.Other k ≡ false → opens k ≡ false → may_open ts ≡ true → sees k ts ≡ false
unseen k [] real closes e = absurd cc
unseen k (name w at ∷ ts) real closes e = real
unseen k (constant w at ∷ ts) real closes e = real
unseen k (literal w at ∷ ts) real closes e = real
unseen k (sign j at ∷ ts) real closes e =
    false_from_ne_true (same_terminal j k) (λ same. let open_too : opens k ≡ true = subst (λ (x : Terminal). opens x ≡ true) (same_is j k same) e in absurd cc)

-- a statement that is an expression begins with no terminal of another one
pub record IsOther (ts : List Symbol) : Type 0 where
  pub no_brace : sees t.OpenBrace ts ≡ false
  pub no_close : sees t.CloseBrace ts ≡ false
  pub no_semicolon : sees t.Semicolon ts ≡ false
  pub no_if : sees t.If ts ≡ false
  pub no_while : sees t.While ts ≡ false
  pub no_do : sees t.Do ts ≡ false
  pub no_for : sees t.For ts ≡ false
  pub no_switch : sees t.Switch ts ≡ false
  pub no_break : sees t.Break ts ≡ false
  pub no_continue : sees t.Continue ts ≡ false
  pub no_return : sees t.Return ts ≡ false

pub other : (ts : List Symbol) → may_open ts ≡ true → IsOther ts
unfolding same_terminal
other ts e = record {
  no_brace = unseen t.OpenBrace ts refl refl e;
  no_close = unseen t.CloseBrace ts refl refl e;
  no_semicolon = unseen t.Semicolon ts refl refl e;
  no_if = unseen t.If ts refl refl e;
  no_while = unseen t.While ts refl refl e;
  no_do = unseen t.Do ts refl refl e;
  no_for = unseen t.For ts refl refl e;
  no_switch = unseen t.Switch ts refl refl e;
  no_break = unseen t.Break ts refl refl e;
  no_continue = unseen t.Continue ts refl refl e;
  no_return = unseen t.Return ts refl refl e;
}

-- ---- a derivation takes symbols

mutual
  pub initialiser_shorter : {scope : Scope} {ts rest : List Symbol} {i : c.Initialiser} {spots more : List ℕ} → IsInitialiser scope ts i rest spots more → length rest < length ts
  initialiser_shorter (dc.value x) = shorter x
  initialiser_shorter (dc.braces x) = omega (arith, initialisers_shorter x)

  pub initialisers_shorter : {scope : Scope} {ts rest : List Symbol} {is : c.Initialisers} {spots more : List ℕ} → AreInitialisers scope ts is rest spots more → length rest < length ts
  initialisers_shorter (dc.last_initialiser x) = omega (arith, initialiser_shorter x)
  initialisers_shorter (dc.last_initialiser_and_comma x) = omega (arith, initialiser_shorter x)
  initialisers_shorter (dc.more_initialisers x z) = omega (arith, initialiser_shorter x, initialisers_shorter z)

pub optional_initialiser_short : {scope : Scope} {ts rest : List Symbol} {i : Option c.Initialiser} {spots more : List ℕ}
    → IsOptionalInitialiser scope ts i rest spots more → length rest ≤ length ts
optional_initialiser_short (dc.left_out a) = omega arith
optional_initialiser_short (dc.given x) = omega (arith, initialiser_shorter x)

pub declarators_shorter : {scope : Scope} {naming : Naming} {type : Bool} {ts rest : List Symbol} {ds : List c.InitDeclarator} {spots more : List ℕ}
    → AreDeclarators scope naming type ts ds rest spots more → length rest < length ts
declarators_shorter (dc.last_declarator x z) = omega (arith, declarator_short x, optional_initialiser_short z)
declarators_shorter (dc.more_declarators x z w) = omega (arith, declarator_short x, optional_initialiser_short z, declarators_shorter w)

pub declaration_shorter : {scope : Scope} {ts rest : List Symbol} {d : c.Declaration} {spots more : List ℕ} → IsDeclaration scope ts d rest spots more → length rest < length ts
declaration_shorter (dc.specifiers_alone x) = omega (arith, specifiers_shorter x)
declaration_shorter (dc.with_declarators x z) = omega (arith, specifiers_shorter x, declarators_shorter z)

pub optional_short : {scope : Scope} {ts rest : List Symbol} {e : Option c.Expression} {spots more : List ℕ} → IsOptional scope ts e rest spots more → length rest ≤ length ts
optional_short st.left_out = omega arith
optional_short (st.given x) = omega (arith, shorter x)

pub start_shorter : {scope : Scope} {ts rest : List Symbol} {start : c.ForStart} {spots more : List ℕ} → IsForStart scope ts start rest spots more → length rest < length ts
start_shorter st.nothing = omega arith
start_shorter (st.expression x) = omega (arith, shorter x)
start_shorter (st.declaration x) = declaration_shorter x

pub labels_short : {scope : Scope} {ts rest : List Symbol} {labels : List c.Label} {spots more : List ℕ} → AreLabels scope ts labels rest spots more → length rest ≤ length ts
labels_short (st.no_labels a b) = omega arith
labels_short (st.case_label x z) = omega (arith, shorter x, labels_short z)
labels_short (st.default_label z) = omega (arith, labels_short z)

mutual
  pub statement_shorter : {scope : Scope} {ts rest : List Symbol} {x : c.Statement} {spots more : List ℕ} → IsStatement scope ts x rest spots more → length rest < length ts
  statement_shorter (st.compound x) = omega (arith, items_shorter x)
  statement_shorter st.null = omega arith
  statement_shorter (st.expression x) = omega (arith, shorter x)
  statement_shorter (st.if_alone x z i) = omega (arith, shorter x, statement_shorter z)
  statement_shorter (st.if_else x z w) = omega (arith, shorter x, statement_shorter z, statement_shorter w)
  statement_shorter (st.while_loop x z) = omega (arith, shorter x, statement_shorter z)
  statement_shorter (st.do_loop x z) = omega (arith, statement_shorter x, shorter z)
  statement_shorter (st.for_loop x i z j w v) = omega (arith, start_shorter x, optional_short z, optional_short w, statement_shorter v)
  statement_shorter (st.switch x z) = omega (arith, shorter x, cases_shorter z)
  statement_shorter st.break = omega arith
  statement_shorter st.continue = omega arith
  statement_shorter (st.returns x) = omega (arith, optional_short x)

  pub items_shorter : {scope : Scope} {ts rest : List Symbol} {items : c.Items} {spots more : List ℕ} → AreItems scope ts items rest spots more → length rest < length ts
  items_shorter st.no_more_items = omega arith
  items_shorter (st.declaration x z) = omega (arith, declaration_shorter x, items_shorter z)
  items_shorter (st.statement x z) = omega (arith, statement_shorter x, items_shorter z)
  items_shorter (st.label x z) = omega (arith, mark_shorter x, items_shorter z)

  pub cases_shorter : {scope : Scope} {ts rest : List Symbol} {cases : c.Cases} {spots more : List ℕ} → AreCases scope ts cases rest spots more → length rest < length ts
  cases_shorter st.no_more_cases = omega arith
  cases_shorter (st.one_more_case x z w) = omega (arith, labels_short x, statement_shorter z, cases_shorter w)
