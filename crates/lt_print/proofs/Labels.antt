-- What begins an expression, a declaration or a statement is no `else`, `case` or `default`.
use Rattle.std.proofs.Common.{◌≡◌, ℕ, true, false, List, [], ◌∷◌, Some, refl, subst, rules}
use Rattle.std.proofs.lemmas.Bool.{false_from_ne_true}
use denote.Enum.Bare.{same_true}
use Rattle.lt_tree.specs.contracts.terminal.Terminal.{the_type}
use Rattle.lt_tree.specs.declared.expression.UnaryOp.{UnaryOp}
use Rattle.lt_tree.specs.declared.terminal.Terminal.{Terminal}
use Rattle.lt_tree.specs.declared.terminal.Terminal.TheVariants as k
use Rattle.lt_tree.specs.Tree as c
use Rattle.lt_tree.specs.Symbols.{Symbol, name, constant, literal, sign}
use Rattle.lt_tree.specs.Scope.{Scope}
use Rattle.lt_tree.specs.Operators.{prefix_of}
use Rattle.lt_tree.specs.Ahead.{same_terminal, sees, begins_specifier, is_specifier_word}
use Rattle.lt_tree.specs.Grammar as g
use Rattle.lt_tree.specs.Grammar.{Level, IsExpression, IsText, IsMark, AreMarks}
use Rattle.lt_tree.specs.Declarations as d
use Rattle.lt_tree.specs.Declarations.{IsDeclaration}
use Rattle.lt_tree.specs.Statements as st
use Rattle.lt_tree.specs.Statements.{IsStatement, AreItems}
use Rattle.lt_print.proofs.Fronts.{specifiers_begin}

pub record NoLabel (ts : List Symbol) : Type 0 where
  pub no_else : sees k.Else ts ≡ false
  pub no_case : sees k.Case ts ≡ false
  pub no_default : sees k.Default ts ≡ false

prefix_front : (x : Terminal) (op : UnaryOp) (at : ℕ) (ts : List Symbol) → prefix_of x ≡ Some op → NoLabel (sign x at ∷ ts)
unfolding same_terminal
prefix_front k.Ampersand op at ts e = record { no_else = refl; no_case = refl; no_default = refl }
prefix_front k.Star op at ts e = record { no_else = refl; no_case = refl; no_default = refl }
prefix_front k.Plus op at ts e = record { no_else = refl; no_case = refl; no_default = refl }
prefix_front k.Minus op at ts e = record { no_else = refl; no_case = refl; no_default = refl }
prefix_front k.Tilde op at ts e = record { no_else = refl; no_case = refl; no_default = refl }
prefix_front k.Exclamation op at ts e = record { no_else = refl; no_case = refl; no_default = refl }
prefix_front x op at ts e = absurd cc

text_front : {ts rest : List Symbol} {bytes : List ℕ} → IsText ts bytes rest → NoLabel ts
unfolding same_terminal
text_front (g.one_literal x) = record { no_else = refl; no_case = refl; no_default = refl }
text_front (g.more_literals x y) = record { no_else = refl; no_case = refl; no_default = refl }

pub mark_front : {scope : Scope} {ts rest : List Symbol} {m : c.Mark} {spots more : List ℕ} → IsMark scope ts m rest spots more → NoLabel ts
unfolding same_terminal
mark_front (g.label x y) = record { no_else = refl; no_case = refl; no_default = refl }
mark_front (g.binding_label x y z) = record { no_else = refl; no_case = refl; no_default = refl }

marks_front : {scope : Scope} {ts rest : List Symbol} {ms : c.Marks} {spots more : List ℕ} → AreMarks scope ts ms rest spots more → NoLabel ts
marks_front (g.last_mark x) = mark_front x
marks_front (g.more_marks x xs) = mark_front x

pub expression_front : {scope : Scope} {level : Level} {ts rest : List Symbol} {e : c.Expression} {spots more : List ℕ} → IsExpression scope level ts e rest spots more → NoLabel ts
unfolding same_terminal
expression_front (g.name h) = record { no_else = refl; no_case = refl; no_default = refl }
expression_front g.constant = record { no_else = refl; no_case = refl; no_default = refl }
expression_front (g.text t) = text_front t
expression_front (g.parentheses x) = record { no_else = refl; no_case = refl; no_default = refl }
expression_front (g.decide x l) = record { no_else = refl; no_case = refl; no_default = refl }
expression_front (g.after x l) = record { no_else = refl; no_case = refl; no_default = refl }
expression_front (g.of_primary x) = expression_front x
expression_front (g.index x y) = expression_front x
expression_front (g.call x y) = expression_front x
expression_front (g.member x) = expression_front x
expression_front (g.arrow x) = expression_front x
expression_front (g.increment_behind x) = expression_front x
expression_front (g.decrement_behind x) = expression_front x
expression_front (g.of_postfix x) = expression_front x
expression_front (g.increment_before x) = record { no_else = refl; no_case = refl; no_default = refl }
expression_front (g.decrement_before x) = record { no_else = refl; no_case = refl; no_default = refl }
expression_front (g.prefixed {k = x} {at} {op} {ts = us} h y) = prefix_front x op at us h
expression_front (g.sizeof_expression x) = record { no_else = refl; no_case = refl; no_default = refl }
expression_front (g.sizeof_type x) = record { no_else = refl; no_case = refl; no_default = refl }
expression_front (g.of_unary x) = expression_front x
expression_front (g.cast_to x y) = record { no_else = refl; no_case = refl; no_default = refl }
expression_front (g.of_cast x) = expression_front x
expression_front (g.of_tighter x) = expression_front x
expression_front (g.operates x h y) = expression_front x
expression_front (g.of_binary x) = expression_front x
expression_front (g.choice x y z) = expression_front x
expression_front (g.of_conditional x) = expression_front x
expression_front (g.assigns x h y) = expression_front x
expression_front (g.of_assignment x) = expression_front x
expression_front (g.behind_marks ms x) = marks_front ms
expression_front (g.of_marked x) = expression_front x
expression_front (g.sequence x h y) = expression_front x
expression_front (g.longer_sequence x y) = expression_front x

same_is : (x y : Terminal) → same_terminal x y ≡ true → x ≡ y
unfolding same_terminal
same_is x y e = same_true the_type (search rules) x y e

specifier_front : (x : Terminal) (scope : Scope) (ts : List Symbol) → same_terminal k.Other x ≡ false → is_specifier_word x ≡ false → begins_specifier scope false ts ≡ true → sees x ts ≡ false
specifier_front x scope [] real other e = absurd cc
specifier_front x scope (name w at ∷ ts) real other e = real
specifier_front x scope (constant w at ∷ ts) real other e = real
specifier_front x scope (literal w at ∷ ts) real other e = real
specifier_front x scope (sign y at ∷ ts) real other e =
    false_from_ne_true (same_terminal y x) (λ same. let word : is_specifier_word x ≡ true = subst (λ (z : Terminal). is_specifier_word z ≡ true) (same_is y x same) e in absurd cc)

pub declaration_front : {scope : Scope} {ts rest : List Symbol} {x : c.Declaration} {spots more : List ℕ} → IsDeclaration scope ts x rest spots more → NoLabel ts
unfolding same_terminal
declaration_front {scope} {ts} (d.specifiers_alone x) =
    let b = specifiers_begin x in
    record { no_else = specifier_front k.Else scope ts refl refl b; no_case = specifier_front k.Case scope ts refl refl b; no_default = specifier_front k.Default scope ts refl refl b }
declaration_front {scope} {ts} (d.with_declarators x y) =
    let b = specifiers_begin x in
    record { no_else = specifier_front k.Else scope ts refl refl b; no_case = specifier_front k.Case scope ts refl refl b; no_default = specifier_front k.Default scope ts refl refl b }

pub statement_front : {scope : Scope} {ts rest : List Symbol} {x : c.Statement} {spots more : List ℕ} → IsStatement scope ts x rest spots more → NoLabel ts
unfolding same_terminal
statement_front (st.compound x) = record { no_else = refl; no_case = refl; no_default = refl }
statement_front st.null = record { no_else = refl; no_case = refl; no_default = refl }
statement_front (st.expression x) = expression_front x
statement_front (st.if_alone x y z) = record { no_else = refl; no_case = refl; no_default = refl }
statement_front (st.if_else x y z) = record { no_else = refl; no_case = refl; no_default = refl }
statement_front (st.while_loop x y) = record { no_else = refl; no_case = refl; no_default = refl }
statement_front (st.do_loop x y) = record { no_else = refl; no_case = refl; no_default = refl }
statement_front (st.for_loop a b x y z w) = record { no_else = refl; no_case = refl; no_default = refl }
statement_front (st.switch x y) = record { no_else = refl; no_case = refl; no_default = refl }
statement_front st.break = record { no_else = refl; no_case = refl; no_default = refl }
statement_front st.continue = record { no_else = refl; no_case = refl; no_default = refl }
statement_front (st.returns x) = record { no_else = refl; no_case = refl; no_default = refl }

pub items_front : {scope : Scope} {ts rest : List Symbol} {items : c.Items} {spots more : List ℕ} → AreItems scope ts items rest spots more → sees k.Else ts ≡ false
unfolding same_terminal
items_front st.no_more_items = refl
items_front (st.declaration x y) = (declaration_front x).no_else
items_front (st.statement x y) = (statement_front x).no_else
items_front (st.label x y) = (mark_front x).no_else

labels_front : {scope : Scope} {ts rest : List Symbol} {labels : List c.Label} {spots more : List ℕ} → st.AreLabels scope ts labels rest spots more → sees k.Else rest ≡ false → sees k.Else ts ≡ false
unfolding same_terminal
labels_front (st.no_labels a b) e = e
labels_front (st.case_label x y) e = refl
labels_front (st.default_label y) e = refl

pub cases_front : {scope : Scope} {ts rest : List Symbol} {cases : c.Cases} {spots more : List ℕ} → st.AreCases scope ts cases rest spots more → sees k.Else ts ≡ false
unfolding same_terminal
cases_front st.no_more_cases = refl
cases_front (st.one_more_case x y z) = labels_front x (statement_front y).no_else
