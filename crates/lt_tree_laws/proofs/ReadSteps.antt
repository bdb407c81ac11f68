-- Steps that the derivations of the examples share.
use Rattle.std.proofs.Common.{◌≡◌, ℕ, true, false, List, ◌∷◌, Some, None, refl}
use Rattle.lt_tree.specs.declared.specifier.TypeWord.TheVariants as w
use Rattle.lt_tree.specs.declared.terminal.Terminal.TheVariants as t
use Rattle.lt_tree.specs.Tree as c
use Rattle.lt_tree.specs.Symbols.{Symbol}
use Rattle.lt_tree.specs.Symbols as s
use Rattle.lt_tree.specs.Scope.{Scope, is_type}
use Rattle.lt_tree.specs.Ahead.{Naming, same_terminal, takes_name, begins_suffix, begins_specifier}
use Rattle.lt_tree.specs.TypeWords.{spellings, all_words, same_word}
use Rattle.lt_tree.specs.Grammar as g
use Rattle.lt_tree_laws.specs.Examples.{int}

-- ---- a primary at each level

pub unary : {scope : Scope} {ts rest : List Symbol} {e : c.Expression} {spots more : List ℕ}
    → g.IsExpression scope g.primary ts e rest spots more → g.IsExpression scope g.unary ts e rest spots more
unary p = g.of_postfix (g.of_primary p)

pub operand : {scope : Scope} {n : ℕ} {ts rest : List Symbol} {e : c.Expression} {spots more : List ℕ}
    → g.IsExpression scope g.primary ts e rest spots more → g.IsExpression scope (g.binary n) ts e rest spots more
operand p = g.of_cast (g.of_unary (unary p))

pub conditional : {scope : Scope} {ts rest : List Symbol} {e : c.Expression} {spots more : List ℕ}
    → g.IsExpression scope g.primary ts e rest spots more → g.IsExpression scope g.conditional ts e rest spots more
conditional p = g.of_binary (operand p)

pub assignment : {scope : Scope} {ts rest : List Symbol} {e : c.Expression} {spots more : List ℕ}
    → g.IsExpression scope g.primary ts e rest spots more → g.IsExpression scope g.assignment ts e rest spots more
assignment p = g.of_conditional (conditional p)

pub part : {scope : Scope} {ts rest : List Symbol} {e : c.Expression} {spots more : List ℕ}
    → g.IsExpression scope g.primary ts e rest spots more → g.IsExpression scope g.marked ts e rest spots more
part p = g.of_assignment (assignment p)

pub whole : {scope : Scope} {ts rest : List Symbol} {e : c.Expression} {spots more : List ℕ}
    → g.IsExpression scope g.primary ts e rest spots more → g.IsExpression scope g.comma ts e rest spots more
whole p = g.of_marked (part p)

-- a sum as a whole expression
pub sum : {scope : Scope} {ts rest : List Symbol} {e : c.Expression} {spots more : List ℕ}
    → g.IsExpression scope (g.binary 8) ts e rest spots more → g.IsExpression scope g.comma ts e rest spots more
sum p =
    let tighter = g.of_tighter (g.of_tighter (g.of_tighter (g.of_tighter (g.of_tighter (g.of_tighter (g.of_tighter (g.of_tighter p)))))))
    in g.of_marked (g.of_assignment (g.of_conditional (g.of_binary tighter)))

-- a constant is assigned to a name
pub set : {scope : Scope} {v w : List ℕ} {i j k : ℕ} {rest : List Symbol} {more : List ℕ} → is_type scope v ≡ false
    → g.IsExpression scope g.comma (s.name v i ∷ s.sign t.Equal j ∷ s.constant w k ∷ rest) (c.Assign None (c.Name v) (c.Constant w)) rest (i ∷ i ∷ k ∷ more) more
set h = g.of_marked (g.of_assignment (g.assigns (unary (g.name h)) refl (assignment g.constant)))

-- a declarator that is a name
pub just_name : {scope : Scope} {naming : Naming} {w : List ℕ} {at : ℕ} {rest : List Symbol} {more : List ℕ}
    → takes_name naming scope w ≡ true → begins_suffix rest ≡ false
    → g.IsDeclarator scope naming (s.name w at ∷ rest) (c.declarator (Some w) c.no_parts) rest (at ∷ more) more
unfolding same_terminal
just_name h n = g.written (g.no_pointer refl (g.by_name h (g.no_suffix n))) refl

pub int_alone : {scope : Scope} {at : ℕ} {rest : List Symbol} {more : List ℕ} → begins_specifier scope true rest ≡ false
    → g.AreSpecifiers scope (s.sign t.Int at ∷ rest) int rest more more
unfolding spellings all_words same_word
int_alone h = g.some_specifiers {types = c.a_type (c.Word w.Int) c.no_types} refl (g.type_word refl (g.no_further h))
