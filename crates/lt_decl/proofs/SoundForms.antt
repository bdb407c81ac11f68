-- What is proved of each reading function at a number: a tree that it gives is derived, with the spots of its walk.
use Rattle.std.proofs.Common.{◌≡◌, ℕ, Bool, List, ◌∷◌, Option, refl}
use Rattle.lt_tree.specs.declared.terminal.Terminal.{Terminal}
use Rattle.lt_tree.specs.declared.terminal.Terminal.TheVariants as t
use Rattle.lt_tree.specs.Tree as c
use Rattle.lt_tree.specs.Symbols.{Symbol, sign, start_of}
use Rattle.lt_tree.specs.Scope.{Scope, after_external}
use Rattle.lt_tree.specs.Ahead.{Naming}
use Rattle.lt_tree.specs.Grammar as g
use Rattle.lt_tree.specs.Declarations.{IsInitialiser, AreInitialisers, IsOptionalInitialiser, AreDeclarators, IsDeclaration}
use Rattle.lt_tree.specs.Statements.{IsOptional, IsForStart, AreLabels, IsStatement, AreItems, AreCases}
use Rattle.lt_tree.specs.Units.{AreExternals}
use Rattle.lt_expr.specs.Front.{Rest}
use Rattle.lt_expr.specs.Walk.{Walked, node, walk, walk_mark, walk_declarator}
use Rattle.lt_expr.proofs.SoundSteps.{Yields}
use Rattle.lt_expr.proofs.SoundSpots.{Spotted, one_node}
use Rattle.lt_decl.specs.Items.{Item, item_before, after_item}
use Rattle.lt_decl.specs.Reading as read
use Rattle.lt_decl.specs.Walk.{walk_initialiser, walk_initialisers, walk_optional_initialiser, walk_declarators, walk_declaration, walk_optional, walk_start, walk_labels, walk_statement, walk_items, walk_item, walk_cases, walk_external, walk_unit}

-- a node with none inside
pub one_leaf : {at : ℕ} {ends : List ℕ} {R : (spots more : List ℕ) → Type 0} → ((more : List ℕ) → R (at ∷ more) more) → Spotted (node (λ v. v)) (at ∷ ends) ends R
one_leaf {at} h = record { spots = λ more. (at ∷ more, refl, h more) }

-- a node around a node
pub node_of_node : {walks : Walked → Walked} {at : ℕ} {after before : List ℕ} {R S : (spots more : List ℕ) → Type 0}
    → ((spots more : List ℕ) → R spots more → S (at ∷ at ∷ spots) more) → Spotted walks after before R → Spotted (node (node walks)) (at ∷ at ∷ after) before S
node_of_node {at} {S} f h = one_node {S = S} (λ spots more k. k) (one_node {S = λ spots more. S (at ∷ spots) more} f h)

-- ---- initialisers and declarations

abbrev pub InitialiserSound : ℕ → Type 0
InitialiserSound n = (scope : Scope) (r : Rest) → Yields (read.initialiser n scope r) (λ x. Spotted (walk_initialiser x.0) x.1.1 r.1 (IsInitialiser scope r.0 x.0 x.1.0))

abbrev pub InitialisersSound : ℕ → Type 0
InitialisersSound n = (scope : Scope) (r : Rest) → Yields (read.initialisers n scope r) (λ x. Spotted (walk_initialisers x.0) x.1.1 r.1 (AreInitialisers scope r.0 x.0 x.1.0))

abbrev pub OptionalInitialiserSound : ℕ → Type 0
OptionalInitialiserSound n = (scope : Scope) (r : Rest)
    → Yields (read.optional_initialiser n scope r) (λ x. Spotted (walk_optional_initialiser x.0) x.1.1 r.1 (IsOptionalInitialiser scope r.0 x.0 x.1.0))

-- from there on stands this declarator, with others behind it
abbrev pub DeclaratorsSound : ℕ → Type 0
DeclaratorsSound n = (scope : Scope) (naming : Naming) (type : Bool) (d : c.Declarator) (from r : Rest)
    → Spotted (walk_declarator d) r.1 from.1 (g.IsDeclarator scope naming from.0 d r.0)
    → Yields (read.declarators n scope type d r) (λ x. Spotted (walk_declarators x.0) x.1.1 from.1 (AreDeclarators scope naming type from.0 x.0 x.1.0))

abbrev pub DeclarationSound : ℕ → Type 0
DeclarationSound n = (scope : Scope) (r : Rest) → Yields (read.declaration n scope r) (λ x. Spotted (walk_declaration x.0) x.1.1 r.1 (IsDeclaration scope r.0 x.0 x.1.0))

-- ---- what stands in statements

-- '(' expr ')'
pub data IsTest : (scope : Scope) → (ts : List Symbol) → (e : c.Expression) → (rest : List Symbol) → (spots more : List ℕ) → Type 0 where
  test : {scope : Scope} {a b : ℕ} {ts rest : List Symbol} {e : c.Expression} {spots more : List ℕ}
      → g.IsExpression scope g.comma ts e (sign t.CloseParen b ∷ rest) spots more → IsTest scope (sign t.OpenParen a ∷ ts) e rest spots more

abbrev pub TestSound : ℕ → Type 0
TestSound n = (scope : Scope) (r : Rest) → Yields (read.controlling n scope r) (λ x. Spotted (walk x.0) x.1.1 r.1 (IsTest scope r.0 x.0 x.1.0))

-- expr? SIGN
pub data IsUpTo : (k : Terminal) → (scope : Scope) → (ts : List Symbol) → (e : Option c.Expression) → (rest : List Symbol) → (spots more : List ℕ) → Type 0 where
  up_to : {k : Terminal} {scope : Scope} {at : ℕ} {ts rest : List Symbol} {e : Option c.Expression} {spots more : List ℕ}
      → IsOptional scope ts e (sign k at ∷ rest) spots more → IsUpTo k scope ts e rest spots more

abbrev pub OptionalSound : ℕ → Type 0
OptionalSound n = (scope : Scope) (k : Terminal) (r : Rest) → (k ≡ t.Other → ⊥)
    → Yields (read.optional n scope k r) (λ x. Spotted (walk_optional x.0) x.1.1 r.1 (IsUpTo k scope r.0 x.0 x.1.0))

abbrev pub ForStartSound : ℕ → Type 0
ForStartSound n = (scope : Scope) (r : Rest) → Yields (read.for_start n scope r) (λ x. Spotted (walk_start x.0) x.1.1 r.1 (IsForStart scope r.0 x.0 x.1.0))

abbrev pub LabelsSound : ℕ → Type 0
LabelsSound n = (scope : Scope) (r : Rest) → Yields (read.labels n scope r) (λ x. Spotted (walk_labels x.0) x.1.1 r.1 (AreLabels scope r.0 x.0 x.1.0))

-- ---- expressions behind their first mark

-- a mark and a comma
pub data IsFirst : (scope : Scope) → (ts : List Symbol) → (m : c.Mark) → (rest : List Symbol) → (spots more : List ℕ) → Type 0 where
  first : {scope : Scope} {a : ℕ} {ts rest : List Symbol} {m : c.Mark} {spots more : List ℕ}
      → g.IsMark scope ts m (sign t.Comma a ∷ rest) spots more → IsFirst scope ts m rest spots more

-- (mark ',')*
pub data AreMore : (scope : Scope) → (ts : List Symbol) → (ms : c.Marks) → (rest : List Symbol) → (spots more : List ℕ) → Type 0 where
  none : {scope : Scope} {ts : List Symbol} {more : List ℕ} → AreMore scope ts c.no_marks ts more more
  some : {scope : Scope} {ts rest : List Symbol} {ms : c.Marks} {spots more : List ℕ} → g.AreMarks scope ts ms rest spots more → AreMore scope ts ms rest spots more

-- an expression that begins with a mark, which was read
abbrev pub OnSound : ℕ → Type 0
OnSound n = (scope : Scope) (m : c.Mark) (from r : Rest) → Spotted (walk_mark m) r.1 from.1 (IsFirst scope from.0 m r.0)
    → Yields (read.expression_on n scope (start_of from.0) m r) (λ x. Spotted (walk x.0) x.1.1 from.1 (g.IsExpression scope g.comma from.0 x.0 x.1.0))

-- ---- statements

abbrev pub StatementSound : (Scope → Rest → Option (c.Statement × Rest)) → Type 0
StatementSound f = (scope : Scope) (r : Rest) → Yields (f scope r) (λ x. Spotted (walk_statement x.0) x.1.1 r.1 (IsStatement scope r.0 x.0 x.1.0))

-- a statement that begins with this terminal, which was read
abbrev pub BehindSound : Terminal → (Scope → ℕ → Rest → Option (c.Statement × Rest)) → Type 0
BehindSound k f = (scope : Scope) (at : ℕ) (r : Rest) → Yields (f scope at r) (λ x. Spotted (walk_statement x.0) x.1.1 r.1 (IsStatement scope (sign k at ∷ r.0) x.0 x.1.0))

abbrev pub CasesSound : ℕ → Type 0
CasesSound n = (scope : Scope) (r : Rest) → Yields (read.cases n scope r) (λ x. Spotted (walk_cases x.0) x.1.1 r.1 (AreCases scope r.0 x.0 x.1.0))

abbrev pub ItemsSound : ℕ → Type 0
ItemsSound n = (scope : Scope) (r : Rest) → Yields (read.items n scope r) (λ x. Spotted (walk_items x.0) x.1.1 r.1 (AreItems scope r.0 x.0 x.1.0))

-- the symbols ts begin with this item: with items behind it they are items
pub record IsItem (scope : Scope) (ts : List Symbol) (i : Item) (rest : List Symbol) (spots middle : List ℕ) : Type 0 where
  pub before : (items : c.Items) (end : List Symbol) (more : List ℕ) → AreItems (after_item i scope) rest items end middle more
      → AreItems scope ts (item_before i items) end spots more

abbrev pub ItemSound : ℕ → Type 0
ItemSound n = (scope : Scope) (r : Rest) → Yields (read.item n scope r) (λ x. Spotted (walk_item x.0) x.1.1 r.1 (IsItem scope r.0 x.0 x.1.0))

abbrev pub MarkedItemSound : ℕ → Type 0
MarkedItemSound n = (scope : Scope) (m : c.Mark) (from r : Rest) → Spotted (walk_mark m) r.1 from.1 (g.IsMark scope from.0 m r.0)
    → Yields (read.marked_item n scope (start_of from.0) m r) (λ x. Spotted (walk_item x.0) x.1.1 from.1 (IsItem scope from.0 x.0 x.1.0))

-- ---- units

-- the symbols ts begin with this external: with externals behind it they are externals
pub record IsExternal (scope : Scope) (ts : List Symbol) (x : c.External) (rest : List Symbol) (spots middle : List ℕ) : Type 0 where
  pub before : (unit : c.Unit) (more : List ℕ) → AreExternals (after_external x scope) rest unit middle more → AreExternals scope ts (x ∷ unit) spots more

abbrev pub ExternalSound : ℕ → Type 0
ExternalSound n = (scope : Scope) (r : Rest) → Yields (read.external n scope r) (λ x. Spotted (walk_external x.0) x.1.1 r.1 (IsExternal scope r.0 x.0 x.1.0))

abbrev pub ExternalsSound : ℕ → Type 0
ExternalsSound n = (scope : Scope) (r : Rest) → Yields (read.externals n scope r) (λ x. Spotted (walk_unit x.0) x.1.1 r.1 (AreExternals scope r.0 x.0))
