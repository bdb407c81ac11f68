-- How a loop over the items of a block goes on.
use Rattle.std.proofs.Common.{◌≡◌, ℕ, ◌+◌, List, [], ◌∷◌, ◌++◌, map, refl, sym, ap, ◌∙◌}
use Rattle.lt_tree.specs.declared.statement.Item.{Item}
use Rattle.lt_tree.specs.declared.statement.Item.TheBlock as at
use Rattle.lt_tree.specs.declared.typed.statement.Item.{Item as Made}
use Rattle.lt_tree.specs.declared.typed.statement.Item.TheBlock as made
use Rattle.lt_tree.specs.declared.typed.statement.Local.{Local}
use Rattle.lt_tree.specs.UnitView as source
use Rattle.lt_tree.specs.View.{mark_of}
use Rattle.lt_tree.specs.Tree as c
use Rattle.lt_tree.specs.Typing.Types.{CType}
use Rattle.lt_tree.specs.Typing.TypedTree as e
use Rattle.lt_tree.specs.Typing.Entities.{Known}
use Rattle.lt_tree.specs.Typing.Steps.{Outcome, Goes, Breaks, Walk, goes_on, gives, settle}
use Rattle.lt_tree.specs.Typing.StatementView as view
use Rattle.lt_tree.specs.Typing.DeclarationTyping as declaring
use Rattle.lt_tree.specs.Typing.ExpressionTyping as expressions
use Rattle.lt_tree.specs.Typing.StatementTyping as typing
use Rattle.lt_tree.specs.Typing.StatementTyping.{locals_before}
use Rattle.lt_type.proofs.Turns.{before, before_more}
use Rattle.lt_unit.specs.UnitViews.{locals_of}
use Rattle.lt_unit.specs.ItemParts.{joined, created_items}

locals_joined : (locals : List e.Local) (rest : e.Items) → joined (locals_before locals e.no_items) rest ≡ locals_before locals rest
locals_joined [] rest = refl
locals_joined (l ∷ locals) rest = ap (e.a_local l) (locals_joined locals rest)

same_rest : (o : Outcome e.Items) (f g : e.Items → e.Items) → ((r : e.Items) → f r ≡ g r) → goes_on o (λ r. gives (f r)) ≡ goes_on o (λ r. gives (g r))
same_rest (Goes r k) f g e = ap (λ x. Goes x k) (e r)
same_rest (Breaks rule node) f g e = refl

-- what one item makes, and then the rest
joined_rest : {A : Type 0} (o : Outcome A) (f : A → e.Items → e.Items) (one : A → e.Items) (rest : Walk e.Items) → ((a : A) (r : e.Items) → f a r ≡ joined (one a) r)
    → goes_on o (λ a k. goes_on (rest k) (λ r. gives (f a r))) ≡ goes_on (goes_on o (λ a. gives (one a))) (λ v k. goes_on (rest k) (λ r. gives (joined v r)))
joined_rest (Goes a k) f one rest e = same_rest (rest k) (f a) (joined (one a)) (e a)
joined_rest (Breaks rule node) f one rest e = refl

declared_rest : (o : Outcome declaring.DeclaredLocals) (node : ℕ) (rest : Walk e.Items)
    → goes_on o (λ it k. goes_on (settle node it.faults k) (λ u k. goes_on (rest k) (λ r. gives (locals_before it.locals r))))
    ≡ goes_on (goes_on o (λ it k. goes_on (settle node it.faults k) (λ u. gives (locals_before it.locals e.no_items)))) (λ v k. goes_on (rest k) (λ r. gives (joined v r)))
declared_rest (Goes it k) node rest = joined_rest (settle node it.faults k) (λ u r. locals_before it.locals r) (λ u. locals_before it.locals e.no_items) rest (λ u r. sym (locals_joined it.locals r))
declared_rest (Breaks rule n) node rest = refl

pub item_first : (item : Item) (rest : List Item) (around : typing.Around) (k : Known)
    → typing.items (source.items_in (item ∷ rest)) around k ≡ goes_on (typing.items (source.items_in (item ∷ [])) around k) (λ v k. goes_on (typing.items (source.items_in rest) around k) (λ r. gives (joined v r)))
item_first (at.Declaration d) rest around k = declared_rest (declaring.declaration (source.declaration_of d) (record k { next = k.next + 1 })) k.next (typing.items (source.items_in rest) around)
item_first (at.Statement s) rest around k = joined_rest (typing.statement (source.statement_of s) around (record k { next = k.next + 1 })) e.a_statement (λ m. e.a_statement m e.no_items) (typing.items (source.items_in rest) around) (λ m r. refl)
item_first (at.Mark m) rest around k = joined_rest (expressions.mark (mark_of m) (record k { next = k.next + 1 })) e.a_label (λ m. e.a_label m e.no_items) (typing.items (source.items_in rest) around) (λ m r. refl)

created_end : (o : Outcome (Unit {0})) (locals : List e.Local) → goes_on o (λ u. gives (locals_before locals e.no_items)) ≡ goes_on (goes_on o (λ u. gives locals)) (λ l. gives (locals_before l e.no_items))
created_end (Goes u k) locals = refl
created_end (Breaks rule node) locals = refl

created_alone : (o : Outcome declaring.DeclaredLocals) (node : ℕ)
    → goes_on o (λ it k. goes_on (settle node it.faults k) (λ u. gives (locals_before it.locals e.no_items)))
    ≡ goes_on (goes_on o (λ it k. goes_on (settle node it.faults k) (λ u. gives it.locals))) (λ l. gives (locals_before l e.no_items))
created_alone (Goes it k) node = created_end (settle node it.faults k) it.locals
created_alone (Breaks rule n) node = refl

-- a declaration that is the only item
pub one_declaration : (d : c.Declaration) (around : typing.Around) (k : Known) → created_items d k ≡ typing.items (c.a_declaration d c.no_items) around k
one_declaration d around k = sym (created_alone (declaring.declaration d (record k { next = k.next + 1 })) k.next)

-- the same, node by node
pub created_walk : (d : c.Declaration) (k : Known)
    → goes_on (declaring.declaration d (record k { next = k.next + 1 })) (λ it j. goes_on (settle k.next it.faults j) (λ u. gives (locals_before it.locals e.no_items))) ≡ created_items d k
created_walk d k = created_alone (declaring.declaration d (record k { next = k.next + 1 })) k.next

-- ---- what was made

joined_seen : (types : List CType) (all : List Made) (rest : e.Items) → joined (view.items_in types all) rest ≡ before (view.item_before types) all rest
joined_seen types [] rest = refl
joined_seen types (made.Local l ∷ all) rest = ap (e.a_local (view.local_of types l)) (joined_seen types all rest)
joined_seen types (made.Statement s ∷ all) rest = ap (e.a_statement (view.statement_of types s)) (joined_seen types all rest)
joined_seen types (made.Label m ∷ all) rest = ap (view.item_before types (made.Label m)) (joined_seen types all rest)

before_both : (types : List CType) (old more : List Made) (rest : e.Items) → before (view.item_before types) (old ++ more) rest ≡ before (view.item_before types) old (before (view.item_before types) more rest)
before_both types [] more rest = refl
before_both types (i ∷ old) more rest = ap (view.item_before types i) (before_both types old more rest)

pub items_more : (types : List CType) (old new more : List Made) (rest : e.Items) → new ≡ old ++ more → before (view.item_before types) new rest ≡ before (view.item_before types) old (joined (view.items_in types more) rest)
items_more types old new more rest is =
    ap (λ l. before (view.item_before types) l rest) is ∙ before_both types old more rest ∙ ap (before (view.item_before types) old) (sym (joined_seen types more rest))

pub all_items : (types : List CType) (all : List Made) → before (view.item_before types) all e.no_items ≡ view.items_in types all
all_items types [] = refl
all_items types (i ∷ all) = ap (view.item_before types i) (all_items types all)

-- ---- the items that create objects

locals_more : (f : Local → e.Local) (locals : List Local) (local : Local) (rest : e.Items) → locals_before (map f (locals ++ local ∷ [])) rest ≡ locals_before (map f locals) (e.a_local (f local) rest)
locals_more f [] local rest = refl
locals_more f (l ∷ locals) local rest = ap (e.a_local (f l)) (locals_more f locals local rest)

pub created_more : (types : List CType) (old new : List Made) (x : Made) (locals : List Local) (local : Local) → new ≡ old ++ x ∷ []
    → ((rest : e.Items) → view.item_before types x rest ≡ e.a_local (view.local_of types local) rest)
    → ((rest : e.Items) → before (view.item_before types) old rest ≡ locals_before (locals_of types locals) rest)
    → (rest : e.Items) → before (view.item_before types) new rest ≡ locals_before (locals_of types (locals ++ local ∷ [])) rest
created_more types old new x locals local more made had rest =
    before_more (view.item_before types) old new x rest more ∙ ap (before (view.item_before types) old) (made rest) ∙ had (e.a_local (view.local_of types local) rest)
    ∙ sym (locals_more (view.local_of types) locals local rest)

pub all_created : (types : List CType) (all : List Made) (locals : List Local) → ((rest : e.Items) → before (view.item_before types) all rest ≡ locals_before (locals_of types locals) rest)
    → view.items_in types all ≡ locals_before (locals_of types locals) e.no_items
all_created types all locals had = sym (all_items types all) ∙ had e.no_items
