-- What holds of the nodes of expressions and declarations holds of those with new marks, if adding a mark keeps it.
use Rattle.std.proofs.Common.{◌≡◌, ℕ, List, [], ◌∷◌, ◌++◌, Option, Some, None, Bool, true, false, refl}
use Rattle.std.specs.Prelude.{◌+◌, length}
use Rattle.std.specs.List.{AllByRecursion, flat_map}
use Rattle.lt_tree.specs.Tree as c
use Rattle.lt_tree.specs.Nodes.{Node, an_expression, a_mark, in_expression, in_expressions, in_marks, in_mark, in_specifiers, in_declarator, in_initialiser, in_initialisers, in_optional_initialiser, in_init_declarator, in_declaration, in_optional, in_start}
use Rattle.lt_objectives.specs.Objectives.{Form, in_front, around}
use Rattle.lt_objectives.specs.Marked.{NewMark, labels, decided, joined, preceded_by, within, within_all, with_marks, optional_with_marks, initialiser_with_marks, initialisers_with_marks, start_with_marks, declarators_with_marks, declaration_with_marks, for_start_with_marks}
use Rattle.lt_mark_laws.proofs.Lists.{all_first, all_second, all_both}

-- neither an expression nor a mark
abbrev pub is_other : Node → Bool
is_other (an_expression e) = false
is_other (a_mark m) = false
is_other it = true

-- What holds of each node that is neither an expression nor a mark, and stays so when new marks are added.
pub record StaysSo (Holds : Node → Type 0) (new : List NewMark) : Type 0 where
  pub others : (it : Node) → is_other it ≡ true → Holds it
  pub inside : (k : ℕ) (e : c.Expression) → Holds (an_expression e) → Holds (an_expression (within new k e))
  pub marks : (form : Form) → (form ≡ around → ⊥) → (k : ℕ) → AllByRecursion Holds (in_marks (labels form new k))
  pub around_it : (k : ℕ) (e : c.Expression) → AllByRecursion Holds (in_expression e) → AllByRecursion Holds (in_expression (decided new k e))
  pub in_front_of_it : (k : ℕ) (e : c.Expression) → AllByRecursion Holds (in_expression e) → AllByRecursion Holds (in_expression (preceded_by (labels in_front new k) e))

-- if it holds of the first nodes, it holds of the second
pub record Keeps (Holds : Node → Type 0) (xs ys : List Node) : Type 0 where
  pub keeps : AllByRecursion Holds xs → AllByRecursion Holds ys

pub as_they_were : {Holds : Node → Type 0} (xs : List Node) → Keeps Holds xs xs
as_they_were xs = record { keeps = λ h. h }

pub two : {Holds : Node → Type 0} {xs ys vs ws : List Node} → Keeps Holds xs vs → Keeps Holds ys ws → Keeps Holds (xs ++ ys) (vs ++ ws)
two {Holds} {xs} {ys} {vs} {ws} f g = record { keeps = λ h. all_both Holds vs ws (f.keeps (all_first Holds xs ys h)) (g.keeps (all_second Holds xs ys h)) }

pub node : {Holds : Node → Type 0} {x y : Node} {xs ys : List Node} → (Holds x → Holds y) → Keeps Holds xs ys → Keeps Holds (x ∷ xs) (y ∷ ys)
node f g = record { keeps = λ h. (f h.0, g.keeps h.1) }

joined_kept : {Holds : Node → Type 0} (marks others : c.Marks) → AllByRecursion Holds (in_marks others) → Keeps Holds (in_marks marks) (in_marks (joined marks others))
joined_kept c.no_marks others g = record { keeps = λ h. g }
joined_kept (c.a_mark first rest) others g = two (as_they_were (in_mark first)) (joined_kept rest others g)

module _ {Holds : Node → Type 0} {new : List NewMark} (stays : StaysSo Holds new) where
  behind_marks : (k : ℕ) (e : c.Expression) → Keeps Holds (in_expression e) (in_expression (within new k e)) → Keeps Holds (in_expression e) (in_expression (decided new k (within new k e)))
  behind_marks k e inside = record { keeps = λ h. stays.around_it k (within new k e) (inside.keeps h) }

  at : (k : ℕ) (e : c.Expression) → Keeps Holds (in_expression e) (in_expression (within new k e)) → Keeps Holds (in_expression e) (in_expression (with_marks new k e))
  at k e inside = record { keeps = λ h. stays.in_front_of_it k (decided new k (within new k e)) ((behind_marks k e inside).keeps h) }

  mutual
    in_it : (k : ℕ) (e : c.Expression) → Keeps Holds (in_expression e) (in_expression (within new k e))
    in_it k (c.Name w) = as_they_were (in_expression (c.Name w))
    in_it k (c.Constant w) = as_they_were (in_expression (c.Constant w))
    in_it k (c.Text bytes) = as_they_were (in_expression (c.Text bytes))
    in_it k (c.Index d e) = node (stays.inside k (c.Index d e)) (two (at (k + 1) d (in_it (k + 1) d)) (at (k + 1 + length (in_expression d)) e (in_it (k + 1 + length (in_expression d)) e)))
    in_it k (c.Call f es) = node (stays.inside k (c.Call f es)) (two (at (k + 1) f (in_it (k + 1) f)) (in_all (k + 1 + length (in_expression f)) es))
    in_it k (c.Member e w) = node (stays.inside k (c.Member e w)) (at (k + 1) e (in_it (k + 1) e))
    in_it k (c.Arrow e w) = node (stays.inside k (c.Arrow e w)) (at (k + 1) e (in_it (k + 1) e))
    in_it k (c.PostInc e) = node (stays.inside k (c.PostInc e)) (at (k + 1) e (in_it (k + 1) e))
    in_it k (c.PostDec e) = node (stays.inside k (c.PostDec e)) (at (k + 1) e (in_it (k + 1) e))
    in_it k (c.PreInc e) = node (stays.inside k (c.PreInc e)) (at (k + 1) e (in_it (k + 1) e))
    in_it k (c.PreDec e) = node (stays.inside k (c.PreDec e)) (at (k + 1) e (in_it (k + 1) e))
    in_it k (c.Unary op e) = node (stays.inside k (c.Unary op e)) (at (k + 1) e (in_it (k + 1) e))
    in_it k (c.SizeofExpr e) = as_they_were (in_expression (c.SizeofExpr e))
    in_it k (c.SizeofType s d) = as_they_were (in_expression (c.SizeofType s d))
    in_it k (c.Cast s d e) =
        let j = k + 1 + length (in_specifiers s) + length (in_declarator d) in node (stays.inside k (c.Cast s d e)) (two (as_they_were (in_specifiers s ++ in_declarator d)) (at j e (in_it j e)))
    in_it k (c.Binary op d e) = node (stays.inside k (c.Binary op d e)) (two (at (k + 1) d (in_it (k + 1) d)) (at (k + 1 + length (in_expression d)) e (in_it (k + 1 + length (in_expression d)) e)))
    in_it k (c.Logical op d e) = node (stays.inside k (c.Logical op d e)) (two (at (k + 1) d (in_it (k + 1) d)) (at (k + 1 + length (in_expression d)) e (in_it (k + 1 + length (in_expression d)) e)))
    in_it k (c.Conditional p d e) =
        let i = k + 1 + length (in_expression p) in node (stays.inside k (c.Conditional p d e)) (two (two (at (k + 1) p (in_it (k + 1) p)) (at i d (in_it i d))) (at (i + length (in_expression d)) e (in_it (i + length (in_expression d)) e)))
    in_it k (c.Assign op d e) = node (stays.inside k (c.Assign op d e)) (two (at (k + 1) d (in_it (k + 1) d)) (at (k + 1 + length (in_expression d)) e (in_it (k + 1 + length (in_expression d)) e)))
    in_it k (c.Comma es) = node (stays.inside k (c.Comma es)) (in_all (k + 1) es)
    in_it k (c.Marked ms e) =
        let j = k + 1 + length (in_marks ms) in
        node (stays.inside k (c.Marked ms e)) (two (joined_kept ms (labels in_front new j) (stays.marks in_front (λ e. absurd cc) j)) (behind_marks j e (in_it j e)))
    in_it k (c.Decide e p q tag) = node (stays.inside k (c.Decide e p q tag)) (at (k + 1) e (in_it (k + 1) e))
    in_it k (c.After e id tag) = node (stays.inside k (c.After e id tag)) (at (k + 1) e (in_it (k + 1) e))

    in_all : (k : ℕ) (es : c.Expressions) → Keeps Holds (in_expressions es) (in_expressions (within_all new k es))
    in_all k c.no_expressions = as_they_were []
    in_all k (c.an_expression e es) = two (at k e (in_it k e)) (in_all (k + length (in_expression e)) es)

  pub expression : (k : ℕ) (e : c.Expression) → Keeps Holds (in_expression e) (in_expression (with_marks new k e))
  expression k e = at k e (in_it k e)

  pub optional : (k : ℕ) (e : Option c.Expression) → Keeps Holds (in_optional e) (in_optional (optional_with_marks new k e))
  optional k None = as_they_were []
  optional k (Some e) = expression k e

  mutual
    initialiser : (k : ℕ) (i : c.Initialiser) → Keeps Holds (in_initialiser i) (in_initialiser (initialiser_with_marks new k i))
    initialiser k (c.Value e) = node (λ h. stays.others _ refl) (expression (k + 1) e)
    initialiser k (c.Braces is) = node (λ h. stays.others _ refl) (initialisers (k + 1) is)

    initialisers : (k : ℕ) (is : c.Initialisers) → Keeps Holds (in_initialisers is) (in_initialisers (initialisers_with_marks new k is))
    initialisers k c.no_initialisers = as_they_were []
    initialisers k (c.an_initialiser i is) = two (initialiser k i) (initialisers (k + length (in_initialiser i)) is)

  start : (k : ℕ) (i : Option c.Initialiser) → Keeps Holds (in_optional_initialiser i) (in_optional_initialiser (start_with_marks new k i))
  start k None = as_they_were []
  start k (Some i) = initialiser k i

  declarators : (k : ℕ) (ds : List c.InitDeclarator) → Keeps Holds (flat_map in_init_declarator ds) (flat_map in_init_declarator (declarators_with_marks new k ds))
  declarators k [] = as_they_were []
  declarators k (d ∷ ds) =
      two (two (as_they_were (in_declarator d.declarator)) (start (k + length (in_declarator d.declarator)) d.initialiser)) (declarators (k + length (in_init_declarator d)) ds)

  pub declaration : (k : ℕ) (d : c.Declaration) → Keeps Holds (in_declaration d) (in_declaration (declaration_with_marks new k d))
  declaration k d = two (as_they_were (in_specifiers d.specifiers)) (declarators (k + length (in_specifiers d.specifiers)) d.declarators)

  pub for_start : (k : ℕ) (x : c.ForStart) → Keeps Holds (in_start x) (in_start (for_start_with_marks new k x))
  for_start k c.Nothing = as_they_were []
  for_start k (c.First e) = expression k e
  for_start k (c.Declares d) = declaration k d
