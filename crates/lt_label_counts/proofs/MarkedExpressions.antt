-- Expressions and declarations with new marks need the same as without.
use Rattle.std.proofs.Common.{ℕ, List, [], ◌∷◌, Option, Some, None, Bool, true, false, refl}
use Rattle.std.specs.Prelude.{◌+◌, suc, if◌then◌else◌, length}
use Rattle.std.specs.Fmt.{decimal}
use Rattle.std.specs.List.{flat_map}
use Rattle.lt_tree.specs.Tree as t
use Rattle.lt_tree.specs.Nodes.{in_expression, in_expressions, in_marks, in_specifiers, in_declarator, in_initialiser, in_initialisers, in_optional_initialiser, in_init_declarator, in_declaration, in_optional, in_start}
use Rattle.lt_places.proofs.Parts.{expression_whole}
use Rattle.lt_objectives.specs.Objectives.{around, in_front}
use Rattle.lt_objectives.specs.Marked.{NewMark, is_there, joined, labels, decided, preceded_by, placed, within, within_all, with_marks, optional_with_marks, initialiser_with_marks, initialisers_with_marks, start_with_marks, declarators_with_marks, declaration_with_marks, for_start_with_marks}
use Rattle.lt_label_counts.proofs.Beside.{Alike, nothing, itself, both, node, one_more, marks, specifiers_whole, declarator_whole}

of_decided : (new : List NewMark) (k : ℕ) (e d : t.Expression) → Alike (in_expression e) (in_expression d) → Alike (in_expression (decided new k e)) (in_expression d)
of_decided [] k e d a = a
of_decided (it ∷ rest) k e d a = by (is_there around k it) (of_decided rest k e d a)
  where
    by : (b : Bool) → Alike (in_expression (decided rest k e)) (in_expression d)
        → Alike (in_expression (if b then t.Decide (decided rest k e) (decimal it.id) (decimal (suc it.id)) it.objective.tag else decided rest k e)) (in_expression d)
    by true h = one_more refl refl h
    by false h = h

of_preceded : (ms : t.Marks) (e d : t.Expression) → Alike (in_expression e) (in_expression d) → Alike (in_expression (preceded_by ms e)) (in_expression d)
of_preceded t.no_marks e d a = a
of_preceded (t.a_mark m ms) e d a = one_more refl refl (both (marks (t.a_mark m ms) t.no_marks) a)

-- what is put around an expression needs nothing
at : (new : List NewMark) (k : ℕ) (e d : t.Expression) → Alike (in_expression e) (in_expression d) → Alike (in_expression (placed new k e)) (in_expression d)
at new k e d a = of_preceded (labels in_front new k) (decided new k e) d (of_decided new k e d a)

mutual
  in_it : (new : List NewMark) (k : ℕ) (e : t.Expression) → Alike (in_expression (within new k e)) (in_expression e)
  in_it new k (t.Name w) = node refl refl refl nothing
  in_it new k (t.Constant w) = node refl refl refl nothing
  in_it new k (t.Text bytes) = node refl refl refl nothing
  in_it new k (t.Index d e) = node refl refl refl (both (at new (k + 1) (within new (k + 1) d) d (in_it new (k + 1) d)) (at new (k + 1 + length (in_expression d)) (within new (k + 1 + length (in_expression d)) e) e (in_it new (k + 1 + length (in_expression d)) e)))
  in_it new k (t.Call f es) = node refl refl refl (both (at new (k + 1) (within new (k + 1) f) f (in_it new (k + 1) f)) (in_all new (k + 1 + length (in_expression f)) es))
  in_it new k (t.Member e w) = node refl refl refl (at new (k + 1) (within new (k + 1) e) e (in_it new (k + 1) e))
  in_it new k (t.Arrow e w) = node refl refl refl (at new (k + 1) (within new (k + 1) e) e (in_it new (k + 1) e))
  in_it new k (t.PostInc e) = node refl refl refl (at new (k + 1) (within new (k + 1) e) e (in_it new (k + 1) e))
  in_it new k (t.PostDec e) = node refl refl refl (at new (k + 1) (within new (k + 1) e) e (in_it new (k + 1) e))
  in_it new k (t.PreInc e) = node refl refl refl (at new (k + 1) (within new (k + 1) e) e (in_it new (k + 1) e))
  in_it new k (t.PreDec e) = node refl refl refl (at new (k + 1) (within new (k + 1) e) e (in_it new (k + 1) e))
  in_it new k (t.Unary op e) = node refl refl refl (at new (k + 1) (within new (k + 1) e) e (in_it new (k + 1) e))
  in_it new k (t.SizeofExpr e) = itself (in_expression (t.SizeofExpr e)) (expression_whole (t.SizeofExpr e))
  in_it new k (t.SizeofType s d) = itself (in_expression (t.SizeofType s d)) (expression_whole (t.SizeofType s d))
  in_it new k (t.Cast s d e) = node refl refl refl (both (both (itself (in_specifiers s) (specifiers_whole s)) (itself (in_declarator d) (declarator_whole d))) (at new (k + 1 + length (in_specifiers s) + length (in_declarator d)) (within new (k + 1 + length (in_specifiers s) + length (in_declarator d)) e) e (in_it new (k + 1 + length (in_specifiers s) + length (in_declarator d)) e)))
  in_it new k (t.Binary op d e) = node refl refl refl (both (at new (k + 1) (within new (k + 1) d) d (in_it new (k + 1) d)) (at new (k + 1 + length (in_expression d)) (within new (k + 1 + length (in_expression d)) e) e (in_it new (k + 1 + length (in_expression d)) e)))
  in_it new k (t.Logical op d e) = node refl refl refl (both (at new (k + 1) (within new (k + 1) d) d (in_it new (k + 1) d)) (at new (k + 1 + length (in_expression d)) (within new (k + 1 + length (in_expression d)) e) e (in_it new (k + 1 + length (in_expression d)) e)))
  in_it new k (t.Assign op d e) = node refl refl refl (both (at new (k + 1) (within new (k + 1) d) d (in_it new (k + 1) d)) (at new (k + 1 + length (in_expression d)) (within new (k + 1 + length (in_expression d)) e) e (in_it new (k + 1 + length (in_expression d)) e)))
  in_it new k (t.Conditional p d e) = node refl refl refl (both (both (at new (k + 1) (within new (k + 1) p) p (in_it new (k + 1) p)) (at new (k + 1 + length (in_expression p)) (within new (k + 1 + length (in_expression p)) d) d (in_it new (k + 1 + length (in_expression p)) d))) (at new (k + 1 + length (in_expression p) + length (in_expression d)) (within new (k + 1 + length (in_expression p) + length (in_expression d)) e) e (in_it new (k + 1 + length (in_expression p) + length (in_expression d)) e)))
  in_it new k (t.Comma es) = node refl refl refl (in_all new (k + 1) es)
  in_it new k (t.Marked ms e) = node refl refl refl (both (marks (joined ms (labels in_front new (k + 1 + length (in_marks ms)))) ms) (of_decided new (k + 1 + length (in_marks ms)) (within new (k + 1 + length (in_marks ms)) e) e (in_it new (k + 1 + length (in_marks ms)) e)))
  in_it new k (t.Decide e p q tag) = node refl refl refl (at new (k + 1) (within new (k + 1) e) e (in_it new (k + 1) e))
  in_it new k (t.After e id tag) = node refl refl refl (at new (k + 1) (within new (k + 1) e) e (in_it new (k + 1) e))

  in_all : (new : List NewMark) (k : ℕ) (es : t.Expressions) → Alike (in_expressions (within_all new k es)) (in_expressions es)
  in_all new k t.no_expressions = nothing
  in_all new k (t.an_expression e es) = both (at new k (within new k e) e (in_it new k e)) (in_all new (k + length (in_expression e)) es)

pub expression : (new : List NewMark) (k : ℕ) (e : t.Expression) → Alike (in_expression (with_marks new k e)) (in_expression e)
expression new k e = at new k (within new k e) e (in_it new k e)

pub optional : (new : List NewMark) (k : ℕ) (e : Option t.Expression) → Alike (in_optional (optional_with_marks new k e)) (in_optional e)
optional new k None = nothing
optional new k (Some e) = expression new k e

mutual
  initialiser : (new : List NewMark) (k : ℕ) (i : t.Initialiser) → Alike (in_initialiser (initialiser_with_marks new k i)) (in_initialiser i)
  initialiser new k (t.Value e) = node refl refl refl (expression new (k + 1) e)
  initialiser new k (t.Braces is) = node refl refl refl (initialisers new (k + 1) is)

  initialisers : (new : List NewMark) (k : ℕ) (is : t.Initialisers) → Alike (in_initialisers (initialisers_with_marks new k is)) (in_initialisers is)
  initialisers new k t.no_initialisers = nothing
  initialisers new k (t.an_initialiser i is) = both (initialiser new k i) (initialisers new (k + length (in_initialiser i)) is)

start : (new : List NewMark) (k : ℕ) (i : Option t.Initialiser) → Alike (in_optional_initialiser (start_with_marks new k i)) (in_optional_initialiser i)
start new k None = nothing
start new k (Some i) = initialiser new k i

declarators : (new : List NewMark) (k : ℕ) (ds : List t.InitDeclarator) → Alike (flat_map in_init_declarator (declarators_with_marks new k ds)) (flat_map in_init_declarator ds)
declarators new k [] = nothing
declarators new k (d ∷ ds) = both (both (itself (in_declarator d.declarator) (declarator_whole d.declarator)) (start new (k + length (in_declarator d.declarator)) d.initialiser)) (declarators new (k + length (in_init_declarator d)) ds)

pub declaration : (new : List NewMark) (k : ℕ) (d : t.Declaration) → Alike (in_declaration (declaration_with_marks new k d)) (in_declaration d)
declaration new k d = both (itself (in_specifiers d.specifiers) (specifiers_whole d.specifiers)) (declarators new (k + length (in_specifiers d.specifiers)) d.declarators)

pub for_start : (new : List NewMark) (k : ℕ) (x : t.ForStart) → Alike (in_start (for_start_with_marks new k x)) (in_start x)
for_start new k t.Nothing = nothing
for_start new k (t.First e) = expression new k e
for_start new k (t.Declares d) = declaration new k d
