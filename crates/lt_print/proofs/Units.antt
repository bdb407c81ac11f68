-- Declarations, statements and units behind what was written.
use Rattle.std.proofs.Common.{◌≡◌, suc, Bool, true, false, not, ◌||◌, ◌&&◌, eqb, length, get_or, if◌then◌else◌, List, [], ◌∷◌, ◌++◌, ℕ, map, Option, Some, None, is_some, option_map, refl, ap, sym, ◌∙◌, append_assoc, arith}
use Rattle.std.proofs.lemmas.List.{append-nil}
use Rattle.std.proofs.lemmas.Bool.{ne_eqb}
use Rattle.std.specs.Global.{Box, Vec}
use Rattle.std.specs.List.{flat_map}
use Rattle.lt_tree.specs.declared.terminal.Terminal.TheVariants as k
use Rattle.lt_tree.specs.declared.expression.Expr.{Expr}
use Rattle.lt_tree.specs.declared.declaration.InitDeclarator.{InitDeclarator}
use Rattle.lt_tree.specs.declared.declaration.Initialiser.{Initialiser}
use Rattle.lt_tree.specs.declared.declaration.Initialiser.TheVariants as init
use Rattle.lt_tree.specs.declared.statement.Stmt.{Stmt}
use Rattle.lt_tree.specs.declared.statement.Stmt.TheVariants as stmt
use Rattle.lt_tree.specs.declared.statement.Item.{Item}
use Rattle.lt_tree.specs.declared.statement.Item.TheBlock as at
use Rattle.lt_tree.specs.declared.statement.SwitchCase.{SwitchCase}
use Rattle.lt_tree.specs.Tree as t
use Rattle.lt_tree.specs.Pieces.{gap, indent, line_end, text_of}
use Rattle.lt_tree.specs.View.{expression_of}
use Rattle.lt_tree.specs.Records.{declarator_of}
use Rattle.lt_tree.specs.UnitView.{initialiser_of, initialisers_in, init_declarator_of, label_of, statement_of, item_before, items_in, cases_in}
use Rattle.lt_tree.specs.Canon.{Pieces, sign, gap_if, spaced, comma_gap, in_parentheses, declarator, specifiers, expression}
use Rattle.lt_tree.specs.CanonUnits.{initialiser, initialisers, init_declarator, init_declarators, declaration, label_line, lines, item_lines, case_lines}
use Rattle.lt_tree.proofs.UnitRows as rows
use Rattle.lt_print.specs.Lists.{stands, behind, separated}
use Rattle.lt_print.specs.Declarators.{is_written}
use Rattle.lt_print.specs.Statements.{declared_stand, is_compound, body_lines, else_lines, case_block}
use Rattle.lt_print.proofs.Words.{joined}
use Rattle.lt_print.proofs.Declarators.{stands_declarator}
use Rattle.lt_print.proofs.Types.{apart_text, stands_back}
use Rattle.lt_print.proofs.Rows.{two_parts}

-- ---- declarations

abbrev pub initialiser_at : ℕ → Initialiser → Pieces
initialiser_at n i = initialiser n (initialiser_of i)

abbrev pub init_declarator_at : ℕ → InitDeclarator → Pieces
init_declarator_at n d = init_declarator n (declarator_of d.declarator) (option_map initialiser_of d.initialiser)

pub initialisers_are : (n : ℕ) (is : List Initialiser) → initialisers n (initialisers_in is) ≡ separated comma_gap true (map (initialiser_at n) is)
initialisers_are n [] = refl
initialisers_are n (i ∷ []) = sym (append-nil (initialiser_at n i))
initialisers_are n (i ∷ j ∷ is) =
    ap (λ (x : Pieces). (initialiser_at n i ++ comma_gap) ++ x) (initialisers_are n (j ∷ is)) ∙ two_parts (initialiser_at n i) (initialiser_at n j) (map (initialiser_at n) is)

pub init_declarators_are : (n : ℕ) (ds : List InitDeclarator) → init_declarators n (map init_declarator_of ds) ≡ separated comma_gap true (map (init_declarator_at n) ds)
init_declarators_are n [] = refl
init_declarators_are n (d ∷ []) = sym (append-nil (init_declarator_at n d))
init_declarators_are n (d ∷ e ∷ ds) =
    ap (λ (x : Pieces). (init_declarator_at n d ++ comma_gap) ++ x) (init_declarators_are n (e ∷ ds)) ∙ two_parts (init_declarator_at n d) (init_declarator_at n e) (map (init_declarator_at n) ds)

pub braces_is : (parts : Vec Initialiser) → initialiser_of (init.List parts) ≡ t.Braces (initialisers_in parts.items)
braces_is parts = ap t.Braces (rows.initialisers_are parts)

-- whether the declarators of a declaration have any text
pub one_declared : (ds : List InitDeclarator) (d : InitDeclarator) → length ds ≡ 1 → d ≡ get_or ds 0 d → (is_written (declarator_of d.declarator) || is_some d.initialiser) ≡ declared_stand (map init_declarator_of ds)
one_declared [] d len is = absurd (omega (arith, len))
one_declared (x ∷ []) d len is = ap (λ (y : InitDeclarator). is_written (declarator_of y.declarator) || is_some y.initialiser) is ∙ ap (λ (b : Bool). is_written (declarator_of x.declarator) || b) (mapped x.initialiser)
  where
    mapped : (i : Option Initialiser) → is_some i ≡ is_some (option_map initialiser_of i)
    mapped None = refl
    mapped (Some i) = refl
one_declared (x ∷ y ∷ ds) d len is = absurd (omega (arith, len))

pub several_declared : (ds : List InitDeclarator) → (length ds ≡ 1 → ⊥) → not (eqb (length ds) 0) ≡ declared_stand (map init_declarator_of ds)
several_declared [] other = refl
several_declared (x ∷ []) other = absurd (other refl)
several_declared (x ∷ y ∷ ds) other = let e : eqb (suc (suc (length ds))) 0 ≡ false = ne_eqb (suc (suc (length ds))) 0 (λ k. omega arith) in ap not e

or_true : (b : Bool) → (b || true) ≡ true
or_true true = refl
or_true false = refl

or_false : (b : Bool) → (b || false) ≡ b
or_false true = refl
or_false false = refl

one_init : (n : ℕ) (d : t.Declarator) (i : Option t.Initialiser) → stands (init_declarator n d i) ≡ (is_written d || is_some i)
one_init n d None = stands_declarator n d ∙ sym (or_false (is_written d))
one_init n d (Some i) = ap stands (append_assoc (declarator n d) (spaced k.Equal) (initialiser n i)) ∙ stands_back (declarator n d) gap _ ∙ sym (or_true (is_written d))

pub declared_stands : (n : ℕ) (ds : List t.InitDeclarator) → stands (init_declarators n ds) ≡ declared_stand ds
declared_stands n [] = refl
declared_stands n (d ∷ []) = one_init n d.declarator d.initialiser
declared_stands n (d ∷ e ∷ ds) = ap stands (append_assoc (init_declarator n d.declarator d.initialiser) comma_gap (init_declarators n (e ∷ ds))) ∙ stands_back (init_declarator n d.declarator d.initialiser) (sign k.Comma) _

pub declaration_text : (n : ℕ) (d : t.Declaration) (before : Bool) (out b e f now : List ℕ)
    → b ≡ out ++ text_of (specifiers n d.specifiers) → before ≡ stands (specifiers n d.specifiers) → e ≡ b ++ text_of (gap_if (before && declared_stand d.declarators))
    → f ≡ e ++ text_of (init_declarators n d.declarators) → now ≡ f ++ text_of (sign k.Semicolon ∷ []) → now ≡ out ++ text_of (declaration n d)
declaration_text n d before out b e f now p is q r s =
    let all : f ≡ b ++ text_of (behind before (init_declarators n d.declarators)) =
    joined b e f (gap_if (before && declared_stand d.declarators)) (init_declarators n d.declarators) q r ∙ ap (λ (x : Bool). b ++ text_of (gap_if (before && x) ++ init_declarators n d.declarators)) (sym (declared_stands n d.declarators)) in
    joined out f now _ _ (apart_text (specifiers n d.specifiers) (init_declarators n d.declarators) before out b f is p all) s

-- ---- statements

pub body_is : (n : ℕ) (x : t.Statement) → body_lines n x ≡ (if is_compound x then gap ∷ lines n x else line_end ∷ indent (suc n) ∷ lines (suc n) x)
body_is n (t.Compound items) = refl
body_is n (t.Evaluates e) = refl
body_is n t.Null = refl
body_is n (t.If test x) = refl
body_is n (t.IfElse test x y) = refl
body_is n (t.While test x) = refl
body_is n (t.Do x test) = refl
body_is n (t.For start test step x) = refl
body_is n (t.Switch e cases) = refl
body_is n t.Break = refl
body_is n t.Continue = refl
body_is n (t.Return e) = refl

pub body_behind : (n : ℕ) (x : t.Statement) (compound : Bool) (out mid now : List ℕ) → compound ≡ is_compound x → compound ≡ true
    → mid ≡ out ++ text_of (gap ∷ []) → now ≡ mid ++ text_of (lines n x) → now ≡ out ++ text_of (body_lines n x)
body_behind n x compound out mid now is yes_is e f =
    joined _ _ _ _ _ e f ∙ ap (λ (b : Bool). out ++ text_of (if b then gap ∷ lines n x else line_end ∷ indent (suc n) ∷ lines (suc n) x)) (sym yes_is ∙ is) ∙ ap (λ (y : Pieces). out ++ text_of y) (sym (body_is n x))

pub body_below : (n m : ℕ) (x : t.Statement) (compound : Bool) (out a b now : List ℕ) → compound ≡ is_compound x → compound ≡ false → m ≡ suc n
    → a ≡ out ++ text_of (line_end ∷ []) → b ≡ a ++ text_of (indent m ∷ []) → now ≡ b ++ text_of (lines m x) → now ≡ out ++ text_of (body_lines n x)
body_below n m x compound out a b now is no_is deep e f g =
    joined _ _ _ _ _ e (joined _ _ _ _ _ f g) ∙ ap (λ (j : ℕ). out ++ text_of (line_end ∷ indent j ∷ lines j x)) deep
    ∙ ap (λ (c : Bool). out ++ text_of (if c then gap ∷ lines n x else line_end ∷ indent (suc n) ∷ lines (suc n) x)) (sym no_is ∙ is) ∙ ap (λ (y : Pieces). out ++ text_of y) (sym (body_is n x))

pub compound_is : (items : Vec Item) → statement_of (stmt.Compound items) ≡ t.Compound (items_in items.items)
compound_is items = ap t.Compound (rows.items_are items)

pub switch_is : (operand : Expr) (cases : Vec SwitchCase) → statement_of (stmt.Switch operand cases) ≡ t.Switch (expression_of operand) (cases_in cases.items)
switch_is operand cases = ap (t.Switch (expression_of operand)) (rows.cases_are cases)

-- an `if` with or without `else`
pub if_is : (n : ℕ) (test : Expr) (body : Box Stmt) (other : Option (Box Stmt))
    → lines n (statement_of (stmt.If test body other)) ≡ (sign k.If ∷ gap ∷ in_parentheses (expression n (expression_of test))) ++ (body_lines n (statement_of body.value) ++ else_lines n other)
unfolding lines
if_is n test body None = ap (λ (x : Pieces). (sign k.If ∷ gap ∷ in_parentheses (expression n (expression_of test))) ++ x) (sym (append-nil (body_lines n (statement_of body.value))))
if_is n test body (Some other) =
    append_assoc (sign k.If ∷ gap ∷ in_parentheses (expression n (expression_of test))) (body_lines n (statement_of body.value)) (indent n ∷ sign k.Else ∷ body_lines n (statement_of other.value))

pub block_text : (n inner : ℕ) (items : t.Items) (out a b d e now : List ℕ) → inner ≡ suc n
    → a ≡ out ++ text_of (sign k.OpenBrace ∷ []) → b ≡ a ++ text_of (line_end ∷ []) → d ≡ b ++ text_of (item_lines inner items)
    → e ≡ d ++ text_of (indent n ∷ sign k.CloseBrace ∷ []) → now ≡ e ++ text_of (line_end ∷ []) → now ≡ out ++ text_of (lines n (t.Compound items))
unfolding lines
block_text n inner items out a b d e now is p q r s u =
    joined _ _ _ _ _ p (joined _ _ _ _ _ q (joined _ _ _ _ _ r (joined _ _ _ _ _ s u))) ∙ ap (λ (m : ℕ). out ++ text_of (sign k.OpenBrace ∷ line_end ∷ item_lines m items ++ indent n ∷ sign k.CloseBrace ∷ line_end ∷ [])) is

item_step : (n : ℕ) (x : Item) (rest : t.Items) → item_lines n (item_before x rest) ≡ item_lines n (item_before x t.no_items) ++ item_lines n rest
unfolding lines
item_step n (at.Declaration d) rest = simp (append_assoc, append-nil)
item_step n (at.Statement x) rest = simp (append_assoc, append-nil)
item_step n (at.Mark m) rest = simp (append_assoc, append-nil)

pub items_step : (n : ℕ) (x : Item) (rest : List Item) → item_lines n (items_in (x ∷ rest)) ≡ item_lines n (item_before x t.no_items) ++ item_lines n (items_in rest)
items_step n x rest = item_step n x (items_in rest)

pub cases_step : (n : ℕ) (x : SwitchCase) (rest : List SwitchCase)
    → case_lines n (cases_in (x ∷ rest)) ≡ (flat_map (label_line n) (map label_of x.labels.items) ++ (indent n ∷ lines n (statement_of x.statement))) ++ case_lines n (cases_in rest)
unfolding lines
cases_step n x rest = simp append_assoc

pub switch_lines : (n : ℕ) (e : t.Expression) (cases : t.Cases) → lines n (t.Switch e cases) ≡ (sign k.Switch ∷ gap ∷ in_parentheses (expression n e)) ++ case_block n cases
unfolding lines
switch_lines n e cases =
    append_assoc (sign k.Switch ∷ gap ∷ in_parentheses (expression n e)) (gap ∷ sign k.OpenBrace ∷ line_end ∷ case_lines (suc n) cases) (indent n ∷ sign k.CloseBrace ∷ line_end ∷ [])

-- ---- units

pub definition_shape : (a items : Pieces)
    → a ++ ((gap ∷ sign k.OpenBrace ∷ line_end ∷ []) ++ (items ++ ((sign k.CloseBrace ∷ []) ++ (line_end ∷ [])))) ≡ a ++ gap ∷ sign k.OpenBrace ∷ line_end ∷ items ++ sign k.CloseBrace ∷ line_end ∷ []
definition_shape a items = simp append_assoc
