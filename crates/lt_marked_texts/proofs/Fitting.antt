-- New marks whose predicates are made of the expressions at their places.
use Rattle.std.proofs.Common.{◌≡◌, ℕ, suc, ◌+◌, true, List, [], ◌∷◌, ◌++◌, length, subst, arith, length-append}
use Rattle.lt_tree.specs.Tree as c
use Rattle.lt_tree.specs.Nodes.{Node, an_external, an_expression, in_expression}
use Rattle.lt_tree.specs.Scope.{Scope, hiding, enumerators_in, in_body}
use Rattle.lt_objectives.specs.Objectives.{Form, at_start, in_front}
use Rattle.lt_objectives.specs.Marked.{NewMark, is_there}
use Rattle.lt_print.proofs.Spelt.{SpeltDeclarator}
use Rattle.lt_marked_texts.proofs.Good.{Good}

-- A predicate that is good where this expression is, and declares nothing.
pub record Made (e predicate : c.Expression) : Type 0 where
  pub good : (scope : Scope) → Good scope e → Good scope predicate
  pub quiet : enumerators_in predicate ≡ []

-- One that is good at the start of the body behind this declarator, whatever is declared in marks before it.
pub record MadeAtStart (s : c.Specifiers) (d : c.Declarator) (predicate : c.Expression) : Type 0 where
  pub good : (scope : Scope) (names : List (List ℕ)) → SpeltDeclarator d → Good (hiding names (in_body s d scope)) predicate
  pub quiet : enumerators_in predicate ≡ []

-- so it is with the predicate of a mark, if it is of this form and at this place
abbrev pub IsMade : (c.Expression → Type 0) → Form → ℕ → NewMark → Type 0
IsMade P form k new = is_there form k new ≡ true → P new.objective.predicate

abbrev pub AreMade : (c.Expression → Type 0) → Form → List NewMark → ℕ → Type 0
AreMade P form [] k = Unit {0}
AreMade P form (new ∷ rest) k = IsMade P form k new × AreMade P form rest k

-- the marks at the number of this node
abbrev pub FitsNode : List NewMark → ℕ → Node → Type 0
FitsNode new k (an_expression e) = AreMade (Made e) in_front new k
FitsNode new k (an_external (c.Defines s d body)) = AreMade (MadeAtStart s d) at_start new k
FitsNode new k node = Unit {0}

-- those at these nodes, the first of which has this number
abbrev pub Fits : List NewMark → ℕ → List Node → Type 0
Fits new k [] = Unit {0}
Fits new k (node ∷ nodes) = FitsNode new k node × Fits new (k + 1) nodes

module _ (new : List NewMark) where
  moved : (nodes : List Node) (j k : ℕ) → j ≡ k → Fits new j nodes → Fits new k nodes
  moved nodes j k e = subst (λ (n : ℕ). Fits new n nodes) e

  front_fits : (k : ℕ) (xs ys : List Node) → Fits new k (xs ++ ys) → Fits new k xs
  front_fits k [] ys fits = tt
  front_fits k (x ∷ xs) ys fits = (fits.0, front_fits (k + 1) xs ys fits.1)

  back_fits : (k : ℕ) (xs ys : List Node) → Fits new k (xs ++ ys) → Fits new (k + length xs) ys
  back_fits k [] ys fits = moved ys k (k + 0) (omega arith) fits
  back_fits k (x ∷ xs) ys fits = moved ys (k + 1 + length xs) (k + suc (length xs)) (omega arith) (back_fits (k + 1) xs ys fits.1)

  -- nodes that follow each other
  pub record Two (k : ℕ) (xs ys : List Node) : Type 0 where
    pub first : Fits new k xs
    pub second : Fits new (k + length xs) ys

  pub two : (k : ℕ) (xs ys : List Node) → Fits new k (xs ++ ys) → Two k xs ys
  two k xs ys fits = record { first = front_fits k xs ys fits; second = back_fits k xs ys fits }

  pub record Three (k : ℕ) (xs ys zs : List Node) : Type 0 where
    pub first : Fits new k xs
    pub second : Fits new (k + length xs) ys
    pub third : Fits new (k + length xs + length ys) zs

  pub three_parts : (k : ℕ) (xs ys zs : List Node) → Fits new k (xs ++ ys ++ zs) → Three k xs ys zs
  three_parts k xs ys zs fits =
      let front = two k (xs ++ ys) zs fits in
      let parts = two k xs ys front.first in
      record { first = parts.first; second = parts.second; third = moved zs (k + length (xs ++ ys)) (k + length xs + length ys) (omega (arith, length-append xs ys)) front.second }

  pub record Four (k : ℕ) (xs ys zs ws : List Node) : Type 0 where
    pub front : Three k xs ys zs
    pub fourth : Fits new (k + length xs + length ys + length zs) ws

  pub four_parts : (k : ℕ) (xs ys zs ws : List Node) → Fits new k (xs ++ ys ++ zs ++ ws) → Four k xs ys zs ws
  four_parts k xs ys zs ws fits =
      let parts = three_parts k (xs ++ ys) zs ws fits in
      let front = two k (xs ++ ys ++ zs) ws fits in
      record { front = three_parts k xs ys zs front.first; fourth = moved ws (k + length (xs ++ ys) + length zs) (k + length xs + length ys + length zs) (omega (arith, length-append xs ys)) parts.third }

  -- the marks in front of an expression that begins here
  pub own_fits : (k : ℕ) (e : c.Expression) → Fits new k (in_expression e) → AreMade (Made e) in_front new k
  own_fits k (c.Name w) fits = fits.0
  own_fits k (c.Constant w) fits = fits.0
  own_fits k (c.Text bytes) fits = fits.0
  own_fits k (c.Index whole place) fits = fits.0
  own_fits k (c.Call callee arguments) fits = fits.0
  own_fits k (c.Member e w) fits = fits.0
  own_fits k (c.Arrow e w) fits = fits.0
  own_fits k (c.PostInc e) fits = fits.0
  own_fits k (c.PostDec e) fits = fits.0
  own_fits k (c.PreInc e) fits = fits.0
  own_fits k (c.PreDec e) fits = fits.0
  own_fits k (c.Unary op e) fits = fits.0
  own_fits k (c.SizeofExpr e) fits = fits.0
  own_fits k (c.SizeofType s d) fits = fits.0
  own_fits k (c.Cast s d e) fits = fits.0
  own_fits k (c.Binary op left right) fits = fits.0
  own_fits k (c.Logical op left right) fits = fits.0
  own_fits k (c.Conditional test left right) fits = fits.0
  own_fits k (c.Assign op target value) fits = fits.0
  own_fits k (c.Comma parts) fits = fits.0
  own_fits k (c.Marked marks e) fits = fits.0
  own_fits k (c.Decide e when_true when_false tag) fits = fits.0
  own_fits k (c.After e id tag) fits = fits.0
