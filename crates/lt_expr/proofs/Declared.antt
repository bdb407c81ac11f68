-- Names that are declared in front of those that are open.
use Rattle.std.proofs.Common.{◌≡◌, ℕ, Bool, List, [], ◌∷◌, ◌++◌, Option, Some, None, Result, Ok, Err, IfOk, refl, sym, ap, subst, ◌∙◌}
use Rattle.std.specs.declared.alloc.AllocError.{AllocError}
use Rattle.lt_tree.specs.Tree as t
use Rattle.lt_tree.specs.Scope.{Scope, Binder, hiding, enumerators_in_parts, declaring, after_declarator}
use Rattle.lt_expr.specs.Parsing.{Parsing, scope_of, Below, Hides}
use Rattle.lt_expr.proofs.Scopes.{below_same, below_through}
use Rattle.lt_expr.proofs.Hiding.{hiding_around, below_first, below_hiding}

hides_when : (names new : Scope) (p : Parsing) → new ++ p.outer ≡ names → Below p.inner new → Hides p (record p { inner = new }) names
hides_when names new p scope below = record { rest = refl; symbols = refl; outer = refl; scope = scope; below = below }

hidden_once : (ws : List (List ℕ)) (p : Parsing) (new : Scope) → new ≡ hiding ws p.inner → Hides p (record p { inner = new }) (hiding ws (scope_of p))
hidden_once ws p new is =
    hides_when (hiding ws (scope_of p)) new p (ap (λ names. names ++ p.outer) is ∙ hiding_around ws p.inner p.outer) (subst (Below p.inner) (sym is) (below_hiding ws p.inner))

-- the enumerators of what was read
pub hidden : {X : Type 0} (ws : List (List ℕ)) (before p : Parsing) (new : Scope) (result : Result X AllocError) → p ≡ before → IfOk result (λ _. new ≡ hiding ws p.inner)
    → IfOk result (λ _. Hides before (record p { inner = new }) (hiding ws (scope_of before)))
hidden ws before p new (Ok x) same is = subst (λ (q : Parsing). Hides q (record p { inner = new }) (hiding ws (scope_of q))) same (hidden_once ws p new is)
hidden ws before p new (Err e) same is = is

declaring_around : (type : Bool) (name : Option (List ℕ)) (inner outer : Scope) → declaring type name inner ++ outer ≡ declaring type name (inner ++ outer)
declaring_around type None inner outer = refl
declaring_around type (Some w) inner outer = refl

below_declaring : (type : Bool) (name : Option (List ℕ)) (a b : Scope) → Below a b → Below a (declaring type name b)
below_declaring type None a b below = below
below_declaring type (Some w) a b below = below_through a b (record { name = w; is_type = type } ∷ b) below (below_first (record { name = w; is_type = type }) b)

named_once : (type : Bool) (name : Option (List ℕ)) (p : Parsing) (new : Scope) → new ≡ declaring type name p.inner → Hides p (record p { inner = new }) (declaring type name (scope_of p))
named_once type name p new is =
    hides_when (declaring type name (scope_of p)) new p (ap (λ names. names ++ p.outer) is ∙ declaring_around type name p.inner p.outer)
    (subst (Below p.inner) (sym is) (below_declaring type name p.inner p.inner (below_same p.inner p.inner refl)))

-- the name of a declarator, or an enumerator
pub named : {X : Type 0} (type : Bool) (name : Option (List ℕ)) (before p : Parsing) (new : Scope) (result : Result X AllocError) → p ≡ before
    → IfOk result (λ _. new ≡ declaring type name p.inner) → IfOk result (λ _. Hides before (record p { inner = new }) (declaring type name (scope_of before)))
named type name before p new (Ok x) same is = subst (λ (q : Parsing). Hides q (record p { inner = new }) (declaring type name (scope_of q))) same (named_once type name p new is)
named type name before p new (Err e) same is = is

declared_once : (type : Bool) (name : Option (List ℕ)) (parts : t.Parts) (p : Parsing) (new : Scope) → new ≡ after_declarator type (t.declarator name parts) p.inner
    → Hides p (record p { inner = new }) (after_declarator type (t.declarator name parts) (scope_of p))
declared_once type name parts p new is =
    hides_when (after_declarator type (t.declarator name parts) (scope_of p)) new p
    (ap (λ names. names ++ p.outer) is ∙ declaring_around type name (hiding (enumerators_in_parts parts) p.inner) p.outer ∙ ap (declaring type name) (hiding_around (enumerators_in_parts parts) p.inner p.outer))
    (subst (Below p.inner) (sym is) (below_declaring type name p.inner (hiding (enumerators_in_parts parts) p.inner) (below_hiding (enumerators_in_parts parts) p.inner)))

-- the enumerators and the name of a declarator
pub declared : {X : Type 0} (type : Bool) (name : Option (List ℕ)) (parts : t.Parts) (before p : Parsing) (new : Scope) (result : Result X AllocError) → p ≡ before
    → IfOk result (λ _. new ≡ after_declarator type (t.declarator name parts) p.inner)
    → IfOk result (λ _. Hides before (record p { inner = new }) (after_declarator type (t.declarator name parts) (scope_of before)))
declared type name parts before p new (Ok x) same is =
    subst (λ (q : Parsing). Hides q (record p { inner = new }) (after_declarator type (t.declarator name parts) (scope_of q))) same (declared_once type name parts p new is)
declared type name parts before p new (Err e) same is = is
