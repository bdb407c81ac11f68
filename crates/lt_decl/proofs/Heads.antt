-- What stands in the parentheses of a `for`, read part by part.
use Rattle.std.proofs.Common.{◌≡◌, ℕ, Option, Some, None, refl, sym, ap, ◌∙◌}
use Rattle.lt_tree.specs.declared.terminal.Terminal.TheVariants as t
use Rattle.lt_tree.specs.Tree as c
use Rattle.lt_tree.specs.Scope.{Scope, after_optional, after_start}
use Rattle.lt_expr.specs.Front.{Rest}
use Rattle.lt_expr.specs.Parsing.{Parsing, scope_of, rest_of, GoesOn, Hides}
use Rattle.lt_expr.specs.Parsing.{Declares}
use Rattle.lt_decl.specs.Singles.{Head, head, after_head}
use Rattle.lt_decl.specs.Reading as reading
use Rattle.lt_expr.proofs.Scopes.{same_scope, read_there, within_here, within_on, within_hides, within_declares, declares}

three_read : (n : ℕ) (scope : Scope) (r u v w : Rest) (f : c.ForStart) (e s : Option c.Expression)
    → reading.for_start n scope r ≡ Some (f, u) → reading.optional n (after_start f scope) t.Semicolon u ≡ Some (e, v) → reading.optional n (after_optional e (after_start f scope)) t.CloseParen v ≡ Some (s, w)
    → head n scope r ≡ Some (record { start = f; test = e; step = s }, w)
three_read n scope r u v w f e s first second third = rw (first, second, third) refl

two_fail : (n : ℕ) (scope : Scope) (r u : Rest) (f : c.ForStart) → reading.for_start n scope r ≡ Some (f, u) → reading.optional n (after_start f scope) t.Semicolon u ≡ None → head n scope r ≡ None
two_fail n scope r u f first none = rw (first, none) refl

three_fail : (n : ℕ) (scope : Scope) (r u v : Rest) (f : c.ForStart) (e : Option c.Expression)
    → reading.for_start n scope r ≡ Some (f, u) → reading.optional n (after_start f scope) t.Semicolon u ≡ Some (e, v) → reading.optional n (after_optional e (after_start f scope)) t.CloseParen v ≡ None
    → head n scope r ≡ None
three_fail n scope r u v f e first second none = rw (first, second, none) refl

scope_behind_test : (a b d g : Parsing) (f : c.ForStart) (e : Option c.Expression) → Declares a b (after_start f (scope_of a)) → GoesOn b d → Hides d g (after_optional e (scope_of d))
    → scope_of g ≡ after_optional e (after_start f (scope_of a))
scope_behind_test a b d g f e start on test = test.scope ∙ ap (after_optional e) (same_scope b d on ∙ start.scope)

pub head_read : (n : ℕ) (a b d g h k : Parsing) (f : c.ForStart) (e s : Option c.Expression)
    → reading.for_start n (scope_of a) (rest_of a) ≡ Some (f, rest_of b) → Declares a b (after_start f (scope_of a))
    → reading.optional n (scope_of b) t.Semicolon (rest_of b) ≡ Some (e, rest_of d) → GoesOn b d → Hides d g (after_optional e (scope_of d))
    → reading.optional n (scope_of g) t.CloseParen (rest_of g) ≡ Some (s, rest_of h) → GoesOn g h → Hides h k (after_optional s (scope_of h))
    → let whole : Head = record { start = f; test = e; step = s } in (head n (scope_of a) (rest_of a) ≡ Some (whole, rest_of k)) × Declares a k (after_head whole (scope_of a))
head_read n a b d g h k f e s first start second on test third goes step =
    let behind = scope_behind_test a b d g f e start on test in (
      three_read n (scope_of a) (rest_of a) (rest_of b) (rest_of d) (rest_of h) f e s first (ap (λ names. reading.optional n names t.Semicolon (rest_of b)) (sym start.scope) ∙ second)
          (read_there (λ names r. reading.optional n names t.CloseParen r) g _ _ _ behind test.rest third)
          ∙ ap (λ r. Some (record { start = f; test = e; step = s }, r)) (sym step.rest),
      declares a k _ (within_hides a h k _ (within_on a g h (within_hides a d g _ (within_on a b d (within_declares a a b _ (within_here a) start) on) test) goes) step)
          (step.scope ∙ ap (after_optional s) (same_scope g h goes ∙ behind)),
    )

pub head_without_test : (n : ℕ) (a b : Parsing) (f : c.ForStart) → reading.for_start n (scope_of a) (rest_of a) ≡ Some (f, rest_of b) → Declares a b (after_start f (scope_of a))
    → reading.optional n (scope_of b) t.Semicolon (rest_of b) ≡ None → head n (scope_of a) (rest_of a) ≡ None
head_without_test n a b f first start none =
    two_fail n (scope_of a) (rest_of a) (rest_of b) f first (ap (λ names. reading.optional n names t.Semicolon (rest_of b)) (sym start.scope) ∙ none)

pub head_without_step : (n : ℕ) (a b d g : Parsing) (f : c.ForStart) (e : Option c.Expression)
    → reading.for_start n (scope_of a) (rest_of a) ≡ Some (f, rest_of b) → Declares a b (after_start f (scope_of a))
    → reading.optional n (scope_of b) t.Semicolon (rest_of b) ≡ Some (e, rest_of d) → GoesOn b d → Hides d g (after_optional e (scope_of d))
    → reading.optional n (scope_of g) t.CloseParen (rest_of g) ≡ None → head n (scope_of a) (rest_of a) ≡ None
head_without_step n a b d g f e first start second on test none =
    three_fail n (scope_of a) (rest_of a) (rest_of b) (rest_of d) f e first (ap (λ names. reading.optional n names t.Semicolon (rest_of b)) (sym start.scope) ∙ second)
    (read_there (λ names r. reading.optional n names t.CloseParen r) g _ _ _ (scope_behind_test a b d g f e start on test) test.rest none)
