-- What has no objectives gets no marks.
use Rattle.std.proofs.Common.{◌≡◌, refl, sym, ap, subst, ◌∙◌, ℕ, suc, ◌+◌, ◌<◌, ◌≤◌, List, ◌++◌, length, length-append, arith}
use Rattle.lt_tree.specs.Tree as c
use Rattle.lt_tree.specs.Nodes.{Node, in_expression, in_expressions, in_marks, in_specifiers, in_declarator}
use Rattle.lt_objectives.specs.Objectives.{at_start, in_front, Objective}
use Rattle.lt_objectives.specs.Marked.{NewMark, numbered, labels, decided, joined, preceded_by, within, within_all, with_marks}
use Rattle.lt_sites.proofs.Nodes.{expression_node}
use Rattle.lt_objective_places.specs.Stands.{IsAmong, IsWithin}
use Rattle.lt_objective_places.proofs.MarksAtPlaces.{no_labels, not_decided}

-- ---- no marks at a number

-- no label in front and no `pc_decide` is there at these numbers
pub record HasNone (new : List NewMark) (k size : ℕ) : Type 0 where
  pub labels : (n : ℕ) → IsWithin k size n → labels in_front new n ≡ c.no_marks
  pub decided : (n : ℕ) (e : c.Expression) → IsWithin k size n → decided new n e ≡ e

pub has_none : (id k size : ℕ) (them : List Objective) → ((o : Objective) → IsAmong o them → IsWithin k size o.place → o.form ≡ at_start) → HasNone (numbered id them) k size
has_none id k size them none = record {
  labels = λ n w. no_labels in_front n id them (λ o h form place. let start = none o h (subst (IsWithin k size) (sym place) w) in absurd cc);
  decided = λ n e w. not_decided n id e them (λ o h form place. let start = none o h (subst (IsWithin k size) (sym place) w) in absurd cc);
}

-- ---- expressions

pub fewer : {new : List NewMark} {k size : ℕ} (j more : ℕ) → k ≤ j → j + more ≤ k + size → HasNone new k size → HasNone new j more
fewer {new} {k} {size} j more first last h = record { labels = λ n w. h.labels n (wider n w); decided = λ n e w. h.decided n e (wider n w) }
  where
    wider : (n : ℕ) → IsWithin j more n → IsWithin k size n
    wider n w = let low : j ≤ n = w.0 in let high : n < j + more = w.1 in (omega arith, omega arith)

here : (k : ℕ) (e : c.Expression) → IsWithin k (length (in_expression e)) k
here k e = (omega arith, omega (arith, ap length (expression_node e)))

pub joined_none : (ms : c.Marks) → joined ms c.no_marks ≡ ms
joined_none c.no_marks = refl
joined_none (c.a_mark m ms) = ap (c.a_mark m) (joined_none ms)

-- an expression that gets no marks of its own
no_own : (new : List NewMark) (k : ℕ) (e : c.Expression) → HasNone new k (length (in_expression e)) → within new k e ≡ e → with_marks new k e ≡ e
no_own new k e h is = ap (λ ms. preceded_by ms (decided new k (within new k e))) (h.labels k (here k e)) ∙ h.decided k (within new k e) (here k e) ∙ is

two_fit : (k : ℕ) (xs ys : List Node) → k + 1 + length xs + length ys ≤ k + suc (length (xs ++ ys))
two_fit k xs ys = omega (arith, length-append xs ys)

first_fits : (k : ℕ) (xs ys : List Node) → k + 1 + length xs ≤ k + suc (length (xs ++ ys))
first_fits k xs ys = omega (arith, length-append xs ys)

pub one_fits : (k n : ℕ) → k + 1 + n ≤ k + suc n
one_fits k n = omega arith

three_fit : (k : ℕ) (xs ys zs : List Node) → k + 1 + length xs + length ys + length zs ≤ k + suc (length (xs ++ ys ++ zs))
three_fit k xs ys zs = omega (arith, length-append (xs ++ ys) zs, length-append xs ys)

second_fits : (k : ℕ) (xs ys zs : List Node) → k + 1 + length xs + length ys ≤ k + suc (length (xs ++ ys ++ zs))
second_fits k xs ys zs = omega (arith, length-append (xs ++ ys) zs, length-append xs ys)

first_of_three : (k : ℕ) (xs ys zs : List Node) → k + 1 + length xs ≤ k + suc (length (xs ++ ys ++ zs))
first_of_three k xs ys zs = omega (arith, length-append (xs ++ ys) zs, length-append xs ys)

-- an operand, if inside it no mark is added
part : (new : List NewMark) {k size : ℕ} (j : ℕ) (e : c.Expression) → k ≤ j → j + length (in_expression e) ≤ k + size → HasNone new k size → (HasNone new j (length (in_expression e)) → within new j e ≡ e)
    → with_marks new j e ≡ e
part new j e first last h inside = let g = fewer j (length (in_expression e)) first last h in no_own new j e g (inside g)

mutual
  pub inside_unmarked : (new : List NewMark) (k : ℕ) (e : c.Expression) → HasNone new k (length (in_expression e)) → within new k e ≡ e
  inside_unmarked new k (c.Index array index) h =
      let j = k + 1 + length (in_expression array) in
      ap (λ x. c.Index x (with_marks new j index)) (part new (k + 1) array (omega arith) (first_fits k (in_expression array) (in_expression index)) h (inside_unmarked new (k + 1) array))
      ∙ ap (c.Index array) (part new j index (omega arith) (two_fit k (in_expression array) (in_expression index)) h (inside_unmarked new j index))
  inside_unmarked new k (c.Call callee arguments) h =
      let j = k + 1 + length (in_expression callee) in
      ap (λ x. c.Call x (within_all new j arguments)) (part new (k + 1) callee (omega arith) (first_fits k (in_expression callee) (in_expressions arguments)) h (inside_unmarked new (k + 1) callee))
      ∙ ap (c.Call callee) (all_unmarked new j arguments (fewer j (length (in_expressions arguments)) (omega arith) (two_fit k (in_expression callee) (in_expressions arguments)) h))
  inside_unmarked new k (c.Member e w) h = ap (λ x. c.Member x w) (part new (k + 1) e (omega arith) (one_fits k (length (in_expression e))) h (inside_unmarked new (k + 1) e))
  inside_unmarked new k (c.Arrow e w) h = ap (λ x. c.Arrow x w) (part new (k + 1) e (omega arith) (one_fits k (length (in_expression e))) h (inside_unmarked new (k + 1) e))
  inside_unmarked new k (c.PostInc e) h = ap c.PostInc (part new (k + 1) e (omega arith) (one_fits k (length (in_expression e))) h (inside_unmarked new (k + 1) e))
  inside_unmarked new k (c.PostDec e) h = ap c.PostDec (part new (k + 1) e (omega arith) (one_fits k (length (in_expression e))) h (inside_unmarked new (k + 1) e))
  inside_unmarked new k (c.PreInc e) h = ap c.PreInc (part new (k + 1) e (omega arith) (one_fits k (length (in_expression e))) h (inside_unmarked new (k + 1) e))
  inside_unmarked new k (c.PreDec e) h = ap c.PreDec (part new (k + 1) e (omega arith) (one_fits k (length (in_expression e))) h (inside_unmarked new (k + 1) e))
  inside_unmarked new k (c.Unary op e) h = ap (c.Unary op) (part new (k + 1) e (omega arith) (one_fits k (length (in_expression e))) h (inside_unmarked new (k + 1) e))
  inside_unmarked new k (c.Cast s d e) h =
      let j = k + 1 + length (in_specifiers s) + length (in_declarator d) in
      ap (c.Cast s d) (part new j e (omega arith) (three_fit k (in_specifiers s) (in_declarator d) (in_expression e)) h (inside_unmarked new j e))
  inside_unmarked new k (c.Binary op left right) h =
      let j = k + 1 + length (in_expression left) in
      ap (λ x. c.Binary op x (with_marks new j right)) (part new (k + 1) left (omega arith) (first_fits k (in_expression left) (in_expression right)) h (inside_unmarked new (k + 1) left))
      ∙ ap (c.Binary op left) (part new j right (omega arith) (two_fit k (in_expression left) (in_expression right)) h (inside_unmarked new j right))
  inside_unmarked new k (c.Logical op left right) h =
      let j = k + 1 + length (in_expression left) in
      ap (λ x. c.Logical op x (with_marks new j right)) (part new (k + 1) left (omega arith) (first_fits k (in_expression left) (in_expression right)) h (inside_unmarked new (k + 1) left))
      ∙ ap (c.Logical op left) (part new j right (omega arith) (two_fit k (in_expression left) (in_expression right)) h (inside_unmarked new j right))
  inside_unmarked new k (c.Conditional test left right) h =
      let i = k + 1 + length (in_expression test) in
      let j = i + length (in_expression left) in
      ap (λ x. c.Conditional x (with_marks new i left) (with_marks new j right))
      (part new (k + 1) test (omega arith) (first_of_three k (in_expression test) (in_expression left) (in_expression right)) h (inside_unmarked new (k + 1) test))
      ∙ ap (λ x. c.Conditional test x (with_marks new j right))
      (part new i left (omega arith) (second_fits k (in_expression test) (in_expression left) (in_expression right)) h (inside_unmarked new i left))
      ∙ ap (c.Conditional test left) (part new j right (omega arith) (three_fit k (in_expression test) (in_expression left) (in_expression right)) h (inside_unmarked new j right))
  inside_unmarked new k (c.Assign op target e) h =
      let j = k + 1 + length (in_expression target) in
      ap (λ x. c.Assign op x (with_marks new j e)) (part new (k + 1) target (omega arith) (first_fits k (in_expression target) (in_expression e)) h (inside_unmarked new (k + 1) target))
      ∙ ap (c.Assign op target) (part new j e (omega arith) (two_fit k (in_expression target) (in_expression e)) h (inside_unmarked new j e))
  inside_unmarked new k (c.Comma parts) h = ap c.Comma (all_unmarked new (k + 1) parts (fewer (k + 1) (length (in_expressions parts)) (omega arith) (one_fits k (length (in_expressions parts))) h))
  inside_unmarked new k (c.Marked ms e) h =
      let j = k + 1 + length (in_marks ms) in
      let g = fewer j (length (in_expression e)) (omega arith) (two_fit k (in_marks ms) (in_expression e)) h in
      ap (λ x. c.Marked (joined ms x) (decided new j (within new j e))) (g.labels j (here j e)) ∙ ap (λ x. c.Marked x (decided new j (within new j e))) (joined_none ms)
      ∙ ap (c.Marked ms) (g.decided j (within new j e) (here j e) ∙ inside_unmarked new j e g)
  inside_unmarked new k (c.Decide e when_true when_false tag) h = ap (λ x. c.Decide x when_true when_false tag) (part new (k + 1) e (omega arith) (one_fits k (length (in_expression e))) h (inside_unmarked new (k + 1) e))
  inside_unmarked new k (c.After e id tag) h = ap (λ x. c.After x id tag) (part new (k + 1) e (omega arith) (one_fits k (length (in_expression e))) h (inside_unmarked new (k + 1) e))
  inside_unmarked new k e h = refl

  all_unmarked : (new : List NewMark) (k : ℕ) (es : c.Expressions) → HasNone new k (length (in_expressions es)) → within_all new k es ≡ es
  all_unmarked new k c.no_expressions h = refl
  all_unmarked new k (c.an_expression e es) h =
      let j = k + length (in_expression e) in
      let size = length-append (in_expression e) (in_expressions es) in
      ap (λ x. c.an_expression x (within_all new j es)) (part new k e (omega arith) (omega (arith, size)) h (inside_unmarked new k e))
      ∙ ap (c.an_expression e) (all_unmarked new j es (fewer j (length (in_expressions es)) (omega arith) (omega (arith, size)) h))

pub unmarked : (new : List NewMark) (k : ℕ) (e : c.Expression) → HasNone new k (length (in_expression e)) → with_marks new k e ≡ e
unmarked new k e h = no_own new k e h (inside_unmarked new k e h)
