-- The clauses and the nodes of a stack of expressions, of which the last is next.
use Rattle.std.proofs.Common.{◌≡◌, ℕ, ◌+◌, ◌<◌, arith, List, [], ◌∷◌, ◌++◌, length, map, sym, ap, ◌∙◌, append_assoc}
use Rattle.std.proofs.lemmas.List.{append-nil, map_push}
use Rattle.lt_tree.specs.Tree as t
use Rattle.lt_tree.specs.Nodes.{in_expression}
use Rattle.lt_predicates.specs.Clauses.{insides}
use Rattle.lt_predicates.proofs.ClauseLaws.{plain_clauses, both_clauses, one_clauses, no_clauses, both_less, one_less, some_nodes}

abbrev pub of_stack : List t.Expression → List t.Expression
of_stack [] = []
of_stack (e ∷ es) = of_stack es ++ plain_clauses e

pushed : (es : List t.Expression) (e : t.Expression) → of_stack (es ++ e ∷ []) ≡ plain_clauses e ++ of_stack es
pushed [] e = sym (append-nil (plain_clauses e))
pushed (d ∷ es) e = ap (λ l. l ++ plain_clauses d) (pushed es e) ∙ append_assoc (plain_clauses e) (of_stack es) (plain_clauses d)

-- with one more
of_more : {A : Type 0} (f : A → t.Expression) (more rest : List A) (e : A) → more ≡ rest ++ e ∷ [] → of_stack (map f more) ≡ plain_clauses (f e) ++ of_stack (map f rest)
of_more f more rest e is = ap (λ l. of_stack (map f l)) is ∙ ap of_stack (map_push f rest e) ∙ pushed (map f rest) (f e)

pub both_step : {A : Type 0} (f : A → t.Expression) (old rest one new : List A) (e first second : A) →
    old ≡ rest ++ e ∷ [] → one ≡ rest ++ second ∷ [] → new ≡ one ++ first ∷ [] → f first ∷ f second ∷ [] ≡ insides (f e) →
    of_stack (map f new) ≡ of_stack (map f old)
both_step f old rest one new e first second taken more_is new_is h =
    of_more f new one first new_is ∙ ap (λ l. plain_clauses (f first) ++ l) (of_more f one rest second more_is)
    ∙ sym (append_assoc (plain_clauses (f first)) (plain_clauses (f second)) (of_stack (map f rest)))
    ∙ ap (λ l. l ++ of_stack (map f rest)) (sym (both_clauses (f e) (f first) (f second) h))
    ∙ sym (of_more f old rest e taken)

pub one_step : {A : Type 0} (f : A → t.Expression) (old rest new : List A) (e inner : A) →
    old ≡ rest ++ e ∷ [] → new ≡ rest ++ inner ∷ [] → f inner ∷ [] ≡ insides (f e) → of_stack (map f new) ≡ of_stack (map f old)
one_step f old rest new e inner taken new_is h =
    of_more f new rest inner new_is ∙ ap (λ l. l ++ of_stack (map f rest)) (sym (one_clauses (f e) (f inner) h)) ∙ sym (of_more f old rest e taken)

-- a clause goes over to those that were found
pub clause_step : {A : Type 0} (f : A → t.Expression) (old rest found new : List A) (e : A) →
    old ≡ rest ++ e ∷ [] → new ≡ found ++ e ∷ [] → [] ≡ insides (f e) → map f new ++ of_stack (map f rest) ≡ map f found ++ of_stack (map f old)
clause_step f old rest found new e taken new_is h =
    ap (λ l. l ++ of_stack (map f rest)) (ap (map f) new_is ∙ map_push f found e)
    ∙ append_assoc (map f found) (f e ∷ []) (of_stack (map f rest))
    ∙ ap (λ l. map f found ++ l) (ap (λ l. l ++ of_stack (map f rest)) (sym (no_clauses (f e) h)) ∙ sym (of_more f old rest e taken))

-- ---- nodes

abbrev pub stack_size : List t.Expression → ℕ
stack_size [] = 0
stack_size (e ∷ es) = length (in_expression e) + stack_size es

size_pushed : (es : List t.Expression) (e : t.Expression) → stack_size (es ++ e ∷ []) ≡ stack_size es + length (in_expression e)
size_pushed [] e = omega arith
size_pushed (d ∷ es) e = let h : stack_size (es ++ e ∷ []) ≡ stack_size es + length (in_expression e) = size_pushed es e in omega arith

size_more : {A : Type 0} (f : A → t.Expression) (more rest : List A) (e : A) → more ≡ rest ++ e ∷ [] → stack_size (map f more) ≡ stack_size (map f rest) + length (in_expression (f e))
size_more f more rest e is = ap (λ l. stack_size (map f l)) is ∙ ap stack_size (map_push f rest e) ∙ size_pushed (map f rest) (f e)

pub both_smaller : {A : Type 0} (f : A → t.Expression) (old rest one new : List A) (e first second : A) →
    old ≡ rest ++ e ∷ [] → one ≡ rest ++ second ∷ [] → new ≡ one ++ first ∷ [] → f first ∷ f second ∷ [] ≡ insides (f e) →
    stack_size (map f new) < stack_size (map f old)
both_smaller f old rest one new e first second taken more_is new_is h =
    omega (arith, size_more f new one first new_is, size_more f one rest second more_is, size_more f old rest e taken, both_less (f e) (f first) (f second) h)

pub one_smaller : {A : Type 0} (f : A → t.Expression) (old rest new : List A) (e inner : A) →
    old ≡ rest ++ e ∷ [] → new ≡ rest ++ inner ∷ [] → f inner ∷ [] ≡ insides (f e) → stack_size (map f new) < stack_size (map f old)
one_smaller f old rest new e inner taken new_is h =
    omega (arith, size_more f new rest inner new_is, size_more f old rest e taken, one_less (f e) (f inner) h)

pub taken_smaller : {A : Type 0} (f : A → t.Expression) (old rest : List A) (e : A) → old ≡ rest ++ e ∷ [] → stack_size (map f rest) < stack_size (map f old)
taken_smaller f old rest e taken = omega (arith, size_more f old rest e taken, some_nodes (f e))
