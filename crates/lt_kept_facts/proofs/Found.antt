-- The objectives of a unit are the same by two programs that know the same of it.
use Rattle.std.proofs.Common.{◌≡◌, refl, sym, ap, ◌∙◌, ℕ, ◌+◌, ◌&&◌, not, eqb, Bool, true, false, if◌then◌else◌, List, [], ◌∷◌, ◌++◌, length, map, Option, Some, None}
use Rattle.std.specs.List.{flat_map, list_any}
use Rattle.std.specs.Prelude.{◌||◌}
use Rattle.lt_tree.specs.Tree as c
use Rattle.lt_tree.specs.Erasure.{erased}
use Rattle.lt_tree.specs.Nodes.{Node, an_external, an_expression, in_expression}
use Rattle.lt_tree.specs.Typing.Programs.{Program}
use Rattle.lt_objectives.specs.declared.criteria.Criterion.{Criterion}
use Rattle.lt_objectives.specs.declared.criteria.Criterion.TheVariants as C
use Rattle.lt_objectives.specs.Copies.{is_core, can_be_copied}
use Rattle.lt_objectives.specs.Places.{Site, span, sites, covers, value_part, corresponding, unmarked_numbers, type_at, is_constant, closed_by_form, closed_by_value, closed, is_open, is_value_position}
use Rattle.lt_objectives.specs.Decisions.{decisions, clauses, inequality}
use Rattle.lt_objectives.specs.Mutants.{absolute_mutants, arithmetic_mutants, relational_mutants}
use Rattle.lt_objectives.specs.Objectives.{at_start, in_front, Objective, all_at, parameters_among, parameters_at, domains_of_object, at_body, decided_at, at_test, left_type, right_type, mutants, differences, at_expression, at_node, objectives}
use Rattle.lt_facts.proofs.OutsideMarks.{places_unit}
use Rattle.lt_kept_facts.specs.Laws.{FactsAreFoundByEither}
use Rattle.lt_kept_facts.specs.Known.{domains_at, KnowTheSame}
use Rattle.lt_kept_facts.specs.Objectives.{ObjectivesAreFoundByEither}

-- ---- lists

each_same : {A B : Type 0} (f g : A → List B) → ((x : A) → f x ≡ g x) → (xs : List A) → flat_map f xs ≡ flat_map g xs
each_same f g h [] = refl
each_same f g h (x ∷ xs) = ap (λ l. l ++ flat_map f xs) (h x) ∙ ap (λ l. g x ++ l) (each_same f g h xs)

any_same : {A : Type 0} (f g : A → Bool) → ((x : A) → f x ≡ g x) → (xs : List A) → list_any f xs ≡ list_any g xs
any_same f g h [] = refl
any_same f g h (x ∷ xs) = ap (λ b. b || list_any f xs) (h x) ∙ ap (λ b. g x || b) (any_same f g h xs)

-- ---- functions by the numbers of their definitions

-- what is found by a number, if there is one
found_by : {A : Type 0} → (ℕ → List A) → Option ℕ → List A
found_by f None = []
found_by f (Some n) = f n

either_found : {A : Type 0} (f g : ℕ → List A) (b : Bool) (m n : ℕ) (o p : Option ℕ) → f m ≡ g n → found_by f o ≡ found_by g p → found_by f (if b then Some m else o) ≡ found_by g (if b then Some n else p)
unfolding found_by
either_found f g true m n o p h i = h
either_found f g false m n o p h i = i

corresponding_same : {A : Type 0} (f g : ℕ → List A) (k : ℕ) (ms ns : List ℕ) → map f ms ≡ map g ns → found_by f (corresponding k ns ms) ≡ found_by g (corresponding k ns ns)
unfolding found_by
corresponding_same f g k [] [] h = refl
corresponding_same f g k (m ∷ ms) [] h = refl
corresponding_same f g k [] (n ∷ ns) h = absurd cc
corresponding_same f g k (m ∷ ms) (n ∷ ns) h = either_found f g (eqb n k) m n (corresponding k ns ms) (corresponding k ns ns) (first h) (corresponding_same f g k ms ns (rest h))
  where
    first : f m ∷ map f ms ≡ g n ∷ map g ns → f m ≡ g n
    first h = cc

    rest : f m ∷ map f ms ≡ g n ∷ map g ns → map f ms ≡ map g ns
    rest h = cc

domains_by : (program : Program) (o : Option ℕ) → flat_map (domains_of_object program) (elim (o) as (λ _. List ℕ) [ None ↦ [] | Some n ↦ parameters_among program.functions n ]) ≡ found_by (domains_at program) o
unfolding found_by
domains_by program None = refl
domains_by program (Some n) = refl

-- the domains of the parameters of the function that is defined at a node
pub domains_found : (program other : Program) → KnowTheSame program other → (k : ℕ)
    → flat_map (domains_of_object program) (parameters_at other.unit program k) ≡ flat_map (domains_of_object other) (parameters_at other.unit other k)
domains_found program other h k =
    domains_by program (corresponding k (unmarked_numbers other.unit) (unmarked_numbers program.unit))
    ∙ corresponding_same (domains_at program) (domains_at other) k (unmarked_numbers program.unit) (unmarked_numbers other.unit)
    (ap (map (domains_at program)) (sym (places_unit program.unit)) ∙ h.parameters ∙ ap (map (domains_at other)) (places_unit other.unit))
    ∙ sym (domains_by other (corresponding k (unmarked_numbers other.unit) (unmarked_numbers other.unit)))

-- ---- objectives

module _ (unit : c.Unit) (p q : Program) (model : p.model ≡ q.model) (types : (k : ℕ) → type_at unit p k ≡ type_at unit q k) (constants : (k : ℕ) → is_constant unit p k ≡ is_constant unit q k)
    (domains : (k : ℕ) → flat_map (domains_of_object p) (parameters_at unit p k) ≡ flat_map (domains_of_object q) (parameters_at unit q k)) where
  value_same : (k : ℕ) (node : Node) → closed_by_value unit p (record { number = k; node = node }) ≡ closed_by_value unit q (record { number = k; node = node })
  value_same k (an_expression e) = ap (λ b. if b then span k (length (in_expression e)) ∷ [] else []) (constants k)
  value_same k _ = refl

  closed_same : (site : Site) → closed unit p site ≡ closed unit q site
  closed_same site = ap (λ l. closed_by_form site.number site.node ++ l) (value_same site.number site.node)

  open_same : (k : ℕ) → is_open unit p k ≡ is_open unit q k
  open_same k =
      ap not (any_same (λ site. list_any (covers k) (closed unit p site)) (λ site. list_any (covers k) (closed unit q site)) (λ site. ap (list_any (covers k)) (closed_same site)) (sites unit))

  left_same : (k : ℕ) (e : c.Expression) → left_type unit p k e ≡ left_type unit q k e
  left_same k (c.Binary op left right) = types (value_part (k + 1) left).number
  left_same k _ = types k

  right_same : (k : ℕ) (e : c.Expression) → right_type unit p k e ≡ right_type unit q k e
  right_same k (c.Binary op left right) = types (value_part (k + 1 + length (in_expression left)) right).number
  right_same k _ = types k

  mutants_same : (criterion : Criterion) (k : ℕ) (e plain : c.Expression) → mutants unit p criterion k e plain ≡ mutants unit q criterion k e plain
  mutants_same C.AbsoluteValue k e plain = ap (λ m. absolute_mutants m (type_at unit p k) plain) model ∙ ap (λ t. absolute_mutants q.model t plain) (types k)
  mutants_same C.ArithmeticOperator k e plain =
      ap (λ t. arithmetic_mutants t (right_type unit p k e) plain) (left_same k e) ∙ ap (λ t. arithmetic_mutants (left_type unit q k e) t plain) (right_same k e)
  mutants_same C.RelationalOperator k e plain =
      ap (λ t. relational_mutants t (right_type unit p k e) plain) (left_same k e) ∙ ap (λ t. relational_mutants (left_type unit q k e) t plain) (right_same k e)
  mutants_same _ k e plain = refl

  differences_same : (criterion : Criterion) (k : ℕ) (e : c.Expression) → differences unit p criterion k e ≡ differences unit q criterion k e
  differences_same criterion k e =
      ap (λ (list : List c.Expression). if can_be_copied unit k e && is_value_position unit k then all_at k in_front criterion (map (inequality (erased e)) list) else []) (mutants_same criterion k e (erased e))

  expression_same : (criterion : Criterion) (k : ℕ) (e : c.Expression) → at_expression unit p criterion k e ≡ at_expression unit q criterion k e
  expression_same criterion k e =
      ap (λ (b : Bool). if is_core e && b then at_test criterion (can_be_copied unit k e) (decided_at (decisions unit) k) (decided_at (clauses unit) k) k e ++ differences unit p criterion k e else []) (open_same k)
      ∙ ap (λ (list : List Objective). if is_core e && is_open unit q k then at_test criterion (can_be_copied unit k e) (decided_at (decisions unit) k) (decided_at (clauses unit) k) k e ++ list else []) (differences_same criterion k e)

  body_same : (criterion : Criterion) (k : ℕ) → at_body unit p criterion k ≡ at_body unit q criterion k
  body_same C.InputDomain k = domains k
  body_same _ k = refl

  node_same : (criterion : Criterion) (k : ℕ) (node : Node) → at_node unit p criterion (record { number = k; node = node }) ≡ at_node unit q criterion (record { number = k; node = node })
  node_same criterion k (an_external (c.Defines s d body)) = ap (all_at k at_start criterion) (body_same criterion k)
  node_same criterion k (an_expression e) = expression_same criterion k e
  node_same criterion k _ = refl

  all_same : (criterion : Criterion) → objectives unit p criterion ≡ objectives unit q criterion
  all_same criterion = each_same (at_node unit p criterion) (at_node unit q criterion) (λ site. node_same criterion site.number site.node) (sites unit)

pub objectives_are_found : FactsAreFoundByEither → ObjectivesAreFoundByEither
objectives_are_found facts program other h criterion =
    all_same other.unit program other h.model (λ k. (facts program other h.facts k).0) (λ k. (facts program other h.facts k).1) (domains_found program other h) criterion
