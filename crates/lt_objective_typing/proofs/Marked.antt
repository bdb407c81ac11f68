-- The objectives at expressions with marks have predicates where these are typed.
use Rattle.std.proofs.Common.{◌≡◌, ℕ, List, [], ◌∷◌, ◌++◌, Bool, true, refl, sym, ap, ◌∙◌, subst, append_assoc}
use Rattle.std.proofs.lemmas.List.{append-nil}
use Rattle.std.proofs.lemmas.Bool.{false≢true}
use Rattle.std.specs.Prelude.{◌&&◌}
use Rattle.std.specs.List.{AllByRecursion}
use Rattle.lt_model.specs.declared.operator.Op.{Op}
use Rattle.lt_tree.specs.Tree as c
use Rattle.lt_tree.specs.Comma.{comma_of}
use Rattle.lt_tree.specs.Erasure.{erased}
use Rattle.lt_tree.specs.Purity.{is_pure}
use Rattle.lt_tree.specs.Typing.Types.{CType, is_integer}
use Rattle.lt_tree.specs.Typing.Entities.{Known, Object}
use Rattle.lt_tree.specs.Typing.Steps.{Outcome, Goes, Breaks, goes_on}
use Rattle.lt_tree.specs.Typing.Expressions.{Typed, as_value, own_type, finish}
use Rattle.lt_tree.specs.Typing.BinaryOperations.{judge_binary}
use Rattle.lt_tree.specs.Typing.NodeEnds.{text_object}
use Rattle.lt_tree.specs.Typing.ExpressionTyping.{expression}
use Rattle.lt_objectives.specs.Copies.{is_core}
use Rattle.lt_object_laws.specs.Further.{IsFurther, never_made}
use Rattle.lt_mark_laws.proofs.Lists.{all_both}
use Rattle.lt_mark_typing.specs.Laws.{PredicatesAreMade, PureExpressionsAreThere, NamedObjectsAreKnown}
use Rattle.lt_erased_typing.specs.Literals.{HasMoreTexts, none_more, one_more, one_unmade, NamesObjects}
use Rattle.lt_erased_typing.specs.Erasable.{CanBeErasedWith, entered}
use Rattle.lt_erased_typing.proofs.Whole.{with_literals, literal_operands_keep}
use Rattle.lt_objective_typing.specs.Laws.{TakesIntegers, MarkedExpressionsHavePredicates, IsThereAs, OperandsAreThere, MarkedExpressionsKeepTheirTypes}
use Rattle.lt_objective_typing.proofs.Both.{and_first, and_second}
use Rattle.lt_objective_typing.proofs.Growing.{text_further}
use Rattle.lt_objective_typing.proofs.Made.{there}
use Rattle.lt_objective_typing.proofs.Parts.{IsTyped, typed_at, binary_parts}
use Rattle.lt_objective_typing.proofs.Places.{TypedNamed, of_typed}

comma_takes : (known : Known) (d second : c.Expression) (rest : c.Expressions) → TakesIntegers known (comma_of d (c.an_expression second rest))
comma_takes known (c.Comma parts) second rest = tt
comma_takes known _ second rest = tt

-- ---- what is found without marks

one_further : (first : List Object) {objects : List Object} (object : Object) → IsFurther object → (more : List Object) × (objects ≡ first ++ more) × AllByRecursion IsFurther more
    → (more : List Object) × (objects ++ object ∷ [] ≡ first ++ more) × AllByRecursion IsFurther more
one_further first object is h = (h.0 ++ object ∷ [], ap (λ l. l ++ object ∷ []) h.1 ∙ append_assoc first h.0 (object ∷ []), all_both IsFurther h.0 (object ∷ []) h.2 (is, tt))

further_of : {first objects : List Object} → HasMoreTexts true first objects → (more : List Object) × (objects ≡ first ++ more) × AllByRecursion IsFurther more
further_of {first} none_more = ([], sym (append-nil first), tt)
further_of {first} (one_more node known bytes is h) = one_further first (text_object node known bytes) (text_further node known bytes) (further_of h)
further_of {first} (one_unmade object is never h) = one_further first object (never_made never) (further_of h)

-- ---- operands

-- the operands of an operator are integers without their marks too
operands_take : (known next : Known) (op : Op) (left right : c.Expression) (x : Typed) → NamesObjects known → CanBeErasedWith true as_value known (c.Binary op left right) → expression (c.Binary op left right) as_value known ≡ Goes x next
    → TakesIntegers known (c.Binary op left right) → TakesIntegers known (c.Binary op (erased left) (erased right))
operands_take known next op left right x named can q h = λ z w k j s t. first z w k j s t (expression left as_value (entered known)) refl q
  where
    second : (z w : Typed) (k j : Known) → expression (erased left) as_value (entered known) ≡ Goes z k → expression (erased right) as_value k ≡ Goes w j
        → (a : Typed) (l : Known) → expression left as_value (entered known) ≡ Goes a l → (o : Outcome Typed) → expression right as_value l ≡ o
        → goes_on o (λ b i. finish known.next as_value (judge_binary op a b i) i) ≡ Goes x next → is_integer (own_type z) && is_integer (own_type w) ≡ true
    second z w k j s t a l f (Goes b i) g r =
        let same = literal_operands_keep known l i op left right a b named can f g z w k j s t in
        ap (λ type. is_integer type && is_integer (own_type w)) same.0 ∙ ap (λ type. is_integer (own_type a) && is_integer type) same.1 ∙ h a b l i f g
    second z w k j s t a l f (Breaks rule node) g r = absurd cc

    first : (z w : Typed) (k j : Known) → expression (erased left) as_value (entered known) ≡ Goes z k → expression (erased right) as_value k ≡ Goes w j
        → (o : Outcome Typed) → expression left as_value (entered known) ≡ o
        → goes_on o (λ a l. goes_on (expression right as_value l) (λ b i. finish known.next as_value (judge_binary op a b i) i)) ≡ Goes x next → is_integer (own_type z) && is_integer (own_type w) ≡ true
    first z w k j s t (Goes a l) f r = second z w k j s t a l f (expression right as_value l) refl r
    first z w k j s t (Breaks rule node) f r = absurd cc

takes : (known next : Known) (e : c.Expression) (x : Typed) → is_core e ≡ true → NamesObjects known → CanBeErasedWith true as_value known e → expression e as_value known ≡ Goes x next → TakesIntegers known e → TakesIntegers known (erased e)
takes known next (c.Binary op left right) x core named can q h = operands_take known next op left right x named can q h
takes known next (c.Comma c.no_expressions) x core named can q h = absurd can
takes known next (c.Comma (c.an_expression first c.no_expressions)) x core named can q h = absurd can
takes known next (c.Comma (c.an_expression first (c.an_expression second rest))) x core named can q h = comma_takes known (erased first) (erased second) _
takes known next (c.Marked marks value) x core named can q h = absurd (false≢true core)
takes known next (c.Decide operand when_true when_false tag) x core named can q h = absurd (false≢true core)
takes known next (c.After operand id tag) x core named can q h = absurd (false≢true core)
takes known next _ x core named can q h = tt

-- it is typed where it stands, as it is with its marks
without_marks : (known next : Known) (e : c.Expression) (x : Typed) → NamesObjects known → CanBeErasedWith true as_value known e → expression e as_value known ≡ Goes x next → IsTyped known (erased e) (own_type x)
without_marks known next e x named can q =
    let found = with_literals known next e x named can q known.next known.labels known.facts in
    let more = further_of found.4 in
    (found.0, found.1, found.3, more.0, more.2, found.5 ∙ ap (λ (objects : List Object). Goes found.0 (record known { next = found.1; objects = objects; facts = found.3 })) more.1, found.6)

pub of_marked : PredicatesAreMade → PureExpressionsAreThere → NamedObjectsAreKnown → MarkedExpressionsHavePredicates
of_marked made quiet named new used known next e x core pure can q =
    let all = of_typed made quiet named new used known (erased e) (own_type x) pure (λ n. without_marks known next e x n (can n) q) in (
      (λ s criterion copied decision clause k. all.0 s criterion copied decision clause k e refl),
      all.1,
      all.2,
      (λ t u h. all.3 t u (λ b n. takes known next e x core n (can n) q (h b))),
    )

-- ---- types

module _ (quiet : PureExpressionsAreThere) (named : NamedObjectsAreKnown) (new : ℕ → Bool) (used : List ℕ) (known : Known) where
  there_as : (e : c.Expression) (t : CType) → is_pure e ≡ true → TypedNamed known e t → IsThereAs new used known t e
  there_as e t p h = λ test is. there quiet named new used known test e p (λ n. typed_at known e test is (h n))

  both_there : (next : Known) (op : Op) (left right : c.Expression) (z : Typed) → is_pure (erased left) && is_pure (erased right) ≡ true → (NamesObjects known → CanBeErasedWith true as_value known (c.Binary op left right))
      → expression (c.Binary op left right) as_value known ≡ Goes z next → OperandsAreThere new used known (c.Binary op left right)
  both_there next op left right z p can q = λ x y k j f g.
      let both : NamesObjects known → IsTyped known (erased left) (own_type x) × IsTyped known (erased right) (own_type y) = λ n.
      let parts = binary_parts known n op (erased left) (erased right) (own_type z) p (without_marks known next (c.Binary op left right) z n (can n) q) in
      let same = literal_operands_keep known k j op left right x y n (can n) f g parts.0 parts.1 parts.2 parts.3 parts.4 parts.5 in
      (subst (IsTyped known (erased left)) same.0 parts.7, subst (IsTyped known (erased right)) same.1 parts.8) in (
        there_as (erased left) (own_type x) (and_first (is_pure (erased left)) (is_pure (erased right)) p) (λ n. (both n).0),
        there_as (erased right) (own_type y) (and_second (is_pure (erased left)) (is_pure (erased right)) p) (λ n. (both n).1),
      )

  operands_there : (next : Known) (e : c.Expression) (x : Typed) → is_pure (erased e) ≡ true → (NamesObjects known → CanBeErasedWith true as_value known e) → expression e as_value known ≡ Goes x next
      → OperandsAreThere new used known e
  operands_there next (c.Binary op left right) x p can q = both_there next op left right x p can q
  operands_there next _ x p can q = tt

pub types_kept : PureExpressionsAreThere → NamedObjectsAreKnown → MarkedExpressionsKeepTheirTypes
types_kept quiet named new used known next e x core pure can q = (
  there_as quiet named new used known (erased e) (own_type x) pure (λ n. without_marks known next e x n (can n) q),
  operands_there quiet named new used known next e x pure can q,
)
