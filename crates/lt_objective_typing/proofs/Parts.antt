-- The operands of a pure expression that is typed where it stands and declares nothing are typed there too.
use Rattle.std.proofs.Common.{◌≡◌, ℕ, ◌+◌, List, ◌++◌, Bool, true, false, refl, sym, ap, ◌∙◌, subst}
use Rattle.std.proofs.lemmas.Bool.{false≢true}
use Rattle.std.specs.Prelude.{◌&&◌}
use Rattle.std.specs.List.{AllByRecursion}
use Rattle.lt_model.specs.declared.operator.Op.{Op}
use Rattle.lt_tree.specs.declared.expression.LogicalOp.{LogicalOp}
use Rattle.lt_tree.specs.declared.expression.UnaryOp.TheVariants as unary
use Rattle.lt_tree.specs.Tree as c
use Rattle.lt_tree.specs.Purity.{is_pure}
use Rattle.lt_tree.specs.Typing.Types.{CType, is_scalar, is_integer}
use Rattle.lt_tree.specs.Typing.Rules.{Rule, unless, not_scalar}
use Rattle.lt_tree.specs.Typing.Entities.{Known, Object, Fact}
use Rattle.lt_tree.specs.Typing.Steps.{Outcome, Goes, Breaks, goes_on, settle, notes, gives, ◌>>◌}
use Rattle.lt_tree.specs.Typing.Operands.{is_equality}
use Rattle.lt_tree.specs.Typing.Expressions.{Typed, Use, as_value, as_truth, own_type, used, fact_of, faults_of_any, finish}
use Rattle.lt_tree.specs.Typing.Operations.{judge_not}
use Rattle.lt_tree.specs.Typing.BinaryOperations.{judge_binary, judge_logical}
use Rattle.lt_tree.specs.Typing.ExpressionTyping.{expression}
use Rattle.lt_object_laws.specs.Further.{IsFurther}
use Rattle.lt_mark_typing.specs.Placed.{IsAt}
use Rattle.lt_objectives.specs.Copies.{is_core}
use Rattle.lt_erased_typing.specs.Literals.{NamesObjects}
use Rattle.lt_erased_typing.proofs.Before.{typed_before}
use Rattle.lt_erased_typing.proofs.Whole.{truths_as_values}
use Rattle.lt_objective_typing.specs.Laws.{TakesIntegers}
use Rattle.lt_objective_typing.proofs.Both.{and_first, and_second}
use Rattle.lt_objective_typing.proofs.Equalities.{equality_is_integer}
use Rattle.lt_objective_typing.proofs.Growing.{between, Grows, Grow, went, then_grows, entered_grows, of_expression, finished}

-- ---- walks that go on

never : {A : Type 0} {rule : Rule} {node : ℕ} {x : A} {k : Known} → Breaks rule node ≡ Goes x k → ⊥
never e = cc

known_of : {A : Type 0} {x y : A} {k j : Known} → Goes x k ≡ Goes y j → k ≡ j
known_of e = cc

-- a walk that goes on went on behind its first part
went_on : {A B : Type 0} (o : Outcome A) (f : A → Known → Outcome B) {b : B} {l : Known} → goes_on o f ≡ Goes b l
    → (a : A) × (k : Known) × (o ≡ Goes a k) × (f a k ≡ Goes b l)
went_on (Goes a k) f e = (a, k, refl, e)
went_on (Breaks rule node) f e = absurd (never e)

-- what is known behind it has grown
grown : {tags : Bool} {A : Type 0} {a : A} {k j : Known} (o : Outcome A) → Grow tags k o → o ≡ Goes a j → Grows tags k j
grown {tags} {k = k} (Goes b l) (went h) e = subst (Grows tags k) (known_of e) h
grown (Breaks rule node) h e = absurd (never e)

-- where no struct is found, nothing is found but further objects and facts
quiet : {k j : Known} → (h : Grows true k j) → j.structs ≡ k.structs → j ≡ record k { next = j.next; objects = k.objects ++ h.objects.0; facts = j.facts }
quiet {k} {j} h s =
    h.same
    ∙ ap (λ those. record k { next = j.next; frames = those; structs = j.structs; objects = j.objects; facts = j.facts }) (h.frames refl s)
    ∙ ap (λ those. record k { next = j.next; structs = those; objects = j.objects; facts = j.facts }) s
    ∙ ap (λ those. record k { next = j.next; objects = those; facts = j.facts }) h.objects.1

-- no struct is found on the way to where none is
none_between : {k j l : Known} → Grows true k j → Grows true j l → l.structs ≡ k.structs → j.structs ≡ k.structs
none_between {k} {j} {l} h g s = between k.structs j.structs l.structs h.structs g.structs s

-- ---- expressions that are typed here

-- Where this is known an expression is of this type, and going over it finds nothing but facts and further objects.
abbrev pub IsTyped : Known → c.Expression → CType → Type 0
IsTyped known e t =
    (x : Typed) × (next : ℕ) × (facts : List Fact) × (more : List Object) × AllByRecursion IsFurther more
    × (expression e as_value known ≡ Goes x (record known { next = next; objects = known.objects ++ more; facts = facts })) × (own_type x ≡ t)

pub typed_at : (known : Known) (e : c.Expression) {t : CType} (test : CType → Bool) → test t ≡ true → IsTyped known e t → IsAt test known e
typed_at known e test h it = (it.0, it.1, it.2, it.3, it.4, it.5, ap test it.6 ∙ h)

-- A part that is typed behind others, where no struct is found, is typed here alike.
part_at : (known k last : Known) (e : c.Expression) (x : Typed) → NamesObjects known → is_pure e ≡ true → Grows true known k → expression e as_value k ≡ Goes x last
    → last.structs ≡ known.structs → IsTyped known e (own_type x)
part_at known k last e x named p h q s =
    let here = quiet h (none_between h (grown (expression e as_value k) (of_expression e as_value k p) q) s) in
    let found = typed_before known last k.next h.objects.0 k.facts e x named p (ap (expression e as_value) (sym here) ∙ q) in
    let more = grown (expression e as_value known) (of_expression e as_value known p) found.2 in
    (found.0, found.1.next, found.1.facts, more.objects.0, more.objects.2, found.2 ∙ ap (Goes found.0) (quiet more (found.4 ∙ s)), found.3)

pure_core : (e : c.Expression) → is_pure e ≡ true → is_core e ≡ true
pure_core (c.Marked ms value) p = absurd (false≢true p)
pure_core (c.Decide operand when_true when_false tag) p = absurd (false≢true p)
pure_core (c.After operand id tag) p = absurd (false≢true p)
pure_core _ p = refl

-- its truth is typed as its value
truth_role : (e : c.Expression) (k : Known) → is_pure e ≡ true → expression e as_value k ≡ expression e as_truth k
truth_role e k p = sym (truths_as_values k e (pure_core e p))

-- ---- what operators have asked of their operands

-- A node that ends has broken no rule.
ends_well : (k : Known) (node : ℕ) (role : Use) (b : Bool) (rule : Rule) (typed : Typed) {z : Typed} {j : Known}
    → goes_on (settle node (unless b rule ++ faults_of_any k.structs role typed) k) (λ u. notes (fact_of node typed) >> gives (used role typed)) ≡ Goes z j → b ≡ true
ends_well k node role true rule typed e = refl
ends_well k node role false rule typed e = absurd (never e)

pub truths_are_scalars : (op : LogicalOp) (k : Known) (node : ℕ) (x y z : Typed) (j : Known) → finish node as_value (judge_logical op x y) k ≡ Goes z j → is_scalar (own_type x) && is_scalar (own_type y) ≡ true
unfolding finish judge_logical
truths_are_scalars op k node x y z j e = ends_well k node as_value (is_scalar (own_type x) && is_scalar (own_type y)) not_scalar (judge_logical op x y).typed e

pub negated_is_scalar : (k : Known) (node : ℕ) (x z : Typed) (j : Known) → finish node as_value (judge_not x) k ≡ Goes z j → is_scalar (own_type x) ≡ true
unfolding finish judge_not
negated_is_scalar k node x z j e = ends_well k node as_value (is_scalar (own_type x)) not_scalar (judge_not x).typed e

-- ---- operands

abbrev inside : Known → Known
inside known = record known { next = known.next + 1 }

module _ (known : Known) (named : NamesObjects known) where
  -- the operands, one behind the other, in this role, and the end of the operator
  both_operands : (role : Use) (left right : c.Expression) (end : Typed → Typed → Known → Outcome Typed) (z : Typed) (last : Known) → is_pure left ≡ true → is_pure right ≡ true
      → ((e : c.Expression) (k : Known) → is_pure e ≡ true → expression e as_value k ≡ expression e role k)
      → ((x y : Typed) (j : Known) → Grow true j (end x y j)) → last.structs ≡ known.structs
      → goes_on (expression left role (inside known)) (λ x j. goes_on (expression right role j) (λ y j. end x y j)) ≡ Goes z last
      → (x : Typed) × (y : Typed) × (k : Known) × (j : Known) × (expression left as_value (inside known) ≡ Goes x k) × (expression right as_value k ≡ Goes y j) × (end x y j ≡ Goes z last)
      × IsTyped known left (own_type x) × IsTyped known right (own_type y)
  both_operands role left right end z last p q same f s e =
      let one = went_on (expression left role (inside known)) (λ x j. goes_on (expression right role j) (λ y j. end x y j)) e in
      let two = went_on (expression right role one.1) (λ y j. end one.0 y j) one.3 in
      let first = same left (inside known) p ∙ one.2 in
      let second = same right one.1 q ∙ two.2 in
      let start = entered_grows known in
      let left_grows = then_grows start (grown (expression left as_value (inside known)) (of_expression left as_value (inside known) p) first) in
      let right_grows = grown (expression right as_value one.1) (of_expression right as_value one.1 q) second in
      let end_grows = grown (end one.0 two.0 two.1) (f one.0 two.0 two.1) two.3 in
      let behind = none_between (then_grows left_grows right_grows) end_grows s in (
        one.0,
        two.0,
        one.1,
        two.1,
        first,
        second,
        two.3,
        part_at known (inside known) one.1 left one.0 named p start first (none_between left_grows right_grows behind),
        part_at known one.1 two.1 right two.0 named q left_grows second behind,
      )

  pub connected_parts : (op : LogicalOp) (left right : c.Expression) (t : CType) → is_pure (c.Logical op left right) ≡ true → IsTyped known (c.Logical op left right) t
      → IsAt is_scalar known left × IsAt is_scalar known right
  connected_parts op left right t p it =
      let parts = both_operands as_truth left right (λ x y j. finish known.next as_value (judge_logical op x y) j) it.0 _ (and_first (is_pure left) (is_pure right) p) (and_second (is_pure left) (is_pure right) p)
      truth_role (λ x y j. finished known.next as_value (judge_logical op x y) j) refl it.5 in
      let scalars = truths_are_scalars op parts.3 known.next parts.0 parts.1 it.0 _ parts.6 in (
        typed_at known left is_scalar (and_first (is_scalar (own_type parts.0)) (is_scalar (own_type parts.1)) scalars) parts.7,
        typed_at known right is_scalar (and_second (is_scalar (own_type parts.0)) (is_scalar (own_type parts.1)) scalars) parts.8,
      )

  pub negated_part : (e : c.Expression) (t : CType) → is_pure e ≡ true → IsTyped known (c.Unary unary.Not e) t → IsAt is_scalar known e
  negated_part e t p it =
      let one = went_on (expression e as_truth (inside known)) (λ x j. finish known.next as_value (judge_not x) j) it.5 in
      let first = truth_role e (inside known) p ∙ one.2 in
      let start = entered_grows known in
      let grows = then_grows start (grown (expression e as_value (inside known)) (of_expression e as_value (inside known) p) first) in
      let behind = none_between grows (grown (finish known.next as_value (judge_not one.0) one.1) (finished known.next as_value (judge_not one.0) one.1) one.3) refl in
      typed_at known e is_scalar (negated_is_scalar one.1 known.next one.0 it.0 _ one.3) (part_at known (inside known) one.1 e one.0 named p start first behind)

  pub binary_parts : (op : Op) (left right : c.Expression) (t : CType) → is_pure (c.Binary op left right) ≡ true → (it : IsTyped known (c.Binary op left right) t)
      → (x : Typed) × (y : Typed) × (k : Known) × (j : Known) × (expression left as_value (inside known) ≡ Goes x k) × (expression right as_value k ≡ Goes y j)
      × (finish known.next as_value (judge_binary op x y j) j ≡ Goes it.0 (record known { next = it.1; objects = known.objects ++ it.3; facts = it.2 }))
      × IsTyped known left (own_type x) × IsTyped known right (own_type y)
  binary_parts op left right t p it =
      both_operands as_value left right (λ x y j. finish known.next as_value (judge_binary op x y j) j) it.0 _ (and_first (is_pure left) (is_pure right) p) (and_second (is_pure left) (is_pure right) p)
      (λ e k p. refl) (λ x y j. finished known.next as_value (judge_binary op x y j) j) refl it.5

  pub integer_parts : (op : Op) (left right : c.Expression) (t : CType) → is_pure (c.Binary op left right) ≡ true → IsTyped known (c.Binary op left right) t → TakesIntegers known (c.Binary op left right)
      → IsAt is_integer known left × IsAt is_integer known right
  integer_parts op left right t p it takes =
      let parts = binary_parts op left right t p it in
      let integers = takes parts.0 parts.1 parts.2 parts.3 parts.4 parts.5 in (
        typed_at known left is_integer (and_first (is_integer (own_type parts.0)) (is_integer (own_type parts.1)) integers) parts.7,
        typed_at known right is_integer (and_second (is_integer (own_type parts.0)) (is_integer (own_type parts.1)) integers) parts.8,
      )

  pub equality_at : (op : Op) (left right : c.Expression) (t : CType) → is_pure (c.Binary op left right) ≡ true → IsTyped known (c.Binary op left right) t → is_equality op ≡ true
      → IsAt is_integer known (c.Binary op left right)
  equality_at op left right t p it q =
      let parts = binary_parts op left right t p it in
      (it.0, it.1, it.2, it.3, it.4, it.5, equality_is_integer op q parts.3 known.next parts.0 parts.1 it.0 _ parts.6)
