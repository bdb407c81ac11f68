-- A pointer is compared with null, and what is compared by `==` is by `!=` too.
use Rattle.std.proofs.Common.{◌≡◌, ℕ, ◌+◌, List, [], ◌∷◌, Option, Some, None, Bool, true, false, refl, sym, ap, ◌∙◌}
use Rattle.std.proofs.lemmas.Bool.{false≢true}
use Rattle.std.specs.Prelude.{◌++◌, ◌||◌, if◌then◌else◌, pos}
use Rattle.std.specs.List.{AllByRecursion}
use Rattle.lt_model.specs.declared.operator.Op.{Op}
use Rattle.lt_model.specs.declared.operator.Op.TheVariants as O
use Rattle.lt_model.specs.declared.scalar.Scalar.TheVariants as S
use Rattle.lt_tree.specs.Tree as c
use Rattle.lt_tree.specs.Purity.{is_pure}
use Rattle.lt_tree.specs.Typing.Types.{Num, is_integer, is_pointer}
use Rattle.lt_tree.specs.Typing.Extents.{Structs}
use Rattle.lt_tree.specs.Typing.Constants.{number, is_null_constant}
use Rattle.lt_tree.specs.Typing.Rules.{Rule, unless, least, bad_comparison}
use Rattle.lt_tree.specs.Typing.Operands.{is_equality, are_integers, can_be_ordered, goes_with_any_pointer, can_be_compared, is_pointer_to_void}
use Rattle.lt_tree.specs.Typing.Entities.{Known, Object, Fact}
use Rattle.lt_tree.specs.Typing.Steps.{Outcome, Goes, Breaks, goes_on, settle, unless_broken, notes, gives, ◌>>◌}
use Rattle.lt_tree.specs.Typing.Expressions.{Typed, Use, as_value, constant, own_type, used, Judged, judgement, fact_of, faults_of_any, finish}
use Rattle.lt_tree.specs.Typing.Operations.{judge_constant}
use Rattle.lt_tree.specs.Typing.BinaryOperations.{judge_binary, operand_faults, on_integers, on_pointers}
use Rattle.lt_tree.specs.Typing.ExpressionTyping.{expression}
use Rattle.lt_objectives.specs.Decisions.{zero_constant}
use Rattle.lt_mark_typing.specs.Placed.{IsThere}
use Rattle.lt_object_laws.specs.Further.{IsFurther}
use Rattle.lt_mark_typing.specs.Beside.{IsBeside}
use Rattle.lt_objective_typing.proofs.Both.{both_true}
use Rattle.lt_objective_typing.proofs.Constants.{zero_is}

pub data Equality : Op → Type 0 where
  equal : Equality O.Eq
  unequal : Equality O.Ne

third_true : (a b d : Bool) → d ≡ true → a || b || d ≡ true
third_true true b d h = refl
third_true false true d h = refl
third_true false false d h = h

-- ---- what an equality gives, and when it breaks a rule

module _ (known : Known) (x y : Typed) where
  abbrev made_by : Op → Bool → Typed
  made_by op b = if b then on_integers known op x y else on_pointers known op x y

  pub is_an_integer : {op : Op} → Equality op → (b : Bool) → is_integer (own_type (used as_value (made_by op b))) ≡ true
  is_an_integer equal true = refl
  is_an_integer equal false = refl
  is_an_integer unequal true = refl
  is_an_integer unequal false = refl

  breaks_nothing : {op : Op} → Equality op → (structs : Structs) (b : Bool) → faults_of_any structs as_value (made_by op b) ≡ []
  breaks_nothing equal structs true = refl
  breaks_nothing equal structs false = refl
  breaks_nothing unequal structs true = refl
  breaks_nothing unequal structs false = refl

  faults_by : {op : Op} → Equality op → (structs : Structs) {b : Bool} → can_be_compared (own_type x) x.constancy (own_type y) y.constancy ≡ b → operand_faults structs op x y ≡ unless b bad_comparison
  faults_by equal structs q = ap (λ b. unless b bad_comparison) q
  faults_by unequal structs q = ap (λ b. unless b bad_comparison) q

-- ---- with null

null_taken : (x : Typed) → is_pointer (own_type x) ≡ true → can_be_compared (own_type x) x.constancy (Num S.Int) (number (pos 0)) ≡ true
null_taken x h =
    third_true (can_be_ordered (own_type x) (Num S.Int)) (goes_with_any_pointer (own_type x) x.constancy (Num S.Int)) (goes_with_any_pointer (Num S.Int) (number (pos 0)) (own_type x))
    (both_true (is_pointer (own_type x)) (is_null_constant (number (pos 0)) || is_pointer_to_void (Num S.Int)) h refl)

-- a node at which no rule is broken
finished_alone : (l : Known) (m : ℕ) (role : Use) (i : Judged) → i.faults ≡ [] → faults_of_any l.structs role i.typed ≡ []
    → finish m role i l ≡ Goes (used role i.typed) (record l { facts = l.facts ++ fact_of m i.typed ∷ [] })
unfolding finish
finished_alone l m role i h g =
    ap (λ rules. goes_on (settle m rules l) (λ u. notes (fact_of m i.typed) >> gives (used role i.typed))) (ap (λ rules. rules ++ faults_of_any l.structs role i.typed) h ∙ g)

zero_goes : (k : Known) → expression zero_constant as_value k ≡ Goes (constant S.Int (pos 0)) (record k { next = k.next + 1; facts = k.facts ++ fact_of k.next (constant S.Int (pos 0)) ∷ [] })
unfolding judge_constant
zero_goes k =
    let first : Known = record k { next = k.next + 1 } in
    ap (λ it. finish k.next as_value (judge_constant it) first) (zero_is k.model) ∙ finished_alone first k.next as_value (judgement [] (constant S.Int (pos 0))) refl refl

module _ {new : ℕ → Bool} {used' : List ℕ} {known : Known} where
  numbered_alone : {further : List Bool} {l : Known} (n : ℕ) (facts : List Fact) → IsBeside new used' further known l → IsBeside new used' further known (record l { next = n; facts = facts })
  numbered_alone n facts b = record { same = λ r a. ap (λ (it : Known). record it { next = n; facts = facts }) (b.same r a); objects = b.objects; functions = b.functions; labels = b.labels }

  pub with_null : {op : Op} → Equality op → (it : c.Expression) → IsThere is_pointer new used' known it → IsThere is_integer new used' known (c.Binary op it zero_constant)
  unfolding judge_binary
  with_null {op} o it p = (
    both_true (is_pure it) true p.0 refl,
    λ further l b.
        let first : Known = record l { next = l.next + 1 } in
        let found = p.1 further first (numbered_alone (l.next + 1) l.facts b) in
        let x : Typed = found.0 in
        let y : Typed = constant S.Int (pos 0) in
        let second : Known = record first { next = found.1; objects = l.objects ++ found.3; facts = found.2 } in
        let later : Known = record second { next = found.1 + 1; facts = found.2 ++ fact_of found.1 y ∷ [] } in
        let integers = are_integers (own_type x) (own_type y) in (
          used as_value (judge_binary op x y later).typed,
          later.next,
          later.facts ++ fact_of l.next (judge_binary op x y later).typed ∷ [],
          found.3,
          found.4,
          ap (λ o. goes_on o (λ x k. goes_on (expression zero_constant as_value k) (λ y k. finish l.next as_value (judge_binary op x y k) k))) found.5
              ∙ ap (λ o. goes_on o (λ y k. finish l.next as_value (judge_binary op x y k) k)) (zero_goes second)
              ∙ finished_alone later l.next as_value (judge_binary op x y later) (faults_by later x y o later.structs (null_taken x found.6)) (breaks_nothing later x y o later.structs integers),
          is_an_integer later x y o integers,
        ),
  )

-- ---- by the other operator

-- going over something finds an integer and nothing but facts and further objects
abbrev EndsAt : Known → Outcome Typed → Type 0
EndsAt l o = (x : Typed) × (next : ℕ) × (facts : List Fact) × (more : List Object) × AllByRecursion IsFurther more
    × (o ≡ Goes x (record l { next = next; objects = l.objects ++ more; facts = facts })) × (is_integer (own_type x) ≡ true)

never : {rule : Rule} {node : ℕ} {x : Typed} {k : Known} → Breaks rule node ≡ Goes x k → ⊥
never e = cc

known_of : {x y : Typed} {k j : Known} → Goes x k ≡ Goes y j → k ≡ j
known_of e = cc

module _ (l : Known) {op op' : Op} (o : Equality op) (p : Equality op') where
  compared : (k : Known) (x y : Typed) (b : Bool) → can_be_compared (own_type x) x.constancy (own_type y) y.constancy ≡ b
      → EndsAt l (finish l.next as_value (judge_binary op x y k) k) → EndsAt l (finish l.next as_value (judge_binary op' x y k) k)
  unfolding judge_binary finish
  compared k x y true q h =
      let integers = are_integers (own_type x) (own_type y) in
      let first = finished_alone k l.next as_value (judge_binary op x y k) (faults_by k x y o k.structs q) (breaks_nothing k x y o k.structs integers) in
      let facts = k.facts ++ fact_of l.next (judge_binary op' x y k).typed ∷ [] in (
        used as_value (judge_binary op' x y k).typed,
        k.next,
        facts,
        h.3,
        h.4,
        finished_alone k l.next as_value (judge_binary op' x y k) (faults_by k x y p k.structs q) (breaks_nothing k x y p k.structs integers)
            ∙ ap (λ (it : Known). Goes (used as_value (judge_binary op' x y k).typed) (record it { next = k.next; facts = facts })) (known_of (sym first ∙ h.5)),
        is_an_integer k x y p integers,
      )
  compared k x y false q h =
      absurd (never (sym (ap (λ faults. goes_on (settle l.next (faults ++ faults_of_any k.structs as_value (judge_binary op x y k).typed) k) (λ u. notes (fact_of l.next (judge_binary op x y k).typed) >> gives (used as_value (judge_binary op x y k).typed)))
      (faults_by k x y o k.structs q)) ∙ h.5))

  behind_left : (x : Typed) (right : Outcome Typed) → EndsAt l (goes_on right (λ y k. finish l.next as_value (judge_binary op x y k) k)) → EndsAt l (goes_on right (λ y k. finish l.next as_value (judge_binary op' x y k) k))
  behind_left x (Goes y k) h = compared k x y (can_be_compared (own_type x) x.constancy (own_type y) y.constancy) refl h
  behind_left x (Breaks rule node) h = absurd (never h.5)

  behind : (right : c.Expression) (left : Outcome Typed) → EndsAt l (goes_on left (λ x k. goes_on (expression right as_value k) (λ y k. finish l.next as_value (judge_binary op x y k) k)))
      → EndsAt l (goes_on left (λ x k. goes_on (expression right as_value k) (λ y k. finish l.next as_value (judge_binary op' x y k) k)))
  behind right (Goes x k) h = behind_left x (expression right as_value k) h
  behind right (Breaks rule node) h = absurd (never h.5)

module _ {new : ℕ → Bool} {used' : List ℕ} {known : Known} where
  pub exchanged : {op op' : Op} → Equality op → Equality op' → (left right : c.Expression) → IsThere is_integer new used' known (c.Binary op left right) → IsThere is_integer new used' known (c.Binary op' left right)
  exchanged o p left right h = (h.0, λ further l b. behind l o p right (expression left as_value (record l { next = l.next + 1 })) (h.1 further l b))

-- ---- what an equality is

equality_by : (op : Op) → is_equality op ≡ true → Equality op
equality_by O.Eq h = equal
equality_by O.Ne h = unequal
equality_by _ h = absurd (false≢true h)

given_by : (found : Option Rule) (k : Known) (node : ℕ) (typed z : Typed) (j : Known) → goes_on (unless_broken found node k) (λ u. notes (fact_of node typed) >> gives (used as_value typed)) ≡ Goes z j → used as_value typed ≡ z
given_by None k node typed z j e = cc
given_by (Some rule) k node typed z j e = absurd (never e)

-- an equality that is typed is an integer
pub equality_is_integer : (op : Op) → is_equality op ≡ true → (k : Known) (node : ℕ) (x y z : Typed) (j : Known) → finish node as_value (judge_binary op x y k) k ≡ Goes z j → is_integer (own_type z) ≡ true
unfolding finish judge_binary
equality_is_integer op h k node x y z j e =
    ap (λ (it : Typed). is_integer (own_type it))
    (sym (given_by (least (operand_faults k.structs op x y ++ faults_of_any k.structs as_value (judge_binary op x y k).typed)) k node (judge_binary op x y k).typed z j e))
    ∙ is_an_integer k x y (equality_by op h) (are_integers (own_type x) (own_type y))
