-- No operand of `?:` hides a null pointer constant but a cast behind marks.
use Rattle.std.proofs.Common.{◌≡◌, ℕ, List, [], ◌∷◌, Option, Some, None, Bool, true, false, refl, sym, ap, ◌∙◌, subst, inl, inr}
use Rattle.std.proofs.lemmas.Bool.{false≢true}
use Rattle.std.specs.Prelude.{◌⊎◌, ◌++◌, ◌||◌, ◌&&◌, pos, ◌-ℤ◌, if◌then◌else◌, option_and_then, length}
use Rattle.lt_model.specs.declared.scalar.DataModel.{DataModel}
use Rattle.lt_model.specs.declared.scalar.Scalar.TheVariants as S
use Rattle.lt_model.specs.declared.operator.Op.{Op}
use Rattle.lt_model.specs.declared.operator.Op.TheVariants as O
use Rattle.lt_model.specs.Conversions.{promoted, usual_of}
use Rattle.lt_tree.specs.declared.expression.LogicalOp.{LogicalOp}
use Rattle.lt_tree.specs.declared.expression.UnaryOp.TheVariants as unary
use Rattle.lt_tree.specs.Tree as c
use Rattle.lt_tree.specs.Typing.Types.{CType, Num, Pointer, is_pointer, is_array, unqualified, target_of, qualified, qualifiers_of}
use Rattle.lt_tree.specs.Typing.Extents.{Placed, is_complete}
use Rattle.lt_tree.specs.Typing.Constants.{Constancy, varying, faulty, number, null_constant, null_address, address, is_form, is_zero, TypedConstant, converted, chosen}
use Rattle.lt_tree.specs.Typing.Rules.{Rule, bad_cast, bad_address}
use Rattle.lt_tree.specs.Typing.TypedTree as e
use Rattle.lt_tree.specs.Typing.TypedTree.{Place, type_at}
use Rattle.lt_tree.specs.Typing.Entities.{Known, Entity, an_object, a_function, a_typedef, an_enumerator, type_of_object}
use Rattle.lt_tree.specs.Typing.Steps.{Outcome, Goes, Breaks, goes_on, settle, marked_again, notes, gives, ◌>>◌}
use Rattle.lt_tree.specs.Typing.Operands.{are_integers, points_to, can_be_cast}
use Rattle.lt_tree.specs.Typing.Expressions.{a_value, Typed, Use, as_value, as_truth, as_place, varies, placed, nothing, own_type, value_in, place_in, value_at, read, used, fact_of, faults_of_any, finish, Judged, judgement, constancy_to, constancy_as_pointer, null_of, scalar_in}
use Rattle.lt_tree.specs.Typing.Operations.{text_type, judge_name, judge_constant, judge_plus, judge_minus, judge_complement, judge_not, judge_address_of, judge_dereference, judge_member, judge_arrow, judge_part, judge_index, judge_size, judge_cast, object_named, lives_from_the_start, part_of, side_of, constant_address, target_in, member_in, pointer_among, other_among, element_size, object_size}
use Rattle.lt_tree.specs.Typing.BinaryOperations.{judge_binary, judge_logical, judge_conditional, judge_comma, on_integers, on_pointers, moved, distance, operation_type, right_type, towards, settles, chosen_type, chosen_pointer}
use Rattle.lt_tree.specs.Typing.MarkRules.{judge_marked, judge_decide, judge_after, after_of, number_of_id}
use Rattle.lt_tree.specs.Typing.NodeEnds.{also, text_at}
use Rattle.lt_tree.specs.Typing.Specifying.{elsewhere}
use Rattle.lt_tree.specs.Typing.Declarators.{type_name_faults, setting_in_sizeof}
use Rattle.lt_tree.specs.Typing.ExpressionTyping.{expression, expressions, marks, specifiers, declarator}
use Rattle.lt_erased_typing.specs.Erasable.{CanBeErasedWith, FindsLabels, ShowsNull, Behind, entered, unmarked}
use Rattle.lt_objectives.specs.Copies.{is_cast, is_marked_cast}
use Rattle.lt_erased_typing.specs.Literals.{none_more}
use Rattle.lt_erased_typing.proofs.Texts.{IsNamed, kept_within}
use Rattle.lt_erased_typing.proofs.TypeNames.{specifiers_same, type_names_judged}
use Rattle.lt_erased_typing.proofs.Scopes.{Own, itself, scopes_itself}
use Rattle.lt_erased_typing.proofs.Going.{beside, named_beside, Follows, goes, breaks}
use Rattle.lt_erased_typing.proofs.Constants.{seen, is_integral, converted_is, applied_is, negated_is, connected_is, conversion_is, moved_seen, chosen_second, chosen_third}
use Rattle.lt_erased_typing.proofs.Operands.{BareValue, BareTruth, Bare, value_read}
use Rattle.lt_erased_typing.proofs.Operators.{address_marked, address_seen, behind_seen}
use Rattle.lt_erased_typing.proofs.Ends.{left_empty, right_empty, unless_true}
use Rattle.lt_erased_typing.proofs.Conditions.{cast_zero}
use Rattle.lt_erased_typing.proofs.Marks.{decides_a_truth}
use Rattle.lt_erased_typing.proofs.Expressions.{of_expression, of_declarator}

-- ---- what holds behind walks

-- what holds where a walk goes on
pub data Holds {A : Type 0} (P : A → Known → Type 0) : Outcome A → Type 0 where
  holds : {a : A} {k : Known} → P a k → Holds P (Goes a k)
  broken : {rule : Rule} {node : ℕ} → Holds P (Breaks rule node)

given : {A : Type 0} {P : A → Known → Type 0} (o : Outcome A) → Behind o P → Holds P o
given (Goes a k) h = holds h
given (Breaks rule node) h = broken

pub taken : {A : Type 0} {P : A → Known → Type 0} {o : Outcome A} → Holds P o → Behind o P
taken (holds h) = h
taken broken = tt

behind_bind : {A B : Type 0} {P : A → Known → Type 0} {Q : B → Known → Type 0} (o : Outcome A) (f : A → Known → Outcome B) → Holds P o
    → ((a : A) (k : Known) → P a k → Holds Q (f a k)) → Holds Q (goes_on o f)
behind_bind (Goes a k) f (holds h) g = g a k h
behind_bind (Breaks rule node) f h g = broken

-- whatever the part is
behind_last : {A B : Type 0} {Q : B → Known → Type 0} (o : Outcome A) (f : A → Known → Outcome B) → ((a : A) (k : Known) → Holds Q (f a k))
    → Holds Q (goes_on o f)
behind_last (Goes a k) f g = g a k
behind_last (Breaks rule node) f g = broken

pub behind_so : {A : Type 0} {P Q : A → Known → Type 0} {o : Outcome A} → Holds P o → ((a : A) (k : Known) → P a k → Q a k) → Holds Q o
behind_so (holds {a} {k} h) g = holds (g a k h)
behind_so broken g = broken

pub behind_both : {A : Type 0} {P Q : A → Known → Type 0} {o : Outcome A} → Holds P o → Holds Q o → Holds (λ a k. P a k × Q a k) o
behind_both (holds h) (holds g) = holds (h, g)
behind_both broken g = broken

behind_rules : (P : Typed → Type 0) (n : ℕ) (rules : List Rule) (typed z : Typed) (k : Known) → (rules ≡ [] → P z)
    → Holds (λ x j. P x) (goes_on (settle n rules k) (λ u. notes (fact_of n typed) >> gives z))
behind_rules P n [] typed z k h = holds (h refl)
behind_rules P n (rule ∷ rules) typed z k h = broken

behind_end : (P : Typed → Type 0) (n : ℕ) (role : Use) (it : Judged) (k : Known) → (it.faults ≡ [] → P (used role it.typed))
    → Holds (λ x j. P x) (finish n role it k)
unfolding finish
behind_end P n role it k h = behind_rules P n (it.faults ++ faults_of_any k.structs role it.typed) it.typed (used role it.typed) k (λ r. h (left_empty it.faults (faults_of_any k.structs role it.typed) r))

-- of two walks, what is said of the first
first_of : {A B : Type 0} {texts : Bool} {known : Known} {own : Own} {R : A → B → Type 0} {o : Outcome A} {p : Outcome B}
    → IsNamed texts known → Follows texts known own R o p
    → Holds (λ a k. (b : B) × R a b × IsNamed texts k) o
first_of w (goes {a} {b} r s) = holds (b, r, named_beside w s)
first_of w breaks = broken

named_found : {texts : Bool} (k : Known) {l : Known} → IsNamed texts k → FindsLabels texts k l → IsNamed texts l
named_found {texts} k {l} w h = subst (IsNamed texts) (sym h.1) (λ is name n r e. kept_within n h.0 (w is name n r e))

pub or_none : (a b : Bool) → a || b ≡ false → (a ≡ false) × (b ≡ false)
or_none true b h = absurd (false≢true (sym h))
or_none false b h = (refl, h)

-- what is said of an expression beside itself without its marks
itself_bare : {texts : Bool} (k : Known) (it : c.Expression) → IsNamed texts k → CanBeErasedWith texts as_value k it
    → Holds (λ x j. (y : Typed) × BareValue x y × IsNamed texts j) (expression it as_value k)
itself_bare k it w h = first_of w (of_expression {known = k} {own = itself k} {k = k} {j = k} (scopes_itself k w) it as_value refl (beside none_more none_more) h)

itself_tested : {texts : Bool} (k : Known) (it : c.Expression) → IsNamed texts k → CanBeErasedWith texts as_truth k it
    → Holds (λ x j. (y : Typed) × BareTruth x y × IsNamed texts j) (expression it as_truth k)
itself_tested k it w h = first_of w (of_expression {known = k} {own = itself k} {k = k} {j = k} (scopes_itself k w) it as_truth refl (beside none_more none_more) h)

itself_placed : {texts : Bool} (k : Known) (it : c.Expression) → IsNamed texts k → CanBeErasedWith texts as_place k it
    → Holds (λ x j. (y : Typed) × Bare x y × IsNamed texts j) (expression it as_place k)
itself_placed k it w h = first_of w (of_expression {known = k} {own = itself k} {k = k} {j = k} (scopes_itself k w) it as_place refl (beside none_more none_more) h)

-- ---- what is no null pointer constant

abbrev NotNull : Typed → Type 0
NotNull x = x.erased ≡ null_constant → ⊥

integral_no_null : {c : Constancy} → is_integral c ≡ true → c ≡ null_constant → ⊥
integral_no_null h n = false≢true (ap is_integral (sym n) ∙ h)

seen_no_null : {c : Constancy} → seen c ≡ varying → c ≡ null_constant → ⊥
seen_no_null h n = varying_no_null (ap seen (sym n) ∙ h)
  where
    varying_no_null : null_constant ≡ varying → ⊥
    varying_no_null q = cc

-- a place that is read
place_no_null : (p : Place) (x : Typed) → seen x.erased ≡ varying → NotNull (read p x)
place_no_null p x h = by (is_array (type_at p))
  where
    by : (b : Bool) → NotNull (if b then record x { form = a_value (value_at (type_at p) p) } else varies (value_at (type_at p) p))
    by true = seen_no_null h
    by false = seen_no_null refl

-- ---- what operators make is none

start_no_null : (known : Known) (n : ℕ) (is_register : Bool) → NotNull (used as_value (object_named known n is_register))
start_no_null known n is_register = place_no_null (e.Object (type_of_object known n) n) (object_named known n is_register) (by (lives_from_the_start known n))
  where
    by : (b : Bool) → seen (if b then address n 0 else varying) ≡ varying
    by true = refl
    by false = refl

name_no_null : (name : List ℕ) (found : Option Entity) (known : Known) → NotNull (used as_value (judge_name as_value name found known).typed)
unfolding judge_name
name_no_null name None known = integral_no_null refl
name_no_null name (Some (a_typedef t)) known = integral_no_null refl
name_no_null name (Some (an_object n is_register)) known = start_no_null known n is_register
name_no_null name (Some a_function) known = integral_no_null refl
name_no_null name (Some (an_enumerator z)) known = integral_no_null refl

constant_no_null : (found : Option TypedConstant) → NotNull (used as_value (judge_constant found).typed)
unfolding judge_constant
constant_no_null None = integral_no_null refl
constant_no_null (Some c) = integral_no_null refl

text_no_null : (k : Known) (bytes : List ℕ) (n : ℕ) → NotNull (used as_value (text_at k bytes n).typed)
unfolding text_at
text_no_null k bytes n = place_no_null (e.Object (text_type bytes) n) (placed (e.Object (text_type bytes) n) (address n 0)) refl

part_no_null : (x : Typed) (found : Option Placed) → NotNull (used as_value (judge_part x found).typed)
part_no_null x None = integral_no_null refl
part_no_null x (Some member) = place_no_null (e.Part (qualified (qualifiers_of (own_type x)) member.type) member.offset (place_in x)) (part_of x member) (behind_seen member x.constancy)

member_no_null : (x : Typed) (name : List ℕ) (k : Known) → NotNull (used as_value (judge_member x name k).typed)
unfolding judge_member
member_no_null x name k = part_no_null x (member_in k (own_type x) name)

arrow_no_null : (x : Typed) (name : List ℕ) (k : Known) → NotNull (used as_value (judge_arrow x name k).typed)
unfolding judge_arrow
arrow_no_null x name k = part_no_null (placed (e.Pointed (target_in x) (value_in x)) (constant_address x.constancy)) (option_and_then (λ t. member_in k t name) (target_of (own_type x)))

index_no_null : (x y : Typed) (k : Known) → NotNull (used as_value (judge_index x y k).typed)
unfolding judge_index
index_no_null x y k =
    place_no_null (e.Element (target_in (pointer_among x y)) (element_size k x y) (side_of x) (value_in x) (value_in y)) (judge_index x y k).typed
    (moved_seen (object_size k) (element_size k x y) (pointer_among x y).constancy (other_among x y).constancy)

dereference_no_null : (x : Typed) (k : Known) → NotNull (used as_value (judge_dereference x k).typed)
unfolding judge_dereference
dereference_no_null x k = by (points_to (is_complete k.structs) (own_type x))
  where
    by : (b : Bool)
        → NotNull (used as_value (if b then judgement [] (placed (e.Pointed (target_in x) (value_in x)) (constant_address x.constancy)) else judgement (bad_address ∷ []) nothing).typed)
    by true = place_no_null (e.Pointed (target_in x) (value_in x)) (placed (e.Pointed (target_in x) (value_in x)) (constant_address x.constancy)) (address_seen x.constancy)
    by false = integral_no_null refl

plus_no_null : (x : Typed) (k : Known) → NotNull (used as_value (judge_plus x k).typed)
unfolding judge_plus
plus_no_null x k = integral_no_null ((converted_is k.model (promoted k.model (scalar_in x)) x.erased).integer refl)

minus_no_null : (x : Typed) (k : Known) → NotNull (used as_value (judge_minus x k).typed)
unfolding judge_minus
minus_no_null x k = let s = promoted k.model (scalar_in x) in integral_no_null ((applied_is k.model s (Num s) O.Sub (number (pos 0)) (converted k.model s x.erased) refl).integer refl)

complement_no_null : (x : Typed) (k : Known) → NotNull (used as_value (judge_complement x k).typed)
unfolding judge_complement
complement_no_null x k =
    let s = promoted k.model (scalar_in x) in
    integral_no_null ((applied_is k.model s (Num s) O.Xor (converted k.model s (number (pos 0 -ℤ pos 1))) (converted k.model s x.erased) refl).integer refl)

not_no_null : (x : Typed) → NotNull (used as_value (judge_not x).typed)
unfolding judge_not
not_no_null x = integral_no_null ((negated_is (Num S.Int) x.erased refl).integer refl)

address_no_null : (x : Typed) → seen x.constancy ≡ varying → NotNull (used as_value (judge_address_of x).typed)
unfolding judge_address_of
address_no_null x h = seen_no_null h

size_no_null : (t : CType) (k : Known) → NotNull (used as_value (judge_size t k).typed)
unfolding judge_size
size_no_null t k = integral_no_null refl

binary_no_null : (op : Op) (x y : Typed) (k : Known) → NotNull (used as_value (judge_binary op x y k).typed)
unfolding judge_binary
binary_no_null op x y k = by (are_integers (own_type x) (own_type y))
  where
    difference : (b : Bool) → NotNull (used as_value (if b then distance k x y else moved k O.Sub x y))
    difference true = seen_no_null refl
    difference false = seen_no_null (moved_seen (object_size k) (element_size k x y) (pointer_among x y).constancy (towards O.Sub (other_among x y).constancy))

    pointers : (op : Op) → NotNull (used as_value (on_pointers k op x y))
    pointers O.Sub = difference (is_pointer (own_type x) && is_pointer (own_type y))
    pointers O.Add = seen_no_null (moved_seen (object_size k) (element_size k x y) (pointer_among x y).constancy (towards O.Add (other_among x y).constancy))
    pointers _ = seen_no_null refl

    by : (b : Bool) → NotNull (used as_value (if b then on_integers k op x y else on_pointers k op x y))
    by true =
        let s = operation_type k op x y in
        let r = right_type k op x y in
        integral_no_null ((applied_is k.model s (Num s) op (converted k.model s x.erased) (converted k.model r y.erased) refl).integer refl)
    by false = pointers op

logical_no_null : (op : LogicalOp) (x y : Typed) → NotNull (used as_value (judge_logical op x y).typed)
unfolding judge_logical
logical_no_null op x y = integral_no_null ((connected_is (settles op) (Num S.Int) x.erased y.erased refl).integer refl)

comma_no_null : (xs : List Typed) → NotNull (used as_value (judge_comma xs).typed)
unfolding judge_comma
comma_no_null xs = seen_no_null refl

-- ---- choices

conversion_no_null : (m : DataModel) (t : CType) (c : Constancy) → (is_pointer t ≡ true → c ≡ varying) → constancy_to m t c ≡ null_constant → ⊥
conversion_no_null m (Num s) c h = integral_no_null ((conversion_is m (Num s) c).integer refl)
conversion_no_null m (Pointer t) c h = λ n. seen_no_null refl (sym (ap (constancy_to m (Pointer t)) (h refl)) ∙ n)
conversion_no_null m _ c h = seen_no_null refl

module _ {x x' y y' : Typed} (p : BareValue x x') (q : BareValue y y') where
  chosen_varies : (k : Known) (a : Constancy) → is_pointer (chosen_type k x y) ≡ true → chosen a x.erased y.erased ≡ varying
  chosen_varies k a = by (are_integers (own_type x) (own_type y)) (is_pointer (own_type x)) refl (is_pointer (own_type y)) refl
    where
      by : (i b : Bool) → is_pointer (own_type x) ≡ b → (d : Bool) → is_pointer (own_type y) ≡ d
          → is_pointer (if i then Num (usual_of k.model (scalar_in x) (scalar_in y)) else (if b || d then chosen_pointer x y else own_type x)) ≡ true → chosen a x.erased y.erased ≡ varying
      by true b e d f h = absurd (false≢true h)
      by false true e d f h = chosen_second a x.erased y.erased (p.constancy.erasure.pointer e)
      by false false e true f h = chosen_third a x.erased y.erased (q.constancy.erasure.pointer f)
      by false false e false f h = absurd (false≢true (sym e ∙ h))

  conditional_no_null : (o : Typed) (k : Known) → NotNull (used as_value (judge_conditional o x y k).typed)
  unfolding judge_conditional
  conditional_no_null o k = conversion_no_null k.model (chosen_type k x y) (chosen o.erased x.erased y.erased) (chosen_varies k o.erased)

-- ---- casts

null_by : (b : Bool) (t : CType) → (if b then null_of t else varying) ≡ null_constant → null_of t ≡ null_constant
null_by true t h = h
null_by false t h = absurd cc

zero_null : (t : CType) (c : Constancy) → is_zero c ≡ true → null_of t ≡ null_constant → constancy_as_pointer t c ≡ null_constant
zero_null t (number z) h n = ap (λ b. if b then null_of t else varying) h ∙ n
zero_null t varying h n = absurd (false≢true h)
zero_null t faulty h n = absurd (false≢true h)
zero_null t null_constant h n = absurd (false≢true h)
zero_null t null_address h n = absurd (false≢true h)
zero_null t (address object offset) h n = absurd (false≢true h)

pointer_shows : (t : CType) (c d : Constancy) → (is_form d ≡ true → is_zero c ≡ true) → constancy_as_pointer t d ≡ null_constant
    → constancy_as_pointer t c ≡ null_constant
pointer_shows t c (number z) h n = zero_null t c (h refl) (null_by (is_zero (number z)) t n)
pointer_shows t c varying h n = absurd cc
pointer_shows t c faulty h n = absurd cc
pointer_shows t c null_constant h n = absurd cc
pointer_shows t c null_address h n = absurd cc
pointer_shows t c (address object offset) h n = absurd cc

cast_by : (m : DataModel) (t : CType) (c d : Constancy) → (is_pointer t ≡ true → is_form d ≡ true → is_zero c ≡ true)
    → constancy_to m t d ≡ null_constant → constancy_to m t c ≡ null_constant
cast_by m (Num s) c d h = λ n. absurd (integral_no_null ((conversion_is m (Num s) d).integer refl) n)
cast_by m (Pointer t) c d h = pointer_shows (Pointer t) c d (h refl)
cast_by m _ c d h = λ n. n

cast_shows : {x y : Typed} (t : CType) (k : Known) → BareValue x y → (judge_cast t x k).faults ≡ [] → ShowsNull (used as_value (judge_cast t x k).typed)
unfolding judge_cast
cast_shows {x} t k p h =
    let can = unless_true (can_be_cast t (own_type x) x.constancy) bad_cast h in
    cast_by k.model (unqualified t) x.constancy x.erased (λ q f. cast_zero t (own_type x) x.constancy can q (by (is_pointer (own_type x)) refl f))
  where
    by : (b : Bool) → is_pointer (own_type x) ≡ b → is_form x.erased ≡ true → is_pointer (own_type x) ≡ false
    by true e f = absurd (false≢true (sym (p.constancy.erasure.pointer e) ∙ f))
    by false e f = e

-- ---- marks

marked_no_null : (ms : e.Marks) (x : Typed) → NotNull x → NotNull (used as_value (judge_marked ms x).typed)
unfolding judge_marked
marked_no_null ms x h = h

after_no_null : {x y : Typed} (id tag : List ℕ) (k : Known) → BareValue x y → NotNull x → NotNull (used as_value (judge_after as_value x id tag k).typed)
unfolding judge_after
after_no_null {x} id tag k p h = subst (λ z. NotNull (after_of z (number_of_id id))) (sym (value_read p)) h

-- ---- expressions

not_null : {texts : Bool} (it : c.Expression) (k : Known) → IsNamed texts k → CanBeErasedWith texts as_value k it → is_cast it ≡ false
    → is_marked_cast it ≡ false → Holds (λ x j. NotNull x) (expression it as_value k)
not_null (c.Name name) k named h g m = behind_end NotNull _ as_value _ _ (λ r. name_no_null name _ _)
not_null (c.Constant text) k named h g m = behind_end NotNull _ as_value _ _ (λ r. constant_no_null _)
not_null (c.Text bytes) k named h g m = behind_end NotNull _ as_value (text_at (entered k) bytes (length k.objects)) _ (λ r. text_no_null (entered k) bytes (length k.objects))
not_null (c.Index whole index) k named h g m =
    behind_last (expression whole as_value (entered k)) _ (λ x l. behind_last (expression index as_value l) _ (λ y l. behind_end NotNull k.next as_value (judge_index x y l) l (λ r. index_no_null x y l)))
not_null (c.Call callee arguments) k named h g m = absurd h
not_null (c.Member whole w) k named h g m = behind_last (expression whole as_place (entered k)) _ (λ x l. behind_end NotNull k.next as_value (judge_member x w l) l (λ r. member_no_null x w l))
not_null (c.Arrow pointer w) k named h g m = behind_last (expression pointer as_value (entered k)) _ (λ x l. behind_end NotNull k.next as_value (judge_arrow x w l) l (λ r. arrow_no_null x w l))
not_null (c.PostInc target) k named h g m = absurd h
not_null (c.PostDec target) k named h g m = absurd h
not_null (c.PreInc target) k named h g m = absurd h
not_null (c.PreDec target) k named h g m = absurd h
not_null (c.Unary unary.AddressOf operand) k named h g m =
    behind_bind (expression operand as_place (entered k)) _ (itself_placed (entered k) operand named h)
    (λ x l p. behind_end NotNull k.next as_value (judge_address_of x) l (λ r. address_no_null x (address_marked p.1 r)))
not_null (c.Unary unary.Dereference operand) k named h g m = behind_last (expression operand as_value (entered k)) _ (λ x l. behind_end NotNull k.next as_value (judge_dereference x l) l (λ r. dereference_no_null x l))
not_null (c.Unary unary.Plus operand) k named h g m = behind_last (expression operand as_value (entered k)) _ (λ x l. behind_end NotNull k.next as_value (judge_plus x l) l (λ r. plus_no_null x l))
not_null (c.Unary unary.Minus operand) k named h g m = behind_last (expression operand as_value (entered k)) _ (λ x l. behind_end NotNull k.next as_value (judge_minus x l) l (λ r. minus_no_null x l))
not_null (c.Unary unary.Complement operand) k named h g m = behind_last (expression operand as_value (entered k)) _ (λ x l. behind_end NotNull k.next as_value (judge_complement x l) l (λ r. complement_no_null x l))
not_null (c.Unary unary.Not operand) k named h g m = behind_last (expression operand as_truth (entered k)) _ (λ x l. behind_end NotNull k.next as_value (judge_not x) l (λ r. not_no_null x))
not_null (c.SizeofExpr operand) k named h g m = behind_last (marked_again (entered k).is_unmarked (expression operand as_place (unmarked (entered k)))) (λ x l. finish k.next as_value (judge_size (own_type x) l) l) (λ x l. behind_end NotNull k.next as_value (judge_size (own_type x) l) l (λ r. size_no_null (own_type x) l))
not_null (c.SizeofType s d) k named h g m =
    behind_last (specifiers s (setting_in_sizeof d) (entered k)) _ (λ it l. behind_last (declarator d it false (λ name known b. type_name_faults b) l) _
    (λ t l. behind_end NotNull k.next as_value (also t.faults (judge_size t.type l)) l (λ r. size_no_null t.type l)))
not_null (c.Cast s d operand) k named h g m = absurd (false≢true (sym g))
not_null (c.Binary op left right) k named h g m =
    behind_last (expression left as_value (entered k)) _ (λ x l. behind_last (expression right as_value l) _ (λ y l. behind_end NotNull k.next as_value (judge_binary op x y l) l (λ r. binary_no_null op x y l)))
not_null (c.Logical op left right) k named h g m =
    behind_last (expression left as_truth (entered k)) _ (λ x l. behind_last (expression right as_truth l) _ (λ y l. behind_end NotNull k.next as_value (judge_logical op x y) l (λ r. logical_no_null op x y)))
not_null (c.Conditional test left right) k named h g m =
    behind_bind (expression test as_truth (entered k)) _ (behind_both (given (expression test as_truth (entered k)) h.1) (itself_tested (entered k) test named h.0)) (λ o l a.
    behind_bind (expression left as_value l) _ (behind_both (given (expression left as_value l) a.0.1) (itself_bare l left a.1.2 a.0.0)) (λ x l b.
    behind_bind (expression right as_value l) _ (itself_bare l right b.1.2 b.0.1) (λ y l q. behind_end NotNull k.next as_value (judge_conditional o x y l) l (λ r. conditional_no_null b.1.1 q.1 o l))))
not_null (c.Assign op target value) k named h g m = absurd h
not_null (c.Comma c.no_expressions) k named h g m = absurd h
not_null (c.Comma (c.an_expression first rest)) k named h g m =
    behind_last (expressions (c.an_expression first rest) (entered k)) _ (λ xs l. behind_end NotNull k.next as_value (judge_comma xs) l (λ r. comma_no_null xs))
not_null (c.Marked ms value) k named h g m =
    behind_bind (marks ms (entered k)) _ (given (marks ms (entered k)) h.1) (λ typed l a.
    behind_bind (expression value as_value l) _ (not_null value l (named_found (entered k) named a.0) a.1 (or_none (is_cast value) (is_marked_cast value) m).0 (or_none (is_cast value) (is_marked_cast value) m).1)
    (λ x l n. behind_end NotNull k.next as_value (judge_marked typed x) l (λ r. marked_no_null typed x n)))
not_null (c.Decide operand when_true when_false tag) k named h g m =
    behind_last (expression operand as_value (entered k)) _ (λ x l.
    behind_bind {P = λ z j. ⊥} (finish k.next as_value (judge_decide as_value x when_true when_false tag l) l) _
    (behind_end (λ z. ⊥) k.next as_value (judge_decide as_value x when_true when_false tag l) l (λ r. decides_a_truth as_value x when_true when_false tag l refl r)) (λ z j never. absurd never))
not_null (c.After operand id tag) k named h g m =
    behind_bind (expression operand as_value (entered k)) _ (behind_both (itself_bare (entered k) operand named h.1)
    (not_null operand (entered k) named h.1 (or_none (is_cast operand) (is_marked_cast operand) m).0 (or_none (is_cast operand) (is_marked_cast operand) m).1)) (λ x l b.
    behind_bind {P = λ z j. NotNull z} (finish k.next as_value (judge_after as_value x id tag l) l) _
    (behind_end NotNull k.next as_value (judge_after as_value x id tag l) l (λ r. after_no_null id tag l b.0.1 b.1)) (λ z j n. holds n))

cast_behind : {texts : Bool} (s : c.Specifiers) (d : c.Declarator) (operand : c.Expression) (k : Known) → IsNamed texts k
    → CanBeErasedWith texts as_value k (c.Cast s d operand)
    → Holds (λ x j. ShowsNull x) (expression (c.Cast s d operand) as_value k)
cast_behind {texts} s d operand k w h =
    behind_bind (specifiers s elsewhere (entered k)) _
    (behind_both (given (specifiers s elsewhere (entered k)) h.1)
    (first_of {texts = texts} {known = entered k} w (specifiers_same {texts = texts} {known = entered k} {own = itself k} (scopes_itself k w) {k = entered k} {j = entered k} s elsewhere refl h.0 (beside none_more none_more)))) (λ it l a.
    behind_bind (declarator d it false (λ name known b. type_name_faults b) l) _
    (behind_both (given (declarator d it false (λ name known b. type_name_faults b) l) a.0.1)
    (first_of {texts = texts} {known = l} a.1.2 (of_declarator {known = l} {own = itself l} {k = l} {j = l} (scopes_itself l a.1.2) type_names_judged d it (beside none_more none_more) a.0.0))) (λ t l b.
    behind_bind (expression operand as_value l) _ (itself_bare l operand b.1.2 b.0) (λ x l p.
    behind_end ShowsNull k.next as_value (also t.faults (judge_cast t.type x l)) l (λ r. cast_shows t.type l p.1 (right_empty t.faults (judge_cast t.type x l).faults r)))))

cast_or_not : (it : c.Expression) → ((s : c.Specifiers) × (d : c.Declarator) × (operand : c.Expression) × (it ≡ c.Cast s d operand)) ⊎ (is_cast it ≡ false)
cast_or_not (c.Cast s d operand) = inl (s, d, operand, refl)
cast_or_not _ = inr refl

-- An expression that is no cast behind marks shows whether it is a null pointer constant.
pub shows : {texts : Bool} (it : c.Expression) (k : Known) → IsNamed texts k → CanBeErasedWith texts as_value k it → is_marked_cast it ≡ false
    → Holds (λ x j. ShowsNull x) (expression it as_value k)
shows {texts} it k w h m = by (cast_or_not it)
  where
    by : ((s : c.Specifiers) × (d : c.Declarator) × (operand : c.Expression) × (it ≡ c.Cast s d operand)) ⊎ (is_cast it ≡ false)
        → Holds (λ x j. ShowsNull x) (expression it as_value k)
    by (inl (s, d, operand, e)) = subst (λ it. Holds (λ x j. ShowsNull x) (expression it as_value k)) (sym e) (cast_behind s d operand k w (subst (CanBeErasedWith texts as_value k) e h))
    by (inr g) = behind_so (not_null it k w h g m) (λ x j n e. absurd (n e))
