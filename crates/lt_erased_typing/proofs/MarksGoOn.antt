-- Marks that are typed have plain predicates, and stand neither in `sizeof` nor in constant expressions, nor around the operand of `&`.
use Rattle.std.proofs.Common.{◌≡◌, ℕ, List, [], true, false, refl, sym, ap, ◌∙◌, subst, Bool}
use Rattle.std.specs.List.{list_all}
use Rattle.std.proofs.lemmas.Bool.{false≢true, and_parts}
use Rattle.std.specs.Prelude.{◌&&◌, not, ◌==◌}
use Rattle.lt_tree.specs.declared.expression.UnaryOp.{UnaryOp}
use Rattle.lt_tree.specs.declared.expression.UnaryOp.TheVariants as unary
use Rattle.lt_tree.specs.Tree as c
use Rattle.lt_tree.specs.Purity.{is_pure}
use Rattle.lt_tree.specs.Typing.Types.{is_scalar, is_integer}
use Rattle.lt_tree.specs.Typing.Rules.{unless, bad_mark, bad_address}
use Rattle.lt_tree.specs.Typing.TypedTree as e
use Rattle.lt_tree.specs.Typing.Entities.{Known, Frame}
use Rattle.lt_tree.specs.Typing.Steps.{Goes}
use Rattle.lt_tree.specs.Typing.Expressions.{Typed, Use, as_value, as_place, own_type, is_lvalue, finish}
use Rattle.lt_tree.specs.Typing.Operations.{judge_address_of}
use Rattle.lt_tree.specs.Typing.MarkRules.{TypedBinding, is_good_binding, is_good_mark, is_good_id, is_tag, are_new_names, names_of, is_truth, is_good_decision, is_lvalue_in_use, number_of_id, judge_marked, judge_decide, judge_after, inside_mark, inside_after}
use Rattle.lt_tree.specs.Typing.NodeEnds.{judge_unary, operand_of}
use Rattle.lt_tree.specs.Typing.ExpressionTyping.{expression, marks, mark, bindings}
use Rattle.lt_objectives.specs.Copies.{is_core}
use Rattle.lt_erased_typing.specs.Erasable.{entered}
use Rattle.lt_erased_typing.specs.Plain.{IsPlainWith, ArePlainMarks, IsPlainMark, ArePlainBindings, MayTake}
use Rattle.lt_erased_typing.specs.Simple.{IsSimpleWith, AreSimpleMarks, IsSimpleMark, AreSimpleBindings}
use Rattle.lt_erased_typing.proofs.Ends.{unless_true}
use Rattle.lt_erased_typing.proofs.PlainWalks.{IsNear, entered_near, unmarked_near, near_behind}
use Rattle.lt_erased_typing.proofs.Found.{found_expression, found_bindings}
use Rattle.lt_erased_typing.proofs.Ended.{went_on, nothing_broken, ended, not_true}
use Rattle.lt_erased_typing.proofs.Markless.{plain_of_pure}

-- ---- predicates

record IsGood (known : Known) (written : c.Expression) (bs : List TypedBinding) : Type 0 where
  marked : not known.is_unmarked ≡ true
  pure : is_pure written ≡ true
  bound : list_all is_good_binding bs ≡ true

good_of : (known : Known) (written : c.Expression) (x : Typed) (id tag : List ℕ) (bs : List TypedBinding)
    → is_good_mark known written x id tag bs ≡ true → IsGood known written bs
good_of known written x id tag bs h =
    let there = not known.is_unmarked in
    let scalar = is_scalar (own_type x) in
    let pure = is_pure written in
    let good = is_good_id known id in
    let bound = list_all is_good_binding bs in
    let six = (and_parts (there && scalar && pure && good && is_tag tag && bound) (are_new_names known (names_of bs)) h).0 in
    let three = (and_parts (there && scalar && pure) good (and_parts (there && scalar && pure && good) (is_tag tag) (and_parts (there && scalar && pure && good && is_tag tag) bound six).0).0).0 in
    record {
      marked = (and_parts there scalar (and_parts (there && scalar) pure three).0).0;
      pure = (and_parts (there && scalar) pure three).1;
      bound = (and_parts (there && scalar && pure && good && is_tag tag) bound six).1;
    }

plain_bindings : (texts : Bool) (frames : List Frame) (them : c.Bindings) (k : Known) {bs : List TypedBinding} {l : Known}
    → bindings them k ≡ Goes bs l → list_all is_good_binding bs ≡ true → AreSimpleBindings texts frames them
    → ArePlainBindings texts frames them
plain_bindings texts frames c.no_bindings k e g h = tt
plain_bindings texts frames (c.a_binding name value rest) k e g h =
    let one = went_on (expression value as_value k) _ e in
    let two = went_on (bindings rest one.1) _ one.3 in
    let first : TypedBinding = record { name = name; written = value; typed = one.0 } in
    let all = subst (λ (bs : List TypedBinding). list_all is_good_binding bs ≡ true) (bound two.3) g in (
      plain_of_pure texts frames value (and_parts (is_integer (own_type one.0)) (is_pure value) (and_parts (is_good_binding first) (list_all is_good_binding two.0) all).0).1 h.0,
      plain_bindings texts frames rest one.1 two.2 (and_parts (is_good_binding first) (list_all is_good_binding two.0) all).1 h.1,
    )
  where
    bound : {bs cs : List TypedBinding} {k l : Known} → Goes cs k ≡ Goes bs l → bs ≡ cs
    bound e = cc

good_at : (predicate : c.Expression) (id tag : List ℕ) (bound : c.Bindings) (k : Known) {t : e.Mark} {l : Known} → mark (c.mark predicate id tag bound) k ≡ Goes t l
    → (x : Typed) × (j : Known) × (bs : List TypedBinding) × (i : Known) × (expression predicate as_value (entered k) ≡ Goes x j) × (bindings bound j ≡ Goes bs i) × IsGood i predicate bs
good_at predicate id tag bound k e =
    let one = went_on (expression predicate as_value (entered k)) _ e in
    let two = went_on (bindings bound one.1) _ one.3 in (
      one.0,
      one.1,
      two.0,
      two.1,
      one.2,
      two.2,
      good_of two.1 predicate one.0 id tag two.0
          (unless_true (is_good_mark two.1 predicate one.0 id tag two.0) bad_mark (nothing_broken k.next (unless (is_good_mark two.1 predicate one.0 id tag two.0) bad_mark) two.1 _ two.3)),
    )

-- a predicate that is typed has no marks
plain_mark : (texts : Bool) (frames : List Frame) (m : c.Mark) (k : Known) {t : e.Mark} {l : Known} → mark m k ≡ Goes t l
    → IsSimpleMark texts frames m → IsPlainMark texts frames m
plain_mark texts frames (c.mark predicate id tag bound) k e h =
    let it = good_at predicate id tag bound k e in (plain_of_pure texts frames predicate it.6.pure h.0, plain_bindings texts frames bound it.1 it.5 it.6.bound h.1)

pub plain_marks : (texts : Bool) (frames : List Frame) (ms : c.Marks) (k : Known) {ts : e.Marks} {l : Known} → marks ms k ≡ Goes ts l
    → AreSimpleMarks texts frames ms → ArePlainMarks texts frames ms
plain_marks texts frames c.no_marks k e h = tt
plain_marks texts frames (c.a_mark first rest) k e h =
    let one = went_on (mark first k) _ e in
    let two = went_on (marks rest one.1) _ one.3 in (plain_mark texts frames first k one.2 h.0, plain_marks texts frames rest one.1 two.2 h.1)

-- ---- where no marks stand

module _ {texts : Bool} {known : Known} (never : known.is_unmarked ≡ true) where
  none_there : {k : Known} → IsNear texts known k → not k.is_unmarked ≡ true → ⊥
  none_there {k} s h = false≢true (sym (not_true k.is_unmarked h) ∙ unmarked_near s ∙ never)

  no_mark : (m : c.Mark) {k : Known} {t : e.Mark} {l : Known} → IsNear texts known k → IsPlainMark texts known.frames m → mark m k ≡ Goes t l → ⊥
  no_mark (c.mark predicate id tag bound) {k} s h e =
      let it = good_at predicate id tag bound k e in
      none_there (near_behind (found_bindings bound (near_behind (found_expression predicate as_value (entered_near s) h.0) it.4) h.1) it.5) it.6.marked

  -- an expression that is typed there is in no marks
  pub core_there : (it : c.Expression) (role : Use) {k : Known} {x : Typed} {l : Known} → IsNear texts known k → IsPlainWith texts known.frames it
      → IsSimpleWith texts known.frames it → expression it role k ≡ Goes x l → is_core it ≡ true
  unfolding judge_decide judge_after
  core_there (c.Marked c.no_marks value) role s p h e = absurd h
  core_there (c.Marked (c.a_mark first rest) value) role {k} s p h e =
      let one = went_on (marks (c.a_mark first rest) (entered k)) _ e in
      let two = went_on (mark first (entered k)) _ one.2 in
      absurd (no_mark first (entered_near s) p.0.0 two.2)
  core_there (c.Decide operand when_true when_false tag) role {k} s p h e =
      let one = went_on (expression operand (inside_mark role) (entered k)) _ e in
      let two = went_on (finish k.next role (judge_decide role one.0 when_true when_false tag one.1) one.1) _ one.3 in
      let good = unless_true (is_good_decision role one.1 one.0 when_true when_false tag) bad_mark (ended k.next role (judge_decide role one.0 when_true when_false tag one.1) one.1 two.2).0 in
      absurd (none_there (near_behind (found_expression operand (inside_mark role) (entered_near s) p) one.2) (decided role one.1 one.0 when_true when_false tag good))
    where
      decided : (role : Use) (k : Known) (x : Typed) (when_true when_false tag : List ℕ) → is_good_decision role k x when_true when_false tag ≡ true
          → not k.is_unmarked ≡ true
      decided role k x when_true when_false tag h =
          let front = is_truth role && not k.is_unmarked in
          let scalar = is_scalar (own_type x) in
          let one = is_good_id k when_true in
          let two = is_good_id k when_false in
          let three = not (number_of_id when_true == number_of_id when_false) in
          (and_parts (is_truth role) (not k.is_unmarked)
          (and_parts front scalar
          (and_parts (front && scalar) one (and_parts (front && scalar && one) two (and_parts (front && scalar && one && two) three (and_parts (front && scalar && one && two && three) (is_tag tag) h).0).0).0).0).0).1
  core_there (c.After operand id tag) role {k} s p h e =
      let one = went_on (expression operand (inside_after role) (entered k)) _ e in
      let two = went_on (finish k.next role (judge_after role one.0 id tag one.1) one.1) _ one.3 in
      let front = not (is_lvalue_in_use role one.0) in
      let there = not one.1.is_unmarked in
      let good = unless_true (front && there && is_good_id one.1 id && is_tag tag) bad_mark (ended k.next role (judge_after role one.0 id tag one.1) one.1 two.2).0 in
      absurd
      (none_there (near_behind (found_expression operand (inside_after role) (entered_near s) p) one.2)
      (and_parts front there (and_parts (front && there) (is_good_id one.1 id) (and_parts (front && there && is_good_id one.1 id) (is_tag tag) good).0).0).1)
  core_there _ role s p h e = refl

-- ---- the operand of `&`

-- what stands behind marks is no lvalue
no_lvalue : {x y : Typed} → x ≡ y → is_lvalue y ≡ false → is_lvalue x ≡ true → ⊥
no_lvalue e h l = false≢true (sym h ∙ ap is_lvalue (sym e) ∙ l)

core_lvalue : (it : c.Expression) (k : Known) {x : Typed} {l : Known} → expression it as_place k ≡ Goes x l → is_lvalue x ≡ true → is_core it ≡ true
unfolding judge_marked judge_decide judge_after
core_lvalue (c.Marked ms value) k e h =
    let one = went_on (marks ms (entered k)) _ e in
    let two = went_on (expression value as_value one.1) _ one.3 in
    absurd (no_lvalue (ended k.next as_place (judge_marked one.0 two.0) two.1 two.3).1 refl h)
core_lvalue (c.Decide operand when_true when_false tag) k e h =
    let one = went_on (expression operand as_value (entered k)) _ e in
    let two = went_on (finish k.next as_place (judge_decide as_place one.0 when_true when_false tag one.1) one.1) _ one.3 in
    absurd (no_lvalue (given two.3 ∙ (ended k.next as_place (judge_decide as_place one.0 when_true when_false tag one.1) one.1 two.2).1) refl h)
  where
    given : {x y : Typed} {k l : Known} → Goes y k ≡ Goes x l → x ≡ y
    given e = cc
core_lvalue (c.After operand id tag) k e h =
    let one = went_on (expression operand as_place (entered k)) _ e in
    let two = went_on (finish k.next as_place (judge_after as_place one.0 id tag one.1) one.1) _ one.3 in
    absurd (no_lvalue (given two.3 ∙ (ended k.next as_place (judge_after as_place one.0 id tag one.1) one.1 two.2).1) refl h)
  where
    given : {x y : Typed} {k l : Known} → Goes y k ≡ Goes x l → x ≡ y
    given e = cc
core_lvalue _ k e h = refl

pub takes : (op : UnaryOp) (operand : c.Expression) (k : Known) {x : Typed} {l : Known} → expression operand (operand_of op) k ≡ Goes x l
    → (judge_unary op x l).faults ≡ [] → MayTake op operand
unfolding judge_address_of
takes unary.AddressOf operand k {x} e h = core_lvalue operand k e (and_parts (is_lvalue x) (not x.is_register) (unless_true (is_lvalue x && not x.is_register) bad_address h)).0
takes unary.Not operand k e h = tt
takes unary.Dereference operand k e h = tt
takes unary.Plus operand k e h = tt
takes unary.Minus operand k e h = tt
takes unary.Complement operand k e h = tt
