-- Expressions whose operands are gone over side by side are so themselves.
use Rattle.std.proofs.Common.{◌≡◌, refl, sym, ap, ◌∙◌, subst, ℕ, ◌+◌, Bool, false, List, [], ◌∷◌, ◌++◌, Option}
use Rattle.lt_model.specs.declared.operator.Op.{Op}
use Rattle.lt_model.specs.declared.operator.Op.TheVariants as O
use Rattle.lt_tree.specs.declared.expression.LogicalOp.{LogicalOp}
use Rattle.lt_tree.specs.declared.expression.UnaryOp.{UnaryOp}
use Rattle.lt_tree.specs.declared.expression.UnaryOp.TheVariants as unary
use Rattle.lt_tree.specs.Tree as c
use Rattle.lt_tree.specs.Nodes.{an_expression, in_expression, in_expressions, in_marks}
use Rattle.lt_tree.specs.Typing.Types.{CType}
use Rattle.lt_tree.specs.Typing.Constants.{is_form, is_null_constant}
use Rattle.lt_tree.specs.Typing.Rules.{Rule}
use Rattle.lt_tree.specs.Typing.TypedTree as e
use Rattle.lt_tree.specs.Typing.TypedTree.{When, before, after}
use Rattle.lt_tree.specs.Typing.Entities.{Known, Fact}
use Rattle.lt_tree.specs.Typing.Steps.{Goes, goes_on}
use Rattle.lt_tree.specs.Typing.Expressions.{Typed, Use, as_value, as_truth, as_place, as_callee, own_type, as_it_is_read, used, Judged, finish}
use Rattle.lt_tree.specs.Typing.Operations.{judge_plus, judge_minus, judge_complement, judge_dereference, judge_step, judge_member, judge_arrow, judge_index, judge_call, judge_cast, judge_size}
use Rattle.lt_tree.specs.Typing.BinaryOperations.{judge_binary, judge_logical, judge_conditional, judge_assignment, judge_comma}
use Rattle.lt_tree.specs.Typing.MarkRules.{number_of_id, label_of, judge_decide, judge_marked, judge_after, inside_mark, inside_after, after_of}
use Rattle.lt_tree.specs.Typing.NodeEnds.{judge_unary, operand_of}
use Rattle.lt_tree.specs.Typing.ExpressionTyping.{expression, expressions, marks}
use Rattle.lt_object_laws.specs.Renamed.{renumbered}
use Rattle.lt_mark_typing.specs.Beside.{IsBeside}
use Rattle.lt_mark_typing.specs.Placed.{entered}
use Rattle.lt_mark_typing.proofs.Numbers.{agrees_so_far}
use Rattle.lt_mark_typing.proofs.Going.{with_others}
use Rattle.lt_mark_typing.proofs.Steps.{label_beside}
use Rattle.lt_kept_facts.proofs.SeenAlike.{SameForm, SeenAlike, SeenAs, SeenIn, values, same_type, alike_itself, integer_of, read_no_place, read_again, as_read, used_alike}
use Rattle.lt_kept_facts.proofs.SeenOperators.{plus_seen, minus_seen, complement_seen, not_seen, address_of_seen, dereference_seen, step_seen, member_seen, arrow_seen, index_seen, call_seen, cast_seen}
use Rattle.lt_kept_facts.proofs.SeenBinaryOperators.{binary_seen, logical_seen, conditional_seen, assignment_seen, SeenEach, comma_seen}
use Rattle.lt_kept_facts.proofs.KeptSteps.{Piece}
use Rattle.lt_kept_facts.proofs.KeptNodes.{Rest, behind, last, in_groups, finished, with_labels, noted_node, hidden_node}

-- what is said of null pointer constants, where truths alone are used nothing
abbrev pub SameNull : Use → Typed → Typed → Type 0
SameNull as_truth x y = Unit {0}
SameNull role x y = is_null_constant y.constancy ≡ is_null_constant x.constancy

-- expressions that are used so, which are seen alike
pub record Seen (role : Use) (x y : Typed) : Type 0 where
  pub seen : SeenIn role x y
  pub constancy : is_form x.constancy ≡ false → is_form y.constancy ≡ false
  pub null : SameNull role x y

-- an expression, and one in the other text
abbrev pub Operand : (F G : List Fact) → (ℕ → Bool) → List ℕ → List Bool → Use → Known → c.Expression → Known → c.Expression → Type 0
Operand F G new ids further role k it l other = Piece F G new ids further (Seen role) k (in_expression it) l (in_expression other) (expression it role k) (expression other role l)

abbrev pub Whole : (F G : List Fact) → (ℕ → Bool) → List ℕ → List Bool → Use → Known → c.Expression → Known → c.Expression → Type 0
Whole F G new ids further role k it l other = Piece F G new ids further (SeenIn role) k (in_expression it) l (in_expression other) (expression it role k) (expression other role l)

pub made : (role : Use) (j i : Judged) → SeenAlike j.typed i.typed → SeenAlike j.typed i.typed × SeenIn role (used role j.typed) (used role i.typed)
made role j i a = (a, used_alike role j.typed i.typed a)

right_empty : (xs ys : List Rule) → xs ++ ys ≡ [] → ys ≡ []
right_empty [] ys h = h
right_empty (x ∷ xs) ys h = absurd cc

module _ {new : ℕ → Bool} {ids : List ℕ} {further : List Bool} {k l : Known} (b : IsBeside new ids further k l) where
  other_is : l ≡ with_others (renumbered further) k l.next l.objects l.functions l.labels l.facts
  other_is = b.same (renumbered further) (agrees_so_far further)

  pub same_model : l.model ≡ k.model
  same_model = ap (λ (it : Known). it.model) other_is

  pub size_seen : (x y : Typed) → own_type y ≡ own_type x → SeenAlike (judge_size (own_type x) k).typed (judge_size (own_type y) l).typed
  unfolding judge_size
  size_seen x y t = subst (λ (it : Judged). SeenAlike (judge_size (own_type x) k).typed it.typed) (sym (ap (judge_size (own_type y)) other_is ∙ ap (λ t. judge_size t k) t)) (alike_itself (judge_size (own_type x) k).typed tt)

  pub sized_seen : (t : CType) → SeenAlike (judge_size t k).typed (judge_size t l).typed
  unfolding judge_size
  sized_seen t = subst (λ (it : Judged). SeenAlike (judge_size t k).typed it.typed) (sym (ap (judge_size t) other_is)) (alike_itself (judge_size t k).typed tt)

  member_there : {x y : Typed} (name : List ℕ) → SeenAlike x y → SeenAlike (judge_member x name k).typed (judge_member y name l).typed
  unfolding judge_member
  member_there {x} {y} name s = subst (λ (it : Judged). SeenAlike (judge_member x name k).typed it.typed) (sym (ap (judge_member y name) other_is)) (member_seen s name k)

  arrow_there : {x y : Typed} (name : List ℕ) → SeenAlike x y → SeenAlike (judge_arrow x name k).typed (judge_arrow y name l).typed
  unfolding judge_arrow
  arrow_there {x} {y} name s = subst (λ (it : Judged). SeenAlike (judge_arrow x name k).typed it.typed) (sym (ap (judge_arrow y name) other_is)) (arrow_seen s name k)

  cast_there : {x y : Typed} (t : CType) → SeenAs as_value x y → (judge_cast t x k).faults ≡ [] → SeenAlike (judge_cast t x k).typed (judge_cast t y l).typed
  unfolding judge_cast
  cast_there {x} {y} t s h = subst (λ (it : Judged). SeenAlike (judge_cast t x k).typed it.typed) (sym (ap (judge_cast t y) other_is)) (cast_seen s t k h)

  pub cast_too : (x y : Typed) (faults : List Rule) (t u : CType) → u ≡ t → SeenAs as_value x y → faults ++ (judge_cast t x k).faults ≡ [] → SeenAlike (judge_cast t x k).typed (judge_cast u y l).typed
  cast_too x y faults t u e s h = subst (λ it. SeenAlike (judge_cast t x k).typed (judge_cast it y l).typed) (sym e) (cast_there t s (right_empty faults (judge_cast t x k).faults h))

  unary_by : (op : UnaryOp) (x y : Typed) → Seen (operand_of op) x y → (judge_unary op x k).faults ≡ [] → SeenAlike (judge_unary op x k).typed (judge_unary op y k).typed
  unary_by unary.AddressOf x y s h = address_of_seen s.seen.alike s.constancy h
  unary_by unary.Dereference x y s h = dereference_seen s.seen.alike k
  unary_by unary.Plus x y s h = plus_seen s.seen.alike k
  unary_by unary.Minus x y s h = minus_seen s.seen.alike k
  unary_by unary.Complement x y s h = complement_seen s.seen.alike k
  unary_by unary.Not x y s h = not_seen x y s.seen.erased

  unary_known : (op : UnaryOp) (x : Typed) → judge_unary op x l ≡ judge_unary op x k
  unfolding judge_dereference judge_plus judge_minus judge_complement
  unary_known unary.AddressOf x = refl
  unary_known unary.Dereference x = ap (judge_unary unary.Dereference x) other_is
  unary_known unary.Plus x = ap (judge_unary unary.Plus x) other_is
  unary_known unary.Minus x = ap (judge_unary unary.Minus x) other_is
  unary_known unary.Complement x = ap (judge_unary unary.Complement x) other_is
  unary_known unary.Not x = refl

  unary_there : (op : UnaryOp) (x y : Typed) → Seen (operand_of op) x y → (judge_unary op x k).faults ≡ [] → SeenAlike (judge_unary op x k).typed (judge_unary op y l).typed
  unary_there op x y s h = subst (λ (it : Judged). SeenAlike (judge_unary op x k).typed it.typed) (sym (unary_known op y)) (unary_by op x y s h)

module _ {F G : List Fact} {new : ℕ → Bool} where
  pub index_kept : {ids after : List ℕ} {further : List Bool} (role : Use) (k l : Known) {d i e j : c.Expression} → Operand F G new ids further as_value (entered k) d (entered l) e
      → ((x : Typed) (m n : Known) → expression d as_value (entered k) ≡ Goes x m → (behind : List Bool) → IsBeside new ids behind m n → Operand F G new after behind as_value m i n j) → Whole F G new after further role k (c.Index d i) l (c.Index e j)
  index_kept role k l {d} {i} {e} {j} o f = noted_node (an_expression (c.Index d i)) (an_expression (c.Index e j)) refl refl (λ whole n zs. refl) (λ whole n zs. refl)
      (behind o (λ x y m n q q' s flags b. last (f x m n q flags b) (λ v w m n p p' r flags b. finished k.next l.next role role (judge_index x v m) (judge_index y w n)
      (λ h. made role (judge_index x v m) (judge_index y w n) (index_seen s.seen.alike r.seen.alike m n)) b)))

  pub call_kept : {ids after : List ℕ} {further : List Bool} (role : Use) (k l : Known) {f g : c.Expression} {ds es : c.Expressions} → Operand F G new ids further as_callee (entered k) f (entered l) g
      → ((x : Typed) (m n : Known) → expression f as_callee (entered k) ≡ Goes x m → (behind : List Bool) → IsBeside new ids behind m n → Piece F G new after behind SeenEach m (in_expressions ds) n (in_expressions es) (expressions ds m) (expressions es n))
      → Whole F G new after further role k (c.Call f ds) l (c.Call g es)
  call_kept role k l {f} {g} {ds} {es} o t = noted_node (an_expression (c.Call f ds)) (an_expression (c.Call g es)) refl refl (λ whole n zs. refl) (λ whole n zs. refl)
      (behind o (λ x y m n q q' s flags b. last (t x m n q flags b) (λ xs ys m n p p' r flags b. finished k.next l.next role role (judge_call x xs m) (judge_call y ys n)
      (λ h. made role (judge_call x xs m) (judge_call y ys n) (call_seen s.seen.alike xs ys m n)) b)))

  pub member_kept : {ids : List ℕ} {further : List Bool} (role : Use) (k l : Known) {d e : c.Expression} (name : List ℕ) → Operand F G new ids further as_place (entered k) d (entered l) e → Whole F G new ids further role k (c.Member d name) l (c.Member e name)
  member_kept role k l {d} {e} name o = noted_node (an_expression (c.Member d name)) (an_expression (c.Member e name)) refl refl (λ whole n zs. refl) (λ whole n zs. refl)
      (last o (λ x y m n q q' s flags b. finished k.next l.next role role (judge_member x name m) (judge_member y name n) (λ h. made role (judge_member x name m) (judge_member y name n) (member_there b name s.seen.alike)) b))

  pub arrow_kept : {ids : List ℕ} {further : List Bool} (role : Use) (k l : Known) {d e : c.Expression} (name : List ℕ) → Operand F G new ids further as_value (entered k) d (entered l) e → Whole F G new ids further role k (c.Arrow d name) l (c.Arrow e name)
  arrow_kept role k l {d} {e} name o = noted_node (an_expression (c.Arrow d name)) (an_expression (c.Arrow e name)) refl refl (λ whole n zs. refl) (λ whole n zs. refl)
      (last o (λ x y m n q q' s flags b. finished k.next l.next role role (judge_arrow x name m) (judge_arrow y name n) (λ h. made role (judge_arrow x name m) (judge_arrow y name n) (arrow_there b name s.seen.alike)) b))

  stepped_kept : {ids : List ℕ} {further : List Bool} (role : Use) (k l : Known) (when : When) (op : Op) (d e : c.Expression) → Operand F G new ids further as_place (entered k) d (entered l) e
      → Rest F G new ids further SeenAlike (SeenIn role) k.next (k.next + 1) k.facts (in_expression d) l.next (l.next + 1) l.facts (in_expression e)
      (goes_on (expression d as_place (entered k)) (λ x m. finish k.next role (judge_step when op x m) m)) (goes_on (expression e as_place (entered l)) (λ y n. finish l.next role (judge_step when op y n) n))
  stepped_kept role k l when op d e o = last o (λ x y m n q q' s flags b. finished k.next l.next role role (judge_step when op x m) (judge_step when op y n)
      (λ h. made role (judge_step when op x m) (judge_step when op y n) (step_seen s.seen.alike when op m n)) b)

  pub post_inc_kept : {ids : List ℕ} {further : List Bool} (role : Use) (k l : Known) {d e : c.Expression} → Operand F G new ids further as_place (entered k) d (entered l) e → Whole F G new ids further role k (c.PostInc d) l (c.PostInc e)
  post_inc_kept role k l {d} {e} o = noted_node (an_expression (c.PostInc d)) (an_expression (c.PostInc e)) refl refl (λ whole n zs. refl) (λ whole n zs. refl) (stepped_kept role k l before O.Add d e o)

  pub post_dec_kept : {ids : List ℕ} {further : List Bool} (role : Use) (k l : Known) {d e : c.Expression} → Operand F G new ids further as_place (entered k) d (entered l) e → Whole F G new ids further role k (c.PostDec d) l (c.PostDec e)
  post_dec_kept role k l {d} {e} o = noted_node (an_expression (c.PostDec d)) (an_expression (c.PostDec e)) refl refl (λ whole n zs. refl) (λ whole n zs. refl) (stepped_kept role k l before O.Sub d e o)

  pub pre_inc_kept : {ids : List ℕ} {further : List Bool} (role : Use) (k l : Known) {d e : c.Expression} → Operand F G new ids further as_place (entered k) d (entered l) e → Whole F G new ids further role k (c.PreInc d) l (c.PreInc e)
  pre_inc_kept role k l {d} {e} o = noted_node (an_expression (c.PreInc d)) (an_expression (c.PreInc e)) refl refl (λ whole n zs. refl) (λ whole n zs. refl) (stepped_kept role k l after O.Add d e o)

  pub pre_dec_kept : {ids : List ℕ} {further : List Bool} (role : Use) (k l : Known) {d e : c.Expression} → Operand F G new ids further as_place (entered k) d (entered l) e → Whole F G new ids further role k (c.PreDec d) l (c.PreDec e)
  pre_dec_kept role k l {d} {e} o = noted_node (an_expression (c.PreDec d)) (an_expression (c.PreDec e)) refl refl (λ whole n zs. refl) (λ whole n zs. refl) (stepped_kept role k l after O.Sub d e o)

  pub unary_kept : {ids : List ℕ} {further : List Bool} (role : Use) (k l : Known) {d e : c.Expression} (op : UnaryOp) → Operand F G new ids further (operand_of op) (entered k) d (entered l) e → Whole F G new ids further role k (c.Unary op d) l (c.Unary op e)
  unary_kept role k l {d} {e} op o = noted_node (an_expression (c.Unary op d)) (an_expression (c.Unary op e)) refl refl (λ whole n zs. refl) (λ whole n zs. refl)
      (last o (λ x y m n q q' s flags b. finished k.next l.next role role (judge_unary op x m) (judge_unary op y n) (λ h. made role (judge_unary op x m) (judge_unary op y n) (unary_there b op x y s h)) b))

  pub binary_kept : {ids after : List ℕ} {further : List Bool} (role : Use) (k l : Known) {d i e j : c.Expression} (op : Op) → Operand F G new ids further as_value (entered k) d (entered l) e
      → ((x : Typed) (m n : Known) → expression d as_value (entered k) ≡ Goes x m → (behind : List Bool) → IsBeside new ids behind m n → Operand F G new after behind as_value m i n j) → Whole F G new after further role k (c.Binary op d i) l (c.Binary op e j)
  binary_kept role k l {d} {i} {e} {j} op o f = noted_node (an_expression (c.Binary op d i)) (an_expression (c.Binary op e j)) refl refl (λ whole n zs. refl) (λ whole n zs. refl)
      (behind o (λ x y m n q q' s flags b. last (f x m n q flags b) (λ v w m n p p' r flags b. finished k.next l.next role role (judge_binary op x v m) (judge_binary op y w n)
      (λ h. made role (judge_binary op x v m) (judge_binary op y w n) (binary_seen s.seen.alike r.seen.alike op m n (same_model b) h)) b)))

  pub logical_kept : {ids after : List ℕ} {further : List Bool} (role : Use) (k l : Known) {d i e j : c.Expression} (op : LogicalOp) → Operand F G new ids further as_truth (entered k) d (entered l) e
      → ((x : Typed) (m n : Known) → expression d as_truth (entered k) ≡ Goes x m → (behind : List Bool) → IsBeside new ids behind m n → Operand F G new after behind as_truth m i n j) → Whole F G new after further role k (c.Logical op d i) l (c.Logical op e j)
  logical_kept role k l {d} {i} {e} {j} op o f = noted_node (an_expression (c.Logical op d i)) (an_expression (c.Logical op e j)) refl refl (λ whole n zs. refl) (λ whole n zs. refl)
      (behind o (λ x y m n q q' s flags b. last (f x m n q flags b) (λ v w m n p p' r flags b. finished k.next l.next role role (judge_logical op x v) (judge_logical op y w)
      (λ h. made role (judge_logical op x v) (judge_logical op y w) (logical_seen op x y v w s.seen.erased r.seen.erased)) b)))

  pub conditional_kept : {ids between after : List ℕ} {further : List Bool} (role : Use) (k l : Known) {test d i other e j : c.Expression} → Operand F G new ids further as_truth (entered k) test (entered l) other
      → ((p : Typed) (m n : Known) → expression test as_truth (entered k) ≡ Goes p m → (behind : List Bool) → IsBeside new ids behind m n → Operand F G new between behind as_value m d n e)
      → ((p x : Typed) (m o n : Known) → expression test as_truth (entered k) ≡ Goes p m → expression d as_value m ≡ Goes x o → (behind : List Bool) → IsBeside new between behind o n → Operand F G new after behind as_value o i n j)
      → Whole F G new after further role k (c.Conditional test d i) l (c.Conditional other e j)
  conditional_kept role k l {test} {d} {i} {other} {e} {j} o f g = noted_node (an_expression (c.Conditional test d i)) (an_expression (c.Conditional other e j)) refl refl (λ whole n zs. refl) (λ whole n zs. refl)
      (in_groups (in_expression test) (in_expression d) (in_expression i) (in_expression other) (in_expression e) (in_expression j)
      (behind o (λ p p' m n q q' t flags b. behind (f p m n q flags b) (λ x y m' n u u' s flags b. last (g p x m m' n q u flags b) (λ v w m n u u' r flags b. finished k.next l.next role role (judge_conditional p x v m) (judge_conditional p' y w n)
      (λ h. made role (judge_conditional p x v m) (judge_conditional p' y w n) (conditional_seen s.seen.alike r.seen.alike s.null r.null p p' m n t.seen.erased (same_model b))) b)))))

  pub assign_kept : {ids after : List ℕ} {further : List Bool} (role : Use) (k l : Known) {d i e j : c.Expression} (op : Option Op) → Operand F G new ids further as_place (entered k) d (entered l) e
      → ((x : Typed) (m n : Known) → expression d as_place (entered k) ≡ Goes x m → (behind : List Bool) → IsBeside new ids behind m n → Operand F G new after behind as_value m i n j) → Whole F G new after further role k (c.Assign op d i) l (c.Assign op e j)
  assign_kept role k l {d} {i} {e} {j} op o f = noted_node (an_expression (c.Assign op d i)) (an_expression (c.Assign op e j)) refl refl (λ whole n zs. refl) (λ whole n zs. refl)
      (behind o (λ x y m n q q' s flags b. last (f x m n q flags b) (λ v w m n p p' r flags b. finished k.next l.next role role (judge_assignment op x v m) (judge_assignment op y w n)
      (λ h. made role (judge_assignment op x v m) (judge_assignment op y w n) (assignment_seen s.seen.alike op v w m n)) b)))

  pub comma_kept : {ids : List ℕ} {further : List Bool} (role : Use) (k l : Known) {ds es : c.Expressions} → Piece F G new ids further SeenEach (entered k) (in_expressions ds) (entered l) (in_expressions es) (expressions ds (entered k)) (expressions es (entered l))
      → Whole F G new ids further role k (c.Comma ds) l (c.Comma es)
  comma_kept role k l {ds} {es} o = hidden_node {S = SeenAlike} (an_expression (c.Comma ds)) (an_expression (c.Comma es)) refl refl (λ whole n zs. refl) (λ whole n zs. refl)
      (last o (λ xs ys m n q q' r flags b. finished k.next l.next role role (judge_comma xs) (judge_comma ys) (λ h. made role (judge_comma xs) (judge_comma ys) (comma_seen r)) b))

-- ---- marks that stand in both texts

abbrev Anything : Typed → Typed → Type 0
Anything x y = Unit {0}

marked_seen : (role : Use) (x y : Typed) (ts us : e.Marks) → SeenIn (inside_mark role) x y → SeenIn role (used role (judge_marked ts x).typed) (used role (judge_marked us y).typed)
unfolding judge_marked
marked_seen as_truth x y ts us s = record { erased = s.erased; first = tt; second = tt }
marked_seen as_value x y ts us s = record { alike = record { kind = values (same_type x y s.alike.kind); erased = s.alike.erased; integer = λ i. integer_of x y s i; address = tt }; read = tt }
marked_seen as_place x y ts us s = record { alike = record { kind = values (same_type x y s.alike.kind); erased = s.alike.erased; integer = λ i. integer_of x y s i; address = tt }; read = tt }
marked_seen as_callee x y ts us s = record { alike = record { kind = values (same_type x y s.alike.kind); erased = s.alike.erased; integer = λ i. integer_of x y s i; address = tt }; read = tt }

decide_seen : (role : Use) (x y : Typed) (when_true when_false tag : List ℕ) (k l : Known) → (judge_decide role x when_true when_false tag k).faults ≡ [] → SeenIn (inside_mark role) x y
    → SeenIn role (used role (judge_decide role x when_true when_false tag k).typed) (used role (judge_decide role y when_true when_false tag l).typed)
unfolding judge_decide
decide_seen as_truth x y when_true when_false tag k l h s = record { erased = s.erased; first = tt; second = tt }
decide_seen as_value x y when_true when_false tag k l h s = absurd cc
decide_seen as_place x y when_true when_false tag k l h s = absurd cc
decide_seen as_callee x y when_true when_false tag k l h s = absurd cc

after_value : (x y : Typed) (id : ℕ) → SeenAlike x y → SeenAlike (after_of (as_it_is_read x) id) (after_of (as_it_is_read y) id)
after_value x y id s = record {
  kind = values (same_type (as_it_is_read x) (as_it_is_read y) (as_read x y s).kind);
  erased = (as_read x y s).erased;
  integer = λ i. integer_of (as_it_is_read x) (as_it_is_read y) (record { alike = as_read x y s; read = read_no_place x }) i;
  address = tt;
}

after_seen : (role : Use) (x y : Typed) (id tag : List ℕ) (k l : Known) → SeenIn (inside_after role) x y → SeenIn role (used role (judge_after role x id tag k).typed) (used role (judge_after role y id tag l).typed)
unfolding judge_after
after_seen as_truth x y id tag k l s = record {
  erased = subst (λ (z : Typed). SameForm z.erased (as_it_is_read y).erased) (sym (read_again x x.form s.first)) (subst (λ (z : Typed). SameForm x.erased z.erased) (sym (read_again y y.form s.second)) s.erased);
  first = tt;
  second = tt;
}
after_seen as_value x y id tag k l s = record { alike = after_value x y (number_of_id id) s.alike; read = tt }
after_seen as_place x y id tag k l s = record { alike = after_value x y (number_of_id id) s.alike; read = tt }
after_seen as_callee x y id tag k l s = record { alike = after_value x y (number_of_id id) s.alike; read = tt }

module _ {F G : List Fact} {new : ℕ → Bool} where
  pub marked_kept : {ids after : List ℕ} {further : List Bool} {R : e.Marks → e.Marks → Type 0} (role : Use) (k l : Known) {ms ns : c.Marks} {d i : c.Expression}
      → Piece F G new ids further R (entered k) (in_marks ms) (entered l) (in_marks ns) (marks ms (entered k)) (marks ns (entered l))
      → ((ts : e.Marks) (m n : Known) → marks ms (entered k) ≡ Goes ts m → (behind : List Bool) → IsBeside new ids behind m n → Whole F G new after behind (inside_mark role) m d n i) → Whole F G new after further role k (c.Marked ms d) l (c.Marked ns i)
  marked_kept role k l {ms} {ns} {d} {i} o f = hidden_node {S = Anything} (an_expression (c.Marked ms d)) (an_expression (c.Marked ns i)) refl refl (λ whole n zs. refl) (λ whole n zs. refl)
      (behind o (λ ts us m n q q' r flags b. last (f ts m n q flags b) (λ x y m n p p' s flags b. finished k.next l.next role role (judge_marked ts x) (judge_marked us y) (λ h. (tt, marked_seen role x y ts us s)) b)))

  pub decide_kept : {ids : List ℕ} {further : List Bool} (role : Use) (k l : Known) {d e : c.Expression} (when_true when_false tag : List ℕ) → new (number_of_id when_true) ≡ false → new (number_of_id when_false) ≡ false
      → Whole F G new ids further (inside_mark role) (entered k) d (entered l) e → Whole F G new ids further role k (c.Decide d when_true when_false tag) l (c.Decide e when_true when_false tag)
  decide_kept role k l {d} {e} when_true when_false tag h g o = hidden_node {S = Anything} (an_expression (c.Decide d when_true when_false tag)) (an_expression (c.Decide e when_true when_false tag)) refl refl (λ whole n zs. refl) (λ whole n zs. refl)
      (last o (λ x y m n q q' s flags b. with_labels (λ (m : Known). m.labels ++ label_of when_true tag [] ∷ [] ++ label_of when_false tag [] ∷ []) (λ m n flags b. label_beside (label_of when_false tag []) g (label_beside (label_of when_true tag []) h b))
      (finished k.next l.next role role (judge_decide role x when_true when_false tag m) (judge_decide role y when_true when_false tag n) (λ h. (tt, decide_seen role x y when_true when_false tag m n h s)) b)))

  pub after_kept : {ids : List ℕ} {further : List Bool} (role : Use) (k l : Known) {d e : c.Expression} (id tag : List ℕ) → new (number_of_id id) ≡ false
      → Whole F G new ids further (inside_after role) (entered k) d (entered l) e → Whole F G new ids further role k (c.After d id tag) l (c.After e id tag)
  after_kept role k l {d} {e} id tag h o = hidden_node {S = Anything} (an_expression (c.After d id tag)) (an_expression (c.After e id tag)) refl refl (λ whole n zs. refl) (λ whole n zs. refl)
      (last o (λ x y m n q q' s flags b. with_labels (λ (m : Known). m.labels ++ label_of id tag [] ∷ []) (λ m n flags b. label_beside (label_of id tag []) h b)
      (finished k.next l.next role role (judge_after role x id tag m) (judge_after role y id tag n) (λ h. (tt, after_seen role x y id tag m n s)) b)))
