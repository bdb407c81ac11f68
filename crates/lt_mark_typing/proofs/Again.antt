-- Expressions with marks added are typed again.
use Rattle.std.proofs.Common.{◌≡◌, ℕ, ◌+◌, List, [], map, Bool, false, refl, sym, ap, ◌∙◌, subst}
use Rattle.std.proofs.lemmas.Bool.{false≢true}
use Rattle.lt_model.specs.declared.operator.Op.TheVariants as O
use Rattle.lt_tree.specs.Tree as c
use Rattle.lt_tree.specs.Nodes.{in_marks, in_mark}
use Rattle.lt_tree.specs.Typing.TypedTree as e
use Rattle.lt_tree.specs.Typing.TypedTree.{Marks, Mark, Bindings, before, after}
use Rattle.lt_tree.specs.Typing.Entities.{Known}
use Rattle.lt_tree.specs.Typing.Steps.{Goes, goes_on}
use Rattle.lt_tree.specs.Typing.Expressions.{Typed, Use, as_value, as_truth, as_place, as_callee, finish}
use Rattle.lt_tree.specs.Typing.Operations.{judge_step, judge_member, judge_arrow, judge_index, judge_call, judge_cast}
use Rattle.lt_tree.specs.Typing.BinaryOperations.{judge_binary, judge_logical, judge_conditional, judge_assignment, judge_comma}
use Rattle.lt_tree.specs.Typing.MarkRules.{inside_after, number_of_id, label_of, judge_decide, judge_after}
use Rattle.lt_tree.specs.Typing.NodeEnds.{judge_unary, also}
use Rattle.lt_tree.specs.Typing.Specifying.{elsewhere}
use Rattle.lt_tree.specs.Typing.ExpressionTyping.{expression, expressions, marks}
use Rattle.lt_mark_laws.specs.Added as a
use Rattle.lt_mark_laws.specs.Added.{AreNew, AddsMarks, Keeps, KeepsBound}
use Rattle.lt_mark_laws.proofs.Itself as unmarked
use Rattle.lt_object_laws.specs.Renamed.{marks_with, mark_with}
use Rattle.lt_mark_typing.specs.Renumbered.{typed_with}
use Rattle.lt_mark_typing.specs.Beside.{IsBeside, AddsMade, AddsEach, none_added, one_added, in_use, in_test, use_of, AddsAt, AddsWith, Position, Follows, goes}
use Rattle.lt_mark_typing.specs.Placed as p
use Rattle.lt_mark_typing.specs.Placed.{AreOld, AreNewLabels, position_of, behind_marks, any_type_name, joined, AddsTo, as_it_is, in_parts, in_front, around, AddsToParts, AddsToAll}
use Rattle.lt_mark_typing.proofs.Numbers.{agrees_before}
use Rattle.lt_mark_typing.proofs.Going.{bind, bind_at, so, so_at, goes_here, entered_beside}
use Rattle.lt_mark_typing.proofs.Operands.{made, made_in_use}
use Rattle.lt_mark_typing.proofs.Operators.{unary_adds, step_adds, member_adds, arrow_adds, index_adds, cast_judged, call_adds}
use Rattle.lt_mark_typing.proofs.BinaryOperators.{binary_adds, logical_adds, conditional_adds, assignment_adds, comma_adds}
use Rattle.lt_mark_typing.proofs.OneOperand.{decide_with, after_with}
use Rattle.lt_mark_typing.proofs.TwoOperands.{logical_with, comma_with}
use Rattle.lt_mark_typing.proofs.Knowing.{unary_known, index_known, binary_known, conditional_known, assignment_known, call_known, member_known, arrow_known, step_known, cast_known}
use Rattle.lt_mark_typing.proofs.Ends.{finished}
use Rattle.lt_mark_typing.proofs.Nodes.{old_first, old_second}
use Rattle.lt_mark_typing.proofs.Labels.{decide_too, decide_typed, after_too, after_typed}
use Rattle.lt_mark_typing.proofs.Steps.{label_beside, bind_same_at, bind_declares_at}
use Rattle.lt_mark_typing.proofs.Unchanged.{of_expression, of_specifiers, of_declarator, of_mark}
use Rattle.lt_mark_typing.proofs.NewMarks.{new_labels, numbered_alone}
use Rattle.lt_mark_typing.proofs.Placing.{MadeWith, made_at, placed_at, at_itself, use_same, use_behind, no_null_with, from_first, there_too, also_adds, end_at, marked_end, decide_adds, after_judged}
use Rattle.lt_mark_typing.proofs.Fronts.{front, after_labels, around_by}

module _ {new : ℕ → Bool} where
  -- ---- marks

  new_added : (ms : Marks) → AreNew new ms → AddsMarks new e.no_marks ms
  new_added e.no_marks h = a.no_marks
  new_added (e.a_mark (e.mark predicate id bound) rest) h = a.added h.0 (new_added rest h.1)

  -- old marks and new ones behind them
  pub joined_marks : {used between : List ℕ} {further : List Bool} (labels : c.Marks) (ms : c.Marks) {k l : Known} → AreOld new (in_marks ms) → IsBeside new used further k l
      → ((ts : Marks) (next : Known) → marks ms k ≡ Goes ts next → (next.is_unmarked ≡ false) × AreNewLabels new used between next labels)
      → Follows new between further (λ r (ts us : Marks). AddsMarks new (marks_with r ts) us) (marks ms k) (marks (joined ms labels) l)
  joined_marks {used} {between} {further} labels c.no_marks {k} {l} h b f =
      let those = f e.no_marks k refl in
      let found = new_labels labels those.0 those.1 b in
      subst (Follows new between further (λ r (ts us : Marks). AddsMarks new (marks_with r ts) us) (Goes e.no_marks k)) (sym found.4) (goes found.2 found.3 (λ r g. new_added found.0 found.5) found.6)
  joined_marks labels (c.a_mark first rest) {k} h b f =
      bind_at (of_mark first (old_first new (in_mark first) (in_marks rest) h) b) (λ m o next there behind q i s b.
      bind (joined_marks labels rest (old_second new (in_mark first) (in_marks rest) h) b (λ ts last t. f (e.a_mark m ts) last (ap (λ it. goes_on it (λ m k. goes_on (marks rest k) (λ ms k. Goes (e.a_mark m ms) k))) q ∙ ap (λ it. goes_on it (λ ms k. Goes (e.a_mark m ms) k)) t)))
      (λ ts us k j later i d b. goes_here (λ r g. subst (λ it. AddsMarks new (e.a_mark (mark_with r m) (marks_with r ts)) (e.a_mark it us)) (sym (s r (agrees_before i g))) (a.kept (unmarked.mark new (mark_with r m)) (d r g))) b))

  -- ---- expressions

  decide_end : {last : List ℕ} {further : List Bool} (k l : Known) (d e : c.Expression) (when_true when_false tag : List ℕ) (role : Use) → role ≡ as_truth → new (number_of_id when_true) ≡ false → new (number_of_id when_false) ≡ false
      → Follows new last further (AddsWith new in_test) (expression d as_truth (record k { next = k.next + 1 })) (expression e as_truth (record l { next = l.next + 1 }))
      → Follows new last further (λ r (x y : Typed). AddsMade new (typed_with r x) y) (expression (c.Decide d when_true when_false tag) role k) (expression (c.Decide e when_true when_false tag) role l)
  decide_end {last} {further} k l d e when_true when_false tag role q h g f =
      subst (λ role. Follows new last further (λ r (x y : Typed). AddsMade new (typed_with r x) y) (expression (c.Decide d when_true when_false tag) role k) (expression (c.Decide e when_true when_false tag) role l)) (sym q)
      (bind f (λ x y m n behind i p b. bind (finished k.next l.next as_truth (judge_decide as_truth x when_true when_false tag m) (judge_decide as_truth y when_true when_false tag n)
      (λ r t. from_first (decide_with r as_truth x when_true when_false tag m)
      (there_too (decide_too b as_truth y when_true when_false tag h g) (decide_typed b as_truth y when_true when_false tag) (decide_adds when_true when_false tag m (p r t)))) b)
      (λ x y m n behind i p b. goes_here p (label_beside (label_of when_false tag []) g (label_beside (label_of when_true tag []) h b)))))

  mutual
    pub of_to : {position : Position} {used' last : List ℕ} {k : Known} {it other : c.Expression} → AddsTo new position used' last k it other → {further : List Bool} {l : Known} → IsBeside new used' further k l
        → Follows new last further (AddsWith new position) (expression it (use_of position) k) (expression other (use_of position) l)
    of_to (as_it_is {position} {it = it} h) b = so (λ r x y q. subst (AddsAt new position (typed_with r x)) (sym q) (at_itself new position (typed_with r x))) (of_expression it (use_of position) h b)
    of_to (in_parts {position} n d) b = so_at (of_parts d b) (λ r x y next q m. placed_at new position (typed_with r x) y (no_null_with r position x (n x next q)) m)
    of_to (in_front {position} {labels = labels} {it} {other} u t f are d) b = front position labels it other t u f are (λ behind j b. of_to d b) b
    of_to (around {when_true = when_true} {when_false} {tag} {other = other} f i j t d) {l = l} b = around_by l other when_true when_false tag f i j t (of_to d (numbered_alone (l.next + 1) l.facts b))

    of_parts : {position : Position} {used' last : List ℕ} {k : Known} {it other : c.Expression} → AddsToParts new position used' last k it other → {further : List Bool} {l : Known} → IsBeside new used' further k l
        → Follows new last further (MadeWith new position) (expression it (use_of position) k) (expression other (use_of position) l)
    of_parts (p.Index {position} {known = k} d f) {l = l} b = bind_at (of_to d (entered_beside b)) (λ x y m n first q i o b. bind (of_to (f x m q) b)
        (λ v w m n last i s b. end_at position k.next l.next (judge_index x v m) (judge_index y w n) (λ r g. from_first (index_known b r g x v) (index_adds n (o r (agrees_before i g)) (s r g))) b))
    of_parts (p.Call {position} {known = k} d f) {l = l} b = bind_at (of_to d (entered_beside b)) (λ x y m n first q i o b. bind (of_all (f x m q) b)
        (λ xs ys m n last i s b. end_at position k.next l.next (judge_call x xs m) (judge_call y ys n) (λ r g. from_first (call_known b r g x xs) (call_adds n (o r (agrees_before i g)) (s r g))) b))
    of_parts (p.Member {position} {known = k} {name} d) {l = l} b = bind (of_to d (entered_beside b))
        (λ x y m n last i o b. end_at position k.next l.next (judge_member x name m) (judge_member y name n) (λ r g. from_first (member_known b r g x name) (member_adds name n (o r g))) b)
    of_parts (p.Arrow {position} {known = k} {name} d) {l = l} b = bind (of_to d (entered_beside b))
        (λ x y m n last i o b. end_at position k.next l.next (judge_arrow x name m) (judge_arrow y name n) (λ r g. from_first (arrow_known b r g x name) (arrow_adds name n (o r g))) b)
    of_parts (p.PostInc {position} {known = k} d) {l = l} b = bind (of_to d (entered_beside b))
        (λ x y m n last i o b. end_at position k.next l.next (judge_step before O.Add x m) (judge_step before O.Add y n) (λ r g. from_first (step_known b r g before O.Add x) (step_adds before O.Add n (o r g))) b)
    of_parts (p.PostDec {position} {known = k} d) {l = l} b = bind (of_to d (entered_beside b))
        (λ x y m n last i o b. end_at position k.next l.next (judge_step before O.Sub x m) (judge_step before O.Sub y n) (λ r g. from_first (step_known b r g before O.Sub x) (step_adds before O.Sub n (o r g))) b)
    of_parts (p.PreInc {position} {known = k} d) {l = l} b = bind (of_to d (entered_beside b))
        (λ x y m n last i o b. end_at position k.next l.next (judge_step after O.Add x m) (judge_step after O.Add y n) (λ r g. from_first (step_known b r g after O.Add x) (step_adds after O.Add n (o r g))) b)
    of_parts (p.PreDec {position} {known = k} d) {l = l} b = bind (of_to d (entered_beside b))
        (λ x y m n last i o b. end_at position k.next l.next (judge_step after O.Sub x m) (judge_step after O.Sub y n) (λ r g. from_first (step_known b r g after O.Sub x) (step_adds after O.Sub n (o r g))) b)
    of_parts (p.Unary {position} {after = last} {known = k} {op} {d} {e} f) {further} {l} b =
        bind (subst (λ role. Follows new last further (AddsWith new (position_of op)) (expression d role (record k { next = k.next + 1 })) (expression e role (record l { next = l.next + 1 }))) (use_same op) (of_to f (entered_beside b)))
        (λ x y m n last i o b. end_at position k.next l.next (judge_unary op x m) (judge_unary op y n) (λ r g. from_first (unary_known b r g op x) (unary_adds (typed_with r x) y op n (o r g))) b)
    of_parts (p.Cast {position} {known = k} {s} {t} {d} {e} g h f) {l = l} b =
        bind_same_at (of_specifiers s elsewhere g (entered_beside b)) (λ it m n first q i b.
        bind_declares_at (λ type n. goes_on (expression e as_value n) (λ x n. finish l.next (use_of position) (also type.faults (judge_cast type.type x n)) n)) (of_declarator t it false any_type_name (λ name further m n r g b it. refl) h b)
        (λ type node parameters m' n second w j u b. bind (of_to (f it m type m' q w) b) (λ x y m n last i o b. end_at position k.next l.next (also type.faults (judge_cast type.type x m)) (also type.faults (judge_cast type.type y n))
        (λ r g. also_adds type.faults (from_first (cast_known b r g type.type x) (cast_judged type.type n (o r g)))) b)))
    of_parts (p.Binary {position} {known = k} {op} d f) {l = l} b = bind_at (of_to d (entered_beside b)) (λ x y m n first q i o b. bind (of_to (f x m q) b)
        (λ v w m n last i s b. end_at position k.next l.next (judge_binary op x v m) (judge_binary op y w n) (λ r g. from_first (binary_known b r g op x v) (binary_adds (o r (agrees_before i g)) (s r g) op n)) b))
    of_parts (p.Logical {position} {known = k} {op} d f) {l = l} b = bind_at (of_to d (entered_beside b)) (λ x y m n first q i o b. bind (of_to (f x m q) b)
        (λ v w m n last i s b. end_at position k.next l.next (judge_logical op x v) (judge_logical op y w) (λ r g. from_first (logical_with r op x v) (logical_adds op (o r (agrees_before i g)) (s r g))) b))
    of_parts (p.Conditional {position} {known = k} d f h) {l = l} b = bind_at (of_to d (entered_beside b)) (λ t u m n first q i o b. bind_at (of_to (f t m q) b) (λ x y m' n second q' i' s b. bind (of_to (h t x m m' q q') b)
        (λ v w m n last j z b. end_at position k.next l.next (judge_conditional t x v m) (judge_conditional u y w n)
        (λ r g. from_first (conditional_known b r g t x v) (conditional_adds (o r (agrees_before i' (agrees_before j g))) (s r (agrees_before j g)) (z r g) n)) b)))
    of_parts (p.Assign {position} {known = k} {op} d f) {l = l} b = bind_at (of_to d (entered_beside b)) (λ x y m n first q i o b. bind (of_to (f x m q) b)
        (λ v w m n last i s b. end_at position k.next l.next (judge_assignment op x v m) (judge_assignment op y w n) (λ r g. from_first (assignment_known b r g op x v) (assignment_adds (o r (agrees_before i g)) (s r g) op n)) b))
    of_parts (p.Comma {position} {known = k} ds) {l = l} b = bind (of_all ds (entered_beside b))
        (λ xs ys m n last i o b. end_at position k.next l.next (judge_comma xs) (judge_comma ys) (λ r g. from_first (comma_with r xs) (comma_adds (o r g))) b)
    of_parts (p.Marked {position} {between} {after = last} {known = k} {ms} {d} {e} labels h i f) {l = l} b =
        bind_at (joined_marks labels ms h (entered_beside b) i) (λ ts us m n behind q i o b.
        bind (subst (λ role. Follows new last behind (AddsWith new (behind_marks position)) (expression d role m) (expression e role n)) (use_behind position) (of_to (f ts m q) b))
        (λ x y m n last i s b. marked_end x y ts us position k.next l.next s (λ r g. o r (agrees_before i g)) b))
    of_parts (p.Decide {position} {known = k} {when_true} {when_false} {tag} {d = v} {e = w} h g i d) {l = l} b =
        so (λ r x y. made_at position) (decide_end k l v w when_true when_false tag (use_of position) h g i (of_to d (entered_beside b)))
    of_parts (p.After {position} {known = k} {id} {tag} h d) {l = l} b = bind (of_to d (entered_beside b)) (λ x y m n first i o b.
        bind (end_at position k.next l.next (judge_after (use_of position) x id tag m) (judge_after (use_of position) y id tag n)
        (λ r g. from_first (after_with r (use_of position) x id tag m)
        (there_too (after_too b (use_of position) y id tag h) (after_typed b (use_of position) y id tag) (after_judged (use_of position) id tag m (made_in_use (inside_after (use_of position)) (o r g))))) b)
        (λ x y m n last i o b. goes_here o (label_beside (label_of id tag []) h b)))
    of_parts (p.AfterLabels {position = in_use as_value} {known = k} {id} {tag} {labels} {d = v} {e = w} h t u f are d) {l = l} b =
        after_labels (in_use as_value) as_value k id tag labels v w h u f are (λ it. refl) (λ behind j b. so (λ r x y o. made o) (of_to d b)) l b
    of_parts (p.AfterLabels {position = in_use as_truth} {known = k} {id} {tag} {labels} {d = v} {e = w} h t u f are d) {l = l} b =
        after_labels (in_use as_truth) as_truth k id tag labels v w h u f are (λ it. refl) (λ behind j b. of_to d b) l b
    of_parts (p.AfterLabels {position = in_test} {known = k} {id} {tag} {labels} {d = v} {e = w} h t u f are d) {l = l} b =
        after_labels in_test as_truth k id tag labels v w h u f are (λ it. refl) (λ behind j b. of_to d b) l b
    of_parts (p.AfterLabels {position = in_use as_place} h t u f are d) b = absurd (false≢true t)
    of_parts (p.AfterLabels {position = in_use as_callee} h t u f are d) b = absurd (false≢true t)

    of_all : {used' last : List ℕ} {k : Known} {them others : c.Expressions} → AddsToAll new used' last k them others → {further : List Bool} {l : Known} → IsBeside new used' further k l
        → Follows new last further (λ r xs ys. AddsEach new (map (typed_with r) xs) ys) (expressions them k) (expressions others l)
    of_all p.no_expressions b = goes_here (λ r g. none_added) b
    of_all (p.an_expression d f) b = bind_at (of_to d b) (λ x y m n first q i o b. bind (of_all (f x m q) b) (λ xs ys m n last i s b. goes_here (λ r g. one_added (o r (agrees_before i g)) (s r g)) b))
