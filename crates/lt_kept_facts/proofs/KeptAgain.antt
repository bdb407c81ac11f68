-- Expressions with marks added note the same of their nodes.
use Rattle.std.proofs.Common.{◌≡◌, refl, sym, ap, ◌∙◌, subst, inl, inr, ℕ, ◌+◌, Bool, true, false, List}
use Rattle.std.proofs.lemmas.Bool.{false≢true}
use Rattle.std.specs.Prelude.{◌&&◌, ◌||◌}
use Rattle.lt_tree.specs.declared.expression.UnaryOp.{UnaryOp}
use Rattle.lt_tree.specs.declared.expression.UnaryOp.TheVariants as unary
use Rattle.lt_tree.specs.Tree as c
use Rattle.lt_tree.specs.Nodes.{in_expressions, in_mark}
use Rattle.lt_tree.specs.Typing.Constants.{is_form, is_null_constant}
use Rattle.lt_tree.specs.Typing.TypedTree.{Value}
use Rattle.lt_tree.specs.Typing.Entities.{Known, Fact}
use Rattle.lt_tree.specs.Typing.Expressions.{a_value, Typed, Use, as_value, as_truth, as_place, as_callee}
use Rattle.lt_tree.specs.Typing.MarkRules.{inside_mark, inside_after}
use Rattle.lt_tree.specs.Typing.NodeEnds.{operand_of}
use Rattle.lt_tree.specs.Typing.Specifying.{elsewhere}
use Rattle.lt_tree.specs.Typing.ExpressionTyping.{expressions, expression, mark}
use Rattle.lt_tree_laws.specs.Typing.NodeNumbers.{GoesOver}
use Rattle.lt_typed_nodes.specs.Laws.{NotesItsNodes}
use Rattle.lt_object_laws.specs.Renamed.{constancy_with}
use Rattle.lt_mark_typing.specs.Beside.{IsBeside, IsAtMost, AddsTyped, Follows, Position, in_use, in_test, use_of, AddsWith}
use Rattle.lt_mark_typing.specs.Placed as p
use Rattle.lt_mark_typing.specs.Placed.{IsMarkable, takes_labels, entered, position_of, behind_marks, any_type_name, AddsTo, as_it_is, in_parts, in_front, around, AddsToParts, AddsToAll}
use Rattle.lt_mark_typing.proofs.Renumbering.{form_of_with, null_constant_with}
use Rattle.lt_mark_typing.proofs.Going.{entered_beside}
use Rattle.lt_mark_typing.proofs.NewMarks.{numbered_alone}
use Rattle.lt_kept_facts.proofs.SeenAlike.{SeenIn}
use Rattle.lt_kept_facts.proofs.SeenBinaryOperators.{SeenEach, none_seen, one_seen}
use Rattle.lt_kept_facts.proofs.KeptSteps.{Piece, done, joined, after, so}
use Rattle.lt_kept_facts.proofs.KeptOperators as o
use Rattle.lt_kept_facts.proofs.KeptOperators.{Seen, Operand, Whole}
use Rattle.lt_kept_facts.proofs.KeptLeaves.{also}
use Rattle.lt_kept_facts.proofs.KeptMarks.{TakesLabels, IsValue, joined_marks, front_kept, around_kept}
use Rattle.lt_kept_facts.proofs.KeptOld.{cast_kept, of_whole, of_specs, of_decl}

-- ---- positions

use_same : (op : UnaryOp) → use_of (position_of op) ≡ operand_of op
use_same unary.AddressOf = refl
use_same unary.Dereference = refl
use_same unary.Plus = refl
use_same unary.Minus = refl
use_same unary.Complement = refl
use_same unary.Not = refl

use_behind : (position : Position) → use_of (behind_marks position) ≡ inside_mark (use_of position)
use_behind in_test = refl
use_behind (in_use role) = refl

takes : (position : Position) → takes_labels position ≡ true → TakesLabels (use_of position)
takes in_test t = tt
takes (in_use as_value) t = tt
takes (in_use as_truth) t = tt
takes (in_use as_place) t = absurd (false≢true t)
takes (in_use as_callee) t = absurd (false≢true t)

after_same : (role : Use) → TakesLabels role → role ≡ inside_after role
after_same as_value t = refl
after_same as_truth t = refl
after_same as_place t = absurd t
after_same as_callee t = absurd t

value_of : (role : Use) (x : Typed) → (v : Value) × (x.form ≡ a_value v) → IsValue role x
value_of as_value x v = v
value_of as_truth x v = tt
value_of as_place x v = tt
value_of as_callee x v = tt

markable_value : (position : Position) (x : Typed) → IsMarkable position x → IsValue (use_of position) x
markable_value in_test x m = tt
markable_value (in_use role) x m = value_of role x (m.0, m.1)

-- ---- what else is known of both

null_same : {new : ℕ → Bool} {x y : Typed} → AddsTyped new x y → is_null_constant y.constancy ≡ is_null_constant x.constancy
null_same {new} {x} {y} p = by (is_null_constant x.constancy) refl p.constancy
  where
    by : (b : Bool) → is_null_constant x.constancy ≡ b → IsAtMost x.constancy y.constancy → is_null_constant y.constancy ≡ b
    by true h c = ap is_null_constant (p.null (ap (λ b. b || (x.is_after && is_null_constant x.erased)) h)).0 ∙ h
    by false h (inl c) = ap is_null_constant c ∙ h
    by false h (inr c) = ap is_null_constant c

-- what is no integer constant is none with marks either
no_form : (r : ℕ → ℕ) (x y : Typed) → IsAtMost (constancy_with r x.constancy) y.constancy → is_form x.constancy ≡ false → is_form y.constancy ≡ false
no_form r x y (inl c) none = ap is_form c ∙ form_of_with r x.constancy ∙ none
no_form r x y (inr c) none = ap is_form c

seen_at : (new : ℕ → Bool) (position : Position) (r : ℕ → ℕ) (x y : Typed) → AddsWith new position r x y → SeenIn (use_of position) x y → Seen (use_of position) x y
seen_at new (in_use as_value) r x y t s = record { seen = s; constancy = no_form r x y t.constancy; null = null_same t ∙ null_constant_with r x.constancy }
seen_at new (in_use as_truth) r x y t s = record { seen = s; constancy = no_form r x y t.constancy; null = tt }
seen_at new (in_use as_place) r x y t s = record { seen = s; constancy = no_form r x y t.constancy; null = null_same t ∙ null_constant_with r x.constancy }
seen_at new (in_use as_callee) r x y t s = record { seen = s; constancy = no_form r x y t.constancy; null = null_same t ∙ null_constant_with r x.constancy }
seen_at new in_test r x y t s = record { seen = s; constancy = no_form r x y t.constancy; null = tt }

module _ {F G : List Fact} {new : ℕ → Bool} (numbered : (it : c.Mark) (known : Known) → GoesOver (in_mark it) known (mark it known)) (noting : (it : c.Mark) (known : Known) → NotesItsNodes known (mark it known))
    (again : (position : Position) (used after : List ℕ) (further : List Bool) (known other : Known) (it marked : c.Expression) → AddsTo new position used after known it marked → IsBeside new used further known other
    → Follows new after further (AddsWith new position) (expression it (use_of position) known) (expression marked (use_of position) other)) where
  with_law : {position : Position} {ids last : List ℕ} {further : List Bool} {k : Known} {it other : c.Expression} → AddsTo new position ids last k it other → (l : Known) → IsBeside new ids further k l → Whole F G new last further (use_of position) k it l other
      → Operand F G new last further (use_of position) k it l other
  with_law {position} {ids} {last} {further} {k} {it} {other} d l b w = so (λ x y r. seen_at new position r.1 x y r.2 r.0) (also (again position ids last further k l it other d b) w)

  mutual
    pub whole_to : {position : Position} {ids last : List ℕ} {further : List Bool} {k : Known} {it other : c.Expression} → AddsTo new position ids last k it other → (l : Known) → IsBeside new ids further k l → Whole F G new last further (use_of position) k it l other
    whole_to (as_it_is {position} {known = k} {it = it} h) l b = of_whole numbered noting it (use_of position) k l h b
    whole_to (in_parts n d) l b = whole_parts d l b
    whole_to (in_front {position} {known = k} {labels} {it} {other} u t f are d) l b =
        front_kept numbered noting (use_of position) labels it other k l (takes position t) u (λ x next q. markable_value position x (f x next q).1) are (λ j flags b. whole_to d j b) b
    whole_to (around {known = k} {when_true} {when_false} {tag} {it = it} {other = other} f i j t d) l b =
        around_kept numbered noting it other when_true when_false tag k l i j (whole_to d (entered l) (numbered_alone (l.next + 1) l.facts b))

    whole_parts : {position : Position} {ids last : List ℕ} {further : List Bool} {k : Known} {it other : c.Expression} → AddsToParts new position ids last k it other → (l : Known) → IsBeside new ids further k l → Whole F G new last further (use_of position) k it l other
    whole_parts (p.Index {position} {known = k} d f) l b = o.index_kept (use_of position) k l (with_law d (entered l) (entered_beside b) (whole_to d (entered l) (entered_beside b))) (λ x m n q flags b. with_law (f x m q) n b (whole_to (f x m q) n b))
    whole_parts (p.Call {position} {known = k} d f) l b = o.call_kept (use_of position) k l (with_law d (entered l) (entered_beside b) (whole_to d (entered l) (entered_beside b))) (λ x m n q flags b. whole_all (f x m q) n b)
    whole_parts (p.Member {position} {known = k} {name} d) l b = o.member_kept (use_of position) k l name (with_law d (entered l) (entered_beside b) (whole_to d (entered l) (entered_beside b)))
    whole_parts (p.Arrow {position} {known = k} {name} d) l b = o.arrow_kept (use_of position) k l name (with_law d (entered l) (entered_beside b) (whole_to d (entered l) (entered_beside b)))
    whole_parts (p.PostInc {position} {known = k} d) l b = o.post_inc_kept (use_of position) k l (with_law d (entered l) (entered_beside b) (whole_to d (entered l) (entered_beside b)))
    whole_parts (p.PostDec {position} {known = k} d) l b = o.post_dec_kept (use_of position) k l (with_law d (entered l) (entered_beside b) (whole_to d (entered l) (entered_beside b)))
    whole_parts (p.PreInc {position} {known = k} d) l b = o.pre_inc_kept (use_of position) k l (with_law d (entered l) (entered_beside b) (whole_to d (entered l) (entered_beside b)))
    whole_parts (p.PreDec {position} {known = k} d) l b = o.pre_dec_kept (use_of position) k l (with_law d (entered l) (entered_beside b) (whole_to d (entered l) (entered_beside b)))
    whole_parts {further = further} (p.Unary {position} {after = last} {known = k} {op} {d} {e} f) l b = o.unary_kept (use_of position) k l op
        (subst (λ role. Operand F G new last further role (entered k) d (entered l) e) (use_same op) (with_law f (entered l) (entered_beside b) (whole_to f (entered l) (entered_beside b))))
    whole_parts (p.Cast {position} {known = k} {s} {t} {d} {e} g h f) l b = cast_kept (use_of position) k l (of_specs numbered noting s elsewhere (entered k) (entered l) g (entered_beside b))
        (λ it m n q flags b. of_decl numbered noting t it false any_type_name (λ name further k j r a b it. refl) m n h b) (λ it type m j n q q' flags b. with_law (f it m type j q q') n b (whole_to (f it m type j q q') n b))
    whole_parts (p.Binary {position} {known = k} {op} d f) l b = o.binary_kept (use_of position) k l op (with_law d (entered l) (entered_beside b) (whole_to d (entered l) (entered_beside b))) (λ x m n q flags b. with_law (f x m q) n b (whole_to (f x m q) n b))
    whole_parts (p.Logical {position} {known = k} {op} d f) l b = o.logical_kept (use_of position) k l op (with_law d (entered l) (entered_beside b) (whole_to d (entered l) (entered_beside b))) (λ x m n q flags b. with_law (f x m q) n b (whole_to (f x m q) n b))
    whole_parts (p.Conditional {position} {known = k} d f g) l b = o.conditional_kept (use_of position) k l (with_law d (entered l) (entered_beside b) (whole_to d (entered l) (entered_beside b)))
        (λ x m n q flags b. with_law (f x m q) n b (whole_to (f x m q) n b)) (λ x y m j n q q' flags b. with_law (g x y m j q q') n b (whole_to (g x y m j q q') n b))
    whole_parts (p.Assign {position} {known = k} {op} d f) l b = o.assign_kept (use_of position) k l op (with_law d (entered l) (entered_beside b) (whole_to d (entered l) (entered_beside b))) (λ x m n q flags b. with_law (f x m q) n b (whole_to (f x m q) n b))
    whole_parts (p.Comma {position} {known = k} ds) l b = o.comma_kept (use_of position) k l (whole_all ds (entered l) (entered_beside b))
    whole_parts (p.Marked {position} {between} {after = last} {known = k} {ms} {d} {e} labels h i f) l b = o.marked_kept (use_of position) k l (joined_marks numbered noting labels ms (entered k) (entered l) h (entered_beside b) i)
        (λ ts m n q flags b. subst (λ role. Whole F G new last flags role m d n e) (use_behind position) (whole_to (f ts m q) n b))
    whole_parts {further = further} (p.Decide {position} {after = last} {known = k} {when_true} {when_false} {tag} {d = v} {e = w} h g i d) l b =
        subst (λ role. Whole F G new last further role k (c.Decide v when_true when_false tag) l (c.Decide w when_true when_false tag)) (sym h) (o.decide_kept as_truth k l when_true when_false tag g i (whole_to d (entered l) (entered_beside b)))
    whole_parts (p.After {position} {known = k} {id} {tag} h d) l b = o.after_kept (use_of position) k l id tag h (whole_to d (entered l) (entered_beside b))
    whole_parts {further = further} (p.AfterLabels {position} {after = last} {known = k} {id} {tag} {labels} {d = v} {e = w} h t u f are d) l b = o.after_kept (use_of position) k l id tag h
        (subst (λ role. Whole F G new last further role (entered k) v (entered l) (c.Marked labels w)) (after_same (use_of position) (takes position t))
        (front_kept numbered noting (use_of position) labels v w (entered k) (entered l) (takes position t) u (λ x next q. value_of (use_of position) x (f x next q).0) are (λ j flags b. whole_to d j b) (entered_beside b)))

    whole_all : {ids last : List ℕ} {further : List Bool} {k : Known} {them others : c.Expressions} → AddsToAll new ids last k them others → (l : Known) → IsBeside new ids further k l → Piece F G new last further SeenEach k (in_expressions them) l (in_expressions others) (expressions them k) (expressions others l)
    whole_all p.no_expressions l b = done none_seen b
    whole_all (p.an_expression d f) l b = joined (whole_to d l b) (λ x y m n q q' s flags b. after (whole_all (f x m q) n b) (λ xs ys m n i i' r flags b. done (one_seen s.alike r) b))
