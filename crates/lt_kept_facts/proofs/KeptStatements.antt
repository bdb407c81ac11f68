-- Statements with marks added note the same of their nodes.
use Rattle.std.proofs.Common.{◌≡◌, refl, sym, ap, ◌∙◌, subst, ℕ, ◌+◌, Bool, false, List, [], ◌++◌, Option}
use Rattle.std.specs.Prelude.{◌||◌, option_map}
use Rattle.std.specs.List.{flat_map}
use Rattle.lt_model.specs.declared.scalar.Scalar.{Scalar}
use Rattle.lt_model.specs.Conversions.{promoted}
use Rattle.lt_tree.specs.Tree as c
use Rattle.lt_tree.specs.Nodes.{Node, a_declared_item, a_stated_item, a_marked_item, a_statement, in_expression, in_mark, in_optional, in_start, in_label, in_statement, in_items, in_cases}
use Rattle.lt_tree.specs.Typing.Types.{scalar_of, is_integer}
use Rattle.lt_tree.specs.Typing.Rules.{unless, bad_case, stray_jump}
use Rattle.lt_tree.specs.Typing.TypedTree as e
use Rattle.lt_tree.specs.Typing.TypedTree.{Statement, Items, Cases}
use Rattle.lt_tree.specs.Typing.Entities.{Known, Fact}
use Rattle.lt_tree.specs.Typing.Steps.{Outcome, Goes, goes_on}
use Rattle.lt_tree.specs.Typing.Expressions.{as_truth, own_type}
use Rattle.lt_tree.specs.Typing.MarkRules.{number_of_id}
use Rattle.lt_tree.specs.Typing.ExpressionTyping.{mark}
use Rattle.lt_tree.specs.Typing.StatementTyping.{Around, in_a_switch, test_faults, optional_test_faults, switch_type, Seen, return_faults, statement, items, cases}
use Rattle.lt_tree_laws.specs.Typing.NodeNumbers.{GoesOver}
use Rattle.lt_typed_nodes.specs.Laws.{NotesItsNodes}
use Rattle.lt_mark_typing.specs.Further.{Extends}
use Rattle.lt_mark_typing.specs.Beside.{IsBeside, in_use}
use Rattle.lt_mark_typing.specs.Placed.{entered}
use Rattle.lt_mark_typing.specs.PlacedItems as p
use Rattle.lt_mark_typing.specs.PlacedItems.{in_new_block, AddsToStatement, AddsToItems, AddsToCases}
use Rattle.lt_mark_typing.specs.Laws.{ExpressionsAreTypedAgain}
use Rattle.lt_mark_typing.proofs.Going.{entered_beside}
use Rattle.lt_mark_typing.proofs.Operands.{type_same}
use Rattle.lt_mark_typing.proofs.Renumbering.{own_type_with}
use Rattle.lt_mark_typing.proofs.NewMarks.{new_mark, numbered_alone}
use Rattle.lt_mark_typing.proofs.StatementParts.{block_beside}
use Rattle.lt_kept_facts.proofs.SeenNodes.{mark_unseen}
use Rattle.lt_kept_facts.proofs.KeptPieces.{DeclarationsKeep, ItemsKeep}
use Rattle.lt_kept_facts.proofs.KeptSteps.{node_part, Keeps, went, first_broke, second_broke, Piece, done, joined, after, grouped, since, unnoted, hidden}
use Rattle.lt_kept_facts.proofs.KeptNodes.{front}
use Rattle.lt_kept_facts.proofs.KeptOperators.{same_model}
use Rattle.lt_kept_facts.proofs.KeptLeaves.{also, joined_same}
use Rattle.lt_kept_facts.proofs.KeptMarks.{mark_part, old_mark}
use Rattle.lt_kept_facts.proofs.KeptHeads.{in_blocks, settled, of_labels, of_expression_with, of_test, of_optional_with, of_start}

module _ {F G : List Fact} {new : ℕ → Bool} where
  -- something is made of what comes in the second text alone
  made_alone : {A B D : Type 0} {ids : List ℕ} {further : List Bool} {k j : ℕ} {facts others : List Fact} {xs ys : List Node} {o : Outcome A} {r : Outcome B} (g : B → D)
      → Keeps F G new ids further (λ (x : A) (y : B). Unit {0}) k facts xs j others ys o r → Keeps F G new ids further (λ (x : A) (y : D). Unit {0}) k facts xs j others ys o (goes_on r (λ y n. Goes (g y) n))
  made_alone g (went e s b v w h) = went e tt b v w h
  made_alone g first_broke = first_broke
  made_alone g second_broke = second_broke

module _ {F G : List Fact} {new : ℕ → Bool} (numbered : (it : c.Mark) (known : Known) → GoesOver (in_mark it) known (mark it known)) (noting : (it : c.Mark) (known : Known) → NotesItsNodes known (mark it known))
    (again : ExpressionsAreTypedAgain) (declared : DeclarationsKeep F G new) where
  -- a label as an item of the second text alone
  labelled_alone : {last : List ℕ} {further behind : List Bool} (around : Around) (k : Known) (is js : c.Items) (m : c.Mark) (l later : Known) (t : e.Mark) → Extends further behind → mark m (entered l) ≡ Goes t later
      → Piece F G new last behind (λ (x y : Items). Unit {0}) k (in_items is) later (in_items js) (items is around k) (items js around later)
      → Piece F G new last further (λ (x y : Items). Unit {0}) k (in_items is) l (in_items (c.a_label m js)) (items is around k) (items (c.a_label m js) around l)
  labelled_alone {last} {further} around k is js m l later t g q d =
      subst (λ o. Piece F G new last further (λ (x y : Items). Unit {0}) k (in_items is) l (in_items (c.a_label m js)) (items is around k) (goes_on o (λ typed n. goes_on (items js around n) (λ others n. Goes (e.a_label typed others) n)))) (sym q)
      (since g (front (node_part (a_marked_item m) refl (mark_part numbered noting m (entered l) later t q)) (mark_unseen G (l.next + 1) m) (made_alone (λ others. e.a_label t others) d)))

  mutual
    pub of_statement : {ids last : List ℕ} {further : List Bool} {around : Around} {k : Known} {it other : c.Statement} → AddsToStatement new ids last around k it other → (l : Known) → IsBeside new ids further k l
        → Piece F G new last further (λ (x y : Statement). Unit {0}) k (in_statement it) l (in_statement other) (statement it around k) (statement other around l)
    of_statement (p.Compound {known = k} {is} {js} d) l b = unnoted (a_statement (c.Compound is)) (a_statement (c.Compound js)) refl refl (λ whole n zs. refl) (λ whole n zs. refl)
        (after (in_blocks (entered_beside b) (of_items d (in_new_block (entered l)) (block_beside (entered_beside b)))) (λ x y m n q q' r flags b. done tt b))
    of_statement (p.Evaluates {known = k} {it} {other} d) l b = unnoted (a_statement (c.Evaluates it)) (a_statement (c.Evaluates other)) refl refl (λ whole n zs. refl) (λ whole n zs. refl)
        (after (of_expression_with numbered noting again d (entered l) (entered_beside b)) (λ x y m n q q' r flags b. done tt b))
    of_statement p.Null l b = unnoted (a_statement c.Null) (a_statement c.Null) refl refl (λ whole n zs. refl) (λ whole n zs. refl) (done tt (entered_beside b))
    of_statement (p.If {known = k} {test} {other} {x} {y} d f) l b = unnoted (a_statement (c.If test x)) (a_statement (c.If other y)) refl refl (λ whole n zs. refl) (λ whole n zs. refl)
        (in_blocks (entered_beside b) (joined (of_expression_with numbered noting again d (in_new_block (entered l)) (block_beside (entered_beside b))) (λ t u m n q q' s flags b.
        after (in_blocks b (of_statement (f t m q) (in_new_block n) (block_beside b))) (λ v w m n i i' r flags b. settled _ _ k.next l.next (test_faults t) (test_faults u) (done tt b)))))
    of_statement (p.IfElse {known = k} {test} {other} {x} {y} {v} {w} d f g) l b = unnoted (a_statement (c.IfElse test x v)) (a_statement (c.IfElse other y w)) refl refl (λ whole n zs. refl) (λ whole n zs. refl)
        (grouped (in_expression test) (in_statement x) (in_statement v) (in_expression other) (in_statement y) (in_statement w)
        (in_blocks (entered_beside b) (joined (of_expression_with numbered noting again d (in_new_block (entered l)) (block_beside (entered_beside b))) (λ t u m n q q' s flags b.
        joined (in_blocks b (of_statement (f t m q) (in_new_block n) (block_beside b))) (λ v w m' n i i' r flags b.
        after (in_blocks b (of_statement (g t m v m' q i) (in_new_block n) (block_beside b))) (λ v w m n i i' r flags b. settled _ _ k.next l.next (test_faults t) (test_faults u) (done tt b)))))))
    of_statement (p.While {known = k} {test} {other} {x} {y} d f) l b = unnoted (a_statement (c.While test x)) (a_statement (c.While other y)) refl refl (λ whole n zs. refl) (λ whole n zs. refl)
        (in_blocks (entered_beside b) (joined (of_expression_with numbered noting again d (in_new_block (entered l)) (block_beside (entered_beside b))) (λ t u m n q q' s flags b.
        after (in_blocks b (of_statement (f t m q) (in_new_block n) (block_beside b))) (λ v w m n i i' r flags b. settled _ _ k.next l.next (test_faults t) (test_faults u) (done tt b)))))
    of_statement (p.Do {known = k} {test} {other} {x} {y} d f) l b =
        let there = block_beside (entered_beside b) in
        unnoted (a_statement (c.Do x test)) (a_statement (c.Do y other)) refl refl (λ whole n zs. refl) (λ whole n zs. refl)
        (in_blocks (entered_beside b) (joined (in_blocks there (of_statement d (in_new_block (in_new_block (entered l))) (block_beside there))) (λ v w m n q q' r flags b.
        after (of_expression_with numbered noting again (f v m q) n b) (λ t u m n i i' s flags b. settled _ _ k.next l.next (test_faults t) (test_faults u) (done tt b)))))
    of_statement (p.For {known = k} {start} {begin} {test} {other} {step} {further} {x} {y} d f g h) l b =
        unnoted (a_statement (c.For start test step x)) (a_statement (c.For begin other further y)) refl refl (λ whole n zs. refl) (λ whole n zs. refl)
        (grouped (in_start start ++ in_optional test) (in_optional step) (in_statement x) (in_start begin ++ in_optional other) (in_optional further) (in_statement y)
        (grouped (in_start start) (in_optional test) (in_optional step ++ in_statement x) (in_start begin) (in_optional other) (in_optional further ++ in_statement y)
        (in_blocks (entered_beside b) (joined (of_start numbered noting again declared d (in_new_block (entered l)) (block_beside (entered_beside b))) (λ i i' m n q q' r flags b.
        joined (of_test numbered noting again (f i m q) n b) (λ t u m1 n q1 q1' r flags b. joined (of_optional_with numbered noting again (g i t m m1 q q1) n b) (λ v w m2 n q2 q2' r flags b.
        after (in_blocks b (of_statement (h i t v m m1 m2 q q1 q2) (in_new_block n) (block_beside b)))
        (λ v w m n z z' r flags b. settled _ _ k.next l.next (i.faults ++ optional_test_faults t) (i'.faults ++ optional_test_faults u) (done tt b)))))))))
    of_statement (p.Switch {after = last} {around} {known = k} {it} {other} {cs} {ds} d f) l b =
        let there = block_beside (entered_beside b) in
        unnoted (a_statement (c.Switch it cs)) (a_statement (c.Switch other ds)) refl refl (λ whole n zs. refl) (λ whole n zs. refl)
        (in_blocks (entered_beside b) (joined (also (again new (in_use as_truth) _ _ _ (in_new_block (entered k)) (in_new_block (entered l)) it other d there) (of_expression_with numbered noting again d (in_new_block (entered l)) there)) (λ x y m n q q' s flags b.
        after (subst (λ type. Piece F G new last flags (λ (x y : Cases). Unit {0}) m (in_cases cs) n (in_cases ds) (cases cs (switch_type m.model x) (record { values = []; has_default = false }) (in_a_switch around) m)
        (cases ds type (record { values = []; has_default = false }) (in_a_switch around) n))
        (sym (ap (λ model. switch_type model y) (same_model b) ∙ ap (λ type. option_map (promoted m.model) (scalar_of type)) (type_same s.2 ∙ own_type_with s.1 x))) (of_cases (f x m q) n b))
        (λ v w m n i i' r flags b. settled _ _ k.next l.next (test_faults x ++ unless (is_integer (own_type x)) bad_case) (test_faults y ++ unless (is_integer (own_type y)) bad_case) (done tt b)))))
    of_statement (p.Break {around = around} {known = k}) l b = unnoted (a_statement c.Break) (a_statement c.Break) refl refl (λ whole n zs. refl) (λ whole n zs. refl)
        (settled _ _ k.next l.next (unless (around.in_loop || around.in_switch) stray_jump) (unless (around.in_loop || around.in_switch) stray_jump) (done tt (entered_beside b)))
    of_statement (p.Continue {around = around} {known = k}) l b = unnoted (a_statement c.Continue) (a_statement c.Continue) refl refl (λ whole n zs. refl) (λ whole n zs. refl)
        (settled _ _ k.next l.next (unless around.in_loop stray_jump) (unless around.in_loop stray_jump) (done tt (entered_beside b)))
    of_statement (p.Return {around = around} {known = k} {it} {other} d) l b = unnoted (a_statement (c.Return it)) (a_statement (c.Return other)) refl refl (λ whole n zs. refl) (λ whole n zs. refl)
        (after (of_optional_with numbered noting again d (entered l) (entered_beside b)) (λ x y m n q q' r flags b. settled _ _ k.next l.next (return_faults around.result x) (return_faults around.result y) (done tt b)))

    pub of_items : {ids last : List ℕ} {further : List Bool} {around : Around} {k : Known} {them others : c.Items} → AddsToItems new ids last around k them others → (l : Known) → IsBeside new ids further k l
        → Piece F G new last further (λ (x y : Items). Unit {0}) k (in_items them) l (in_items others) (items them around k) (items others around l)
    of_items p.no_items l b = done tt b
    of_items {further = further} (p.a_declaration {used = ids} {between} {known = k} {d} {e = other} h f) l b = unnoted (a_declared_item d) (a_declared_item other) refl refl (λ whole n zs. refl) (λ whole n zs. refl)
        (joined (declared (λ class. class) ids between further (entered k) (entered l) d other h (entered_beside b)) (λ it its m n q q' r flags b.
        settled _ _ k.next l.next it.faults its.faults (after (of_items (f it m q) n b) (λ v w m n i i' r flags b. done tt b))))
    of_items (p.a_statement {x = x} {y} d f) l b = unnoted (a_stated_item x) (a_stated_item y) refl refl (λ whole n zs. refl) (λ whole n zs. refl)
        (joined (of_statement d (entered l) (entered_beside b)) (λ s t m n q q' r flags b. after (of_items (f s m q) n b) (λ v w m n i i' r flags b. done tt b)))
    of_items (p.a_label {known = k} {m = it} h f) l b = hidden (a_marked_item it) (a_marked_item it) refl refl (λ whole n zs. refl) (λ whole n zs. refl)
        (joined (old_mark numbered noting it (entered k) (entered l) h (entered_beside b)) (λ t u m n q q' r flags b. after (of_items (f t m q) n b) (λ v w m n i i' r flags b. done tt b)))
    of_items (p.an_added_label {around = around} {known = k} {m = c.mark predicate id tag c.no_bindings} {is} {js} u h d) l b =
        let found = new_mark predicate id tag u h.0 h.1 h.2 (numbered_alone (l.next + 1) l.facts b) in
        labelled_alone around k is js (c.mark predicate id tag c.no_bindings) l found.1 (e.mark found.0 (number_of_id id) e.no_bindings) found.3 found.4 (of_items d found.1 (subst (λ ids. IsBeside new ids found.2 k found.1) (sym h.4) found.5))
    of_items (p.an_added_label {m = c.mark predicate id tag (c.a_binding name value bound)} u h d) l b = absurd h

    of_cases : {ids last : List ℕ} {further : List Bool} {type : Option Scalar} {seen : Seen} {around : Around} {k : Known} {them others : c.Cases} → AddsToCases new ids last type seen around k them others → (l : Known) → IsBeside new ids further k l
        → Piece F G new last further (λ (x y : Cases). Unit {0}) k (in_cases them) l (in_cases others) (cases them type seen around k) (cases others type seen around l)
    of_cases p.no_cases l b = done tt b
    of_cases (p.a_case {type = type} {seen} {known = k} {list} {x} {y} {cs} {ds} h f g) l b = grouped (flat_map in_label list) (in_statement x) (in_cases cs) (flat_map in_label list) (in_statement y) (in_cases ds)
        (joined_same (of_labels numbered noting list type seen k l h b) (λ it m n q flags b. joined (in_blocks b (of_statement (f it m q) (in_new_block n) (block_beside b))) (λ s t m' n i i' r flags b.
        after (of_cases (g it s m m' q i) n b) (λ v w m n z z' r flags b. done tt b))))

-- items of a block keep what is noted, where declarations do
pub items_keep : {F G : List Fact} {new : ℕ → Bool} → ((it : c.Mark) (known : Known) → GoesOver (in_mark it) known (mark it known)) → ((it : c.Mark) (known : Known) → NotesItsNodes known (mark it known))
    → ExpressionsAreTypedAgain → DeclarationsKeep F G new → ItemsKeep F G new
items_keep numbered noting again declared around ids last further k l them others d b = of_items numbered noting again declared d l b
