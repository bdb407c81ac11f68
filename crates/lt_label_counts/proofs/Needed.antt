-- Expressions, decisions and functions at which there may be objectives are no more than what nodes need.
use Rattle.std.proofs.Common.{◌≡◌, ◌≤◌, ◌<◌, ℕ, zero, suc, ◌+◌, List, [], ◌∷◌, ◌++◌, length, Option, Some, None, Bool, true, false, refl, sym, ap, ◌∙◌, append_assoc, subst, arith}
use Rattle.std.proofs.lemmas.List.{length-append, append-nil}
use Rattle.std.proofs.lemmas.List.Folds.{list_any-append}
use Rattle.std.proofs.lemmas.Bool.{le-leb, lt-ltb}
use Rattle.std.specs.Prelude.{not, ◌&&◌, ◌||◌}
use Rattle.std.specs.List.{list_any}
use Rattle.lt_tree.specs.Tree as c
use Rattle.lt_tree.specs.Grammar.{no_words}
use Rattle.lt_tree.specs.Nodes.{Node, an_external, a_declarator, an_initialiser, a_member, an_enumerator, a_label, a_declared_item, a_stated_item, a_marked_item, a_statement, an_expression, a_mark, in_expression, in_mark, in_marks, in_bindings, in_start, in_optional, in_statement, nodes}
use Rattle.lt_tree.specs.Typing.Programs.{Program}
use Rattle.lt_sites.specs.Sites.{in_node}
use Rattle.lt_places.proofs.Parts.{AreWhole, unit_whole}
use Rattle.lt_objectives.specs.Places.{Site, sites, sites_from, Part, span, covers, closed, closed_by_value, is_open}
use Rattle.lt_objectives.specs.Decisions.{controlling, in_after, decision_of}
use Rattle.lt_objectives.specs.Copies.{is_core}
use Rattle.lt_label_counts.specs.Needs.{own_need, in_mark_behind, needs}
use Rattle.lt_label_counts.proofs.Totals.{count, at_most_one, total}
use Rattle.lt_label_counts.proofs.Asked.{asked_here, defined_here}
use Rattle.lt_label_counts.proofs.NoFunctions.{AreNone, both, expression, bindings}

-- ---- where tests stand

some_nodes : (e : c.Expression) → 1 ≤ length (in_expression e)
some_nodes (c.Name w) = omega arith
some_nodes (c.Constant w) = omega arith
some_nodes (c.Text bytes) = omega arith
some_nodes (c.Index whole place) = omega arith
some_nodes (c.Call callee arguments) = omega arith
some_nodes (c.Member e w) = omega arith
some_nodes (c.Arrow e w) = omega arith
some_nodes (c.PostInc e) = omega arith
some_nodes (c.PostDec e) = omega arith
some_nodes (c.PreInc e) = omega arith
some_nodes (c.PreDec e) = omega arith
some_nodes (c.Unary op e) = omega arith
some_nodes (c.SizeofExpr e) = omega arith
some_nodes (c.SizeofType s d) = omega arith
some_nodes (c.Cast s d e) = omega arith
some_nodes (c.Binary op left right) = omega arith
some_nodes (c.Logical op left right) = omega arith
some_nodes (c.Assign op target value) = omega arith
some_nodes (c.Comma parts) = omega arith
some_nodes (c.Conditional test left right) = omega arith
some_nodes (c.Marked marks e) = omega arith
some_nodes (c.Decide e when_true when_false tag) = omega arith
some_nodes (c.After e id tag) = omega arith

-- the number of a decision's core is that of a node of the expression
abbrev IsWithin : ℕ → c.Expression → ℕ → Type 0
IsWithin k e n = (k ≤ n) × (n < k + length (in_expression e))

core_within : (after : Option ℕ) (k : ℕ) (e : c.Expression) → IsWithin k e (decision_of after k e).core.number
core_within after k (c.Name w) = (omega arith, let some = some_nodes (c.Name w) in omega (arith, some))
core_within after k (c.Constant w) = (omega arith, let some = some_nodes (c.Constant w) in omega (arith, some))
core_within after k (c.Text bytes) = (omega arith, let some = some_nodes (c.Text bytes) in omega (arith, some))
core_within after k (c.Index whole place) = (omega arith, let some = some_nodes (c.Index whole place) in omega (arith, some))
core_within after k (c.Call callee arguments) = (omega arith, let some = some_nodes (c.Call callee arguments) in omega (arith, some))
core_within after k (c.Member e w) = (omega arith, let some = some_nodes (c.Member e w) in omega (arith, some))
core_within after k (c.Arrow e w) = (omega arith, let some = some_nodes (c.Arrow e w) in omega (arith, some))
core_within after k (c.PostInc e) = (omega arith, let some = some_nodes (c.PostInc e) in omega (arith, some))
core_within after k (c.PostDec e) = (omega arith, let some = some_nodes (c.PostDec e) in omega (arith, some))
core_within after k (c.PreInc e) = (omega arith, let some = some_nodes (c.PreInc e) in omega (arith, some))
core_within after k (c.PreDec e) = (omega arith, let some = some_nodes (c.PreDec e) in omega (arith, some))
core_within after k (c.Unary op e) = (omega arith, let some = some_nodes (c.Unary op e) in omega (arith, some))
core_within after k (c.SizeofExpr e) = (omega arith, let some = some_nodes (c.SizeofExpr e) in omega (arith, some))
core_within after k (c.SizeofType s d) = (omega arith, let some = some_nodes (c.SizeofType s d) in omega (arith, some))
core_within after k (c.Cast s d e) = (omega arith, let some = some_nodes (c.Cast s d e) in omega (arith, some))
core_within after k (c.Binary op left right) = (omega arith, let some = some_nodes (c.Binary op left right) in omega (arith, some))
core_within after k (c.Logical op left right) = (omega arith, let some = some_nodes (c.Logical op left right) in omega (arith, some))
core_within after k (c.Assign op target value) = (omega arith, let some = some_nodes (c.Assign op target value) in omega (arith, some))
core_within after k (c.Comma parts) = (omega arith, let some = some_nodes (c.Comma parts) in omega (arith, some))
core_within after k (c.Conditional test left right) = (omega arith, let some = some_nodes (c.Conditional test left right) in omega (arith, some))
core_within after k (c.Marked marks e) = let h = core_within after (k + 1 + length (in_marks marks)) e in let long = length-append (in_marks marks) (in_expression e) in (omega (arith, h.0), omega (arith, h.1, long))
core_within after k (c.Decide e when_true when_false tag) = let h = core_within after (k + 1) e in (omega (arith, h.0), omega (arith, h.1))
core_within after k (c.After e id tag) = let h = core_within (in_after after k) (k + 1) e in (omega (arith, h.0), omega (arith, h.1))

module _ (unit : c.Unit) (program : Program) where
  abbrev pub open_at : ℕ → ℕ
  open_at k = count (is_open unit program k)

  -- the decisions of a node that are where labels may stand
  abbrev pub open_tests_here : Site → ℕ
  open_tests_here site = total (λ (it : Part). open_at (decision_of None it.number it.expression).core.number) (controlling site.number site.node)

  abbrev pub needed_here : Site → ℕ
  needed_here site = asked_here unit program site + open_tests_here site + defined_here site

  open_at_most : (k : ℕ) → open_at k ≤ 1
  open_at_most k = at_most_one (is_open unit program k)

  -- ---- a node outside of marks

  outside : (k : ℕ) (x : Node) → needed_here (record { number = k; node = x }) ≤ own_need x
  outside k (an_external (c.Defines s d body)) = omega arith
  outside k (an_expression (c.Name w)) = let h = open_at_most k in omega (arith, h)
  outside k (an_expression (c.Constant w)) = let h = open_at_most k in omega (arith, h)
  outside k (an_expression (c.Text bytes)) = let h = open_at_most k in omega (arith, h)
  outside k (an_expression (c.Index whole place)) = let h = open_at_most k in omega (arith, h)
  outside k (an_expression (c.Call callee arguments)) = let h = open_at_most k in omega (arith, h)
  outside k (an_expression (c.Member e w)) = let h = open_at_most k in omega (arith, h)
  outside k (an_expression (c.Arrow e w)) = let h = open_at_most k in omega (arith, h)
  outside k (an_expression (c.PostInc e)) = let h = open_at_most k in omega (arith, h)
  outside k (an_expression (c.PostDec e)) = let h = open_at_most k in omega (arith, h)
  outside k (an_expression (c.PreInc e)) = let h = open_at_most k in omega (arith, h)
  outside k (an_expression (c.PreDec e)) = let h = open_at_most k in omega (arith, h)
  outside k (an_expression (c.Unary op e)) = let h = open_at_most k in omega (arith, h)
  outside k (an_expression (c.SizeofExpr e)) = let h = open_at_most k in omega (arith, h)
  outside k (an_expression (c.SizeofType s d)) = let h = open_at_most k in omega (arith, h)
  outside k (an_expression (c.Cast s d e)) = let h = open_at_most k in omega (arith, h)
  outside k (an_expression (c.Binary op left right)) = let h = open_at_most k in omega (arith, h)
  outside k (an_expression (c.Logical op left right)) = let h = open_at_most k in omega (arith, h)
  outside k (an_expression (c.Assign op target value)) = let h = open_at_most k in omega (arith, h)
  outside k (an_expression (c.Comma parts)) = let h = open_at_most k in omega (arith, h)
  outside k (an_expression (c.Conditional test left right)) = let h = open_at_most k in let g = open_at_most (decision_of None (k + 1) test).core.number in omega (arith, h, g)
  outside k (an_expression (c.Marked marks e)) = omega arith
  outside k (an_expression (c.Decide e when_true when_false tag)) = omega arith
  outside k (an_expression (c.After e id tag)) = omega arith
  outside k (a_statement (c.If test x)) = let h = open_at_most (decision_of None (k + 1) test).core.number in omega (arith, h)
  outside k (a_statement (c.IfElse test x y)) = let h = open_at_most (decision_of None (k + 1) test).core.number in omega (arith, h)
  outside k (a_statement (c.While test x)) = let h = open_at_most (decision_of None (k + 1) test).core.number in omega (arith, h)
  outside k (a_statement (c.Do x test)) = let h = open_at_most (decision_of None (k + 1 + length (in_statement x)) test).core.number in omega (arith, h)
  outside k (a_statement (c.For start (Some test) step x)) = let h = open_at_most (decision_of None (k + 1 + length (in_start start)) test).core.number in omega (arith, h)
  outside k (a_statement (c.Compound items)) = omega arith
  outside k (a_statement (c.Evaluates e)) = omega arith
  outside k (a_statement (c.Null)) = omega arith
  outside k (a_statement (c.Switch e cases)) = omega arith
  outside k (a_statement (c.Break)) = omega arith
  outside k (a_statement (c.Continue)) = omega arith
  outside k (a_statement (c.Return e)) = omega arith
  outside k (a_statement (c.For start None step x)) = omega arith
  outside k (an_external (c.Declared d)) = omega arith
  outside k (a_declarator d) = omega arith
  outside k (an_initialiser i) = omega arith
  outside k (a_member m) = omega arith
  outside k (an_enumerator name value) = omega arith
  outside k (a_label label) = omega arith
  outside k (a_declared_item d) = omega arith
  outside k (a_stated_item x) = omega arith
  outside k (a_marked_item m) = omega arith
  outside k (a_mark m) = omega arith

  -- ---- a node in a mark

  -- no label stands at these numbers
  abbrev pub AreClosed : ℕ → ℕ → Type 0
  AreClosed k n = (j : ℕ) → k ≤ j → j < k + n → is_open unit program j ≡ false

  not_open : (k : ℕ) → is_open unit program k ≡ false → open_at k ≡ 0
  not_open k h = ap count h

  none_asked : (k : ℕ) (e : c.Expression) → is_open unit program k ≡ false → count (is_core e && is_open unit program k) ≡ 0
  none_asked k e h = ap (λ b. count (is_core e && b)) h ∙ by (is_core e)
    where
      by : (b : Bool) → count (b && false) ≡ 0
      by true = refl
      by false = refl

  test_closed : (k n j : ℕ) (test : c.Expression) → AreClosed k n → k ≤ j → j + length (in_expression test) ≤ k + n → open_at (decision_of None j test).core.number ≡ 0
  test_closed k n j test closed low high =
      let h = core_within None j test in
      not_open (decision_of None j test).core.number (closed (decision_of None j test).core.number (omega (arith, low, h.0)) (omega (arith, high, h.1)))

  inside : (k n : ℕ) (x : Node) → AreClosed k n → length (in_node x) ≤ n → 1 ≤ n → defined_here (record { number = 0; node = x }) ≡ 0 → needed_here (record { number = k; node = x }) ≤ 0
  inside k n (an_external (c.Defines s d body)) closed fits some plain = absurd (let e : 1 ≡ 0 = plain in cc)
  inside k n (an_expression (c.Name w)) closed fits some plain = let h = none_asked k (c.Name w) (closed k (omega arith) (omega (arith, some))) in omega (arith, h)
  inside k n (an_expression (c.Constant w)) closed fits some plain = let h = none_asked k (c.Constant w) (closed k (omega arith) (omega (arith, some))) in omega (arith, h)
  inside k n (an_expression (c.Text bytes)) closed fits some plain = let h = none_asked k (c.Text bytes) (closed k (omega arith) (omega (arith, some))) in omega (arith, h)
  inside k n (an_expression (c.Index whole place)) closed fits some plain = let h = none_asked k (c.Index whole place) (closed k (omega arith) (omega (arith, some))) in omega (arith, h)
  inside k n (an_expression (c.Call callee arguments)) closed fits some plain = let h = none_asked k (c.Call callee arguments) (closed k (omega arith) (omega (arith, some))) in omega (arith, h)
  inside k n (an_expression (c.Member e w)) closed fits some plain = let h = none_asked k (c.Member e w) (closed k (omega arith) (omega (arith, some))) in omega (arith, h)
  inside k n (an_expression (c.Arrow e w)) closed fits some plain = let h = none_asked k (c.Arrow e w) (closed k (omega arith) (omega (arith, some))) in omega (arith, h)
  inside k n (an_expression (c.PostInc e)) closed fits some plain = let h = none_asked k (c.PostInc e) (closed k (omega arith) (omega (arith, some))) in omega (arith, h)
  inside k n (an_expression (c.PostDec e)) closed fits some plain = let h = none_asked k (c.PostDec e) (closed k (omega arith) (omega (arith, some))) in omega (arith, h)
  inside k n (an_expression (c.PreInc e)) closed fits some plain = let h = none_asked k (c.PreInc e) (closed k (omega arith) (omega (arith, some))) in omega (arith, h)
  inside k n (an_expression (c.PreDec e)) closed fits some plain = let h = none_asked k (c.PreDec e) (closed k (omega arith) (omega (arith, some))) in omega (arith, h)
  inside k n (an_expression (c.Unary op e)) closed fits some plain = let h = none_asked k (c.Unary op e) (closed k (omega arith) (omega (arith, some))) in omega (arith, h)
  inside k n (an_expression (c.SizeofExpr e)) closed fits some plain = let h = none_asked k (c.SizeofExpr e) (closed k (omega arith) (omega (arith, some))) in omega (arith, h)
  inside k n (an_expression (c.SizeofType s d)) closed fits some plain = let h = none_asked k (c.SizeofType s d) (closed k (omega arith) (omega (arith, some))) in omega (arith, h)
  inside k n (an_expression (c.Cast s d e)) closed fits some plain = let h = none_asked k (c.Cast s d e) (closed k (omega arith) (omega (arith, some))) in omega (arith, h)
  inside k n (an_expression (c.Binary op left right)) closed fits some plain = let h = none_asked k (c.Binary op left right) (closed k (omega arith) (omega (arith, some))) in omega (arith, h)
  inside k n (an_expression (c.Logical op left right)) closed fits some plain = let h = none_asked k (c.Logical op left right) (closed k (omega arith) (omega (arith, some))) in omega (arith, h)
  inside k n (an_expression (c.Assign op target value)) closed fits some plain = let h = none_asked k (c.Assign op target value) (closed k (omega arith) (omega (arith, some))) in omega (arith, h)
  inside k n (an_expression (c.Comma parts)) closed fits some plain = let h = none_asked k (c.Comma parts) (closed k (omega arith) (omega (arith, some))) in omega (arith, h)
  inside k n (an_expression (c.Conditional test left right)) closed fits some plain =
      let h = none_asked k (c.Conditional test left right) (closed k (omega arith) (omega (arith, some))) in
      let first = length-append (in_expression test) (in_expression left) in
      let long = length-append (in_expression test ++ in_expression left) (in_expression right) in
      let g = test_closed k n (k + 1) test closed (omega arith) (omega (arith, fits, long, first)) in
      omega (arith, h, g)
  inside k n (an_expression (c.Marked marks e)) closed fits some plain = omega arith
  inside k n (an_expression (c.Decide e when_true when_false tag)) closed fits some plain = omega arith
  inside k n (an_expression (c.After e id tag)) closed fits some plain = omega arith
  inside k n (a_statement (c.If test x)) closed fits some plain =
      let long = length-append (in_expression test) (in_statement x) in
      let g = test_closed k n (k + 1) test closed (omega arith) (omega (arith, fits, long)) in
      omega (arith, g)
  inside k n (a_statement (c.IfElse test x y)) closed fits some plain =
      let first = length-append (in_expression test) (in_statement x) in
      let long = length-append (in_expression test ++ in_statement x) (in_statement y) in
      let g = test_closed k n (k + 1) test closed (omega arith) (omega (arith, fits, long, first)) in
      omega (arith, g)
  inside k n (a_statement (c.While test x)) closed fits some plain =
      let long = length-append (in_expression test) (in_statement x) in
      let g = test_closed k n (k + 1) test closed (omega arith) (omega (arith, fits, long)) in
      omega (arith, g)
  inside k n (a_statement (c.Do x test)) closed fits some plain =
      let long = length-append (in_statement x) (in_expression test) in
      let g = test_closed k n (k + 1 + length (in_statement x)) test closed (omega arith) (omega (arith, fits, long)) in
      omega (arith, g)
  inside k n (a_statement (c.For start (Some test) step x)) closed fits some plain =
      let first = length-append (in_start start) (in_expression test) in
      let second = length-append (in_start start ++ in_expression test) (in_optional step) in
      let long = length-append (in_start start ++ in_expression test ++ in_optional step) (in_statement x) in
      let g = test_closed k n (k + 1 + length (in_start start)) test closed (omega arith) (omega (arith, fits, long, second, first)) in
      omega (arith, g)
  inside k n (a_statement (c.Compound items)) closed fits some plain = omega arith
  inside k n (a_statement (c.Evaluates e)) closed fits some plain = omega arith
  inside k n (a_statement (c.Null)) closed fits some plain = omega arith
  inside k n (a_statement (c.Switch e cases)) closed fits some plain = omega arith
  inside k n (a_statement (c.Break)) closed fits some plain = omega arith
  inside k n (a_statement (c.Continue)) closed fits some plain = omega arith
  inside k n (a_statement (c.Return e)) closed fits some plain = omega arith
  inside k n (a_statement (c.For start None step x)) closed fits some plain = omega arith
  inside k n (an_external (c.Declared d)) closed fits some plain = omega arith
  inside k n (a_declarator d) closed fits some plain = omega arith
  inside k n (an_initialiser i) closed fits some plain = omega arith
  inside k n (a_member m) closed fits some plain = omega arith
  inside k n (an_enumerator name value) closed fits some plain = omega arith
  inside k n (a_label label) closed fits some plain = omega arith
  inside k n (a_declared_item d) closed fits some plain = omega arith
  inside k n (a_stated_item x) closed fits some plain = omega arith
  inside k n (a_marked_item m) closed fits some plain = omega arith
  inside k n (a_mark m) closed fits some plain = omega arith

  -- ---- marks are closed

  covered : (j k n : ℕ) → k ≤ j → j < k + n → covers j (span k n) ≡ true
  covered j k n low high = rw (le-leb k j low, lt-ltb j (k + n) high) refl

  mark_closed : (k : ℕ) (m : c.Mark) (xs : List Node) (front : List Site) → front ++ sites_from k (a_mark m ∷ xs) ≡ sites unit → AreClosed k (length (in_mark m))
  mark_closed k m xs front are j low high = ap not any
    where
      here : Site
      here = record { number = k; node = a_mark m }

      test : Site → Bool
      test site = list_any (covers j) (closed unit program site)

      covered_here : test here ≡ true
      covered_here = ap (λ b. b || list_any (covers j) (closed_by_value unit program here)) (covered j k (length (in_mark m)) low high)

      or_true : (a : Bool) → (a || true) ≡ true
      or_true true = refl
      or_true false = refl

      any : list_any test (sites unit) ≡ true
      any =
          ap (list_any test) (sym are) ∙ list_any-append test front (here ∷ sites_from (k + 1) xs) ∙ ap (λ b. list_any test front || (b || list_any test (sites_from (k + 1) xs))) covered_here
          ∙ or_true (list_any test front)

  -- ---- all nodes

  -- the first so many nodes are in a mark
  record Region (k n : ℕ) (xs : List Node) : Type 0 where
    among : List Node
    behind : List Node
    are : xs ≡ among ++ behind
    long : length among ≡ n
    whole : AreWhole among
    plain : AreNone among
    closed : AreClosed k n

  no_region : (k : ℕ) (xs : List Node) → Region k 0 xs
  no_region k xs = record { among = []; behind = xs; are = refl; long = refl; whole = tt; plain = tt; closed = λ j low high. absurd (omega (arith, low, high)) }

  mark_whole : (e : c.Expression) (id tag : List ℕ) (bound : c.Bindings) → AreWhole (in_expression e ++ in_bindings bound)
  mark_whole e id tag bound =
      let m = c.mark e id tag bound in
      let inner = in_expression e ++ in_bindings bound in
      let one : c.Unit = c.Defines (c.specifiers no_words c.no_types) (c.declarator None c.no_parts) (c.a_label m c.no_items) ∷ [] in
      subst AreWhole (append-nil (inner ++ []) ∙ append-nil inner) (unit_whole one).1.1.1

  mark_region : (k : ℕ) (m : c.Mark) (xs : List Node) → AreWhole (a_mark m ∷ xs) → (front : List Site) → front ++ sites_from k (a_mark m ∷ xs) ≡ sites unit → Region (k + 1) (in_mark_behind (a_mark m)) xs
  mark_region k (c.mark e id tag bound) xs whole front are =
      let inner = in_expression e ++ in_bindings bound in
      let same : xs ≡ inner ++ whole.0.0 = cc in
      let closed = mark_closed k (c.mark e id tag bound) xs front are in
      record {
        among = inner;
        behind = whole.0.0;
        are = same;
        long = omega arith;
        whole = mark_whole e id tag bound;
        plain = (both (expression e) (bindings bound)).none;
        closed = λ j low high. closed j (omega (arith, low)) (omega (arith, high));
      }

  region_behind : (k : ℕ) (x : Node) (xs : List Node) → AreWhole (x ∷ xs) → (front : List Site) → front ++ sites_from k (x ∷ xs) ≡ sites unit → Region (k + 1) (in_mark_behind x) xs
  region_behind k (a_mark m) xs whole front are = mark_region k m xs whole front are
  region_behind k (an_external x) xs whole front are = no_region (k + 1) xs
  region_behind k (a_declarator d) xs whole front are = no_region (k + 1) xs
  region_behind k (an_initialiser i) xs whole front are = no_region (k + 1) xs
  region_behind k (a_member m) xs whole front are = no_region (k + 1) xs
  region_behind k (an_enumerator name value) xs whole front are = no_region (k + 1) xs
  region_behind k (a_label label) xs whole front are = no_region (k + 1) xs
  region_behind k (a_declared_item d) xs whole front are = no_region (k + 1) xs
  region_behind k (a_stated_item x) xs whole front are = no_region (k + 1) xs
  region_behind k (a_marked_item m) xs whole front are = no_region (k + 1) xs
  region_behind k (a_statement x) xs whole front are = no_region (k + 1) xs
  region_behind k (an_expression e) xs whole front are = no_region (k + 1) xs

  -- what is known of the first node in a mark
  record Inside (n : ℕ) (x : Node) (xs : List Node) : Type 0 where
    fits : length (in_node x) ≤ suc n
    none : defined_here (record { number = 0; node = x }) ≡ 0
    rest : List Node
    behind : List Node
    are : xs ≡ rest ++ behind
    long : length rest ≡ n
    whole : AreWhole rest
    plain : AreNone rest

  first_inside : (n : ℕ) (x : Node) (xs among behind : List Node) → x ∷ xs ≡ among ++ behind → length among ≡ suc n → AreWhole among → AreNone among → Inside n x xs
  first_inside n x xs [] behind are long whole plain = absurd (omega (arith, long))
  first_inside n x xs (y ∷ ys) behind are long whole plain =
      let same : y ≡ x = cc in
      let rest : xs ≡ ys ++ behind = cc in
      let many : suc (length ys) ≡ length (in_node y ++ whole.0.0) = ap length whole.0.1 in
      let two = length-append (in_node y) whole.0.0 in
      let node : length (in_node y) ≡ length (in_node x) = ap (λ z. length (in_node z)) same in
      record {
        fits = omega (arith, long, many, two, node);
        none = ap (λ z. defined_here (record { number = 0; node = z })) (sym same) ∙ plain.0;
        rest = ys;
        behind = behind;
        are = rest;
        long = omega (arith, long);
        whole = whole.1;
        plain = plain.1;
      }

  next : (k : ℕ) (x : Node) (xs : List Node) (front : List Site) → front ++ sites_from k (x ∷ xs) ≡ sites unit → (front ++ record { number = k; node = x } ∷ []) ++ sites_from (k + 1) xs ≡ sites unit
  next k x xs front are = append_assoc front (record { number = k; node = x } ∷ []) (sites_from (k + 1) xs) ∙ are

  needed_from : (k n : ℕ) (xs : List Node) → Region k n xs → AreWhole xs → (front : List Site) → front ++ sites_from k xs ≡ sites unit → total needed_here (sites_from k xs) ≤ needs n xs
  needed_from k n [] region whole front are = omega arith
  needed_from k zero (x ∷ xs) region whole front are =
      let here = outside k x in
      let more = needed_from (k + 1) (in_mark_behind x) xs (region_behind k x xs whole front are) whole.1 (front ++ record { number = k; node = x } ∷ []) (next k x xs front are) in
      omega (arith, here, more)
  needed_from k (suc n) (x ∷ xs) region whole front are =
      let first = first_inside n x xs region.among region.behind region.are region.long region.whole region.plain in
      let here = inside k (suc n) x region.closed first.fits (omega arith) first.none in
      let later : Region (k + 1) n xs = record {
        among = first.rest;
        behind = first.behind;
        are = first.are;
        long = first.long;
        whole = first.whole;
        plain = first.plain;
        closed = λ j low high. region.closed j (omega (arith, low)) (omega (arith, high));
      } in
      let more = needed_from (k + 1) n xs later whole.1 (front ++ record { number = k; node = x } ∷ []) (next k x xs front are) in
      omega (arith, here, more)

  -- What may have objectives in a unit is no more than its nodes need.
  pub needed_of_unit : total needed_here (sites unit) ≤ needs 0 (nodes unit)
  needed_of_unit = needed_from 0 0 (nodes unit) (no_region 0 (nodes unit)) (unit_whole unit) [] refl
