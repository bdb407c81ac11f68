-- Statements cost no more than their text pays.
use Rattle.std.proofs.Common.{◌≡◌, refl, ℕ, ◌+◌, ◌*◌, ◌≤◌, max, true, false, List, [], ◌∷◌, ◌++◌, map, Option, Some, None, arith, append_assoc}
use Rattle.std.specs.Prelude.{if◌then◌else◌, ◌||◌}
use Rattle.std.specs.List.{sum_by, flat_map, fold}
use Rattle.std.specs.Option.{option_to_list}
use Rattle.std.proofs.lemmas.List.{map-append}
use Rattle.std.proofs.lemmas.List.Sums.{sum_by-cons, fold-append}
use Rattle.lt_model.specs.declared.scalar.DataModel.{DataModel}
use Rattle.lt_model.specs.declared.scalar.Scalar.{Scalar}
use Rattle.lt_model.specs.Conversions.{promoted}
use Rattle.lt_tree.specs.Tree as c
use Rattle.lt_tree.specs.Nodes.{Node, a_statement, a_declared_item, a_stated_item, a_marked_item, in_expression, in_declaration, in_optional, in_start, in_label, in_statement, in_items, in_cases, in_mark}
use Rattle.lt_tree.specs.Typing.Types.{CType, Num, unqualified, is_integer}
use Rattle.lt_tree.specs.Typing.Rules.{Rule, unless, stray_jump, bad_case}
use Rattle.lt_tree.specs.Typing.TypedTree as e
use Rattle.lt_tree.specs.Typing.TypedTree.{Value, Local}
use Rattle.lt_tree.specs.Typing.Entities.{Known, Function}
use Rattle.lt_tree.specs.Typing.Steps.{settle}
use Rattle.lt_tree.specs.Typing.Expressions.{Typed, as_value, as_truth, own_type, value_in, scalar_in}
use Rattle.lt_tree.specs.Typing.Operations.{promoted_value}
use Rattle.lt_tree.specs.Typing.ExpressionTyping.{mark}
use Rattle.lt_tree.specs.Typing.DeclarationTyping.{effective_in_for}
use Rattle.lt_tree.specs.Typing.StatementTyping.{Around, in_a_loop, in_a_switch, test_faults, optional_test_faults, optional_expression, optional_test, optional_value, TypedStart, for_start, switch_type, switch_value, Seen, labels, return_faults, returned, locals_before, statement, items, cases}
use Rattle.lt_code.specs.Sizes.{full_in_start, nodes_of_full, letters_in, letters_in_items, letters_in_cases, letters_in_start, letters_in_local}
use Rattle.lt_code.specs.Costs.{Cost, alone, tick, ◌⊕◌, full_value, full_test, of_locals, of_start, of_statement, of_items, of_cases, nodes_of, behind, calls_in}
use Rattle.lt_code.specs.Costs as costs
use Rattle.lt_sizes.proofs.Texts.{count, calls, mark_whole, from_any}
use Rattle.lt_sizes.proofs.WholeTexts.{expression_whole, declaration_whole, optional_whole, start_whole, label_whole, statement_whole, items_whole, cases_whole, each_whole}
use Rattle.lt_sizes.proofs.WholeTexts as whole
use Rattle.lt_sizes.proofs.Walks.{Gives, went, bind, skip, entered, scoped}
use Rattle.lt_sizes.proofs.Values.{IsPaid, IsOperand, operand, converted}
use Rattle.lt_sizes.proofs.Payments.{IsPaidBy, free, side_by_side, behind_text, IsPaidWith, node_pays, same_cost}
use Rattle.lt_sizes.proofs.PaidExpressions.{of_expression}
use Rattle.lt_sizes.proofs.PaidDeclarations.{quietly, test_quietly, value_pays, test_pays, of_declaration_by}

module _ (functions : List Function) where
  abbrev OfText : c.Expression → Typed → Type 0
  OfText it x = IsPaid functions (count (in_expression it)) (calls functions (in_expression it)) (value_in x)

  -- ---- parts of statements

  abbrev MaybePaid : Option c.Expression → Option Typed → Type 0
  MaybePaid None None = Unit {0}
  MaybePaid (Some it) (Some x) = OfText it x
  MaybePaid None (Some x) = ⊥
  MaybePaid (Some it) None = ⊥

  of_optional : (it : Option c.Expression) (known : Known) → Gives (MaybePaid it) (optional_expression it known)
  of_optional None known = went tt
  of_optional (Some it) known = bind (of_expression functions it as_value known) (λ x k p. went p.as_value)

  of_optional_test : (it : Option c.Expression) (known : Known) → Gives (MaybePaid it) (optional_test it known)
  of_optional_test None known = went tt
  of_optional_test (Some it) known = bind (of_expression functions it as_truth known) (λ x k p. went p.as_value)

  -- what stands before the first `;` of a `for`, and its test and step, without the registers of full expressions
  abbrev start_quietly : e.ForStart → Cost
  start_quietly e.Nothing = alone 0
  start_quietly (e.First v) = quietly functions v
  start_quietly (e.Locals its) = of_locals functions its

  abbrev optional_quietly : Option Value → Cost
  optional_quietly None = alone 0
  optional_quietly (Some v) = quietly functions v

  abbrev optional_test_quietly : Option Value → Cost
  optional_test_quietly None = alone 0
  optional_test_quietly (Some v) = test_quietly functions v

  test_paid : (it : Option c.Expression) (x : Option Typed) → MaybePaid it x → IsPaidBy functions (in_optional it) 0 (optional_test_quietly (optional_value x))
  test_paid None None p = free functions []
  test_paid (Some it) (Some x) p = test_pays (in_expression it) p
  test_paid None (Some x) p = absurd p
  test_paid (Some it) None p = absurd p

  step_paid : (it : Option c.Expression) (x : Option Typed) → MaybePaid it x → IsPaidBy functions (in_optional it) 0 (optional_quietly (optional_value x))
  step_paid None None p = free functions []
  step_paid (Some it) (Some x) p = value_pays (in_expression it) (operand p)
  step_paid None (Some x) p = absurd p
  step_paid (Some it) None p = absurd p

  switch_paid : {n : ℕ} {others : List ℕ} (x : Typed) (m : DataModel) → IsPaid functions n others (value_in x) → IsOperand functions n others (switch_value m x)
  switch_paid {n} {others} x m p =
      elim (is_integer (own_type x)) as (λ v. IsOperand functions n others (if v then promoted_value m x else value_in x))
      [ true ↦ converted (Num (promoted m (scalar_in x))) p | false ↦ operand p ]

  -- ---- the items of a block

  declared_before : {ns : List Node} (xs : List Local) (ys : e.Items) → IsPaidBy functions ns (sum_by letters_in_local xs + letters_in_items ys) (of_locals functions xs ⊕ of_items functions ys)
      → IsPaidBy functions ns (letters_in_items (locals_before xs ys)) (of_items functions (locals_before xs ys))
  declared_before xs ys p = same_cost (nodes xs ys) (registers xs ys) (loops xs ys) (calls xs ys) (letters xs ys) p
    where
      nodes : (xs : List Local) (ys : e.Items) → (of_items functions (locals_before xs ys)).nodes ≡ (of_locals functions xs).nodes + (of_items functions ys).nodes
      nodes [] ys = omega arith
      nodes (x ∷ xs) ys = omega (arith, nodes xs ys)

      registers : (xs : List Local) (ys : e.Items) → (of_items functions (locals_before xs ys)).registers ≡ max (of_locals functions xs).registers (of_items functions ys).registers
      registers [] ys = omega arith
      registers (x ∷ xs) ys = omega (arith, registers xs ys)

      loops : (xs : List Local) (ys : e.Items) → (of_items functions (locals_before xs ys)).loops ≡ (of_locals functions xs).loops + (of_items functions ys).loops
      loops [] ys = omega arith
      loops (x ∷ xs) ys = omega (arith, loops xs ys)

      calls : (xs : List Local) (ys : e.Items) → (of_items functions (locals_before xs ys)).calls ≡ (of_locals functions xs).calls ++ (of_items functions ys).calls
      calls [] ys = refl
      calls (x ∷ xs) ys = rw (calls xs ys) (simp append_assoc)

      letters : (xs : List Local) (ys : e.Items) → letters_in_items (locals_before xs ys) ≡ sum_by letters_in_local xs + letters_in_items ys
      letters [] ys = omega arith
      letters (x ∷ xs) ys = rw (sum_by-cons letters_in_local x xs) (omega (arith, letters xs ys))

  -- ---- statements

  abbrev StatementPaid : c.Statement → e.Statement → Type 0
  StatementPaid it s = IsPaidBy functions (in_statement it) (letters_in s) (of_statement functions s)

  abbrev ItemsPaid : c.Items → e.Items → Type 0
  ItemsPaid them s = IsPaidBy functions (in_items them) (letters_in_items s) (of_items functions s)

  abbrev CasesPaid : c.Cases → e.Cases → Type 0
  CasesPaid them s = IsPaidBy functions (in_cases them) (letters_in_cases s) (of_cases functions s)

  stated : {l m : ℕ} {inside cost : Cost} (it : c.Statement) (ns : List Node) → IsPaidBy functions ns l inside → IsPaidWith (a_statement it) inside cost → m ≡ l
      → IsPaidBy functions (a_statement it ∷ ns) m cost
  stated it ns p w h = same_cost refl refl refl refl h (node_pays (a_statement it) ns refl p w)

  alone_paid : (it : c.Statement) → IsPaidBy functions (a_statement it ∷ []) 0 tick
  alone_paid it = stated it [] (free functions []) (record { nodes = omega arith; registers = omega arith; loops = omega arith; calls = refl }) refl

  compound_paid : (list : c.Items) (them : e.Items) → ItemsPaid list them → StatementPaid (c.Compound list) (e.Compound them)
  compound_paid list them p = stated (c.Compound list) (in_items list) p (record { nodes = omega arith; registers = omega arith; loops = omega arith; calls = refl }) refl

  evaluates_paid : (it : c.Expression) (x : Typed) → OfText it x → StatementPaid (c.Evaluates it) (e.Evaluates (value_in x))
  evaluates_paid it x p =
      stated (c.Evaluates it) (in_expression it) (value_pays (in_expression it) (operand p)) (record { nodes = omega arith; registers = omega arith; loops = omega arith; calls = refl }) refl

  if_paid : (test : c.Expression) (body : c.Statement) (x : Typed) (first : e.Statement) → OfText test x → StatementPaid body first → StatementPaid (c.If test body) (e.If (value_in x) first)
  if_paid test body x first p q =
      stated (c.If test body) _ (side_by_side (in_expression test) (in_statement body) (expression_whole test) (test_pays (in_expression test) p) q)
      (record { nodes = omega arith; registers = omega arith; loops = omega arith; calls = refl }) (omega arith)

  if_else_paid : (test : c.Expression) (body other : c.Statement) (x : Typed) (first second : e.Statement) → OfText test x → StatementPaid body first → StatementPaid other second
      → StatementPaid (c.IfElse test body other) (e.IfElse (value_in x) first second)
  if_else_paid test body other x first second p q r =
      stated (c.IfElse test body other) _
      (side_by_side (in_expression test ++ in_statement body) (in_statement other) (whole.two _ _ (expression_whole test) (statement_whole body))
      (side_by_side (in_expression test) (in_statement body) (expression_whole test) (test_pays (in_expression test) p) q) r)
      (record { nodes = omega arith; registers = omega arith; loops = omega arith; calls = simp append_assoc }) (omega arith)

  while_paid : (test : c.Expression) (body : c.Statement) (x : Typed) (first : e.Statement) → OfText test x → StatementPaid body first → StatementPaid (c.While test body) (e.While (value_in x) first)
  while_paid test body x first p q =
      stated (c.While test body) _ (side_by_side (in_expression test) (in_statement body) (expression_whole test) (test_pays (in_expression test) p) q)
      (record { nodes = omega arith; registers = omega arith; loops = omega arith; calls = refl }) (omega arith)

  do_paid : (body : c.Statement) (test : c.Expression) (first : e.Statement) (x : Typed) → StatementPaid body first → OfText test x → StatementPaid (c.Do body test) (e.Do first (value_in x))
  do_paid body test first x q p =
      stated (c.Do body test) _ (side_by_side (in_statement body) (in_expression test) (statement_whole body) q (test_pays (in_expression test) p))
      (record { nodes = omega arith; registers = omega arith; loops = omega arith; calls = refl }) (omega arith)

  switch_statement_paid : (it : c.Expression) (list : c.Cases) (v : Value) (them : e.Cases) → IsOperand functions (count (in_expression it)) (calls functions (in_expression it)) v → CasesPaid list them
      → StatementPaid (c.Switch it list) (e.Switch v them)
  switch_statement_paid it list v them p q =
      stated (c.Switch it list) _ (side_by_side (in_expression it) (in_cases list) (expression_whole it) (value_pays (in_expression it) p) q)
      (record { nodes = omega arith; registers = omega arith; loops = omega arith; calls = refl }) (omega arith)

  return_paid : (it : Option c.Expression) (result : CType) (x : Option Typed) → MaybePaid it x → StatementPaid (c.Return it) (e.Return (returned result x))
  return_paid None result None p = alone_paid (c.Return None)
  return_paid (Some it) result (Some x) p =
      let v = converted (unqualified result) p in
      stated (c.Return (Some it)) (in_expression it) (value_pays (in_expression it) v) (record { nodes = omega arith; registers = omega arith; loops = omega arith; calls = refl }) refl
  return_paid None result (Some x) p = absurd p
  return_paid (Some it) result None p = absurd p

  -- ---- `for`

  abbrev most : List c.Expression → ℕ
  most its = fold max 0 (map nodes_of_full its)

  most_of_three : (xs ys zs : List c.Expression) → most (xs ++ ys ++ zs) ≡ max (max (most xs) (most ys)) (most zs)
  most_of_three xs ys zs =
      rw (map-append nodes_of_full (xs ++ ys) zs, map-append nodes_of_full xs ys, fold-append max 0 (map nodes_of_full xs ++ map nodes_of_full ys) (map nodes_of_full zs), fold-append max 0 (map nodes_of_full xs) (map nodes_of_full ys))
      (omega (arith, from_any (fold max (most xs) (map nodes_of_full ys)) (map nodes_of_full zs), from_any (most xs) (map nodes_of_full ys)))

  -- a part of the head, with its registers: these are paid by the full expressions of the loop
  record PartPaid (full : List c.Expression) (inside cost : Cost) : Type 0 where
    nodes : cost.nodes ≡ inside.nodes
    registers : cost.registers ≤ max (4 * most full) inside.registers
    loops : cost.loops ≡ inside.loops
    calls : cost.calls ≡ inside.calls

  test_part : (it : Option c.Expression) (x : Option Typed) → MaybePaid it x → PartPaid (option_to_list it) (optional_test_quietly (optional_value x)) (costs.optional_test functions (optional_value x))
  test_part None None p = record { nodes = refl; registers = omega arith; loops = refl; calls = refl }
  test_part (Some it) (Some x) p = record { nodes = refl; registers = omega arith; loops = refl; calls = refl }
  test_part None (Some x) p = absurd p
  test_part (Some it) None p = absurd p

  step_part : (it : Option c.Expression) (x : Option Typed) → MaybePaid it x → PartPaid (option_to_list it) (optional_quietly (optional_value x)) (costs.optional_value functions (optional_value x))
  step_part None None p = record { nodes = refl; registers = omega arith; loops = refl; calls = refl }
  step_part (Some it) (Some x) p = record { nodes = refl; registers = omega arith; loops = refl; calls = refl }
  step_part None (Some x) p = absurd p
  step_part (Some it) None p = absurd p

  -- the start with its letters, without and with its registers
  record StartPaid (it : c.ForStart) (s : TypedStart) : Type 0 where
    paid : IsPaidBy functions (in_start it) (letters_in_start s.start) (start_quietly s.start)
    part : PartPaid (full_in_start it) (start_quietly s.start) (of_start functions s.start)

  no_start : StartPaid c.Nothing (record { start = e.Nothing; faults = [] })
  no_start = record { paid = free functions []; part = record { nodes = refl; registers = omega arith; loops = refl; calls = refl } }

  first_start : (it : c.Expression) (x : Typed) → OfText it x → StartPaid (c.First it) (record { start = e.First (value_in x); faults = [] })
  first_start it x p = record { paid = value_pays (in_expression it) (operand p); part = record { nodes = refl; registers = omega arith; loops = refl; calls = refl } }

  declared_start : (d : c.Declaration) (its : List Local) (faults : List Rule) → IsPaidBy functions (in_declaration d) (sum_by letters_in_local its) (of_locals functions its)
      → StartPaid (c.Declares d) (record { start = e.Locals its; faults = faults })
  declared_start d its faults p = record { paid = p; part = record { nodes = refl; registers = omega arith; loops = refl; calls = refl } }

  of_start_of : (it : c.ForStart) (known : Known) → Gives (StartPaid it) (for_start it known)
  of_start_of c.Nothing known = went no_start
  of_start_of (c.First it) known = bind (of_expression functions it as_value known) (λ x k p. went (first_start it x p.as_value))
  of_start_of (c.Declares d) known = bind (of_declaration_by functions effective_in_for d known) (λ it k p. went (declared_start d it.locals it.faults p))

  for_paid : (begin : c.ForStart) (test step : Option c.Expression) (body : c.Statement) (b : TypedStart) (x y : Option Typed) (first : e.Statement)
      → StartPaid begin b → MaybePaid test x → MaybePaid step y → StatementPaid body first
      → StatementPaid (c.For begin test step body) (e.For b.start (optional_value x) (optional_value y) first)
  for_paid begin test step body b x y first p q r t =
      let i = p.part in
      let j = test_part test x q in
      let k = step_part step y r in
      let m = most_of_three (full_in_start begin) (option_to_list test) (option_to_list step) in
      let head = side_by_side (in_start begin) (in_optional test) (start_whole begin) p.paid (test_paid test x q) in
      let heads = side_by_side (in_start begin ++ in_optional test) (in_optional step) (whole.two _ _ (start_whole begin) (optional_whole test)) head (step_paid step y r) in
      let all = side_by_side (in_start begin ++ in_optional test ++ in_optional step) (in_statement body) (whole.three _ _ _ (start_whole begin) (optional_whole test) (optional_whole step)) heads t in
      stated (c.For begin test step body) _ all
      (record { nodes = omega arith; registers = omega arith; loops = omega arith; calls = rw (i.calls, j.calls, k.calls) (simp append_assoc) }) (omega arith)

  -- ---- items and cases

  declaration_paid : (d : c.Declaration) (rest : c.Items) (locals : List Local) (others : e.Items) → IsPaidBy functions (in_declaration d) (sum_by letters_in_local locals) (of_locals functions locals)
      → ItemsPaid rest others → ItemsPaid (c.a_declaration d rest) (locals_before locals others)
  declaration_paid d rest locals others p q =
      node_pays (a_declared_item d) _ refl (declared_before locals others (side_by_side (in_declaration d) (in_items rest) (declaration_whole d) p q))
      (record { nodes = omega arith; registers = omega arith; loops = omega arith; calls = refl })

  item_paid : (it : c.Statement) (rest : c.Items) (s : e.Statement) (others : e.Items) → StatementPaid it s → ItemsPaid rest others → ItemsPaid (c.a_statement it rest) (e.a_statement s others)
  item_paid it rest s others p q =
      node_pays (a_stated_item it) _ refl (side_by_side (in_statement it) (in_items rest) (statement_whole it) p q)
      (record { nodes = omega arith; registers = omega arith; loops = omega arith; calls = refl })

  label_paid : (m : c.Mark) (rest : c.Items) (typed : e.Mark) (others : e.Items) → ItemsPaid rest others → ItemsPaid (c.a_label m rest) (e.a_label typed others)
  label_paid m rest typed others q =
      node_pays (a_marked_item m) _ refl (behind_text (in_mark m) (in_items rest) (mark_whole m) q)
      (record { nodes = omega arith; registers = omega arith; loops = omega arith; calls = refl })

  case_paid : (list : List c.Label) (it : c.Statement) (rest : c.Cases) (typed : List e.Label) (s : e.Statement) (others : e.Cases) → StatementPaid it s → CasesPaid rest others
      → CasesPaid (c.a_case list it rest) (e.a_case typed s others)
  case_paid list it rest typed s others p q =
      side_by_side (flat_map in_label list ++ in_statement it) (in_cases rest) (whole.two _ _ (each_whole in_label list label_whole) (statement_whole it))
      (behind_text (flat_map in_label list) (in_statement it) (each_whole in_label list label_whole) p) q

  mutual
    of_statement_of : (it : c.Statement) (around : Around) (known : Known) → Gives (StatementPaid it) (statement it around known)
    of_statement_of (c.Compound list) around known = bind (scoped _ (of_items_of list around _)) (λ found k p. went (compound_paid list found p))
    of_statement_of (c.Evaluates it) around known = bind (of_expression functions it as_value _) (λ x k p. went (evaluates_paid it x p.as_value))
    of_statement_of c.Null around known = went (alone_paid c.Null)
    of_statement_of (c.If test body) around known =
        scoped _ (bind (of_expression functions test as_truth _) (λ x k p. bind (scoped _ (of_statement_of body around _))
        (λ first k q. skip (settle known.next (test_faults x) k) (λ u k. went (if_paid test body x first p.as_value q)))))
    of_statement_of (c.IfElse test body other) around known =
        scoped _ (bind (of_expression functions test as_truth _) (λ x k p. bind (scoped _ (of_statement_of body around _)) (λ first k q. bind (scoped _ (of_statement_of other around _))
        (λ second k r. skip (settle known.next (test_faults x) k) (λ u k. went (if_else_paid test body other x first second p.as_value q r))))))
    of_statement_of (c.While test body) around known =
        scoped _ (bind (of_expression functions test as_truth _) (λ x k p. bind (scoped _ (of_statement_of body (in_a_loop around) _))
        (λ first k q. skip (settle known.next (test_faults x) k) (λ u k. went (while_paid test body x first p.as_value q)))))
    of_statement_of (c.Do body test) around known =
        scoped _ (bind (scoped _ (of_statement_of body (in_a_loop around) _)) (λ first k q. bind (of_expression functions test as_truth k)
        (λ x k p. skip (settle known.next (test_faults x) k) (λ u k. went (do_paid body test first x q p.as_value)))))
    of_statement_of (c.For begin test step body) around known =
        scoped _ (bind (of_start_of begin _) (λ b k p. bind (of_optional_test test k) (λ x k q. bind (of_optional step k) (λ y k r. bind (scoped _ (of_statement_of body (in_a_loop around) _))
        (λ first k t. skip (settle known.next (b.faults ++ optional_test_faults x) k) (λ u k. went (for_paid begin test step body b x y first p q r t)))))))
    of_statement_of (c.Switch operand list) around known =
        scoped _ (bind (of_expression functions operand as_truth _) (λ x k p. bind (of_cases_of list (switch_type k.model x) (record { values = []; has_default = false }) (in_a_switch around) k)
        (λ found k2 q. skip (settle known.next (test_faults x ++ unless (is_integer (own_type x)) bad_case) k2)
        (λ u k3. went (switch_statement_paid operand list (switch_value k.model x) found (switch_paid x k.model p.as_value) q)))))
    of_statement_of c.Break around known = skip (settle known.next (unless (around.in_loop || around.in_switch) stray_jump) (entered known)) (λ u k. went (alone_paid c.Break))
    of_statement_of c.Continue around known = skip (settle known.next (unless around.in_loop stray_jump) (entered known)) (λ u k. went (alone_paid c.Continue))
    of_statement_of (c.Return it) around known =
        bind (of_optional it _) (λ x k p. skip (settle known.next (return_faults around.result x) k) (λ u k. went (return_paid it around.result x p)))

    pub of_items_of : (them : c.Items) (around : Around) (known : Known) → Gives (ItemsPaid them) (items them around known)
    of_items_of c.no_items around known = went (free functions [])
    of_items_of (c.a_declaration first rest) around known =
        bind (of_declaration_by functions (λ class. class) first _) (λ it k p. skip (settle known.next it.faults k) (λ u k. bind (of_items_of rest around k)
        (λ others k q. went (declaration_paid first rest it.locals others p q))))
    of_items_of (c.a_statement first rest) around known =
        bind (of_statement_of first around _) (λ s k p. bind (of_items_of rest around k) (λ others k q. went (item_paid first rest s others p q)))
    of_items_of (c.a_label first rest) around known =
        skip (mark first _) (λ m k. bind (of_items_of rest around k) (λ others k q. went (label_paid first rest m others q)))

    of_cases_of : (them : c.Cases) (scalar : Option Scalar) (seen : Seen) (around : Around) (known : Known) → Gives (CasesPaid them) (cases them scalar seen around known)
    of_cases_of c.no_cases scalar seen around known = went (free functions [])
    of_cases_of (c.a_case list first rest) scalar seen around known =
        skip (labels list scalar seen known) (λ it k. bind (scoped _ (of_statement_of first around _)) (λ s k p. bind (of_cases_of rest scalar it.seen around k)
        (λ others k q. went (case_paid list first rest it.labels s others p q))))
