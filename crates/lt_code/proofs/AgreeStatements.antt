-- The code of statements does what they do.
use Rattle.std.proofs.Common.{◌≡◌, ℕ, zero, suc, ◌<◌, ◌≤◌, List, [], ◌∷◌, length, Option, Some, None, Bool, true, false, refl, sym, ap, ◌∙◌, subst, arith}
use Rattle.std.specs.Prelude.{if◌then◌else◌}
use Rattle.std.specs.List.{list_any}
use Rattle.lt_model.specs.declared.cell.Content.{Content}
use Rattle.lt_tree.specs.Typing.TypedTree as e
use Rattle.lt_tree.specs.Typing.TypedTree.{Value, Statement, Items, Cases, Label, Local}
use Rattle.lt_ir.specs.declared.variable.Variable.{Variable}
use Rattle.lt_ir.specs.declared.node.Node.TheVariants as node
use Rattle.lt_ir.specs.declared.pure.How.TheVariants as how
use Rattle.lt_ir.specs.Running.{Bound, At, Step, Over, ◌>>=◌, ◌>>◌, gives, tick, ends, without}
use Rattle.lt_ir.specs.Evaluation.{number_in, used}
use Rattle.lt_ir.specs.Tables.{arm_of}
use Rattle.lt_ir.specs.Graph.{Register, register_at, had, going, goes}
use Rattle.lt_meaning.specs.Expressions.{Around, eval, marked, wanted, dropped, untaken}
use Rattle.lt_meaning.specs.Statements.{Flow, Next, Breaks, Continues, Returns, after, next_turn, left_switch, opened, within, within_all, tested, tested_if, stepped, turns, do_turns, looped, do_looped, entry_label, exec, exec_items, exec_cases}
use Rattle.lt_code.specs.Code.{full_test}
use Rattle.lt_code.specs.Bodies.{Exits, Flows, local, locals, optional_test, optional_value, loop, do_loop, if_flows, Entry, arms_of, default_of, inside_switch, flows, items, cases}
use Rattle.lt_code.proofs.Finishing.{finish, conf, Later, later_same, later_still, through, step_at, with_bind}
use Rattle.lt_code.proofs.Nodes.{Scene, wide, Run, convert_node}
use Rattle.lt_code.proofs.FullExpressions.{tracked_at, tracked_here, Full, FullTest, full_then}
use Rattle.lt_code.proofs.MarksRun.{mark_node, later_marked}
use Rattle.lt_code.proofs.CalmSteps.{calm-number_in}
use Rattle.lt_code.proofs.CalmObjects.{through_so, ends_holds, Ended, without_first}
use Rattle.lt_code.proofs.AgreeObjects.{tick_run, opening_run}
use Rattle.lt_code.proofs.SwitchLabels.{entry_at, entry_labels, switch_entry}

module _ (z : Scene) (expr : (v : Value) → Full z v) (test : (v : Value) → FullTest z v) where
  abbrev here : Around
  here = tracked_here z

  abbrev w : ℕ
  w = wide z

  -- what follows each exit
  pub record Follows (x : Exits) (at : At) (k : Flow → At → Over) : Type 0 where
    pub next : (at1 : At) (rs : List Register) → length rs ≡ w → Later at at1 → Run z x.next rs at1 (k Next at1)
    pub back : (c : Content) (at1 : At) (rs : List Register) → length rs ≡ w → (register_at rs 0).content ≡ Some c → Later at at1 → Run z x.back rs at1 (k (Returns (Some c)) at1)
    pub leaves : (at1 : At) (rs : List Register) → length rs ≡ w → Later at at1 → Run z x.leaves rs at1 (k (Returns None) at1)
    pub breaks : (at1 : At) (rs : List Register) → length rs ≡ w → Later at at1 → Run z x.breaks rs at1 (k Breaks at1)
    pub continues : (at1 : At) (rs : List Register) → length rs ≡ w → Later at at1 → Run z x.continues rs at1 (k Continues at1)

  -- the code does what a statement does
  abbrev pub FlowRuns : Step Flow → Flows → Type 0
  FlowRuns m F = (from : ℕ) (x : Exits) → F from x → (rs : List Register) → length rs ≡ w → (at : At) → at.ticks ≤ z.most → (k : Flow → At → Over) → Follows x at k → Run z from rs at (finish (m at) k)

  later_follows : (x : Exits) (at at1 : At) (k : Flow → At → Over) → Later at at1 → Follows x at k → Follows x at1 k
  later_follows x at at1 k l h =
      record {
        next = λ at2 rs long m. h.next at2 rs long (later_still at at1 at2 l m);
        back = λ c at2 rs long e m. h.back c at2 rs long e (later_still at at1 at2 l m);
        leaves = λ at2 rs long m. h.leaves at2 rs long (later_still at at1 at2 l m);
        breaks = λ at2 rs long m. h.breaks at2 rs long (later_still at at1 at2 l m);
        continues = λ at2 rs long m. h.continues at2 rs long (later_still at at1 at2 l m);
      }

  -- what is behind a statement
  then_follows : (m : ℕ) (x : Exits) (at : At) (rest : Step Flow) (F : Flows) (k : Flow → At → Over) → at.ticks ≤ z.most → FlowRuns rest F → F m x → Follows x at k → Follows (record x { next = m }) at (λ flow at1. finish (after flow rest at1) k)
  then_follows m x at rest F k le runs has h =
      record {
        next = λ at1 rs long l. runs m x has rs long at1 (omega (arith, l.ticks)) k (later_follows x at at1 k l h);
        back = h.back;
        leaves = h.leaves;
        breaks = h.breaks;
        continues = h.continues;
      }

  -- ---- tests and effects

  test_if_run : (v : Option Value) (from on off : ℕ) → optional_test z.site v from on off → (rs : List Register) → length rs ≡ w → (at : At) → at.ticks ≤ z.most → (k : Bool → At → Over) → ((b : Bool) (at1 : At) (rs1 : List Register) → length rs1 ≡ w → Later at at1 → Run z (if b then on else off) rs1 at1 (k b at1)) → Run z from rs at (finish (tested_if here v at) k)
  test_if_run None from on off has rs long at le k h = subst (λ i. Run z i rs at (k true at)) (sym has) (h true at rs long (later_same at))
  test_if_run (Some v) from on off has rs long at le k h = test v from on off has rs long at le k h

  step_run : (v : Option Value) (from to : ℕ) → optional_value z.site v from to → (rs : List Register) → length rs ≡ w → (at : At) → at.ticks ≤ z.most → (k : Unit {0} → At → Over) → ((at1 : At) (rs1 : List Register) → length rs1 ≡ w → Later at at1 → Run z to rs1 at1 (k tt at1)) → Run z from rs at (finish (stepped here v at) k)
  step_run None from to has rs long at le k h = subst (λ i. Run z i rs at (k tt at)) (sym has) (h at rs long (later_same at))
  step_run (Some v) from to has rs long at le k h = full_then z v (expr v) dropped 0 from to has rs long at le (λ c. gives tt) k (λ x at1 rs1 a l. h at1 rs1 a.long l)

  -- one of two ways
  pick : (b : Bool) (on off : ℕ) (one other : Step Flow) (rs : List Register) (at : At) (k : Flow → At → Over) → Run z on rs at (finish (one at) k) → Run z off rs at (finish (other at) k) → Run z (if b then on else off) rs at (finish ((if b then one else other) at) k)
  pick true on off one other rs at k h1 h2 = h1
  pick false on off one other rs at k h1 h2 = h2

  -- a test, and where it leads
  if_run : (v : Value) (one other : Step Flow) (on off : Flows) → FlowRuns one on → FlowRuns other off → FlowRuns (tested here v >>= (λ holds. if holds then one else other)) (if_flows (full_test z.site v 0) on off)
  if_run v one other on off r1 r2 from x has rs long at le k h =
      with_bind z.graph _ (tested here v) _ at k (test v from has.0 has.1 has.2 rs long at le _ (λ b at2 rs2 long2 l2.
      pick b has.0 has.1 one other rs2 at2 k (r1 has.0 x has.3 rs2 long2 at2 (omega (arith, l2.ticks)) k (later_follows x at at2 k l2 h)) (r2 has.1 x has.4 rs2 long2 at2 (omega (arith, l2.ticks)) k (later_follows x at at2 k l2 h))))

  nothing_run : FlowRuns (gives Next) (λ from x. from ≡ x.next)
  nothing_run from x has rs long at le k h = subst (λ i. Run z i rs at (k Next at)) (sym has) (h.next at rs long (later_same at))

  -- ---- loops

  -- the exits of a loop's body, behind which something runs
  turn_follows : (x : Exits) (m : ℕ) (at : At) (again : Step Flow) (k : Flow → At → Over) → ((at1 : At) (rs : List Register) → length rs ≡ w → Later at at1 → Run z m rs at1 (finish (again at1) k)) → Follows x at k → Follows (record { next = m; back = x.back; leaves = x.leaves; breaks = x.next; continues = m }) at (λ flow at1. finish (next_turn flow again at1) k)
  turn_follows x m at again k runs h = record { next = runs; back = h.back; leaves = h.leaves; breaks = h.next; continues = runs }

  turns_run : (test step : Option Value) (body : Step Flow) (F : Flows) (head : ℕ) (x : Exits) → FlowRuns body F → loop z.site test step F head x → (bound : ℕ) (rs : List Register) → length rs ≡ w → (at : At) → at.ticks ≤ z.most → at.ticks < bound → (k : Flow → At → Over) → Follows x at k → Run z head rs at (finish (turns bound (tested_if here test) (stepped here step) body at) k)
  turns_run test step body F head x rb has zero rs long at le lt k h = absurd (omega arith)
  turns_run test step body F head x rb has (suc bound) rs long at le lt k h =
      tick_run z head has.0 rs at _ k has.3 (λ at1 lt1 l1.
      with_bind z.graph _ (tested_if here test) _ at1 k (test_if_run test has.0 has.1 x.next has.4 rs long at1 (omega arith) _ (λ b at2 rs2 long2 l2.
      let l02 = later_still at at1 at2 l1 l2 in
      pick b has.1 x.next _ (gives Next) rs2 at2 k
      (with_bind z.graph _ body _ at2 k (rb has.1 _ has.5 rs2 long2 at2 (omega (arith, l02.ticks)) _ (turn_follows x has.2 at2 _ k
      (λ at3 rs3 long3 l3. with_bind z.graph _ (stepped here step) _ at3 k (step_run step has.2 head has.6 rs3 long3 at3 (omega (arith, l02.ticks, l3.ticks)) _ (λ at4 rs4 long4 l4.
      turns_run test step body F head x rb has bound rs4 long4 at4 (omega (arith, l02.ticks, l3.ticks, l4.ticks)) (omega (arith, l2.ticks, l3.ticks, l4.ticks)) k (later_follows x at at4 k (later_still at at3 at4 (later_still at at2 at3 l02 l3) l4) h))))
      (later_follows x at at2 k l02 h))))
      (h.next at2 rs2 long2 l02))))

  loop_run : (test step : Option Value) (body : Step Flow) (F : Flows) → FlowRuns body F → FlowRuns (looped here test step body) (loop z.site test step F)
  loop_run test step body F rb head x has rs long at le k h = turns_run test step body F head x rb has (suc at.ticks) rs long at le (omega arith) k h

  do_turns_run : (v : Value) (body : Step Flow) (F : Flows) (head : ℕ) (x : Exits) → FlowRuns body F → do_loop z.site v F head x → (bound : ℕ) (rs : List Register) → length rs ≡ w → (at : At) → at.ticks ≤ z.most → at.ticks < bound → (k : Flow → At → Over) → Follows x at k → Run z head rs at (finish (do_turns bound (tested here v) body at) k)
  do_turns_run v body F head x rb has zero rs long at le lt k h = absurd (omega arith)
  do_turns_run v body F head x rb has (suc bound) rs long at le lt k h =
      with_bind z.graph _ body _ at k (rb head _ has.2 rs long at le _ (turn_follows x has.0 at _ k
      (λ at1 rs1 long1 l1. tick_run z has.0 has.1 rs1 at1 _ k has.3 (λ at2 lt2 l2. with_bind z.graph _ (tested here v) _ at2 k (test v has.1 head x.next has.4 rs1 long1 at2 (omega (arith, l1.ticks)) _ (λ b at3 rs3 long3 l3.
      let l03 = later_still at at2 at3 (later_still at at1 at2 l1 l2) l3 in
      pick b head x.next (do_turns bound (tested here v) body) (gives Next) rs3 at3 k
      (do_turns_run v body F head x rb has bound rs3 long3 at3 (omega (arith, l03.ticks)) (omega (arith, l1.ticks, l3.ticks)) k (later_follows x at at3 k l03 h))
      (h.next at3 rs3 long3 l03)))))
      h))

  do_run : (v : Value) (body : Step Flow) (F : Flows) → FlowRuns body F → FlowRuns (do_looped here v body) (do_loop z.site v F)
  do_run v body F rb head x has rs long at le k h = do_turns_run v body F head x rb has (suc at.ticks) rs long at le (omega arith) k h

  -- ---- variables

  -- a variable ends that is the innermost one in scope
  end_run : (v : Variable) (b i to : ℕ) (scope : List Bound) → z.site.stands i (node.End v to) → (rs : List Register) (at : At) → at.scope ≡ record { variable = v; block = b } ∷ scope → (flow : Flow) (k : Flow → At → Over) → ((at1 : At) → at1.ticks ≤ at.ticks → at1.scope ≡ scope → at1.depth ≡ at.depth → Run z to rs at1 (k flow at1)) → Run z i rs at (finish ((ends v >> gives flow) at) k)
  end_run v b i to scope has rs at in_scope flow k h =
      with_bind z.graph _ (ends v) (λ u. gives flow) at k (through_so z.graph (Ended at v) (conf z.code i rs z.stack at) (ends v at) (λ u at1. conf z.code to rs z.stack at1) _ (step_at z.graph z.code i (node.End v to) rs z.stack at (z.nodes i _ has)) (ends_holds v at) (λ u at1 ended. h at1 ended.0 (ended.1 ∙ ap (λ q. without q v) in_scope ∙ without_first v b scope) ended.2))

  within_run : (it : Local) (rest : Step Flow) (F : Flows) → FlowRuns rest F → FlowRuns (within here it rest) (local z.site it F)
  within_run it rest F runs from x has rs long at le k h =
      let v = z.site.names.variable it.object in
      let y = has.1 in
      let closes = has.4 in
      with_bind z.graph _ (opened here it) _ at k (opening_run z expr it from has.0 has.2 rs long at le _ (λ u at1 rs1 long1 began.
      with_bind z.graph _ rest _ at1 k (runs has.0 y has.3 rs1 long1 at1 (omega (arith, began.1)) _ (record {
        next = λ at2 rs2 long2 l2. end_run v began.0 y.next x.next at.scope closes.0 rs2 at2 (l2.scope ∙ began.2) Next k (λ at3 t e d. h.next at3 rs2 long2 (record { ticks = omega (arith, began.1, l2.ticks); scope = e; depth = d ∙ l2.depth ∙ began.3 }));
        back = λ c at2 rs2 long2 is l2. end_run v began.0 y.back x.back at.scope closes.1 rs2 at2 (l2.scope ∙ began.2) (Returns (Some c)) k (λ at3 t e d. h.back c at3 rs2 long2 is (record { ticks = omega (arith, began.1, l2.ticks); scope = e; depth = d ∙ l2.depth ∙ began.3 }));
        leaves = λ at2 rs2 long2 l2. end_run v began.0 y.leaves x.leaves at.scope closes.2 rs2 at2 (l2.scope ∙ began.2) (Returns None) k (λ at3 t e d. h.leaves at3 rs2 long2 (record { ticks = omega (arith, began.1, l2.ticks); scope = e; depth = d ∙ l2.depth ∙ began.3 }));
        breaks = λ at2 rs2 long2 l2. end_run v began.0 y.breaks x.breaks at.scope closes.3 rs2 at2 (l2.scope ∙ began.2) Breaks k (λ at3 t e d. h.breaks at3 rs2 long2 (record { ticks = omega (arith, began.1, l2.ticks); scope = e; depth = d ∙ l2.depth ∙ began.3 }));
        continues = λ at2 rs2 long2 l2. end_run v began.0 y.continues x.continues at.scope closes.4 rs2 at2 (l2.scope ∙ began.2) Continues k (λ at3 t e d. h.continues at3 rs2 long2 (record { ticks = omega (arith, began.1, l2.ticks); scope = e; depth = d ∙ l2.depth ∙ began.3 }));
      }))))

  locals_run : (its : List Local) (rest : Step Flow) (F : Flows) → FlowRuns rest F → FlowRuns (within_all here its rest) (locals z.site its F)
  locals_run [] rest F runs from x has rs long at le k h = runs from x has rs long at le k h
  locals_run (it ∷ its) rest F runs from x has rs long at le k h = within_run it (within_all here its rest) (locals z.site its F) (locals_run its rest F runs) from x has rs long at le k h

  -- ---- statements

  -- a tick, and then what flows
  ticked_run : (m : Step Flow) (F : Flows) → FlowRuns m F → FlowRuns (tick >> m) (λ from x. (i : ℕ) × z.site.stands from (node.Tick i) × F i x)
  ticked_run m F runs from x has rs long at le k h = tick_run z from has.0 rs at m k has.1 (λ at1 lt l1. runs has.0 x has.2 rs long at1 (omega arith) k (later_follows x at at1 k l1 h))

  mutual
    pub stmt_run : (body : Statement) → FlowRuns (exec here body) (flows z.site body)
    stmt_run (e.Compound its) from x has rs long at le k h = items_run its from x has rs long at le k h
    stmt_run (e.Evaluates v) from x has rs long at le k h =
        tick_run z from has.0 rs at _ k has.1 (λ at1 lt l1. full_then z v (expr v) untaken 0 has.0 x.next has.2 rs long at1 (omega arith) (λ c. gives Next) k (λ y at2 rs2 a2 l2. h.next at2 rs2 a2.long (later_still at at1 at2 l1 l2)))
    stmt_run e.Null from x has rs long at le k h = tick_run z from x.next rs at (gives Next) k has (λ at1 lt l1. h.next at1 rs long l1)
    stmt_run (e.If v body) from x has rs long at le k h = ticked_run _ _ (if_run v (exec here body) (gives Next) (flows z.site body) _ (stmt_run body) nothing_run) from x has rs long at le k h
    stmt_run (e.IfElse v body other) from x has rs long at le k h =
        ticked_run _ _ (if_run v (exec here body) (exec here other) (flows z.site body) (flows z.site other) (stmt_run body) (stmt_run other)) from x has rs long at le k h
    stmt_run (e.While v body) from x has rs long at le k h = ticked_run _ _ (loop_run (Some v) None (exec here body) (flows z.site body) (stmt_run body)) from x has rs long at le k h
    stmt_run (e.Do body v) from x has rs long at le k h = ticked_run _ _ (do_run v (exec here body) (flows z.site body) (stmt_run body)) from x has rs long at le k h
    stmt_run (e.For e.Nothing test step body) from x has rs long at le k h = ticked_run _ _ (loop_run test step (exec here body) (flows z.site body) (stmt_run body)) from x has rs long at le k h
    stmt_run (e.For (e.First v) test step body) from x has rs long at le k h =
        tick_run z from has.0 rs at _ k has.1 (λ at1 lt l1. full_then z v (expr v) dropped 0 has.0 has.2.0 has.2.1 rs long at1 (omega arith) (λ c. looped here test step (exec here body)) k (λ y at2 rs2 a2 l2.
        loop_run test step (exec here body) (flows z.site body) (stmt_run body) has.2.0 x has.2.2 rs2 a2.long at2 (omega (arith, l2.ticks)) k (later_follows x at at2 k (later_still at at1 at2 l1 l2) h)))
    stmt_run (e.For (e.Locals its) test step body) from x has rs long at le k h =
        ticked_run _ _ (locals_run its (looped here test step (exec here body)) (loop z.site test step (flows z.site body)) (loop_run test step (exec here body) (flows z.site body) (stmt_run body))) from x has rs long at le k h
    stmt_run (e.Switch v its) from x has rs long at le k h =
        let Q = has.2.2 in
        let entries = Q.1 in
        let i = has.2.0 in
        tick_run z from has.0 rs at _ k has.1 (λ at1 lt l1. with_bind z.graph _ (eval here wanted v >>= (λ y. number_in y.value)) _ at1 k (full_then z v (expr v) wanted 0 has.0 i has.2.1 rs long at1 (omega arith) number_in _ (λ y at2 rs2 a2 l2.
        through z.graph at2 (conf z.code i rs2 z.stack at2) (number_in y.value at2) (λ n at3. conf z.code (arm_of (arms_of entries) (default_of entries x.next) n) rs2 z.stack at3) _ (step_at z.graph z.code i (node.Switch 0 (arms_of entries) Q.2 (default_of entries x.next)) rs2 z.stack at2 (z.nodes i _ Q.3) ∙ ap (λ c. going (had c >>= number_in) at2 (λ n. goes (conf z.code i rs2 z.stack at2) (arm_of (arms_of entries) (default_of entries x.next) n))) (a2.content refl)) (calm-number_in y.value at2) (λ n at3 l3.
        let l03 = later_still at at2 at3 (later_still at at1 at2 l1 l2) l3 in
        with_bind z.graph _ (exec_cases here (entry_label n its) false its) _ at3 k (subst (λ i. Run z i rs2 at3 (finish (exec_cases here (entry_label n its) false its at3) (λ flow at4. k (left_switch flow) at4))) (sym (switch_entry z.site its entries Q.0 x.next (inside_switch x) n Q.4)) (cases_run its (entry_label n its) entries Q.0 (inside_switch x) Q.4 rs2 a2.long at3 (omega (arith, l03.ticks)) (λ flow at4. k (left_switch flow) at4) (record {
          next = λ at4 rs4 long4 l4. h.next at4 rs4 long4 (later_still at at3 at4 l03 l4);
          back = λ c at4 rs4 long4 is l4. h.back c at4 rs4 long4 is (later_still at at3 at4 l03 l4);
          leaves = λ at4 rs4 long4 l4. h.leaves at4 rs4 long4 (later_still at at3 at4 l03 l4);
          breaks = λ at4 rs4 long4 l4. h.next at4 rs4 long4 (later_still at at3 at4 l03 l4);
          continues = λ at4 rs4 long4 l4. h.continues at4 rs4 long4 (later_still at at3 at4 l03 l4);
        })))))))
    stmt_run e.Break from x has rs long at le k h = tick_run z from x.breaks rs at (gives Breaks) k has (λ at1 lt l1. h.breaks at1 rs long l1)
    stmt_run e.Continue from x has rs long at le k h = tick_run z from x.continues rs at (gives Continues) k has (λ at1 lt l1. h.continues at1 rs long l1)
    stmt_run (e.Return None) from x has rs long at le k h = tick_run z from x.leaves rs at (gives (Returns None)) k has (λ at1 lt l1. h.leaves at1 rs long l1)
    stmt_run (e.Return (Some v)) from x has rs long at le k h =
        let P = has.1 in
        tick_run z from P.0 rs at _ k P.1 (λ at1 lt l1. with_bind z.graph _ (eval here wanted v >>= (λ y. used y.value)) (λ c. gives (Returns (Some c))) at1 k (full_then z v (expr v) wanted 0 P.0 P.2.0 P.2.1 rs long at1 (omega arith) used _ (λ y at2 rs2 a2 l2.
        convert_node z P.2.0 0 0 x.back how.ToValue rs2 at2 y.value _ P.2.2 (omega (arith, a2.long, has.0)) (a2.content refl) (λ c at3 rs3 re l3.
        h.back c at3 rs3 (re.long ∙ a2.long) re.content (later_still at at2 at3 (later_still at at1 at2 l1 l2) l3)))))

    pub items_run : (its : Items) → FlowRuns (exec_items here its) (items z.site its)
    items_run e.no_items from x has rs long at le k h = nothing_run from x has rs long at le k h
    items_run (e.a_local it rest) from x has rs long at le k h = within_run it (exec_items here rest) (items z.site rest) (items_run rest) from x has rs long at le k h
    items_run (e.a_statement first rest) from x has rs long at le k h =
        with_bind z.graph _ (exec here first) _ at k (stmt_run first from (record x { next = has.0 }) has.1 rs long at le _ (then_follows has.0 x at (exec_items here rest) (items z.site rest) k le (items_run rest) has.2 h))
    items_run (e.a_label label rest) from x has rs long at le k h =
        let l = later_marked (tracked_at true z) label at in
        mark_node (tracked_at true z) label from has.0 has.1 rs at _ (items_run rest has.0 x has.2 rs long (marked here label at) (omega (arith, l.ticks)) k (later_follows x at (marked here label at) k l h))

    -- from the label on
    cases_run : (its : Cases) (entry : Label → Bool) (entries : List Entry) (from : ℕ) (x : Exits) → cases z.site its entries from x → (rs : List Register) → length rs ≡ w → (at : At) → at.ticks ≤ z.most → (k : Flow → At → Over) → Follows x at k → Run z (entry_at entry entries x.next) rs at (finish (exec_cases here entry false its at) k)
    cases_run e.no_cases entry entries from x has rs long at le k h =
        subst (λ q. Run z (entry_at entry q x.next) rs at (k Next at)) (sym has.0) (h.next at rs long (later_same at))
    cases_run (e.a_case labels first rest) entry entries from x has rs long at le k h =
        subst (λ i. Run z i rs at (finish (exec_cases here entry false (e.a_case labels first rest) at) k)) (sym (ap (λ q. entry_at entry q x.next) has.2 ∙ entry_labels entry labels from has.1 x.next))
        (pick (list_any entry labels) from (entry_at entry has.1 x.next) _ (exec_cases here entry false rest) rs at k (with_bind z.graph _ (exec here first) _ at k (stmt_run first from (record x { next = has.0 }) has.3 rs long at le _ (then_follows has.0 x at (exec_cases here entry true rest) (cases z.site rest has.1) k le (rest_run rest entry has.1) has.4 h))) (cases_run rest entry has.1 has.0 x has.4 rs long at le k h))

    -- behind the label
    rest_run : (its : Cases) (entry : Label → Bool) (entries : List Entry) → FlowRuns (exec_cases here entry true its) (cases z.site its entries)
    rest_run e.no_cases entry entries from x has rs long at le k h = nothing_run from x has.1 rs long at le k h
    rest_run (e.a_case labels first rest) entry entries from x has rs long at le k h =
        with_bind z.graph _ (exec here first) _ at k (stmt_run first from (record x { next = has.0 }) has.3 rs long at le _ (then_follows has.0 x at (exec_cases here entry true rest) (cases z.site rest has.1) k le (rest_run rest entry has.1) has.4 h))
