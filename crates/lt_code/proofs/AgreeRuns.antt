-- The code of calls and whole runs does what they do.
use Rattle.std.proofs.Common.{◌≡◌, ℕ, zero, suc, ◌<◌, ◌≤◌, List, [], ◌∷◌, length, Option, Some, None, Bool, true, false, refl, sym, ap, ◌∙◌, subst, arith}
use Rattle.std.specs.Prelude.{if◌then◌else◌, slice_get, not, ◌&&◌, map}
use Rattle.lt_model.specs.declared.cell.Content.{Content}
use Rattle.lt_model.specs.declared.cell.Content.TheVariants as content
use Rattle.lt_model.specs.declared.input.Input.{Input}
use Rattle.lt_model.specs.declared.run.End.{End as RunEnd}
use Rattle.lt_tree.specs.Typing.Types.{CType, is_void}
use Rattle.lt_tree.specs.Typing.Entities.{Function}
use Rattle.lt_tree.specs.Typing.Programs.{Program}
use Rattle.lt_model.specs.State.{Gives, Ends}
use Rattle.lt_ir.specs.declared.graph.Graph.{Graph}
use Rattle.lt_ir.specs.declared.code.Code.{Code}
use Rattle.lt_ir.specs.declared.node.Given.{Given}
use Rattle.lt_ir.specs.declared.node.Node.{Node}
use Rattle.lt_ir.specs.declared.node.Node.TheVariants as node
use Rattle.lt_ir.specs.Running.{At, Answer, Step, Over, over, ◌>>=◌, ◌>>◌, gives, spent, one_deeper, statics_of, with_scope, begin_parameters, stub_value}
use Rattle.lt_ir.specs.Evaluation.{valued, store_parameters}
use Rattle.lt_ir.specs.Starting.{started, nowhere}
use Rattle.lt_ir.specs.Graph as g
use Rattle.lt_ir.specs.Graph.{Frame, Register, Goes, Stops, register_at, footprint_at, contents_from, blanks, going, goes, node_at, code_at, steps, next_of, shapes_in, names_in, entering, targets, are_static, one_less, given as given_in, returns, launch, Runs}
use Rattle.lt_ir.proofs.OneWay.{one_end}
use Rattle.lt_meaning.specs.Expressions.{Calls}
use Rattle.lt_meaning.specs.Statements.{Flow}
use Rattle.lt_meaning.specs.Runs.{initials, stops, without_body, shapes_of, back, value_of_call, body_of, with_body, function_among, call_of, invoke, name_of_object, over_by, run}
use Rattle.lt_code.specs.Pieces.{Stands, either, when, one}
use Rattle.lt_code.specs.Code.{number_among, taken_into, next_for, call_by_number}
use Rattle.lt_code.specs.Bodies.{parameters_of, HasCode, Lowered, HasProgram}
use Rattle.lt_code.proofs.Finishing.{finish, Finishes, conf, Later, later_same, later_still, go, stop, through, step_at, with_bind}
use Rattle.lt_code.proofs.Registers.{After, replaced_set}
use Rattle.lt_code.proofs.Sequences.{CallsRun}
use Rattle.lt_code.proofs.CalmSteps.{calm-stub_value}
use Rattle.lt_code.proofs.CalmObjects.{Holds, through_so, Ticked, tick_holds}
use Rattle.lt_code.proofs.CalmRuns.{bind_assoc, bind_same, slow_started}
use Rattle.lt_code.proofs.AgreeBodies.{Found, found, shapes_same, names_same, enters, enters_same, Entered, enters_holds, one_less_of, scene_of, body_run}

after_written : (is_taken : Bool) (w r : ℕ) (rs : List Register) (c : Content) → r < w → length rs ≡ w → After is_taken w r rs (targets rs (taken_into is_taken r) c) (valued c (footprint_at rs r))
after_written true w r rs c lt long =
    let h = replaced_set r c rs (omega arith) in
    record { content = λ e. h.content; footprint = h.footprints r; below = λ i under. h.others i (λ e. absurd (omega arith)); long = h.long ∙ long }
after_written false w r rs c lt long = record { content = λ e. absurd (cc); footprint = refl; below = λ i h. refl; long = long }

-- what a call with a body does, its entering first
with_body_same : (program : Program) (calls : Calls) (fun : Function) (xs : List Content) (at : At) → (enters program fun.parameters xs at >> (body_of program calls fun >>= (λ flow. back at >> gives (value_of_call fun flow)))) at ≡ with_body program calls fun xs at
with_body_same program calls fun xs at =
    let rest : Step Content = body_of program calls fun >>= (λ flow. back at >> gives (value_of_call fun flow)) in
    let begins_them = begin_parameters 0 (shapes_of program fun.parameters) in
    let stores_them = store_parameters program.model 0 (shapes_of program fun.parameters) xs in
    bind_assoc one_deeper (λ u. with_scope (statics_of at.scope) >> (begins_them >> stores_them)) (λ u. rest) at
    ∙ bind_same one_deeper (λ u. (with_scope (statics_of at.scope) >> (begins_them >> stores_them)) >> rest) (λ u. with_scope (statics_of at.scope) >> (begins_them >> (stores_them >> rest))) (λ u at1.
    bind_assoc (with_scope (statics_of at.scope)) (λ u. begins_them >> stores_them) (λ u. rest) at1
    ∙ bind_same (with_scope (statics_of at.scope)) (λ u. (begins_them >> stores_them) >> rest) (λ u. begins_them >> (stores_them >> rest)) (λ u at2. bind_assoc begins_them (λ u. stores_them) (λ u. rest) at2) at1) at

-- what follows a call
abbrev Follows : Graph → (f : ℕ) (stack : List Frame) → (is_taken : Bool) → (w r to : ℕ) → List Register → At → (Content → At → Over) → Type 0
Follows graph f stack is_taken w r to rs at k = (c : Content) (at1 : At) (rs1 : List Register) → After is_taken w r rs rs1 (valued c (footprint_at rs r)) → Later at at1 → Finishes graph (conf f to rs1 stack at1) (k c at1)

-- a function without a body
missing_run : (graph : Graph) (f : ℕ) (stack : List Frame) (P : Stands) (nodes : (i : ℕ) (m : Node) → P i m → node_at graph f i ≡ Some m) (is_taken : Bool) (name : List ℕ) (t : CType) (w r count i to : ℕ) → call_by_number P graph.stubs is_taken name t r count None i to → (rs : List Register) → length rs ≡ w → r < w → (at : At) (k : Content → At → Over) → Follows graph f stack is_taken w r to rs at k → Finishes graph (conf f i rs stack at) (finish (without_body name t is_taken at) k)
missing_run graph f stack P nodes is_taken name t w r count i to has rs long lt at k h = by_name (stops name) is_taken (is_void t) has h
  where
    by_name : (b b1 b2 : Bool) → either b (λ from to. P from node.Stop) (when b1 (either b2 (one P (node.Constant r content.Unset true)) (next_for P graph.stubs name r))) i to → Follows graph f stack b1 w r to rs at k → Finishes graph (conf f i rs stack at) (finish ((if b then over RunEnd.Stopped else (if b1 && not b2 then stub_value name else gives content.Unset)) at) k)
    by_name true b1 b2 has h = stop graph _ _ at (step_at graph f i node.Stop rs stack at (nodes i _ has))
    by_name false true true has h = go graph _ _ _ (step_at graph f i (node.Constant r content.Unset true to) rs stack at (nodes i _ has)) (h content.Unset at _ (after_written true w r rs content.Unset lt long) (later_same at))
    by_name false true false has h =
        through graph at (conf f i rs stack at) (stub_value name at) (λ x at1. conf f to (targets rs (Some r) x) stack at1) k (step_at graph f i (node.Stub has.0 r to) rs stack at (nodes i _ has.2) ∙ ap (λ o. g.stub_for o r (conf f i rs stack at) to) has.1) (calm-stub_value name at) (λ x at1 l. h x at1 _ (after_written true w r rs x lt long) l)
    by_name false false b2 has h = subst (λ j. Finishes graph (conf f j rs stack at) (k content.Unset at)) (sym has) (h content.Unset at rs (after_written false w r rs content.Unset lt long) (later_same at))

module _ (graph : Graph) (program : Program) (low : HasProgram program graph) where
  -- the value of a call goes back to its caller
  back_run : (left : Given) (fun : Function) (flow : Flow) (f fn to r i : ℕ) (is_taken : Bool) (rs rs1 : List Register) (stack : List Frame) (at at1 : At) (o : Over) → node_at graph fn i ≡ Some (node.Return left) → ((at : At) → given_in rs1 left at ≡ Gives (value_of_call fun flow) at) → are_static at1.scope ≡ true → one_less at1.depth ≡ at.depth → Finishes graph (conf f to (targets rs (taken_into is_taken r) (value_of_call fun flow)) stack (record at1 { scope = at.scope; depth = at.depth })) o → Finishes graph (conf fn i rs1 (record { code = f; place = to; target = taken_into is_taken r; registers = rs; scope = at.scope } ∷ stack) at1) o
  back_run left fun flow f fn to r i is_taken rs rs1 stack at at1 o stands gives_it static depth h =
      let frame : Frame = record { code = f; place = to; target = taken_into is_taken r; registers = rs; scope = at.scope } in
      let c = value_of_call fun flow in
      go graph _ _ o (step_at graph fn i (node.Return left) rs1 (frame ∷ stack) at1 stands
      ∙ ap (λ a. elim (a) as (λ q. g.Next) [ Gives x at2 ↦ returns (frame ∷ stack) x at2 | Ends end at2 ↦ Stops end at2 ]) (gives_it at1)
      ∙ ap (λ b. if b then Goes (conf f to (targets rs (taken_into is_taken r) c) stack (record at1 { scope = at.scope; depth = one_less at1.depth })) else Stops RunEnd.Stopped at1) static
      ∙ ap (λ d. Goes (conf f to (targets rs (taken_into is_taken r) c) stack (record at1 { scope = at.scope; depth = d }))) depth) h

  -- a function with a body
  entered_run : (n : ℕ) → CallsRun graph program (invoke program n) n → (f : ℕ) (P : Stands) (nodes : (i : ℕ) (m : Node) → P i m → node_at graph f i ≡ Some m) (j w r count to fn : ℕ) (is_taken : Bool) → P j (node.Call fn (taken_into is_taken r) r count to) → (fun : Function) (code : Code) (is : code_at graph fn ≡ Some code) → HasCode program graph.labels graph.stubs fun code → (rs : List Register) (stack : List Frame) (at : At) → length rs ≡ w → r < w → at.ticks ≤ n → (xs : List Content) → ((at1 : At) → contents_from rs r count at1 ≡ Gives xs at1) → (k : Content → At → Over) → Follows graph f stack is_taken w r to rs at k → Finishes graph (conf f j rs stack at) (finish (with_body program (invoke program n) fun xs at) k)
  entered_run n ok f P nodes j w r count to fn is_taken has fun code is has_code rs stack at long lt le xs e k h =
      let ps = fun.parameters in
      let frame : Frame = record { code = f; place = to; target = taken_into is_taken r; registers = rs; scope = at.scope } in
      let enter : Answer (Unit {0}) → g.Next = λ a. elim (a) as (λ q. g.Next) [ Gives u at1 ↦ Goes (conf fn code.start (blanks code.registers) (frame ∷ stack) at1) | Ends end at1 ↦ Stops end at1 ] in
      let rest : Step Content = body_of program (invoke program n) fun >>= (λ flow. back at >> gives (value_of_call fun flow)) in
      subst (λ a. Finishes graph (conf f j rs stack at) (finish a k)) (with_body_same program (invoke program n) fun xs at)
      (with_bind graph _ (enters program ps xs at) (λ u. rest) at k (through_so graph (Entered ps at) (conf f j rs stack at) (enters program ps xs at at) (λ u at1. conf fn code.start (blanks code.registers) (frame ∷ stack) at1) _
      (step_at graph f j (node.Call fn (taken_into is_taken r) r count to) rs stack at (nodes j _ has)
      ∙ ap (λ q. g.calls graph.model q (conf f j rs stack at) fn (taken_into is_taken r) r count to) is
      ∙ ap (λ a. enter (elim (a) as (λ q. Answer (Unit {0})) [ Gives ys at1 ↦ entering graph.model code ys at1 | Ends end at1 ↦ Ends end at1 ])) (e at)
      ∙ ap enter (enters_same program ps xs graph.model low.model code has_code.params at))
      (enters_holds program ps xs at) (λ u at1 entered.
      with_bind graph _ (body_of program (invoke program n) fun) _ at1 k (body_run graph program low.model (invoke program n) n ok fn (frame ∷ stack) fun code is has_code at1 (omega (arith, entered.0)) _ (λ flow at2 i rs2 left t d sc.
      back_run left.0 fun flow f fn to r i is_taken rs rs2 stack at at2 _ ((scene_of graph program low.model (invoke program n) n fn (frame ∷ stack) fun code is).nodes i _ left.1) left.2 (ap are_static sc ∙ entered.2) (one_less_of at2.depth at.depth (d ∙ entered.1))
      (h (value_of_call fun flow) (record at2 { scope = at.scope; depth = at.depth }) _ (after_written is_taken w r rs (value_of_call fun flow) lt long) (record { ticks = omega (arith, entered.0); scope = refl; depth = refl })))))))

  -- the call itself
  call_run : (n : ℕ) → CallsRun graph program (invoke program n) n → (f : ℕ) (P : Stands) (nodes : (i : ℕ) (m : Node) → P i m → node_at graph f i ≡ Some m) (j w r count to : ℕ) (name : List ℕ) (t : CType) (is_taken : Bool) (o : Option ℕ) (q : Option Function) → call_by_number P graph.stubs is_taken name t r count o j to → Found program.functions 0 o q → (rs : List Register) (stack : List Frame) (at : At) → length rs ≡ w → r < w → at.ticks ≤ n → (xs : List Content) → ((at1 : At) → contents_from rs r count at1 ≡ Gives xs at1) → (k : Content → At → Over) → Follows graph f stack is_taken w r to rs at k → Finishes graph (conf f j rs stack at) (finish ((elim (q) as (λ z. Step Content) [ None ↦ without_body name t is_taken | Some fun ↦ with_body program (invoke program n) fun xs ]) at) k)
  call_run n ok f P nodes j w r count to name t is_taken None None has fd rs stack at long lt le xs e k h = missing_run graph f stack P nodes is_taken name t w r count j to has rs long lt at k h
  call_run n ok f P nodes j w r count to name t is_taken None (Some fun) has fd rs stack at long lt le xs e k h = absurd fd
  call_run n ok f P nodes j w r count to name t is_taken (Some i) None has fd rs stack at long lt le xs e k h = absurd fd
  call_run n ok f P nodes j w r count to name t is_taken (Some i) (Some fun) has fd rs stack at long lt le xs e k h =
      let number : i ≡ fd.0 = omega (arith, fd.1) in
      let there : slice_get program.functions i ≡ Some fun = ap (slice_get program.functions) number ∙ fd.2 in
      by_code (code_at graph i) refl (subst (λ p. Lowered program graph.labels graph.stubs p (slice_get graph.codes i)) there (low.each i))
    where
      by_code : (z : Option Code) → code_at graph i ≡ z → Lowered program graph.labels graph.stubs (Some fun) z → Finishes graph (conf f j rs stack at) (finish (with_body program (invoke program n) fun xs at) k)
      by_code None is l = absurd l
      by_code (Some code) is l = entered_run n ok f P nodes j w r count to i is_taken has fun code is l rs stack at long lt le xs e k h

  pub calls_run : (n : ℕ) → CallsRun graph program (invoke program n) n
  calls_run zero =
      record {
        by = λ P f nodes i j w r count to name t is_taken hi hj rs stack at long lt le xs e k h.
            let none_are : at.ticks ≡ 0 = omega arith in
            stop graph (conf f i rs stack at) RunEnd.Steps at (step_at graph f i (node.Tick j) rs stack at (nodes i _ hi) ∙ ap (λ d. going (λ a. spent d a) at (λ u. goes (conf f i rs stack at) j)) none_are);
      }
  calls_run (suc n) =
      record {
        by = λ P f nodes i j w r count to name t is_taken hi hj rs stack at long lt le xs e k h.
            with_bind graph _ (λ a. spent a.ticks a) (λ u. call_of program (invoke program n) name t xs is_taken) at k (through_so graph (Ticked at) (conf f i rs stack at) (spent at.ticks at) (λ u at1. conf f j rs stack at1) _ (step_at graph f i (node.Tick j) rs stack at (nodes i _ hi)) (tick_holds at) (λ u at1 l1.
            call_run n (calls_run n) f P nodes j w r count to name t is_taken (number_among 0 name program.functions) (function_among name program.functions) hj (found 0 name program.functions) rs stack at1 long lt (omega (arith, l1.0)) xs e k (λ c at2 rs1 a l2. h c at2 rs1 a (later_still at at1 at2 (record { ticks = omega (arith, l1.0); scope = l1.1; depth = l1.2 }) l2))));
      }

  -- ---- runs

  over_same : (a : Answer Flow) → over_by a ≡ finish a (λ flow at. record { end = RunEnd.Returned; at = at })
  over_same (Gives flow at) = refl
  over_same (Ends end at) = refl

  -- from the start on
  started_run : (f : ℕ) (fun : Function) (code : Code) (ticks : ℕ) (is : code_at graph f ≡ Some code) → HasCode program graph.labels graph.stubs fun code → (a : Answer (Unit {0})) → Holds (λ u at. at.ticks ≤ ticks) a → (count : ℕ) × (next_of (elim (a) as (λ q. g.Next) [ Gives u at ↦ Goes (conf f code.start (blanks code.registers) [] at) | Ends end at ↦ Stops end at ]) (steps graph count) ≡ Some (over_by (elim (a) as (λ q. Answer Flow) [ Gives u at ↦ body_of program (invoke program (suc ticks)) fun at | Ends end at ↦ Ends end at ])))
  started_run f fun code ticks is has (Ends end at) le = (0, refl)
  started_run f fun code ticks is has (Gives u at) le =
      let n = suc ticks in
      let h = body_run graph program low.model (invoke program n) n (calls_run n) f [] fun code is has at (omega arith) (λ flow at1. record { end = RunEnd.Returned; at = at1 }) (λ flow at1 i rs left t d sc.
      stop graph (conf f i rs [] at1) RunEnd.Returned at1 (step_at graph f i (node.Return left.0) rs [] at1 ((scene_of graph program low.model (invoke program n) n f [] fun code is).nodes i _ left.1) ∙ ap (λ a. elim (a) as (λ q. g.Next) [ Gives x at2 ↦ returns [] x at2 | Ends end at2 ↦ Stops end at2 ]) (left.2 at1))) in
      (h.count, h.is ∙ ap Some (sym (over_same (body_of program (invoke program n) fun at))))

  -- the run of the program is a run of its graph
  pub agrees : (f : ℕ) (fun : Function) → slice_get program.functions f ≡ Some fun → (input : Input) (ticks : ℕ) → Runs graph f input ticks (run program fun input ticks)
  agrees f fun is_fun input ticks = by_code (code_at graph f) refl (subst (λ p. Lowered program graph.labels graph.stubs p (slice_get graph.codes f)) is_fun (low.each f))
    where
      by_code : (z : Option Code) → code_at graph f ≡ z → Lowered program graph.labels graph.stubs (Some fun) z → Runs graph f input ticks (run program fun input ticks)
      by_code None is l = absurd l
      by_code (Some code) is l =
          let at0 = nowhere input ticks in
          let names = map (name_of_object program) fun.parameters in
          let shapes = shapes_of program fun.parameters in
          let statics = initials program program.objects in
          let begin : Answer (Unit {0}) → g.Next = λ a. elim (a) as (λ q. g.Next) [ Gives u at ↦ Goes (conf f code.start (blanks code.registers) [] at) | Ends end at ↦ Stops end at ] in
          let here : launch graph (code_at graph f) f input ticks ≡ begin (started program.model statics names shapes input at0) = ap (λ q. launch graph q f input ticks) is
          ∙ ap (λ m. begin (started m graph.statics (names_in code.params) (shapes_in code.params) input at0)) low.model
          ∙ ap (λ l. begin (started program.model l (names_in code.params) (shapes_in code.params) input at0)) low.statics
          ∙ ap (λ ps. begin (started program.model statics (names_in ps) (shapes_in ps) input at0)) l.params
          ∙ ap (λ l. begin (started program.model statics l (shapes_in (parameters_of program fun.parameters)) input at0)) (names_same program fun.parameters)
          ∙ ap (λ l. begin (started program.model statics names l input at0)) (shapes_same program fun.parameters) in
          let h = started_run f fun code ticks is l (started program.model statics names shapes input at0) (slow_started program.model statics names shapes input at0) in
          record { count = h.0; is = ap (λ m. next_of m (steps graph h.0)) here ∙ h.1 }

-- a run of the graph is the program's
pub only_run : (graph : Graph) (program : Program) → HasProgram program graph → (f : ℕ) (fun : Function) → slice_get program.functions f ≡ Some fun → (input : Input) (ticks : ℕ) (o : Over) → Runs graph f input ticks o → o ≡ run program fun input ticks
only_run graph program low f fun is input ticks o h = one_end graph f input ticks o (run program fun input ticks) h (agrees graph program low f fun is input ticks)
