-- The code of a function's body does what the body does.
use Rattle.std.proofs.Common.{◌≡◌, ℕ, zero, suc, ◌+◌, ◌<◌, ◌≤◌, List, [], ◌∷◌, length, Option, Some, None, Bool, true, false, refl, sym, ap, ◌∙◌, subst, arith}
use Rattle.std.specs.Prelude.{if◌then◌else◌, slice_get, nat_lt, map}
use Rattle.std.specs.Str.{bytes_eq}
use Rattle.lt_model.specs.declared.cell.Content.{Content}
use Rattle.lt_model.specs.declared.scalar.DataModel.{DataModel}
use Rattle.lt_model.specs.declared.run.End.{End as RunEnd}
use Rattle.lt_tree.specs.Typing.Entities.{Function}
use Rattle.lt_tree.specs.Typing.Programs.{Program}
use Rattle.lt_model.specs.State.{Gives, Ends}
use Rattle.lt_ir.specs.declared.variable.Variable.{Variable}
use Rattle.lt_ir.specs.declared.variable.Variable.TheVariants as variable
use Rattle.lt_ir.specs.declared.graph.Graph.{Graph}
use Rattle.lt_ir.specs.declared.code.Code.{Code}
use Rattle.lt_ir.specs.declared.node.Given.{Given}
use Rattle.lt_ir.specs.declared.node.Given.TheVariants as given
use Rattle.lt_ir.specs.declared.node.Node.TheVariants as node
use Rattle.lt_ir.specs.Running.{At, Answer, Step, Over, ◌>>◌, gives, most_calls, ends, seals, one_deeper, statics_of, with_scope, begin_parameters, end_parameters, without}
use Rattle.lt_ir.specs.Evaluation.{store_parameters}
use Rattle.lt_ir.specs.Graph.{Frame, Register, register_at, had, blanks, shapes_in, names_in, entering, are_static, one_less, given as given_in, structs_of, locals_of, nodes_of, code_at}
use Rattle.lt_meaning.specs.Expressions.{Calls, shape}
use Rattle.lt_meaning.specs.Statements.{Flow, Next, Breaks, Continues, Returns, exec_items, is_sealed_object, type_of_object}
use Rattle.lt_meaning.specs.Runs.{shapes_of, seal_parameters, value_at_end, value_of_call, body_of, function_among, name_of_object}
use Rattle.lt_code.specs.Code.{number_among}
use Rattle.lt_code.specs.Bodies.{sealed_if, parameters_end, parameters_sealed, parameters_of, stands_in, site_of, HasCode}
use Rattle.lt_code.proofs.Finishing.{finish, Finishes, conf, Later, Keeps, later_same, later_still, through, step_at, with_bind}
use Rattle.lt_code.proofs.Nodes.{Scene, Run}
use Rattle.lt_code.proofs.Sequences.{CallsRun}
use Rattle.lt_code.proofs.FullExpressions.{tracked_here, full_runs, full_tests}
use Rattle.lt_code.proofs.CalmObjects.{Holds, through_so, calm-seals, ends_holds, Ended, deeper_holds, Deeper}
use Rattle.lt_code.proofs.CalmRuns.{holds_bind, dropped, dropped_begun, statics_are_static, Begun, begin_holds, calm_parameters}
use Rattle.lt_code.proofs.AgreeStatements.{items_run}

-- ---- names of functions

-- a number and a function say the same of a list
abbrev pub Found : List Function → ℕ → Option ℕ → Option Function → Type 0
Found fs k None None = Unit {0}
Found fs k (Some j) (Some fun) = (i : ℕ) × (j ≡ k + i) × (slice_get fs i ≡ Some fun)
Found fs k None (Some fun) = ⊥
Found fs k (Some j) None = ⊥

found_here : (f : Function) (fs : List Function) (k : ℕ) (b : Bool) (o : Option ℕ) (q : Option Function) → Found fs (suc k) o q → Found (f ∷ fs) k (if b then Some k else o) (if b then Some f else q)
found_here f fs k true o q h = (0, omega arith, refl)
found_here f fs k false None None h = tt
found_here f fs k false (Some j) (Some fun) h = (suc h.0, omega (arith, h.1), h.2)
found_here f fs k false None (Some fun) h = absurd h
found_here f fs k false (Some j) None h = absurd h

pub found : (k : ℕ) (name : List ℕ) (fs : List Function) → Found fs k (number_among k name fs) (function_among name fs)
found k name [] = tt
found k name (f ∷ fs) = found_here f fs k (bytes_eq f.name name) (number_among (suc k) name fs) (function_among name fs) (found (suc k) name fs)

-- ---- what is entered

pub long_blanks : (n : ℕ) → length (blanks n) ≡ n
long_blanks zero = refl
long_blanks (suc n) = ap suc (long_blanks n)

pub shapes_same : (program : Program) (ps : List ℕ) → shapes_in (parameters_of program ps) ≡ shapes_of program ps
shapes_same program [] = refl
shapes_same program (p ∷ ps) = ap (λ l. shape program (type_of_object program p) ∷ l) (shapes_same program ps)

pub names_same : (program : Program) (ps : List ℕ) → names_in (parameters_of program ps) ≡ map (name_of_object program) ps
names_same program [] = refl
names_same program (p ∷ ps) = ap (λ l. name_of_object program p ∷ l) (names_same program ps)

-- the parameters of a function, with their values, in the scope of its body
abbrev pub enters : Program → List ℕ → List Content → At → Step (Unit {0})
enters program ps xs before = one_deeper >> (with_scope (statics_of before.scope) >> (begin_parameters 0 (shapes_of program ps) >> store_parameters program.model 0 (shapes_of program ps) xs))

pub enters_same : (program : Program) (ps : List ℕ) (xs : List Content) → (model : DataModel) → model ≡ program.model → (code : Code) → code.params ≡ parameters_of program ps → (at : At) → entering model code xs at ≡ enters program ps xs at at
enters_same program ps xs model e code params at =
    ap (λ m. entering m code xs at) e
    ∙ ap (λ ps. (one_deeper >> ((λ at. with_scope (statics_of at.scope) at) >> (begin_parameters 0 (shapes_in ps) >> store_parameters program.model 0 (shapes_in ps) xs))) at) params
    ∙ ap (λ shapes. (one_deeper >> ((λ at. with_scope (statics_of at.scope) at) >> (begin_parameters 0 shapes >> store_parameters program.model 0 shapes xs))) at) (shapes_same program ps)
    ∙ by_room (nat_lt at.depth most_calls)
  where
    by_room : (b : Bool) → elim (if b then Gives (tt {0}) (record at { depth = at.depth + 1 }) else Ends RunEnd.Deep at) as (λ q. Answer (Unit {0})) [ Gives u at1 ↦ (begin_parameters 0 (shapes_of program ps) >> store_parameters program.model 0 (shapes_of program ps) xs) (record at1 { scope = statics_of at1.scope }) | Ends end at1 ↦ Ends end at1 ] ≡ elim (if b then Gives (tt {0}) (record at { depth = at.depth + 1 }) else Ends RunEnd.Deep at) as (λ q. Answer (Unit {0})) [ Gives u at1 ↦ (begin_parameters 0 (shapes_of program ps) >> store_parameters program.model 0 (shapes_of program ps) xs) (record at1 { scope = statics_of at.scope }) | Ends end at1 ↦ Ends end at1 ]
    by_room true = refl
    by_room false = refl

-- the body is entered one call deeper, and its parameters are all that leaves scope at its end
abbrev pub Entered : List ℕ → At → Unit {0} → At → Type 0
Entered ps at u at1 = (at1.ticks ≤ at.ticks) × (at1.depth ≡ at.depth + 1) × (are_static (dropped 0 ps at1.scope) ≡ true)

pub enters_holds : (program : Program) (ps : List ℕ) (xs : List Content) (at : At) → Holds (Entered ps at) (enters program ps xs at at)
enters_holds program ps xs at =
    holds_bind (Deeper at) (Entered ps at) one_deeper (λ u. with_scope (statics_of at.scope) >> (begin_parameters 0 (shapes_of program ps) >> store_parameters program.model 0 (shapes_of program ps) xs)) at (deeper_holds at) (λ u at1 deeper.
    let at2 = record at1 { scope = statics_of at.scope } in
    holds_bind (Begun 0 ps at2) (Entered ps at) (begin_parameters 0 (shapes_of program ps)) (λ u. store_parameters program.model 0 (shapes_of program ps) xs) at2 (begin_holds program 0 ps at2) (λ u at3 b.
    stored at3 (omega (arith, deeper.0, b.3)) (b.4 ∙ deeper.2) (ap (λ q. are_static (dropped 0 ps q)) b.2 ∙ ap are_static (dropped_begun 0 b.0 ps (statics_of at.scope) b.1) ∙ statics_are_static at.scope) (store_parameters program.model 0 (shapes_of program ps) xs at3) (calm_parameters program.model 0 (shapes_of program ps) xs at3)))
  where
    stored : (at3 : At) → at3.ticks ≤ at.ticks → at3.depth ≡ at.depth + 1 → are_static (dropped 0 ps at3.scope) ≡ true → (a : Answer (Unit {0})) → Keeps at3 a → Holds (Entered ps at) a
    stored at3 t d e (Gives u at4) l = (omega (arith, l.ticks), l.depth ∙ d, ap (λ q. are_static (dropped 0 ps q)) l.scope ∙ e)
    stored at3 t d e (Ends end at4) l = tt

pub one_less_of : (m d : ℕ) → m ≡ d + 1 → one_less m ≡ d
one_less_of zero d e = absurd (omega arith)
one_less_of (suc m) d e = omega arith

-- ---- bodies

-- a function's code in a graph
abbrev pub scene_of : (graph : Graph) (program : Program) → graph.model ≡ program.model → (calls : Calls) (n f : ℕ) (stack : List Frame) (fun : Function) (code : Code) → code_at graph f ≡ Some code → Scene
scene_of graph program same calls n f stack fun code is = record {
  graph = graph;
  site = site_of program graph.labels graph.stubs fun code (stands_in code.nodes);
  calls = calls;
  most = n;
  code = f;
  stack = stack;
  model = same;
  labels = refl;
  stubs = refl;
  structs = ap structs_of is;
  locals = ap locals_of is;
  nodes = λ i m has. ap (λ q. slice_get (nodes_of q) i) is ∙ has;
}

parameter_ends_run : (z : Scene) (program : Program) (k : ℕ) (ps : List ℕ) (from to : ℕ) → parameters_end z.site.stands k ps from to → (rs : List Register) (at : At) (next : Unit {0} → At → Over) → ((u : Unit {0}) (at1 : At) → at1.ticks ≤ at.ticks → at1.depth ≡ at.depth → at1.scope ≡ dropped k ps at.scope → Run z to rs at1 (next u at1)) → Run z from rs at (finish (end_parameters k (shapes_of program ps) at) next)
parameter_ends_run z program k [] from to has rs at next h = subst (λ i. Run z i rs at (next tt at)) (sym has) (h tt at (omega arith) refl refl)
parameter_ends_run z program k (p ∷ ps) from to has rs at next h =
    with_bind z.graph _ (end_parameters (suc k) (shapes_of program ps)) (λ u. ends (variable.Parameter k)) at next (parameter_ends_run z program (suc k) ps from has.0 has.1 rs at _ (λ u at1 t d e.
    through_so z.graph (Ended at1 (variable.Parameter k)) (conf z.code has.0 rs z.stack at1) (ends (variable.Parameter k) at1) (λ u at2. conf z.code to rs z.stack at2) _ (step_at z.graph z.code has.0 (node.End (variable.Parameter k) to) rs z.stack at1 (z.nodes has.0 _ has.2)) (ends_holds (variable.Parameter k) at1) (λ u at2 ended.
    h u at2 (omega (arith, ended.0, t)) (ended.2 ∙ d) (ended.1 ∙ ap (λ l. without l (variable.Parameter k)) e))))

parameter_seal_run : (z : Scene) (b : Bool) (v : Variable) (from to : ℕ) → sealed_if z.site.stands b v from to → (rs : List Register) (at : At) (next : Unit {0} → At → Over) → ((u : Unit {0}) (at1 : At) → Later at at1 → Run z to rs at1 (next u at1)) → Run z from rs at (finish ((if b then seals v else gives tt) at) next)
parameter_seal_run z true v from to has rs at next h =
    through z.graph at (conf z.code from rs z.stack at) (seals v at) (λ u at1. conf z.code to rs z.stack at1) next (step_at z.graph z.code from (node.Seal v to) rs z.stack at (z.nodes from _ has)) (calm-seals v at) h
parameter_seal_run z false v from to has rs at next h = subst (λ i. Run z i rs at (next tt at)) (sym has) (h tt at (later_same at))

parameter_seals_run : (z : Scene) (program : Program) (k : ℕ) (ps : List ℕ) (from to : ℕ) → parameters_sealed z.site.stands program k ps from to → (rs : List Register) (at : At) (next : Unit {0} → At → Over) → ((u : Unit {0}) (at1 : At) → Later at at1 → Run z to rs at1 (next u at1)) → Run z from rs at (finish (seal_parameters program k ps at) next)
parameter_seals_run z program k [] from to has rs at next h = subst (λ i. Run z i rs at (next tt at)) (sym has) (h tt at (later_same at))
parameter_seals_run z program k (p ∷ ps) from to has rs at next h =
    with_bind z.graph _ (if is_sealed_object program p then seals (variable.Parameter k) else gives tt) (λ u. seal_parameters program (suc k) ps) at next (parameter_seal_run z (is_sealed_object program p) (variable.Parameter k) from has.0 has.1 rs at _ (λ u at1 l.
    parameter_seals_run z program (suc k) ps has.0 to has.2 rs at1 next (λ u at2 l2. h u at2 (later_still at at1 at2 l l2))))

-- how a body is left: at a return node that gives the value of the call
abbrev pub Left : Scene → Function → Flow → ℕ → List Register → Type 0
Left z fun flow i rs = (it : Given) × z.site.stands i (node.Return it) × ((at : At) → given_in rs it at ≡ Gives (value_of_call fun flow) at)

-- where register 0 has a content there are registers
has_first : (rs : List Register) (n : ℕ) (c : Content) → length rs ≡ n → (register_at rs 0).content ≡ Some c → 0 < n
has_first [] n c long has = absurd (cc)
has_first (it ∷ rs) n c long has = omega (arith, long)

-- the body of a function from its start on, whose parameters have their values
pub body_run : (graph : Graph) (program : Program) (same : graph.model ≡ program.model) (calls : Calls) (n : ℕ) → CallsRun graph program calls n → (f : ℕ) (stack : List Frame) (fun : Function) (code : Code) (is : code_at graph f ≡ Some code) → HasCode program graph.labels graph.stubs fun code → (at : At) → at.ticks ≤ n → (k : Flow → At → Over) → ((flow : Flow) (at1 : At) (i : ℕ) (rs : List Register) → Left (scene_of graph program same calls n f stack fun code is) fun flow i rs → at1.ticks ≤ at.ticks → at1.depth ≡ at.depth → at1.scope ≡ dropped 0 fun.parameters at.scope → Finishes graph (conf f i rs stack at1) (k flow at1)) → Finishes graph (conf f code.start (blanks code.registers) stack at) (finish (body_of program calls fun at) k)
body_run graph program same calls n ok f stack fun code is has at le k h =
    let z = scene_of graph program same calls n f stack fun code is in
    let ps = fun.parameters in
    let closing : (flow : Flow) (at2 : At) (rs : List Register) (from to : ℕ) → parameters_end z.site.stands 0 ps from to → Left z fun flow to rs → Later at at2 → Run z from rs at2 (finish ((end_parameters 0 (shapes_of program ps) >> gives flow) at2) k) = λ flow at2 rs from to ends_there left l2.
    with_bind graph _ (end_parameters 0 (shapes_of program ps)) (λ u. gives flow) at2 k (parameter_ends_run z program 0 ps from to ends_there rs at2 _ (λ u at3 t d e. h flow at3 to rs left (omega (arith, l2.ticks)) (d ∙ l2.depth) (e ∙ ap (dropped 0 ps) l2.scope))) in
    let with_none : (flow : Flow) (at2 : At) (rs : List Register) → Later at at2 → value_at_end fun ≡ value_of_call fun flow → Run z has.leaves rs at2 (finish ((end_parameters 0 (shapes_of program ps) >> gives flow) at2) k) = λ flow at2 rs l2 e2.
    closing flow at2 rs has.leaves has.end has.ends_without (given.Fixed (value_at_end fun), has.gives_none, λ at. ap (λ c. Gives c at) e2) l2 in
    with_bind graph _ (seal_parameters program 0 ps) _ at k (parameter_seals_run z program 0 ps code.start has.first has.seals (blanks code.registers) at _ (λ u at1 l1.
    with_bind graph _ (exec_items (tracked_here z) fun.body) _ at1 k (items_run z (full_runs z ok) (full_tests z ok) fun.body has.first _ has.body (blanks code.registers) (long_blanks code.registers) at1 (omega (arith, l1.ticks)) _ (record {
      next = λ at2 rs long l2. with_none Next at2 rs (later_still at at1 at2 l1 l2) refl;
      back = λ c at2 rs long e2 l2. closing (Returns (Some c)) at2 rs has.back has.last has.ends_with (given.Held 0, has.gives_it (has_first rs code.registers c long e2), λ at. ap (λ o. had o at) e2) (later_still at at1 at2 l1 l2);
      leaves = λ at2 rs long l2. with_none (Returns None) at2 rs (later_still at at1 at2 l1 l2) refl;
      breaks = λ at2 rs long l2. with_none Breaks at2 rs (later_still at at1 at2 l1 l2) refl;
      continues = λ at2 rs long l2. with_none Continues at2 rs (later_still at at1 at2 l1 l2) refl;
    }))))
