-- The code of marks makes the marks of the tree.
use Rattle.std.proofs.Common.{◌≡◌, ℕ, List, Option, Some, None, Bool, false, refl, sym, ap, ap₂, ◌∙◌, subst, arith}
use Rattle.std.specs.Prelude.{slice_get, map}
use Rattle.lt_model.specs.State.{Binding}
use Rattle.lt_tree.specs.Typing.Types.{CType}
use Rattle.lt_tree.specs.Typing.TypedTree as e
use Rattle.lt_tree.specs.Typing.TypedTree.{Value, Marks, Mark}
use Rattle.lt_ir.specs.declared.node.Node.TheVariants as node
use Rattle.lt_ir.specs.PureView.{pure_of}
use Rattle.lt_ir.specs.Pure.{look, looked_at}
use Rattle.lt_ir.specs.Running.{At, Over, ◌>>=◌, quietly, marked_with}
use Rattle.lt_ir.specs.Evaluation.{truth_in}
use Rattle.lt_ir.specs.Graph.{Register, goes, marks_label}
use Rattle.lt_meaning.specs.Expressions.{takes, of_last, is_pure, pure_only, eval, tracking, wanted, bound_at, marked, marked_all}
use Rattle.lt_code.specs.Predicates.{pure_in, pures_bound}
use Rattle.lt_code.specs.Code.{mark, marks}
use Rattle.lt_code.proofs.Finishing.{conf, Later, later_same, later_still, go, step_at}
use Rattle.lt_code.proofs.Registers.{After, after_any}
use Rattle.lt_code.proofs.Nodes.{Scene, here_in, model_of, wide, Run}
use Rattle.lt_code.proofs.Operands.{Expr, Tests, takes_last}
use Rattle.lt_code.proofs.AgreePure.{truth_of_pure, bound_of_pure}

later_marked_with : (id : ℕ) (o : Option Bool) (bound : Option (List Binding)) (at : At) → Later at (marked_with id o bound at)
later_marked_with id (Some b) (Some bound) at = record { ticks = omega arith; scope = refl; depth = refl }
later_marked_with id (Some b) None at = record { ticks = omega arith; scope = refl; depth = refl }
later_marked_with id None (Some bound) at = record { ticks = omega arith; scope = refl; depth = refl }
later_marked_with id None None at = record { ticks = omega arith; scope = refl; depth = refl }

pub later_marked : (z : Scene) (label : Mark) (at : At) → Later at (marked (here_in z) label at)
later_marked z (e.mark predicate id bound) at =
    later_marked_with id (pure_only (is_pure predicate) (quietly (eval (tracking false (here_in z)) wanted predicate >>= (λ x. truth_in x.value)) at)) (bound_at (here_in z) bound at) at

later_marked_all : (z : Scene) (ms : Marks) (at : At) → Later at (marked_all (here_in z) ms at)
later_marked_all z e.no_marks at = later_same at
later_marked_all z (e.a_mark first rest) at = later_still at _ _ (later_marked z first at) (later_marked_all z rest (marked (here_in z) first at))

pub mark_node : (z : Scene) (label : Mark) (from to : ℕ) → mark z.site label from to → (rs : List Register) (at : At) (o : Over) → Run z to rs (marked (here_in z) label at) o → Run z from rs at o
mark_node z (e.mark predicate id bound) from to has rs at o h =
    let names = z.site.names in
    let made : marks_label z.graph.model (slice_get z.graph.labels has.0) (pure_of has.1) (map pure_of has.2) at ≡ marked (here_in z) (e.mark predicate id bound) at =
    ap (λ l. marks_label z.graph.model (slice_get l has.0) (pure_of has.1) (map pure_of has.2) at) z.labels
    ∙ ap (λ o. marks_label z.graph.model o (pure_of has.1) (map pure_of has.2) at) has.3.1
    ∙ ap₂ (λ q qs. marks_label z.graph.model (Some has.3.0) q qs at) has.4 has.5
    ∙ ap (λ model. marks_label model (Some has.3.0) (pure_in names predicate) (pures_bound names bound) at) z.model
    ∙ ap₂ (λ id ns. marked_with id (quietly (look (model_of z) (pure_in names predicate) >>= truth_in) at) (looked_at (model_of z) ns (pures_bound names bound) at) at) has.3.2 has.3.3
    ∙ ap₂ (λ o more. marked_with id o more at) (truth_of_pure names predicate z.calls at) (bound_of_pure names bound z.calls z.site.tracks at) in
    go z.graph (conf z.code from rs z.stack at) (conf z.code to rs z.stack (marked (here_in z) (e.mark predicate id bound) at)) o
    (step_at z.graph z.code from (node.Mark has.0 has.1 has.2 to) rs z.stack at (z.nodes from _ has.6) ∙ ap (λ at1. goes (conf z.code from rs z.stack at) to at1) made) h

pub marks_nodes : (z : Scene) (ms : Marks) (from to : ℕ) → marks z.site ms from to → (rs : List Register) (at : At) (o : Over) → Run z to rs (marked_all (here_in z) ms at) o → Run z from rs at o
marks_nodes z e.no_marks from to has rs at o h = subst (λ i. Run z i rs at o) (sym has) h
marks_nodes z (e.a_mark first rest) from to has rs at o h = mark_node z first from has.0 has.1 rs at o (marks_nodes z rest has.0 to has.2 rs (marked (here_in z) first at) o h)

pub marked_runs : (z : Scene) (t : CType) (ms : Marks) (v : Value) → Expr z v → Expr z (e.Marked t ms v)
marked_runs z t ms v expr fate r from to has rs long at le k h =
    let l = later_marked_all z ms at in
    marks_nodes z ms from has.0 has.1 rs at _ (expr (of_last fate) r has.0 to has.2 rs long (marked_all (here_in z) ms at) (omega (arith, l.ticks)) k (λ x at1 rs1 a0 l1.
    let a = subst (λ b. After b (wide z) r rs rs1 x) (takes_last fate) a0 in
    h x at1 rs1 (after_any (takes fate) (wide z) r rs rs1 x a) (later_still at _ at1 l l1)))

pub marked_tests : (z : Scene) (t : CType) (ms : Marks) (v : Value) → Tests z v → Tests z (e.Marked t ms v)
marked_tests z t ms v test r from on off has rs long at le k h =
    let l = later_marked_all z ms at in
    marks_nodes z ms from has.0 has.1 rs at _ (test r has.0 on off has.2 rs long (marked_all (here_in z) ms at) (omega (arith, l.ticks)) k (λ x at1 rs1 a l1. h x at1 rs1 a (later_still at _ at1 l l1)))
