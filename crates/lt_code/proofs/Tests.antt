-- The code of tests, and of the expressions that are made of them, does what they do, where that of their operands does.
use Rattle.std.proofs.Common.{◌≡◌, ℕ, ◌+◌, ◌<◌, ◌≤◌, pos, List, [], length, Some, Bool, true, false, not, refl, ap, ap₂, ◌∙◌, subst, arith, if◌then◌else◌}
use Rattle.std.specs.Prelude.{slice_get}
use Rattle.std.specs.Ordering.{int_eq}
use Rattle.lt_model.specs.declared.cell.Content.{Content}
use Rattle.lt_model.specs.declared.cell.Content.TheVariants as content
use Rattle.lt_model.specs.Operators.{truth}
use Rattle.lt_model.specs.State.{Footprint, Valued, Gives, Ends}
use Rattle.lt_tree.specs.declared.expression.LogicalOp.{LogicalOp}
use Rattle.lt_tree.specs.declared.expression.LogicalOp.TheVariants as logical
use Rattle.lt_tree.specs.Typing.Types.{CType}
use Rattle.lt_tree.specs.Typing.TypedTree as e
use Rattle.lt_tree.specs.Typing.TypedTree.{Value}
use Rattle.lt_ir.specs.declared.node.Parts.TheVariants.{Sequenced, Settled}
use Rattle.lt_ir.specs.declared.node.Node.TheVariants as node
use Rattle.lt_ir.specs.PureView.{pure_of}
use Rattle.lt_ir.specs.Pure as p
use Rattle.lt_ir.specs.Pure.{Pure, looked_at}
use Rattle.lt_ir.specs.Running.{At, Answer, Step, Over, gives, ◌>>=◌, marks, marked_with}
use Rattle.lt_ir.specs.Evaluation.{valued, truth_in, of_truth, grown, settled_in}
use Rattle.lt_ir.specs.Graph.{Register, goes, marks_label}
use Rattle.lt_meaning.specs.Expressions.{Fate, wanted, unconverted, dropped, dropped_branch, untaken, takes, of_branch, of_last, second_truth, eval}
use Rattle.lt_code.specs.Pieces.{◌▸◌}
use Rattle.lt_code.specs.Code.{clash, replaced, content_moved, branch, codes_of, test_code, connected, second, decided, fixed_mark}
use Rattle.lt_code.proofs.Finishing.{finish, conf, Later, later_still, go, step_at}
use Rattle.lt_code.proofs.Registers.{After, after_any, after_puts, after_tracked, after_merged, after_above}
use Rattle.lt_code.proofs.Nodes.{Scene, here_in, wide, Run, replaced_node, content_moved_node, sequenced_node, settled_node, bind_run}
use Rattle.lt_code.proofs.Operands.{Expr, Tests, tested_value, Follows, Branches, takes_last}

-- what follows a test
abbrev pub Chosen : Scene → (r on off : ℕ) → List Register → At → (Bool → Footprint → At → Over) → Type 0
Chosen z r on off rs at k = (b : Bool) (p : Footprint) (at1 : At) (rs1 : List Register) → After false (wide z) r rs rs1 (valued content.Unset p) → Later at at1 → Run z (if b then on else off) rs1 at1 (k b p at1)

-- A value's truth, and what is done with it and the footprint.
pub tested_run : {B : Type 0} (z : Scene) (v : Value) → Tests z v → (r from on off : ℕ) → test_code z.site v r from on off → (rs : List Register) → length rs ≡ wide z → (at : At) → at.ticks ≤ z.most → (on_truth : Bool → Footprint → Step B) (k : B → At → Over) → Chosen z r on off rs at (λ b p at1. finish (on_truth b p at1) k) → Run z from rs at (finish ((eval (here_in z) wanted v >>= (λ x. truth_in x.value >>= (λ b. on_truth b x.footprint))) at) k)
tested_run z v test r from on off has rs long at le on_truth k h =
    by_answer (eval (here_in z) wanted v at) (test r from on off has rs long at le (λ x at1. finish (on_truth x.value x.footprint at1) k) (λ x at1 rs1 a l. h x.value x.footprint at1 rs1 a l))
  where
    by_answer : (m : Answer (Valued Content)) → Run z from rs at (finish (elim (m) [ Gives x at1 ↦ (truth_in x.value >>= (λ b. gives (valued b x.footprint))) at1 | Ends end at1 ↦ Ends end at1 ]) (λ x at1. finish (on_truth x.value x.footprint at1) k)) → Run z from rs at (finish (elim (m) [ Gives x at1 ↦ (truth_in x.value >>= (λ b. on_truth b x.footprint)) at1 | Ends end at1 ↦ Ends end at1 ]) k)
    by_answer (Gives x at1) h = with_truth (truth_in x.value at1) h
      where
        with_truth : (m : Answer Bool) → Run z from rs at (finish (elim (m) [ Gives b at2 ↦ Gives (valued b x.footprint) at2 | Ends end at2 ↦ Ends end at2 ]) (λ x at1. finish (on_truth x.value x.footprint at1) k)) → Run z from rs at (finish (elim (m) [ Gives b at2 ↦ on_truth b x.footprint at2 | Ends end at2 ↦ Ends end at2 ]) k)
        with_truth (Gives b at2) h = h
        with_truth (Ends end at2) h = h
    by_answer (Ends end at1) h = h

-- a test whose value is given as a content
constants_run : (z : Scene) (b : Bool) (x : Bool → Content) (fate : Fate) (r on off to : ℕ) (rs rs1 : List Register) (at at1 : At) (p : Footprint) (k : Valued Content → At → Over) → r < wide z → replaced z.site r (x true) on to → replaced z.site r (x false) off to → After false (wide z) r rs rs1 (valued content.Unset p) → Later at at1 → Follows z (takes fate) r to rs at k → Run z (if b then on else off) rs1 at1 (k (valued (x b) p) at1)
constants_run z true x fate r on off to rs rs1 at at1 p k lt n1 n2 a l h =
    replaced_node z on r to (x true) rs1 at1 _ n1 (omega (arith, a.long)) (λ rs2 wr. h (valued (x true) p) at1 rs2 (after_puts false (takes fate) (wide z) r rs rs1 rs2 (valued content.Unset p) (x true) a wr) l)
constants_run z false x fate r on off to rs rs1 at at1 p k lt n1 n2 a l h =
    replaced_node z off r to (x false) rs1 at1 _ n2 (omega (arith, a.long)) (λ rs2 wr. h (valued (x false) p) at1 rs2 (after_puts false (takes fate) (wide z) r rs rs1 rs2 (valued content.Unset p) (x false) a wr) l)

-- the truth of a truth's content
back : (z : Scene) (b : Bool) (i : ℕ) (rs : List Register) (at : At) (p : Footprint) (k : Valued Bool → At → Over) → Run z i rs at (k (valued b p) at) → Run z i rs at (k (valued (not (int_eq (truth b) (pos 0))) p) at)
back z true i rs at p k h = h
back z false i rs at p k h = h

-- the test of a value that is a truth's content
retested_run : (z : Scene) (v : Value) (r from on off : ℕ) (rs : List Register) (at : At) (k : Valued Bool → At → Over) → ((k1 : Valued Content → At → Over) → Chosen z r on off rs at (λ b p at1. k1 (valued (of_truth b) p) at1) → Run z from rs at (finish (eval (here_in z) wanted v at) k1)) → Branches z r on off rs at k → Run z from rs at (finish (tested_value (here_in z) v at) k)
retested_run z v r from on off rs at k runs h =
    bind_run z from rs (eval (here_in z) wanted v) (λ x. truth_in x.value >>= (λ b. gives (valued b x.footprint))) at k (runs _ (λ b p at1 rs1 a l. back z b (if b then on else off) rs1 at1 p k (h (valued b p) at1 rs1 a l)))

-- ---- `!`

flipped : (z : Scene) (b : Bool) (r on off : ℕ) (rs rs1 : List Register) (at at1 : At) (p : Footprint) (k : Bool → Footprint → At → Over) → Chosen z r on off rs at k → After false (wide z) r rs rs1 (valued content.Unset p) → Later at at1 → Run z (if b then off else on) rs1 at1 (k (not b) p at1)
flipped z true r on off rs rs1 at at1 p k h a l = h false p at1 rs1 a l
flipped z false r on off rs rs1 at at1 p k h a l = h true p at1 rs1 a l

pub not_runs : (z : Scene) (t : CType) (v : Value) → Tests z v → Expr z (e.Not t v)
not_runs z t v test fate r from to has rs long at le k h =
    tested_run z v test r from has.1.0 has.1.1 has.1.2 rs long at le (λ b p. gives (valued (of_truth (not b)) p)) k (λ b p at1 rs1 a l.
    constants_run z b (λ b. of_truth (not b)) fate r has.1.0 has.1.1 to rs rs1 at at1 p k has.0 has.1.3 has.1.4 a l h)

pub not_tests : (z : Scene) (t : CType) (v : Value) → Tests z v → Tests z (e.Not t v)
not_tests z t v test r from on off has rs long at le k h =
    retested_run z (e.Not t v) r from on off rs at k (λ k1 h1. tested_run z v test r from off on has rs long at le (λ b p. gives (valued (of_truth (not b)) p)) k1 (λ b p at1 rs1 a l. flipped z b r on off rs rs1 at at1 p (λ b p at1. k1 (valued (of_truth b) p) at1) h1 a l)) h

-- ---- `&&` and `||`

sequenced_both : (z : Scene) (b : Bool) (r m4 m5 on off : ℕ) (rs rs1 rs2 : List Register) (at at1 at2 : At) (p q : Footprint) (k : Valued Content → At → Over) → r + 1 < wide z → clash z.site (Sequenced r (r + 1)) m4 on → clash z.site (Sequenced r (r + 1)) m5 off → After false (wide z) r rs rs1 (valued content.Unset p) → After false (wide z) (r + 1) rs1 rs2 (valued content.Unset q) → Later at at1 → Later at1 at2 → Chosen z r on off rs at (λ b p at1. k (valued (of_truth b) p) at1) → Run z (if b then m4 else m5) rs2 at2 (k (valued (of_truth b) (grown z.site.tracks p q)) at2)
sequenced_both z true r m4 m5 on off rs rs1 rs2 at at1 at2 p q k lt n4 n5 a1 a2 l1 l2 h =
    let a = after_above false false (wide z) r (r + 1) rs rs1 rs2 _ _ (omega arith) a1 a2 in
    sequenced_node z m4 r (r + 1) on n4 rs2 at2 p q _ (omega (arith, a.long)) (omega (arith, a.long)) a.footprint a2.footprint (λ rs3 wr. h true (grown z.site.tracks p q) at2 rs3 (after_merged false (wide z) r (r + 1) rs rs2 rs3 (valued content.Unset p) (grown z.site.tracks p q) (omega arith) a wr) (later_still at at1 at2 l1 l2))
sequenced_both z false r m4 m5 on off rs rs1 rs2 at at1 at2 p q k lt n4 n5 a1 a2 l1 l2 h =
    let a = after_above false false (wide z) r (r + 1) rs rs1 rs2 _ _ (omega arith) a1 a2 in
    sequenced_node z m5 r (r + 1) off n5 rs2 at2 p q _ (omega (arith, a.long)) (omega (arith, a.long)) a.footprint a2.footprint (λ rs3 wr. h false (grown z.site.tracks p q) at2 rs3 (after_merged false (wide z) r (r + 1) rs rs2 rs3 (valued content.Unset p) (grown z.site.tracks p q) (omega arith) a wr) (later_still at at1 at2 l1 l2))

-- the right operand, behind the sequence point
second_run : (z : Scene) (v : Value) → Tests z v → (r i on off : ℕ) (rs rs1 : List Register) (at at1 : At) (p : Footprint) (k : Valued Content → At → Over) → r + 1 < wide z → second z.site r (test_code z.site v (r + 1)) i on off → After false (wide z) r rs rs1 (valued content.Unset p) → at1.ticks ≤ z.most → Later at at1 → Chosen z r on off rs at (λ b p at1. k (valued (of_truth b) p) at1) → Run z i rs1 at1 (finish (second_truth z.site.tracks (settled_in z.site.tracks p) (eval (here_in z) wanted v) at1) k)
second_run z v test r i on off rs rs1 at at1 p k lt has a le l h =
    let q1 = settled_in z.site.tracks p in
    settled_node z i r has.2.0 has.2.1 rs1 at1 p _ (omega (arith, a.long)) a.footprint (λ rs2 wr.
    let a2 = after_tracked false (wide z) r rs rs1 rs2 (valued content.Unset p) q1 a wr in
    tested_run z v test (r + 1) has.2.0 has.0 has.1 has.2.2 rs2 a2.long at1 le (λ b q. gives (valued (of_truth b) (grown z.site.tracks q1 q))) k (λ b q at2 rs3 a3 l2.
    sequenced_both z b r has.0 has.1 on off rs rs2 rs3 at at1 at2 q1 q k lt has.3 has.4 a2 a3 l l2 h))

-- the left operand decides
first_run : (z : Scene) (r i to : ℕ) (rs rs1 : List Register) (at1 : At) (p : Footprint) (o : Over) → r + 1 < wide z → clash z.site (Settled r) i to → After false (wide z) r rs rs1 (valued content.Unset p) → ((rs2 : List Register) → After false (wide z) r rs rs2 (valued content.Unset (settled_in z.site.tracks p)) → Run z to rs2 at1 o) → Run z i rs1 at1 o
first_run z r i to rs rs1 at1 p o lt has a h =
    settled_node z i r to has rs1 at1 p o (omega (arith, a.long)) a.footprint (λ rs2 wr. h rs2 (after_tracked false (wide z) r rs rs1 rs2 (valued content.Unset p) (settled_in z.site.tracks p) a wr))

logical_run : (z : Scene) (t : CType) (op : LogicalOp) (v1 v2 : Value) → Tests z v1 → Tests z v2 → (fate : Fate) (r from on off : ℕ) → connected z.site op r (test_code z.site v1 r) (test_code z.site v2 (r + 1)) from on off → (rs : List Register) → length rs ≡ wide z → (at : At) → at.ticks ≤ z.most → (k : Valued Content → At → Over) → Chosen z r on off rs at (λ b p at1. k (valued (of_truth b) p) at1) → Run z from rs at (finish (eval (here_in z) fate (e.Logical t op v1 v2) at) k)
logical_run z t logical.And v1 v2 t1 t2 fate r from on off has rs long at le k h =
    tested_run z v1 t1 r from has.1 has.2 has.3 rs long at le (λ b p at. (if not b then gives (valued (of_truth b) (settled_in z.site.tracks p)) else second_truth z.site.tracks (settled_in z.site.tracks p) (eval (here_in z) wanted v2)) at) k (λ b p at1 rs1 a l. arms b p at1 rs1 a l)
  where
    arms : Chosen z r has.1 has.2 rs at (λ b p at1. finish ((if not b then gives (valued (of_truth b) (settled_in z.site.tracks p)) else second_truth z.site.tracks (settled_in z.site.tracks p) (eval (here_in z) wanted v2)) at1) k)
    arms true p at1 rs1 a l = second_run z v2 t2 r has.1 on off rs rs1 at at1 p k has.0 has.4 a (omega (arith, l.ticks)) l h
    arms false p at1 rs1 a l = first_run z r has.2 off rs rs1 at1 p _ has.0 has.5 a (λ rs2 a2. h false (settled_in z.site.tracks p) at1 rs2 a2 l)
logical_run z t logical.Or v1 v2 t1 t2 fate r from on off has rs long at le k h =
    tested_run z v1 t1 r from has.1 has.2 has.3 rs long at le (λ b p at. (if b then gives (valued (of_truth b) (settled_in z.site.tracks p)) else second_truth z.site.tracks (settled_in z.site.tracks p) (eval (here_in z) wanted v2)) at) k (λ b p at1 rs1 a l. arms b p at1 rs1 a l)
  where
    arms : Chosen z r has.1 has.2 rs at (λ b p at1. finish ((if b then gives (valued (of_truth b) (settled_in z.site.tracks p)) else second_truth z.site.tracks (settled_in z.site.tracks p) (eval (here_in z) wanted v2)) at1) k)
    arms true p at1 rs1 a l = first_run z r has.1 on rs rs1 at1 p _ has.0 has.4 a (λ rs2 a2. h true (settled_in z.site.tracks p) at1 rs2 a2 l)
    arms false p at1 rs1 a l = second_run z v2 t2 r has.2 on off rs rs1 at at1 p k has.0 has.5 a (omega (arith, l.ticks)) l h

pub logical_runs : (z : Scene) (t : CType) (op : LogicalOp) (v1 v2 : Value) → Tests z v1 → Tests z v2 → Expr z (e.Logical t op v1 v2)
logical_runs z t op v1 v2 t1 t2 fate r from to has rs long at le k h =
    logical_run z t op v1 v2 t1 t2 fate r from has.1.0 has.1.1 has.1.2 rs long at le k (λ b p at1 rs1 a l. constants_run z b of_truth fate r has.1.0 has.1.1 to rs rs1 at at1 p k has.0 has.1.3 has.1.4 a l h)

pub logical_tests : (z : Scene) (t : CType) (op : LogicalOp) (v1 v2 : Value) → Tests z v1 → Tests z v2 → Tests z (e.Logical t op v1 v2)
logical_tests z t op v1 v2 t1 t2 r from on off has rs long at le k h =
    retested_run z (e.Logical t op v1 v2) r from on off rs at k (λ k1 h1. logical_run z t op v1 v2 t1 t2 wanted r from on off has rs long at le k1 h1) h

-- ---- `?:`

takes_branch : (fate : Fate) → takes (of_branch fate) ≡ true
takes_branch wanted = refl
takes_branch unconverted = refl
takes_branch dropped = refl
takes_branch dropped_branch = refl
takes_branch untaken = refl

-- a sequence point, an operand, and its value as the value
arm_run : (z : Scene) (v : Value) → Expr z v → (fate : Fate) (r i m5 to : ℕ) (rs rs1 : List Register) (at at1 : At) (p : Footprint) (k : Valued Content → At → Over) → r + 1 < wide z → branch z.site fate r (codes_of z.site v) i m5 → (clash z.site (Sequenced r (r + 1)) ▸ content_moved z.site r (r + 1)) m5 to → After false (wide z) r rs rs1 (valued content.Unset p) → at1.ticks ≤ z.most → Later at at1 → Follows z (takes fate) r to rs at k → Run z i rs1 at1 (finish ((eval (here_in z) (of_branch fate) v >>= (λ y. gives (valued y.value (grown z.site.tracks (settled_in z.site.tracks p) y.footprint)))) at1) k)
arm_run z v expr fate r i m5 to rs rs1 at at1 p k lt has has2 a le l h =
    let b = z.site.tracks in
    settled_node z i r has.0 has.1 rs1 at1 p _ (omega (arith, a.long)) a.footprint (λ rs2 wr.
    let a2 = after_tracked false (wide z) r rs rs1 rs2 (valued content.Unset p) (settled_in b p) a wr in
    bind_run z has.0 rs2 (eval (here_in z) (of_branch fate) v) (λ y. gives (valued y.value (grown b (settled_in b p) y.footprint))) at1 k (expr (of_branch fate) (r + 1) has.0 m5 has.2 rs2 a2.long at1 le _ (λ y at2 rs3 a0 l2.
    let a3 = subst (λ b. After b (wide z) (r + 1) rs2 rs3 y) (takes_branch fate) a0 in
    let a4 = after_above false true (wide z) r (r + 1) rs rs2 rs3 _ y (omega arith) a2 a3 in
    sequenced_node z m5 r (r + 1) has2.0 has2.1 rs3 at2 (settled_in b p) y.footprint _ (omega (arith, a4.long)) (omega (arith, a4.long)) a4.footprint a3.footprint (λ rs4 wr2.
    let a5 = after_merged false (wide z) r (r + 1) rs rs3 rs4 (valued content.Unset (settled_in b p)) (grown b (settled_in b p) y.footprint) (omega arith) a4 wr2 in
    content_moved_node z has2.0 r (r + 1) to rs4 at2 y.value _ has2.2 (omega (arith, a5.long)) (wr2.contents (r + 1) ∙ a3.content refl) (λ rs5 wr3.
    h (valued y.value (grown b (settled_in b p) y.footprint)) at2 rs5 (after_puts false (takes fate) (wide z) r rs rs4 rs5 (valued content.Unset (grown b (settled_in b p) y.footprint)) y.value a5 wr3) (later_still at at1 at2 l l2))))))

pub conditional_runs : (z : Scene) (t : CType) (v v1 v2 : Value) → Tests z v → Expr z v1 → Expr z v2 → Expr z (e.Conditional t v v1 v2)
conditional_runs z t v v1 v2 test e1 e2 fate r from to has rs long at le k h =
    tested_run z v test r from has.1.1.0 has.1.1.1 has.1.1.2 rs long at le (λ b p. (λ at. (if b then eval (here_in z) (of_branch fate) v1 else eval (here_in z) (of_branch fate) v2) at) >>= (λ y. gives (valued y.value (grown z.site.tracks (settled_in z.site.tracks p) y.footprint)))) k (λ b p at1 rs1 a l. arms b p at1 rs1 a l)
  where
    arms : Chosen z r has.1.1.0 has.1.1.1 rs at (λ b p at1. finish (((λ at. (if b then eval (here_in z) (of_branch fate) v1 else eval (here_in z) (of_branch fate) v2) at) >>= (λ y. gives (valued y.value (grown z.site.tracks (settled_in z.site.tracks p) y.footprint)))) at1) k)
    arms true p at1 rs1 a l = arm_run z v1 e1 fate r has.1.1.0 has.1.0 to rs rs1 at at1 p k has.0 has.1.1.3 has.1.2 a (omega (arith, l.ticks)) l h
    arms false p at1 rs1 a l = arm_run z v2 e2 fate r has.1.1.1 has.1.0 to rs rs1 at at1 p k has.0 has.1.1.4 has.1.2 a (omega (arith, l.ticks)) l h

-- ---- `pc_decide` and `pc_after`

-- a mark that is true, or isn't
pub fixed_node : (z : Scene) (i next id : ℕ) (b : Bool) (rs : List Register) (at : At) (o : Over) → fixed_mark z.site id b i next → Run z next rs (marks id b [] at) o → Run z i rs at o
fixed_node z i next id b rs at o has h =
    sets_mark (ap (λ l. marks_label z.graph.model (slice_get l has.0) (pure_of has.1) [] at) z.labels
    ∙ ap (λ o. marks_label z.graph.model o (pure_of has.1) [] at) has.2.1
    ∙ ap (λ q. marks_label z.graph.model (Some has.2.0) q [] at) has.3
    ∙ by_truth b) h
  where
    sets_mark : marks_label z.graph.model (slice_get z.graph.labels has.0) (pure_of has.1) [] at ≡ marks id b [] at → Run z next rs (marks id b [] at) o → Run z i rs at o
    sets_mark e h =
        go z.graph (conf z.code i rs z.stack at) (conf z.code next rs z.stack (marks id b [] at)) o (step_at z.graph z.code i (node.Mark has.0 has.1 [] next) rs z.stack at (z.nodes i _ has.4) ∙ ap (λ at1. goes (conf z.code i rs z.stack at) next at1) e) h

    by_truth : (b : Bool) → marks_label z.graph.model (Some has.2.0) (p.Fixed (of_truth b)) [] at ≡ marks id b [] at
    by_truth true = ap₂ (λ id names. marked_with id (Some true) (looked_at z.graph.model names [] at) at) has.2.2 has.2.3
    by_truth false = ap₂ (λ id names. marked_with id (Some false) (looked_at z.graph.model names [] at) at) has.2.2 has.2.3

later_marks : (at at1 : At) (id : ℕ) (b : Bool) → Later at at1 → Later at (marks id b [] at1)
later_marks at at1 id b l = record { ticks = l.ticks; scope = l.scope; depth = l.depth }

decide_run : (z : Scene) (t : CType) (v : Value) (when_true when_false : ℕ) → Tests z v → (fate : Fate) (r from on off : ℕ) → decided z.site when_true when_false (test_code z.site v r) from on off → (rs : List Register) → length rs ≡ wide z → (at : At) → at.ticks ≤ z.most → (k : Valued Content → At → Over) → Chosen z r on off rs at (λ b p at1. k (valued (of_truth b) p) at1) → Run z from rs at (finish (eval (here_in z) fate (e.Decide t v when_true when_false) at) k)
decide_run z t v when_true when_false test fate r from on off has rs long at le k h =
    tested_run z v test r from has.0 has.1 has.2 rs long at le (λ b p at. Gives (valued (of_truth b) p) (marks when_false (not b) [] (marks when_true b [] at))) k (λ b p at1 rs1 a l. arms b p at1 rs1 a l)
  where
    arms : Chosen z r has.0 has.1 rs at (λ b p at1. k (valued (of_truth b) p) (marks when_false (not b) [] (marks when_true b [] at1)))
    arms true p at1 rs1 a l = fixed_node z has.0 has.3.0 when_true true rs1 at1 _ has.3.1 (fixed_node z has.3.0 on when_false false rs1 (marks when_true true [] at1) _ has.3.2 (h true p _ rs1 a (later_marks at _ when_false false (later_marks at at1 when_true true l))))
    arms false p at1 rs1 a l = fixed_node z has.1 has.4.0 when_true false rs1 at1 _ has.4.1 (fixed_node z has.4.0 off when_false true rs1 (marks when_true false [] at1) _ has.4.2 (h false p _ rs1 a (later_marks at _ when_false true (later_marks at at1 when_true false l))))

pub decide_runs : (z : Scene) (t : CType) (v : Value) (when_true when_false : ℕ) → Tests z v → Expr z (e.Decide t v when_true when_false)
decide_runs z t v when_true when_false test fate r from to has rs long at le k h =
    decide_run z t v when_true when_false test fate r from has.1.0 has.1.1 has.1.2 rs long at le k (λ b p at1 rs1 a l. constants_run z b of_truth fate r has.1.0 has.1.1 to rs rs1 at at1 p k has.0 has.1.3 has.1.4 a l h)

pub decide_tests : (z : Scene) (t : CType) (v : Value) (when_true when_false : ℕ) → Tests z v → Tests z (e.Decide t v when_true when_false)
decide_tests z t v when_true when_false test r from on off has rs long at le k h =
    retested_run z (e.Decide t v when_true when_false) r from on off rs at k (λ k1 h1. decide_run z t v when_true when_false test wanted r from on off has rs long at le k1 h1) h

pub after_runs : (z : Scene) (t : CType) (v : Value) (id : ℕ) → Expr z v → Expr z (e.After t v id)
after_runs z t v id expr fate r from to has rs long at le k h =
    bind_run z from rs (eval (here_in z) (of_last fate) v) (λ x at. Gives x (marks id true [] at)) at k (expr (of_last fate) r from has.0 has.1 rs long at le _ (λ x at1 rs1 a0 l.
    let a = subst (λ b. After b (wide z) r rs rs1 x) (takes_last fate) a0 in
    fixed_node z has.0 to id true rs1 at1 _ has.2 (h x (marks id true [] at1) rs1 (after_any (takes fate) (wide z) r rs rs1 x a) (later_marks at at1 id true l))))
