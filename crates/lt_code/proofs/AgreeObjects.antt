-- The code of objects that begin does what the beginning does.
use Rattle.std.proofs.Common.{◌≡◌, ℕ, ◌+◌, ◌<◌, ◌≤◌, List, [], ◌∷◌, length, Option, Bool, true, false, refl, sym, ap, ap₂, ◌∙◌, subst, arith}
use Rattle.std.specs.Prelude.{pos}
use Rattle.lt_model.specs.declared.cell.Content.TheVariants as content
use Rattle.lt_model.specs.declared.cell.Address.{Address}
use Rattle.lt_model.specs.declared.scalar.Scalar.{Scalar}
use Rattle.lt_model.specs.State.{untouched, Gives, Ends}
use Rattle.lt_tree.specs.Typing.Types.{Num, is_struct}
use Rattle.lt_tree.specs.Typing.TypedTree as e
use Rattle.lt_tree.specs.Typing.TypedTree.{Value, Local, StartPart, type_of}
use Rattle.lt_ir.specs.declared.variable.Variable.{Variable}
use Rattle.lt_ir.specs.declared.node.Node.TheVariants as node
use Rattle.lt_ir.specs.Running.{At, Answer, Step, Over, ◌>>=◌, ◌>>◌, gives, tick, place, begins, seals}
use Rattle.lt_ir.specs.Evaluation.{valued, stored, member_at}
use Rattle.lt_ir.specs.Graph.{Register, shape_at, going, goes}
use Rattle.lt_meaning.specs.Expressions.{wanted, eval, assigned as assigned_in, shape, cell_type}
use Rattle.lt_meaning.specs.Statements.{filled, filled_all, spelled, put_at, opened, sealed_if as sealed_in, is_zeroed, parts_in, is_sealed_object, type_of_object}
use Rattle.lt_code.specs.Pieces.{Piece}
use Rattle.lt_code.specs.Bodies.{part_address, letters, part, parts, sealed_if, opening}
use Rattle.lt_code.proofs.Finishing.{finish, conf, Later, later_same, later_still, stop, through, step_at, with_bind}
use Rattle.lt_code.proofs.Registers.{After}
use Rattle.lt_code.proofs.Nodes.{Scene, program_at, here_in, model_of, wide, Run, constant_node, address_node, member_node, store_node, bind_run}
use Rattle.lt_code.proofs.FullExpressions.{tracked_at, tracked_here, Full, full_then}
use Rattle.lt_code.proofs.Stores.{assigned_run}
use Rattle.lt_code.proofs.CalmObjects.{through_so, calm-seals, begins_holds, Began, tick_holds, Ticked}

-- a tick, which leaves fewer
pub tick_run : {B : Type 0} (z : Scene) (i to : ℕ) (rs : List Register) (at : At) (rest : Step B) (k : B → At → Over) → z.site.stands i (node.Tick to) → ((at1 : At) → at1.ticks < at.ticks → Later at at1 → Run z to rs at1 (finish (rest at1) k)) → Run z i rs at (finish ((tick >> rest) at) k)
tick_run z i to rs at rest k has h =
    with_bind z.graph _ tick (λ u. rest) at k (through_so z.graph (Ticked at) (conf z.code i rs z.stack at) (tick at) (λ u at1. conf z.code to rs z.stack at1) _ (step_at z.graph z.code i (node.Tick to) rs z.stack at (z.nodes i _ has)) (tick_holds at) (λ u at1 l. h at1 l.0 (record { ticks = omega (arith, l.0); scope = l.1; depth = l.2 })))

-- the code of a step that gives nothing and leaves the scope
abbrev pub Effect : Scene → Step (Unit {0}) → Piece → Type 0
Effect z m piece =
    (from to : ℕ) → piece from to → (rs : List Register) → length rs ≡ wide z → (at : At) → at.ticks ≤ z.most → (k : Unit {0} → At → Over) → ((u : Unit {0}) (at1 : At) (rs1 : List Register) → length rs1 ≡ wide z → Later at at1 → Run z to rs1 at1 (k u at1)) → Run z from rs at (finish (m at) k)

-- the address of a part of a variable goes to register 0
address_run : {B : Type 0} (z : Scene) (v : Variable) (offset from to : ℕ) → 1 < wide z → part_address z.site v offset from to → (rs : List Register) → length rs ≡ wide z → (at : At) (on : Option Address → Step B) (k : B → At → Over) → ((p : Option Address) (at1 : At) (rs1 : List Register) → After true (wide z) 0 rs rs1 (valued (content.Address p) untouched) → Later at at1 → Run z to rs1 at1 (finish (on p at1) k)) → Run z from rs at (finish ((place v >>= (λ a. member_at offset a >>= on)) at) k)
address_run z v offset from to lt has rs long at on k h =
    bind_run z from rs (place v) (λ a. member_at offset a >>= on) at k (address_node z from 0 has.0 v rs at _ has.1 (omega (arith, lt)) (λ a at1 rs1 w1 l1.
    bind_run z has.0 rs1 (member_at offset a) on at1 k (member_node z has.0 0 to offset rs1 at1 a _ has.2 (omega (arith, lt, w1.long)) (ap (λ x. x.content) w1.here) (λ p at2 rs2 re l2.
    h p at2 rs2 (record { content = λ e. re.content; footprint = re.footprints 0 ∙ ap (λ x. x.footprint) w1.here; below = λ i under. absurd (omega arith); long = re.long ∙ w1.long ∙ long }) (later_still at at1 at2 l1 l2)))))

-- what follows an answer, put behind it
without_bind : {A B : Type 0} (z : Scene) (i : ℕ) (rs : List Register) (m : Step A) (go_on : A → Step B) (at : At) (k : B → At → Over) → Run z i rs at (finish ((m >>= go_on) at) k) → Run z i rs at (finish (m at) (λ a at1. finish (go_on a at1) k))
without_bind z i rs m go_on at k h = by_answer (m at) h
  where
    by_answer : (a : Answer _) → Run z i rs at (finish (elim (a) [ Gives a at1 ↦ go_on a at1 | Ends end at1 ↦ Ends end at1 ]) k) → Run z i rs at (finish a (λ a at1. finish (go_on a at1) k))
    by_answer (Gives a at1) h = h
    by_answer (Ends end at1) h = h

letters_run : (z : Scene) (v : Variable) (t : Scalar) (offset : ℕ) (bytes : List ℕ) → Effect z (spelled (program_at z) v t offset bytes) (letters z.site v t offset bytes)
letters_run z v t offset [] from to has rs long at le k h = subst (λ i. Run z i rs at (k tt at)) (sym has) (h tt at rs long (later_same at))
letters_run z v t offset (b ∷ bytes) from to has rs long at le k h =
    let P = has.1 in
    let c = content.Number (pos b) in
    let ty = cell_type (program_at z) (Num t) in
    with_bind z.graph _ (put_at (program_at z) v offset (Num t) c) _ at k (address_run z v offset from P.0 has.0 P.1 rs long at (λ p. stored false (model_of z) ty p c untouched >> gives tt) _ (λ p at2 rs2 a2 l2.
    constant_node z P.0 1 P.2.0 c rs2 at2 _ P.2.1 (omega (arith, a2.long, has.0)) (λ rs3 w3.
    bind_run z P.2.0 rs3 (stored false (model_of z) ty p c untouched) (λ q. gives tt) at2 _
    (without_bind z P.2.0 rs3 (stored false (model_of z) ty p c untouched) (λ q. gives (valued c q)) at2 (λ x at4. finish (spelled (program_at z) v t (offset + 1) bytes at4) k)
    (store_node z false P.2.0 0 1 1 P.2.2.0 ty rs3 at2 p c c untouched _ P.2.2.1 (omega (arith, w3.long, a2.long, has.0)) (ap (λ y. y.content) (w3.others 0 (λ e. absurd (omega arith))) ∙ a2.content refl) (ap (λ y. y.content) w3.here) (ap (λ y. y.content) w3.here) (ap (λ y. y.footprint) (w3.others 0 (λ e. absurd (omega arith))) ∙ a2.footprint) (λ x at4 rs4 w4 l4.
    letters_run z v t (offset + 1) bytes P.2.2.0 to P.2.2.2 rs4 (w4.long ∙ w3.long ∙ a2.long) at4 (omega (arith, l2.ticks, l4.ticks)) k (λ u at5 rs5 long5 l5. h u at5 rs5 long5 (later_still at at2 at5 l2 (later_still at2 at4 at5 l4 l5)))))))))

part_run : (z : Scene) → ((v : Value) → Full z v) → (v : Variable) (it : StartPart) → Effect z (filled (tracked_here z) v it) (part z.site v it)
part_run z expr v (e.stored offset value) from to has rs long at le k h =
    let P = has.1 in
    let t = type_of value in
    address_run z v offset from P.0 has.0 P.1 rs long at (λ p. eval (tracked_here z) wanted value >>= (λ x. assigned_in (here_in (tracked_at false z)) t p x.value untouched (is_struct t) >> gives tt)) k (λ p at2 rs2 a2 l2.
    full_then z value (expr value) wanted 1 P.0 P.2.0 P.2.1 rs2 a2.long at2 (omega (arith, l2.ticks)) (λ c. assigned_in (here_in (tracked_at false z)) t p c untouched (is_struct t) >> gives tt) k (λ x at3 rs3 a3 l3.
    bind_run z P.2.0 rs3 (assigned_in (here_in (tracked_at false z)) t p x.value untouched (is_struct t)) (λ y. gives tt) at3 k (assigned_run (tracked_at false z) t 0 1 P.2.0 to P.2.2 rs3 at3 p x.value untouched (omega (arith, a3.long, has.0)) (ap (λ y. y.content) (a3.below 0 (omega arith)) ∙ a2.content refl) (a3.content refl) (ap (λ y. y.footprint) (a3.below 0 (omega arith)) ∙ a2.footprint) _ (λ y at4 rs4 w4 l4.
    h tt at4 rs4 (w4.long ∙ a3.long) (later_still at at2 at4 l2 (later_still at2 at3 at4 l3 l4))))))
part_run z expr v (e.fixed offset t c) from to has rs long at le k h = stop z.graph _ _ at (step_at z.graph z.code from node.Stop rs z.stack at (z.nodes from _ has))
part_run z expr v (e.letters offset t bytes) from to has rs long at le k h = letters_run z v t offset bytes from to has rs long at le k h

parts_run : (z : Scene) → ((v : Value) → Full z v) → (v : Variable) (its : List StartPart) → Effect z (filled_all (tracked_here z) v its) (parts z.site v its)
parts_run z expr v [] from to has rs long at le k h = subst (λ i. Run z i rs at (k tt at)) (sym has) (h tt at rs long (later_same at))
parts_run z expr v (it ∷ its) from to has rs long at le k h =
    with_bind z.graph _ (filled (tracked_here z) v it) _ at k (part_run z expr v it from has.0 has.1 rs long at le _ (λ u at1 rs1 long1 l1. parts_run z expr v its has.0 to has.2 rs1 long1 at1 (omega (arith, l1.ticks)) k (λ u at2 rs2 long2 l2. h u at2 rs2 long2 (later_still at at1 at2 l1 l2))))

seal_run : (z : Scene) (b : Bool) (v : Variable) → Effect z (sealed_in b v) (sealed_if z.site.stands b v)
seal_run z true v from to has rs long at le k h =
    through z.graph at (conf z.code from rs z.stack at) (seals v at) (λ u at1. conf z.code to rs z.stack at1) k (step_at z.graph z.code from (node.Seal v to) rs z.stack at (z.nodes from _ has)) (calm-seals v at) (λ u at1 l. h u at1 rs long l)
seal_run z false v from to has rs long at le k h = subst (λ i. Run z i rs at (k tt at)) (sym has) (h tt at rs long (later_same at))

-- a variable begins, and is the innermost one in scope
pub opening_run : (z : Scene) → ((v : Value) → Full z v) → (it : Local) (from to : ℕ) → opening z.site it from to → (rs : List Register) → length rs ≡ wide z → (at : At) → at.ticks ≤ z.most → (k : Unit {0} → At → Over) → ((u : Unit {0}) (at1 : At) (rs1 : List Register) → length rs1 ≡ wide z → Began at (z.site.names.variable it.object) u at1 → Run z to rs1 at1 (k u at1)) → Run z from rs at (finish (opened (tracked_here z) it at) k)
opening_run z expr it from to has rs long at le k h =
    let v = z.site.names.variable it.object in
    let sh = shape (program_at z) (type_of_object (program_at z) it.object) in
    let m = has.1 in
    with_bind z.graph _ (begins v sh (is_zeroed it.start)) _ at k (through_so z.graph (Began at v) (conf z.code from rs z.stack at) (begins v sh (is_zeroed it.start) at) (λ u at1. conf z.code has.0 rs z.stack at1) _ (step_at z.graph z.code from (node.Create m.0 (is_zeroed it.start) has.0) rs z.stack at (z.nodes from _ m.3) ∙ ap₂ (λ w shape. going (begins w shape (is_zeroed it.start)) at (λ u. goes (conf z.code from rs z.stack at) has.0)) (sym m.1) (ap (λ l. shape_at l m.0) z.locals ∙ m.2)) (begins_holds v sh (is_zeroed it.start) at) (λ u at1 began.
    with_bind z.graph _ (filled_all (tracked_here z) v (parts_in it.start)) _ at1 k (parts_run z expr v (parts_in it.start) has.0 has.2.0 has.2.1 rs long at1 (omega (arith, began.1)) _ (λ u at2 rs2 long2 l2.
    seal_run z (is_sealed_object (program_at z) it.object) v has.2.0 to has.2.2 rs2 long2 at2 (omega (arith, began.1, l2.ticks)) k (λ u at3 rs3 long3 l3. h u at3 rs3 long3 (began.0, omega (arith, began.1, l2.ticks, l3.ticks), l3.scope ∙ l2.scope ∙ began.2, l3.depth ∙ l2.depth ∙ began.3))))))
