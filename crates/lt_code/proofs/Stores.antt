-- The code of assignments, and of `op=`, `++` and `--`, does what they do, where that of their operands does.
use Rattle.std.proofs.Common.{◌≡◌, ◌≢◌, ℕ, ◌+◌, ◌<◌, ◌≤◌, ℤ, pos, List, length, Option, Some, Bool, true, false, refl, ap, ◌∙◌, arith}
use Rattle.lt_model.specs.declared.cell.Address.{Address}
use Rattle.lt_model.specs.declared.cell.Content.{Content}
use Rattle.lt_model.specs.declared.cell.Content.TheVariants as content
use Rattle.lt_model.specs.declared.scalar.Scalar.{Scalar}
use Rattle.lt_model.specs.declared.operator.Op.{Op}
use Rattle.lt_model.specs.Scalar.{convert_of}
use Rattle.lt_model.specs.State.{Footprint, Valued}
use Rattle.lt_tree.specs.Typing.Types.{CType, is_struct}
use Rattle.lt_tree.specs.Typing.TypedTree as e
use Rattle.lt_tree.specs.Typing.TypedTree.{Value, Place, When}
use Rattle.lt_ir.specs.declared.node.Parts.TheVariants.{Unsequenced}
use Rattle.lt_ir.specs.Running.{At, Step, Over, gives, ◌>>=◌}
use Rattle.lt_ir.specs.Evaluation.{valued, number_in, used, apart, aimed, one_cell, loaded, stored, moved, applied}
use Rattle.lt_ir.specs.Graph.{Register, register_at, footprint_at}
use Rattle.lt_meaning.specs.Expressions.{Around, Fate, wanted, unconverted, takes, late as late_in, cell_type, cells_of, shape, scalar_in, taken, kept, assigned as assigned_in, updated, eval, place_of as place_in}
use Rattle.lt_code.specs.Pieces.{either, ◌▸◌}
use Rattle.lt_code.specs.Code.{clash, scalar_target, struct_copied, scalar_stored, assigned, loaded as loaded_piece, computed, stepped, kept_in, value_code, place_of}
use Rattle.lt_code.proofs.Finishing.{finish, Later, later_still}
use Rattle.lt_code.proofs.Registers.{After, Wrote, Tracked, Merged, after_above, after_more, after_tracked, after_merged, after_higher}
use Rattle.lt_code.proofs.Nodes.{Scene, program_at, here_in, model_of, wide, Run, Writing, constant_node, load_beside_node, store_node, copy_node, move_node, apply_node, integer_node, unsequenced_node, target_node, scalar_target_node, bind_run}
use Rattle.lt_code.proofs.Operands.{Expr, PlaceOf, Follows, late_run}
use Rattle.lt_code.proofs.Sequences.{taken_run}

-- ---- a value that goes to an lvalue

-- a content that may be used is stored as it is
stored_as_used : (z : Scene) (t : CType) (i : ℕ) (rs : List Register) (at : At) (a : Option Address) (c : Content) (p : Footprint) (k : Valued Content → At → Over) → Run z i rs at (finish ((used c >>= (λ it. stored z.site.tracks (model_of z) (cell_type (program_at z) t) a it p >>= (λ footprint. gives (valued c footprint)))) at) k) → Run z i rs at (finish (assigned_in (here_in z) t a c p false at) k)
stored_as_used z t i rs at a content.Unset p k h = h
stored_as_used z t i rs at a (content.Number n) p k h = h
stored_as_used z t i rs at a (content.Address b) p k h = h

assigned_by_kind : (z : Scene) (b : Bool) (t : CType) (r q i to : ℕ) → either b (struct_copied z.site t r q) (scalar_stored z.site t r q q) i to → (rs : List Register) (at : At) (a : Option Address) (c : Content) (p : Footprint) → r < length rs → (register_at rs r).content ≡ Some (content.Address a) → (register_at rs q).content ≡ Some c → footprint_at rs r ≡ p → (k : Valued Content → At → Over) → Writing z r to rs at k → Run z i rs at (finish (assigned_in (here_in z) t a c p b at) k)
assigned_by_kind z true t r q i to has rs at a c p lt ea ec ep k h = copy_node z i r q has.0 to (shape (program_at z) t) rs at a c p k has.2 has.1 lt ea ec ep h
assigned_by_kind z false t r q i to has rs at a c p lt ea ec ep k h =
    stored_as_used z t i rs at a c p k (store_node z z.site.tracks i r q q to (cell_type (program_at z) t) rs at a c c p k has lt ea ec ec ep h)

-- the lvalue's address and the footprint of the operands are in r, and the value in q
pub assigned_run : (z : Scene) (t : CType) (r q i to : ℕ) → assigned z.site t r q i to → (rs : List Register) (at : At) (a : Option Address) (c : Content) (p : Footprint) → r < length rs → (register_at rs r).content ≡ Some (content.Address a) → (register_at rs q).content ≡ Some c → footprint_at rs r ≡ p → (k : Valued Content → At → Over) → Writing z r to rs at k → Run z i rs at (finish (assigned_in (here_in z) t a c p (is_struct t) at) k)
assigned_run z t r q i to has rs at a c p lt ea ec ep k h = assigned_by_kind z (is_struct t) t r q i to has rs at a c p lt ea ec ep k h

pub assign_runs : (z : Scene) (t : CType) (p : Place) (v : Value) → PlaceOf z p → Expr z v → Expr z (e.Assign t p v)
assign_runs z t p v place expr fate r from to has rs long at le k h =
    let w = wide z in
    let here = here_in z in
    let b = z.site.tracks in
    let cells = cells_of (program_at z) t in
    let P = has.1 in
    bind_run z from rs (place_in here p) (λ x. eval here unconverted v >>= (λ y. taken here t y >>= (λ q. apart b x.footprint q >>= (λ operands. aimed b cells x.value operands >>= (λ footprint. late_in (program_at z) v y.value >>= (λ c. assigned_in here t x.value c footprint (is_struct t))))))) at k (place r from P.0 P.1 rs long at le _ (λ x at1 rs1 a1 l1.
    bind_run z P.0 rs1 (eval here unconverted v) (λ y. taken here t y >>= (λ q. apart b x.footprint q >>= (λ operands. aimed b cells x.value operands >>= (λ footprint. late_in (program_at z) v y.value >>= (λ c. assigned_in here t x.value c footprint (is_struct t)))))) at1 k (expr unconverted (r + 1) P.0 P.2.0 P.2.1 rs1 a1.long at1 (omega (arith, l1.ticks)) _ (λ y at2 rs2 a2 l2.
    bind_run z P.2.0 rs2 (taken here t y) (λ q. apart b x.footprint q >>= (λ operands. aimed b cells x.value operands >>= (λ footprint. late_in (program_at z) v y.value >>= (λ c. assigned_in here t x.value c footprint (is_struct t))))) at2 k (taken_run z t (r + 1) P.2.0 P.2.2.0 P.2.2.1 rs2 at2 y (omega (arith, a2.long, has.0)) (a2.content refl) a2.footprint _ (λ q at3 rs3 tr l3.
    let a3 = after_tracked true w (r + 1) rs1 rs2 rs3 y q a2 tr in
    let b3 = after_above true true w r (r + 1) rs rs1 rs3 _ _ (omega arith) a1 a3 in
    bind_run z P.2.2.0 rs3 (apart b x.footprint q) (λ operands. aimed b cells x.value operands >>= (λ footprint. late_in (program_at z) v y.value >>= (λ c. assigned_in here t x.value c footprint (is_struct t)))) at3 k (unsequenced_node z P.2.2.0 r (r + 1) P.2.2.2.0 P.2.2.2.1 rs3 at3 x.footprint q _ (omega (arith, a3.long, has.0)) (omega (arith, a3.long, has.0)) b3.footprint a3.footprint (λ p at4 rs4 wr l4.
    let b4 = after_merged true w r (r + 1) rs rs3 rs4 _ p (omega arith) b3 wr in
    bind_run z P.2.2.2.0 rs4 (aimed b cells x.value p) (λ footprint. late_in (program_at z) v y.value >>= (λ c. assigned_in here t x.value c footprint (is_struct t))) at4 k (target_node z t P.2.2.2.0 r P.2.2.2.2.0 P.2.2.2.2.1 rs4 at4 x.value p _ (omega (arith, b4.long, has.0)) (b4.content refl) b4.footprint (λ o at5 rs5 wr5 l5.
    let b5 = after_tracked true w r rs rs4 rs5 _ o b4 wr5 in
    bind_run z P.2.2.2.2.0 rs5 (late_in (program_at z) v y.value) (λ c. assigned_in here t x.value c o (is_struct t)) at5 k (late_run z v (r + 1) P.2.2.2.2.0 P.2.2.2.2.2.0 P.2.2.2.2.2.1 rs5 at5 y.value _ (omega (arith, b5.long, has.0)) (wr5.contents (r + 1) ∙ wr.contents (r + 1) ∙ a3.content refl) (λ c at6 rs6 re l6.
    let b6 = after_higher true w r (r + 1) rs rs5 rs6 _ (omega arith) b5 re.others re.long in
    assigned_run z t r (r + 1) P.2.2.2.2.2.0 to P.2.2.2.2.2.2 rs6 at6 x.value c o (omega (arith, b6.long, has.0)) (b6.content refl) re.content b6.footprint k (λ it at7 rs7 wr7 l7.
    h it at7 rs7 (after_more true (takes fate) w r rs rs6 rs7 _ it.value it.footprint b6 wr7) (later_still at at1 at7 l1 (later_still at1 at2 at7 l2 (later_still at2 at3 at7 l3 (later_still at3 at4 at7 l4 (later_still at4 at5 at7 l5 (later_still at5 at6 at7 l6 l7)))))))))))))))))))

-- ---- load, modify, store

-- the lvalue's address in r, with the footprint of the operands, and what lay there in the register behind
record Work (w r : ℕ) (rs rs1 : List Register) (a : Option Address) (old : Content) (p : Footprint) : Type 0 where
  place : (register_at rs1 r).content ≡ Some (content.Address a)
  footprint : footprint_at rs1 r ≡ p
  content : (register_at rs1 (r + 1)).content ≡ Some old
  below : (i : ℕ) → i < r → register_at rs1 i ≡ register_at rs i
  long : length rs1 ≡ w

work_higher : (w r j : ℕ) (rs rs1 rs2 : List Register) (a : Option Address) (old : Content) (p : Footprint) → r + 1 < j → Work w r rs rs1 a old p → ((i : ℕ) → i ≢ j → register_at rs2 i ≡ register_at rs1 i) → length rs2 ≡ length rs1 → Work w r rs rs2 a old p
work_higher w r j rs rs1 rs2 a old p lt b others long =
    record {
      place = ap (λ y. y.content) (others r (λ e. absurd (omega arith))) ∙ b.place;
      footprint = ap (λ y. y.footprint) (others r (λ e. absurd (omega arith))) ∙ b.footprint;
      content = ap (λ y. y.content) (others (r + 1) (λ e. absurd (omega arith))) ∙ b.content;
      below = λ i under. others i (λ e. absurd (omega arith)) ∙ b.below i under;
      long = long ∙ b.long;
    }

work_above : (t : Bool) (w r j : ℕ) (rs rs1 rs2 : List Register) (a : Option Address) (old : Content) (p : Footprint) (x : Valued Content) → r + 1 < j → Work w r rs rs1 a old p → After t w j rs1 rs2 x → Work w r rs rs2 a old p
work_above t w r j rs rs1 rs2 a old p x lt b h =
    record {
      place = ap (λ y. y.content) (h.below r (omega arith)) ∙ b.place;
      footprint = ap (λ y. y.footprint) (h.below r (omega arith)) ∙ b.footprint;
      content = ap (λ y. y.content) (h.below (r + 1) lt) ∙ b.content;
      below = λ i under. h.below i (omega arith) ∙ b.below i under;
      long = h.long;
    }

work_tracked : (w r : ℕ) (rs rs1 rs2 : List Register) (a : Option Address) (old : Content) (p q : Footprint) → Work w r rs rs1 a old p → Tracked r q rs1 rs2 → Work w r rs rs2 a old q
work_tracked w r rs rs1 rs2 a old p q b h =
    record { place = h.contents r ∙ b.place; footprint = h.footprint; content = h.contents (r + 1) ∙ b.content; below = λ i under. h.others i (λ e. absurd (omega arith)) ∙ b.below i under; long = h.long ∙ b.long }

work_merged : (w r : ℕ) (rs rs1 rs2 : List Register) (a : Option Address) (old : Content) (p q : Footprint) → Work w r rs rs1 a old p → Merged r (r + 2) q rs1 rs2 → Work w r rs rs2 a old q
work_merged w r rs rs1 rs2 a old p q b h =
    record {
      place = h.contents r ∙ b.place;
      footprint = h.footprint;
      content = h.contents (r + 1) ∙ b.content;
      below = λ i under. h.others i (λ e. absurd (omega arith)) (λ e. absurd (omega arith)) ∙ b.below i under;
      long = h.long ∙ b.long;
    }

after_work : (t : Bool) (w r : ℕ) (rs rs1 rs2 : List Register) (a : Option Address) (old c : Content) (p q : Footprint) → Work w r rs rs1 a old p → Wrote r (record { content = Some c; footprint = q }) rs1 rs2 → After t w r rs rs2 (valued c q)
after_work t w r rs rs1 rs2 a old c p q b h =
    record { content = λ e. ap (λ x. x.content) h.here; footprint = ap (λ x. x.footprint) h.here; below = λ i lt. h.others i (λ e. absurd (omega arith)) ∙ b.below i lt; long = h.long ∙ b.long }

-- the lvalue, and what lies there
loaded_run : {B : Type 0} (z : Scene) (t : CType) (pl : Place) → PlaceOf z pl → (r from to : ℕ) → r + 3 < wide z → loaded_piece z.site t (place_of z.site pl r) r from to → (rs : List Register) → length rs ≡ wide z → (at : At) → at.ticks ≤ z.most → (on : Valued (Option Address) → Valued Content → Step B) (k : B → At → Over) → ((x : Valued (Option Address)) (old : Valued Content) (at1 : At) (rs1 : List Register) → Work (wide z) r rs rs1 x.value old.value old.footprint → Later at at1 → Run z to rs1 at1 (finish (on x old at1) k)) → Run z from rs at (finish ((place_in (here_in z) pl >>= (λ x. loaded z.site.tracks (model_of z) (cell_type (program_at z) t) x >>= (λ old. on x old))) at) k)
loaded_run z t pl place r from to lt has rs long at le on k h =
    bind_run z from rs (place_in (here_in z) pl) (λ x. loaded z.site.tracks (model_of z) (cell_type (program_at z) t) x >>= (λ old. on x old)) at k (place r from has.0 has.1 rs long at le _ (λ x at1 rs1 a l1.
    bind_run z has.0 rs1 (loaded z.site.tracks (model_of z) (cell_type (program_at z) t) x) (λ old. on x old) at1 k (load_beside_node z has.0 r to (cell_type (program_at z) t) rs1 at1 x _ has.2 (omega (arith, a.long)) (a.content refl) a.footprint (λ old at2 rs2 rs3 tr re l2.
    h x old at2 rs3 (record {
      place = ap (λ y. y.content) (re.others r (λ e. absurd (omega arith))) ∙ tr.contents r ∙ a.content refl;
      footprint = re.footprints r ∙ tr.footprint;
      content = re.content;
      below = λ i under. re.others i (λ e. absurd (omega arith)) ∙ tr.others i (λ e. absurd (omega arith)) ∙ a.below i under;
      long = re.long ∙ tr.long ∙ a.long;
    }) (later_still at at1 at2 l1 l2)))))

-- the right operand of `op=`
operand_run : {B : Type 0} (z : Scene) (v : Value) → Expr z v → (r from to : ℕ) → r + 3 < wide z → (value_code z.site wanted v (r + 2) ▸ clash z.site (Unsequenced r (r + 2))) from to → (rs rs1 : List Register) (at at1 : At) (a : Option Address) (old : Valued Content) → Work (wide z) r rs rs1 a old.value old.footprint → at1.ticks ≤ z.most → Later at at1 → (on : Content → Footprint → Step B) (k : B → At → Over) → ((d : Content) (p : Footprint) (at2 : At) (rs2 : List Register) → Work (wide z) r rs rs2 a old.value p → (register_at rs2 (r + 2)).content ≡ Some d → Later at at2 → Run z to rs2 at2 (finish (on d p at2) k)) → Run z from rs1 at1 (finish ((eval (here_in z) wanted v >>= (λ y. apart z.site.tracks old.footprint y.footprint >>= (λ p. on y.value p))) at1) k)
operand_run z v expr r from to lt has rs rs1 at at1 a old b le l on k h =
    bind_run z from rs1 (eval (here_in z) wanted v) (λ y. apart z.site.tracks old.footprint y.footprint >>= (λ p. on y.value p)) at1 k (expr wanted (r + 2) from has.0 has.1 rs1 b.long at1 le _ (λ y at2 rs2 a2 l2.
    let b2 = work_above true (wide z) r (r + 2) rs rs1 rs2 a old.value old.footprint y (omega arith) b a2 in
    bind_run z has.0 rs2 (apart z.site.tracks old.footprint y.footprint) (λ p. on y.value p) at2 k (unsequenced_node z has.0 r (r + 2) to has.2 rs2 at2 old.footprint y.footprint _ (omega (arith, b2.long)) (omega (arith, b2.long)) b2.footprint a2.footprint (λ p at3 rs3 wr l3.
    h y.value p at3 rs3 (work_merged (wide z) r rs rs2 rs3 a old.value old.footprint p b2 wr) (wr.contents (r + 2) ∙ a2.content refl) (later_still at at1 at3 l (later_still at1 at2 at3 l2 l3))))))

-- what is to be written is no pending write of the operands
aimed_run : {B : Type 0} (z : Scene) (t : CType) (r i next : ℕ) → r + 3 < wide z → scalar_target z.site t r i next → (rs rs1 : List Register) (at at1 : At) (a : Option Address) (old d : Content) (p : Footprint) → Work (wide z) r rs rs1 a old p → (register_at rs1 (r + 2)).content ≡ Some d → Later at at1 → (on : Footprint → Step B) (k : B → At → Over) → ((q : Footprint) (at2 : At) (rs2 : List Register) → Work (wide z) r rs rs2 a old q → (register_at rs2 (r + 2)).content ≡ Some d → Later at at2 → Run z next rs2 at2 (finish (on q at2) k)) → Run z i rs1 at1 (finish ((aimed z.site.tracks (one_cell (cell_type (program_at z) t)) a p >>= on) at1) k)
aimed_run z t r i next lt has rs rs1 at at1 a old d p b ed l on k h =
    bind_run z i rs1 (aimed z.site.tracks (one_cell (cell_type (program_at z) t)) a p) on at1 k (scalar_target_node z t i r next has rs1 at1 a p _ (omega (arith, b.long)) b.place b.footprint (λ q at2 rs2 wr l2.
    h q at2 rs2 (work_tracked (wide z) r rs rs1 rs2 a old p q b wr) (wr.contents (r + 2) ∙ ed) (later_still at at1 at2 l l2)))

-- the new content goes to the lvalue
updated_run : (z : Scene) (t : CType) (fate : Fate) (r y i to : ℕ) → r + 3 < wide z → scalar_stored z.site t r (r + 3) y i to → (rs rs1 : List Register) (at at1 : At) (a : Option Address) (old new value : Content) (p : Footprint) → new ≢ content.Unset → Work (wide z) r rs rs1 a old p → (register_at rs1 (r + 3)).content ≡ Some new → (register_at rs1 y).content ≡ Some value → Later at at1 → (k : Valued Content → At → Over) → Follows z (takes fate) r to rs at k → Run z i rs1 at1 (finish (updated (here_in z) t a new value p at1) k)
updated_run z t fate r y i to lt has rs rs1 at at1 a old content.Unset value p ne b en ev l k h = absurd (ne refl)
updated_run z t fate r y i to lt has rs rs1 at at1 a old (content.Number n) value p ne b en ev l k h =
    store_node z z.site.tracks i r (r + 3) y to (cell_type (program_at z) t) rs1 at1 a (content.Number n) value p k has (omega (arith, b.long)) b.place en ev b.footprint (λ x at2 rs2 wr l2.
    h x at2 rs2 (after_work (takes fate) (wide z) r rs rs1 rs2 a old x.value p x.footprint b wr) (later_still at at1 at2 l l2))
updated_run z t fate r y i to lt has rs rs1 at at1 a old (content.Address n) value p ne b en ev l k h =
    store_node z z.site.tracks i r (r + 3) y to (cell_type (program_at z) t) rs1 at1 a (content.Address n) value p k has (omega (arith, b.long)) b.place en ev b.footprint (λ x at2 rs2 wr l2.
    h x at2 rs2 (after_work (takes fate) (wide z) r rs rs1 rs2 a old x.value p x.footprint b wr) (later_still at at1 at2 l l2))

-- which register has the value that is given
kept_there : (when : When) (rs : List Register) (i j : ℕ) (old new : Content) → (register_at rs i).content ≡ Some old → (register_at rs j).content ≡ Some new → (register_at rs (kept_in when i j)).content ≡ Some (kept when old new)
kept_there e.before rs i j old new ei ej = ei
kept_there e.after rs i j old new ei ej = ej

-- what is done with a number, and with a pointer
abbrev number_goes : Around → CType → When → Option Address → Content → Footprint → ℤ → Step (Valued Content)
number_goes here t when a old p n =
    updated here t a (content.Number (convert_of here.program.model (scalar_in t) n)) (kept when old (content.Number (convert_of here.program.model (scalar_in t) n))) p

abbrev computes : Around → CType → When → Op → Scalar → Option Address → (old d : Content) → Footprint → Step (Valued Content)
computes here t when op s a old d p =
    number_in old >>= (λ n. applied here.program.model op s (content.Number (convert_of here.program.model s n)) d >>= number_goes here t when a old p)

abbrev steps_by : Around → CType → When → Op → ℕ → Option Address → (old d : Content) → Footprint → Step (Valued Content)
steps_by here t when op size a old d p = moved op size old d >>= (λ n. updated here t a (content.Address n) (kept when old (content.Address n)) p)

-- the operator in its type, and the store
computed_run : (z : Scene) (t : CType) (when : When) (op : Op) (s : Scalar) (fate : Fate) (r i m to : ℕ) → r + 3 < wide z → computed z.site t op s r i m → scalar_stored z.site t r (r + 3) (kept_in when (r + 1) (r + 3)) m to → (rs rs1 : List Register) (at at1 : At) (a : Option Address) (old d : Content) (p : Footprint) → Work (wide z) r rs rs1 a old p → (register_at rs1 (r + 2)).content ≡ Some d → Later at at1 → (k : Valued Content → At → Over) → Follows z (takes fate) r to rs at k → Run z i rs1 at1 (finish ((number_in old >>= (λ n. applied (model_of z) op s (content.Number (convert_of (model_of z) s n)) d >>= (λ n. updated (here_in z) t a (content.Number (convert_of (model_of z) (scalar_in t) n)) (kept when old (content.Number (convert_of (model_of z) (scalar_in t) n))) p))) at1) k)
computed_run z t when op s fate r i m to lt has stores rs rs1 at at1 a old d p b ed l k h =
    let w = wide z in
    bind_run z i rs1 (number_in old) (λ n. applied (model_of z) op s (content.Number (convert_of (model_of z) s n)) d >>= number_goes (here_in z) t when a old p) at1 k (integer_node z i (r + 3) (r + 1) has.0 s rs1 at1 old _ has.1 (omega (arith, b.long)) b.content (λ n at2 rs2 re2 l2.
    let b2 = work_higher w r (r + 3) rs rs1 rs2 a old p (omega arith) b re2.others re2.long in
    bind_run z has.0 rs2 (applied (model_of z) op s (content.Number (convert_of (model_of z) s n)) d) (number_goes (here_in z) t when a old p) at2 k (apply_node z has.0 (r + 3) (r + 3) (r + 2) has.2.0 op s rs2 at2 (content.Number (convert_of (model_of z) s n)) d _ has.2.1 (omega (arith, b2.long)) re2.content (ap (λ y. y.content) (re2.others (r + 2) (λ e. absurd (omega arith))) ∙ ed) (λ n at3 rs3 re3 l3.
    let b3 = work_higher w r (r + 3) rs rs2 rs3 a old p (omega arith) b2 re3.others re3.long in
    integer_node z has.2.0 (r + 3) (r + 3) m (scalar_in t) rs3 at3 (content.Number n) (λ n at4. finish (number_goes (here_in z) t when a old p n at4) k) has.2.2 (omega (arith, b3.long)) re3.content (λ n at4 rs4 re4 l4.
    let b4 = work_higher w r (r + 3) rs rs3 rs4 a old p (omega arith) b3 re4.others re4.long in
    updated_run z t fate r (kept_in when (r + 1) (r + 3)) m to lt stores rs rs4 at at4 a old (content.Number (convert_of (model_of z) (scalar_in t) n)) _ p (λ e. absurd (cc)) b4 re4.content (kept_there when rs4 (r + 1) (r + 3) old _ b4.content re4.content) (later_still at at1 at4 l (later_still at1 at2 at4 l2 (later_still at2 at3 at4 l3 l4))) k h)))))

-- the pointer moved, and the store
stepped_run : (z : Scene) (t : CType) (when : When) (op : Op) (size : ℕ) (fate : Fate) (r i m to : ℕ) → r + 3 < wide z → stepped z.site op size r i m → scalar_stored z.site t r (r + 3) (kept_in when (r + 1) (r + 3)) m to → (rs rs1 : List Register) (at at1 : At) (a : Option Address) (old d : Content) (p : Footprint) → Work (wide z) r rs rs1 a old p → (register_at rs1 (r + 2)).content ≡ Some d → Later at at1 → (k : Valued Content → At → Over) → Follows z (takes fate) r to rs at k → Run z i rs1 at1 (finish ((moved op size old d >>= (λ n. updated (here_in z) t a (content.Address n) (kept when old (content.Address n)) p)) at1) k)
stepped_run z t when op size fate r i m to lt has stores rs rs1 at at1 a old d p b ed l k h =
    bind_run z i rs1 (moved op size old d) (λ n. updated (here_in z) t a (content.Address n) (kept when old (content.Address n)) p) at1 k (move_node z i (r + 3) (r + 1) (r + 2) m op size rs1 at1 old d _ has (omega (arith, b.long)) b.content ed (λ n at2 rs2 re l2.
    let b2 = work_higher (wide z) r (r + 3) rs rs1 rs2 a old p (omega arith) b re.others re.long in
    updated_run z t fate r (kept_in when (r + 1) (r + 3)) m to lt stores rs rs2 at at2 a old (content.Address n) _ p (λ e. absurd (cc)) b2 re.content (kept_there when rs2 (r + 1) (r + 3) old _ b2.content re.content) (later_still at at1 at2 l l2) k h))

pub update_runs : (z : Scene) (t : CType) (op : Op) (s : Scalar) (pl : Place) (v : Value) → PlaceOf z pl → Expr z v → Expr z (e.Update t op s pl v)
update_runs z t op s pl v place expr fate r from to has rs long at le k h =
    let P = has.1 in
    loaded_run z t pl place r from P.0 has.0 P.1 rs long at le (λ x old. eval (here_in z) wanted v >>= (λ y. apart z.site.tracks old.footprint y.footprint >>= (λ j. aimed z.site.tracks (one_cell (cell_type (program_at z) t)) x.value j >>= computes (here_in z) t e.after op s x.value old.value y.value))) k (λ x old at1 rs1 b1 l1.
    operand_run z v expr r P.0 P.2.0 has.0 P.2.1 rs rs1 at at1 x.value old b1 (omega (arith, l1.ticks)) l1 (λ d j. aimed z.site.tracks (one_cell (cell_type (program_at z) t)) x.value j >>= computes (here_in z) t e.after op s x.value old.value d) k (λ d j at2 rs2 b2 ed l2.
    aimed_run z t r P.2.0 P.2.2.0 has.0 P.2.2.1 rs rs2 at at2 x.value old.value d j b2 ed l2 (computes (here_in z) t e.after op s x.value old.value d) k (λ p at3 rs3 b3 ed3 l3.
    computed_run z t e.after op s fate r P.2.2.0 P.2.2.2.0 to has.0 P.2.2.2.1 P.2.2.2.2 rs rs3 at at3 x.value old.value d p b3 ed3 l3 k h)))

pub update_pointer_runs : (z : Scene) (t : CType) (op : Op) (size : ℕ) (pl : Place) (v : Value) → PlaceOf z pl → Expr z v → Expr z (e.UpdatePointer t op size pl v)
update_pointer_runs z t op size pl v place expr fate r from to has rs long at le k h =
    let P = has.1 in
    loaded_run z t pl place r from P.0 has.0 P.1 rs long at le (λ x old. eval (here_in z) wanted v >>= (λ y. apart z.site.tracks old.footprint y.footprint >>= (λ j. aimed z.site.tracks (one_cell (cell_type (program_at z) t)) x.value j >>= steps_by (here_in z) t e.after op size x.value old.value y.value))) k (λ x old at1 rs1 b1 l1.
    operand_run z v expr r P.0 P.2.0 has.0 P.2.1 rs rs1 at at1 x.value old b1 (omega (arith, l1.ticks)) l1 (λ d j. aimed z.site.tracks (one_cell (cell_type (program_at z) t)) x.value j >>= steps_by (here_in z) t e.after op size x.value old.value d) k (λ d j at2 rs2 b2 ed l2.
    aimed_run z t r P.2.0 P.2.2.0 has.0 P.2.2.1 rs rs2 at at2 x.value old.value d j b2 ed l2 (steps_by (here_in z) t e.after op size x.value old.value d) k (λ p at3 rs3 b3 ed3 l3.
    stepped_run z t e.after op size fate r P.2.2.0 P.2.2.2.0 to has.0 P.2.2.2.1 P.2.2.2.2 rs rs3 at at3 x.value old.value d p b3 ed3 l3 k h)))

pub step_runs : (z : Scene) (t : CType) (when : When) (op : Op) (s : Scalar) (pl : Place) → PlaceOf z pl → Expr z (e.Step t when op s pl)
step_runs z t when op s pl place fate r from to has rs long at le k h =
    let P = has.1 in
    let one = content.Number (pos 1) in
    loaded_run z t pl place r from P.0 has.0 P.1 rs long at le (λ x old. aimed z.site.tracks (one_cell (cell_type (program_at z) t)) x.value old.footprint >>= computes (here_in z) t when op s x.value old.value one) k (λ x old at1 rs1 b1 l1.
    constant_node z P.0 (r + 2) P.2.0 one rs1 at1 _ P.2.1 (omega (arith, b1.long, has.0)) (λ rs2 wr.
    aimed_run z t r P.2.0 P.2.2.0 has.0 P.2.2.1 rs rs2 at at1 x.value old.value one old.footprint (work_higher (wide z) r (r + 2) rs rs1 rs2 x.value old.value old.footprint (omega arith) b1 wr.others wr.long) (ap (λ y. y.content) wr.here) l1 (computes (here_in z) t when op s x.value old.value one) k (λ p at3 rs3 b3 ed3 l3.
    computed_run z t when op s fate r P.2.2.0 P.2.2.2.0 to has.0 P.2.2.2.1 P.2.2.2.2 rs rs3 at at3 x.value old.value one p b3 ed3 l3 k h)))

pub step_pointer_runs : (z : Scene) (t : CType) (when : When) (op : Op) (size : ℕ) (pl : Place) → PlaceOf z pl → Expr z (e.StepPointer t when op size pl)
step_pointer_runs z t when op size pl place fate r from to has rs long at le k h =
    let P = has.1 in
    let one = content.Number (pos 1) in
    loaded_run z t pl place r from P.0 has.0 P.1 rs long at le (λ x old. aimed z.site.tracks (one_cell (cell_type (program_at z) t)) x.value old.footprint >>= steps_by (here_in z) t when op size x.value old.value one) k (λ x old at1 rs1 b1 l1.
    constant_node z P.0 (r + 2) P.2.0 one rs1 at1 _ P.2.1 (omega (arith, b1.long, has.0)) (λ rs2 wr.
    aimed_run z t r P.2.0 P.2.2.0 has.0 P.2.2.1 rs rs2 at at1 x.value old.value one old.footprint (work_higher (wide z) r (r + 2) rs rs1 rs2 x.value old.value old.footprint (omega arith) b1 wr.others wr.long) (ap (λ y. y.content) wr.here) l1 (steps_by (here_in z) t when op size x.value old.value one) k (λ p at3 rs3 b3 ed3 l3.
    stepped_run z t when op size fate r P.2.2.0 P.2.2.2.0 to has.0 P.2.2.2.1 P.2.2.2.2 rs rs3 at at3 x.value old.value one p b3 ed3 l3 k h)))
