-- The code of constants, lvalues, conversions and operators does what they do, where that of their operands does.
use Rattle.std.proofs.Common.{◌≡◌, ℕ, ◌+◌, ◌<◌, ◌≤◌, ℤ, pos, negsuc, List, length, Option, Some, None, Bool, true, false, refl, sym, ap, ◌∙◌, subst, arith, if◌then◌else◌}
use Rattle.lt_model.specs.declared.cell.Address.{Address}
use Rattle.lt_model.specs.declared.cell.Content.{Content}
use Rattle.lt_model.specs.declared.cell.Content.TheVariants as content
use Rattle.lt_model.specs.declared.scalar.Scalar.{Scalar}
use Rattle.lt_model.specs.declared.operator.Op.{Op}
use Rattle.lt_model.specs.declared.operator.Op.TheVariants as O
use Rattle.lt_model.specs.Scalar.{convert_of}
use Rattle.lt_model.specs.State.{Footprint, Valued, untouched}
use Rattle.lt_tree.specs.Typing.Types.{CType}
use Rattle.lt_tree.specs.Typing.TypedTree as e
use Rattle.lt_tree.specs.Typing.TypedTree.{Value, Values, Place, Conversion, Side, on_left, on_right}
use Rattle.lt_ir.specs.declared.pure.How.TheVariants as how
use Rattle.lt_ir.specs.declared.node.Node.TheVariants as node
use Rattle.lt_ir.specs.Running.{At, Step, Over, gives, ◌>>=◌, place}
use Rattle.lt_ir.specs.Evaluation.{valued, address_in, truth_in, of_truth, apart, loaded, moved, member_at, applied, counted, compared}
use Rattle.lt_ir.specs.Graph.{Register, register_at}
use Rattle.lt_meaning.specs.Expressions.{Around, Fate, wanted, unconverted, dropped, dropped_branch, untaken, takes, inside, of_last, converted, converted_here, late as late_in, cell_type, scalar_in, eval, place_of as place_in, arguments_of as arguments_in, pointer_of, count_of as count_in_of}
use Rattle.lt_code.specs.Pieces.{Piece, one, ◌▸◌}
use Rattle.lt_ir.specs.declared.node.Parts.TheVariants.{Unsequenced}
use Rattle.lt_code.specs.Code.{up_to, clash, conversion, conversion_here, late, pointer_in, count_in, value_code, test_code, place_of, arguments_of, count_of}
use Rattle.lt_code.proofs.Finishing.{finish, Later, later_same, later_still}
use Rattle.lt_code.proofs.Registers.{After, AfterArguments, replaced_same, after_any, after_first, after_more, after_puts, after_merged, after_higher, after_above, after_untaken}
use Rattle.lt_code.proofs.Nodes.{Scene, program_at, here_in, model_of, wide, Run, Replacing, constant_node, replaced_node, address_node, load_node, move_node, subtract_node, apply_node, compare_node, member_node, convert_node, pointer_node, unsequenced_node, branch_node, bind_run}

-- what follows an evaluation
abbrev pub Follows : Scene → (t : Bool) → (r to : ℕ) → List Register → At → (Valued Content → At → Over) → Type 0
Follows z t r to rs at k = (x : Valued Content) (at1 : At) (rs1 : List Register) → After t (wide z) r rs rs1 x → Later at at1 → Run z to rs1 at1 (k x at1)

-- a piece, and what it evaluates into r
abbrev pub Evaluates : Scene → (t : Bool) → (r : ℕ) → Piece → Step (Valued Content) → Type 0
Evaluates z t r piece m =
    (from to : ℕ) → piece from to → (rs : List Register) → length rs ≡ wide z → (at : At) → at.ticks ≤ z.most → (k : Valued Content → At → Over) → Follows z t r to rs at k → Run z from rs at (finish (m at) k)

-- The code of an expression does what the expression does, from any registers, while no more ticks are left than the scene says.
abbrev pub Expr : Scene → Value → Type 0
Expr z v = (fate : Fate) (r : ℕ) → Evaluates z (takes fate) r (value_code z.site fate v r) (eval (here_in z) fate v)

-- a value's truth, with its footprint
abbrev pub tested_value : Around → Value → Step (Valued Bool)
tested_value here v = eval here wanted v >>= (λ x. truth_in x.value >>= (λ b. gives (valued b x.footprint)))

-- what follows a test
abbrev pub Branches : Scene → (r on off : ℕ) → List Register → At → (Valued Bool → At → Over) → Type 0
Branches z r on off rs at k = (x : Valued Bool) (at1 : At) (rs1 : List Register) → After false (wide z) r rs rs1 (valued content.Unset x.footprint) → Later at at1 → Run z (if x.value then on else off) rs1 at1 (k x at1)

-- the code of a test goes where the value's truth leads
abbrev pub Tests : Scene → Value → Type 0
Tests z v =
    (r from on off : ℕ) → test_code z.site v r from on off → (rs : List Register) → length rs ≡ wide z → (at : At) → at.ticks ≤ z.most → (k : Valued Bool → At → Over) → Branches z r on off rs at k → Run z from rs at (finish (tested_value (here_in z) v at) k)

-- what follows the evaluation of an lvalue
abbrev pub Leads : Scene → (r to : ℕ) → List Register → At → (Valued (Option Address) → At → Over) → Type 0
Leads z r to rs at k = (x : Valued (Option Address)) (at1 : At) (rs1 : List Register) → After true (wide z) r rs rs1 (valued (content.Address x.value) x.footprint) → Later at at1 → Run z to rs1 at1 (k x at1)

-- the code of an lvalue gives its address
abbrev pub PlaceOf : Scene → Place → Type 0
PlaceOf z p =
    (r from to : ℕ) → place_of z.site p r from to → (rs : List Register) → length rs ≡ wide z → (at : At) → at.ticks ≤ z.most → (k : Valued (Option Address) → At → Over) → Leads z r to rs at k → Run z from rs at (finish (place_in (here_in z) p at) k)

-- the code of arguments gives their values
abbrev pub Arguments : Scene → Values → Type 0
Arguments z vs =
    (r from to : ℕ) → arguments_of z.site vs r from to → (rs : List Register) → length rs ≡ wide z → (at : At) → at.ticks ≤ z.most → (k : Valued (List Content) → At → Over) → ((xs : Valued (List Content)) (at1 : At) (rs1 : List Register) → AfterArguments (wide z) r (count_of vs) rs rs1 xs → Later at at1 → Run z to rs1 at1 (k xs at1)) → Run z from rs at (finish (arguments_in (here_in z) vs at) k)

pub constant_runs : (z : Scene) (t : CType) (i : ℤ) → Expr z (e.Constant t i)
constant_runs z t i fate r from to has rs long at le k h =
    constant_node z from r to (content.Number i) rs at _ has.1 (omega (arith, has.0)) (λ rs1 wr. h (valued (content.Number i) untouched) at rs1 (after_first (takes fate) (wide z) r rs rs1 (content.Number i) untouched long wr) (later_same at))

pub load_runs : (z : Scene) (t : CType) (p : Place) → PlaceOf z p → Expr z (e.Load t p)
load_runs z t p place fate r from to has rs long at le k h =
    bind_run z from rs (place_in (here_in z) p) (loaded z.site.tracks (model_of z) (cell_type (program_at z) t)) at k (place r from has.1.0 has.1.1 rs long at le _ (λ x at1 rs1 a l.
    load_node z has.1.0 r to (cell_type (program_at z) t) rs1 at1 x k has.1.2 (omega (arith, has.0, a.long)) (a.content refl) a.footprint (λ y at2 rs2 wr l2.
    h y at2 rs2 (after_more true (takes fate) (wide z) r rs rs1 rs2 (valued (content.Address x.value) x.footprint) y.value y.footprint a wr) (later_still at at1 at2 l l2))))

-- an lvalue whose address is the value
pub address_runs : (z : Scene) (p : Place) → PlaceOf z p → (fate : Fate) (r : ℕ) → Evaluates z (takes fate) r (place_of z.site p r) (place_in (here_in z) p >>= (λ x. gives (valued (content.Address x.value) x.footprint)))
address_runs z p place fate r from to has rs long at le k h =
    bind_run z from rs (place_in (here_in z) p) (λ x. gives (valued (content.Address x.value) x.footprint)) at k (place r from to has rs long at le _ (λ x at1 rs1 a l. h (valued (content.Address x.value) x.footprint) at1 rs1 (after_any (takes fate) (wide z) r rs rs1 _ a) l))

-- ---- conversions

-- a register's content, converted
pub conversion_run : (z : Scene) (it : Conversion) (t : CType) (i r to : ℕ) → conversion z.site it t r i to → (rs : List Register) (at : At) (c : Content) (k : Content → At → Over) → r < length rs → (register_at rs r).content ≡ Some c → Replacing z r to rs at (λ d. d) k → Run z i rs at (finish (converted (program_at z) it t c at) k)
conversion_run z e.to_integer t i r to has rs at c k lt ec h = convert_node z i r r to (how.ToInteger (scalar_in t)) rs at c k has lt ec h
conversion_run z e.to_truth t i r to has rs at c k lt ec h = convert_node z i r r to how.ToTruth rs at c k has lt ec h
conversion_run z e.to_null t i r to has rs at c k lt ec h = replaced_node z i r to (content.Address None) rs at _ has lt (λ rs1 wr. h (content.Address None) at rs1 wr (later_same at))
conversion_run z e.to_pointer t i r to has rs at c k lt ec h = convert_node z i r r to how.ToPointer rs at c k has lt ec h
conversion_run z e.to_void t i r to has rs at c k lt ec h = replaced_node z i r to content.Unset rs at _ has lt (λ rs1 wr. h content.Unset at rs1 wr (later_same at))

-- a conversion that may be left to others
conversion_here_run : (z : Scene) (fate : Fate) (it : Conversion) (t : CType) (t1 : Bool) (r i to : ℕ) → conversion_here z.site fate it t r i to → (rs rs1 : List Register) (at : At) (x : Valued Content) (k : Content → At → Over) → r < wide z → After true (wide z) r rs rs1 x → ((c : Content) (at1 : At) (rs2 : List Register) → After t1 (wide z) r rs rs2 (valued c x.footprint) → Later at at1 → Run z to rs2 at1 (k c at1)) → Run z i rs1 at (finish (converted_here fate (program_at z) it t x.value at) k)
conversion_here_run z wanted it t t1 r i to has rs rs1 at x k lt a h =
    conversion_run z it t i r to has rs1 at x.value k (omega (arith, a.long)) (a.content refl) (λ c at1 rs2 wr l. h c at1 rs2 (after_puts true t1 (wide z) r rs rs1 rs2 x c a wr) l)
conversion_here_run z dropped it t t1 r i to has rs rs1 at x k lt a h =
    conversion_run z it t i r to has rs1 at x.value k (omega (arith, a.long)) (a.content refl) (λ c at1 rs2 wr l. h c at1 rs2 (after_puts true t1 (wide z) r rs rs1 rs2 x c a wr) l)
conversion_here_run z untaken it t t1 r i to has rs rs1 at x k lt a h =
    conversion_run z it t i r to has rs1 at x.value k (omega (arith, a.long)) (a.content refl) (λ c at1 rs2 wr l. h c at1 rs2 (after_puts true t1 (wide z) r rs rs1 rs2 x c a wr) l)
conversion_here_run z unconverted it t t1 r i to has rs rs1 at x k lt a h =
    subst (λ i. Run z i rs1 at (k x.value at)) (sym has) (h x.value at rs1 (after_any t1 (wide z) r rs rs1 x a) (later_same at))
conversion_here_run z dropped_branch it t t1 r i to has rs rs1 at x k lt a h =
    subst (λ i. Run z i rs1 at (k x.value at)) (sym has) (h x.value at rs1 (after_any t1 (wide z) r rs rs1 x a) (later_same at))

-- whatever becomes of a conversion's value, its operand's is taken
takes_inside : (fate : Fate) → takes (inside fate) ≡ true
takes_inside wanted = refl
takes_inside unconverted = refl
takes_inside dropped = refl
takes_inside dropped_branch = refl
takes_inside untaken = refl

-- whatever becomes of what stands behind marks, or last in a comma expression, it is taken
pub takes_last : (fate : Fate) → takes (of_last fate) ≡ true
takes_last wanted = refl
takes_last unconverted = refl
takes_last dropped = refl
takes_last dropped_branch = refl
takes_last untaken = refl

pub converted_runs : (z : Scene) (it : Conversion) (t : CType) (v : Value) → Expr z v → (fate : Fate) (r : ℕ) → Evaluates z (takes fate) r (up_to z.site r (value_code z.site (inside fate) v r ▸ conversion_here z.site fate it t r)) (eval (here_in z) (inside fate) v >>= (λ x. converted_here fate (program_at z) it t x.value >>= (λ c. gives (valued c x.footprint))))
converted_runs z it t v expr fate r from to has rs long at le k h =
    bind_run z from rs (eval (here_in z) (inside fate) v) (λ x. converted_here fate (program_at z) it t x.value >>= (λ c. gives (valued c x.footprint))) at k (expr (inside fate) r from has.1.0 has.1.1 rs long at le _ (λ x at1 rs1 a0 l.
    let a = subst (λ b. After b (wide z) r rs rs1 x) (takes_inside fate) a0 in
    bind_run z has.1.0 rs1 (converted_here fate (program_at z) it t x.value) (λ c. gives (valued c x.footprint)) at1 k (conversion_here_run z fate it t (takes fate) r has.1.0 to has.1.2 rs rs1 at1 x _ has.0 a (λ c at2 rs2 b l2.
    h (valued c x.footprint) at2 rs2 b (later_still at at1 at2 l l2)))))

pub to_void_runs : (z : Scene) (t : CType) (v : Value) → Expr z v → Expr z (e.Convert e.to_void t v)
to_void_runs z t v expr fate r from to has rs long at le k h =
    bind_run z from rs (eval (here_in z) untaken v) (λ x. gives (valued content.Unset x.footprint)) at k (expr untaken r from has.1.0 has.1.1 rs long at le _ (λ x at1 rs1 a l.
    replaced_node z has.1.0 r to content.Unset rs1 at1 _ has.1.2 (omega (arith, has.0, a.long)) (λ rs2 wr. h (valued content.Unset x.footprint) at1 rs2 (after_puts false (takes fate) (wide z) r rs rs1 rs2 x content.Unset a wr) l)))

-- ---- conversions that were left

left_as_it_is : (z : Scene) (r i to : ℕ) → i ≡ to → (rs : List Register) (at : At) (c : Content) (k : Content → At → Over) → (register_at rs r).content ≡ Some c → Replacing z r to rs at (λ d. d) k → Run z i rs at (k c at)
left_as_it_is z r i to has rs at c k ec h = subst (λ i. Run z i rs at (k c at)) (sym has) (h c at rs (replaced_same r c rs ec) (later_same at))

-- the outermost conversion of an expression, where it was left
pub late_run : (z : Scene) (v : Value) (r i to : ℕ) → late z.site v r i to → (rs : List Register) (at : At) (c : Content) (k : Content → At → Over) → r < length rs → (register_at rs r).content ≡ Some c → Replacing z r to rs at (λ d. d) k → Run z i rs at (finish (late_in (program_at z) v c at) k)
late_run z (e.Convert it t v) r i to has rs at c k lt ec h = conversion_run z it t i r to has rs at c k lt ec h
late_run z (e.Constant t i1) r i to has rs at c k lt ec h = left_as_it_is z r i to has rs at c k ec h
late_run z (e.Load t p) r i to has rs at c k lt ec h = left_as_it_is z r i to has rs at c k ec h
late_run z (e.Whole t p) r i to has rs at c k lt ec h = left_as_it_is z r i to has rs at c k ec h
late_run z (e.Decay t p) r i to has rs at c k lt ec h = left_as_it_is z r i to has rs at c k ec h
late_run z (e.AddressOf t p) r i to has rs at c k lt ec h = left_as_it_is z r i to has rs at c k ec h
late_run z (e.Minus t a) r i to has rs at c k lt ec h = left_as_it_is z r i to has rs at c k ec h
late_run z (e.Complement t a) r i to has rs at c k lt ec h = left_as_it_is z r i to has rs at c k ec h
late_run z (e.Not t a) r i to has rs at c k lt ec h = left_as_it_is z r i to has rs at c k ec h
late_run z (e.Arithmetic t op s a b) r i to has rs at c k lt ec h = left_as_it_is z r i to has rs at c k ec h
late_run z (e.Move t op size side a b) r i to has rs at c k lt ec h = left_as_it_is z r i to has rs at c k ec h
late_run z (e.Distance t size a b) r i to has rs at c k lt ec h = left_as_it_is z r i to has rs at c k ec h
late_run z (e.Compare t op a b) r i to has rs at c k lt ec h = left_as_it_is z r i to has rs at c k ec h
late_run z (e.Logical t op a b) r i to has rs at c k lt ec h = left_as_it_is z r i to has rs at c k ec h
late_run z (e.Conditional t a b d) r i to has rs at c k lt ec h = left_as_it_is z r i to has rs at c k ec h
late_run z (e.Assign t p a) r i to has rs at c k lt ec h = left_as_it_is z r i to has rs at c k ec h
late_run z (e.Update t op s p a) r i to has rs at c k lt ec h = left_as_it_is z r i to has rs at c k ec h
late_run z (e.UpdatePointer t op size p a) r i to has rs at c k lt ec h = left_as_it_is z r i to has rs at c k ec h
late_run z (e.Step t w op s p) r i to has rs at c k lt ec h = left_as_it_is z r i to has rs at c k ec h
late_run z (e.StepPointer t w op size p) r i to has rs at c k lt ec h = left_as_it_is z r i to has rs at c k ec h
late_run z (e.Call t f vs) r i to has rs at c k lt ec h = left_as_it_is z r i to has rs at c k ec h
late_run z (e.Comma t vs) r i to has rs at c k lt ec h = left_as_it_is z r i to has rs at c k ec h
late_run z (e.Marked t ms a) r i to has rs at c k lt ec h = left_as_it_is z r i to has rs at c k ec h
late_run z (e.Decide t a m n) r i to has rs at c k lt ec h = left_as_it_is z r i to has rs at c k ec h
late_run z (e.After t a m) r i to has rs at c k lt ec h = left_as_it_is z r i to has rs at c k ec h

-- ---- one operand and a constant

pub minus_runs : (z : Scene) (t : CType) (v : Value) → Expr z v → Expr z (e.Minus t v)
minus_runs z t v expr fate r from to has rs long at le k h =
    bind_run z from rs (eval (here_in z) wanted v) (λ x. applied (model_of z) O.Sub (scalar_in t) (content.Number (pos 0)) x.value >>= (λ i. gives (valued (content.Number i) x.footprint))) at k (expr wanted r from has.1.0 has.1.1 rs long at le _ (λ x at1 rs1 a l.
    constant_node z has.1.0 (r + 1) has.1.2.0 (content.Number (pos 0)) rs1 at1 _ has.1.2.1 (omega (arith, a.long, has.0)) (λ rs2 wr.
    let b = after_higher true (wide z) r (r + 1) rs rs1 rs2 x (omega arith) a wr.others wr.long in
    bind_run z has.1.2.0 rs2 (applied (model_of z) O.Sub (scalar_in t) (content.Number (pos 0)) x.value) (λ i. gives (valued (content.Number i) x.footprint)) at1 k (apply_node z has.1.2.0 r (r + 1) r to O.Sub (scalar_in t) rs2 at1 (content.Number (pos 0)) x.value _ has.1.2.2 (omega (arith, b.long, has.0)) (ap (λ y. y.content) wr.here) (b.content refl) (λ i at2 rs3 wr2 l2.
    h (valued (content.Number i) x.footprint) at2 rs3 (after_puts true (takes fate) (wide z) r rs rs2 rs3 x (content.Number i) b wr2) (later_still at at1 at2 l l2))))))

pub complement_runs : (z : Scene) (t : CType) (v : Value) → Expr z v → Expr z (e.Complement t v)
complement_runs z t v expr fate r from to has rs long at le k h =
    let ones = content.Number (convert_of (model_of z) (scalar_in t) (negsuc 0)) in
    bind_run z from rs (eval (here_in z) wanted v) (λ x. applied (model_of z) O.Xor (scalar_in t) x.value ones >>= (λ i. gives (valued (content.Number i) x.footprint))) at k (expr wanted r from has.1.0 has.1.1 rs long at le _ (λ x at1 rs1 a l.
    constant_node z has.1.0 (r + 1) has.1.2.0 ones rs1 at1 _ has.1.2.1 (omega (arith, a.long, has.0)) (λ rs2 wr.
    let b = after_higher true (wide z) r (r + 1) rs rs1 rs2 x (omega arith) a wr.others wr.long in
    bind_run z has.1.2.0 rs2 (applied (model_of z) O.Xor (scalar_in t) x.value ones) (λ i. gives (valued (content.Number i) x.footprint)) at1 k (apply_node z has.1.2.0 r r (r + 1) to O.Xor (scalar_in t) rs2 at1 x.value ones _ has.1.2.2 (omega (arith, b.long, has.0)) (b.content refl) (ap (λ y. y.content) wr.here) (λ i at2 rs3 wr2 l2.
    h (valued (content.Number i) x.footprint) at2 rs3 (after_puts true (takes fate) (wide z) r rs rs2 rs3 x (content.Number i) b wr2) (later_still at at1 at2 l l2))))))

-- ---- two operands

-- two unsequenced operands, and what is done with their contents and the footprint of both
pub operands_run : {B : Type 0} (z : Scene) (v1 v2 : Value) → Expr z v1 → Expr z v2 → (r from m1 m2 m3 : ℕ) → r + 1 < wide z → value_code z.site wanted v1 r from m1 → value_code z.site wanted v2 (r + 1) m1 m2 → clash z.site (Unsequenced r (r + 1)) m2 m3 → (rs : List Register) → length rs ≡ wide z → (at : At) → at.ticks ≤ z.most → (on : Content → Content → Footprint → Step B) (k : B → At → Over) → ((c d : Content) (p : Footprint) (at1 : At) (rs1 : List Register) → After true (wide z) r rs rs1 (valued c p) → (register_at rs1 (r + 1)).content ≡ Some d → r < length rs1 → Later at at1 → Run z m3 rs1 at1 (finish (on c d p at1) k)) → Run z from rs at (finish ((eval (here_in z) wanted v1 >>= (λ x. eval (here_in z) wanted v2 >>= (λ y. apart z.site.tracks x.footprint y.footprint >>= (λ p. on x.value y.value p)))) at) k)
operands_run z v1 v2 e1 e2 r from m1 m2 m3 lt has1 has2 has3 rs long at le on k h =
    bind_run z from rs (eval (here_in z) wanted v1) (λ x. eval (here_in z) wanted v2 >>= (λ y. apart z.site.tracks x.footprint y.footprint >>= (λ p. on x.value y.value p))) at k (e1 wanted r from m1 has1 rs long at le _ (λ x at1 rs1 a1 l1.
    bind_run z m1 rs1 (eval (here_in z) wanted v2) (λ y. apart z.site.tracks x.footprint y.footprint >>= (λ p. on x.value y.value p)) at1 k (e2 wanted (r + 1) m1 m2 has2 rs1 a1.long at1 (omega (arith, l1.ticks)) _ (λ y at2 rs2 a2 l2.
    let a = after_above true true (wide z) r (r + 1) rs rs1 rs2 x y (omega arith) a1 a2 in
    bind_run z m2 rs2 (apart z.site.tracks x.footprint y.footprint) (λ p. on x.value y.value p) at2 k (unsequenced_node z m2 r (r + 1) m3 has3 rs2 at2 x.footprint y.footprint _ (omega (arith, a.long)) (omega (arith, a.long)) a.footprint a2.footprint (λ p at3 rs3 wr l3.
    h x.value y.value p at3 rs3 (after_merged true (wide z) r (r + 1) rs rs2 rs3 x p (omega arith) a wr) (wr.contents (r + 1) ∙ a2.content refl) (omega (arith, wr.long, a.long)) (later_still at at1 at3 l1 (later_still at1 at2 at3 l2 l3))))))))

pub arithmetic_runs : (z : Scene) (t : CType) (op : Op) (s : Scalar) (v1 v2 : Value) → Expr z v1 → Expr z v2 → Expr z (e.Arithmetic t op s v1 v2)
arithmetic_runs z t op s v1 v2 e1 e2 fate r from to has rs long at le k h =
    operands_run z v1 v2 e1 e2 r from has.1.1.0 has.1.1.2.0 has.1.0 has.0 has.1.1.1 has.1.1.2.1 has.1.1.2.2 rs long at le (λ c d p. applied (model_of z) op s c d >>= (λ i. gives (valued (content.Number i) p))) k (λ c d p at1 rs1 a ed lt l.
    bind_run z has.1.0 rs1 (applied (model_of z) op s c d) (λ i. gives (valued (content.Number i) p)) at1 k (apply_node z has.1.0 r r (r + 1) to op s rs1 at1 c d _ has.1.2 lt (a.content refl) ed (λ i at2 rs2 wr l2.
    h (valued (content.Number i) p) at2 rs2 (after_puts true (takes fate) (wide z) r rs rs1 rs2 (valued c p) (content.Number i) a wr) (later_still at at1 at2 l l2))))

pub distance_runs : (z : Scene) (t : CType) (size : ℕ) (v1 v2 : Value) → Expr z v1 → Expr z v2 → Expr z (e.Distance t size v1 v2)
distance_runs z t size v1 v2 e1 e2 fate r from to has rs long at le k h =
    operands_run z v1 v2 e1 e2 r from has.1.1.0 has.1.1.2.0 has.1.0 has.0 has.1.1.1 has.1.1.2.1 has.1.1.2.2 rs long at le (λ c d p. counted size c d >>= (λ i. gives (valued (content.Number i) p))) k (λ c d p at1 rs1 a ed lt l.
    bind_run z has.1.0 rs1 (counted size c d) (λ i. gives (valued (content.Number i) p)) at1 k (subtract_node z has.1.0 r r (r + 1) to size rs1 at1 c d _ has.1.2 lt (a.content refl) ed (λ i at2 rs2 wr l2.
    h (valued (content.Number i) p) at2 rs2 (after_puts true (takes fate) (wide z) r rs rs1 rs2 (valued c p) (content.Number i) a wr) (later_still at at1 at2 l l2))))

pub compare_runs : (z : Scene) (t : CType) (op : Op) (v1 v2 : Value) → Expr z v1 → Expr z v2 → Expr z (e.Compare t op v1 v2)
compare_runs z t op v1 v2 e1 e2 fate r from to has rs long at le k h =
    operands_run z v1 v2 e1 e2 r from has.1.1.0 has.1.1.2.0 has.1.0 has.0 has.1.1.1 has.1.1.2.1 has.1.1.2.2 rs long at le (λ c d p. compared op c d >>= (λ b. gives (valued (of_truth b) p))) k (λ c d p at1 rs1 a ed lt l.
    bind_run z has.1.0 rs1 (compared op c d) (λ b. gives (valued (of_truth b) p)) at1 k (compare_node z has.1.0 r r (r + 1) to op rs1 at1 c d _ has.1.2 lt (a.content refl) ed (λ b at2 rs2 wr l2.
    h (valued (of_truth b) p) at2 rs2 (after_puts true (takes fate) (wide z) r rs rs1 rs2 (valued c p) (of_truth b) a wr) (later_still at at1 at2 l l2))))

pointer_there : (side : Side) (rs : List Register) (i j : ℕ) (c d : Content) → (register_at rs i).content ≡ Some c → (register_at rs j).content ≡ Some d → (register_at rs (pointer_in side i j)).content ≡ Some (pointer_of side c d)
pointer_there on_left rs i j c d ei ej = ei
pointer_there on_right rs i j c d ei ej = ej

count_there : (side : Side) (rs : List Register) (i j : ℕ) (c d : Content) → (register_at rs i).content ≡ Some c → (register_at rs j).content ≡ Some d → (register_at rs (count_in side i j)).content ≡ Some (count_in_of side c d)
count_there on_left rs i j c d ei ej = ej
count_there on_right rs i j c d ei ej = ei

pub move_runs : (z : Scene) (t : CType) (op : Op) (size : ℕ) (side : Side) (v1 v2 : Value) → Expr z v1 → Expr z v2 → Expr z (e.Move t op size side v1 v2)
move_runs z t op size side v1 v2 e1 e2 fate r from to has rs long at le k h =
    operands_run z v1 v2 e1 e2 r from has.1.1.0 has.1.1.2.0 has.1.0 has.0 has.1.1.1 has.1.1.2.1 has.1.1.2.2 rs long at le (λ c d p. moved op size (pointer_of side c d) (count_in_of side c d) >>= (λ b. gives (valued (content.Address b) p))) k (λ c d p at1 rs1 a ed lt l.
    bind_run z has.1.0 rs1 (moved op size (pointer_of side c d) (count_in_of side c d)) (λ b. gives (valued (content.Address b) p)) at1 k (move_node z has.1.0 r (pointer_in side r (r + 1)) (count_in side r (r + 1)) to op size rs1 at1 (pointer_of side c d) (count_in_of side c d) _ has.1.2 lt (pointer_there side rs1 r (r + 1) c d (a.content refl) ed) (count_there side rs1 r (r + 1) c d (a.content refl) ed) (λ b at2 rs2 wr l2.
    h (valued (content.Address b) p) at2 rs2 (after_puts true (takes fate) (wide z) r rs rs1 rs2 (valued c p) (content.Address b) a wr) (later_still at at1 at2 l l2))))

-- ---- lvalues

pub object_runs : (z : Scene) (t : CType) (i : ℕ) → PlaceOf z (e.Object t i)
object_runs z t i r from to has rs long at le k h =
    bind_run z from rs (place (z.site.names.variable i)) (λ a. gives (valued a untouched)) at k (address_node z from r to (z.site.names.variable i) rs at _ has.1 (omega (arith, has.0)) (λ a at1 rs1 wr l.
    h (valued a untouched) at1 rs1 (after_first true (wide z) r rs rs1 (content.Address a) untouched long wr) l))

-- an lvalue where a pointer leads
pub pointed_runs : (z : Scene) (v : Value) → Expr z v → (r from to : ℕ) → up_to z.site r (value_code z.site wanted v r ▸ one z.site.stands (node.Convert r r how.ToPointer)) from to → (rs : List Register) → length rs ≡ wide z → (at : At) → at.ticks ≤ z.most → (k : Valued (Option Address) → At → Over) → Leads z r to rs at k → Run z from rs at (finish ((eval (here_in z) wanted v >>= (λ x. address_in x.value >>= (λ a. gives (valued a x.footprint)))) at) k)
pointed_runs z v expr r from to has rs long at le k h =
    bind_run z from rs (eval (here_in z) wanted v) (λ x. address_in x.value >>= (λ a. gives (valued a x.footprint))) at k (expr wanted r from has.1.0 has.1.1 rs long at le _ (λ x at1 rs1 a l.
    bind_run z has.1.0 rs1 (address_in x.value) (λ a. gives (valued a x.footprint)) at1 k (pointer_node z has.1.0 r r to rs1 at1 x.value _ has.1.2 (omega (arith, has.0, a.long)) (a.content refl) (λ b at2 rs2 wr l2.
    h (valued b x.footprint) at2 rs2 (after_puts true true (wide z) r rs rs1 rs2 x (content.Address b) a wr) (later_still at at1 at2 l l2)))))

pub element_runs : (z : Scene) (t : CType) (size : ℕ) (side : Side) (v1 v2 : Value) → Expr z v1 → Expr z v2 → PlaceOf z (e.Element t size side v1 v2)
element_runs z t size side v1 v2 e1 e2 r from to has rs long at le k h =
    operands_run z v1 v2 e1 e2 r from has.1.1.0 has.1.1.2.0 has.1.0 has.0 has.1.1.1 has.1.1.2.1 has.1.1.2.2 rs long at le (λ c d p. moved O.Add size (pointer_of side c d) (count_in_of side c d) >>= (λ b. gives (valued b p))) k (λ c d p at1 rs1 a ed lt l.
    bind_run z has.1.0 rs1 (moved O.Add size (pointer_of side c d) (count_in_of side c d)) (λ b. gives (valued b p)) at1 k (move_node z has.1.0 r (pointer_in side r (r + 1)) (count_in side r (r + 1)) to O.Add size rs1 at1 (pointer_of side c d) (count_in_of side c d) _ has.1.2 lt (pointer_there side rs1 r (r + 1) c d (a.content refl) ed) (count_there side rs1 r (r + 1) c d (a.content refl) ed) (λ b at2 rs2 wr l2.
    h (valued b p) at2 rs2 (after_puts true true (wide z) r rs rs1 rs2 (valued c p) (content.Address b) a wr) (later_still at at1 at2 l l2))))

pub part_runs : (z : Scene) (t : CType) (offset : ℕ) (p : Place) → PlaceOf z p → PlaceOf z (e.Part t offset p)
part_runs z t offset p place r from to has rs long at le k h =
    bind_run z from rs (place_in (here_in z) p) (λ x. member_at offset x.value >>= (λ a. gives (valued a x.footprint))) at k (place r from has.1.0 has.1.1 rs long at le _ (λ x at1 rs1 a l.
    bind_run z has.1.0 rs1 (member_at offset x.value) (λ a. gives (valued a x.footprint)) at1 k (member_node z has.1.0 r to offset rs1 at1 x.value _ has.1.2 (omega (arith, has.0, a.long)) (a.content refl) (λ b at2 rs2 wr l2.
    h (valued b x.footprint) at2 rs2 (after_puts true true (wide z) r rs rs1 rs2 (valued (content.Address x.value) x.footprint) (content.Address b) a wr) (later_still at at1 at2 l l2)))))

-- ---- values as tests

-- the code of a value, and a branch
pub plain_test : (z : Scene) (v : Value) → Expr z v → (r from on off : ℕ) → ((m : ℕ) × value_code z.site wanted v r from m × z.site.stands m (node.Branch r on off)) → (rs : List Register) → length rs ≡ wide z → (at : At) → at.ticks ≤ z.most → (k : Valued Bool → At → Over) → Branches z r on off rs at k → Run z from rs at (finish (tested_value (here_in z) v at) k)
plain_test z v expr r from on off has rs long at le k h =
    bind_run z from rs (eval (here_in z) wanted v) (λ x. truth_in x.value >>= (λ b. gives (valued b x.footprint))) at k (expr wanted r from has.0 has.1 rs long at le _ (λ x at1 rs1 a l.
    bind_run z has.0 rs1 (truth_in x.value) (λ b. gives (valued b x.footprint)) at1 k (branch_node z has.0 r on off rs1 at1 x.value _ has.2 (a.content refl) (λ b at2 l2.
    h (valued b x.footprint) at2 rs1 (after_untaken true (wide z) r rs rs1 x _ refl a) (later_still at at1 at2 l l2)))))
