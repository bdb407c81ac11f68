-- What each node and each named piece of the code of expressions does, over the registers that it reads.
use Rattle.std.proofs.Common.{◌≡◌, ℕ, ◌+◌, ◌<◌, ℤ, List, length, Option, Some, Bool, true, false, refl, sym, ap, ap₂, ◌∙◌, subst, arith, if◌then◌else◌}
use Rattle.lt_model.specs.declared.cell.Address.{Address}
use Rattle.lt_model.specs.declared.cell.CellType.{CellType}
use Rattle.lt_model.specs.declared.cell.Content.{Content}
use Rattle.lt_model.specs.declared.cell.Content.TheVariants as content
use Rattle.lt_model.specs.declared.cell.Shape.{Shape}
use Rattle.lt_model.specs.declared.cell.ShapeCell.{ShapeCell}
use Rattle.lt_model.specs.declared.scalar.DataModel.{DataModel}
use Rattle.lt_model.specs.declared.scalar.Scalar.{Scalar}
use Rattle.lt_model.specs.declared.operator.Op.{Op}
use Rattle.lt_model.specs.Scalar.{convert_of}
use Rattle.lt_model.specs.State.{Footprint, Valued, joined, settle, untouched, Gives, Ends}
use Rattle.lt_tree.specs.Typing.Types.{CType, is_struct}
use Rattle.lt_tree.specs.Typing.Programs.{Program}
use Rattle.lt_ir.specs.declared.variable.Variable.{Variable}
use Rattle.lt_ir.specs.declared.graph.Graph.{Graph}
use Rattle.lt_ir.specs.declared.node.Access.{Access}
use Rattle.lt_ir.specs.declared.node.Access.TheVariants as access
use Rattle.lt_ir.specs.declared.node.Movement.TheVariants.{Elements, Member}
use Rattle.lt_ir.specs.declared.node.Parts.TheVariants.{Unsequenced, Sequenced, Settled, Read, Target}
use Rattle.lt_ir.specs.declared.node.Node.{Node}
use Rattle.lt_ir.specs.declared.node.Node.TheVariants as node
use Rattle.lt_ir.specs.declared.pure.How.{How}
use Rattle.lt_ir.specs.declared.pure.How.TheVariants as how
use Rattle.lt_ir.specs.Pure.{convert_as}
use Rattle.lt_ir.specs.Running.{At, Answer, Step, Over, gives, ◌>>=◌, place}
use Rattle.lt_ir.specs.Evaluation.{valued, number_in, address_in, used, truth_in, of_truth, grown, settled_in, apart, aimed, one_cell, loaded, stored, copied, with_reads, moved, member_at, applied, counted, compared}
use Rattle.lt_ir.specs.Graph.{Frame, Register, Next, Goes, Stops, register_at, had, content_at, footprint_at, with_content, with_footprint, with_both, with_joined, shape_at, cells_of, moves, act, going, goes, leaves, puts, structs_of, locals_of, code_at, node_at}
use Rattle.lt_meaning.specs.Expressions.{Calls, Around, cell_type, shape, cells_of as cells_in}
use Rattle.lt_code.specs.Predicates.{around}
use Rattle.lt_code.specs.Pieces.{one, when}
use Rattle.lt_code.specs.Code.{Site, clash, with_access, target, scalar_target, IsAccessTo}
use Rattle.lt_code.proofs.Finishing.{finish, Finishes, conf, Later, Keeps, Calm, later_same, go, through, step_at, with_bind}
use Rattle.lt_code.proofs.Registers.{Wrote, wrote_set, wrote_loaded, Replaced, replaced_set, Tracked, tracked_set, tracked_same, Merged, merged_set, merged_same}
use Rattle.lt_code.proofs.CalmSteps.{calm-bind, calm-gives, calm-place, calm-used, calm-address_in, calm-number_in, calm-truth_in, calm-apart, calm-aimed, calm-loaded, calm-stored, calm-copied, calm-with_reads, calm-moved, calm-member_at, calm-applied, calm-counted, calm-compared, calm-convert_as}

-- where the code of an expression stands, and what is known there
pub record Scene : Type 1 where
  pub graph : Graph
  pub site : Site
  pub calls : Calls
  pub most : ℕ
  pub code : ℕ
  pub stack : List Frame
  pub model : graph.model ≡ site.names.program.model
  pub labels : graph.labels ≡ site.labels
  pub stubs : graph.stubs ≡ site.stubs
  pub structs : structs_of (code_at graph code) ≡ site.structs
  pub locals : locals_of (code_at graph code) ≡ site.locals
  pub nodes : (i : ℕ) (n : Node) → site.stands i n → node_at graph code i ≡ Some n

abbrev pub program_at : Scene → Program
program_at z = z.site.names.program

abbrev pub here_in : Scene → Around
here_in z = around z.site.names z.calls z.site.tracks

abbrev pub model_of : Scene → DataModel
model_of z = z.site.names.program.model

abbrev pub wide : Scene → ℕ
wide z = z.site.registers

-- the run is over so from a point on
abbrev pub Run : Scene → ℕ → List Register → At → Over → Type 0
Run z i rs at o = Finishes z.graph (conf z.code i rs z.stack at) o

-- a node that may end the run
pub acts : {A : Type 0} (z : Scene) (i next : ℕ) (n : Node) (rs : List Register) (at : At) (m : Answer A) (to : A → List Register) (k : A → At → Over) → z.site.stands i n → act z.graph (code_at z.graph z.code) (Some n) (conf z.code i rs z.stack at) ≡ elim (m) [ Gives a at1 ↦ Goes (conf z.code next (to a) z.stack at1) | Ends end at1 ↦ Stops end at1 ] → Keeps at m → ((a : A) (at1 : At) → Later at at1 → Run z next (to a) at1 (k a at1)) → Run z i rs at (finish m k)
acts z i next n rs at m to k has e keeps h =
    through z.graph at (conf z.code i rs z.stack at) m (λ a at1. conf z.code next (to a) z.stack at1) k (step_at z.graph z.code i n rs z.stack at (z.nodes i n has) ∙ e) keeps h

-- a node that goes on
pub sets : (z : Scene) (i next : ℕ) (n : Node) (rs rs1 : List Register) (at : At) (o : Over) → z.site.stands i n → act z.graph (code_at z.graph z.code) (Some n) (conf z.code i rs z.stack at) ≡ Goes (conf z.code next rs1 z.stack at) → Run z next rs1 at o → Run z i rs at o
sets z i next n rs rs1 at o has e h = go z.graph (conf z.code i rs z.stack at) (conf z.code next rs1 z.stack at) o (step_at z.graph z.code i n rs z.stack at (z.nodes i n has) ∙ e) h

-- how a run goes on, once a register has another content
abbrev pub Replacing : {A : Type 0} → Scene → (r next : ℕ) → List Register → At → (A → Content) → (A → At → Over) → Type 0
Replacing z r next rs at x k = (a : _) (at1 : At) (rs1 : List Register) → Replaced r (x a) rs rs1 → Later at at1 → Run z next rs1 at1 (k a at1)

-- once it has a content and a footprint
abbrev pub Writing : Scene → (r next : ℕ) → List Register → At → (Valued Content → At → Over) → Type 0
Writing z r next rs at k = (x : Valued Content) (at1 : At) (rs1 : List Register) → Wrote r (record { content = Some x.value; footprint = x.footprint }) rs rs1 → Later at at1 → Run z next rs1 at1 (k x at1)

-- ---- constants, addresses, loads and stores

pub constant_node : (z : Scene) (i r next : ℕ) (c : Content) (rs : List Register) (at : At) (o : Over) → z.site.stands i (node.Constant r c false next) → r < length rs → ((rs1 : List Register) → Wrote r (record { content = Some c; footprint = untouched }) rs rs1 → Run z next rs1 at o) → Run z i rs at o
constant_node z i r next c rs at o has lt h =
    sets z i next (node.Constant r c false next) rs (with_both rs r c untouched) at o has refl (h _ (wrote_set r _ rs lt))

pub replaced_node : (z : Scene) (i r next : ℕ) (c : Content) (rs : List Register) (at : At) (o : Over) → z.site.stands i (node.Constant r c true next) → r < length rs → ((rs1 : List Register) → Replaced r c rs rs1 → Run z next rs1 at o) → Run z i rs at o
replaced_node z i r next c rs at o has lt h =
    sets z i next (node.Constant r c true next) rs (with_content rs r c) at o has refl (h _ (replaced_set r c rs lt))

pub address_node : (z : Scene) (i r next : ℕ) (v : Variable) (rs : List Register) (at : At) (k : Option Address → At → Over) → z.site.stands i (node.Address r v next) → r < length rs → ((a : Option Address) (at1 : At) (rs1 : List Register) → Wrote r (record { content = Some (content.Address a); footprint = untouched }) rs rs1 → Later at at1 → Run z next rs1 at1 (k a at1)) → Run z i rs at (finish (place v at) k)
address_node z i r next v rs at k has lt h =
    acts z i next (node.Address r v next) rs at (place v at) (λ a. with_both rs r (content.Address a) untouched) k has refl (calm-place v at) (λ a at1 l. h a at1 _ (wrote_set r _ rs lt) l)

load_step : (z : Scene) (i to from next : ℕ) (ty : CellType) (rs : List Register) (at : At) (x : Valued (Option Address)) → (register_at rs from).content ≡ Some (content.Address x.value) → footprint_at rs from ≡ x.footprint → act z.graph (code_at z.graph z.code) (Some (node.Load to from ty z.site.tracks next)) (conf z.code i rs z.stack at) ≡ elim (loaded z.site.tracks (model_of z) ty x at) [ Gives y at1 ↦ Goes (conf z.code next (with_content (with_footprint rs from y.footprint) to y.value) z.stack at1) | Ends end at1 ↦ Stops end at1 ]
load_step z i to from next ty rs at x e p =
    ap (λ o. going (had o >>= address_in >>= (λ a. loaded z.site.tracks z.graph.model ty (valued a (footprint_at rs from)))) at ends) e
    ∙ ap₂ (λ p model. going (loaded z.site.tracks model ty (valued x.value p)) at ends) p z.model
  where
    ends : Valued Content → At → Next
    ends y = leaves (conf z.code i rs z.stack at) (with_content (with_footprint rs from y.footprint) to y.value) next

pub load_node : (z : Scene) (i r next : ℕ) (ty : CellType) (rs : List Register) (at : At) (x : Valued (Option Address)) (k : Valued Content → At → Over) → z.site.stands i (node.Load r r ty z.site.tracks next) → r < length rs → (register_at rs r).content ≡ Some (content.Address x.value) → footprint_at rs r ≡ x.footprint → Writing z r next rs at k → Run z i rs at (finish (loaded z.site.tracks (model_of z) ty x at) k)
load_node z i r next ty rs at x k has lt e p h =
    acts z i next (node.Load r r ty z.site.tracks next) rs at (loaded z.site.tracks (model_of z) ty x at) (λ y. with_content (with_footprint rs r y.footprint) r y.value) k has (load_step z i r r next ty rs at x e p) (calm-loaded z.site.tracks (model_of z) ty x at) (λ y at1 l. h y at1 _ (wrote_loaded r y.value y.footprint rs lt) l)

-- a load into the register behind the address, whose footprint grows
pub load_beside_node : (z : Scene) (i r next : ℕ) (ty : CellType) (rs : List Register) (at : At) (x : Valued (Option Address)) (k : Valued Content → At → Over) → z.site.stands i (node.Load (r + 1) r ty z.site.tracks next) → r + 1 < length rs → (register_at rs r).content ≡ Some (content.Address x.value) → footprint_at rs r ≡ x.footprint → ((y : Valued Content) (at1 : At) (rs1 rs2 : List Register) → Tracked r y.footprint rs rs1 → Replaced (r + 1) y.value rs1 rs2 → Later at at1 → Run z next rs2 at1 (k y at1)) → Run z i rs at (finish (loaded z.site.tracks (model_of z) ty x at) k)
load_beside_node z i r next ty rs at x k has lt e p h =
    acts z i next (node.Load (r + 1) r ty z.site.tracks next) rs at (loaded z.site.tracks (model_of z) ty x at) (λ y. with_content (with_footprint rs r y.footprint) (r + 1) y.value) k has (load_step z i (r + 1) r next ty rs at x e p) (calm-loaded z.site.tracks (model_of z) ty x at) (λ y at1 l.
    let a = tracked_set r y.footprint rs (omega arith) in
    h y at1 (with_footprint rs r y.footprint) _ a (replaced_set (r + 1) y.value (with_footprint rs r y.footprint) (omega (arith, a.long))) l)

-- a store, of the content of one register, which gives the content of another
pub store_node : (z : Scene) (b : Bool) (i q v y next : ℕ) (ty : CellType) (rs : List Register) (at : At) (a : Option Address) (c d : Content) (p : Footprint) (k : Valued Content → At → Over) → z.site.stands i (node.Store q v y ty b next) → q < length rs → (register_at rs q).content ≡ Some (content.Address a) → (register_at rs v).content ≡ Some c → (register_at rs y).content ≡ Some d → footprint_at rs q ≡ p → Writing z q next rs at k → Run z i rs at (finish ((used c >>= (λ it. stored b (model_of z) ty a it p >>= (λ footprint. gives (valued d footprint)))) at) k)
store_node z b i q v y next ty rs at a c d p k has lt ea ec ed ep h =
    acts z i next (node.Store q v y ty b next) rs at ((used c >>= (λ it. stored b (model_of z) ty a it p >>= (λ footprint. gives (valued d footprint)))) at) (λ x. with_both rs q x.value x.footprint) k has
    (ap (λ o. going (had o >>= address_in >>= (λ a. content_at rs v >>= used >>= (λ x. content_at rs y >>= (λ y. stored b z.graph.model ty a x (footprint_at rs q) >>= (λ footprint. gives (valued y footprint)))))) at ends) ea
    ∙ ap (λ o. going (had o >>= used >>= (λ x. content_at rs y >>= (λ y. stored b z.graph.model ty a x (footprint_at rs q) >>= (λ footprint. gives (valued y footprint))))) at ends) ec
    ∙ ap (λ o. going (used c >>= (λ x. had o >>= (λ y. stored b z.graph.model ty a x (footprint_at rs q) >>= (λ footprint. gives (valued y footprint))))) at ends) ed
    ∙ ap₂ (λ p model. going (used c >>= (λ x. stored b model ty a x p >>= (λ footprint. gives (valued d footprint)))) at ends) ep z.model)
    (calm-bind (used c) _ (calm-used c) (λ it. calm-bind (stored b (model_of z) ty a it p) _ (calm-stored b (model_of z) ty a it p) (λ footprint. calm-gives (valued d footprint))) at) (λ x at1 l. h x at1 _ (wrote_set q _ rs lt) l)
  where
    ends : Valued Content → At → Next
    ends x = leaves (conf z.code i rs z.stack at) (with_both rs q x.value x.footprint) next

pub copy_node : (z : Scene) (i q from s next : ℕ) (it : Shape) (rs : List Register) (at : At) (a : Option Address) (c : Content) (p : Footprint) (k : Valued Content → At → Over) → z.site.stands i (node.Copy q from s z.site.tracks next) → shape_at z.site.structs s ≡ it → q < length rs → (register_at rs q).content ≡ Some (content.Address a) → (register_at rs from).content ≡ Some c → footprint_at rs q ≡ p → Writing z q next rs at k → Run z i rs at (finish ((address_in c >>= (λ b. copied z.site.tracks (model_of z) it a b p >>= (λ footprint. gives (valued (content.Address a) footprint)))) at) k)
copy_node z i q from s next it rs at a c p k has is_it lt ea ec ep h =
    let b = z.site.tracks in
    acts z i next (node.Copy q from s b next) rs at ((address_in c >>= (λ from. copied b (model_of z) it a from p >>= (λ footprint. gives (valued (content.Address a) footprint)))) at) (λ x. with_both rs q x.value x.footprint) k has
    (ap (λ o. going (had o >>= address_in >>= (λ a. content_at rs from >>= address_in >>= (λ from. copied b z.graph.model (shape_at (structs_of (code_at z.graph z.code)) s) a from (footprint_at rs q) >>= (λ footprint. gives (valued (content.Address a) footprint))))) at ends) ea
    ∙ ap (λ o. going (had o >>= address_in >>= (λ from. copied b z.graph.model (shape_at (structs_of (code_at z.graph z.code)) s) a from (footprint_at rs q) >>= (λ footprint. gives (valued (content.Address a) footprint)))) at ends) ec
    ∙ ap (λ shape. going (address_in c >>= (λ from. copied b z.graph.model shape a from (footprint_at rs q) >>= (λ footprint. gives (valued (content.Address a) footprint)))) at ends) (ap (λ l. shape_at l s) z.structs ∙ is_it)
    ∙ ap₂ (λ p model. going (address_in c >>= (λ from. copied b model it a from p >>= (λ footprint. gives (valued (content.Address a) footprint)))) at ends) ep z.model)
    (calm-bind (address_in c) _ (calm-address_in c) (λ from. calm-bind (copied b (model_of z) it a from p) _ (calm-copied b (model_of z) it a from p) (λ footprint. calm-gives (valued (content.Address a) footprint))) at) (λ x at1 l. h x at1 _ (wrote_set q _ rs lt) l)
  where
    ends : Valued Content → At → Next
    ends x = leaves (conf z.code i rs z.stack at) (with_both rs q x.value x.footprint) next

-- ---- operators

-- a node that works on two contents
two_contents : {A : Type 0} (z : Scene) (i r q1 q2 next : ℕ) (n : Node) (rs : List Register) (at : At) (c d : Content) (m : DataModel → Content → Content → Step A) (x : A → Content) (k : A → At → Over) → z.site.stands i n → act z.graph (code_at z.graph z.code) (Some n) (conf z.code i rs z.stack at) ≡ going (content_at rs q1 >>= (λ a. content_at rs q2 >>= (λ b. m z.graph.model a b))) at (λ a. puts (conf z.code i rs z.stack at) r next (x a)) → Calm (m (model_of z) c d) → r < length rs → (register_at rs q1).content ≡ Some c → (register_at rs q2).content ≡ Some d → Replacing z r next rs at x k → Run z i rs at (finish (m (model_of z) c d at) k)
two_contents z i r q1 q2 next n rs at c d m x k has e calm lt e1 e2 h =
    acts z i next n rs at (m (model_of z) c d at) (λ a. with_content rs r (x a)) k has
    (e
    ∙ ap (λ o. going (had o >>= (λ a. content_at rs q2 >>= (λ b. m z.graph.model a b))) at (λ a. puts (conf z.code i rs z.stack at) r next (x a))) e1
    ∙ ap (λ o. going (had o >>= (λ b. m z.graph.model c b)) at (λ a. puts (conf z.code i rs z.stack at) r next (x a))) e2
    ∙ ap (λ model. going (m model c d) at (λ a. puts (conf z.code i rs z.stack at) r next (x a))) z.model)
    (calm at) (λ a at1 l. h a at1 _ (replaced_set r (x a) rs lt) l)

abbrev goes_on : {A : Type 0} → Answer A → (A → At → Next) → Next
goes_on m on = elim (m) [ Gives a at1 ↦ on a at1 | Ends end at1 ↦ Stops end at1 ]

abbrev mapped : {A B : Type 0} → Answer A → (A → B) → Answer B
mapped m x = elim (m) [ Gives a at1 ↦ Gives (x a) at1 | Ends end at1 ↦ Ends end at1 ]

goes_on-mapped : {A B : Type 0} (m : Answer A) (x : A → B) (on : B → At → Next) → goes_on (mapped m x) on ≡ goes_on m (λ a. on (x a))
goes_on-mapped (Gives a at1) x on = refl
goes_on-mapped (Ends end at1) x on = refl

pub move_node : (z : Scene) (i r q1 q2 next : ℕ) (op : Op) (size : ℕ) (rs : List Register) (at : At) (c d : Content) (k : Option Address → At → Over) → z.site.stands i (node.Move r q1 (Elements q2 op size) next) → r < length rs → (register_at rs q1).content ≡ Some c → (register_at rs q2).content ≡ Some d → Replacing z r next rs at content.Address k → Run z i rs at (finish (moved op size c d at) k)
move_node z i r q1 q2 next op size rs at c d k has lt e1 e2 h =
    acts z i next (node.Move r q1 (Elements q2 op size) next) rs at (moved op size c d at) (λ a. with_content rs r (content.Address a)) k has
    (ap (λ o. going (had o >>= moves rs (Elements q2 op size)) at (puts (conf z.code i rs z.stack at) r next)) e1
    ∙ ap (λ o. going (had o >>= (λ n. moved op size c n >>= (λ a. gives (content.Address a)))) at (puts (conf z.code i rs z.stack at) r next)) e2
    ∙ goes_on-mapped (moved op size c d at) content.Address (puts (conf z.code i rs z.stack at) r next))
    (calm-moved op size c d at) (λ a at1 l. h a at1 _ (replaced_set r _ rs lt) l)

pub member_node : (z : Scene) (i r next : ℕ) (offset : ℕ) (rs : List Register) (at : At) (a : Option Address) (k : Option Address → At → Over) → z.site.stands i (node.Move r r (Member offset) next) → r < length rs → (register_at rs r).content ≡ Some (content.Address a) → Replacing z r next rs at content.Address k → Run z i rs at (finish (member_at offset a at) k)
member_node z i r next offset rs at a k has lt e h =
    acts z i next (node.Move r r (Member offset) next) rs at (member_at offset a at) (λ b. with_content rs r (content.Address b)) k has
    (ap (λ o. going (had o >>= moves rs (Member offset)) at (puts (conf z.code i rs z.stack at) r next)) e
    ∙ goes_on-mapped (member_at offset a at) content.Address (puts (conf z.code i rs z.stack at) r next))
    (calm-member_at offset a at) (λ b at1 l. h b at1 _ (replaced_set r _ rs lt) l)

pub subtract_node : (z : Scene) (i r q1 q2 next : ℕ) (size : ℕ) (rs : List Register) (at : At) (c d : Content) (k : ℤ → At → Over) → z.site.stands i (node.Subtract r q1 q2 size next) → r < length rs → (register_at rs q1).content ≡ Some c → (register_at rs q2).content ≡ Some d → Replacing z r next rs at content.Number k → Run z i rs at (finish (counted size c d at) k)
subtract_node z i r q1 q2 next size rs at c d k has lt e1 e2 h =
    two_contents z i r q1 q2 next (node.Subtract r q1 q2 size next) rs at c d (λ _ a b. counted size a b) content.Number k has refl (calm-counted size c d) lt e1 e2 h

pub apply_node : (z : Scene) (i r q1 q2 next : ℕ) (op : Op) (s : Scalar) (rs : List Register) (at : At) (c d : Content) (k : ℤ → At → Over) → z.site.stands i (node.Apply r q1 q2 op s next) → r < length rs → (register_at rs q1).content ≡ Some c → (register_at rs q2).content ≡ Some d → Replacing z r next rs at content.Number k → Run z i rs at (finish (applied (model_of z) op s c d at) k)
apply_node z i r q1 q2 next op s rs at c d k has lt e1 e2 h =
    two_contents z i r q1 q2 next (node.Apply r q1 q2 op s next) rs at c d (λ model a b. applied model op s a b) content.Number k has refl (calm-applied (model_of z) op s c d) lt e1 e2 h

pub compare_node : (z : Scene) (i r q1 q2 next : ℕ) (op : Op) (rs : List Register) (at : At) (c d : Content) (k : Bool → At → Over) → z.site.stands i (node.Compare r q1 q2 op next) → r < length rs → (register_at rs q1).content ≡ Some c → (register_at rs q2).content ≡ Some d → Replacing z r next rs at of_truth k → Run z i rs at (finish (compared op c d at) k)
compare_node z i r q1 q2 next op rs at c d k has lt e1 e2 h =
    two_contents z i r q1 q2 next (node.Compare r q1 q2 op next) rs at c d (λ _ a b. compared op a b) of_truth k has refl (calm-compared op c d) lt e1 e2 h

-- ---- conversions

pub convert_node : (z : Scene) (i r q next : ℕ) (conversion : How) (rs : List Register) (at : At) (c : Content) (k : Content → At → Over) → z.site.stands i (node.Convert r q conversion next) → r < length rs → (register_at rs q).content ≡ Some c → Replacing z r next rs at (λ d. d) k → Run z i rs at (finish (convert_as (model_of z) conversion c at) k)
convert_node z i r q next conversion rs at c k has lt e h =
    acts z i next (node.Convert r q conversion next) rs at (convert_as (model_of z) conversion c at) (λ d. with_content rs r d) k has
    (ap (λ o. going (had o >>= convert_as z.graph.model conversion) at (puts (conf z.code i rs z.stack at) r next)) e
    ∙ ap (λ model. going (convert_as model conversion c) at (puts (conf z.code i rs z.stack at) r next)) z.model)
    (calm-convert_as (model_of z) conversion c at) (λ d at1 l. h d at1 _ (replaced_set r d rs lt) l)

-- a conversion that gives a content for something that is asked of one
convert_by : {A : Type 0} (z : Scene) (i r q next : ℕ) (conversion : How) (rs : List Register) (at : At) (c : Content) (m : Step A) (x : A → Content) (k : A → At → Over) → convert_as (model_of z) conversion c ≡ (m >>= (λ a. gives (x a))) → Calm m → z.site.stands i (node.Convert r q conversion next) → r < length rs → (register_at rs q).content ≡ Some c → Replacing z r next rs at x k → Run z i rs at (finish (m at) k)
convert_by z i r q next conversion rs at c m x k is calm has lt e h =
    acts z i next (node.Convert r q conversion next) rs at (m at) (λ a. with_content rs r (x a)) k has
    (ap (λ o. going (had o >>= convert_as z.graph.model conversion) at (puts (conf z.code i rs z.stack at) r next)) e
    ∙ ap (λ model. going (convert_as model conversion c) at (puts (conf z.code i rs z.stack at) r next)) z.model
    ∙ ap (λ (m : Step Content). going m at (puts (conf z.code i rs z.stack at) r next)) is
    ∙ goes_on-mapped (m at) x (puts (conf z.code i rs z.stack at) r next))
    (calm at) (λ a at1 l. h a at1 _ (replaced_set r (x a) rs lt) l)

pub integer_node : (z : Scene) (i r q next : ℕ) (s : Scalar) (rs : List Register) (at : At) (c : Content) (k : ℤ → At → Over) → z.site.stands i (node.Convert r q (how.ToInteger s) next) → r < length rs → (register_at rs q).content ≡ Some c → Replacing z r next rs at (λ a. content.Number (convert_of (model_of z) s a)) k → Run z i rs at (finish (number_in c at) k)
integer_node z i r q next s rs at c k has lt e h = convert_by z i r q next (how.ToInteger s) rs at c (number_in c) (λ a. content.Number (convert_of (model_of z) s a)) k refl (calm-number_in c) has lt e h

pub pointer_node : (z : Scene) (i r q next : ℕ) (rs : List Register) (at : At) (c : Content) (k : Option Address → At → Over) → z.site.stands i (node.Convert r q how.ToPointer next) → r < length rs → (register_at rs q).content ≡ Some c → Replacing z r next rs at content.Address k → Run z i rs at (finish (address_in c at) k)
pointer_node z i r q next rs at c k has lt e h = convert_by z i r q next how.ToPointer rs at c (address_in c) content.Address k refl (calm-address_in c) has lt e h

-- a content goes from one register to another
pub content_moved_node : (z : Scene) (i r q next : ℕ) (rs : List Register) (at : At) (c : Content) (o : Over) → z.site.stands i (node.Convert r q how.AsItIs next) → r < length rs → (register_at rs q).content ≡ Some c → ((rs1 : List Register) → Replaced r c rs rs1 → Run z next rs1 at o) → Run z i rs at o
content_moved_node z i r q next rs at c o has lt e h =
    sets z i next (node.Convert r q how.AsItIs next) rs (with_content rs r c) at o has
    (ap (λ o. going (had o >>= convert_as z.graph.model how.AsItIs) at (puts (conf z.code i rs z.stack at) r next)) e) (h _ (replaced_set r c rs lt))

-- ---- footprints

-- how a run goes on, once a register has another footprint
abbrev pub Tracking : Scene → (r next : ℕ) → List Register → At → (Footprint → At → Over) → Type 0
Tracking z r next rs at k = (p : Footprint) (at1 : At) (rs1 : List Register) → Tracked r p rs rs1 → Later at at1 → Run z next rs1 at1 (k p at1)

abbrev pub Merging : Scene → (left right next : ℕ) → List Register → At → (Footprint → At → Over) → Type 0
Merging z left right next rs at k = (p : Footprint) (at1 : At) (rs1 : List Register) → Merged left right p rs rs1 → Later at at1 → Run z next rs1 at1 (k p at1)

unsequenced_by : (z : Scene) (tracks : Bool) (i a b next : ℕ) → when tracks (one z.site.stands (node.Clash (Unsequenced a b))) i next → (rs : List Register) (at : At) (p q : Footprint) (k : Footprint → At → Over) → a < length rs → b < length rs → footprint_at rs a ≡ p → footprint_at rs b ≡ q → Merging z a b next rs at k → Run z i rs at (finish (apart tracks p q at) k)
unsequenced_by z false i a b next has rs at p q k lt1 lt2 ep eq h = subst (λ i. Run z i rs at (k p at)) (sym has) (h p at rs (merged_same a b p rs ep) (later_same at))
unsequenced_by z true i a b next has rs at p q k lt1 lt2 ep eq h =
    acts z i next (node.Clash (Unsequenced a b) next) rs at (apart true p q at) (λ p. with_joined rs a b p) k has
    (ap₂ (λ p q. going (apart true p q >>= (λ p. gives (with_joined rs a b p))) at (λ rs. leaves (conf z.code i rs z.stack at) rs next)) ep eq
    ∙ goes_on-mapped (apart true p q at) (λ p. with_joined rs a b p) (λ rs1. leaves (conf z.code i rs z.stack at) rs1 next))
    (calm-apart true p q at) (λ p at1 l. h p at1 _ (merged_set a b p rs lt1 lt2) l)

pub unsequenced_node : (z : Scene) (i a b next : ℕ) → clash z.site (Unsequenced a b) i next → (rs : List Register) (at : At) (p q : Footprint) (k : Footprint → At → Over) → a < length rs → b < length rs → footprint_at rs a ≡ p → footprint_at rs b ≡ q → Merging z a b next rs at k → Run z i rs at (finish (apart z.site.tracks p q at) k)
unsequenced_node z i a b next has rs at p q k lt1 lt2 ep eq h = unsequenced_by z z.site.tracks i a b next has rs at p q k lt1 lt2 ep eq h

sequenced_by : (z : Scene) (tracks : Bool) (i a b next : ℕ) → when tracks (one z.site.stands (node.Clash (Sequenced a b))) i next → (rs : List Register) (at : At) (p q : Footprint) (o : Over) → a < length rs → b < length rs → footprint_at rs a ≡ p → footprint_at rs b ≡ q → ((rs1 : List Register) → Merged a b (grown tracks p q) rs rs1 → Run z next rs1 at o) → Run z i rs at o
sequenced_by z false i a b next has rs at p q o lt1 lt2 ep eq h = subst (λ i. Run z i rs at o) (sym has) (h rs (merged_same a b p rs ep))
sequenced_by z true i a b next has rs at p q o lt1 lt2 ep eq h =
    sets z i next (node.Clash (Sequenced a b) next) rs (with_joined rs a b (joined p q)) at o has
    (ap₂ (λ p q. Goes (conf z.code next (with_joined rs a b (joined p q)) z.stack at)) ep eq) (h _ (merged_set a b (joined p q) rs lt1 lt2))

pub sequenced_node : (z : Scene) (i a b next : ℕ) → clash z.site (Sequenced a b) i next → (rs : List Register) (at : At) (p q : Footprint) (o : Over) → a < length rs → b < length rs → footprint_at rs a ≡ p → footprint_at rs b ≡ q → ((rs1 : List Register) → Merged a b (grown z.site.tracks p q) rs rs1 → Run z next rs1 at o) → Run z i rs at o
sequenced_node z i a b next has rs at p q o lt1 lt2 ep eq h = sequenced_by z z.site.tracks i a b next has rs at p q o lt1 lt2 ep eq h

settled_by : (z : Scene) (tracks : Bool) (i r next : ℕ) → when tracks (one z.site.stands (node.Clash (Settled r))) i next → (rs : List Register) (at : At) (p : Footprint) (o : Over) → r < length rs → footprint_at rs r ≡ p → ((rs1 : List Register) → Tracked r (settled_in tracks p) rs rs1 → Run z next rs1 at o) → Run z i rs at o
settled_by z false i r next has rs at p o lt ep h = subst (λ i. Run z i rs at o) (sym has) (h rs (tracked_same r p rs ep))
settled_by z true i r next has rs at p o lt ep h =
    sets z i next (node.Clash (Settled r) next) rs (with_footprint rs r (settle p)) at o has
    (ap (λ p. Goes (conf z.code next (with_footprint rs r (settle p)) z.stack at)) ep) (h _ (tracked_set r (settle p) rs lt))

pub settled_node : (z : Scene) (i r next : ℕ) → clash z.site (Settled r) i next → (rs : List Register) (at : At) (p : Footprint) (o : Over) → r < length rs → footprint_at rs r ≡ p → ((rs1 : List Register) → Tracked r (settled_in z.site.tracks p) rs rs1 → Run z next rs1 at o) → Run z i rs at o
settled_node z i r next has rs at p o lt ep h = settled_by z z.site.tracks i r next has rs at p o lt ep h

-- the cells of an access are those of its type
access_cells : (z : Scene) (is_a_struct : Bool) (t : CType) (it : Access) → IsAccessTo is_a_struct z.site t it → cells_of (structs_of (code_at z.graph z.code)) it ≡ (if is_a_struct then (shape (program_at z) t).cells else one_cell (cell_type (program_at z) t))
access_cells z true t (access.Struct k) is = ap (λ l. (shape_at l k).cells) z.structs ∙ ap (λ shape. shape.cells) is
access_cells z true t (access.Scalar ty) is = absurd is
access_cells z false t it is = ap (cells_of (structs_of (code_at z.graph z.code))) is

read_by : (z : Scene) (tracks : Bool) (t : CType) (i r next : ℕ) → when tracks (with_access z.site t (Read r)) i next → (rs : List Register) (at : At) (x : Valued Content) (k : Footprint → At → Over) → r < length rs → (register_at rs r).content ≡ Some x.value → footprint_at rs r ≡ x.footprint → Tracking z r next rs at k → Run z i rs at (finish (with_reads tracks (cells_in (program_at z) t) x at) k)
read_by z false t i r next has rs at x k lt e ep h = subst (λ i. Run z i rs at (k x.footprint at)) (sym has) (h x.footprint at rs (tracked_same r x.footprint rs ep) (later_same at))
read_by z true t i r next has rs at x k lt e ep h =
    let cells = cells_in (program_at z) t in
    acts z i next (node.Clash (Read r has.0) next) rs at (with_reads true cells x at) (λ p. with_footprint rs r p) k has.2
    (ap₂ (λ o p. going (had o >>= (λ c. with_reads true (cells_of (structs_of (code_at z.graph z.code)) has.0) (valued c p) >>= (λ p. gives (with_footprint rs r p)))) at (λ rs1. leaves (conf z.code i rs z.stack at) rs1 next)) e ep
    ∙ ap (λ cells. going (with_reads true cells x >>= (λ p. gives (with_footprint rs r p))) at (λ rs1. leaves (conf z.code i rs z.stack at) rs1 next)) (access_cells z (is_struct t) t has.0 has.1)
    ∙ goes_on-mapped (with_reads true cells x at) (λ p. with_footprint rs r p) (λ rs1. leaves (conf z.code i rs z.stack at) rs1 next))
    (calm-with_reads true cells x at) (λ p at1 l. h p at1 _ (tracked_set r p rs lt) l)

pub read_node : (z : Scene) (t : CType) (i r next : ℕ) → when z.site.tracks (with_access z.site t (Read r)) i next → (rs : List Register) (at : At) (x : Valued Content) (k : Footprint → At → Over) → r < length rs → (register_at rs r).content ≡ Some x.value → footprint_at rs r ≡ x.footprint → Tracking z r next rs at k → Run z i rs at (finish (with_reads z.site.tracks (cells_in (program_at z) t) x at) k)
read_node z t i r next has rs at x k lt e ep h = read_by z z.site.tracks t i r next has rs at x k lt e ep h

-- what is to be written is no pending write
aims : (z : Scene) (it : Access) (cells : List ShapeCell) (i r next : ℕ) → cells_of (structs_of (code_at z.graph z.code)) it ≡ cells → z.site.stands i (node.Clash (Target r it) next) → (rs : List Register) (at : At) (a : Option Address) (p : Footprint) (k : Footprint → At → Over) → r < length rs → (register_at rs r).content ≡ Some (content.Address a) → footprint_at rs r ≡ p → Tracking z r next rs at k → Run z i rs at (finish (aimed true cells a p at) k)
aims z it cells i r next is has rs at a p k lt e ep h =
    acts z i next (node.Clash (Target r it) next) rs at (aimed true cells a p at) (λ p. with_footprint rs r p) k has
    (ap₂ (λ o p. going (had o >>= address_in >>= (λ a. aimed true (cells_of (structs_of (code_at z.graph z.code)) it) a p >>= (λ p. gives (with_footprint rs r p)))) at (λ rs1. leaves (conf z.code i rs z.stack at) rs1 next)) e ep
    ∙ ap (λ cells. going (aimed true cells a p >>= (λ p. gives (with_footprint rs r p))) at (λ rs1. leaves (conf z.code i rs z.stack at) rs1 next)) is
    ∙ goes_on-mapped (aimed true cells a p at) (λ p. with_footprint rs r p) (λ rs1. leaves (conf z.code i rs z.stack at) rs1 next))
    (calm-aimed true cells a p at) (λ p at1 l. h p at1 _ (tracked_set r p rs lt) l)

target_by : (z : Scene) (tracks : Bool) (t : CType) (i r next : ℕ) → when tracks (with_access z.site t (Target r)) i next → (rs : List Register) (at : At) (a : Option Address) (p : Footprint) (k : Footprint → At → Over) → r < length rs → (register_at rs r).content ≡ Some (content.Address a) → footprint_at rs r ≡ p → Tracking z r next rs at k → Run z i rs at (finish (aimed tracks (cells_in (program_at z) t) a p at) k)
target_by z false t i r next has rs at a p k lt e ep h = subst (λ i. Run z i rs at (k p at)) (sym has) (h p at rs (tracked_same r p rs ep) (later_same at))
target_by z true t i r next has rs at a p k lt e ep h = aims z has.0 (cells_in (program_at z) t) i r next (access_cells z (is_struct t) t has.0 has.1) has.2 rs at a p k lt e ep h

pub target_node : (z : Scene) (t : CType) (i r next : ℕ) → target z.site t r i next → (rs : List Register) (at : At) (a : Option Address) (p : Footprint) (k : Footprint → At → Over) → r < length rs → (register_at rs r).content ≡ Some (content.Address a) → footprint_at rs r ≡ p → Tracking z r next rs at k → Run z i rs at (finish (aimed z.site.tracks (cells_in (program_at z) t) a p at) k)
target_node z t i r next has rs at a p k lt e ep h = target_by z z.site.tracks t i r next has rs at a p k lt e ep h

scalar_target_by : (z : Scene) (tracks : Bool) (ty : CellType) (i r next : ℕ) → when tracks (one z.site.stands (node.Clash (Target r (access.Scalar ty)))) i next → (rs : List Register) (at : At) (a : Option Address) (p : Footprint) (k : Footprint → At → Over) → r < length rs → (register_at rs r).content ≡ Some (content.Address a) → footprint_at rs r ≡ p → Tracking z r next rs at k → Run z i rs at (finish (aimed tracks (one_cell ty) a p at) k)
scalar_target_by z false ty i r next has rs at a p k lt e ep h = subst (λ i. Run z i rs at (k p at)) (sym has) (h p at rs (tracked_same r p rs ep) (later_same at))
scalar_target_by z true ty i r next has rs at a p k lt e ep h = aims z (access.Scalar ty) (one_cell ty) i r next refl has rs at a p k lt e ep h

pub scalar_target_node : (z : Scene) (t : CType) (i r next : ℕ) → scalar_target z.site t r i next → (rs : List Register) (at : At) (a : Option Address) (p : Footprint) (k : Footprint → At → Over) → r < length rs → (register_at rs r).content ≡ Some (content.Address a) → footprint_at rs r ≡ p → Tracking z r next rs at k → Run z i rs at (finish (aimed z.site.tracks (one_cell (cell_type (program_at z) t)) a p at) k)
scalar_target_node z t i r next has rs at a p k lt e ep h = scalar_target_by z z.site.tracks (cell_type (program_at z) t) i r next has rs at a p k lt e ep h

-- ---- nodes that write no register

pub branch_node : (z : Scene) (i r on off : ℕ) (rs : List Register) (at : At) (c : Content) (k : Bool → At → Over) → z.site.stands i (node.Branch r on off) → (register_at rs r).content ≡ Some c → ((b : Bool) (at1 : At) → Later at at1 → Run z (if b then on else off) rs at1 (k b at1)) → Run z i rs at (finish (truth_in c at) k)
branch_node z i r on off rs at c k has e h =
    through z.graph at (conf z.code i rs z.stack at) (truth_in c at) (λ b at1. conf z.code (if b then on else off) rs z.stack at1) k
    (step_at z.graph z.code i (node.Branch r on off) rs z.stack at (z.nodes i _ has)
    ∙ ap (λ o. going (had o >>= truth_in) at (λ b. goes (conf z.code i rs z.stack at) (if b then on else off))) e)
    (calm-truth_in c at) h

-- ---- what follows an answer

-- the evaluation, and then what follows it
pub bind_run : {A B : Type 0} (z : Scene) (i : ℕ) (rs : List Register) (m : Step A) (go_on : A → Step B) (at : At) (k : B → At → Over) → Run z i rs at (finish (m at) (λ a at1. finish (go_on a at1) k)) → Run z i rs at (finish ((m >>= go_on) at) k)
bind_run z i rs m go_on at k h = with_bind z.graph (conf z.code i rs z.stack at) m go_on at k h
