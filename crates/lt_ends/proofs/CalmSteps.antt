-- No step but a tick and a call changes how many ticks are left or how many calls are active.
use Rattle.std.specs.Prelude.{◌&&◌}
use Rattle.std.proofs.Common.{ℕ, zero, suc, ◌≤◌, ℤ, pos, List, Option, Some, None, Result, Ok, Err, Bool, true, false, if◌then◌else◌, refl, arith}
use Rattle.lt_model.specs.declared.cell.Address.{Address}
use Rattle.lt_model.specs.declared.cell.CellType.{CellType}
use Rattle.lt_model.specs.declared.cell.Content.{Content}
use Rattle.lt_model.specs.declared.cell.Content.TheVariants as content
use Rattle.lt_model.specs.declared.cell.Shape.{Shape}
use Rattle.lt_model.specs.declared.cell.ShapeCell.{ShapeCell}
use Rattle.lt_model.specs.declared.scalar.DataModel.{DataModel}
use Rattle.lt_model.specs.declared.scalar.Scalar.{Scalar}
use Rattle.lt_model.specs.declared.operator.Op.{Op}
use Rattle.lt_model.specs.declared.operator.Ub.{Ub}
use Rattle.lt_model.specs.declared.operator.Ub.TheVariants.{Unsequenced}
use Rattle.lt_model.specs.declared.run.End.{End}
use Rattle.lt_model.specs.declared.run.End.TheVariants.{Undefined, Cells}
use Rattle.lt_model.specs.Operators.{value_of, is_value}
use Rattle.lt_model.specs.Memory.{Memory, load, store, copy_struct, checked_address, then_result, move_by, compare, subtract, not_null}
use Rattle.lt_model.specs.State.{Footprint, Valued, clash, joined, meets, Left, Gives, Ends}
use Rattle.lt_ir.specs.declared.variable.Variable.{Variable}
use Rattle.lt_ir.specs.declared.pure.How.{How}
use Rattle.lt_ir.specs.declared.pure.How.TheVariants as how
use Rattle.lt_ir.specs.declared.node.Movement.{Movement}
use Rattle.lt_ir.specs.declared.node.Movement.TheVariants.{Elements, Member}
use Rattle.lt_ir.specs.Pure.{convert_as}
use Rattle.lt_ir.specs.Running.{At, Answer, Step, gives, over, defined, absurdity, asked, changed, ◌>>=◌, ◌>>◌, spent, tick, living_block, with_block, place, took, next_value, stub_value}
use Rattle.lt_ir.specs.Evaluation.{number_in, address_in, used, is_some_address, truth_in, apart, cells_met, aimed, loaded, stored, is_content_of, is_integer, is_right_operand, copied, with_reads, signed_count, moved, member_at, applied, counted, compared}
use Rattle.lt_ir.specs.Graph.{Register, register_at, had, content_at, moves}
use Rattle.std.proofs.Common.{◌≡◌, ◌∙◌, [], ◌∷◌, length}
use Rattle.lt_model.specs.declared.cell.Shape.{Shape}
use Rattle.lt_ir.specs.declared.variable.Variable.TheVariants.{Parameter}
use Rattle.lt_ir.specs.declared.node.Given.{Given}
use Rattle.lt_ir.specs.declared.node.Given.TheVariants.{Nothing, Fixed, Held}
use Rattle.lt_ir.specs.declared.node.Parts.{Parts}
use Rattle.lt_ir.specs.declared.node.Parts.TheVariants.{Unsequenced as UnsequencedParts, Sequenced, Settled, Read, Target}
use Rattle.lt_model.specs.Memory.{create_shaped}
use Rattle.lt_model.specs.State.{untouched}
use Rattle.lt_ir.specs.Running.{Bound, begins, ends, seals, created, bound_to, is_begun, with_scope, begin_parameters}
use Rattle.lt_ir.specs.Evaluation.{store_one, store_parameters, valued}
use Rattle.lt_ir.specs.Graph.{parted, contents_from, given, with_joined, with_footprint, footprint_at, cells_of}

-- a state of the same calls, where no more ticks are left
pub record Later (at at1 : At) : Type 0 where
  pub ticks : at1.ticks ≤ at.ticks
  pub depth : at1.depth ≡ at.depth

abbrev pub Keeps : {A : Type 0} → At → Answer A → Type 0
Keeps at (Gives a at1) = Later at at1
Keeps at (Ends end at1) = Unit {0}

abbrev pub Calm : {A : Type 0} → Step A → Type 0
Calm step = (at : At) → Keeps at (step at)

pub later_same : (at : At) → Later at at
later_same at = record { ticks = omega arith; depth = refl }

pub later_still : (at at1 at2 : At) → Later at at1 → Later at1 at2 → Later at at2
later_still at at1 at2 l m = record { ticks = omega (arith, l.ticks, m.ticks); depth = m.depth ∙ l.depth }

pub keeps_still : {A : Type 0} (at at1 : At) (m : Answer A) → Later at at1 → Keeps at1 m → Keeps at m
keeps_still at at1 (Gives a at2) l h = later_still at at1 at2 l h
keeps_still at at1 (Ends end at2) l h = tt

keeps-bind : {A B : Type 0} (at : At) (m : Answer A) (go : A → Step B) → Keeps at m → ((a : A) → Calm (go a)) → Keeps at (elim (m) [ Gives a at1 ↦ go a at1 | Ends end at1 ↦ Ends end at1 ])
keeps-bind at (Gives a at1) go l h = keeps_still at at1 (go a at1) l (h a at1)
keeps-bind at (Ends end at1) go l h = tt

pub calm-bind : {A B : Type 0} (m : Step A) (go : A → Step B) → Calm m → ((a : A) → Calm (go a)) → Calm (m >>= go)
calm-bind m go h hs at = keeps-bind at (m at) go (h at) hs

pub calm-then : {A B : Type 0} (m : Step A) (go : Step B) → Calm m → Calm go → Calm (m >> go)
calm-then m go h hs at = keeps-bind at (m at) (λ _. go) (h at) (λ _. hs)

pub calm-gives : {A : Type 0} (a : A) → Calm (gives a)
calm-gives a at = later_same at

pub calm-over : (A : Type 0) (end : End) → Calm (over {A = A} end)
calm-over A end at = tt

pub calm-absurdity : (A : Type 0) → Calm (absurdity {A = A})
calm-absurdity A at = tt

pub calm-defined : {A : Type 0} (r : Result A Ub) → Calm (defined r)
calm-defined (Ok a) at = later_same at
calm-defined (Err kind) at = tt

pub calm-asked : {A : Type 0} (question : Memory → Result A Ub) → Calm (asked question)
calm-asked question at = calm-defined (question at.memory) at

keeps-changed : (at : At) (r : Result Memory Ub) → Keeps {A = Unit {0}} at (elim (r) [ Ok memory ↦ Gives tt (record at { memory = memory }) | Err kind ↦ Ends (Undefined kind) at ])
keeps-changed at (Ok memory) = record { ticks = omega arith; depth = refl }
keeps-changed at (Err kind) = tt

pub calm-changed : (change : Memory → Result Memory Ub) → Calm (changed change)
calm-changed change at = keeps-changed at (change at.memory)

pub calm-if : {A : Type 0} (b : Bool) (m go : Step A) → Calm m → Calm go → Calm (λ at. (if b then m else go) at)
calm-if true m go h i at = h at
calm-if false m go h i at = i at

keeps-spent : (t : ℕ) (at : At) → t ≤ at.ticks → Keeps at (spent t at)
keeps-spent zero at le = tt
keeps-spent (suc t) at le = record { ticks = omega arith; depth = refl }

pub calm-tick : Calm tick
calm-tick at = keeps-spent at.ticks at (omega arith)

-- ---- variables

keeps-with_block : {A : Type 0} (at : At) (o : Option ℕ) (go : ℕ → Step A) → ((block : ℕ) → Calm (go block)) → Keeps {A = A} at (elim (o) [ None ↦ absurdity at | Some block ↦ go block at ])
keeps-with_block at None go h = tt
keeps-with_block at (Some block) go h = h block at

pub calm-with_block : {A : Type 0} (v : Variable) (go : ℕ → Step A) → ((block : ℕ) → Calm (go block)) → Calm (with_block v go)
calm-with_block v go h at = keeps-with_block at (living_block v at) go h

pub calm-place : (v : Variable) → Calm (place v)
calm-place v at = calm-with_block v (λ block. gives (Some (record { block = block; offset = 0 }))) (λ block at1. later_same at1) at

keeps-took : (name : List ℕ) (at : At) (o : Option (ℤ × List Left)) → Keeps at (took name at o)
keeps-took name at None = tt
keeps-took name at (Some (z, lefts)) = record { ticks = omega arith; depth = refl }

pub calm-stub_value : (name : List ℕ) → Calm (stub_value name)
calm-stub_value name at = keeps-took name at (next_value name at.stubs)

-- ---- contents

pub calm-used : (c : Content) → Calm (used c)
calm-used content.Unset at = tt
calm-used (content.Number z) at = later_same at
calm-used (content.Address a) at = later_same at

pub calm-number_in : (c : Content) → Calm (number_in c)
calm-number_in content.Unset at = tt
calm-number_in (content.Number z) at = later_same at
calm-number_in (content.Address a) at = tt

pub calm-address_in : (c : Content) → Calm (address_in c)
calm-address_in content.Unset at = tt
calm-address_in (content.Number z) at = tt
calm-address_in (content.Address a) at = later_same at

pub calm-truth_in : (c : Content) → Calm (truth_in c)
calm-truth_in content.Unset at = tt
calm-truth_in (content.Number z) at = later_same at
calm-truth_in (content.Address a) at = calm-bind (asked (λ memory. checked_address memory a)) (λ _. gives (is_some_address a)) (calm-asked (λ memory. checked_address memory a)) (λ _ at1. later_same at1) at

pub calm-had : (o : Option Content) → Calm (had o)
calm-had None at = tt
calm-had (Some c) at = later_same at

pub calm-content_at : (rs : List Register) (r : ℕ) → Calm (content_at rs r)
calm-content_at rs r at = calm-had (register_at rs r).content at

-- ---- footprints

keeps-refused : {A : Type 0} (at : At) (b : Bool) (r : Result A Ub) (a : A) → Keeps at ((if b then defined r else gives a) at)
keeps-refused at true r a = calm-defined r at
keeps-refused at false r a = later_same at

pub calm-apart : (tracks : Bool) (p q : Footprint) → Calm (apart tracks p q)
calm-apart true p q at = keeps-refused at (clash p q) (Err Unsequenced) (joined p q)
calm-apart false p q at = later_same at

pub calm-aimed : (tracks : Bool) (cells : List ShapeCell) (place : Option Address) (operands : Footprint) → Calm (aimed tracks cells place operands)
calm-aimed false cells place operands at = later_same at
calm-aimed true cells place operands at = keeps-refused at (meets (cells_met cells place at.memory) operands.pending) (Err Unsequenced) operands

-- ---- memory

pub calm-loaded : (tracks : Bool) (model : DataModel) (ty : CellType) (p : Valued (Option Address)) → Calm (loaded tracks model ty p)
calm-loaded tracks model ty p at = calm-bind (asked (λ memory. load model memory p.value ty)) _ (calm-asked (λ memory. load model memory p.value ty)) (λ c at1. later_same at1) at

-- where what is needed is there
calm-fitting : {A : Type 0} (b : Bool) (m : Step A) → Calm m → Calm (if b then m else absurdity)
calm-fitting true m h at = h at
calm-fitting false m h at = tt

calm-written : (change : Memory → Result Memory Ub) (p : Footprint) → Calm (changed change >> gives p)
calm-written change p = calm-then (changed change) (gives p) (calm-changed change) (calm-gives p)

pub calm-stored : (tracks : Bool) (model : DataModel) (ty : CellType) (place : Option Address) (c : Content) (operands : Footprint) → Calm (stored tracks model ty place c operands)
calm-stored tracks model ty place c operands =
    calm-fitting (is_content_of model ty c) _ (λ at. calm-written (λ memory. store model memory place ty c) _ at)

pub calm-copied : (tracks : Bool) (model : DataModel) (shape : Shape) (place from : Option Address) (operands : Footprint) → Calm (copied tracks model shape place from operands)
calm-copied tracks model shape place from operands at = calm-written (λ memory. copy_struct model memory place from shape) _ at

pub calm-with_reads : (tracks : Bool) (cells : List ShapeCell) (x : Valued Content) → Calm (with_reads tracks cells x)
calm-with_reads tracks cells x at = later_same at

-- ---- operators

pub calm-moved : (op : Op) (size : ℕ) (p q : Content) → Calm (moved op size p q)
calm-moved op size p q at =
    calm-bind (address_in p) _ (calm-address_in p) (λ a. calm-bind (number_in q) _ (calm-number_in q) (λ z. calm-fitting (is_integer z) _ (calm-asked (λ memory. move_by memory a (signed_count op z) size)))) at

pub calm-member_at : (offset : ℕ) (place : Option Address) → Calm (member_at offset place)
calm-member_at offset place at = calm-asked (λ memory. then_result (not_null place) (λ _. move_by memory place (pos 1) offset)) at

pub calm-applied : (model : DataModel) (op : Op) (s : Scalar) (p q : Content) → Calm (applied model op s p q)
calm-applied model op s p q at =
    calm-bind (number_in p) _ (calm-number_in p) (λ a. calm-bind (number_in q) _ (calm-number_in q) (λ b. calm-fitting (is_value model s a && is_right_operand model op s b) _ (calm-defined (value_of model op s a b)))) at

pub calm-counted : (size : ℕ) (p q : Content) → Calm (counted size p q)
calm-counted size p q at =
    calm-bind (address_in p) _ (calm-address_in p) (λ a. calm-bind (address_in q) _ (calm-address_in q) (λ b. calm-asked (λ memory. subtract memory a b size))) at

pub calm-compared : (op : Op) (p q : Content) → Calm (compared op p q)
calm-compared op p q at =
    calm-bind (address_in p) _ (calm-address_in p) (λ a. calm-bind (address_in q) _ (calm-address_in q) (λ b. calm-asked (λ memory. compare memory op a b))) at

pub calm-moves : (rs : List Register) (by : Movement) (c : Content) → Calm (moves rs by c)
calm-moves rs (Elements count op size) c at =
    calm-bind (content_at rs count) _ (calm-content_at rs count) (λ d. calm-bind (moved op size c d) _ (calm-moved op size c d) (λ a at1. later_same at1)) at
calm-moves rs (Member offset) c at =
    calm-bind (address_in c) _ (calm-address_in c) (λ a. calm-bind (member_at offset a) _ (calm-member_at offset a) (λ b at1. later_same at1)) at

pub calm-convert_as : (model : DataModel) (conversion : How) (c : Content) → Calm (convert_as model conversion c)
calm-convert_as model (how.ToInteger s) c at = calm-bind (number_in c) _ (calm-number_in c) (λ z at1. later_same at1) at
calm-convert_as model how.ToTruth c at = calm-bind (truth_in c) _ (calm-truth_in c) (λ b at1. later_same at1) at
calm-convert_as model how.ToPointer c at = calm-bind (address_in c) _ (calm-address_in c) (λ a at1. later_same at1) at
calm-convert_as model how.ToVoid c at = later_same at
calm-convert_as model how.ToValue c at = calm-used c at
calm-convert_as model how.AsItIs c at = later_same at

-- ---- objects

pub calm-seals : (v : Variable) → Calm (seals v)
calm-seals v = calm-with_block v _ (λ b at. record { ticks = omega arith; depth = refl })

pub calm-ends : (v : Variable) → Calm (ends v)
calm-ends v = calm-with_block v _ (λ b at. record { ticks = omega arith; depth = refl })

keeps-created : (at : At) (o : Option Memory) → Keeps {A = ℕ} at (elim o [ None ↦ Ends Cells at | Some memory ↦ Gives (length at.memory) (record at { memory = memory }) ])
keeps-created at None = tt
keeps-created at (Some memory) = record { ticks = omega arith; depth = refl }

pub calm-created : (shape : Shape) (is_zeroed : Bool) → Calm (created shape is_zeroed)
calm-created shape is_zeroed at = keeps-created at (create_shaped at.memory shape is_zeroed true)

pub calm-bound_to : (v : Variable) (block : ℕ) → Calm (bound_to v block)
calm-bound_to v block at = record { ticks = omega arith; depth = refl }

keeps-begins : (at : At) (b : Bool) (v : Variable) (shape : Shape) (is_zeroed : Bool) → Keeps at ((if b then absurdity at else (created shape is_zeroed >>= bound_to v) at))
keeps-begins at true v shape is_zeroed = tt
keeps-begins at false v shape is_zeroed = calm-bind (created shape is_zeroed) (bound_to v) (calm-created shape is_zeroed) (calm-bound_to v) at

pub calm-begins : (v : Variable) (shape : Shape) (is_zeroed : Bool) → Calm (begins v shape is_zeroed)
calm-begins v shape is_zeroed at = keeps-begins at (is_begun v at) v shape is_zeroed

pub calm-with_scope : (scope : List Bound) → Calm (with_scope scope)
calm-with_scope scope at = record { ticks = omega arith; depth = refl }

pub calm-begin_parameters : (k : ℕ) (shapes : List Shape) → Calm (begin_parameters k shapes)
calm-begin_parameters k [] at = later_same at
calm-begin_parameters k (shape ∷ shapes) at = calm-then (begins (Parameter k) shape false) _ (calm-begins (Parameter k) shape false) (calm-begin_parameters (suc k) shapes) at

calm-store_one : (model : DataModel) (k : ℕ) (cells : List ShapeCell) (c : Content) → Calm (store_one model k cells c)
calm-store_one model k [] c at = tt {0}
calm-store_one model k (cell ∷ cells) c at =
    calm-bind (used c) _ (calm-used c) (λ it. calm-bind (place (Parameter k)) _ (calm-place (Parameter k)) (λ p. calm-bind (stored false model cell.ty p it untouched) _ (calm-stored false model cell.ty p it untouched) (λ _. calm-gives (tt {0})))) at

pub calm-store_parameters : (model : DataModel) (k : ℕ) (shapes : List Shape) (cs : List Content) → Calm (store_parameters model k shapes cs)
calm-store_parameters model k [] cs at = later_same at
calm-store_parameters model k (shape ∷ shapes) [] at = later_same at
calm-store_parameters model k (shape ∷ shapes) (c ∷ cs) at = calm-then (store_one model k shape.cells c) _ (calm-store_one model k shape.cells c) (calm-store_parameters model (suc k) shapes cs) at

-- ---- registers

pub calm-contents_from : (rs : List Register) (r n : ℕ) → Calm (contents_from rs r n)
calm-contents_from rs r zero at = later_same at
calm-contents_from rs r (suc n) at =
    calm-bind (content_at rs r) _ (calm-content_at rs r) (λ c. calm-bind (contents_from rs (suc r) n) _ (calm-contents_from rs (suc r) n) (λ cs. calm-gives (c ∷ cs))) at

pub calm-given : (rs : List Register) (value : Given) → Calm (given rs value)
calm-given rs Nothing at = later_same at
calm-given rs (Fixed c) at = later_same at
calm-given rs (Held r) at = calm-content_at rs r at

pub calm-parted : (structs : List Shape) (rs : List Register) (parts : Parts) → Calm (parted structs rs parts)
calm-parted structs rs (UnsequencedParts left right) at =
    calm-bind (apart true (footprint_at rs left) (footprint_at rs right)) _ (calm-apart true (footprint_at rs left) (footprint_at rs right)) (λ p. calm-gives (with_joined rs left right p)) at
calm-parted structs rs (Sequenced left right) at = later_same at
calm-parted structs rs (Settled r) at = later_same at
calm-parted structs rs (Read r access) at =
    calm-bind (content_at rs r) _ (calm-content_at rs r) (λ c. calm-bind {B = List Register} (with_reads true (cells_of structs access) (valued c (footprint_at rs r))) (λ p. gives (with_footprint rs r p)) (calm-with_reads true (cells_of structs access) (valued c (footprint_at rs r))) (λ p. calm-gives (with_footprint rs r p))) at
calm-parted structs rs (Target r access) at =
    calm-bind (content_at rs r >>= address_in) _ (calm-bind (content_at rs r) _ (calm-content_at rs r) calm-address_in) (λ a. calm-bind (aimed true (cells_of structs access) a (footprint_at rs r)) _ (calm-aimed true (cells_of structs access) a (footprint_at rs r)) (λ p. calm-gives (with_footprint rs r p))) at
