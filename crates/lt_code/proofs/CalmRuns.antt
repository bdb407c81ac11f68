-- What entering a function and starting a run leave as it is: the scope behind the parameters, and no more ticks.
use Rattle.std.proofs.Common.{◌≡◌, ℕ, suc, ◌≤◌, List, [], ◌∷◌, length, Option, Some, None, Bool, true, false, refl, ap, ◌∙◌, arith}
use Rattle.std.specs.Prelude.{if◌then◌else◌, nat_eq}
use Rattle.lt_model.specs.declared.cell.Address.{Address}
use Rattle.lt_model.specs.declared.cell.CellType.{CellType}
use Rattle.lt_model.specs.declared.cell.Content.{Content}
use Rattle.lt_model.specs.declared.cell.Content.TheVariants as content
use Rattle.lt_model.specs.declared.input.CellSet.{CellSet}
use Rattle.lt_model.specs.declared.input.CellSet.TheVariants as cellset
use Rattle.lt_model.specs.declared.cell.Shape.{Shape}
use Rattle.lt_model.specs.declared.cell.ShapeCell.{ShapeCell}
use Rattle.lt_model.specs.declared.scalar.DataModel.{DataModel}
use Rattle.lt_model.specs.declared.input.BlockIn.{BlockIn}
use Rattle.lt_model.specs.declared.input.Input.{Input}
use Rattle.lt_model.specs.declared.run.End.{End as RunEnd}
use Rattle.lt_model.specs.Memory.{Memory, create_shaped}
use Rattle.lt_model.specs.State.{untouched, Gives, Ends}
use Rattle.lt_tree.specs.Typing.Programs.{Program}
use Rattle.lt_ir.specs.declared.variable.Variable.{Variable}
use Rattle.lt_ir.specs.declared.variable.Variable.TheVariants.{Parameter, Static as StaticObject}
use Rattle.lt_ir.specs.declared.code.Static.{Static}
use Rattle.lt_ir.specs.Running.{Bound, At, Answer, Step, ◌>>=◌, ◌>>◌, gives, place, begins, without, statics_of, is_static, begin_parameters, bound_to, created, seals}
use Rattle.lt_ir.specs.Evaluation.{used, stored, store_one, store_parameters}
use Rattle.lt_ir.specs.Starting.{Root, put, fill, start_static, start_statics, seal_statics, started, start_blocks, start_parameters, root_among, point_named, type_at, put_if_there, put_in, set_one, set_all, sets}
use Rattle.lt_meaning.specs.Expressions.{shape}
use Rattle.lt_meaning.specs.Statements.{type_of_object}
use Rattle.lt_meaning.specs.Runs.{shapes_of}
use Rattle.lt_ir.specs.Graph.{are_static}
use Rattle.lt_code.proofs.Finishing.{Keeps, Calm, later_same}
use Rattle.lt_code.proofs.CalmSteps.{calm-bind, calm-used, calm-place, calm-stored}
use Rattle.lt_code.proofs.CalmObjects.{Holds, begins_holds, Began, calm-seals}

-- ---- steps one behind the other

pub holds_bind : {A B : Type 0} (P : A → At → Type 0) (Q : B → At → Type 0) (m : Step A) (f : A → Step B) (at : At) → Holds P (m at) → ((a : A) (at1 : At) → P a at1 → Holds Q (f a at1)) → Holds Q ((m >>= f) at)
holds_bind P Q m f at h hf = by_answer (m at) h
  where
    by_answer : (a : Answer _) → Holds P a → Holds Q (elim (a) [ Gives x at1 ↦ f x at1 | Ends end at1 ↦ Ends end at1 ])
    by_answer (Gives x at1) h = hf x at1 h
    by_answer (Ends end at1) h = tt

pub bind_assoc : {A B C : Type 0} (m : Step A) (f : A → Step B) (g : B → Step C) (at : At) → ((m >>= f) >>= g) at ≡ (m >>= (λ a. f a >>= g)) at
bind_assoc {A} {B} {C} m f g at = by_answer (m at)
  where
    by_answer : (a : Answer A) → elim (elim (a) as (λ q. Answer B) [ Gives x at1 ↦ f x at1 | Ends end at1 ↦ Ends end at1 ]) as (λ q. Answer C) [ Gives y at2 ↦ g y at2 | Ends end at2 ↦ Ends end at2 ] ≡ elim (a) as (λ q. Answer C) [ Gives x at1 ↦ (f x >>= g) at1 | Ends end at1 ↦ Ends end at1 ]
    by_answer (Gives x at1) = refl
    by_answer (Ends end at1) = refl

pub bind_same : {A B : Type 0} (m : Step A) (f g : A → Step B) → ((a : A) (at : At) → f a at ≡ g a at) → (at : At) → (m >>= f) at ≡ (m >>= g) at
bind_same {A} {B} m f g h at = by_answer (m at)
  where
    by_answer : (a : Answer A) → elim (a) as (λ q. Answer B) [ Gives x at1 ↦ f x at1 | Ends end at1 ↦ Ends end at1 ] ≡ elim (a) as (λ q. Answer B) [ Gives x at1 ↦ g x at1 | Ends end at1 ↦ Ends end at1 ]
    by_answer (Gives x at1) = h x at1
    by_answer (Ends end at1) = refl

-- ---- the scope of a body

-- parameters in scope, from one on, before others
abbrev pub begun : ℕ → List ℕ → List Bound → List Bound
begun k [] scope = scope
begun k (b ∷ bs) scope = begun (suc k) bs (record { variable = Parameter k; block = b } ∷ scope)

-- parameters that leave scope
abbrev pub dropped : ℕ → List ℕ → List Bound → List Bound
dropped k [] scope = scope
dropped k (p ∷ ps) scope = without (dropped (suc k) ps scope) (Parameter k)

same : (k : ℕ) → nat_eq k k ≡ true
same k = grind arith

pub dropped_begun : (k : ℕ) (bs ps : List ℕ) (scope : List Bound) → length bs ≡ length ps → dropped k ps (begun k bs scope) ≡ scope
dropped_begun k [] [] scope e = refl
dropped_begun k [] (p ∷ ps) scope e = absurd (omega arith)
dropped_begun k (b ∷ bs) [] scope e = absurd (omega arith)
dropped_begun k (b ∷ bs) (p ∷ ps) scope e =
    let bound : Bound = record { variable = Parameter k; block = b } in
    ap (λ l. without l (Parameter k)) (dropped_begun (suc k) bs ps (bound ∷ scope) (omega arith)) ∙ ap (λ t. if t then scope else bound ∷ without scope (Parameter k)) (same k)

pub statics_are_static : (scope : List Bound) → are_static (statics_of scope) ≡ true
statics_are_static [] = refl
statics_are_static (bound ∷ scope) = by_kind (is_static bound.variable) refl (statics_are_static scope)
  where
    by_kind : (b : Bool) → is_static bound.variable ≡ b → are_static (statics_of scope) ≡ true → are_static (if b then bound ∷ statics_of scope else statics_of scope) ≡ true
    by_kind true e h = ap (λ t. if t then are_static (statics_of scope) else false) e ∙ h
    by_kind false e h = h

-- the parameters have begun
abbrev pub Begun : ℕ → List ℕ → At → Unit {0} → At → Type 0
Begun k ps at u at1 = (bs : List ℕ) × (length bs ≡ length ps) × (at1.scope ≡ begun k bs at.scope) × (at1.ticks ≤ at.ticks) × (at1.depth ≡ at.depth)

pub begin_holds : (program : Program) (k : ℕ) (ps : List ℕ) (at : At) → Holds (Begun k ps at) (begin_parameters k (shapes_of program ps) at)
begin_holds program k [] at = ([], refl, refl, omega arith, refl)
begin_holds program k (p ∷ ps) at =
    holds_bind (Began at (Parameter k)) (Begun k (p ∷ ps) at) (begins (Parameter k) (shape program (type_of_object program p)) false) (λ u. begin_parameters (suc k) (shapes_of program ps)) at (begins_holds _ _ _ at) (λ u at1 began. more at1 began.0 began.1 began.2 began.3 (begin_parameters (suc k) (shapes_of program ps) at1) (begin_holds program (suc k) ps at1))
  where
    more : (at1 : At) (b : ℕ) → at1.ticks ≤ at.ticks → at1.scope ≡ record { variable = Parameter k; block = b } ∷ at.scope → at1.depth ≡ at.depth → (a : Answer (Unit {0})) → Holds (Begun (suc k) ps at1) a → Holds (Begun k (p ∷ ps) at) a
    more at1 b t e d (Gives u at2) h = (b ∷ h.0, ap suc h.1, h.2 ∙ ap (begun (suc k) h.0) e, omega (arith, h.3), h.4 ∙ d)
    more at1 b t e d (Ends end at2) h = tt

-- ---- the values of parameters

calm_one : (model : DataModel) (k : ℕ) (cells : List ShapeCell) (c : Content) → Calm (store_one model k cells c)
calm_one model k [] c at = tt
calm_one model k (cell ∷ cells) c at =
    calm-bind (used c) (λ it. place (Parameter k) >>= (λ a. stored false model cell.ty a it untouched >> gives (tt {0}))) (calm-used c) (λ it.
    calm-bind (place (Parameter k)) (λ a. stored false model cell.ty a it untouched >> gives (tt {0})) (calm-place (Parameter k)) (λ a.
    calm-bind (stored false model cell.ty a it untouched) (λ u. gives (tt {0})) (calm-stored false model cell.ty a it untouched) (λ u at1. later_same at1))) at

pub calm_parameters : (model : DataModel) (k : ℕ) (shapes : List Shape) (xs : List Content) → Calm (store_parameters model k shapes xs)
calm_parameters model k [] xs at = later_same at
calm_parameters model k (shape ∷ shapes) [] at = later_same at
calm_parameters model k (shape ∷ shapes) (c ∷ cs) at =
    calm-bind (store_one model k shape.cells c) (λ u. store_parameters model (suc k) shapes cs) (calm_one model k shape.cells c) (λ u. calm_parameters model (suc k) shapes cs) at

-- ---- a run that starts

abbrev pub Slow : {A : Type 0} → Step A → Type 0
Slow m = (at : At) → Holds (λ a at1. at1.ticks ≤ at.ticks) (m at)

slow_bind : {A B : Type 0} (m : Step A) (f : A → Step B) → Slow m → ((a : A) → Slow (f a)) → Slow (m >>= f)
slow_bind {A} {B} m f hm hf at = holds_bind (λ a at1. at1.ticks ≤ at.ticks) (λ b at2. at2.ticks ≤ at.ticks) m f at (hm at) (λ a at1 le. fewer at1 le (f a at1) (hf a at1))
  where
    fewer : (at1 : At) → at1.ticks ≤ at.ticks → (a : Answer B) → Holds (λ a at2. at2.ticks ≤ at1.ticks) a → Holds (λ a at2. at2.ticks ≤ at.ticks) a
    fewer at1 le (Gives b at2) h = omega arith
    fewer at1 le (Ends end at2) h = tt

slow_calm : {A : Type 0} (m : Step A) → Calm m → Slow m
slow_calm {A} m h at = kept (m at) (h at)
  where
    kept : (a : Answer A) → Keeps at a → Holds (λ a at1. at1.ticks ≤ at.ticks) a
    kept (Gives a at1) l = l.ticks
    kept (Ends end at1) l = tt

slow_done : Slow {A = Unit {0}} (gives tt)
slow_done at = omega arith

slow_created : (sh : Shape) (z : Bool) → Slow (created sh z)
slow_created sh z at = by_memory (create_shaped at.memory sh z true)
  where
    by_memory : (o : Option Memory) → Holds (λ a at1. at1.ticks ≤ at.ticks) (elim (o) as (λ q. Answer ℕ) [ None ↦ Ends RunEnd.Cells at | Some memory ↦ Gives (length at.memory) (record at { memory = memory }) ])
    by_memory None = tt
    by_memory (Some memory) = omega arith

slow_bound : (v : Variable) (b : ℕ) → Slow (bound_to v b)
slow_bound v b at = omega arith

slow_put : (model : DataModel) (block offset : ℕ) (ty : CellType) (c : Content) → Slow (put model block offset ty c)
slow_put model block offset ty c =
    let where_it_lies : Option Address = Some (record { block = block; offset = offset }) in
    slow_bind (stored false model ty where_it_lies c untouched) (λ p. gives (tt {0})) (slow_calm (stored false model ty where_it_lies c untouched) (calm-stored false model ty where_it_lies c untouched)) (λ p. slow_done)

slow_fill : (model : DataModel) (block : ℕ) (cells : List ShapeCell) (cs : List Content) → Slow (fill model block cells cs)
slow_fill model block [] cs = slow_done
slow_fill model block (cell ∷ cells) [] = slow_done
slow_fill model block (cell ∷ cells) (c ∷ cs) =
    slow_bind (put model block cell.offset cell.ty c) (λ u. fill model block cells cs) (slow_put model block cell.offset cell.ty c) (λ u. slow_fill model block cells cs)

slow_static : (model : DataModel) (k : ℕ) (it : Static) → Slow (start_static model k it)
slow_static model k it =
    slow_bind (created it.block.shape true) (λ block. fill model block it.block.shape.cells it.cells >> bound_to (StaticObject k) block) (slow_created it.block.shape true) (λ block.
    slow_bind (fill model block it.block.shape.cells it.cells) (λ u. bound_to (StaticObject k) block) (slow_fill model block it.block.shape.cells it.cells) (λ u. slow_bound (StaticObject k) block))

slow_statics : (model : DataModel) (k : ℕ) (its : List Static) → Slow (start_statics model k its)
slow_statics model k [] = slow_done
slow_statics model k (it ∷ its) =
    slow_bind (start_static model k it) (λ u. start_statics model (suc k) its) (slow_static model k it) (λ u. slow_statics model (suc k) its)

slow_sealed : (k : ℕ) (its : List Static) → Slow (seal_statics k its)
slow_sealed k [] = slow_done
slow_sealed k (it ∷ its) =
    slow_bind {A = Unit {0}} (if it.writable then gives tt else seals (StaticObject k)) (λ u. seal_statics (suc k) its) (by_writable it.writable) (λ u. slow_sealed (suc k) its)
  where
    by_writable : (b : Bool) → Slow {A = Unit {0}} (if b then gives tt else seals (StaticObject k))
    by_writable true = slow_done
    by_writable false = slow_calm (seals (StaticObject k)) (calm-seals (StaticObject k))

slow_blocks : (its : List BlockIn) → Slow (start_blocks its)
slow_blocks [] at = omega arith
slow_blocks (it ∷ its) at =
    slow_bind (created it.shape true) (λ b. start_blocks its >>= (λ roots. gives (record { name = it.name; block = b; cells = it.shape.cells } ∷ roots))) (slow_created it.shape true) (λ b. slow_bind (start_blocks its) (λ roots. gives (record { name = it.name; block = b; cells = it.shape.cells } ∷ roots)) (slow_blocks its) (λ roots at1. omega arith)) at

slow_put_in : (model : DataModel) (root : Option Root) (offset : ℕ) (c : Content) → Slow (put_in model root offset c)
slow_put_in model None offset c = slow_done
slow_put_in model (Some root) offset c = by_type (type_at offset root.cells)
  where
    by_type : (ty : Option CellType) → Slow (put_if_there model root.block offset ty c)
    by_type None = slow_done
    by_type (Some ty) = slow_put model root.block offset ty c

slow_set : (model : DataModel) (roots : List Root) (it : CellSet) → Slow (set_one model roots it)
slow_set model roots (cellset.Number p z) = slow_put_in model (root_among roots p.root) p.offset (content.Number z)
slow_set model roots (cellset.Point p target) = slow_put_in model (root_among roots p.root) p.offset (content.Address (point_named roots target))

slow_set_all : (model : DataModel) (roots : List Root) (its : List CellSet) → Slow (set_all model roots its)
slow_set_all model roots [] = slow_done
slow_set_all model roots (it ∷ its) =
    slow_bind (set_one model roots it) (λ u. set_all model roots its) (slow_set model roots it) (λ u. slow_set_all model roots its)

slow_begins : (v : Variable) (sh : Shape) (z : Bool) → Slow (begins v sh z)
slow_begins v sh z at = only (begins v sh z at) (begins_holds v sh z at)
  where
    only : (a : Answer (Unit {0})) → Holds (Began at v) a → Holds (λ u at1. at1.ticks ≤ at.ticks) a
    only (Gives u at1) h = h.1
    only (Ends end at1) h = tt

slow_parameters : (k : ℕ) (shapes : List Shape) → Slow (start_parameters k shapes)
slow_parameters k [] at = omega arith
slow_parameters k (sh ∷ shs) at = slow_bind (begins (Parameter k) sh true) (λ u. start_parameters (suc k) shs) (slow_begins (Parameter k) sh true) (λ u. slow_parameters (suc k) shs) at

pub slow_started : (model : DataModel) (statics : List Static) (names : List (List ℕ)) (shapes : List Shape) (input : Input) → Slow (started model statics names shapes input)
slow_started model statics names shapes input =
    let last : List Root → Step (Unit {0}) = λ roots. sets model statics names shapes input.cells roots >> seal_statics 0 statics in
    slow_bind (start_statics model 0 statics) (λ u. start_blocks input.blocks >>= (λ roots. start_parameters 0 shapes >> last roots)) (slow_statics model 0 statics) (λ u.
    slow_bind (start_blocks input.blocks) (λ roots. start_parameters 0 shapes >> last roots) (slow_blocks input.blocks) (λ roots.
    slow_bind (start_parameters 0 shapes) (λ u. last roots) (slow_parameters 0 shapes) (λ u.
    slow_bind (sets model statics names shapes input.cells roots) (λ u. seal_statics 0 statics) (λ at. slow_set_all model _ input.cells at) (λ u. slow_sealed 0 statics))))
