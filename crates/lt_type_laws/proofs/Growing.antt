-- Steps that leave the cells of blocks as they are, and bring new blocks behind the others.
use Rattle.std.proofs.Common.{◌≡◌, ℕ, suc, List, [], ◌∷◌, ◌++◌, length, Option, Some, None, Bool, true, false, refl, sym, ap, ◌∙◌}
use Rattle.std.proofs.lemmas.List.{append-nil, append_assoc, length-map}
use Rattle.std.specs.Prelude.{if◌then◌else◌, Result, Ok, Err}
use Rattle.lt_model.specs.declared.cell.Address.{Address}
use Rattle.lt_model.specs.declared.cell.CellType.{CellType}
use Rattle.lt_model.specs.declared.cell.Content.{Content}
use Rattle.lt_model.specs.declared.cell.Shape.{Shape}
use Rattle.lt_model.specs.declared.cell.ShapeCell.{ShapeCell}
use Rattle.lt_model.specs.declared.scalar.DataModel.{DataModel}
use Rattle.lt_model.specs.declared.operator.Ub.{Ub}
use Rattle.lt_model.specs.declared.run.End.TheVariants.{Undefined, Cells}
use Rattle.lt_model.specs.Memory.{Memory, store, create_shaped}
use Rattle.lt_model.specs.State.{untouched, Gives, Ends}
use Rattle.lt_ir.specs.declared.variable.Variable.{Variable}
use Rattle.lt_ir.specs.declared.variable.Variable.TheVariants.{Parameter}
use Rattle.lt_ir.specs.Running.{At, Answer, Step, ◌>>=◌, gives, absurdity, changed, created, bound_to, begins, is_begun}
use Rattle.lt_ir.specs.Evaluation.{is_content_of, stored}
use Rattle.lt_ir.specs.Starting.{Root, start_parameters, type_at, put_if_there, put_in}
use Rattle.lt_type_laws.proofs.Standing.{standing, store_kept, created_behind}

-- an answer whose memory has these blocks and others behind them
abbrev pub Grown : {A : Type 0} → List (List ShapeCell) → Answer A → Type 0
Grown before (Gives a at) = (more : List (List ShapeCell)) × (standing at.memory ≡ before ++ more)
Grown before (Ends end at) = Unit {0}

pub record Grows {A : Type 0} (s : Step A) : Type 0 where
  pub grown : (at : At) → Grown (standing at.memory) (s at)

-- the blocks of the same memory
pub as_before : (blocks : List (List ShapeCell)) → (more : List (List ShapeCell)) × (blocks ≡ blocks ++ more)
as_before blocks = ([], sym (append-nil blocks))

grown_on : {A : Type 0} (before between more : List (List ShapeCell)) (m : Answer A) → between ≡ before ++ more → Grown between m → Grown before m
grown_on before between more (Gives a at) e h = (more ++ h.0, h.1 ∙ ap (λ them. them ++ h.0) e ∙ append_assoc before more h.0)
grown_on before between more (Ends end at) e h = tt

grown_then : {A B : Type 0} (before : List (List ShapeCell)) (m : Answer A) (f : A → Step B) → Grown before m → ((a : A) → Grows (f a)) → Grown before (elim (m) as (λ _. Answer B) [ Gives x at ↦ f x at | Ends end at ↦ Ends end at ])
grown_then before (Gives a at) f h k = grown_on before (standing at.memory) h.0 (f a at) h.1 ((k a).grown at)
grown_then before (Ends end at) f h k = tt

pub then_grows : {A B : Type 0} (s : Step A) (f : A → Step B) → Grows s → ((a : A) → Grows (f a)) → Grows (s >>= f)
then_grows s f h k = record { grown = λ at. grown_then (standing at.memory) (s at) f (h.grown at) k }

pub gives_grows : {A : Type 0} (a : A) → Grows (gives a)
gives_grows a = record { grown = λ at. as_before (standing at.memory) }

-- ---- blocks that are made

-- the new block stands behind the others
abbrev pub CreatedBehind : List (List ShapeCell) → Shape → Answer ℕ → Type 0
CreatedBehind before shape (Gives k at) = (standing at.memory ≡ before ++ shape.cells ∷ []) × (k ≡ length before)
CreatedBehind before shape (Ends end at) = Unit {0}

pub created_so : (shape : Shape) (zeroed : Bool) (at : At) → CreatedBehind (standing at.memory) shape (created shape zeroed at)
created_so shape zeroed at = by (create_shaped at.memory shape zeroed true) refl
  where
    by : (x : Option Memory) → create_shaped at.memory shape zeroed true ≡ x
        → CreatedBehind (standing at.memory) shape (elim (x) as (λ _. Answer ℕ) [ None ↦ Ends Cells at | Some memory ↦ Gives (length at.memory) (record at { memory = memory }) ])
    by None e = tt
    by (Some after) e = (created_behind at.memory after shape zeroed true e, sym (length-map at.memory _))

created_grown : (before : List (List ShapeCell)) (shape : Shape) (m : Answer ℕ) → CreatedBehind before shape m → Grown before m
created_grown before shape (Gives k at) h = (shape.cells ∷ [], h.0)
created_grown before shape (Ends end at) h = tt

begins_grows : (v : Variable) (shape : Shape) (zeroed : Bool) → Grows (begins v shape zeroed)
begins_grows v shape zeroed = record { grown = λ at. by at (is_begun v at) }
  where
    by : (at : At) (b : Bool) → Grown {A = Unit {0}} (standing at.memory) (if b then absurdity at else (created shape zeroed >>= bound_to v) at)
    by at true = tt
    by at false =
        grown_then (standing at.memory) (created shape zeroed at) (bound_to v) (created_grown (standing at.memory) shape (created shape zeroed at) (created_so shape zeroed at)) (λ k. record { grown = λ at. as_before (standing at.memory) })

pub parameters_grow : (k : ℕ) (shapes : List Shape) → Grows (start_parameters k shapes)
parameters_grow k [] = gives_grows tt
parameters_grow k (shape ∷ shapes) = then_grows (begins (Parameter k) shape true) (λ _. start_parameters (suc k) shapes) (begins_grows (Parameter k) shape true) (λ _. parameters_grow (suc k) shapes)

-- ---- cells that are set

store_grows : (m : DataModel) (a : Option Address) (ty : CellType) (c : Content) → Grows (changed (λ memory. store m memory a ty c))
store_grows m a ty c = record { grown = λ at. by at (store m at.memory a ty c) refl }
  where
    by : (at : At) (x : Result Memory Ub) → store m at.memory a ty c ≡ x
        → Grown (standing at.memory) (elim (x) as (λ _. Answer (Unit {0})) [ Ok memory ↦ Gives tt (record at { memory = memory }) | Err kind ↦ Ends (Undefined kind) at ])
    by at (Ok after) e = ([], store_kept m a ty c at.memory after e ∙ sym (append-nil (standing at.memory)))
    by at (Err kind) e = tt

stored_grows : (m : DataModel) (a : Option Address) (ty : CellType) (c : Content) → Grows (stored false m ty a c untouched)
stored_grows m a ty c = record { grown = λ at. by at (is_content_of m ty c) }
  where
    by : (at : At) (b : Bool) → Grown (standing at.memory) ((if b then (changed (λ memory. store m memory a ty c) >>= (λ _. gives untouched)) else absurdity) at)
    by at true = (then_grows (changed (λ memory. store m memory a ty c)) (λ _. gives untouched) (store_grows m a ty c) (λ _. gives_grows untouched)).grown at
    by at false = tt

put_grows : (m : DataModel) (block offset : ℕ) (found : Option CellType) (c : Content) → Grows (put_if_there m block offset found c)
put_grows m block offset None c = gives_grows tt
put_grows m block offset (Some ty) c =
    let a : Option Address = Some (record { block = block; offset = offset }) in
    then_grows (stored false m ty a c untouched) (λ _. gives tt) (stored_grows m a ty c) (λ _. gives_grows tt)

pub put_in_grows : (m : DataModel) (found : Option Root) (offset : ℕ) (c : Content) → Grows (put_in m found offset c)
put_in_grows m None offset c = gives_grows tt
put_in_grows m (Some root) offset c = put_grows m root.block offset (type_at offset root.cells) c
