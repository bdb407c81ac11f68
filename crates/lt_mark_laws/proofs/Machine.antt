-- The steps of a machine see no marks.
use Rattle.std.proofs.Common.{◌≡◌, ℕ, ℤ, suc, zero, List, [], ◌∷◌, Option, Some, None, Bool, true, false, refl}
use Rattle.std.specs.Prelude.{◌+◌, ◌&&◌, if◌then◌else◌, Result, Ok, Err, length, nat_lt}
use Rattle.lt_model.specs.declared.cell.Address.{Address}
use Rattle.lt_model.specs.declared.cell.CellType.{CellType}
use Rattle.lt_model.specs.declared.cell.Content.{Content}
use Rattle.lt_model.specs.declared.cell.Content.TheVariants as content
use Rattle.lt_model.specs.declared.cell.Shape.{Shape}
use Rattle.lt_model.specs.declared.cell.ShapeCell.{ShapeCell}
use Rattle.lt_model.specs.declared.scalar.DataModel.{DataModel}
use Rattle.lt_model.specs.declared.scalar.Scalar.{Scalar}
use Rattle.lt_model.specs.declared.operator.Op.{Op}
use Rattle.lt_model.specs.declared.operator.Ub.{Ub}
use Rattle.lt_model.specs.declared.operator.Ub.TheVariants as U
use Rattle.lt_model.specs.declared.run.End.TheVariants.{Stopped, Undefined, Deep, Cells}
use Rattle.lt_model.specs.Operators.{is_value}
use Rattle.lt_model.specs.Memory.{Memory, store, copy_struct, create_shaped}
use Rattle.lt_model.specs.State.{Made, Left, Footprint, Valued, clash, joined, meets, untouched, Gives, Ends}
use Rattle.lt_ir.specs.declared.variable.Variable.{Variable}
use Rattle.lt_ir.specs.declared.variable.Variable.TheVariants.{Parameter}
use Rattle.lt_ir.specs.Running.{At, Answer, Step, ◌>>=◌, gives, defined, absurdity, asked, changed, tick, spent, one_deeper, most_calls, living_block, with_block, place, created, bound_to, begins, is_begun, ends, seals, stub_value, next_value, took, with_scope, begin_parameters, end_parameters}
use Rattle.lt_ir.specs.Evaluation.{number_in, address_in, used, truth_in, apart, aimed, cells_met, with_reads, loaded, written, is_content_of, stored, copied, is_integer, is_right_operand, moved, member_at, applied, counted, compared, one_cell, grown, writes, store_one, store_parameters}
use Rattle.lt_mark_laws.specs.Laws.{without_new}
use Rattle.lt_mark_laws.proofs.Alike.{remarked, Alike, Same, then_same, gives_same, over_same, defined_same, if_same}

module _ (new : ℕ → Bool) where
  abbrev S : {A : Type 0} → Step A → Step A → Type 0
  S s r = Same new s r

  -- where what is needed is there
  fitting_same : {A : Type 0} (b : Bool) (s : Step A) → S s s → S (if b then s else absurdity) (if b then s else absurdity)
  fitting_same {A} b s h = if_same new b s absurdity s absurdity h (over_same new A Stopped)

  -- ---- what is asked of memory, and what changes it

  asked_same : {A : Type 0} (question : Memory → Result A Ub) → S (asked question) (asked question)
  asked_same question = record { alike = λ at ms e. (defined_same new (question at.memory)).alike at ms e }

  changed_by : (r : Result Memory Ub) (at : At) (ms : List Made) → without_new new at.marks ≡ without_new new ms → Alike new (elim (r) as (λ _. Answer (Unit {0})) [ Ok memory ↦ Gives tt (record at { memory = memory }) | Err kind ↦ Ends (Undefined kind) at ]) (elim (r) as (λ _. Answer (Unit {0})) [ Ok memory ↦ Gives tt (record (remarked ms at) { memory = memory }) | Err kind ↦ Ends (Undefined kind) (remarked ms at) ])
  changed_by (Ok memory) at ms e = (refl, (refl, e))
  changed_by (Err kind) at ms e = (refl, (refl, e))

  changed_same : (change : Memory → Result Memory Ub) → S (changed change) (changed change)
  changed_same change = record { alike = λ at ms e. changed_by (change at.memory) at ms e }

  -- ---- values

  pub number_same : (c : Content) → S (number_in c) (number_in c)
  number_same content.Unset = over_same new _ (Undefined U.NoValue)
  number_same (content.Number z) = gives_same new z
  number_same (content.Address a) = over_same new _ Stopped

  pub address_same : (c : Content) → S (address_in c) (address_in c)
  address_same content.Unset = over_same new _ (Undefined U.NoValue)
  address_same (content.Number z) = over_same new _ Stopped
  address_same (content.Address a) = gives_same new a

  pub used_same : (c : Content) → S (used c) (used c)
  used_same content.Unset = over_same new _ (Undefined U.NoValue)
  used_same (content.Number z) = gives_same new (content.Number z)
  used_same (content.Address a) = gives_same new (content.Address a)

  pub truth_same : (c : Content) → S (truth_in c) (truth_in c)
  truth_same content.Unset = over_same new _ (Undefined U.NoValue)
  truth_same (content.Number z) = gives_same new _
  truth_same (content.Address a) = then_same new _ _ _ _ (asked_same _) (λ _. gives_same new _)

  pub apart_same : (tracks : Bool) (p q : Footprint) → S (apart tracks p q) (apart tracks p q)
  apart_same true p q = if_same new (clash p q) (defined (Err U.Unsequenced)) (gives (joined p q)) (defined (Err U.Unsequenced)) (gives (joined p q)) (defined_same new (Err U.Unsequenced)) (gives_same new (joined p q))
  apart_same false p q = gives_same new p

  pub aimed_same : (tracks : Bool) (cells : List ShapeCell) (a : Option Address) (p : Footprint) → S (aimed tracks cells a p) (aimed tracks cells a p)
  aimed_same true cells a p = record { alike = λ at ms e. (if_same new (meets (cells_met cells a at.memory) p.pending) (defined (Err U.Unsequenced)) (gives p) (defined (Err U.Unsequenced)) (gives p) (defined_same new (Err U.Unsequenced)) (gives_same new p)).alike at ms e }
  aimed_same false cells a p = gives_same new p

  pub reads_same : (tracks : Bool) (cells : List ShapeCell) (x : Valued Content) → S (with_reads tracks cells x) (with_reads tracks cells x)
  reads_same tracks cells x = record { alike = λ at ms e. (refl, (refl, e)) }

  pub loaded_same : (tracks : Bool) (m : DataModel) (ty : CellType) (x : Valued (Option Address)) → S (loaded tracks m ty x) (loaded tracks m ty x)
  loaded_same tracks m ty x = then_same new _ _ _ _ (asked_same _) (λ c. gives_same new _)

  written_same : (tracks : Bool) (change : Memory → Result Memory Ub) (cells : List ShapeCell) (a : Option Address) (p : Footprint) → S (written tracks change cells a p) (written tracks change cells a p)
  written_same tracks change cells a p = record { alike = λ at ms e. (then_same new (changed change) (changed change) _ _ (changed_same change) (λ _. gives_same new (grown tracks p (writes (cells_met cells a at.memory))))).alike at ms e }

  pub stored_same : (tracks : Bool) (m : DataModel) (ty : CellType) (a : Option Address) (c : Content) (p : Footprint) → S (stored tracks m ty a c p) (stored tracks m ty a c p)
  stored_same tracks m ty a c p = fitting_same (is_content_of m ty c) _ (written_same tracks (λ memory. store m memory a ty c) (one_cell ty) a p)

  pub copied_same : (tracks : Bool) (m : DataModel) (shape : Shape) (a from : Option Address) (p : Footprint) → S (copied tracks m shape a from p) (copied tracks m shape a from p)
  copied_same tracks m shape a from p = record { alike = λ at ms e. (written_same tracks (λ memory. copy_struct m memory a from shape) shape.cells a p).alike at ms e }

  pub moved_same : (op : Op) (size : ℕ) (c d : Content) → S (moved op size c d) (moved op size c d)
  moved_same op size c d = then_same new _ _ _ _ (address_same c) (λ p. then_same new _ _ _ _ (number_same d) (λ n. fitting_same (is_integer n) _ (asked_same _)))

  pub member_same : (offset : ℕ) (a : Option Address) → S (member_at offset a) (member_at offset a)
  member_same offset a = asked_same _

  pub applied_same : (m : DataModel) (op : Op) (s : Scalar) (c d : Content) → S (applied m op s c d) (applied m op s c d)
  applied_same m op s c d = then_same new _ _ _ _ (number_same c) (λ a. then_same new _ _ _ _ (number_same d) (λ b. fitting_same (is_value m s a && is_right_operand m op s b) _ (defined_same new _)))

  pub counted_same : (size : ℕ) (c d : Content) → S (counted size c d) (counted size c d)
  counted_same size c d = then_same new _ _ _ _ (address_same c) (λ a. then_same new _ _ _ _ (address_same d) (λ b. asked_same _))

  pub compared_same : (op : Op) (c d : Content) → S (compared op c d) (compared op c d)
  compared_same op c d = then_same new _ _ _ _ (address_same c) (λ a. then_same new _ _ _ _ (address_same d) (λ b. asked_same _))

  -- ---- ticks and calls

  spent_by : (n : ℕ) (at : At) (ms : List Made) → without_new new at.marks ≡ without_new new ms → Alike new (spent n at) (spent n (remarked ms at))
  spent_by zero at ms e = (refl, (refl, e))
  spent_by (suc n) at ms e = (refl, (refl, e))

  pub tick_same : S tick tick
  tick_same = record { alike = λ at ms e. spent_by at.ticks at ms e }

  deeper_by : (b : Bool) (at : At) (ms : List Made) → without_new new at.marks ≡ without_new new ms → Alike new (if b then Gives (tt {0}) (record at { depth = at.depth + 1 }) else Ends Deep at) (if b then Gives (tt {0}) (record (remarked ms at) { depth = at.depth + 1 }) else Ends Deep (remarked ms at))
  deeper_by true at ms e = (refl, (refl, e))
  deeper_by false at ms e = (refl, (refl, e))

  pub deeper_same : S one_deeper one_deeper
  deeper_same = record { alike = λ at ms e. deeper_by (nat_lt at.depth most_calls) at ms e }

  -- ---- variables

  block_by : {A : Type 0} (f g : ℕ → Step A) → ((n : ℕ) → S (f n) (g n)) → (b : Option ℕ) (at : At) (ms : List Made) → without_new new at.marks ≡ without_new new ms → Alike new (elim (b) as (λ _. Answer A) [ None ↦ absurdity at | Some block ↦ f block at ]) (elim (b) as (λ _. Answer A) [ None ↦ absurdity (remarked ms at) | Some block ↦ g block (remarked ms at) ])
  block_by f g k None at ms e = (refl, (refl, e))
  block_by f g k (Some n) at ms e = (k n).alike at ms e

  block_same : {A : Type 0} (v : Variable) (f g : ℕ → Step A) → ((n : ℕ) → S (f n) (g n)) → S (with_block v f) (with_block v g)
  block_same v f g k = record { alike = λ at ms e. block_by f g k (living_block v at) at ms e }

  pub place_same : (v : Variable) → S (place v) (place v)
  place_same v = block_same v _ _ (λ n. gives_same new _)

  created_by : (r : Option Memory) (n : ℕ) (at : At) (ms : List Made) → without_new new at.marks ≡ without_new new ms → Alike new (elim (r) as (λ _. Answer ℕ) [ None ↦ Ends Cells at | Some memory ↦ Gives n (record at { memory = memory }) ]) (elim (r) as (λ _. Answer ℕ) [ None ↦ Ends Cells (remarked ms at) | Some memory ↦ Gives n (record (remarked ms at) { memory = memory }) ])
  created_by None n at ms e = (refl, (refl, e))
  created_by (Some memory) n at ms e = (refl, (refl, e))

  pub created_same : (shape : Shape) (zeroed : Bool) → S (created shape zeroed) (created shape zeroed)
  created_same shape zeroed = record { alike = λ at ms e. created_by (create_shaped at.memory shape zeroed true) (length at.memory) at ms e }

  pub bound_same : (v : Variable) (n : ℕ) → S (bound_to v n) (bound_to v n)
  bound_same v n = record { alike = λ at ms e. (refl, (refl, e)) }

  begins_by : (v : Variable) (shape : Shape) (zeroed b : Bool) (at : At) (ms : List Made) → without_new new at.marks ≡ without_new new ms → Alike new {A = Unit {0}} (if b then absurdity at else (created shape zeroed >>= bound_to v) at) (if b then absurdity (remarked ms at) else (created shape zeroed >>= bound_to v) (remarked ms at))
  begins_by v shape zeroed true at ms e = (refl, (refl, e))
  begins_by v shape zeroed false at ms e = (then_same new (created shape zeroed) (created shape zeroed) (bound_to v) (bound_to v) (created_same shape zeroed) (λ n. bound_same v n)).alike at ms e

  pub begins_same : (v : Variable) (shape : Shape) (zeroed : Bool) → S (begins v shape zeroed) (begins v shape zeroed)
  begins_same v shape zeroed = record { alike = λ at ms e. begins_by v shape zeroed (is_begun v at) at ms e }

  pub ends_same : (v : Variable) → S (ends v) (ends v)
  ends_same v = block_same v _ _ (λ n. record { alike = λ at ms e. (refl, (refl, e)) })

  pub seals_same : (v : Variable) → S (seals v) (seals v)
  seals_same v = block_same v _ _ (λ n. record { alike = λ at ms e. (refl, (refl, e)) })

  took_by : (name : List ℕ) (r : Option (ℤ × List Left)) (at : At) (ms : List Made) → without_new new at.marks ≡ without_new new ms → Alike new (took name at r) (took name (remarked ms at) r)
  took_by name None at ms e = (refl, (refl, e))
  took_by name (Some (z, lefts)) at ms e = (refl, (refl, e))

  pub stub_same : (name : List ℕ) → S (stub_value name) (stub_value name)
  stub_same name = record { alike = λ at ms e. took_by name (next_value name at.stubs) at ms e }

  -- ---- parameters

  pub scope_same : (scope : List _) → S (with_scope scope) (with_scope scope)
  scope_same scope = record { alike = λ at ms e. (refl, (refl, e)) }

  pub begin_parameters_same : (k : ℕ) (shapes : List Shape) → S (begin_parameters k shapes) (begin_parameters k shapes)
  begin_parameters_same k [] = gives_same new tt
  begin_parameters_same k (shape ∷ shapes) = then_same new _ _ _ _ (begins_same (Parameter k) shape false) (λ _. begin_parameters_same (suc k) shapes)

  pub end_parameters_same : (k : ℕ) (shapes : List Shape) → S (end_parameters k shapes) (end_parameters k shapes)
  end_parameters_same k [] = gives_same new tt
  end_parameters_same k (shape ∷ shapes) = then_same new _ _ _ _ (end_parameters_same (suc k) shapes) (λ _. ends_same (Parameter k))

  store_one_same : (m : DataModel) (k : ℕ) (cells : List ShapeCell) (c : Content) → S (store_one m k cells c) (store_one m k cells c)
  store_one_same m k [] c = over_same new _ Stopped
  store_one_same m k (cell ∷ cells) c = then_same new _ _ _ _ (used_same c) (λ it. then_same new _ _ _ _ (place_same (Parameter k)) (λ p. then_same new _ _ _ _ (stored_same false m cell.ty p it untouched) (λ _. gives_same new tt)))

  pub store_parameters_same : (m : DataModel) (k : ℕ) (shapes : List Shape) (cs : List Content) → S (store_parameters m k shapes cs) (store_parameters m k shapes cs)
  store_parameters_same m k [] cs = gives_same new tt
  store_parameters_same m k (shape ∷ shapes) [] = gives_same new tt
  store_parameters_same m k (shape ∷ shapes) (c ∷ cs) = then_same new _ _ _ _ (store_one_same m k shape.cells c) (λ _. store_parameters_same m (suc k) shapes cs)
