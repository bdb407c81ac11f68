-- What is done to memory and to variables is the same where types have other numbers.
use Rattle.std.proofs.Common.{◌≡◌, ℕ, ℤ, zero, suc, List, [], ◌∷◌, map, length, Option, Some, None, Bool, true, false, refl, sym, ap, subst}
use Rattle.std.proofs.lemmas.List.{length-map}
use Rattle.std.specs.Prelude.{◌+◌, ◌&&◌, nat_lt, pos, if◌then◌else◌, Result, Ok, Err}
use Rattle.std.specs.List.{AllByRecursion}
use Rattle.lt_model.specs.declared.cell.Address.{Address}
use Rattle.lt_model.specs.declared.cell.CellType.{CellType}
use Rattle.lt_model.specs.declared.cell.Content.{Content}
use Rattle.lt_model.specs.declared.cell.Content.TheVariants as content
use Rattle.lt_model.specs.declared.cell.Shape.{Shape}
use Rattle.lt_model.specs.declared.cell.ShapeCell.{ShapeCell}
use Rattle.lt_model.specs.declared.scalar.DataModel.{DataModel}
use Rattle.lt_model.specs.declared.scalar.Scalar.{Scalar}
use Rattle.lt_model.specs.declared.operator.Op.{Op}
use Rattle.lt_model.specs.declared.operator.Ub.{Ub}
use Rattle.lt_model.specs.declared.operator.Ub.TheVariants as U
use Rattle.lt_model.specs.declared.run.End.TheVariants.{Stopped, Undefined, Deep, Cells}
use Rattle.lt_model.specs.Operators.{is_value}
use Rattle.lt_model.specs.Memory.{Memory, load, store, copy_struct, create_shaped, then_result, not_null, move_by, checked_address, compare, subtract}
use Rattle.lt_model.specs.State.{Left, Footprint, Valued, clash, joined, meets, untouched, Gives, Ends}
use Rattle.lt_ir.specs.declared.variable.Variable.{Variable}
use Rattle.lt_ir.specs.declared.variable.Variable.TheVariants.{Parameter}
use Rattle.lt_ir.specs.Running.{Bound, At, Answer, Step, ◌>>=◌, ◌>>◌, gives, defined, absurdity, asked, changed, tick, spent, one_deeper, most_calls, block_among, if_living, living_block, with_block, place, created, bound_to, begins, is_begun, ends, seals, stub_value, next_value, took, with_scope, begin_parameters, end_parameters}
use Rattle.lt_ir.specs.Evaluation.{valued, number_in, address_in, used, truth_in, apart, aimed, cell_at, cells_met, lies_at, with_reads, reads, writes, grown, loaded, written, is_content_of, stored, copied, is_integer, is_right_operand, signed_count, moved, member_at, applied, counted, compared, one_cell, store_one, store_parameters}
use Rattle.lt_type_laws.specs.Renumbered.{memory_with, shape_cell_with, shape_with}
use Rattle.lt_type_laws.proofs.Cells.{ShapeOf, store_of, copy_of, created_of, ended_of, sealed_of}
use Rattle.lt_type_laws.proofs.Memory as mem
use Rattle.lt_type_laws.proofs.Memory.{Comparison, Fits, result_with, option_with, MeetAlike, CellsMeetAlike, no_cells, a_cell, ShapeMeets, ShapeFits, content_alike, shape_meets, met_with}
use Rattle.lt_type_laws.proofs.Alike.{other, Alike, both_give, both_end, Same, then_same, gives_same, over_same, defined_same, if_same}

module _ (seen : Comparison) where
  abbrev S : {A : Type 0} → Step A → Step A → Type 0
  S s t = Same seen s t

  abbrev there : Memory → Memory
  there memory = memory_with seen.numbers memory

  -- where what is needed is there
  fitting_same : {A : Type 0} (b : Bool) (s t : Step A) → S s t → S (if b then s else absurdity) (if b then t else absurdity)
  fitting_same b s t h = if_same seen b s absurdity t absurdity h (over_same seen _ Stopped)

  -- ---- what is asked of memory, and what changes it

  pub asked_same : {A : Type 0} (question asks : Memory → Result A Ub) → ((memory : Memory) → Fits seen memory → asks (memory_with seen.numbers memory) ≡ question memory) → S (asked question) (asked asks)
  asked_same question asks e = record {
    alike = λ at fits.
        subst (λ x. Alike seen (defined (question at.memory) at) (defined x (other seen at))) (sym (e at.memory fits)) ((defined_same seen (question at.memory)).alike at fits);
  }

  pub changed_by : (x : Result Memory Ub) (at : At) → ((after : Memory) → x ≡ Ok after → Fits seen after)
      → Alike seen {A = Unit {0}} (elim (x) as (λ _. Answer (Unit {0})) [ Ok memory ↦ Gives tt (record at { memory = memory }) | Err kind ↦ Ends (Undefined kind) at ])
      (elim (result_with there x) as (λ _. Answer (Unit {0})) [ Ok memory ↦ Gives tt (record (other seen at) { memory = memory }) | Err kind ↦ Ends (Undefined kind) (other seen at) ])
  changed_by (Ok memory) at h = both_give (h memory refl)
  changed_by (Err kind) at h = both_end

  -- a change that does the same, and brings no cells of other types
  pub record Changes (change changes : Memory → Result Memory Ub) : Type 0 where
    pub same : (memory : Memory) → Fits seen memory → changes (memory_with seen.numbers memory) ≡ result_with (memory_with seen.numbers) (change memory)
    pub fits : (memory after : Memory) → Fits seen memory → change memory ≡ Ok after → Fits seen after

  pub changed_same : (change changes : Memory → Result Memory Ub) → Changes change changes → S (changed change) (changed changes)
  changed_same change changes h = record {
    alike = λ at fits.
        subst (λ (x : Result Memory Ub). Alike seen {A = Unit {0}} (changed change at) (elim (x) as (λ _. Answer (Unit {0})) [ Ok memory ↦ Gives tt (record (other seen at) { memory = memory }) | Err kind ↦ Ends (Undefined kind) (other seen at) ]))
        (sym (h.same at.memory fits)) (changed_by (change at.memory) at (λ after e. h.fits at.memory after fits e));
  }

  -- ---- values

  pub number_same : (c : Content) → S (number_in c) (number_in c)
  number_same content.Unset = over_same seen _ (Undefined U.NoValue)
  number_same (content.Number z) = gives_same seen z
  number_same (content.Address a) = over_same seen _ Stopped

  pub address_same : (c : Content) → S (address_in c) (address_in c)
  address_same content.Unset = over_same seen _ (Undefined U.NoValue)
  address_same (content.Number z) = over_same seen _ Stopped
  address_same (content.Address a) = gives_same seen a

  pub used_same : (c : Content) → S (used c) (used c)
  used_same content.Unset = over_same seen _ (Undefined U.NoValue)
  used_same (content.Number z) = gives_same seen (content.Number z)
  used_same (content.Address a) = gives_same seen (content.Address a)

  pub truth_same : (c : Content) → S (truth_in c) (truth_in c)
  truth_same content.Unset = over_same seen _ (Undefined U.NoValue)
  truth_same (content.Number z) = gives_same seen _
  truth_same (content.Address a) = then_same seen _ _ _ _ (asked_same (λ memory. checked_address memory a) (λ memory. checked_address memory a) (λ memory h. mem.checked_with seen memory a)) (λ _. gives_same seen _)

  -- ---- footprints

  pub apart_same : (tracks : Bool) (p q : Footprint) → S (apart tracks p q) (apart tracks p q)
  apart_same true p q = if_same seen (clash p q) (defined (Err U.Unsequenced)) (gives (joined p q)) (defined (Err U.Unsequenced)) (gives (joined p q)) (defined_same seen (Err U.Unsequenced)) (gives_same seen (joined p q))
  apart_same false p q = gives_same seen p

  aimed_by : (b : Bool) (p : Footprint) → S (if b then defined (Err U.Unsequenced) else gives p) (if b then defined (Err U.Unsequenced) else gives p)
  aimed_by b p = if_same seen b (defined (Err U.Unsequenced)) (gives p) (defined (Err U.Unsequenced)) (gives p) (defined_same seen (Err U.Unsequenced)) (gives_same seen p)

  pub aimed_same : (tracks : Bool) {cells others : List ShapeCell} (a : Option Address) (p : Footprint) → CellsMeetAlike seen cells others → S (aimed tracks cells a p) (aimed tracks others a p)
  aimed_same true {cells} {others} a p d = record {
    alike = λ at fits.
        subst (λ met. Alike seen (aimed true cells a p at) ((if meets met p.pending then defined (Err U.Unsequenced) else gives p) (other seen at))) (sym (met_with seen at.memory a d fits))
        ((aimed_by (meets (cells_met cells a at.memory) p.pending) p).alike at fits);
  }
  aimed_same false a p d = gives_same seen p

  pub reads_same : (tracks : Bool) {cells others : List ShapeCell} (x : Valued Content) → CellsMeetAlike seen cells others → S (with_reads tracks cells x) (with_reads tracks others x)
  reads_same tracks {cells} {others} x d = record {
    alike = λ at fits.
        subst (λ met. Alike seen (with_reads tracks cells x at) (Gives (grown tracks x.footprint (reads met)) (other seen at))) (sym (met_with seen at.memory (lies_at x.value) d fits)) (both_give fits);
  }

  pub loaded_same : (tracks : Bool) (m : DataModel) {ty twin : CellType} (x : Valued (Option Address)) → MeetAlike seen ty twin → S (loaded tracks m ty x) (loaded tracks m twin x)
  loaded_same tracks m {ty} {twin} x d =
      then_same seen _ _ _ _ (asked_same (λ memory. load m memory x.value ty) (λ memory. load m memory x.value twin) (λ memory h. mem.load_with seen m memory x.value d h))
      (λ c. gives_same seen (valued c (grown tracks x.footprint (reads (cell_at x.value 0)))))

  pub written_same : (tracks : Bool) (change changes : Memory → Result Memory Ub) {cells others : List ShapeCell} (a : Option Address) (p : Footprint) → Changes change changes → CellsMeetAlike seen cells others
      → S (written tracks change cells a p) (written tracks changes others a p)
  written_same tracks change changes {cells} {others} a p h d = record {
    alike = λ at fits.
        subst (λ met. Alike seen (written tracks change cells a p at) ((changed changes >> gives (grown tracks p (writes met))) (other seen at))) (sym (met_with seen at.memory a d fits))
        ((then_same seen (changed change) (changed changes) _ _ (changed_same change changes h) (λ _. gives_same seen (grown tracks p (writes (cells_met cells a at.memory))))).alike at fits);
  }

  pub one_cell_alike : {ty twin : CellType} → MeetAlike seen ty twin → CellsMeetAlike seen (one_cell ty) (one_cell twin)
  one_cell_alike d = a_cell d no_cells

  pub stored_same : (tracks : Bool) (m : DataModel) {ty twin : CellType} (a : Option Address) (c : Content) (p : Footprint) → MeetAlike seen ty twin → S (stored tracks m ty a c p) (stored tracks m twin a c p)
  stored_same tracks m {ty} {twin} a c p d =
      subst (λ b. S (stored tracks m ty a c p) (if b then written tracks (λ memory. store m memory a twin c) (one_cell twin) a p else absurdity)) (sym (content_alike seen m c d))
      (fitting_same (is_content_of m ty c) _ _
      (written_same tracks (λ memory. store m memory a ty c) (λ memory. store m memory a twin c) a p
      (record { same = λ memory h. mem.store_with seen m memory a c d h; fits = λ memory after h e. store_of seen.held m a ty c memory after h e }) (one_cell_alike d)))

  pub copied_same : (tracks : Bool) (m : DataModel) (shape : Shape) (a from : Option Address) (p : Footprint) → ShapeMeets seen shape.cells → S (copied tracks m shape a from p) (copied tracks m (shape_with seen.numbers shape) a from p)
  copied_same tracks m shape a from p g = record {
    alike = λ at fits.
        (written_same tracks (λ memory. copy_struct m memory a from shape) (λ memory. copy_struct m memory a from (shape_with seen.numbers shape)) a p
        (record { same = λ memory h. mem.copy_with seen m memory a from shape g h; fits = λ memory after h e. copy_of seen.held m a from shape memory after h e }) (shape_meets seen shape.cells g)).alike at fits;
  }

  -- ---- operators

  pub moved_same : (op : Op) (size : ℕ) (c d : Content) → S (moved op size c d) (moved op size c d)
  moved_same op size c d =
      then_same seen _ _ _ _ (address_same c) (λ p. then_same seen _ _ _ _ (number_same d) (λ n. fitting_same (is_integer n) _ _
      (asked_same (λ memory. move_by memory p (signed_count op n) size) (λ memory. move_by memory p (signed_count op n) size) (λ memory h. mem.move_with seen memory p (signed_count op n) size))))

  pub member_same : (offset : ℕ) (a : Option Address) → S (member_at offset a) (member_at offset a)
  member_same offset a =
      asked_same (λ memory. then_result (not_null a) (λ _. move_by memory a (pos 1) offset)) (λ memory. then_result (not_null a) (λ _. move_by memory a (pos 1) offset))
      (λ memory h. ap (λ x. then_result (not_null a) (λ _. x)) (mem.move_with seen memory a (pos 1) offset))

  pub applied_same : (m : DataModel) (op : Op) (s : Scalar) (c d : Content) → S (applied m op s c d) (applied m op s c d)
  applied_same m op s c d = then_same seen _ _ _ _ (number_same c) (λ a. then_same seen _ _ _ _ (number_same d) (λ b. fitting_same (is_value m s a && is_right_operand m op s b) _ _ (defined_same seen _)))

  pub counted_same : (size : ℕ) (c d : Content) → S (counted size c d) (counted size c d)
  counted_same size c d =
      then_same seen _ _ _ _ (address_same c) (λ a. then_same seen _ _ _ _ (address_same d) (λ b.
      asked_same (λ memory. subtract memory a b size) (λ memory. subtract memory a b size) (λ memory h. mem.subtract_with seen memory a b size)))

  pub compared_same : (op : Op) (c d : Content) → S (compared op c d) (compared op c d)
  compared_same op c d =
      then_same seen _ _ _ _ (address_same c) (λ a. then_same seen _ _ _ _ (address_same d) (λ b.
      asked_same (λ memory. compare memory op a b) (λ memory. compare memory op a b) (λ memory h. mem.compare_with seen memory op a b)))

  -- ---- ticks and calls

  spent_by : (k : ℕ) (at : At) → Fits seen at.memory → Alike seen (spent k at) (spent k (other seen at))
  spent_by zero at fits = both_end
  spent_by (suc k) at fits = both_give fits

  pub tick_same : S tick tick
  tick_same = record { alike = λ at fits. spent_by at.ticks at fits }

  deeper_by : (b : Bool) (at : At) → Fits seen at.memory
      → Alike seen (if b then Gives (tt {0}) (record at { depth = at.depth + 1 }) else Ends Deep at) (if b then Gives (tt {0}) (record (other seen at) { depth = at.depth + 1 }) else Ends Deep (other seen at))
  deeper_by true at fits = both_give fits
  deeper_by false at fits = both_end

  pub deeper_same : S one_deeper one_deeper
  deeper_same = record { alike = λ at fits. deeper_by (nat_lt at.depth most_calls) at fits }

  -- ---- variables

  living_by : (memory : Memory) (found : Option ℕ) → if_living (memory_with seen.numbers memory) found ≡ if_living memory found
  living_by memory None = refl
  living_by memory (Some block) = ap (λ b. if b then Some block else None) (mem.is_alive_with seen memory block)

  pub living_same : (v : Variable) (at : At) → living_block v (other seen at) ≡ living_block v at
  living_same v at = living_by at.memory (block_among at.scope v)

  block_by : {A : Type 0} (f g : ℕ → Step A) → ((k : ℕ) → S (f k) (g k)) → (found : Option ℕ) (at : At) → Fits seen at.memory
      → Alike seen (elim (found) as (λ _. Answer A) [ None ↦ absurdity at | Some block ↦ f block at ]) (elim (found) as (λ _. Answer A) [ None ↦ absurdity (other seen at) | Some block ↦ g block (other seen at) ])
  block_by f g h None at fits = both_end
  block_by f g h (Some k) at fits = (h k).alike at fits

  pub block_same : {A : Type 0} (v : Variable) (f g : ℕ → Step A) → ((k : ℕ) → S (f k) (g k)) → S (with_block v f) (with_block v g)
  block_same {A} v f g h = record {
    alike = λ at fits.
        subst (λ (found : Option ℕ). Alike seen (with_block v f at) (elim (found) as (λ _. Answer A) [ None ↦ absurdity (other seen at) | Some block ↦ g block (other seen at) ])) (sym (living_same v at))
        (block_by f g h (living_block v at) at fits);
  }

  pub place_same : (v : Variable) → S (place v) (place v)
  place_same v = block_same v _ _ (λ k. gives_same seen _)

  created_by : (x : Option Memory) (k : ℕ) (at : At) → ((after : Memory) → x ≡ Some after → Fits seen after)
      → Alike seen (elim (x) as (λ _. Answer ℕ) [ None ↦ Ends Cells at | Some memory ↦ Gives k (record at { memory = memory }) ])
      (elim (option_with there x) as (λ _. Answer ℕ) [ None ↦ Ends Cells (other seen at) | Some memory ↦ Gives k (record (other seen at) { memory = memory }) ])
  created_by None k at h = both_end
  created_by (Some memory) k at h = both_give (h memory refl)

  pub created_same : (shape : Shape) (zeroed : Bool) → ShapeOf seen.held shape.cells → S (created shape zeroed) (created (shape_with seen.numbers shape) zeroed)
  created_same shape zeroed g = record {
    alike = λ at fits.
        subst (λ k. Alike seen (created shape zeroed at) (elim (create_shaped (there at.memory) (shape_with seen.numbers shape) zeroed true) as (λ _. Answer ℕ) [ None ↦ Ends Cells (other seen at) | Some memory ↦ Gives k (record (other seen at) { memory = memory }) ]))
        (sym (length-map at.memory _))
        (subst (λ (x : Option Memory). Alike seen (created shape zeroed at) (elim (x) as (λ _. Answer ℕ) [ None ↦ Ends Cells (other seen at) | Some memory ↦ Gives (length at.memory) (record (other seen at) { memory = memory }) ]))
        (sym (mem.created_with seen at.memory shape zeroed true))
        (created_by (create_shaped at.memory shape zeroed true) (length at.memory) at (λ after e. created_of seen.held shape zeroed true at.memory after g fits e)));
  }

  pub bound_same : (v : Variable) (k : ℕ) → S (bound_to v k) (bound_to v k)
  bound_same v k = record { alike = λ at fits. both_give fits }

  begun_same : (v : Variable) (at : At) → is_begun v (other seen at) ≡ is_begun v at
  begun_same v at = ap (λ (found : Option ℕ). elim (found) as (λ _. Bool) [ None ↦ false | Some block ↦ true ]) (living_same v at)

  begins_by : (v : Variable) (shape : Shape) (zeroed b : Bool) (at : At) → ShapeOf seen.held shape.cells → Fits seen at.memory
      → Alike seen {A = Unit {0}} (if b then absurdity at else (created shape zeroed >>= bound_to v) at) (if b then absurdity (other seen at) else (created (shape_with seen.numbers shape) zeroed >>= bound_to v) (other seen at))
  begins_by v shape zeroed true at g fits = both_end
  begins_by v shape zeroed false at g fits =
      (then_same seen (created shape zeroed) (created (shape_with seen.numbers shape) zeroed) (bound_to v) (bound_to v) (created_same shape zeroed g) (λ k. bound_same v k)).alike at fits

  pub begins_same : (v : Variable) (shape : Shape) (zeroed : Bool) → ShapeOf seen.held shape.cells → S (begins v shape zeroed) (begins v (shape_with seen.numbers shape) zeroed)
  begins_same v shape zeroed g = record {
    alike = λ at fits.
        subst (λ b. Alike seen {A = Unit {0}} (begins v shape zeroed at) (if b then absurdity (other seen at) else (created (shape_with seen.numbers shape) zeroed >>= bound_to v) (other seen at))) (sym (begun_same v at))
        (begins_by v shape zeroed (is_begun v at) at g fits);
  }

  -- the memory of a state is changed alike
  changed_alike : (at : At) (scope : List Bound) (after twin : Memory) → Fits seen after → twin ≡ memory_with seen.numbers after
      → Alike seen (Gives (tt {0}) (record at { scope = scope; memory = after })) (Gives (tt {0}) (record at { scope = scope; memory = twin }))
  changed_alike at scope after twin fits e = subst (λ them. Alike seen (Gives (tt {0}) (record at { scope = scope; memory = after })) (Gives (tt {0}) (record at { scope = scope; memory = them }))) (sym e) (both_give fits)

  pub ends_same : (v : Variable) → S (ends v) (ends v)
  ends_same v = block_same v _ _ (λ k. record { alike = λ at fits. changed_alike at _ _ _ (ended_of seen.held at.memory k fits) (mem.ended_with seen at.memory k) })

  pub seals_same : (v : Variable) → S (seals v) (seals v)
  seals_same v = block_same v _ _ (λ k. record { alike = λ at fits. changed_alike at _ _ _ (sealed_of seen.held at.memory k fits) (mem.sealed_with seen at.memory k) })

  took_by : (name : List ℕ) (x : Option (ℤ × List Left)) (at : At) → Fits seen at.memory → Alike seen (took name at x) (took name (other seen at) x)
  took_by name None at fits = both_end
  took_by name (Some (z, lefts)) at fits = both_give fits

  pub stub_same : (name : List ℕ) → S (stub_value name) (stub_value name)
  stub_same name = record { alike = λ at fits. took_by name (next_value name at.stubs) at fits }

  -- ---- parameters

  pub scope_same : (scope : List Bound) → S (with_scope scope) (with_scope scope)
  scope_same scope = record { alike = λ at fits. both_give fits }

  -- the cells of all of these shapes meet alike, and memory may have them
  abbrev pub ShapesFit : List Shape → Type 0
  ShapesFit shapes = AllByRecursion (λ (shape : Shape). ShapeFits seen shape.cells) shapes

  abbrev pub shapes_other : List Shape → List Shape
  shapes_other shapes = map (shape_with seen.numbers) shapes

  pub begin_parameters_same : (k : ℕ) (shapes : List Shape) → ShapesFit shapes → S (begin_parameters k shapes) (begin_parameters k (shapes_other shapes))
  begin_parameters_same k [] h = gives_same seen tt
  begin_parameters_same k (shape ∷ shapes) h = then_same seen _ _ _ _ (begins_same (Parameter k) shape false h.0.0) (λ _. begin_parameters_same (suc k) shapes h.1)

  pub end_parameters_same : (k : ℕ) (shapes : List Shape) → S (end_parameters k shapes) (end_parameters k (shapes_other shapes))
  end_parameters_same k [] = gives_same seen tt
  end_parameters_same k (shape ∷ shapes) = then_same seen _ _ _ _ (end_parameters_same (suc k) shapes) (λ _. ends_same (Parameter k))

  store_one_same : (m : DataModel) (k : ℕ) (cells : List ShapeCell) (c : Content) → ShapeMeets seen cells → S (store_one m k cells c) (store_one m k (map (shape_cell_with seen.numbers) cells) c)
  store_one_same m k [] c h = over_same seen _ Stopped
  store_one_same m k (cell ∷ cells) c h =
      then_same seen _ _ _ _ (used_same c) (λ it. then_same seen _ _ _ _ (place_same (Parameter k)) (λ p. then_same seen _ _ _ _ (stored_same false m p it untouched h.0) (λ _. gives_same seen tt)))

  pub store_parameters_same : (m : DataModel) (k : ℕ) (shapes : List Shape) (cs : List Content) → ShapesFit shapes → S (store_parameters m k shapes cs) (store_parameters m k (shapes_other shapes) cs)
  store_parameters_same m k [] cs h = gives_same seen tt
  store_parameters_same m k (shape ∷ shapes) [] h = gives_same seen tt
  store_parameters_same m k (shape ∷ shapes) (c ∷ cs) h = then_same seen _ _ _ _ (store_one_same m k shape.cells c h.0.1) (λ _. store_parameters_same m (suc k) shapes cs h.1)
