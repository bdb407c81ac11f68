-- The steps of a machine do the same beside further blocks.
use Rattle.std.proofs.Common.{◌≡◌, ℕ, ℤ, pos, suc, zero, List, [], ◌∷◌, map, Option, Some, None, Bool, true, false, refl, sym, ap, ◌∙◌, subst, arith, leb-true, le-leb, eqb-true}
use Rattle.std.proofs.Math.Nat.{le_refl}
use Rattle.std.proofs.lemmas.List.{map-append}
use Rattle.std.specs.Prelude.{◌++◌, ◌+◌, ◌&&◌, nat_eq, nat_le, nat_lt, if◌then◌else◌, Result, Ok, Err, length, slice_get}
use Rattle.lt_model.specs.declared.cell.Address.{Address}
use Rattle.lt_model.specs.declared.cell.CellType.{CellType}
use Rattle.lt_model.specs.declared.cell.CellType.TheVariants as celltype
use Rattle.lt_model.specs.declared.cell.Content.{Content}
use Rattle.lt_model.specs.declared.cell.Content.TheVariants as content
use Rattle.lt_model.specs.declared.cell.Shape.{Shape}
use Rattle.lt_model.specs.declared.cell.ShapeCell.{ShapeCell}
use Rattle.lt_model.specs.declared.scalar.DataModel.{DataModel}
use Rattle.lt_model.specs.declared.scalar.Scalar.{Scalar}
use Rattle.lt_model.specs.declared.operator.Op.{Op}
use Rattle.lt_model.specs.declared.operator.Ub.{Ub}
use Rattle.lt_model.specs.declared.operator.Ub.TheVariants as U
use Rattle.lt_model.specs.declared.run.End.TheVariants.{Stopped, Undefined, Deep, Cells}
use Rattle.lt_model.specs.Operators.{is_value, value_of}
use Rattle.lt_model.specs.Memory.{Memory, Block, load, store, copy_struct, create_shaped, create, new_block, cells_alive, most_cells, held_at, offset_of, object_at, then_result, not_null, move_by, compare, subtract, checked_address}
use Rattle.lt_model.specs.State.{CellName, Left, Footprint, Valued, clash, joined, meets, untouched, Gives, Ends}
use Rattle.lt_ir.specs.declared.variable.Variable.{Variable}
use Rattle.lt_ir.specs.declared.variable.Variable.TheVariants.{Parameter, Local, Static as StaticObject}
use Rattle.lt_ir.specs.Running.{Bound, At, Answer, Step, ◌>>=◌, gives, defined, absurdity, asked, changed, tick, spent, one_deeper, most_calls, same_variable, block_among, without, is_alive, if_living, living_block, with_block, place, created, bound_to, begins, is_begun, ends, seals, stub_value, next_value, took, is_static, statics_of, with_scope, begin_parameters, end_parameters}
use Rattle.lt_ir.specs.Evaluation.{valued, number_in, address_in, used, is_some_address, truth_in, apart, aimed, is_met, cell_at, further, cells_met, lies_at, with_reads, reads, loaded, written, is_content_of, stored, copied, is_integer, is_right_operand, signed_count, moved, member_at, applied, counted, compared, one_cell, grown, writes, store_one, store_parameters}
use Rattle.lt_object_laws.specs.Renamed.{renumbered}
use Rattle.lt_object_laws.specs.Beside.{block_with, HasFurtherBlocks}
use Rattle.lt_object_laws.proofs.Numbers.{tests_same, flag_at, no_further_one}
use Rattle.lt_object_laws.proofs.Memory as memory
use Rattle.lt_object_laws.proofs.Memory.{result_with, option_with, then_with, Changes}
use Rattle.lt_object_laws.proofs.Blocks.{AsMany, then_grows, gives_grows, over_grows, if_grows, asked_grows, changed_grows, stored_as_many, copied_as_many, tick_grows, deeper_grows, block_grows, one_longer, created_grows, begins_grows, ended_grows, sealed_grows, took_grows}
use Rattle.lt_object_laws.proofs.Alike.{Other, Comparison, names_in, as_it_is, block_in, pointer_in, content_in, contents_in, name_in, footprint_in, valued_in, variable_in, bound_in, IsFurtherBlock, AreThere, HasFurtherBounds, no_bounds, a_bound, a_further_bound, beside, Stands, Alike, all_give, all_end, no_room, Same, then_same, gives_same, gives_as, over_same, if_same, defined_same, meets_in, clash_in, joined_in, grown_in}

-- ---- variables in scope

module _ (o : Other) where
  same_in : (u v : Variable) → same_variable (variable_in o u) (variable_in o v) ≡ same_variable u v
  same_in (Parameter m) (Parameter n) = refl
  same_in (Local m) (Local n) = refl
  same_in (StaticObject m) (StaticObject n) = tests_same o.statics m n
  same_in (Parameter m) (Local n) = refl
  same_in (Parameter m) (StaticObject n) = refl
  same_in (Local m) (Parameter n) = refl
  same_in (Local m) (StaticObject n) = refl
  same_in (StaticObject m) (Parameter n) = refl
  same_in (StaticObject m) (Local n) = refl

  other_than : (k : ℕ) → ((n : ℕ) → nat_eq k (renumbered o.statics n) ≡ false) → (v : Variable) → same_variable (StaticObject k) (variable_in o v) ≡ false
  other_than k fresh (Parameter n) = refl
  other_than k fresh (Local n) = refl
  other_than k fresh (StaticObject n) = fresh n

  pub among_in : {scope other : List Bound} → HasFurtherBounds o scope other → (v : Variable) → block_among other (variable_in o v) ≡ option_with (names_in o) (block_among scope v)
  among_in no_bounds v = refl
  among_in (a_bound {scope} {other} bound d) v =
      ap (λ t. if t then Some (names_in o bound.block) else block_among other (variable_in o v)) (same_in bound.variable v) ∙ by (same_variable bound.variable v) (among_in d v)
    where
      by : (b : Bool) → block_among other (variable_in o v) ≡ option_with (names_in o) (block_among scope v)
          → (if b then Some (names_in o bound.block) else block_among other (variable_in o v)) ≡ option_with (names_in o) (if b then Some bound.block else block_among scope v)
      by true h = refl
      by false h = h
  among_in (a_further_bound {scope} {other} k block fresh d) v = ap (λ t. if t then Some block else block_among other (variable_in o v)) (other_than k fresh v) ∙ among_in d v

  pub without_in : {scope other : List Bound} → HasFurtherBounds o scope other → (v : Variable) → HasFurtherBounds o (without scope v) (without other (variable_in o v))
  without_in no_bounds v = no_bounds
  without_in (a_bound {scope} {other} bound d) v =
      subst (λ t. HasFurtherBounds o (without (bound ∷ scope) v) (if t then other else bound_in o bound ∷ without other (variable_in o v))) (sym (same_in bound.variable v))
      (by (same_variable bound.variable v) (without_in d v))
    where
      by : (b : Bool) → HasFurtherBounds o (without scope v) (without other (variable_in o v))
          → HasFurtherBounds o (if b then scope else bound ∷ without scope v) (if b then other else bound_in o bound ∷ without other (variable_in o v))
      by true h = d
      by false h = a_bound bound h
  without_in (a_further_bound {scope} {other} k block fresh d) v =
      subst (λ t. HasFurtherBounds o (without scope v) (if t then other else record { variable = StaticObject k; block = block } ∷ without other (variable_in o v))) (sym (other_than k fresh v))
      (a_further_bound k block fresh (without_in d v))

  static_in : (v : Variable) → is_static (variable_in o v) ≡ is_static v
  static_in (Parameter n) = refl
  static_in (Local n) = refl
  static_in (StaticObject n) = refl

  pub statics_in : {scope other : List Bound} → HasFurtherBounds o scope other → HasFurtherBounds o (statics_of scope) (statics_of other)
  statics_in no_bounds = no_bounds
  statics_in (a_bound {scope} {other} bound d) =
      subst (λ t. HasFurtherBounds o (statics_of (bound ∷ scope)) (if t then bound_in o bound ∷ statics_of other else statics_of other)) (sym (static_in bound.variable)) (by (is_static bound.variable) (statics_in d))
    where
      by : (b : Bool) → HasFurtherBounds o (statics_of scope) (statics_of other)
          → HasFurtherBounds o (if b then bound ∷ statics_of scope else statics_of scope) (if b then bound_in o bound ∷ statics_of other else statics_of other)
      by true h = a_bound bound h
      by false h = h
  statics_in (a_further_bound k block fresh d) = a_further_bound k block fresh (statics_in d)

  -- ---- further objects stay in scope

  further_other : (k : ℕ) → flag_at o.statics k ≡ true → (v : Variable) → same_variable (variable_in o v) (StaticObject k) ≡ false
  further_other k h (Parameter n) = refl
  further_other k h (Local n) = refl
  further_other k h (StaticObject n) = no_further_one o.statics k n h

  pub there_bound : (other : List Bound) (bound : Bound) → AreThere o other → AreThere o (bound_in o bound ∷ other)
  there_bound other bound there k h = subst (λ t. IsFurtherBlock o (if t then Some (names_in o bound.block) else block_among other (StaticObject k))) (sym (further_other k h bound.variable)) (there k h)

  without_other : (other : List Bound) (v : Variable) (k : ℕ) → flag_at o.statics k ≡ true → block_among (without other (variable_in o v)) (StaticObject k) ≡ block_among other (StaticObject k)
  without_other [] v k h = refl
  without_other (bound ∷ other) v k h = by (same_variable bound.variable (variable_in o v)) refl (without_other other v k h)
    where
      apart : (u w : Variable) (b c : Bool) → same_variable u w ≡ b → same_variable u (StaticObject k) ≡ c → b ≡ true → same_variable w (StaticObject k) ≡ false → c ≡ false
      apart u w b false p q e f = refl
      apart (Parameter m) w b true p q e f = absurd (false_true q)
        where
          false_true : false ≡ true → ⊥
          false_true e = cc
      apart (Local m) w b true p q e f = absurd (false_true q)
        where
          false_true : false ≡ true → ⊥
          false_true e = cc
      apart (StaticObject m) (Parameter n) b true p q e f = absurd (false_true (p ∙ e))
        where
          false_true : false ≡ true → ⊥
          false_true e = cc
      apart (StaticObject m) (Local n) b true p q e f = absurd (false_true (p ∙ e))
        where
          false_true : false ≡ true → ⊥
          false_true e = cc
      apart (StaticObject m) (StaticObject n) b true p q e f = sym q ∙ ap (λ x. nat_eq x k) (eqb-true m n (p ∙ e)) ∙ f

      by : (b : Bool) → same_variable bound.variable (variable_in o v) ≡ b → block_among (without other (variable_in o v)) (StaticObject k) ≡ block_among other (StaticObject k)
          → block_among (if b then other else bound ∷ without other (variable_in o v)) (StaticObject k) ≡ (if same_variable bound.variable (StaticObject k) then Some bound.block else block_among other (StaticObject k))
      by true e g = ap (λ t. if t then Some bound.block else block_among other (StaticObject k)) (sym (apart bound.variable (variable_in o v) true (same_variable bound.variable (StaticObject k)) e refl refl (further_other k h v)))
      by false e g = ap (λ found. if same_variable bound.variable (StaticObject k) then Some bound.block else found) g

  pub there_without : (other : List Bound) (v : Variable) → AreThere o other → AreThere o (without other (variable_in o v))
  there_without other v there k h = subst (IsFurtherBlock o) (sym (without_other other v k h)) (there k h)

  statics_other : (other : List Bound) (k : ℕ) → block_among (statics_of other) (StaticObject k) ≡ block_among other (StaticObject k)
  statics_other [] k = refl
  statics_other (bound ∷ other) k = by bound.variable (statics_other other k)
    where
      by : (v : Variable) → block_among (statics_of other) (StaticObject k) ≡ block_among other (StaticObject k)
          → block_among (if is_static v then record { variable = v; block = bound.block } ∷ statics_of other else statics_of other) (StaticObject k) ≡ (if same_variable v (StaticObject k) then Some bound.block else block_among other (StaticObject k))
      by (Parameter n) g = g
      by (Local n) g = g
      by (StaticObject n) g = ap (λ found. if nat_eq n k then Some bound.block else found) g

  pub there_statics : (other : List Bound) → AreThere o other → AreThere o (statics_of other)
  there_statics other there k h = subst (IsFurtherBlock o) (sym (statics_other other k)) (there k h)

  alive_in : {cells : ℕ} {before after : Memory} → HasFurtherBlocks (names_in o) o.blocks [] cells before after → (n : ℕ) → is_alive after (names_in o n) ≡ is_alive before n
  alive_in {before = before} d n = ap (λ (found : Option Block). elim (found) as (λ _. Bool) [ None ↦ false | Some it ↦ it.alive ]) (memory.got_with (names_in o) d n) ∙ by (slice_get before n)
    where
      by : (found : Option Block) → elim (option_with (block_with (names_in o)) found) as (λ _. Bool) [ None ↦ false | Some it ↦ it.alive ] ≡ elim (found) as (λ _. Bool) [ None ↦ false | Some it ↦ it.alive ]
      by None = refl
      by (Some block) = refl

  living_by : {cells : ℕ} {before after : Memory} → HasFurtherBlocks (names_in o) o.blocks [] cells before after → (found : Option ℕ) → if_living after (option_with (names_in o) found) ≡ option_with (names_in o) (if_living before found)
  living_by d None = refl
  living_by {before = before} d (Some n) = ap (λ b. if b then Some (names_in o n) else None) (alive_in d n) ∙ by (is_alive before n)
    where
      by : (b : Bool) → (if b then Some (names_in o n) else None) ≡ option_with (names_in o) (if b then Some n else None)
      by true = refl
      by false = refl

  pub living_in : {cells : ℕ} (at : At) (scope : List Bound) (after : Memory) → Stands o cells at scope after → (v : Variable) → living_block (variable_in o v) (beside at scope after) ≡ option_with (names_in o) (living_block v at)
  living_in at scope after h v = ap (if_living after) (among_in h.bounds v) ∙ living_by h.blocks (block_among at.scope v)

  -- ---- cells that accesses meet

  result_there : {A B : Type 0} (f : A → B) (x : Result A Ub) → elim (result_with f x) as (λ _. Bool) [ Ok a ↦ true | Err kind ↦ false ] ≡ elim (x) as (λ _. Bool) [ Ok a ↦ true | Err kind ↦ false ]
  result_there f (Ok a) = refl
  result_there f (Err kind) = refl

  is_met_in : {cells : ℕ} {before after : Memory} → HasFurtherBlocks (names_in o) o.blocks [] cells before after → (a : Option Address) (ty : CellType) → is_met after (pointer_in o a) ty ≡ is_met before a ty
  is_met_in {before = before} {after} d a ty =
      ap (λ (x : Result Content Ub). elim (x) as (λ _. Bool) [ Ok held ↦ true | Err kind ↦ false ])
      (then_with (object_at before a) (object_at after (pointer_in o a)) (λ block. held_at block.cells (offset_of a) ty) (λ block. held_at block.cells (offset_of (pointer_in o a)) ty) (block_with (names_in o)) (content_in o) (memory.object_with (names_in o) d a)
      (λ block. ap (λ n. held_at (block_with (names_in o) block).cells n ty) (memory.offset_with (names_in o) a) ∙ memory.held_with (names_in o) block.cells (offset_of a) ty))
      ∙ result_there (content_in o) (then_result (object_at before a) (λ block. held_at block.cells (offset_of a) ty))

  further_in : (n : ℕ) (a : Option Address) → further n (pointer_in o a) ≡ pointer_in o (further n a)
  further_in n None = refl
  further_in n (Some a) = refl

  cell_in : (a : Option Address) (n : ℕ) → cell_at (pointer_in o a) n ≡ map (name_in o) (cell_at a n)
  cell_in None n = refl
  cell_in (Some a) n = refl

  pub met_in : {cells : ℕ} {before after : Memory} → HasFurtherBlocks (names_in o) o.blocks [] cells before after → (shape : List ShapeCell) (a : Option Address) → cells_met shape (pointer_in o a) after ≡ map (name_in o) (cells_met shape a before)
  met_in d [] a = refl
  met_in {before = before} {after} d (c ∷ cs) a =
      ap (λ b. if b then cell_at (pointer_in o a) c.offset ++ cells_met cs (pointer_in o a) after else cells_met cs (pointer_in o a) after) (ap (λ p. is_met after p c.ty) (further_in c.offset a) ∙ is_met_in d (further c.offset a) c.ty)
      ∙ by (is_met before (further c.offset a) c.ty) (met_in d cs a)
    where
      by : (b : Bool) → cells_met cs (pointer_in o a) after ≡ map (name_in o) (cells_met cs a before)
          → (if b then cell_at (pointer_in o a) c.offset ++ cells_met cs (pointer_in o a) after else cells_met cs (pointer_in o a) after) ≡ map (name_in o) (if b then cell_at a c.offset ++ cells_met cs a before else cells_met cs a before)
      by true h = ap (λ them. them ++ cells_met cs (pointer_in o a) after) (cell_in a c.offset) ∙ ap (λ them. map (name_in o) (cell_at a c.offset) ++ them) h ∙ sym (map-append (name_in o) (cell_at a c.offset) (cells_met cs a before))
      by false h = h

  pub lies_in : (c : Content) → lies_at (content_in o c) ≡ pointer_in o (lies_at c)
  lies_in content.Unset = refl
  lies_in (content.Number z) = refl
  lies_in (content.Address a) = refl

  pub content_type_in : (m : DataModel) (ty : CellType) (c : Content) → is_content_of m ty (content_in o c) ≡ is_content_of m ty c
  content_type_in m (celltype.Num s) content.Unset = refl
  content_type_in m (celltype.Num s) (content.Number z) = refl
  content_type_in m (celltype.Num s) (content.Address a) = refl
  content_type_in m (celltype.Pointer p) content.Unset = refl
  content_type_in m (celltype.Pointer p) (content.Number z) = refl
  content_type_in m (celltype.Pointer p) (content.Address a) = refl

  pub null_in : (a : Option Address) → not_null (pointer_in o a) ≡ not_null a
  null_in None = refl
  null_in (Some a) = refl

  pub some_in : (a : Option Address) → is_some_address (pointer_in o a) ≡ is_some_address a
  some_in None = refl
  some_in (Some a) = refl

-- a result that isn't renamed
as_it_was : {A : Type 0} (x : Result A Ub) → x ≡ result_with (λ a. a) x
as_it_was (Ok a) = refl
as_it_was (Err kind) = refl

-- room for more cells is room for fewer
pub room_without : (alive cells n most : ℕ) → nat_le ((alive + cells) + n) most ≡ true → nat_le (alive + n) most ≡ true
room_without alive cells n most h =
    let le = leb-true ((alive + cells) + n) most h in
    le-leb (alive + n) most (omega (arith, le))

pub no_more : (alive cells : ℕ) → cells ≡ 0 → alive + cells ≡ alive
no_more alive cells h = omega (arith, h)

module _ (seen : Comparison) where
  abbrev S : {A : Type 0} → (Other → A → A) → Step A → Step A → Step A → Type 0
  S with s r1 r2 = Same seen with s r1 r2

  -- the memory of an other, beside this one
  abbrev pub Further : Other → Memory → Memory → Type 0
  Further o before after = HasFurtherBlocks (names_in o) o.blocks [] seen.cells before after

  -- where what is needed is there
  fitting_same : {A : Type 0} (with : Other → A → A) (b : Bool) (s r1 r2 : Step A) → S with s r1 r2 → S with (if b then s else absurdity) (if b then r1 else absurdity) (if b then r2 else absurdity)
  fitting_same with b s r1 r2 h = if_same seen b s r1 r2 absurdity absurdity absurdity h (over_same seen with Stopped)

  -- ---- what is asked of memory, and what changes it

  pub asked_same : {A : Type 0} (with : Other → A → A) (question : Memory → Result A Ub) (asks : Other → Memory → Result A Ub)
      → ((o : Other) (before after : Memory) → Further o before after → asks o after ≡ result_with (with o) (question before))
      → S with (asked question) (asked (asks seen.one)) (asked (asks seen.two))
  asked_same with question asks e = record {
    alike = λ at s1 s2 m1 m2 h1 h2.
        (defined_same seen with (question at.memory) (asks seen.one m1) (asks seen.two m2) (e seen.one at.memory m1 h1.blocks) (e seen.two at.memory m2 h2.blocks)).alike at s1 s2 m1 m2 h1 h2;
    grows = asked_grows question;
  }

  changed_by : (x x1 x2 : Result Memory Ub) → Changes (names_in seen.one) seen.one.blocks [] seen.cells x x1 → Changes (names_in seen.two) seen.two.blocks [] seen.cells x x2
      → (at : At) (s1 s2 : List Bound) (m1 m2 : Memory) → Stands seen.one seen.cells at s1 m1 → Stands seen.two seen.cells at s2 m2
      → Alike seen {A = Unit {0}} as_it_is (elim (x) as (λ _. Answer (Unit {0})) [ Ok memory ↦ Gives tt (record at { memory = memory }) | Err kind ↦ Ends (Undefined kind) at ])
      (elim (x1) as (λ _. Answer (Unit {0})) [ Ok memory ↦ Gives tt (record (beside at s1 m1) { memory = memory }) | Err kind ↦ Ends (Undefined kind) (beside at s1 m1) ])
      (elim (x2) as (λ _. Answer (Unit {0})) [ Ok memory ↦ Gives tt (record (beside at s2 m2) { memory = memory }) | Err kind ↦ Ends (Undefined kind) (beside at s2 m2) ])
  changed_by (Ok m) (Ok n1) (Ok n2) d1 d2 at s1 s2 m1 m2 h1 h2 = all_give (record { bounds = h1.bounds; there = h1.there; blocks = d1 }) (record { bounds = h2.bounds; there = h2.there; blocks = d2 })
  changed_by (Err x) (Err y) (Err z) d1 d2 at s1 s2 m1 m2 h1 h2 =
      subst (λ y. Alike seen {A = Unit {0}} as_it_is (Ends (Undefined x) at) (Ends (Undefined y) (beside at s1 m1)) (Ends (Undefined z) (beside at s2 m2))) d1
      (subst (λ z. Alike seen {A = Unit {0}} as_it_is (Ends (Undefined x) at) (Ends (Undefined x) (beside at s1 m1)) (Ends (Undefined z) (beside at s2 m2))) d2 (all_end h1 h2))
  changed_by (Ok m) (Ok n1) (Err z) d1 d2 at s1 s2 m1 m2 h1 h2 = absurd d2
  changed_by (Ok m) (Err y) x2 d1 d2 at s1 s2 m1 m2 h1 h2 = absurd d1
  changed_by (Err x) (Ok n1) x2 d1 d2 at s1 s2 m1 m2 h1 h2 = absurd d1
  changed_by (Err x) (Err y) (Ok n2) d1 d2 at s1 s2 m1 m2 h1 h2 = absurd d2

  pub changed_same : (change : Memory → Result Memory Ub) (changes : Other → Memory → Result Memory Ub) → AsMany change
      → ((o : Other) (before after : Memory) → Further o before after → Changes (names_in o) o.blocks [] seen.cells (change before) (changes o after))
      → S as_it_is (changed change) (changed (changes seen.one)) (changed (changes seen.two))
  changed_same change changes many e = record {
    alike = λ at s1 s2 m1 m2 h1 h2. changed_by (change at.memory) (changes seen.one m1) (changes seen.two m2) (e seen.one at.memory m1 h1.blocks) (e seen.two at.memory m2 h2.blocks) at s1 s2 m1 m2 h1 h2;
    grows = changed_grows change many;
  }

  -- ---- values

  pub number_same : (c : Content) → S as_it_is (number_in c) (number_in (content_in seen.one c)) (number_in (content_in seen.two c))
  number_same content.Unset = over_same seen _ (Undefined U.NoValue)
  number_same (content.Number z) = gives_same seen as_it_is z
  number_same (content.Address a) = over_same seen _ Stopped

  pub address_same : (c : Content) → S pointer_in (address_in c) (address_in (content_in seen.one c)) (address_in (content_in seen.two c))
  address_same content.Unset = over_same seen _ (Undefined U.NoValue)
  address_same (content.Number z) = over_same seen _ Stopped
  address_same (content.Address a) = gives_same seen pointer_in a

  pub used_same : (c : Content) → S content_in (used c) (used (content_in seen.one c)) (used (content_in seen.two c))
  used_same content.Unset = over_same seen _ (Undefined U.NoValue)
  used_same (content.Number z) = gives_same seen content_in (content.Number z)
  used_same (content.Address a) = gives_same seen content_in (content.Address a)

  pub checked_same : (a : Option Address) → S as_it_is (asked (λ memory. checked_address memory a)) (asked (λ memory. checked_address memory (pointer_in seen.one a))) (asked (λ memory. checked_address memory (pointer_in seen.two a)))
  checked_same a = asked_same as_it_is (λ memory. checked_address memory a) (λ o memory. checked_address memory (pointer_in o a)) (λ o before after d. memory.checked_with o.blocks d a ∙ as_it_was (checked_address before a))

  pub truth_same : (c : Content) → S as_it_is (truth_in c) (truth_in (content_in seen.one c)) (truth_in (content_in seen.two c))
  truth_same content.Unset = over_same seen _ (Undefined U.NoValue)
  truth_same (content.Number z) = gives_same seen as_it_is _
  truth_same (content.Address a) =
      then_same seen _ _ _ _ _ _ (checked_same a) (λ _. gives_as seen as_it_is (is_some_address a) (is_some_address (pointer_in seen.one a)) (is_some_address (pointer_in seen.two a)) (some_in seen.one a) (some_in seen.two a))

  pub apart_same : (tracks : Bool) (p q : Footprint) → S footprint_in (apart tracks p q) (apart tracks (footprint_in seen.one p) (footprint_in seen.one q)) (apart tracks (footprint_in seen.two p) (footprint_in seen.two q))
  apart_same true p q =
      subst (λ b. S footprint_in (apart true p q) (if b then defined (Err U.Unsequenced) else gives (joined (footprint_in seen.one p) (footprint_in seen.one q))) (apart true (footprint_in seen.two p) (footprint_in seen.two q))) (sym (clash_in seen.one p q))
      (subst (λ b. S footprint_in (apart true p q) (if clash p q then defined (Err U.Unsequenced) else gives (joined (footprint_in seen.one p) (footprint_in seen.one q))) (if b then defined (Err U.Unsequenced) else gives (joined (footprint_in seen.two p) (footprint_in seen.two q)))) (sym (clash_in seen.two p q))
      (if_same seen (clash p q) _ _ _ _ _ _ (over_same seen footprint_in (Undefined U.Unsequenced)) (gives_as seen footprint_in (joined p q) _ _ (joined_in seen.one p q) (joined_in seen.two p q))))
  apart_same false p q = gives_same seen footprint_in p

  aimed_by : (cells c1 c2 : List CellName) (p : Footprint) → c1 ≡ map (name_in seen.one) cells → c2 ≡ map (name_in seen.two) cells
      → S footprint_in (if meets cells p.pending then defined (Err U.Unsequenced) else gives p)
      (if meets c1 (map (name_in seen.one) p.pending) then defined (Err U.Unsequenced) else gives (footprint_in seen.one p)) (if meets c2 (map (name_in seen.two) p.pending) then defined (Err U.Unsequenced) else gives (footprint_in seen.two p))
  aimed_by cells c1 c2 p e1 e2 =
      subst (λ b. S footprint_in (if meets cells p.pending then defined (Err U.Unsequenced) else gives p) (if b then defined (Err U.Unsequenced) else gives (footprint_in seen.one p)) (if meets c2 (map (name_in seen.two) p.pending) then defined (Err U.Unsequenced) else gives (footprint_in seen.two p)))
      (sym (ap (λ them. meets them (map (name_in seen.one) p.pending)) e1 ∙ meets_in seen.one cells p.pending))
      (subst (λ b. S footprint_in (if meets cells p.pending then defined (Err U.Unsequenced) else gives p) (if meets cells p.pending then defined (Err U.Unsequenced) else gives (footprint_in seen.one p)) (if b then defined (Err U.Unsequenced) else gives (footprint_in seen.two p)))
      (sym (ap (λ them. meets them (map (name_in seen.two) p.pending)) e2 ∙ meets_in seen.two cells p.pending))
      (if_same seen (meets cells p.pending) _ _ _ _ _ _ (over_same seen footprint_in (Undefined U.Unsequenced)) (gives_same seen footprint_in p)))

  pub aimed_same : (tracks : Bool) (cells : List ShapeCell) (a : Option Address) (p : Footprint) → S footprint_in (aimed tracks cells a p) (aimed tracks cells (pointer_in seen.one a) (footprint_in seen.one p)) (aimed tracks cells (pointer_in seen.two a) (footprint_in seen.two p))
  aimed_same true cells a p = record {
    alike = λ at s1 s2 m1 m2 h1 h2.
        (aimed_by (cells_met cells a at.memory) (cells_met cells (pointer_in seen.one a) m1) (cells_met cells (pointer_in seen.two a) m2) p (met_in seen.one h1.blocks cells a) (met_in seen.two h2.blocks cells a)).alike at s1 s2 m1 m2 h1 h2;
    grows = λ at. if_grows (meets (cells_met cells a at.memory) p.pending) (defined (Err U.Unsequenced)) (gives p) (over_grows Footprint (Undefined U.Unsequenced)) (gives_grows p) at;
  }
  aimed_same false cells a p = gives_same seen footprint_in p

  -- the footprint of an access to these cells
  grown_by : (o : Other) (tracks : Bool) (p : Footprint) (make : List CellName → Footprint) → ((cells : List CellName) → make (map (name_in o) cells) ≡ footprint_in o (make cells)) → (cells others : List CellName) → others ≡ map (name_in o) cells
      → grown tracks (footprint_in o p) (make others) ≡ footprint_in o (grown tracks p (make cells))
  grown_by o tracks p make h cells others e = ap (λ them. grown tracks (footprint_in o p) (make them)) e ∙ ap (λ f. grown tracks (footprint_in o p) f) (h cells) ∙ grown_in o tracks p (make cells)

  pub reads_same : (tracks : Bool) (cells : List ShapeCell) (x : Valued Content) → S footprint_in (with_reads tracks cells x) (with_reads tracks cells (valued_in content_in seen.one x)) (with_reads tracks cells (valued_in content_in seen.two x))
  reads_same tracks cells x = record {
    alike = λ at s1 s2 m1 m2 h1 h2.
        (gives_as seen footprint_in (grown tracks x.footprint (reads (cells_met cells (lies_at x.value) at.memory))) _ _
        (grown_by seen.one tracks x.footprint reads (λ _. refl) (cells_met cells (lies_at x.value) at.memory) (cells_met cells (lies_at (content_in seen.one x.value)) m1) (ap (λ a. cells_met cells a m1) (lies_in seen.one x.value) ∙ met_in seen.one h1.blocks cells (lies_at x.value)))
        (grown_by seen.two tracks x.footprint reads (λ _. refl) (cells_met cells (lies_at x.value) at.memory) (cells_met cells (lies_at (content_in seen.two x.value)) m2) (ap (λ a. cells_met cells a m2) (lies_in seen.two x.value) ∙ met_in seen.two h2.blocks cells (lies_at x.value)))).alike at s1 s2 m1 m2 h1 h2;
    grows = λ at. le_refl (length at.memory);
  }

  pub loaded_same : (tracks : Bool) (m : DataModel) (ty : CellType) (x : Valued (Option Address)) → S (valued_in content_in) (loaded tracks m ty x) (loaded tracks m ty (valued_in pointer_in seen.one x)) (loaded tracks m ty (valued_in pointer_in seen.two x))
  loaded_same tracks m ty x =
      then_same seen _ _ _ _ _ _
      (asked_same content_in (λ memory. load m memory x.value ty) (λ o memory. load m memory (pointer_in o x.value) ty) (λ o before after d. memory.load_with o.blocks d m x.value ty))
      (λ c. gives_as seen (valued_in content_in) (valued c (grown tracks x.footprint (reads (cell_at x.value 0)))) _ _
      (ap (valued (content_in seen.one c)) (grown_by seen.one tracks x.footprint reads (λ _. refl) (cell_at x.value 0) (cell_at (pointer_in seen.one x.value) 0) (cell_in seen.one x.value 0)))
      (ap (valued (content_in seen.two c)) (grown_by seen.two tracks x.footprint reads (λ _. refl) (cell_at x.value 0) (cell_at (pointer_in seen.two x.value) 0) (cell_in seen.two x.value 0))))

  pub written_same : (tracks : Bool) (change : Memory → Result Memory Ub) (changes : Other → Memory → Result Memory Ub) (cells : List ShapeCell) (a : Option Address) (p : Footprint) → AsMany change
      → ((o : Other) (before after : Memory) → Further o before after → Changes (names_in o) o.blocks [] seen.cells (change before) (changes o after))
      → S footprint_in (written tracks change cells a p) (written tracks (changes seen.one) cells (pointer_in seen.one a) (footprint_in seen.one p)) (written tracks (changes seen.two) cells (pointer_in seen.two a) (footprint_in seen.two p))
  written_same tracks change changes cells a p many e = record {
    alike = λ at s1 s2 m1 m2 h1 h2.
        (then_same seen (changed change) (changed (changes seen.one)) (changed (changes seen.two)) (λ _. gives (grown tracks p (writes (cells_met cells a at.memory)))) (λ _. gives (grown tracks (footprint_in seen.one p) (writes (cells_met cells (pointer_in seen.one a) m1)))) (λ _. gives (grown tracks (footprint_in seen.two p) (writes (cells_met cells (pointer_in seen.two a) m2))))
        (changed_same change changes many e)
        (λ _. gives_as seen footprint_in (grown tracks p (writes (cells_met cells a at.memory))) _ _
        (grown_by seen.one tracks p writes (λ _. refl) (cells_met cells a at.memory) (cells_met cells (pointer_in seen.one a) m1) (met_in seen.one h1.blocks cells a))
        (grown_by seen.two tracks p writes (λ _. refl) (cells_met cells a at.memory) (cells_met cells (pointer_in seen.two a) m2) (met_in seen.two h2.blocks cells a)))).alike at s1 s2 m1 m2 h1 h2;
    grows = λ at. then_grows (changed change) (λ _. gives (grown tracks p (writes (cells_met cells a at.memory)))) (changed_grows change many) (λ _. gives_grows (grown tracks p (writes (cells_met cells a at.memory)))) at;
  }

  pub stored_same : (tracks : Bool) (m : DataModel) (ty : CellType) (a : Option Address) (c : Content) (p : Footprint)
      → S footprint_in (stored tracks m ty a c p) (stored tracks m ty (pointer_in seen.one a) (content_in seen.one c) (footprint_in seen.one p)) (stored tracks m ty (pointer_in seen.two a) (content_in seen.two c) (footprint_in seen.two p))
  stored_same tracks m ty a c p =
      let write : Option Address → Content → Footprint → Step Footprint = λ a c p. written tracks (λ memory. store m memory a ty c) (one_cell ty) a p in
      subst (λ b. S footprint_in (stored tracks m ty a c p) (if b then write (pointer_in seen.one a) (content_in seen.one c) (footprint_in seen.one p) else absurdity) (stored tracks m ty (pointer_in seen.two a) (content_in seen.two c) (footprint_in seen.two p))) (sym (content_type_in seen.one m ty c))
      (subst (λ b. S footprint_in (stored tracks m ty a c p) (if is_content_of m ty c then write (pointer_in seen.one a) (content_in seen.one c) (footprint_in seen.one p) else absurdity) (if b then write (pointer_in seen.two a) (content_in seen.two c) (footprint_in seen.two p) else absurdity)) (sym (content_type_in seen.two m ty c))
      (fitting_same footprint_in (is_content_of m ty c) (write a c p) (write (pointer_in seen.one a) (content_in seen.one c) (footprint_in seen.one p)) (write (pointer_in seen.two a) (content_in seen.two c) (footprint_in seen.two p))
      (written_same tracks (λ memory. store m memory a ty c) (λ o memory. store m memory (pointer_in o a) ty (content_in o c)) (one_cell ty) a p (stored_as_many m a ty c) (λ o before after d. memory.store_with (names_in o) o.blocks [] seen.cells d m a ty c))))

  pub copied_same : (tracks : Bool) (m : DataModel) (shape : Shape) (a from : Option Address) (p : Footprint)
      → S footprint_in (copied tracks m shape a from p) (copied tracks m shape (pointer_in seen.one a) (pointer_in seen.one from) (footprint_in seen.one p)) (copied tracks m shape (pointer_in seen.two a) (pointer_in seen.two from) (footprint_in seen.two p))
  copied_same tracks m shape a from p = record {
    alike = λ at s1 s2 m1 m2 h1 h2.
        (written_same tracks (λ memory. copy_struct m memory a from shape) (λ o memory. copy_struct m memory (pointer_in o a) (pointer_in o from) shape) shape.cells a p (copied_as_many m a from shape) (λ o before after d. memory.copy_with (names_in o) o.blocks [] seen.cells d m a from shape)).alike at s1 s2 m1 m2 h1 h2;
    grows = λ at. then_grows (changed (λ memory. copy_struct m memory a from shape)) (λ _. gives (grown tracks p (writes (cells_met shape.cells a at.memory)))) (changed_grows (λ memory. copy_struct m memory a from shape) (copied_as_many m a from shape)) (λ _. gives_grows (grown tracks p (writes (cells_met shape.cells a at.memory)))) at;
  }

  -- ---- operators

  pub moved_same : (op : Op) (size : ℕ) (c d : Content) → S pointer_in (moved op size c d) (moved op size (content_in seen.one c) (content_in seen.one d)) (moved op size (content_in seen.two c) (content_in seen.two d))
  moved_same op size c d =
      then_same seen _ _ _ _ _ _ (address_same c) (λ p. then_same seen _ _ _ _ _ _ (number_same d) (λ n. fitting_same pointer_in (is_integer n) _ _ _
      (asked_same pointer_in (λ memory. move_by memory p (signed_count op n) size) (λ o memory. move_by memory (pointer_in o p) (signed_count op n) size) (λ o before after d. memory.move_with o.blocks d p (signed_count op n) size))))

  pub member_same : (offset : ℕ) (a : Option Address) → S pointer_in (member_at offset a) (member_at offset (pointer_in seen.one a)) (member_at offset (pointer_in seen.two a))
  member_same offset a =
      asked_same pointer_in (λ memory. then_result (not_null a) (λ _. move_by memory a (pos 1) offset)) (λ o memory. then_result (not_null (pointer_in o a)) (λ _. move_by memory (pointer_in o a) (pos 1) offset))
      (λ o before after d. then_with (not_null a) (not_null (pointer_in o a)) (λ _. move_by before a (pos 1) offset) (λ _. move_by after (pointer_in o a) (pos 1) offset) (λ b. b) (pointer_in o) (null_in o a ∙ as_it_was (not_null a)) (λ _. memory.move_with o.blocks d a (pos 1) offset))

  pub applied_same : (m : DataModel) (op : Op) (s : Scalar) (c d : Content) → S as_it_is (applied m op s c d) (applied m op s (content_in seen.one c) (content_in seen.one d)) (applied m op s (content_in seen.two c) (content_in seen.two d))
  applied_same m op s c d =
      then_same seen _ _ _ _ _ _ (number_same c) (λ a. then_same seen _ _ _ _ _ _ (number_same d) (λ b. fitting_same as_it_is (is_value m s a && is_right_operand m op s b) _ _ _
      (defined_same seen as_it_is (value_of m op s a b) (value_of m op s a b) (value_of m op s a b) (as_it_was (value_of m op s a b)) (as_it_was (value_of m op s a b)))))

  pub counted_same : (size : ℕ) (c d : Content) → S as_it_is (counted size c d) (counted size (content_in seen.one c) (content_in seen.one d)) (counted size (content_in seen.two c) (content_in seen.two d))
  counted_same size c d =
      then_same seen _ _ _ _ _ _ (address_same c) (λ a. then_same seen _ _ _ _ _ _ (address_same d) (λ b.
      asked_same as_it_is (λ memory. subtract memory a b size) (λ o memory. subtract memory (pointer_in o a) (pointer_in o b) size) (λ o before after d. memory.subtract_with o.blocks d a b size ∙ as_it_was (subtract before a b size))))

  pub compared_same : (op : Op) (c d : Content) → S as_it_is (compared op c d) (compared op (content_in seen.one c) (content_in seen.one d)) (compared op (content_in seen.two c) (content_in seen.two d))
  compared_same op c d =
      then_same seen _ _ _ _ _ _ (address_same c) (λ a. then_same seen _ _ _ _ _ _ (address_same d) (λ b.
      asked_same as_it_is (λ memory. compare memory op a b) (λ o memory. compare memory op (pointer_in o a) (pointer_in o b)) (λ o before after d. memory.compare_with o.blocks d op a b ∙ as_it_was (compare before op a b))))

  -- ---- ticks and calls

  spent_by : (n : ℕ) (at : At) (s1 s2 : List Bound) (m1 m2 : Memory) → Stands seen.one seen.cells at s1 m1 → Stands seen.two seen.cells at s2 m2 → Alike seen as_it_is (spent n at) (spent n (beside at s1 m1)) (spent n (beside at s2 m2))
  spent_by zero at s1 s2 m1 m2 h1 h2 = all_end h1 h2
  spent_by (suc n) at s1 s2 m1 m2 h1 h2 = all_give (record { bounds = h1.bounds; there = h1.there; blocks = h1.blocks }) (record { bounds = h2.bounds; there = h2.there; blocks = h2.blocks })

  pub tick_same : S as_it_is tick tick tick
  tick_same = record { alike = λ at s1 s2 m1 m2 h1 h2. spent_by at.ticks at s1 s2 m1 m2 h1 h2; grows = tick_grows }

  deeper_by : (b : Bool) (at : At) (s1 s2 : List Bound) (m1 m2 : Memory) → Stands seen.one seen.cells at s1 m1 → Stands seen.two seen.cells at s2 m2
      → Alike seen as_it_is (if b then Gives (tt {0}) (record at { depth = at.depth + 1 }) else Ends Deep at) (if b then Gives (tt {0}) (record (beside at s1 m1) { depth = at.depth + 1 }) else Ends Deep (beside at s1 m1)) (if b then Gives (tt {0}) (record (beside at s2 m2) { depth = at.depth + 1 }) else Ends Deep (beside at s2 m2))
  deeper_by true at s1 s2 m1 m2 h1 h2 = all_give (record { bounds = h1.bounds; there = h1.there; blocks = h1.blocks }) (record { bounds = h2.bounds; there = h2.there; blocks = h2.blocks })
  deeper_by false at s1 s2 m1 m2 h1 h2 = all_end h1 h2

  pub deeper_same : S as_it_is one_deeper one_deeper one_deeper
  deeper_same = record { alike = λ at s1 s2 m1 m2 h1 h2. deeper_by (nat_lt at.depth most_calls) at s1 s2 m1 m2 h1 h2; grows = deeper_grows }

  -- ---- variables

  block_by : {A : Type 0} (with : Other → A → A) (f g1 g2 : ℕ → Step A) → ((n : ℕ) → S with (f n) (g1 (names_in seen.one n)) (g2 (names_in seen.two n))) → (b b1 b2 : Option ℕ) → b1 ≡ option_with (names_in seen.one) b → b2 ≡ option_with (names_in seen.two) b
      → (at : At) (s1 s2 : List Bound) (m1 m2 : Memory) → Stands seen.one seen.cells at s1 m1 → Stands seen.two seen.cells at s2 m2
      → Alike seen with (elim (b) as (λ _. Answer A) [ None ↦ absurdity at | Some block ↦ f block at ]) (elim (b1) as (λ _. Answer A) [ None ↦ absurdity (beside at s1 m1) | Some block ↦ g1 block (beside at s1 m1) ])
      (elim (b2) as (λ _. Answer A) [ None ↦ absurdity (beside at s2 m2) | Some block ↦ g2 block (beside at s2 m2) ])
  block_by {A} with f g1 g2 k b b1 b2 e1 e2 at s1 s2 m1 m2 h1 h2 =
      subst (λ x. Alike seen with (one b f at) (one x g1 (beside at s1 m1)) (one b2 g2 (beside at s2 m2))) (sym e1)
      (subst (λ x. Alike seen with (one b f at) (one (option_with (names_in seen.one) b) g1 (beside at s1 m1)) (one x g2 (beside at s2 m2))) (sym e2) (by b))
    where
      one : Option ℕ → (ℕ → Step A) → At → Answer A
      one b f at = elim (b) as (λ _. Answer A) [ None ↦ absurdity at | Some block ↦ f block at ]

      by : (b : Option ℕ) → Alike seen with (one b f at) (one (option_with (names_in seen.one) b) g1 (beside at s1 m1)) (one (option_with (names_in seen.two) b) g2 (beside at s2 m2))
      by None = all_end h1 h2
      by (Some n) = (k n).alike at s1 s2 m1 m2 h1 h2

  pub block_same : {A : Type 0} (with : Other → A → A) (v : Variable) (f g1 g2 : ℕ → Step A) → ((n : ℕ) → S with (f n) (g1 (names_in seen.one n)) (g2 (names_in seen.two n)))
      → S with (with_block v f) (with_block (variable_in seen.one v) g1) (with_block (variable_in seen.two v) g2)
  block_same with v f g1 g2 k = record {
    alike = λ at s1 s2 m1 m2 h1 h2.
        block_by with f g1 g2 k (living_block v at) (living_block (variable_in seen.one v) (beside at s1 m1)) (living_block (variable_in seen.two v) (beside at s2 m2)) (living_in seen.one at s1 m1 h1 v) (living_in seen.two at s2 m2 h2 v) at s1 s2 m1 m2 h1 h2;
    grows = block_grows v f (λ n. (k n).grows);
  }

  pub place_same : (v : Variable) → S pointer_in (place v) (place (variable_in seen.one v)) (place (variable_in seen.two v))
  place_same v = block_same pointer_in v _ _ _ (λ n. gives_same seen pointer_in (Some (record { block = n; offset = 0 })))

  -- one more object, where there is room for it in this run if there is in the others, and only if where those have no more cells
  created_by : (shape : Shape) (zeroed : Bool) (b b1 b2 : Bool) → b1 ≡ b2 → (b1 ≡ true → b ≡ true) → (seen.cells ≡ 0 → b1 ≡ b) → (at : At) (s1 s2 : List Bound) (m1 m2 : Memory) → Stands seen.one seen.cells at s1 m1 → Stands seen.two seen.cells at s2 m2
      → Alike seen block_in (elim (if b then Some (create at.memory (new_block shape zeroed true)) else None) as (λ _. Answer ℕ) [ None ↦ Ends Cells at | Some memory ↦ Gives (length at.memory) (record at { memory = memory }) ])
      (elim (if b1 then Some (create m1 (new_block shape zeroed true)) else None) as (λ _. Answer ℕ) [ None ↦ Ends Cells (beside at s1 m1) | Some memory ↦ Gives (length m1) (record (beside at s1 m1) { memory = memory }) ])
      (elim (if b2 then Some (create m2 (new_block shape zeroed true)) else None) as (λ _. Answer ℕ) [ None ↦ Ends Cells (beside at s2 m2) | Some memory ↦ Gives (length m2) (record (beside at s2 m2) { memory = memory }) ])
  created_by shape zeroed true true true e f g at s1 s2 m1 m2 h1 h2 =
      let made : Other → Memory → Type 0 = λ o m. HasFurtherBlocks (names_in o) o.blocks [] seen.cells (create at.memory (new_block shape zeroed true)) m in
      subst (λ n. Alike seen block_in (Gives (length at.memory) (record at { memory = create at.memory (new_block shape zeroed true) })) (Gives n (record (beside at s1 m1) { memory = create m1 (new_block shape zeroed true) })) (Gives (length m2) (record (beside at s2 m2) { memory = create m2 (new_block shape zeroed true) }))) (sym (memory.next_with (names_in seen.one) h1.blocks))
      (subst (λ n. Alike seen block_in (Gives (length at.memory) (record at { memory = create at.memory (new_block shape zeroed true) })) (Gives (block_in seen.one (length at.memory)) (record (beside at s1 m1) { memory = create m1 (new_block shape zeroed true) })) (Gives n (record (beside at s2 m2) { memory = create m2 (new_block shape zeroed true) }))) (sym (memory.next_with (names_in seen.two) h2.blocks))
      (all_give
      (record { bounds = h1.bounds; there = h1.there; blocks = subst (λ block. made seen.one (m1 ++ block ∷ [])) (memory.new_with (names_in seen.one) seen.one.blocks [] seen.cells shape zeroed true) (memory.more_with (names_in seen.one) h1.blocks (new_block shape zeroed true)) })
      (record { bounds = h2.bounds; there = h2.there; blocks = subst (λ block. made seen.two (m2 ++ block ∷ [])) (memory.new_with (names_in seen.two) seen.two.blocks [] seen.cells shape zeroed true) (memory.more_with (names_in seen.two) h2.blocks (new_block shape zeroed true)) })))
  created_by shape zeroed true false false e f g at s1 s2 m1 m2 h1 h2 = no_room (length at.memory) (λ none. true_false (g none)) (memory.next_with (names_in seen.two) h2.blocks) (one_longer at.memory (new_block shape zeroed true))
    where
      true_false : false ≡ true → ⊥
      true_false e = cc
  created_by shape zeroed false false false e f g at s1 s2 m1 m2 h1 h2 = all_end h1 h2
  created_by shape zeroed false true true e f g at s1 s2 m1 m2 h1 h2 = absurd (true_false (f refl))
    where
      true_false : false ≡ true → ⊥
      true_false e = cc
  created_by shape zeroed b true false e f g at s1 s2 m1 m2 h1 h2 = absurd (true_false e)
    where
      true_false : true ≡ false → ⊥
      true_false e = cc
  created_by shape zeroed b false true e f g at s1 s2 m1 m2 h1 h2 = absurd (true_false e)
    where
      true_false : false ≡ true → ⊥
      true_false e = cc

  pub created_same : (shape : Shape) (zeroed : Bool) → S block_in (created shape zeroed) (created shape zeroed) (created shape zeroed)
  unfolding create_shaped
  created_same shape zeroed = record {
    alike = λ at s1 s2 m1 m2 h1 h2.
        let e1 = memory.alive_with (names_in seen.one) h1.blocks in
        let e2 = memory.alive_with (names_in seen.two) h2.blocks in
        created_by shape zeroed (nat_le (cells_alive at.memory + length shape.cells) most_cells) (nat_le (cells_alive m1 + length shape.cells) most_cells) (nat_le (cells_alive m2 + length shape.cells) most_cells)
        (ap (λ n. nat_le (n + length shape.cells) most_cells) (e1 ∙ sym e2))
        (λ h. room_without (cells_alive at.memory) seen.cells (length shape.cells) most_cells (ap (λ n. nat_le (n + length shape.cells) most_cells) (sym e1) ∙ h))
        (λ none. ap (λ n. nat_le (n + length shape.cells) most_cells) (e1 ∙ no_more (cells_alive at.memory) seen.cells none))
        at s1 s2 m1 m2 h1 h2;
    grows = created_grows shape zeroed;
  }

  pub bound_same : (v : Variable) (n : ℕ) → S as_it_is (bound_to v n) (bound_to (variable_in seen.one v) (names_in seen.one n)) (bound_to (variable_in seen.two v) (names_in seen.two n))
  bound_same v n = record {
    alike = λ at s1 s2 m1 m2 h1 h2.
        all_give (record { bounds = a_bound (record { variable = v; block = n }) h1.bounds; there = there_bound seen.one s1 (record { variable = v; block = n }) h1.there; blocks = h1.blocks }) (record { bounds = a_bound (record { variable = v; block = n }) h2.bounds; there = there_bound seen.two s2 (record { variable = v; block = n }) h2.there; blocks = h2.blocks });
    grows = λ at. le_refl (length at.memory);
  }

  begun_in : (o : Other) (at : At) (scope : List Bound) (after : Memory) → Stands o seen.cells at scope after → (v : Variable) → is_begun (variable_in o v) (beside at scope after) ≡ is_begun v at
  begun_in o at scope after h v = ap (λ (found : Option ℕ). elim (found) as (λ _. Bool) [ None ↦ false | Some block ↦ true ]) (living_in o at scope after h v) ∙ by (living_block v at)
    where
      by : (found : Option ℕ) → elim (option_with (names_in o) found) as (λ _. Bool) [ None ↦ false | Some block ↦ true ] ≡ elim (found) as (λ _. Bool) [ None ↦ false | Some block ↦ true ]
      by None = refl
      by (Some n) = refl

  begins_by : (v : Variable) (shape : Shape) (zeroed b : Bool) (at : At) (s1 s2 : List Bound) (m1 m2 : Memory) → Stands seen.one seen.cells at s1 m1 → Stands seen.two seen.cells at s2 m2
      → Alike seen {A = Unit {0}} as_it_is (if b then absurdity at else (created shape zeroed >>= bound_to v) at) (if b then absurdity (beside at s1 m1) else (created shape zeroed >>= bound_to (variable_in seen.one v)) (beside at s1 m1))
      (if b then absurdity (beside at s2 m2) else (created shape zeroed >>= bound_to (variable_in seen.two v)) (beside at s2 m2))
  begins_by v shape zeroed true at s1 s2 m1 m2 h1 h2 = all_end h1 h2
  begins_by v shape zeroed false at s1 s2 m1 m2 h1 h2 =
      (then_same seen {with = block_in} {on = as_it_is} (created shape zeroed) (created shape zeroed) (created shape zeroed) (bound_to v) (bound_to (variable_in seen.one v)) (bound_to (variable_in seen.two v)) (created_same shape zeroed) (λ n. bound_same v n)).alike at s1 s2 m1 m2 h1 h2

  pub begins_same : (v : Variable) (shape : Shape) (zeroed : Bool) → S as_it_is (begins v shape zeroed) (begins (variable_in seen.one v) shape zeroed) (begins (variable_in seen.two v) shape zeroed)
  begins_same v shape zeroed = record {
    alike = λ at s1 s2 m1 m2 h1 h2.
        let goes : Variable → Step (Unit {0}) = λ v. created shape zeroed >>= bound_to v in
        let there : Bool → Variable → At → Answer (Unit {0}) = λ b v at. if b then absurdity at else goes v at in
        subst (λ b. Alike seen as_it_is (begins v shape zeroed at) (there b (variable_in seen.one v) (beside at s1 m1)) (begins (variable_in seen.two v) shape zeroed (beside at s2 m2))) (sym (begun_in seen.one at s1 m1 h1 v))
        (subst (λ b. Alike seen as_it_is (begins v shape zeroed at) (there (is_begun v at) (variable_in seen.one v) (beside at s1 m1)) (there b (variable_in seen.two v) (beside at s2 m2))) (sym (begun_in seen.two at s2 m2 h2 v))
        (begins_by v shape zeroed (is_begun v at) at s1 s2 m1 m2 h1 h2));
    grows = begins_grows v shape zeroed;
  }

  pub ends_same : (v : Variable) → S as_it_is (ends v) (ends (variable_in seen.one v)) (ends (variable_in seen.two v))
  ends_same v = block_same as_it_is v _ _ _ (λ n. record {
    alike = λ at s1 s2 m1 m2 h1 h2.
        all_give (record { bounds = without_in seen.one h1.bounds v; there = there_without seen.one s1 v h1.there; blocks = memory.ended_with (names_in seen.one) seen.one.blocks [] seen.cells h1.blocks n })
        (record { bounds = without_in seen.two h2.bounds v; there = there_without seen.two s2 v h2.there; blocks = memory.ended_with (names_in seen.two) seen.two.blocks [] seen.cells h2.blocks n });
    grows = ended_grows v n;
  })

  pub seals_same : (v : Variable) → S as_it_is (seals v) (seals (variable_in seen.one v)) (seals (variable_in seen.two v))
  seals_same v = block_same as_it_is v _ _ _ (λ n. record {
    alike = λ at s1 s2 m1 m2 h1 h2.
        all_give (record { bounds = h1.bounds; there = h1.there; blocks = memory.sealed_with (names_in seen.one) seen.one.blocks [] seen.cells h1.blocks n })
        (record { bounds = h2.bounds; there = h2.there; blocks = memory.sealed_with (names_in seen.two) seen.two.blocks [] seen.cells h2.blocks n });
    grows = sealed_grows n;
  })

  took_by : (name : List ℕ) (r : Option (ℤ × List Left)) (at : At) (s1 s2 : List Bound) (m1 m2 : Memory) → Stands seen.one seen.cells at s1 m1 → Stands seen.two seen.cells at s2 m2
      → Alike seen content_in (took name at r) (took name (beside at s1 m1) r) (took name (beside at s2 m2) r)
  took_by name None at s1 s2 m1 m2 h1 h2 = all_end h1 h2
  took_by name (Some (z, lefts)) at s1 s2 m1 m2 h1 h2 = all_give (record { bounds = h1.bounds; there = h1.there; blocks = h1.blocks }) (record { bounds = h2.bounds; there = h2.there; blocks = h2.blocks })

  pub stub_same : (name : List ℕ) → S content_in (stub_value name) (stub_value name) (stub_value name)
  stub_same name = record { alike = λ at s1 s2 m1 m2 h1 h2. took_by name (next_value name at.stubs) at s1 s2 m1 m2 h1 h2; grows = λ at. took_grows name (next_value name at.stubs) at }

  -- ---- parameters

  pub scope_same : (scope s1 s2 : List Bound) → HasFurtherBounds seen.one scope s1 → HasFurtherBounds seen.two scope s2 → AreThere seen.one s1 → AreThere seen.two s2 → S as_it_is (with_scope scope) (with_scope s1) (with_scope s2)
  scope_same scope t1 t2 d1 d2 there1 there2 = record { alike = λ at s1 s2 m1 m2 h1 h2. all_give (record { bounds = d1; there = there1; blocks = h1.blocks }) (record { bounds = d2; there = there2; blocks = h2.blocks }); grows = λ at. le_refl (length at.memory) }

  pub begin_parameters_same : (k : ℕ) (shapes : List Shape) → S as_it_is (begin_parameters k shapes) (begin_parameters k shapes) (begin_parameters k shapes)
  begin_parameters_same k [] = gives_same seen as_it_is tt
  begin_parameters_same k (shape ∷ shapes) = then_same seen _ _ _ _ _ _ (begins_same (Parameter k) shape false) (λ _. begin_parameters_same (suc k) shapes)

  pub end_parameters_same : (k : ℕ) (shapes : List Shape) → S as_it_is (end_parameters k shapes) (end_parameters k shapes) (end_parameters k shapes)
  end_parameters_same k [] = gives_same seen as_it_is tt
  end_parameters_same k (shape ∷ shapes) = then_same seen _ _ _ _ _ _ (end_parameters_same (suc k) shapes) (λ _. ends_same (Parameter k))

  store_one_same : (m : DataModel) (k : ℕ) (cells : List ShapeCell) (c : Content) → S as_it_is (store_one m k cells c) (store_one m k cells (content_in seen.one c)) (store_one m k cells (content_in seen.two c))
  store_one_same m k [] c = over_same seen _ Stopped
  store_one_same m k (cell ∷ cells) c =
      then_same seen _ _ _ _ _ _ (used_same c) (λ it. then_same seen _ _ _ _ _ _ (place_same (Parameter k)) (λ p. then_same seen _ _ _ _ _ _ (stored_same false m cell.ty p it untouched) (λ _. gives_same seen as_it_is tt)))

  pub store_parameters_same : (m : DataModel) (k : ℕ) (shapes : List Shape) (cs : List Content) → S as_it_is (store_parameters m k shapes cs) (store_parameters m k shapes (contents_in seen.one cs)) (store_parameters m k shapes (contents_in seen.two cs))
  store_parameters_same m k [] cs = gives_same seen as_it_is tt
  store_parameters_same m k (shape ∷ shapes) [] = gives_same seen as_it_is tt
  store_parameters_same m k (shape ∷ shapes) (c ∷ cs) = then_same seen _ _ _ _ _ _ (store_one_same m k shape.cells c) (λ _. store_parameters_same m (suc k) shapes cs)
