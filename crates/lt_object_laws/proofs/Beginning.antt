-- How objects that are there from the start begin beside further ones.
use Rattle.std.proofs.Common.{◌≡◌, ◌≤◌, ◌<◌, ℕ, suc, List, [], ◌∷◌, ◌++◌, map, length, Option, Some, None, Bool, true, false, refl, sym, ap, ◌∙◌, subst, arith, eq-eqb, le-leb, leb-true, ◌⊎◌, inl, inr, eq-or-lt_of_le}
use Rattle.std.proofs.lemmas.List.{length-map}
use Rattle.std.proofs.lemmas.Bool.{false≢true}
use Rattle.std.specs.Prelude.{◌+◌, nat_eq, nat_le, if◌then◌else◌, Result, Ok, Err}
use Rattle.lt_model.specs.declared.cell.Address.{Address}
use Rattle.lt_model.specs.declared.cell.CellType.{CellType}
use Rattle.lt_model.specs.declared.cell.Content.{Content}
use Rattle.lt_model.specs.declared.cell.Shape.{Shape}
use Rattle.lt_model.specs.declared.cell.ShapeCell.{ShapeCell}
use Rattle.lt_model.specs.declared.cell.StoredCell.{StoredCell}
use Rattle.lt_model.specs.declared.scalar.DataModel.{DataModel}
use Rattle.lt_model.specs.declared.operator.Ub.{Ub}
use Rattle.lt_model.specs.declared.run.End.{End}
use Rattle.lt_model.specs.declared.run.End.TheVariants.{Undefined, Cells}
use Rattle.lt_model.specs.Memory.{Memory, store, create_shaped, create, new_block, new_cell, cells_alive, most_cells}
use Rattle.lt_model.specs.State.{untouched, Gives, Ends}
use Rattle.lt_ir.specs.declared.variable.Variable.TheVariants.{Static as StaticObject}
use Rattle.lt_ir.specs.declared.code.Static.{Static}
use Rattle.lt_ir.specs.Running.{Bound, At, Answer, Step, ◌>>◌, gives, absurdity, bound_to, block_among}
use Rattle.lt_ir.specs.Evaluation.{written, is_content_of, one_cell}
use Rattle.lt_ir.specs.Starting.{put, fill, start_static, start_statics}
use Rattle.lt_object_laws.specs.Renamed.{renumbered}
use Rattle.lt_object_laws.specs.Beside.{content_with, HasFurtherBlocks}
use Rattle.lt_object_laws.specs.Further.{further_cells_in}
use Rattle.lt_object_laws.proofs.Numbers.{flag_at, none_of_the_others, no_further_one}
use Rattle.lt_object_laws.proofs.Memory as mem
use Rattle.lt_object_laws.proofs.Memory.{Changes}
use Rattle.lt_object_laws.proofs.Alike.{Other, names_in, IsFurtherBlock, HasFurtherBounds, a_bound, a_further_bound, beside}
use Rattle.lt_object_laws.proofs.Machine.{content_type_in, room_without}
use Rattle.lt_object_laws.proofs.Room.{Leaves, static_leaves, HasRoomBeside, room_behind, room_now, room_for_one}
use Rattle.lt_object_laws.proofs.Filling.{kind, AllMet, all_met, AreSuited, living_block, fill_last, new_kinds}

-- Objects that are there from the start, with further ones among the others: what those hold is suited to their cells.
pub data StaticsWith (r : ℕ → ℕ) (model : DataModel) : List Bool → List Static → List Static → Type 0 where
  no_statics : StaticsWith r model [] [] []
  a_static : {further : List Bool} {its others : List Static} (it : Static)
      → StaticsWith r model further its others → StaticsWith r model (false ∷ further) (it ∷ its) (record it { cells = map (content_with r) it.cells } ∷ others)
  a_further_static : {further : List Bool} {its others : List Static} (it : Static) → it.block.name ≡ [] → AreSuited model it.block.shape.cells it.cells
      → StaticsWith r model further its others → StaticsWith r model (true ∷ further) its (it ∷ others)

-- ---- room

-- where what fits does so beside further cells, it fits beside these just where it fits
same_room : (alive cells n most : ℕ) → (alive + n ≤ most → (alive + n) + cells ≤ most) → nat_le ((alive + cells) + n) most ≡ nat_le (alive + n) most
same_room alive cells n most h = by (nat_le (alive + n) most) refl (nat_le ((alive + cells) + n) most) refl
  where
    by : (b : Bool) → nat_le (alive + n) most ≡ b → (c : Bool) → nat_le ((alive + cells) + n) most ≡ c → c ≡ b
    by true e true d = refl
    by false e false d = refl
    by true e false d =
        let g = h (leb-true (alive + n) most e) in
        absurd (false≢true (sym d ∙ le-leb ((alive + cells) + n) most (omega (arith, g))))
    by false e true d = absurd (false≢true (sym e ∙ room_without alive cells n most d))

room_for_fewer : (alive cells more most : ℕ) → alive + (cells + more) ≤ most → alive + cells ≤ most
room_for_fewer alive cells more most h = omega (arith, h)

room_for_further : (alive cells n more most : ℕ) → alive + (cells + (n + more)) ≤ most → (alive + cells) + n ≤ most
room_for_further alive cells n more most h = omega (arith, h)

module _ (o : Other) (model : DataModel) (Room : Type 0) where
  -- the first so many of the further objects are in scope
  abbrev pub AreSoFar : ℕ → List Bound → Type 0
  AreSoFar j scope = (k : ℕ) → k < j → flag_at o.statics k ≡ true → IsFurtherBlock o (block_among scope (StaticObject k))

  -- where both runs stand when the first so many of the other's objects are made
  pub record StandsSoFar (rest : List Bool) (cells j : ℕ) (at : At) (scope : List Bound) (memory : Memory) : Type 0 where
    pub bounds : HasFurtherBounds o at.scope scope
    pub so_far : AreSoFar j scope
    pub blocks : HasFurtherBlocks (names_in o) o.blocks rest cells at.memory memory

  -- both go on, or end in the same way; or there isn't the room that is spoken of
  pub data BeginAlike (rest : List Bool) (cells j : ℕ) : Answer (Unit {0}) → Answer (Unit {0}) → Type 0 where
    both_give : {at : At} {scope : List Bound} {memory : Memory} → StandsSoFar rest cells j at scope memory → BeginAlike rest cells j (Gives tt at) (Gives tt (beside at scope memory))
    both_end : {end : End} {at : At} {scope : List Bound} {memory : Memory} (left : List Bool) (held : ℕ) → HasFurtherBlocks (names_in o) o.blocks left held at.memory memory
        → BeginAlike rest cells j (Ends end at) (Ends end (beside at scope memory))
    no_room : {m : Answer (Unit {0})} {at : At} → (Room → ⊥) → BeginAlike rest cells j m (Ends Cells at)

  abbrev then_go : Answer (Unit {0}) → Step (Unit {0}) → Answer (Unit {0})
  then_go m go = elim (m) as (λ _. Answer (Unit {0})) [ Gives x at ↦ go at | Ends end at ↦ Ends end at ]

  then_begin : {rest left : List Bool} {cells held j k : ℕ} (m n : Answer (Unit {0})) (f g : Step (Unit {0})) → BeginAlike rest cells j m n
      → ((at : At) (scope : List Bound) (memory : Memory) → m ≡ Gives tt at → StandsSoFar rest cells j at scope memory → BeginAlike left held k (f at) (g (beside at scope memory))) → BeginAlike left held k (then_go m f) (then_go n g)
  then_begin m n f g (both_give {at} {scope} {memory} h) go = go at scope memory refl h
  then_begin m n f g (both_end left held h) go = both_end left held h
  then_begin m n f g (no_room lacks) go = no_room lacks

  -- ---- one of the others

  changed_by : {rest : List Bool} {cells j : ℕ} (x y : Result Memory Ub) → Changes (names_in o) o.blocks rest cells x y → (at : At) (scope : List Bound) (memory : Memory) → StandsSoFar rest cells j at scope memory
      → BeginAlike rest cells j (elim (x) as (λ _. Answer (Unit {0})) [ Ok memory ↦ Gives tt (record at { memory = memory }) | Err kind ↦ Ends (Undefined kind) at ])
      (elim (y) as (λ _. Answer (Unit {0})) [ Ok memory' ↦ Gives tt (record (beside at scope memory) { memory = memory' }) | Err kind ↦ Ends (Undefined kind) (beside at scope memory) ])
  changed_by (Ok m) (Ok n) d at scope memory h = both_give (record { bounds = h.bounds; so_far = h.so_far; blocks = d })
  changed_by {rest} {cells} {j} (Err x) (Err y) d at scope memory h = subst (λ y. BeginAlike rest cells j (Ends (Undefined x) at) (Ends (Undefined y) (beside at scope memory))) d (both_end rest cells h.blocks)
  changed_by (Ok m) (Err y) d at scope memory h = absurd d
  changed_by (Err x) (Ok n) d at scope memory h = absurd d

  abbrev put_by : Bool → CellType → (Memory → Result Memory Ub) → Option Address → Step (Unit {0})
  put_by b ty change place = (if b then written false change (one_cell ty) place untouched else absurdity) >> gives tt

  put_same : {rest : List Bool} {cells j : ℕ} (block offset : ℕ) (ty : CellType) (c : Content) (at : At) (scope : List Bound) (memory : Memory) → StandsSoFar rest cells j at scope memory
      → BeginAlike rest cells j (put model block offset ty c at) (put model (names_in o block) offset ty (content_with (names_in o) c) (beside at scope memory))
  put_same {rest} {cells} {j} block offset ty c at scope memory h =
      let change : Memory → Result Memory Ub = λ m. store model m (Some (record { block = names_in o block; offset = offset })) ty (content_with (names_in o) c) in
      subst (λ b. BeginAlike rest cells j (put model block offset ty c at) (put_by b ty change (Some (record { block = names_in o block; offset = offset })) (beside at scope memory))) (sym (content_type_in o model ty c))
      (by (is_content_of model ty c))
    where
      by : (b : Bool) → BeginAlike rest cells j (put_by b ty (λ m. store model m (Some (record { block = block; offset = offset })) ty c) (Some (record { block = block; offset = offset })) at)
          (put_by b ty (λ m. store model m (Some (record { block = names_in o block; offset = offset })) ty (content_with (names_in o) c)) (Some (record { block = names_in o block; offset = offset })) (beside at scope memory))
      by true = given (store model at.memory (Some (record { block = block; offset = offset })) ty c) (store model memory (Some (record { block = names_in o block; offset = offset })) ty (content_with (names_in o) c))
          (changed_by (store model at.memory (Some (record { block = block; offset = offset })) ty c) (store model memory (Some (record { block = names_in o block; offset = offset })) ty (content_with (names_in o) c))
          (mem.store_with (names_in o) o.blocks rest cells h.blocks model (Some (record { block = block; offset = offset })) ty c) at scope memory h)
        where
          given : (x y : Result Memory Ub)
              → BeginAlike rest cells j (elim (x) as (λ _. Answer (Unit {0})) [ Ok memory ↦ Gives tt (record at { memory = memory }) | Err kind ↦ Ends (Undefined kind) at ])
              (elim (y) as (λ _. Answer (Unit {0})) [ Ok memory' ↦ Gives tt (record (beside at scope memory) { memory = memory' }) | Err kind ↦ Ends (Undefined kind) (beside at scope memory) ])
              → BeginAlike rest cells j (((λ (at : At). elim (x) as (λ _. Answer (Unit {0})) [ Ok memory ↦ Gives tt (record at { memory = memory }) | Err kind ↦ Ends (Undefined kind) at ]) >> gives untouched >> gives (tt {0})) at)
              (((λ (at : At). elim (y) as (λ _. Answer (Unit {0})) [ Ok memory' ↦ Gives tt (record at { memory = memory' }) | Err kind ↦ Ends (Undefined kind) at ]) >> gives untouched >> gives (tt {0})) (beside at scope memory))
          given (Ok m) (Ok n) g = g
          given (Ok m) (Err y) g = g
          given (Err x) (Ok n) g = g
          given (Err x) (Err y) g = g
      by false = both_end rest cells h.blocks

  fill_same : {rest : List Bool} {cells j : ℕ} (block : ℕ) (shape : List ShapeCell) (cs : List Content) (at : At) (scope : List Bound) (memory : Memory) → StandsSoFar rest cells j at scope memory
      → BeginAlike rest cells j (fill model block shape cs at) (fill model (names_in o block) shape (map (content_with (names_in o)) cs) (beside at scope memory))
  fill_same block [] cs at scope memory h = both_give h
  fill_same block (c ∷ shape) [] at scope memory h = both_give h
  fill_same block (c ∷ shape) (x ∷ cs) at scope memory h =
      then_begin (put model block c.offset c.ty x at) (put model (names_in o block) c.offset c.ty (content_with (names_in o) x) (beside at scope memory)) _ _ (put_same block c.offset c.ty x at scope memory h)
      (λ at1 scope1 memory1 given h1. fill_same block shape cs at1 scope1 memory1 h1)

  -- one of the others comes into scope
  more_so_far : (i j n : ℕ) (scope : List Bound) → renumbered o.statics i ≡ j → AreSoFar j scope → AreSoFar (suc j) (record { variable = StaticObject j; block = n } ∷ scope)
  more_so_far i j n scope e h k lt flag = by (eq-or-lt_of_le (omega (arith, lt)))
    where
      apart : nat_eq j k ≡ false
      apart = ap (λ x. nat_eq x k) (sym e) ∙ no_further_one o.statics k i flag

      by : (k ≡ j) ⊎ (k < j) → IsFurtherBlock o (if nat_eq j k then Some n else block_among scope (StaticObject k))
      by (inl same) = absurd (false≢true (sym apart ∙ eq-eqb j k (sym same)))
      by (inr less) = subst (λ b. IsFurtherBlock o (if b then Some n else block_among scope (StaticObject k))) (sym apart) (h k less flag)

  -- what is done with a block that is made, if there is room for it
  abbrev made_by : Bool → Shape → At → (ℕ → Step (Unit {0})) → Answer (Unit {0})
  made_by b shape at go =
      elim (elim (if b then Some (create at.memory (new_block shape true true)) else None) as (λ _. Answer ℕ) [ None ↦ Ends Cells at | Some memory ↦ Gives (length at.memory) (record at { memory = memory }) ]) as (λ _. Answer (Unit {0}))
      [ Gives n at1 ↦ go n at1 | Ends end at1 ↦ Ends end at1 ]

  abbrev filled_as : ℕ → Shape → List Content → ℕ → Step (Unit {0})
  filled_as i shape cs n = fill model n shape.cells cs >> bound_to (StaticObject i) n

  made_same : {rest : List Bool} {cells : ℕ} (i j : ℕ) (shape : Shape) (cs : List Content) → renumbered o.statics i ≡ j → (b c : Bool) → (c ≡ true → b ≡ true) → (Room → c ≡ b)
      → (at : At) (scope : List Bound) (memory : Memory) → StandsSoFar (false ∷ rest) cells j at scope memory
      → BeginAlike rest cells (suc j) (made_by b shape at (filled_as i shape cs)) (made_by c shape (beside at scope memory) (filled_as j shape (map (content_with (names_in o)) cs)))
  made_same {rest} {cells} i j shape cs e true true f g at scope memory h =
      let here = record at { memory = at.memory ++ new_block shape true true ∷ [] } in
      let there = record (beside at scope memory) { memory = memory ++ new_block shape true true ∷ [] } in
      subst (λ n. BeginAlike rest cells (suc j) (filled_as i shape cs (length at.memory) here) (filled_as j shape (map (content_with (names_in o)) cs) n there)) (sym (mem.number_next (names_in o) h.blocks))
      (then_begin {rest = rest} {left = rest} {cells = cells} {held = cells} {j = j} {k = suc j} (fill model (length at.memory) shape.cells cs here) (fill model (names_in o (length at.memory)) shape.cells (map (content_with (names_in o)) cs) there)
      (bound_to (StaticObject i) (length at.memory)) (bound_to (StaticObject j) (names_in o (length at.memory)))
      (fill_same (length at.memory) shape.cells cs here scope (memory ++ new_block shape true true ∷ []) (record {
        bounds = h.bounds;
        so_far = h.so_far;
        blocks = subst (λ block. HasFurtherBlocks (names_in o) o.blocks rest cells (at.memory ++ new_block shape true true ∷ []) (memory ++ block ∷ [])) (mem.new_with (names_in o) o.blocks rest cells shape true true) (mem.kept_next (names_in o) h.blocks (new_block shape true true));
      }))
      (λ at1 scope1 memory1 given h1. both_give (record {
        bounds = subst (λ k. HasFurtherBounds o (record { variable = StaticObject i; block = length at.memory } ∷ at1.scope) (record { variable = StaticObject k; block = names_in o (length at.memory) } ∷ scope1)) e (a_bound (record { variable = StaticObject i; block = length at.memory }) h1.bounds);
        so_far = more_so_far i j (names_in o (length at.memory)) scope1 e h1.so_far;
        blocks = h1.blocks;
      })))
  made_same i j shape cs e true false f g at scope memory h = no_room (λ room. false≢true (g room))
  made_same {rest} {cells} i j shape cs e false false f g at scope memory h = both_end (false ∷ rest) cells h.blocks
  made_same i j shape cs e false true f g at scope memory h = absurd (false≢true (f refl))

  static_same : {rest : List Bool} {cells : ℕ} (i j alive : ℕ) (it : Static) → renumbered o.statics i ≡ j → (Room → alive + length it.block.shape.cells ≤ most_cells → (alive + length it.block.shape.cells) + cells ≤ most_cells)
      → (at : At) (scope : List Bound) (memory : Memory) → cells_alive at.memory ≡ alive → StandsSoFar (false ∷ rest) cells j at scope memory
      → BeginAlike rest cells (suc j) (start_static model i it at) (start_static model j (record it { cells = map (content_with (names_in o)) it.cells }) (beside at scope memory))
  unfolding create_shaped
  static_same {rest} {cells} i j alive it e room at scope memory many h =
      let others_many : cells_alive memory ≡ alive + cells = mem.alive_with (names_in o) h.blocks ∙ ap (λ n. n + cells) many in
      let n = length it.block.shape.cells in
      made_same i j it.block.shape it.cells e (nat_le (cells_alive at.memory + length it.block.shape.cells) most_cells) (nat_le (cells_alive memory + length it.block.shape.cells) most_cells)
      (λ g. ap (λ a. nat_le (a + n) most_cells) many ∙ room_without alive cells n most_cells (ap (λ a. nat_le (a + n) most_cells) (sym others_many) ∙ g))
      (λ is_room. ap (λ a. nat_le (a + n) most_cells) others_many ∙ same_room alive cells n most_cells (room is_room) ∙ ap (λ a. nat_le (a + n) most_cells) (sym many)) at scope memory h

  -- ---- a further one

  one_more_so_far : (j n : ℕ) (scope : List Bound) → flag_at o.blocks n ≡ true → AreSoFar j scope → AreSoFar (suc j) (record { variable = StaticObject j; block = n } ∷ scope)
  one_more_so_far j n scope e h k lt flag = by (nat_eq j k) refl (eq-or-lt_of_le (omega (arith, lt)))
    where
      by : (b : Bool) → nat_eq j k ≡ b → (k ≡ j) ⊎ (k < j) → IsFurtherBlock o (if b then Some n else block_among scope (StaticObject k))
      by true q x = e
      by false q (inl same) = absurd (false≢true (sym q ∙ eq-eqb j k (sym same)))
      by false q (inr less) = h k less flag

  further_made : {rest : List Bool} {cells : ℕ} (j : ℕ) (shape : Shape) (cs : List Content) → AreSuited model shape.cells cs → flag_at o.statics j ≡ true → (b : Bool) → (Room → b ≡ true)
      → (at : At) (scope : List Bound) (memory : Memory) → StandsSoFar (true ∷ rest) cells j at scope memory
      → BeginAlike rest (cells + length shape.cells) (suc j) (Gives tt at) (made_by b shape (beside at scope memory) (filled_as j shape cs))
  further_made j shape cs g flag false room at scope memory h = no_room (λ is_room. false≢true (room is_room))
  further_made {rest} {cells} j shape cs g flag true room at scope memory h =
      let filled = fill_last model memory shape.size shape.cells cs (map (new_cell true) shape.cells) (beside at scope memory) (subst (λ all. AllMet all shape.cells) (sym (new_kinds true shape.cells)) (all_met shape.cells)) g in
      let after : List StoredCell = filled.0 in
      let long : length after ≡ length shape.cells = sym (length-map after kind) ∙ ap length (filled.2 ∙ new_kinds true shape.cells) in
      subst (λ (m : Answer (Unit {0})). BeginAlike rest (cells + length shape.cells) (suc j) (Gives tt at) (then_go m (bound_to (StaticObject j) (length memory)))) (sym filled.1)
      (both_give (record {
        bounds = a_further_bound j (length memory) (λ n. none_of_the_others o.statics j n flag) h.bounds;
        so_far = one_more_so_far j (length memory) scope (mem.number_further (names_in o) h.blocks) h.so_far;
        blocks = subst (λ n. HasFurtherBlocks (names_in o) o.blocks rest (cells + n) at.memory (memory ++ living_block shape.size after ∷ [])) long (mem.further_next (names_in o) h.blocks (living_block shape.size after) refl);
      }))

  further_same : {rest : List Bool} {cells : ℕ} (j alive : ℕ) (it : Static) → AreSuited model it.block.shape.cells it.cells → flag_at o.statics j ≡ true → (Room → (alive + cells) + length it.block.shape.cells ≤ most_cells)
      → (at : At) (scope : List Bound) (memory : Memory) → cells_alive at.memory ≡ alive → StandsSoFar (true ∷ rest) cells j at scope memory
      → BeginAlike rest (cells + length it.block.shape.cells) (suc j) (Gives tt at) (start_static model j it (beside at scope memory))
  unfolding create_shaped
  further_same {cells = cells} j alive it g flag room at scope memory many h =
      let n = length it.block.shape.cells in
      further_made j it.block.shape it.cells g flag (nat_le (cells_alive memory + n) most_cells)
      (λ is_room. ap (λ a. nat_le (a + n) most_cells) (mem.alive_with (names_in o) h.blocks ∙ ap (λ a. a + cells) many) ∙ le-leb ((alive + cells) + n) most_cells (room is_room)) at scope memory h

  -- ---- all of them

  left_by : {n : ℕ} {m : Answer (Unit {0})} {at : At} → m ≡ Gives tt at → Leaves n m → Leaves n (Gives tt at)
  left_by {n} e h = subst (Leaves n) e h

  later : (i n : ℕ) → suc i + n ≡ i + suc n
  later i n = omega arith

  none_left : (n : ℕ) → n ≡ n + 0
  none_left n = omega arith

  regrouped : (a b c : ℕ) → (a + b) + c ≡ a + (b + c)
  regrouped a b c = omega arith

  pub statics_same : {further : List Bool} {its others : List Static} → StaticsWith (names_in o) model further its others → (tail : List Bool) (i j cells alive : ℕ)
      → ((n : ℕ) → renumbered o.statics (i + n) ≡ j + renumbered further n) → ((n : ℕ) → flag_at o.statics (j + n) ≡ flag_at further n)
      → (Room → HasRoomBeside alive its (cells + further_cells_in further others))
      → (at : At) (scope : List Bound) (memory : Memory) → cells_alive at.memory ≡ alive → alive ≤ most_cells → StandsSoFar (further ++ tail) cells j at scope memory
      → BeginAlike tail (cells + further_cells_in further others) (j + length further) (start_statics model i its at) (start_statics model j others (beside at scope memory))
  statics_same no_statics tail i j cells alive s f room at scope memory many fits h =
      subst (λ n. BeginAlike tail n (j + 0) (Gives tt at) (Gives tt (beside at scope memory))) (none_left cells) (subst (λ n. BeginAlike tail cells n (Gives tt at) (Gives tt (beside at scope memory))) (none_left j) (both_give h))
  statics_same (a_static {further} {its} {others} it d) tail i j cells alive s f room at scope memory many fits h =
      let e : renumbered o.statics i ≡ j = ap (renumbered o.statics) (none_left i) ∙ s 0 ∙ sym (none_left j) in
      subst (λ n. BeginAlike tail (cells + further_cells_in further others) n (start_statics model i (it ∷ its) at) (start_statics model j (record it { cells = map (content_with (names_in o)) it.cells } ∷ others) (beside at scope memory))) (later j (length further))
      (then_begin (start_static model i it at) (start_static model j (record it { cells = map (content_with (names_in o)) it.cells }) (beside at scope memory)) (start_statics model (suc i) its) (start_statics model (suc j) others)
      (static_same i j alive it e (λ is_room fit. room_for_fewer (alive + length it.block.shape.cells) cells (further_cells_in further others) most_cells (room_for_one alive (cells + further_cells_in further others) it its (room is_room) fit)) at scope memory many h)
      (λ at1 scope1 memory1 given h1. statics_same d tail (suc i) (suc j) cells (alive + length it.block.shape.cells) (λ n. ap (renumbered o.statics) (later i n) ∙ s (suc n) ∙ sym (later j (renumbered further n))) (λ n. ap (flag_at o.statics) (later j n) ∙ f (suc n))
      (λ is_room. room_behind alive (cells + further_cells_in further others) it its (room is_room)) at1 scope1 memory1 (left_by given (static_leaves model i alive it at many)).0 (left_by given (static_leaves model i alive it at many)).1 h1))
  statics_same (a_further_static {further} {its} {others} it name g d) tail i j cells alive s f room at scope memory many fits h =
      subst (λ n. BeginAlike tail n (j + suc (length further)) (start_statics model i its at) (start_statics model j (it ∷ others) (beside at scope memory))) (regrouped cells (length it.block.shape.cells) (further_cells_in further others))
      (subst (λ n. BeginAlike tail ((cells + length it.block.shape.cells) + further_cells_in further others) n (start_statics model i its at) (start_statics model j (it ∷ others) (beside at scope memory))) (later j (length further))
      (then_begin (Gives tt at) (start_static model j it (beside at scope memory)) (start_statics model i its) (start_statics model (suc j) others)
      (further_same j alive it g (ap (flag_at o.statics) (none_left j) ∙ f 0)
      (λ is_room. room_for_further alive cells (length it.block.shape.cells) (further_cells_in further others) most_cells (room_now alive (cells + (length it.block.shape.cells + further_cells_in further others)) its fits (room is_room))) at scope memory many h)
      (λ at1 scope1 memory1 given h1. statics_same d tail i (suc j) (cells + length it.block.shape.cells) alive (λ n. s n ∙ sym (later j (renumbered further n))) (λ n. ap (flag_at o.statics) (later j n) ∙ f (suc n))
      (λ is_room. subst (HasRoomBeside alive its) (sym (regrouped cells (length it.block.shape.cells) (further_cells_in further others))) (room is_room)) at1 scope1 memory1 (left_by given (many, fits)).0 (left_by given (many, fits)).1 h1)))
