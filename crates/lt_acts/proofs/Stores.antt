-- Where a scalar is stored.
use Rattle.std.proofs.Common.{◌≡◌, ℕ, List, [], ◌∷◌, Option, Some, None, Ok, Err, Result, Bool, true, false, refl, ap, sym, ◌∙◌, if◌then◌else◌}
use Rattle.lt_model.specs.declared.cell.Address.{Address}
use Rattle.lt_model.specs.declared.cell.CellType.{CellType}
use Rattle.lt_model.specs.declared.cell.Content.{Content}
use Rattle.lt_model.specs.declared.cell.StoredCell.{StoredCell}
use Rattle.lt_model.specs.declared.scalar.DataModel.{DataModel}
use Rattle.lt_model.specs.declared.operator.Ub.{Ub}
use Rattle.lt_model.specs.Memory.{Memory, Block, store, object_at, held_at, with_held, before_cells, then_result}
use Rattle.lt_model.specs.State.{Gives, Valued}
use Rattle.lt_ir.specs.Running.{At, Step, absurdity, changed, gives, ◌>>=◌}
use Rattle.std.specs.Prelude.{◌==◌, ◌&&◌}
use Rattle.lt_model.specs.Memory.{corresponds, as_type, replaced}
use Rattle.lt_model.specs.declared.operator.Ub.TheVariants.{Sealed}
use Rattle.std.proofs.Common.{add-zero}
use Rattle.lt_ir.specs.declared.graph.Graph.{Graph}
use Rattle.lt_ir.specs.declared.code.Code.{Code}
use Rattle.lt_ir.specs.declared.node.Node.TheVariants.{Store as StoreNode}
use Rattle.lt_ir.specs.Evaluation.{is_content_of, grown, writes, stored, written, valued}
use Rattle.lt_ir.specs.Graph.{Register, State, Goes, act, content_at, with_both, footprint_at, leaves}
use Rattle.lt_acts.specs.Acts.{on, with_parts, address_at, value_at}
use Rattle.lt_acts.proofs.Answering.{then_on, next_on, goes_on, changed_to}
use Rattle.lt_ir.specs.Evaluation.{cells_met, one_cell, cell_at}

-- a cell that gets a content holds one before
record Held (r : Result Content Ub) : Type 0 where
  content : Content
  is : r ≡ Ok content

with_rest : (o : Option Content) (cell : StoredCell) (r : Result (List StoredCell) Ub) (cells : List StoredCell) → before_cells cell r ≡ Ok cells → (rest : List StoredCell) × (r ≡ Ok rest)
with_rest o cell (Ok rest) cells h = (rest, refl)
with_rest o cell (Err kind) cells h = absurd (cc)

was_held : (model : DataModel) (cells : List StoredCell) (offset : ℕ) (ty : CellType) (c : Content) (after : List StoredCell) → with_held model cells offset ty c ≡ Ok after → Held (held_at cells offset ty)
was_held model [] offset ty c after h = absurd (cc)
was_held model (cell ∷ cells) offset ty c after h = here (cell.offset == offset && corresponds ty cell.ty) h (λ rest e. was_held model cells offset ty c rest e)
  where
    here : (b : Bool) → (if b then Ok (record { offset = cell.offset; ty = cell.ty; holds = as_type model cell.ty c } ∷ cells) else before_cells cell (with_held model cells offset ty c)) ≡ Ok after
        → ((rest : List StoredCell) → with_held model cells offset ty c ≡ Ok rest → Held (held_at cells offset ty)) → Held (if b then Ok cell.holds else held_at cells offset ty)
    here true h below = record { content = cell.holds; is = refl }
    here false h below = let w = with_rest None cell (with_held model cells offset ty c) after h in below w.0 w.1

met_in : (m : Memory) (at : Address) (ty : CellType) (r : Result Block Ub) → (block : Block) → r ≡ Ok block → Held (held_at block.cells at.offset ty) → (elim (then_result r (λ block. held_at block.cells at.offset ty)) [ Ok held ↦ true | Err kind ↦ false ]) ≡ true
met_in m at ty (Ok b) block h held =
    let e : b ≡ block = cc in
    ap (λ (r : Result Content Ub). elim r as (λ _. Bool) [ Ok held ↦ true | Err kind ↦ false ]) (ap (λ (x : Block). held_at x.cells at.offset ty) e ∙ held.is)
met_in m at ty (Err kind) block h held = absurd (cc)

record StoredIn (at : Address) (ty : CellType) (r : Result Block Ub) : Type 0 where
  block : Block
  is : r ≡ Ok block
  held : Held (held_at block.cells at.offset ty)

stored_in : (model : DataModel) (m m1 : Memory) (at : Address) (ty : CellType) (c : Content) (r : Result Block Ub) → then_result r (λ block. then_result (with_held model block.cells at.offset ty c) (λ cells. if block.writable then Ok (replaced m (Some at) block cells) else Err Sealed)) ≡ Ok m1 → StoredIn at ty r
stored_in model m m1 at ty c (Err kind) h = absurd (cc)
stored_in model m m1 at ty c (Ok block) h = into (with_held model block.cells at.offset ty c) refl h
  where
    into : (r : Result (List StoredCell) Ub) → with_held model block.cells at.offset ty c ≡ r → then_result r (λ cells. if block.writable then Ok (replaced m (Some at) block cells) else Err Sealed) ≡ Ok m1 → StoredIn at ty (Ok block)
    into (Err kind) e h = absurd (cc)
    into (Ok cells) e h = record { block = block; is = refl; held = was_held model block.cells at.offset ty c cells e }

-- a cell that is stored into is met
pub store_meets : (model : DataModel) (m m1 : Memory) (a : Option Address) (ty : CellType) (c : Content) → store model m a ty c ≡ Ok m1 → cells_met (one_cell ty) a m ≡ cell_at a 0
unfolding store
store_meets model m m1 None ty c h = refl
store_meets model m m1 (Some at) ty c h =
    let i = stored_in model m m1 at ty c (object_at m (Some at)) h in
    let met : (elim (then_result (object_at m (Some at)) (λ block. held_at block.cells at.offset ty)) as (λ _. Bool) [ Ok held ↦ true | Err kind ↦ false ]) ≡ true = met_in m at ty (object_at m (Some at)) i.block i.is i.held in
    ap (λ b. if b then cell_at (Some at) 0 else []) (ap (λ n. elim (then_result (object_at m (Some at)) (λ block. held_at block.cells n ty)) as (λ _. Bool) [ Ok held ↦ true | Err kind ↦ false ]) (add-zero at.offset) ∙ met)

abbrev pub store_step : DataModel → (p v y : ℕ) → CellType → Bool → List Register → Step (Valued Content)
store_step model p v y ty tracks rs =
    address_at rs p >>= (λ a. value_at rs v >>= (λ c. content_at rs y >>= (λ d. stored tracks model ty a c (footprint_at rs p) >>= (λ footprint. gives (valued d footprint)))))

-- a store that is done
pub store_goes : (g : Graph) (code : Option Code) (p v y : ℕ) (ty : CellType) (tracks : Bool) (next : ℕ) (rs rs1 : List Register) (m m1 : Memory) (to : Option Address) (c d : Content) (s : State)
    → ((at : At) → address_at rs p (on m at) ≡ Gives to (on m at)) → ((at : At) → value_at rs v (on m at) ≡ Gives c (on m at)) → ((at : At) → content_at rs y (on m at) ≡ Gives d (on m at))
    → is_content_of g.model ty c ≡ true → store g.model m to ty c ≡ Ok m1 → rs1 ≡ with_both rs p d (grown tracks (footprint_at rs p) (writes (cell_at to 0)))
    → act g code (Some (StoreNode p v y ty tracks next)) (with_parts s rs m) ≡ Goes (record (with_parts s rs1 m1) { place = next })
store_goes g code p v y ty tracks next rs rs1 m m1 to c d s ha hc hd fits stored_is same =
    goes_on (store_step g.model p v y ty tracks rs) (λ x. leaves (with_parts s rs m) (with_both rs p x.value x.footprint) next) (on m s.at) (on m1 s.at) (valued d (grown tracks (footprint_at rs p) (writes (cell_at to 0)))) chain
    ∙ ap (λ rs. Goes (record (with_parts s rs m1) { place = next })) (sym same)
  where
    done : stored tracks g.model ty to c (footprint_at rs p) (on m s.at) ≡ Gives (grown tracks (footprint_at rs p) (writes (cell_at to 0))) (on m1 s.at)
    done =
        ap (λ (b : Bool). (if b then written tracks (λ memory. store g.model memory to ty c) (one_cell ty) to (footprint_at rs p) else absurdity) (on m s.at)) fits
        ∙ then_on (changed (λ memory. store g.model memory to ty c)) (λ _. gives (grown tracks (footprint_at rs p) (writes (cells_met (one_cell ty) to m)))) (on m s.at) (on m1 s.at) tt (changed_to (λ memory. store g.model memory to ty c) m m1 s.at stored_is)
        ∙ ap (λ cells. Gives (grown tracks (footprint_at rs p) (writes cells)) (on m1 s.at)) (store_meets g.model m m1 to ty c stored_is)

    chain : store_step g.model p v y ty tracks rs (on m s.at) ≡ Gives (valued d (grown tracks (footprint_at rs p) (writes (cell_at to 0)))) (on m1 s.at)
    chain = next_on (address_at rs p) _ (on m s.at) (on m s.at) to _ (ha s.at) (next_on (value_at rs v) _ (on m s.at) (on m s.at) c _ (hc s.at) (next_on (content_at rs y) _ (on m s.at) (on m s.at) d _ (hd s.at) (next_on (stored tracks g.model ty to c (footprint_at rs p)) (λ footprint. gives (valued d footprint)) (on m s.at) (on m1 s.at) (grown tracks (footprint_at rs p) (writes (cell_at to 0))) _ done refl)))
