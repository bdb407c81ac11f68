-- Cells that come to a footprint one by one.
use Rattle.std.proofs.Common.{◌≡◌, ℕ, zero, suc, ◌+◌, ◌≤◌, List, [], ◌∷◌, length, drop, drop_of_length-le, Option, Some, None, Ok, Err, Result, is_ok, Bool, true, false, refl, ap, sym, ◌∙◌, append_assoc, if◌then◌else◌}
use Rattle.lt_model.specs.declared.cell.Address.{Address}
use Rattle.lt_model.specs.declared.cell.CellType.{CellType}
use Rattle.lt_model.specs.declared.cell.ShapeCell.{ShapeCell}
use Rattle.lt_model.specs.declared.operator.Ub.{Ub}
use Rattle.lt_model.specs.Memory.{Memory, object_at, held_at, then_result}
use Rattle.lt_model.specs.State.{Footprint, CellName, joined, meets}
use Rattle.lt_ir.specs.Evaluation.{cells_met, is_met, further, reads, writes}
use Rattle.lt_ir.specs.Graph.{Register, State, Goes, Stops, act, leaves, parted, structs_of, with_footprint, footprint_at, cells_of}
use Rattle.lt_model.specs.declared.cell.Shape.{Shape}
use Rattle.lt_model.specs.declared.run.End.{End}
use Rattle.lt_model.specs.declared.operator.Ub.TheVariants.{Unsequenced}
use Rattle.lt_model.specs.State.{Gives, Ends}
use Rattle.lt_ir.specs.declared.graph.Graph.{Graph}
use Rattle.lt_ir.specs.declared.code.Code.{Code}
use Rattle.lt_ir.specs.declared.node.Access.{Access}
use Rattle.lt_ir.specs.declared.node.Node.TheVariants.{Clash as ClashNode}
use Rattle.lt_ir.specs.declared.node.Parts.TheVariants.{Target}
use Rattle.lt_ir.specs.Running.{At, Answer, defined, gives, ◌>>=◌}
use Rattle.lt_ir.specs.Evaluation.{aimed}
use Rattle.lt_acts.specs.Acts.{on, with_parts, address_at}
use Rattle.lt_acts.specs.Noting.{target}
use Rattle.lt_acts.proofs.Answering.{then_on, goes_on, ends_on, ends_first}
use Rattle.lt_acts.specs.declared.tracking.Side.{Side}
use Rattle.lt_acts.specs.declared.tracking.Side.TheVariants.{Read, Written}
use Rattle.lt_acts.specs.Noting.{noted}
use Rattle.lt_acts.proofs.Answering.{same_put, none_read, none_written}

ok_of : {A : Type 0} (r : Result A Ub) → (elim r as (λ _. Bool) [ Ok held ↦ true | Err kind ↦ false ]) ≡ is_ok r
ok_of (Ok a) = refl
ok_of (Err kind) = refl

pub met_is : (m : Memory) (at : Address) (offset : ℕ) (ty : CellType) → is_ok (then_result (object_at m (Some at)) (λ block. held_at block.cells (at.offset + offset) ty)) ≡ is_met m (further offset (Some at)) ty
met_is m at offset ty = sym (ok_of (then_result (object_at m (Some at)) (λ block. held_at block.cells (at.offset + offset) ty)))

joined_more : (p q q1 : Footprint) → joined (joined p q) q1 ≡ joined p (joined q q1)
joined_more p q q1 = simp append_assoc

-- two footprints after another
pub noted_more : (rs : List Register) (r : ℕ) (q q1 : Footprint) → with_footprint (with_footprint rs r (joined (footprint_at rs r) q)) r (joined (footprint_at (with_footprint rs r (joined (footprint_at rs r) q)) r) q1) ≡ with_footprint rs r (joined (footprint_at rs r) (joined q q1))
noted_more [] r q q1 = refl
noted_more (it ∷ its) zero q q1 = ap (λ p. record { content = it.content; footprint = p } ∷ its) (joined_more it.footprint q q1)
noted_more (it ∷ its) (suc r) q q1 = ap (λ rs. it ∷ rs) (noted_more its r q q1)

noted_cons : (side : Side) (x : CellName) (xs : List CellName) → joined (noted side (x ∷ [])) (noted side xs) ≡ noted side (x ∷ xs)
noted_cons Read x xs = refl
noted_cons Written x xs = refl

noted_none : (side : Side) (p : Footprint) → joined p (noted side []) ≡ p
noted_none Read p = none_read p
noted_none Written p = none_written p

-- what is left of the cells is still to come to the footprint
abbrev pub to_come : Side → List Register → ℕ → Address → List ShapeCell → Memory → List Register
to_come side rs r at cells m = with_footprint rs r (joined (footprint_at rs r) (noted side (cells_met cells (Some at) m)))

pub all_came : (side : Side) (rs : List Register) (r : ℕ) (at : Address) (cells : List ShapeCell) (i : ℕ) (m : Memory) → length cells ≤ i → to_come side rs r at (drop i cells) m ≡ rs
all_came side rs r at cells i m h =
    ap (λ cells. to_come side rs r at cells m) (drop_of_length-le cells h) ∙ ap (with_footprint rs r) (noted_none side (footprint_at rs r)) ∙ same_put rs r

pub one_came : (side : Side) (rs rs1 : List Register) (r : ℕ) (at : Address) (cell : ShapeCell) (cells : List ShapeCell) (m : Memory) → is_met m (further cell.offset (Some at)) cell.ty ≡ true
    → rs1 ≡ with_footprint rs r (joined (footprint_at rs r) (noted side (record { block = at.block; offset = at.offset + cell.offset } ∷ []))) → to_come side rs1 r at cells m ≡ to_come side rs r at (cell ∷ cells) m
one_came side rs rs1 r at cell cells m h i =
    ap (λ rs. to_come side rs r at cells m) i ∙ noted_more rs r _ (noted side (cells_met cells (Some at) m))
    ∙ ap (λ p. with_footprint rs r (joined (footprint_at rs r) p)) (noted_cons side _ (cells_met cells (Some at) m) ∙ ap (λ b. noted side (if b then record { block = at.block; offset = at.offset + cell.offset } ∷ cells_met cells (Some at) m else cells_met cells (Some at) m)) (sym h))

pub none_came : (side : Side) (rs : List Register) (r : ℕ) (at : Address) (cell : ShapeCell) (cells : List ShapeCell) (m : Memory) → is_met m (further cell.offset (Some at)) cell.ty ≡ false
    → to_come side rs r at cells m ≡ to_come side rs r at (cell ∷ cells) m
none_came side rs r at cell cells m h =
    ap (λ b. with_footprint rs r (joined (footprint_at rs r) (noted side (if b then record { block = at.block; offset = at.offset + cell.offset } ∷ cells_met cells (Some at) m else cells_met cells (Some at) m)))) (sym h)

cells_none : (cells : List ShapeCell) (m : Memory) → cells_met cells None m ≡ []
cells_none [] m = refl
cells_none (cell ∷ cells) m = cells_none cells m

-- null has no cells
pub nothing_met : (cells : List ShapeCell) (m : Memory) (others : List CellName) → meets (cells_met cells None m) others ≡ false
nothing_met cells m others = ap (λ xs. meets xs others) (cells_none cells m)

pub nothing_read : (rs : List Register) (r : ℕ) (cells : List ShapeCell) (m : Memory) → with_footprint rs r (joined (footprint_at rs r) (reads (cells_met cells None m))) ≡ rs
nothing_read rs r cells m = ap (λ xs. with_footprint rs r (joined (footprint_at rs r) (reads xs))) (cells_none cells m) ∙ ap (with_footprint rs r) (none_read (footprint_at rs r)) ∙ same_put rs r

aimed_gives : (rs : List Register) (r : ℕ) (b : Bool) (at : At) →
    elim ((if b then defined (Err Unsequenced) else gives (footprint_at rs r)) at) as (λ _. Answer (List Register)) [ Gives p at1 ↦ Gives (with_footprint rs r p) at1 | Ends end at1 ↦ Ends end at1 ]
    ≡ elim (elim ((if b then defined (Err Unsequenced) else gives (footprint_at rs r)) at) as (λ _. Answer (Unit {0})) [ Gives p at1 ↦ Gives tt at1 | Ends end at1 ↦ Ends end at1 ]) as (λ _. Answer (List Register)) [ Gives p at1 ↦ Gives rs at1 | Ends end at1 ↦ Ends end at1 ]
aimed_gives rs r true at = refl
aimed_gives rs r false at = ap (λ rs. Gives rs at) (same_put rs r)

target_at : (structs : List Shape) (rs : List Register) (r : ℕ) (access : Access) (m : Answer (Option Address)) →
    elim m as (λ _. Answer (List Register)) [ Gives a at ↦ (aimed true (cells_of structs access) a (footprint_at rs r) >>= (λ p. gives (with_footprint rs r p))) at | Ends end at ↦ Ends end at ]
    ≡ elim (elim m as (λ _. Answer (Unit {0})) [ Gives a at ↦ (aimed true (cells_of structs access) a (footprint_at rs r) >>= (λ _. gives tt)) at | Ends end at ↦ Ends end at ]) as (λ _. Answer (List Register)) [ Gives p at1 ↦ Gives rs at1 | Ends end at1 ↦ Ends end at1 ]
target_at structs rs r access (Gives a at) = aimed_gives rs r (meets (cells_met (cells_of structs access) a at.memory) (footprint_at rs r).pending) at
target_at structs rs r access (Ends end at) = refl

-- where the target doesn't clash the registers stay
pub target_is : (structs : List Shape) (rs : List Register) (r : ℕ) (access : Access) (at : At) → parted structs rs (Target r access) at ≡ (target structs rs r access >>= (λ _. gives rs)) at
target_is structs rs r access at = target_at structs rs r access (address_at rs r at)

pub target_goes : (g : Graph) (code : Option Code) (structs : List Shape) (rs : List Register) (r : ℕ) (access : Access) (next : ℕ) (m : Memory) (s : State) → structs_of code ≡ structs
    → ((at : At) → target structs rs r access (on m at) ≡ Gives tt (on m at)) → act g code (Some (ClashNode (Target r access) next)) (with_parts s rs m) ≡ Goes (record (with_parts s rs m) { place = next })
target_goes g code structs rs r access next m s same h =
    goes_on (parted (structs_of code) rs (Target r access)) (λ rs. leaves (with_parts s rs m) rs next) (on m s.at) (on m s.at) rs
    (ap (λ structs. parted structs rs (Target r access) (on m s.at)) same ∙ target_is structs rs r access (on m s.at) ∙ then_on (target structs rs r access) (λ _. gives rs) (on m s.at) (on m s.at) tt (h s.at))

pub target_ends : (g : Graph) (code : Option Code) (structs : List Shape) (rs : List Register) (r : ℕ) (access : Access) (next : ℕ) (m : Memory) (s : State) (end : End) → structs_of code ≡ structs
    → ((at : At) → target structs rs r access (on m at) ≡ Ends end (on m at)) → act g code (Some (ClashNode (Target r access) next)) (with_parts s rs m) ≡ Stops end (on m s.at)
target_ends g code structs rs r access next m s end same h =
    ends_on (parted (structs_of code) rs (Target r access)) (λ rs. leaves (with_parts s rs m) rs next) (on m s.at) (on m s.at) end
    (ap (λ structs. parted structs rs (Target r access) (on m s.at)) same ∙ target_is structs rs r access (on m s.at) ∙ ends_first (target structs rs r access) (λ _. gives rs) (on m s.at) (on m s.at) end (h s.at))

pub nothing_written : (rs : List Register) (r : ℕ) (cells : List ShapeCell) (m : Memory) → with_footprint rs r (joined (footprint_at rs r) (writes (cells_met cells None m))) ≡ rs
nothing_written rs r cells m = ap (λ xs. with_footprint rs r (joined (footprint_at rs r) (writes xs))) (cells_none cells m) ∙ ap (with_footprint rs r) (none_written (footprint_at rs r)) ∙ same_put rs r
