-- What an input sets is set alike where types have other numbers: cells of objects by their types, and cells of the input's blocks since each is the first at its
-- offset, whatever number its type has.
use Rattle.std.proofs.Common.{◌≡◌, ℕ, List, [], ◌∷◌, ◌++◌, map, Option, Some, None, Bool, true, false, refl, sym, ap, ◌∙◌, subst}
use Rattle.std.proofs.lemmas.List.{map-append}
use Rattle.std.specs.Prelude.{◌==◌, if◌then◌else◌, Result, Ok, Err, slice_get}
use Rattle.std.specs.Str.{bytes_eq}
use Rattle.lt_model.specs.declared.cell.Address.{Address}
use Rattle.lt_model.specs.declared.cell.CellType.{CellType}
use Rattle.lt_model.specs.declared.cell.CellType.TheVariants.{Num, Pointer}
use Rattle.lt_model.specs.declared.cell.Content.{Content}
use Rattle.lt_model.specs.declared.cell.Content.TheVariants as content
use Rattle.lt_model.specs.declared.cell.Shape.{Shape}
use Rattle.lt_model.specs.declared.cell.ShapeCell.{ShapeCell}
use Rattle.lt_model.specs.declared.input.Place.{Place}
use Rattle.lt_model.specs.declared.input.CellSet.{CellSet}
use Rattle.lt_model.specs.declared.input.CellSet.TheVariants as cellset
use Rattle.lt_model.specs.declared.operator.Ub.{Ub}
use Rattle.lt_model.specs.declared.run.End.TheVariants.{Undefined, Stopped}
use Rattle.lt_model.specs.declared.scalar.DataModel.{DataModel}
use Rattle.lt_model.specs.Memory.{Memory, store}
use Rattle.lt_model.specs.State.{untouched, Gives, Ends}
use Rattle.lt_ir.specs.declared.code.Static.{Static}
use Rattle.lt_ir.specs.Running.{At, Answer, Step, ◌>>◌, gives, absurdity, changed}
use Rattle.lt_ir.specs.Evaluation.{is_content_of, stored}
use Rattle.lt_ir.specs.Starting.{Root, put, parameter_roots, static_roots, root_among, address_named, point_named, type_at, put_if_there, put_in, set_one, set_all, sets}
use Rattle.lt_type_laws.specs.Renumbered.{cell_type_with, shape_cell_with, shape_with}
use Rattle.lt_type_laws.proofs.Cells.{store_of}
use Rattle.lt_type_laws.proofs.Memory.{Comparison, Fits, option_with, MeetAlike, ShapeMeets}
use Rattle.lt_type_laws.proofs.Alike.{other, Alike, Same, alike_then, then_same, gives_same, over_same}
use Rattle.lt_type_laws.proofs.Machine.{ShapesFit, changed_by, stored_same}
use Rattle.lt_type_laws.proofs.Standing.{standing, first_stored}
use Rattle.lt_type_laws.proofs.Growing.{Grows, put_in_grows}
use Rattle.lt_type_laws.proofs.Roots.{static_with, root_with, Reached, by_types, in_block, AllReached, Sets, then_sets, anywhere, parameters_with, statics_with, StaticsFit, parameters_reached, statics_reached, both_reached}

module _ (seen : Comparison) where
  abbrev S : {A : Type 0} → Step A → Step A → Type 0
  S s t = Same seen s t

  -- ---- a cell that is set

  pub put_same : (m : DataModel) (block offset : ℕ) {ty twin : CellType} (c : Content) → MeetAlike seen ty twin → S (put m block offset ty c) (put m block offset twin c)
  put_same m block offset c d = then_same seen _ _ _ _ (stored_same seen false m (Some (record { block = block; offset = offset })) c untouched d) (λ _. gives_same seen tt)

  content_with : (m : DataModel) (ty : CellType) (c : Content) → is_content_of m (cell_type_with seen.numbers ty) c ≡ is_content_of m ty c
  content_with m (Num s) c = refl
  content_with m (Pointer k) content.Unset = refl
  content_with m (Pointer k) (content.Number z) = refl
  content_with m (Pointer k) (content.Address a) = refl

  abbrev stores : DataModel → Address → CellType → Content → Memory → Result Memory Ub
  stores m a ty c memory = store m memory (Some a) ty c

  -- the first cell at an offset of a block
  module _ (m : DataModel) (a : Address) (cells : List ShapeCell) (ty : CellType) (c : Content) (first : type_at a.offset cells ≡ Some ty) (at : At) (fits : Fits seen at.memory)
      (there : slice_get (standing at.memory) a.block ≡ Some cells) where
    change_first : Alike seen (changed (stores m a ty c) at) (changed (stores m a (cell_type_with seen.numbers ty) c) (other seen at))
    change_first =
        subst (λ (x : Result Memory Ub). Alike seen {A = Unit {0}} (changed (stores m a ty c) at) (elim (x) as (λ _. Answer (Unit {0})) [ Ok memory ↦ Gives tt (record (other seen at) { memory = memory }) | Err kind ↦ Ends (Undefined kind) (other seen at) ]))
        (sym (first_stored seen m at.memory a cells ty c there first)) (changed_by seen (store m at.memory (Some a) ty c) at (λ after e. store_of seen.held m (Some a) ty c at.memory after fits e))

    store_first : (b d : Bool) → d ≡ b
        → Alike seen ((if b then (changed (stores m a ty c) >> gives untouched) else absurdity) at) ((if d then (changed (stores m a (cell_type_with seen.numbers ty) c) >> gives untouched) else absurdity) (other seen at))
    store_first true true e = alike_then seen (changed (stores m a ty c) at) (changed (stores m a (cell_type_with seen.numbers ty) c) (other seen at)) (λ _. gives untouched) (λ _. gives untouched) change_first (λ _. gives_same seen untouched)
    store_first false false e = (over_same seen _ Stopped).alike at fits
    store_first true false e = cc
    store_first false true e = cc

    put_first : Alike seen (put m a.block a.offset ty c at) (put m a.block a.offset (cell_type_with seen.numbers ty) c (other seen at))
    put_first =
        alike_then seen (stored false m ty (Some a) c untouched at) (stored false m (cell_type_with seen.numbers ty) (Some a) c untouched (other seen at)) (λ _. gives tt) (λ _. gives tt)
        (store_first (is_content_of m ty c) (is_content_of m (cell_type_with seen.numbers ty) c) (content_with m ty c)) (λ _. gives_same seen tt)

  type_with : (offset : ℕ) (cells : List ShapeCell) → type_at offset (map (shape_cell_with seen.numbers) cells) ≡ option_with (cell_type_with seen.numbers) (type_at offset cells)
  type_with offset [] = refl
  type_with offset (cell ∷ cells) = by (cell.offset == offset) (type_with offset cells)
    where
      by : (b : Bool) → type_at offset (map (shape_cell_with seen.numbers) cells) ≡ option_with (cell_type_with seen.numbers) (type_at offset cells)
          → (if b then Some (cell_type_with seen.numbers cell.ty) else type_at offset (map (shape_cell_with seen.numbers) cells)) ≡ option_with (cell_type_with seen.numbers) (if b then Some cell.ty else type_at offset cells)
      by true h = refl
      by false h = h

  -- ---- by a root

  -- by the types of its cells
  types_put : (m : DataModel) (block offset : ℕ) (cells : List ShapeCell) (c : Content) → ShapeMeets seen cells
      → S (put_if_there m block offset (type_at offset cells) c) (put_if_there m block offset (type_at offset (map (shape_cell_with seen.numbers) cells)) c)
  types_put m block offset [] c h = gives_same seen tt
  types_put m block offset (cell ∷ cells) c h = by (cell.offset == offset) (types_put m block offset cells c h.1)
    where
      by : (b : Bool) → S (put_if_there m block offset (type_at offset cells) c) (put_if_there m block offset (type_at offset (map (shape_cell_with seen.numbers) cells)) c)
          → S (put_if_there m block offset (if b then Some cell.ty else type_at offset cells) c) (put_if_there m block offset (if b then Some (cell_type_with seen.numbers cell.ty) else type_at offset (map (shape_cell_with seen.numbers) cells)) c)
      by true g = put_same m block offset c h.0
      by false g = g

  -- by its block
  block_put : (m : DataModel) (block offset : ℕ) (cells : List ShapeCell) (c : Content) (found : Option CellType) → type_at offset cells ≡ found → (at : At) → Fits seen at.memory → slice_get (standing at.memory) block ≡ Some cells
      → Alike seen (put_if_there m block offset found c at) (put_if_there m block offset (option_with (cell_type_with seen.numbers) found) c (other seen at))
  block_put m block offset cells c None first at fits there = (gives_same seen tt).alike at fits
  block_put m block offset cells c (Some ty) first at fits there = put_first m (record { block = block; offset = offset }) cells ty c first at fits there

  root_put : (m : DataModel) (root : Root) (offset : ℕ) (c : Content) (at : At) → Fits seen at.memory → Reached seen (standing at.memory) root
      → Alike seen (put_in m (Some root) offset c at) (put_in m (Some (root_with seen.numbers root)) offset c (other seen at))
  root_put m root offset c at fits (by_types h) = (types_put m root.block offset root.cells c h).alike at fits
  root_put m root offset c at fits (in_block there) =
      subst (λ found. Alike seen (put_in m (Some root) offset c at) (put_if_there m root.block offset found c (other seen at))) (sym (type_with offset root.cells))
      (block_put m root.block offset root.cells c (type_at offset root.cells) refl at fits there)

  -- ---- by the names of roots

  found_with : (roots : List Root) (name : List ℕ) → root_among (map (root_with seen.numbers) roots) name ≡ option_with (root_with seen.numbers) (root_among roots name)
  found_with [] name = refl
  found_with (root ∷ roots) name = by (bytes_eq root.name name) (found_with roots name)
    where
      by : (b : Bool) → root_among (map (root_with seen.numbers) roots) name ≡ option_with (root_with seen.numbers) (root_among roots name)
          → (if b then Some (root_with seen.numbers root) else root_among (map (root_with seen.numbers) roots) name) ≡ option_with (root_with seen.numbers) (if b then Some root else root_among roots name)
      by true h = refl
      by false h = h

  address_with : (roots : List Root) (p : Place) → address_named (map (root_with seen.numbers) roots) p ≡ address_named roots p
  address_with roots p =
      ap (λ (found : Option Root). elim (found) as (λ _. Option Address) [ None ↦ None | Some root ↦ Some (record { block = root.block; offset = p.offset }) ]) (found_with roots p.root) ∙ by (root_among roots p.root)
    where
      by : (found : Option Root) → elim (option_with (root_with seen.numbers) found) as (λ _. Option Address) [ None ↦ None | Some root ↦ Some (record { block = root.block; offset = p.offset }) ]
          ≡ elim (found) as (λ _. Option Address) [ None ↦ None | Some root ↦ Some (record { block = root.block; offset = p.offset }) ]
      by None = refl
      by (Some root) = refl

  point_with : (roots : List Root) (p : Option Place) → point_named (map (root_with seen.numbers) roots) p ≡ point_named roots p
  point_with roots None = refl
  point_with roots (Some p) = address_with roots p

  named_put : (m : DataModel) (roots : List Root) (name : List ℕ) (offset : ℕ) (c : Content) (at : At) → Fits seen at.memory → AllReached seen (standing at.memory) roots
      → Alike seen (put_in m (root_among roots name) offset c at) (put_in m (option_with (root_with seen.numbers) (root_among roots name)) offset c (other seen at))
  named_put m [] name offset c at fits h = (gives_same seen tt).alike at fits
  named_put m (root ∷ roots) name offset c at fits h = by (bytes_eq root.name name) (named_put m roots name offset c at fits h.1)
    where
      by : (b : Bool) → Alike seen (put_in m (root_among roots name) offset c at) (put_in m (option_with (root_with seen.numbers) (root_among roots name)) offset c (other seen at))
          → Alike seen (put_in m (if b then Some root else root_among roots name) offset c at) (put_in m (option_with (root_with seen.numbers) (if b then Some root else root_among roots name)) offset c (other seen at))
      by true g = root_put m root offset c at fits h.0
      by false g = g

  place_put : (m : DataModel) (roots : List Root) (p : Place) (c : Content) → Sets seen roots (put_in m (root_among roots p.root) p.offset c) (put_in m (root_among (map (root_with seen.numbers) roots) p.root) p.offset c)
  place_put m roots p c =
      subst (λ found. Sets seen roots (put_in m (root_among roots p.root) p.offset c) (put_in m found p.offset c)) (sym (found_with roots p.root))
      (record { alike = λ at fits reached. named_put m roots p.root p.offset c at fits reached })

  -- ---- all that is set

  one_set : (m : DataModel) (roots : List Root) (it : CellSet) → Sets seen roots (set_one m roots it) (set_one m (map (root_with seen.numbers) roots) it)
  one_set m roots (cellset.Number p z) = place_put m roots p (content.Number z)
  one_set m roots (cellset.Point p target) =
      subst (λ a. Sets seen roots (set_one m roots (cellset.Point p target)) (put_in m (root_among (map (root_with seen.numbers) roots) p.root) p.offset (content.Address a))) (sym (point_with roots target))
      (place_put m roots p (content.Address (point_named roots target)))

  all_set : (m : DataModel) (roots : List Root) (its : List CellSet) → Sets seen roots (set_all m roots its) (set_all m (map (root_with seen.numbers) roots) its)
  all_set m roots [] = anywhere seen roots _ _ (gives_same seen tt)
  all_set m roots (it ∷ its) = then_sets seen roots (set_one m roots it) (set_one m (map (root_with seen.numbers) roots) it) _ _ (grows it) (one_set m roots it) (λ _. all_set m roots its)
    where
      grows : (it : CellSet) → Grows (set_one m roots it)
      grows (cellset.Number p z) = put_in_grows m (root_among roots p.root) p.offset (content.Number z)
      grows (cellset.Point p target) = put_in_grows m (root_among roots p.root) p.offset (content.Address (point_named roots target))

  pub sets_same : (m : DataModel) (statics : List Static) (names : List (List ℕ)) (shapes : List Shape) (its : List CellSet) (roots : List Root) → StaticsFit seen statics → ShapesFit seen shapes
      → Sets seen roots (sets m statics names shapes its roots) (sets m (map (static_with seen.numbers) statics) names (map (shape_with seen.numbers) shapes) its (map (root_with seen.numbers) roots))
  sets_same m statics names shapes its roots h g = record {
    alike = λ at fits reached.
        subst (λ them. Alike seen (sets m statics names shapes its roots at) (set_all m them its (other seen at)))
        (sym
        (ap (λ more. parameter_roots at.scope 0 names (map (shape_with seen.numbers) shapes) (map (root_with seen.numbers) roots ++ more)) (statics_with seen 0 statics)
        ∙ ap (parameter_roots at.scope 0 names (map (shape_with seen.numbers) shapes)) (sym (map-append (root_with seen.numbers) roots (static_roots 0 statics)))
        ∙ parameters_with seen at.scope 0 names shapes (roots ++ static_roots 0 statics)))
        ((all_set m (parameter_roots at.scope 0 names shapes (roots ++ static_roots 0 statics)) its).alike at fits
        (parameters_reached seen (standing at.memory) at.scope 0 names shapes (roots ++ static_roots 0 statics) g
        (both_reached seen (standing at.memory) roots (static_roots 0 statics) reached (statics_reached seen (standing at.memory) 0 statics h))));
  }
