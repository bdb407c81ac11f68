-- A run begins alike where types have other numbers.
use Rattle.std.proofs.Common.{ℕ, suc, List, [], ◌∷◌, map, true}
use Rattle.lt_model.specs.declared.cell.Content.{Content}
use Rattle.lt_model.specs.declared.cell.Shape.{Shape}
use Rattle.lt_model.specs.declared.cell.ShapeCell.{ShapeCell}
use Rattle.lt_model.specs.declared.input.Input.{Input}
use Rattle.lt_model.specs.declared.scalar.DataModel.{DataModel}
use Rattle.lt_ir.specs.declared.variable.Variable.TheVariants.{Parameter, Static as StaticObject}
use Rattle.lt_ir.specs.declared.code.Static.{Static}
use Rattle.lt_ir.specs.Running.{Step, gives, seals}
use Rattle.lt_ir.specs.Starting.{fill, start_static, start_statics, seal_statics, start_parameters, started}
use Rattle.lt_type_laws.specs.Renumbered.{shape_cell_with, shape_with, input_with}
use Rattle.lt_type_laws.specs.TypeLists.{AreOf}
use Rattle.lt_type_laws.proofs.Memory.{Comparison, ShapeMeets, ShapeFits}
use Rattle.lt_type_laws.proofs.Alike.{Same, then_same, gives_same, if_same}
use Rattle.lt_type_laws.proofs.Machine.{ShapesFit, created_same, bound_same, begins_same, seals_same}
use Rattle.lt_type_laws.proofs.Growing.{parameters_grow}
use Rattle.lt_type_laws.proofs.Roots.{static_with, then_sets, sets_then, anywhere, blocks_then, StaticsFit}
use Rattle.lt_type_laws.proofs.Setting.{put_same, sets_same}

module _ (seen : Comparison) where
  abbrev S : {A : Type 0} → Step A → Step A → Type 0
  S s t = Same seen s t

  -- ---- objects that are there from the start

  fill_same : (m : DataModel) (block : ℕ) (cells : List ShapeCell) (cs : List Content) → ShapeMeets seen cells → S (fill m block cells cs) (fill m block (map (shape_cell_with seen.numbers) cells) cs)
  fill_same m block [] cs h = gives_same seen tt
  fill_same m block (cell ∷ cells) [] h = gives_same seen tt
  fill_same m block (cell ∷ cells) (c ∷ cs) h = then_same seen _ _ _ _ (put_same seen m block cell.offset c h.0) (λ _. fill_same m block cells cs h.1)

  static_same : (m : DataModel) (k : ℕ) (it : Static) → ShapeFits seen it.block.shape.cells → S (start_static m k it) (start_static m k (static_with seen.numbers it))
  static_same m k it h =
      then_same seen _ _ _ _ (created_same seen it.block.shape true h.0) (λ block. then_same seen _ _ _ _ (fill_same m block it.block.shape.cells it.cells h.1) (λ _. bound_same seen (StaticObject k) block))

  statics_same : (m : DataModel) (k : ℕ) (its : List Static) → StaticsFit seen its → S (start_statics m k its) (start_statics m k (map (static_with seen.numbers) its))
  statics_same m k [] h = gives_same seen tt
  statics_same m k (it ∷ its) h = then_same seen _ _ _ _ (static_same m k it h.0) (λ _. statics_same m (suc k) its h.1)

  seal_statics_same : (k : ℕ) (its : List Static) → S (seal_statics k its) (seal_statics k (map (static_with seen.numbers) its))
  seal_statics_same k [] = gives_same seen tt
  seal_statics_same k (it ∷ its) =
      then_same seen _ _ _ _ (if_same seen it.writable (gives (tt {0})) (seals (StaticObject k)) (gives (tt {0})) (seals (StaticObject k)) (gives_same seen tt) (seals_same seen (StaticObject k))) (λ _. seal_statics_same (suc k) its)

  start_parameters_same : (k : ℕ) (shapes : List Shape) → ShapesFit seen shapes → S (start_parameters k shapes) (start_parameters k (map (shape_with seen.numbers) shapes))
  start_parameters_same k [] h = gives_same seen tt
  start_parameters_same k (shape ∷ shapes) h = then_same seen _ _ _ _ (begins_same seen (Parameter k) shape true h.0.0) (λ _. start_parameters_same (suc k) shapes h.1)

  -- ---- all of it

  pub started_same : (m : DataModel) (statics : List Static) (names : List (List ℕ)) (shapes : List Shape) (input : Input) → StaticsFit seen statics → ShapesFit seen shapes → AreOf seen.held input.blocks
      → S (started m statics names shapes input) (started m (map (static_with seen.numbers) statics) names (map (shape_with seen.numbers) shapes) (input_with seen.numbers input))
  started_same m statics names shapes input h g f =
      then_same seen _ _ _ _ (statics_same m 0 statics h) (λ _. blocks_then seen input.blocks _ _ f (λ roots.
      then_sets seen roots _ _ _ _ (parameters_grow 0 shapes) (anywhere seen roots _ _ (start_parameters_same 0 shapes g)) (λ _.
      sets_then seen roots _ _ _ _ (sets_same seen m statics names shapes input.cells roots h g) (λ _. seal_statics_same 0 statics))))
