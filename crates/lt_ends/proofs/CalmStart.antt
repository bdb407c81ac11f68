-- Before the body of the entry begins no tick is spent and no call is made.
use Rattle.std.proofs.Common.{ℕ, suc, List, [], ◌∷◌, Bool, true, false, Option, Some, None, if◌then◌else◌}
use Rattle.std.specs.Prelude.{◌++◌}
use Rattle.lt_model.specs.declared.cell.CellType.{CellType}
use Rattle.lt_model.specs.declared.cell.Content.{Content}
use Rattle.lt_model.specs.declared.cell.Content.TheVariants as content
use Rattle.lt_model.specs.declared.cell.Shape.{Shape}
use Rattle.lt_model.specs.declared.cell.ShapeCell.{ShapeCell}
use Rattle.lt_model.specs.declared.input.BlockIn.{BlockIn}
use Rattle.lt_model.specs.declared.input.Input.{Input}
use Rattle.lt_model.specs.declared.input.CellSet.{CellSet}
use Rattle.lt_model.specs.declared.input.CellSet.TheVariants as cellset
use Rattle.lt_model.specs.declared.scalar.DataModel.{DataModel}
use Rattle.lt_model.specs.State.{untouched}
use Rattle.lt_ir.specs.declared.variable.Variable.TheVariants.{Parameter, Static as StaticObject}
use Rattle.lt_ir.specs.declared.code.Static.{Static}
use Rattle.lt_ir.specs.Running.{gives, created, bound_to, begins, seals}
use Rattle.lt_ir.specs.Evaluation.{stored}
use Rattle.lt_ir.specs.Starting.{Root, put, fill, start_static, start_statics, seal_statics, start_blocks, start_parameters, put_if_there, put_in, set_one, set_all, sets, started, root_among, point_named, type_at, parameter_roots, static_roots}
use Rattle.lt_ends.proofs.CalmSteps.{Calm, calm-bind, calm-then, calm-gives, calm-stored, calm-created, calm-bound_to, calm-begins, calm-seals}

calm-put : (model : DataModel) (block offset : ℕ) (ty : CellType) (c : Content) → Calm (put model block offset ty c)
calm-put model block offset ty c = calm-then (stored false model ty (Some (record { block = block; offset = offset })) c untouched) _ (calm-stored false model ty _ c untouched) (calm-gives (tt {0}))

calm-fill : (model : DataModel) (block : ℕ) (cells : List ShapeCell) (cs : List Content) → Calm (fill model block cells cs)
calm-fill model block [] cs = calm-gives (tt {0})
calm-fill model block (cell ∷ cells) [] = calm-gives (tt {0})
calm-fill model block (cell ∷ cells) (c ∷ cs) = calm-then (put model block cell.offset cell.ty c) _ (calm-put model block cell.offset cell.ty c) (calm-fill model block cells cs)

calm-start_static : (model : DataModel) (k : ℕ) (it : Static) → Calm (start_static model k it)
calm-start_static model k it =
    calm-bind (created it.block.shape true) _ (calm-created it.block.shape true) (λ block. calm-then (fill model block it.block.shape.cells it.cells) (bound_to (StaticObject k) block) (calm-fill model block it.block.shape.cells it.cells) (calm-bound_to (StaticObject k) block))

calm-start_statics : (model : DataModel) (k : ℕ) (its : List Static) → Calm (start_statics model k its)
calm-start_statics model k [] = calm-gives (tt {0})
calm-start_statics model k (it ∷ its) = calm-then (start_static model k it) _ (calm-start_static model k it) (calm-start_statics model (suc k) its)

calm-sealed : (k : ℕ) (b : Bool) → Calm (if b then gives (tt {0}) else seals (StaticObject k))
calm-sealed k true = calm-gives (tt {0})
calm-sealed k false = calm-seals (StaticObject k)

calm-seal_statics : (k : ℕ) (its : List Static) → Calm (seal_statics k its)
calm-seal_statics k [] = calm-gives (tt {0})
calm-seal_statics k (it ∷ its) = calm-then (if it.writable then gives (tt {0}) else seals (StaticObject k)) _ (calm-sealed k it.writable) (calm-seal_statics (suc k) its)

calm-start_blocks : (its : List BlockIn) → Calm (start_blocks its)
calm-start_blocks [] = calm-gives {A = List Root} []
calm-start_blocks (it ∷ its) = calm-bind (created it.shape true) _ (calm-created it.shape true) (λ block. calm-bind (start_blocks its) _ (calm-start_blocks its) (λ roots. calm-gives {A = List Root} (record { name = it.name; block = block; cells = it.shape.cells } ∷ roots)))

calm-start_parameters : (k : ℕ) (shapes : List Shape) → Calm (start_parameters k shapes)
calm-start_parameters k [] = calm-gives (tt {0})
calm-start_parameters k (shape ∷ shapes) = calm-then (begins (Parameter k) shape true) _ (calm-begins (Parameter k) shape true) (calm-start_parameters (suc k) shapes)

calm-put_if_there : (model : DataModel) (block offset : ℕ) (o : Option CellType) (c : Content) → Calm (put_if_there model block offset o c)
calm-put_if_there model block offset None c = calm-gives (tt {0})
calm-put_if_there model block offset (Some ty) c = calm-put model block offset ty c

calm-put_in : (model : DataModel) (o : Option Root) (offset : ℕ) (c : Content) → Calm (put_in model o offset c)
calm-put_in model None offset c = calm-gives (tt {0})
calm-put_in model (Some root) offset c = calm-put_if_there model root.block offset (type_at offset root.cells) c

calm-set_one : (model : DataModel) (roots : List Root) (it : CellSet) → Calm (set_one model roots it)
calm-set_one model roots (cellset.Number p z) = calm-put_in model (root_among roots p.root) p.offset (content.Number z)
calm-set_one model roots (cellset.Point p target) = calm-put_in model (root_among roots p.root) p.offset (content.Address (point_named roots target))

calm-set_all : (model : DataModel) (roots : List Root) (its : List CellSet) → Calm (set_all model roots its)
calm-set_all model roots [] = calm-gives (tt {0})
calm-set_all model roots (it ∷ its) = calm-then (set_one model roots it) _ (calm-set_one model roots it) (calm-set_all model roots its)

calm-sets : (model : DataModel) (statics : List Static) (names : List (List ℕ)) (shapes : List Shape) (its : List CellSet) (roots : List Root) → Calm (sets model statics names shapes its roots)
calm-sets model statics names shapes its roots at = calm-set_all model (parameter_roots at.scope 0 names shapes (roots ++ static_roots 0 statics)) its at

pub calm-started : (model : DataModel) (statics : List Static) (names : List (List ℕ)) (shapes : List Shape) (input : Input) → Calm (started model statics names shapes input)
calm-started model statics names shapes input =
    calm-then (start_statics model 0 statics) _ (calm-start_statics model 0 statics) (calm-bind (start_blocks input.blocks) _ (calm-start_blocks input.blocks) (λ roots.
    calm-then (start_parameters 0 shapes) _ (calm-start_parameters 0 shapes) (calm-then (sets model statics names shapes input.cells roots) (seal_statics 0 statics)
    (calm-sets model statics names shapes input.cells roots) (calm-seal_statics 0 statics))))
