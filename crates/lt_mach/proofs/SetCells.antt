-- Cells that an input sets.
use Rattle.std.proofs.Common.{◌≡◌, ℕ, ◌+◌, ◌<◌, Bor, List, ◌++◌, length, get_or, drop, drop-cons, Option, Some, Result, sym, subst, ap, ◌∙◌, add-one}
use Rattle.lt_model.specs.declared.cell.CellType.{CellType}
use Rattle.lt_model.specs.declared.cell.Content.{Content}
use Rattle.std.specs.BTreeMap.{BTreeMap}
use Rattle.lt_model.specs.declared.input.BlockIn.{BlockIn}
use Rattle.lt_model.specs.declared.input.CellSet.{CellSet}
use Rattle.lt_model.specs.declared.scalar.DataModel.{DataModel}
use Rattle.lt_model.specs.Memory.{Memory}
use Rattle.lt_ir.specs.declared.code.Static.{Static}
use Rattle.lt_ir.specs.Running.{At, Bound, ◌>>◌}
use Rattle.lt_ir.specs.Starting.{Root, type_at, put_if_there, put_in, set_one, set_all, sets, parameter_roots, static_roots}
use Rattle.lt_ir.specs.Graph.{names_in, shapes_in}
use Rattle.lt_acts.specs.Placing.{standing, Changes}
use Rattle.lt_acts.specs.declared.flow.Stop.{Stop}
use Rattle.lt_mach.specs.Blocks.{roots_from}
use Rattle.lt_mach.specs.Parameters.{Stores, put_at}
use Rattle.lt_mach.specs.Roots.{AreFound}

pub put_some : (model : DataModel) (root : Root) (block offset : ℕ) (ty : CellType) (c : Content) (m m1 : Memory) (result : Result (Unit {0}) Stop) → block ≡ root.block → Some ty ≡ type_at offset root.cells → Stores (put_at model ty (Some (record { block = block; offset = offset })) c) m result m1 → Stores (put_in model (Some root) offset c) m result m1
put_some model root block offset ty c m m1 result b e h =
    subst (λ (o : Option CellType). Stores (put_if_there model root.block offset o c) m result m1) e
    (subst (λ (n : ℕ). Stores (put_at model ty (Some (record { block = n; offset = offset })) c) m result m1) b h)

-- one cell more
pub set_next : (model : DataModel) (list : List Root) (cells : List CellSet) (k : ℕ) (d : CellSet) (at : At) → k < length cells → set_all model list (drop k cells) at ≡ (set_one model list (get_or cells k d) >> set_all model list (drop (k + 1) cells)) at
set_next model list cells k d at h =
    ap (λ l. set_all model list l at) (drop-cons cells k d h)
    ∙ ap (λ j. (set_one model list (get_or cells k d) >> set_all model list (drop j cells)) at) (sym (add-one k))

-- the same of equal values
pub set_so : (model model1 : DataModel) (list : List Root) (it it1 : CellSet) (m m1 : Memory) (result : Result (Unit {0}) Stop) → model ≡ model1 → it ≡ it1 → Stores (set_one model list it) m result m1 → Stores (set_one model1 list it1) m result m1
set_so model model1 list it it1 m m1 result e f h =
    subst (λ (d : DataModel). Stores (set_one d list it1) m result m1) e (subst (λ (x : CellSet). Stores (set_one model list x) m result m1) f h)

-- all cells that an input sets, where the names are found
pub all_set : (model : DataModel) (scope : List Bound) (params params1 : List BlockIn) (first : ℕ) (blocks blocks1 : List BlockIn) (statics statics1 : List Static) (cells cells1 : List CellSet) (m m1 : Memory) (result : Result (Unit {0}) Stop) (roots : BTreeMap (Bor (List ℕ)) Root) → params ≡ params1 → blocks ≡ blocks1 → statics ≡ statics1 → cells ≡ cells1
    → AreFound (parameter_roots scope 0 (names_in params) (shapes_in params) (roots_from first blocks ++ static_roots 0 statics)) roots → ((list : List Root) → AreFound list roots → Stores (set_all model list cells) m result m1)
    → Changes (sets model statics1 (names_in params1) (shapes_in params1) cells1 (roots_from first blocks1)) scope m result scope m1
all_set model scope params params1 first blocks blocks1 statics statics1 cells cells1 m m1 result roots e f g h are sets_all =
    rw (← e, ← f, ← g, ← h) (λ at. sets_all (parameter_roots scope 0 (names_in params) (shapes_in params) (roots_from first blocks ++ static_roots 0 statics)) are (standing scope m at))
