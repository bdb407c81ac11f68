-- Where a scalar is loaded.
use Rattle.std.proofs.Common.{◌≡◌, ℕ, List, Option, Some, Ok, Bool, refl, ap, sym, ◌∙◌}
use Rattle.lt_model.specs.declared.cell.Address.{Address}
use Rattle.lt_model.specs.declared.cell.CellType.{CellType}
use Rattle.lt_model.specs.declared.cell.Content.{Content}
use Rattle.lt_model.specs.declared.scalar.DataModel.{DataModel}
use Rattle.lt_model.specs.Memory.{Memory, load}
use Rattle.lt_model.specs.State.{Gives, Valued}
use Rattle.lt_ir.specs.declared.graph.Graph.{Graph}
use Rattle.lt_ir.specs.declared.code.Code.{Code}
use Rattle.lt_ir.specs.declared.node.Node.TheVariants.{Load as LoadNode}
use Rattle.lt_ir.specs.Running.{At, Step, asked, gives, ◌>>=◌}
use Rattle.lt_ir.specs.Evaluation.{grown, reads, cell_at, loaded, valued}
use Rattle.lt_ir.specs.Graph.{Register, State, Goes, act, with_content, with_footprint, footprint_at, leaves}
use Rattle.lt_acts.specs.Acts.{on, with_parts, address_at}
use Rattle.lt_acts.proofs.Answering.{next_on, goes_on, asked_for}

abbrev load_step : DataModel → (from : ℕ) → CellType → Bool → List Register → Step (Valued Content)
load_step model from ty tracks rs = address_at rs from >>= (λ a. loaded tracks model ty (valued a (footprint_at rs from)))

-- a load that is done
pub load_goes : (g : Graph) (code : Option Code) (to from : ℕ) (ty : CellType) (tracks : Bool) (next : ℕ) (rs rs1 : List Register) (m : Memory) (a : Option Address) (c : Content) (s : State)
    → ((at : At) → address_at rs from (on m at) ≡ Gives a (on m at)) → load g.model m a ty ≡ Ok c
    → rs1 ≡ with_content (with_footprint rs from (grown tracks (footprint_at rs from) (reads (cell_at a 0)))) to c
    → act g code (Some (LoadNode to from ty tracks next)) (with_parts s rs m) ≡ Goes (record (with_parts s rs1 m) { place = next })
load_goes g code to from ty tracks next rs rs1 m a c s ha is same =
    goes_on (load_step g.model from ty tracks rs) (λ x. leaves (with_parts s rs m) (with_content (with_footprint rs from x.footprint) to x.value) next) (on m s.at) (on m s.at) (valued c (grown tracks (footprint_at rs from) (reads (cell_at a 0)))) chain
    ∙ ap (λ rs. Goes (record (with_parts s rs m) { place = next })) (sym same)
  where
    chain : load_step g.model from ty tracks rs (on m s.at) ≡ Gives (valued c (grown tracks (footprint_at rs from) (reads (cell_at a 0)))) (on m s.at)
    chain = next_on (address_at rs from) _ (on m s.at) (on m s.at) a _ (ha s.at)
        (next_on (asked (λ memory. load g.model memory a ty)) (λ c. gives (valued c (grown tracks (footprint_at rs from) (reads (cell_at a 0))))) (on m s.at) (on m s.at) c _ (asked_for (λ memory. load g.model memory a ty) m s.at c is) refl)
