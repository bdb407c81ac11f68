-- Where a struct is copied.
use Rattle.std.proofs.Common.{◌≡◌, ℕ, List, Option, Some, Ok, Bool, refl, ap, sym, ◌∙◌}
use Rattle.lt_model.specs.declared.cell.Address.{Address}
use Rattle.lt_model.specs.declared.cell.Content.{Content}
use Rattle.lt_model.specs.declared.cell.Content.TheVariants as content
use Rattle.lt_model.specs.declared.cell.Shape.{Shape}
use Rattle.lt_model.specs.declared.scalar.DataModel.{DataModel}
use Rattle.lt_model.specs.Memory.{Memory, copy_struct}
use Rattle.lt_model.specs.State.{Gives, Valued}
use Rattle.lt_ir.specs.declared.graph.Graph.{Graph}
use Rattle.lt_ir.specs.declared.code.Code.{Code}
use Rattle.lt_ir.specs.declared.node.Node.TheVariants.{Copy as CopyNode}
use Rattle.lt_ir.specs.Running.{At, Step, changed, gives, ◌>>=◌}
use Rattle.lt_ir.specs.Evaluation.{grown, writes, cells_met, copied, valued}
use Rattle.lt_ir.specs.Graph.{Register, State, Goes, act, with_both, footprint_at, leaves, shape_at, structs_of}
use Rattle.lt_acts.specs.Acts.{on, with_parts, address_at}
use Rattle.lt_acts.proofs.Answering.{next_on, goes_on, changed_to}

abbrev copy_step : DataModel → (p from : ℕ) → Shape → Bool → List Register → Step (Valued Content)
copy_step model p from shape tracks rs =
    address_at rs p >>= (λ a. address_at rs from >>= (λ b. copied tracks model shape a b (footprint_at rs p) >>= (λ footprint. gives (valued (content.Address a) footprint))))

-- a copy that is done
pub copy_goes : (g : Graph) (code : Option Code) (p from k : ℕ) (shape : Shape) (tracks : Bool) (next : ℕ) (rs rs1 : List Register) (m m1 : Memory) (a b : Option Address) (s : State)
    → shape_at (structs_of code) k ≡ shape → ((at : At) → address_at rs p (on m at) ≡ Gives a (on m at)) → ((at : At) → address_at rs from (on m at) ≡ Gives b (on m at))
    → copy_struct g.model m a b shape ≡ Ok m1 → rs1 ≡ with_both rs p (content.Address a) (grown tracks (footprint_at rs p) (writes (cells_met shape.cells a m)))
    → act g code (Some (CopyNode p from k tracks next)) (with_parts s rs m) ≡ Goes (record (with_parts s rs1 m1) { place = next })
copy_goes g code p from k shape tracks next rs rs1 m m1 a b s is_shape ha hb is same =
    goes_on (copy_step g.model p from (shape_at (structs_of code) k) tracks rs) (λ x. leaves (with_parts s rs m) (with_both rs p x.value x.footprint) next) (on m s.at) (on m1 s.at) (valued (content.Address a) (grown tracks (footprint_at rs p) (writes (cells_met shape.cells a m)))) chain
    ∙ ap (λ rs. Goes (record (with_parts s rs m1) { place = next })) (sym same)
  where
    done : copied tracks g.model shape a b (footprint_at rs p) (on m s.at) ≡ Gives (grown tracks (footprint_at rs p) (writes (cells_met shape.cells a m))) (on m1 s.at)
    done = next_on (changed (λ memory. copy_struct g.model memory a b shape)) (λ _. gives (grown tracks (footprint_at rs p) (writes (cells_met shape.cells a m)))) (on m s.at) (on m1 s.at) tt _ (changed_to (λ memory. copy_struct g.model memory a b shape) m m1 s.at is) refl

    chain : copy_step g.model p from (shape_at (structs_of code) k) tracks rs (on m s.at) ≡ Gives (valued (content.Address a) (grown tracks (footprint_at rs p) (writes (cells_met shape.cells a m)))) (on m1 s.at)
    chain = ap (λ shape. copy_step g.model p from shape tracks rs (on m s.at)) is_shape ∙ next_on (address_at rs p) _ (on m s.at) (on m s.at) a _ (ha s.at) (next_on (address_at rs from) _ (on m s.at) (on m s.at) b _ (hb s.at)
        (next_on (copied tracks g.model shape a b (footprint_at rs p)) (λ footprint. gives (valued (content.Address a) footprint)) (on m s.at) (on m1 s.at) (grown tracks (footprint_at rs p) (writes (cells_met shape.cells a m))) _ done refl))
