-- What operators of pure expressions give behind their operands.
use Rattle.std.specs.Prelude.{ℕ}
use Rattle.lt_model.specs.declared.cell.CellType.{CellType}
use Rattle.lt_model.specs.declared.cell.Content.{Content}
use Rattle.lt_model.specs.declared.cell.Content.TheVariants as content
use Rattle.lt_model.specs.declared.scalar.DataModel.{DataModel}
use Rattle.lt_model.specs.declared.scalar.Scalar.{Scalar}
use Rattle.lt_model.specs.declared.operator.Op.{Op}
use Rattle.lt_model.specs.Memory.{load}
use Rattle.lt_ir.specs.Running.{Step, gives, asked, ◌>>=◌}
use Rattle.lt_ir.specs.Evaluation.{address_in, of_truth, moved, member_at, applied, counted, compared}

abbrev pub loaded_value : DataModel → CellType → Content → Step Content
loaded_value model ty c = address_in c >>= (λ a. asked (λ memory. load model memory a ty))

abbrev pub moved_value : Op → ℕ → Content → Content → Step Content
moved_value op size a b = moved op size a b >>= (λ c. gives (content.Address c))

abbrev pub member_value : ℕ → Content → Step Content
member_value offset c = address_in c >>= (λ a. member_at offset a >>= (λ b. gives (content.Address b)))

abbrev pub counted_value : ℕ → Content → Content → Step Content
counted_value size a b = counted size a b >>= (λ z. gives (content.Number z))

abbrev pub applied_value : DataModel → Op → Scalar → Content → Content → Step Content
applied_value model op s a b = applied model op s a b >>= (λ z. gives (content.Number z))

abbrev pub compared_value : Op → Content → Content → Step Content
compared_value op a b = compared op a b >>= (λ c. gives (of_truth c))
