-- Pure expressions of graph code, and what they give: they read and compute, and leave no footprint.
use Rattle.std.specs.Prelude.{ℕ, List, [], ◌∷◌, Option, Some, if◌then◌else◌}
use Rattle.lt_model.specs.declared.cell.CellType.{CellType}
use Rattle.lt_model.specs.declared.cell.Content.{Content}
use Rattle.lt_model.specs.declared.cell.Content.TheVariants as content
use Rattle.lt_model.specs.declared.scalar.DataModel.{DataModel}
use Rattle.lt_model.specs.declared.scalar.Scalar.{Scalar}
use Rattle.lt_model.specs.declared.operator.Op.{Op}
use Rattle.lt_model.specs.Scalar.{convert_of}
use Rattle.lt_model.specs.Memory.{load}
use Rattle.lt_model.specs.State.{Binding}
use Rattle.lt_ir.specs.declared.variable.Variable.{Variable}
use Rattle.lt_ir.specs.declared.pure.How.{How}
use Rattle.lt_ir.specs.declared.pure.How.TheVariants as how
use Rattle.lt_ir.specs.Running.{At, Step, gives, absurdity, asked, ◌>>=◌, place, one_more, quietly}
use Rattle.lt_ir.specs.Evaluation.{number_in, address_in, used, truth_in, of_truth, moved, member_at, applied, counted}
use Rattle.lt_ir.specs.Evaluation.{compared}

mutual
  -- of which nothing but its value counts
  pub data Pure : Type 0 where
    -- an expression that isn't pure: it has no value
    Never : Pure
    Fixed : Content → Pure
    Place : Variable → Pure
    Load : CellType → Pure → Pure
    Convert : How → Pure → Pure
    Apply : Op → Scalar → Pure → Pure → Pure
    Move : Op → (size : ℕ) → (pointer count : Pure) → Pure
    Member : (offset : ℕ) → Pure → Pure
    Distance : (size : ℕ) → Pure → Pure → Pure
    Compare : Op → Pure → Pure → Pure
    -- the first, then one of the others
    Choose : Pure → Pure → Pure → Pure
    -- one after the other; the value is the last one's
    Comma : Pures → Pure

  pub data Pures : Type 0 where
    no_pures : Pures
    a_pure : (first : Pure) (rest : Pures) → Pures

abbrev pub convert_as : DataModel → How → Content → Step Content
convert_as model (how.ToInteger s) c = number_in c >>= (λ z. gives (content.Number (convert_of model s z)))
convert_as model how.ToTruth c = truth_in c >>= (λ b. gives (of_truth b))
convert_as model how.ToPointer c = address_in c >>= (λ a. gives (content.Address a))
convert_as model how.ToVoid c = gives content.Unset
convert_as model how.ToValue c = used c
convert_as model how.AsItIs c = gives c

abbrev mutual
  pub look : DataModel → Pure → Step Content
  look model Never = absurdity
  look model (Fixed c) = gives c
  look model (Place v) = place v >>= (λ a. gives (content.Address a))
  look model (Load ty p) = do
    c ← look model p
    a ← address_in c
    asked (λ memory. load model memory a ty)
  look model (Convert conversion p) = look model p >>= convert_as model conversion
  look model (Apply op s p q) = do
    a ← look model p
    b ← look model q
    z ← applied model op s a b
    gives (content.Number z)
  look model (Move op size p q) = do
    a ← look model p
    b ← look model q
    c ← moved op size a b
    gives (content.Address c)
  look model (Member offset p) = do
    c ← look model p
    a ← address_in c
    b ← member_at offset a
    gives (content.Address b)
  look model (Distance size p q) = do
    a ← look model p
    b ← look model q
    z ← counted size a b
    gives (content.Number z)
  look model (Compare op p q) = do
    a ← look model p
    b ← look model q
    c ← compared op a b
    gives (of_truth c)
  look model (Choose p q r) = do
    c ← look model p
    b ← truth_in c
    if b then look model q else look model r
  look model (Comma ps) = look_from model content.Unset ps

  -- the last one's value, or that of one before them
  pub look_from : DataModel → Content → Pures → Step Content
  look_from model c no_pures = gives c
  look_from model c (a_pure p ps) = look model p >>= (λ d. look_from model d ps)

-- what a mark binds: names, and the numbers of expressions, if each has one
abbrev pub looked_at : DataModel → List (List ℕ) → List Pure → At → Option (List Binding)
looked_at model (name ∷ names) (p ∷ ps) at =
    one_more name (quietly (look model p >>= number_in) at) (looked_at model names ps at)
looked_at model names ps at = Some []
