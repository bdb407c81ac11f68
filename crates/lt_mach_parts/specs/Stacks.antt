-- The blocks of each variable, the innermost first, by the kind and the number of the variable.
use Rattle.std.specs.Prelude.{◌≡◌, ℕ, zero, suc, List, [], ◌∷◌, ◌++◌, Option, Some, None, if◌then◌else◌, nat_eq}
use Rattle.lt_ir.specs.declared.variable.Variable.{Variable}
use Rattle.lt_ir.specs.declared.variable.Variable.TheVariants.{Parameter, Local, Static}
use Rattle.lt_ir.specs.Running.{Bound, same_variable}

-- the last one first
abbrev pub turned : List ℕ → List ℕ
turned [] = []
turned (it ∷ its) = turned its ++ it ∷ []

-- the innermost block, and the others, which lie from the outermost on
abbrev pub stack_of : Option ℕ → List ℕ → List ℕ
stack_of None outer = []
stack_of (Some block) outer = block ∷ turned outer

abbrev pub first_of : List ℕ → Option ℕ
first_of [] = None
first_of (it ∷ its) = Some it

abbrev pub rest_of : List ℕ → List ℕ
rest_of [] = []
rest_of (it ∷ its) = its

-- ---- by number

abbrev pub stack_at : List (List ℕ) → ℕ → List ℕ
stack_at [] k = []
stack_at (it ∷ its) zero = it
stack_at (it ∷ its) (suc k) = stack_at its k

-- all are as before
abbrev pub AreSame : (old new : List (List ℕ)) → Type 0
AreSame old new = (j : ℕ) → stack_at new j ≡ stack_at old j

-- one is another, and the others are as before
abbrev pub IsPut : (old new : List (List ℕ)) → ℕ → List ℕ → Type 0
IsPut old new k it = (j : ℕ) → stack_at new j ≡ (if nat_eq k j then it else stack_at old j)

-- ---- by variable

pub record Stacks : Type 0 where
  pub parameters : List (List ℕ)
  pub locals : List (List ℕ)
  pub statics : List (List ℕ)

abbrev pub blocks_at : Stacks → Variable → List ℕ
blocks_at stacks (Parameter k) = stack_at stacks.parameters k
blocks_at stacks (Local k) = stack_at stacks.locals k
blocks_at stacks (Static k) = stack_at stacks.statics k

abbrev pub AllSame : (old new : Stacks) → Type 0
AllSame old new = (w : Variable) → blocks_at new w ≡ blocks_at old w

abbrev pub ArePut : (old new : Stacks) → Variable → List ℕ → Type 0
ArePut old new v it = (w : Variable) → blocks_at new w ≡ (if same_variable v w then it else blocks_at old w)

-- ---- of a scope

abbrev pub blocks_among : List Bound → Variable → List ℕ
blocks_among [] v = []
blocks_among (bound ∷ scope) v =
    if same_variable bound.variable v then bound.block ∷ blocks_among scope v else blocks_among scope v

-- the blocks of each variable are those of a scope
abbrev pub AreOf : Stacks → List Bound → Type 0
AreOf stacks scope = (v : Variable) → blocks_at stacks v ≡ blocks_among scope v
