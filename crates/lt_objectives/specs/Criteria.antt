-- Criteria: their names, their bits in a set, and the order in which they are applied.
use Rattle.std.specs.Prelude.{ℕ, ◌==◌, Bool, List, [], ◌∷◌, codes, filter}
use Rattle.std.specs.Int.RustNames.{bit_and}
use Rattle.lt_objectives.specs.declared.criteria.Criterion.{Criterion}
use Rattle.lt_objectives.specs.declared.criteria.Criterion.TheVariants as C

-- the bit of a criterion in a set
abbrev pub bit_of : Criterion → ℕ
bit_of C.Function = 1
bit_of C.InputDomain = 2
bit_of C.Decision = 4
bit_of C.Condition = 8
bit_of C.MultipleCondition = 16
bit_of C.GeneralActiveClause = 32
bit_of C.CorrelatedActiveClause = 64
bit_of C.RestrictedActiveClause = 128
bit_of C.AllUses = 256
bit_of C.AbsoluteValue = 512
bit_of C.ArithmeticOperator = 1024
bit_of C.LogicalConnector = 2048
bit_of C.RelationalOperator = 4096

-- a criterion's name, which is the tag of its labels
abbrev pub tag_of : Criterion → List ℕ
tag_of C.Function = codes "FC"
tag_of C.InputDomain = codes "IDC"
tag_of C.Decision = codes "DC"
tag_of C.Condition = codes "CC"
tag_of C.MultipleCondition = codes "MCC"
tag_of C.GeneralActiveClause = codes "GACC"
tag_of C.CorrelatedActiveClause = codes "CACC"
tag_of C.RestrictedActiveClause = codes "RACC"
tag_of C.AllUses = codes "AU"
tag_of C.AbsoluteValue = codes "ABS"
tag_of C.ArithmeticOperator = codes "AOR"
tag_of C.LogicalConnector = codes "COR"
tag_of C.RelationalOperator = codes "ROR"

abbrev pub is_in : ℕ → Criterion → Bool
is_in set criterion = bit_and set (bit_of criterion) == bit_of criterion

-- the criteria that labels alone stand for, without hyperlabels, in the order in which they are applied
abbrev pub criteria_of_labels : List Criterion
criteria_of_labels =
    C.Function ∷ C.InputDomain ∷ C.Decision ∷ C.Condition ∷ C.MultipleCondition ∷ C.GeneralActiveClause ∷ C.AbsoluteValue ∷ C.ArithmeticOperator
    ∷ C.LogicalConnector ∷ C.RelationalOperator ∷ []

-- those of a set, in this order
abbrev pub criteria_in : ℕ → List Criterion
criteria_in set = filter (is_in set) criteria_of_labels
