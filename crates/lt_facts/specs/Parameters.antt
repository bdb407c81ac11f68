-- What is known of the parameters of a function.
use Rattle.std.specs.Prelude.{◌≡◌, ℕ, Bool, false, if◌then◌else◌, List, [], ◌∷◌, Some, None, slice_get}
use Rattle.std.specs.List.{flat_map}
use Rattle.lt_model.specs.declared.operator.Op.TheVariants as O
use Rattle.lt_tree.specs.declared.typed.types.TypeRow.{TypeRow}
use Rattle.lt_tree.specs.declared.typed.types.TypeRow.TheVariants as row
use Rattle.lt_tree.specs.Tree as c
use Rattle.lt_tree.specs.Typing.Types.{CType, own_qualifiers}
use Rattle.lt_tree.specs.Typing.Programs.{Program}
use Rattle.lt_objectives.specs.Decisions.{zero_constant}
use Rattle.lt_objectives.specs.Objectives.{domains_of_object}
use Rattle.lt_facts.specs.declared.types.Family.{Family}
use Rattle.lt_facts.specs.declared.types.Family.TheVariants as F
use Rattle.lt_facts.specs.declared.functions.Parameter.{Parameter}
use Rattle.lt_facts.specs.Families.{family}

pub record Known : Type 0 where
  pub name : List ℕ
  pub family : Family
  pub is_volatile : Bool

abbrev pub is_volatile : CType → Bool
is_volatile t = (own_qualifiers t).volatile

-- of the object with this number
abbrev pub known_of : Program → ℕ → List Known
known_of program n =
    elim (slice_get program.objects n) [
      | None ↦ []
      | Some object ↦ record { name = object.name; family = family program.model object.type; is_volatile = is_volatile object.type } ∷ []
    ]

-- as it lies in memory
abbrev pub known_in : Parameter → Known
known_in it = record { name = it.name.now; family = it.family; is_volatile = it.is_volatile }

-- ---- domains

abbrev pub family_domains : Family → c.Expression → List c.Expression
family_domains F.Pointer e = c.Binary O.Eq e zero_constant ∷ c.Binary O.Ne e zero_constant ∷ []
family_domains F.Signed e = c.Binary O.Lt e zero_constant ∷ c.Binary O.Eq e zero_constant ∷ c.Binary O.Gt e zero_constant ∷ []
family_domains F.Unsigned e = c.Binary O.Eq e zero_constant ∷ c.Binary O.Gt e zero_constant ∷ []
family_domains F.Other e = []

abbrev pub known_domains : Known → List c.Expression
known_domains it = if it.is_volatile then [] else family_domains it.family (c.Name it.name)

-- What is known of parameters says which predicates their domains are.
abbrev pub DomainsAreKnown : Type 0
DomainsAreKnown = (program : Program) (numbers : List ℕ) → flat_map known_domains (flat_map (known_of program) numbers) ≡ flat_map (domains_of_object program) numbers

-- ---- of rows

abbrev pub is_volatile_row : TypeRow → Bool
is_volatile_row (row.Qualified q t) = q.volatile
is_volatile_row _ = false
