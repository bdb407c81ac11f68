-- The predicates of `domains` in `specs/Objectives.antt` of `lt_objectives`, by what they ask of a type.
use Rattle.std.specs.Prelude.{if◌then◌else◌, List, [], ◌∷◌, map}
use Rattle.lt_model.specs.declared.scalar.DataModel.{DataModel}
use Rattle.lt_model.specs.declared.operator.Op.{Op}
use Rattle.lt_model.specs.declared.operator.Op.TheVariants as O
use Rattle.lt_tree.specs.Tree as t
use Rattle.lt_tree.specs.Typing.Types.{CType, own_qualifiers, is_integer, is_pointer}
use Rattle.lt_objectives.specs.Decisions.{zero_constant}
use Rattle.lt_objectives.specs.Mutants.{is_signed_integer}
use Rattle.lt_predicates.specs.declared.domain.Domain.{Domain}
use Rattle.lt_predicates.specs.declared.domain.Domain.TheVariants as domain

-- an expression compared to 0 in each of these ways
abbrev pub relations_to_zero : List Op → t.Expression → List t.Expression
relations_to_zero relations e = map (λ op. t.Binary op e zero_constant) relations

abbrev pub domain_predicates : Domain → t.Expression → List t.Expression
domain_predicates domain.Unconstrained e = []
domain_predicates domain.Pointer e = relations_to_zero (O.Eq ∷ O.Ne ∷ []) e
domain_predicates domain.Signed e = relations_to_zero (O.Lt ∷ O.Eq ∷ O.Gt ∷ []) e
domain_predicates domain.Unsigned e = relations_to_zero (O.Eq ∷ O.Gt ∷ []) e

abbrev pub domain_of : DataModel → CType → Domain
domain_of m t =
    if (own_qualifiers t).volatile then domain.Unconstrained
    else (if is_pointer t then domain.Pointer
    else (if is_signed_integer m t then domain.Signed
    else (if is_integer t then domain.Unsigned else domain.Unconstrained)))
