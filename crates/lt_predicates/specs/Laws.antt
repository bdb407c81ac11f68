-- What the parts of this crate have in common with the definitions of objectives.
use Rattle.std.specs.Prelude.{◌≡◌}
use Rattle.lt_model.specs.declared.scalar.DataModel.{DataModel}
use Rattle.lt_tree.specs.Tree as t
use Rattle.lt_tree.specs.Typing.Types.{CType}
use Rattle.lt_objectives.specs.Objectives.{domains}
use Rattle.lt_predicates.specs.Domains.{domain_predicates, domain_of}

abbrev pub DomainsAreOfTypes : Type 0
DomainsAreOfTypes = (m : DataModel) (type : CType) (e : t.Expression) → domains m type e ≡ domain_predicates (domain_of m type) e
