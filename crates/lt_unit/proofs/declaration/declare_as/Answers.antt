use Rattle.std.specs.Prelude.{option_map}
use Rattle.lt_tree.specs.UnitView as source
use Rattle.lt_declare.specs.DeclaredKinds.{kind_in}
use Rattle.lt_declare.specs.DeclaredViews.{declares_of}
use Rattle.lt_type.proofs.Sequences.{gives_so}
use Rattle.lt_unit.proofs.Declarations.{without_name, with_name}
use Rattle.lt_unit.proofs.declaration.declare_as.Goals as goal

pub returns-in-None : goal.returns-in-None
returns-in-None c =
    gives_so (λ types k. without_name (kind_in c.args.kind) (declares_of types c.args.declared.now) (option_map source.initialiser_of c.args.i.now) k c.in-None.is) c.of_no_object_or_none.ensures

pub returns-in-Some : goal.returns-in-Some
returns-in-Some c =
    gives_so (λ types k. with_name (kind_in c.args.kind) (declares_of types c.args.declared.now) c.in-Some.name (option_map source.initialiser_of c.args.i.now) k c.in-Some.is) (rw c.as_slice.ensures at c.declare.ensures)
