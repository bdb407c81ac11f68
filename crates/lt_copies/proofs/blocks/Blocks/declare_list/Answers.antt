use Rattle.std.proofs.Common.{refl, sym, ap, ◌∙◌, arith}
use Rattle.lt_tree.specs.declared.declarator.Parameter.{Parameter}
use Rattle.lt_tree.specs.Records.{specifiers_of, parameter_list_in}
use Rattle.lt_objectives.specs.Tags.{tags_in, tags_in_list}
use Rattle.lt_copies.specs.Blocks.{declares_all}
use Rattle.lt_copies.proofs.Declared.{one_more}
use Rattle.lt_copies.proofs.blocks.Blocks.declare_list.Goals as goal

pub parameters-preserved : goal.parameters-preserved
parameters-preserved c =
    one_more (λ xs. tags_in_list (parameter_list_in xs)) (tags_in (specifiers_of c.index-list-at.result.specifiers)) c.args.list.now c.parameters.at c.index-list-at.result c.args.self.now c.parameters.self c.declare_tags.new.self (omega arith) (omega arith) c.index-list-at.is
    (λ rest. refl) c.parameters.invariant (c.in_ok-declare_tags.ensures ∙ ap (λ (p : Parameter). declares_all (tags_in (specifiers_of p.specifiers)) c.parameters.self) (sym c.index-list-at.is))
