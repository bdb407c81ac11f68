use Rattle.std.proofs.Common.{rules, tests, ◌∙◌}
use Rattle.std.specs.Str.{bytes_eq}
use Rattle.std.proofs.lemmas.Iterator.{YieldsList-from_slice}
use Rattle.std.proofs.lemmas.Iterator.Search.{find_from_yields_List}
use Rattle.lt_objectives.specs.Criteria.{criteria_of_labels, tag_of}
use Rattle.lt_command.proofs.criteria.criterion_of.Goals as goal

pub returns : goal.returns
returns c =
    let found = find_from_yields_List (λ criterion. bytes_eq (tag_of criterion) c.args.name.now) _ _ c.find.result c.find.ensures.ran
    (YieldsList-from_slice criteria_of_labels c.iter.ensures.rest) (λ x b q k. search (rules, tests)) in
    c.copied.ensures ∙ found
