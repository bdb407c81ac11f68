use Rattle.std.proofs.Common.{rules, eqb}
use Rattle.std.specs.Prelude.{not}
use borrow.Author.Tests.{tests}
use Rattle.std.proofs.lemmas.Iterator.Splits.{YieldsList-from_slice_split}
use Rattle.std.proofs.lemmas.Iterator.Consumers.{YieldsList-from_filter, YieldsList-at, map_from_collect}
use Rattle.lt_entry.specs.Lines.{is_empty}
use Rattle.lt_entry.proofs.row.words_of.Goals as goal

pub returns : goal.returns
returns c =
    map_from_collect _ c.collect.ensures.ran
    (YieldsList-from_filter _ (λ word. not (is_empty word))
    (YieldsList-at c.filter.ensures.source (YieldsList-from_slice_split _ (λ b. eqb b 32) c.args.line.now c.split.ensures.rest c.split.ensures.done c.split.ensures.closure (λ x b q k. search (rules, tests))))
    c.filter.ensures.closure
    (λ x b q k. search (rules, tests)))
