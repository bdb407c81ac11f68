use Rattle.std.proofs.Common.{◌∙◌, sym}
use Rattle.lt_entry.proofs.LinesRead.{block_uncounted, block_whole}
use Rattle.lt_entry.proofs.specification_line.block_line.Goals as goal

pub returns-in_default-numeral_of : goal.returns-in_default-numeral_of
returns-in_default-numeral_of c =
    sym (block_uncounted c.args.words.now c.in-Some.behind.now c.in-Some-split_last.ty.now c.in-Some.name.now c.in-Some-split_last.count.now c.in-Some.ensures.cases.0 c.in-Some-split_last.ensures.cases.0 (sym c.is_name.ensures ∙ c.if-not-is_name.false) (sym c.in_default-numeral_of.ensures))

pub returns : goal.returns
returns c =
    rw c.in_ok-ty.ensures.items
    (sym (block_whole c.args.words.now c.in-Some.behind.now c.in-Some-split_last.ty.now c.in-Some.name.now c.in-Some-split_last.count.now _ c.in-Some.ensures.cases.0 c.in-Some-split_last.ensures.cases.0 (sym c.is_name.ensures ∙ c.if-not-is_name.false) (sym c.in-Some-numeral_of.ensures)))
