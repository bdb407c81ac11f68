use Rattle.std.proofs.Common.{refl, ◌∙◌}
use Rattle.lt_merge.proofs.combine.merged_hyper.Goals as goal

pub returns : goal.returns
returns c = record {
  left = (refl, c.in_ok-new.ensures ∙ c.as_slice.ensures);
  right = (c.requires.0, c.in_ok-new.ensures ∙ (c.as_slice.ensures ∙ c.requires.1));
  state = c.greater.ensures;
}
