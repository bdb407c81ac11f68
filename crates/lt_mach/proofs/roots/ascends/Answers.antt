use Rattle.std.proofs.Common.{rules}
use Rattle.std.specs.Prelude.{nat_lt}
use Rattle.std.proofs.lemmas.List.Sorted.{answers_always}
use Rattle.lt_mach.proofs.Rooted.{ascending_answer}
use Rattle.lt_mach.proofs.roots.ascends.Goals as goal

pub returns : goal.returns
returns c = ascending_answer _ _ (c.is_sorted_by.ensures.cases (λ x y. nat_lt x.offset y.offset) (answers_always _ _ _ (λ f a r g called. search rules)))
