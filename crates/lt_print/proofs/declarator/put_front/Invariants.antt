use Rattle.std.proofs.Common.{◌≡◌, ◌++◌, ◌||◌, drop, ltb}
use Rattle.lt_tree.specs.Pieces.{text_of}
use Rattle.lt_tree.specs.Records.{parts_in}
use Rattle.lt_print.specs.Declarators.{front, is_suffixed}
use Rattle.lt_print.proofs.declarator.put_front.Given as goal

abbrev pub invariant-loop-at : goal.invariant-loop-at
invariant-loop-at l =
    (l.out.items ≡ l.fn.out.items ++ text_of (front (l.named || ltb 0 l.at) (parts_in (drop l.at l.parts)))) × (l.suffixed ≡ is_suffixed (parts_in (drop l.at l.parts)))
