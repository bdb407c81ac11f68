use Rattle.std.proofs.Common.{◌≡◌, ◌++◌, eqb, map, drop}
use Rattle.lt_tree.specs.Pieces.{text_of}
use Rattle.lt_tree.specs.UnitView.{initialisers_in}
use Rattle.lt_tree.specs.Canon.{comma_gap}
use Rattle.lt_tree.specs.CanonUnits.{initialisers}
use Rattle.lt_print.specs.Lists.{separated}
use Rattle.lt_print.proofs.Units.{initialiser_at}
use Rattle.lt_print.proofs.declaration.+initialisers.Given as goal

abbrev pub invariant-put_initialisers-loop-at : goal.invariant-put_initialisers-loop-at
invariant-put_initialisers-loop-at l =
    l.out.items ++ text_of (separated comma_gap (eqb l.at 0) (map (initialiser_at l.line) (drop l.at l.parts))) ≡ l.fn.out.items ++ text_of (initialisers l.line (initialisers_in l.parts))
