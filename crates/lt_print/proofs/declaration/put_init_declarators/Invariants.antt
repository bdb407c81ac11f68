use Rattle.std.proofs.Common.{◌≡◌, ◌++◌, eqb, map, drop}
use Rattle.lt_tree.specs.Pieces.{text_of}
use Rattle.lt_tree.specs.UnitView.{init_declarator_of}
use Rattle.lt_tree.specs.Canon.{comma_gap}
use Rattle.lt_tree.specs.CanonUnits.{init_declarators}
use Rattle.lt_print.specs.Lists.{separated}
use Rattle.lt_print.proofs.Units.{init_declarator_at}
use Rattle.lt_print.proofs.declaration.put_init_declarators.Given as goal

abbrev pub invariant-loop-at : goal.invariant-loop-at
invariant-loop-at l =
    l.out.items ++ text_of (separated comma_gap (eqb l.at 0) (map (init_declarator_at l.line) (drop l.at l.declarators))) ≡ l.fn.out.items ++ text_of (init_declarators l.line (map init_declarator_of l.declarators))
