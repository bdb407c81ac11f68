use Rattle.std.proofs.Common.{◌≡◌, ◌*◌, ◌^◌, ◌≤◌, min}
use Rattle.lt_model.specs.Types.{unqualified, element}
use Rattle.lt_model.specs.TypeView.{type_of}
use Rattle.lt_model.specs.Layout.{elements}
use Rattle.lt_model.proofs.sizes.elements.Given as goal

abbrev pub invariant-loop-at : goal.invariant-loop-at
invariant-loop-at l = record {
  same_element : unqualified (element (type_of l.at)) ≡ unqualified (element (type_of l.t));
  same_count : min (l.count * elements (type_of l.at)) (2 ^ 64) ≡ min (elements (type_of l.t)) (2 ^ 64);
  small : l.count ≤ 2 ^ 64;
}
