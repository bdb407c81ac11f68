use Rattle.std.proofs.Common.{◌≡◌, ◌≤◌, ℕ, List, length, drop}
use Rattle.lt_tree.specs.Typing.Types.{CType}
use Rattle.lt_tree.specs.Typing.Operations.{is_among}
use Rattle.lt_tree.specs.Typing.MarkRules.{are_new_names}
use Rattle.lt_env.specs.Going.{known_of}
use Rattle.lt_judge.proofs.marks.bindings.are_new_names.Given as goal

abbrev pub invariant-names : goal.invariant-names
invariant-names l = record {
  left : l.left ≤ length l.names;
  later : (n : List ℕ) → is_among n l.later ≡ is_among n (drop l.left l.names);
  new : (types : List CType) → l.new ≡ are_new_names (known_of types l.walker) (drop l.left l.names);
}

abbrev pub decreases-names : goal.decreases-names
decreases-names l = l.left
