-- What is known behind marks of both texts.
use Rattle.std.proofs.Common.{◌≡◌, ℕ, Bool, false, List, sym, ◌∙◌, subst}
use Rattle.lt_tree.specs.Tree as c
use Rattle.lt_tree.specs.Nodes.{in_marks}
use Rattle.lt_tree.specs.Typing.TypedTree.{Marks}
use Rattle.lt_tree.specs.Typing.Entities.{Known}
use Rattle.lt_tree.specs.Typing.Steps.{Goes}
use Rattle.lt_tree.specs.Typing.ExpressionTyping.{marks}
use Rattle.lt_mark_typing.specs.Beside.{IsBeside}
use Rattle.lt_mark_typing.specs.Placed.{AreOld, AreNewLabels, joined}
use Rattle.lt_mark_typing.proofs.NewMarks.{new_labels}
use Rattle.lt_mark_typing.proofs.Again.{joined_marks}
use Rattle.lt_marked_places.proofs.Both.{same_known, found_both}

module _ {new : ℕ → Bool} where
  -- behind new labels
  pub new_beside : {used after : List ℕ} {further : List Bool} {known there k : Known} {typed : Marks} (labels : c.Marks) → known.is_unmarked ≡ false → AreNewLabels new used after known labels
      → IsBeside new used further known there → marks labels there ≡ Goes typed k → (behind : List Bool) × IsBeside new after behind known k
  new_beside {after = after} {known = known} labels u are b is =
      let found = new_labels labels u are b in (found.2, subst (IsBeside new after found.2 known) (same_known (sym found.4 ∙ is)) found.6)

  -- behind old marks and new ones behind them
  pub joined_beside : {used between : List ℕ} {further : List Bool} {known there next k : Known} {typed others : Marks} (labels : c.Marks) (ms : c.Marks) → AreOld new (in_marks ms)
      → ((ts : Marks) (next : Known) → marks ms known ≡ Goes ts next → (next.is_unmarked ≡ false) × AreNewLabels new used between next labels)
      → IsBeside new used further known there → marks ms known ≡ Goes typed next → marks (joined ms labels) there ≡ Goes others k
      → (behind : List Bool) × IsBeside new between behind next k
  joined_beside labels ms h f b is both = let found = found_both (joined_marks labels ms h b f) is both in (found.0, found.2)
