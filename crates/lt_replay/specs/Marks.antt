-- The labels of which a run makes true marks.
use Rattle.std.specs.Prelude.{◌≡◌, ◌==◌, ◌&&◌, ◌||◌, ℕ, Bool, List}
use Rattle.std.specs.List.{list_any}
use Rattle.std.specs.Ordering.{nat_cmp}
use Rattle.std.specs.BTreeSet.{contains}
use Rattle.lt_model.specs.declared.run.Mark.{Mark}
use Rattle.lt_replay.specs.declared.marks.TrueMarks.{TrueMarks}

-- the mark is true, and of the label
abbrev pub is_true_of : (id : ℕ) → Mark → Bool
is_true_of id mark = mark.truth && (mark.id == id)

abbrev pub makes_true : List Mark → ℕ → Bool
makes_true marks id = list_any (is_true_of id) marks

-- The id of the mark was put in, where the mark is true.
abbrev pub Sees : TrueMarks → Mark → TrueMarks → Type 0
Sees old mark new = (id : ℕ) → contains nat_cmp new.ids id ≡ (contains nat_cmp old.ids id || is_true_of id mark)
