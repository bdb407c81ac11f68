-- Footprints by the cells that they have: how often and in what order these stand doesn't count.
use Rattle.std.specs.Prelude.{◌≡◌, List}
use Rattle.std.specs.List.{list_any}
use Rattle.lt_model.specs.State.{CellName, Footprint, same_cell, meets, clash, joined, settle}

-- the same cells are among both
abbrev pub HaveTheSame : List CellName → List CellName → Type 0
HaveTheSame cells others = (c : CellName) → list_any (same_cell c) cells ≡ list_any (same_cell c) others

pub record AreAlike (p q : Footprint) : Type 0 where
  pub reads : HaveTheSame p.reads q.reads
  pub settled : HaveTheSame p.settled q.settled
  pub pending : HaveTheSame p.pending q.pending

-- Alike footprints clash with the same, and what is made of them is alike.
pub record CountByMembership (p p1 q q1 : Footprint) : Type 0 where
  pub clashes : clash p q ≡ clash p1 q1
  pub joins : AreAlike (joined p q) (joined p1 q1)
  pub settles : AreAlike (settle p) (settle p1)
  pub targets : (cells : List CellName) → meets cells p.pending ≡ meets cells p1.pending

abbrev pub FootprintsCountByMembership : Type 0
FootprintsCountByMembership = (p p1 q q1 : Footprint) → AreAlike p p1 → AreAlike q q1 → CountByMembership p p1 q q1
