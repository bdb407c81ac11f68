-- What a merge of two tables is, and where there is none.
use Rattle.std.specs.Prelude.{◌≡◌, ◌≢◌, ◌<◌, ◌⊎◌, ◌↔◌, ℕ, List, [], ◌∷◌, map, Contains, Result, Ok, Err}
use Rattle.std.specs.Ordering.{nat_cmp}
use Rattle.std.specs.Cmp.Lexicographic.{slice_cmp}
use Rattle.std.specs.declared.cmp.Ordering.TheVariants.{Less}
use Rattle.lt_cover.specs.declared.rows.TestRow.{TestRow}
use Rattle.lt_cover.specs.declared.rows.LabelRow.{LabelRow}
use Rattle.lt_cover.specs.declared.rows.HyperRow.{HyperRow}
use Rattle.lt_cover.specs.declared.rows.HyperState.{HyperState}
use Rattle.lt_cover.specs.declared.rows.HyperState.TheVariants.{Uncovered, TooWide, Covered}
use Rattle.lt_cover.specs.declared.stops.MergeStop.{MergeStop}
use Rattle.lt_cover.specs.declared.stops.MergeStop.TheVariants as stop
use Rattle.lt_cover.specs.Coverage.Table.{Table, IsOrdered}

-- the ids with their tags
abbrev pub label_keys : List LabelRow → List (ℕ × List ℕ)
label_keys labels = map (λ (l : LabelRow). (l.id, l.tag)) labels

abbrev pub hyper_keys : List HyperRow → List (ℕ × List ℕ)
hyper_keys hypers = map (λ (h : HyperRow). (h.id, h.tag)) hypers

-- both have the id, with the same tag, or neither has it
abbrev pub AgreeAt : List (ℕ × List ℕ) → List (ℕ × List ℕ) → ℕ → Type 0
AgreeAt a b id = (tag : List ℕ) → Contains a (id, tag) ↔ Contains b (id, tag)

-- the least id on which they don't agree
pub record IsLeastMixed (a b : List (ℕ × List ℕ)) (id : ℕ) : Type 0 where
  pub here : AgreeAt a b id → ⊥
  pub before : (lesser : ℕ) → lesser < id → AgreeAt a b lesser

-- a test of this name is in both, with another end
abbrev pub DifferAt : List TestRow → List TestRow → List ℕ → Type 0
DifferAt a b name = (x : TestRow) × (y : TestRow) × Contains a x × Contains b y × (x.name ≡ name) × (y.name ≡ name) × (x.end ≢ y.end)

-- the least name, by bytes, of such a test
pub record IsLeastDiffering (a b : List TestRow) (name : List ℕ) : Type 0 where
  pub here : DifferAt a b name
  pub before : (lesser : List ℕ) → slice_cmp nat_cmp lesser name ≡ Less → DifferAt a b lesser → ⊥

-- the greater state in the order uncovered, too wide, covered
abbrev pub greater : HyperState → HyperState → HyperState
greater Covered b = Covered
greater TooWide Covered = Covered
greater TooWide b = TooWide
greater Uncovered b = b

-- a label has the names that either table gives
pub record IsMergedLabel (a b m : LabelRow) : Type 0 where
  pub left : (m.id ≡ a.id) × (m.tag ≡ a.tag)
  pub right : (m.id ≡ b.id) × (m.tag ≡ b.tag)
  pub by : (name : List ℕ) → Contains m.by name ↔ (Contains a.by name ⊎ Contains b.by name)

-- a hyperlabel has the greater state
pub record IsMergedHyper (a b m : HyperRow) : Type 0 where
  pub left : (m.id ≡ a.id) × (m.tag ≡ a.tag)
  pub right : (m.id ≡ b.id) × (m.tag ≡ b.tag)
  pub state : m.state ≡ greater a.state b.state

-- R holds of the rows at each place, and the lists are as long
abbrev pub EachMerged : {X : Type 0} → (X → X → X → Type 0) → List X → List X → List X → Type 0
EachMerged R [] [] [] = Unit {0}
EachMerged R (x ∷ a) (y ∷ b) (z ∷ m) = R x y z × EachMerged R a b m
EachMerged R _ _ _ = ⊥

-- The merge stands in order and has the tests of both tables, and their labels and hyperlabels, which are the same ones.
pub record IsMerge (a b m : Table) : Type 0 where
  pub ordered : IsOrdered m
  pub tests : (x : TestRow) → Contains m.tests x ↔ (Contains a.tests x ⊎ Contains b.tests x)
  pub labels : EachMerged IsMergedLabel a.labels b.labels m.labels
  pub hypers : EachMerged IsMergedHyper a.hypers b.hypers m.hypers

-- The answer is the merge, or the least label, hyperlabel or test on which the tables don't agree, in this order.
abbrev pub IsMergeAnswer : Table → Table → Result Table MergeStop → Type 0
IsMergeAnswer a b (Ok m) = IsMerge a b m
IsMergeAnswer a b (Err (stop.Label id)) = IsLeastMixed (label_keys a.labels) (label_keys b.labels) id
IsMergeAnswer a b (Err (stop.Hyper id)) = (label_keys a.labels ≡ label_keys b.labels) × IsLeastMixed (hyper_keys a.hypers) (hyper_keys b.hypers) id
IsMergeAnswer a b (Err (stop.Test name)) = (label_keys a.labels ≡ label_keys b.labels) × (hyper_keys a.hypers ≡ hyper_keys b.hypers) × IsLeastDiffering a.tests b.tests name
IsMergeAnswer a b (Err stop.NoMemory) = Unit {0}
