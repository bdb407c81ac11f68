-- Ids with their tags in the order of the ids, and the parts of a merge.
use Rattle.std.specs.Prelude.{◌≡◌, ℕ, List, map}
use Rattle.std.specs.List.Sorted.{IsStrictlySortedBy}
use Rattle.std.specs.Ordering.{nat_cmp}
use Rattle.lt_merge.specs.declared.agree.Key.{Key}
use Rattle.lt_cover.specs.declared.rows.TestRow.{TestRow}
use Rattle.lt_cover.specs.declared.rows.LabelRow.{LabelRow}
use Rattle.lt_cover.specs.declared.rows.HyperRow.{HyperRow}
use Rattle.lt_cover.specs.declared.stops.MergeStop.{MergeStop}
use Rattle.lt_cover.specs.declared.stops.MergeStop.TheVariants as stop
use Rattle.lt_cover.specs.Coverage.Table.{NamesRise}
use Rattle.lt_cover.specs.Coverage.Merge.{IsLeastDiffering, IsMergedLabel}

abbrev pub key_of : Key → ℕ × List ℕ
key_of key = (key.id, key.tag.now)

abbrev pub KeysRise : List (ℕ × List ℕ) → Type 0
KeysRise keys = IsStrictlySortedBy nat_cmp (map (λ (k : ℕ × List ℕ). k.0) keys)

-- the tests have no merge, since one of them has two ends, or there was no memory
abbrev pub IsTestsStop : List TestRow → List TestRow → MergeStop → Type 0
IsTestsStop a b (stop.Test name) = IsLeastDiffering a b name
IsTestsStop a b stop.NoMemory = Unit {0}
IsTestsStop a b _ = ⊥

-- both rows are of one id, with one tag
abbrev pub IsSameLabel : LabelRow → LabelRow → Type 0
IsSameLabel a b = (a.id ≡ b.id) × (a.tag ≡ b.tag)

abbrev pub IsSameHyper : HyperRow → HyperRow → Type 0
IsSameHyper a b = (a.id ≡ b.id) × (a.tag ≡ b.tag)

-- a merged label's names rise
pub record IsRisingLabel (a b m : LabelRow) : Type 0 where
  pub merged : IsMergedLabel a b m
  pub rise : NamesRise m.by
