-- What holds of the definitions of coverage files.
use Rattle.std.specs.Prelude.{◌≡◌, ℕ, List}
use Rattle.lt_cover.specs.Coverage.Table.{Table, IsOrdered}
use Rattle.lt_cover.specs.Coverage.Text.{IsCoverText, BreaksAt}
use Rattle.lt_cover.specs.Coverage.Merge.{IsMerge, IsLeastMixed, IsLeastDiffering, label_keys, hyper_keys}

-- A text stands for one table or has one first row that breaks the grammar, if it has any.
pub record TextIsOne (text : List ℕ) : Type 0 where
  pub said : (table other : Table) → IsCoverText text table → IsCoverText text other → table ≡ other
  pub bad : (m n : ℕ) → BreaksAt text m → BreaksAt text n → m ≡ n
  pub apart : (table : Table) (n : ℕ) → IsCoverText text table → BreaksAt text n → ⊥

abbrev pub TextsStandForOneTable : Type 0
TextsStandForOneTable = (text : List ℕ) → TextIsOne text

-- Two tables have at most one least label, hyperlabel and test on which they don't agree, and where they have a merge they have none.
pub record MergeIsOne (a b : Table) : Type 0 where
  pub labels : (m n : ℕ) → IsLeastMixed (label_keys a.labels) (label_keys b.labels) m → IsLeastMixed (label_keys a.labels) (label_keys b.labels) n → m ≡ n
  pub hypers : (m n : ℕ) → IsLeastMixed (hyper_keys a.hypers) (hyper_keys b.hypers) m → IsLeastMixed (hyper_keys a.hypers) (hyper_keys b.hypers) n → m ≡ n
  pub tests : (name other : List ℕ) → IsLeastDiffering a.tests b.tests name → IsLeastDiffering a.tests b.tests other → name ≡ other
  pub agree : (merge : Table) → IsMerge a b merge → (label_keys a.labels ≡ label_keys b.labels) × (hyper_keys a.hypers ≡ hyper_keys b.hypers)
  pub apart : (merge : Table) (name : List ℕ) → IsMerge a b merge → IsLeastDiffering a.tests b.tests name → ⊥

abbrev pub MergesAreOne : Type 0
MergesAreOne = (a b : Table) → MergeIsOne a b

-- Where the first and the second table have a merge, and this has one with the third, the second and the third have a merge, too, and the first
-- has the same one with it. The second and the third stand in order: a label of one that doesn't could be covered by a test of the first alone.
abbrev pub MergesAreThereHoweverGrouped : Type 0
MergesAreThereHoweverGrouped = (a b c m x : Table) → IsOrdered b → IsOrdered c → IsMerge a b m → IsMerge m c x → (n : Table) × IsMerge b c n × IsMerge a n x
