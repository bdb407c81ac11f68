-- What a row is by itself, and which row may follow a table.
use Rattle.std.specs.Prelude.{◌≡◌, ◌++◌, ◌&&◌, nat_le, ℕ, Bool, true, false, List, [], ◌∷◌, All, Contains, Option, Some, None}
use Rattle.std.specs.Ordering.{nat_cmp}
use Rattle.std.specs.Cmp.Lexicographic.{slice_cmp}
use Rattle.std.specs.declared.cmp.Ordering.TheVariants.{Less}
use Rattle.lt_model.specs.declared.run.End.TheVariants.{Undefined, NoInput}
use Rattle.lt_cover.specs.declared.rows.TestEnd.{TestEnd}
use Rattle.lt_cover.specs.declared.rows.TestEnd.TheVariants.{Ran}
use Rattle.lt_cover.specs.declared.rows.TestRow.{TestRow}
use Rattle.lt_cover.specs.declared.rows.LabelRow.{LabelRow}
use Rattle.lt_cover.specs.declared.rows.Row.{Row}
use Rattle.lt_cover.specs.declared.rows.Row.TheVariants.{Test, Label, Hyper}
use Rattle.lt_cover.specs.declared.rows.Version.{Version}
use Rattle.lt_cover.specs.Coverage.Names.{IsTestName}
use Rattle.lt_cover.specs.Coverage.Table.{IsTestRow, IsLabelRow, IsHyperRow, NamesRise, Table, names_of, label_ids, hyper_ids}
use Rattle.lt_cover.specs.Coverage.Text.{MayHold, row_fields, label_word, names_text}

-- The words are those of this value of the form, or of none.
abbrev pub Reads : {X W : Type 0} → (X → Type 0) → (X → W) → W → Option X → Type 0
Reads {X} IsForm words given None = (x : X) → IsForm x → words x ≡ given → ⊥
Reads IsForm words given (Some x) = IsForm x × (words x ≡ given)

-- each value is of the form
abbrev pub IsAny : {X : Type 0} → X → Type 0
IsAny x = Unit {0}

-- nothing follows the word for the end
abbrev pub IsPlainEnd : TestEnd → Type 0
IsPlainEnd (Ran (Undefined kind)) = ⊥
IsPlainEnd (Ran (NoInput stub)) = ⊥
IsPlainEnd end = Unit {0}

-- a number begins with a digit that isn't 0
abbrev pub begins_well : List ℕ → Bool
begins_well [] = false
begins_well (b ∷ rest) = nat_le 49 b && nat_le b 57

-- the names of the tests that cover a label
pub record AreCovering (names : List (List ℕ)) : Type 0 where
  pub each : All IsTestName names
  pub rise : NamesRise names

-- the two words for the covering names
abbrev pub covering_words : List (List ℕ) → List ℕ × List ℕ
covering_words names = (label_word names, names_text names)

-- a label by itself: its covering names have their form and rise, too
pub record IsLabelForm (label : LabelRow) : Type 0 where
  pub row : IsLabelRow label
  pub by : AreCovering label.by

abbrev pub IsRow : Row → Type 0
IsRow (Test t) = IsTestRow t
IsRow (Label l) = IsLabelForm l
IsRow (Hyper h) = IsHyperRow h

-- the table with one more row, the last of its kind
abbrev pub added : Table → Row → Table
added t (Test x) = record t { tests = t.tests ++ x ∷ [] }
added t (Label x) = record t { labels = t.labels ++ x ∷ [] }
added t (Hyper x) = record t { hypers = t.hypers ++ x ∷ [] }

abbrev pub IsBelowName : List ℕ → List ℕ → Type 0
IsBelowName name lesser = slice_cmp nat_cmp lesser name ≡ Less

abbrev pub IsBelowId : ℕ → ℕ → Type 0
IsBelowId id lesser = nat_cmp lesser id ≡ Less

-- a test comes after the lesser tests and before all labels and hyperlabels
pub record TestMayFollow (t : Table) (x : TestRow) : Type 0 where
  pub labels : t.labels ≡ []
  pub hypers : t.hypers ≡ []
  pub above : All (IsBelowName x.name) (names_of t.tests)

-- a label comes after the lesser labels and before all hyperlabels; its names are those of tests
pub record LabelMayFollow (version : Version) (t : Table) (x : LabelRow) : Type 0 where
  pub hypers : t.hypers ≡ []
  pub above : All (IsBelowId x.id) (label_ids t.labels)
  pub known : All (λ name. Contains (names_of t.tests) name) x.by
  pub holds : MayHold version x

abbrev pub MayFollow : Version → Table → Row → Type 0
MayFollow version t (Test x) = TestMayFollow t x
MayFollow version t (Label x) = LabelMayFollow version t x
MayFollow version t (Hyper x) = All (IsBelowId x.id) (hyper_ids t.hypers)

-- The row with these fields was taken, where there is one and it may follow; else there is none such.
abbrev pub Takes : Version → Table → List (List ℕ) → Bool → Table → Type 0
Takes version t fields true after = (row : Row) × Reads IsRow row_fields fields (Some row) × MayFollow version t row × (after ≡ added t row)
Takes version t fields false after = (row : Row) → Reads IsRow row_fields fields (Some row) → MayFollow version t row → ⊥
