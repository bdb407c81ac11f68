-- What a table of structs answers of a type.
use Rattle.std.proofs.Common.{◌≡◌, ℕ, ◌+◌, ◌^◌, min, nat_lt, Bool, not, ◌&&◌, List, Some, unwrap_or, sym, ap, ◌∙◌, arith, inl, inr}
use Rattle.std.proofs.lemmas.Bool.{cases_lt, lt-ltb, le-ltb}
use Rattle.lt_model.specs.Layout.{then_some}
use Rattle.lt_tree.specs.declared.typed.types.TypeId.{TypeId}
use Rattle.lt_tree.specs.declared.typed.types.TypeRow.{TypeRow}
use Rattle.lt_tree.specs.Typing.Types.{CType}
use Rattle.lt_tree.specs.Typing.TypeRows.{type_in, types_of_rows, Continues}
use Rattle.lt_tree.specs.Typing.Extents.{is_complete, has_size, most_cells, elements, cells_of, has_too_many_cells, size_of, has_constant_part}
use Rattle.lt_tree.specs.Typing.Declarators.{is_incomplete}
use Rattle.lt_table.specs.declared.structs.StructTable.{StructTable}
use Rattle.lt_table.specs.declared.table.kind.RowFacts.{RowFacts}
use Rattle.lt_table.specs.TableKinds.{kind_is_floating}
use Rattle.lt_table.specs.TableElements.{kind_is_complete, kind_is_incomplete}
use Rattle.lt_table.specs.TableRows.{AreFactsAt, Stays}
use Rattle.lt_table.specs.StructTables.{structs_in, row_cells, row_extent, row_constant, Suits}
use Rattle.lt_table.proofs.StructRows.{row_cells_is, row_extent_is, row_constant_is}

some_elements : (n : ℕ) → nat_lt 0 (min n (2 ^ 64)) ≡ nat_lt 0 n
some_elements n = elim (cases_lt 0 n) [
  | inl some ↦ lt-ltb 0 (min n (2 ^ 64)) (omega arith) ∙ sym (lt-ltb 0 n some)
  | inr none ↦ le-ltb 0 (min n (2 ^ 64)) (omega arith) ∙ sym (le-ltb 0 n none)
]

too_many : (n : ℕ) → nat_lt most_cells (min n (most_cells + 1)) ≡ nat_lt most_cells n
too_many n = elim (cases_lt most_cells n) [
  | inl more ↦ lt-ltb most_cells (min n (most_cells + 1)) (omega arith) ∙ sym (lt-ltb most_cells n more)
  | inr less ↦ le-ltb most_cells (min n (most_cells + 1)) (omega arith) ∙ sym (le-ltb most_cells n less)
]

module _ (rows : List TypeRow) (table : StructTable) (t : TypeId) (row : RowFacts) (facts : AreFactsAt rows t row) where
  row_is_complete : (longer : List CType) → Continues (types_of_rows rows) longer
      → (nat_lt 0 row.count && kind_is_complete (structs_in longer table) row.inner) ≡ is_complete (structs_in longer table) (type_in longer t)
  row_is_complete longer more =
      ap (λ s. s && kind_is_complete (structs_in longer table) row.inner) (ap (nat_lt 0) (facts.count longer more) ∙ some_elements (elements (type_in longer t)))
      ∙ sym ((facts.made longer more).complete (structs_in longer table))

  pub complete_is : (a : Bool) → ((types : List CType) → a ≡ (nat_lt 0 row.count && kind_is_complete (structs_in types table) row.inner))
      → Stays rows (λ longer. a ≡ is_complete (structs_in longer table) (type_in longer t))
  complete_is a known longer more = known longer ∙ row_is_complete longer more

  pub incomplete_is : (a : Bool) → ((types : List CType) → a ≡ kind_is_incomplete (structs_in types table) row.inner)
      → Stays rows (λ longer. a ≡ is_incomplete (structs_in longer table) (type_in longer t))
  incomplete_is a known longer more = known longer ∙ sym ((facts.made longer more).incomplete (structs_in longer table))

  pub has_size_is : (a : Bool) → ((types : List CType) → a ≡ ((nat_lt 0 row.count && kind_is_complete (structs_in types table) row.inner) && not (kind_is_floating row.inner)))
      → Stays rows (λ longer. a ≡ has_size (structs_in longer table) (type_in longer t))
  has_size_is a known longer more =
      known longer ∙ ap (λ c. c && not (kind_is_floating row.inner)) (row_is_complete longer more)
      ∙ ap (λ f. is_complete (structs_in longer table) (type_in longer t) && not f) (sym (facts.made longer more).floating)

  module _ (suits : Suits rows table) where
    pub too_many_is : (a : Bool) (cells : ℕ) → a ≡ nat_lt most_cells cells → cells ≡ row_cells table.known.items row
        → Stays rows (λ longer. a ≡ has_too_many_cells (structs_in longer table) (type_in longer t))
    too_many_is a cells is known longer more =
        is
        ∙ ap (nat_lt most_cells) (known ∙ row_cells_is table.model (structs_in longer table) table.known.items (suits longer more) row (type_in longer t) (facts.count longer more) (facts.made longer more))
        ∙ too_many (cells_of (structs_in longer table) (type_in longer t))

    pub size_is : (n : ℕ) → n ≡ unwrap_or (then_some (row_extent table.model table.known.items row) (λ e. Some e.size)) 0
        → Stays rows (λ longer. n ≡ size_of table.model (structs_in longer table) (type_in longer t))
    size_is n is longer more =
        is
        ∙ ap (λ o. unwrap_or (then_some o (λ e. Some e.size)) 0)
        (row_extent_is table.model (structs_in longer table) table.known.items (suits longer more) row (type_in longer t) (facts.count longer more) (facts.made longer more))

    pub constant_is : (a : Bool) → a ≡ row_constant table.known.items row → Stays rows (λ longer. a ≡ has_constant_part (structs_in longer table) (type_in longer t))
    constant_is a is longer more =
        is ∙ row_constant_is table.model (structs_in longer table) table.known.items (suits longer more) row (type_in longer t) (facts.made longer more)
