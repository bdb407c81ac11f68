-- Objects that are there from the start hold the same where types have other numbers.
use Rattle.std.proofs.Common.{◌≡◌, ℕ, List, [], ◌∷◌, map, Bool, true, false, refl, ap, ◌∙◌}
use Rattle.std.specs.Prelude.{◌==◌, ◌+◌, not, pos, if◌then◌else◌}
use Rattle.std.specs.List.{AllByRecursion}
use Rattle.lt_model.specs.declared.cell.Content.{Content}
use Rattle.lt_model.specs.declared.cell.Content.TheVariants as content
use Rattle.lt_model.specs.declared.cell.Shape.{Shape}
use Rattle.lt_model.specs.declared.cell.StoredCell.{StoredCell}
use Rattle.lt_model.specs.declared.scalar.DataModel.{DataModel}
use Rattle.lt_model.specs.Memory.{as_type, new_cell}
use Rattle.lt_tree.specs.Typing.Types.{CType}
use Rattle.lt_tree.specs.Typing.Constants.{Constancy, number, address, varying, faulty, null_constant, null_address}
use Rattle.lt_tree.specs.Typing.TypedTree as e
use Rattle.lt_tree.specs.Typing.TypedTree.{StartPart}
use Rattle.lt_tree.specs.Typing.Entities.{Object, is_static, is_sealed}
use Rattle.lt_tree.specs.Typing.Programs.{Program}
use Rattle.lt_ir.specs.declared.code.Static.{Static}
use Rattle.lt_meaning.specs.Expressions.{shape}
use Rattle.lt_meaning.specs.Statements.{parts_in}
use Rattle.lt_meaning.specs.Runs.{name_in_files, fixed_content, fixed_in, letters_in, part_in, all_parts_in, initial, initials}
use Rattle.lt_type_laws.specs.Renumbered.{cell_type_with, cell_with, shape_with}
use Rattle.lt_type_laws.proofs.Memory.{Comparison, as_type_with, new_with}
use Rattle.lt_type_laws.proofs.Programs.{HasShape}
use Rattle.lt_type_laws.proofs.Roots.{static_with, StaticsFit}

module _ (seen : Comparison) (P : Program) (ts : List CType) where
  abbrev Q : Program
  Q = record P { types = ts }

  abbrev others : List StoredCell → List StoredCell
  others cells = map (cell_with seen.numbers) cells

  fixed_same : (c : Constancy) → fixed_content Q c ≡ fixed_content P c
  fixed_same varying = refl
  fixed_same faulty = refl
  fixed_same (number z) = refl
  fixed_same null_constant = refl
  fixed_same null_address = refl
  fixed_same (address n offset) = refl

  fixed_with : (m : DataModel) (offset : ℕ) (c : Content) (cells : List StoredCell) → fixed_in m offset c (others cells) ≡ others (fixed_in m offset c cells)
  fixed_with m offset c [] = refl
  fixed_with m offset c (it ∷ cells) = by (it.offset == offset) (fixed_with m offset c cells)
    where
      by : (b : Bool) → fixed_in m offset c (others cells) ≡ others (fixed_in m offset c cells)
          → (if b then record (cell_with seen.numbers it) { holds = as_type m (cell_type_with seen.numbers it.ty) c } ∷ others cells else cell_with seen.numbers it ∷ fixed_in m offset c (others cells))
          ≡ others (if b then record it { holds = as_type m it.ty c } ∷ cells else it ∷ fixed_in m offset c cells)
      by true h = ap (λ x. record (cell_with seen.numbers it) { holds = x } ∷ others cells) (as_type_with seen m it.ty c)
      by false h = ap (λ them. cell_with seen.numbers it ∷ them) h

  letters_with : (m : DataModel) (offset : ℕ) (bytes : List ℕ) (cells : List StoredCell) → letters_in m offset bytes (others cells) ≡ others (letters_in m offset bytes cells)
  letters_with m offset [] cells = refl
  letters_with m offset (b ∷ bytes) cells =
      ap (letters_in m (offset + 1) bytes) (fixed_with m offset (content.Number (pos b)) cells) ∙ letters_with m (offset + 1) bytes (fixed_in m offset (content.Number (pos b)) cells)

  part_with : (part : StartPart) (cells : List StoredCell) → part_in Q part (others cells) ≡ others (part_in P part cells)
  part_with (e.stored offset v) cells = refl
  part_with (e.fixed offset t c) cells = ap (λ x. fixed_in P.model offset x (others cells)) (fixed_same c) ∙ fixed_with P.model offset (fixed_content P c) cells
  part_with (e.letters offset s bytes) cells = letters_with P.model offset bytes cells

  parts_with : (parts : List StartPart) (cells : List StoredCell) → all_parts_in Q parts (others cells) ≡ others (all_parts_in P parts cells)
  parts_with [] cells = refl
  parts_with (part ∷ parts) cells = ap (all_parts_in Q parts) (part_with part cells) ∙ parts_with parts (part_in P part cells)

  holds_same : (cells : List StoredCell) → map (λ (cell : StoredCell). cell.holds) (others cells) ≡ map (λ (cell : StoredCell). cell.holds) cells
  holds_same [] = refl
  holds_same (c ∷ cs) = ap (λ them. c.holds ∷ them) (holds_same cs)

  started_same : (object : Object) → map (λ (cell : StoredCell). cell.holds) (all_parts_in Q (parts_in object.start) (map (new_cell true) (shape_with seen.numbers (shape P object.type)).cells))
      ≡ map (λ (cell : StoredCell). cell.holds) (all_parts_in P (parts_in object.start) (map (new_cell true) (shape P object.type).cells))
  started_same object =
      ap (λ cells. map (λ (cell : StoredCell). cell.holds) (all_parts_in Q (parts_in object.start) cells)) (new_with seen true (shape P object.type).cells)
      ∙ ap (map (λ (cell : StoredCell). cell.holds)) (parts_with (parts_in object.start) (map (new_cell true) (shape P object.type).cells))
      ∙ holds_same (all_parts_in P (parts_in object.start) (map (new_cell true) (shape P object.type).cells))

  initial_same : (object : Object) → HasShape seen P ts object.type → initial Q object ≡ static_with seen.numbers (initial P object)
  initial_same object h =
      ap (λ (it : Shape). record { block = record { name = name_in_files object; shape = it }; cells = map (λ (cell : StoredCell). cell.holds) (all_parts_in Q (parts_in object.start) (map (new_cell true) it.cells)); writable = not (is_sealed object) }) h.0
      ∙ ap (λ cells. record { block = record { name = name_in_files object; shape = shape_with seen.numbers (shape P object.type) }; cells = cells; writable = not (is_sealed object) }) (started_same object)

  initials_by : (b : Bool) (object : Object) (its others : List Static) → HasShape seen P ts object.type → others ≡ map (static_with seen.numbers) its
      → (if b then initial Q object ∷ others else others) ≡ map (static_with seen.numbers) (if b then initial P object ∷ its else its)
  initials_by true object its others h e = ap (λ it. it ∷ others) (initial_same object h) ∙ ap (λ them. static_with seen.numbers (initial P object) ∷ them) e
  initials_by false object its others h e = e

  pub initials_same : (objects : List Object) → AllByRecursion (λ (object : Object). HasShape seen P ts object.type) objects → initials Q objects ≡ map (static_with seen.numbers) (initials P objects)
  initials_same [] h = refl
  initials_same (object ∷ objects) h = initials_by (is_static object.life) object (initials P objects) (initials Q objects) h.0 (initials_same objects h.1)

  fit_by : (b : Bool) (object : Object) (its : List Static) → HasShape seen P ts object.type → StaticsFit seen its → StaticsFit seen (if b then initial P object ∷ its else its)
  fit_by true object its h g = (h.1, g)
  fit_by false object its h g = g

  pub initials_fit : (objects : List Object) → AllByRecursion (λ (object : Object). HasShape seen P ts object.type) objects → StaticsFit seen (initials P objects)
  initials_fit [] h = tt
  initials_fit (object ∷ objects) h = fit_by (is_static object.life) object (initials P objects) h.0 (initials_fit objects h.1)
