-- The cells of objects that are taken apart step by step.
use Rattle.std.proofs.Common.{◌≡◌, ℕ, zero, suc, ◌+◌, ◌-◌, List, [], ◌∷◌, ◌++◌, map, length, drop, get_or, ◌<◌, ◌≤◌, arith, refl, sym, ap, ◌∙◌, append_assoc, append-nil, drop-cons, Result, Ok, Err}
use Rattle.std.specs.Result.{OnOk}
use Rattle.std.proofs.lemmas.List.Folds.{flat_map-map}
use Rattle.std.proofs.lemmas.List.Concat.{flat_map-cons}
use Rattle.lt_model.specs.declared.cell.ShapeCell.{ShapeCell}
use Rattle.lt_tree.specs.Typing.Types.{CType, Struct}
use Rattle.lt_tree.specs.Typing.TypeRows.{type_in}
use Rattle.lt_tree.specs.Typing.Extents.{Placed, placed_members, size_of}
use Rattle.lt_tree.specs.Typing.Shapes.{struct_cells_at, repeated}
use Rattle.lt_tree.specs.Typing.Programs.{Program}
use Rattle.lt_tables.specs.declared.tables.shapes.Stretch.{Stretch}
use Rattle.lt_table.specs.declared.structs.PlacedMember.{PlacedMember}
use Rattle.lt_tables.specs.Layouts.{pairs_of}
use Rattle.lt_tables.specs.Stretches.{cells_in, members_cells, stretch_cells, cells_left}

-- ---- members of a struct

pub struct_cells : (program : Program) (depth k offset : ℕ) (pairs : List (CType × ℕ)) → pairs ≡ map (λ member. (member.type, member.offset)) (placed_members program.model program.structs k)
    → members_cells program depth pairs offset ≡ cells_in program depth (Struct k) offset
unfolding struct_cells_at
struct_cells program zero k offset pairs are = refl
struct_cells program (suc depth) k offset pairs are =
    ap (λ l. members_cells program (suc depth) l offset) are ∙ flat_map-map (λ (member : CType × ℕ). cells_in program depth member.0 (offset + member.1)) (λ (member : Placed). (member.type, member.offset)) (placed_members program.model program.structs k)

module _ (program : Program) (types : List CType) where
  -- one more is left
  pub left_last : (its : List Stretch) (it : Stretch) → cells_left program types (its ++ it ∷ []) ≡ stretch_cells program types it ++ cells_left program types its
  left_last [] it = sym (append-nil (stretch_cells program types it))
  left_last (x ∷ its) it = ap (λ l. l ++ stretch_cells program types x) (left_last its it) ∙ append_assoc (stretch_cells program types it) (cells_left program types its) (stretch_cells program types x)

  pub one_object : (it : Stretch) → it.count ≡ 1 → stretch_cells program types it ≡ cells_in program it.depth (type_in types it.ty) it.offset
  one_object it one =
      ap (λ n. repeated n (size_of program.model program.structs (type_in types it.ty)) (cells_in program it.depth (type_in types it.ty)) it.offset) one
      ∙ append-nil (cells_in program it.depth (type_in types it.ty) it.offset)

  -- ---- what is made of the first object of a stretch, where these cells are there and these stretches left

  pub scalar_opened : (left : List Stretch) (old new cells : List ShapeCell) (it : ShapeCell) → new ≡ old ++ it ∷ [] → cells ≡ it ∷ [] → new ++ cells_left program types left ≡ old ++ (cells ++ cells_left program types left)
  scalar_opened left old new cells it last is =
      ap (λ l. l ++ cells_left program types left) last ∙ append_assoc old (it ∷ []) (cells_left program types left) ∙ ap (λ l. old ++ (l ++ cells_left program types left)) (sym is)

  pub stretch_left : (left new : List Stretch) (old cells : List ShapeCell) (it : Stretch) → new ≡ left ++ it ∷ [] → stretch_cells program types it ≡ cells
      → old ++ cells_left program types new ≡ old ++ (cells ++ cells_left program types left)
  stretch_left left new old cells it last is =
      ap (λ l. old ++ cells_left program types l) last ∙ ap (λ l. old ++ l) (left_last left it) ∙ ap (λ l. old ++ (l ++ cells_left program types left)) is

  pub none_left : (left : List Stretch) (old cells : List ShapeCell) → cells ≡ [] → old ++ cells_left program types left ≡ old ++ (cells ++ cells_left program types left)
  none_left left old cells is = ap (λ l. old ++ (l ++ cells_left program types left)) (sym is)

  -- members are left, one more
  pub member_left : (depth : ℕ) (members : List PlacedMember) (here place offset : ℕ) (d : PlacedMember) (left new : List Stretch) (it : Stretch) (below : List ShapeCell) → suc place ≡ here → here ≤ length members
      → it ≡ record { ty = (get_or members place d).ty; offset = offset + (get_or members place d).offset; count = 1; depth = depth } → new ≡ left ++ it ∷ []
      → cells_left program types left ≡ members_cells program (suc depth) (pairs_of types (drop here members)) offset ++ below
      → cells_left program types new ≡ members_cells program (suc depth) (pairs_of types (drop place members)) offset ++ below
  member_left depth members here place offset d left new it below next less made last before =
      let within : place < length members = omega (arith, next, less) in
      let member = get_or members place d in
      let rest = members_cells program (suc depth) (pairs_of types (drop (suc place) members)) offset in
      let first = cells_in program depth (type_in types member.ty) (offset + member.offset) in
      ap (cells_left program types) last ∙ left_last left it
      ∙ ap (λ x. stretch_cells program types x ++ cells_left program types left) made
      ∙ ap (λ l. l ++ cells_left program types left) (append-nil first)
      ∙ ap (λ l. first ++ l) (before ∙ ap (λ n. members_cells program (suc depth) (pairs_of types (drop n members)) offset ++ below) (sym next)) ∙ sym (append_assoc first rest below)
      ∙ ap (λ l. l ++ below) (sym (flat_map-cons (λ (p : CType × ℕ). cells_in program depth p.0 (offset + p.1)) (type_in types member.ty, member.offset) (pairs_of types (drop (suc place) members))))
      ∙ ap (λ l. members_cells program (suc depth) (pairs_of types l) offset ++ below) (sym (drop-cons members place d within))

  -- the first of several is taken apart
  pub first_apart : (left new : List Stretch) (old cells : List ShapeCell) (it behind : Stretch) (n : ℕ) → it.count ≡ suc n
      → behind ≡ record { ty = it.ty; offset = it.offset + size_of program.model program.structs (type_in types it.ty); count = n; depth = it.depth } → new ≡ left ++ behind ∷ []
      → old ++ (cells_in program it.depth (type_in types it.ty) it.offset ++ cells_left program types new) ≡ old ++ (stretch_cells program types it ++ cells_left program types left)
  first_apart left new old cells it behind n counted is last =
      let t = type_in types it.ty in
      let size = size_of program.model program.structs t in
      let first = cells_in program it.depth t it.offset in
      let others = repeated n size (cells_in program it.depth t) (it.offset + size) in
      ap (λ l. old ++ (first ++ cells_left program types l)) last ∙ ap (λ l. old ++ (first ++ l)) (left_last left behind)
      ∙ ap (λ x. old ++ (first ++ (stretch_cells program types x ++ cells_left program types left))) is
      ∙ ap (λ l. old ++ l) (sym (append_assoc first others (cells_left program types left)))
      ∙ ap (λ k. old ++ (repeated k size (cells_in program it.depth t) it.offset ++ cells_left program types left)) (sym counted)

  pub first_left : {E : Type 0} (left mid : List Stretch) (old cells : List ShapeCell) (it behind : Stretch) (n : ℕ) (new : List Stretch) (result : Result (Unit {0}) E) → it.count ≡ suc n
      → behind ≡ record { ty = it.ty; offset = it.offset + size_of program.model program.structs (type_in types it.ty); count = n; depth = it.depth } → mid ≡ left ++ behind ∷ []
      → OnOk result (cells ++ cells_left program types new ≡ old ++ (cells_in program it.depth (type_in types it.ty) it.offset ++ cells_left program types mid))
      → OnOk result (cells ++ cells_left program types new ≡ old ++ (stretch_cells program types it ++ cells_left program types left))
  first_left left mid old cells it behind n new (Ok u) counted is last opened = opened ∙ first_apart left mid old cells it behind n counted is last
  first_left left mid old cells it behind n new (Err e) counted is last opened = tt

  -- at the beginning, one stretch is left, and at the end none

  pub one_left : (left new : List Stretch) (cells : List ShapeCell) (it : Stretch) → left ≡ [] → new ≡ left ++ it ∷ [] → cells ≡ [] → cells ++ cells_left program types new ≡ stretch_cells program types it
  one_left left new cells it none last no_cells =
      ap (λ l. l ++ cells_left program types new) no_cells ∙ ap (cells_left program types) last ∙ left_last left it ∙ ap (λ l. stretch_cells program types it ++ cells_left program types l) none
      ∙ append-nil (stretch_cells program types it)

  no_items : (left : List Stretch) → length left ≡ 0 → left ≡ []
  no_items [] none = refl
  no_items (it ∷ left) none = absurd (omega (arith, none))

  pub nothing_left : (left : List Stretch) (cells whole : List ShapeCell) → length left ≡ 0 → cells ++ cells_left program types left ≡ whole → cells ≡ whole
  nothing_left left cells whole none before = sym (append-nil cells) ∙ ap (λ l. cells ++ cells_left program types l) (sym (no_items left none)) ∙ before

  -- one stretch of those that are left is taken
  pub stretch_taken : (left old : List Stretch) (cells whole : List ShapeCell) (it : Stretch) → old ≡ left ++ it ∷ [] → cells ++ cells_left program types old ≡ whole
      → cells ++ (stretch_cells program types it ++ cells_left program types left) ≡ whole
  stretch_taken left old cells whole it last before = ap (λ l. cells ++ l) (sym (left_last left it)) ∙ ap (λ l. cells ++ cells_left program types l) (sym last) ∙ before

pub all_left : (program : Program) (types : List CType) (depth place offset : ℕ) (members : List PlacedMember) (cells below : List ShapeCell) → (depth ≡ 0 → ⊥) → place ≤ 0
    → cells ≡ members_cells program (suc (depth - 1)) (pairs_of types (drop place members)) offset ++ below → cells ≡ members_cells program depth (pairs_of types members) offset ++ below
all_left program types depth (suc place) offset members cells below deep none is = absurd (omega (arith, none))
all_left program types zero zero offset members cells below deep none is = absurd (deep refl)
all_left program types (suc depth) zero offset members cells below deep none is =
    let same : suc depth - 1 ≡ depth = omega arith in is ∙ ap (λ d. members_cells program (suc d) (pairs_of types members) offset ++ below) same
