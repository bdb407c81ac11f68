-- What is found of a struct from the rows of its members' types is what the definitions say.
use Rattle.std.proofs.Common.{◌≡◌, ℕ, ◌+◌, ◌*◌, ◌^◌, ◌<◌, ◌≤◌, min, Bool, true, false, ◌||◌, List, [], ◌∷◌, length, map, take, get_or, Option, Some, None, is_some, unwrap_or, refl, sym, ap, subst, ◌∙◌, arith, true≢false, inl, inr, nat_lt, ◌++◌}
use Rattle.std.proofs.lemmas.Bool.{cases_lt, cond-false, le-ltb}
use Rattle.std.proofs.lemmas.List.{take_more}
use Rattle.std.proofs.lemmas.List.Sums.{sum_by-cons}
use Rattle.std.proofs.Math.Nat.{mul_comm}
use Rattle.lt_model.proofs.Counting.{capped_product}
use Rattle.lt_model.specs.declared.scalar.DataModel.{DataModel}
use Rattle.lt_model.specs.declared.sizes.Extent.{Extent}
use Rattle.lt_model.specs.Layout.{then_some, within, resized, member_offset, with_member}
use Rattle.lt_tree.specs.declared.typed.types.TypeRow.{TypeRow}
use Rattle.lt_tree.specs.declared.typed.entity.Member as entity
use Rattle.lt_tree.specs.Typing.Types.{CType, element}
use Rattle.lt_tree.specs.Typing.TypeRows.{types_of_rows, Continues}
use Rattle.lt_tree.specs.Typing.EntityView.{member_of}
use Rattle.lt_tree.specs.Typing.Extents.{Member, Structs, members_of, is_complete, most_cells, type_cells, struct_cells, elements, single_extent, type_extent, members_extent, struct_extent, Placed, placed_at, placed_behind, part_is_constant, struct_has_constant}
use Rattle.lt_table.specs.declared.structs.StructFacts.{StructFacts}
use Rattle.lt_table.specs.declared.structs.StructTable.{StructTable}
use Rattle.lt_table.specs.declared.table.kind.Kind.{Kind}
use Rattle.lt_table.specs.declared.table.kind.Kind.TheVariants as kind
use Rattle.lt_table.specs.declared.table.kind.RowFacts.{RowFacts}
use Rattle.lt_table.specs.TableElements.{kind_cells, kind_extent, kind_is_constant, IsMadeOf}
use Rattle.lt_table.specs.StructNesting.{AllHoldOnly}
use Rattle.lt_table.specs.StructTables.{structs_in, known_at, facts_cells, facts_extent, facts_constant, row_cells, row_extent, row_constant, cells_from, constant_from, extent_from, offsets_from, placed_with, IsKnown, AreKnown, IsCompleteRow, AreMemberRows}
use Rattle.lt_table.proofs.StructNesting.{IsComplete}
use Rattle.lt_table.proofs.StructFound.{then_some_same, step_cells, step_constant, complete_holds, cells_none, extent_none, constant_none}

-- ---- members as they are gone through

member_rows_last : (rows : List TypeRow) (table : StructTable) (members : List entity.Member) (known : List RowFacts) (member : entity.Member) (row : RowFacts) → AreMemberRows rows table members known
    → IsCompleteRow rows table member.ty row → AreMemberRows rows table (members ++ member ∷ []) (known ++ row ∷ [])
member_rows_last rows table [] [] member row all is = (is, tt)
member_rows_last rows table (x ∷ members) (y ∷ known) member row all is = (all.0, member_rows_last rows table members known member row all.1 is)
member_rows_last rows table [] (y ∷ known) member row all is = absurd all
member_rows_last rows table (x ∷ members) [] member row all is = absurd all

pub member_rows_more : (rows : List TypeRow) (table : StructTable) (members : List entity.Member) (known more : List RowFacts) (k : ℕ) (d member : entity.Member) (row : RowFacts)
    → AreMemberRows rows table (take k members) known → k < length members → get_or members k d ≡ member → IsCompleteRow rows table member.ty row → more ≡ known ++ row ∷ []
    → AreMemberRows rows table (take (k + 1) members) more
member_rows_more rows table members known more k d member row all within at is last =
    subst (AreMemberRows rows table (take (k + 1) members)) (sym last)
    (subst (λ l. AreMemberRows rows table l (known ++ row ∷ [])) (sym (take_more members k d within)) (member_rows_last rows table (take k members) known (get_or members k d) row all (subst (λ x. IsCompleteRow rows table x.ty row) (sym at) is)))

-- ---- kinds

cap_least : (n : ℕ) → n ≤ most_cells + 1 → n ≡ min n (most_cells + 1)
cap_least n less = omega (arith, less)

cells_capped : (capped known : ℕ → ℕ) → ((k : ℕ) → capped k ≡ min (known k) (most_cells + 1)) → (k : Kind) → kind_cells capped k ≡ min (kind_cells known k) (most_cells + 1)
cells_capped capped known h (kind.Struct k) = h k
cells_capped capped known h (kind.Num s) = refl
cells_capped capped known h (kind.Pointer t) = refl
cells_capped capped known h kind.Floating = refl
cells_capped capped known h kind.Void = refl
cells_capped capped known h (kind.Array t n) = refl
cells_capped capped known h kind.Function = refl

extents_same : (m : DataModel) (known other : ℕ → Option Extent) → ((k : ℕ) → known k ≡ other k) → (k : Kind) → kind_extent m known k ≡ kind_extent m other k
extents_same m known other h (kind.Struct k) = h k
extents_same m known other h (kind.Num s) = refl
extents_same m known other h (kind.Pointer t) = refl
extents_same m known other h kind.Floating = refl
extents_same m known other h kind.Void = refl
extents_same m known other h (kind.Array t n) = refl
extents_same m known other h kind.Function = refl

constants_same : (known other : ℕ → Bool) → ((k : ℕ) → known k ≡ other k) → (k : Kind) → kind_is_constant known k ≡ kind_is_constant other k
constants_same known other h (kind.Struct k) = h k
constants_same known other h (kind.Num s) = refl
constants_same known other h (kind.Pointer t) = refl
constants_same known other h kind.Floating = refl
constants_same known other h kind.Void = refl
constants_same known other h (kind.Array t n) = refl
constants_same known other h kind.Function = refl

-- ---- numbers that are cut off

lower_cap : (a b top : ℕ) → top ≤ 2 ^ 64 → min a (2 ^ 64) ≡ min b (2 ^ 64) → min a top ≡ min b top
lower_cap a b top less same = omega (arith, less, same)

capped_both : (n x top : ℕ) → top ≤ 2 ^ 64 → min (min n (2 ^ 64) * min x top) top ≡ min (n * x) top
capped_both n x top less =
    lower_cap (min n (2 ^ 64) * min x top) (n * min x top) top less (capped_product (2 ^ 64) n (min x top))
    ∙ ap (λ p. min p top) (mul_comm n (min x top)) ∙ capped_product top x n ∙ ap (λ p. min p top) (mul_comm x n)

twice : (n top : ℕ) → min (min n top) top ≡ min n top
twice n top = omega arith

within_same : (a b : ℕ) → min a (2 ^ 64) ≡ min b (2 ^ 64) → within a ≡ within b
within_same a b same = elim (cases_lt a (2 ^ 64)) [
  | inl below ↦ let e : a ≡ b = omega (arith, same, below) in ap within e
  | inr above ↦
      let other : 2 ^ 64 ≤ b = omega (arith, same, above) in
      cond-false (nat_lt a (2 ^ 64)) (Some a) None (le-ltb a (2 ^ 64) above) ∙ sym (cond-false (nat_lt b (2 ^ 64)) (Some b) None (le-ltb b (2 ^ 64) other))
]

pub within_capped : (s n c : ℕ) → c ≡ min n (2 ^ 64) → within (s * min c (2 ^ 64)) ≡ within (s * n)
within_capped s n c is =
    within_same (s * min c (2 ^ 64)) (s * n)
    (ap (λ x. min (s * min x (2 ^ 64)) (2 ^ 64)) is ∙ ap (λ x. min (s * x) (2 ^ 64)) (twice n (2 ^ 64)) ∙ ap (λ p. min p (2 ^ 64)) (mul_comm s (min n (2 ^ 64)))
    ∙ capped_product (2 ^ 64) n s ∙ ap (λ p. min p (2 ^ 64)) (mul_comm n s))

-- ---- types and members, where the structs are known

pub none_there : {A : Type 0} (o : Option A) → is_some o ≡ false → o ≡ None
none_there None h = refl
none_there (Some x) h = absurd (true≢false h)

module _ (m : DataModel) (a : Structs) (known : List (Option StructFacts)) (is : AreKnown m a known) where
  cells_at : (k : ℕ) → facts_cells (known_at known k) ≡ min (struct_cells a (length a) k) (most_cells + 1)
  cells_at k = by (known_at known k) (is.each k)
    where
      by : (o : Option StructFacts) → IsKnown m a k o → facts_cells o ≡ min (struct_cells a (length a) k) (most_cells + 1)
      by None none = ap (λ n. min n (most_cells + 1)) (sym (cells_none a (length a) k (none_there (members_of a k) none)))
      by (Some facts) h = h.cells

  extent_at : (k : ℕ) → facts_extent (known_at known k) ≡ struct_extent m a (length a) k
  extent_at k = by (known_at known k) (is.each k)
    where
      by : (o : Option StructFacts) → IsKnown m a k o → facts_extent o ≡ struct_extent m a (length a) k
      by None none = sym (extent_none m a (length a) k (none_there (members_of a k) none))
      by (Some facts) h = h.extent

  constant_at : (k : ℕ) → facts_constant (known_at known k) ≡ struct_has_constant a (length a) k
  constant_at k = by (known_at known k) (is.each k)
    where
      by : (o : Option StructFacts) → IsKnown m a k o → facts_constant o ≡ struct_has_constant a (length a) k
      by None none = sym (constant_none a (length a) k (none_there (members_of a k) none))
      by (Some facts) h = h.constant

  pub row_cells_is : (row : RowFacts) (t : CType) → row.count ≡ min (elements t) (2 ^ 64) → IsMadeOf row.inner row.quals.constant t
      → row_cells known row ≡ min (type_cells (struct_cells a (length a)) t) (most_cells + 1)
  row_cells_is row t count made =
      ap (λ x. min (min row.count (2 ^ 64) * x) (most_cells + 1)) (cells_capped (λ k. facts_cells (known_at known k)) (struct_cells a (length a)) cells_at row.inner)
      ∙ ap (λ c. min (min c (2 ^ 64) * min (kind_cells (struct_cells a (length a)) row.inner) (most_cells + 1)) (most_cells + 1)) count
      ∙ ap (λ c. min (c * min (kind_cells (struct_cells a (length a)) row.inner) (most_cells + 1)) (most_cells + 1)) (twice (elements t) (2 ^ 64))
      ∙ capped_both (elements t) (kind_cells (struct_cells a (length a)) row.inner) (most_cells + 1) (omega arith)
      ∙ ap (λ x. min x (most_cells + 1)) (sym (made.cells (struct_cells a (length a))))

  pub row_extent_is : (row : RowFacts) (t : CType) → row.count ≡ min (elements t) (2 ^ 64) → IsMadeOf row.inner row.quals.constant t
      → row_extent m known row ≡ type_extent m (struct_extent m a (length a)) t
  row_extent_is row t count made =
      ap (λ o. then_some o (λ e. resized e (within (e.size * min row.count (2 ^ 64)))))
      (extents_same m (λ k. facts_extent (known_at known k)) (struct_extent m a (length a)) extent_at row.inner ∙ sym (made.extent m (struct_extent m a (length a))))
      ∙ sized (single_extent m (struct_extent m a (length a)) (element t))
    where
      sized : (o : Option Extent) → then_some o (λ e. resized e (within (e.size * min row.count (2 ^ 64)))) ≡ then_some o (λ e. resized e (within (e.size * elements t)))
      sized None = refl
      sized (Some e) = ap (resized e) (within_capped e.size (elements t) row.count count)

  pub row_constant_is : (row : RowFacts) (t : CType) → IsMadeOf row.inner row.quals.constant t → row_constant known row ≡ part_is_constant (struct_has_constant a (length a)) t
  row_constant_is row t made =
      ap (λ b. row.quals.constant || b) (constants_same (λ k. facts_constant (known_at known k)) (struct_has_constant a (length a)) constant_at row.inner)
      ∙ sym (made.parts (struct_has_constant a (length a)))

  -- each is what is known of the type of a member, which is complete
  pub record IsMemberRow (member : Member) (row : RowFacts) : Type 0 where
    pub count : row.count ≡ min (elements member.type) (2 ^ 64)
    pub made : IsMadeOf row.inner row.quals.constant member.type
    pub complete : is_complete a member.type ≡ true

  abbrev pub AreRowsOf : List Member → List RowFacts → Type 0
  AreRowsOf [] [] = Unit {0}
  AreRowsOf (member ∷ members) (row ∷ rows) = IsMemberRow member row × AreRowsOf members rows
  AreRowsOf _ _ = ⊥

  pub hold_complete : (members : List Member) (rows : List RowFacts) → AreRowsOf members rows → AllHoldOnly (IsComplete a) members
  hold_complete [] rows h = tt
  hold_complete (member ∷ members) [] h = absurd h
  hold_complete (member ∷ members) (row ∷ rows) h = (complete_holds a member.type h.0.complete, hold_complete members rows h.1)

  sum_capped : (n r x s top : ℕ) → r ≡ min x top → min (min (n + r) top + s) top ≡ min (n + (x + s)) top
  sum_capped n r x s top is_capped = omega (arith, is_capped)

  pub cells_from_is : (members : List Member) (rows : List RowFacts) → AreRowsOf members rows → (n : ℕ) → n ≤ most_cells + 1
      → cells_from known n rows ≡ min (n + step_cells (struct_cells a (length a)) members) (most_cells + 1)
  cells_from_is [] [] h n less = omega (arith, less)
  cells_from_is [] (row ∷ rows) h n less = absurd h
  cells_from_is (member ∷ members) [] h n less = absurd h
  cells_from_is (member ∷ members) (row ∷ rows) h n less =
      cells_from_is members rows h.1 (min (n + row_cells known row) (most_cells + 1)) (omega arith)
      ∙ sum_capped n (row_cells known row) (type_cells (struct_cells a (length a)) member.type) (step_cells (struct_cells a (length a)) members) (most_cells + 1) (row_cells_is row member.type h.0.count h.0.made)
      ∙ ap (λ s. min (n + s) (most_cells + 1)) (sym (sum_by-cons (λ it. type_cells (struct_cells a (length a)) it.type) member members))

  pub constant_from_is : (members : List Member) (rows : List RowFacts) → AreRowsOf members rows → (b : Bool) → constant_from known b rows ≡ (b || step_constant (struct_has_constant a (length a)) members)
  constant_from_is [] [] h true = refl
  constant_from_is [] [] h false = refl
  constant_from_is [] (row ∷ rows) h b = absurd h
  constant_from_is (member ∷ members) [] h b = absurd h
  constant_from_is (member ∷ members) (row ∷ rows) h b =
      constant_from_is members rows h.1 (b || row_constant known row)
      ∙ ap (λ c. (b || c) || step_constant (struct_has_constant a (length a)) members) (row_constant_is row member.type h.0.made)
      ∙ either b (part_is_constant (struct_has_constant a (length a)) member.type) (step_constant (struct_has_constant a (length a)) members)
    where
      either : (x y z : Bool) → ((x || y) || z) ≡ (x || (y || z))
      either true y z = refl
      either false y z = refl

  pub extent_from_is : (members : List Member) (rows : List RowFacts) → AreRowsOf members rows → (before : Extent)
      → extent_from m known before rows ≡ members_extent (type_extent m (struct_extent m a (length a))) before members
  extent_from_is [] [] h before = refl
  extent_from_is [] (row ∷ rows) h before = absurd h
  extent_from_is (member ∷ members) [] h before = absurd h
  extent_from_is (member ∷ members) (row ∷ rows) h before =
      ap (λ o. then_some o (λ e. then_some (with_member before e) (λ after. extent_from m known after rows))) (row_extent_is row member.type h.0.count h.0.made)
      ∙ then_some_same (type_extent m (struct_extent m a (length a)) member.type) _ _ (λ e. then_some_same (with_member before e) _ _ (λ after. extent_from_is members rows h.1 after))

  placed_step : (member : Member) (members : List Member) (offset_at : Extent → Option ℕ) (end_at : Extent → Option Extent) (offsets : Extent → List ℕ) (placed : Extent → List Placed)
      → ((after : Extent) → placed_with members (offsets after) ≡ placed after) → (o : Option Extent)
      → placed_with (member ∷ members) (unwrap_or (then_some {A = ℕ × Extent} (then_some o (λ e. then_some (offset_at e) (λ offset. then_some (end_at e) (λ after. Some (offset, after))))) (λ p. Some (p.0 ∷ offsets p.1))) [])
      ≡ unwrap_or (then_some o (λ e. then_some (offset_at e) (λ offset. then_some (end_at e) (λ after. Some (placed_at member offset ∷ placed after))))) []
  placed_step member members offset_at end_at offsets placed same None = refl
  placed_step member members offset_at end_at offsets placed same (Some e) = at_offset (offset_at e) (end_at e)
    where
      at_offset : (o : Option ℕ) (p : Option Extent)
          → placed_with (member ∷ members) (unwrap_or (then_some {A = ℕ × Extent} (then_some o (λ offset. then_some p (λ after. Some (offset, after)))) (λ p. Some (p.0 ∷ offsets p.1))) [])
          ≡ unwrap_or (then_some o (λ offset. then_some p (λ after. Some (placed_at member offset ∷ placed after)))) []
      at_offset None p = refl
      at_offset (Some offset) None = refl
      at_offset (Some offset) (Some after) = ap (λ rest. placed_at member offset ∷ rest) (same after)

  pub offsets_from_are : (members : List Member) (rows : List RowFacts) → AreRowsOf members rows → (before : Extent)
      → placed_with members (offsets_from m known before rows) ≡ placed_behind (type_extent m (struct_extent m a (length a))) before members
  offsets_from_are [] [] h before = refl
  offsets_from_are [] (row ∷ rows) h before = absurd h
  offsets_from_are (member ∷ members) [] h before = absurd h
  offsets_from_are (member ∷ members) (row ∷ rows) h before =
      ap (λ o. placed_with (member ∷ members) (unwrap_or (then_some {A = ℕ × Extent} (then_some o (λ e. then_some (member_offset before e) (λ offset. then_some (with_member before e) (λ after. Some (offset, after))))) (λ p. Some (p.0 ∷ offsets_from m known p.1 rows))) []))
      (row_extent_is row member.type h.0.count h.0.made)
      ∙ placed_step member members (member_offset before) (with_member before) (λ after. offsets_from m known after rows) (λ after. placed_behind (type_extent m (struct_extent m a (length a))) after members)
      (λ after. offsets_from_are members rows h.1 after) (type_extent m (struct_extent m a (length a)) member.type)

pub are_rows_of : (rows : List TypeRow) (table : StructTable) (longer : List CType) (members : List entity.Member) (member_rows : List RowFacts) (is : AreKnown table.model (structs_in longer table) table.known.items)
    → Continues (types_of_rows rows) longer → AreMemberRows rows table members member_rows
    → AreRowsOf table.model (structs_in longer table) table.known.items is (map (member_of longer) members) member_rows
are_rows_of rows table longer [] [] is more h = tt
are_rows_of rows table longer [] (row ∷ member_rows) is more h = absurd h
are_rows_of rows table longer (member ∷ members) [] is more h = absurd h
are_rows_of rows table longer (member ∷ members) (row ∷ member_rows) is more h =
    (record { count = h.0.0.count longer more; made = h.0.0.made longer more; complete = h.0.1 longer more }, are_rows_of rows table longer members member_rows is more h.1)
