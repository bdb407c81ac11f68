-- Members one behind the other, and the structs that have them.
use Rattle.std.proofs.Common.{◌≡◌, ◌==◌, ◌&&◌, Bool, true, false, ◌<◌, ◌+◌, ℕ, zero, suc, List, [], ◌∷◌, ◌++◌, map, drop, length, get_or, slice_index_or, Option, Some, None, is_some, option_map, unwrap_or, true≢false, refl, sym, ap, subst, ◌∙◌, arith, append_assoc, append-nil, drop-cons}
use Rattle.std.specs.Global.{Vec}
use Rattle.std.proofs.lemmas.Bool.{eqb-true, eq-eqb}
use Rattle.std.proofs.lemmas.List.{map-append, length-map}
use Rattle.lt_model.specs.declared.scalar.DataModel.{DataModel}
use Rattle.lt_model.specs.declared.sizes.Extent.{Extent}
use Rattle.lt_model.specs.Layout.{then_some, no_members, member_offset, with_member}
use Rattle.lt_tree.specs.declared.typed.entity.Member as typed
use Rattle.lt_tree.specs.declared.typed.entity.StructType.{StructType}
use Rattle.lt_tree.specs.declared.typed.types.TypeRow.{TypeRow}
use Rattle.lt_tree.specs.Typing.Types.{CType, same}
use Rattle.lt_tree.specs.Typing.TypeRows.{type_in, types_of_rows}
use Rattle.lt_tree.specs.Typing.EntityView.{member_of, struct_of, structs_of}
use Rattle.lt_tree.specs.Typing.Extents.{Member, members_in, type_extent, members_extent, struct_extent, placed_at, placed_behind}
use Rattle.lt_table.specs.declared.structs.extent.Extent as table
use Rattle.lt_table.specs.declared.structs.PlacedMember.{PlacedMember}
use Rattle.lt_table.specs.StructTables.{extent_value, pairs_in}
use Rattle.lt_table.proofs.TableSame.{same_exact, same_self}
use Rattle.lt_tables.specs.declared.layouts.Layouts.{Layouts}
use Rattle.lt_tables.specs.TypeParts.{extent_among}
use Rattle.lt_tables.specs.Layouts.{pairs_of, members_among, placed_with, step_with, size_with, same_pairs, object_size, AreLayoutsOf}

none_some : {A : Type 0} {a : A} → None ≡ Some a → ⊥
none_some p = true≢false (sym (ap is_some p))

next_drop : {A : Type 0} (k : ℕ) (l : List A) → drop (suc k) l ≡ drop (k + 1) l
next_drop k l = let same : suc k ≡ k + 1 = omega arith in ap (λ n. drop n l) same

module _ (m : DataModel) (known : ℕ → Option Extent) (types : List CType) where
  of : CType → Option Extent
  of = type_extent m known

  -- the members from a place on
  abbrev from : ℕ → List typed.Member → List Member
  from k members = map (member_of types) (drop k members)

  first_from : (k : ℕ) (members : List typed.Member) (member : typed.Member) → k < length members → member ≡ get_or members k member → from k members ≡ member_of types member ∷ from (k + 1) members
  first_from k members member within is =
      ap (map (member_of types)) (drop-cons members k member within) ∙ ap (λ x. member_of types x ∷ from (suc k) members) (sym is) ∙ ap (λ l. member_of types member ∷ map (member_of types) l) (next_drop k members)

  -- ---- the end of members

  end_step : (member : Member) (rest : List Member) (before e after : Extent) → type_extent m known member.type ≡ Some e → with_member before e ≡ Some after
      → members_extent (type_extent m known) before (member ∷ rest) ≡ members_extent (type_extent m known) after rest
  end_step member rest before e after is more =
      ap (λ o. then_some o (λ x. then_some (with_member before x) (λ y. members_extent (type_extent m known) y rest))) is ∙ ap (λ o. then_some o (λ y. members_extent (type_extent m known) y rest)) more

  pub end_more : (members : List typed.Member) (k : ℕ) (member : typed.Member) (before e after : Extent) (whole : Option Extent) → k < length members → member ≡ get_or members k member
      → type_extent m known (type_in types member.ty) ≡ Some e → with_member before e ≡ Some after → members_extent (type_extent m known) before (map (member_of types) (drop k members)) ≡ whole
      → members_extent (type_extent m known) after (map (member_of types) (drop (k + 1) members)) ≡ whole
  end_more members k member before e after whole within at is more all =
      sym (end_step (member_of types member) (from (k + 1) members) before e after is more) ∙ ap (members_extent (type_extent m known) before) (sym (first_from k members member within at)) ∙ all

  pub end_missing : (members : List typed.Member) (k : ℕ) (member : typed.Member) (before : Extent) (whole : Option Extent) → k < length members → member ≡ get_or members k member
      → type_extent m known (type_in types member.ty) ≡ None → members_extent (type_extent m known) before (map (member_of types) (drop k members)) ≡ whole → None ≡ whole
  end_missing members k member before whole within at is all =
      ap (λ o. then_some o (λ x. then_some (with_member before x) (λ y. members_extent (type_extent m known) y (from (k + 1) members)))) (sym is)
      ∙ ap (members_extent (type_extent m known) before) (sym (first_from k members member within at)) ∙ all

  pub end_past : (members : List typed.Member) (k : ℕ) (member : typed.Member) (before e : Extent) (whole : Option Extent) → k < length members → member ≡ get_or members k member
      → type_extent m known (type_in types member.ty) ≡ Some e → with_member before e ≡ None → members_extent (type_extent m known) before (map (member_of types) (drop k members)) ≡ whole → None ≡ whole
  end_past members k member before e whole within at is more all =
      ap (λ o. then_some o (λ y. members_extent (type_extent m known) y (from (k + 1) members))) (sym more)
      ∙ ap (λ o. then_some o (λ x. then_some (with_member before x) (λ y. members_extent (type_extent m known) y (from (k + 1) members)))) (sym is)
      ∙ ap (members_extent (type_extent m known) before) (sym (first_from k members member within at)) ∙ all

  -- ---- members with their offsets

  placed_step : (member : Member) (rest : List Member) (before : Extent) (offset : ℕ) (after : Extent) → step_with m known before member.type ≡ Some (offset, after)
      → placed_behind (type_extent m known) before (member ∷ rest) ≡ placed_at member offset ∷ placed_behind (type_extent m known) after rest
  placed_step member rest before offset after is = by (type_extent m known member.type) is
    where
      pair : (o : Option ℕ) (p : Option Extent) → then_some {B = ℕ × Extent} o (λ x. then_some p (λ y. Some (x, y))) ≡ Some (offset, after)
          → unwrap_or (then_some o (λ x. then_some p (λ y. Some (placed_at member x ∷ placed_behind (type_extent m known) y rest)))) [] ≡ placed_at member offset ∷ placed_behind (type_extent m known) after rest
      pair None p h = absurd (none_some h)
      pair (Some x) None h = absurd (none_some h)
      pair (Some x) (Some y) h = ap (λ q. placed_at member q.0 ∷ placed_behind (type_extent m known) q.1 rest) (ap (λ o. unwrap_or o (x, y)) h)

      by : (o : Option Extent) → then_some {B = ℕ × Extent} o (λ e. then_some (member_offset before e) (λ x. then_some (with_member before e) (λ y. Some (x, y)))) ≡ Some (offset, after)
          → unwrap_or (then_some o (λ e. then_some (member_offset before e) (λ x. then_some (with_member before e) (λ y. Some (placed_at member x ∷ placed_behind (type_extent m known) y rest))))) []
          ≡ placed_at member offset ∷ placed_behind (type_extent m known) after rest
      by None h = absurd (none_some h)
      by (Some e) h = pair (member_offset before e) (with_member before e) h

  placed_none : (member : Member) (rest : List Member) (before : Extent) → step_with m known before member.type ≡ None → placed_behind (type_extent m known) before (member ∷ rest) ≡ []
  placed_none member rest before is = by (type_extent m known member.type) is
    where
      pair : (o : Option ℕ) (p : Option Extent) → then_some {B = ℕ × Extent} o (λ x. then_some p (λ y. Some (x, y))) ≡ None
          → unwrap_or (then_some o (λ x. then_some p (λ y. Some (placed_at member x ∷ placed_behind (type_extent m known) y rest)))) [] ≡ []
      pair None p h = refl
      pair (Some x) None h = refl
      pair (Some x) (Some y) h = absurd (none_some (sym h))

      by : (o : Option Extent) → then_some {B = ℕ × Extent} o (λ e. then_some (member_offset before e) (λ x. then_some (with_member before e) (λ y. Some (x, y)))) ≡ None
          → unwrap_or (then_some o (λ e. then_some (member_offset before e) (λ x. then_some (with_member before e) (λ y. Some (placed_at member x ∷ placed_behind (type_extent m known) y rest))))) [] ≡ []
      by None h = refl
      by (Some e) h = pair (member_offset before e) (with_member before e) h

  pub placed_more : (members : List typed.Member) (k : ℕ) (member : typed.Member) (all new : List PlacedMember) (before : Extent) (offset : ℕ) (after : Extent) (whole : List (CType × ℕ)) → k < length members
      → member ≡ get_or members k member → step_with m known before (type_in types member.ty) ≡ Some (offset, after) → new ≡ all ++ record { ty = member.ty; offset = offset } ∷ []
      → pairs_of types all ++ pairs_in (placed_behind (type_extent m known) before (map (member_of types) (drop k members))) ≡ whole
      → pairs_of types new ++ pairs_in (placed_behind (type_extent m known) after (map (member_of types) (drop (k + 1) members))) ≡ whole
  placed_more members k member all new before offset after whole within at is last same =
      let it : PlacedMember = record { ty = member.ty; offset = offset } in
      let rest = pairs_in (placed_behind (type_extent m known) after (from (k + 1) members)) in
      ap (λ l. pairs_of types l ++ rest) last
      ∙ ap (λ l. l ++ rest) (map-append (λ (x : PlacedMember). (type_in types x.ty, x.offset)) all (it ∷ []))
      ∙ append_assoc (pairs_of types all) ((type_in types member.ty, offset) ∷ []) rest
      ∙ ap (λ l. pairs_of types all ++ pairs_in l) (sym (placed_step (member_of types member) (from (k + 1) members) before offset after is))
      ∙ ap (λ l. pairs_of types all ++ pairs_in (placed_behind (type_extent m known) before l)) (sym (first_from k members member within at)) ∙ same

  pub placed_stop : (members : List typed.Member) (k : ℕ) (member : typed.Member) (all : List PlacedMember) (before : Extent) (whole : List (CType × ℕ)) → k < length members → member ≡ get_or members k member
      → step_with m known before (type_in types member.ty) ≡ None → pairs_of types all ++ pairs_in (placed_behind (type_extent m known) before (map (member_of types) (drop k members))) ≡ whole → pairs_of types all ≡ whole
  placed_stop members k member all before whole within at is same =
      sym (append-nil (pairs_of types all)) ∙ ap (λ l. pairs_of types all ++ pairs_in l) (sym (placed_none (member_of types member) (from (k + 1) members) before is))
      ∙ ap (λ l. pairs_of types all ++ pairs_in (placed_behind (type_extent m known) before l)) (sym (first_from k members member within at)) ∙ same

  -- ---- structs by their numbers

  among_is : (all : List (Vec PlacedMember)) (k : ℕ) → pairs_of types (members_among all k) ≡ slice_index_or (map (λ l. pairs_of types l.items) all) k []
  among_is [] zero = refl
  among_is [] (suc k) = refl
  among_is (x ∷ all) zero = refl
  among_is (x ∷ all) (suc k) = among_is all k

  placed_is : (structs : List StructType) (k : ℕ)
      → slice_index_or (map (λ it. pairs_in (placed_with m known (struct_of types it))) structs) k [] ≡ pairs_in (placed_behind (type_extent m known) no_members (members_in (structs_of types structs) k))
  placed_is [] zero = refl
  placed_is [] (suc k) = refl
  placed_is (x ∷ structs) zero = refl
  placed_is (x ∷ structs) (suc k) = placed_is structs k

  pub members_are : (all : List (Vec PlacedMember)) (structs : List StructType) → map (λ l. pairs_of types l.items) all ≡ map (λ it. pairs_in (placed_with m known (struct_of types it))) structs → (k : ℕ)
      → pairs_of types (members_among all k) ≡ pairs_in (placed_behind (type_extent m known) no_members (members_in (structs_of types structs) k))
  members_are all structs are k = among_is all k ∙ ap (λ l. slice_index_or l k []) are ∙ placed_is structs k

-- ---- the same types and offsets

right_true : (a b : Bool) → (a && b) ≡ true → b ≡ true
right_true true b h = h
right_true false b h = absurd (true≢false (sym h))

left_true : (a b : Bool) → (a && b) ≡ true → a ≡ true
left_true true b h = refl
left_true false b h = h

pub same_pairs_exact : (ps qs : List (CType × ℕ)) → same_pairs ps qs ≡ true → ps ≡ qs
same_pairs_exact [] [] h = refl
same_pairs_exact (p ∷ ps) (q ∷ qs) h =
    let rest = right_true (same p.0 q.0) ((p.1 == q.1) && same_pairs ps qs) h in
    let types = same_exact p.0 q.0 (left_true (same p.0 q.0) ((p.1 == q.1) && same_pairs ps qs) h) in
    let offsets = eqb-true p.1 q.1 (left_true (p.1 == q.1) (same_pairs ps qs) rest) in
    ap (λ t. (t, p.1) ∷ ps) types ∙ ap (λ n. (q.0, n) ∷ ps) offsets ∙ ap (λ l. q ∷ l) (same_pairs_exact ps qs (right_true (p.1 == q.1) (same_pairs ps qs) rest))
same_pairs_exact [] (q ∷ qs) h = absurd (true≢false (sym h))
same_pairs_exact (p ∷ ps) [] h = absurd (true≢false (sym h))

pub same_pairs_self : (ps : List (CType × ℕ)) → same_pairs ps ps ≡ true
same_pairs_self [] = refl
same_pairs_self (p ∷ ps) = ap (λ b. b && ((p.1 == p.1) && same_pairs ps ps)) (same_self p.0) ∙ ap (λ b. b && same_pairs ps ps) (eq-eqb p.1 p.1 refl) ∙ same_pairs_self ps

-- ---- the layouts of a program

sizes_at : (known : List (Option table.Extent)) (k : ℕ) → slice_index_or (map (λ extent. object_size (option_map extent_value extent)) known) k 0 ≡ object_size (extent_among known k)
sizes_at [] zero = refl
sizes_at [] (suc k) = refl
sizes_at (x ∷ known) zero = refl
sizes_at (x ∷ known) (suc k) = sizes_at known k

pub layouts_hold : (m : DataModel) (types : List CType) (structs : List StructType) (known : List (Option table.Extent)) (layouts : Layouts)
    → ((k : ℕ) → extent_among known k ≡ struct_extent m (structs_of types structs) (length structs) k) → layouts.sizes.items ≡ map (size_with m (extent_among known)) types
    → map (λ l. pairs_of types l.items) layouts.members.items ≡ map (λ it. pairs_in (placed_with m (extent_among known) (struct_of types it))) structs
    → layouts.struct_sizes.items ≡ map (λ extent. object_size (option_map extent_value extent)) known → AreLayoutsOf m (structs_of types structs) types layouts
layouts_hold m types structs known layouts all sizes members struct_sizes =
    let all_structs = structs_of types structs in
    let deep : length structs ≡ length all_structs = sym (length-map structs (struct_of types)) in
    let same : extent_among known ≡ struct_extent m all_structs (length all_structs) = (λ i k. all k i) ∙ ap (λ n k. struct_extent m all_structs n k) deep in
    record {
      sizes = sizes ∙ ap (λ f. map (size_with m f) types) same;
      struct_sizes = λ k. ap (λ l. slice_index_or l k 0) struct_sizes ∙ sizes_at known k ∙ ap (λ f. object_size (f k)) same;
      members = λ k.
          ap (same_pairs (pairs_of types (members_among layouts.members.items k))) (sym (
          members_are m (extent_among known) types layouts.members.items structs members k
          ∙ ap (λ f. pairs_in (placed_behind (type_extent m f) no_members (members_in all_structs k))) same)) ∙ same_pairs_self (pairs_of types (members_among layouts.members.items k));
    }

pub layouts_same : (m n : DataModel) (rows others : List TypeRow) (structs more : List StructType) (layouts : Layouts) → n ≡ m → others ≡ rows → more ≡ structs
    → AreLayoutsOf n (structs_of (types_of_rows others) more) (types_of_rows others) layouts → AreLayoutsOf m (structs_of (types_of_rows rows) structs) (types_of_rows rows) layouts
layouts_same m n rows others structs more layouts models tables lists is =
    subst (λ x. AreLayoutsOf x (structs_of (types_of_rows rows) structs) (types_of_rows rows) layouts) models
    (subst (λ r. AreLayoutsOf n (structs_of (types_of_rows r) structs) (types_of_rows r) layouts) tables
    (subst (λ s. AreLayoutsOf n (structs_of (types_of_rows others) s) (types_of_rows others) layouts) lists is))
