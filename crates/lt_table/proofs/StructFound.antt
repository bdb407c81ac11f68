-- The cells, extents and `const` parts of structs stay when others are added or completed.
use Rattle.std.proofs.Common.{◌≡◌, ℕ, zero, suc, ◌+◌, ◌*◌, ◌<◌, ◌≤◌, nat_lt, Bool, true, false, true≢false, ◌&&◌, ◌||◌, List, [], ◌∷◌, length, set, sum_by, Option, Some, None, unwrap_or, refl, sym, ap, ◌∙◌}
use Rattle.std.specs.List.{list_any}
use Rattle.std.proofs.lemmas.List.Sums.{sum_by-cons}
use Rattle.lt_model.specs.declared.scalar.DataModel.{DataModel}
use Rattle.lt_model.specs.declared.sizes.Extent.{Extent}
use Rattle.lt_model.specs.Layout.{then_some, within, rounded, resized, member_offset, with_member, no_members}
use Rattle.lt_tree.specs.Typing.Types.{CType, Void, Num, Pointer, Array, Struct, Function, Floating, Qualified, element}
use Rattle.lt_tree.specs.Typing.Extents.{Member, Structs, members_of, is_complete, type_cells, struct_cells, elements, single_extent, type_extent, members_extent, struct_extent, placed_at, placed_behind, part_is_constant, struct_has_constant}
use Rattle.lt_table.specs.StructNesting.{HoldsOnly, AllHoldOnly, completed, AreNested}
use Rattle.lt_table.proofs.StructNesting.{Keeps, IsComplete, with_members, holds_map, found_same, found_new}

pub then_some_same : {A B : Type 0} (o : Option A) (f g : A → Option B) → ((a : A) → f a ≡ g a) → then_some o f ≡ then_some o g
then_some_same None f g h = refl
then_some_same (Some a) f g h = h a

-- ---- types whose structs are known alike

cells_alike : (known other : ℕ → ℕ) (t : CType) → HoldsOnly (λ k. known k ≡ other k) t → type_cells known t ≡ type_cells other t
cells_alike known other (Struct k) h = h
cells_alike known other (Array t n) h = ap (λ x. n * x) (cells_alike known other t h)
cells_alike known other (Qualified q t) h = cells_alike known other t h
cells_alike known other Void h = refl
cells_alike known other (Num s) h = refl
cells_alike known other (Pointer t) h = refl
cells_alike known other (Function t ts dots) h = refl
cells_alike known other Floating h = refl

plain_alike : (m : DataModel) (known other : ℕ → Option Extent) (t : CType) → HoldsOnly (λ k. known k ≡ other k) t → single_extent m known t ≡ single_extent m other t
plain_alike m known other (Struct k) h = h
plain_alike m known other (Qualified q t) h = plain_alike m known other t h
plain_alike m known other (Array t n) h = refl
plain_alike m known other Void h = refl
plain_alike m known other (Num s) h = refl
plain_alike m known other (Pointer t) h = refl
plain_alike m known other (Function t ts dots) h = refl
plain_alike m known other Floating h = refl

holds_element : (P : ℕ → Type 0) (t : CType) → HoldsOnly P t → HoldsOnly P (element t)
holds_element P (Array t n) h = holds_element P t h
holds_element P (Struct k) h = h
holds_element P (Qualified q t) h = h
holds_element P Void h = h
holds_element P (Num s) h = h
holds_element P (Pointer t) h = h
holds_element P (Function t ts dots) h = h
holds_element P Floating h = h

extent_alike : (m : DataModel) (known other : ℕ → Option Extent) (t : CType) → HoldsOnly (λ k. known k ≡ other k) t → type_extent m known t ≡ type_extent m other t
extent_alike m known other t h =
    ap (λ o. then_some o (λ e. resized e (within (e.size * elements t)))) (plain_alike m known other (element t) (holds_element (λ k. known k ≡ other k) t h))

constant_alike : (known other : ℕ → Bool) (t : CType) → HoldsOnly (λ k. known k ≡ other k) t → part_is_constant known t ≡ part_is_constant other t
constant_alike known other (Struct k) h = h
constant_alike known other (Array t n) h = constant_alike known other t h
constant_alike known other (Qualified q t) h = ap (λ b. q.constant || b) (constant_alike known other t h)
constant_alike known other Void h = refl
constant_alike known other (Num s) h = refl
constant_alike known other (Pointer t) h = refl
constant_alike known other (Function t ts dots) h = refl
constant_alike known other Floating h = refl

-- a complete type holds complete structs
pub complete_holds : (a : Structs) (t : CType) → is_complete a t ≡ true → HoldsOnly (IsComplete a) t
complete_holds a (Struct k) h = h
complete_holds a (Array t n) h = complete_holds a t (second (nat_lt 0 n) (is_complete a t) h)
  where
    second : (b c : Bool) → (b && c) ≡ true → c ≡ true
    second true c e = e
    second false c e = absurd (true≢false (sym e))
complete_holds a (Qualified q t) h = complete_holds a t h
complete_holds a Void h = tt
complete_holds a (Num s) h = tt
complete_holds a (Pointer t) h = tt
complete_holds a (Function t ts dots) h = tt
complete_holds a Floating h = tt

-- ---- members

abbrev pub step_cells : (ℕ → ℕ) → List Member → ℕ
step_cells known members = sum_by (λ member. type_cells known member.type) members

cells_depend : (known other : ℕ → ℕ) (members : List Member) → AllHoldOnly (λ k. known k ≡ other k) members → step_cells known members ≡ step_cells other members
cells_depend known other [] h = refl
cells_depend known other (member ∷ members) h =
    sum_by-cons (λ it. type_cells known it.type) member members
    ∙ ap (λ n. n + step_cells known members) (cells_alike known other member.type h.0) ∙ ap (λ n. type_cells other member.type + n) (cells_depend known other members h.1)
    ∙ sym (sum_by-cons (λ it. type_cells other it.type) member members)

members_alike : (P : ℕ → Type 0) (of other : CType → Option Extent) → ((t : CType) → HoldsOnly P t → of t ≡ other t) → (before : Extent) (members : List Member) → AllHoldOnly P members
    → members_extent of before members ≡ members_extent other before members
members_alike P of other h before [] all = refl
members_alike P of other h before (member ∷ members) all =
    ap (λ o. then_some o (λ e. then_some (with_member before e) (λ after. members_extent of after members))) (h member.type all.0)
    ∙ then_some_same (other member.type) _ _ (λ e. then_some_same (with_member before e) _ _ (λ after. members_alike P of other h after members all.1))

abbrev pub step_extent : DataModel → (ℕ → Option Extent) → List Member → Option Extent
step_extent m known members = then_some (members_extent (type_extent m known) no_members members) (λ all. resized all (rounded all.size all.alignment))

extent_depends : (m : DataModel) (known other : ℕ → Option Extent) (members : List Member) → AllHoldOnly (λ k. known k ≡ other k) members → step_extent m known members ≡ step_extent m other members
extent_depends m known other members h =
    ap (λ o. then_some o (λ all. resized all (rounded all.size all.alignment)))
    (members_alike (λ k. known k ≡ other k) (type_extent m known) (type_extent m other) (extent_alike m known other) no_members members h)

abbrev pub step_constant : (ℕ → Bool) → List Member → Bool
step_constant known members = list_any (λ member. part_is_constant known member.type) members

constant_depends : (known other : ℕ → Bool) (members : List Member) → AllHoldOnly (λ k. known k ≡ other k) members → step_constant known members ≡ step_constant other members
constant_depends known other [] h = refl
constant_depends known other (member ∷ members) h =
    ap (λ b. b || step_constant known members) (constant_alike known other member.type h.0) ∙ ap (λ b. part_is_constant other member.type || b) (constant_depends known other members h.1)

-- ---- structs

cells_unfolds : (structs : Structs) (d k : ℕ) (members : List Member) → members_of structs k ≡ Some members → struct_cells structs (suc d) k ≡ step_cells (struct_cells structs d) members
unfolding struct_cells
cells_unfolds structs d k members at = ap (λ o. step_cells (struct_cells structs d) (unwrap_or o [])) at

pub cells_none : (structs : Structs) (d k : ℕ) → members_of structs k ≡ None → struct_cells structs d k ≡ 0
unfolding struct_cells
cells_none structs zero k none = refl
cells_none structs (suc d) k none = ap (λ o. step_cells (struct_cells structs d) (unwrap_or o [])) none

extent_unfolds : (m : DataModel) (structs : Structs) (d k : ℕ) (members : List Member) → members_of structs k ≡ Some members → struct_extent m structs (suc d) k ≡ step_extent m (struct_extent m structs d) members
unfolding struct_extent
extent_unfolds m structs d k members at = ap (λ o. then_some o (step_extent m (struct_extent m structs d))) at

pub extent_none : (m : DataModel) (structs : Structs) (d k : ℕ) → members_of structs k ≡ None → struct_extent m structs d k ≡ None
unfolding struct_extent
extent_none m structs zero k none = refl
extent_none m structs (suc d) k none = ap (λ o. then_some o (step_extent m (struct_extent m structs d))) none

constant_unfolds : (structs : Structs) (d k : ℕ) (members : List Member) → members_of structs k ≡ Some members → struct_has_constant structs (suc d) k ≡ step_constant (struct_has_constant structs d) members
unfolding struct_has_constant
constant_unfolds structs d k members at = ap (λ o. step_constant (struct_has_constant structs d) (unwrap_or o [])) at

pub constant_none : (structs : Structs) (d k : ℕ) → members_of structs k ≡ None → struct_has_constant structs d k ≡ false
unfolding struct_has_constant
constant_none structs zero k none = refl
constant_none structs (suc d) k none = ap (λ o. step_constant (struct_has_constant structs d) (unwrap_or o [])) none

-- ---- what stays

-- these structs are known alike in the second, whatever is found of them
pub record StaysKnown (a b : Structs) (k : ℕ) : Type 0 where
  pub cells : struct_cells b (length b) k ≡ struct_cells a (length a) k
  pub extent : (m : DataModel) → struct_extent m b (length b) k ≡ struct_extent m a (length a) k
  pub constant : struct_has_constant b (length b) k ≡ struct_has_constant a (length a) k

pub stays_known : (a b : Structs) → Keeps a b → AreNested a → completed a ≤ length b → (k : ℕ) → members_of b k ≡ members_of a k → StaysKnown a b k
stays_known a b keeps nested less k same = record {
  cells = found_same ℕ struct_cells step_cells cells_unfolds cells_depend 0 cells_none a b keeps nested less k same;
  extent = λ m. found_same (Option Extent) (struct_extent m) (step_extent m) (extent_unfolds m) (extent_depends m) None (extent_none m) a b keeps nested less k same;
  constant = found_same Bool struct_has_constant step_constant constant_unfolds constant_depends false constant_none a b keeps nested less k same;
}

-- and a struct that is completed is found from what was known
pub record IsFound (a b : Structs) (n : ℕ) (members : List Member) : Type 0 where
  pub cells : struct_cells b (length b) n ≡ step_cells (struct_cells a (length a)) members
  pub extent : (m : DataModel) → struct_extent m b (length b) n ≡ step_extent m (struct_extent m a (length a)) members
  pub constant : struct_has_constant b (length b) n ≡ step_constant (struct_has_constant a (length a)) members

pub is_found : (a : Structs) (n : ℕ) (members : List Member) → n < length a → members_of a n ≡ None → AreNested a → AllHoldOnly (IsComplete a) members
    → IsFound a (set a n (with_members members)) n members
is_found a n members within none nested held = record {
  cells = found_new ℕ struct_cells step_cells cells_unfolds cells_depend 0 cells_none a n members within none nested held;
  extent = λ m. found_new (Option Extent) (struct_extent m) (step_extent m) (extent_unfolds m) (extent_depends m) None (extent_none m) a n members within none nested held;
  constant = found_new Bool struct_has_constant step_constant constant_unfolds constant_depends false constant_none a n members within none nested held;
}

-- ---- placed members

placed_alike : (P : ℕ → Type 0) (of other : CType → Option Extent) → ((t : CType) → HoldsOnly P t → of t ≡ other t) → (before : Extent) (members : List Member) → AllHoldOnly P members
    → placed_behind of before members ≡ placed_behind other before members
placed_alike P of other h before [] all = refl
placed_alike P of other h before (member ∷ members) all =
    ap (λ o. unwrap_or (then_some o (λ e. then_some (member_offset before e) (λ offset. then_some (with_member before e) (λ after.
    Some (placed_at member offset ∷ placed_behind of after members))))) []) (h member.type all.0)
    ∙ ap (λ o. unwrap_or o []) (then_some_same (other member.type) _ _ (λ e. then_some_same (member_offset before e) _ _ (λ offset. then_some_same (with_member before e) _ _ (λ after.
    ap (λ rest. Some (placed_at member offset ∷ rest)) (placed_alike P of other h after members all.1)))))

pub placed_stay : (a b : Structs) (m : DataModel) (members : List Member) → ((k : ℕ) → IsComplete a k → struct_extent m b (length b) k ≡ struct_extent m a (length a) k)
    → AllHoldOnly (IsComplete a) members
    → placed_behind (type_extent m (struct_extent m b (length b))) no_members members ≡ placed_behind (type_extent m (struct_extent m a (length a))) no_members members
placed_stay a b m members same held =
    placed_alike (IsComplete a) _ _ (λ t holds. extent_alike m (struct_extent m b (length b)) (struct_extent m a (length a)) t
    (holds_map (IsComplete a) (λ k. struct_extent m b (length b) k ≡ struct_extent m a (length a) k) same t holds)) no_members members held
