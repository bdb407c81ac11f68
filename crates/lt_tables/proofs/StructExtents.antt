-- The extents of structs, as they follow from those that are known.
use Rattle.std.proofs.Common.{◌≡◌, ◌<◌, ◌≤◌, ◌+◌, ◌-◌, ◌*◌, ℕ, zero, suc, Bool, true, false, cond, List, [], ◌∷◌, length, replicate, set, get_or, Option, Some, None, is_some, unwrap_or, true≢false, ◌⊎◌, inl, inr, ⊎_elim, refl, sym, ap, ◌∙◌, arith}
use Rattle.lt_model.specs.declared.scalar.DataModel.{DataModel}
use Rattle.lt_model.specs.declared.sizes.Extent.{Extent}
use Rattle.lt_tree.specs.Typing.Types.{CType, Void, Num, Pointer, Array, Struct, Function, Floating, Qualified, element}
use Rattle.lt_model.specs.Layout.{then_some, within, rounded, resized, no_members, with_member}
use Rattle.lt_tree.specs.Typing.Extents.{Member, Structs, members_of, elements, single_extent, type_extent, members_extent, struct_extent}
use Rattle.lt_tree.specs.declared.typed.entity.StructType.{StructType}
use Rattle.lt_tree.specs.Typing.EntityView.{struct_of, structs_of}
use Rattle.lt_table.specs.declared.structs.extent.Extent as table
use Rattle.lt_table.specs.StructTables.{extent_value}
use Rattle.lt_tables.specs.TypeParts.{extent_among, whole_with, IsWithin, known_count, AreReached, AreSettled}

pub none_some : {A : Type 0} {a : A} → None ≡ Some a → ⊥
none_some p = true≢false (sym (ap is_some p))

some_same : (a b : Extent) → Some a ≡ Some b → a ≡ b
some_same a b p = ap (λ o. unwrap_or o a) p

-- whatever value the one has, the other has
abbrev pub Below : {A : Type 0} → Option A → Option A → Type 0
Below {A} o p = (a : A) → o ≡ Some a → p ≡ Some a

then_below : {A B : Type 0} (o p : Option A) (f g : A → Option B) → Below o p → ((a : A) → Below (f a) (g a)) → Below (then_some o f) (then_some p g)
then_below None p f g h k b e = absurd (none_some e)
then_below (Some a) p f g h k b e = ap (λ q. then_some q g) (h a refl) ∙ k a b e

none_below : {A : Type 0} (o p : Option A) → Below o p → p ≡ None → o ≡ None
none_below None p h none = refl
none_below (Some a) p h none = absurd (none_some (sym none ∙ h a refl))

-- ---- what follows from more is more

module _ (m : DataModel) (known other : ℕ → Option Extent) (more : IsWithin known other) where
  single_below : (t : CType) → Below (single_extent m known t) (single_extent m other t)
  single_below (Struct k) = more k
  single_below (Qualified q t) = single_below t
  single_below (Num s) = λ e x. x
  single_below (Pointer t) = λ e x. x
  single_below (Array t n) = λ e x. x
  single_below Void = λ e x. x
  single_below (Function t ts dots) = λ e x. x
  single_below Floating = λ e x. x

  type_below : (t : CType) → Below (type_extent m known t) (type_extent m other t)
  type_below t =
      then_below (single_extent m known (element t)) (single_extent m other (element t)) (λ e. resized e (within (e.size * elements t))) (λ e. resized e (within (e.size * elements t))) (single_below (element t))
      (λ e a x. x)

  members_below : (members : List Member) (before : Extent) → Below (members_extent (type_extent m known) before members) (members_extent (type_extent m other) before members)
  members_below [] before = λ e x. x
  members_below (member ∷ members) before =
      then_below (type_extent m known member.type) (type_extent m other member.type)
      (λ e. then_some (with_member before e) (λ after. members_extent (type_extent m known) after members))
      (λ e. then_some (with_member before e) (λ after. members_extent (type_extent m other) after members))
      (type_below member.type)
      (λ e. then_below (with_member before e) (with_member before e) (λ after. members_extent (type_extent m known) after members) (λ after. members_extent (type_extent m other) after members) (λ a x. x)
      (λ after. members_below members after))

  pub whole_below : (members : Option (List Member)) → Below (whole_with m known members) (whole_with m other members)
  whole_below None = λ e x. x
  whole_below (Some members) =
      then_below (members_extent (type_extent m known) no_members members) (members_extent (type_extent m other) no_members members) (λ all. resized all (rounded all.size all.alignment))
      (λ all. resized all (rounded all.size all.alignment)) (members_below members no_members) (λ all a x. x)

-- ---- the extents at a depth

module _ (m : DataModel) (structs : Structs) where
  none_first : (k : ℕ) → struct_extent m structs 0 k ≡ None
  unfolding struct_extent
  none_first k = refl

  next : (d k : ℕ) → struct_extent m structs (suc d) k ≡ whole_with m (struct_extent m structs d) (members_of structs k)
  unfolding struct_extent
  next d k = refl

  deeper : (d : ℕ) → IsWithin (struct_extent m structs d) (struct_extent m structs (suc d))
  deeper zero k e x = absurd (none_some (sym (none_first k) ∙ x))
  deeper (suc d) k e x =
      next (suc d) k ∙ whole_below m (struct_extent m structs d) (struct_extent m structs (suc d)) (deeper d) (members_of structs k) e (sym (next d k) ∙ x)

  deeper_by : (n d to : ℕ) → to ≡ n + d → IsWithin (struct_extent m structs d) (struct_extent m structs to)
  deeper_by zero d to is k e x = let same : to ≡ d = omega (arith, is) in ap (λ a. struct_extent m structs a k) same ∙ x
  deeper_by (suc n) d zero is k e x = absurd (omega (arith, is))
  deeper_by (suc n) d (suc to) is k e x = deeper to k e (deeper_by n d to (omega (arith, is)) k e x)

  agree : (c d k : ℕ) (a b : Extent) → struct_extent m structs c k ≡ Some a → struct_extent m structs d k ≡ Some b → a ≡ b
  agree c d k a b x y = some_same a b (sym (deeper_by d c (d + c) refl k a x) ∙ deeper_by c d (d + c) (omega arith) k b y)

  -- ---- where no more follows

  module _ (known : List (Option table.Extent)) (reached : AreReached m structs known) (settled : AreSettled m structs known) where
    known_below : (d k : ℕ) (e : Extent) (o : Option Extent) → (extent_among known k ≡ None → struct_extent m structs d k ≡ None) → extent_among known k ≡ o → struct_extent m structs d k ≡ Some e
        → extent_among known k ≡ Some e
    known_below d k e None none is x = absurd (none_some (sym (none is) ∙ x))
    known_below d k e (Some a) none is x = is ∙ ap Some (agree (known_count known) d k a e (reached k a is) x)

    unknown_none : (d k : ℕ) → extent_among known k ≡ None → struct_extent m structs d k ≡ None
    unknown_none zero k none = none_first k
    unknown_none (suc d) k none =
        next d k
        ∙ none_below (whole_with m (struct_extent m structs d) (members_of structs k)) (whole_with m (extent_among known) (members_of structs k))
        (whole_below m (struct_extent m structs d) (extent_among known) (λ j e x. known_below d j e (extent_among known j) (unknown_none d j) refl x) (members_of structs k)) (settled k none)

    all_known : (n k : ℕ) → known_count known ≤ n → (o : Option Extent) → extent_among known k ≡ o → extent_among known k ≡ struct_extent m structs n k
    all_known n k few None is = is ∙ sym (unknown_none n k is)
    all_known n k few (Some a) is = is ∙ sym (deeper_by (n - known_count known) (known_count known) n (omega (arith, few)) k a (reached k a is))

    pub extents_known : (n : ℕ) → known_count known ≤ n → (k : ℕ) → extent_among known k ≡ struct_extent m structs n k
    extents_known n few k = all_known n k few (extent_among known k) refl

-- ---- one more is known

pub count_set : (known : List (Option table.Extent)) (place : ℕ) (e : table.Extent) → place < length known → extent_among known place ≡ None → known_count (set known place (Some e)) ≡ suc (known_count known)
count_set [] place e less none = absurd (omega (arith, less))
count_set (None ∷ known) zero e less none = refl
count_set (Some a ∷ known) zero e less none = absurd (none_some (sym none))
count_set (None ∷ known) (suc place) e less none = count_set known place e (omega (arith, less)) none
count_set (Some a ∷ known) (suc place) e less none = ap suc (count_set known place e (omega (arith, less)) none)

pub among_set : (known : List (Option table.Extent)) (place : ℕ) (e : table.Extent) (k : ℕ) (a : Extent) → place < length known → extent_among (set known place (Some e)) k ≡ Some a
    → ((k ≡ place) × (Some (extent_value e) ≡ Some a)) ⊎ (extent_among known k ≡ Some a)
among_set [] place e k a less is = absurd (omega (arith, less))
among_set (x ∷ known) zero e zero a less is = inl (refl, is)
among_set (x ∷ known) zero e (suc k) a less is = inr is
among_set (x ∷ known) (suc place) e zero a less is = inr is
among_set (x ∷ known) (suc place) e (suc k) a less is = elim (among_set known place e k a (omega (arith, less)) is) [ inl p ↦ inl (ap suc p.0, p.1) | inr p ↦ inr p ]

pub count_length : (known : List (Option table.Extent)) → known_count known ≤ length known
count_length [] = omega arith
count_length (None ∷ known) = omega (arith, count_length known)
count_length (Some a ∷ known) = omega (arith, count_length known)

module _ (m : DataModel) (structs : Structs) where
  pub reached_set : (known : List (Option table.Extent)) (place : ℕ) (e : table.Extent) → place < length known → extent_among known place ≡ None
      → whole_with m (extent_among known) (members_of structs place) ≡ Some (extent_value e) → AreReached m structs known → AreReached m structs (set known place (Some e))
  reached_set known place e less none is reached k a x =
      let c = known_count known in
      ap (λ n. struct_extent m structs n k) (count_set known place e less none)
      ∙ elim (among_set known place e k a less x) [
        | inl p ↦ ap (struct_extent m structs (suc c)) p.0 ∙ next m structs c place ∙ whole_below m (extent_among known) (struct_extent m structs c) reached (members_of structs place) (extent_value e) is ∙ p.1
        | inr p ↦ deeper m structs c k a (reached k a p)
      ]

  pub reached_none : (known : List (Option table.Extent)) → ((k : ℕ) → extent_among known k ≡ None) → AreReached m structs known
  reached_none known none k e x = absurd (none_some (sym (none k) ∙ x))

none_blank : (n k : ℕ) → extent_among (replicate n None) k ≡ None
none_blank zero k = refl
none_blank (suc n) zero = refl
none_blank (suc n) (suc k) = none_blank n k

pub reached_blank : (m : DataModel) (structs : Structs) (n : ℕ) → AreReached m structs (replicate n None)
reached_blank m structs n = reached_none m structs (replicate n None) (none_blank n)

-- ---- rounds over the structs

-- what is left falls
pub fewer_left : (old new : List (Option table.Extent)) (changed : Bool) → length new ≡ length old → known_count old + cond changed 1 0 ≤ known_count new
    → (length new - known_count new) + cond changed 1 0 < (length old - known_count old) + 1
fewer_left old new true long more = omega (arith, long, more, count_length new)
fewer_left old new false long more = omega (arith, long, more, count_length new)

pub one_more : (initial known new changed : ℕ) → initial + changed ≤ known → new ≡ suc known → initial + 1 ≤ new
one_more initial known new changed less is = omega (arith, less, is)

module _ (types : List CType) (structs : List StructType) where
  slice_there : (l : List StructType) (k : ℕ) (it : StructType) → k < length l → it ≡ get_or l k it → members_of (structs_of types l) k ≡ (struct_of types it).members
  slice_there [] k it within is = absurd (omega (arith, within))
  slice_there (x ∷ l) zero it within is = ap (λ y. (struct_of types y).members) (sym is)
  slice_there (x ∷ l) (suc k) it within is = slice_there l k it (omega (arith, within)) is

  pub members_there : (k : ℕ) (it : StructType) → k < length structs → it ≡ get_or structs k it → members_of (structs_of types structs) k ≡ (struct_of types it).members
  members_there k it within is = slice_there structs k it within is

  slice_past : (l : List StructType) (k : ℕ) → length l ≤ k → members_of (structs_of types l) k ≡ None
  slice_past [] k less = refl
  slice_past (x ∷ l) zero less = absurd (omega (arith, less))
  slice_past (x ∷ l) (suc k) less = slice_past l k (omega (arith, less))

  below_or_not : (n k : ℕ) → (n < k) ⊎ (k ≤ n)
  below_or_not n k = grind arith

  less_or_same : (n k : ℕ) → n < k + 1 → (n < k) ⊎ (n ≡ k)
  less_or_same n k less = grind arith

  -- the extent of no struct up to here follows
  abbrev pub IsSettledTo : DataModel → List (Option table.Extent) → ℕ → Type 0
  IsSettledTo m known n = (k : ℕ) → k < n → extent_among known k ≡ None → whole_with m (extent_among known) (members_of (structs_of types structs) k) ≡ None

  pub settled_more : (m : DataModel) (known : List (Option table.Extent)) (place : ℕ) (it : StructType) → place < length structs → it ≡ get_or structs place it
      → (extent_among known place ≡ None → whole_with m (extent_among known) (struct_of types it).members ≡ None) → IsSettledTo m known place → IsSettledTo m known (place + 1)
  settled_more m known place it within is here before k less none =
      ⊎_elim
      (λ below. before k below none)
      (λ same. ap (λ n. whole_with m (extent_among known) (members_of (structs_of types structs) n)) same ∙ ap (whole_with m (extent_among known)) (members_there place it within is)
      ∙ here (ap (extent_among known) (sym same) ∙ none))
      (less_or_same k place less)

  pub settled_all : (m : DataModel) (known : List (Option table.Extent)) (n : ℕ) → length structs ≤ n → IsSettledTo m known n → AreSettled m (structs_of types structs) known
  settled_all m known n whole settled k none =
      ⊎_elim
      (λ below. settled k below none)
      (λ past. ap (whole_with m (extent_among known)) (slice_past structs k (omega (arith, whole, past))))
      (below_or_not k n)

  -- the extent of a struct is taken down
  pub reached_at : (m : DataModel) (known : List (Option table.Extent)) (place : ℕ) (it : StructType) (e : table.Extent) → length known ≡ length structs → place < length structs → it ≡ get_or structs place it
      → extent_among known place ≡ None → whole_with m (extent_among known) (struct_of types it).members ≡ Some (extent_value e) → AreReached m (structs_of types structs) known
      → AreReached m (structs_of types structs) (set known place (Some e))
  reached_at m known place it e long within is none follows =
      reached_set m (structs_of types structs) known place e (omega (arith, long, within)) none (ap (whole_with m (extent_among known)) (members_there place it within is) ∙ follows)
