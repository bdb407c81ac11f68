-- The cells of structs, as they follow from those that are known.
use Rattle.std.proofs.Common.{◌≡◌, ◌<◌, ◌≤◌, ◌+◌, ◌*◌, min, ℕ, zero, suc, Bool, true, false, ◌&&◌, List, [], ◌∷◌, ◌++◌, map, take, length, get_or, set, replicate, slice_index_or, Option, Some, None, refl, sym, ap, ◌∙◌, arith, true≢false, ⊎_elim, inl, inr}
use Rattle.std.specs.Prelude.{unwrap_or, option_map}
use Rattle.std.specs.List.{sum_by, list_all}
use Rattle.std.proofs.lemmas.Bool.{cases_lt, cases_eq}
use Rattle.std.proofs.lemmas.List.{take_more, length-map, get_or-set_same, get_or-set_other}
use Rattle.std.proofs.lemmas.List.Sums.{sum_by-cons, sum_by_push}
use Rattle.std.proofs.Math.Nat.{mul_comm}
use Rattle.std.specs.Global.{Vec}
use Rattle.lt_model.proofs.Counting.{capped_product}
use Rattle.lt_model.specs.Layout.{most_cells, type_cells}
use Rattle.lt_tree.specs.declared.typed.types.TypeId.{TypeId}
use Rattle.lt_tree.specs.declared.typed.entity.Member as memory
use Rattle.lt_tree.specs.declared.typed.entity.StructType.{StructType}
use Rattle.lt_tree.specs.Typing.Types.{CType}
use Rattle.lt_tree.specs.Typing.TypeRows.{type_in}
use Rattle.lt_tree.specs.Typing.EntityView.{member_of, struct_of, structs_of}
use Rattle.lt_tree.specs.Typing.Extents.{Member, Structs, members_in, struct_cells}
use Rattle.lt_input_blocks.specs.declared.facts.Facts.{Facts}
use Rattle.lt_input_blocks.specs.declared.facts.Part.{Part}
use Rattle.lt_input_blocks.specs.declared.facts.Part.TheVariants as part
use Rattle.lt_input_blocks.specs.Facts.{capped, part_cells, facts_at, HaveFacts}
use Rattle.lt_input_blocks.specs.Cells.{members_among, cells_by, struct_cells_by, AreCellsAt, AreCells, is_settled, holds_settled, AreSettled}

-- ---- sums of numbers of cells

twice : (n : ℕ) → capped (capped n) ≡ capped n
twice n = omega arith

both_capped : (a b c d : ℕ) → capped a ≡ capped c → capped b ≡ capped d → capped (a + b) ≡ capped (c + d)
both_capped a b c d p q = omega (arith, p, q)

pub sum_step : {A : Type 0} (f : A → ℕ) (xs : List A) (i : ℕ) (x : A) (sum new : ℕ) → i < length xs → x ≡ get_or xs i x → sum ≡ capped (sum_by f (take i xs)) → new ≡ capped (sum + f x)
    → new ≡ capped (sum_by f (take (i + 1) xs))
sum_step f xs i x sum new within is before after =
    after ∙ both_capped sum (f x) (sum_by f (take i xs)) (f x) (ap capped before ∙ twice (sum_by f (take i xs))) refl
    ∙ ap capped (sym (sum_by_push f (take i xs) x) ∙ ap (sum_by f) (ap (λ y. take i xs ++ y ∷ []) is ∙ sym (take_more xs i x within)))

sum_mapped : {A B : Type 0} (g : B → ℕ) (h : A → B) (xs : List A) → sum_by g (map h xs) ≡ sum_by (λ x. g (h x)) xs
sum_mapped g h [] = refl
sum_mapped g h (x ∷ xs) = sum_by-cons g (h x) (map h xs) ∙ ap (λ n. g (h x) + n) (sum_mapped g h xs) ∙ sym (sum_by-cons (λ x. g (h x)) x xs)

both_true : (a b : Bool) → (a && b) ≡ true → (a ≡ true) × (b ≡ true)
both_true true b h = (refl, h)
both_true false b h = absurd (true≢false (sym h))

sums_same : {A : Type 0} (f g : A → ℕ) (p : A → Bool) (xs : List A) → list_all p xs ≡ true → ((x : A) → p x ≡ true → capped (f x) ≡ capped (g x)) → capped (sum_by f xs) ≡ capped (sum_by g xs)
sums_same f g p [] all same = refl
sums_same f g p (x ∷ xs) all same =
    let h = both_true (p x) (list_all p xs) all in
    ap capped (sum_by-cons f x xs) ∙ both_capped (f x) (sum_by f xs) (g x) (sum_by g xs) (same x h.0) (sums_same f g p xs h.1 same) ∙ ap capped (sym (sum_by-cons g x xs))

all_pass : {A : Type 0} (xs : List A) → list_all (λ x. true) xs ≡ true
all_pass [] = refl
all_pass (x ∷ xs) = all_pass xs

-- ---- a type

-- the cells of the struct that is a part are known
abbrev IsKnownPart : List ℕ → (ℕ → ℕ) → Part → Type 0
IsKnownPart known cells it = (j : ℕ) → it ≡ part.Struct j → slice_index_or known j 0 ≡ capped (cells j)

pub type_law : (types : List CType) (facts : List Facts) (known : List ℕ) (cells : ℕ → ℕ) (id : TypeId) → HaveFacts types facts → IsKnownPart known cells (facts_at facts id).part
    → cells_by known (facts_at facts id) ≡ capped (type_cells cells (type_in types id))
type_law types facts known cells id have is = by (facts_at facts id).part is ∙ (have id).cells cells
  where
    count : ℕ
    count = (facts_at facts id).count

    by : (it : Part) → IsKnownPart known cells it → capped (count * part_cells (λ k. slice_index_or known k 0) it) ≡ capped (count * part_cells cells it)
    by part.Nothing is = refl
    by part.Scalar is = refl
    by (part.Struct j) is =
        ap (λ n. capped (count * n)) (is j refl) ∙ ap capped (mul_comm count (min (cells j) (most_cells + 1))) ∙ capped_product (most_cells + 1) (cells j) count ∙ ap capped (mul_comm (cells j) count)

-- ---- a struct

none_first : (structs : Structs) (k : ℕ) → struct_cells structs 0 k ≡ 0
unfolding struct_cells
none_first structs k = refl

next : (structs : Structs) (d k : ℕ) → struct_cells structs (suc d) k ≡ sum_by (λ member. type_cells (struct_cells structs d) member.type) (members_in structs k)
unfolding struct_cells
next structs d k = refl

module _ (types : List CType) where
  there : (it : StructType) → unwrap_or (struct_of types it).members [] ≡ map (member_of types) (members_among it)
  there it = by it.members
    where
      by : (o : Option (Vec memory.Member)) → unwrap_or (option_map (λ members. map (member_of types) members.items) o) [] ≡ map (member_of types) (elim o [ None ↦ [] | Some members ↦ members.items ])
      by None = refl
      by (Some members) = refl

  members_there : (l : List StructType) (k : ℕ) (it : StructType) → k < length l → it ≡ get_or l k it → members_in (structs_of types l) k ≡ map (member_of types) (members_among it)
  members_there [] k it within is = absurd (omega (arith, within))
  members_there (x ∷ l) zero it within is = there x ∙ ap (λ y. map (member_of types) (members_among y)) (sym is)
  members_there (x ∷ l) (suc k) it within is = members_there l k it (omega (arith, within)) is

  members_past : (l : List StructType) (k : ℕ) → length l ≤ k → members_in (structs_of types l) k ≡ []
  members_past [] k past = refl
  members_past (x ∷ l) zero past = absurd (omega (arith, past))
  members_past (x ∷ l) (suc k) past = members_past l k (omega (arith, past))

  none_past : (l : List StructType) (d k : ℕ) → length l ≤ k → struct_cells (structs_of types l) d k ≡ 0
  none_past l zero k past = none_first (structs_of types l) k
  none_past l (suc d) k past = next (structs_of types l) d k ∙ ap (sum_by (λ member. type_cells (struct_cells (structs_of types l) d) member.type)) (members_past l k past)

  module _ (facts : List Facts) (structs : List StructType) (have : HaveFacts types facts) where
    -- where the structs that it holds are known
    struct_law : (known : List ℕ) (d k : ℕ) (it : StructType) (p : memory.Member → Bool) → k < length structs → it ≡ get_or structs k it → list_all p (members_among it) ≡ true
        → ((member : memory.Member) → p member ≡ true → IsKnownPart known (struct_cells (structs_of types structs) d) (facts_at facts member.ty).part)
        → struct_cells_by facts known it ≡ capped (struct_cells (structs_of types structs) (suc d) k)
    struct_law known d k it p within is all held =
        let cells = struct_cells (structs_of types structs) d in
        let of : Member → ℕ = λ member. type_cells cells member.type in
        sums_same (λ member. cells_by known (facts_at facts member.ty)) (λ member. of (member_of types member)) p (members_among it) all
        (λ member h. ap capped (type_law types facts known cells member.ty have (held member h)) ∙ twice (type_cells cells (type_in types member.ty)))
        ∙ ap capped (sym (sum_mapped of (member_of types) (members_among it)) ∙ ap (sum_by of) (sym (members_there structs k it within is)) ∙ sym (next (structs_of types structs) d k))

    -- ---- rounds

    pub round_law : (known new : List ℕ) (d : ℕ) → AreCellsAt (structs_of types structs) d known → new ≡ map (λ it. struct_cells_by facts known it) structs → AreCellsAt (structs_of types structs) (d + 1) new
    round_law known new d before is k =
        let one : suc d ≡ d + 1 = omega arith in
        ap (λ l. slice_index_or l k 0) is
        ∙ ⊎_elim
        (λ less.
        let other : StructType = record { members = None } in
        let it = get_or structs k other in
        mapped_at structs k other less
        ∙ struct_law known d k it (λ member. true) less (item structs k other less) (all_pass (members_among it)) (λ member h j is. before j))
        (λ past. mapped_past structs k past ∙ ap capped (sym (none_past structs (suc d) k past)))
        (cases_lt k (length structs))
        ∙ ap (λ n. capped (struct_cells (structs_of types structs) n k)) one
      where
        mapped_at : (xs : List StructType) (k : ℕ) (d : StructType) → k < length xs → slice_index_or (map (λ it. struct_cells_by facts known it) xs) k 0 ≡ struct_cells_by facts known (get_or xs k d)
        mapped_at [] k d h = absurd (omega (arith, h))
        mapped_at (x ∷ xs) zero d h = refl
        mapped_at (x ∷ xs) (suc k) d h = mapped_at xs k d (omega (arith, h))

        mapped_past : (xs : List StructType) (k : ℕ) → length xs ≤ k → slice_index_or (map (λ it. struct_cells_by facts known it) xs) k 0 ≡ 0
        mapped_past [] k h = refl
        mapped_past (x ∷ xs) zero h = absurd (omega (arith, h))
        mapped_past (x ∷ xs) (suc k) h = mapped_past xs k (omega (arith, h))

        item : (xs : List StructType) (k : ℕ) (d : StructType) → k < length xs → get_or xs k d ≡ get_or xs k (get_or xs k d)
        item [] k d h = absurd (omega (arith, h))
        item (x ∷ xs) zero d h = refl
        item (x ∷ xs) (suc k) d h = item xs k d (omega (arith, h))

    -- ---- settled structs

    pub settle_law : (cells : List ℕ) (settled : List Bool) (place bound : ℕ) (it : StructType) → length cells ≡ length structs → length settled ≡ length structs → place < length structs → it ≡ get_or structs place it
        → holds_settled facts settled it ≡ true → AreSettled (structs_of types structs) bound cells settled
        → AreSettled (structs_of types structs) (bound + 1) (set cells place (struct_cells_by facts cells it)) (set settled place true)
    settle_law cells settled place bound it a b within is holds before k h zero more = absurd (omega (arith, more))
    settle_law cells settled place bound it a b within is holds before k h (suc d) more =
        elim (cases_eq k place) [
          | inl same ↦
              ap (λ n. slice_index_or (set cells place (struct_cells_by facts cells it)) n 0) same ∙ get_or-set_same cells place (struct_cells_by facts cells it) 0 (omega (arith, a, within))
              ∙ struct_law cells d place it (λ member. is_settled settled (facts_at facts member.ty).part) within is holds
              (λ member s j at. before j (ap (is_settled settled) (sym at) ∙ s) d (omega (arith, more)))
              ∙ ap (λ n. capped (struct_cells (structs_of types structs) (suc d) n)) (sym same)
          | inr other ↦
              get_or-set_other cells place k (struct_cells_by facts cells it) 0 other ∙ before k (sym (get_or-set_other settled place k true false other) ∙ h) (suc d) (omega (arith, more))
        ]

  pub settled_on : (structs : List StructType) (cells : List ℕ) (settled : List Bool) (bound : ℕ) → AreSettled (structs_of types structs) bound cells settled → AreSettled (structs_of types structs) (bound + 1) cells settled
  settled_on structs cells settled bound before k h depth more = before k h depth (omega (arith, more))

  pub none_are_settled : (structs : List StructType) (n : ℕ) (cells : List ℕ) → AreSettled (structs_of types structs) 0 cells (replicate n false)
  none_are_settled structs n cells k h = absurd (true≢false (sym h ∙ blank n k))
    where
      blank : (n k : ℕ) → slice_index_or (replicate n false) k false ≡ false
      blank zero k = refl
      blank (suc n) zero = refl
      blank (suc n) (suc k) = blank n k

  abbrev no_cells : ℕ → List ℕ
  no_cells n = replicate n 0

  zero_cells : (n k : ℕ) → slice_index_or (no_cells n) k 0 ≡ 0
  zero_cells zero k = refl
  zero_cells (suc n) zero = refl
  zero_cells (suc n) (suc k) = zero_cells n k

  pub no_rounds : (structs : List StructType) (n : ℕ) → AreCellsAt (structs_of types structs) 0 (no_cells n)
  no_rounds structs n k = zero_cells n k ∙ ap capped (sym (none_first (structs_of types structs) k))

  pub all_settled : (structs : List StructType) (cells : List ℕ) (settled : List Bool) (bound : ℕ) → length cells ≡ length structs → length settled ≡ length structs → bound ≤ length structs
      → list_all (λ b. b) settled ≡ true → AreSettled (structs_of types structs) bound cells settled → AreCells (structs_of types structs) cells
  all_settled structs cells settled bound a b small all before k =
      let long : length (structs_of types structs) ≡ length structs = length-map structs (struct_of types) in
      ⊎_elim
      (λ less. before k (each settled k all (omega (arith, b, less))) (length (structs_of types structs)) (omega (arith, long, small)))
      (λ past. past_end cells k (omega (arith, a, past)) ∙ ap capped (sym (none_past structs (length (structs_of types structs)) k past)))
      (cases_lt k (length structs))
    where
      each : (xs : List Bool) (k : ℕ) → list_all (λ b. b) xs ≡ true → k < length xs → slice_index_or xs k false ≡ true
      each [] k all less = absurd (omega (arith, less))
      each (x ∷ xs) zero all less = (both_true x (list_all (λ b. b) xs) all).0
      each (x ∷ xs) (suc k) all less = each xs k (both_true x (list_all (λ b. b) xs) all).1 (omega (arith, less))

      past_end : (xs : List ℕ) (k : ℕ) → length xs ≤ k → slice_index_or xs k 0 ≡ 0
      past_end [] k past = refl
      past_end (x ∷ xs) zero past = absurd (omega (arith, past))
      past_end (x ∷ xs) (suc k) past = past_end xs k (omega (arith, past))
