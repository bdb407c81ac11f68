-- The addresses that a target names, of parts that are all of one type.
use Rattle.std.proofs.Common.{◌≡◌, ℕ, ◌+◌, ◌*◌, ◌==◌, Bool, true, false, cond, List, [], ◌∷◌, map, Some, None, refl, ap, ◌∙◌, arith}
use Rattle.std.specs.Prelude.{◌&&◌, ℤ, pos, negsuc}
use Rattle.std.specs.List.{list_all}
use Rattle.lt_tree.specs.Typing.Types.{CType, Void, Num, Pointer, Array, Struct, Function, Floating, Qualified}
use Rattle.lt_tree.specs.Typing.Extents.{size_of}
use Rattle.lt_tree.specs.Typing.Programs.{Program}
use Rattle.lt_entry.specs.Written.{Numeral, value_of}
use Rattle.lt_entry.specs.Naming as naming
use Rattle.lt_entry.specs.Naming.{named_part, if_all_pointed, is_pointed, is_past_end, past_elements, past_root}
use Rattle.lt_entry.specs.declared.number.Numeral as memory
use Rattle.lt_entry.specs.declared.place.Step.{Step}
use Rattle.lt_entry.specs.declared.place.Step.TheVariants as step
use Rattle.lt_entry.specs.Views.{numeral_view, step_view}
use Rattle.lt_input_names.specs.Kinds.{array_of}
use Rattle.lt_input_names.specs.Parts.{part_at, address_in, natural}
use Rattle.lt_input_names.specs.Targets.{only_index}

module _ (pointed t : CType) (name : List ℕ) where
  all_of : (xs : List ℕ) → is_pointed pointed t ≡ true → list_all (λ it. is_pointed pointed it.type) (map (named_part name) (map (part_at t) xs)) ≡ true
  all_of [] h = refl
  all_of (x ∷ xs) h = ap (λ b. b && list_all (λ it. is_pointed pointed it.type) (map (named_part name) (map (part_at t) xs))) h ∙ all_of xs h

  addresses : (xs : List ℕ) → map (λ it. Some it.place) (map (named_part name) (map (part_at t) xs)) ≡ map (address_in name) xs
  addresses [] = refl
  addresses (x ∷ xs) = ap (λ l. address_in name x ∷ l) (addresses xs)

  where_pointed : (xs : List ℕ) → is_pointed pointed t ≡ true → if_all_pointed pointed (map (named_part name) (map (part_at t) xs)) ≡ map (address_in name) xs
  where_pointed xs h = ap (λ b. cond b (map (λ it. Some it.place) (map (named_part name) (map (part_at t) xs))) []) (all_of xs h) ∙ addresses xs

  where_not : (xs : List ℕ) → is_pointed pointed t ≡ false → if_all_pointed pointed (map (named_part name) (map (part_at t) xs)) ≡ []
  where_not [] h = refl
  where_not (x ∷ xs) h =
      ap (λ b. cond (b && list_all (λ it. is_pointed pointed it.type) (map (named_part name) (map (part_at t) xs))) (map (λ it. Some it.place) (map (named_part name) (map (part_at t) (x ∷ xs)))) []) h

  -- those of parts of one type
  pub all_pointed : (xs : List ℕ) → if_all_pointed pointed (map (named_part name) (map (part_at t) xs)) ≡ map (address_in name) (cond (is_pointed pointed t) xs [])
  all_pointed xs = by (is_pointed pointed t) refl
    where
      by : (b : Bool) → is_pointed pointed t ≡ b → if_all_pointed pointed (map (named_part name) (map (part_at t) xs)) ≡ map (address_in name) (cond b xs [])
      by true h = where_pointed xs h
      by false h = where_not xs h

-- ---- past the end

pub no_past : (program : Program) (pointed : CType) (name : List ℕ) (index : Numeral) (t : CType) → None ≡ array_of t → past_elements program pointed name index t ≡ []
no_past program pointed name index (Array u k) is = absurd cc
no_past program pointed name index Void is = refl
no_past program pointed name index (Num s) is = refl
no_past program pointed name index (Pointer u) is = refl
no_past program pointed name index (Struct k) is = refl
no_past program pointed name index (Function u us dots) is = refl
no_past program pointed name index Floating is = refl
no_past program pointed name index (Qualified q u) is = refl

both_false : (a : Bool) → (a && false) ≡ false
both_false true = refl
both_false false = refl

pub not_past : (program : Program) (pointed : CType) (name : List ℕ) (index : Numeral) (e : CType) (n : ℕ) → is_past_end n (value_of index) ≡ false → past_elements program pointed name index (Array e n) ≡ []
not_past program pointed name index e n no_end = ap (λ b. cond (b && is_pointed pointed e) (address_in name (n * size_of program.model program.structs e) ∷ []) []) no_end

pub not_pointed : (program : Program) (pointed : CType) (name : List ℕ) (index : Numeral) (e : CType) (n : ℕ) → is_pointed pointed e ≡ false → past_elements program pointed name index (Array e n) ≡ []
not_pointed program pointed name index e n other =
    ap (λ b. cond (is_past_end n (value_of index) && b) (address_in name (n * size_of program.model program.structs e) ∷ []) []) other
    ∙ ap (λ b. cond b (address_in name (n * size_of program.model program.structs e) ∷ []) []) (both_false (is_past_end n (value_of index)))

pub past_one : (program : Program) (pointed : CType) (name : List ℕ) (index : Numeral) (e : CType) (n size end : ℕ) → is_past_end n (value_of index) ≡ true → is_pointed pointed e ≡ true → size ≡ size_of program.model program.structs e → end ≡ 0 + n * size
    → past_elements program pointed name index (Array e n) ≡ address_in name end ∷ []
past_one program pointed name index e n size end at_end same fits at =
    ap (λ b. cond (b && is_pointed pointed e) (address_in name (n * size_of program.model program.structs e) ∷ []) []) at_end
    ∙ ap (λ b. cond b (address_in name (n * size_of program.model program.structs e) ∷ []) []) same
    ∙ (let bytes : n * size_of program.model program.structs e ≡ end = omega (arith, at, ap (λ s. n * s) fits) in ap (λ o. address_in name o ∷ []) bytes)

-- ---- the only step

pub no_end : (program : Program) (pointed : CType) (root : naming.Root) (steps : List Step) → None ≡ only_index steps → past_root program pointed root (map step_view steps) ≡ []
no_end program pointed root [] is = refl
no_end program pointed root (step.Index index ∷ []) is = absurd cc
no_end program pointed root (step.Index index ∷ next ∷ steps) is = refl
no_end program pointed root (step.Each ∷ steps) is = refl
no_end program pointed root (step.Member name ∷ steps) is = refl

pub an_end : (program : Program) (pointed : CType) (root : naming.Root) (steps : List Step) (index : memory.Numeral) → Some index ≡ only_index steps
    → past_root program pointed root (map step_view steps) ≡ cond root.is_block (past_elements program pointed root.name (numeral_view index) root.type) []
an_end program pointed root [] index is = absurd cc
an_end program pointed root (step.Index i ∷ []) index is = let same : i ≡ index = cc in ap (λ j. cond root.is_block (past_elements program pointed root.name (numeral_view j) root.type) []) same
an_end program pointed root (step.Index i ∷ next ∷ steps) index is = absurd cc
an_end program pointed root (step.Each ∷ steps) index is = absurd cc
an_end program pointed root (step.Member name ∷ steps) index is = absurd cc

-- ---- numbers

pub no_number : (n : ℕ) (z : ℤ) → None ≡ natural z → false ≡ is_past_end n z
no_number n (pos i) is = absurd cc
no_number n (negsuc i) is = refl

pub a_number : (n i : ℕ) (z : ℤ) (b : Bool) → Some i ≡ natural z → b ≡ (i == n) → b ≡ is_past_end n z
a_number n i (pos j) b is e = let same : i ≡ j = cc in e ∙ ap (λ k. k == n) same
a_number n i (negsuc j) b is e = absurd cc
