-- The bounds that the lines of a specification keep, and its entry.
use Rattle.std.proofs.Common.{◌≡◌, ℕ, zero, suc, ◌+◌, ◌^◌, ◌<◌, ◌≤◌, Bool, true, false, cond, ℤ, pos, negsuc, List, [], ◌∷◌, ◌++◌, length, map, ◌≤ℤ◌, Option, Some, None, refl, sym, ap, ◌∙◌, subst, arith, length-append}
use Rattle.std.specs.Prelude.{◌&&◌, nat_lt, nat_le, nat_abs, int_le, neg_ℤ, option_map, unwrap_or, option_to_list, is_some, IfSome, IsTrue, if◌then◌else◌}
use Rattle.std.specs.List.{list_all, filter_map, flat_map, cons_option}
use Rattle.std.specs.Str.{bytes_eq}
use Rattle.std.proofs.lemmas.Int.{ints}
use Rattle.std.proofs.lemmas.List.Folds.{list_all-append}
use Rattle.std.proofs.lemmas.Bool.Decides.{nat_tests}
use Rattle.lt_model.specs.declared.cell.CellType.{CellType}
use Rattle.lt_model.specs.declared.cell.CellType.TheVariants as cell
use Rattle.lt_model.specs.declared.cell.StoredCell.{StoredCell}
use Rattle.lt_model.specs.declared.input.FreeCell.{FreeCell}
use Rattle.lt_model.specs.declared.input.Need.{Need}
use Rattle.lt_model.specs.declared.input.NeedTerm.{NeedTerm}
use Rattle.lt_model.specs.declared.input.Place.{Place}
use Rattle.lt_model.specs.declared.input.Want.{Want}
use Rattle.lt_model.specs.declared.input.Want.TheVariants as want
use Rattle.lt_model.specs.declared.scalar.DataModel.{DataModel}
use Rattle.lt_model.specs.declared.scalar.DataModel.TheVariants as model
use Rattle.lt_model.specs.declared.scalar.Scalar.{Scalar}
use Rattle.lt_model.specs.declared.scalar.Scalar.TheVariants as S
use Rattle.lt_model.specs.Scalar.{least_of, greatest_of}
use Rattle.lt_tree.specs.Typing.Entities.{Object, Function, is_linked}
use Rattle.lt_tree.specs.Typing.Types.{CType, Void, Num, Pointer, Array, Struct, Function as FunctionType, Floating, Qualified, struct_of, is_integer}
use Rattle.lt_tree.specs.Typing.Extents.{Placed, member_of}
use Rattle.lt_tree.specs.Typing.Programs.{Program}
use Rattle.lt_meaning.specs.Expressions.{shape}
use Rattle.lt_meaning.specs.Runs.{started_cells}
use Rattle.lt_entry.specs.Lines.{Row, rows_of}
use Rattle.lt_entry.specs.Written.{Numeral, value_of, is_numeral, PlaceWord, is_place, is_single, is_one, Step, at_index, at_each, at_member}
use Rattle.lt_entry.specs.Naming.{Root, Block, Part, Scope, Named, whole, named_part, named_by, named_in, parts_at, stepped, indexed, element_at, member_part, root_among, roots, block_root}
use Rattle.lt_entry.specs.SpecificationLines.{Line, entry_line, block_line, range_line, points_line, stub_line, require_line, Addend, Sum, addends, is_in_form, is_addend, is_factor}
use Rattle.lt_entry.specs.Conditions.{number_from, may_be_entry, entry_if_fit, entry_named, entry_of, each_named, scope_behind, fits, fits_where, fits_behind, fits_in, is_term, is_small_factor}
use Rattle.lt_entry.specs.Meaning.{first_some, at_place, targets_for, place_in, want_by, want_said, any_value, only_null, null_or_default, free_cell, free_cells, freed_cell, freed_cells, freed_unless_hidden, cells_said, factor_of, need_terms, need_said, said_in}
use Rattle.lt_entry.specs.Specifications.{all_fit, Specification, IsSpecification, IsDefault}
use Rattle.lt_input_specs.specs.Laws.{IsEntry, SpecificationsAreBounded, DefaultsAreBounded}
use Rattle.lt_entry.specs.Inputs.{is_number_64, has_ends_64, has_small_factor, is_short, IsBounded}

both : (a b : Bool) → (a && b) ≡ true → (a ≡ true) × (b ≡ true)
both true b h = (refl, h)
both false b h = absurd (cc)

join : (a b : Bool) → a ≡ true → b ≡ true → (a && b) ≡ true
join a b g h = rw (g, h) refl

-- ---- lists

mapped_length : {A B : Type 0} (f : A → B) (xs : List A) → length (map f xs) ≡ length xs
mapped_length f [] = refl
mapped_length f (x ∷ xs) = omega (arith, mapped_length f xs)

put_one : {B : Type 0} (p : B → Bool) (o : Option B) (l : List B) → IfSome o (λ b. p b ≡ true) → list_all p l ≡ true → list_all p (cons_option o l) ≡ true
put_one p None l h later = later
put_one p (Some b) l h later = rw h later

all_picked : {A B : Type 0} (p : B → Bool) (pick : A → Option B) (xs : List A) → ((x : A) → IfSome (pick x) (λ b. p b ≡ true)) → list_all p (filter_map pick xs) ≡ true
all_picked p pick [] each = refl
all_picked p pick (x ∷ xs) each = put_one p (pick x) (filter_map pick xs) (each x) (all_picked p pick xs each)

all_flat : {A B : Type 0} (p : B → Bool) (f : A → List B) (xs : List A) → ((x : A) → list_all p (f x) ≡ true) → list_all p (flat_map f xs) ≡ true
all_flat p f [] each = refl
all_flat p f (x ∷ xs) each = list_all-append p (f x) (flat_map f xs) ∙ rw (each x) (all_flat p f xs each)

all_mapped : {A B : Type 0} (p : B → Bool) (f : A → B) (xs : List A) → ((x : A) → p (f x) ≡ true) → list_all p (map f xs) ≡ true
all_mapped p f [] each = refl
all_mapped p f (x ∷ xs) each = rw (each x) (all_mapped p f xs each)

all_joined : {A : Type 0} (p : A → Bool) (xs ys : List A) → list_all p xs ≡ true → list_all p ys ≡ true → list_all p (xs ++ ys) ≡ true
all_joined p xs ys f g = list_all-append p xs ys ∙ rw f g

-- ---- lines

-- the line is of its form, and a requirement has few terms with small factors
abbrev pub is_kept : Line → Bool
is_kept (require_line sum relation constant) =
    is_in_form (require_line sum relation constant) && (nat_le (length (addends sum)) 16 && list_all (λ addend. is_small_factor addend.term.factor) (addends sum))
is_kept line = is_in_form line

small_factors : (scope : Scope) (its : List Addend) → list_all (is_term scope) its ≡ true → list_all (λ addend. is_small_factor addend.term.factor) its ≡ true
small_factors scope [] h = refl
small_factors scope (it ∷ its) h =
    let hs = both (is_term scope it) (list_all (is_term scope) its) h in
    let parts = both (each_named (λ named. is_integer named.type) (named_by scope it.term.place)) (is_small_factor it.term.factor) hs.0 in
    rw parts.1 (small_factors scope its hs.1)

kept_in : (scope : Scope) (before : List Line) (line : Line) → is_in_form line ≡ true → fits_in scope before line ≡ true → is_kept line ≡ true
kept_in scope before (entry_line name) form h = form
kept_in scope before (block_line name type count) form h = form
kept_in scope before (range_line place low high) form h = form
kept_in scope before (points_line place targets) form h = form
kept_in scope before (stub_line name low high) form h = form
kept_in scope before (require_line sum relation constant) form h =
    let parts = both (nat_le (length (addends sum)) 16 && list_all (is_term scope) (addends sum)) (nat_lt constant.size (2 ^ 63)) h in
    let few = both (nat_le (length (addends sum)) 16) (list_all (is_term scope) (addends sum)) parts.0 in
    join (is_in_form (require_line sum relation constant)) _ form (join (nat_le (length (addends sum)) 16) _ few.0 (small_factors scope (addends sum) few.1))

kept_behind : (program : Program) (rows : List Row) (entry : Option ℕ) (before : List Line) (line : Line) → is_in_form line ≡ true → fits_behind program rows entry before line ≡ true → is_kept line ≡ true
kept_behind program rows None before line form h = absurd (let e : false ≡ true = h in cc)
kept_behind program rows (Some entry) before line form h = kept_in (scope_behind program rows entry before) before line form h

kept_first : (program : Program) (rows : List Row) (line : Line) → is_in_form line ≡ true → fits_where program rows [] line ≡ true → is_kept line ≡ true
kept_first program rows (entry_line name) form h = form
kept_first program rows (block_line name type count) form h = form
kept_first program rows (range_line place low high) form h = form
kept_first program rows (points_line place targets) form h = form
kept_first program rows (stub_line name low high) form h = form
kept_first program rows (require_line sum relation constant) form h = absurd (let e : false ≡ true = h in cc)

kept_where : (program : Program) (rows : List Row) (before : List Line) (line : Line) → is_in_form line ≡ true → fits_where program rows before line ≡ true → is_kept line ≡ true
kept_where program rows [] line form h = kept_first program rows line form h
kept_where program rows (first ∷ before) line form h = kept_behind program rows (entry_of program (first ∷ before)) (first ∷ before) line form h

pub all_kept : (program : Program) (rows : List Row) (before lines : List Line) → all_fit program rows before lines ≡ true → list_all is_kept lines ≡ true
all_kept program rows before [] h = refl
all_kept program rows before (line ∷ lines) h =
    let hs = both (fits program rows before line) (all_fit program rows (before ++ line ∷ []) lines) h in
    let parts = both (is_in_form line) (fits_where program rows before line) hs.0 in
    rw (kept_where program rows before line parts.0 parts.1) (all_kept program rows (before ++ line ∷ []) lines hs.1)

-- ---- what a cell may hold

tell : (a b : ℤ) → a ≤ℤ b → int_le a b ≡ true
tell a b h = by (int_le a b) refl
  where
    by : (t : Bool) → int_le a b ≡ t → int_le a b ≡ true
    by true e = e
    by false e = absurd (omega (arith, ints, sym e))

size_64 : (negative : Bool) (n : ℕ) → n < 2 ^ 64 → is_number_64 (cond negative (neg_ℤ (pos n)) (pos n)) ≡ true
size_64 true n h = rw (tell (neg_ℤ (pos (2 ^ 64))) (neg_ℤ (pos n)) (omega (arith, ints))) (tell (neg_ℤ (pos n)) (pos (2 ^ 64)) (omega (arith, ints)))
size_64 false n h = rw (tell (neg_ℤ (pos (2 ^ 64))) (pos n) (omega (arith, ints))) (tell (pos n) (pos (2 ^ 64)) (omega (arith, ints)))

numeral_64 : (n : Numeral) → is_numeral n ≡ true → is_number_64 (value_of n) ≡ true
numeral_64 n h = size_64 n.is_negative n.size (grind (arith, nat_tests))

abbrev ends_64 : DataModel → Scalar → Bool
ends_64 m s = is_number_64 (least_of m s) && is_number_64 (greatest_of m s)

all_models : (s : Scalar) → (ends_64 model.Ilp32 s && (ends_64 model.Lp64 s && (ends_64 model.Llp64 s && (ends_64 model.Ilp32U s && (ends_64 model.Lp64U s && ends_64 model.Llp64U s))))) ≡ true → (m : DataModel) → ends_64 m s ≡ true
all_models s h m =
    let a = both _ _ h in
    let b = both _ _ a.1 in
    let c = both _ _ b.1 in
    let d = both _ _ c.1 in
    let e = both _ _ d.1 in
    elim m as (λ m. ends_64 m s ≡ true) [
      | model.Ilp32 ↦ a.0
      | model.Lp64 ↦ b.0
      | model.Llp64 ↦ c.0
      | model.Ilp32U ↦ d.0
      | model.Lp64U ↦ e.0
      | model.Llp64U ↦ e.1
    ]

ends_of : (m : DataModel) (s : Scalar) → ends_64 m s ≡ true
ends_of m s = all_models s (elim s as (λ s. (ends_64 model.Ilp32 s && (ends_64 model.Lp64 s && (ends_64 model.Llp64 s && (ends_64 model.Ilp32U s && (ends_64 model.Lp64U s && ends_64 model.Llp64U s))))) ≡ true) [
  | S.Bool ↦ refl
  | S.Char ↦ refl
  | S.SChar ↦ refl
  | S.UChar ↦ refl
  | S.Short ↦ refl
  | S.UShort ↦ refl
  | S.Int ↦ refl
  | S.UInt ↦ refl
  | S.Long ↦ refl
  | S.ULong ↦ refl
  | S.LLong ↦ refl
  | S.ULLong ↦ refl
]) m

any_64 : (m : DataModel) (t : CellType) (pointer : Want) → has_ends_64 pointer ≡ true → has_ends_64 (any_value m t pointer) ≡ true
any_64 m (cell.Num s) pointer h = ends_of m s
any_64 m (cell.Pointer p) pointer h = h

range_64 : (low high : Numeral) (o : Option Named) → is_number_64 (value_of low) ≡ true → is_number_64 (value_of high) ≡ true → IfSome (option_map (λ it. want.Between (value_of low) (value_of high)) o) (λ w. has_ends_64 w ≡ true)
range_64 low high None a b = tt
range_64 low high (Some it) a b = rw a b

points_64 : (targets : Named → List (Option Place)) (o : Option Named) → IfSome (option_map (λ it. want.OneOf (targets it)) o) (λ w. has_ends_64 w ≡ true)
points_64 targets None = tt
points_64 targets (Some it) = refl

want_64 : (scope : Scope) (place : Place) (line : Line) → is_kept line ≡ true → IfSome (want_by scope place line) (λ w. has_ends_64 w ≡ true)
want_64 scope place (range_line word low high) kept =
    let parts = both (is_place word && is_numeral low) (is_numeral high) kept in
    let first = both (is_place word) (is_numeral low) parts.0 in
    range_64 low high (at_place scope place (named_by scope word)) (numeral_64 low first.1) (numeral_64 high parts.1)
want_64 scope place (points_line word targets) kept = points_64 (λ it. targets_for scope targets it.type) (at_place scope place (named_by scope word))
want_64 scope place (entry_line name) kept = tt
want_64 scope place (block_line name type count) kept = tt
want_64 scope place (stub_line name low high) kept = tt
want_64 scope place (require_line sum relation constant) kept = tt

first_64 : (o : Option Want) (rest : List (Option Want)) → IfSome o (λ w. has_ends_64 w ≡ true) → IfSome (first_some rest) (λ w. has_ends_64 w ≡ true) → IfSome (first_some (o ∷ rest)) (λ w. has_ends_64 w ≡ true)
first_64 None rest h later = later
first_64 (Some w) rest h later = h

said_64 : (scope : Scope) (place : Place) (lines : List Line) → list_all is_kept lines ≡ true → IfSome (want_said scope lines place) (λ w. has_ends_64 w ≡ true)
said_64 scope place [] kept = tt
said_64 scope place (line ∷ lines) kept =
    let ks = both (is_kept line) (list_all is_kept lines) kept in
    first_64 (want_by scope place line) (map (want_by scope place) lines) (want_64 scope place line ks.0) (said_64 scope place lines ks.1)

-- ---- cells

or_64 : (o : Option Want) (other : Want) → IfSome o (λ w. has_ends_64 w ≡ true) → has_ends_64 other ≡ true → has_ends_64 (unwrap_or o other) ≡ true
or_64 None other h g = g
or_64 (Some w) other h g = h

freed_64 : (o : Option Want) (f : Want → FreeCell) → ((w : Want) → (f w).want ≡ w) → IfSome o (λ w. has_ends_64 w ≡ true) → IfSome (option_map f o) (λ cell. has_ends_64 cell.want ≡ true)
freed_64 None f same h = tt
freed_64 (Some w) f same h = ap has_ends_64 (same w) ∙ h

module _ (scope : Scope) (lines : List Line) (kept : list_all is_kept lines ≡ true) where
  free_64 : (pointer : Want) (root : Root) → has_ends_64 pointer ≡ true → list_all (λ cell. has_ends_64 cell.want) (free_cells scope lines pointer root) ≡ true
  free_64 pointer root h =
      all_mapped (λ cell. has_ends_64 cell.want) (free_cell scope lines pointer root) (shape scope.program root.type).cells
      (λ it. or_64 (want_said scope lines (place_in root it.offset)) (any_value scope.program.model it.ty pointer) (said_64 scope (place_in root it.offset) lines kept) (any_64 scope.program.model it.ty pointer h))

  object_64 : (object : Object) → list_all (λ cell. has_ends_64 cell.want) (freed_unless_hidden scope lines object) ≡ true
  object_64 object = by (root_among scope.parameters object.name) refl
    where
      linked : (b : Bool) → is_linked object.life ≡ b → list_all (λ cell. has_ends_64 cell.want) (freed_cells scope lines object) ≡ true
      linked true e =
          rw e
          (all_picked (λ cell. has_ends_64 cell.want) (freed_cell scope lines object) (started_cells scope.program object)
          (λ it. freed_64 (want_said scope lines (record { root = object.name; offset = it.offset })) _ (λ w. refl) (said_64 scope (record { root = object.name; offset = it.offset }) lines kept)))
      linked false e = rw e refl

      by : (o : Option Root) → root_among scope.parameters object.name ≡ o → list_all (λ cell. has_ends_64 cell.want) (freed_unless_hidden scope lines object) ≡ true
      by None e = rw (e, freed_unless_hidden) (linked (is_linked object.life) refl)
      by (Some root) e = rw (e, freed_unless_hidden) refl

  pub cells_64 : list_all (λ cell. has_ends_64 cell.want) (cells_said scope lines) ≡ true
  cells_64 =
      let p : FreeCell → Bool = λ cell. has_ends_64 cell.want in
      let a : List FreeCell = flat_map (λ parameter. free_cells scope lines (null_or_default scope.program parameter) parameter) scope.parameters in
      let b : List FreeCell = flat_map (λ block. free_cells scope lines only_null (block_root block)) scope.blocks in
      let c : List FreeCell = flat_map (freed_unless_hidden scope lines) scope.program.objects in
      all_joined p (a ++ b) c
      (all_joined p a b
      (all_flat p (λ parameter. free_cells scope lines (null_or_default scope.program parameter) parameter) scope.parameters (λ parameter. free_64 (null_or_default scope.program parameter) parameter refl))
      (all_flat p (λ block. free_cells scope lines only_null (block_root block)) scope.blocks (λ block. free_64 only_null (block_root block) refl)))
      (all_flat p (freed_unless_hidden scope lines) scope.program.objects object_64)

-- ---- requirements

-- a step that goes to no more than one part
one_element : (program : Program) (t : CType) (count offset : ℕ) (i : ℤ) → length (element_at program t count offset i) ≤ 1
one_element program t count offset (pos i) = by (nat_lt i count) refl
  where
    by : (b : Bool) → nat_lt i count ≡ b → length (element_at program t count offset (pos i)) ≤ 1
    by true e = rw e (omega arith)
    by false e = rw e (omega arith)
one_element program t count offset (negsuc i) = omega arith

one_indexed : (program : Program) (index : Numeral) (offset : ℕ) (t : CType) → length (indexed program index offset t) ≤ 1
one_indexed program index offset (Array t n) = one_element program t n offset (value_of index)
one_indexed program index offset Void = omega arith
one_indexed program index offset (Num s) = omega arith
one_indexed program index offset (Pointer t) = omega arith
one_indexed program index offset (Struct k) = omega arith
one_indexed program index offset (FunctionType t ts dots) = omega arith
one_indexed program index offset Floating = omega arith
one_indexed program index offset (Qualified q t) = omega arith

one_member : (program : Program) (name : List ℕ) (offset : ℕ) (k : Option ℕ) → length (member_part program name offset k) ≤ 1
one_member program name offset None = omega arith
one_member program name offset (Some k) = by (member_of program.model program.structs k name) refl
  where
    by : (o : Option Placed) → member_of program.model program.structs k name ≡ o → length (member_part program name offset (Some k)) ≤ 1
    by None e = rw (e, member_part) (omega arith)
    by (Some placed) e = rw (e, member_part) (omega arith)

one_step : (program : Program) (step : Step) (part : Part) → is_one step ≡ true → length (stepped program step part) ≤ 1
one_step program (at_index index) part h = one_indexed program index part.offset part.type
one_step program at_each part h = absurd (let e : false ≡ true = h in cc)
one_step program (at_member name) part h = one_member program name part.offset (struct_of part.type)

flat_one : {A B : Type 0} (f : A → List B) (xs : List A) → length xs ≤ 1 → ((x : A) → length (f x) ≤ 1) → length (flat_map f xs) ≤ 1
flat_one f [] h each = omega arith
flat_one f (x ∷ []) h each = omega (arith, each x, length-append (f x) [])
flat_one f (x ∷ y ∷ xs) h each = absurd (omega arith)

one_part : (program : Program) (steps : List Step) (part : Part) → list_all is_one steps ≡ true → length (parts_at program steps part) ≤ 1
one_part program [] part h = omega arith
one_part program (step ∷ steps) part h =
    let hs = both (is_one step) (list_all is_one steps) h in
    flat_one (parts_at program steps) (stepped program step part) (one_step program step part hs.0) (λ p. one_part program steps p hs.1)

one_named : (program : Program) (steps : List Step) (root : Option Root) → list_all is_one steps ≡ true → length (named_in program steps root) ≤ 1
one_named program steps None h = omega arith
one_named program steps (Some root) h = omega (arith, one_part program steps (whole root) h, mapped_length (named_part root.name) (parts_at program steps (whole root)))

few_terms : (scope : Scope) (its : List Addend) → list_all is_addend its ≡ true → length (flat_map (need_terms scope) its) ≤ length its
few_terms scope [] h = omega arith
few_terms scope (it ∷ its) h =
    let hs = both (is_addend it) (list_all is_addend its) h in
    let single : is_single it.term.place ≡ true = (both (is_factor it.term.factor && is_place it.term.place) (is_single it.term.place) hs.0).1 in
    let one : length (need_terms scope it) ≤ 1 =
    omega (arith, one_named scope.program it.term.place.steps (root_among (roots scope) it.term.place.name) single, mapped_length (λ (n : Named). let t : NeedTerm = record { at = n.place; factor = factor_of it } in t) (named_by scope it.term.place)) in
    omega (arith, one, few_terms scope its hs.1, length-append (need_terms scope it) (flat_map (need_terms scope) its))

abs_of : (negative : Bool) (n : ℕ) → nat_abs (cond negative (neg_ℤ (pos n)) (pos n)) ≡ n
abs_of true zero = refl
abs_of true (suc n) = omega arith
abs_of false n = refl

abs_neg : (z : ℤ) → nat_abs (neg_ℤ z) ≡ nat_abs z
abs_neg (pos zero) = refl
abs_neg (pos (suc n)) = omega arith
abs_neg (negsuc n) = omega arith

small_number : (o : Option Numeral) → is_small_factor o ≡ true → nat_lt (nat_abs (elim o [ None ↦ pos 1 | Some factor ↦ value_of factor ])) (2 ^ 31) ≡ true
small_number None h = refl
small_number (Some factor) h = rw (abs_of factor.is_negative factor.size) h

small_factor : (addend : Addend) → is_small_factor addend.term.factor ≡ true → nat_lt (nat_abs (factor_of addend)) (2 ^ 31) ≡ true
small_factor addend h = by addend.is_minus refl
  where
    by : (b : Bool) → addend.is_minus ≡ b → nat_lt (nat_abs (factor_of addend)) (2 ^ 31) ≡ true
    by true e = rw (e, abs_neg (elim (addend.term.factor) [ None ↦ pos 1 | Some factor ↦ value_of factor ])) (small_number addend.term.factor h)
    by false e = rw e (small_number addend.term.factor h)

small_terms : (scope : Scope) (its : List Addend) → list_all (λ addend. is_small_factor addend.term.factor) its ≡ true → list_all has_small_factor (flat_map (need_terms scope) its) ≡ true
small_terms scope [] h = refl
small_terms scope (it ∷ its) h =
    let hs = both (is_small_factor it.term.factor) (list_all (λ addend. is_small_factor addend.term.factor) its) h in
    all_joined has_small_factor (need_terms scope it) (flat_map (need_terms scope) its)
    (all_mapped has_small_factor (λ n. record { at = n.place; factor = factor_of it }) (named_by scope it.term.place) (λ n. small_factor it hs.0))
    (small_terms scope its hs.1)

short_need : (scope : Scope) (line : Line) → is_kept line ≡ true → IfSome (need_said scope line) (λ need. is_short need ≡ true)
short_need scope (require_line sum relation constant) kept =
    let small = list_all (λ (addend : Addend). is_small_factor addend.term.factor) (addends sum) in
    let parts = both (is_in_form (require_line sum relation constant)) (nat_le (length (addends sum)) 16 && small) kept in
    let form = (both (list_all is_addend (addends sum)) (is_numeral constant) parts.0).0 in
    let bounds = both (nat_le (length (addends sum)) 16) small parts.1 in
    let few : length (flat_map (need_terms scope) (addends sum)) ≤ 16 = grind (arith, nat_tests, few_terms scope (addends sum) form) in
    let fits : nat_le (length (flat_map (need_terms scope) (addends sum))) 16 ≡ true = grind (arith, nat_tests) in
    rw fits (small_terms scope (addends sum) bounds.1)
short_need scope (entry_line name) kept = tt
short_need scope (block_line name type count) kept = tt
short_need scope (range_line place low high) kept = tt
short_need scope (points_line place targets) kept = tt
short_need scope (stub_line name low high) kept = tt

short_needs : (scope : Scope) (lines : List Line) → list_all is_kept lines ≡ true → list_all is_short (filter_map (need_said scope) lines) ≡ true
short_needs scope [] kept = refl
short_needs scope (line ∷ lines) kept =
    let ks = both (is_kept line) (list_all is_kept lines) kept in
    put_one is_short (need_said scope line) (filter_map (need_said scope) lines) (short_need scope line ks.0) (short_needs scope lines ks.1)

-- What lines say that are kept is bounded.
pub said_bounded : (scope : Scope) (entry : ℕ) (lines : List Line) → list_all is_kept lines ≡ true → IsBounded (said_in scope entry lines)
said_bounded scope entry lines kept = record { ranges = cells_64 scope lines kept; needs = short_needs scope lines kept }

-- ---- the entry

number_case : (b : Bool) (k n m : ℕ) (o : Option ℕ) → cond b (Some k) o ≡ Some n → (o ≡ Some n → n < suc k + m) → n < k + suc m
number_case true k n m o h later = let same : k ≡ n = cc in omega arith
number_case false k n m o h later = omega (arith, later h)

number_below : (k : ℕ) (name : List ℕ) (functions : List Function) (n : ℕ) → number_from k name functions ≡ Some n → n < k + length functions
number_below k name [] n h = absurd (let e : false ≡ true = ap is_some h in cc)
number_below k name (f ∷ functions) n h =
    let r : n < k + suc (length functions) = number_case (bytes_eq f.name name) k n (length functions) (number_from (suc k) name functions) h (number_below (suc k) name functions n) in
    omega (arith, r)

fit_entry : (program : Program) (name : List ℕ) (o : Option ℕ) (entry : ℕ) → number_from 0 name program.functions ≡ o → entry_if_fit program o ≡ Some entry → IsEntry program entry
fit_entry program name None entry e h = absurd (let e : false ≡ true = ap is_some h in cc)
fit_entry program name (Some k) entry e h = by (may_be_entry program k) refl
  where
    by : (b : Bool) → may_be_entry program k ≡ b → IsEntry program entry
    by false f = absurd (let e : false ≡ true = ap is_some (rw f at h) in cc)
    by true f =
        let some : Some k ≡ Some entry = rw f at h in
        let same : k ≡ entry = cc in
        subst (IsEntry program) same (record { there = omega (arith, number_below 0 name program.functions k e); fits = f })

pub said_entry : (program : Program) (lines : List Line) (entry : ℕ) → entry_of program lines ≡ Some entry → IsEntry program entry
said_entry program [] entry h = absurd (let e : false ≡ true = ap is_some h in cc)
said_entry program (entry_line name ∷ lines) entry h = fit_entry program name (number_from 0 name program.functions) entry refl h
said_entry program (block_line name type count ∷ lines) entry h = absurd (let e : false ≡ true = ap is_some h in cc)
said_entry program (range_line place low high ∷ lines) entry h = absurd (let e : false ≡ true = ap is_some h in cc)
said_entry program (points_line place targets ∷ lines) entry h = absurd (let e : false ≡ true = ap is_some h in cc)
said_entry program (stub_line name low high ∷ lines) entry h = absurd (let e : false ≡ true = ap is_some h in cc)
said_entry program (require_line sum relation constant ∷ lines) entry h = absurd (let e : false ≡ true = ap is_some h in cc)

-- ---- the laws

pub text_bounded : SpecificationsAreBounded
text_bounded program text it is = (
  subst (λ (x : Specification). IsBounded x.spec) (sym is.says) (said_bounded (scope_behind program (rows_of text) is.entry is.lines) is.entry is.lines (all_kept program (rows_of text) [] is.lines is.front.fit)),
  subst (λ (x : Specification). IsEntry program x.spec.entry) (sym is.says) (said_entry program is.lines is.entry is.first),
)

pub default_bounded : DefaultsAreBounded
default_bounded program it is = (
  subst (λ (x : Specification). IsBounded x.spec) (sym is.says) (said_bounded (scope_behind program [] is.entry []) is.entry [] refl),
  subst (λ (x : Specification). IsEntry program x.spec.entry) (sym is.says) (record { there = is.last.there; fits = is.last.fits }),
)
