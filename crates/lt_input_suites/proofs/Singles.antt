-- Places and targets where no step goes to every element name at most one thing.
use Rattle.std.proofs.Common.{◌≡◌, ℕ, suc, ◌+◌, ◌*◌, ◌<◌, ◌≤◌, ◌==◌, Bool, true, false, cond, ℤ, pos, negsuc, List, [], ◌∷◌, ◌++◌, length, map, Option, Some, None, refl, sym, ap, ◌∙◌, subst, arith, length-append}
use Rattle.std.specs.Prelude.{◌&&◌, nat_lt, option_map, option_to_list, unwrap_or, ◌↔◌, IsSome}
use Rattle.std.specs.List.{list_all, flat_map}
use Rattle.std.specs.Str.{bytes_eq}
use Rattle.std.proofs.lemmas.List.{append-nil}
use Rattle.std.proofs.lemmas.Slice.Eq.{bytes_eq-Decides}
use Rattle.std.proofs.lemmas.Bool.Decides.{nat_tests}
use Rattle.lt_model.specs.declared.input.Place.{Place}
use Rattle.lt_tree.specs.Typing.Types.{CType, Void, Num, Pointer, Array, Struct, Function, Floating, Qualified, struct_of}
use Rattle.lt_model.specs.Layout.{Placed}
use Rattle.lt_tree.specs.Typing.Extents.{size_of, member_of}
use Rattle.lt_tree.specs.Typing.Programs.{Program}
use Rattle.lt_entry.specs.Written.{Numeral, value_of, Step, at_index, at_each, at_member, is_one, PlaceWord, is_single, TargetWord, to_null, to_place, is_single_target}
use Rattle.lt_entry.specs.Naming.{Root, roots, root_among, Scope, Part, whole, element_at, indexed, member_part, stepped, parts_at, Named, named_part, named_in, named_by, is_pointed, if_all_pointed, is_past_end, past_elements, past_root, past_end, targets_of}

-- ---- lists of one or none

and_first : (a b : Bool) → (a && b) ≡ true → (a ≡ true) × (b ≡ true)
and_first true b h = (refl, h)
and_first false b h = absurd (cc)

short_flat : {A B : Type 0} (f : A → List B) → ((a : A) → length (f a) ≤ 1) → (xs : List A) → length xs ≤ 1 → length (flat_map f xs) ≤ 1
short_flat f h [] le = omega arith
short_flat f h (x ∷ []) le = rw (append-nil (f x)) (h x)
short_flat f h (x ∷ y ∷ xs) le = absurd (omega (arith, le))

map_length : {A B : Type 0} (f : A → B) (xs : List A) → length (map f xs) ≡ length xs
map_length f [] = refl
map_length f (x ∷ xs) = ap suc (map_length f xs)

-- What is taken from the end of a list of one or none is the list.
one_of : {A : Type 0} (xs rest : List A) (n : ℕ) (o : Option A) → length xs ≤ 1 → n ≡ length xs → xs ≡ rest ++ option_to_list o → (IsSome o ↔ (0 < n)) → xs ≡ option_to_list o
one_of [] rest n None le count e some = refl
one_of (x ∷ xs) rest n None le count e some = absurd (let no : false ≡ true = some.1 (omega (arith, count)) in cc)
one_of xs [] n (Some a) le count e some = e
one_of xs (y ∷ rest) n (Some a) le count e some =
    let both : length xs ≡ length (y ∷ rest ++ a ∷ []) = ap length e in
    absurd (omega (arith, both, le, length-append rest (a ∷ [])))

map_one : {A B : Type 0} (f : A → B) (o : Option A) → map f (option_to_list o) ≡ option_to_list (option_map f o)
map_one f None = refl
map_one f (Some a) = refl

-- ---- parts

short_if : {A : Type 0} (b : Bool) (x : A) → length (cond b (x ∷ []) []) ≤ 1
short_if true x = omega arith
short_if false x = omega arith

short_element : (program : Program) (t : CType) (count offset : ℕ) (index : ℤ) → length (element_at program t count offset index) ≤ 1
short_element program t count offset (pos i) = short_if (nat_lt i count) (record { type = t; offset = offset + i * size_of program.model program.structs t })
short_element program t count offset (negsuc i) = omega arith

short_index : (program : Program) (index : Numeral) (offset : ℕ) (t : CType) → length (indexed program index offset t) ≤ 1
short_index program index offset (Array t count) = short_element program t count offset (value_of index)
short_index program index offset Void = omega arith
short_index program index offset (Num s) = omega arith
short_index program index offset (Pointer t) = omega arith
short_index program index offset (Struct k) = omega arith
short_index program index offset (Function t ts dots) = omega arith
short_index program index offset Floating = omega arith
short_index program index offset (Qualified q t) = omega arith

short_placed : (offset : ℕ) (m : Option Placed) → length {A = Part} (elim m [ None ↦ [] | Some member ↦ record { type = member.type; offset = offset + member.offset } ∷ [] ]) ≤ 1
short_placed offset None = omega arith
short_placed offset (Some member) = omega arith

short_member : (program : Program) (name : List ℕ) (offset : ℕ) (o : Option ℕ) → length (member_part program name offset o) ≤ 1
short_member program name offset None = omega arith
short_member program name offset (Some k) = short_placed offset (member_of program.model program.structs k name)

short_step : (program : Program) (step : Step) (part : Part) → is_one step ≡ true → length (stepped program step part) ≤ 1
short_step program (at_index index) part h = short_index program index part.offset part.type
short_step program at_each part h = absurd (cc)
short_step program (at_member name) part h = short_member program name part.offset (struct_of part.type)

short_parts : (program : Program) (steps : List Step) → list_all is_one steps ≡ true → (part : Part) → length (parts_at program steps part) ≤ 1
short_parts program [] h part = omega arith
short_parts program (step ∷ steps) h part =
    let hs = and_first (is_one step) (list_all is_one steps) h in
    short_flat (parts_at program steps) (short_parts program steps hs.1) (stepped program step part) (short_step program step part hs.0)

short_in : (program : Program) (steps : List Step) → list_all is_one steps ≡ true → (o : Option Root) → length (named_in program steps o) ≤ 1
short_in program steps h None = omega arith
short_in program steps h (Some root) =
    let n : length (map (named_part root.name) (parts_at program steps (whole root))) ≡ length (parts_at program steps (whole root)) = map_length (named_part root.name) (parts_at program steps (whole root)) in
    omega (arith, n, short_parts program steps h (whole root))

pub short_named : (scope : Scope) (place : PlaceWord) → is_single place ≡ true → length (named_by scope place) ≤ 1
short_named scope place h = short_in scope.program place.steps h (root_among (roots scope) place.name)

-- ---- what a part is called

found_by : (r : Root) (rs : List Root) (name : List ℕ) (root : Root) (b : Bool) → bytes_eq r.name name ≡ b → (root_among rs name ≡ Some root → root.name ≡ name) → cond b (Some r) (root_among rs name) ≡ Some root → root.name ≡ name
found_by r rs name root true h others e = let is : r ≡ root = cc in subst (λ (it : Root). it.name ≡ name) is ((bytes_eq-Decides r.name name).0 h)
found_by r rs name root false h others e = others e

found_name : (rs : List Root) (name : List ℕ) (root : Root) → root_among rs name ≡ Some root → root.name ≡ name
found_name [] name root e = absurd (cc)
found_name (r ∷ rs) name root e = found_by r rs name root (bytes_eq r.name name) refl (found_name rs name root) e

in_name : (program : Program) (steps : List Step) (name : List ℕ) (o : Option Root) → ((root : Root) → o ≡ Some root → root.name ≡ name) → (it : Named) → named_in program steps o ≡ it ∷ [] → it.place.root ≡ name
in_name program steps name None h it e = absurd (cc)
in_name program steps name (Some root) h it e = by (parts_at program steps (whole root)) e
  where
    by : (parts : List Part) → map (named_part root.name) parts ≡ it ∷ [] → it.place.root ≡ name
    by [] f = absurd (cc)
    by (part ∷ parts) f = let is : named_part root.name part ≡ it = cc in ap (λ (it : Named). it.place.root) (sym is) ∙ h root refl

-- A part belongs to the object that the place names.
pub name_of_part : (scope : Scope) (place : PlaceWord) (it : Named) → named_by scope place ≡ it ∷ [] → it.place.root ≡ place.name
name_of_part scope place it e =
    in_name scope.program place.steps place.name (root_among (roots scope) place.name) (λ root f. found_name (roots scope) place.name root f) it e

-- ---- targets

all_or_none : (b : Bool) (pointed : CType) (its : List Named) → length its ≤ 1 → length (cond b (map (λ (it : Named). Some it.place) its) []) ≤ 1
all_or_none true pointed its le = let n : length (map (λ (it : Named). Some it.place) its) ≡ length its = map_length (λ (it : Named). Some it.place) its in omega (arith, n)
all_or_none false pointed its le = omega arith

short_pointed : (pointed : CType) (its : List Named) → length its ≤ 1 → length (if_all_pointed pointed its) ≤ 1
short_pointed pointed its le = all_or_none (list_all (λ it. is_pointed pointed it.type) its) pointed its le

-- A list of one or none stays one behind which nothing stands.
short_alone : {A : Type 0} (xs ys : List A) → ys ≡ [] → length xs ≤ 1 → length (xs ++ ys) ≤ 1
short_alone xs ys e le = rw (e, append-nil xs) le

not_past : (i count : ℕ) → nat_lt i count ≡ true → (i == count) ≡ false
not_past i count h = grind (arith, nat_tests)

-- One past the end of a block is no element of it.
element_or_end : (pointed : CType) (f : Part → Named) (g : Part → List Part) → ((part : Part) → length (g part) ≤ 1) → (b c d : Bool) → (b ≡ true → c ≡ false) → (x : Part) (y : Option Place)
    → length (if_all_pointed pointed (map f (flat_map g (cond b (x ∷ []) []))) ++ cond (c && d) (y ∷ []) []) ≤ 1
element_or_end pointed f g short true true d apart x y = absurd (let e : true ≡ false = apart refl in cc)
element_or_end pointed f g short true false d apart x y =
    let n : length (map f (flat_map g (x ∷ []))) ≡ length (flat_map g (x ∷ [])) = map_length f (flat_map g (x ∷ [])) in
    let m : length (flat_map g (x ∷ [])) ≤ 1 = short_flat g short (x ∷ []) (omega arith) in
    short_alone (if_all_pointed pointed (map f (flat_map g (x ∷ [])))) [] refl (short_pointed pointed (map f (flat_map g (x ∷ []))) (omega (arith, n, m)))
element_or_end pointed f g short false true true apart x y = omega arith
element_or_end pointed f g short false true false apart x y = omega arith
element_or_end pointed f g short false false d apart x y = omega arith

short_end : (program : Program) (pointed : CType) (name : List ℕ) (t : CType) (count : ℕ) (value : ℤ)
    → length (if_all_pointed pointed (map (named_part name) (flat_map (parts_at program []) (element_at program t count 0 value))) ++ cond (is_past_end count value && is_pointed pointed t) (Some (record { root = name; offset = count * size_of program.model program.structs t }) ∷ []) []) ≤ 1
short_end program pointed name t count (pos i) =
    element_or_end pointed (named_part name) (parts_at program []) (short_parts program [] refl) (nat_lt i count) (i == count) (is_pointed pointed t) (not_past i count)
    (record { type = t; offset = 0 + i * size_of program.model program.structs t }) (Some (record { root = name; offset = count * size_of program.model program.structs t }))
short_end program pointed name t count (negsuc i) = omega arith

short_block : (program : Program) (pointed : CType) (name : List ℕ) (index : Numeral) (t : CType) → length (if_all_pointed pointed (map (named_part name) (flat_map (parts_at program []) (indexed program index 0 t))) ++ past_elements program pointed name index t) ≤ 1
short_block program pointed name index (Array t count) = short_end program pointed name t count (value_of index)
short_block program pointed name index Void = omega arith
short_block program pointed name index (Num s) = omega arith
short_block program pointed name index (Pointer t) = omega arith
short_block program pointed name index (Struct k) = omega arith
short_block program pointed name index (Function t ts dots) = omega arith
short_block program pointed name index Floating = omega arith
short_block program pointed name index (Qualified q t) = omega arith

short_root : (program : Program) (pointed : CType) (index : Numeral) (root : Root) (b : Bool) → length (if_all_pointed pointed (named_in program (at_index index ∷ []) (Some root)) ++ cond b (past_elements program pointed root.name index root.type) []) ≤ 1
short_root program pointed index root true = short_block program pointed root.name index root.type
short_root program pointed index root false =
    short_alone (if_all_pointed pointed (named_in program (at_index index ∷ []) (Some root))) [] refl
    (short_pointed pointed (named_in program (at_index index ∷ []) (Some root)) (short_in program (at_index index ∷ []) refl (Some root)))

short_other : (program : Program) (pointed : CType) (steps : List Step) → list_all is_one steps ≡ true → (root : Root) → length (if_all_pointed pointed (named_in program steps (Some root)) ++ []) ≤ 1
short_other program pointed steps h root =
    short_alone (if_all_pointed pointed (named_in program steps (Some root))) [] refl (short_pointed pointed (named_in program steps (Some root)) (short_in program steps h (Some root)))

short_past : (program : Program) (pointed : CType) (steps : List Step) → list_all is_one steps ≡ true → (root : Root) → length (if_all_pointed pointed (named_in program steps (Some root)) ++ past_root program pointed root steps) ≤ 1
short_past program pointed [] h root = short_other program pointed [] h root
short_past program pointed (at_index index ∷ []) h root = short_root program pointed index root root.is_block
short_past program pointed (at_index index ∷ step ∷ steps) h root = short_other program pointed (at_index index ∷ step ∷ steps) h root
short_past program pointed (at_each ∷ steps) h root = absurd (cc)
short_past program pointed (at_member name ∷ steps) h root = short_other program pointed (at_member name ∷ steps) h root

short_place : (program : Program) (pointed : CType) (steps : List Step) → list_all is_one steps ≡ true → (o : Option Root) → length (if_all_pointed pointed (named_in program steps o) ++ past_end program pointed steps o) ≤ 1
short_place program pointed steps h None = omega arith
short_place program pointed steps h (Some root) = short_past program pointed steps h root

pub short_targets : (scope : Scope) (pointed : CType) (target : TargetWord) → is_single_target target ≡ true → length (targets_of scope pointed target) ≤ 1
short_targets scope pointed to_null h = omega arith
short_targets scope pointed (to_place place) h = short_place scope.program pointed place.steps h (root_among (roots scope) place.name)

-- ---- what is taken from the end of their lists

pub part_is : {A : Type 0} (scope : Scope) (place : PlaceWord) (named : A → Named) (parts rest : List A) (n : ℕ) (o : Option A) → is_single place ≡ true → map named parts ≡ named_by scope place → n ≡ length parts → parts ≡ rest ++ option_to_list o → (IsSome o ↔ (0 < n))
    → named_by scope place ≡ option_to_list (option_map named o)
part_is scope place named parts rest n o single e count taken some =
    let same : length (map named parts) ≡ length (named_by scope place) = ap length e in
    let le : length parts ≤ 1 = omega (arith, same, map_length named parts, short_named scope place single) in
    sym e ∙ ap (map named) (one_of parts rest n o le count taken some) ∙ map_one named o

pub target_is : (scope : Scope) (target : TargetWord) (pointed : CType) (t : Option CType) (targets rest : List (Option Place)) (n : ℕ) (o : Option (Option Place)) → is_single_target target ≡ true → Some pointed ≡ t → targets ≡ targets_of scope pointed target → n ≡ length targets → targets ≡ rest ++ option_to_list o → (IsSome o ↔ (0 < n))
    → unwrap_or (option_map (λ pointed. targets_of scope pointed target) t) [] ≡ option_to_list o
target_is scope target pointed t targets rest n o single e are count taken some =
    let same : length targets ≡ length (targets_of scope pointed target) = ap length are in
    let le : length targets ≤ 1 = omega (arith, same, short_targets scope pointed target single) in
    ap (λ t. unwrap_or (option_map (λ pointed. targets_of scope pointed target) t) []) (sym e) ∙ sym are ∙ one_of targets rest n o le count taken some
