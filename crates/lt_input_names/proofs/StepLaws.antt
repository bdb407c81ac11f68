-- Steps that are followed one at a time, from all parts to which those before them lead.
use Rattle.std.proofs.Common.{◌≡◌, ℕ, zero, suc, ◌+◌, ◌*◌, ◌<◌, ◌≤◌, true, false, cond, List, [], ◌∷◌, ◌++◌, length, drop, get_or, map, Option, None, Some, refl, sym, ap, ◌∙◌, arith, append_assoc}
use Rattle.std.specs.Prelude.{ℤ, pos, negsuc, option_map, nat_lt}
use Rattle.std.specs.List.{flat_map, range_with_len}
use Rattle.std.proofs.lemmas.Bool.{lt-ltb, le-ltb}
use Rattle.std.proofs.lemmas.List.{append-nil, map-append}
use Rattle.std.proofs.lemmas.List.FromFn.{map-range_with_len_more}
use Rattle.lt_tree.specs.Typing.Types.{CType, Void, Num, Pointer, Array, Struct, Function, Floating, Qualified}
use Rattle.lt_tree.specs.Typing.Extents.{size_of, member_of, Placed}
use Rattle.lt_tree.specs.Typing.Programs.{Program}
use Rattle.lt_entry.specs.Written.{Numeral, Step, value_of}
use Rattle.lt_entry.specs.Naming as naming
use Rattle.lt_entry.specs.Naming.{named_part, parts_at, stepped, indexed, all_elements, element_at, elements_from, member_part}
use Rattle.lt_entry.specs.declared.place.Step as memory
use Rattle.lt_entry.specs.Views.{step_view}
use Rattle.lt_input_names.specs.Kinds.{array_of}
use Rattle.lt_input_names.specs.declared.part.PartType.{PartType}
use Rattle.lt_input_names.specs.Roots.{part_type}
use Rattle.lt_input_names.specs.Parts.{part_at, part_in, run, natural, placed_pair}
use Rattle.lt_input_names.proofs.Lists.{flat-flat}

-- the first step of several, from all of these parts
pub step_all : (program : Program) (step : Step) (steps : List Step) (parts : List naming.Part) → flat_map (parts_at program (step ∷ steps)) parts ≡ flat_map (parts_at program steps) (flat_map (stepped program step) parts)
step_all program step steps parts = sym (flat-flat (parts_at program steps) (stepped program step) parts)

-- no step
pub step_none : (program : Program) (parts : List naming.Part) → flat_map (parts_at program []) parts ≡ parts
step_none program [] = refl
step_none program (part ∷ parts) = ap (λ l. part ∷ l) (step_none program parts)

step_last : (program : Program) (steps : List Step) (part : naming.Part) → flat_map (parts_at program steps) (part ∷ []) ≡ parts_at program steps part
step_last program steps part = append-nil (parts_at program steps part)

past_drop : {A : Type 0} (xs : List A) (n : ℕ) → length xs ≤ n → drop n xs ≡ []
past_drop [] zero past = refl
past_drop [] (suc n) past = refl
past_drop (x ∷ xs) zero past = absurd (omega (arith, past))
past_drop (x ∷ xs) (suc n) past = past_drop xs n (omega (arith, past))

drop_one : {A : Type 0} (xs : List A) (i : ℕ) (x : A) → i < length xs → x ≡ get_or xs i x → drop i xs ≡ x ∷ drop (i + 1) xs
drop_one [] i x h is = absurd (omega (arith, h))
drop_one (y ∷ xs) zero x h is = ap (λ z. z ∷ xs) (sym is)
drop_one (y ∷ xs) (suc i) x h is = drop_one xs i x (omega (arith, h)) is ∙ (let e : drop (i + 1) xs ≡ drop (suc i + 1) (y ∷ xs) = ap (λ n. drop n (y ∷ xs)) (let same : suc (i + 1) ≡ suc i + 1 = omega arith in same) in ap (λ l. x ∷ l) e)

-- ---- a loop over steps

pub steps_begin : (program : Program) (steps : List memory.Step) (part : naming.Part) (parts : List naming.Part) → parts ≡ part ∷ [] → flat_map (parts_at program (map step_view (drop 0 steps))) parts ≡ parts_at program (map step_view steps) part
steps_begin program steps part parts is = ap (flat_map (parts_at program (map step_view steps))) is ∙ step_last program (map step_view steps) part

pub steps_go : (program : Program) (steps : List memory.Step) (i : ℕ) (step : memory.Step) (before after all : List naming.Part) → i < length steps → step ≡ get_or steps i step → after ≡ flat_map (stepped program (step_view step)) before
    → flat_map (parts_at program (map step_view (drop i steps))) before ≡ all → flat_map (parts_at program (map step_view (drop (i + 1) steps))) after ≡ all
steps_go program steps i step before after all h is next so_far =
    ap (flat_map (parts_at program (map step_view (drop (i + 1) steps)))) next ∙ sym (step_all program (step_view step) (map step_view (drop (i + 1) steps)) before)
    ∙ ap (λ l. flat_map (parts_at program (map step_view l)) before) (sym (drop_one steps i step h is)) ∙ so_far

pub steps_end : (program : Program) (steps : List memory.Step) (i : ℕ) (parts all : List naming.Part) → length steps ≤ i → flat_map (parts_at program (map step_view (drop i steps))) parts ≡ all → parts ≡ all
steps_end program steps i parts all past so_far = sym (step_none program parts) ∙ ap (λ l. flat_map (parts_at program (map step_view l)) parts) (sym (past_drop steps i past)) ∙ so_far

-- a step from all parts of one type, which leads from each so
pub steps_each : (program : Program) (step : Step) (t u : CType) (go : ℕ → List ℕ) (offsets : List ℕ) → ((offset : ℕ) → stepped program step (part_at t offset) ≡ map (part_at u) (go offset))
    → map (part_at u) (flat_map go offsets) ≡ flat_map (stepped program step) (map (part_at t) offsets)
steps_each program step t u go [] leads = refl
steps_each program step t u go (offset ∷ offsets) leads =
    map-append (part_at u) (go offset) (flat_map go offsets) ∙ ap (λ l. l ++ map (part_at u) (flat_map go offsets)) (sym (leads offset))
    ∙ ap (λ l. stepped program step (part_at t offset) ++ l) (steps_each program step t u go offsets leads)

pub steps_nowhere : (program : Program) (step : Step) (t : CType) (offsets : List ℕ) → ((offset : ℕ) → stepped program step (part_at t offset) ≡ []) → [] ≡ flat_map (stepped program step) (map (part_at t) offsets)
steps_nowhere program step t [] leads = refl
steps_nowhere program step t (offset ∷ offsets) leads = steps_nowhere program step t offsets leads ∙ ap (λ l. l ++ flat_map (stepped program step) (map (part_at t) offsets)) (sym (leads offset))

-- ---- arrays

pub array_is : (t e : CType) (n : ℕ) → Some (e, n) ≡ array_of t → t ≡ Array e n
array_is (Array u k) e n is = let same : (e, n) ≡ (u, k) = let P : Some (e, n) ≡ Some (u, k) = is in cc in ap (λ (a : CType × ℕ). Array a.0 a.1) (sym same)
array_is Void e n is = absurd cc
array_is (Num s) e n is = absurd cc
array_is (Pointer u) e n is = absurd cc
array_is (Struct k) e n is = absurd cc
array_is (Function u us dots) e n is = absurd cc
array_is Floating e n is = absurd cc
array_is (Qualified q u) e n is = absurd cc

pub no_elements : (program : Program) (offset : ℕ) (t : CType) → None ≡ array_of t → all_elements program offset t ≡ []
no_elements program offset (Array u k) is = absurd cc
no_elements program offset Void is = refl
no_elements program offset (Num s) is = refl
no_elements program offset (Pointer u) is = refl
no_elements program offset (Struct k) is = refl
no_elements program offset (Function u us dots) is = refl
no_elements program offset Floating is = refl
no_elements program offset (Qualified q u) is = refl

pub no_element : (program : Program) (index : Numeral) (offset : ℕ) (t : CType) → None ≡ array_of t → indexed program index offset t ≡ []
no_element program index offset (Array u k) is = absurd cc
no_element program index offset Void is = refl
no_element program index offset (Num s) is = refl
no_element program index offset (Pointer u) is = refl
no_element program index offset (Struct k) is = refl
no_element program index offset (Function u us dots) is = refl
no_element program index offset Floating is = refl
no_element program index offset (Qualified q u) is = refl

-- ---- all elements

from_on : (program : Program) (t : CType) (i n offset : ℕ)
    → elements_from program t i n offset ≡ map (part_at t) (map (λ k. offset + k * size_of program.model program.structs t) (range_with_len i n))
from_on program t i zero offset = refl
from_on program t i (suc n) offset =
    ap (λ l. part_at t (offset + i * size_of program.model program.structs t) ∷ l)
    (from_on program t (suc i) n offset ∙ ap (λ j. map (part_at t) (map (λ k. offset + k * size_of program.model program.structs t) (range_with_len j n))) (let e : suc i ≡ i + 1 = omega arith in e))

pub each_element : (program : Program) (offset : ℕ) (t e : CType) (n size : ℕ) → Some (e, n) ≡ array_of t → size ≡ size_of program.model program.structs e → all_elements program offset t ≡ map (part_at e) (run (offset + 0) size n)
each_element program offset t e n size is fits =
    ap (all_elements program offset) (array_is t e n is) ∙ from_on program e 0 n offset
    ∙ ap (λ s. map (part_at e) (run offset s n)) (sym fits) ∙ ap (λ o. map (part_at e) (run o size n)) (let same : offset ≡ offset + 0 = omega arith in same)

-- ---- one element

none_below : (program : Program) (e : CType) (n offset : ℕ) (z : ℤ) → None ≡ natural z → element_at program e n offset z ≡ []
none_below program e n offset (pos i) is = absurd cc
none_below program e n offset (negsuc i) is = refl

pub negative_element : (program : Program) (index : Numeral) (offset : ℕ) (t : CType) → None ≡ natural (value_of index) → indexed program index offset t ≡ []
negative_element program index offset (Array u k) is = none_below program u k offset (value_of index) is
negative_element program index offset Void is = refl
negative_element program index offset (Num s) is = refl
negative_element program index offset (Pointer u) is = refl
negative_element program index offset (Struct k) is = refl
negative_element program index offset (Function u us dots) is = refl
negative_element program index offset Floating is = refl
negative_element program index offset (Qualified q u) is = refl

none_past : (program : Program) (e : CType) (n offset i : ℕ) (z : ℤ) → Some i ≡ natural z → n ≤ i → element_at program e n offset z ≡ []
none_past program e n offset i (pos j) is past =
    let same : i ≡ j = cc in
    let high : nat_lt j n ≡ false = le-ltb j n (omega (arith, same, past)) in
    ap (λ b. cond b (part_at e (offset + j * size_of program.model program.structs e) ∷ []) []) high
none_past program e n offset i (negsuc j) is past = absurd cc

one_at : (program : Program) (e : CType) (n offset i start : ℕ) (z : ℤ) → Some i ≡ natural z → i < n → start ≡ 0 + i * size_of program.model program.structs e → element_at program e n offset z ≡ map (part_at e) (run (offset + start) 0 1)
one_at program e n offset i start (pos j) is within at =
    let same : i ≡ j = cc in
    let low : nat_lt j n ≡ true = lt-ltb j n (omega (arith, same, within)) in
    let size = size_of program.model program.structs e in
    let bytes : offset + j * size ≡ offset + start + 0 * 0 = omega (arith, ap (λ k. k * size) same, at) in
    ap (λ b. cond b (part_at e (offset + j * size) ∷ []) []) low ∙ ap (λ o. part_at e o ∷ []) bytes
one_at program e n offset i start (negsuc j) is within at = absurd cc

-- ---- members

pub no_struct : (program : Program) (name : List ℕ) (offset : ℕ) (found : Option ℕ) → None ≡ found → member_part program name offset found ≡ []
no_struct program name offset found is = ap (member_part program name offset) (sym is)

no_member : (offset : ℕ) (found : Option Placed) → None ≡ option_map placed_pair found
    → ◌≡◌ {A = List naming.Part} (elim found [ None ↦ [] | Some member ↦ part_at member.type (offset + member.offset) ∷ [] ]) []
no_member offset None is = refl
no_member offset (Some member) is = absurd cc

pub nameless : (program : Program) (name : List ℕ) (offset k : ℕ) (number : Option ℕ) → Some k ≡ number → None ≡ option_map placed_pair (member_of program.model program.structs k name) → member_part program name offset number ≡ []
nameless program name offset k number is none = ap (member_part program name offset) (sym is) ∙ no_member offset (member_of program.model program.structs k name) none

abbrev type_or : CType → Option (CType × ℕ) → CType
type_or t None = t
type_or t (Some a) = a.0

abbrev offset_or : ℕ → Option (CType × ℕ) → ℕ
offset_or n None = n
offset_or n (Some a) = a.1

a_member : (offset : ℕ) (t : CType) (start : ℕ) (found : Option Placed) → Some (t, start) ≡ option_map placed_pair found
    → ◌≡◌ {A = List naming.Part} (elim found [ None ↦ [] | Some member ↦ part_at member.type (offset + member.offset) ∷ [] ]) (map (part_at t) (run (offset + start) 0 1))
a_member offset t start None is = absurd cc
a_member offset t start (Some member) is =
    let first : member.type ≡ t = ap (type_or t) (sym is) in
    let second : member.offset ≡ start = ap (offset_or start) (sym is) in
    let begins : offset + member.offset ≡ offset + start + 0 * 0 = omega (arith, second) in
    ap (λ o. part_at member.type o ∷ []) begins ∙ ap (λ u. part_at u (offset + start + 0 * 0) ∷ []) first

pub named_member : (program : Program) (name : List ℕ) (offset k : ℕ) (t : CType) (start : ℕ) (number : Option ℕ) → Some k ≡ number → Some (t, start) ≡ option_map placed_pair (member_of program.model program.structs k name)
    → member_part program name offset number ≡ map (part_at t) (run (offset + start) 0 1)
named_member program name offset k t start number is at = ap (member_part program name offset) (sym is) ∙ a_member offset t start (member_of program.model program.structs k name) at

-- ---- runs

pub run_more : (first apart k at : ℕ) (front old new : List ℕ) → at ≡ first + k * apart → old ≡ front ++ run first apart k → new ≡ old ++ at ∷ [] → new ≡ front ++ run first apart (k + 1)
run_more first apart k at front old new is before after =
    after ∙ ap (λ l. l ++ at ∷ []) before ∙ append_assoc front (run first apart k) (at ∷ [])
    ∙ ap (λ l. front ++ l) (ap (λ n. run first apart k ++ n ∷ []) is ∙ sym (map-range_with_len_more (λ j. first + j * apart) 0 k k (omega arith)))

-- ---- the element of a number

pub numbered : (program : Program) (index : Numeral) (offset : ℕ) (t e : CType) (n i : ℕ) → Some (e, n) ≡ array_of t → Some i ≡ natural (value_of index) → indexed program index offset t ≡ element_at program e n offset (pos i)
numbered program index offset t e n i is at = ap (indexed program index offset) (array_is t e n is) ∙ ap (element_at program e n offset) (by (value_of index) at)
  where
    by : (z : ℤ) → Some i ≡ natural z → z ≡ pos i
    by (pos j) h = let same : j ≡ i = cc in ap pos same
    by (negsuc j) h = absurd cc

pub past_count : (program : Program) (e : CType) (n offset i : ℕ) → n ≤ i → element_at program e n offset (pos i) ≡ []
past_count program e n offset i past = none_past program e n offset i (pos i) refl past

pub within_count : (program : Program) (e : CType) (n offset i start size : ℕ) → i < n → size ≡ size_of program.model program.structs e → start ≡ 0 + i * size → element_at program e n offset (pos i) ≡ map (part_at e) (run (offset + start) 0 1)
within_count program e n offset i start size within fits begins = one_at program e n offset i start (pos i) refl within (begins ∙ ap (λ s. 0 + i * s) fits)

-- ---- parts with names

pub named_law : (types : List CType) (name : List ℕ) (t : PartType) (offsets : List ℕ)
    → map (λ part. let it : naming.Named = record { place = part.place; type = part_type types part.ty } in it) (map (part_in name t) offsets) ≡ map (named_part name) (map (part_at (part_type types t)) offsets)
named_law types name t [] = refl
named_law types name t (offset ∷ offsets) = ap (λ l. named_part name (part_at (part_type types t) offset) ∷ l) (named_law types name t offsets)
