-- What a function's statements name is known, where all that stands in the program is there.
use Rattle.std.proofs.Common.{◌≡◌, ℕ, suc, ◌+◌, ◌==◌, Bool, true, false, not, cond, List, [], ◌∷◌, ◌++◌, map, Option, Some, None, slice_get, refl, ap, subst, ◌∙◌, arith}
use Rattle.std.specs.Prelude.{if◌then◌else◌, is_some}
use Rattle.std.specs.List.{filter, flat_map}
use Rattle.std.specs.Str.{bytes_eq}
use Rattle.std.proofs.lemmas.Bool.{eqb-true}
use Rattle.std.proofs.lemmas.Slice.Eq.{bytes_eq-Decides}
use Rattle.lt_tree.specs.Typing.Types.{CType}
use Rattle.lt_tree.specs.Typing.Entities.{Object, Declared, declared_among, Label, is_static}
use Rattle.lt_tree.specs.Typing.Operands.{holds}
use Rattle.lt_tree.specs.Typing.TypedTree as e
use Rattle.lt_tree.specs.Typing.TypedTree.{Value, Values, Place, Marks, Mark, Bindings, StartPart, Start, Local, ForStart, Statement, Items, Cases}
use Rattle.lt_tree.specs.Typing.Programs.{Program}
use Rattle.lt_tree.specs.Typing.Ranges.{to_label, to_call, to_parameter, Lists, lists_in, AreThere, IsThere, IsInRange, bound_by, takes, count_values, lives, is_automatic, is_parameter, in_type, in_value, in_values, in_place, in_marks, in_mark, in_start_part, in_start, in_option, in_local, in_statement, in_items, in_cases}
use Rattle.lt_meaning.specs.Statements.{parts_in}
use Rattle.lt_meaning.specs.Runs.{place_among, begun_by, locals_in, locals_of, locals_among, is_there_first}
use Rattle.lt_tables.specs.Lookups.{name_among, function_number, stubs_of}
use Rattle.lt_emit.specs.Emission.{Here}
use Rattle.lt_emit.specs.Known.{Named, named_in, HasLabel, CanCall, HasMark, HaveMarks, Knows, KnowsPlace, KnowsAll, IsOwn}
use Rattle.lt_lower.specs.Known.{IsKnownPart, AreKnownParts, IsKnownLocal, AreKnownLocals, IsKnownIfThere, IsKnownStatement, AreKnownItems, AreKnownCases}
use Rattle.lt_ranges.proofs.WhatIsThere.{front_there, back_there, function_there, lives_so, not_static, not_both}

-- ---- labels

label_at :
    (id : ℕ) (names : List (List ℕ)) (labels : List Label) (k : ℕ) → bound_by id labels ≡ Some names
    → (j : ℕ) × (label : Label) × (place_among k id (map (λ label. label.id) labels) ≡ Some (k + j))
    × (slice_get labels j ≡ Some label) × (label.id ≡ id) × (label.bound ≡ names)
label_at id names [] k is = absurd (cc)
label_at id names (label ∷ labels) k is = by (label.id == id) refl is (label_at id names labels (suc k))
  where
    by : (b : Bool) → (label.id == id) ≡ b → (if b then Some label.bound else bound_by id labels) ≡ Some names
        → (bound_by id labels ≡ Some names → (j : ℕ) × (it : Label)
        × (place_among (suc k) id (map (λ label. label.id) labels) ≡ Some (suc k + j)) × (slice_get labels j ≡ Some it) × (it.id ≡ id)
        × (it.bound ≡ names))
        → (j : ℕ) × (it : Label)
        × ((if b then Some k else place_among (suc k) id (map (λ label. label.id) labels)) ≡ Some (k + j))
        × (slice_get (label ∷ labels) j ≡ Some it) × (it.id ≡ id) × (it.bound ≡ names)
    by true same is behind =
        let bound : label.bound ≡ names = cc in
        let at : k ≡ k + 0 = omega arith in
        (0, label, ap Some at, refl, eqb-true label.id id same, bound)
    by false same is behind =
        let found = behind is in
        let at : suc k + found.0 ≡ k + suc found.0 = omega arith in
        (suc found.0, found.1, found.2 ∙ ap Some at, found.3, found.4, found.5)

-- ---- functions without a body

same_bytes : (xs ys : List ℕ) → bytes_eq xs ys ≡ true → xs ≡ ys
same_bytes xs ys is = grind (arith, bytes_eq-Decides xs ys, is)

-- those that are declared and have no body
abbrev stubs_among : Program → List Declared → List (List ℕ)
stubs_among program declared = filter (λ x. not (is_some (function_number program x))) (map (λ f. f.name) declared)

-- one more in front of them
abbrev kept_before : Bool → List ℕ → List (List ℕ) → List (List ℕ)
kept_before true name rest = name ∷ rest
kept_before false name rest = rest

kept_first : (p : List ℕ → Bool) (name : List ℕ) (rest : List (List ℕ)) → filter p (name ∷ rest) ≡ kept_before (p name) name (filter p rest)
kept_first p name rest = by (p name)
  where
    by : (b : Bool) → (cond b (name ∷ filter p rest) (filter p rest)) ≡ kept_before b name (filter p rest)
    by true = refl
    by false = refl

name_behind :
    (name other : List ℕ) (rest : List (List ℕ)) (b : Bool) (k : ℕ) → bytes_eq other name ≡ false
    → ((i : ℕ) → (j : ℕ) × (name_among i name rest ≡ Some j)) → (j : ℕ) × (name_among k name (kept_before b other rest) ≡ Some j)
name_behind name other rest false k is behind = behind k
name_behind name other rest true k is behind =
    let found = behind (suc k) in
    let pick : Bool → Option ℕ = λ b. if b then Some k else name_among (suc k) name rest in
    (found.0, ap pick is ∙ found.1)

stub_at :
    (program : Program) (p : CType → Bool) (name : List ℕ) (declared : List Declared) (k : ℕ)
    → holds p (declared_among name declared) ≡ true → function_number program name ≡ None
    → (j : ℕ) × (name_among k name (stubs_among program declared) ≡ Some j)
stub_at program p name [] k is none = absurd (cc)
stub_at program p name (d ∷ declared) k is none =
    let keeps : List ℕ → Bool = λ x. not (is_some (function_number program x)) in
    let found = by (bytes_eq d.name name) refl is (λ i h. stub_at program p name declared i h none) in
    (found.0, ap (name_among k name) (kept_first keeps d.name (map (λ f. f.name) declared)) ∙ found.1)
  where
    by : (b : Bool) → bytes_eq d.name name ≡ b → holds p (if b then Some d.type else declared_among name declared) ≡ true
        → ((i : ℕ) → holds p (declared_among name declared) ≡ true → (j : ℕ) × (name_among i name (stubs_among program declared) ≡ Some j))
        → (j : ℕ) × (name_among k name (kept_before (not (is_some (function_number program d.name))) d.name (stubs_among program declared)) ≡ Some j)
    by true same is behind =
        let equal = same_bytes d.name name same in
        let without : not (is_some (function_number program d.name)) ≡ true =
        ap (λ x. not (is_some (function_number program x))) equal ∙ ap (λ o. not (is_some o)) none in
        let pick : Bool → Option ℕ = λ b. if b then Some k else name_among (suc k) name (stubs_among program declared) in
        (k, ap (λ b. name_among k name (kept_before b d.name (stubs_among program declared))) without ∙ ap pick same)
    by false other is behind =
        name_behind name d.name (stubs_among program declared) (not (is_some (function_number program d.name))) k other (λ i. behind i is)

-- ---- objects that statements begin

abbrev has : ℕ → List ℕ → Bool
has n [] = false
has n (m ∷ ms) = if m == n then true else has n ms

place_of : (k n : ℕ) (ms : List ℕ) → has n ms ≡ true → (j : ℕ) × (place_among k n ms ≡ Some j)
place_of k n [] is = absurd (cc)
place_of k n (m ∷ ms) is = by (m == n) is (place_of (suc k) n ms)
  where
    by : (b : Bool) → (if b then true else has n ms) ≡ true → (has n ms ≡ true → (j : ℕ) × (place_among (suc k) n ms ≡ Some j))
        → (j : ℕ) × ((if b then Some k else place_among (suc k) n ms) ≡ Some j)
    by true is behind = (k, refl)
    by false is behind = behind is

has_front : (n : ℕ) (xs ys : List ℕ) → has n xs ≡ true → has n (xs ++ ys) ≡ true
has_front n [] ys is = absurd (cc)
has_front n (m ∷ xs) ys is = by (m == n) is (has_front n xs ys)
  where
    by : (b : Bool) → (if b then true else has n xs) ≡ true → (has n xs ≡ true → has n (xs ++ ys) ≡ true)
        → (if b then true else has n (xs ++ ys)) ≡ true
    by true is behind = refl
    by false is behind = behind is

has_back : (n : ℕ) (xs ys : List ℕ) → has n ys ≡ true → has n (xs ++ ys) ≡ true
has_back n [] ys is = is
has_back n (m ∷ xs) ys is = by (m == n) (has_back n xs ys is)
  where
    by : (b : Bool) → has n (xs ++ ys) ≡ true → (if b then true else has n (xs ++ ys)) ≡ true
    by true behind = refl
    by false behind = behind

has_first : (n : ℕ) (ms : List ℕ) → has n (n ∷ ms) ≡ true
has_first n ms = by (n == n) same
  where
    same : (n == n) ≡ true
    same = grind arith

    by : (b : Bool) → b ≡ true → (if b then true else has n ms) ≡ true
    by true is = refl
    by false is = absurd (cc)

has_behind : (n m : ℕ) (ms : List ℕ) → has n ms ≡ true → has n (m ∷ ms) ≡ true
has_behind n m ms is = by (m == n)
  where
    by : (b : Bool) → (if b then true else has n ms) ≡ true
    by true = refl
    by false = is

no_parameter :
    (lists : Lists) (ns : List ℕ) (n k : ℕ) → AreThere lists (map to_parameter ns) → lives is_automatic lists.objects n ≡ true
    → place_among k n ns ≡ None
no_parameter lists [] n k there own = refl
no_parameter lists (m ∷ ns) n k there own = by (m == n) refl (no_parameter lists ns n (suc k) there.1 own)
  where
    by : (b : Bool) → (m == n) ≡ b → place_among (suc k) n ns ≡ None → (if b then Some k else place_among (suc k) n ns) ≡ None
    by true same behind =
        let equal = eqb-true m n same in
        let Lives : ℕ → Type 0 = λ j. lives is_parameter lists.objects j ≡ true in
        absurd (not_both lists.objects n own (subst Lives equal there.0))
    by false same behind = behind

no_static : (program : Program) (n : ℕ) → lives is_automatic program.objects n ≡ true → is_there_first program n ≡ false
no_static program n own =
    let it = lives_so is_automatic program.objects n own in
    let first : Option Object → Bool = λ found. elim found [ None ↦ false | Some object ↦ is_static object.life ] in
    ap first it.there ∙ not_static it.object.life it.life

-- ---- what is known

module _ (here : Here) (stubs : here.stubs ≡ stubs_of here.program)
    (parameters : AreThere (lists_in here.program) (map to_parameter here.function.parameters)) where
  abbrev lists : Lists
  lists = lists_in here.program

  abbrev named : Named
  named = named_in here

  label_known : (id : ℕ) (names : List (List ℕ)) → IsThere lists (to_label id names) → HasLabel named id names
  label_known id names there =
      let found = label_at id names here.program.labels 0 there in
      let at : 0 + found.0 ≡ found.0 = omega arith in
      (found.0, found.1, found.2 ∙ ap Some at, found.3, found.4, found.5)

  call_known : (name : List ℕ) (n : ℕ) (t : CType) → IsThere lists (to_call name n) → CanCall named name t
  call_known name n t there none goes full =
      let found = stub_at here.program (takes n) name here.program.declared 0 there none in
      (found.0, ap (name_among 0 name) stubs ∙ found.1)

  mutual
    mark_known : (m : Mark) → AreThere lists (in_mark m) → HasMark named m
    mark_known (e.mark predicate id bound) there = label_known id _ there.0

    marks_known : (ms : Marks) → AreThere lists (in_marks ms) → HaveMarks named ms
    marks_known e.no_marks there = tt
    marks_known (e.a_mark first rest) there = (
      mark_known first (front_there lists (in_mark first) (in_marks rest) there),
      marks_known rest (back_there lists (in_mark first) (in_marks rest) there),
    )

  mutual
    known : (v : Value) → AreThere lists (in_value v) → Knows named v
    known (e.Constant t z) there = tt
    known (e.Load t p) there = known_place p (back_there lists (in_type t) (in_place p) there)
    known (e.Whole t p) there = known_place p (back_there lists (in_type t) (in_place p) there)
    known (e.Decay t p) there = known_place p (back_there lists (in_type t) (in_place p) there)
    known (e.AddressOf t p) there = known_place p (back_there lists (in_type t) (in_place p) there)
    known (e.Convert how t v) there = known v (back_there lists (in_type t) (in_value v) there)
    known (e.Minus t v) there = known v (back_there lists (in_type t) (in_value v) there)
    known (e.Complement t v) there = known v (back_there lists (in_type t) (in_value v) there)
    known (e.Not t v) there = known v (back_there lists (in_type t) (in_value v) there)
    known (e.Arithmetic t op s a b) there = let two = back_there lists (in_type t) (in_value a ++ in_value b) there in (known a (front_there lists (in_value a) (in_value b) two), known b (back_there lists (in_value a) (in_value b) two))
    known (e.Move t op size side a b) there = let two = back_there lists (in_type t) (in_value a ++ in_value b) there in (known a (front_there lists (in_value a) (in_value b) two), known b (back_there lists (in_value a) (in_value b) two))
    known (e.Distance t size a b) there = let two = back_there lists (in_type t) (in_value a ++ in_value b) there in (known a (front_there lists (in_value a) (in_value b) two), known b (back_there lists (in_value a) (in_value b) two))
    known (e.Compare t op a b) there = let two = back_there lists (in_type t) (in_value a ++ in_value b) there in (known a (front_there lists (in_value a) (in_value b) two), known b (back_there lists (in_value a) (in_value b) two))
    known (e.Logical t op a b) there = let two = back_there lists (in_type t) (in_value a ++ in_value b) there in (known a (front_there lists (in_value a) (in_value b) two), known b (back_there lists (in_value a) (in_value b) two))
    known (e.Conditional t test a b) there =
        let all = back_there lists (in_type t) (in_value test ++ (in_value a ++ in_value b)) there in
        let two = back_there lists (in_value test) (in_value a ++ in_value b) all in (
          known test (front_there lists (in_value test) (in_value a ++ in_value b) all),
          known a (front_there lists (in_value a) (in_value b) two),
          known b (back_there lists (in_value a) (in_value b) two),
        )
    known (e.Assign t p v) there = let two = back_there lists (in_type t) (in_place p ++ in_value v) there in (known_place p (front_there lists (in_place p) (in_value v) two), known v (back_there lists (in_place p) (in_value v) two))
    known (e.Update t op s p v) there = let two = back_there lists (in_type t) (in_place p ++ in_value v) there in (known_place p (front_there lists (in_place p) (in_value v) two), known v (back_there lists (in_place p) (in_value v) two))
    known (e.UpdatePointer t op size p v) there = let two = back_there lists (in_type t) (in_place p ++ in_value v) there in (known_place p (front_there lists (in_place p) (in_value v) two), known v (back_there lists (in_place p) (in_value v) two))
    known (e.Step t gives op s p) there = known_place p (back_there lists (in_type t) (in_place p) there)
    known (e.StepPointer t gives op size p) there = known_place p (back_there lists (in_type t) (in_place p) there)
    known (e.Call t name vs) there =
        let all = back_there lists (in_type t) (to_call name (count_values vs) ∷ in_values vs) there in
        (call_known name (count_values vs) t all.0, all_known vs all.1)
    known (e.Comma t vs) there = all_known vs (back_there lists (in_type t) (in_values vs) there)
    known (e.Marked t ms v) there =
        let all = back_there lists (in_type t) (in_marks ms ++ in_value v) there in
        (marks_known ms (front_there lists (in_marks ms) (in_value v) all), known v (back_there lists (in_marks ms) (in_value v) all))
    known (e.Decide t v when_true when_false) there =
        let all = back_there lists (in_type t) (to_label when_true [] ∷ to_label when_false [] ∷ in_value v) there in
        (known v all.1.1, label_known when_true [] all.0, label_known when_false [] all.1.0)
    known (e.After t v id) there =
        let all = back_there lists (in_type t) (to_label id [] ∷ in_value v) there in
        (known v all.1, label_known id [] all.0)

    all_known : (vs : Values) → AreThere lists (in_values vs) → KnowsAll named vs
    all_known e.no_values there = tt
    all_known (e.a_value v vs) there =
        (known v (front_there lists (in_value v) (in_values vs) there), all_known vs (back_there lists (in_value v) (in_values vs) there))

    known_place : (p : Place) → AreThere lists (in_place p) → KnowsPlace named p
    known_place (e.Object t n) there = tt
    known_place (e.Pointed t v) there = known v (back_there lists (in_type t) (in_value v) there)
    known_place (e.Element t size side a b) there = let two = back_there lists (in_type t) (in_value a ++ in_value b) there in (known a (front_there lists (in_value a) (in_value b) two), known b (back_there lists (in_value a) (in_value b) two))
    known_place (e.Part t offset p) there = known_place p (back_there lists (in_type t) (in_place p) there)
    known_place (e.Held t v) there = known v (back_there lists (in_type t) (in_value v) there)

  -- ---- objects

  own : (n : ℕ) → has n (locals_of here.function.body) ≡ true → lives is_automatic lists.objects n ≡ true → IsOwn here n
  own n there lives =
      let at = place_of 0 n (locals_of here.function.body) there in
      (at.0, at.1, no_parameter lists here.function.parameters n 0 parameters lives, no_static here.program n lives)

  part_known : (part : StartPart) → AreThere lists (in_start_part part) → IsKnownPart here part
  part_known (e.stored offset v) there = known v there
  part_known (e.fixed offset t c) there = tt
  part_known (e.letters offset t bytes) there = tt

  parts_known : (parts : List StartPart) → AreThere lists (flat_map in_start_part parts) → AreKnownParts here parts
  parts_known [] there = tt
  parts_known (part ∷ parts) there = (
    part_known part (front_there lists (in_start_part part) (flat_map in_start_part parts) there),
    parts_known parts (back_there lists (in_start_part part) (flat_map in_start_part parts) there),
  )

  start_known : (start : Option Start) → AreThere lists (in_option in_start start) → AreKnownParts here (parts_in start)
  start_known None there = tt
  start_known (Some start) there = parts_known start.parts there

  abbrev AreBegun : List ℕ → Type 0
  AreBegun ns = (n : ℕ) → has n ns ≡ true → has n (locals_of here.function.body) ≡ true

  local_known : (it : Local) → AreThere lists (in_local it) → has it.object (locals_of here.function.body) ≡ true → IsKnownLocal here it
  local_known it there begun = (own it.object begun there.0, start_known it.start there.1)

  locals_known : (its : List Local) → AreThere lists (flat_map in_local its) → AreBegun (begun_by its) → AreKnownLocals here its
  locals_known [] there begun = tt
  locals_known (it ∷ its) there begun = (
    local_known it (front_there lists (in_local it) (flat_map in_local its) there) (begun it.object (has_first it.object (begun_by its))),
    locals_known its (back_there lists (in_local it) (flat_map in_local its) there) (λ n is. begun n (has_behind n it.object (begun_by its) is)),
  )

  -- ---- statements

  optional_known : (v : Option Value) → AreThere lists (in_option in_value v) → IsKnownIfThere here v
  optional_known None there = tt
  optional_known (Some v) there = known v there

  mutual
    statement_known : (s : Statement) → AreThere lists (in_statement s) → AreBegun (locals_in s) → IsKnownStatement here s
    statement_known (e.Compound its) there begun = items_known its there begun
    statement_known (e.Evaluates v) there begun = known v there
    statement_known e.Null there begun = tt
    statement_known (e.If v body) there begun = (
      known v (front_there lists (in_value v) (in_statement body) there),
      statement_known body (back_there lists (in_value v) (in_statement body) there) begun,
    )
    statement_known (e.IfElse v body other) there begun =
        let two = back_there lists (in_value v) (in_statement body ++ in_statement other) there in (
          known v (front_there lists (in_value v) (in_statement body ++ in_statement other) there),
          statement_known body (front_there lists (in_statement body) (in_statement other) two) (λ n is. begun n (has_front n (locals_in body) (locals_in other) is)),
          statement_known other (back_there lists (in_statement body) (in_statement other) two) (λ n is. begun n (has_back n (locals_in body) (locals_in other) is)),
        )
    statement_known (e.While v body) there begun = (
      known v (front_there lists (in_value v) (in_statement body) there),
      statement_known body (back_there lists (in_value v) (in_statement body) there) begun,
    )
    statement_known (e.Do body v) there begun = (
      statement_known body (front_there lists (in_statement body) (in_value v) there) begun,
      known v (back_there lists (in_statement body) (in_value v) there),
    )
    statement_known (e.For e.Nothing test step body) turns begun =
        let two = back_there lists (in_option in_value test) (in_option in_value step ++ in_statement body) turns in (
          optional_known test (front_there lists (in_option in_value test) (in_option in_value step ++ in_statement body) turns),
          optional_known step (front_there lists (in_option in_value step) (in_statement body) two),
          statement_known body (back_there lists (in_option in_value step) (in_statement body) two) begun,
        )
    statement_known (e.For (e.First v) test step body) there begun =
        let rest = in_option in_value test ++ (in_option in_value step ++ in_statement body) in
        let turns = back_there lists (in_value v) rest there in
        let two = back_there lists (in_option in_value test) (in_option in_value step ++ in_statement body) turns in (
          known v (front_there lists (in_value v) rest there),
          optional_known test (front_there lists (in_option in_value test) (in_option in_value step ++ in_statement body) turns),
          optional_known step (front_there lists (in_option in_value step) (in_statement body) two),
          statement_known body (back_there lists (in_option in_value step) (in_statement body) two) begun,
        )
    statement_known (e.For (e.Locals its) test step body) there begun =
        let rest = in_option in_value test ++ (in_option in_value step ++ in_statement body) in
        let turns = back_there lists (flat_map in_local its) rest there in
        let two = back_there lists (in_option in_value test) (in_option in_value step ++ in_statement body) turns in (
          locals_known its (front_there lists (flat_map in_local its) rest there) (λ n is. begun n (has_front n (begun_by its) (locals_in body) is)),
          optional_known test (front_there lists (in_option in_value test) (in_option in_value step ++ in_statement body) turns),
          optional_known step (front_there lists (in_option in_value step) (in_statement body) two),
          statement_known body (back_there lists (in_option in_value step) (in_statement body) two) (λ n is. begun n (has_back n (begun_by its) (locals_in body) is)),
        )
    statement_known (e.Switch v its) there begun =
        (known v (front_there lists (in_value v) (in_cases its) there), cases_known its (back_there lists (in_value v) (in_cases its) there) begun)
    statement_known e.Break there begun = tt
    statement_known e.Continue there begun = tt
    statement_known (e.Return v) there begun = optional_known v there

    items_known : (its : Items) → AreThere lists (in_items its) → AreBegun (locals_of its) → AreKnownItems here its
    items_known e.no_items there begun = tt
    items_known (e.a_local it rest) there begun = (
      local_known it (front_there lists (in_local it) (in_items rest) there) (begun it.object (has_first it.object (locals_of rest))),
      items_known rest (back_there lists (in_local it) (in_items rest) there) (λ n is. begun n (has_behind n it.object (locals_of rest) is)),
    )
    items_known (e.a_statement s rest) there begun = (
      statement_known s (front_there lists (in_statement s) (in_items rest) there) (λ n is. begun n (has_front n (locals_in s) (locals_of rest) is)),
      items_known rest (back_there lists (in_statement s) (in_items rest) there) (λ n is. begun n (has_back n (locals_in s) (locals_of rest) is)),
    )
    items_known (e.a_label m rest) there begun =
        (mark_known m (front_there lists (in_mark m) (in_items rest) there), items_known rest (back_there lists (in_mark m) (in_items rest) there) begun)

    cases_known : (its : Cases) → AreThere lists (in_cases its) → AreBegun (locals_among its) → AreKnownCases here its
    cases_known e.no_cases there begun = tt
    cases_known (e.a_case labels s rest) there begun = (
      statement_known s (front_there lists (in_statement s) (in_cases rest) there) (λ n is. begun n (has_front n (locals_in s) (locals_among rest) is)),
      cases_known rest (back_there lists (in_statement s) (in_cases rest) there) (λ n is. begun n (has_back n (locals_in s) (locals_among rest) is)),
    )

-- In each function of a program in range all that its statements name is known.
pub body_known :
    (here : Here) (k : ℕ) → here.stubs ≡ stubs_of here.program → IsInRange here.program
    → slice_get here.program.functions k ≡ Some here.function → AreKnownItems here here.function.body
body_known here k stubs ranges at =
    let lists = lists_in here.program in
    let f = here.function in
    let all = function_there here.program k f ranges at in
    let inside = back_there lists (in_type f.type) (map to_parameter f.parameters ++ in_items f.body) all.1 in
    let parameters = front_there lists (map to_parameter f.parameters) (in_items f.body) inside in
    let items = back_there lists (map to_parameter f.parameters) (in_items f.body) inside in
    items_known here stubs parameters f.body items (λ n is. is)
