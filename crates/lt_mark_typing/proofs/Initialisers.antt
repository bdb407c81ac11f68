-- Initialisers with marks added are typed again.
use Rattle.std.proofs.Common.{◌≡◌, ℕ, suc, ◌+◌, List, [], ◌∷◌, Option, Some, None, Bool, true, false, refl, sym, ap, ◌∙◌, subst}
use Rattle.std.specs.Prelude.{◌++◌, ◌||◌, ◌&&◌, length, if◌then◌else◌}
use Rattle.lt_tree.specs.Tree as c
use Rattle.lt_tree.specs.Typing.Types.{CType, struct_of, is_array, is_scalar, unqualified}
use Rattle.lt_tree.specs.Typing.Rules.{unless, broken_if, bad_assignment, bad_initialiser}
use Rattle.lt_tree.specs.Typing.TypedTree.{StartPart}
use Rattle.lt_tree.specs.Typing.Entities.{Known}
use Rattle.lt_tree.specs.Typing.Steps.{Goes, goes_on, settle, gives}
use Rattle.lt_tree.specs.Typing.Expressions.{Typed, as_value, own_type}
use Rattle.lt_tree.specs.Typing.Operations.{fits}
use Rattle.lt_tree.specs.Typing.Declaring.{length_faults}
use Rattle.lt_tree.specs.Typing.Filling.{Run, Filling, behind_first, opened, is_character_array, is_struct_of, value_faults, value_part, only_text, begins_with_braces, filling_of, list_faults, elements_begun}
use Rattle.lt_tree.specs.Typing.InitialiserTyping.{filled_by, fill_value, value_initialiser, initialiser_without_braces, filling_for, faults_of_list, behind_list, initialiser, initialisers, Started, with_length, started, whole_value, whole_without_braces, listed_length, end_of_list, object_initialiser}
use Rattle.lt_mark_laws.specs.Added.{AddsPart, AddsParts}
use Rattle.lt_mark_laws.proofs.Itself as unmarked
use Rattle.lt_object_laws.specs.Renamed.{renumbered, part_with, parts_with}
use Rattle.lt_mark_typing.specs.Renumbered.{typed_with}
use Rattle.lt_mark_typing.specs.Further.{Agrees}
use Rattle.lt_mark_typing.specs.Beside.{IsBeside, AddsTyped, Follows, in_use, AddsWith}
use Rattle.lt_mark_typing.specs.Placed.{AddsTo}
use Rattle.lt_mark_typing.specs.PlacedInitialisers as p
use Rattle.lt_mark_typing.specs.PlacedInitialisers.{AddsToInitialiser, AddsToInitialisers, AddsToObject}
use Rattle.lt_mark_typing.proofs.Numbers.{agrees_so_far, later}
use Rattle.lt_mark_typing.proofs.Going.{bind, bind_at, goes_here, entered_beside, same_of, settled}
use Rattle.lt_mark_typing.proofs.Operands.{made, type_same, value_adds, value_type, converted_adds}
use Rattle.lt_mark_typing.proofs.Operators.{unless_more, empty_both, left_empty, right_empty, fits_more}
use Rattle.lt_mark_typing.proofs.Renumbering.{own_type_with}
use Rattle.lt_mark_typing.proofs.Filled.{Fills, parts_joined, faults_with, part_with_value}
use Rattle.lt_mark_typing.proofs.Fillings.{IsFilledBehind, opened_same, for_list_same, surplus_same, of_initialiser as of_old_initialiser}
use Rattle.lt_mark_typing.proofs.Again.{of_to}

-- the parts have marks added, but for the numbers of objects
abbrev pub AddsFilled : (ℕ → Bool) → (ℕ → ℕ) → List StartPart → List StartPart → Type 0
AddsFilled new r xs ys = AddsParts new (parts_with r xs) ys

pub record AddsStarted (new : ℕ → Bool) (r : ℕ → ℕ) (a b : Started) : Type 0 where
  pub type : b.type ≡ a.type
  pub zeroed : a.start.zeroed ≡ b.start.zeroed
  pub parts : AddsParts new (parts_with r a.start.parts) b.start.parts

-- ---- parts

module _ (new : ℕ → Bool) where
  all_parts : (xs ys us vs : List StartPart) → AddsParts new xs ys → AddsParts new us vs → AddsParts new (xs ++ us) (ys ++ vs)
  all_parts [] [] us vs h g = g
  all_parts (x ∷ xs) (y ∷ ys) us vs h g = (h.0, all_parts xs ys us vs h.1 g)
  all_parts [] (y ∷ ys) us vs h g = absurd h
  all_parts (x ∷ xs) [] us vs h g = absurd h

  filled_both : (r : ℕ → ℕ) (xs ys us vs : List StartPart) → AddsFilled new r xs ys → AddsFilled new r us vs → AddsFilled new r (xs ++ us) (ys ++ vs)
  filled_both r xs ys us vs h g = subst (λ l. AddsParts new l (ys ++ vs)) (sym (parts_joined r xs us)) (all_parts (parts_with r xs) ys (parts_with r us) vs h g)

  pub filled_behind : IsFilledBehind (AddsFilled new)
  filled_behind r xs ys us h = filled_both r xs ys us (parts_with r us) h (unmarked.parts new (parts_with r us))

  pub nothing_filled : (r : ℕ → ℕ) (f : Filling) → f.parts ≡ [] → Fills (AddsFilled new) r f f
  nothing_filled r f h = record { left = refl; parts = subst (λ l. AddsFilled new r l l) (sym h) tt; surplus = refl }

-- ---- values

module _ {new : ℕ → Bool} where
  stored_adds : (known other : Known) (offset : ℕ) (t : CType) {x y : Typed} → AddsTyped new x y → AddsPart new (value_part known false offset t x) (value_part other false offset t y)
  stored_adds known other offset t p = let d = converted_adds (unqualified t) (value_adds (made p)) in (refl, sym (value_type d), d)

  part_adds : (known other : Known) (offset : ℕ) (t : CType) (x y : Typed) (r : ℕ → ℕ) → AddsTyped new (typed_with r x) y → AddsPart new (part_with r (value_part known false offset t x)) (value_part other false offset t y)
  part_adds known other offset t x y r p = subst (λ part. AddsPart new part (value_part other false offset t y)) (part_with_value r known false offset t x) (stored_adds known other offset t p)

  typed_faults_more : (known other : Known) (t : CType) {x y : Typed} → AddsTyped new x y → value_faults known false t x ≡ [] → value_faults other false t y ≡ []
  typed_faults_more known other t {x} {y} p h =
      ap (λ l. l ++ []) (unless_more bad_assignment (fits (unqualified t) x) (fits (unqualified t) y) (fits_more (unqualified t) p) (left_empty (unless (fits (unqualified t) x) bad_assignment) [] h))

  faults_more : (known other : Known) (t : CType) (x y : Typed) (r : ℕ → ℕ) → AddsTyped new (typed_with r x) y → value_faults known false t x ≡ [] → value_faults other false t y ≡ []
  faults_more known other t x y r p h = typed_faults_more known other t p (faults_with r known false t x ∙ h)

  fill_values : {used : List ℕ} {further : List Bool} (n m : ℕ) (f g : Filling) (runs : List Run) (x y : Typed) {k j : Known}
      → ((r : ℕ → ℕ) → Agrees r further → Fills (AddsFilled new) r f g) → ((r : ℕ → ℕ) → Agrees r further → AddsWith new (in_use as_value) r x y) → IsBeside new used further k j
      → Follows new used further (Fills (AddsFilled new)) (fill_value n false f x k runs k) (fill_value m false g y j runs j)
  fill_values n m f g [] x y q t b = goes_here (λ r a. record { left = (q r a).left; parts = (q r a).parts; surplus = refl }) b
  fill_values {further = further} n m f g (run ∷ rest) x y {k} {j} q t b =
      settled (λ _. gives (filled_by f (value_part k false run.offset run.type x) rest)) (λ _. gives (filled_by g (value_part j false run.offset run.type y) rest)) n m
      (value_faults k false run.type x) (value_faults j false run.type y) (faults_more k j run.type x y (renumbered further) (t (renumbered further) (agrees_so_far further)))
      (goes_here (λ r a. record {
        left = refl;
        parts = filled_both new r f.parts g.parts (value_part k false run.offset run.type x ∷ []) (value_part j false run.offset run.type y ∷ []) (q r a).parts (part_adds k j run.offset run.type x y r (t r a), tt);
        surplus = (q r a).surplus;
      }) b)

  type_there : {further : List Bool} (x y : Typed) → ((r : ℕ → ℕ) → Agrees r further → AddsWith new (in_use as_value) r x y) → own_type y ≡ own_type x
  type_there {further} x y t = type_same (made (t (renumbered further) (agrees_so_far further))) ∙ own_type_with (renumbered further) x

  of_value : {used after : List ℕ} {further : List Bool} {k : Known} {it other : c.Expression} (n m : ℕ) (f g : Filling) → AddsTo new (in_use as_value) used after k it other
      → ((r : ℕ → ℕ) → Agrees r further → Fills (AddsFilled new) r f g) → {j : Known} → IsBeside new used further k j
      → Follows new after further (Fills (AddsFilled new)) (value_initialiser n false f it k) (value_initialiser m false g other j)
  of_value {used} {after} n m f g d q b = bind (of_to d b) (λ x y k j behind e t b.
      subst (λ runs. Follows new after behind (Fills (AddsFilled new)) (fill_value n false f x k (opened k (is_struct_of (struct_of (own_type x))) f.left) k) (fill_value m false g y j runs j))
      (sym (ap (opened j (is_struct_of (struct_of (own_type y)))) (later e q (renumbered behind) (agrees_so_far behind)).left
      ∙ ap (λ u. opened j (is_struct_of (struct_of u)) f.left) (type_there x y t) ∙ opened_same (is_struct_of (struct_of (own_type x))) f.left b))
      (fill_values n m f g (opened k (is_struct_of (struct_of (own_type x))) f.left) x y (later e q) t b))

  -- ---- lists

  behind_adds : {used : List ℕ} {before : List Bool} (f g inner other : Filling) (runs : List Run) {k j : Known} (r : ℕ → ℕ) → Fills (AddsFilled new) r f g → Fills (AddsFilled new) r inner other
      → IsBeside new used before k j → Fills (AddsFilled new) r (behind_list k f inner runs) (behind_list j g other runs)
  behind_adds f g inner other [] r q s b = record { left = q.left; parts = q.parts; surplus = refl }
  behind_adds f g inner other (run ∷ runs) r q s b = record {
    left = same_of (λ (known : Known). behind_first known run ++ runs) b (λ r n os fs ls facts h. refl);
    parts = filled_both new r f.parts g.parts inner.parts other.parts q.parts s.parts;
    surplus = q.surplus;
  }

  -- the end of a list in braces
  list_end : {before' used : List ℕ} {before further : List Bool} (n m : ℕ) (is js : c.Initialisers) (f g inner other : Filling) {k j l o : Known} → begins_with_braces js ≡ begins_with_braces is
      → ((r : ℕ → ℕ) → Agrees r further → Fills (AddsFilled new) r f g) → ((r : ℕ → ℕ) → Agrees r further → Fills (AddsFilled new) r inner other) → IsBeside new before' before k j → IsBeside new used further l o
      → Follows new used further (Fills (AddsFilled new)) (goes_on (settle n (faults_of_list is inner f.left) l) (λ _ l. Goes (behind_list k f inner f.left) l)) (goes_on (settle m (faults_of_list js other g.left) o) (λ _ o. Goes (behind_list j g other g.left) o))
  list_end {used = used} {further = further} n m is js f g inner other {k = k} {j} {l} {o} e q s b there =
      subst (λ left. Follows new used further (Fills (AddsFilled new)) (goes_on (settle n (faults_of_list is inner f.left) l) (λ _ l. Goes (behind_list k f inner f.left) l)) (goes_on (settle m (faults_of_list js other left) o) (λ _ o. Goes (behind_list j g other left) o)))
      (sym (q (renumbered further) (agrees_so_far further)).left)
      (settled (λ _. gives (behind_list k f inner f.left)) (λ _. gives (behind_list j g other f.left)) n m (faults_of_list is inner f.left) (faults_of_list js other f.left)
      (λ h. surplus_same is js inner other f.left e (s (renumbered further) (agrees_so_far further)).surplus ∙ h)
      (goes_here (λ r a. behind_adds f g inner other f.left r (q r a) (s r a) b) there))

  pub for_list : {used : List ℕ} {further : List Bool} (is js : c.Initialisers) (f g : Filling) {k j : Known} → only_text js ≡ only_text is → g.left ≡ f.left → IsBeside new used further k j
      → filling_for j js g.left ≡ filling_for k is f.left
  for_list is js f g {k} {j} e q b = ap (filling_for j js) q ∙ by f.left ∙ for_list_same is f.left b
    where
      by : (runs : List Run) → filling_for j js runs ≡ filling_for j is runs
      by [] = refl
      by (run ∷ runs) = rw e refl

  pub filling_itself : (known : Known) (list : c.Initialisers) (runs : List Run) (r : ℕ → ℕ) → Fills (AddsFilled new) r (filling_for known list runs) (filling_for known list runs)
  filling_itself known list [] r = nothing_filled new r (filling_for known list []) refl
  filling_itself known list (run ∷ runs) r = nothing_filled new r (filling_for known list (run ∷ runs)) refl

  mutual
    pub of_initialiser : {used after : List ℕ} {further : List Bool} {k : Known} {f : Filling} {it other : c.Initialiser} → AddsToInitialiser new used after k f it other → (g : Filling)
        → ((r : ℕ → ℕ) → Agrees r further → Fills (AddsFilled new) r f g) → {j : Known} → IsBeside new used further k j
        → Follows new after further (Fills (AddsFilled new)) (initialiser it false f k) (initialiser other false g j)
    of_initialiser (p.as_it_is {filling = f} {it = it} h) g q b = of_old_initialiser (AddsFilled new) (filled_behind new) it false f g h q b
    of_initialiser {further = further} (p.Value {after = after} {known = k} {filling = f} {it = it} {other = other} h i d) g q {j} b =
        subst (λ text. Follows new after further (Fills (AddsFilled new)) (initialiser_without_braces k.next false f it text (record k { next = k.next + 1 })) (initialiser (c.Value other) false g j)) (sym h)
        (subst (λ text. Follows new after further (Fills (AddsFilled new)) (value_initialiser k.next false f it (record k { next = k.next + 1 })) (initialiser_without_braces j.next false g other text (record j { next = j.next + 1 }))) (sym i)
        (of_value k.next j.next f g d q (entered_beside b)))
    of_initialiser {further = further} (p.Braces {after = after} {known = k} {filling = f} {is = is} {js = js} h i d) g q {j} b =
        let there = entered_beside b in
        bind (subst (λ inner. Follows new after further (Fills (AddsFilled new)) (initialisers is false (filling_for k is f.left) (record k { next = k.next + 1 })) (initialisers js false inner (record j { next = j.next + 1 })))
        (sym (for_list is js f g h (q (renumbered further) (agrees_so_far further)).left there)) (of_them d (filling_for k is f.left) (λ r a. filling_itself k is f.left r) there))
        (λ inner other m n behind e s b. list_end k.next j.next is js f g inner other i (later e q) s there b)

    of_them : {used after : List ℕ} {further : List Bool} {k : Known} {f : Filling} {them others : c.Initialisers} → AddsToInitialisers new used after k f them others → (g : Filling)
        → ((r : ℕ → ℕ) → Agrees r further → Fills (AddsFilled new) r f g) → {j : Known} → IsBeside new used further k j
        → Follows new after further (Fills (AddsFilled new)) (initialisers them false f k) (initialisers others false g j)
    of_them p.no_initialisers g q b = goes_here q b
    of_them (p.an_initialiser d f) g q b = bind_at (of_initialiser d g q b) (λ filled other m n behind i e s b. of_them (f filled m i) other s b)

  -- ---- whole objects

  whole_more : (b : Bool) (known other : Known) (t : CType) (x y : Typed) (r : ℕ → ℕ) → AddsTyped new (typed_with r x) y
      → (if b then bad_initialiser ∷ [] else value_faults known false t x) ≡ [] → (if b then bad_initialiser ∷ [] else value_faults other false t y) ≡ []
  whole_more true known other t x y r p h = h
  whole_more false known other t x y r p h = faults_more known other t x y r p h

  lengths_same : {used : List ℕ} {further : List Bool} (t : CType) {k j : Known} → IsBeside new used further k j → length_faults j t ≡ length_faults k t
  lengths_same t b = same_of (λ (known : Known). length_faults known t) b (λ r n os fs ls facts h. refl)

  of_whole : {used after : List ℕ} {further : List Bool} {k : Known} {it other : c.Expression} (n m : ℕ) (t : CType) → AddsTo new (in_use as_value) used after k it other → {j : Known} → IsBeside new used further k j
      → Follows new after further (AddsStarted new) (whole_value n false t length_faults it k) (whole_value m false t length_faults other j)
  of_whole n m t d b = bind (of_to d b) (λ x y k j behind e q b.
      settled (λ _. gives (started false (value_part k false 0 t x ∷ []) t)) (λ _. gives (started false (value_part j false 0 t y ∷ []) t)) n m
      ((if is_array t then bad_initialiser ∷ [] else value_faults k false t x) ++ length_faults k t) ((if is_array t then bad_initialiser ∷ [] else value_faults j false t y) ++ length_faults j t)
      (λ h. empty_both (if is_array t then bad_initialiser ∷ [] else value_faults j false t y) (length_faults j t)
      (whole_more (is_array t) k j t x y (renumbered behind) (q (renumbered behind) (agrees_so_far behind)) (left_empty (if is_array t then bad_initialiser ∷ [] else value_faults k false t x) (length_faults k t) h))
      (lengths_same t b ∙ right_empty (if is_array t then bad_initialiser ∷ [] else value_faults k false t x) (length_faults k t) h))
      (goes_here (λ r a. record { type = refl; zeroed = refl; parts = (part_adds k j 0 t x y r (q r a), tt) }) b))

  lengths_listed : {used : List ℕ} {further : List Bool} (t : CType) (is js : c.Initialisers) (f g : Filling) {k j : Known} → only_text js ≡ only_text is → g.left ≡ f.left → IsBeside new used further k j
      → listed_length j t js g ≡ listed_length k t is f
  lengths_listed t is js f g {k} {j} e q b =
      ap (λ left. listed_length j t js (record g { left = left })) q ∙ ap listed e ∙ same_of (λ (known : Known). listed_length known t is f) b (λ r n os fs ls facts h. refl)
    where
      listed : Option (List ℕ) → ℕ
      listed text = elim (text) [ None ↦ elements_begun j f.left | Some bytes ↦ (if is_character_array t then suc (length bytes) else elements_begun j f.left) ]

  list_finished : {used : List ℕ} {further : List Bool} (n m : ℕ) (t : CType) (is js : c.Initialisers) (f g : Filling) {k j : Known} → only_text js ≡ only_text is → begins_with_braces js ≡ begins_with_braces is
      → ((r : ℕ → ℕ) → Agrees r further → Fills (AddsFilled new) r f g) → IsBeside new used further k j
      → Follows new used further (AddsStarted new) (end_of_list n t length_faults is f k) (end_of_list m t length_faults js g j)
  list_finished {further = further} n m t is js f g {k} {j} e i q b =
      let now = q (renumbered further) (agrees_so_far further) in
      let lengths = lengths_listed t is js f g e now.left b in
      settled (λ _. gives (started true f.parts (with_length t (listed_length k t is f)))) (λ _. gives (started true g.parts (with_length t (listed_length j t js g)))) n m
      (list_faults t is f ++ length_faults k (with_length t (listed_length k t is f))) (list_faults t js g ++ length_faults j (with_length t (listed_length j t js g)))
      (λ h. ap (λ u. broken_if bad_initialiser (u || (is_scalar t && begins_with_braces js)) ++ length_faults j (with_length t (listed_length j t js g))) now.surplus
      ∙ ap (λ u. broken_if bad_initialiser (f.has_surplus || (is_scalar t && u)) ++ length_faults j (with_length t (listed_length j t js g))) i
      ∙ ap (λ u. list_faults t is f ++ length_faults j (with_length t u)) lengths
      ∙ ap (λ l. list_faults t is f ++ l) (lengths_same (with_length t (listed_length k t is f)) b) ∙ h)
      (goes_here (λ r a. record { type = ap (with_length t) lengths; zeroed = refl; parts = (q r a).parts }) b)

  pub for_object : {used : List ℕ} {further : List Bool} (t : CType) (is js : c.Initialisers) {k j : Known} → only_text js ≡ only_text is → IsBeside new used further k j → filling_of j 0 t js ≡ filling_of k 0 t is
  for_object t is js {k} {j} e b = rw e (same_of (λ (known : Known). filling_of known 0 t is) b (λ r n os fs ls facts h. refl))

  pub of_object : {used after : List ℕ} {further : List Bool} {k : Known} {t : CType} {it other : c.Initialiser} → AddsToObject new used after k t it other → {j : Known} → IsBeside new used further k j
      → Follows new after further (AddsStarted new) (object_initialiser false t length_faults it k) (object_initialiser false t length_faults other j)
  of_object {further = further} (p.Value {after = after} {known = k} {t = t} {it = it} {other = other} h i d) {j} b =
      subst (λ text. Follows new after further (AddsStarted new) (whole_without_braces k.next false t length_faults it text (record k { next = k.next + 1 })) (object_initialiser false t length_faults (c.Value other) j)) (sym h)
      (subst (λ text. Follows new after further (AddsStarted new) (whole_value k.next false t length_faults it (record k { next = k.next + 1 })) (whole_without_braces j.next false t length_faults other text (record j { next = j.next + 1 }))) (sym i)
      (of_whole k.next j.next t d (entered_beside b)))
  of_object {further = further} (p.Braces {after = after} {known = k} {t = t} {is = is} {js = js} h i d) {j} b =
      let there = entered_beside b in
      bind (subst (λ inner. Follows new after further (Fills (AddsFilled new)) (initialisers is false (filling_of k 0 t is) (record k { next = k.next + 1 })) (initialisers js false inner (record j { next = j.next + 1 })))
      (sym (for_object t is js h there)) (of_them d (filling_of k 0 t is) (λ r a. nothing_filled new r (filling_of k 0 t is) refl) there))
      (λ inner other m n behind e s b. list_finished k.next j.next t is js inner other h i s b)
