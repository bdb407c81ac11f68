-- Initialisers in which no mark is added fill the same, but for the numbers of objects.
use Rattle.std.proofs.Common.{◌≡◌, ℕ, ◌+◌, List, [], ◌∷◌, Option, Some, None, Bool, true, false, refl, sym, ap, ◌∙◌, subst}
use Rattle.std.specs.Prelude.{◌++◌, ◌||◌, ◌&&◌, if◌then◌else◌}
use Rattle.lt_tree.specs.Tree as c
use Rattle.lt_tree.specs.Nodes.{in_expression, in_initialiser, in_initialisers}
use Rattle.lt_tree.specs.Typing.Types.{CType, struct_of, is_scalar}
use Rattle.lt_tree.specs.Typing.Rules.{broken_if, bad_length, bad_initialiser}
use Rattle.lt_tree.specs.Typing.TypedTree.{StartPart}
use Rattle.lt_tree.specs.Typing.Entities.{Known}
use Rattle.lt_tree.specs.Typing.Steps.{Goes, goes_on, settle, gives, ◌>>◌}
use Rattle.lt_tree.specs.Typing.Constants.{varying}
use Rattle.lt_tree.specs.Typing.Extents.{has_too_many_cells}
use Rattle.lt_tree.specs.Typing.Expressions.{Typed, as_value, own_type}
use Rattle.lt_tree.specs.Typing.Operations.{text_type}
use Rattle.lt_tree.specs.Typing.Filling.{Run, Filling, behind_first, opened, first_in_struct, is_character_array, is_struct_of, is_too_long_for, letters_of, value_faults, value_part, text_in, begins_with_braces}
use Rattle.lt_tree.specs.Typing.InitialiserTyping.{literal_alone, filled_by, fill_value, value_initialiser, fill_text, initialiser_without_braces, filling_for, faults_of_list, behind_list, initialiser, initialisers}
use Rattle.lt_object_laws.specs.Renamed.{renumbered, part_with, parts_with}
use Rattle.lt_mark_typing.specs.Further.{Agrees}
use Rattle.lt_mark_typing.specs.Beside.{IsBeside, Follows}
use Rattle.lt_mark_typing.specs.Placed.{AreOld}
use Rattle.lt_mark_typing.proofs.Numbers.{agrees_so_far, later}
use Rattle.lt_mark_typing.proofs.Going.{same_of, bind, goes_here, entered_beside}
use Rattle.lt_mark_typing.proofs.Renumbering.{own_type_with}
use Rattle.lt_mark_typing.proofs.Ends.{structs_same, noted_beside}
use Rattle.lt_mark_typing.proofs.Nodes.{old_first, old_second}
use Rattle.lt_mark_typing.proofs.Steps.{Same, SameWith, bind_same, judged_same}
use Rattle.lt_mark_typing.proofs.Unchanged.{of_expression}
use Rattle.lt_mark_typing.proofs.Filled.{Fills, SameParts, parts_behind, faults_with, part_with_value}

-- what is filled, where the same is filled behind
abbrev pub IsFilledBehind : ((ℕ → ℕ) → List StartPart → List StartPart → Type 0) → Type 0
IsFilledBehind related = (r : ℕ → ℕ) (xs ys us : List StartPart) → related r xs ys → related r (xs ++ us) (ys ++ parts_with r us)

filling_itself : (known : Known) (list : c.Initialisers) (runs : List Run) (r : ℕ → ℕ) → Fills SameParts r (filling_for known list runs) (filling_for known list runs)
filling_itself known list [] r = record { left = refl; parts = refl; surplus = refl }
filling_itself known list (run ∷ runs) r = record { left = refl; parts = refl; surplus = refl }

pub surplus_same : (is js : c.Initialisers) (inner other : Filling) (runs : List Run) → begins_with_braces js ≡ begins_with_braces is → other.has_surplus ≡ inner.has_surplus
    → faults_of_list js other runs ≡ faults_of_list is inner runs
surplus_same is js inner other [] e s = refl
surplus_same is js inner other (run ∷ runs) e s =
    ap (λ t. broken_if bad_initialiser (t || (is_scalar run.type && begins_with_braces js))) s ∙ ap (λ t. broken_if bad_initialiser (inner.has_surplus || (is_scalar run.type && t))) e

module _ {new : ℕ → Bool} {used : List ℕ} where
  -- ---- values

  pub letters_alone : (bytes : List ℕ) {further : List Bool} {k j : Known} → IsBeside new used further k j → Follows new used further (Same {A = Unit {0}}) (literal_alone bytes k) (literal_alone bytes j)
  letters_alone bytes {k = k} {j = j} b =
      let there = entered_beside b in
      bind_same (judged_same k.next j.next (broken_if bad_length (has_too_many_cells k.structs (text_type bytes))) (broken_if bad_length (has_too_many_cells j.structs (text_type bytes)))
      (ap (λ structs. broken_if bad_length (has_too_many_cells structs (text_type bytes))) (structs_same there)) there)
      (λ u m n behind e b. goes_here (λ r a. refl)
      (noted_beside (record { node = k.next; type = text_type bytes; is_place = true; constancy = varying; object = None }) (record { node = j.next; type = text_type bytes; is_place = true; constancy = varying; object = None }) b))

  pub opened_same : (whole : CType → Bool) (runs : List Run) {further : List Bool} {k j : Known} → IsBeside new used further k j → opened j whole runs ≡ opened k whole runs
  unfolding first_in_struct
  opened_same whole runs b = same_of (λ (known : Known). opened known whole runs) b (λ r n os fs ls facts h. refl)

  pub value_faults_same : (is_static : Bool) (t : CType) (x y : Typed) {further : List Bool} {k j : Known} → ((r : ℕ → ℕ) → Agrees r further → SameWith r x y) → IsBeside new used further k j
      → value_faults j is_static t y ≡ value_faults k is_static t x
  value_faults_same is_static t x y {further = further} {j = j} s b =
      ap (value_faults j is_static t) (s (renumbered further) (agrees_so_far further)) ∙ faults_with (renumbered further) j is_static t x
      ∙ same_of (λ (known : Known). value_faults known is_static t x) b (λ r n os fs ls facts h. refl)

  pub value_part_same : (is_static : Bool) (offset : ℕ) (t : CType) (x y : Typed) {further : List Bool} {k j : Known} (r : ℕ → ℕ) → SameWith r x y → IsBeside new used further k j
      → value_part j is_static offset t y ≡ part_with r (value_part k is_static offset t x)
  value_part_same is_static offset t x y {j = j} r s b =
      ap (value_part j is_static offset t) s ∙ part_with_value r j is_static offset t x ∙ ap (part_with r) (same_of (λ (known : Known). value_part known is_static offset t x) b (λ r n os fs ls facts h. refl))

  module _ (related : (ℕ → ℕ) → List StartPart → List StartPart → Type 0) (more : IsFilledBehind related) where
    filled : (n m : ℕ) (is_static : Bool) (f g : Filling) (x y : Typed) (runs : List Run) {further : List Bool} {k j : Known}
        → ((r : ℕ → ℕ) → Agrees r further → Fills related r f g) → ((r : ℕ → ℕ) → Agrees r further → SameWith r x y) → IsBeside new used further k j
        → Follows new used further (Fills related) (fill_value n is_static f x k runs k) (fill_value m is_static g y j runs j)
    filled n m is_static f g x y [] q s b = goes_here (λ r a. record { left = (q r a).left; parts = (q r a).parts; surplus = refl }) b
    filled n m is_static f g x y (run ∷ rest) {k = k} {j = j} q s b =
        bind_same (judged_same n m (value_faults k is_static run.type x) (value_faults j is_static run.type y) (value_faults_same is_static run.type x y s b) b)
        (λ u k' j' behind e b'. goes_here (later e (λ r a. record {
          left = refl;
          parts = subst (λ part. related r (f.parts ++ value_part k is_static run.offset run.type x ∷ []) (g.parts ++ part ∷ [])) (sym (value_part_same is_static run.offset run.type x y r (s r a) b))
              (more r f.parts g.parts (value_part k is_static run.offset run.type x ∷ []) (q r a).parts);
          surplus = (q r a).surplus;
        })) b')

    value_filled : (n m : ℕ) (is_static : Bool) (f g : Filling) (it : c.Expression) {further : List Bool} {k j : Known}
        → AreOld new (in_expression it) → ((r : ℕ → ℕ) → Agrees r further → Fills related r f g) → IsBeside new used further k j
        → Follows new used further (Fills related) (value_initialiser n is_static f it k) (value_initialiser m is_static g it j)
    value_filled n m is_static f g it h q b = bind (of_expression it as_value h b) (λ x y k j behind e s b.
        subst (λ runs. Follows new used behind (Fills related) (fill_value n is_static f x k (opened k (is_struct_of (struct_of (own_type x))) f.left) k) (fill_value m is_static g y j runs j))
        (sym (ap (opened j (is_struct_of (struct_of (own_type y)))) (later e q (renumbered behind) (agrees_so_far behind)).left
        ∙ ap (λ t. opened j (is_struct_of (struct_of t)) f.left) (ap own_type (s (renumbered behind) (agrees_so_far behind)) ∙ own_type_with (renumbered behind) x)
        ∙ opened_same (is_struct_of (struct_of (own_type x))) f.left b))
        (filled n m is_static f g x y (opened k (is_struct_of (struct_of (own_type x))) f.left) (later e q) s b))

    text_by : (is_letters : Bool) (n m : ℕ) (is_static : Bool) (f g : Filling) (it : c.Expression) (bytes : List ℕ) (run : Run) (rest : List Run) {further : List Bool} {k j : Known}
        → AreOld new (in_expression it) → ((r : ℕ → ℕ) → Agrees r further → Fills related r f g) → IsBeside new used further k j
        → Follows new used further (Fills related)
        ((if is_letters then (literal_alone bytes >> (settle n (broken_if bad_initialiser (is_too_long_for run.type bytes)) >> gives (filled_by f (letters_of run.offset run.type bytes) rest))) else value_initialiser n is_static f it) k)
        ((if is_letters then (literal_alone bytes >> (settle m (broken_if bad_initialiser (is_too_long_for run.type bytes)) >> gives (filled_by g (letters_of run.offset run.type bytes) rest))) else value_initialiser m is_static g it) j)
    text_by true n m is_static f g it bytes run rest h q b =
        bind_same (letters_alone bytes b) (λ u k j behind e b.
        bind_same (judged_same n m (broken_if bad_initialiser (is_too_long_for run.type bytes)) (broken_if bad_initialiser (is_too_long_for run.type bytes)) refl b)
        (λ u k j last e' b. goes_here (later e' (later e (λ r a. record {
          left = refl;
          parts = more r f.parts g.parts (letters_of run.offset run.type bytes ∷ []) (q r a).parts;
          surplus = (q r a).surplus;
        }))) b))
    text_by false n m is_static f g it bytes run rest h q b = value_filled n m is_static f g it h q b

    text_filled : (n m : ℕ) (is_static : Bool) (f g : Filling) (it : c.Expression) (bytes : List ℕ) (runs : List Run) {further : List Bool} {k j : Known}
        → AreOld new (in_expression it) → ((r : ℕ → ℕ) → Agrees r further → Fills related r f g) → IsBeside new used further k j
        → Follows new used further (Fills related) (fill_text n is_static f it bytes runs k) (fill_text m is_static g it bytes runs j)
    text_filled n m is_static f g it bytes [] h q b = value_filled n m is_static f g it h q b
    text_filled n m is_static f g it bytes (run ∷ rest) h q b = text_by (is_character_array run.type) n m is_static f g it bytes run rest h q b

    unbraced : (n m : ℕ) (is_static : Bool) (f g : Filling) (it : c.Expression) (text : Option (List ℕ)) {further : List Bool} {k j : Known}
        → AreOld new (in_expression it) → ((r : ℕ → ℕ) → Agrees r further → Fills related r f g) → IsBeside new used further k j
        → Follows new used further (Fills related) (initialiser_without_braces n is_static f it text k) (initialiser_without_braces m is_static g it text j)
    unbraced n m is_static f g it None h q b = value_filled n m is_static f g it h q b
    unbraced n m is_static f g it (Some bytes) {further} {k} {j} h q b =
        subst (λ runs. Follows new used further (Fills related) (fill_text n is_static f it bytes (opened k is_character_array f.left) k) (fill_text m is_static g it bytes runs j))
        (sym (ap (opened j is_character_array) (q (renumbered further) (agrees_so_far further)).left ∙ opened_same is_character_array f.left b))
        (text_filled n m is_static f g it bytes (opened k is_character_array f.left) h q b)

  -- ---- lists in braces

  pub for_list_same : (list : c.Initialisers) (runs : List Run) {further : List Bool} {k j : Known} → IsBeside new used further k j → filling_for j list runs ≡ filling_for k list runs
  for_list_same list runs b = same_of (λ (known : Known). filling_for known list runs) b (λ r n os fs ls facts h. refl)

  behind_filled : (related : (ℕ → ℕ) → List StartPart → List StartPart → Type 0) → IsFilledBehind related → (f g inner other : Filling) (runs : List Run) (r : ℕ → ℕ) {further : List Bool} {k j : Known}
      → Fills related r f g → Fills SameParts r inner other → IsBeside new used further k j → Fills related r (behind_list k f inner runs) (behind_list j g other runs)
  behind_filled related more f g inner other [] r q s b = record { left = q.left; parts = q.parts; surplus = refl }
  behind_filled related more f g inner other (run ∷ runs) r q s b = record {
    left = same_of (λ (known : Known). behind_first known run ++ runs) b (λ r n os fs ls facts h. refl);
    parts = subst (λ parts. related r (f.parts ++ inner.parts) (g.parts ++ parts)) (sym s.parts) (more r f.parts g.parts inner.parts q.parts);
    surplus = q.surplus;
  }

  list_filled : (related : (ℕ → ℕ) → List StartPart → List StartPart → Type 0) → IsFilledBehind related → (n m : ℕ) (list : c.Initialisers) (f g inner other : Filling) {before further : List Bool} {k j l o : Known}
      → ((r : ℕ → ℕ) → Agrees r further → Fills related r f g) → ((r : ℕ → ℕ) → Agrees r further → Fills SameParts r inner other) → IsBeside new used before k j → IsBeside new used further l o
      → Follows new used further (Fills related) (goes_on (settle n (faults_of_list list inner f.left) l) (λ _ l. Goes (behind_list k f inner f.left) l)) (goes_on (settle m (faults_of_list list other g.left) o) (λ _ o. Goes (behind_list j g other g.left) o))
  list_filled related more n m list f g inner other {further = further} {k = k} {j} {l} {o} q s b there =
      subst (λ left. Follows new used further (Fills related) (goes_on (settle n (faults_of_list list inner f.left) l) (λ _ l. Goes (behind_list k f inner f.left) l)) (goes_on (settle m (faults_of_list list other left) o) (λ _ o. Goes (behind_list j g other left) o)))
      (sym (q (renumbered further) (agrees_so_far further)).left)
      (bind_same (judged_same n m (faults_of_list list inner f.left) (faults_of_list list other f.left) (surplus_same list list inner other f.left refl (s (renumbered further) (agrees_so_far further)).surplus) there)
      (λ u l o behind e there. goes_here (later e (λ r a. behind_filled related more f g inner other f.left r (q r a) (s r a) b)) there))

  mutual
    pub of_initialiser : (related : (ℕ → ℕ) → List StartPart → List StartPart → Type 0) → IsFilledBehind related → (it : c.Initialiser) (is_static : Bool) (f g : Filling) {further : List Bool} {k j : Known}
        → AreOld new (in_initialiser it) → ((r : ℕ → ℕ) → Agrees r further → Fills related r f g) → IsBeside new used further k j
        → Follows new used further (Fills related) (initialiser it is_static f k) (initialiser it is_static g j)
    of_initialiser related more (c.Value it) is_static f g {k = k} {j = j} h q b = unbraced related more k.next j.next is_static f g it (text_in it) h.1 q (entered_beside b)
    of_initialiser related more (c.Braces list) is_static f g {further} {k} {j} h q b =
        let there = entered_beside b in
        bind (subst (λ inner. Follows new used further (Fills SameParts) (initialisers list is_static (filling_for k list f.left) (record k { next = k.next + 1 })) (initialisers list is_static inner (record j { next = j.next + 1 })))
        (sym (ap (filling_for j list) (q (renumbered further) (agrees_so_far further)).left ∙ for_list_same list f.left there))
        (of_initialisers SameParts parts_behind list is_static (filling_for k list f.left) (filling_for k list f.left) h.1 (λ r a. filling_itself k list f.left r) there))
        (λ inner other m n behind e s b'. list_filled related more k.next j.next list f g inner other (later e q) s there b')

    pub of_initialisers : (related : (ℕ → ℕ) → List StartPart → List StartPart → Type 0) → IsFilledBehind related → (them : c.Initialisers) (is_static : Bool) (f g : Filling) {further : List Bool} {k j : Known}
        → AreOld new (in_initialisers them) → ((r : ℕ → ℕ) → Agrees r further → Fills related r f g) → IsBeside new used further k j
        → Follows new used further (Fills related) (initialisers them is_static f k) (initialisers them is_static g j)
    of_initialisers related more c.no_initialisers is_static f g h q b = goes_here q b
    of_initialisers related more (c.an_initialiser first rest) is_static f g h q b =
        bind (of_initialiser related more first is_static f g (old_first new (in_initialiser first) (in_initialisers rest) h) q b)
        (λ next other m n behind e s b. of_initialisers related more rest is_static next other (old_second new (in_initialiser first) (in_initialisers rest) h) s b)
