-- Labels at the starts of bodies leave the nodes that are there without marks, in their order.
use Rattle.std.proofs.Common.{◌≡◌, ℕ, ◌+◌, ◌-◌, max, eqb, Bool, true, false, List, [], ◌∷◌, ◌++◌, length, map, Option, Some, None, refl, sym, ap, ◌∙◌, subst, append_assoc, arith}
use Rattle.std.specs.Prelude.{if◌then◌else◌, ◌&&◌, slice_get}
use Rattle.std.specs.List.{flat_map}
use Rattle.std.proofs.lemmas.Bool.{eqb-true}
use Rattle.lt_tree.specs.Tree as c
use Rattle.lt_tree.specs.Nodes.{Node, an_external, a_marked_item, an_expression, a_mark, in_mark, in_specifiers, in_declarator, in_declaration, in_items, in_external, nodes}
use Rattle.lt_objectives.specs.Places.{Site, stays_without_marks, unmarked_numbers, corresponding}
use Rattle.lt_objectives.specs.Objectives.{at_start}
use Rattle.lt_objectives.specs.Marked.{NewMark, labels, items_with_marks, labels_before, after_leading, external_with_marks, externals_with_marks}
use Rattle.lt_sites.specs.Sites.{part_of}
use Rattle.lt_facts.specs.Outside.{mark_size, outside_from, places_from}
use Rattle.lt_facts.proofs.OutsideMarks.{places_unit}
use Rattle.lt_marked_texts.proofs.Rounds.{Continue, first_of, rest_of}
use Rattle.lt_marked_texts.proofs.Spans.{Ends, both_end, inside_after, none_inside, mark_ends, specifiers_end, declarator_ends, declaration_ends, items_end, none}
use Rattle.lt_marked_texts.proofs.Unchanged.{OnlyAtStarts, items, declaration}

-- ---- nodes outside of marks

-- with their numbers, where so many of them are in a mark before
abbrev outside : ℕ → ℕ → List Node → List Site
outside inside k [] = []
outside inside k (x ∷ xs) =
    if eqb (max (mark_size (part_of x)) inside) 0 && stays_without_marks x
    then record { number = k; node = x } ∷ outside (max (mark_size (part_of x)) inside - 1) (k + 1) xs
    else outside (max (mark_size (part_of x)) inside - 1) (k + 1) xs

abbrev numbers : List Site → List ℕ
numbers sites = map (λ site. site.number) sites

one_number : (b : Bool) (k : ℕ) (x : Node) (flags : List Bool) (more : List Site) → places_from (k + 1) flags ≡ numbers more
    → places_from k (b ∷ flags) ≡ numbers (if b then record { number = k; node = x } ∷ more else more)
one_number true k x flags more e = ap (λ ns. k ∷ ns) e
one_number false k x flags more e = e

same_numbers : (inside k : ℕ) (xs : List Node) → places_from k (outside_from inside (map part_of xs)) ≡ numbers (outside inside k xs)
same_numbers inside k [] = refl
same_numbers inside k (x ∷ xs) =
    one_number (eqb (max (mark_size (part_of x)) inside) 0 && stays_without_marks x) k x (outside_from (max (mark_size (part_of x)) inside - 1) (map part_of xs))
    (outside (max (mark_size (part_of x)) inside - 1) (k + 1) xs) (same_numbers (max (mark_size (part_of x)) inside - 1) (k + 1) xs)

unmarked_are : (unit : c.Unit) → unmarked_numbers unit ≡ numbers (outside 0 0 (nodes unit))
unmarked_are unit = sym (places_unit unit) ∙ same_numbers 0 0 (nodes unit)

abbrev AllAt : List Node → List Site → Type 0
AllAt whole [] = Unit {0}
AllAt whole (site ∷ rest) = (slice_get whole site.number ≡ Some site.node) × AllAt whole rest

one_at : (whole : List Node) (b : Bool) (k : ℕ) (x : Node) (more : List Site) → slice_get whole k ≡ Some x → AllAt whole more → AllAt whole (if b then record { number = k; node = x } ∷ more else more)
one_at whole true k x more e all = (e, all)
one_at whole false k x more e all = all

all_at : (whole : List Node) (inside k : ℕ) (xs : List Node) → Continue whole k xs → AllAt whole (outside inside k xs)
all_at whole inside k [] on = tt
all_at whole inside k (x ∷ xs) on =
    one_at whole (eqb (max (mark_size (part_of x)) inside) 0 && stays_without_marks x) k x (outside (max (mark_size (part_of x)) inside - 1) (k + 1) xs) (first_of whole k x xs on)
    (all_at whole (max (mark_size (part_of x)) inside - 1) (k + 1) xs (rest_of whole k x xs on))

-- ---- alike

-- of a function's definition, what stands before its body
abbrev pub head : Node → Option (c.Specifiers × c.Declarator)
head (an_external (c.Defines s d body)) = Some (s, d)
head _ = None

abbrev Alike : List Site → List Site → Type 0
Alike [] [] = Unit {0}
Alike (x ∷ xs) (y ∷ ys) = (head x.node ≡ head y.node) × Alike xs ys
Alike _ _ = ⊥

-- nodes that correspond
pub record Pair (whole others : List Node) (k n : ℕ) : Type 0 where
  pub first : Node
  pub second : Node
  pub at_first : slice_get whole k ≡ Some first
  pub at_second : slice_get others n ≡ Some second
  pub alike : head first ≡ head second

same_some : (m n : ℕ) → Some m ≡ Some n → m ≡ n
same_some m n e = cc

pair_by : (whole others : List Node) (k n : ℕ) (p q : Site) (ps qs : List Site) (b : Bool) → eqb p.number k ≡ b → slice_get whole p.number ≡ Some p.node → slice_get others q.number ≡ Some q.node → head p.node ≡ head q.node
    → (corresponding k (numbers ps) (numbers qs) ≡ Some n → Pair whole others k n) → (if b then Some q.number else corresponding k (numbers ps) (numbers qs)) ≡ Some n → Pair whole others k n
pair_by whole others k n p q ps qs true is a b same more h =
    let here : p.number ≡ k = eqb-true p.number k is in
    let there : q.number ≡ n = same_some q.number n h in
    record {
      first = p.node;
      second = q.node;
      at_first = ap (slice_get whole) (sym here) ∙ a;
      at_second = ap (slice_get others) (sym there) ∙ b;
      alike = same;
    }
pair_by whole others k n p q ps qs false is a b same more h = more h

pair_of : (whole others : List Node) (k n : ℕ) (ps qs : List Site) → Alike ps qs → AllAt whole ps → AllAt others qs → corresponding k (numbers ps) (numbers qs) ≡ Some n → Pair whole others k n
pair_of whole others k n [] qs same a b h = absurd cc
pair_of whole others k n (p ∷ ps) [] same a b h = absurd cc
pair_of whole others k n (p ∷ ps) (q ∷ qs) same a b h = pair_by whole others k n p q ps qs (eqb p.number k) refl a.0 b.0 same.0 (λ e. pair_of whole others k n ps qs same.1 a.1 b.1 e) h

-- ---- more labels

-- Of these two lists of nodes the first has labels of constants in addition, and bodies with them; so many of the nodes are in a mark before.
data Grows : ℕ → List Node → List Node → Type 0 where
  ends : {inside : ℕ} → Grows inside [] []
  keeps : {inside : ℕ} (x : Node) {xs ys : List Node} → Grows (max (mark_size (part_of x)) inside - 1) xs ys → Grows inside (x ∷ xs) (x ∷ ys)
  alters : {inside : ℕ} (s : c.Specifiers) (d : c.Declarator) (body other : c.Items) {xs ys : List Node} → Grows (max 0 inside - 1) xs ys
      → Grows inside (an_external (c.Defines s d body) ∷ xs) (an_external (c.Defines s d other) ∷ ys)
  inserts : (w id tag : List ℕ) {xs ys : List Node} → Grows 0 xs ys
      → Grows 0 (a_marked_item (c.mark (c.Constant w) id tag c.no_bindings) ∷ a_mark (c.mark (c.Constant w) id tag c.no_bindings) ∷ an_expression (c.Constant w) ∷ xs) ys

one_alike : (b : Bool) (x y : Site) (xs ys : List Site) → head x.node ≡ head y.node → Alike xs ys → Alike (if b then x ∷ xs else xs) (if b then y ∷ ys else ys)
one_alike true x y xs ys e all = (e, all)
one_alike false x y xs ys e all = all

grown_alike : {inside : ℕ} {xs ys : List Node} → Grows inside xs ys → (i j : ℕ) → Alike (outside inside i xs) (outside inside j ys)
grown_alike ends i j = tt
grown_alike {inside} (keeps x {xs} {ys} g) i j =
    one_alike (eqb (max (mark_size (part_of x)) inside) 0 && stays_without_marks x) (record { number = i; node = x }) (record { number = j; node = x }) (outside (max (mark_size (part_of x)) inside - 1) (i + 1) xs)
    (outside (max (mark_size (part_of x)) inside - 1) (j + 1) ys) refl (grown_alike g (i + 1) (j + 1))
grown_alike {inside} (alters s d body other {xs} {ys} g) i j =
    one_alike (eqb (max 0 inside) 0 && true) (record { number = i; node = an_external (c.Defines s d body) }) (record { number = j; node = an_external (c.Defines s d other) }) (outside (max 0 inside - 1) (i + 1) xs)
    (outside (max 0 inside - 1) (j + 1) ys) refl (grown_alike g (i + 1) (j + 1))
grown_alike (inserts w id tag g) i j = grown_alike g (i + 1 + 1 + 1) j

over : (front : List Node) {inside : ℕ} {xs ys : List Node} → Grows (inside_after inside front) xs ys → Grows inside (front ++ xs) (front ++ ys)
over [] g = g
over (x ∷ front) g = keeps x (over front g)

over_whole : (front : List Node) {xs ys : List Node} → Ends front → Grows 0 xs ys → Grows 0 (front ++ xs) (front ++ ys)
over_whole front {xs} {ys} whole g = over front (subst (λ (n : ℕ). Grows n xs ys) (sym (none_inside front whole)) g)

regroup : (front more less xs ys : List Node) → Grows 0 (front ++ (more ++ xs)) (front ++ (less ++ ys)) → Grows 0 ((front ++ more) ++ xs) ((front ++ less) ++ ys)
regroup front more less xs ys g =
    subst (λ (v : List Node). Grows 0 v ((front ++ less) ++ ys)) (sym (append_assoc front more xs)) (subst (λ (v : List Node). Grows 0 (front ++ (more ++ xs)) v) (sym (append_assoc front less ys)) g)

-- labels whose predicates are constants
pub data Plain : c.Marks → Type 0 where
  no_more : Plain c.no_marks
  one_more : (w id tag : List ℕ) {ms : c.Marks} → Plain ms → Plain (c.a_mark (c.mark (c.Constant w) id tag c.no_bindings) ms)

before_grows : {ms : c.Marks} → Plain ms → (body : c.Items) (xs ys : List Node) → Grows 0 (in_items body ++ xs) ys → Grows 0 (in_items (labels_before ms body) ++ xs) ys
before_grows no_more body xs ys g = g
before_grows (one_more w id tag p) body xs ys g = inserts w id tag (before_grows p body xs ys g)

leading_grows : {ms : c.Marks} → Plain ms → (body : c.Items) (xs ys : List Node) → Grows 0 xs ys → Grows 0 (in_items (after_leading ms body) ++ xs) (in_items body ++ ys)
leading_grows p c.no_items xs ys g = before_grows p c.no_items xs ys g
leading_grows p (c.a_declaration d rest) xs ys g = before_grows p (c.a_declaration d rest) xs (in_items (c.a_declaration d rest) ++ ys) (over_whole (in_items (c.a_declaration d rest)) (items_end (c.a_declaration d rest)) g)
leading_grows p (c.a_statement x rest) xs ys g = before_grows p (c.a_statement x rest) xs (in_items (c.a_statement x rest) ++ ys) (over_whole (in_items (c.a_statement x rest)) (items_end (c.a_statement x rest)) g)
leading_grows {ms} p (c.a_label m rest) xs ys g =
    keeps (a_marked_item m) (regroup (in_mark m) (in_items (after_leading ms rest)) (in_items rest) xs ys (over_whole (in_mark m) (mark_ends m) (leading_grows p rest xs ys g)))

module _ (new : List NewMark) (only : OnlyAtStarts new) (plain : (k : ℕ) → Plain (labels at_start new k)) where
  external_grows : (k : ℕ) (x : c.External) (xs ys : List Node) → Grows 0 xs ys → Grows 0 (in_external (external_with_marks new k x) ++ xs) (in_external x ++ ys)
  external_grows k (c.Defines s d body) xs ys g =
      let j = k + 1 + length (in_specifiers s) + length (in_declarator d) in
      let front = in_specifiers s ++ in_declarator d in
      let heads : Ends front = both_end (in_specifiers s) (in_declarator d) (specifiers_end s) (declarator_ends d) in
      alters s d (after_leading (labels at_start new k) (items_with_marks new j body)) body
      (subst (λ (same : c.Items). Grows 0 (front ++ in_items (after_leading (labels at_start new k) same) ++ xs) (front ++ in_items body ++ ys)) (sym (items new only j body))
      (regroup front (in_items (after_leading (labels at_start new k) body)) (in_items body) xs ys (over_whole front heads (leading_grows (plain k) body xs ys g))))
  external_grows k (c.Declared d) xs ys g =
      subst (λ (same : c.Declaration). Grows 0 (in_external (c.Declared same) ++ xs) (in_external (c.Declared d) ++ ys)) (sym (declaration new only (k + 1) d))
      (over_whole (in_external (c.Declared d)) (none (length (in_declaration d)), declaration_ends d) g)

  externals_grow : (k : ℕ) (unit : c.Unit) → Grows 0 (flat_map in_external (externals_with_marks new k unit)) (flat_map in_external unit)
  externals_grow k [] = ends
  externals_grow k (x ∷ unit) =
      external_grows k x (flat_map in_external (externals_with_marks new (k + length (in_external x)) unit)) (flat_map in_external unit) (externals_grow (k + length (in_external x)) unit)

-- a unit and itself
self_grows : (xs : List Node) {inside : ℕ} → Grows inside xs xs
self_grows [] = ends
self_grows (x ∷ xs) = keeps x (self_grows xs)

pairs_of : (unit other : c.Unit) (k n : ℕ) → Grows 0 (nodes unit) (nodes other) → corresponding k (unmarked_numbers unit) (unmarked_numbers other) ≡ Some n → Pair (nodes unit) (nodes other) k n
pairs_of unit other k n g h =
    pair_of (nodes unit) (nodes other) k n (outside 0 0 (nodes unit)) (outside 0 0 (nodes other)) (grown_alike g 0 0) (all_at (nodes unit) 0 0 (nodes unit) (from_start (nodes unit)))
    (all_at (nodes other) 0 0 (nodes other) (from_start (nodes other)))
    (ap (λ ns. corresponding k ns (numbers (outside 0 0 (nodes other)))) (sym (unmarked_are unit)) ∙ ap (corresponding k (unmarked_numbers unit)) (sym (unmarked_are other)) ∙ h)
  where
    from_start : (whole : List Node) → Continue whole 0 whole
    from_start whole = λ j. (let e : j ≡ 0 + j = omega arith in ap (slice_get whole) e)

pub own_pair : (unit : c.Unit) (k n : ℕ) → corresponding k (unmarked_numbers unit) (unmarked_numbers unit) ≡ Some n → Pair (nodes unit) (nodes unit) k n
own_pair unit k n h = pairs_of unit unit k n (self_grows (nodes unit)) h

pub labelled_pair : (new : List NewMark) → OnlyAtStarts new → ((k : ℕ) → Plain (labels at_start new k)) → (unit : c.Unit) (k n : ℕ)
    → corresponding k (unmarked_numbers (externals_with_marks new 0 unit)) (unmarked_numbers unit) ≡ Some n → Pair (nodes (externals_with_marks new 0 unit)) (nodes unit) k n
labelled_pair new only plain unit k n h = pairs_of (externals_with_marks new 0 unit) unit k n (externals_grow new only plain 0 unit) h
