-- The functions of a unit and of the unit with marks added stand at nodes that correspond.
use Rattle.std.proofs.Common.{◌≡◌, refl, sym, ap, ◌∙◌, subst, ℕ, zero, suc, ◌+◌, ◌-◌, ◌<◌, max, ◌≤◌, Bool, true, false, if◌then◌else◌, List, [], ◌∷◌, ◌++◌, length, map, arith}
use Rattle.std.proofs.lemmas.Bool.{ne_eqb, eq-eqb}
use Rattle.std.proofs.lemmas.List.{map-append}
use Rattle.std.specs.Prelude.{◌==◌}
use Rattle.std.specs.List.{AllByRecursion, flat_map}
use Rattle.lt_tree.specs.Tree as c
use Rattle.lt_tree.specs.Nodes.{Node, an_external, in_specifiers, in_declarator, in_items, in_external, nodes}
use Rattle.lt_tree.specs.Typing.Entities.{Function}
use Rattle.lt_sites.specs.Sites.{part_of}
use Rattle.lt_facts.specs.Outside.{mark_size, outside_from, places_from}
use Rattle.lt_tree.specs.Typing.Programs.{Program}
use Rattle.lt_objectives.specs.Objectives.{parameters_among, domains_of_object}
use Rattle.lt_mark_laws.specs.Added.{AddsFunctions}
use Rattle.lt_object_laws.specs.Renamed.{function_with}
use Rattle.lt_kept_facts.specs.Asked.{kept}
use Rattle.lt_kept_facts.proofs.MarksEnd.{Ends}
use Rattle.lt_kept_facts.proofs.SeenNodes.{kept_both}
use Rattle.lt_kept_facts.specs.Known.{domains_seen, StandAt}
use Rattle.lt_kept_facts.proofs.Aligned.{AreAligned}

-- the objects of the parameters of the functions that are defined at the nodes outside of marks among these, where the first of these has this number
abbrev pub parameters_seen : List Function → ℕ → List Node → List (List ℕ)
parameters_seen functions k xs = map (parameters_among functions) (kept k xs)

-- ---- numbers and functions apart

-- numbers in a run
abbrev AreWithin : (first behind : ℕ) → List ℕ → Type 0
AreWithin first behind ns = AllByRecursion (λ (n : ℕ). (first ≤ n) × (n < behind)) ns

-- functions that are defined from this number on
abbrev AreFrom : ℕ → List Function → Type 0
AreFrom k fs = AllByRecursion (λ (f : Function). k ≤ f.node) fs

wider : (k j behind last : ℕ) (ns : List ℕ) → k ≤ j → behind ≤ last → AreWithin j behind ns → AreWithin k last ns
wider k j behind last [] low high h = tt
wider k j behind last (n ∷ ns) low high h = ((omega (arith, h.0.0, low), omega (arith, h.0.1, high)), wider k j behind last ns low high h.1)

places_within : (k : ℕ) (flags : List Bool) → AreWithin k (k + length flags) (places_from k flags)
places_within k [] = tt
places_within k (true ∷ flags) = ((omega arith, omega arith), wider k (k + 1) (k + 1 + length flags) (k + suc (length flags)) (places_from (k + 1) flags) (omega arith) (omega arith) (places_within (k + 1) flags))
places_within k (false ∷ flags) = wider k (k + 1) (k + 1 + length flags) (k + suc (length flags)) (places_from (k + 1) flags) (omega arith) (omega arith) (places_within (k + 1) flags)

flags_length : (xs : List Node) (marked : ℕ) → length (outside_from marked (map part_of xs)) ≡ length xs
flags_length [] marked = refl
flags_length (x ∷ xs) marked = ap suc (flags_length xs (max (mark_size (part_of x)) marked - 1))

kept_within : (k : ℕ) (xs : List Node) → AreWithin k (k + length xs) (kept k xs)
kept_within k xs = subst (λ n. AreWithin k (k + n) (kept k xs)) (flags_length xs 0) (places_within k (outside_from 0 (map part_of xs)))

lower : (k j : ℕ) (fs : List Function) → k ≤ j → AreFrom j fs → AreFrom k fs
lower k j [] low h = tt
lower k j (f ∷ fs) low h = (omega (arith, h.0, low), lower k j fs low h.1)

stand_from : (xs : List c.External) (k : ℕ) (fs : List Function) → StandAt xs k fs → AreFrom k fs
stand_from [] k [] h = tt
stand_from [] k (f ∷ fs) h = absurd h
stand_from (c.Declared d ∷ xs) k fs h = let size : ℕ = length (in_external (c.Declared d)) in lower k (k + size) fs (omega arith) (stand_from xs (k + size) fs h)
stand_from (c.Defines s d body ∷ xs) k [] h = absurd h
stand_from (c.Defines s d body ∷ xs) k (f ∷ fs) h =
    let size : ℕ = length (in_external (c.Defines s d body)) in (omega (arith, h.0), lower k (k + size) fs (omega arith) (stand_from xs (k + size) fs h.1))

-- ---- what is found

-- so often nothing
blanks : ℕ → List (List ℕ)
blanks zero = []
blanks (suc n) = [] ∷ blanks n

none_among : (fs : List Function) (k n : ℕ) → AreFrom k fs → n < k → parameters_among fs n ≡ []
none_among [] k n h less = refl
none_among (f ∷ fs) k n h less = ap (λ b. if b then f.parameters else parameters_among fs n) (ne_eqb f.node n (λ same. omega (arith, h.0, less, same))) ∙ none_among fs k n h.1 less

all_blank : (fs : List Function) (first behind : ℕ) (ns : List ℕ) → AreFrom behind fs → AreWithin first behind ns → map (parameters_among fs) ns ≡ blanks (length ns)
unfolding blanks
all_blank fs first behind [] h i = refl
all_blank fs first behind (n ∷ ns) h i = ap (λ it. it ∷ map (parameters_among fs) ns) (none_among fs behind n h i.0.1) ∙ ap (λ l. [] ∷ l) (all_blank fs first behind ns h i.1)

-- a function is of no later number
others_found : (f : Function) (fs : List Function) (first behind : ℕ) (ns : List ℕ) → f.node < first → AreWithin first behind ns → map (parameters_among (f ∷ fs)) ns ≡ map (parameters_among fs) ns
others_found f fs first behind [] less i = refl
others_found f fs first behind (n ∷ ns) less i =
    ap (λ b. (if b then f.parameters else parameters_among fs n) ∷ map (parameters_among (f ∷ fs)) ns) (ne_eqb f.node n (λ same. omega (arith, less, i.0.0, same)))
    ∙ ap (λ l. parameters_among fs n ∷ l) (others_found f fs first behind ns less i.1)

-- ---- externals

parted : (fs : List Function) (k : ℕ) (xs ys : List Node) → Ends xs → parameters_seen fs k (xs ++ ys) ≡ parameters_seen fs k xs ++ parameters_seen fs (k + length xs) ys
parted fs k xs ys ends = ap (map (parameters_among fs)) (kept_both k xs ys ends) ∙ map-append (parameters_among fs) (kept k xs) (kept (k + length xs) ys)

-- nodes of which none is a definition
nothing_defined : (fs : List Function) (k : ℕ) (xs ys : List Node) → Ends xs → AreFrom (k + length xs) fs → parameters_seen fs k (xs ++ ys) ≡ blanks (length (kept k xs)) ++ parameters_seen fs (k + length xs) ys
nothing_defined fs k xs ys ends h = parted fs k xs ys ends ∙ ap (λ l. l ++ parameters_seen fs (k + length xs) ys) (all_blank fs k (k + length xs) (kept k xs) h (kept_within k xs))

-- a definition, and what stands in it
one_defined : (f : Function) (fs : List Function) (k : ℕ) (x : c.External) (xs ys : List Node) → f.node ≡ k → Ends xs → AreFrom (k + suc (length xs)) fs
    → parameters_seen (f ∷ fs) k (an_external x ∷ (xs ++ ys)) ≡ f.parameters ∷ (blanks (length (kept (k + 1) xs)) ++ parameters_seen fs (k + suc (length xs)) ys)
one_defined f fs k x xs ys is ends h =
    let at : k + 1 + length xs ≡ k + suc (length xs) = omega arith in
    let inside : AreFrom (k + 1 + length xs) fs = subst (λ n. AreFrom n fs) (sym at) h in
    ap (λ b. (if b then f.parameters else parameters_among fs k) ∷ parameters_seen (f ∷ fs) (k + 1) (xs ++ ys)) (eq-eqb f.node k is)
    ∙ ap (λ l. f.parameters ∷ l)
    (others_found f fs (k + 1) (k + 1 + length (xs ++ ys)) (kept (k + 1) (xs ++ ys)) (omega (arith, is)) (kept_within (k + 1) (xs ++ ys))
    ∙ nothing_defined fs (k + 1) xs ys ends inside ∙ ap (λ n. blanks (length (kept (k + 1) xs)) ++ parameters_seen fs n ys) at)

fewer : {m n : ℕ} → suc m ≡ suc n → m ≡ n
fewer h = omega (arith, h)

known_alike : (new : ℕ → Bool) (xs ys : List c.External) (k j : ℕ) (fs gs : List Function) → AreAligned xs ys → StandAt xs k fs → StandAt ys j gs → AddsFunctions new fs gs
    → parameters_seen fs k (nodes xs) ≡ parameters_seen gs j (nodes ys)
known_alike new [] [] k j fs gs a h i same = refl
known_alike new (c.Declared d ∷ xs) (c.Declared e ∷ ys) k j fs gs a h i same =
    let first : List Node = in_external (c.Declared d) in
    let second : List Node = in_external (c.Declared e) in
    nothing_defined fs k first (nodes xs) a.1.first (stand_from xs (k + length first) fs h)
    ∙ ap (λ n. blanks n ++ parameters_seen fs (k + length first) (nodes xs)) (a.1.same k j)
    ∙ ap (λ l. blanks (length (kept j second)) ++ l) (known_alike new xs ys (k + length first) (j + length second) fs gs a.2 h i same)
    ∙ sym (nothing_defined gs j second (nodes ys) a.1.second (stand_from ys (j + length second) gs i))
known_alike new (c.Defines s d is ∷ xs) (c.Defines t e js ∷ ys) k j (f ∷ fs) (g ∷ gs) a h i same =
    let first : List Node = in_specifiers s ++ in_declarator d ++ in_items is in
    let second : List Node = in_specifiers t ++ in_declarator e ++ in_items js in
    one_defined f fs k (c.Defines s d is) first (nodes xs) h.0 a.1.first.1 (stand_from xs (k + suc (length first)) fs h.1)
    ∙ ap (λ them. them ∷ (blanks (length (kept (k + 1) first)) ++ parameters_seen fs (k + suc (length first)) (nodes xs))) same.0.parameters
    ∙ ap (λ n. g.parameters ∷ (blanks n ++ parameters_seen fs (k + suc (length first)) (nodes xs))) (fewer (a.1.same k j))
    ∙ ap (λ l. g.parameters ∷ (blanks (length (kept (j + 1) second)) ++ l)) (known_alike new xs ys (k + suc (length first)) (j + suc (length second)) fs gs a.2 h.1 i.1 same.1)
    ∙ sym (one_defined g gs j (c.Defines t e js) second (nodes ys) i.0 a.1.second.1 (stand_from ys (j + suc (length second)) gs i.1))
known_alike new (c.Defines s d is ∷ xs) (c.Defines t e js ∷ ys) k j [] gs a h i same = absurd h
known_alike new (c.Defines s d is ∷ xs) (c.Defines t e js ∷ ys) k j (f ∷ fs) [] a h i same = absurd i
known_alike new (c.Declared d ∷ xs) (c.Defines t e js ∷ ys) k j fs gs a h i same = absurd a.0
known_alike new (c.Defines s d is ∷ xs) (c.Declared e ∷ ys) k j fs gs a h i same = absurd a.0
known_alike new [] (y ∷ ys) k j fs gs a h i same = absurd a
known_alike new (x ∷ xs) [] k j fs gs a h i same = absurd a

-- ---- functions whose objects have other numbers

module _ (r : ℕ → ℕ) where
  stands_with : (xs : List c.External) (k : ℕ) (fs : List Function) → StandAt xs k fs → StandAt xs k (map (function_with r) fs)
  stands_with [] k [] h = tt
  stands_with [] k (f ∷ fs) h = absurd h
  stands_with (c.Declared d ∷ xs) k fs h = stands_with xs (k + length (in_external (c.Declared d))) fs h
  stands_with (c.Defines s d body ∷ xs) k [] h = absurd h
  stands_with (c.Defines s d body ∷ xs) k (f ∷ fs) h = (h.0, stands_with xs (k + length (in_external (c.Defines s d body))) fs h.1)

  among_with : (fs : List Function) (n : ℕ) → parameters_among (map (function_with r) fs) n ≡ map r (parameters_among fs n)
  among_with [] n = refl
  among_with (f ∷ fs) n = by (f.node == n) (among_with fs n)
    where
      by : (b : Bool) → parameters_among (map (function_with r) fs) n ≡ map r (parameters_among fs n) → (if b then map r f.parameters else parameters_among (map (function_with r) fs) n) ≡ map r (if b then f.parameters else parameters_among fs n)
      by true h = refl
      by false h = h

  all_with : (fs : List Function) (ns : List ℕ) → map (parameters_among (map (function_with r) fs)) ns ≡ map (map r) (map (parameters_among fs) ns)
  all_with fs [] = refl
  all_with fs (n ∷ ns) = ap (λ it. it ∷ map (parameters_among (map (function_with r) fs)) ns) (among_with fs n) ∙ ap (λ l. map r (parameters_among fs n) ∷ l) (all_with fs ns)

  module _ {A : Type 0} (f g : ℕ → List A) (same : (n : ℕ) → g (r n) ≡ f n) where
    each_with : (ns : List ℕ) → flat_map g (map r ns) ≡ flat_map f ns
    each_with [] = refl
    each_with (n ∷ ns) = ap (λ l. l ++ flat_map g (map r ns)) (same n) ∙ ap (λ l. f n ++ l) (each_with ns)

    lists_with : (ls : List (List ℕ)) → map (flat_map g) (map (map r) ls) ≡ map (flat_map f) ls
    lists_with [] = refl
    lists_with (ns ∷ ls) = ap (λ l. l ∷ map (flat_map g) (map (map r) ls)) (each_with ns) ∙ ap (λ ls. flat_map f ns ∷ ls) (lists_with ls)

domains_by : (program : Program) (k : ℕ) (xs : List Node) → domains_seen program k xs ≡ map (flat_map (domains_of_object program)) (parameters_seen program.functions k xs)
domains_by program k xs = by (kept k xs)
  where
    by : (ns : List ℕ) → map (λ n. flat_map (domains_of_object program) (parameters_among program.functions n)) ns ≡ map (flat_map (domains_of_object program)) (map (parameters_among program.functions) ns)
    by [] = refl
    by (n ∷ ns) = ap (λ l. flat_map (domains_of_object program) (parameters_among program.functions n) ∷ l) (by ns)

-- the domains of parameters are the same, whatever numbers their objects have
pub domains_alike : (new : ℕ → Bool) (r : ℕ → ℕ) (xs ys : List c.External) (program other : Program) → AreAligned xs ys → StandAt xs 0 program.functions → StandAt ys 0 other.functions
    → AddsFunctions new (map (function_with r) program.functions) other.functions → ((n : ℕ) → domains_of_object other (r n) ≡ domains_of_object program n) → domains_seen program 0 (nodes xs) ≡ domains_seen other 0 (nodes ys)
domains_alike new r xs ys program other a h i same domains =
    domains_by program 0 (nodes xs)
    ∙ sym (lists_with r (domains_of_object program) (domains_of_object other) domains (parameters_seen program.functions 0 (nodes xs)))
    ∙ ap (map (flat_map (domains_of_object other))) (sym (all_with r program.functions (kept 0 (nodes xs))) ∙ known_alike new xs ys 0 0 (map (function_with r) program.functions) other.functions a (stands_with r xs 0 program.functions h) i same)
    ∙ sym (domains_by other 0 (nodes ys))
