-- As many nodes are outside of marks in an external and in that with marks added.
use Rattle.std.proofs.Common.{◌≡◌, refl, sym, ap, ◌∙◌, subst, ℕ, suc, ◌+◌, Bool, true, false, List, [], ◌∷◌, length, map}
use Rattle.std.proofs.lemmas.List.{length-map}
use Rattle.lt_tree.specs.Tree as c
use Rattle.lt_tree.specs.Nodes.{Node, in_external}
use Rattle.lt_tree.specs.Typing.Entities.{Known, Fact}
use Rattle.lt_tree.specs.Typing.Steps.{Outcome, Goes, Breaks, goes_on}
use Rattle.lt_tree.specs.Typing.UnitTyping.{external, externals}
use Rattle.lt_sites.specs.Sites.{part_of}
use Rattle.lt_facts.specs.Outside.{outside_from, places_from}
use Rattle.lt_mark_typing.specs.Beside.{IsBeside}
use Rattle.lt_mark_typing.specs.PlacedUnits as p
use Rattle.lt_mark_typing.specs.PlacedUnits.{AddsToExternal, AddsToUnit}
use Rattle.lt_kept_facts.specs.Asked.{asked, kept, seen}
use Rattle.lt_kept_facts.proofs.MarksEnd.{Ends}
use Rattle.lt_kept_facts.proofs.KeptSteps.{went, Piece}
use Rattle.lt_kept_facts.proofs.KeptLaws.{seen_there}

-- Marks among these nodes end among them, and as many are outside of marks in both, whatever their numbers.
pub record AsMany (xs ys : List Node) : Type 0 where
  pub first : Ends xs
  pub second : Ends ys
  pub same : (k j : ℕ) → length (kept k xs) ≡ length (kept j ys)

-- both are definitions of functions, or both are declarations
abbrev pub AreOfOneForm : c.External → c.External → Type 0
AreOfOneForm (c.Defines s d is) (c.Defines t e js) = Unit {0}
AreOfOneForm (c.Declared d) (c.Declared e) = Unit {0}
AreOfOneForm x y = ⊥

-- so it is with each external and the other that stands in its place
abbrev pub AreAligned : List c.External → List c.External → Type 0
AreAligned [] [] = Unit {0}
AreAligned (x ∷ xs) (y ∷ ys) = AreOfOneForm x y × AsMany (in_external x) (in_external y) × AreAligned xs ys
AreAligned xs ys = ⊥

-- An external with marks added keeps what is noted of its nodes.
abbrev pub ExternalsKeep : (F G : List Fact) → (ℕ → Bool) → Type 0
ExternalsKeep F G new =
    (ids last : List ℕ) (further : List Bool) (k l : Known) (x y : c.External) → AddsToExternal new ids last k x y → IsBeside new ids further k l
    → Piece F G new last further (λ (u v : Unit {0}). Unit {0}) k (in_external x) l (in_external y) (external x k) (external y l)

-- ---- how many are outside of marks

count_of : (k j : ℕ) (flags : List Bool) → length (places_from k flags) ≡ length (places_from j flags)
count_of k j [] = refl
count_of k j (true ∷ flags) = ap suc (count_of (k + 1) (j + 1) flags)
count_of k j (false ∷ flags) = count_of (k + 1) (j + 1) flags

as_many : (F G : List Fact) (k j : ℕ) (xs ys : List Node) → seen F k xs ≡ seen G j ys → length (kept k xs) ≡ length (kept j ys)
as_many F G k j xs ys h = sym (length-map (kept k xs) (asked F)) ∙ ap length h ∙ length-map (kept j ys) (asked G)

at_any : (k j : ℕ) (xs ys : List Node) → length (kept k xs) ≡ length (kept j ys) → (m n : ℕ) → length (kept m xs) ≡ length (kept n ys)
at_any k j xs ys h m n = count_of m k (outside_from 0 (map part_of xs)) ∙ h ∙ count_of j n (outside_from 0 (map part_of ys))

-- ---- externals

some_rest : {A B : Type 0} (o : Outcome A) (rest : A → Known → Outcome B) {b : B} {n : Known} → goes_on o rest ≡ Goes b n → (a : A) × (m : Known) × (o ≡ Goes a m) × (rest a m ≡ Goes b n)
some_rest (Goes a m) rest is = (a, m, refl, is)
some_rest (Breaks rule node) rest is = absurd cc

one_form : {new : ℕ → Bool} {used after : List ℕ} {known : Known} {x y : c.External} → AddsToExternal new used after known x y → AreOfOneForm x y
one_form (p.Defines g h f) = tt
one_form (p.Declared h) = tt

module _ (new : ℕ → Bool) (last : List ℕ) (further : List Bool) (k l : Known) (xs ys : List Node) where
  abbrev Kept : (F G : List Fact) → Outcome (Unit {0}) → Outcome (Unit {0}) → Type 0
  Kept F G o r = Piece F G new last further (λ (u v : Unit {0}). Unit {0}) k xs l ys o r

  counted : (u v : Unit {0}) (m n : Known) → ((F G : List Fact) → Kept F G (Goes u m) (Goes v n)) → Kept [] [] (Goes u m) (Goes v n) → AsMany xs ys × (behind : List Bool) × IsBeside new last behind m n
  counted u v m n whole (went {behind = behind} e r b p q h) = (
    record { first = p.ends; second = q.ends; same = at_any k.next l.next xs ys (as_many p.more q.more k.next l.next xs ys (seen_there (whole p.more q.more) p.noted q.noted)) },
    behind,
    b,
  )

  both_gone : (o r : Outcome (Unit {0})) (u v : Unit {0}) (m n : Known) → ((F G : List Fact) → Kept F G o r) → o ≡ Goes u m → r ≡ Goes v n → AsMany xs ys × (behind : List Bool) × IsBeside new last behind m n
  both_gone o r u v m n whole e i =
      let there : (F G : List Fact) → Kept F G (Goes u m) (Goes v n) = λ F G. subst (λ o. Kept F G o (Goes v n)) e (subst (λ r. Kept F G o r) i (whole F G)) in
      counted u v m n there (there [] [])

pub aligned : {new : ℕ → Bool} → ((F G : List Fact) → ExternalsKeep F G new) → {used after : List ℕ} {further : List Bool} {k : Known} {xs ys : List c.External} → AddsToUnit new used after k xs ys → (l : Known) → IsBeside new used further k l
    → (u v : Unit {0}) (m n : Known) → externals xs k ≡ Goes u m → externals ys l ≡ Goes v n → AreAligned xs ys
aligned keep p.no_externals l b u v m n goes others = tt
aligned {new} keep {further = further} (p.an_external {used} {between} {known = k} {x} {y} {xs} {ys} d f) l b u v m n goes others =
    let first = some_rest (external x k) (λ w. externals xs) goes in
    let second = some_rest (external y l) (λ w. externals ys) others in
    let here = both_gone new between further k l (in_external x) (in_external y) (external x k) (external y l) first.0 second.0 first.1 second.1 (λ F G. keep F G used between further k l x y d b) first.2 second.2 in
    (one_form d, here.0, aligned keep (f first.0 first.1 first.2) second.1 here.2 u v m n first.3 second.3)
