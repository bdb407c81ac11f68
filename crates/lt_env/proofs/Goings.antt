-- How what two parts give makes what both give.
use Rattle.std.proofs.Common.{◌≡◌, ℕ, List, [], ◌∷◌, ◌++◌, Result, Ok, Err, refl, ap, ◌∙◌}
use Rattle.lt_tree.specs.Typing.Types.{CType}
use Rattle.lt_tree.specs.Typing.TypeRows.{Continues}
use Rattle.lt_tree.specs.Typing.Entities.{Known}
use Rattle.lt_tree.specs.Typing.Steps.{Outcome, Goes, Breaks, Walk, goes_on}
use Rattle.lt_env.specs.NamesValue.{NamesValue, KeepsOuter}
use Rattle.lt_env.specs.declared.walker.Walker.{Walker}
use Rattle.lt_env.specs.declared.stop.TypeStop.{TypeStop}
use Rattle.lt_env.specs.declared.stop.TypeStop.TheVariants.{Broken, NoMemory}
use Rattle.lt_env.specs.Going.{At, Ends, types_in, known_of}

assoc : {A : Type 0} (xs ys zs : List A) → (xs ++ ys) ++ zs ≡ xs ++ (ys ++ zs)
assoc [] ys zs = refl
assoc (x ∷ xs) ys zs = ap (λ l. x ∷ l) (assoc xs ys zs)

-- types are only added, in two steps
pub longer_still : (before after longer : List CType) → Continues before after → Continues after longer → Continues before longer
longer_still before after longer (more, e) (rest, f) = (more ++ rest, f ∙ (ap (λ l. l ++ rest) e ∙ assoc before more rest))

no_more : (types : List CType) → types ≡ types ++ []
no_more [] = refl
no_more (t ∷ types) = ap (λ l. t ∷ l) (no_more types)

pub as_long : (types : List CType) → Continues types types
as_long types = ([], no_more types)

-- the names of outer blocks stay, in two steps
pub kept_still : (a b c : NamesValue) → KeepsOuter a b → KeepsOuter b c → KeepsOuter a c
kept_still a b c (e, f) (g, h) = (g ∙ e, h ∙ f)

at_then : {A B X Y : Type 0} (types : List CType) (shown : List CType → X → A) (sees : List CType → Y → B) (s1 s2 : Walker) (x : X) (r : Result Y TypeStop) (outcome : Outcome A) (rest : A → Walk B)
    → At types shown s1 (Ok x) outcome → At types sees s2 r (rest (shown types x) (known_of types s1)) → At types sees s2 r (goes_on outcome rest)
at_then types shown sees s1 s2 x (Ok y) outcome rest e f = ap (λ o. goes_on o rest) e ∙ f
at_then types shown sees s1 s2 x (Err (Broken rule node)) outcome rest e f = ap (λ o. goes_on o rest) e ∙ f
at_then types shown sees s1 s2 x (Err NoMemory) outcome rest e f = tt

at_stops : {A B X Y : Type 0} (types : List CType) (shown : List CType → X → A) (sees : List CType → Y → B) (s1 : Walker) (stop : TypeStop) (outcome : Outcome A) (rest : A → Walk B)
    → At types shown s1 (Err stop) outcome → At types sees s1 (Err stop) (goes_on outcome rest)
at_stops types shown sees s1 (Broken rule node) outcome rest e = ap (λ o. goes_on o rest) e
at_stops types shown sees s1 NoMemory outcome rest e = tt

-- a part stops
pub ends_stops : {A B X Y : Type 0} {shown : List CType → X → A} {sees : List CType → Y → B} {s1 : Walker} {stop : TypeStop} {outcome : List CType → Outcome A} (rest : List CType → A → Walk B)
    → Ends shown s1 (Err stop) outcome → Ends sees s1 (Err stop) (λ types. goes_on (outcome types) (rest types))
ends_stops {shown = shown} {sees = sees} {s1 = s1} {stop = stop} {outcome = outcome} rest e = record {
  at = λ types h. at_stops types shown sees s1 stop (outcome types) (rest types) (e.at types h);
}

-- a part goes, and then another
pub ends_then : {A B X Y : Type 0} {shown : List CType → X → A} {sees : List CType → Y → B} {s1 s2 : Walker} {x : X} {r : Result Y TypeStop} {outcome : List CType → Outcome A} (rest : List CType → A → Walk B)
    → Ends shown s1 (Ok x) outcome → Continues (types_in s1) (types_in s2) → Ends sees s2 r (λ types. rest types (shown types x) (known_of types s1)) → Ends sees s2 r (λ types. goes_on (outcome types) (rest types))
ends_then {shown = shown} {sees = sees} {s1 = s1} {s2 = s2} {x = x} {r = r} {outcome = outcome} rest e g f = record {
  at = λ types h. at_then types shown sees s1 s2 x r (outcome types) (rest types) (e.at types (longer_still (types_in s1) (types_in s2) types g h)) (f.at types h);
}

abbrev known_in : {A : Type 0} → Outcome A → Known → Known
known_in (Goes a k) other = k
known_in (Breaks rule node) other = other

pub same_known : {A : Type 0} {a b : A} {k j : Known} → Goes a k ≡ Goes b j → k ≡ j
same_known {k = k} e = ap (λ o. known_in o k) e

abbrev number_in : Outcome ℕ → ℕ
number_in (Goes n k) = n
number_in (Breaks rule node) = 0

pub same_number : {n m : ℕ} {k j : Known} → Goes n k ≡ Goes m j → n ≡ m
same_number e = ap number_in e
