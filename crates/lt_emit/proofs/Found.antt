-- What is found among names, numbers and functions.
use Rattle.std.proofs.Common.{◌≡◌, ℕ, zero, suc, ◌+◌, Bool, true, false, List, [], ◌∷◌, ◌++◌, map, Option, Some, slice_get, bytes_eq, refl, ap, ◌∙◌, arith}
use Rattle.std.specs.Prelude.{if◌then◌else◌, ◌==◌}
use Rattle.std.specs.Cmp.Lexicographic.{bytes_decides}
use Rattle.std.proofs.lemmas.Bool.{eqb-true}
use Rattle.lt_tree.specs.Typing.Entities.{Function}
use Rattle.lt_meaning.specs.Runs.{place_among}
use Rattle.lt_code.specs.Code.{number_among}
use Rattle.lt_tables.specs.Lookups.{name_among}

record Found {X : Type 0} (xs : List X) (x : X) (j k : ℕ) : Type 0 where
  behind : ℕ
  place : k ≡ j + behind
  there : slice_get xs behind ≡ Some x

found_next :
    {X : Type 0} (same : Bool) (y x : X) (xs : List X) (j k : ℕ) (later : Option ℕ) → (same ≡ true → y ≡ x)
    → (if same then Some j else later) ≡ Some k → (later ≡ Some k → Found xs x (suc j) k) → Found (y ∷ xs) x j k
found_next true y x xs j k later is at f = let e : j ≡ k = cc in record { behind = 0; place = omega (arith, e); there = ap Some (is refl) }
found_next false y x xs j k later is at f = let r = f at in record { behind = suc r.behind; place = omega (arith, r.place); there = r.there }

found_there : {X : Type 0} (xs : List X) (x : X) (k : ℕ) → Found xs x 0 k → slice_get xs k ≡ Some x
found_there xs x k f = let e : k ≡ f.behind = omega (arith, f.place) in ap (slice_get xs) e ∙ f.there

-- a name among names
name_found : (names : List (List ℕ)) (name : List ℕ) (j k : ℕ) → name_among j name names ≡ Some k → Found names name j k
name_found [] name j k is = absurd (cc)
name_found (it ∷ its) name j k is =
    found_next (bytes_eq it name) it name its j k (name_among (suc j) name its) (bytes_decides it name).0 is (name_found its name (suc j) k)

pub name_there : (names : List (List ℕ)) (name : List ℕ) (k : ℕ) → name_among 0 name names ≡ Some k → slice_get names k ≡ Some name
name_there names name k is = found_there names name k (name_found names name 0 k is)

-- a number among numbers
number_found : (numbers : List ℕ) (n j k : ℕ) → place_among j n numbers ≡ Some k → Found numbers n j k
number_found [] n j k is = absurd (cc)
number_found (m ∷ ms) n j k is =
    found_next (m == n) m n ms j k (place_among (suc j) n ms) (eqb-true m n) is (number_found ms n (suc j) k)

pub number_there : (numbers : List ℕ) (n k : ℕ) → place_among 0 n numbers ≡ Some k → slice_get numbers k ≡ Some n
number_there numbers n k is = found_there numbers n k (number_found numbers n 0 k is)

-- a function by its name
pub function_is : (k : ℕ) (name : List ℕ) (fs : List Function) → number_among k name fs ≡ name_among k name (map (λ f. f.name) fs)
function_is k name [] = refl
function_is k name (f ∷ fs) = ap (λ later. if bytes_eq f.name name then Some k else later) (function_is (suc k) name fs)

-- what lies in front of the end
pub in_front : {X : Type 0} (xs ys : List X) (k : ℕ) (x : X) → slice_get xs k ≡ Some x → slice_get (xs ++ ys) k ≡ Some x
in_front [] ys k x is = absurd (cc)
in_front (y ∷ xs) ys zero x is = is
in_front (y ∷ xs) ys (suc k) x is = in_front xs ys k x is
