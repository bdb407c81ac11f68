-- Blocks on the stacks of variables.
use Rattle.std.proofs.Common.{◌≡◌, ℕ, zero, suc, ◌<◌, ◌≤◌, ◌↔◌, List, [], ◌∷◌, ◌++◌, length, get_or, set, Option, Some, None, Bool, true, false, refl, sym, ap, ◌∙◌, arith, inl, inr}
use Rattle.std.specs.Prelude.{if◌then◌else◌, nat_eq, option_to_list, IsSome, is_some, Result, Ok, Err, OnOk}
use Rattle.std.proofs.lemmas.Bool.Decides.{nat_tests, eqb_tells}
use Rattle.lt_ir.specs.declared.variable.Variable.TheVariants.{Parameter, Local, Static}
use Rattle.lt_mach_parts.specs.Stacks.{turned, stack_of, rest_of, stack_at, AreSame, IsPut, AllSame, ArePut}

pub turned_behind : (xs : List ℕ) (x : ℕ) → turned (xs ++ x ∷ []) ≡ x ∷ turned xs
turned_behind [] x = refl
turned_behind (y ∷ xs) x = ap (λ zs. zs ++ y ∷ []) (turned_behind xs x)

none_left : (xs : List ℕ) → ¬ (0 < length xs) → xs ≡ []
none_left [] h = refl
none_left (x ∷ xs) h = absurd (h (omega arith))

-- the innermost block goes, and the one below it comes
pub one_less : (r : Option ℕ) (old new : List ℕ) → old ≡ new ++ option_to_list r → (n : ℕ) → n ≡ length old → (IsSome r ↔ (0 < n)) → stack_of r new ≡ turned old
one_less None old new h n e some = rw (none_left old (λ l. absurd (let l1 : 0 < n = omega arith in let e = some.1 l1 in cc))) refl
one_less (Some block) old new h n e some = rw h (sym (turned_behind new block))

pub at_past : (xs : List (List ℕ)) (k : ℕ) → length xs ≤ k → stack_at xs k ≡ []
at_past [] k h = refl
at_past (x ∷ xs) zero h = absurd (omega arith)
at_past (x ∷ xs) (suc k) h = at_past xs k (omega arith)

pub at_within : (xs : List (List ℕ)) (k : ℕ) (d : List ℕ) → k < length xs → stack_at xs k ≡ get_or xs k d
at_within [] k d h = absurd (omega arith)
at_within (x ∷ xs) zero d h = refl
at_within (x ∷ xs) (suc k) d h = at_within xs k d (omega arith)

pub one_more : (xs : List (List ℕ)) → AreSame xs (xs ++ [] ∷ [])
one_more [] zero = refl
one_more [] (suc j) = refl
one_more (x ∷ xs) zero = refl
one_more (x ∷ xs) (suc j) = one_more xs j

zero_suc : (j : ℕ) → nat_eq 0 (suc j) ≡ false
zero_suc j = grind (arith, nat_tests)

suc_zero : (k : ℕ) → nat_eq (suc k) 0 ≡ false
suc_zero k = grind (arith, nat_tests)

suc_suc : (k j : ℕ) → nat_eq (suc k) (suc j) ≡ nat_eq k j
suc_suc k j = elim (eqb_tells k j) [ inl e ↦ rw e.0 (grind (arith, nat_tests)) | inr e ↦ rw e.0 (grind (arith, nat_tests)) ]

pub at_set : (xs : List (List ℕ)) (k : ℕ) (it : List ℕ) → k < length xs → IsPut xs (set xs k it) k it
at_set [] k it h j = absurd (omega arith)
at_set (x ∷ xs) zero it h zero = refl
at_set (x ∷ xs) zero it h (suc j) = rw (zero_suc j) refl
at_set (x ∷ xs) (suc k) it h zero = rw (suc_zero k) refl
at_set (x ∷ xs) (suc k) it h (suc j) = rw (suc_suc k j) (at_set xs k it (omega arith) j)

-- behind stacks that are the same
pub put_after : (xs ys zs : List (List ℕ)) (k : ℕ) (it : List ℕ) → AreSame xs ys → IsPut ys zs k it → IsPut xs zs k it
put_after xs ys zs k it same put j = put j ∙ ap (λ stack. if nat_eq k j then it else stack) (same j)

-- where no block is, none goes
pub none_goes : (xs : List (List ℕ)) (k : ℕ) → length xs ≤ k → IsPut xs xs k (rest_of (stack_at xs k))
none_goes xs k h j = elim (eqb_tells k j) [
  | inl e ↦ rw (e.0, at_past xs k h) (ap (stack_at xs) (sym e.1) ∙ at_past xs k h)
  | inr e ↦ rw e.0 refl
]

-- ---- by variable

pub parameter_put : (xs ys ls ss : List (List ℕ)) (k : ℕ) (it : List ℕ) → IsPut xs ys k it → ArePut (record { parameters = xs; locals = ls; statics = ss }) (record { parameters = ys; locals = ls; statics = ss }) (Parameter k) it
parameter_put xs ys ls ss k it put (Parameter j) = put j
parameter_put xs ys ls ss k it put (Local j) = refl
parameter_put xs ys ls ss k it put (Static j) = refl

pub local_put : (xs ys ps ss : List (List ℕ)) (k : ℕ) (it : List ℕ) → IsPut xs ys k it → ArePut (record { parameters = ps; locals = xs; statics = ss }) (record { parameters = ps; locals = ys; statics = ss }) (Local k) it
local_put xs ys ps ss k it put (Parameter j) = refl
local_put xs ys ps ss k it put (Local j) = put j
local_put xs ys ps ss k it put (Static j) = refl

pub static_put : (xs ys ps ls : List (List ℕ)) (k : ℕ) (it : List ℕ) → IsPut xs ys k it → ArePut (record { parameters = ps; locals = ls; statics = xs }) (record { parameters = ps; locals = ls; statics = ys }) (Static k) it
static_put xs ys ps ls k it put (Parameter j) = refl
static_put xs ys ps ls k it put (Local j) = refl
static_put xs ys ps ls k it put (Static j) = put j

pub parameter_same : (xs ys ls ss : List (List ℕ)) → AreSame xs ys → AllSame (record { parameters = xs; locals = ls; statics = ss }) (record { parameters = ys; locals = ls; statics = ss })
parameter_same xs ys ls ss same (Parameter j) = same j
parameter_same xs ys ls ss same (Local j) = refl
parameter_same xs ys ls ss same (Static j) = refl

pub local_same : (xs ys ps ss : List (List ℕ)) → AreSame xs ys → AllSame (record { parameters = ps; locals = xs; statics = ss }) (record { parameters = ps; locals = ys; statics = ss })
local_same xs ys ps ss same (Parameter j) = refl
local_same xs ys ps ss same (Local j) = same j
local_same xs ys ps ss same (Static j) = refl

pub static_same : (xs ys ps ls : List (List ℕ)) → AreSame xs ys → AllSame (record { parameters = ps; locals = ls; statics = xs }) (record { parameters = ps; locals = ls; statics = ys })
static_same xs ys ps ls same (Parameter j) = refl
static_same xs ys ps ls same (Local j) = refl
static_same xs ys ps ls same (Static j) = same j

pub rest_is : (innermost : Option ℕ) (outer : List ℕ) (b : Bool) → b ≡ is_some innermost → b ≡ true → turned outer ≡ rest_of (stack_of innermost outer)
rest_is None outer b h e = absurd (cc)
rest_is (Some block) outer b h e = refl

pub on_ok : {A E P Q : Type 0} (r : Result A E) → OnOk r P → (P → Q) → OnOk r Q
on_ok (Ok a) p f = f p
on_ok (Err e) p f = tt
