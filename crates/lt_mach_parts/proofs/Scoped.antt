-- Variables in scopes, and their blocks.
use Rattle.std.proofs.Common.{◌≡◌, ℕ, zero, suc, ◌<◌, ◌≤◌, List, [], ◌∷◌, ◌++◌, length, get_or, take, remove, take-suc, length-take-le, Option, Some, None, Bool, true, false, refl, sym, ap, ◌∙◌, arith, ◌↔◌}
use Rattle.std.specs.Prelude.{if◌then◌else◌, ◌==◌, Result, Ok, Err, is_ok, is_err}
use Rattle.std.proofs.lemmas.Bool.{eqb-true}
use Rattle.std.proofs.lemmas.List.{append_assoc, append-nil}
use Rattle.lt_ir.specs.declared.variable.Variable.{Variable}
use Rattle.lt_ir.specs.declared.variable.Variable.TheVariants.{Parameter, Local, Static}
use Rattle.lt_ir.specs.Running.{Bound, same_variable, block_among, without, statics_of, is_static}
use Rattle.lt_ir.specs.Graph.{are_static}
use Rattle.lt_mach_parts.specs.Stacks.{first_of, rest_of, Stacks, blocks_at, AllSame, ArePut, blocks_among, AreOf}
use Rattle.lt_mach_parts.specs.Bindings.{HeldBound, bound_of, scope_of, last_of, further_on, are_own}

pub same_self : (v : Variable) → same_variable v v ≡ true
same_self (Parameter n) = grind arith
same_self (Local n) = grind arith
same_self (Static n) = grind arith

pub same_is : (v w : Variable) → same_variable v w ≡ true → v ≡ w
same_is (Parameter m) (Parameter n) h = ap Parameter (eqb-true m n h)
same_is (Local m) (Local n) h = ap Local (eqb-true m n h)
same_is (Static m) (Static n) h = ap Static (eqb-true m n h)
same_is (Parameter m) (Local n) h = absurd (cc)
same_is (Parameter m) (Static n) h = absurd (cc)
same_is (Local m) (Parameter n) h = absurd (cc)
same_is (Local m) (Static n) h = absurd (cc)
same_is (Static m) (Parameter n) h = absurd (cc)
same_is (Static m) (Local n) h = absurd (cc)

-- ---- blocks of a scope

pub first_among : (scope : List Bound) (v : Variable) → first_of (blocks_among scope v) ≡ block_among scope v
first_among [] v = refl
first_among (bound ∷ scope) v = here (same_variable bound.variable v) (first_among scope v)
  where
    here : (b : Bool) → first_of (blocks_among scope v) ≡ block_among scope v → first_of (if b then bound.block ∷ blocks_among scope v else blocks_among scope v) ≡ (if b then Some bound.block else block_among scope v)
    here true below = refl
    here false below = below

-- the block of one variable more
pub one_bound : (old new : Stacks) (scope : List Bound) (v : Variable) (block : ℕ) → AreOf old scope → ArePut old new v (block ∷ blocks_at old v) → AreOf new (record { variable = v; block = block } ∷ scope)
one_bound old new scope v block are put w = put w ∙ here (same_variable v w) refl
  where
    here : (b : Bool) → same_variable v w ≡ b → (if b then block ∷ blocks_at old v else blocks_at old w) ≡ (if b then block ∷ blocks_among scope w else blocks_among scope w)
    here true e = ap (λ bs. block ∷ bs) (ap (blocks_at old) (same_is v w e) ∙ are w)
    here false e = are w

-- a block comes and goes
pub came_and_went : (old mid new : Stacks) (v : Variable) (block : ℕ) → ArePut old mid v (block ∷ blocks_at old v) → ArePut mid new v (rest_of (blocks_at mid v)) → AllSame old new
came_and_went old mid new v block came went w = went w ∙ here (same_variable v w) refl
  where
    at_v : blocks_at mid v ≡ block ∷ blocks_at old v
    at_v = came v ∙ ap (λ b. if b then block ∷ blocks_at old v else blocks_at old v) (same_self v)

    here : (b : Bool) → same_variable v w ≡ b → (if b then rest_of (blocks_at mid v) else blocks_at mid w) ≡ blocks_at old w
    here true e = ap rest_of at_v ∙ ap (blocks_at old) (same_is v w e)
    here false e = came w ∙ ap (λ b. if b then block ∷ blocks_at old v else blocks_at old w) e

pub same_of : (old new : Stacks) (scope : List Bound) → AreOf old scope → AllSame old new → AreOf new scope
same_of old new scope are same v = same v ∙ are v

-- the blocks where one variable is removed
pub among_without : (scope : List Bound) (v w : Variable) → blocks_among (without scope v) w ≡ (if same_variable v w then rest_of (blocks_among scope v) else blocks_among scope w)
among_without [] v w = nothing (same_variable v w)
  where
    nothing : (b : Bool) → [] ≡ (if b then rest_of [] else [])
    nothing true = refl
    nothing false = refl
among_without (bound ∷ scope) v w = here (same_variable bound.variable v) (same_variable v w) (same_variable bound.variable w) refl refl refl (among_without scope v w)
  where
    here : (b c d : Bool) → same_variable bound.variable v ≡ b → same_variable v w ≡ c → same_variable bound.variable w ≡ d → blocks_among (without scope v) w ≡ (if same_variable v w then rest_of (blocks_among scope v) else blocks_among scope w)
        → blocks_among (if b then scope else bound ∷ without scope v) w ≡ (if c then rest_of (if b then bound.block ∷ blocks_among scope v else blocks_among scope v) else (if d then bound.block ∷ blocks_among scope w else blocks_among scope w))
    here true true d e f g below = ap (blocks_among scope) (sym (same_is v w f))
    here true false true e f g below = absurd (let i : v ≡ w = sym (same_is bound.variable v e) ∙ same_is bound.variable w g in let j : same_variable v w ≡ true = ap (same_variable v) (sym i) ∙ same_self v in cc)
    here true false false e f g below = refl
    here false true true e f g below = absurd (let i : bound.variable ≡ v = same_is bound.variable w g ∙ sym (same_is v w f) in let j : same_variable bound.variable v ≡ true = ap (same_variable bound.variable) (sym i) ∙ same_self bound.variable in cc)
    here false true false e f g below = ap (λ b. if b then bound.block ∷ blocks_among (without scope v) w else blocks_among (without scope v) w) g ∙ below ∙ ap (λ b. if b then rest_of (blocks_among scope v) else blocks_among scope w) f
    here false false d e f g below = ap (λ b. if b then bound.block ∷ blocks_among (without scope v) w else blocks_among (without scope v) w) g ∙ ap (λ bs. if d then bound.block ∷ bs else bs) (below ∙ ap (λ b. if b then rest_of (blocks_among scope v) else blocks_among scope w) f)

pub one_removed : (old new : Stacks) (scope : List Bound) (v : Variable) → AreOf old scope → ArePut old new v (rest_of (blocks_at old v)) → AreOf new (without scope v)
one_removed old new scope v are put w = put w ∙ here (same_variable v w) ∙ sym (among_without scope v w)
  where
    here : (b : Bool) → (if b then rest_of (blocks_at old v) else blocks_at old w) ≡ (if b then rest_of (blocks_among scope v) else blocks_among scope w)
    here true = ap rest_of (are v)
    here false = are w

-- ---- the list that lies in memory

pub scope_behind : (its : List HeldBound) (it : HeldBound) → scope_of (its ++ it ∷ []) ≡ bound_of it ∷ scope_of its
scope_behind [] it = refl
scope_behind (x ∷ its) it = ap (λ bs. bs ++ bound_of x ∷ []) (scope_behind its it)

pub last_behind : (its : List HeldBound) (it : HeldBound) (v : Variable) → last_of (its ++ it ∷ []) v ≡ (if same_variable it.variable v then Some (length its) else last_of its v)
last_behind [] it v = refl
last_behind (x ∷ its) it v = ap (λ o. further_on o (if same_variable x.variable v then Some 0 else None)) (last_behind its it v) ∙ here (same_variable it.variable v)
  where
    here : (b : Bool) → further_on (if b then Some (length its) else last_of its v) (if same_variable x.variable v then Some 0 else None) ≡ (if b then Some (suc (length its)) else last_of (x ∷ its) v)
    here true = refl
    here false = refl

not_none : (xs : List Bound) (b : Bound) → ¬ (xs ++ b ∷ [] ≡ [])
not_none [] b e = absurd (cc)
not_none (x ∷ xs) b e = absurd (cc)

pub empty_tells : (its : List HeldBound) (n : ℕ) (b : Bool) → n ≡ length its → b ≡ (n == 0) → (b ≡ true) ↔ (scope_of its ≡ [])
empty_tells [] n b e h = (λ _. refl, λ _. h ∙ ap (λ n. n == 0) e)
empty_tells (it ∷ its) n b e h = (λ t. absurd (let z : n ≡ 0 = eqb-true n 0 (sym h ∙ t) in omega arith), λ none. absurd (not_none (scope_of its) (bound_of it) none))

pub pushed_on : {A E : Type 0} (r : Result A E) (b : Bool) (xs ys : List HeldBound) (x : HeldBound) → ys ≡ (if is_ok r then xs ++ x ∷ [] else xs) → b ≡ is_err r → b ≡ false → ys ≡ xs ++ x ∷ []
pushed_on (Ok a) b xs ys x h e f = h
pushed_on (Err a) b xs ys x h e f = absurd (cc)

-- the last one but some that are looked at already
pub last_before : (its : List HeldBound) (v : Variable) (p place : ℕ) (d : HeldBound) (b : Bool) → place ≡ suc p → place ≤ length its → same_variable (get_or its p d).variable v ≡ b → last_of (take place its) v ≡ (if b then Some p else last_of (take p its) v)
last_before its v p place d b e h same =
    rw (e, take-suc its p d (omega arith)) (last_behind (take p its) (get_or its p d) v ∙ ap (λ b. if b then Some (length (take p its)) else last_of (take p its) v) same ∙ ap (λ n. if b then Some n else last_of (take p its) v) (length-take-le p its (omega arith)))

pub last_within : (its : List HeldBound) (v : Variable) (k : ℕ) → last_of its v ≡ Some k → k < length its
last_within [] v k h = absurd (cc)
last_within (it ∷ its) v k h = here (last_of its v) refl (same_variable it.variable v) h (λ j e. last_within its v j e)
  where
    here : (o : Option ℕ) → last_of its v ≡ o → (c : Bool) → further_on o (if c then Some 0 else None) ≡ Some k → ((j : ℕ) → last_of its v ≡ Some j → j < length its) → k < suc (length its)
    here (Some j) e c h below = let g : suc j ≡ k = cc in let i = below j e in omega arith
    here None e true h below = let g : 0 ≡ k = cc in omega arith
    here None e false h below = absurd (cc)

-- What is removed is the last one of the list: nothing behind it in the scope, and of what is in front of it nothing.
abbrev FoundAt : Option ℕ → List Bound → Variable → Type 0
FoundAt None scope v = (more : List Bound) → without (scope ++ more) v ≡ scope ++ without more v
FoundAt (Some k) scope v = (more : List Bound) → without (scope ++ more) v ≡ without scope v ++ more

found : (its : List HeldBound) (v : Variable) → FoundAt (last_of its v) (scope_of its) v
found [] v = λ more. refl
found (it ∷ its) v = here (last_of its v) (found its v) (same_variable it.variable v) refl
  where
    b : Bound
    b = bound_of it

    here : (o : Option ℕ) → FoundAt o (scope_of its) v → (c : Bool) → same_variable it.variable v ≡ c → FoundAt (further_on o (if c then Some 0 else None)) (scope_of its ++ b ∷ []) v
    here None f true e = λ more.
        ap (λ s. without s v) (append_assoc (scope_of its) (b ∷ []) more) ∙ f (b ∷ more) ∙ ap (λ c. scope_of its ++ (if c then more else b ∷ without more v)) e
        ∙ sym (ap (λ s. s ++ more) (f (b ∷ []) ∙ ap (λ c. scope_of its ++ (if c then [] else b ∷ [])) e ∙ append-nil (scope_of its)))
    here None f false e = λ more.
        ap (λ s. without s v) (append_assoc (scope_of its) (b ∷ []) more) ∙ f (b ∷ more) ∙ ap (λ c. scope_of its ++ (if c then more else b ∷ without more v)) e
        ∙ sym (append_assoc (scope_of its) (b ∷ []) (without more v))
    here (Some k) f c e = λ more.
        ap (λ s. without s v) (append_assoc (scope_of its) (b ∷ []) more) ∙ f (b ∷ more) ∙ sym (append_assoc (without (scope_of its) v) (b ∷ []) more)
        ∙ sym (ap (λ s. s ++ more) (f (b ∷ [])))

pub none_removed : (its : List HeldBound) (v : Variable) → last_of its v ≡ None → without (scope_of its) v ≡ scope_of its
none_removed its v h = ap (λ s. without s v) (sym (append-nil (scope_of its))) ∙ here (last_of its v) h (found its v) ∙ append-nil (scope_of its)
  where
    here : (o : Option ℕ) → o ≡ None → FoundAt o (scope_of its) v → without (scope_of its ++ []) v ≡ scope_of its ++ []
    here None h f = f []
    here (Some k) h f = absurd (cc)

before : (o : Option ℕ) (scope : List Bound) (b : Bound) (v : Variable) (j : ℕ) → o ≡ Some j → FoundAt o scope v → without (scope ++ b ∷ []) v ≡ without scope v ++ b ∷ []
before None scope b v j e f = absurd (cc)
before (Some i) scope b v j e f = f (b ∷ [])

behind : (o : Option ℕ) (scope : List Bound) (b : Bound) (v : Variable) → o ≡ None → FoundAt o scope v → without (scope ++ b ∷ []) v ≡ scope ++ without (b ∷ []) v
behind None scope b v e f = f (b ∷ [])
behind (Some i) scope b v e f = absurd (cc)

pub removed : (its : List HeldBound) (v : Variable) (k : ℕ) → last_of its v ≡ Some k → scope_of (remove its k) ≡ without (scope_of its) v
removed [] v k h = absurd (cc)
removed (it ∷ its) v zero h = here (last_of its v) refl (same_variable it.variable v) refl h
  where
    here : (o : Option ℕ) → last_of its v ≡ o → (c : Bool) → same_variable it.variable v ≡ c → further_on o (if c then Some 0 else None) ≡ Some 0 → scope_of its ≡ without (scope_of its ++ bound_of it ∷ []) v
    here (Some j) e c f h = absurd (let g : suc j ≡ 0 = cc in omega arith)
    here None e true f h = sym (behind (last_of its v) (scope_of its) (bound_of it) v e (found its v) ∙ ap (λ c. scope_of its ++ (if c then [] else bound_of it ∷ [])) f ∙ append-nil (scope_of its))
    here None e false f h = absurd (cc)
removed (it ∷ its) v (suc k) h = here (last_of its v) refl (same_variable it.variable v) refl h (λ e. removed its v k e)
  where
    here : (o : Option ℕ) → last_of its v ≡ o → (c : Bool) → same_variable it.variable v ≡ c → further_on o (if c then Some 0 else None) ≡ Some (suc k) → (last_of its v ≡ Some k → scope_of (remove its k) ≡ without (scope_of its) v)
        → scope_of (remove its k) ++ bound_of it ∷ [] ≡ without (scope_of its ++ bound_of it ∷ []) v
    here (Some j) e c f h below =
        let g : suc j ≡ suc k = cc in
        ap (λ s. s ++ bound_of it ∷ []) (below (e ∙ ap Some (let i : j ≡ k = omega arith in i))) ∙ sym (before (last_of its v) (scope_of its) (bound_of it) v j e (found its v))
    here None e true f h below = absurd (let g : 0 ≡ suc k = cc in omega arith)
    here None e false f h below = absurd (cc)

-- ---- objects that are there from the start, and others

pub statics_behind : (xs ys : List Bound) → statics_of (xs ++ ys) ≡ statics_of xs ++ statics_of ys
statics_behind [] ys = refl
statics_behind (x ∷ xs) ys = here (is_static x.variable) (statics_behind xs ys)
  where
    here : (c : Bool) → statics_of (xs ++ ys) ≡ statics_of xs ++ statics_of ys → (if c then x ∷ statics_of (xs ++ ys) else statics_of (xs ++ ys)) ≡ (if c then x ∷ statics_of xs else statics_of xs) ++ statics_of ys
    here true below = ap (λ s. x ∷ s) below
    here false below = below

pub none_static : (own : List Bound) → are_own own ≡ true → statics_of own ≡ []
none_static [] h = refl
none_static (x ∷ own) h = here (is_static x.variable) h (λ i. none_static own i)
  where
    here : (c : Bool) → (if c then false else are_own own) ≡ true → (are_own own ≡ true → statics_of own ≡ []) → (if c then x ∷ statics_of own else statics_of own) ≡ []
    here true h below = absurd (cc)
    here false h below = below h

pub all_static : (scope : List Bound) → are_static scope ≡ true → statics_of scope ≡ scope
all_static [] h = refl
all_static (x ∷ scope) h = here (is_static x.variable) h (λ i. all_static scope i)
  where
    here : (c : Bool) → (if c then are_static scope else false) ≡ true → (are_static scope ≡ true → statics_of scope ≡ scope) → (if c then x ∷ statics_of scope else statics_of scope) ≡ x ∷ scope
    here true h below = ap (λ s. x ∷ s) (below h)
    here false h below = absurd (cc)

-- the scope of a call
pub entered : (own statics : List Bound) → are_own own ≡ true → are_static statics ≡ true → statics_of (own ++ statics) ≡ statics
entered own statics h i = statics_behind own statics ∙ ap (λ s. s ++ statics_of statics) (none_static own h) ∙ all_static statics i

apart : (v w : Variable) → is_static v ≡ true → is_static w ≡ false → same_variable v w ≡ false
apart (Parameter m) w h i = absurd (cc)
apart (Local m) w h i = absurd (cc)
apart (Static m) (Static n) h i = absurd (cc)
apart (Static m) (Parameter n) h i = refl
apart (Static m) (Local n) h i = refl

apart_from : (v w : Variable) → is_static v ≡ false → is_static w ≡ true → same_variable v w ≡ false
apart_from (Static m) w h i = absurd (cc)
apart_from (Parameter m) (Static n) h i = refl
apart_from (Local m) (Static n) h i = refl
apart_from v (Parameter n) h i = absurd (cc)
apart_from v (Local n) h i = absurd (cc)

module _ (v : Variable) where
  -- a variable that is there from the start isn't among a call's own
  pub past_own : (own statics : List Bound) → are_own own ≡ true → is_static v ≡ true → block_among (own ++ statics) v ≡ block_among statics v
  past_own [] statics h i = refl
  past_own (x ∷ own) statics h i = here (is_static x.variable) refl h (λ h. past_own own statics h i)
    where
      here : (c : Bool) → is_static x.variable ≡ c → (if c then false else are_own own) ≡ true → (are_own own ≡ true → block_among (own ++ statics) v ≡ block_among statics v) → (if same_variable x.variable v then Some x.block else block_among (own ++ statics) v) ≡ block_among statics v
      here true e h below = absurd (cc)
      here false e h below = ap (λ b. if b then Some x.block else block_among (own ++ statics) v) (apart_from x.variable v e i) ∙ below h

  pub kept_own : (own statics : List Bound) → are_own own ≡ true → is_static v ≡ true → without (own ++ statics) v ≡ own ++ without statics v
  kept_own [] statics h i = refl
  kept_own (x ∷ own) statics h i = here (is_static x.variable) refl h (λ h. kept_own own statics h i)
    where
      here : (c : Bool) → is_static x.variable ≡ c → (if c then false else are_own own) ≡ true → (are_own own ≡ true → without (own ++ statics) v ≡ own ++ without statics v) → (if same_variable x.variable v then own ++ statics else x ∷ without (own ++ statics) v) ≡ x ∷ own ++ without statics v
      here true e h below = absurd (cc)
      here false e h below = ap (λ b. if b then own ++ statics else x ∷ without (own ++ statics) v) (apart_from x.variable v e i) ∙ ap (λ s. x ∷ s) (below h)

  -- and a call's own isn't among those that are
  not_static : (statics : List Bound) → are_static statics ≡ true → is_static v ≡ false → (block_among statics v ≡ None) × (without statics v ≡ statics)
  not_static [] h i = (refl, refl)
  not_static (x ∷ statics) h i = here (is_static x.variable) refl h (λ h. not_static statics h i)
    where
      here : (c : Bool) → is_static x.variable ≡ c → (if c then are_static statics else false) ≡ true → (are_static statics ≡ true → (block_among statics v ≡ None) × (without statics v ≡ statics))
          → ((if same_variable x.variable v then Some x.block else block_among statics v) ≡ None) × ((if same_variable x.variable v then statics else x ∷ without statics v) ≡ x ∷ statics)
      here false e h below = absurd (cc)
      here true e h below = rw (apart x.variable v e i) ((below h).0, ap (λ s. x ∷ s) (below h).1)

  pub in_own : (own statics : List Bound) → are_static statics ≡ true → is_static v ≡ false → block_among (own ++ statics) v ≡ block_among own v
  in_own [] statics h i = (not_static statics h i).0
  in_own (x ∷ own) statics h i = ap (λ o. if same_variable x.variable v then Some x.block else o) (in_own own statics h i)

  pub from_own : (own statics : List Bound) → are_static statics ≡ true → is_static v ≡ false → without (own ++ statics) v ≡ without own v ++ statics
  from_own [] statics h i = (not_static statics h i).1
  from_own (x ∷ own) statics h i = here (same_variable x.variable v) (from_own own statics h i)
    where
      here : (b : Bool) → without (own ++ statics) v ≡ without own v ++ statics → (if b then own ++ statics else x ∷ without (own ++ statics) v) ≡ (if b then own else x ∷ without own v) ++ statics
      here true below = refl
      here false below = ap (λ s. x ∷ s) below

  -- what is left is as it was
  pub own_left : (own : List Bound) → are_own own ≡ true → are_own (without own v) ≡ true
  own_left [] h = refl
  own_left (x ∷ own) h = here (same_variable x.variable v) (is_static x.variable) refl h (λ h. own_left own h)
    where
      here : (b c : Bool) → is_static x.variable ≡ c → (if c then false else are_own own) ≡ true → (are_own own ≡ true → are_own (without own v) ≡ true) → are_own (if b then own else x ∷ without own v) ≡ true
      here b true e h below = absurd (cc)
      here true false e h below = h
      here false false e h below = ap (λ c. if c then false else are_own (without own v)) e ∙ below h

  pub static_left : (scope : List Bound) → are_static scope ≡ true → are_static (without scope v) ≡ true
  static_left [] h = refl
  static_left (x ∷ scope) h = here (same_variable x.variable v) (is_static x.variable) refl h (λ h. static_left scope h)
    where
      here : (b c : Bool) → is_static x.variable ≡ c → (if c then are_static scope else false) ≡ true → (are_static scope ≡ true → are_static (without scope v) ≡ true) → are_static (if b then scope else x ∷ without scope v) ≡ true
      here b false e h below = absurd (cc)
      here true true e h below = h
      here false true e h below = ap (λ c. if c then are_static (without scope v) else false) e ∙ below h

-- whether a call has variables of its own
pub own_tell : (own statics : List Bound) (b : Bool) → are_own own ≡ true → are_static statics ≡ true → ((b ≡ true) ↔ (own ≡ [])) → b ≡ are_static (own ++ statics)
own_tell [] statics b h i tells = tells.1 refl ∙ sym i
own_tell (x ∷ own) statics b h i tells = here (is_static x.variable) h b tells
  where
    here : (c : Bool) → (if c then false else are_own own) ≡ true → (b : Bool) → ((b ≡ true) ↔ (x ∷ own ≡ [])) → b ≡ (if c then are_static (own ++ statics) else false)
    here true h b tells = absurd (cc)
    here false h true tells = absurd (let e = tells.0 refl in cc)
    here false h false tells = refl

pub one_own : (scope : List Bound) (v : Variable) (block : ℕ) → is_static v ≡ false → are_own scope ≡ true → are_own (record { variable = v; block = block } ∷ scope) ≡ true
one_own scope v block h i = ap (λ b. if b then false else are_own scope) h ∙ i

-- one more of a list is copied
pub one_copied : (its : List HeldBound) (i : ℕ) (d : HeldBound) (scope new : List Bound) → i < length its → new ≡ bound_of (get_or its i d) ∷ scope → scope ≡ scope_of (take i its) → new ≡ scope_of (take (suc i) its)
one_copied its i d scope new h is below = is ∙ ap (λ s. bound_of (get_or its i d) ∷ s) below ∙ sym (ap scope_of (take-suc its i d h) ∙ scope_behind (take i its) (get_or its i d))
