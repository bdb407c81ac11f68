-- References of which each is to something that is there.
use Rattle.std.proofs.Common.{◌≡◌, refl, ap, ◌∙◌, ℕ, zero, suc, ◌≤◌, Bool, true, List, [], ◌∷◌, ◌++◌, length, Option, Some, None, arith}
use Rattle.std.specs.Prelude.{slice_set, is_some}
use Rattle.std.specs.List.{flat_map}
use Rattle.lt_tree.specs.Typing.Types.{CType}
use Rattle.lt_tree.specs.Typing.Operands.{holds}
use Rattle.lt_tree.specs.Typing.Entities.{Life, declared_among}
use Rattle.lt_tree.specs.Typing.Ranges.{Reference, to_object, to_local, to_parameter, to_struct, to_function, to_call, to_label, Lists, lives, is_automatic, is_parameter, takes, bound_by, IsThere, AreThere}

-- all of these are there
pub record Has (b : Lists) (rs : List Reference) : Type 0 where
  pub each : AreThere b rs

pub none : {b : Lists} → Has b []
none = record { each = tt }

pub one : {b : Lists} {r : Reference} → IsThere b r → Has b (r ∷ [])
one h = record { each = (h, tt) }

pub cons : {b : Lists} {r : Reference} {rs : List Reference} → IsThere b r → Has b rs → Has b (r ∷ rs)
cons h hs = record { each = (h, hs.each) }

pub head : {b : Lists} {r : Reference} {rs : List Reference} → Has b (r ∷ rs) → IsThere b r
head h = h.each.0

pub tail : {b : Lists} {r : Reference} {rs : List Reference} → Has b (r ∷ rs) → Has b rs
tail h = record { each = h.each.1 }

pub both : {b : Lists} {rs ss : List Reference} → Has b rs → Has b ss → Has b (rs ++ ss)
both {rs = []} h i = i
both {rs = r ∷ rs} h i = cons (head h) (both (tail h) i)

pub front : {b : Lists} {rs : List Reference} (ss : List Reference) → Has b (rs ++ ss) → Has b rs
front {rs = []} ss h = none
front {rs = r ∷ rs} ss h = cons (head h) (front {rs = rs} ss (tail h))

pub back : {b : Lists} (rs : List Reference) {ss : List Reference} → Has b (rs ++ ss) → Has b ss
back [] h = h
back (r ∷ rs) h = back rs (tail h)

-- ---- what is there stays there

pub record Kept (old new : Lists) : Type 0 where
  pub objects : length old.objects ≤ length new.objects
  pub lives_on : (so : Life → Bool) (n : ℕ) → lives so old.objects n ≡ true → lives so new.objects n ≡ true
  pub structs : length old.structs ≤ length new.structs
  pub declared : (name : List ℕ) (t : CType) → declared_among name old.declared ≡ Some t → declared_among name new.declared ≡ Some t
  pub labels : (id : ℕ) (names : List (List ℕ)) → bound_by id old.labels ≡ Some names → bound_by id new.labels ≡ Some names

pub same : {b : Lists} → Kept b b
same {b} = record { objects = omega arith; lives_on = λ so n h. h; structs = omega arith; declared = λ name t h. h; labels = λ id names h. h }

pub then_kept : {a b c : Lists} → Kept a b → Kept b c → Kept a c
then_kept {a} {b} {c} p q = record {
  objects = omega arith;
  lives_on = λ so n h. q.lives_on so n (p.lives_on so n h);
  structs = omega arith;
  declared = λ name t h. q.declared name t (p.declared name t h);
  labels = λ id names h. q.labels id names (p.labels id names h);
}

-- a function that is declared
pub function_there : (b : Lists) (name : List ℕ) {t : CType} → declared_among name b.declared ≡ Some t → IsThere b (to_function name)
function_there b name is = ap is_some is

pub call_there : (b : Lists) (name : List ℕ) (n : ℕ) {t : CType} → declared_among name b.declared ≡ Some t → takes n t ≡ true → IsThere b (to_call name n)
call_there b name n is right = ap (holds (takes n)) is ∙ right

-- where a test of a type holds, there is one
pub there : (test : CType → Bool) (found : Option CType) → holds test found ≡ true → (t : CType) × (found ≡ Some t) × (test t ≡ true)
there test None h = absurd cc
there test (Some t) h = (t, refl, h)

pub some : (found : Option CType) → is_some found ≡ true → (t : CType) × (found ≡ Some t)
some None h = absurd cc
some (Some t) h = (t, refl)

stays : {b b' : Lists} → Kept b b' → (r : Reference) → IsThere b r → IsThere b' r
stays {b} {b'} kept (to_object n) h = let le = kept.objects in omega arith
stays {b} {b'} kept (to_struct k) h = let le = kept.structs in omega arith
stays kept (to_local n) h = kept.lives_on is_automatic n h
stays kept (to_parameter n) h = kept.lives_on is_parameter n h
stays {b} {b'} kept (to_function name) h =
    let it = some (declared_among name b.declared) h in function_there b' name (kept.declared name it.0 it.1)
stays {b} {b'} kept (to_call name n) h =
    let it = there (takes n) (declared_among name b.declared) h in call_there b' name n (kept.declared name it.0 it.1) it.2
stays kept (to_label id names) h = kept.labels id names h

pub later : {b b' : Lists} {rs : List Reference} → Kept b b' → Has b rs → Has b' rs
later {rs = []} kept h = none
later {rs = r ∷ rs} kept h = cons (stays kept r (head h)) (later kept (tail h))

-- ---- lists

module _ {A : Type 0} (of : A → List Reference) where
  -- with one more
  pub pushed : {b : Lists} (xs : List A) (a : A) → Has b (flat_map of xs) → Has b (of a) → Has b (flat_map of (xs ++ a ∷ []))
  pushed [] a h i = both i none
  pushed (x ∷ xs) a h i = both (front {rs = of x} _ h) (pushed xs a (back (of x) h) i)

  -- with one changed
  pub changed : {b : Lists} (xs : List A) (n : ℕ) (a : A) → Has b (flat_map of xs) → Has b (of a) → Has b (flat_map of (slice_set xs n a))
  changed [] n a h i = none
  changed (x ∷ xs) zero a h i = both i (back (of x) h)
  changed (x ∷ xs) (suc n) a h i = both (front {rs = of x} _ h) (changed xs n a (back (of x) h) i)

  pub appended : {b : Lists} (xs ys : List A) → Has b (flat_map of xs) → Has b (flat_map of ys) → Has b (flat_map of (xs ++ ys))
  appended [] ys h i = i
  appended (x ∷ xs) ys h i = both (front {rs = of x} _ h) (appended xs ys (back (of x) h) i)
