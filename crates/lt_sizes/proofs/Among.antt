-- Calls that stand among others in their order, and the calls of a code among them.
use Rattle.std.proofs.Common.{◌≡◌, refl, sym, ap, subst, ◌∙◌, ℕ, zero, suc, ◌+◌, ◌==◌, ◌≤◌, Bool, true, false, cond, List, [], ◌∷◌, ◌++◌, Option, Some, None, arith, eq-eqb, eqb-true}
use Rattle.std.specs.Prelude.{slice_get}
use Rattle.std.specs.Option.{option_to_list}
use Rattle.std.proofs.lemmas.List.Sums.{sum_by-cons}
use Rattle.lt_ir.specs.declared.code.Code.{Code}
use Rattle.lt_ir.specs.declared.node.Node.{Node}
use Rattle.lt_code.specs.Bounds.{callee, AreCallsAmong}
use Rattle.lt_code.specs.Costs.{callees, times}

pub data IsPartOf : List ℕ → List ℕ → Type 0 where
  done : IsPartOf [] []
  kept : {x : ℕ} {xs ys : List ℕ} → IsPartOf xs ys → IsPartOf (x ∷ xs) (x ∷ ys)
  left_out : {y : ℕ} {xs ys : List ℕ} → IsPartOf xs ys → IsPartOf xs (y ∷ ys)

pub nothing : (ys : List ℕ) → IsPartOf [] ys
nothing [] = done
nothing (y ∷ ys) = left_out (nothing ys)

pub whole : (xs : List ℕ) → IsPartOf xs xs
whole [] = done
whole (x ∷ xs) = kept (whole xs)

pub beside : {xs ys us vs : List ℕ} → IsPartOf xs ys → IsPartOf us vs → IsPartOf (xs ++ us) (ys ++ vs)
beside done q = q
beside (kept p) q = kept (beside p q)
beside (left_out p) q = left_out (beside p q)

pub behind : {xs ys : List ℕ} (zs : List ℕ) → IsPartOf xs ys → IsPartOf xs (zs ++ ys)
behind [] p = p
behind (z ∷ zs) p = left_out (behind zs p)

pub in_front : {xs ys : List ℕ} (zs : List ℕ) → IsPartOf xs ys → IsPartOf xs (ys ++ zs)
in_front zs done = nothing zs
in_front zs (kept p) = kept (in_front zs p)
in_front zs (left_out p) = left_out (in_front zs p)

-- ---- how often a function is called

times-cons : (f g : ℕ) (gs : List ℕ) → times f (g ∷ gs) ≡ cond (g == f) 1 0 + times f gs
times-cons f g gs = sum_by-cons (λ h. cond (h == f) 1 0) g gs

pub times_within : {xs ys : List ℕ} (f : ℕ) → IsPartOf xs ys → times f xs ≤ times f ys
times_within f done = omega arith
times_within f (kept {x} {xs} {ys} p) = omega (arith, times-cons f x xs, times-cons f x ys, times_within f p)
times_within f (left_out {y} {xs} {ys} p) = omega (arith, times-cons f y ys, times_within f p)

-- a call of a list, and the others
data Picked : ℕ → List ℕ → List ℕ → Type 0 where
  here : {x : ℕ} {xs : List ℕ} → Picked x xs (x ∷ xs)
  further : {x y : ℕ} {xs ys : List ℕ} → Picked x xs ys → Picked x (y ∷ xs) (y ∷ ys)

place_of : {x : ℕ} {xs ys : List ℕ} → Picked x xs ys → ℕ
place_of here = 0
place_of (further p) = suc (place_of p)

-- the place of another one
beside_it : {x : ℕ} {xs ys : List ℕ} → Picked x xs ys → ℕ → ℕ
beside_it here k = suc k
beside_it (further p) zero = 0
beside_it (further p) (suc k) = suc (beside_it p k)

it_there : {x : ℕ} {xs ys : List ℕ} (p : Picked x xs ys) → slice_get ys (place_of p) ≡ Some x
unfolding place_of
it_there here = refl
it_there (further p) = it_there p

other_there : {x : ℕ} {xs ys : List ℕ} (p : Picked x xs ys) (k v : ℕ) → slice_get xs k ≡ Some v → slice_get ys (beside_it p k) ≡ Some v
unfolding beside_it
other_there here k v h = h
other_there (further p) zero v h = h
other_there (further p) (suc k) v h = other_there p k v h

others_apart : {x : ℕ} {xs ys : List ℕ} (p : Picked x xs ys) (j k : ℕ) → beside_it p j ≡ beside_it p k → j ≡ k
unfolding beside_it
others_apart here j k h = cc
others_apart (further p) zero zero h = refl
others_apart (further p) zero (suc k) h = absurd cc
others_apart (further p) (suc j) zero h = absurd cc
others_apart (further p) (suc j) (suc k) h = let i : j ≡ k = others_apart p j k (cc) in cc

it_apart : {x : ℕ} {xs ys : List ℕ} (p : Picked x xs ys) (k : ℕ) → place_of p ≡ beside_it p k → ⊥
unfolding place_of beside_it
it_apart here k h = absurd cc
it_apart (further p) zero h = absurd cc
it_apart (further p) (suc k) h = it_apart p k (cc)

times_picked : {x : ℕ} {xs ys : List ℕ} (f : ℕ) → Picked x xs ys → times f ys ≡ cond (x == f) 1 0 + times f xs
times_picked f (here {x} {xs}) = times-cons f x xs
times_picked f (further {x} {y} {xs} {ys} p) = omega (arith, times-cons f y ys, times-cons f y xs, times_picked f p)

record Pick (f : ℕ) (calls : List ℕ) : Type 0 where
  others : List ℕ
  is : Picked f others calls

pick_or_further : (f g : ℕ) (gs : List ℕ) (is_it : Bool) → (g == f) ≡ is_it → 1 ≤ cond is_it 1 0 + times f gs → (1 ≤ times f gs → Pick f gs) → Pick f (g ∷ gs)
pick_or_further f g gs true is h rest = let same : g ≡ f = eqb-true g f is in record { others = gs; is = subst (λ x. Picked f gs (x ∷ gs)) (sym same) here }
pick_or_further f g gs false is h rest = let p = rest (omega arith) in record { others = g ∷ p.others; is = further p.is }

pick : (f : ℕ) (calls : List ℕ) → 1 ≤ times f calls → Pick f calls
pick f [] h = absurd (omega arith)
pick f (g ∷ gs) h = pick_or_further f g gs (g == f) refl (omega (arith, times-cons f g gs)) (λ i. pick f gs i)

-- ---- the places of calls

record Places (nodes : List Node) (calls : List ℕ) : Type 0 where
  place : ℕ → ℕ
  there : (i f : ℕ) (n : Node) → slice_get nodes i ≡ Some n → callee n ≡ Some f → slice_get calls (place i) ≡ Some f
  once : (i j f g : ℕ) (m n : Node) → slice_get nodes i ≡ Some m → callee m ≡ Some f → slice_get nodes j ≡ Some n → callee n ≡ Some g → place i ≡ place j → i ≡ j

place_behind : (ℕ → ℕ) → ℕ → ℕ
place_behind place zero = 0
place_behind place (suc i) = place i

no_call_before : (n : Node) (ns : List Node) (calls : List ℕ) → callee n ≡ None → Places ns calls → Places (n ∷ ns) calls
unfolding place_behind
no_call_before n ns calls is p = record { place = place_behind p.place; there = there; once = once }
  where
    there : (i f : ℕ) (m : Node) → slice_get (n ∷ ns) i ≡ Some m → callee m ≡ Some f → slice_get calls (place_behind p.place i) ≡ Some f
    there zero f m h c = absurd (cc)
    there (suc i) f m h c = p.there i f m h c

    once : (i j f g : ℕ) (l m : Node) → slice_get (n ∷ ns) i ≡ Some l → callee l ≡ Some f → slice_get (n ∷ ns) j ≡ Some m → callee m ≡ Some g → place_behind p.place i ≡ place_behind p.place j → i ≡ j
    once zero j f g l m h c i d same = absurd (cc)
    once (suc i) zero f g l m h c j d same = absurd (cc)
    once (suc i) (suc j) f g l m h c k d same = ap suc (p.once i j f g l m h c k d same)

place_with : {f : ℕ} {others calls : List ℕ} → Picked f others calls → (ℕ → ℕ) → ℕ → ℕ
place_with p place zero = place_of p
place_with p place (suc i) = beside_it p (place i)

call_before : (n : Node) (ns : List Node) (calls : List ℕ) (f : ℕ) (others : List ℕ) → callee n ≡ Some f → Picked f others calls → Places ns others → Places (n ∷ ns) calls
unfolding place_with
call_before n ns calls f others is p q = record { place = place_with p q.place; there = there; once = once }
  where
    there : (i g : ℕ) (m : Node) → slice_get (n ∷ ns) i ≡ Some m → callee m ≡ Some g → slice_get calls (place_with p q.place i) ≡ Some g
    there zero g m h c = let same : Some f ≡ Some g = cc in it_there p ∙ same
    there (suc i) g m h c = other_there p (q.place i) g (q.there i g m h c)

    once : (i j g k : ℕ) (l m : Node) → slice_get (n ∷ ns) i ≡ Some l → callee l ≡ Some g → slice_get (n ∷ ns) j ≡ Some m → callee m ≡ Some k → place_with p q.place i ≡ place_with p q.place j → i ≡ j
    once zero zero g k l m h c i d same = refl
    once zero (suc j) g k l m h c i d same = absurd (it_apart p (q.place j) same)
    once (suc i) zero g k l m h c j d same = absurd (it_apart p (q.place i) (sym same))
    once (suc i) (suc j) g k l m h c o d same = ap suc (q.once i j g k l m h c o d (others_apart p (q.place i) (q.place j) same))

positive : (b : Bool) (n : ℕ) {most : ℕ} → b ≡ true → cond b 1 0 + n ≤ most → 1 ≤ most
positive true n is h = omega arith
positive false n is h = absurd cc

at_least : (f g : ℕ) (gs : List ℕ) {most : ℕ} → (g == f) ≡ true → times f (g ∷ gs) ≤ most → 1 ≤ most
at_least f g gs is h = positive (g == f) (times f gs) is (omega (arith, times-cons f g gs))

step : (n : Node) (ns : List Node) (calls : List ℕ) (found : Option ℕ) → callee n ≡ found → ((f : ℕ) → times f (option_to_list found ++ callees ns) ≤ times f calls)
    → ((others : List ℕ) → ((f : ℕ) → times f (callees ns) ≤ times f others) → Places ns others) → Places (n ∷ ns) calls
step n ns calls None is h rest = no_call_before n ns calls is (rest calls h)
step n ns calls (Some f) is h rest =
    let p = pick f calls (at_least f f (callees ns) (eq-eqb f f refl) (h f)) in
    call_before n ns calls f p.others is p.is (rest p.others (λ g. omega (arith, h g, times-cons g f (callees ns), times_picked g p.is)))

places : (nodes : List Node) (calls : List ℕ) → ((f : ℕ) → times f (callees nodes) ≤ times f calls) → Places nodes calls
places [] calls h = record { place = λ i. 0; there = λ i f n h. absurd cc; once = λ i j f g m n h. absurd cc }
places (n ∷ ns) calls h = step n ns calls (callee n) refl h (places ns)

-- calls that are no more are among these
pub no_more_calls : (code : Code) (calls : List ℕ) → ((f : ℕ) → times f (callees code.nodes) ≤ times f calls) → AreCallsAmong code calls
no_more_calls code calls h =
    let p = places code.nodes calls h in
    record {
      place = p.place;
      there = λ i f c. p.there i f c.node c.stands c.calls;
      once = λ i j f g c d same. p.once i j f g c.node d.node c.stands c.calls d.stands d.calls same;
    }
