-- A walk along two lists whose keys rise.
use Rattle.std.proofs.Common.{◌≡◌, suc, zero, List, [], ◌∷◌, ◌++◌, length, map, refl, sym, ap, subst, ◌∙◌, arith, inl, inr, append_assoc}
use Rattle.std.specs.Prelude.{All, Contains, ◌⊎◌, ◌↔◌}
use Rattle.std.specs.Ordering.{ordering_index, ordering_reverse}
use Rattle.std.specs.Cmp.{IsTotalOrder}
use Rattle.std.specs.declared.cmp.Ordering.{Ordering}
use Rattle.std.specs.declared.cmp.Ordering.TheVariants.{Less, Greater}
use Rattle.std.specs.List.Sorted.{IsStrictlySortedBy}
use Rattle.std.proofs.lemmas.Cmp.{tied_itself}
use Rattle.std.proofs.lemmas.List.{append-nil}
use Rattle.std.proofs.lemmas.List.Elements.{All-nil, All-cons, All-head, All-tail, All-map, All-append, All-push, All-weaker, All-contains, Contains-append_left, Contains-append_right, Contains-append_cases, Contains-push_cases}
use Rattle.lt_cover.proofs.Rising.{rise_head, rise_tail, rise_cons, rise_nil}

-- What is out rises with what is left of either list; what a list has is out or left of it, and what is out or left was in one.
pub record IsWalk {X K : Type 0} (R : K → K → Ordering) (key : X → K) (a b out left right : List X) : Type 0 where
  pub left_rises : IsStrictlySortedBy R (map key (out ++ left))
  pub right_rises : IsStrictlySortedBy R (map key (out ++ right))
  pub of_left : (z : X) → Contains a z → Contains (out ++ left) z
  pub of_right : (z : X) → Contains b z → Contains (out ++ right) z
  pub is_out : (z : X) → Contains out z → Contains a z ⊎ Contains b z
  pub in_left : (z : X) → Contains left z → Contains a z
  pub in_right : (z : X) → Contains right z → Contains b z

all_front : {X : Type 0} (P : X → Type 0) (xs ys : List X) → All P (xs ++ ys) → All P xs
all_front P [] ys h = All-nil P
all_front P (x ∷ xs) ys h = All-cons P x xs (All-head P x (xs ++ ys) h) (all_front P xs ys (All-tail P x (xs ++ ys) h))

all_back : {X : Type 0} (P : X → Type 0) (xs ys : List X) → All P (xs ++ ys) → All P ys
all_back P [] ys h = h
all_back P (x ∷ xs) ys h = all_back P xs ys (All-tail P x (xs ++ ys) h)

all_unmapped : {X K : Type 0} (P : K → Type 0) (key : X → K) (xs : List X) → All P (map key xs) → All (λ z. P (key z)) xs
all_unmapped P key [] h = All-nil (λ z. P (key z))
all_unmapped P key (x ∷ xs) h = All-cons (λ z. P (key z)) x xs (All-head P (key x) (map key xs) h) (all_unmapped P key xs (All-tail P (key x) (map key xs) h))

either_way : {A B : Type 0} → A ⊎ B → B ⊎ A
either_way (inl a) = inr a
either_way (inr b) = inl b

first_of : {X : Type 0} (x : X) (xs : List X) → Contains (x ∷ xs) x
first_of x xs = (0, omega arith, refl)

behind_of : {X : Type 0} (x : X) (xs : List X) (z : X) → Contains xs z → Contains (x ∷ xs) z
behind_of x xs z h = Contains-append_right (x ∷ []) xs z h

only : {X : Type 0} (x z : X) → Contains (x ∷ []) z → x ≡ z
only x z (zero, within, is) = is
only x z (suc i, within, is) = absurd (omega (arith, within))

-- the first, or one behind it
first_or_behind : {X : Type 0} (x : X) (xs : List X) (z : X) → Contains (x ∷ xs) z → (x ≡ z) ⊎ Contains xs z
first_or_behind x xs z h = by (Contains-append_cases (x ∷ []) xs z h)
  where
    by : Contains (x ∷ []) z ⊎ Contains xs z → (x ≡ z) ⊎ Contains xs z
    by (inl k) = inl (only x z k)
    by (inr k) = inr k

-- one more element in the midst
inserted : {X : Type 0} (out : List X) (x : X) (right : List X) (z : X) → Contains (out ++ right) z → Contains ((out ++ x ∷ []) ++ right) z
inserted out x right z h = by (Contains-append_cases out right z h)
  where
    by : Contains out z ⊎ Contains right z → Contains ((out ++ x ∷ []) ++ right) z
    by (inl k) = Contains-append_left (out ++ x ∷ []) right z (Contains-append_left out (x ∷ []) z k)
    by (inr k) = Contains-append_right (out ++ x ∷ []) right z k

regrouped : {X : Type 0} (P : List X → Type 0) (out : List X) (x : X) (l : List X) → P (out ++ x ∷ l) → P ((out ++ x ∷ []) ++ l)
regrouped P out x l h = subst P (sym (append_assoc out (x ∷ []) l)) h

no_elements : {X : Type 0} (xs : List X) → length xs ≡ 0 → xs ≡ []
no_elements [] e = refl
no_elements (x ∷ xs) e = absurd (omega (arith, e))

module _ {X K : Type 0} {R : K → K → Ordering} (o : IsTotalOrder R) (key : X → K) where
  abbrev Rises : List X → Type 0
  Rises xs = IsStrictlySortedBy R (map key xs)

  abbrev IsAbove : X → X → Type 0
  IsAbove x z = R (key x) (key z) ≡ Less

  not_below_itself : (k : K) → R k k ≡ Less → ⊥
  not_below_itself k h = absurd (omega (arith, ap ordering_index h, ap ordering_index (tied_itself o k)))

  above_first : (x : X) (xs : List X) → Rises (x ∷ xs) → All (IsAbove x) xs
  above_first x xs h = all_unmapped (λ k. R (key x) k ≡ Less) key xs (rise_head R (key x) (map key xs) h)

  rises_cons : (x : X) (xs : List X) → All (IsAbove x) xs → Rises xs → Rises (x ∷ xs)
  rises_cons x xs h k = rise_cons R (key x) (map key xs) (All-map (λ y. R (key x) y ≡ Less) key xs h) k

  rises_tail : (x : X) (xs : List X) → Rises (x ∷ xs) → Rises xs
  rises_tail x xs h = rise_tail R (key x) (map key xs) h

  rises_back : (xs ys : List X) → Rises (xs ++ ys) → Rises ys
  rises_back [] ys h = h
  rises_back (x ∷ xs) ys h = rises_back xs ys (rises_tail x (xs ++ ys) h)

  rises_front : (xs ys : List X) → Rises (xs ++ ys) → Rises xs
  rises_front [] ys h = rise_nil R
  rises_front (x ∷ xs) ys h = rises_cons x xs (all_front (IsAbove x) xs ys (above_first x (xs ++ ys) h)) (rises_front xs ys (rises_tail x (xs ++ ys) h))

  -- the lesser of two that may come next
  rises_between : (out : List X) (x y : X) (l r : List X) → Rises (out ++ x ∷ l) → Rises (out ++ y ∷ r) → IsAbove x y → Rises ((out ++ x ∷ []) ++ y ∷ r)
  rises_between [] x y l r h k less = rises_cons x (y ∷ r) (All-cons (IsAbove x) y r less (All-weaker (IsAbove y) (IsAbove x) (λ z more. o.trans (key x) (key y) (key z) less more) r (above_first y r k))) k
  rises_between (z ∷ out) x y l r h k less =
      let left = above_first z (out ++ x ∷ l) h in
      let right = above_first z (out ++ y ∷ r) k in
      let front = All-push (IsAbove z) out x (all_front (IsAbove z) out (x ∷ l) left) (All-head (IsAbove z) x l (all_back (IsAbove z) out (x ∷ l) left)) in
      rises_cons z ((out ++ x ∷ []) ++ y ∷ r) (All-append (IsAbove z) (out ++ x ∷ []) (y ∷ r) front (all_back (IsAbove z) out (y ∷ r) right))
      (rises_between out x y l r (rises_tail z (out ++ x ∷ l) h) (rises_tail z (out ++ y ∷ r) k) less)

  -- elements with the same key are the same
  one_of_key : (xs : List X) (u v : X) → Rises xs → Contains xs u → Contains xs v → key u ≡ key v → u ≡ v
  one_of_key [] u v h i j e = absurd (omega (arith, i.1))
  one_of_key (x ∷ xs) u v h i j e = by (one_of_key xs u v (rises_tail x xs h)) (first_or_behind x xs u i) (first_or_behind x xs v j)
    where
      behind : (w : X) → Contains xs w → key x ≡ key w → ⊥
      behind w k same = not_below_itself (key x) (ap (R (key x)) same ∙ All-contains (IsAbove x) xs w (above_first x xs h) k)

      by : (Contains xs u → Contains xs v → key u ≡ key v → u ≡ v) → (x ≡ u) ⊎ Contains xs u → (x ≡ v) ⊎ Contains xs v → u ≡ v
      by rest (inl p) (inl q) = sym p ∙ q
      by rest (inl p) (inr q) = absurd (behind v q (ap key p ∙ e))
      by rest (inr p) (inl q) = absurd (behind u p (ap key q ∙ sym e))
      by rest (inr p) (inr q) = rest p q e

  -- what is below the first that is left is out
  out_before : (out : List X) (x : X) (l : List X) (u : X) → Rises (out ++ x ∷ l) → Contains (out ++ x ∷ l) u → R (key u) (key x) ≡ Less → Contains out u
  out_before out x l u h has less = by (Contains-append_cases out (x ∷ l) u has)
    where
      rest : (x ≡ u) ⊎ Contains l u → ⊥
      rest (inl e) = not_below_itself (key x) (ap (λ z. R (key z) (key x)) e ∙ less)
      rest (inr k) = not_below_itself (key x) (o.trans (key x) (key u) (key x) (All-contains (IsAbove x) l u (above_first x l (rises_back out (x ∷ l) h)) k) less)

      by : Contains out u ⊎ Contains (x ∷ l) u → Contains out u
      by (inl k) = k
      by (inr k) = absurd (rest (first_or_behind x l u k))

  pub walk_starts : (a b : List X) → Rises a → Rises b → IsWalk R key a b [] a b
  walk_starts a b h k = record {
    left_rises = h;
    right_rises = k;
    of_left = λ z i. i;
    of_right = λ z i. i;
    is_out = λ z i. absurd (omega (arith, i.1));
    in_left = λ z i. i;
    in_right = λ z i. i;
  }

  walk_turned : (a b out left right : List X) → IsWalk R key a b out left right → IsWalk R key b a out right left
  walk_turned a b out left right h = record {
    left_rises = h.right_rises;
    right_rises = h.left_rises;
    of_left = h.of_right;
    of_right = h.of_left;
    is_out = λ z i. either_way (h.is_out z i);
    in_left = h.in_right;
    in_right = h.in_left;
  }

  now_out : (a b out left right : List X) (x : X) → IsWalk R key a b out (x ∷ left) right → (z : X) → Contains (out ++ x ∷ []) z → Contains a z ⊎ Contains b z
  now_out a b out left right x h z i = by (Contains-push_cases out x z i)
    where
      by : Contains out z ⊎ (x ≡ z) → Contains a z ⊎ Contains b z
      by (inl k) = h.is_out z k
      by (inr e) = inl (subst (Contains a) e (h.in_left x (first_of x left)))

  walk_on : (a b out left right : List X) (x : X) → IsWalk R key a b out (x ∷ left) right → Rises ((out ++ x ∷ []) ++ right) → IsWalk R key a b (out ++ x ∷ []) left right
  walk_on a b out left right x h rises = record {
    left_rises = regrouped Rises out x left h.left_rises;
    right_rises = rises;
    of_left = λ z i. regrouped (λ w. Contains w z) out x left (h.of_left z i);
    of_right = λ z i. inserted out x right z (h.of_right z i);
    is_out = now_out a b out left right x h;
    in_left = λ z i. h.in_left z (behind_of x left z i);
    in_right = h.in_right;
  }

  -- the first of the left list is the lesser
  walk_left : (a b out left right : List X) (x y : X) → IsWalk R key a b out (x ∷ left) (y ∷ right) → R (key x) (key y) ≡ Less → IsWalk R key a b (out ++ x ∷ []) left (y ∷ right)
  walk_left a b out left right x y h less = walk_on a b out left (y ∷ right) x h (rises_between out x y left right h.left_rises h.right_rises less)

  -- the first of the right list is the lesser
  walk_right : (a b out left right : List X) (x y : X) → IsWalk R key a b out (x ∷ left) (y ∷ right) → R (key y) (key x) ≡ Less → IsWalk R key a b (out ++ y ∷ []) (x ∷ left) right
  walk_right a b out left right x y h less =
      walk_turned b a (out ++ y ∷ []) right (x ∷ left) (walk_left b a out right left y x (walk_turned a b out (x ∷ left) (y ∷ right) h) less)

  -- nothing is left of the right list
  walk_alone : (a b out left : List X) (x : X) → IsWalk R key a b out (x ∷ left) [] → IsWalk R key a b (out ++ x ∷ []) left []
  walk_alone a b out left x h =
      let rises : Rises (out ++ x ∷ []) = rises_front (out ++ x ∷ []) left (regrouped Rises out x left h.left_rises) in
      walk_on a b out left [] x h (subst Rises (sym (append-nil (out ++ x ∷ []))) rises)

  -- both have it
  walk_both : (a b out left right : List X) (x : X) → IsWalk R key a b out (x ∷ left) (x ∷ right) → IsWalk R key a b (out ++ x ∷ []) left right
  walk_both a b out left right x h = record {
    left_rises = regrouped Rises out x left h.left_rises;
    right_rises = regrouped Rises out x right h.right_rises;
    of_left = λ z i. regrouped (λ w. Contains w z) out x left (h.of_left z i);
    of_right = λ z i. regrouped (λ w. Contains w z) out x right (h.of_right z i);
    is_out = now_out a b out left (x ∷ right) x h;
    in_left = λ z i. h.in_left z (behind_of x left z i);
    in_right = λ z i. h.in_right z (behind_of x right z i);
  }

  -- nothing is left of the left list
  walk_ends : (a b out right : List X) → IsWalk R key a b out [] right → (z : X) → Contains (out ++ right) z ↔ (Contains a z ⊎ Contains b z)
  walk_ends a b out right h z = (λ i. there (Contains-append_cases out right z i), back)
    where
      there : Contains out z ⊎ Contains right z → Contains a z ⊎ Contains b z
      there (inl k) = h.is_out z k
      there (inr k) = inr (h.in_right z k)

      back : Contains a z ⊎ Contains b z → Contains (out ++ right) z
      back (inl k) = Contains-append_left out right z (subst (λ w. Contains w z) (append-nil out) (h.of_left z k))
      back (inr k) = h.of_right z k

  -- elements of both lists whose key is below the first keys that are left are the same
  pub walk_agrees : (a b out left right : List X) (x y u v : X) → IsWalk R key a b out (x ∷ left) (y ∷ right) → Contains a u → Contains b v → key u ≡ key v → R (key u) (key x) ≡ Less → R (key v) (key y) ≡ Less → u ≡ v
  walk_agrees a b out left right x y u v h i j e p q =
      one_of_key out u v (rises_front out (x ∷ left) h.left_rises) (out_before out x left u h.left_rises (h.of_left u i) p) (out_before out y right v h.right_rises (h.of_right v j) q) e

  -- the same of lists and orders by other names
  pub took_left : (a b out out2 l r left right : List X) (x y : X) → IsWalk R key a b out l r → l ≡ x ∷ left → r ≡ y ∷ right → out2 ≡ out ++ x ∷ [] → R (key x) (key y) ≡ Less → IsWalk R key a b out2 left r
  took_left a b out out2 l r left right x y h el er eo less =
      let here : IsWalk R key a b out (x ∷ left) (y ∷ right) = subst (λ w. IsWalk R key a b out (x ∷ left) w) er (subst (λ w. IsWalk R key a b out w r) el h) in
      subst (λ w. IsWalk R key a b w left r) (sym eo) (subst (λ w. IsWalk R key a b (out ++ x ∷ []) left w) (sym er) (walk_left a b out left right x y here less))

  pub took_right : (a b out out2 l r left right : List X) (x y : X) → IsWalk R key a b out l r → l ≡ x ∷ left → r ≡ y ∷ right → out2 ≡ out ++ y ∷ [] → R (key x) (key y) ≡ Greater → IsWalk R key a b out2 l right
  took_right a b out out2 l r left right x y h el er eo more =
      let here : IsWalk R key a b out (x ∷ left) (y ∷ right) = subst (λ w. IsWalk R key a b out (x ∷ left) w) er (subst (λ w. IsWalk R key a b out w r) el h) in
      let less : R (key y) (key x) ≡ Less = o.antisymm (key y) (key x) ∙ ap ordering_reverse more in
      subst (λ w. IsWalk R key a b w l right) (sym eo) (subst (λ w. IsWalk R key a b (out ++ y ∷ []) w right) (sym el) (walk_right a b out left right x y here less))

  pub took_both : (a b out out2 l r left right : List X) (x y : X) → IsWalk R key a b out l r → l ≡ x ∷ left → r ≡ y ∷ right → out2 ≡ out ++ x ∷ [] → x ≡ y → IsWalk R key a b out2 left right
  took_both a b out out2 l r left right x y h el er eo same =
      let here : IsWalk R key a b out (x ∷ left) (x ∷ right) = subst (λ w. IsWalk R key a b out (x ∷ left) w) (er ∙ ap (λ z. z ∷ right) (sym same)) (subst (λ w. IsWalk R key a b out w r) el h) in
      subst (λ w. IsWalk R key a b w left right) (sym eo) (walk_both a b out left right x here)

  pub took_alone : (a b out out2 l r left : List X) (x : X) → IsWalk R key a b out l r → l ≡ x ∷ left → length r ≡ 0 → out2 ≡ out ++ x ∷ [] → IsWalk R key a b out2 left r
  took_alone a b out out2 l r left x h el nr eo =
      let er : r ≡ [] = no_elements r nr in
      let here : IsWalk R key a b out (x ∷ left) [] = subst (λ w. IsWalk R key a b out (x ∷ left) w) er (subst (λ w. IsWalk R key a b out w r) el h) in
      subst (λ w. IsWalk R key a b w left r) (sym eo) (subst (λ w. IsWalk R key a b (out ++ x ∷ []) left w) (sym er) (walk_alone a b out left x here))

  pub all_rises : (a b out all l r : List X) → IsWalk R key a b out l r → all ≡ out ++ r → Rises all
  all_rises a b out all l r h e = subst Rises (sym e) h.right_rises

  pub all_of_either : (a b out all l r : List X) → IsWalk R key a b out l r → length l ≡ 0 → all ≡ out ++ r → (z : X) → Contains all z ↔ (Contains a z ⊎ Contains b z)
  all_of_either a b out all l r h nl e =
      let el : l ≡ [] = no_elements l nl in
      subst (λ w. (z : X) → Contains w z ↔ (Contains a z ⊎ Contains b z)) (sym e) (walk_ends a b out r (subst (λ w. IsWalk R key a b out w r) el h))
