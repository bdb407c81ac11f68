-- Lists that rise by a key and have the same members are one.
use Rattle.std.proofs.Common.{◌≡◌, zero, suc, ◌⊎◌, inl, inr, ℕ, List, [], ◌∷◌, map, length, refl, sym, ap, subst, ◌∙◌, arith}
use Rattle.std.specs.Prelude.{Contains}
use Rattle.std.specs.Ordering.{ordering_index}
use Rattle.std.specs.Cmp.{IsTotalOrder}
use Rattle.std.specs.declared.cmp.Ordering.{Ordering}
use Rattle.std.specs.declared.cmp.Ordering.TheVariants.{Less, Equal}
use Rattle.std.specs.List.Sorted.{IsStrictlySortedBy}
use Rattle.std.proofs.lemmas.Cmp.{tied_itself}
use Rattle.std.proofs.lemmas.List.Elements.{All-contains}
use Rattle.std.proofs.lemmas.List.{length-map, get_or-map}
use Rattle.lt_cover.proofs.Rising.{rise_head, rise_tail}

contains_map : {X Y : Type 0} (f : X → Y) (xs : List X) (x : X) → Contains xs x → Contains (map f xs) (f x)
contains_map f xs x (k, within, is) =
    (k, (let long : length (map f xs) ≡ length xs = length-map xs f in omega arith), get_or-map f xs k x (f x) within ∙ ap f is)

first_or_behind : {X : Type 0} (x : X) (xs : List X) (z : X) → Contains (x ∷ xs) z → (x ≡ z) ⊎ Contains xs z
first_or_behind x xs z (zero, within, is) = inl is
first_or_behind x xs z (suc k, within, is) = inr (k, omega (arith, within), is)

has_behind : {X : Type 0} (x : X) (xs : List X) (z : X) → Contains xs z → Contains (x ∷ xs) z
has_behind x xs z (k, within, is) = (suc k, omega (arith, within), is)

module _ {X K : Type 0} {R : K → K → Ordering} (o : IsTotalOrder R) (key : X → K) where
  abbrev Rises : List X → Type 0
  Rises xs = IsStrictlySortedBy R (map key xs)

  not_below_itself : (a : K) → R a a ≡ Less → ⊥
  not_below_itself a less =
      let tied : R a a ≡ Equal = tied_itself o a in
      absurd (omega (arith, ap ordering_index less, ap ordering_index tied))

  below_behind : (x : X) (xs : List X) (z : X) → Rises (x ∷ xs) → Contains xs z → R (key x) (key z) ≡ Less
  below_behind x xs z rise has =
      All-contains (λ k. R (key x) k ≡ Less) (map key xs) (key z) (rise_head R (key x) (map key xs) rise) (contains_map key xs z has)

  same_first : (x y : X) (xs ys : List X) → Rises (x ∷ xs) → Rises (y ∷ ys) → (y ≡ x) ⊎ Contains ys x → (x ≡ y) ⊎ Contains xs y → x ≡ y
  same_first x y xs ys left right (inl is) other = sym is
  same_first x y xs ys left right (inr has) (inl is) = is
  same_first x y xs ys left right (inr has) (inr other) =
      absurd (not_below_itself (key x) (o.trans (key x) (key y) (key x) (below_behind x xs y left other) (below_behind y ys x right has)))

  -- what one has behind the first, the other has there
  behind_both :
      (x y : X) (xs ys : List X) → x ≡ y → Rises (x ∷ xs) → ((z : X) → Contains (x ∷ xs) z → Contains (y ∷ ys) z)
      → (z : X) → Contains xs z → Contains ys z
  behind_both x y xs ys same rise into z has = of (first_or_behind y ys z (into z (has_behind x xs z has)))
    where
      of : (y ≡ z) ⊎ Contains ys z → Contains ys z
      of (inl is) = absurd (not_below_itself (key x) (subst (λ (w : X). R (key x) (key w) ≡ Less) (sym (same ∙ is)) (below_behind x xs z rise has)))
      of (inr there) = there

  pub same_lists :
      (xs ys : List X) → Rises xs → Rises ys → ((z : X) → Contains xs z → Contains ys z) → ((z : X) → Contains ys z → Contains xs z) → xs ≡ ys
  same_lists [] [] left right into from = refl
  same_lists [] (y ∷ ys) left right into from = let none = from y (0, omega arith, refl) in absurd (omega (arith, none.1))
  same_lists (x ∷ xs) [] left right into from = let none = into x (0, omega arith, refl) in absurd (omega (arith, none.1))
  same_lists (x ∷ xs) (y ∷ ys) left right into from =
      let first : x ≡ y =
      same_first x y xs ys left right (first_or_behind y ys x (into x (0, omega arith, refl))) (first_or_behind x xs y (from y (0, omega arith, refl))) in
      let rest : xs ≡ ys =
      same_lists xs ys (rise_tail R (key x) (map key xs) left) (rise_tail R (key y) (map key ys) right)
      (behind_both x y xs ys first left into) (behind_both y x ys xs (sym first) right from) in
      λ i. first i ∷ rest i
