-- One turn of the pass over tokens.
use Rattle.std.proofs.Common.{◌≡◌, ℕ, ◌+◌, ◌<◌, ◌≤◌, List, [], ◌∷◌, ◌++◌, length, get_or, drop, map, refl, sym, ap, ◌∙◌, arith, append_assoc, ◌⊎◌, inl, inr}
use Rattle.std.proofs.lemmas.List.{append-nil, at_drop_more, at_drop_all, get_or-map, get_or_append_left, drop-map, length-map, length-append}
use Rattle.std.proofs.Math.Seq.{get_or-append_seam}
use Rattle.std.proofs.lemmas.Bool.{cases_lt}
use Rattle.lt_token.specs.Tokens.{Token}
use Rattle.lt_token.specs.Nest.{deepest, weight, turned, nests_from, nests, nest, step_of, begins_with_else, levels_after, IsShallow, IsFirstDeep}

-- The nests so far are right, none is too deep, and what follows completes them.
pub record GoesOn (tokens : List Token) (done : List ℕ) (last : ℕ) (levels : List ℕ) (at : ℕ) : Type 0 where
  pub many : length done ≡ at
  pub light : last ≤ deepest
  pub shallow : (k : ℕ) → k < length done → get_or done k 0 ≤ deepest
  pub goes_on : done ++ nests_from levels (drop at tokens) ≡ nests tokens

pub begins : (tokens : List Token) → GoesOn tokens [] 0 (0 ∷ []) 0
unfolding nests
begins tokens = record { many = refl; light = omega arith; shallow = λ k h. absurd (omega arith); goes_on = refl }

front : {X : Type 0} (f : X → Token) (xs : List X) (at : ℕ) (d : X) → at < length xs → drop at (map f xs) ≡ f (get_or xs at d) ∷ drop (at + 1) (map f xs)
front f xs at d h =
    at_drop_more (λ (ts : List Token). ts) (map f xs) at (f d) (omega (arith, length-map xs f))
    ∙ ap (λ (t : Token). t ∷ drop (at + 1) (map f xs)) (get_or-map f xs at d (f d) h)

-- what is known behind a token
module _ {X : Type 0} (f : X → Token) (xs : List X) (at : ℕ) (d : X) (h : at < length xs) (done : List ℕ) (last : ℕ) (levels new : List ℕ) (after : List X)
    (left : after ≡ drop (at + 1) xs) (is : new ≡ levels_after (step_of (f (get_or xs at d)).kind (f (get_or xs at d)).text) (begins_with_else (map f after)) levels)
    (so_far : GoesOn (map f xs) done last levels at) where
  next : done ++ weight new ∷ nests_from new (drop (at + 1) (map f xs)) ≡ nests (map f xs)
  next =
      let rest : map f after ≡ drop (at + 1) (map f xs) = ap (map f) left ∙ sym (drop-map f (at + 1) xs) in
      let is' : new ≡ turned (f (get_or xs at d)) (drop (at + 1) (map f xs)) levels =
      is ∙ ap (λ (ts : List Token). turned (f (get_or xs at d)) ts levels) rest in
      ap (λ (ls : List ℕ). done ++ weight ls ∷ nests_from ls (drop (at + 1) (map f xs))) is'
      ∙ ap (λ (ts : List Token). done ++ nests_from levels ts) (sym (front f xs at d h))
      ∙ so_far.goes_on

  below : weight new ≤ deepest → (k : ℕ) → k < length (done ++ weight new ∷ []) → (k < length done) ⊎ (length done ≤ k) → get_or (done ++ weight new ∷ []) k 0 ≤ deepest
  below light k small (inl less) = omega (arith, get_or_append_left done (weight new ∷ []) 0 k less, so_far.shallow k less)
  below light k small (inr most) =
      let here : k ≡ length done = omega (arith, length-append done (weight new ∷ [])) in
      rw here (omega (arith, get_or-append_seam done (weight new) [] 0))

  pub turn : weight new ≤ deepest → GoesOn (map f xs) (done ++ weight new ∷ []) (weight new) new (at + 1)
  turn light = record {
    many = omega (arith, length-append done (weight new ∷ []), so_far.many);
    light = light;
    shallow = λ k small. below light k small (cases_lt k (length done));
    goes_on = append_assoc done (weight new ∷ []) (nests_from new (drop (at + 1) (map f xs))) ∙ next;
  }

  pub deep : deepest < weight new → IsFirstDeep (map f xs) (f (get_or xs at d)).at
  unfolding nests
  deep heavy =
      let many = so_far.many in
      let here : nest (map f xs) at ≡ weight new =
      ap (λ (ns : List ℕ). get_or ns at 0) (sym next) ∙ ap (λ (n : ℕ). get_or (done ++ weight new ∷ nests_from new (drop (at + 1) (map f xs))) n 0) (sym many)
      ∙ get_or-append_seam done (weight new) (nests_from new (drop (at + 1) (map f xs))) 0 in
      let place : get_or (map (λ (t : Token). t.at) (map f xs)) at 0 ≡ (f (get_or xs at d)).at =
      get_or-map (λ (t : Token). t.at) (map f xs) at (f d) 0 (omega (arith, length-map xs f)) ∙ ap (λ (t : Token). t.at) (get_or-map f xs at d (f d) h) in
      (at, omega (arith, length-map xs f), place, omega (arith, here), λ j less. earlier j less)
    where
      earlier : (j : ℕ) → j < at → nest (map f xs) j ≤ deepest
      earlier j less =
          let inside : j < length done = omega (arith, so_far.many) in
          let e : nest (map f xs) j ≡ get_or done j 0 =
          ap (λ (ns : List ℕ). get_or ns j 0) (sym next) ∙ get_or_append_left done (weight new ∷ nests_from new (drop (at + 1) (map f xs))) 0 j inside in
          omega (arith, e, so_far.shallow j inside)

pub over : (tokens : List Token) (done : List ℕ) (last : ℕ) (levels : List ℕ) (at : ℕ) → length tokens ≤ at → GoesOn tokens done last levels at → (done ≡ nests tokens) × IsShallow tokens
over tokens done last levels at h so_far =
    let all : done ≡ nests tokens =
    sym (append-nil done) ∙ ap (λ (ns : List ℕ). done ++ ns) (sym (at_drop_all (nests_from levels) tokens at h)) ∙ so_far.goes_on in
    (all, λ k less. (let e : nest tokens k ≡ get_or done k 0 = ap (λ (ns : List ℕ). get_or ns k 0) (sym all) in omega (arith, e, so_far.shallow k (omega (arith, so_far.many)))))
