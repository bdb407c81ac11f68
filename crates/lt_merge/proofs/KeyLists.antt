-- Keys behind references, by their places.
use Rattle.std.proofs.Common.{◌≡◌, ℕ, ◌+◌, ◌<◌, ◌≤◌, min, List, [], ◌∷◌, ◌++◌, length, get_or, map, take, sym, ap, subst, ◌∙◌, arith}
use Rattle.std.proofs.lemmas.List.{get_or_default, length-map, take_more}
use Rattle.std.proofs.Math.ListN.{get_or-map}
use Rattle.lt_merge.specs.declared.agree.Key.{Key}
use Rattle.lt_cover.specs.Coverage.Merge.{IsLeastMixed}
use Rattle.lt_merge.specs.Keys.{KeysRise, key_of}
use Rattle.lt_merge.proofs.Mixed.{mixed_at, mixed_past, other_way}

abbrev pub none : Key
none = record { id = 0; tag = record { ref_ptr = (0, 0); now = [] } }

at : (a : List Key) (i : ℕ) → i < length a → key_of (get_or a i none) ≡ get_or (map key_of a) i (key_of (get_or a i none))
at a i within = sym (get_or-map key_of a i none) ∙ get_or_default (map key_of a) i (key_of none) (key_of (get_or a i none)) (omega (arith, length-map a key_of))

pub keys_past : (a b : List Key) (i : ℕ) → KeysRise (map key_of a) → i < length a → length b ≤ i → take i (map key_of b) ≡ take i (map key_of a) → IsLeastMixed (map key_of a) (map key_of b) (get_or a i none).id
keys_past a b i h within past same = mixed_past (map key_of a) (map key_of b) i (key_of (get_or a i none)) h (omega (arith, length-map a key_of)) (omega (arith, length-map b key_of)) (at a i within) same

pub keys_differ : (a b : List Key) (i n : ℕ) → KeysRise (map key_of a) → KeysRise (map key_of b) → i < length a → i < length b → take i (map key_of b) ≡ take i (map key_of a) → (key_of (get_or a i none) ≡ key_of (get_or b i none) → ⊥) → n ≡ min (get_or a i none).id (get_or b i none).id → IsLeastMixed (map key_of a) (map key_of b) n
keys_differ a b i n ha hb ia ib same differ is =
    subst (IsLeastMixed (map key_of a) (map key_of b)) (sym is)
    (mixed_at (map key_of a) (map key_of b) i (key_of (get_or a i none)) (key_of (get_or b i none)) ha hb (omega (arith, length-map a key_of)) (omega (arith, length-map b key_of)) (at a i ia) (at b i ib) same differ)

pub keys_more : (a b : List Key) (i : ℕ) → i < length a → i < length b → take i (map key_of b) ≡ take i (map key_of a) → key_of (get_or a i none) ≡ key_of (get_or b i none) → take (i + 1) (map key_of b) ≡ take (i + 1) (map key_of a)
keys_more a b i ia ib same here =
    let x = key_of (get_or a i none) in
    let y = key_of (get_or b i none) in
    let ea : take (i + 1) (map key_of a) ≡ take i (map key_of a) ++ x ∷ [] = take_more (map key_of a) i x (omega (arith, length-map a key_of)) ∙ ap (λ z. take i (map key_of a) ++ z ∷ []) (sym (at a i ia)) in
    let eb : take (i + 1) (map key_of b) ≡ take i (map key_of b) ++ y ∷ [] = take_more (map key_of b) i y (omega (arith, length-map b key_of)) ∙ ap (λ z. take i (map key_of b) ++ z ∷ []) (sym (at b i ib)) in
    eb ∙ ((λ j. same j ++ sym here j ∷ []) ∙ sym ea)

pub keys_longer : (a b : List Key) (i : ℕ) → KeysRise (map key_of b) → length a ≤ i → i ≤ length a → length a < length b → take i (map key_of b) ≡ take i (map key_of a) → IsLeastMixed (map key_of a) (map key_of b) (get_or b (length a) none).id
keys_longer a b i h past within longer same =
    let e : i ≡ length a = omega arith in
    other_way (map key_of b) (map key_of a) (get_or b (length a) none).id
    (keys_past b a (length a) h longer (omega arith) (subst (λ (n : ℕ). take n (map key_of a) ≡ take n (map key_of b)) e (sym same)))
