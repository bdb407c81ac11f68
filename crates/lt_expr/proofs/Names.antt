-- Names in scope, as a map finds them.
use Rattle.std.proofs.Common.{◌≡◌, ℕ, zero, suc, ◌+◌, ◌-◌, ◌<◌, ◌≤◌, Bool, true, false, cond, List, [], ◌∷◌, ◌++◌, length, map, reverse, drop, get_or, Option, Some, None, refl, sym, ap, subst, ◌∙◌, ◌⊎◌, inl, inr, ⊎_elim, arith}
use Rattle.std.specs.Global.{Vec}
use Rattle.std.specs.HashMap as hash
use Rattle.std.specs.HashMap.{HashMap}
use Rattle.std.specs.Map.{lookup, IsKeyTest, AreApart, KeepsOthers}
use Rattle.std.specs.Cmp.Lexicographic.{bytes_decides, nat_list_eq_equiv}
use Rattle.std.specs.Str.{bytes_eq}
use Rattle.std.proofs.lemmas.Bool.{cases_Bool, cond-true, cond-false}
use Rattle.std.proofs.lemmas.List.{append-nil, reverse-append, length-reverse, length-map, length-drop, get_or_append_left}
use Rattle.std.proofs.Math.Seq.{get_or-append_seam}
use Rattle.lt_tree.specs.Scope as scope
use Rattle.lt_tree.specs.Scope.{Scope, is_type}
use Rattle.lt_expr.specs.declared.typedefs.Binder.{Binder}
use Rattle.lt_expr.specs.Binders.{binder_of, scope_in, place, KnowHidden, place_in, Agree}
use Rattle.lt_expr.specs.Found.{found}
use Rattle.lt_expr.proofs.Drops.{behind_one}

-- ---- binders as a scope

pub scope_length : (bs : List Binder) → length (scope_in bs) ≡ length bs
scope_length bs = length-map (reverse bs) binder_of ∙ length-reverse bs

pub scope_push : (bs : List Binder) (b : Binder) → scope_in (bs ++ b ∷ []) ≡ binder_of b ∷ scope_in bs
scope_push bs b = ap (map binder_of) (reverse-append bs (b ∷ []))

hidden_push : (bs : List Binder) (b : Binder) → KnowHidden (reverse bs) → b.hidden ≡ place (scope_in bs) b.name → KnowHidden (reverse (bs ++ b ∷ []))
hidden_push bs b known is = subst KnowHidden (sym (reverse-append bs (b ∷ []))) (is, known)

hidden_last : (bs : List Binder) (b : Binder) → KnowHidden (reverse (bs ++ b ∷ [])) → KnowHidden (b ∷ reverse bs)
hidden_last bs b known = subst KnowHidden (reverse-append bs (b ∷ [])) known

-- ---- places

place_within : (s : Scope) (w : List ℕ) (i : ℕ) → place s w ≡ Some i → i < length s
place_within [] w i e = absurd cc
place_within (b ∷ s) w i e = step (place_within s w i) (bytes_eq b.name w) e
  where
    step : (place s w ≡ Some i → i < length s) → (same : Bool) → cond same (Some (length s)) (place s w) ≡ Some i → i < suc (length s)
    step before true e = (let is : length s ≡ i = cc in omega arith)
    step before false e = (let within = before e in omega arith)

-- the binder at a name's place says what the name is
place_found : (bs : List Binder) (w : List ℕ) (i : ℕ) (d : Binder) → place (map binder_of bs) w ≡ Some i → found (map binder_of bs) w ≡ Some (get_or (reverse bs) i d).is_type
place_found [] w i d e = absurd cc
place_found (b ∷ bs) w i d e = step (place_found bs w i d) (bytes_eq b.name w) e
  where
    split : reverse (b ∷ bs) ≡ reverse bs ++ b ∷ []
    split = reverse-append (b ∷ []) bs

    step : (place (map binder_of bs) w ≡ Some i → found (map binder_of bs) w ≡ Some (get_or (reverse bs) i d).is_type)
        → (same : Bool) → cond same (Some (length (map binder_of bs))) (place (map binder_of bs) w) ≡ Some i
        → cond same (Some b.is_type) (found (map binder_of bs) w) ≡ Some (get_or (reverse (b ∷ bs)) i d).is_type
    step before true e =
        (let is : length (map binder_of bs) ≡ i = cc in
        let at : length (reverse bs) ≡ i = length-reverse bs ∙ sym (length-map bs binder_of) ∙ is in
        let here : get_or (reverse (b ∷ bs)) i d ≡ b = ap (λ xs. get_or xs i d) split ∙ ap (λ k. get_or (reverse bs ++ b ∷ []) k d) (sym at) ∙ get_or-append_seam (reverse bs) b [] d in
        ap (λ (x : Binder). Some x.is_type) (sym here))
    step before false e =
        (let inside : i < length (map binder_of bs) = place_within (map binder_of bs) w i e in
        let within : i < length (reverse bs) = omega (arith, length-reverse bs, length-map bs binder_of, inside) in
        let there : get_or (reverse (b ∷ bs)) i d ≡ get_or (reverse bs) i d = ap (λ xs. get_or xs i d) split ∙ get_or_append_left (reverse bs) (b ∷ []) d i within in
        before e ∙ ap (λ (x : Binder). Some x.is_type) (sym there))

place_missing : (s : Scope) (w : List ℕ) → place s w ≡ None → found s w ≡ None
place_missing [] w e = refl
place_missing (b ∷ s) w e = step (place_missing s w) (bytes_eq b.name w) e
  where
    step : (place s w ≡ None → found s w ≡ None) → (same : Bool) → cond same (Some (length s)) (place s w) ≡ None → cond same (Some b.is_type) (found s w) ≡ None
    step before true e = absurd cc
    step before false e = before e

reverse_twice : (bs : List Binder) → reverse (reverse bs) ≡ bs
reverse_twice [] = refl
reverse_twice (b ∷ bs) =
    ap reverse (reverse-append (b ∷ []) bs) ∙ reverse-append (reverse bs) (b ∷ []) ∙ ap (λ xs. b ∷ xs) (reverse_twice bs)

-- ---- the map

apart : (some others ks : List ℕ) → bytes_eq some others ≡ false → bytes_eq some ks ≡ true → bytes_eq others ks ≡ false
apart some others ks n y = nat_list_eq_equiv.symm others ks ∙ sym (nat_list_eq_equiv.congr some ks others y) ∙ n

abbrev same_keys : Vec ℕ → Vec ℕ → Bool
same_keys x y = bytes_eq x.items y.items

other_entries : (eq : Vec ℕ → Vec ℕ → Bool) (test : Vec ℕ → Bool) (old new : List (Vec ℕ × ℕ)) → KeepsOthers eq test old new → (other : Vec ℕ → Bool) → IsKeyTest eq other → AreApart test other → lookup other new ≡ lookup other old
unfolding KeepsOthers
other_entries eq test old new h = h

-- what a map has behind a change at one name
pub place_changed : {S : Type 0} (name : List ℕ) (m n : HashMap (Vec ℕ) ℕ S) (at : Option ℕ) → hash.UpdatesBy same_keys (λ key. bytes_eq name key.items) m n at
    → (w : List ℕ) → place_in n w ≡ cond (bytes_eq name w) at (place_in m w)
place_changed name m n at h w =
    ⊎_elim
    (λ y. subst (λ l. place_in n l ≡ at) ((bytes_decides name w).0 y) h.1 ∙ sym (cond-true (bytes_eq name w) at (place_in m w) y))
    (λ e. other_entries same_keys (λ key. bytes_eq name key.items) m.entries n.entries h.3 (λ key. bytes_eq w key.items)
    (λ x y. nat_list_eq_equiv.congr w x.items y.items) (λ key. apart name w key.items e)
    ∙ sym (cond-false (bytes_eq name w) at (place_in m w) e))
    (cases_Bool (bytes_eq name w))

-- ---- what the methods keep

pub agree_push : {S : Type 0} (bs cs : List Binder) (b : Binder) (m n : HashMap (Vec ℕ) ℕ S) (name : List ℕ) (k : ℕ) → Agree bs m → cs ≡ bs ++ b ∷ [] → name ≡ b.name → k ≡ length bs → b.hidden ≡ place_in m name
    → hash.UpdatesBy same_keys (λ key. bytes_eq name key.items) m n (Some k) → Agree cs n
agree_push bs cs b m n name k a is same last hides h = record {
  places =
      (λ w. place_changed name m n (Some k) h w
      ∙ ap (cond (bytes_eq name w) (Some k)) (a.places w)
      ∙ ap (λ v. cond (bytes_eq v w) (Some k) (place (scope_in bs) w)) same
      ∙ ap (λ i. cond (bytes_eq b.name w) (Some i) (place (scope_in bs) w)) (last ∙ sym (scope_length bs))
      ∙ ap (λ s. place s w) (sym (scope_push bs b))
      ∙ ap (λ xs. place (scope_in xs) w) (sym is));
  hidden = subst (λ xs. KnowHidden (reverse xs)) (sym is) (hidden_push bs b a.hidden (hides ∙ a.places name ∙ ap (place (scope_in bs)) same));
}

-- where the place of a hidden binder is put back
put_back : (at newest before : Option ℕ) (same : Bool) → (same ≡ true → at ≡ before) → cond same at (cond same newest before) ≡ before
put_back at newest before true is = is refl
put_back at newest before false is = refl

pub agree_leave : {S : Type 0} (bs cs : List Binder) (b : Binder) (m n : HashMap (Vec ℕ) ℕ S) (name : List ℕ) (at : Option ℕ) → Agree bs m → bs ≡ cs ++ b ∷ [] → name ≡ b.name → b.hidden ≡ at
    → hash.UpdatesBy same_keys (λ key. bytes_eq name key.items) m n at → Agree cs n
agree_leave bs cs b m n name at a is same hides h =
    let known : KnowHidden (b ∷ reverse cs) = hidden_last cs b (subst (λ xs. KnowHidden (reverse xs)) is a.hidden) in
    record {
      places =
          (λ w. place_changed name m n at h w
          ∙ ap (λ v. cond (bytes_eq v w) at (place_in m w)) same
          ∙ ap (cond (bytes_eq b.name w) at) (a.places w ∙ ap (λ xs. place (scope_in xs) w) is ∙ ap (λ s. place s w) (scope_push cs b))
          ∙ put_back at (Some (length (scope_in cs))) (place (scope_in cs) w) (bytes_eq b.name w)
          (λ y. sym hides ∙ known.0 ∙ ap (place (scope_in cs)) ((bytes_decides b.name w).0 y)));
      hidden = known.1;
    }

-- the name of the innermost binder is there
pub last_is_there : {S : Type 0} (bs cs : List Binder) (b : Binder) (m : HashMap (Vec ℕ) ℕ S) (name : List ℕ) → Agree bs m → bs ≡ cs ++ b ∷ [] → name ≡ b.name → place_in m name ≡ Some (length (scope_in cs))
last_is_there bs cs b m name a is same =
    ap (place_in m) same ∙ a.places b.name ∙ ap (λ xs. place (scope_in xs) b.name) is ∙ ap (λ s. place s b.name) (scope_push cs b)
    ∙ cond-true (bytes_eq b.name b.name) (Some (length (scope_in cs))) (place (scope_in cs) b.name) (nat_list_eq_equiv.refl b.name)

-- ---- what is found

pub found_none : {S : Type 0} (bs : List Binder) (m : HashMap (Vec ℕ) ℕ S) (w : List ℕ) → Agree bs m → place_in m w ≡ None → None ≡ found (scope_in bs) w
found_none bs m w a none = sym (place_missing (scope_in bs) w (sym (a.places w) ∙ none))

pub found_within : {S : Type 0} (bs : List Binder) (m : HashMap (Vec ℕ) ℕ S) (w : List ℕ) (i : ℕ) → Agree bs m → place_in m w ≡ Some i → i < length bs
found_within bs m w i a at = let within = place_within (scope_in bs) w i (sym (a.places w) ∙ at) in omega (arith, scope_length bs, within)

pub found_there : {S : Type 0} (bs : List Binder) (m : HashMap (Vec ℕ) ℕ S) (w : List ℕ) (i : ℕ) (b : Binder) → Agree bs m → place_in m w ≡ Some i → b ≡ get_or bs i b
    → Some b.is_type ≡ found (scope_in bs) w
found_there bs m w i b a at is =
    sym
    (place_found (reverse bs) w i b (sym (a.places w) ∙ at)
    ∙ ap (λ xs. Some (get_or xs i b).is_type) (reverse_twice bs)
    ∙ ap (λ (x : Binder). Some x.is_type) (sym is))

-- ---- names inside of others

pub type_inside : (inner outer : Scope) (w : List ℕ) (k : Bool) → Some k ≡ found inner w → k ≡ is_type (inner ++ outer) w
type_inside [] outer w k e = absurd cc
type_inside (b ∷ inner) outer w k e = step (type_inside inner outer w k) (bytes_eq b.name w) e
  where
    step : (Some k ≡ found inner w → k ≡ is_type (inner ++ outer) w) → (same : Bool) → Some k ≡ cond same (Some b.is_type) (found inner w) → k ≡ cond same b.is_type (is_type (inner ++ outer) w)
    step before true e = cc
    step before false e = before e

pub type_outside : (inner outer : Scope) (w : List ℕ) → None ≡ found inner w → is_type (inner ++ outer) w ≡ is_type outer w
type_outside [] outer w e = refl
type_outside (b ∷ inner) outer w e = step (type_outside inner outer w) (bytes_eq b.name w) e
  where
    step : (None ≡ found inner w → is_type (inner ++ outer) w ≡ is_type outer w) → (same : Bool) → None ≡ cond same (Some b.is_type) (found inner w) → cond same b.is_type (is_type (inner ++ outer) w) ≡ is_type outer w
    step before true e = absurd cc
    step before false e = before e

pub type_found : (s : Scope) (w : List ℕ) (k : Bool) → Some k ≡ found s w → k ≡ is_type s w
type_found s w k e = type_inside s [] w k e ∙ ap (λ names. is_type names w) (append-nil s)

pub type_nowhere : (s : Scope) (w : List ℕ) → None ≡ found s w → false ≡ is_type s w
type_nowhere s w e = sym (ap (λ names. is_type names w) (sym (append-nil s)) ∙ type_outside s [] w e)

-- one name fewer
pub fewer : (s all : Scope) → s ≡ drop (length all - length s) all → 0 < length s → drop 1 s ≡ drop (length all - length (drop 1 s)) all
fewer s all e some =
    let dropped = length-drop (length all - length s) all in
    let same = ap length e in
    let one = length-drop 1 s in
    let count : (length all - length s) + 1 ≡ length all - length (drop 1 s) = omega arith in
    ap (drop 1) e ∙ sym (behind_one (length all - length s) all) ∙ ap (λ k. drop k all) count
