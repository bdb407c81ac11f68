-- The places of members by their names, as a map has them.
use Rattle.std.proofs.Common.{◌≡◌, ℕ, suc, ◌+◌, ◌≤◌, Bool, true, false, cond, List, [], ◌∷◌, length, map, drop, get_or, Option, Some, None, option_map, bytes_eq, refl, sym, ap, subst, ◌∙◌, ⊎_elim, arith, drop-cons}
use Rattle.std.specs.Global.{Vec}
use Rattle.std.specs.HashMap as hash
use Rattle.std.specs.HashMap.{HashMap}
use Rattle.std.specs.Map.{lookup, IsKeyTest, AreApart, KeepsOthers}
use Rattle.std.specs.Cmp.Lexicographic.{bytes_decides, nat_list_eq_equiv}
use Rattle.std.proofs.lemmas.Bool.{cases_Bool, cond-true, cond-false}
use Rattle.lt_tree.specs.declared.typed.entity.Member as entity
use Rattle.lt_tree.specs.Typing.Types.{CType}
use Rattle.lt_tree.specs.Typing.EntityView as view
use Rattle.lt_table.specs.StructTables.{names_of, names_in, place_of, place_in}

pub names_same : (types : List CType) (members : List entity.Member) → names_of (map (view.member_of types) members) ≡ names_in members
names_same types [] = refl
names_same types (member ∷ members) = ap (λ names. member.name ∷ names) (names_same types members)

-- ---- the map

apart : (some others ks : List ℕ) → bytes_eq some others ≡ false → bytes_eq some ks ≡ true → bytes_eq others ks ≡ false
apart some others ks n y = nat_list_eq_equiv.symm others ks ∙ sym (nat_list_eq_equiv.congr some ks others y) ∙ n

abbrev pub same_keys : Vec ℕ → Vec ℕ → Bool
same_keys x y = bytes_eq x.items y.items

other_entries : {V : Type 0} (eq : Vec ℕ → Vec ℕ → Bool) (test : Vec ℕ → Bool) (old new : List (Vec ℕ × V)) → KeepsOthers eq test old new → (other : Vec ℕ → Bool) → IsKeyTest eq other → AreApart test other
    → lookup other new ≡ lookup other old
unfolding KeepsOthers
other_entries eq test old new h = h

-- what a map has behind a change at one name
changed : {S : Type 0} (name : List ℕ) (m n : HashMap (Vec ℕ) ℕ S) (at : Option ℕ) → hash.UpdatesBy same_keys (λ key. bytes_eq name key.items) m n at
    → (w : List ℕ) → place_in n w ≡ cond (bytes_eq name w) at (place_in m w)
changed name m n at h w =
    ⊎_elim
    (λ y. subst (λ l. place_in n l ≡ at) ((bytes_decides name w).0 y) h.1 ∙ sym (cond-true (bytes_eq name w) at (place_in m w) y))
    (λ e. other_entries same_keys (λ key. bytes_eq name key.items) m.entries n.entries h.3 (λ key. bytes_eq w key.items)
    (λ x y. nat_list_eq_equiv.congr w x.items y.items) (λ key. apart name w key.items e)
    ∙ sym (cond-false (bytes_eq name w) at (place_in m w) e))
    (cases_Bool (bytes_eq name w))

-- ---- one member more, before the others

-- places of members behind so many others
abbrev pub place_behind : ℕ → List ℕ → List (List ℕ) → Option ℕ
place_behind k name names = option_map (λ p. k + p) (place_of name names)

one_before : (k : ℕ) (o : Option ℕ) → option_map (λ p. suc k + p) o ≡ option_map (λ p. k + p) (option_map suc o)
one_before k None = refl
one_before k (Some p) = let e : suc k + p ≡ k + suc p = omega arith in ap Some e

behind_one : (k : ℕ) (name n : List ℕ) (names : List (List ℕ)) → cond (bytes_eq n name) (Some k) (place_behind (suc k) name names) ≡ place_behind k name (n ∷ names)
behind_one k name n names =
    let P : Bool → Type 0 = λ same. cond same (Some k) (place_behind (suc k) name names) ≡ option_map (λ p. k + p) (cond same (Some 0) (option_map suc (place_of name names))) in
    let e : k ≡ k + 0 = omega arith in
    elim (bytes_eq n name) as P [ true ↦ ap Some e | false ↦ one_before k (place_of name names) ]

pub places_more : {S : Type 0} (members : List entity.Member) (left k : ℕ) (d : entity.Member) (name : List ℕ) (m n : HashMap (Vec ℕ) ℕ S) → suc k ≡ left → left ≤ length members → name ≡ (get_or members k d).name
    → hash.UpdatesBy same_keys (λ key. bytes_eq name key.items) m n (Some k) → ((w : List ℕ) → place_in m w ≡ place_behind left w (names_in (drop left members)))
    → (w : List ℕ) → place_in n w ≡ place_behind k w (names_in (drop k members))
places_more members left k d name m n one within is updates before w =
    changed name m n (Some k) updates w
    ∙ ap (cond (bytes_eq name w) (Some k)) (before w ∙ ap (λ l. place_behind l w (names_in (drop l members))) (sym one))
    ∙ ap (λ b. cond (bytes_eq b w) (Some k) (place_behind (suc k) w (names_in (drop (suc k) members)))) is
    ∙ behind_one k w (get_or members k d).name (names_in (drop (suc k) members))
    ∙ sym (ap (λ l. place_behind k w (names_in l)) (drop-cons members k d (omega (arith, one, within))))

pub behind_none : (o : Option ℕ) → option_map (λ p. 0 + p) o ≡ o
behind_none None = refl
behind_none (Some p) = let e : 0 + p ≡ p = omega arith in ap Some e
