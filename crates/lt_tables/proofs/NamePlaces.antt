-- The places of names, as a map has them.
use Rattle.std.proofs.Common.{◌≡◌, ℕ, suc, ◌+◌, ◌≤◌, Bool, true, false, cond, List, [], ◌∷◌, length, drop, get_or, Option, Some, bytes_eq, sym, ap, subst, ◌∙◌, ⊎_elim, arith, drop-cons}
use Rattle.std.proofs.Common.{◌<◌, ◌++◌, map, take}
use Rattle.std.specs.List.{filter}
use Rattle.std.proofs.lemmas.List.{map-append, take_more}
use Rattle.std.proofs.lemmas.List.Elements.{filter-append}
use Rattle.lt_tree.specs.declared.typed.entity.Declared.{Declared}
use Rattle.std.specs.Global.{Vec}
use Rattle.std.specs.HashMap as hash
use Rattle.std.specs.HashMap.{HashMap}
use Rattle.std.specs.Map.{lookup, IsKeyTest, AreApart, KeepsOthers}
use Rattle.std.specs.Cmp.Lexicographic.{bytes_decides, nat_list_eq_equiv}
use Rattle.std.proofs.lemmas.Bool.{cases_Bool, cond-true, cond-false}
use Rattle.lt_tables.specs.Lookups.{name_among, place_in}

apart : (some others ks : List ℕ) → bytes_eq some others ≡ false → bytes_eq some ks ≡ true → bytes_eq others ks ≡ false
apart some others ks n y = nat_list_eq_equiv.symm others ks ∙ sym (nat_list_eq_equiv.congr some ks others y) ∙ n

abbrev pub same_keys : Vec ℕ → Vec ℕ → Bool
same_keys x y = bytes_eq x.items y.items

other_entries : {V : Type 0} (eq : Vec ℕ → Vec ℕ → Bool) (test : Vec ℕ → Bool) (old new : List (Vec ℕ × V)) → KeepsOthers eq test old new → (other : Vec ℕ → Bool) → IsKeyTest eq other → AreApart test other
    → lookup other new ≡ lookup other old
unfolding KeepsOthers
other_entries eq test old new h = h

-- what a map has behind a change at one name
changed : {S : Type 0} (name : List ℕ) (m n : HashMap (Vec ℕ) ℕ S) (at : Option ℕ) → hash.UpdatesBy same_keys (λ key. bytes_eq name key.items) m n at
    → (w : List ℕ) → place_in n w ≡ cond (bytes_eq name w) at (place_in m w)
changed name m n at h w =
    ⊎_elim
    (λ y. subst (λ l. place_in n l ≡ at) ((bytes_decides name w).0 y) h.1 ∙ sym (cond-true (bytes_eq name w) at (place_in m w) y))
    (λ e. other_entries same_keys (λ key. bytes_eq name key.items) m.entries n.entries h.3 (λ key. bytes_eq w key.items)
    (λ x y. nat_list_eq_equiv.congr w x.items y.items) (λ key. apart name w key.items e)
    ∙ sym (cond-false (bytes_eq name w) at (place_in m w) e))
    (cases_Bool (bytes_eq name w))

-- one name more, before the others
pub name_more : {S : Type 0} (names : List (List ℕ)) (left k at : ℕ) (d name : List ℕ) (m n : HashMap (Vec ℕ) ℕ S) → at ≡ k → suc k ≡ left → left ≤ length names → name ≡ get_or names k d
    → hash.UpdatesBy same_keys (λ key. bytes_eq name key.items) m n (Some at) → ((w : List ℕ) → place_in m w ≡ name_among left w (drop left names))
    → (w : List ℕ) → place_in n w ≡ name_among k w (drop k names)
name_more names left k at d name m n same one within is updates before w =
    changed name m n (Some at) updates w
    ∙ ap (λ p. cond (bytes_eq name w) (Some p) (place_in m w)) same
    ∙ ap (cond (bytes_eq name w) (Some k)) (before w ∙ ap (λ l. name_among l w (drop l names)) (sym one))
    ∙ ap (λ b. cond (bytes_eq b w) (Some k) (name_among (suc k) w (drop (suc k) names))) is
    ∙ sym (ap (name_among k w) (drop-cons names k d (omega (arith, one, within))))

-- ---- names that a test keeps

-- one more function, whose name is kept or not
pub kept_more : (keeps : List ℕ → Bool) (functions : List Declared) (i : ℕ) (f : Declared) (old new : List (List ℕ)) → i < length functions → f ≡ get_or functions i f
    → old ≡ filter keeps (map (λ g. g.name) (take i functions)) → new ≡ old ++ cond (keeps f.name) (f.name ∷ []) [] → new ≡ filter keeps (map (λ g. g.name) (take (i + 1) functions))
kept_more keeps functions i f old new within is before after =
    after
    ∙ ap (λ l. l ++ cond (keeps f.name) (f.name ∷ []) []) before
    ∙ ap (λ g. filter keeps (map (λ g. g.name) (take i functions)) ++ cond (keeps g.name) (g.name ∷ []) []) is
    ∙ sym
    (ap (λ fs. filter keeps (map (λ g. g.name) fs)) (take_more functions i f within)
    ∙ ap (filter keeps) (map-append (λ g. g.name) (take i functions) (get_or functions i f ∷ []))
    ∙ filter-append keeps (map (λ g. g.name) (take i functions)) ((get_or functions i f).name ∷ []))
