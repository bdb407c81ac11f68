-- What names stand for, as a map has it.
use Rattle.std.proofs.Common.{◌≡◌, ℕ, suc, ◌≤◌, Bool, true, false, cond, List, [], ◌∷◌, length, map, reverse, Option, Some, None, refl, sym, ap, subst, ◌∙◌, ⊎_elim, arith}
use Rattle.std.specs.Prelude.{option_map}
use Rattle.std.specs.Global.{Vec}
use Rattle.std.specs.HashMap as hash
use Rattle.std.specs.HashMap.{HashMap}
use Rattle.std.specs.Map.{lookup, IsKeyTest, AreApart, KeepsOthers}
use Rattle.std.specs.Cmp.Lexicographic.{bytes_decides, nat_list_eq_equiv}
use Rattle.std.specs.Str.{bytes_eq}
use Rattle.std.proofs.lemmas.Bool.{cases_Bool, cond-true, cond-false}
use Rattle.std.proofs.lemmas.List.{length-map, length-reverse}
use Rattle.lt_scope.specs.declared.scopes.Binder.{Binder}
use Rattle.lt_scope.specs.declared.scopes.Standing.{Standing}
use Rattle.lt_scope.specs.Names.{Bound, bound_among, bound_in, innermost, or_else}
use Rattle.lt_scope.specs.Binders.{bound_of, standing_at, standing, standing_in, shown, binders_in, frames_in, AllKnowHidden, Agree}

-- ---- what is found

-- what a name stands for is what its standing says
found : {T : Type 0} (w : List ℕ) (frames : List (List (Bound T))) → bound_in w frames ≡ option_map (λ (s : Standing T). s.what) (standing frames w)
found w [] = refl
found {T} w (frame ∷ outer) =
    let P : Option T → Type 0 = λ here. or_else here (bound_in w outer) ≡ option_map (λ (s : Standing T). s.what) (or_else (option_map (standing_at (suc (length outer))) here) (standing outer w)) in
    elim (bound_among w frame) as P [ None ↦ found w outer | Some t ↦ refl ]

within : {T : Type 0} (w : List ℕ) (frames : List (List (Bound T))) (s : Standing T) → standing frames w ≡ Some s → s.depth ≤ length frames
within w [] s e = absurd cc
within {T} w (frame ∷ outer) s e = step (within w outer s) (bound_among w frame) e
  where
    step : (standing outer w ≡ Some s → s.depth ≤ length outer) → (here : Option T) → or_else (option_map (standing_at (suc (length outer))) here) (standing outer w) ≡ Some s → s.depth ≤ length (frame ∷ outer)
    step before None e = (let below = before e in omega arith)
    step before (Some t) e = (let is : suc (length outer) ≡ s.depth = cc in omega arith)

-- what the innermost frame has is at the depth of all frames
here : {T : Type 0} (w : List ℕ) (frames : List (List (Bound T))) (s : Standing T) → standing frames w ≡ Some s → s.depth ≡ length frames → Some s.what ≡ bound_among w (innermost frames)
here w [] s e deep = absurd cc
here {T} w (frame ∷ outer) s e deep = step (bound_among w frame) e
  where
    step : (here : Option T) → or_else (option_map (standing_at (suc (length outer))) here) (standing outer w) ≡ Some s → Some s.what ≡ here
    step None e = absurd (let below = within w outer s e in omega arith)
    step (Some t) e = cc

elsewhere : {T : Type 0} (w : List ℕ) (frames : List (List (Bound T))) (s : Standing T) → standing frames w ≡ Some s → (s.depth ≡ length frames → ⊥) → None ≡ bound_among w (innermost frames)
elsewhere w [] s e deep = refl
elsewhere {T} w (frame ∷ outer) s e deep = step (bound_among w frame) e
  where
    step : (here : Option T) → or_else (option_map (standing_at (suc (length outer))) here) (standing outer w) ≡ Some s → None ≡ here
    step None e = refl
    step (Some t) e = absurd (deep cc)

nowhere : {T : Type 0} (w : List ℕ) (frames : List (List (Bound T))) → standing frames w ≡ None → None ≡ bound_among w (innermost frames)
nowhere w [] e = refl
nowhere {T} w (frame ∷ outer) e = step (bound_among w frame) e
  where
    step : (here : Option T) → or_else (option_map (standing_at (suc (length outer))) here) (standing outer w) ≡ None → None ≡ here
    step None e = refl
    step (Some t) e = absurd cc

-- ---- the map

apart : (some others ks : List ℕ) → bytes_eq some others ≡ false → bytes_eq some ks ≡ true → bytes_eq others ks ≡ false
apart some others ks n y = nat_list_eq_equiv.symm others ks ∙ sym (nat_list_eq_equiv.congr some ks others y) ∙ n

abbrev pub same_keys : Vec ℕ → Vec ℕ → Bool
same_keys x y = bytes_eq x.items y.items

other_entries : {V : Type 0} (eq : Vec ℕ → Vec ℕ → Bool) (test : Vec ℕ → Bool) (old new : List (Vec ℕ × V)) → KeepsOthers eq test old new → (other : Vec ℕ → Bool) → IsKeyTest eq other → AreApart test other
    → lookup other new ≡ lookup other old
unfolding KeepsOthers
other_entries eq test old new h = h

-- what a map has behind a change at one name
pub changed : {V S : Type 0} (name : List ℕ) (m n : HashMap (Vec ℕ) V S) (at : Option V) → hash.UpdatesBy same_keys (λ key. bytes_eq name key.items) m n at
    → (w : List ℕ) → hash.get_by (λ key. bytes_eq w key.items) n ≡ cond (bytes_eq name w) at (hash.get_by (λ key. bytes_eq w key.items) m)
changed name m n at h w =
    ⊎_elim
    (λ y. subst (λ l. hash.get_by (λ key. bytes_eq l key.items) n ≡ at) ((bytes_decides name w).0 y) h.1 ∙ sym (cond-true (bytes_eq name w) at (hash.get_by (λ key. bytes_eq w key.items) m) y))
    (λ e. other_entries same_keys (λ key. bytes_eq name key.items) m.entries n.entries h.3 (λ key. bytes_eq w key.items)
    (λ x y. nat_list_eq_equiv.congr w x.items y.items) (λ key. apart name w key.items e)
    ∙ sym (cond-false (bytes_eq name w) at (hash.get_by (λ key. bytes_eq w key.items) m) e))
    (cases_Bool (bytes_eq name w))

-- what one more name changes
more : {T : Type 0} (name : List ℕ) (what : T) (frame : List (Bound T)) (outer : List (List (Bound T))) (w : List ℕ)
    → standing ((record { name = name; what = what } ∷ frame) ∷ outer) w ≡ cond (bytes_eq name w) (Some (standing_at (suc (length outer)) what)) (standing (frame ∷ outer) w)
more {T} name what frame outer w =
    let P : Bool → Type 0 = λ same.
    or_else (option_map (standing_at (suc (length outer))) (cond same (Some what) (bound_among w frame))) (standing outer w)
    ≡ cond same (Some (standing_at (suc (length outer)) what)) (or_else (option_map (standing_at (suc (length outer))) (bound_among w frame)) (standing outer w)) in
    elim (bytes_eq name w) as P [ true ↦ refl | false ↦ refl ]

-- ---- what the methods keep

pub agree_bind : {T S : Type 0} (b : Binder T) (bs : List (Binder T)) (outer : List (List (Binder T))) (m n : HashMap (Vec ℕ) (Standing T) S) (name : List ℕ) (s : Standing T) → Agree (bs ∷ outer) m → name ≡ b.name
    → b.hidden ≡ standing_in m name → s ≡ standing_at (suc (length outer)) b.what → hash.UpdatesBy same_keys (λ key. bytes_eq name key.items) m n (Some s) → Agree ((b ∷ bs) ∷ outer) n
agree_bind {T} b bs outer m n name s a same hides is h = record {
  places =
      (λ w. changed name m n (Some s) h w
      ∙ ap (cond (bytes_eq name w) (Some s)) (a.places w)
      ∙ ap (λ v. cond (bytes_eq v w) (Some s) (standing (shown (bs ∷ outer)) w)) same
      ∙ ap (λ (t : Standing T). cond (bytes_eq b.name w) (Some t) (standing (shown (bs ∷ outer)) w)) (is ∙ ap (λ k. standing_at (suc k) b.what) (sym (length-map outer (map bound_of))))
      ∙ sym (more b.name b.what (map bound_of bs) (shown outer) w));
  hidden = ((hides ∙ a.places name ∙ ap (standing (shown (bs ∷ outer))) same, a.hidden.0), a.hidden.1);
}

-- where what a name stood for before is put back
put_back : {V : Type 0} (at newest before : Option V) (same : Bool) → (same ≡ true → at ≡ before) → cond same at (cond same newest before) ≡ before
put_back at newest before true is = is refl
put_back at newest before false is = refl

pub agree_forget : {T S : Type 0} (b : Binder T) (bs : List (Binder T)) (outer : List (List (Binder T))) (m n : HashMap (Vec ℕ) (Standing T) S) (name : List ℕ) (at : Option (Standing T)) → name ≡ b.name → b.hidden ≡ at
    → hash.UpdatesBy same_keys (λ key. bytes_eq name key.items) m n at → Agree ((b ∷ bs) ∷ outer) m → Agree (bs ∷ outer) n
agree_forget b bs outer m n name at same hides h a = record {
  places =
      (λ w. changed name m n at h w
      ∙ ap (λ v. cond (bytes_eq v w) at (standing_in m w)) same
      ∙ ap (cond (bytes_eq b.name w) at) (a.places w ∙ more b.name b.what (map bound_of bs) (shown outer) w)
      ∙ put_back at _ (standing (shown (bs ∷ outer)) w) (bytes_eq b.name w)
      (λ y. sym hides ∙ a.hidden.0.0 ∙ ap (standing (shown (bs ∷ outer))) ((bytes_decides b.name w).0 y)));
  hidden = (a.hidden.0.1, a.hidden.1);
}

-- the latest name is there
pub is_there : {T S : Type 0} (b : Binder T) (bs : List (Binder T)) (outer : List (List (Binder T))) (m : HashMap (Vec ℕ) (Standing T) S) (name : List ℕ) → name ≡ b.name → Agree ((b ∷ bs) ∷ outer) m
    → standing_in m name ≡ Some (standing_at (suc (length (shown outer))) b.what)
is_there b bs outer m name same a =
    ap (standing_in m) same ∙ a.places b.name ∙ more b.name b.what (map bound_of bs) (shown outer) b.name
    ∙ cond-true (bytes_eq b.name b.name) _ (standing (shown (bs ∷ outer)) b.name) (nat_list_eq_equiv.refl b.name)

frames_length : {T : Type 0} (fs : List (Vec (Binder T))) → length (frames_in fs) ≡ length fs
frames_length fs = length-map (binders_in fs) (map bound_of) ∙ length-map (reverse fs) (λ frame. reverse frame.items) ∙ length-reverse fs

-- a map with the same entries
pub agree_same : {T S : Type 0} (frames others : List (List (Binder T))) (m n : HashMap (Vec ℕ) (Standing T) S) → others ≡ frames → n.entries ≡ m.entries → Agree frames m → Agree others n
agree_same frames others m n is same a = record {
  places = (λ w. ap (lookup (λ key. bytes_eq w key.items)) same ∙ a.places w ∙ ap (λ fs. standing (shown fs) w) (sym is));
  hidden = subst AllKnowHidden (sym is) a.hidden;
}

-- ---- what the map finds

pub map_finds : {T S : Type 0} (w : List ℕ) (fs : List (Vec (Binder T))) (m : HashMap (Vec ℕ) (Standing T) S) (view : List (List (Bound T))) (s : Option (Standing T)) → Agree (binders_in fs) m → frames_in fs ≡ view
    → s ≡ standing_in m w → option_map (λ (t : Standing T). t.what) s ≡ bound_in w view
map_finds {T} w fs m view s a is finds = ap (option_map (λ (t : Standing T). t.what)) (finds ∙ a.places w) ∙ sym (found w (frames_in fs)) ∙ ap (bound_in w) is

pub map_finds_here : {T S : Type 0} (w : List ℕ) (fs : List (Vec (Binder T))) (m : HashMap (Vec ℕ) (Standing T) S) (view : List (List (Bound T))) (s : Standing T) → Agree (binders_in fs) m → frames_in fs ≡ view
    → Some s ≡ standing_in m w → s.depth ≡ length fs → Some s.what ≡ bound_among w (innermost view)
map_finds_here w fs m view s a is finds deep = here w (frames_in fs) s (sym (a.places w) ∙ sym finds) (deep ∙ sym (frames_length fs)) ∙ ap (λ frames. bound_among w (innermost frames)) is

pub map_finds_elsewhere : {T S : Type 0} (w : List ℕ) (fs : List (Vec (Binder T))) (m : HashMap (Vec ℕ) (Standing T) S) (view : List (List (Bound T))) (s : Standing T) → Agree (binders_in fs) m → frames_in fs ≡ view
    → Some s ≡ standing_in m w → (s.depth ≡ length fs → ⊥) → None ≡ bound_among w (innermost view)
map_finds_elsewhere w fs m view s a is finds deep =
    elsewhere w (frames_in fs) s (sym (a.places w) ∙ sym finds) (λ e. deep (e ∙ frames_length fs)) ∙ ap (λ frames. bound_among w (innermost frames)) is

pub map_finds_nowhere : {T S : Type 0} (w : List ℕ) (fs : List (Vec (Binder T))) (m : HashMap (Vec ℕ) (Standing T) S) (view : List (List (Bound T))) → Agree (binders_in fs) m → frames_in fs ≡ view
    → None ≡ standing_in m w → None ≡ bound_among w (innermost view)
map_finds_nowhere w fs m view a is finds = nowhere w (frames_in fs) (sym (a.places w) ∙ sym finds) ∙ ap (λ frames. bound_among w (innermost frames)) is
