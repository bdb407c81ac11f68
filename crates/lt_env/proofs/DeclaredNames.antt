-- The functions that are declared, as a map has them.
use Rattle.std.proofs.Common.{◌≡◌, ℕ, Bool, true, false, cond, List, [], ◌∷◌, ◌++◌, Option, Some, None, refl, sym, ap, ◌∙◌}
use Rattle.std.specs.Prelude.{option_map, is_some}
use Rattle.std.specs.Global.{Vec}
use Rattle.std.specs.HashMap as hash
use Rattle.std.specs.HashMap.{HashMap}
use Rattle.std.specs.Str.{bytes_eq}
use Rattle.std.specs.Cmp.Lexicographic.{bytes_decides}
use Rattle.lt_tree.specs.declared.typed.types.TypeId.{TypeId}
use Rattle.lt_tree.specs.declared.typed.entity.Declared.{Declared}
use Rattle.lt_tree.specs.Typing.Types.{CType}
use Rattle.lt_tree.specs.Typing.TypeRows.{type_in}
use Rattle.lt_tree.specs.Typing.Entities.{declared_among, or_else}
use Rattle.lt_scope.proofs.Standings.{same_keys, changed}
use Rattle.lt_env.specs.NameMaps.{at_name, Agrees}
use Rattle.lt_env.specs.Symbols.{declared_at, declared_as, with_declared}
use Rattle.lt_env.proofs.NameMaps.{put_behind}

found : (types : List CType) (w : List ℕ) (ds : List Declared) → option_map (type_in types) (declared_as w ds) ≡ declared_among w (declared_at types ds)
found types w [] = refl
found types w (d ∷ ds) =
    let P : Bool → Type 0 = λ same. option_map (type_in types) (cond same (Some d.ty) (declared_as w ds)) ≡ cond same (Some (type_in types d.ty)) (declared_among w (declared_at types ds)) in
    elim (bytes_eq d.name w) as P [ true ↦ refl | false ↦ found types w ds ]

pub type_found : {S : Type 0} (m : HashMap (Vec ℕ) TypeId S) (ds view : List Declared) (w : List ℕ) (r : Option TypeId) → Agrees m (λ w. declared_as w ds) → ds ≡ view → r ≡ at_name m w
    → (types : List CType) → option_map (type_in types) r ≡ declared_among w (declared_at types view)
type_found m ds view w r a is e types = ap (option_map (type_in types)) (e ∙ a.at w) ∙ found types w ds ∙ ap (λ ds. declared_among w (declared_at types ds)) is

-- ---- one more

behind : (w : List ℕ) (ds : List Declared) (d : Declared) → declared_as w (ds ++ d ∷ []) ≡ or_else (declared_as w ds) (cond (bytes_eq d.name w) (Some d.ty) None)
behind w [] d = refl
behind w (e ∷ ds) d =
    let P : Bool → Type 0 = λ same. cond same (Some e.ty) (declared_as w (ds ++ d ∷ [])) ≡ or_else (cond same (Some e.ty) (declared_as w ds)) (cond (bytes_eq d.name w) (Some d.ty) None) in
    elim (bytes_eq e.name w) as P [ true ↦ refl | false ↦ behind w ds d ]

pub one_declared : {S : Type 0} (m n : HashMap (Vec ℕ) TypeId S) (xs ys : List Declared) (name : List ℕ) (d : Declared) → Agrees m (λ w. declared_as w xs) → ys ≡ xs ++ d ∷ [] → name ≡ d.name → at_name m name ≡ None
    → hash.UpdatesBy same_keys (λ key. bytes_eq name key.items) m n (Some d.ty) → Agrees n (λ w. declared_as w ys)
one_declared m n xs ys name d a more same none h = record {
  at = λ w.
      changed name m n (Some d.ty) h w
      ∙ put_behind (bytes_eq name w) d.ty (at_name m w) (λ y. ap (at_name m) (sym ((bytes_decides name w).0 y)) ∙ none)
      ∙ ap (λ b. or_else b (cond (bytes_eq name w) (Some d.ty) None)) (a.at w)
      ∙ ap (λ v. or_else (declared_as w xs) (cond (bytes_eq v w) (Some d.ty) None)) same
      ∙ sym (behind w xs d)
      ∙ ap (declared_as w) (sym more);
}

already : {A : Type 0} (k : Option CType) (o : Option TypeId) (f : TypeId → CType) (more list : A) → option_map f o ≡ k → is_some o ≡ true → list ≡ elim k [ None ↦ more | Some t ↦ list ]
already k None f more list e there = absurd cc
already None (Some t) f more list e there = absurd cc
already (Some u) (Some t) f more list e there = refl

not_yet : {A : Type 0} (k : Option CType) (o : Option TypeId) (f : TypeId → CType) (more list : A) → option_map f o ≡ k → o ≡ None → more ≡ elim k [ None ↦ more | Some t ↦ list ]
not_yet None o f more list e none = refl
not_yet (Some u) None f more list e none = absurd cc
not_yet (Some u) (Some t) f more list e none = absurd cc

pub declared_already : {S : Type 0} (m : HashMap (Vec ℕ) TypeId S) (ds : List Declared) (name : List ℕ) (ty : TypeId) → Agrees m (λ w. declared_as w ds) → is_some (at_name m name) ≡ true → ds ≡ with_declared name ty ds
declared_already m ds name ty a there = already (declared_among name (declared_at [] ds)) (declared_as name ds) (type_in []) (ds ++ record { name = name; ty = ty } ∷ []) ds (found [] name ds) (ap is_some (sym (a.at name)) ∙ there)

pub declared_newly : {S : Type 0} (m : HashMap (Vec ℕ) TypeId S) (ds : List Declared) (name : List ℕ) (ty : TypeId) → Agrees m (λ w. declared_as w ds) → at_name m name ≡ None
    → ds ++ record { name = name; ty = ty } ∷ [] ≡ with_declared name ty ds
declared_newly m ds name ty a none = not_yet (declared_among name (declared_at [] ds)) (declared_as name ds) (type_in []) (ds ++ record { name = name; ty = ty } ∷ []) ds (found [] name ds) (sym (a.at name) ∙ none)
