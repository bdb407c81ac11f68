-- The first linked object of each name, as a map has it.
use Rattle.std.proofs.Common.{◌≡◌, ℕ, zero, suc, ◌+◌, Bool, true, false, ◌&&◌, cond, List, [], ◌∷◌, ◌++◌, length, map, Option, Some, None, refl, sym, ap, ◌∙◌, arith}
use Rattle.std.specs.Prelude.{not, is_some, slice_get, slice_set}
use Rattle.std.specs.Global.{Vec}
use Rattle.std.specs.HashMap as hash
use Rattle.std.specs.HashMap.{HashMap}
use Rattle.std.specs.Cmp.Lexicographic.{bytes_decides}
use Rattle.std.specs.Str.{bytes_eq}
use Rattle.lt_tree.specs.declared.typed.entity.Object.{Object}
use Rattle.lt_tree.specs.declared.typed.types.TypeId.{TypeId}
use Rattle.lt_tree.specs.declared.typed.statement.Start.{Start}
use Rattle.lt_tree.specs.Typing.Types.{CType}
use Rattle.lt_tree.specs.Typing.EntityView.{object_of, life_of}
use Rattle.lt_tree.specs.Typing.Entities.{linked_from, is_linked, or_else}
use Rattle.lt_scope.proofs.Standings.{same_keys, changed}
use Rattle.lt_env.specs.NameMaps.{at_name, Agrees}
use Rattle.lt_env.specs.Symbols.{is_first, with_start}
use Rattle.lt_env.proofs.NameMaps.{put_behind}

-- whatever types stand in a table
pub whatever_types : (at : ℕ) (w : List ℕ) (types others : List CType) (xs : List Object) → linked_from at w (map (object_of types) xs) ≡ linked_from at w (map (object_of others) xs)
whatever_types at w types others [] = refl
whatever_types at w types others (x ∷ xs) = ap (cond (is_linked (life_of x.life) && bytes_eq x.name w) (Some at)) (whatever_types (at + 1) w types others xs)

behind : (at last : ℕ) (w : List ℕ) (xs : List Object) (x : Object) → last ≡ at + length xs
    → linked_from at w (map (object_of []) (xs ++ x ∷ [])) ≡ or_else (linked_from at w (map (object_of []) xs)) (cond (is_linked (life_of x.life) && bytes_eq x.name w) (Some last) None)
behind at last w [] x counts = (let same : at ≡ last = omega arith in ap (λ n. cond (is_linked (life_of x.life) && bytes_eq x.name w) (Some n) None) same)
behind at last w (y ∷ xs) x counts =
    let P : Bool → Type 0 = λ same.
    cond same (Some at) (linked_from (at + 1) w (map (object_of []) (xs ++ x ∷ [])))
    ≡ or_else (cond same (Some at) (linked_from (at + 1) w (map (object_of []) xs))) (cond (is_linked (life_of x.life) && bytes_eq x.name w) (Some last) None) in
    elim (is_linked (life_of y.life) && bytes_eq y.name w) as P [ true ↦ refl | false ↦ behind (at + 1) last w xs x (omega arith) ]

-- ---- one more

found : {A : Type 0} (at : A) (l same : Bool) (before : Option A) → (same ≡ true → (l && not (is_some before)) ≡ false) → before ≡ or_else before (cond (l && same) (Some at) None)
found at l same (Some x) known = refl
found at false same None known = refl
found at true false None known = refl
found at true true None known = absurd (let clash = known refl in cc)

pub not_first : {S : Type 0} (m : HashMap (Vec ℕ) ℕ S) (xs ys : List Object) (x : Object) → Agrees m (λ w. linked_from 0 w (map (object_of []) xs)) → ys ≡ xs ++ x ∷ []
    → is_first xs x ≡ false → Agrees m (λ w. linked_from 0 w (map (object_of []) ys))
not_first m xs ys x a more other = record {
  at = λ w.
      a.at w
      ∙ found (length xs) (is_linked (life_of x.life)) (bytes_eq x.name w) (linked_from 0 w (map (object_of []) xs))
      (λ y. ap (λ v. is_linked (life_of x.life) && not (is_some (linked_from 0 v (map (object_of []) xs)))) (sym ((bytes_decides x.name w).0 y)) ∙ other)
      ∙ sym (behind 0 (length xs) w xs x (omega arith))
      ∙ ap (λ zs. linked_from 0 w (map (object_of []) zs)) (sym more);
}

linked : {A : Type 0} (l : Bool) (o : Option A) → (l && not (is_some o)) ≡ true → (l ≡ true) × (o ≡ None)
linked true None e = (refl, refl)
linked true (Some x) e = absurd cc
linked false o e = absurd cc

pub first : {S : Type 0} (m n : HashMap (Vec ℕ) ℕ S) (xs ys : List Object) (x : Object) (name : List ℕ) (number : ℕ) → Agrees m (λ w. linked_from 0 w (map (object_of []) xs)) → ys ≡ xs ++ x ∷ []
    → is_first xs x ≡ true → name ≡ x.name → number ≡ length xs
    → hash.UpdatesBy same_keys (λ key. bytes_eq name key.items) m n (Some number) → Agrees n (λ w. linked_from 0 w (map (object_of []) ys))
first m n xs ys x name number a more true_first same counts h =
    let known = linked (is_linked (life_of x.life)) (linked_from 0 x.name (map (object_of []) xs)) true_first in
    record {
      at = λ w.
          changed name m n (Some number) h w
          ∙ put_behind (bytes_eq name w) number (at_name m w) (λ y. ap (at_name m) (sym ((bytes_decides name w).0 y) ∙ same) ∙ a.at x.name ∙ known.1)
          ∙ ap (λ b. or_else b (cond (bytes_eq name w) (Some number) None)) (a.at w)
          ∙ ap (λ v. or_else (linked_from 0 w (map (object_of []) xs)) (cond (bytes_eq v w) (Some number) None)) same
          ∙ ap (λ b. or_else (linked_from 0 w (map (object_of []) xs)) (cond (b && bytes_eq x.name w) (Some number) None)) (sym known.0)
          ∙ ap (λ k. or_else (linked_from 0 w (map (object_of []) xs)) (cond (is_linked (life_of x.life) && bytes_eq x.name w) (Some k) None)) counts
          ∙ sym (behind 0 (length xs) w xs x (omega arith))
          ∙ ap (λ zs. linked_from 0 w (map (object_of []) zs)) (sym more);
    }

-- ---- another type, and another start

unmoved : (at : ℕ) (w : List ℕ) (xs : List Object) (n : ℕ) (x y : Object) → slice_get xs n ≡ Some x → y.name ≡ x.name → y.life ≡ x.life → linked_from at w (map (object_of []) (slice_set xs n y)) ≡ linked_from at w (map (object_of []) xs)
unmoved at w [] n x y is name life = refl
unmoved at w (z ∷ xs) zero x y is name life =
    let same : z ≡ x = cc in
    ap (λ l. cond (is_linked (life_of l) && bytes_eq y.name w) (Some at) (linked_from (at + 1) w (map (object_of []) xs))) (life ∙ ap (λ (o : Object). o.life) (sym same))
    ∙ ap (λ v. cond (is_linked (life_of z.life) && bytes_eq v w) (Some at) (linked_from (at + 1) w (map (object_of []) xs))) (name ∙ ap (λ (o : Object). o.name) (sym same))
unmoved at w (z ∷ xs) (suc n) x y is name life = ap (cond (is_linked (life_of z.life) && bytes_eq z.name w) (Some at)) (unmoved (at + 1) w xs n x y is name life)

pub started : {S : Type 0} (m : HashMap (Vec ℕ) ℕ S) (xs ys : List Object) (n : ℕ) (ty : TypeId) (start : Option Start) → Agrees m (λ w. linked_from 0 w (map (object_of []) xs)) → ys ≡ with_start n ty start xs
    → Agrees m (λ w. linked_from 0 w (map (object_of []) ys))
started m xs ys n ty start a is = record { at = λ w. a.at w ∙ sym (stays w (slice_get xs n) refl) ∙ ap (λ zs. linked_from 0 w (map (object_of []) zs)) (sym is) }
  where
    stays : (w : List ℕ) (found : Option Object) → slice_get xs n ≡ found
        → linked_from 0 w (map (object_of []) (elim found [ None ↦ xs | Some object ↦ slice_set xs n (record object { ty = ty; start = start }) ])) ≡ linked_from 0 w (map (object_of []) xs)
    stays w None e = refl
    stays w (Some x) e = unmoved 0 w xs n x (record x { ty = ty; start = start }) e refl refl
