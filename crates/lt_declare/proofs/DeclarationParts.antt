-- What declarators declare, and what they break.
use Rattle.std.proofs.Common.{◌≡◌, ℕ, Bool, not, if◌then◌else◌, List, [], ◌∷◌, map, ◌||◌, ◌&&◌, Option, Some, None, refl, ap, ◌∙◌}
use Rattle.std.specs.List.{list_any}
use Rattle.std.specs.Str.{bytes_eq}
use Rattle.lt_tree.specs.declared.typed.entity.Function as held
use Rattle.lt_tree.specs.Typing.Types.{CType}
use Rattle.lt_tree.specs.Typing.EntityView.{function_of}
use Rattle.lt_tree.specs.Typing.Entities.{Known, Life, Entity, an_object, a_function, a_typedef, an_enumerator}
use Rattle.lt_tree.specs.Typing.Operands.{holds}
use Rattle.lt_tree.specs.Typing.Declaring.{Kind, a_type_name, a_function_name, an_object_of, agrees_with_function, is_same_function}
use Rattle.lt_declare.specs.Declaring.{is_function_that}

abbrev pub kind_by : Bool → Bool → Life → Bool → Kind
kind_by is_typedef is_function life is_register = if is_typedef then a_type_name else (if is_function then a_function_name else an_object_of life is_register)

pub kind_same : {a b c d e f : Bool} {l m : Life} → a ≡ b → c ≡ d → l ≡ m → e ≡ f → kind_by a c l e ≡ kind_by b d m f
kind_same {a = a} {b = b} {c = c} {d = d} {e = e} {f = f} {l = l} {m = m} p q r s =
    ap (λ x. kind_by x c l e) p ∙ ap (λ x. kind_by b x l e) q ∙ ap (λ x. kind_by b d x e) r ∙ ap (λ x. kind_by b d m x) s

pub again_same : (has_initialiser : Bool) {a b c d e f g h : Bool} → a ≡ b → c ≡ d → g ≡ h → e ≡ f → (not a || c || g || (has_initialiser && e)) ≡ (not b || d || h || (has_initialiser && f))
again_same i {a = a} {b = b} {c = c} {d = d} {e = e} {f = f} {g = g} {h = h} p q s r =
    ap (λ x. not x || c || g || (i && e)) p ∙ ap (λ x. not b || x || g || (i && e)) q ∙ ap (λ x. not b || d || x || (i && e)) s ∙ ap (λ x. not b || d || h || (i && x)) r

-- the functions with bodies have these names, whatever types there are
pub body_same : (types : List CType) (w : List ℕ) (fs : List held.Function) → list_any (λ f. bytes_eq f.name w) fs ≡ list_any (λ f. bytes_eq f.name w) (map (function_of types) fs)
body_same types w [] = refl
body_same types w (f ∷ fs) = ap (λ b. bytes_eq f.name w || b) (body_same types w fs)

pub same_function_found : (known : Known) (name : List ℕ) (t : CType) (found : Option Entity)
    → holds (λ e. not (is_function_that (agrees_with_function known name t) e)) found ≡ holds (λ e. not (is_same_function known name t e)) found
same_function_found known name t None = refl
same_function_found known name t (Some (an_object n r)) = refl
same_function_found known name t (Some a_function) = refl
same_function_found known name t (Some (a_typedef u)) = refl
same_function_found known name t (Some (an_enumerator z)) = refl
