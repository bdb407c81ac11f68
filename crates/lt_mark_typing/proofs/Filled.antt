-- Parts of objects that initialisers fill, where objects have other numbers.
use Rattle.std.proofs.Common.{◌≡◌, ℕ, List, [], ◌∷◌, Bool, true, false, refl, sym, ap, ◌∙◌}
use Rattle.std.specs.Prelude.{◌++◌, ◌&&◌, not}
use Rattle.lt_tree.specs.Typing.Types.{CType, unqualified}
use Rattle.lt_tree.specs.Typing.Rules.{unless, broken_if, bad_assignment, bad_initialiser}
use Rattle.lt_tree.specs.Typing.Constants.{Constancy, address}
use Rattle.lt_tree.specs.Typing.TypedTree as e
use Rattle.lt_tree.specs.Typing.TypedTree.{StartPart, Local}
use Rattle.lt_tree.specs.Typing.Entities.{Known}
use Rattle.lt_tree.specs.Typing.Expressions.{Typed, converted_to, value_in, constancy_to}
use Rattle.lt_tree.specs.Typing.Operations.{fits}
use Rattle.lt_tree.specs.Typing.Filling.{Filling, is_constant_content, value_faults, value_part}
use Rattle.lt_object_laws.specs.Renamed.{constancy_with, part_with, parts_with, local_with, locals_with}
use Rattle.lt_mark_typing.specs.Renumbered.{typed_with}
use Rattle.lt_mark_typing.proofs.Renumbering.{value_in_with, fits_with, constancy_to_with, converted_to_with}

-- The same is left to be filled, and what is filled is related.
pub record Fills (related : (ℕ → ℕ) → List StartPart → List StartPart → Type 0) (r : ℕ → ℕ) (f g : Filling) : Type 0 where
  pub left : g.left ≡ f.left
  pub parts : related r f.parts g.parts
  pub surplus : g.has_surplus ≡ f.has_surplus

-- the same parts, but for the numbers of objects
abbrev pub SameParts : (ℕ → ℕ) → List StartPart → List StartPart → Type 0
SameParts r xs ys = ys ≡ parts_with r xs

module _ (r : ℕ → ℕ) where
  pub parts_joined : (xs ys : List StartPart) → parts_with r (xs ++ ys) ≡ parts_with r xs ++ parts_with r ys
  parts_joined [] ys = refl
  parts_joined (x ∷ xs) ys = ap (λ l. part_with r x ∷ l) (parts_joined xs ys)

  pub locals_joined : (xs ys : List Local) → locals_with r (xs ++ ys) ≡ locals_with r xs ++ locals_with r ys
  locals_joined [] ys = refl
  locals_joined (x ∷ xs) ys = ap (λ l. local_with r x ∷ l) (locals_joined xs ys)

  -- what is filled behind
  pub parts_behind : (xs ys us : List StartPart) → SameParts r xs ys → SameParts r (xs ++ us) (ys ++ parts_with r us)
  parts_behind xs ys us h = ap (λ l. l ++ parts_with r us) h ∙ sym (parts_joined xs us)

  -- ---- values

  constant_with : (c : Constancy) → is_constant_content (constancy_with r c) ≡ is_constant_content c
  constant_with (address n offset) = refl
  constant_with c = refl

  pub faults_with : (known : Known) (is_static : Bool) (t : CType) (x : Typed) → value_faults known is_static t (typed_with r x) ≡ value_faults known is_static t x
  faults_with known is_static t x =
      ap (λ b. unless b bad_assignment ++ broken_if bad_initialiser (is_static && not (is_constant_content (constancy_to known.model (unqualified t) (constancy_with r x.constancy))))) (fits_with r (unqualified t) x)
      ∙ ap (λ b. unless (fits (unqualified t) x) bad_assignment ++ broken_if bad_initialiser (is_static && not b))
      (ap is_constant_content (constancy_to_with r known.model (unqualified t) x.constancy) ∙ constant_with (constancy_to known.model (unqualified t) x.constancy))

  pub part_with_value : (known : Known) (is_static : Bool) (offset : ℕ) (t : CType) (x : Typed) → value_part known is_static offset t (typed_with r x) ≡ part_with r (value_part known is_static offset t x)
  part_with_value known true offset t x = ap (e.fixed offset (unqualified t)) (constancy_to_with r known.model (unqualified t) x.constancy)
  part_with_value known false offset t x = ap (λ v. e.stored offset (converted_to (unqualified t) v)) (value_in_with r x) ∙ ap (e.stored offset) (converted_to_with r (unqualified t) (value_in x))
