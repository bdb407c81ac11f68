-- The parts of the domain of a parameter are predicates.
use Rattle.std.proofs.Common.{◌≡◌, ℕ, List, [], ◌∷◌, Bool, true, false, refl}
use Rattle.std.proofs.lemmas.Bool.{false≢true}
use Rattle.std.specs.Prelude.{if◌then◌else◌}
use Rattle.std.specs.List.{AllByRecursion}
use Rattle.lt_model.specs.declared.scalar.DataModel.{DataModel}
use Rattle.lt_model.specs.declared.operator.Op.{Op}
use Rattle.lt_model.specs.declared.operator.Op.TheVariants as O
use Rattle.lt_tree.specs.Tree as c
use Rattle.lt_tree.specs.Typing.Types.{CType, Void, Num, Pointer, Array, Struct, Function as FunctionType, Floating, Qualified, own_qualifiers, is_integer, is_pointer, is_scalar}
use Rattle.lt_tree.specs.Typing.Entities.{Known}
use Rattle.lt_objectives.specs.Decisions.{zero_constant}
use Rattle.lt_objectives.specs.Mutants.{is_signed_integer}
use Rattle.lt_mark_typing.specs.Placed.{IsThere}
use Rattle.lt_mark_typing.specs.Laws.{PredicatesAreMade}
use Rattle.lt_objective_typing.specs.Laws.{DomainsGivePredicates}
use Rattle.lt_objective_typing.proofs.Made.{operated, integer_there}
use Rattle.lt_objective_typing.proofs.Constants.{zero_there}
use Rattle.lt_objective_typing.proofs.Equalities.{Equality, equal, unequal, with_null}

signed_is_integer : (m : DataModel) (t : CType) → is_signed_integer m t ≡ true → is_integer t ≡ true
signed_is_integer m (Num s) h = refl
signed_is_integer m (Qualified q t) h = signed_is_integer m t h
signed_is_integer m Void h = absurd (false≢true h)
signed_is_integer m (Pointer t) h = absurd (false≢true h)
signed_is_integer m (Array t n) h = absurd (false≢true h)
signed_is_integer m (Struct n) h = absurd (false≢true h)
signed_is_integer m (FunctionType t ts dots) h = absurd (false≢true h)
signed_is_integer m Floating h = absurd (false≢true h)

module _ (made : PredicatesAreMade) (new : ℕ → Bool) (used : List ℕ) (known : Known) (e : c.Expression) where
  abbrev There : c.Expression → Type 0
  There it = IsThere is_scalar new used known it

  number : (op : Op) → IsThere is_integer new used known e → There (c.Binary op e zero_constant)
  number op h = integer_there made (c.Binary op e zero_constant) (operated made op e zero_constant h (zero_there made))

  pointer : {op : Op} → Equality op → IsThere is_pointer new used known e → There (c.Binary op e zero_constant)
  pointer {op} o h = integer_there made (c.Binary op e zero_constant) (with_null o e h)

  by : (v p s i : Bool) → (p ≡ true → IsThere is_pointer new used known e) → (s ≡ true → IsThere is_integer new used known e) → (i ≡ true → IsThere is_integer new used known e)
      → AllByRecursion There
      (if v then []
      else (if p then c.Binary O.Eq e zero_constant ∷ c.Binary O.Ne e zero_constant ∷ []
      else (if s then c.Binary O.Lt e zero_constant ∷ c.Binary O.Eq e zero_constant ∷ c.Binary O.Gt e zero_constant ∷ []
      else (if i then c.Binary O.Eq e zero_constant ∷ c.Binary O.Gt e zero_constant ∷ [] else []))))
  by true p s i f g h = tt
  by false true s i f g h = (pointer equal (f refl), (pointer unequal (f refl), tt))
  by false false true i f g h = (number O.Lt (g refl), (number O.Eq (g refl), (number O.Gt (g refl), tt)))
  by false false false true f g h = (number O.Eq (h refl), (number O.Gt (h refl), tt))
  by false false false false f g h = tt

pub of_domains : PredicatesAreMade → DomainsGivePredicates
of_domains made new used known model t e h g =
    by made new used known e (own_qualifiers t).volatile (is_pointer t) (is_signed_integer model t) (is_integer t) g (λ s. h (signed_is_integer model t s)) h
