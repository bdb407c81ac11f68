-- What a relation between their members leaves of two `Num`s.
use Rattle.std.specs.Prelude.{ℤ, ◌≡◌, ◌≤ℤ◌, ◌<ℤ◌, ◌+ℤ◌}
use Rattle.lt_model.specs.declared.operator.Op.{Op}
use Rattle.lt_model.specs.declared.operator.Op.TheVariants as O
use Rattle.lt_value.specs.declared.num.Num.{Num}
use Rattle.lt_value.specs.Num.{Holds, IsLeast}

abbrev pub IsRelation : Op → Type 0
IsRelation O.Lt = Unit {0}
IsRelation O.Le = Unit {0}
IsRelation O.Gt = Unit {0}
IsRelation O.Ge = Unit {0}
IsRelation O.Eq = Unit {0}
IsRelation O.Ne = Unit {0}
IsRelation o = ⊥

-- the relations of C11 6.5.8 and 6.5.9, between values of one type
abbrev pub Relates : Op → ℤ → ℤ → Type 0
Relates O.Lt x y = x <ℤ y
Relates O.Le x y = x ≤ℤ y
Relates O.Gt x y = y <ℤ x
Relates O.Ge x y = y ≤ℤ x
Relates O.Eq x y = x ≡ y
Relates O.Ne x y = x ≡ y → ⊥
Relates o x y = ⊥

-- x is a member of a for which some member of b stands in the relation
abbrev pub IsLeft : (ℤ → ℤ → Type 0) → Num → Num → ℤ → Type 0
IsLeft r a b x = Holds a x × ((y : ℤ) × Holds b y × r x y)

-- y is a member of b for which some member of a stands in the relation
abbrev pub IsRight : (ℤ → ℤ → Type 0) → Num → Num → ℤ → Type 0
IsRight r a b y = Holds b y × ((x : ℤ) × Holds a x × r x y)

-- the least `Num` on each side that holds its members in the pairs of the relation
pub record IsRefined (r : ℤ → ℤ → Type 0) (a b m n : Num) : Type 0 where
  pub left : IsLeast (IsLeft r a b) m
  pub right : IsLeast (IsRight r a b) n

-- no pair of members stands in the relation
abbrev pub IsUnrelated : (ℤ → ℤ → Type 0) → Num → Num → Type 0
IsUnrelated r a b = (x y : ℤ) → Holds a x → Holds b y → r x y → ⊥

-- x is less than y by the gap at least
abbrev pub IsLessBy : ℤ → ℤ → ℤ → Type 0
IsLessBy gap x y = (x +ℤ gap) ≤ℤ y

abbrev pub IsMoreBy : ℤ → ℤ → ℤ → Type 0
IsMoreBy gap x y = (y +ℤ gap) ≤ℤ x

abbrev pub IsSame : ℤ → ℤ → Type 0
IsSame x y = x ≡ y

abbrev pub IsOther : ℤ → ℤ → Type 0
IsOther x y = x ≡ y → ⊥

-- the members of n up to a limit, those from it on, and those that are not k
abbrev pub IsUpTo : Num → ℤ → ℤ → Type 0
IsUpTo n limit z = Holds n z × (z ≤ℤ limit)

abbrev pub IsFrom : Num → ℤ → ℤ → Type 0
IsFrom n limit z = Holds n z × (limit ≤ℤ z)

abbrev pub IsBut : Num → ℤ → ℤ → Type 0
IsBut n k z = Holds n z × (z ≡ k → ⊥)
