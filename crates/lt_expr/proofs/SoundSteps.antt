-- What readings give, for each way to put them together.
use Rattle.std.proofs.Common.{◌≡◌, Bool, true, false, cond, Option, Some, None, option_map, option_and_then, refl, subst}
use Rattle.lt_expr.specs.Front.{◌>>=◌, if_some}

-- whatever this reading gives is so
pub record Yields {A : Type 0} (o : Option A) (P : A → Type 0) : Type 0 where
  pub holds : (x : A) → o ≡ Some x → P x

-- where nothing is given, anything holds
pub nothing : {A : Type 0} {P : A → Type 0} → Yields None P
nothing = record { holds = λ x e. absurd cc }

-- a result that is given at once
pub given : {A : Type 0} {P : A → Type 0} {a : A} → P a → Yields (Some a) P
given {A} {P} {a} h = record { holds = λ x e. let same : a ≡ x = cc in subst P same h }

-- what is so is so in a weaker sense
pub weaker : {A : Type 0} {P Q : A → Type 0} {o : Option A} → ((x : A) → P x → Q x) → Yields o P → Yields o Q
weaker f g = record { holds = λ x e. f x (g.holds x e) }

-- one reading and then another
pub both : {A B : Type 0} {Q : A → Type 0} {P : B → Type 0} (o : Option A) {f : A → Option B}
    → Yields o Q → ((x : A) → Q x → Yields (f x) P) → Yields (o >>= f) P
both None g h = nothing
both (Some a) g h = h a (g.holds a refl)

-- one reading or another
pub chosen : {A : Type 0} {P : A → Type 0} (b : Bool) {x y : Option A}
    → (b ≡ true → Yields x P) → (b ≡ false → Yields y P) → Yields (cond b x y) P
chosen true h k = h refl
chosen false h k = k refl

-- a reading by what there is
pub found : {A B : Type 0} {P : B → Type 0} (o : Option A) {f : A → Option B} {y : Option B}
    → ((x : A) → o ≡ Some x → Yields (f x) P) → (o ≡ None → Yields y P) → Yields (if_some o f y) P
found None h k = k refl
found (Some a) h k = h a refl

-- a reading whose result is changed
pub mapped : {A B : Type 0} {Q : A → Type 0} {P : B → Type 0} (f : A → B) (o : Option A) → Yields o Q → ((x : A) → Q x → P (f x)) → Yields (option_map f o) P
mapped f None g h = nothing
mapped f (Some a) g h = given (h a (g.holds a refl))

-- a reading and a step behind it
pub followed : {A B : Type 0} {Q : A → Type 0} {P : B → Type 0} (f : A → Option B) (o : Option A)
    → Yields o Q → ((x : A) → Q x → Yields (f x) P) → Yields (option_and_then f o) P
followed f None g h = nothing
followed f (Some a) g h = h a (g.holds a refl)
