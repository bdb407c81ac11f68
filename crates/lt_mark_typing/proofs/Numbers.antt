-- Flags of objects, and the numbers that they give.
use Rattle.std.proofs.Common.{◌≡◌, ℕ, List, [], ◌∷◌, Bool, refl, ap, ◌∙◌}
use Rattle.std.specs.Prelude.{◌++◌}
use Rattle.lt_object_laws.specs.Renamed.{renumbered}
use Rattle.lt_mark_typing.specs.Further.{Extends, Agrees}

-- ---- lists of flags that go on

joined_again : (a b c : List Bool) → (a ++ b) ++ c ≡ a ++ (b ++ c)
joined_again [] b c = refl
joined_again (x ∷ a) b c = ap (λ l. x ∷ l) (joined_again a b c)

nothing_more : (a : List Bool) → a ≡ a ++ []
nothing_more [] = refl
nothing_more (x ∷ a) = ap (λ l. x ∷ l) (nothing_more a)

pub extends_itself : (further : List Bool) → Extends further further
extends_itself further = record { more = []; is = nothing_more further }

pub extends_with : (further more : List Bool) → Extends further (further ++ more)
extends_with further more = record { more = more; is = refl }

pub extends_on : {a b c : List Bool} → Extends a b → Extends b c → Extends a c
extends_on {a} {b} {c} h g = record { more = h.more ++ g.more; is = g.is ∙ ap (λ l. l ++ g.more) h.is ∙ joined_again a h.more g.more }

-- the numbers in the end are those so far
pub agrees_before : {r : ℕ → ℕ} {further behind : List Bool} → Extends further behind → Agrees r behind → Agrees r further
agrees_before h g = record { all = g.all; extends = extends_on h g.extends; is = g.is }

-- the numbers as they are so far
pub agrees_so_far : (further : List Bool) → Agrees (renumbered further) further
agrees_so_far further = record { all = further; extends = extends_itself further; is = refl }

-- something that holds of all numbers that objects may have in the end does so later too
pub later : {further behind : List Bool} {P : (ℕ → ℕ) → Type 0} → Extends further behind → ((r : ℕ → ℕ) → Agrees r further → P r) → (r : ℕ → ℕ) → Agrees r behind → P r
later h f r a = f r (agrees_before h a)
