-- Pure expressions in rows, as lists.
use Rattle.std.proofs.Common.{◌≡◌, ℕ, zero, suc, ◌<◌, ◌≤◌, refl, ap, ◌∙◌, List, [], ◌∷◌, ◌++◌, length, drop, get_or, nat_eq, arith}
use Rattle.std.proofs.Math.Dec.{eqb-zero-suc, eqb-suc-suc}
use Rattle.std.specs.Global.{Vec}
use Rattle.lt_ir.specs.declared.pure.Pure.{Pure}
use Rattle.lt_ir.specs.declared.pure.Pure as pure
use Rattle.lt_ir.specs.declared.pure.Pure.TheVariants as variant
use Rattle.lt_ir.specs.declared.pure.Pure.TheBlock as at
use Rattle.lt_ir.specs.PureView.{pure_of, pures_of}
use Rattle.lt_ir.specs.Pure.{Pures, no_pures, a_pure, Comma}
use Rattle.lt_tree.specs.declared.typed.tree.Value.{Value}
use Rattle.lt_tree.specs.Typing.Types.{CType}
use Rattle.lt_tree.specs.Typing.ValueView.{value_of, values_in}
use Rattle.lt_code.specs.Predicates.{Names, raw_of, raw_parts}
use Rattle.lt_meaning.specs.Expressions.{Fate, fate_of_part}
use Rattle.lt_emit.specs.Fate.{part_fate}
use Rattle.lt_emit.specs.Names.{pures_in, before}

pures_row : {n : _} → (row : at.Row_of-Pure n) → pures_of row ≡ pures_in (at.items-the_row-Pure n row)
pures_row at.end_of-Pure = refl
pures_row (at.more_of-Pure first rest) = ap (a_pure (pure_of first)) (pures_row rest)

pub comma_is : (all : Vec Pure) → pure_of (variant.Comma all) ≡ Comma (pures_in all.items)
comma_is all = ap Comma (pures_row (at.hidden-the_row-Pure-0 all) ∙ ap pures_in (pure.items_hidden-the_row-Pure-0 all))

-- one more
pub before_more : (some : List Pure) (q : Pure) (later : Pures) → before (some ++ (q ∷ [])) later ≡ before some (a_pure (pure_of q) later)
before_more [] q later = refl
before_more (p ∷ some) q later = ap (a_pure (pure_of p)) (before_more some q later)

-- all of them
pub before_none : (some : List Pure) → before some no_pures ≡ pures_in some
before_none [] = refl
before_none (p ∷ some) = ap (a_pure (pure_of p)) (before_none some)

-- the last part is the one that has none behind it
pub last_part : (types : List CType) (fate : Fate) (parts : List Value) (k : ℕ) → k ≤ length parts
    → part_fate fate (nat_eq k (length parts)) ≡ fate_of_part fate (values_in types (drop k parts))
last_part types fate [] zero le = refl
last_part types fate [] (suc k) le = absurd (omega (arith, le))
last_part types fate (v ∷ parts) zero le = ap (part_fate fate) (eqb-zero-suc (length parts))
last_part types fate (v ∷ parts) (suc k) le =
    ap (part_fate fate) (eqb-suc-suc k (length parts)) ∙ last_part types fate parts k (omega (arith, le))

pub drop_over : {A : Type 0} (xs : List A) (k : ℕ) → length xs ≤ k → drop k xs ≡ []
drop_over [] zero le = refl
drop_over [] (suc k) le = refl
drop_over (x ∷ xs) zero le = absurd (omega (arith, le))
drop_over (x ∷ xs) (suc k) le = drop_over xs k (omega (arith, le))

-- a part of a comma expression, before those behind it
pub part_before :
    (n : Names) (types : List CType) (f : Fate) (parts : List Value) (k : ℕ) (d : Value) (q : Pure) (fate : Fate)
    → k < length parts → fate ≡ part_fate f (nat_eq (suc k) (length parts))
    → pure_of q ≡ raw_of n fate (value_of types (get_or parts k d))
    → a_pure (pure_of q) (raw_parts n f (values_in types (drop (suc k) parts))) ≡ raw_parts n f (values_in types (drop k parts))
part_before n types f [] k d q fate lt is made = absurd (omega (arith, lt))
part_before n types f (v ∷ parts) zero d q fate lt is made =
    ap (λ p. a_pure p (raw_parts n f (values_in types parts)))
    (made ∙ ap (λ g. raw_of n g (value_of types v)) (is ∙ ap (part_fate f) (eqb-suc-suc zero (length parts)) ∙ last_part types f parts zero (omega arith)))
part_before n types f (v ∷ parts) (suc k) d q fate lt is made =
    part_before n types f parts k d q fate (omega (arith, lt)) (is ∙ ap (part_fate f) (eqb-suc-suc (suc k) (length parts))) made

-- a pointer that is null
pub null_is : (all : Vec Pure) (first second : Pure) → all.items ≡ (first ∷ (second ∷ []))
    → pure_of (variant.Comma all) ≡ Comma (a_pure (pure_of first) (a_pure (pure_of second) no_pures))
null_is all first second is = comma_is all ∙ ap (λ xs. Comma (pures_in xs)) is
