-- Two answers that are the same but for their footprints, where one tracks them.
use Rattle.std.proofs.Common.{◌≡◌, List, [], ◌∷◌, Bool, true, false, refl, sym, ap, ◌∙◌, subst}
use Rattle.std.specs.Prelude.{◌++◌, ◌&&◌, if◌then◌else◌, Err, Option}
use Rattle.lt_model.specs.declared.cell.Address.{Address}
use Rattle.lt_model.specs.declared.cell.ShapeCell.{ShapeCell}
use Rattle.lt_model.specs.declared.operator.Ub.TheVariants as U
use Rattle.lt_model.specs.State.{CellName, Footprint, Valued, clash, joined, meets, settle, untouched, Gives, Ends}
use Rattle.lt_ir.specs.Running.{At, Answer, Step, gives, defined}
use Rattle.lt_ir.specs.Evaluation.{valued, apart, aimed, cells_met}
use Rattle.lt_meaning.specs.Clashes.{Grade, writes_nothing, cannot_clash, value_alone}

-- nothing was written
pub record Quiet (p : Footprint) : Type 0 where
  pub settled : p.settled ≡ []
  pub pending : p.pending ≡ []

pub quiet_untouched : Quiet untouched
quiet_untouched = record { settled = refl; pending = refl }

pub quiet_joined : (p q : Footprint) → Quiet p → Quiet q → Quiet (joined p q)
quiet_joined p q a b = record { settled = both p.settled q.settled a.settled b.settled; pending = both p.pending q.pending a.pending b.pending }
  where
    both : (xs ys : List CellName) → xs ≡ [] → ys ≡ [] → xs ++ ys ≡ []
    both xs ys e f = subst (λ l. l ++ ys ≡ []) (sym e) f

pub quiet_settled : (p : Footprint) → Quiet p → Quiet (settle p)
quiet_settled p a = record { settled = subst (λ l. l ++ p.pending ≡ []) (sym a.settled) a.pending; pending = refl }

-- two such parts don't clash
pub apart_quiet : (p q : Footprint) → Quiet p → Quiet q → (at : At) → apart true p q at ≡ Gives (joined p q) at
apart_quiet p q a b at = ap (λ c. by_clash c) (lists p.reads q.reads p.settled p.pending q.settled q.pending a.settled a.pending b.settled b.pending)
  where
    by_clash : Bool → Answer Footprint
    by_clash c = (if c then defined (Err U.Unsequenced) else gives (joined p q)) at

    lists : (r r' s1 p1 s2 p2 : List CellName) → s1 ≡ [] → p1 ≡ [] → s2 ≡ [] → p2 ≡ [] → clash (record { reads = r; settled = s1; pending = p1 }) (record { reads = r'; settled = s2; pending = p2 }) ≡ false
    lists r r' s1 p1 s2 p2 e1 e2 e3 e4 = rw (e1, e2, e3, e4) refl

meets_none : (cells : List CellName) → meets cells [] ≡ false
meets_none [] = refl
meets_none (c ∷ cells) = meets_none cells

-- what is to be written clashes with nothing of theirs
pub aimed_quiet : (cells : List ShapeCell) (place : Option Address) (p : Footprint) → Quiet p → (at : At) → aimed true cells place p at ≡ Gives p at
aimed_quiet cells place p a at =
    ap (λ c. (if c then defined (Err U.Unsequenced) else gives p) at) (ap (meets (cells_met cells place at.memory)) a.pending ∙ meets_none (cells_met cells place at.memory))

-- what a grade says of a footprint
abbrev pub Holds : Grade → Footprint → Type 0
Holds writes_nothing p = Quiet p
Holds cannot_clash p = Unit {0}

pub weaken : (g : Grade) (p : Footprint) → Quiet p → Holds g p
weaken writes_nothing p q = q
weaken cannot_clash p q = tt

pub holds_joined : (g : Grade) (p q : Footprint) → Holds g p → Holds g q → Holds g (joined p q)
holds_joined writes_nothing p q a b = quiet_joined p q a b
holds_joined cannot_clash p q a b = tt

pub holds_settled : (g : Grade) (p : Footprint) → Holds g p → Holds g (settle p)
holds_settled writes_nothing p a = quiet_settled p a
holds_settled cannot_clash p a = tt

-- The first answer has a footprint of which this holds; else they are the same.
abbrev pub SameBut : {A : Type 0} → (Footprint → Type 0) → Answer (Valued A) → Answer (Valued A) → Type 0
SameBut P (Gives x at1) (Gives y at2) = (x.value ≡ y.value) × (at1 ≡ at2) × P x.footprint
SameBut P (Ends end1 at1) (Ends end2 at2) = (end1 ≡ end2) × (at1 ≡ at2)
SameBut P (Gives x at1) (Ends end at2) = ⊥
SameBut P (Ends end at1) (Gives y at2) = ⊥

pub same_value : {A : Type 0} (P : Footprint → Type 0) (m n : Answer (Valued A)) → SameBut P m n → value_alone m ≡ value_alone n
same_value P (Gives x at1) (Gives y at2) h = ap (λ a. Gives a at1) h.0 ∙ ap (Gives y.value) h.1
same_value P (Ends end1 at1) (Ends end2 at2) h = ap (λ end. Ends end at1) h.0 ∙ ap (Ends end2) h.1
same_value P (Gives x at1) (Ends end at2) h = absurd h
same_value P (Ends end at1) (Gives y at2) h = absurd h

-- both go on
pub same_then : {A B : Type 0} (P Q : Footprint → Type 0) (m n : Answer (Valued A)) (f g : Valued A → Step (Valued B)) → SameBut P m n → ((a : A) (p q : Footprint) (at : At) → P p → SameBut Q (f (valued a p) at) (g (valued a q) at)) → SameBut Q (elim (m) [ Gives x at1 ↦ f x at1 | Ends end at1 ↦ Ends end at1 ]) (elim (n) [ Gives x at1 ↦ g x at1 | Ends end at1 ↦ Ends end at1 ])
same_then P Q (Gives x at1) (Gives y at2) f g h k =
    subst (λ t. SameBut Q (f x at1) (g y t)) h.1 (subst (λ a. SameBut Q (f x at1) (g (valued a y.footprint) at1)) h.0 (k x.value x.footprint y.footprint at1 h.2))
same_then P Q (Ends end1 at1) (Ends end2 at2) f g h k = h
same_then P Q (Gives x at1) (Ends end at2) f g h k = absurd h
same_then P Q (Ends end at1) (Gives y at2) f g h k = absurd h

-- something that both do, and then they go on
pub same_step : {A B : Type 0} (Q : Footprint → Type 0) (m : Answer A) (f g : A → Step (Valued B)) → ((a : A) (at : At) → SameBut Q (f a at) (g a at)) → SameBut Q (elim (m) [ Gives x at1 ↦ f x at1 | Ends end at1 ↦ Ends end at1 ]) (elim (m) [ Gives x at1 ↦ g x at1 | Ends end at1 ↦ Ends end at1 ])
same_step Q (Gives a at1) f g k = k a at1
same_step Q (Ends end at1) f g k = (refl, refl)

-- only the first asks about clashes, and there is none
pub same_known : {B : Type 0} (Q : Footprint → Type 0) (m : Answer Footprint) (p : Footprint) (at : At) (f : Footprint → Step (Valued B)) (n : Answer (Valued B)) → m ≡ Gives p at → SameBut Q (f p at) n → SameBut Q (elim (m) [ Gives x at1 ↦ f x at1 | Ends end at1 ↦ Ends end at1 ]) n
same_known Q m p at f n e h = subst (λ m. SameBut Q (elim (m) [ Gives x at1 ↦ f x at1 | Ends end at1 ↦ Ends end at1 ]) n) (sym e) h

pub and_left : (a b : Bool) → (a && b) ≡ true → a ≡ true
and_left true b e = refl
and_left false b e = e

pub and_right : (a b : Bool) → (a && b) ≡ true → b ≡ true
and_right true b e = e
and_right false true e = refl
and_right false false e = e
