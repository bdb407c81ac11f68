-- What asks and computes leaves the state as it is; and two parts that leave it give the same in either order.
use Rattle.std.proofs.Common.{◌≡◌, ℕ, Option, Some, None, Bool, true, false, refl, sym, ap, ◌∙◌, subst}
use Rattle.std.specs.Prelude.{◌&&◌, if◌then◌else◌, Result, Ok, Err}
use Rattle.lt_model.specs.declared.cell.Address.{Address}
use Rattle.lt_model.specs.declared.cell.CellType.{CellType}
use Rattle.lt_model.specs.declared.cell.Content.{Content}
use Rattle.lt_model.specs.declared.cell.Content.TheVariants as content
use Rattle.lt_model.specs.declared.scalar.DataModel.{DataModel}
use Rattle.lt_model.specs.declared.scalar.Scalar.{Scalar}
use Rattle.lt_model.specs.declared.operator.Op.{Op}
use Rattle.lt_model.specs.declared.operator.Ub.{Ub}
use Rattle.lt_model.specs.State.{Footprint, Valued, Gives, Ends}
use Rattle.lt_model.specs.Operators.{is_value}
use Rattle.lt_model.specs.Memory.{Memory, load, checked_address}
use Rattle.lt_ir.specs.declared.variable.Variable.{Variable}
use Rattle.lt_ir.specs.declared.pure.How.{How}
use Rattle.lt_ir.specs.declared.pure.How.TheVariants as how
use Rattle.lt_ir.specs.Pure.{convert_as}
use Rattle.lt_ir.specs.Running.{At, Answer, Step, ◌>>=◌, gives, defined, asked, absurdity, place, living_block}
use Rattle.lt_ir.specs.Evaluation.{valued, number_in, address_in, truth_in, grown, loaded, moved, member_at, applied, counted, compared, reads, cell_at, is_some_address, is_integer, is_right_operand, used}
use Rattle.lt_meaning.proofs.SameBut.{Quiet}
use Rattle.lt_code.proofs.PureAnswers.{quiet_grown, Stays, Same}

pub stays_bind : {A B : Type 0} (at : At) (m : Answer A) (g : A → Step B) → Stays at m → ((a : A) → Stays at (g a at)) → Stays at (elim (m) [ Gives a at1 ↦ g a at1 | Ends end at1 ↦ Ends end at1 ])
stays_bind at (Gives a at1) g e k = subst (λ t. Stays at (g a t)) (sym e) (k a)
stays_bind at (Ends end at1) g e k = tt

pub stays_defined : {A : Type 0} (r : Result A Ub) (at : At) → Stays at (defined r at)
stays_defined (Ok a) at = refl
stays_defined (Err kind) at = tt

pub stays_asked : {A : Type 0} (question : Memory → Result A Ub) (at : At) → Stays at (asked question at)
stays_asked question at = stays_defined (question at.memory) at

pub stays_number_in : (c : Content) (at : At) → Stays at (number_in c at)
stays_number_in content.Unset at = tt
stays_number_in (content.Number z) at = refl
stays_number_in (content.Address a) at = tt

pub stays_address_in : (c : Content) (at : At) → Stays at (address_in c at)
stays_address_in content.Unset at = tt
stays_address_in (content.Number z) at = tt
stays_address_in (content.Address a) at = refl

pub stays_used : (c : Content) (at : At) → Stays at (used c at)
stays_used content.Unset at = tt
stays_used (content.Number z) at = refl
stays_used (content.Address a) at = refl

pub stays_truth_in : (c : Content) (at : At) → Stays at (truth_in c at)
stays_truth_in content.Unset at = tt
stays_truth_in (content.Number z) at = refl
stays_truth_in (content.Address a) at = stays_bind at (asked (λ memory. checked_address memory a) at) (λ _. gives (is_some_address a)) (stays_asked (λ memory. checked_address memory a) at) (λ _. refl)

stays_fitting : {A : Type 0} (b : Bool) (m : Step A) (at : At) → Stays at (m at) → Stays at ((if b then m else absurdity) at)
stays_fitting true m at h = h
stays_fitting false m at h = tt

pub stays_moved : (op : Op) (size : ℕ) (a b : Content) (at : At) → Stays at (moved op size a b at)
stays_moved op size a b at = stays_bind at _ _ (stays_address_in a at) (λ p. stays_bind at _ _ (stays_number_in b at) (λ n. stays_fitting (is_integer n) _ at (stays_defined _ at)))

pub stays_member_at : (offset : ℕ) (a : Option Address) (at : At) → Stays at (member_at offset a at)
stays_member_at offset a at = stays_defined _ at

pub stays_applied : (model : DataModel) (op : Op) (s : Scalar) (a b : Content) (at : At) → Stays at (applied model op s a b at)
stays_applied model op s a b at = stays_bind at _ _ (stays_number_in a at) (λ p. stays_bind at _ _ (stays_number_in b at) (λ n. stays_fitting (is_value model s p && is_right_operand model op s n) _ at (stays_defined _ at)))

pub stays_counted : (size : ℕ) (a b : Content) (at : At) → Stays at (counted size a b at)
stays_counted size a b at = stays_bind at _ _ (stays_address_in a at) (λ p. stays_bind at _ _ (stays_address_in b at) (λ n. stays_defined _ at))

pub stays_compared : (op : Op) (a b : Content) (at : At) → Stays at (compared op a b at)
stays_compared op a b at = stays_bind at _ _ (stays_address_in a at) (λ p. stays_bind at _ _ (stays_address_in b at) (λ n. stays_defined _ at))

pub stays_place : (v : Variable) (at : At) → Stays at (place v at)
stays_place v at = by_block (living_block v at)
  where
    by_block : (o : Option ℕ) → Stays at (elim (o) [ None ↦ absurdity {A = Option Address} at | Some block ↦ Gives (Some (record { block = block; offset = 0 })) at ])
    by_block None = tt
    by_block (Some block) = refl

pub stays_converted : (model : DataModel) (conversion : How) (c : Content) (at : At) → Stays at (convert_as model conversion c at)
stays_converted model (how.ToInteger s) c at = stays_bind at (number_in c at) _ (stays_number_in c at) (λ z. refl)
stays_converted model how.ToTruth c at = stays_bind at (truth_in c at) _ (stays_truth_in c at) (λ b. refl)
stays_converted model how.ToPointer c at = stays_bind at (address_in c at) _ (stays_address_in c at) (λ a. refl)
stays_converted model how.ToVoid c at = refl
stays_converted model how.ToValue c at = stays_used c at
stays_converted model how.AsItIs c at = refl

-- a scalar is read
pub same_loaded : (tracks : Bool) (model : DataModel) (ty : CellType) (a : Option Address) (p : Footprint) (at : At) → Quiet p → Same (λ c. c) at (asked (λ memory. load model memory a ty) at) (loaded tracks model ty (valued a p) at)
same_loaded tracks model ty a p at q = by_result (load model at.memory a ty)
  where
    by_result : (r : Result Content Ub) → Same (λ c. c) at (defined r at) ((defined r >>= (λ c. gives (valued c (grown tracks p (reads (cell_at a 0)))))) at)
    by_result (Ok c) = (refl, refl, refl, quiet_grown tracks p (reads (cell_at a 0)) q (record { settled = refl; pending = refl }))
    by_result (Err kind) = tt

-- a conversion, or what else both do last
pub same_last : {A : Type 0} (at : At) (m : Answer A) (p : Footprint) → Stays at m → Quiet p → Same (λ c. c) at m (elim (m) [ Gives c at1 ↦ gives (valued c p) at1 | Ends end at1 ↦ Ends end at1 ])
same_last at (Gives c at1) p e q = (refl, e, e, q)
same_last at (Ends end at1) p e q = tt

-- two answers that give the same, or both end the run
abbrev pub Alike : {A : Type 0} → Answer A → Answer A → Type 0
Alike (Gives a at1) (Gives b at2) = (a ≡ b) × (at1 ≡ at2)
Alike (Gives a at1) (Ends end at2) = ⊥
Alike (Ends end at1) (Gives b at2) = ⊥
Alike (Ends end at1) (Ends end' at2) = Unit {0}

pub alike_same : {A : Type 0} (m : Answer A) → Alike m m
alike_same (Gives a at) = (refl, refl)
alike_same (Ends end at) = tt

pub same_alike : {A B : Type 0} (f : B → A) (at : At) (m m' : Answer A) (n : Answer (Valued B)) → Alike m m' → Same f at m' n → Same f at m n
same_alike f at (Gives a at1) (Gives a' at1') (Gives x at2) h e = (h.0 ∙ e.0, h.1 ∙ e.1, e.2, e.3)
same_alike f at (Gives a at1) (Gives a' at1') (Ends end at2) h e = absurd e
same_alike f at (Gives a at1) (Ends end at1') n h e = absurd h
same_alike f at (Ends end at1) (Gives a' at1') n h e = absurd h
same_alike f at (Ends end at1) (Ends end' at1') (Gives x at2) h e = absurd e
same_alike f at (Ends end at1) (Ends end' at1') (Ends end'' at2) h e = tt

-- two parts that leave the state, in either order
pub alike_swapped : {A B C : Type 0} (at : At) (l : Step A) (r : Step B) (k : A → B → Step C) → Stays at (l at) → Stays at (r at) → Alike ((r >>= (λ b. l >>= (λ a. k a b))) at) ((l >>= (λ a. r >>= (λ b. k a b))) at)
alike_swapped {A} {B} {C} at l r k sl sr = by_answers (l at) (r at) refl refl sl sr
  where
    by_answers : (m : Answer A) (n : Answer B) → l at ≡ m → r at ≡ n → Stays at m → Stays at n → Alike (elim (n) [ Gives b at1 ↦ (l >>= (λ a. k a b)) at1 | Ends end at1 ↦ Ends end at1 ]) (elim (m) [ Gives a at1 ↦ (r >>= (λ b. k a b)) at1 | Ends end at1 ↦ Ends end at1 ])
    by_answers (Gives a at1) (Gives b at2) e1 e2 h1 h2 =
        subst (λ n. Alike (elim (n) [ Gives a at1 ↦ k a b at1 | Ends end at1 ↦ Ends end at1 ]) ((r >>= (λ b. k a b)) at1)) (sym (ap l h2 ∙ e1)) (subst (λ n. Alike (k a b at1) (elim (n) [ Gives b at1 ↦ k a b at1 | Ends end at1 ↦ Ends end at1 ])) (sym (ap r h1 ∙ e2)) (subst (λ t. Alike (k a b at1) (k a b t)) (h1 ∙ sym h2) (alike_same (k a b at1))))
    by_answers (Gives a at1) (Ends end at2) e1 e2 h1 h2 = subst (λ n. Alike (Ends end at2) (elim (n) [ Gives b at1 ↦ k a b at1 | Ends end at1 ↦ Ends end at1 ])) (sym (ap r h1 ∙ e2)) tt
    by_answers (Ends end at1) (Gives b at2) e1 e2 h1 h2 = subst (λ n. Alike (elim (n) [ Gives a at1 ↦ k a b at1 | Ends end at1 ↦ Ends end at1 ]) (Ends end at1)) (sym (ap l h2 ∙ e1)) tt
    by_answers (Ends end at1) (Ends end' at2) e1 e2 h1 h2 = tt
