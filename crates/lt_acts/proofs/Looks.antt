-- What pure expressions give.
use Rattle.std.proofs.Common.{◌≡◌, ℕ, suc, ◌<◌, ◌≤◌, List, length, get_or, drop, drop-cons, drop_of_length-le, Result, Ok, Err, true, false, sym, ap, ◌∙◌}
use Rattle.std.specs.Prelude.{if◌then◌else◌}
use Rattle.lt_model.specs.declared.cell.Content.{Content}
use Rattle.lt_model.specs.declared.scalar.DataModel.{DataModel}
use Rattle.lt_model.specs.Memory.{Memory}
use Rattle.lt_model.specs.State.{Gives, Ends}
use Rattle.lt_ir.specs.declared.pure.Pure.{Pure as Held}
use Rattle.lt_ir.specs.Running.{At, Answer, Bound, Step, ◌>>=◌}
use Rattle.lt_ir.specs.Evaluation.{truth_in}
use Rattle.lt_ir.specs.Pure.{Pure, look, look_from}
use Rattle.lt_ir.specs.PureView.{pure_of}
use Rattle.lt_acts.specs.declared.flow.Fault.{Fault}
use Rattle.lt_acts.specs.Ends.{end_of}
use Rattle.lt_acts.specs.Acts.{Reads}
use Rattle.lt_acts.specs.Placing.{standing, ReadsIn}
use Rattle.lt_acts.specs.Looking.{pures_in}
use Rattle.lt_acts.proofs.Answering.{then_on, next_on, ends_first}

module _ (model : DataModel) (scope : List Bound) (m : Memory) where
  -- an expression that lies elsewhere
  pub looked : (p q : Pure) (a : Content) → q ≡ p → ReadsIn (look model q) scope m (Ok a) → ReadsIn (look model p) scope m (Ok a)
  looked p q a e h = λ at. ap (λ p. look model p (standing scope m at)) (sym e) ∙ h at

  -- what is done with its value
  pub looked_then : (p q : Pure) (go : Content → Step Content) (a : Content) (r : Result Content Fault) → q ≡ p → ReadsIn (look model q) scope m (Ok a) → Reads (go a) m r → ReadsIn (look model p >>= go) scope m r
  looked_then p q go a r e h i = λ at. next_on (look model p) go (standing scope m at) (standing scope m at) a _ (looked p q a e h at) (i (standing scope m at))

  pub looked_both : (p q p1 q1 : Pure) (go : Content → Content → Step Content) (a b : Content) (r : Result Content Fault) → q ≡ p → ReadsIn (look model q) scope m (Ok a) → q1 ≡ p1 → ReadsIn (look model q1) scope m (Ok b) → Reads (go a b) m r
      → ReadsIn (look model p >>= (λ a. look model p1 >>= go a)) scope m r
  looked_both p q p1 q1 go a b r e h e1 h1 i = λ at.
      next_on (look model p) (λ a. look model p1 >>= go a) (standing scope m at) (standing scope m at) a _ (looked p q a e h at)
      (next_on (look model p1) (go a) (standing scope m at) (standing scope m at) b _ (looked p1 q1 b e1 h1 at) (i (standing scope m at)))

  -- one of two
  pub chosen : (p q p1 q1 p2 : Pure) (a : Content) (r : Result Content Fault) → q ≡ p → ReadsIn (look model q) scope m (Ok a) → Reads (truth_in a) m (Ok true) → q1 ≡ p1 → ReadsIn (look model q1) scope m r
      → ReadsIn (look model p >>= (λ c. truth_in c >>= (λ b. if b then look model p1 else look model p2))) scope m r
  chosen p q p1 q1 p2 a r e h t e1 h1 = λ at.
      next_on (look model p) (λ c. truth_in c >>= (λ b. if b then look model p1 else look model p2)) (standing scope m at) (standing scope m at) a _ (looked p q a e h at)
      (next_on (truth_in a) (λ b. if b then look model p1 else look model p2) (standing scope m at) (standing scope m at) true _ (t (standing scope m at)) (ap (λ p. look model p (standing scope m at)) (sym e1) ∙ h1 at))

  pub other : (p q p1 p2 q2 : Pure) (a : Content) (r : Result Content Fault) → q ≡ p → ReadsIn (look model q) scope m (Ok a) → Reads (truth_in a) m (Ok false) → q2 ≡ p2 → ReadsIn (look model q2) scope m r
      → ReadsIn (look model p >>= (λ c. truth_in c >>= (λ b. if b then look model p1 else look model p2))) scope m r
  other p q p1 p2 q2 a r e h t e2 h2 = λ at.
      next_on (look model p) (λ c. truth_in c >>= (λ b. if b then look model p1 else look model p2)) (standing scope m at) (standing scope m at) a _ (looked p q a e h at)
      (next_on (truth_in a) (λ b. if b then look model p1 else look model p2) (standing scope m at) (standing scope m at) false _ (t (standing scope m at)) (ap (λ p. look model p (standing scope m at)) (sym e2) ∙ h2 at))

  pub no_choice : (p q p1 p2 : Pure) (a : Content) (why : Fault) → q ≡ p → ReadsIn (look model q) scope m (Ok a) → Reads (truth_in a) m (Err why)
      → ReadsIn (look model p >>= (λ c. truth_in c >>= (λ b. if b then look model p1 else look model p2))) scope m (Err why)
  no_choice p q p1 p2 a why e h t = λ at.
      next_on (look model p) (λ c. truth_in c >>= (λ b. if b then look model p1 else look model p2)) (standing scope m at) (standing scope m at) a _ (looked p q a e h at)
      (ends_first (truth_in a) (λ b. if b then look model p1 else look model p2) (standing scope m at) (standing scope m at) (end_of why) (t (standing scope m at)))

  -- what the rest of a list gives that is looked at one after the other
  abbrev pub rest_gives : Content → List Held → At → Answer Content
  rest_gives c parts at = look_from model c (pures_in parts) (standing scope m at)

  pub one_looked : (parts : List Held) (i : ℕ) (d : Held) (c a : Content) (at : At) → i < length parts → ReadsIn (look model (pure_of (get_or parts i d))) scope m (Ok a)
      → rest_gives c (drop i parts) at ≡ rest_gives a (drop (suc i) parts) at
  one_looked parts i d c a at h is =
      ap (λ parts. rest_gives c parts at) (drop-cons parts i d h)
      ∙ then_on (look model (pure_of (get_or parts i d))) (λ a. look_from model a (pures_in (drop (suc i) parts))) (standing scope m at) (standing scope m at) a (is at)

  pub one_ends : (parts : List Held) (i : ℕ) (d : Held) (c : Content) (why : Fault) (at : At) → i < length parts → ReadsIn (look model (pure_of (get_or parts i d))) scope m (Err why)
      → rest_gives c (drop i parts) at ≡ Ends (end_of why) (standing scope m at)
  one_ends parts i d c why at h is =
      ap (λ parts. rest_gives c parts at) (drop-cons parts i d h)
      ∙ ends_first (look model (pure_of (get_or parts i d))) (λ a. look_from model a (pures_in (drop (suc i) parts))) (standing scope m at) (standing scope m at) (end_of why) (is at)

  pub all_looked : (parts : List Held) (i : ℕ) (c : Content) (at : At) → length parts ≤ i → rest_gives c (drop i parts) at ≡ Gives c (standing scope m at)
  all_looked parts i c at h = ap (λ parts. rest_gives c parts at) (drop_of_length-le parts h)
