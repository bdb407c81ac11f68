-- The statements of a `switch`, and where their labels lead.
use Rattle.std.proofs.Common.{◌≡◌, ℕ, ◌-◌, ◌<◌, ◌≤◌, List, [], ◌∷◌, ◌++◌, map, reverse, length, drop, get_or, true, ◌&&◌, Some, None, Option, slice_get, refl, sym, subst, ap, ◌∙◌, arith}
use Rattle.std.specs.Prelude.{IfSome, unwrap_or}
use Rattle.std.proofs.lemmas.Bool.{lt-ltb}
use Rattle.std.proofs.lemmas.List.{drop_all, reverse-append}
use Rattle.lt_tree.specs.declared.typed.statement.Case.{Case}
use Rattle.lt_tree.specs.declared.typed.statement.Label.{Label}
use Rattle.lt_tree.specs.declared.typed.statement.Label.TheVariants as label
use Rattle.lt_tree.specs.Typing.StatementView.{label_of, statement_of}
use Rattle.lt_ir.specs.declared.node.Arm.{Arm}
use Rattle.lt_ir.specs.declared.node.Node.TheVariants as node
use Rattle.lt_code.specs.Bodies.{Entry, arms_of, default_of, labels_at}
use Rattle.lt_emit.specs.declared.builder.Builder.{Builder}
use Rattle.lt_emit.specs.Turning.{turned_arm, are_below}
use Rattle.lt_emit.specs.Spending.{Spends}
use Rattle.lt_emit.specs.Emission.{Here, here_of, Finished, Grows, Adds, HasPoint}
use Rattle.lt_emit.proofs.Adding.{both}
use Rattle.lt_emit.proofs.Emitted.{still_below}
use Rattle.lt_emit.proofs.Spent.{spends_more, spends_within, fitting}
use Rattle.lt_lower.specs.declared.flow.Exits.{Exits as HeldExits}
use Rattle.lt_lower.specs.declared.flow.Entered.{Entered}
use Rattle.lt_lower.specs.Stands.{statement_cost, cases_cost, HasCases, HasArms, arms_at, default_at, FlowStands, PutsLabels, PutsCase, ChoiceStands}
use Rattle.lt_lower.proofs.Flows.{nothing_added, row_from, point_after}

-- ---- labels

turned_back : {X : Type 0} (xs : List X) (x : X) → reverse (xs ++ x ∷ []) ≡ x ∷ reverse xs
turned_back xs x = reverse-append xs (x ∷ [])

-- no label was put yet
pub labels_none : (all : Entered) (labels : List Label) (k : ℕ) → length labels ≤ k → PutsLabels all all (drop k labels)
labels_none all labels k past =
    subst (PutsLabels all all) (sym (drop_all k labels past)) (record { from = refl; arms = refl; default = refl })

-- one more was put in front
pub case_put :
    (before all after : Entered) (labels : List Label) (k : ℕ) (l : Label) (z : _) → 0 < k → k ≤ length labels → l ≡ get_or labels (k - 1) l
    → l ≡ label.Case z → PutsLabels before all (drop k labels)
    → after.from ≡ all.from → after.default ≡ all.default
    → after.arms.items ≡ all.arms.items ++ record { value = z; next = all.from } ∷ []
    → PutsLabels before after (drop (k - 1) labels)
case_put before all after labels k l z some fits is form puts from default arms =
    subst (PutsLabels before after) (sym (row_from labels k l some fits is))
    (subst (λ v. PutsLabels before after (v ∷ drop k labels)) (sym form) (record {
      from = from ∙ puts.from;
      arms = ap reverse arms ∙ turned_back all.arms.items _ ∙ ap (λ n. record { value = z; next = n } ∷ reverse all.arms.items) puts.from
          ∙ ap (λ row. record { value = z; next = before.from } ∷ row) puts.arms;
      default = default ∙ puts.default;
    }))

pub default_put :
    (before all after : Entered) (labels : List Label) (k : ℕ) (l : Label) → 0 < k → k ≤ length labels → l ≡ get_or labels (k - 1) l
    → l ≡ label.Default → PutsLabels before all (drop k labels)
    → after.from ≡ all.from → after.default ≡ Some all.from → after.arms.items ≡ all.arms.items
    → PutsLabels before after (drop (k - 1) labels)
default_put before all after labels k l some fits is form puts from default arms =
    subst (PutsLabels before after) (sym (row_from labels k l some fits is))
    (subst (λ v. PutsLabels before after (v ∷ drop k labels)) (sym form) (record {
      from = from ∙ puts.from;
      arms = ap reverse arms ∙ puts.arms;
      default = default ∙ ap Some puts.from;
    }))

pub labels_all :
    (before all : Entered) (labels : List Label) (k : ℕ) → k ≤ 0 → PutsLabels before all (drop k labels) → PutsLabels before all labels
labels_all before all labels k first puts =
    let none : k ≡ 0 = omega arith in
    let From : ℕ → Type 0 = λ n. PutsLabels before all (drop n labels) in
    subst From none puts

-- ---- entries

entered_arms :
    (point : ℕ → ℕ) (labels : List Label) (m : ℕ) (entries : List Entry) (arms : List Arm) → arms_of entries ≡ map (turned_arm point) arms
    → arms_of (labels_at (map label_of labels) (point m) entries) ≡ map (turned_arm point) (arms_at labels m arms)
entered_arms point [] m entries arms is = is
entered_arms point (label.Case z ∷ labels) m entries arms is =
    ap (λ row. record { value = z; next = point m } ∷ row) (entered_arms point labels m entries arms is)
entered_arms point (label.Default ∷ labels) m entries arms is = entered_arms point labels m entries arms is

entered_default :
    (point : ℕ → ℕ) (labels : List Label) (m : ℕ) (entries : List Entry) (default : Option ℕ) (to : ℕ)
    → default_of entries (point to) ≡ point (unwrap_or default to)
    → default_of (labels_at (map label_of labels) (point m) entries) (point to) ≡ point (unwrap_or (default_at labels m default) to)
entered_default point [] m entries default to is = is
entered_default point (label.Case z ∷ labels) m entries default to is = entered_default point labels m entries default to is
entered_default point (label.Default ∷ labels) m entries default to is = refl

-- ---- what the arms lead to is there

pub arms_below :
    (n : ℕ) (labels : List Label) (m : ℕ) (arms : List Arm) → m < n → are_below n (map (λ arm. arm.next) arms) ≡ true
    → are_below n (map (λ arm. arm.next) (arms_at labels m arms)) ≡ true
arms_below n [] m arms there below = below
arms_below n (label.Case z ∷ labels) m arms there below =
    ap (λ b. b && are_below n (map (λ arm. arm.next) (arms_at labels m arms))) (lt-ltb m n there) ∙ arms_below n labels m arms there below
arms_below n (label.Default ∷ labels) m arms there below = arms_below n labels m arms there below

pub default_there :
    (c : Builder) (labels : List Label) (m : ℕ) (default : Option ℕ) → HasPoint c m → IfSome default (HasPoint c)
    → IfSome (default_at labels m default) (HasPoint c)
default_there c [] m default has there = there
default_there c (label.Case z ∷ labels) m default has there = default_there c labels m default has there
default_there c (label.Default ∷ labels) m default has there = has

pub default_after : (b c : Builder) (default : Option ℕ) → Grows b c → IfSome default (HasPoint b) → IfSome default (HasPoint c)
default_after b c None g there = tt
default_after b c (Some m) g there = point_after m g there

-- ---- statements of a `switch`

-- none are left
pub cases_none :
    {a : Builder} (its : List Case) (x : HeldExits) (k : ℕ) → length its ≤ k
    → Adds a a (HasCases (drop k its) x x.next [] None)
cases_none {a} its x k past =
    let Are : List Case → Type 0 = λ row. Adds a a (HasCases row x x.next [] None) in
    subst Are (sym (drop_all k its past)) (nothing_added (λ it known. ([], (refl, refl), refl, λ to. refl)))

-- one more in front of those that are entered
pub cases_more :
    {a b c : Builder} (its : List Case) (x : HeldExits) (k : ℕ) (it : Case) (from : ℕ) (arms : List Arm) (default : Option ℕ) (m : ℕ)
    → 0 < k → k ≤ length its → it ≡ get_or its (k - 1) it
    → Adds a b (HasCases (drop k its) x from arms default) → Adds b c (FlowStands it.statement (record x { next = from }) m)
    → Adds a c (HasCases (drop (k - 1) its) x m (arms_at it.labels.items m arms) (default_at it.labels.items m default))
cases_more {a} {b} {c} its x k it from arms default m some fits is before one =
    let Are : List Case → Type 0 = λ row. Adds a c (HasCases row x m (arms_at it.labels.items m arms) (default_at it.labels.items m default)) in
    subst Are (sym (row_from its k it some fits is)) (both before one (λ here fin p q known.
    let rest = p known.1 in (
      labels_at (map label_of it.labels.items) (fin.point m) rest.0,
      (fin.point from, rest.0, refl, q known.0, rest.1),
      entered_arms fin.point it.labels.items m rest.0 arms rest.2,
      λ to. entered_default fin.point it.labels.items m rest.0 default to (rest.3 to),
    )))

-- what holds of those that are entered when one more was put in front
pub cases_put :
    {a b c : Builder} (its : List Case) (x : HeldExits) (k : ℕ) (it : Case) (entered all : Entered)
    → 0 < k → k ≤ length its → it ≡ get_or its (k - 1) it
    → Adds a b (HasCases (drop k its) x entered.from (reverse entered.arms.items) entered.default) → PutsCase b c entered all it x
    → Adds a c (HasCases (drop (k - 1) its) x all.from (reverse all.arms.items) all.default)
cases_put {a} {b} {c} its x k it entered all some fits is before puts =
    let arms = reverse entered.arms.items in
    let Arms : List Arm → Type 0 = λ row. Adds a c (HasCases (drop (k - 1) its) x all.from row (default_at it.labels.items all.from entered.default)) in
    let Default : Option ℕ → Type 0 = λ to. Adds a c (HasCases (drop (k - 1) its) x all.from (reverse all.arms.items) to) in
    subst Default (sym puts.default) (subst Arms (sym puts.arms)
    (cases_more its x k it entered.from arms entered.default all.from some fits is before puts.code.adds))

-- and what they cost
pub cases_spend :
    {a b c : Builder} (its : List Case) (x : HeldExits) (k : ℕ) (it : Case) (entered all : Entered)
    → 0 < k → k ≤ length its → it ≡ get_or its (k - 1) it → Grows a b → Spends (cases_cost (drop k its) (here_of a)) a b
    → PutsCase b c entered all it x → Spends (cases_cost (drop (k - 1) its) (here_of a)) a c
cases_spend {a} {b} {c} its x k it entered all some fits is grows before puts =
    let Costs : List Case → Type 0 = λ row. Spends (cases_cost row (here_of a)) a c in
    subst Costs (sym (row_from its k it some fits is))
    (spends_within (spends_more (cases_cost (drop k its)) (statement_cost (λ types. statement_of types it.statement)) grows before puts.spends)
    (grind fitting))

pub all_cases_spend :
    {a b : Builder} (its : List Case) (k : ℕ) → k ≤ 0 → Spends (cases_cost (drop k its) (here_of a)) a b → Spends (cases_cost its (here_of a)) a b
all_cases_spend {a} {b} its k first spends =
    let none : k ≡ 0 = omega arith in
    let From : ℕ → Type 0 = λ n. Spends (cases_cost (drop n its) (here_of a)) a b in
    subst From none spends

pub arms_put :
    {b c : Builder} (x : HeldExits) (it : Case) (entered all : Entered) → HasArms b (reverse entered.arms.items)
    → PutsCase b c entered all it x → HasArms c (reverse all.arms.items)
arms_put {b} {c} x it entered all below puts =
    let arms = reverse entered.arms.items in
    let m = length b.nodes.items in
    let n = length c.nodes.items in
    subst (HasArms c) (sym puts.arms) (arms_below n it.labels.items all.from arms puts.code.within
    (still_below m n (map (λ arm. arm.next) arms) puts.code.adds.grows.longer below))

pub default_put_there :
    {b c : Builder} (x : HeldExits) (it : Case) (entered all : Entered) → IfSome entered.default (HasPoint b)
    → PutsCase b c entered all it x → IfSome all.default (HasPoint c)
default_put_there {b} {c} x it entered all there puts =
    let There : Option ℕ → Type 0 = λ to. IfSome to (HasPoint c) in
    subst There (sym puts.default) (default_there c it.labels.items all.from entered.default puts.code.within
    (default_after b c entered.default puts.code.adds.grows there))

pub cases_all :
    {a b : Builder} (its : List Case) (x : HeldExits) (k from : ℕ) (arms : List Arm) (default : Option ℕ) → k ≤ 0
    → Adds a b (HasCases (drop k its) x from arms default) → Adds a b (HasCases its x from arms default)
cases_all {a} {b} its x k from arms default first code =
    let none : k ≡ 0 = omega arith in
    let From : ℕ → Type 0 = λ n. Adds a b (HasCases (drop n its) x from arms default) in
    subst From none code

-- ---- the choice

-- it leads where the labels do
pub choice_stands :
    (here : Here) (fin : Finished) (entries : List Entry) (all : Entered) (to default from : ℕ) → default ≡ unwrap_or all.default to
    → arms_of entries ≡ map (turned_arm fin.point) all.arms.items
    → ((n : ℕ) → default_of entries (fin.point n) ≡ fin.point (unwrap_or all.default n))
    → (chosen : ChoiceStands all.arms.items default from here fin)
    → slice_get fin.nodes (fin.point from) ≡ Some (node.Switch 0 (arms_of entries) chosen.0 (default_of entries (fin.point to)))
choice_stands here fin entries all to default from is arms_is default_is chosen =
    chosen.1 ∙ ap (λ row. Some (node.Switch 0 row chosen.0 (fin.point default))) (sym arms_is)
    ∙ ap (λ n. Some (node.Switch 0 (arms_of entries) chosen.0 n)) (ap fin.point is ∙ sym (default_is to))
