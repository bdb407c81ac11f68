-- Where the labels of a `switch` lead.
use Rattle.std.proofs.Common.{◌≡◌, ℕ, List, [], ◌∷◌, Bool, true, false, refl, sym, ap, ◌∙◌}
use Rattle.std.specs.Prelude.{ℤ, ◌||◌, if◌then◌else◌}
use Rattle.std.specs.Ordering.{int_eq}
use Rattle.std.specs.List.{list_any}
use Rattle.lt_tree.specs.Typing.TypedTree as e
use Rattle.lt_tree.specs.Typing.TypedTree.{Cases, Label}
use Rattle.lt_meaning.specs.Statements.{is_case, is_default, has_label, entry_label}
use Rattle.lt_ir.specs.Tables.{arm_of}
use Rattle.lt_ir.proofs.Membership.{or_assoc}
use Rattle.lt_code.specs.Code.{Site}
use Rattle.lt_code.specs.Bodies.{Exits, Entry, at_case, at_default, arms_of, default_of, labels_at, cases}

-- the first place whose label passes, or else another place
abbrev pub entry_at : (Label → Bool) → List Entry → ℕ → ℕ
entry_at test [] to = to
entry_at test (at_case z place ∷ places) to = if test (e.Case z) then place else entry_at test places to
entry_at test (at_default place ∷ places) to = if test e.Default then place else entry_at test places to

abbrev is_listed : (Label → Bool) → List Entry → Bool
is_listed test [] = false
is_listed test (at_case z place ∷ places) = test (e.Case z) || is_listed test places
is_listed test (at_default place ∷ places) = test e.Default || is_listed test places

-- labels that lead to one place
pub entry_labels : (test : Label → Bool) (labels : List Label) (from : ℕ) (more : List Entry) (to : ℕ) → entry_at test (labels_at labels from more) to ≡ (if list_any test labels then from else entry_at test more to)
entry_labels test [] from more to = refl
entry_labels test (e.Case z ∷ labels) from more to = ap (λ i. if test (e.Case z) then from else i) (entry_labels test labels from more to) ∙ two (test (e.Case z)) (list_any test labels) from (entry_at test more to)
  where
    two : (a b : Bool) (i j : ℕ) → (if a then i else (if b then i else j)) ≡ (if a || b then i else j)
    two true b i j = refl
    two false b i j = refl
entry_labels test (e.Default ∷ labels) from more to = ap (λ i. if test e.Default then from else i) (entry_labels test labels from more to) ∙ two (test e.Default) (list_any test labels) from (entry_at test more to)
  where
    two : (a b : Bool) (i j : ℕ) → (if a then i else (if b then i else j)) ≡ (if a || b then i else j)
    two true b i j = refl
    two false b i j = refl

listed_labels : (test : Label → Bool) (labels : List Label) (from : ℕ) (more : List Entry) → is_listed test (labels_at labels from more) ≡ (list_any test labels || is_listed test more)
listed_labels test [] from more = refl
listed_labels test (e.Case z ∷ labels) from more = ap (λ b. test (e.Case z) || b) (listed_labels test labels from more) ∙ sym (or_assoc (test (e.Case z)) (list_any test labels) (is_listed test more))
listed_labels test (e.Default ∷ labels) from more = ap (λ b. test e.Default || b) (listed_labels test labels from more) ∙ sym (or_assoc (test e.Default) (list_any test labels) (is_listed test more))

listed_cases : (s : Site) (test : Label → Bool) (its : Cases) (places : List Entry) (from : ℕ) (x : Exits) → cases s its places from x → is_listed test places ≡ has_label test its
listed_cases s test e.no_cases places from x has = ap (is_listed test) has.0
listed_cases s test (e.a_case labels first rest) places from x has =
    ap (is_listed test) has.2 ∙ listed_labels test labels from has.1 ∙ ap (λ b. list_any test labels || b) (listed_cases s test rest has.1 has.0 x has.4)

arms_entry : (places : List Entry) (to : ℕ) (z : ℤ) → arm_of (arms_of places) to z ≡ entry_at (is_case z) places to
arms_entry [] to z = refl
arms_entry (at_case y place ∷ places) to z = ap (λ i. if int_eq y z then place else i) (arms_entry places to z)
arms_entry (at_default place ∷ places) to z = arms_entry places to z

default_entry : (places : List Entry) (to : ℕ) → default_of places to ≡ entry_at is_default places to
default_entry [] to = refl
default_entry (at_case y place ∷ places) to = default_entry places to
default_entry (at_default place ∷ places) to = refl

if_either : (b c : Bool) (place i j : ℕ) → (c ≡ true → i ≡ j) → (b || c) ≡ true → (if b then place else i) ≡ (if b then place else j)
if_either true c place i j h is = refl
if_either false c place i j h is = h is

if_neither : (b c : Bool) (place i j : ℕ) → (c ≡ false → i ≡ j) → (b || c) ≡ false → (if b then place else i) ≡ j
if_neither true c place i j h is = absurd (cc)
if_neither false c place i j h is = h is

-- where a label is listed, the other place doesn't count
entry_listed : (test : Label → Bool) (places : List Entry) (i j : ℕ) → is_listed test places ≡ true → entry_at test places i ≡ entry_at test places j
entry_listed test [] i j is = absurd (cc)
entry_listed test (at_case z place ∷ places) i j is = if_either (test (e.Case z)) (is_listed test places) place (entry_at test places i) (entry_at test places j) (λ h. entry_listed test places i j h) is
entry_listed test (at_default place ∷ places) i j is = if_either (test e.Default) (is_listed test places) place (entry_at test places i) (entry_at test places j) (λ h. entry_listed test places i j h) is

entry_unlisted : (test : Label → Bool) (places : List Entry) (i : ℕ) → is_listed test places ≡ false → entry_at test places i ≡ i
entry_unlisted test [] i is = refl
entry_unlisted test (at_case z place ∷ places) i is = if_neither (test (e.Case z)) (is_listed test places) place (entry_at test places i) i (λ h. entry_unlisted test places i h) is
entry_unlisted test (at_default place ∷ places) i is = if_neither (test e.Default) (is_listed test places) place (entry_at test places i) i (λ h. entry_unlisted test places i h) is

-- where a switch node leads
pub switch_entry : (s : Site) (its : Cases) (places : List Entry) (from to : ℕ) (x : Exits) (z : ℤ) → cases s its places from x → arm_of (arms_of places) (default_of places to) z ≡ entry_at (entry_label z its) places to
switch_entry s its places from to x z has = arms_entry places (default_of places to) z ∙ by_label (has_label (is_case z) its) (listed_cases s (is_case z) its places from x has)
  where
    by_label : (b : Bool) → is_listed (is_case z) places ≡ b → entry_at (is_case z) places (default_of places to) ≡ entry_at (if b then is_case z else is_default) places to
    by_label true is = entry_listed (is_case z) places (default_of places to) to is
    by_label false is = entry_unlisted (is_case z) places (default_of places to) is ∙ default_entry places to
