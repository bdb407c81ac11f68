-- How loops over cases and labels go on.
use Rattle.std.proofs.Common.{◌≡◌, Bool, true, false, not, List, [], ◌∷◌, ◌++◌, map, Option, refl, ap, ◌+◌, ◌∙◌}
use Rattle.lt_model.specs.declared.scalar.Scalar.{Scalar}
use Rattle.lt_tree.specs.Tree as c
use Rattle.lt_tree.specs.Typing.Types.{CType}
use Rattle.lt_tree.specs.Typing.TypedTree as e
use Rattle.lt_tree.specs.declared.typed.statement.Case.{Case}
use Rattle.lt_tree.specs.Typing.Entities.{Known}
use Rattle.lt_tree.specs.Typing.Rules.{Rule, broken_if, unless, bad_case}
use Rattle.lt_tree.specs.Typing.Steps.{Outcome, Goes, Breaks, Walk, goes_on, gives, in_block, settle, without_marks}
use Rattle.lt_tree.specs.Typing.StatementView as view
use Rattle.lt_tree.specs.Typing.Expressions.{as_value}
use Rattle.lt_tree.specs.Typing.ExpressionTyping.{expression}
use Rattle.lt_tree.specs.Typing.StatementTyping as typing
use Rattle.lt_env.specs.declared.walker.Walker.{Walker}
use Rattle.lt_env.specs.Going.{known_of}
use Rattle.lt_type.proofs.Turns.{Turning, turns_start, before, one_more}
use Rattle.lt_unit.specs.UnitViews.{labelled_of}
use Rattle.lt_unit.specs.CaseParts.{case_made, case_walk}

-- a loop starts, on what is the same walk
pub turns_so : {A : Type 0} {s : Walker} {whole : List CType → Walk A} {next : List CType → Walk A} {last : List CType → A → Walk A}
    → ((types : List CType) (k : Known) → whole types k ≡ next types k) → ((types : List CType) (a : A) (k : Known) → last types a k ≡ Goes a k) → Turning s s whole next last
turns_so {s = s} {whole = whole} {next = next} {last = last} same none =
    let t : Turning s s whole whole last = turns_start none in
    record { grows = t.grows; keeps = t.keeps; turns = λ types h. t.turns types h ∙ ap (λ o. goes_on o (last types)) (same types (known_of types s)) }

-- ---- statements with their labels

body_first : (o : Outcome e.Statement) (labels : List e.Label) (seen : typing.Seen) (rest : typing.Seen → Walk e.Cases)
    → goes_on o (λ body k. goes_on (rest seen k) (λ others. gives (e.a_case labels body others)))
    ≡ goes_on (goes_on o (λ body. gives (case_made labels body seen))) (λ made k. goes_on (rest made.seen k) (λ others. gives (e.a_case made.labels made.body others)))
body_first (Goes body k) labels seen rest = refl
body_first (Breaks rule node) labels seen rest = refl

labels_first : (o : Outcome typing.Labelled) (body : Walk e.Statement) (rest : typing.Seen → Walk e.Cases)
    → goes_on o (λ it k. goes_on (body k) (λ made k. goes_on (rest it.seen k) (λ others. gives (e.a_case it.labels made others))))
    ≡ goes_on (goes_on o (λ it k. goes_on (body k) (λ made. gives (case_made it.labels made it.seen)))) (λ made k. goes_on (rest made.seen k) (λ others. gives (e.a_case made.labels made.body others)))
labels_first (Goes it k) body rest = body_first (body k) it.labels it.seen rest
labels_first (Breaks rule node) body rest = refl

pub case_first : (list : List c.Label) (first : c.Statement) (rest : c.Cases) (s : Option Scalar) (seen : typing.Seen) (around : typing.Around) (k : Known)
    → typing.cases (c.a_case list first rest) s seen around k
    ≡ goes_on (case_walk list first s seen around k) (λ made k. goes_on (typing.cases rest s made.seen around k) (λ others. gives (e.a_case made.labels made.body others)))
case_first list first rest s seen around k = labels_first (typing.labels list s seen k) (in_block (typing.statement first around)) (λ now. typing.cases rest s now around)

abbrev pub case_before : List CType → Case → e.Cases → e.Cases
case_before types made rest = e.a_case (map view.label_of made.labels.items) (view.statement_of types made.statement) rest

pub all_cases : (types : List CType) (all : List Case) → before (case_before types) all e.no_cases ≡ view.cases_in types all
all_cases types [] = refl
all_cases types (made ∷ all) = ap (case_before types made) (all_cases types all)

-- ---- labels

abbrev pub labelled_before : List e.Label → typing.Labelled → typing.Labelled
labelled_before labels rest = labelled_of (labels ++ rest.labels) rest.seen

last_label : {A : Type 0} (o : Outcome A) (label : A → e.Label) (now : A → typing.Seen) (rest : typing.Seen → Walk typing.Labelled)
    → goes_on o (λ a k. goes_on (rest (now a) k) (λ others. gives (typing.label_before (label a) others)))
    ≡ goes_on (goes_on o (λ a. gives (labelled_of (label a ∷ []) (now a)))) (λ one k. goes_on (rest one.seen k) (λ others. gives (labelled_before one.labels others)))
last_label (Goes a k) label now rest = refl
last_label (Breaks rule node) label now rest = refl

case_label_first : {A B : Type 0} (o : Outcome B) (end : B → Walk A) (label : A → e.Label) (now : A → typing.Seen) (rest : typing.Seen → Walk typing.Labelled)
    → goes_on o (λ x k. goes_on (end x k) (λ a k. goes_on (rest (now a) k) (λ others. gives (typing.label_before (label a) others))))
    ≡ goes_on (goes_on o (λ x k. goes_on (end x k) (λ a. gives (labelled_of (label a ∷ []) (now a))))) (λ one k. goes_on (rest one.seen k) (λ others. gives (labelled_before one.labels others)))
case_label_first (Goes x k) end label now rest = last_label (end x k) label now rest
case_label_first (Breaks rule node) end label now rest = refl

pub label_first : (l : c.Label) (list : List c.Label) (s : Option Scalar) (seen : typing.Seen) (k : Known)
    → typing.labels (l ∷ list) s seen k ≡ goes_on (typing.labels (l ∷ []) s seen k) (λ one k. goes_on (typing.labels list s one.seen k) (λ others. gives (labelled_before one.labels others)))
label_first (c.Case it) list s seen k =
    case_label_first (without_marks (expression it as_value) (record k { next = k.next + 1 })) (λ x. typing.end_of_case k.next s seen x) typing.case_label (typing.with_case seen) (λ now. typing.labels list s now)
label_first c.Default list s seen k =
    last_label (settle k.next (broken_if bad_case seen.has_default) (record k { next = k.next + 1 })) (λ u. e.Default) (λ u. record seen { has_default = true }) (λ now. typing.labels list s now)

pub labels_more : {X : Type 0} (f : X → e.Label) (old new : List X) (x : X) (others : typing.Labelled) → new ≡ old ++ x ∷ [] → labelled_before (map f new) others ≡ labelled_before (map f old) (labelled_before (f x ∷ []) others)
labels_more f old new x others is = ap (λ l. labelled_of l others.seen) (one_more f old new x others.labels is)

all_of : (labels : List e.Label) → labels ++ [] ≡ labels
all_of [] = refl
all_of (l ∷ labels) = ap (λ ls. l ∷ ls) (all_of labels)

pub all_labels : (labels : List e.Label) (seen : typing.Seen) → labelled_before labels (labelled_of [] seen) ≡ labelled_of labels seen
all_labels labels seen = ap (λ l. labelled_of l seen) (all_of labels)

pub label_made : (l m : e.Label) (s now : typing.Seen) → l ≡ m → s ≡ now → labelled_of (l ∷ []) s ≡ labelled_of (m ∷ []) now
label_made l m s now e f = ap (λ x. labelled_of (x ∷ []) s) e ∙ ap (labelled_of (m ∷ [])) f

pub unless_not : (rule : Rule) (there : Bool) → unless (not there) rule ≡ broken_if rule there
unless_not rule true = refl
unless_not rule false = refl
