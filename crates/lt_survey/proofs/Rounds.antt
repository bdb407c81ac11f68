-- The marks of criteria, node by node, and criterion by criterion.
use Rattle.std.proofs.Common.{◌≡◌, ℕ, ◌+◌, ◌<◌, ◌≤◌, List, [], ◌∷◌, ◌++◌, length, get_or, map, take, drop, Some, Bool, true, false, cond, inl, inr, sym, ap, subst, ◌∙◌, arith}
use Rattle.std.specs.Prelude.{◌==◌, slice_get, Result, IfOk, IfErr}
use Rattle.std.specs.Int.RustNames.{bit_and}
use Rattle.std.specs.List.{flat_map}
use Rattle.std.proofs.lemmas.List.{drop_all, drop_more, take-append-drop}
use Rattle.std.proofs.lemmas.List.Concat.{flat_map-append}
use Rattle.lt_tree.specs.declared.expression.Expr.{Expr}
use Rattle.lt_tree.specs.Tree as c
use Rattle.lt_tree.specs.View.{expression_of}
use Rattle.lt_tree.specs.UnitView.{unit_of}
use Rattle.lt_tree.specs.Typing.Programs.{Program}
use Rattle.lt_tree.specs.Nodes.{Node, nodes}
use Rattle.lt_objectives.specs.declared.criteria.Criterion.{Criterion}
use Rattle.lt_objectives.specs.Criteria.{bit_of, is_in}
use Rattle.lt_objectives.specs.Places.{sites}
use Rattle.lt_objectives.specs.Objectives.{all_at, in_front, at_node, objectives}
use Rattle.lt_objectives.specs.Marked.{numbered, next_id, unit_with_marks, marked_by}
use Rattle.lt_sites.specs.declared.site.Site.{Site as Held}
use Rattle.lt_sites.specs.Sites.{AreSitesOf}
use Rattle.lt_numbering.specs.declared.new_marks.NewMarks.{NewMarks}
use Rattle.lt_numbering.specs.declared.stop.MarkStop.{MarkStop}
use Rattle.lt_numbering.specs.declared.stop.MarkStop.TheVariants as stop
use Rattle.lt_numbering.specs.Numbering.{Number, Adds, IdsAreOut, most_id}
use Rattle.lt_numbering.proofs.Numbers.{next_append, next_grows}
use Rattle.lt_survey.specs.declared.marking.Marked.{Marked}
use Rattle.lt_survey.specs.Marking.{IsMarkedWith, IsMarkedBy, next_behind, IdsPass, chosen}
use Rattle.lt_survey.specs.Rounds.{site, ArePredicates, NumberBefore, Leads}
use Rattle.lt_survey.proofs.Sites.{more_sites, all_sites}

-- ---- node by node

pub one_node_more : (old new : NewMarks) (unit : c.Unit) (program : Program) (criterion : Criterion) (id k : ℕ) (node : Node) → slice_get (nodes unit) k ≡ Some node
    → NumberBefore old unit program criterion id k → Adds old new (at_node unit program criterion (site k node)) → NumberBefore new unit program criterion id (k + 1)
one_node_more old new unit program criterion id k node is before adds =
    subst (Number new id) (sym (more_sites (at_node unit program criterion) unit k node is)) (adds id (flat_map (at_node unit program criterion) (take k (sites unit))) before)

pub no_node_more : (new : NewMarks) (unit : c.Unit) (program : Program) (criterion : Criterion) (id k : ℕ) (list : List Held) → AreSitesOf list unit → length list ≤ k
    → NumberBefore new unit program criterion id k → Number new id (objectives unit program criterion)
no_node_more new unit program criterion id k list are past before = subst (Number new id) (all_sites (at_node unit program criterion) unit list k are past) before

-- where there is no id for a mark of a node, there are too few for all
pub too_few_ids : (old : NewMarks) (unit : c.Unit) (program : Program) (criterion : Criterion) (id k : ℕ) (node : Node) (why : MarkStop) → slice_get (nodes unit) k ≡ Some node
    → NumberBefore old unit program criterion id k → IdsAreOut old (at_node unit program criterion (site k node)) why → why ≡ stop.Ids
    → most_id + 1 < next_id id (objectives unit program criterion)
too_few_ids old unit program criterion id k node why is before out ids =
    let at = at_node unit program criterion in
    let first = flat_map at (take (k + 1) (sites unit)) in
    let rest = flat_map at (drop (k + 1) (sites unit)) in
    let passed : most_id + 1 < next_id id first
    = subst (λ them. most_id + 1 < next_id id them) (sym (more_sites at unit k node is)) ((subst (IdsAreOut old (at (site k node))) ids out) id (flat_map at (take k (sites unit))) before) in
    let whole : objectives unit program criterion ≡ first ++ rest
    = sym (ap (flat_map at) (take-append-drop (k + 1) (sites unit))) ∙ flat_map-append at (take (k + 1) (sites unit)) (drop (k + 1) (sites unit)) in
    let value : next_id id (objectives unit program criterion) ≡ next_id (next_id id first) rest = ap (next_id id) whole ∙ next_append id first rest in
    let grows = next_grows (next_id id first) rest in
    subst (λ n. most_id + 1 < n) (sym value) (omega arith)

-- the marks of predicates in front of a node
pub predicates_more : (old new : NewMarks) (unit : c.Unit) (program : Program) (criterion given : Criterion) (id k : ℕ) (node : Node) (list : List Expr) → given ≡ criterion
    → slice_get (nodes unit) k ≡ Some node → ArePredicates unit program criterion k node list → NumberBefore old unit program criterion id k
    → Adds old new (all_at k in_front given (map expression_of list)) → NumberBefore new unit program criterion id (k + 1)
predicates_more old new unit program criterion given id k node list same at are before adds =
    one_node_more old new unit program criterion id k node at before (subst (Adds old new) (ap (λ it. all_at k in_front it (map expression_of list)) same ∙ are) adds)

pub predicates_out : (old : NewMarks) (unit : c.Unit) (program : Program) (criterion given : Criterion) (id k : ℕ) (node : Node) (list : List Expr) (why : MarkStop) → given ≡ criterion
    → slice_get (nodes unit) k ≡ Some node → ArePredicates unit program criterion k node list → NumberBefore old unit program criterion id k
    → IdsAreOut old (all_at k in_front given (map expression_of list)) why → why ≡ stop.Ids → most_id + 1 < next_id id (objectives unit program criterion)
predicates_out old unit program criterion given id k node list why same at are before out =
    too_few_ids old unit program criterion id k node why at before (subst (λ them. IdsAreOut old them why) (ap (λ it. all_at k in_front it (map expression_of list)) same ∙ are) out)

-- ---- criterion by criterion

pub leads_at_first : (whole : List Criterion) (unit : c.Unit) (program : Program) (id : ℕ) (it : Marked) → unit_of it.unit ≡ unit → it.next ≡ id → id ≤ most_id + 1
    → Leads whole whole unit program id it
leads_at_first whole unit program id it same next within =
    record {
      marks = ap (λ u. marked_by whole u program it.next) same ∙ ap (marked_by whole unit program) next;
      next = ap (λ u. next_behind whole u program it.next) same ∙ ap (next_behind whole unit program) next;
      ids = λ out. subst (IdsPass whole unit program) next (subst (λ u. IdsPass whole u program it.next) same out);
      within = omega arith;
    }

pub leads_on : (criterion : Criterion) (left whole : List Criterion) (unit : c.Unit) (program : Program) (id : ℕ) (old new : Marked)
    → Leads (criterion ∷ left) whole unit program id old → IsMarkedWith (unit_of old.unit) old.next (objectives (unit_of old.unit) program criterion) new → new.next ≤ most_id + 1
    → Leads left whole unit program id new
leads_on criterion left whole unit program id old new leads marked within =
    let them = objectives (unit_of old.unit) program criterion in
    let made = unit_with_marks (numbered old.next them) (unit_of old.unit) in
    record {
      marks = ap (λ u. marked_by left u program new.next) marked.marks ∙ ap (marked_by left made program) marked.next ∙ leads.marks;
      next = ap (λ u. next_behind left u program new.next) marked.marks ∙ ap (next_behind left made program) marked.next ∙ leads.next;
      ids = λ out. leads.ids (inr (subst (IdsPass left made program) marked.next (subst (λ u. IdsPass left u program new.next) marked.marks out)));
      within = within;
    }

pub leads_to_too_few : (criterion : Criterion) (left whole : List Criterion) (unit : c.Unit) (program : Program) (id : ℕ) (old : Marked) → Leads (criterion ∷ left) whole unit program id old
    → most_id + 1 < next_id old.next (objectives (unit_of old.unit) program criterion) → IdsPass whole unit program id
leads_to_too_few criterion left whole unit program id old leads out = leads.ids (inl out)

pub leads_to_all : (whole : List Criterion) (unit : c.Unit) (program : Program) (id : ℕ) (it : Marked) → Leads [] whole unit program id it → IsMarkedBy whole unit program id it
leads_to_all whole unit program id it leads = record { marks = leads.marks; next = leads.next }

-- ---- those that are chosen

pub chosen_first : (criterion : Criterion) (left : List Criterion) (set : ℕ) → is_in set criterion ≡ true → chosen (criterion ∷ left) set ≡ criterion ∷ chosen left set
chosen_first criterion left set is = ap (λ b. cond b (criterion ∷ chosen left set) (chosen left set)) is

pub not_chosen_first : (criterion : Criterion) (left : List Criterion) (set : ℕ) → is_in set criterion ≡ false → chosen (criterion ∷ left) set ≡ chosen left set
not_chosen_first criterion left set is = ap (λ b. cond b (criterion ∷ chosen left set) (chosen left set)) is

-- what a set answers
pub answered : (set bits : ℕ) (given criterion : Criterion) (answer : Bool) → bits ≡ bit_of given → given ≡ criterion → answer ≡ (bit_and set bits == bits) → is_in set criterion ≡ answer
answered set bits given criterion answer are same is = ap (λ b. bit_and set b == b) (sym (are ∙ ap bit_of same)) ∙ sym is

-- ---- kinds with a criterion each, of which those from an index on are left

abbrev pub left_from : {A : Type 0} → (A → Criterion) → List A → (i set : ℕ) → List Criterion
left_from criterion_of kinds i set = chosen (map criterion_of (drop i kinds)) set

first_left : {A : Type 0} (criterion_of : A → Criterion) (kinds : List A) (i : ℕ) (d : A) → i < length kinds
    → map criterion_of (drop i kinds) ≡ criterion_of (get_or kinds i d) ∷ map criterion_of (drop (i + 1) kinds)
first_left criterion_of kinds i d within = ap (map criterion_of) (drop_more kinds i d within)

taken : {A : Type 0} (criterion_of : A → Criterion) (kinds : List A) (i : ℕ) (d : A) (set : ℕ) → i < length kinds → is_in set (criterion_of (get_or kinds i d)) ≡ true
    → left_from criterion_of kinds i set ≡ criterion_of (get_or kinds i d) ∷ left_from criterion_of kinds (i + 1) set
taken criterion_of kinds i d set within is =
    ap (λ criteria. chosen criteria set) (first_left criterion_of kinds i d within) ∙ chosen_first (criterion_of (get_or kinds i d)) (map criterion_of (drop (i + 1) kinds)) set is

pub leads_past : {A : Type 0} (criterion_of : A → Criterion) (kinds : List A) (i : ℕ) (d : A) (set : ℕ) (whole : List Criterion) (unit : c.Unit) (program : Program) (id : ℕ) (it : Marked)
    → i < length kinds → is_in set (criterion_of (get_or kinds i d)) ≡ false → Leads (left_from criterion_of kinds i set) whole unit program id it
    → Leads (left_from criterion_of kinds (i + 1) set) whole unit program id it
leads_past criterion_of kinds i d set whole unit program id it within is leads =
    subst (λ left. Leads left whole unit program id it)
    (ap (λ criteria. chosen criteria set) (first_left criterion_of kinds i d within)
    ∙ not_chosen_first (criterion_of (get_or kinds i d)) (map criterion_of (drop (i + 1) kinds)) set is)
    leads

pub leads_through : {A : Type 0} (criterion_of : A → Criterion) (kinds : List A) (i : ℕ) (d : A) (set : ℕ) (whole : List Criterion) (unit : c.Unit) (program : Program) (id : ℕ) (old new : Marked)
    → i < length kinds → is_in set (criterion_of (get_or kinds i d)) ≡ true → Leads (left_from criterion_of kinds i set) whole unit program id old
    → IsMarkedWith (unit_of old.unit) old.next (objectives (unit_of old.unit) program (criterion_of (get_or kinds i d))) new → new.next ≤ most_id + 1
    → Leads (left_from criterion_of kinds (i + 1) set) whole unit program id new
leads_through criterion_of kinds i d set whole unit program id old new within is leads marked fits =
    leads_on (criterion_of (get_or kinds i d)) (left_from criterion_of kinds (i + 1) set) whole unit program id old new
    (subst (λ left. Leads left whole unit program id old) (taken criterion_of kinds i d set within is) leads) marked fits

pub leads_out : {A : Type 0} (criterion_of : A → Criterion) (kinds : List A) (i : ℕ) (d : A) (set : ℕ) (whole : List Criterion) (unit : c.Unit) (program : Program) (id : ℕ) (old : Marked)
    → i < length kinds → is_in set (criterion_of (get_or kinds i d)) ≡ true → Leads (left_from criterion_of kinds i set) whole unit program id old
    → most_id + 1 < next_id old.next (objectives (unit_of old.unit) program (criterion_of (get_or kinds i d))) → IdsPass whole unit program id
leads_out criterion_of kinds i d set whole unit program id old within is leads out =
    leads_to_too_few (criterion_of (get_or kinds i d)) (left_from criterion_of kinds (i + 1) set) whole unit program id old
    (subst (λ left. Leads left whole unit program id old) (taken criterion_of kinds i d set within is) leads) out

pub leads_to_end : {A : Type 0} (criterion_of : A → Criterion) (kinds : List A) (i set : ℕ) (whole : List Criterion) (unit : c.Unit) (program : Program) (id : ℕ) (it : Marked)
    → length kinds ≤ i → Leads (left_from criterion_of kinds i set) whole unit program id it → IsMarkedBy whole unit program id it
leads_to_end criterion_of kinds i set whole unit program id it past leads =
    leads_to_all whole unit program id it
    (subst (λ left. Leads left whole unit program id it) (ap (λ rest. chosen (map criterion_of rest) set) (drop_all i kinds past)) leads)

-- ---- copies

-- What is so of a copy of a unit, with the marks of criteria, is so of the unit.
pub copied_marked : (criteria : List Criterion) (program : Program) {unit : c.Unit} {id : ℕ} (copy : Marked) → unit_of copy.unit ≡ unit → copy.next ≡ id → (made : Result Marked MarkStop)
    → IfOk made (IsMarkedBy criteria (unit_of copy.unit) program copy.next) → IfOk made (IsMarkedBy criteria unit program id)
copied_marked criteria program {unit} copy same next made h =
    subst (λ n. IfOk made (IsMarkedBy criteria unit program n)) next (subst (λ u. IfOk made (IsMarkedBy criteria u program copy.next)) same h)

pub copied_ids : (criteria : List Criterion) (program : Program) {unit : c.Unit} {id : ℕ} (copy : Marked) → unit_of copy.unit ≡ unit → copy.next ≡ id → (made : Result Marked MarkStop)
    → IfErr made (λ why. why ≡ stop.Ids → IdsPass criteria (unit_of copy.unit) program copy.next) → IfErr made (λ why. why ≡ stop.Ids → IdsPass criteria unit program id)
copied_ids criteria program {unit} copy same next made h =
    subst (λ n. IfErr made (λ why. why ≡ stop.Ids → IdsPass criteria unit program n)) next (subst (λ u. IfErr made (λ why. why ≡ stop.Ids → IdsPass criteria u program copy.next)) same h)
