-- The marks of criteria, some after others, and their ids.
use Rattle.std.proofs.Common.{◌≡◌, ◌≤◌, ℕ, ◌+◌, List, [], ◌∷◌, ◌++◌, length, Option, Some, None, inl, inr, refl, sym, ap, subst, ◌∙◌, arith, ⊎_elim}
use Rattle.std.specs.Prelude.{ℤ, pos, negsuc, Result, Ok, Err, IfErr}
use Rattle.std.proofs.lemmas.Bool.{cases_lt}
use Rattle.std.proofs.lemmas.Bool.Decides.{nat_tests}
use Rattle.std.proofs.lemmas.List.Elements.{filter-append}
use Rattle.lt_model.specs.declared.scalar.DataModel.{DataModel}
use Rattle.lt_tree.specs.Tree.{Unit as SourceUnit}
use Rattle.lt_tree.specs.UnitView.{unit_of}
use Rattle.lt_tree.specs.Constants.{value_of}
use Rattle.lt_tree.specs.Ids.{within, greatest_id, ids_of_unit}
use Rattle.lt_tree.specs.Typing.Programs.{Program}
use Rattle.lt_tree.specs.Typing.UnitTyping.{IsProgramOf}
use Rattle.lt_decl.specs.declared.parse.Parsed.{Parsed}
use Rattle.lt_objectives.specs.declared.criteria.Criterion.{Criterion}
use Rattle.lt_objectives.specs.Criteria.{criteria_in, is_in}
use Rattle.lt_objectives.specs.Objectives.{objectives}
use Rattle.lt_objectives.specs.Marked.{numbered, next_id, unit_with_marks, marked, marked_by}
use Rattle.lt_numbering.specs.Numbering.{most_id}
use Rattle.lt_numbering.specs.declared.stop.MarkStop.{MarkStop}
use Rattle.lt_numbering.specs.declared.stop.MarkStop.TheVariants as mark
use Rattle.lt_survey.specs.declared.marking.Marked.{Marked}
use Rattle.lt_survey.specs.Marking.{IsMarkedBy, IdsPass, next_behind, chosen}
use Rattle.lt_label_counts.specs.Laws.{IdsNeverPass}
use Rattle.lt_crit.specs.Criteria as tests
use Rattle.lt_mcc.specs.Combinations as combinations
use Rattle.lt_mut.specs.Mutations as mutants
use Rattle.lt_answers.specs.Annotations.{first_id}
use Rattle.lt_answers.specs.Answers.{most_bytes}
use Rattle.ltest.specs.Labels.{HasIds}
use Rattle.ltest.specs.Stages.{SpellsParsed}

-- ---- ids

no_greater : (i : Option ℤ) → within i ≤ most_id
no_greater None = omega arith
no_greater (Some (negsuc n)) = omega arith
no_greater (Some (pos n)) = grind (arith, nat_tests)

-- the greatest id of a unit is one of a mark
pub no_greater_id : (ids : List (List ℕ)) → greatest_id ids ≤ most_id
no_greater_id [] = omega arith
no_greater_id (id ∷ ids) = let here = no_greater (value_of id) in let rest = no_greater_id ids in omega arith

-- so there is room for one behind it, with which new ids begin
pub first_low : (greatest : ℕ) (unit : SourceUnit) → greatest ≡ greatest_id (ids_of_unit unit) → greatest + 1 ≤ most_id + 1
first_low greatest unit is = let low = no_greater_id (ids_of_unit unit) in omega arith

pub first_is : (greatest : ℕ) (unit : SourceUnit) → greatest ≡ greatest_id (ids_of_unit unit) → greatest + 1 ≡ first_id unit
first_is greatest unit is = omega arith

-- Where no id passes the greatest, there is room for the one that follows.
pub behind_low : (criteria : List Criterion) (unit : SourceUnit) (program : Program) (id : ℕ) → id ≤ most_id + 1 → (IdsPass criteria unit program id → ⊥)
    → next_behind criteria unit program id ≤ most_id + 1
behind_low [] unit program id low none = low
behind_low (criterion ∷ rest) unit program id low none =
    let them = objectives unit program criterion in
    let here : next_id id them ≤ most_id + 1 = ⊎_elim (λ past. absurd (none (inl past))) (λ fits. fits) (cases_lt (most_id + 1) (next_id id them)) in
    behind_low rest (unit_with_marks (numbered id them) unit) program (next_id id them) here (λ later. none (inr later))

-- ---- some criteria after others

pub marked_then : (xs ys : List Criterion) (unit : SourceUnit) (program : Program) (id : ℕ)
    → marked_by (xs ++ ys) unit program id ≡ marked_by ys (marked_by xs unit program id) program (next_behind xs unit program id)
marked_then [] ys unit program id = refl
marked_then (x ∷ xs) ys unit program id =
    let them = objectives unit program x in marked_then xs ys (unit_with_marks (numbered id them) unit) program (next_id id them)

-- an id of the first ones passes, or one of those behind them
pass_first : (xs ys : List Criterion) (unit : SourceUnit) (program : Program) (id : ℕ) → IdsPass xs unit program id → IdsPass (xs ++ ys) unit program id
pass_first [] ys unit program id h = absurd h
pass_first (x ∷ xs) ys unit program id (inl now) = inl now
pass_first (x ∷ xs) ys unit program id (inr later) =
    let them = objectives unit program x in inr (pass_first xs ys (unit_with_marks (numbered id them) unit) program (next_id id them) later)

pass_later : (xs ys : List Criterion) (unit : SourceUnit) (program : Program) (id : ℕ)
    → IdsPass ys (marked_by xs unit program id) program (next_behind xs unit program id) → IdsPass (xs ++ ys) unit program id
pass_later [] ys unit program id h = h
pass_later (x ∷ xs) ys unit program id h =
    let them = objectives unit program x in inr (pass_later xs ys (unit_with_marks (numbered id them) unit) program (next_id id them) h)

-- What is left is marked by these criteria, and none of their ids passes the greatest.
pub record Goes (xs : List Criterion) (whole : SourceUnit) (unit : SourceUnit) (program : Program) (id : ℕ) : Type 0 where
  pub marks : marked_by xs unit program id ≡ whole
  pub low : id ≤ most_id + 1
  pub none : IdsPass xs unit program id → ⊥

-- behind the first of them
pub goes_on : (xs ys : List Criterion) (whole unit : SourceUnit) (program : Program) (id : ℕ) (it : Marked) → Goes (xs ++ ys) whole unit program id
    → IsMarkedBy xs unit program id it → Goes ys whole (unit_of it.unit) program it.next
goes_on xs ys whole unit program id it goes is =
    let here : Goes ys whole (marked_by xs unit program id) program (next_behind xs unit program id) = record {
      marks = sym (marked_then xs ys unit program id) ∙ goes.marks;
      low = behind_low xs unit program id goes.low (λ pass. goes.none (pass_first xs ys unit program id pass));
      none = λ pass. goes.none (pass_later xs ys unit program id pass);
    } in
    subst (λ n. Goes ys whole (unit_of it.unit) program n) (sym is.next) (subst (λ u. Goes ys whole u program (next_behind xs unit program id)) (sym is.marks) here)

-- none of the ids of the first of them passes
pub none_first : (xs ys : List Criterion) (whole unit : SourceUnit) (program : Program) (id : ℕ) → Goes (xs ++ ys) whole unit program id → IdsPass xs unit program id → ⊥
none_first xs ys whole unit program id goes pass = goes.none (pass_first xs ys unit program id pass)

-- the last of them
pub goes_to_end : (xs : List Criterion) (whole unit : SourceUnit) (program : Program) (id : ℕ) (it : Marked) → Goes xs whole unit program id → IsMarkedBy xs unit program id it
    → unit_of it.unit ≡ whole
goes_to_end xs whole unit program id it goes is = is.marks ∙ goes.marks

-- an annotator tells of no id that passes
pub none_told : {T : Type 0} (made : Result T MarkStop) (pass : Type 0) → (pass → ⊥) → IfErr made (λ why. why ≡ mark.Ids → pass) → IfErr made (λ why. why ≡ mark.Ids → ⊥)
none_told (Ok it) pass none told = tt
none_told (Err why) pass none told = λ is. none (told is)

-- ---- the criteria of a set

-- those of a set are those of tests, of combinations and of mutants, in this order
pub three_parts : (set : ℕ) → criteria_in set ≡ chosen tests.criteria set ++ (chosen combinations.criteria set ++ chosen mutants.criteria set)
three_parts set =
    filter-append (is_in set) tests.criteria (combinations.criteria ++ mutants.criteria)
    ∙ ap (λ rest. chosen tests.criteria set ++ rest) (filter-append (is_in set) combinations.criteria mutants.criteria)

-- the marks of a set begin with those of tests
pub goes_at_first : (unit : SourceUnit) (program : Program) (set id : ℕ) → id ≡ first_id unit → id ≤ most_id + 1 → HasIds unit program set
    → Goes (chosen tests.criteria set ++ (chosen combinations.criteria set ++ chosen mutants.criteria set)) (marked unit program set (first_id unit)) unit program id
goes_at_first unit program set id is low none =
    let at_first : Goes (criteria_in set) (marked unit program set (first_id unit)) unit program id = record {
      marks = ap (λ n. marked unit program set n) is;
      low = low;
      none = λ pass. none (subst (λ n. IdsPass (criteria_in set) unit program n) is pass);
    } in
    subst (λ cs. Goes cs (marked unit program set (first_id unit)) unit program id) (three_parts set) at_first

-- In a text of at most 4 MiB none of them passes.
pub none_pass : (never : IdsNeverPass) (model : DataModel) (text : List ℕ) (parsed : Parsed) (program : Program) (set : ℕ) → length text ≤ most_bytes → SpellsParsed text parsed
    → IsProgramOf model (unit_of parsed.unit) program → HasIds (unit_of parsed.unit) program set
none_pass never model text parsed program set short spells typed =
    never model text spells.tokens (unit_of parsed.unit) parsed.spots.items program set short spells.lexes.0 spells.derives typed
