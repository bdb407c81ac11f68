-- The program of a marked unit knows the same as that of the unit.
use Rattle.std.proofs.Common.{◌≡◌, refl, sym, ap, ◌∙◌, subst, ℕ, zero, suc, Bool, List, [], Some, None}
use Rattle.std.specs.Prelude.{filter_map, slice_get}
use Rattle.lt_model.specs.declared.scalar.DataModel.{DataModel}
use Rattle.lt_tree.specs.Tree as c
use Rattle.lt_tree.specs.Nodes.{nodes}
use Rattle.lt_tree.specs.Typing.Entities.{Known, Object, Fact, greatest_label_id, starting}
use Rattle.lt_tree.specs.Typing.Steps.{Outcome, Goes, Breaks}
use Rattle.lt_tree.specs.Typing.UnitTyping.{externals, defined_in, answer, typing_to, IsProgramTo}
use Rattle.lt_tree.specs.Typing.Programs.{Program, typed}
use Rattle.lt_objectives.specs.Objectives.{domains, domains_of_object}
use Rattle.lt_object_laws.specs.Renamed.{renumbered}
use Rattle.lt_mark_typing.specs.Further.{HasObjects, no_objects, an_object, a_further_object}
use Rattle.lt_mark_typing.specs.MarkedPrograms.{AddsBeside}
use Rattle.lt_mark_typing.specs.Laws.{UnitsAreTypedAgain}
use Rattle.lt_mark_typing.specs.PlacedUnits.{AddsToUnit}
use Rattle.lt_kept_facts.specs.Asked.{seen}
use Rattle.lt_kept_facts.specs.Known.{domains_seen}
use Rattle.lt_kept_facts.specs.Laws.{UnitsNoteTheSame}
use Rattle.lt_kept_facts.specs.Objectives.{MarkedUnitsKnowTheSame}
use Rattle.lt_kept_facts.proofs.Aligned.{AreAligned, ExternalsKeep, aligned}
use Rattle.lt_kept_facts.proofs.KeptUnits.{starts_beside}
use Rattle.lt_kept_facts.proofs.Functions.{domains_alike}

-- ---- objects

domains_same : (model : DataModel) {r : ℕ → ℕ} {further : List Bool} {xs ys : List Object} → HasObjects r further xs ys → (n : ℕ)
    → elim (slice_get ys (renumbered further n)) as (λ _. List c.Expression) [ None ↦ [] | Some object ↦ domains model object.type (c.Name object.name) ]
    ≡ elim (slice_get xs n) as (λ _. List c.Expression) [ None ↦ [] | Some object ↦ domains model object.type (c.Name object.name) ]
domains_same model no_objects n = refl
domains_same model (an_object object node h) zero = refl
domains_same model (an_object object node h) (suc n) = domains_same model h n
domains_same model (a_further_object object i h) n = domains_same model h n

-- an object has the same domains by its number in the other program
objects_same : {r : ℕ → ℕ} {further : List Bool} (program other : Program) → program.model ≡ other.model → HasObjects r further program.objects other.objects → (n : ℕ)
    → domains_of_object other (renumbered further n) ≡ domains_of_object program n
objects_same {further = further} program other model objects n =
    ap (λ (m : DataModel). elim (slice_get other.objects (renumbered further n)) as (λ _. List c.Expression) [ None ↦ [] | Some object ↦ domains m object.type (c.Name object.name) ]) (sym model)
    ∙ domains_same program.model objects n

-- ---- programs

program_is : {p q : Program} → typed p ≡ typed q → p ≡ q
program_is e = cc

-- a unit has one program
pub one_program : (greatest : ℕ) (model : DataModel) (unit : c.Unit) (p q : Program) → IsProgramTo greatest model unit p → IsProgramTo greatest model unit q → p ≡ q
one_program greatest model unit p q h g = program_is (sym h ∙ g)

unit_in : (unit : c.Unit) (o : Outcome (Unit {0})) (program : Program) → answer unit o ≡ typed program → program.unit ≡ unit
unit_in unit (Goes u known) program h = ap (λ (it : Program). it.unit) (program_is (sym h))
unit_in unit (Breaks rule node) program h = absurd cc

-- a program is that of its unit
pub unit_of : (greatest : ℕ) (model : DataModel) (unit : c.Unit) (program : Program) → IsProgramTo greatest model unit program → program.unit ≡ unit
unfolding typing_to
unit_of greatest model unit program is = unit_in unit (externals unit (starting greatest model (filter_map defined_in unit))) program is

-- ---- both units

went_over : (unit : c.Unit) (o : Outcome (Unit {0})) (program : Program) → answer unit o ≡ typed program → (u : Unit {0}) × (m : Known) × (o ≡ Goes u m)
went_over unit (Goes u m) program h = (u, m, refl)
went_over unit (Breaks rule node) program h = absurd cc

units_aligned : {new : ℕ → Bool} → ((F G : List Fact) → ExternalsKeep F G new) → (greatest : ℕ) (model : DataModel) (unit marked : c.Unit) (after : List ℕ) (program other : Program)
    → AddsToUnit new [] after (starting greatest model (filter_map defined_in unit)) unit marked → filter_map defined_in marked ≡ filter_map defined_in unit
    → IsProgramTo greatest model unit program → IsProgramTo greatest_label_id model marked other → AreAligned unit marked
unfolding typing_to
units_aligned {new} keep greatest model unit marked after program other adds names is its =
    let first = went_over unit (externals unit (starting greatest model (filter_map defined_in unit))) program is in
    let second = went_over marked (externals marked (starting greatest_label_id model (filter_map defined_in marked))) other its in
    aligned keep adds (starting greatest_label_id model (filter_map defined_in marked)) (starts_beside greatest model unit marked names) first.0 second.0 first.1 second.1 first.2 second.2

pub marked_units_know : UnitsNoteTheSame → UnitsAreTypedAgain → ((new : ℕ → Bool) (F G : List Fact) → ExternalsKeep F G new) → MarkedUnitsKnowTheSame
marked_units_know note again keep new greatest model unit marked after program other adds names is its stands stand =
    let found = again new greatest model unit marked after program adds names is in
    let further = found.1 in
    let it : AddsBeside new further program other =
    subst (λ (q : Program). AddsBeside new further program q) (one_program greatest_label_id model marked found.0 other found.2 its) found.3 in
    let first : program.unit ≡ unit = unit_of greatest model unit program is in
    let second : other.unit ≡ marked = unit_of greatest_label_id model marked other its in
    let facts : seen program.facts 0 (nodes unit) ≡ seen other.facts 0 (nodes marked) = note new greatest model unit marked after program other adds names is its in
    let parameters = domains_alike new (renumbered further) unit marked program other (units_aligned (keep new) greatest model unit marked after program other adds names is its) stands stand it.functions (objects_same program other it.model it.objects) in
    record {
      model = it.model;
      facts = ap (λ u. seen program.facts 0 (nodes u)) first ∙ facts ∙ sym (ap (λ u. seen other.facts 0 (nodes u)) second);
      parameters = ap (λ u. domains_seen program 0 (nodes u)) first ∙ parameters ∙ sym (ap (λ u. domains_seen other 0 (nodes u)) second);
    }
