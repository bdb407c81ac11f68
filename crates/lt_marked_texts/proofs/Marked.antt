-- A well-made unit that has a typed program is well-made with the marks of objectives too.
use Rattle.std.specs.Prelude.{if◌then◌else◌, filter}
use Rattle.std.proofs.Common.{◌≡◌, ℕ, ◌≤◌, ◌^◌, Bool, true, false, refl, List, [], ◌∷◌, None, arith}
use Rattle.lt_model.specs.declared.scalar.DataModel.{DataModel}
use Rattle.lt_tree.specs.Tree as c
use Rattle.lt_tree.specs.Symbols.{symbols}
use Rattle.lt_tree.specs.CanonUnits.{pieces}
use Rattle.lt_tree.specs.Units.{IsWellMade}
use Rattle.lt_tree.specs.Typing.Programs.{Program}
use Rattle.lt_tree.specs.Typing.UnitTyping.{IsProgramOf}
use Rattle.lt_tree.specs.Pieces.{text_of}
use Rattle.lt_objectives.specs.declared.criteria.Criterion.{Criterion}
use Rattle.lt_objectives.specs.declared.criteria.Criterion.TheVariants as C
use Rattle.lt_objectives.specs.Criteria.{is_in, criteria_in}
use Rattle.lt_objectives.specs.Objectives.{objectives}
use Rattle.lt_objectives.specs.Marked.{numbered, next_id, unit_with_marks, marked_by, marked}
use Rattle.lt_survey.specs.Marking.{next_behind}
use Rattle.lt_print.proofs.Clean.{lexed}
use Rattle.lt_print.proofs.SpeltTokens.{are_spelt}
use Rattle.lt_print.proofs.SpeltUnits as spelt
use Rattle.lt_print.proofs.CleanUnits.{unit_clean}
use Rattle.lt_marked_texts.proofs.GoodUnits.{GoodUnit}
use Rattle.lt_marked_texts.proofs.DerivedUnits as derived
use Rattle.lt_marked_texts.proofs.StandingUnits.{unit_stands, unit_spelt}
use Rattle.lt_marked_texts.proofs.MarkedUnits.{marks_keep_good}
use Rattle.lt_marked_texts.proofs.Inserted.{own_pair, labelled_pair}
use Rattle.lt_marked_texts.proofs.FirstRound.{only_at_starts, are_plain}
use Rattle.lt_marked_texts.proofs.Inputs.{inputs_begin}
use Rattle.lt_marked_texts.proofs.TypedUnits.{GoesOn, TypedUnit, typed_unit}
use Rattle.lt_marked_texts.proofs.Bytes.{text_bytes}
use Rattle.lt_marked_texts.proofs.Objectives.{one_constant}
use Rattle.lt_marked_texts.proofs.Rounds.{BodiesBegin, grows, marks_fit, marks_have_words}

-- ---- what stands at the starts of bodies

abbrev is_input : Criterion → Bool
is_input C.InputDomain = true
is_input _ = false

others_begin : (unit : c.Unit) (program : Program) (criterion : Criterion) → is_input criterion ≡ false → BodiesBegin unit program criterion
others_begin unit program C.Function other k node is s d body e = (record { good = λ scope names spelt. one_constant; quiet = refl }, tt)
others_begin unit program C.InputDomain other k node is s d body e = absurd cc
others_begin unit program _ other k node is s d body e = tt

-- ---- good units and well-made ones

-- a well-made unit with a typed program is good
well_made_good : (unit : c.Unit) (program : Program) → IsWellMade unit → TypedUnit unit program → GoodUnit [] unit
well_made_good unit program made known = derived.of_unit made.derives (spelt.of_unit made.derives (are_spelt made.text made.tokens None made.bytes made.lexes)) known.free

-- its canonical text shows that a good unit is well-made
good_well_made : (unit : c.Unit) → GoodUnit [] unit → IsWellMade unit
good_well_made unit good =
    let clean = unit_clean unit (unit_spelt [] unit good) [] in
    let l = lexed (pieces unit) clean true false 0 in
    let got = unit_stands [] unit good (symbols l.tokens) [] l.pieces in
    record {
      text = text_of (pieces unit);
      bytes = text_bytes (pieces unit) [] clean;
      tokens = l.tokens;
      lexes = record { lexemes = l.lexemes; cuts = l.cuts; reads = l.reads };
      spots = got.0;
      derives = got.1;
    }

-- ---- one criterion after the other

all_grow : (criteria : List Criterion) (unit : c.Unit) (program : Program) (id : ℕ) → id ≤ next_behind criteria unit program id
all_grow [] unit program id = omega arith
all_grow (criterion ∷ rest) unit program id =
    let them = objectives unit program criterion in
    let more : next_id id them ≤ next_behind (criterion ∷ rest) unit program id = all_grow rest (unit_with_marks (numbered id them) unit) program (next_id id them) in
    let first : id ≤ next_id id them = grows them id in
    omega arith

round_good : (unit : c.Unit) (program : Program) (criterion : Criterion) (rest : List Criterion) (id : ℕ) → BodiesBegin unit program criterion → next_behind (criterion ∷ rest) unit program id ≤ 2 ^ 64 → GoodUnit [] unit
    → GoodUnit [] (unit_with_marks (numbered id (objectives unit program criterion)) unit)
round_good unit program criterion rest id begin small good =
    let them = objectives unit program criterion in
    let new = numbered id them in
    let more : next_id id them ≤ next_behind (criterion ∷ rest) unit program id = all_grow rest (unit_with_marks new unit) program (next_id id them) in
    marks_keep_good new (marks_have_words unit program criterion begin id (omega arith)) unit (marks_fit unit program criterion begin id) good

-- criteria that have nothing to do with parameters
abbrev AskNoInputs : List Criterion → Type 0
AskNoInputs [] = Unit {0}
AskNoInputs (criterion ∷ rest) = (is_input criterion ≡ false) × AskNoInputs rest

rounds_good : (criteria : List Criterion) (unit : c.Unit) (program : Program) (id : ℕ) → AskNoInputs criteria → next_behind criteria unit program id ≤ 2 ^ 64 → GoodUnit [] unit → GoodUnit [] (marked_by criteria unit program id)
rounds_good [] unit program id none small good = good
rounds_good (criterion ∷ rest) unit program id none small good =
    let them = objectives unit program criterion in
    rounds_good rest (unit_with_marks (numbered id them) unit) program (next_id id them) none.1 small (round_good unit program criterion rest id (others_begin unit program criterion none.0) small good)

-- ---- criteria of a set

abbrev keep : Bool → Criterion → List Criterion → List Criterion
keep b criterion rest = if b then criterion ∷ rest else rest

kept_ask : (b : Bool) (criterion : Criterion) (rest : List Criterion) → is_input criterion ≡ false → AskNoInputs rest → AskNoInputs (keep b criterion rest)
kept_ask true criterion rest e h = (e, h)
kept_ask false criterion rest e h = h

filtered_ask : (p : Criterion → Bool) (criteria : List Criterion) → AskNoInputs criteria → AskNoInputs (filter p criteria)
filtered_ask p [] h = tt
filtered_ask p (criterion ∷ rest) h = kept_ask (p criterion) criterion (filter p rest) h.0 (filtered_ask p rest h.1)

abbrev others : List Criterion
others = C.Decision ∷ C.Condition ∷ C.MultipleCondition ∷ C.GeneralActiveClause ∷ C.AbsoluteValue ∷ C.ArithmeticOperator ∷ C.LogicalConnector ∷ C.RelationalOperator ∷ []

set_good : (unit : c.Unit) (program : Program) (id : ℕ) (functions inputs : Bool) (rest : List Criterion) → AskNoInputs rest → TypedUnit unit program
    → next_behind (keep functions C.Function (keep inputs C.InputDomain rest)) unit program id ≤ 2 ^ 64 → GoodUnit [] unit
    → GoodUnit [] (marked_by (keep functions C.Function (keep inputs C.InputDomain rest)) unit program id)
set_good unit program id functions false rest none known small good = rounds_good (keep functions C.Function rest) unit program id (kept_ask functions C.Function rest refl none) small good
set_good unit program id false true rest none known small good =
    let them = objectives unit program C.InputDomain in
    rounds_good rest (unit_with_marks (numbered id them) unit) program (next_id id them) none small
    (round_good unit program C.InputDomain rest id (inputs_begin unit unit program known (own_pair unit)) small good)
set_good unit program id true true rest none known small good =
    let first = objectives unit program C.Function in
    let labelled = unit_with_marks (numbered id first) unit in
    let between = next_id id first in
    let them = objectives labelled program C.InputDomain in
    let start : GoodUnit [] labelled = round_good unit program C.Function (C.InputDomain ∷ rest) id (others_begin unit program C.Function refl) small good in
    rounds_good rest (unit_with_marks (numbered between them) labelled) program (next_id between them) none small
    (round_good labelled program C.InputDomain rest between
    (inputs_begin unit labelled program known (labelled_pair (numbered id first) (only_at_starts unit program id) (are_plain unit program id) unit)) small start)

pub marked_well_made : GoesOn → (model : DataModel) (unit : c.Unit) (program : Program) (set id : ℕ) → IsWellMade unit → IsProgramOf model unit program → next_behind (criteria_in set) unit program id ≤ 2 ^ 64
    → IsWellMade (marked unit program set id)
marked_well_made goes model unit program set id made is small =
    let known = typed_unit goes model unit program is in
    good_well_made (marked unit program set id)
    (set_good unit program id (is_in set C.Function) (is_in set C.InputDomain) (filter (is_in set) others) (filtered_ask (is_in set) others (refl, (refl, (refl, (refl, (refl, (refl, (refl, (refl, tt))))))))) known small (well_made_good unit program made known))
