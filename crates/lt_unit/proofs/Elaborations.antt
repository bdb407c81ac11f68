-- What going over a unit from its start gives is its typing.
use Rattle.std.proofs.Common.{◌≡◌, ℕ, false, List, [], ◌∷◌, map, Result, Ok, Err, refl, sym, ap, ◌∙◌}
use Rattle.std.specs.List.{filter_map}
use Rattle.lt_model.specs.declared.scalar.DataModel.{DataModel}
use Rattle.lt_tree.specs.declared.unit.Unit.{Unit as SourceUnit}
use Rattle.lt_tree.specs.declared.typed.program.Program.{Program}
use Rattle.lt_tree.specs.Tree as c
use Rattle.lt_tree.specs.UnitView.{unit_of}
use Rattle.lt_tree.specs.Typing.Types.{CType}
use Rattle.lt_tree.specs.Typing.TypeRows.{types_of_rows, Continues}
use Rattle.lt_tree.specs.Typing.Entities.{Known, no_names, at_start}
use Rattle.lt_tree.specs.Typing.EntityView.{structs_of, object_of, declared_of, function_of, label_of, fact_of}
use Rattle.lt_tree.specs.Typing.Steps.{Goes}
use Rattle.lt_tree.specs.Typing.Programs.{typed, program_of}
use Rattle.lt_tree.specs.Typing.UnitTyping.{typing, typing_to, answer, externals, defined_in}
use Rattle.lt_env.specs.NamesValue.{NamesValue, NameFrameValue, frame_at, frames_at}
use Rattle.lt_env.specs.declared.walker.Walker.{Walker}
use Rattle.lt_env.specs.declared.stop.TypeStop.{TypeStop}
use Rattle.lt_env.specs.declared.stop.TypeStop.TheVariants.{Broken, NoMemory}
use Rattle.lt_env.specs.Going.{Gives, done, types_in, known_of}
use Rattle.lt_env.proofs.Goings.{as_long, same_known}
use Rattle.lt_ranges.proofs.RangedUnits.{programs_are_in_range}
use Rattle.lt_unit.specs.Elaborated.{Elaborated}
use Rattle.lt_unit.specs.Programs.{IsProgram, KnowsInRange}
use Rattle.lt_unit.proofs.ProgramRanges.{knows}

typing_is : (model : DataModel) (unit : c.Unit) → typing model unit ≡ answer unit (externals unit (at_start model (filter_map defined_in unit)))
unfolding typing_to
typing_is model unit = refl

-- what is known behind a whole unit
pub knows_in_range : (model : DataModel) (unit : SourceUnit) (before after : Walker) (u : Unit {0})
    → ((types : List CType) → known_of types before ≡ at_start model (filter_map defined_in (unit_of unit)))
    → Gives done before after (Ok u) (λ types. externals (unit_of unit)) → KnowsInRange after unit
knows_in_range model unit before after u start g =
    let ends : (types : List CType) → Continues (types_in after) types → externals (unit_of unit) (at_start model (filter_map defined_in (unit_of unit))) ≡ Goes tt (known_of types after) =
    λ types more. ap (externals (unit_of unit)) (sym (start types)) ∙ g.ends.at types more in
    let here = ends (types_in after) (as_long (types_in after)) in
    knows after unit (λ types more. same_known (sym (ends types more) ∙ here))
    (programs_are_in_range model (unit_of unit) (program_of (unit_of unit) (known_of (types_in after) after)) (typing_is model (unit_of unit) ∙ ap (answer (unit_of unit)) here))

pub elaborated : (model : DataModel) (unit : SourceUnit) (before after : Walker) (r : Result Program TypeStop) (u : Unit {0})
    → ((types : List CType) → known_of types before ≡ at_start model (filter_map defined_in (unit_of unit)))
    → Gives done before after (Ok u) (λ types. externals (unit_of unit)) → IsProgram after unit r → Elaborated model unit r
elaborated model unit before after (Ok p) u start g made =
    typing_is model (unit_of unit)
    ∙ ap (answer (unit_of unit)) (ap (externals (unit_of unit)) (sym (start (types_of_rows p.table.items))) ∙ g.ends.at (types_of_rows p.table.items) made.0)
    ∙ ap typed (sym made.1)
elaborated model unit before after (Err (Broken rule node)) u start g made = absurd cc
elaborated model unit before after (Err NoMemory) u start g made = tt

pub broken_off : (model : DataModel) (unit : SourceUnit) (before after : Walker) (stop : TypeStop) (r : Result Program TypeStop)
    → ((types : List CType) → known_of types before ≡ at_start model (filter_map defined_in (unit_of unit)))
    → Gives done before after (Err stop) (λ types. externals (unit_of unit)) → r ≡ Err stop → Elaborated model unit r
broken_off model unit before after (Broken rule node) r start g e =
    rw e (typing_is model (unit_of unit) ∙ ap (answer (unit_of unit)) (ap (externals (unit_of unit)) (sym (start (types_in after))) ∙ g.ends.at (types_in after) (as_long (types_in after))))
broken_off model unit before after NoMemory r start g e = rw e tt

-- ---- the start

-- the names and tags of one frame more
framed : (types : List CType) (frame : NameFrameValue) (names : NamesValue) → frame_at types frame ≡ no_names → frames_at types names ≡ []
    → frames_at types (record { names = frame.names ∷ names.names; tags = frame.tags ∷ names.tags }) ≡ no_names ∷ []
framed types frame names e f = ap (λ x. x ∷ frames_at types names) e ∙ ap (λ l. no_names ∷ l) f

pub started : (types : List CType) (model : DataModel) (defined : List (List ℕ)) (w s : Walker) (frame : NameFrameValue)
    → s ≡ record w { names = record { names = frame.names ∷ w.names.names; tags = frame.tags ∷ w.names.tags } }
    → w.defined ≡ defined → w.next ≡ 0 → w.is_unmarked ≡ false
    → w.types ≡ record { model = model; rows = []; structs = [] } → frame_at types frame ≡ no_names → frames_at types w.names ≡ []
    → w.objects ≡ [] → w.declared ≡ [] → w.functions ≡ [] → w.labels ≡ [] → w.facts.items ≡ []
    → known_of types s ≡ at_start model defined
started types model defined w s frame opened d n u t e f o c b l h =
    ap (known_of types) opened
    ∙ ap (λ x. record here { defined = x }) d
    ∙ ap (λ x. record here { defined = defined; next = x }) n
    ∙ ap (λ x. record here { defined = defined; next = 0; is_unmarked = x }) u
    ∙ ap (λ x. record here { defined = defined; next = 0; is_unmarked = false; model = x.model; structs = structs_of types x.structs }) t
    ∙ ap (λ x. record start { frames = x; objects = map (object_of types) w.objects; declared = map (declared_of types) w.declared; functions = map (function_of types) w.functions; labels = map label_of w.labels; facts = map (fact_of types) w.facts.items }) (framed types frame w.names e f)
    ∙ ap (λ x. record start { objects = map (object_of types) x; declared = map (declared_of types) w.declared; functions = map (function_of types) w.functions; labels = map label_of w.labels; facts = map (fact_of types) w.facts.items }) o
    ∙ ap (λ x. record start { declared = map (declared_of types) x; functions = map (function_of types) w.functions; labels = map label_of w.labels; facts = map (fact_of types) w.facts.items }) c
    ∙ ap (λ x. record start { functions = map (function_of types) x; labels = map label_of w.labels; facts = map (fact_of types) w.facts.items }) b
    ∙ ap (λ x. record start { labels = map label_of x; facts = map (fact_of types) w.facts.items }) l
    ∙ ap (λ x. record start { facts = map (fact_of types) x }) h
  where
    here : Known
    here = known_of types (record w { names = record { names = frame.names ∷ w.names.names; tags = frame.tags ∷ w.names.tags } })

    start : Known
    start = at_start model defined
