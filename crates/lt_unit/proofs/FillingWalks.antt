-- Walks that fill objects, one step after another.
use Rattle.std.proofs.Common.{◌≡◌, ℕ, Bool, true, false, not, ◌&&◌, List, [], ◌∷◌, ◌++◌, Option, Some, None, Result, refl, sym, ap, ◌∙◌}
use Rattle.lt_tree.specs.Typing.Types.{CType, unqualified}
use Rattle.lt_tree.specs.Typing.EntityView.{structs_of}
use Rattle.lt_tree.specs.Typing.Rules.{Rule, broken_if, unless, least, bad_assignment, bad_initialiser}
use Rattle.lt_tree.specs.Typing.Constants.{Constancy}
use Rattle.lt_tree.specs.Typing.Entities.{Known}
use Rattle.lt_tree.specs.Typing.Steps.{Goes, Walk, goes_on, settle, unless_broken}
use Rattle.lt_tree.specs.Typing.Expressions.{Typed, constancy_to}
use Rattle.lt_tree.specs.Typing.Operations.{fits}
use Rattle.lt_tree.specs.Typing.Filling.{Filling, is_constant_content, list_faults, value_faults, value_part}
use Rattle.lt_tree.specs.Tree.{Initialisers}
use Rattle.lt_tree.specs.Typing.Declaring.{length_faults}
use Rattle.lt_tree.specs.Typing.InitialiserTyping.{with_length, listed_length, end_of_list, started}
use Rattle.lt_table.specs.TableRows.{Stays}
use Rattle.lt_table.specs.TypesValue.{TypesValue, Widens}
use Rattle.lt_env.specs.declared.walker.Walker.{Walker}
use Rattle.lt_env.specs.declared.stop.TypeStop.{TypeStop}
use Rattle.lt_env.specs.Going.{Gives, known_of, done}
use Rattle.lt_type.proofs.Sequences.{gives_then, gives_made}
use Rattle.lt_unit.specs.LeftParts.{Knows}
use Rattle.lt_unit.proofs.Lasting.{gives_here}
use Rattle.lt_unit.specs.Fillings.{with_part, value_filled, whole_faults, whole_value_end}

-- ---- what is known of types

pub knows_itself : (types : List CType) (w : Walker) → Knows (known_of types w) types w.types
knows_itself types w = record { model = refl; structs = refl }

pub knows_on : {known : Known} {types : List CType} {old new : TypesValue} → Widens old new → Knows known types old → Knows known types new
knows_on {known} {types} {old} {new} w k = record { model = k.model ∙ sym w.model; structs = k.structs ∙ ap (structs_of types) (sym w.structs) }

pub knows_back : {known : Known} {types : List CType} {old new : TypesValue} → Widens old new → Knows known types new → Knows known types old
knows_back {known} {types} {old} {new} w k = record { model = k.model ∙ w.model; structs = k.structs ∙ ap (structs_of types) w.structs }

-- ---- steps

unbroken_same : {B : Type 0} (o : Option Rule) (node : ℕ) (k : Known) (first second : Walk B) → first k ≡ second k → goes_on (unless_broken o node k) (λ u. first) ≡ goes_on (unless_broken o node k) (λ u. second)
unbroken_same None node k first second e = e
unbroken_same (Some rule) node k first second e = refl

-- the end of a node changes nothing that is known
pub settled_same : {B : Type 0} (node : ℕ) (rules : List Rule) (k : Known) (first second : Walk B) → first k ≡ second k → goes_on (settle node rules k) (λ u. first) ≡ goes_on (settle node rules k) (λ u. second)
settled_same node rules k first second e = unbroken_same (least rules) node k first second e

-- rules are judged, and something follows
pub judged_then : {B Y : Type 0} {sees : List CType → Y → B} {s0 s2 : Walker} {wider : TypesValue} {faults : List Rule} {r : Result Y TypeStop} (f : List CType → Known → List Rule) (rest : List CType → List Rule → Walk B)
    → Widens s0.types wider → Stays wider.rows (λ types. faults ≡ f types (known_of types s0)) → Gives sees (record s0 { types = wider }) s2 r (λ types. rest types faults)
    → Gives sees s0 s2 r (λ types known. rest types (f types known) known)
judged_then {s0 = s0} {faults = faults} f rest w made more = gives_then {shown = λ types l. l} {x = faults} rest (gives_made {shown = λ types l. l} {s = s0} {x = faults} f w made) more

-- ---- values

-- the part that a value fills, of what is known at the end
pub value_steps : (node : ℕ) (is_static : Bool) (f : Filling) (offset : ℕ) (t : CType) (x : Typed) (k : Known)
    → goes_on (settle node (value_faults k is_static t x) k) (λ u j. Goes (with_part (value_part j is_static offset t x) f) j) ≡ value_filled node is_static f offset t x k
value_steps node is_static f offset t x k = settled_same node (value_faults k is_static t x) k _ _ refl

pub value_rules : (known : Known) (is_static : Bool) (t : CType) (x : Typed) (old new : List Rule) (fit varies : Bool) (content : Constancy)
    → new ≡ old ++ broken_if bad_initialiser varies → old ≡ unless fit bad_assignment → fit ≡ fits (unqualified t) x
    → varies ≡ (is_static && not (is_constant_content content)) → content ≡ constancy_to known.model (unqualified t) x.constancy
    → new ≡ value_faults known is_static t x
value_rules known is_static t x old new fit varies content e f g h i =
    e
    ∙ ap (λ l. l ++ broken_if bad_initialiser varies) f
    ∙ ap (λ b. unless b bad_assignment ++ broken_if bad_initialiser varies) g
    ∙ ap (λ v. unless (fits (unqualified t) x) bad_assignment ++ broken_if bad_initialiser v) h
    ∙ ap (λ c. unless (fits (unqualified t) x) bad_assignment ++ broken_if bad_initialiser (is_static && not (is_constant_content c))) i

-- ---- whole objects

pub whole_value_steps : (node : ℕ) (is_static : Bool) (t : CType) (x : Typed) (k : Known)
    → goes_on (settle node (whole_faults k is_static t x) k) (λ u j. Goes (started false (value_part j is_static 0 t x ∷ []) t) j) ≡ whole_value_end node is_static t x k
whole_value_steps node is_static t x k = settled_same node (whole_faults k is_static t x) k _ _ refl

pub list_end_steps : (node : ℕ) (t : CType) (list : Initialisers) (filled : Filling) (k : Known)
    → goes_on (settle node (list_faults t list filled ++ length_faults k (with_length t (listed_length k t list filled))) k) (λ u j. Goes (started true filled.parts (with_length t (listed_length j t list filled))) j)
    ≡ end_of_list node t length_faults list filled k
list_end_steps node t list filled k = settled_same node (list_faults t list filled ++ length_faults k (with_length t (listed_length k t list filled))) k _ _ refl
