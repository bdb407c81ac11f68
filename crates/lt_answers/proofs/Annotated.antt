-- An annotation is one, or its refusal is, and never both.
use Rattle.std.proofs.Common.{◌≡◌, ◌≤◌, ℕ, List, None, sym, ap, ◌∙◌, subst, arith}
use Rattle.lt_model.specs.declared.scalar.DataModel.{DataModel}
use Rattle.lt_token.specs.Laws.{AtMostOneReading}
use Rattle.lt_token.specs.Nest.{nests, deepest}
use Rattle.lt_nest.specs.Greatest.{greatest, NestsTo}
use Rattle.lt_tree.specs.Tree.{Unit as SourceUnit}
use Rattle.lt_tree.specs.CanonUnits.{canon}
use Rattle.lt_objectives.specs.Marked.{marked}
use Rattle.lt_answers.specs.Laws.{Laws}
use Rattle.lt_answers.specs.Programs.{HasNoProgram}
use Rattle.lt_answers.specs.Annotations.{first_id, HasAnnotation, IsAnnotation, RefusesAnnotation, no_program, grown}
use Rattle.lt_answers.specs.Answers.{IsSame}
use Rattle.lt_answers.specs.declared.status.Status.TheVariants.{Refused}
use Rattle.lt_answers.specs.declared.status.Refusal.{Refusal}
use Rattle.lt_answers.specs.declared.status.Refusal.TheVariants.{Grown}
use Rattle.lt_answers.proofs.Once.{spells_once, programs_once, program_or_none, no_program_once}

annotated_once : (laws : Laws) (model : DataModel) (set : ℕ) (text : List ℕ) (a b : SourceUnit) → HasAnnotation model set text a → HasAnnotation model set text b → a ≡ b
annotated_once laws model set text a b h k =
    let p = h.is_program in
    let q = k.is_program in
    let units : p.unit ≡ q.unit = (spells_once laws text p.unit q.unit p.spots q.spots p.spells q.spells).0 in
    let programs : h.program ≡ k.program = programs_once laws model text h.program k.program p q in
    h.is ∙ ap (λ u. marked u h.program set (first_id u)) units ∙ ap (λ it. marked q.unit it set (first_id q.unit)) programs ∙ sym k.is

-- a text has one greatest nest
pub nest_once : (readings : AtMostOneReading) (text : List ℕ) (m n : ℕ) → NestsTo text m → NestsTo text n → m ≡ n
nest_once readings text m n h k =
    sym h.is ∙ ap (λ ts. greatest (nests ts)) (readings text h.tokens k.tokens None None h.lexes k.lexes).0 ∙ k.is

-- where it isn't too great, the text doesn't nest too deeply
pub shallow_at : (readings : AtMostOneReading) (text : List ℕ) (m : ℕ) → NestsTo text m → m ≤ deepest → (n : ℕ) → NestsTo text n → n ≤ deepest
shallow_at readings text m h low n k = subst (λ nest. nest ≤ deepest) (nest_once readings text m n h k) low

annotated_or_none : (laws : Laws) (model : DataModel) (set : ℕ) (text : List ℕ) (a : SourceUnit) (why : Refusal) → HasAnnotation model set text a → HasNoProgram model text why → ⊥
annotated_or_none laws model set text a why h n = program_or_none laws model text h.program why h.is_program n

-- at most one refusal is due
pub annotation_refused_once : (laws : Laws) (model : DataModel) (set : ℕ) (text : List ℕ) (why other : Refusal)
    → RefusesAnnotation model set text why → RefusesAnnotation model set text other → IsSame (Refused why) (Refused other)
annotation_refused_once laws model set text why other (no_program n) (no_program m) = no_program_once laws model text why other n m
annotation_refused_once laws model set text why other (no_program n) (grown {annotated = b} k f d) = absurd (annotated_or_none laws model set text b why k n)
annotation_refused_once laws model set text why other (grown {annotated = a} h g c) (no_program n) = absurd (annotated_or_none laws model set text a other h n)
annotation_refused_once laws model set text why other (grown {annotated = a} {nest = m} h g c) (grown {annotated = b} {nest = n} k f d) =
    let moved : NestsTo (canon a) n = subst (λ u. NestsTo (canon u) n) (sym (annotated_once laws model set text a b h k)) f in
    ap (λ nest. Refused (Grown nest)) (nest_once laws.readings (canon a) m n g moved)

-- what is annotated isn't refused
pub annotated_or_refused : (laws : Laws) (model : DataModel) (set : ℕ) (text out : List ℕ) (why : Refusal)
    → IsAnnotation model set text out → RefusesAnnotation model set text why → ⊥
annotated_or_refused laws model set text out why h (no_program n) = annotated_or_none laws model set text h.annotated why h.has n
annotated_or_refused laws model set text out why h (grown {annotated = b} {nest = n} k f d) =
    let same : out ≡ canon b = h.is ∙ ap canon (annotated_once laws model set text h.annotated b h.has k) in
    let low : n ≤ deepest = h.shallow n (subst (λ t. NestsTo t n) (sym same) f) in
    omega arith
