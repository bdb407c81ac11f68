-- Each stage of a replay says one thing: what it gives is one, or its refusal is, and never both.
use Rattle.std.proofs.Common.{◌≡◌, ◌⊎◌, ◌<◌, ◌≤◌, ℕ, true, false, List, [], slice_get, Option, Some, None, refl, sym, ap, ◌∙◌, subst, inl, inr}
use Rattle.std.proofs.Math.Nat.{eq-or-lt_of_le}
use Rattle.std.proofs.lemmas.Bool.{cases_lt}
use Rattle.lt_model.specs.declared.scalar.DataModel.{DataModel}
use Rattle.lt_token.specs.Tokens.{Token, no_token, unsupported_word}
use Rattle.lt_token.specs.Answer.{IsAnswer, lexed, refused, too_nested}
use Rattle.lt_tree.specs.Tree.{Unit as SourceUnit}
use Rattle.lt_tree.specs.Units.{Derives}
use Rattle.lt_tree.specs.Typing.Rules.{Rule, number_of}
use Rattle.lt_tree.specs.Typing.Programs.{Program, broken}
use Rattle.lt_tree.specs.Typing.UnitTyping.{IsProgramOf, BreaksFirst, typing}
use Rattle.lt_entry.specs.Conditions.{may_be_entry, scope_behind}
use Rattle.lt_entry.specs.Specifications.{Specification, IsDefault, IsLastEntry, HasNoEntry, line_number, specification_in}
use Rattle.lt_entry.specs.declared.test.Suite.{Suite}
use Rattle.lt_entry.specs.Suites.{IsSuite}
use Rattle.lt_cover.specs.Coverage.Table.{Table}
use Rattle.lt_cover.specs.Coverage.Text.{IsCoverText}
use Rattle.lt_cover.specs.Coverage.Merge.{IsMerge, AgreeAt, IsLeastMixed, IsLeastDiffering, label_keys, hyper_keys}
use Rattle.lt_replayed.specs.Replayed.{IsCoverage}
use Rattle.lt_answers.specs.Laws.{Laws}
use Rattle.lt_answers.specs.Programs.{Spells, SpellsNone, no_token_there, word_not_supported, nests_too_deeply, derives_none, IsProgram, HasNoProgram, spells_none, breaks_rule}
use Rattle.lt_answers.specs.Entries.{Specifies, SpecifiesNone, bad_line, no_entry, IsNoSuite, bad_suite_line, IsOld, IsNoOld, IsNoCoverage, bad_row}
use Rattle.lt_answers.specs.Replays.{Sources, HasProgram, HasSpecification, HasSuite, HasCoverage, IsMerged, IsReplay, AreMixed, mixed_label, mixed_hyper, mixed_test, Refuses, no_program, no_specification, no_suite, no_old, mixed}
use Rattle.lt_answers.specs.Answers.{IsSame}
use Rattle.lt_answers.specs.declared.status.Status.TheVariants.{Refused}
use Rattle.lt_answers.specs.declared.status.Refusal.{Refusal}
use Rattle.lt_answers.specs.declared.status.Refusal.TheVariants.{Lex, Unsupported, TooNested, Syntax, Typing, Spec, Suite as SuiteRefusal, Cover, Mixed, MixedHyper, MixedTest}
use Rattle.lt_answers.proofs.Same.{same_why}

-- ---- the unit that a text spells

pub spells_once : (laws : Laws) (text : List ℕ) (u v : SourceUnit) (s p : List ℕ) → Spells text u s → Spells text v p → (u ≡ v) × (s ≡ p)
spells_once laws text u v s p h k =
    let same : lexed h.tokens ≡ lexed k.tokens = laws.answers text (lexed h.tokens) (lexed k.tokens) h.lexes k.lexes in
    let tokens : h.tokens ≡ k.tokens = cc in
    laws.units h.tokens u v s p h.derives (subst (λ t. Derives t v p) (sym tokens) k.derives)

-- the tokens of one answer and of another are the same
same_tokens : (laws : Laws) (text : List ℕ) (ts us : List Token) → IsAnswer text (lexed ts) → IsAnswer text (lexed us) → ts ≡ us
same_tokens laws text ts us h k =
    let same : lexed ts ≡ lexed us = laws.answers text (lexed ts) (lexed us) h k in cc

spells_or_none : (laws : Laws) (text : List ℕ) (unit : SourceUnit) (spots : List ℕ) (why : Refusal) → Spells text unit spots → SpellsNone text why → ⊥
spells_or_none laws text unit spots why h (no_token_there {at = at} a) =
    let same : lexed h.tokens ≡ refused (no_token at) = laws.answers text (lexed h.tokens) (refused (no_token at)) h.lexes a in cc
spells_or_none laws text unit spots why h (word_not_supported {word = word} {at = at} a) =
    let same : lexed h.tokens ≡ refused (unsupported_word word at) = laws.answers text (lexed h.tokens) (refused (unsupported_word word at)) h.lexes a in cc
spells_or_none laws text unit spots why h (nests_too_deeply {at = at} a) =
    let same : lexed h.tokens ≡ too_nested at = laws.answers text (lexed h.tokens) (too_nested at) h.lexes a in cc
spells_or_none laws text unit spots why h (derives_none {tokens = tokens} a place none) =
    none unit spots (subst (λ t. Derives t unit spots) (same_tokens laws text h.tokens tokens h.lexes a) h.derives)

-- ---- why a text spells none

at_no_token : (laws : Laws) (text : List ℕ) (at : ℕ) (other : Refusal) → IsAnswer text (refused (no_token at)) → SpellsNone text other → IsSame (Refused (Lex at)) (Refused other)
at_no_token laws text at other a (no_token_there {at = at'} b) =
    let same : refused (no_token at) ≡ refused (no_token at') = laws.answers text (refused (no_token at)) (refused (no_token at')) a b in
    let place : at ≡ at' = cc in ap (λ n. Refused (Lex n)) place
at_no_token laws text at other a (word_not_supported {word = word} {at = at'} b) =
    let same : refused (no_token at) ≡ refused (unsupported_word word at') = laws.answers text (refused (no_token at)) (refused (unsupported_word word at')) a b in absurd (cc)
at_no_token laws text at other a (nests_too_deeply {at = at'} b) =
    let same : refused (no_token at) ≡ too_nested at' = laws.answers text (refused (no_token at)) (too_nested at') a b in absurd (cc)
at_no_token laws text at other a (derives_none {tokens = tokens} b place none) =
    let same : refused (no_token at) ≡ lexed tokens = laws.answers text (refused (no_token at)) (lexed tokens) a b in absurd (cc)

at_word : (laws : Laws) (text word : List ℕ) (at : ℕ) (other : Refusal) → IsAnswer text (refused (unsupported_word word at)) → SpellsNone text other → IsSame (Refused (Unsupported word at)) (Refused other)
at_word laws text word at other a (no_token_there {at = at'} b) =
    let same : refused (unsupported_word word at) ≡ refused (no_token at') = laws.answers text (refused (unsupported_word word at)) (refused (no_token at')) a b in absurd (cc)
at_word laws text word at other a (word_not_supported {word = word'} {at = at'} b) =
    let same : refused (unsupported_word word at) ≡ refused (unsupported_word word' at') = laws.answers text (refused (unsupported_word word at)) (refused (unsupported_word word' at')) a b in
    let one : word ≡ word' = cc in let place : at ≡ at' = cc in cc
at_word laws text word at other a (nests_too_deeply {at = at'} b) =
    let same : refused (unsupported_word word at) ≡ too_nested at' = laws.answers text (refused (unsupported_word word at)) (too_nested at') a b in absurd (cc)
at_word laws text word at other a (derives_none {tokens = tokens} b place none) =
    let same : refused (unsupported_word word at) ≡ lexed tokens = laws.answers text (refused (unsupported_word word at)) (lexed tokens) a b in absurd (cc)

at_nest : (laws : Laws) (text : List ℕ) (at : ℕ) (other : Refusal) → IsAnswer text (too_nested at) → SpellsNone text other → IsSame (Refused (TooNested at)) (Refused other)
at_nest laws text at other a (no_token_there {at = at'} b) =
    let same : too_nested at ≡ refused (no_token at') = laws.answers text (too_nested at) (refused (no_token at')) a b in absurd (cc)
at_nest laws text at other a (word_not_supported {word = word} {at = at'} b) =
    let same : too_nested at ≡ refused (unsupported_word word at') = laws.answers text (too_nested at) (refused (unsupported_word word at')) a b in absurd (cc)
at_nest laws text at other a (nests_too_deeply {at = at'} b) =
    let same : too_nested at ≡ too_nested at' = laws.answers text (too_nested at) (too_nested at') a b in
    let place : at ≡ at' = cc in ap (λ n. Refused (TooNested n)) place
at_nest laws text at other a (derives_none {tokens = tokens} b place none) =
    let same : too_nested at ≡ lexed tokens = laws.answers text (too_nested at) (lexed tokens) a b in absurd (cc)

at_syntax : (laws : Laws) (text : List ℕ) (tokens : List Token) (at : ℕ) (other : Refusal) → IsAnswer text (lexed tokens) → SpellsNone text other → IsSame (Refused (Syntax at)) (Refused other)
at_syntax laws text tokens at other a (no_token_there {at = at'} b) =
    let same : lexed tokens ≡ refused (no_token at') = laws.answers text (lexed tokens) (refused (no_token at')) a b in absurd (cc)
at_syntax laws text tokens at other a (word_not_supported {word = word} {at = at'} b) =
    let same : lexed tokens ≡ refused (unsupported_word word at') = laws.answers text (lexed tokens) (refused (unsupported_word word at')) a b in absurd (cc)
at_syntax laws text tokens at other a (nests_too_deeply {at = at'} b) =
    let same : lexed tokens ≡ too_nested at' = laws.answers text (lexed tokens) (too_nested at') a b in absurd (cc)
at_syntax laws text tokens at other a (derives_none b place none) = tt

none_spelled_once : (laws : Laws) (text : List ℕ) (why other : Refusal) → SpellsNone text why → SpellsNone text other → IsSame (Refused why) (Refused other)
none_spelled_once laws text why other (no_token_there {at = at} a) h = at_no_token laws text at other a h
none_spelled_once laws text why other (word_not_supported {word = word} {at = at} a) h = at_word laws text word at other a h
none_spelled_once laws text why other (nests_too_deeply {at = at} a) h = at_nest laws text at other a h
none_spelled_once laws text why other (derives_none {tokens = tokens} {at = at} a place none) h = at_syntax laws text tokens at other a h

-- ---- programs

same_typing : (model : DataModel) (u : SourceUnit) (p q : Program) → IsProgramOf model u p → IsProgramOf model u q → p ≡ q
same_typing model u p q h k = cc

pub programs_once : (laws : Laws) (model : DataModel) (text : List ℕ) (p q : Program) → IsProgram model text p → IsProgram model text q → p ≡ q
programs_once laws model text p q h k =
    let units = spells_once laws text h.unit k.unit h.spots k.spots h.spells k.spells in
    same_typing model h.unit p q h.typed (subst (λ u. IsProgramOf model u q) (sym units.0) k.typed)

typed_or_broken : (model : DataModel) (u : SourceUnit) (p : Program) (rule : Rule) (node : ℕ) → IsProgramOf model u p → BreaksFirst model u rule node → ⊥
typed_or_broken model u p rule node h k = cc

pub program_or_none : (laws : Laws) (model : DataModel) (text : List ℕ) (p : Program) (why : Refusal) → IsProgram model text p → HasNoProgram model text why → ⊥
program_or_none laws model text p why h (spells_none n) = spells_or_none laws text h.unit h.spots why h.spells n
program_or_none laws model text p why h (breaks_rule {unit = unit} {spots = spots} {rule = rule} {node = node} s b at) =
    let units = spells_once laws text h.unit unit h.spots spots h.spells s in
    typed_or_broken model h.unit p rule node h.typed (subst (λ u. BreaksFirst model u rule node) (sym units.0) b)

same_place : (spots places : List ℕ) (node other at at' : ℕ) → spots ≡ places → node ≡ other → slice_get spots node ≡ Some at → slice_get places other ≡ Some at' → at ≡ at'
same_place spots places node other at at' e d h k = cc

same_rule : (model : DataModel) (u v : SourceUnit) (rule rule' : Rule) (node node' : ℕ) → u ≡ v → BreaksFirst model u rule node → BreaksFirst model v rule' node' → (rule ≡ rule') × (node ≡ node')
same_rule model u v rule rule' node node' e h k =
    let one : broken rule node ≡ broken rule' node' = sym h ∙ ap (typing model) e ∙ k in
    let rules : rule ≡ rule' = cc in let nodes : node ≡ node' = cc in (rules, nodes)

at_rule : (laws : Laws) (model : DataModel) (text : List ℕ) (unit : SourceUnit) (spots : List ℕ) (rule : Rule) (node at : ℕ) (other : Refusal) → Spells text unit spots
    → BreaksFirst model unit rule node → slice_get spots node ≡ Some at → HasNoProgram model text other → IsSame (Refused (Typing (number_of rule) at)) (Refused other)
at_rule laws model text unit spots rule node at other s b e (spells_none n) = absurd (spells_or_none laws text unit spots other s n)
at_rule laws model text unit spots rule node at other s b e (breaks_rule {unit = unit'} {spots = spots'} {rule = rule'} {node = node'} {at = at'} s' b' e') =
    let units = spells_once laws text unit unit' spots spots' s s' in
    let same = same_rule model unit unit' rule rule' node node' units.0 b b' in
    let place : at ≡ at' = same_place spots spots' node node' at at' units.1 same.1 e e' in
    let rules : rule ≡ rule' = same.0 in cc

pub no_program_once : (laws : Laws) (model : DataModel) (text : List ℕ) (why other : Refusal) → HasNoProgram model text why → HasNoProgram model text other → IsSame (Refused why) (Refused other)
no_program_once laws model text why other (spells_none n) (spells_none m) = none_spelled_once laws text why other n m
no_program_once laws model text why other (spells_none n) (breaks_rule {unit = unit} {spots = spots} s b e) = absurd (spells_or_none laws text unit spots why s n)
no_program_once laws model text why other (breaks_rule {unit = unit} {spots = spots} {rule = rule} {node = node} {at = at} s b e) h =
    at_rule laws model text unit spots rule node at other s b e h

-- ---- specifications

entry_once : (program : Program) (m n : ℕ) → IsLastEntry program m → IsLastEntry program n → m < n → ⊥
entry_once program m n h k l =
    let no : may_be_entry program n ≡ false = h.last n l k.there in
    let yes : may_be_entry program n ≡ true = k.fits in cc

entries_at : (program : Program) (m n : ℕ) → IsLastEntry program m → IsLastEntry program n → (m ≡ n) ⊎ (m < n) → m ≡ n
entries_at program m n h k (inl e) = e
entries_at program m n h k (inr l) = absurd (entry_once program m n h k l)

entries_by : (program : Program) (m n : ℕ) → IsLastEntry program m → IsLastEntry program n → (m < n) ⊎ (n ≤ m) → m ≡ n
entries_by program m n h k (inl l) = absurd (entry_once program m n h k l)
entries_by program m n h k (inr l) = sym (entries_at program n m k h (eq-or-lt_of_le l))

entries_once : (program : Program) (m n : ℕ) → IsLastEntry program m → IsLastEntry program n → m ≡ n
entries_once program m n h k = entries_by program m n h k (cases_lt m n)

default_once : (program : Program) (it other : Specification) → IsDefault program it → IsDefault program other → it ≡ other
default_once program it other h k =
    h.says ∙ ap (λ n. specification_in (scope_behind program [] n []) n []) (entries_once program h.entry k.entry h.last k.last) ∙ sym k.says

default_or_none : (program : Program) (it : Specification) → IsDefault program it → HasNoEntry program → ⊥
default_or_none program it h n =
    let no : may_be_entry program h.entry ≡ false = n h.entry h.last.there in
    let yes : may_be_entry program h.entry ≡ true = h.last.fits in cc

specified_once : (laws : Laws) (program : Program) (entry : Option (List ℕ)) (it other : Specification) → Specifies program entry it → Specifies program entry other → it ≡ other
specified_once laws program (Some text) it other h k = (laws.specifications program text).said it other h k
specified_once laws program None it other h k = default_once program it other h k

specified_or_none : (laws : Laws) (program : Program) (entry : Option (List ℕ)) (it : Specification) (why : Refusal) → Specifies program entry it → SpecifiesNone program entry why → ⊥
specified_or_none laws program entry it why h (bad_line {text = text} {number = number} b) = (laws.specifications program text).apart it number h b
specified_or_none laws program entry it why h (no_entry n) = default_or_none program it h n

none_specified_once : (laws : Laws) (program : Program) (entry : Option (List ℕ)) (why other : Refusal) → SpecifiesNone program entry why → SpecifiesNone program entry other → why ≡ other
none_specified_once laws program entry why other (bad_line {text = text} {number = number} b) (bad_line {number = number'} c) =
    ap (λ n. Spec (line_number n)) ((laws.specifications program text).bad number number' b c)
none_specified_once laws program entry why other (no_entry n) (no_entry m) = refl

-- ---- suites and coverage files

suite_or_none : (laws : Laws) (program : Program) (it : Specification) (text : List ℕ) (suite : Suite) (why : Refusal) → IsSuite program it text suite → IsNoSuite program it text why → ⊥
suite_or_none laws program it text suite why h (bad_suite_line {number = number} b) = (laws.suites program it text).apart suite number h b

no_suite_once : (laws : Laws) (program : Program) (it : Specification) (text : List ℕ) (why other : Refusal) → IsNoSuite program it text why → IsNoSuite program it text other → why ≡ other
no_suite_once laws program it text why other (bad_suite_line {number = number} b) (bad_suite_line {number = number'} c) =
    ap (λ n. SuiteRefusal (line_number n)) ((laws.suites program it text).bad number number' b c)

pub coverage_or_none : (laws : Laws) (text : List ℕ) (table : Table) (why : Refusal) → IsCoverText text table → IsNoCoverage text why → ⊥
coverage_or_none laws text table why h (bad_row {row = row} b) = (laws.coverages text).apart table row h b

pub no_coverage_once : (laws : Laws) (text : List ℕ) (why other : Refusal) → IsNoCoverage text why → IsNoCoverage text other → why ≡ other
no_coverage_once laws text why other (bad_row {row = row} b) (bad_row {row = row'} c) = ap (λ n. Cover n) ((laws.coverages text).bad row row' b c)

old_once : (laws : Laws) (text : Option (List ℕ)) (old other : Option Table) → IsOld text old → IsOld text other → old ≡ other
old_once laws (Some text) (Some old) (Some other) h k = ap Some ((laws.coverages text).said old other h k)
old_once laws None None None h k = refl
old_once laws (Some text) None other h k = absurd h
old_once laws (Some text) (Some old) None h k = absurd k
old_once laws None (Some old) other h k = absurd h
old_once laws None None (Some other) h k = absurd k

old_or_none : (laws : Laws) (cover : Option (List ℕ)) (old : Option Table) (why : Refusal) → IsOld cover old → IsNoOld cover why → ⊥
old_or_none laws (Some text) (Some old) why h n = coverage_or_none laws text old why h n
old_or_none laws (Some text) None why h n = absurd h
old_or_none laws None old why h n = absurd n

no_old_once : (laws : Laws) (cover : Option (List ℕ)) (why other : Refusal) → IsNoOld cover why → IsNoOld cover other → why ≡ other
no_old_once laws (Some text) why other h k = no_coverage_once laws text why other h k
no_old_once laws None why other h k = absurd h

-- ---- stages

programs_same : (laws : Laws) (from : Sources) (p q : HasProgram from) → p.program ≡ q.program
programs_same laws from p q = programs_once laws from.model from.file p.program q.program p.is q.is

specifications_same : (laws : Laws) (from : Sources) (p q : HasSpecification from) → (p.before.program ≡ q.before.program) × (p.it ≡ q.it)
specifications_same laws from p q =
    let e = programs_same laws from p.before q.before in
    (e, specified_once laws q.before.program from.entry p.it q.it (subst (λ g. Specifies g from.entry p.it) e p.is) q.is)

suites_same : (laws : Laws) (from : Sources) (p q : HasSuite from) → (p.before.before.program ≡ q.before.before.program) × (p.before.it ≡ q.before.it) × (p.suite ≡ q.suite)
suites_same laws from p q =
    let s = specifications_same laws from p.before q.before in
    let moved : IsSuite q.before.before.program q.before.it from.suite p.suite =
    subst (λ g. IsSuite g q.before.it from.suite p.suite) s.0 (subst (λ i. IsSuite p.before.before.program i from.suite p.suite) s.1 p.is) in
    (s.0, s.1, (laws.suites q.before.before.program q.before.it from.suite).said p.suite q.suite moved q.is)

same_coverage : (laws : Laws) (p q : Program) (it other : Specification) (suite suite' : Suite) (steps : ℕ) (t u : Table) → p ≡ q → it ≡ other → suite ≡ suite'
    → IsCoverage p it.spec suite steps t → IsCoverage q other.spec suite' steps u → t ≡ u
same_coverage laws p q it other suite suite' steps t u e d s h k =
    let moved : IsCoverage q other.spec suite' steps t =
    subst (λ it. IsCoverage q other.spec it steps t) s (subst (λ i. IsCoverage q i.spec suite steps t) d (subst (λ g. IsCoverage g it.spec suite steps t) e h)) in
    laws.tables q other.spec suite' steps t u moved k

coverages_same : (laws : Laws) (from : Sources) (p q : HasCoverage from) → (p.new ≡ q.new) × (p.old ≡ q.old)
coverages_same laws from p q =
    let s = suites_same laws from p.before q.before in (
      same_coverage laws p.before.before.before.program q.before.before.before.program p.before.before.it q.before.before.it p.before.suite q.before.suite from.steps p.new q.new s.0 s.1 s.2 p.is_new q.is_new,
      old_once laws from.cover p.old q.old p.is_old q.is_old,
    )

-- ---- merges

mixed_apart : (keys others : List (ℕ × List ℕ)) (id : ℕ) → keys ≡ others → IsLeastMixed keys others id → ⊥
mixed_apart keys others id e h = h.here (subst (λ them. AgreeAt keys them id) e (λ tag. (λ c. c, λ c. c)))

at_mixed_label : (laws : Laws) (new old : Table) (id : ℕ) (other : Refusal) → IsLeastMixed (label_keys new.labels) (label_keys old.labels) id → AreMixed new old other → Mixed id ≡ other
at_mixed_label laws new old id other h (mixed_label {id = id'} k) = ap (λ n. Mixed n) ((laws.merges new old).labels id id' h k)
at_mixed_label laws new old id other h (mixed_hyper e k) = absurd (mixed_apart (label_keys new.labels) (label_keys old.labels) id e h)
at_mixed_label laws new old id other h (mixed_test e d k) = absurd (mixed_apart (label_keys new.labels) (label_keys old.labels) id e h)

at_mixed_hyper : (laws : Laws) (new old : Table) (id : ℕ) (other : Refusal) → label_keys new.labels ≡ label_keys old.labels
    → IsLeastMixed (hyper_keys new.hypers) (hyper_keys old.hypers) id → AreMixed new old other → MixedHyper id ≡ other
at_mixed_hyper laws new old id other l h (mixed_label {id = id'} k) = absurd (mixed_apart (label_keys new.labels) (label_keys old.labels) id' l k)
at_mixed_hyper laws new old id other l h (mixed_hyper {id = id'} e k) = ap (λ n. MixedHyper n) ((laws.merges new old).hypers id id' h k)
at_mixed_hyper laws new old id other l h (mixed_test e d k) = absurd (mixed_apart (hyper_keys new.hypers) (hyper_keys old.hypers) id d h)

at_mixed_test : (laws : Laws) (new old : Table) (name : List ℕ) (other : Refusal) → label_keys new.labels ≡ label_keys old.labels → hyper_keys new.hypers ≡ hyper_keys old.hypers
    → IsLeastDiffering new.tests old.tests name → AreMixed new old other → MixedTest name ≡ other
at_mixed_test laws new old name other l y h (mixed_label {id = id'} k) = absurd (mixed_apart (label_keys new.labels) (label_keys old.labels) id' l k)
at_mixed_test laws new old name other l y h (mixed_hyper {id = id'} e k) = absurd (mixed_apart (hyper_keys new.hypers) (hyper_keys old.hypers) id' y k)
at_mixed_test laws new old name other l y h (mixed_test {name = name'} e d k) = ap (λ n. MixedTest n) ((laws.merges new old).tests name name' h k)

mixed_once : (laws : Laws) (new old : Table) (why other : Refusal) → AreMixed new old why → AreMixed new old other → why ≡ other
mixed_once laws new old why other (mixed_label {id = id} h) k = at_mixed_label laws new old id other h k
mixed_once laws new old why other (mixed_hyper {id = id} l h) k = at_mixed_hyper laws new old id other l h k
mixed_once laws new old why other (mixed_test {name = name} l y h) k = at_mixed_test laws new old name other l y h k

merged_or_mixed : (laws : Laws) (new old table : Table) (why : Refusal) → IsMerge new old table → AreMixed new old why → ⊥
merged_or_mixed laws new old table why m (mixed_label {id = id} h) = mixed_apart (label_keys new.labels) (label_keys old.labels) id ((laws.merges new old).agree table m).0 h
merged_or_mixed laws new old table why m (mixed_hyper {id = id} l h) = mixed_apart (hyper_keys new.hypers) (hyper_keys old.hypers) id ((laws.merges new old).agree table m).1 h
merged_or_mixed laws new old table why m (mixed_test {name = name} l y h) = (laws.merges new old).apart table name m h

-- ---- refusals

-- what comes before a stage isn't refused where the stage gives something
no_refusal_of_suite : (laws : Laws) (from : Sources) (h : HasSuite from) (other : Refusal) (A : Type 0) → Refuses from other
    → (IsNoOld from.cover other → A)
    → ((before : HasCoverage from) (old : Table) → before.old ≡ Some old → AreMixed before.new old other → A) → A
no_refusal_of_suite laws from h other A (no_program n) c m = absurd (program_or_none laws from.model from.file h.before.before.program other h.before.before.is n)
no_refusal_of_suite laws from h other A (no_specification b n) c m =
    absurd (specified_or_none laws b.program from.entry h.before.it other (subst (λ g. Specifies g from.entry h.before.it) (programs_same laws from h.before.before b) h.before.is) n)
no_refusal_of_suite laws from h other A (no_suite b n) c m =
    let s = specifications_same laws from h.before b in
    let moved : IsSuite b.before.program b.it from.suite h.suite =
    subst (λ g. IsSuite g b.it from.suite h.suite) s.0 (subst (λ i. IsSuite h.before.before.program i from.suite h.suite) s.1 h.is) in
    absurd (suite_or_none laws b.before.program b.it from.suite h.suite other moved n)
no_refusal_of_suite laws from h other A (no_old b n) c m = c n
no_refusal_of_suite laws from h other A (mixed {old = old} b e x) c m = m b old e x

at_no_program : (laws : Laws) (from : Sources) (why other : Refusal) → HasNoProgram from.model from.file why → Refuses from other → IsSame (Refused why) (Refused other)
at_no_program laws from why other n (no_program m) = no_program_once laws from.model from.file why other n m
at_no_program laws from why other n (no_specification b s) = absurd (program_or_none laws from.model from.file b.program why b.is n)
at_no_program laws from why other n (no_suite b s) = absurd (program_or_none laws from.model from.file b.before.program why b.before.is n)
at_no_program laws from why other n (no_old b c) = absurd (program_or_none laws from.model from.file b.before.before.program why b.before.before.is n)
at_no_program laws from why other n (mixed b e x) = absurd (program_or_none laws from.model from.file b.before.before.before.program why b.before.before.before.is n)

-- a specification that there is none of isn't there
unspecified : (laws : Laws) (from : Sources) (p : HasProgram from) (why : Refusal) → SpecifiesNone p.program from.entry why → HasSpecification from → ⊥
unspecified laws from p why n h =
    specified_or_none laws p.program from.entry h.it why (subst (λ g. Specifies g from.entry h.it) (programs_same laws from h.before p) h.is) n

at_no_specification : (laws : Laws) (from : Sources) (p : HasProgram from) (why other : Refusal) → SpecifiesNone p.program from.entry why → Refuses from other → IsSame (Refused why) (Refused other)
at_no_specification laws from p why other n (no_program m) = absurd (program_or_none laws from.model from.file p.program other p.is m)
at_no_specification laws from p why other n (no_specification b m) =
    same_why why other (none_specified_once laws p.program from.entry why other n (subst (λ g. SpecifiesNone g from.entry other) (programs_same laws from b p) m))
at_no_specification laws from p why other n (no_suite b m) = absurd (unspecified laws from p why n b)
at_no_specification laws from p why other n (no_old b c) = absurd (unspecified laws from p why n b.before)
at_no_specification laws from p why other n (mixed b e x) = absurd (unspecified laws from p why n b.before.before)

-- the refusal of a suite, where another specification is the same
moved_no_suite : (laws : Laws) (from : Sources) (p q : HasSpecification from) (why : Refusal) → IsNoSuite p.before.program p.it from.suite why → IsNoSuite q.before.program q.it from.suite why
moved_no_suite laws from p q why n =
    let s = specifications_same laws from p q in
    subst (λ g. IsNoSuite g q.it from.suite why) s.0 (subst (λ i. IsNoSuite p.before.program i from.suite why) s.1 n)

untested : (laws : Laws) (from : Sources) (p : HasSpecification from) (why : Refusal) → IsNoSuite p.before.program p.it from.suite why → HasSuite from → ⊥
untested laws from p why n h = suite_or_none laws h.before.before.program h.before.it from.suite h.suite why h.is (moved_no_suite laws from p h.before why n)

at_no_suite : (laws : Laws) (from : Sources) (p : HasSpecification from) (why other : Refusal) → IsNoSuite p.before.program p.it from.suite why → Refuses from other → IsSame (Refused why) (Refused other)
at_no_suite laws from p why other n (no_program m) = absurd (program_or_none laws from.model from.file p.before.program other p.before.is m)
at_no_suite laws from p why other n (no_specification b m) = absurd (unspecified laws from b other m p)
at_no_suite laws from p why other n (no_suite b m) = same_why why other (no_suite_once laws p.before.program p.it from.suite why other n (moved_no_suite laws from b p other m))
at_no_suite laws from p why other n (no_old b c) = absurd (untested laws from p why n b)
at_no_suite laws from p why other n (mixed b e x) = absurd (untested laws from p why n b.before)

at_no_old : (laws : Laws) (from : Sources) (p : HasSuite from) (why other : Refusal) → IsNoOld from.cover why → Refuses from other → IsSame (Refused why) (Refused other)
at_no_old laws from p why other n h =
    no_refusal_of_suite laws from p other (IsSame (Refused why) (Refused other)) h
    (λ m. same_why why other (no_old_once laws from.cover why other n m))
    (λ b old d x. absurd (old_or_none laws from.cover b.old why b.is_old n))

moved_mixed : (laws : Laws) (from : Sources) (p q : HasCoverage from) (old other : Table) (why : Refusal) → p.old ≡ Some old → q.old ≡ Some other → AreMixed q.new other why → AreMixed p.new old why
moved_mixed laws from p q old other why e d x =
    let s = coverages_same laws from p q in
    let olds : Some old ≡ Some other = sym e ∙ s.1 ∙ d in
    let same : old ≡ other = cc in
    subst (λ t. AreMixed t old why) (sym s.0) (subst (λ t. AreMixed q.new t why) (sym same) x)

at_mixed : (laws : Laws) (from : Sources) (p : HasCoverage from) (old : Table) (why other : Refusal) → p.old ≡ Some old → AreMixed p.new old why → Refuses from other → IsSame (Refused why) (Refused other)
at_mixed laws from p old why other e x h =
    no_refusal_of_suite laws from p.before other (IsSame (Refused why) (Refused other)) h
    (λ m. absurd (old_or_none laws from.cover p.old other p.is_old m))
    (λ q old' d y. same_why why other (mixed_once laws p.new old why other x (moved_mixed laws from p q old old' other e d y)))

-- at most one refusal is due
pub refused_once : (laws : Laws) (from : Sources) (why other : Refusal) → Refuses from why → Refuses from other → IsSame (Refused why) (Refused other)
refused_once laws from why other (no_program n) h = at_no_program laws from why other n h
refused_once laws from why other (no_specification p n) h = at_no_specification laws from p why other n h
refused_once laws from why other (no_suite p n) h = at_no_suite laws from p why other n h
refused_once laws from why other (no_old p n) h = at_no_old laws from p why other n h
refused_once laws from why other (mixed {old = old} p e x) h = at_mixed laws from p old why other e x h

merged_anyway : (laws : Laws) (p : Table) (given : Option Table) (table old : Table) (why : Refusal) → IsMerged p given table → given ≡ Some old → AreMixed p old why → ⊥
merged_anyway laws p None table old why m e x = absurd (cc)
merged_anyway laws p (Some held) table old why m e x =
    let same : held ≡ old = cc in merged_or_mixed laws p old table why (subst (λ t. IsMerge p t table) same m) x

-- what is replayed isn't refused
pub replayed_or_refused : (laws : Laws) (from : Sources) (out : List ℕ) (why : Refusal) → IsReplay from out → Refuses from why → ⊥
replayed_or_refused laws from out why r h =
    let c = r.covered.coverage in
    no_refusal_of_suite laws from c.before why ⊥ h
    (λ n. old_or_none laws from.cover c.old why c.is_old n)
    (λ q old e x.
    let s = coverages_same laws from c q in
    merged_anyway laws c.new c.old r.table old why r.covered.merged (s.1 ∙ e) (subst (λ t. AreMixed t old why) (sym s.0) x))
