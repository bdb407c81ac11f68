use Rattle.std.proofs.Common.{rules, refl, ◌≡◌, map, eqb, ap, sym, subst, ◌∙◌}
use Rattle.std.specs.Prelude.{All}
use Rattle.std.specs.List.{slice_split}
use Rattle.std.proofs.lemmas.Bool.{false≢true}
use Rattle.lt_cover.specs.Coverage.Names.{IsTestName}
use Rattle.lt_cover.specs.Coverage.Table.{NamesRise}
use Rattle.lt_cover.proofs.Coverings.{covered_by_none, covered_by_split, names_are_split, nil_told}
use Rattle.lt_cover.proofs.Rising.{now_of}
use Rattle.lt_cover.proofs.covering.covering.Goals as goal

pub returns-then-is_empty : goal.returns-then-is_empty
returns-then-is_empty c = covered_by_none c.new.result.items c.args.state.now c.args.by.now c.new.ensures.items (search rules) (nil_told c.args.by.now c.is_empty.result c.is_empty.ensures c.if-is_empty.true)

pub returns-then-not-are_names : goal.returns-then-not-are_names
returns-then-not-are_names c = λ x h e.
    let words = c.as_slice-words.result.now in
    let are : map now_of words ≡ slice_split (λ b. eqb b 32) c.args.by.now = ap (map now_of) c.as_slice-words.ensures.value ∙ c.in_ok-words.ensures in
    false≢true (c.if-not-are_names.ensures.1 (subst (All IsTestName) (names_are_split x c.args.state.now c.args.by.now (search rules) h e ∙ sym are) h.each))

pub returns-then-not-rise : goal.returns-then-not-rise
returns-then-not-rise c = λ x h e.
    let words = c.as_slice-words.result.now in
    let are : map now_of words ≡ slice_split (λ b. eqb b 32) c.args.by.now = ap (map now_of) c.as_slice-words.ensures.value ∙ c.in_ok-words.ensures in
    false≢true (c.if-not-rise.ensures.1 (subst NamesRise (names_are_split x c.args.state.now c.args.by.now (search rules) h e ∙ sym are) h.rise))

pub returns : goal.returns
returns c =
    let words = c.as_slice-words.result.now in
    let are : map now_of words ≡ slice_split (λ b. eqb b 32) c.args.by.now = ap (map now_of) c.as_slice-words.ensures.value ∙ c.in_ok-words.ensures in
    covered_by_split c.in_ok-copied.field-0.items (map now_of words) c.args.state.now c.args.by.now c.in_ok-copied.ensures are (c.if-not-are_names.ensures.0 refl) (c.if-not-rise.ensures.0 refl) (search rules)
