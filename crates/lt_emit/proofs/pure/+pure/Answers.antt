use Rattle.std.proofs.Common.{ℕ, suc, sym, ap, ◌∙◌, length, nat_eq, drop, add-one}
use Rattle.lt_ir.specs.Pure as p
use Rattle.lt_tree.specs.Typing.ValueView.{value_of, values_in}
use Rattle.lt_tree.proofs.TypedRows.{comma_is}
use Rattle.lt_meaning.specs.Expressions.{of_last}
use Rattle.lt_code.specs.Predicates.{raw_of, raw_parts}
use Rattle.lt_tables.specs.Views.{types_at}
use Rattle.lt_emit.specs.Fate.{fate_of, part_fate}
use Rattle.lt_emit.specs.Names.{names_at, before}
use Rattle.lt_emit.proofs.PureRows as rows
use Rattle.lt_emit.proofs.pure.+pure.Goals as goal

pub comma_parts-parts-preserved : goal.comma_parts-parts-preserved
comma_parts-parts-preserved t c =
    let types = types_at c.args.site.now.tables.now in
    let names = names_at c.args.site.now in
    let later = λ (k : ℕ). raw_parts names (fate_of c.args.fate) (values_in types (drop k c.args.parts.now)) in
    ap (λ k. before c.push.new.self.items (later k)) (add-one c.parts.i)
    ∙ ap (λ xs. before xs (later (suc c.parts.i))) c.in_ok-push.ensures.items
    ∙ rows.before_more c.parts.all.items c.in_ok-raw.field-0 (later (suc c.parts.i))
    ∙ ap (before c.parts.all.items)
    (rows.part_before names types (fate_of c.args.fate) c.args.parts.now c.parts.i c.index-parts-i.result c.in_ok-raw.field-0
    (fate_of c.of_part-fate.result) c.parts-test.true
    (c.of_part-fate.ensures ∙ ap (λ k. part_fate (fate_of c.args.fate) (nat_eq k (length c.args.parts.now))) (add-one c.parts.i))
    (c.in_ok-raw.ensures ∙ ap (λ v. raw_of names (fate_of c.of_part-fate.result) (value_of types v)) c.index-parts-i.is))
    ∙ c.parts.invariant

pub comma_parts-returns : goal.comma_parts-returns
comma_parts-returns t c =
    let types = types_at c.args.site.now.tables.now in
    let names = names_at c.args.site.now in
    sym (rows.before_none c.parts.all.items)
    ∙ ap (λ xs. before c.parts.all.items (raw_parts names (fate_of c.args.fate) (values_in types xs)))
    (sym (rows.drop_over c.args.parts.now c.parts.i c.parts-test.false))
    ∙ c.parts.invariant

pub raw-returns-in_ok-all-in-Comma : goal.raw-returns-in_ok-all-in-Comma
raw-returns-in_ok-all-in-Comma t c =
    let types = types_at c.args.site.now.tables.now in
    let names = names_at c.args.site.now in
    rows.comma_is c.in_ok-all-in-Comma.all
    ∙ ap p.Comma (c.in_ok-all-in-Comma.ensures
    ∙ ap (λ f. raw_parts names f (values_in types c.as_slice.result.now)) c.of_last.ensures
    ∙ ap (λ xs. raw_parts names (of_last (fate_of c.args.fate)) (values_in types xs)) c.as_slice.ensures.value)
    ∙ sym (ap (raw_of names (fate_of c.args.fate)) (comma_is types c.in-Comma.field-0 c.in-Comma.all c.args.v.now c.in-Comma.is))
