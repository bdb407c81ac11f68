use Rattle.std.proofs.Common.{◌≡◌, ◌+◌, ◌-◌, ap, ◌∙◌, min, length, drop, arith, rules, tests}
use Rattle.lt_places.specs.Walks.{behind_parts}
use Rattle.lt_places.proofs.Wrappings.{behind_more, behind_end, one_fewer}
use Rattle.lt_places.proofs.walk.behind_parts.Goals as goal
use Rattle.lt_places.proofs.walk.behind_parts.Goals.{in-Some, in_default}

pub parts-preserved : goal.parts-preserved
parts-preserved c =
    let sites = c.args.sites.now in
    let n = c.args.count - (c.parts._part + 1) in
    let turn = one_fewer c.args.count c.parts._part c.parts-test.true in
    elim c.match-get.branch [
      | in-Some w ↦
          let end : c.match-get.end ≡ c.parts.end + min w.in-Some.site.now.size (length c.args.sites.now - c.parts.end) = omega (arith, w.end-is, w.min-end.ensures) in (
            omega (arith, end),
            omega (arith, end),
            ap (λ m. behind_parts n (drop m sites)) end ∙ behind_more n sites c.parts.end w.in-Some.site.now (search (rules, tests, w.in-Some.ensures.lookup.0)) w.in-Some.ensures.lookup.1 ∙ ap (λ m. behind_parts m (drop c.parts.end sites)) turn ∙ c.parts.invariant.2,
          )
      | in_default w ↦ (
        omega (arith, w.end-is),
        omega (arith, w.end-is),
        ap (λ m. behind_parts n (drop m sites)) w.end-is ∙ behind_end n sites c.parts.end (search (rules, tests, w.in_default.ensures.lookup.0)) ∙ ap (λ m. behind_parts m (drop c.parts.end sites)) turn ∙ c.parts.invariant.2,
      )
    ]
