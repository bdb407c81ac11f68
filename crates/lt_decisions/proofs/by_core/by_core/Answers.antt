use Rattle.std.proofs.Common.{◌≡◌, sym, ap, ◌∙◌, ◌+◌, length, None, arith}
use Rattle.std.proofs.lemmas.List.{with_items_is}
use Rattle.lt_decisions.specs.Walk.{tests_of, noted_all}
use Rattle.lt_decisions.proofs.AllTests.{tests_behind, without_test, with_test, node_at, all_noted}
use Rattle.lt_decisions.proofs.by_core.by_core.Goals as goal
use Rattle.lt_decisions.proofs.by_core.by_core.Goals.{in-Some, in_default}

pub loop-number-preserved : goal.loop-number-preserved
loop-number-preserved c =
    let list = c.args.sites.now in
    let what = c.args.tests in
    let k = c.loop-number.number in
    elim c.match-first_of_test.branch [
      | in-Some w ↦
          let old = c.loop-number.found in
          let long : length w.note_tests.new.found ≡ length old.items = w.note_tests.auto.found ∙ ap length w.deref_mut.ensures.value in
          let made : c.match-first_of_test.found.items ≡ w.note_tests.new.found = ap (λ v. v.items) w.found-is ∙ with_items_is old w.note_tests.new.found (long ∙ sym old.ok.0) in (
            ap length made ∙ long ∙ c.loop-number.invariant.0,
            λ unit are.
                let node = node_at list unit k are c.loop-number-test.true in
                let test = w.in-Some.ensures unit node.0 are node.1 in
                with_test what unit k node.0 c.loop-number.found.items c.match-first_of_test.found.items _ list w.in-Some.first node.1 test
                (made ∙ w.note_tests.ensures test.test test.stands ∙ ap (λ it. noted_all it (tests_of what None w.in-Some.first test.test)) w.deref_mut.ensures.value)
                (c.loop-number.invariant.1 unit are),
          )
      | in_default w ↦ (
        ap (λ v. length v.items) w.found-is ∙ c.loop-number.invariant.0,
        λ unit are.
            let node = node_at list unit k are c.loop-number-test.true in
            ap (λ v. noted_all v.items (tests_behind what unit (k + 1))) w.found-is
            ∙ without_test what unit k node.0 c.loop-number.found.items _ node.1 (w.in_default.ensures unit node.0 are node.1) (c.loop-number.invariant.1 unit are),
      )
    ]

pub returns : goal.returns
returns c unit are =
    let end : length c.args.sites.now ≡ c.loop-number.number = omega arith in
    all_noted c.args.sites.now c.args.tests unit c.loop-number.found.items are
    (ap (λ k. noted_all c.loop-number.found.items (tests_behind c.args.tests unit k)) end ∙ c.loop-number.invariant.1 unit are)
