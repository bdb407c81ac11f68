use Rattle.std.proofs.Common.{rules, ap, ◌≡◌, ◌+◌, true, false, List, ℕ}
use Rattle.std.proofs.lemmas.List.{map-append}
use Rattle.lt_entry.specs.Lines.{is_skipped}
use Rattle.lt_entry.proofs.RowsRead.{row_skipped, row_put}
use Rattle.lt_entry.proofs.row.rows_of.Goals as goal
use Rattle.lt_entry.proofs.row.rows_of.Goals.{then-not-is_skipped+in_ok-words_of+in_ok-push, else-not-is_skipped}

pub loop-i-preserved : goal.loop-i-preserved
loop-i-preserved c =
    let lines = c.as_slice-lines.result.now in
    let i = c.loop-i.i in
    let line = c.without_return-line.result.now in
    elim c.if-not-is_skipped.branch [
      | then-not-is_skipped+in_ok-words_of+in_ok-push w ↦
          let kept : is_skipped line ≡ false = search rules in
          rw (w.rows-is, w.in_ok-push.ensures.items, map-append)
          (row_put lines i _ _ line _ c.loop-i-test.true c.without_return-line.ensures kept (ap (λ (ws : List (List ℕ)). record { number = i + 1; words = ws }) w.in_ok-words_of.ensures) c.loop-i.invariant)
      | else-not-is_skipped w ↦
          let skipped : is_skipped line ≡ true = search rules in
          rw w.rows-is (row_skipped lines i _ _ line c.loop-i-test.true c.without_return-line.ensures skipped c.loop-i.invariant)
    ]
