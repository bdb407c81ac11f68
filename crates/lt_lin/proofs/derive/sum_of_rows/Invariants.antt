use Rattle.std.proofs.Common.{◌≡◌, ◌↔◌, ◌+◌, ◌≤◌, length, drop}
use Rattle.lt_lin.specs.declared.row.Row.{Row}
use Rattle.lt_lin.specs.Terms.{IsOrdered}
use Rattle.lt_lin.specs.Refutation.{IsSumOnto, IsCombination}
use Rattle.lt_lin.specs.Room.{terms_added}
use Rattle.lt_lin.proofs.derive.sum_of_rows.Given as goal

abbrev pub invariant-pairs : goal.invariant-pairs
invariant-pairs l = record {
  sum : (r : Row) → (IsSumOnto l.known.rows (record { terms = l.scratch.terms; constant = l.constant }) (drop l.row-index l.pairs) r ↔ IsCombination l.known.rows l.pairs r);
  ordered : IsOrdered l.scratch.terms;
  room : length l.scratch.terms + terms_added l.known.rows (drop l.row-index l.pairs) ≤ terms_added l.known.rows l.pairs;
  limit : l.scratch.limit ≡ l.fn.scratch.limit;
}
