use Rattle.std.proofs.Common.{ℕ, ◌≡◌, ◌+◌, ◌≤◌, length, vec_len}
use Rattle.std.specs.Vec.{vec_capacity}
use Rattle.lt_lin.proofs.Merging.{Merging}
use Rattle.lt_lin.proofs.adding.add_terms.Given as goal

abbrev pub invariant-terms : goal.invariant-terms
invariant-terms l = record {
  merging : (least : ℕ) × Merging l.sum l.by l.row l.left l.right l.next.items least;
  room : vec_len l.next + (length l.left + length l.right) ≤ length l.sum + length l.row;
  capacity : vec_capacity l.next ≡ vec_capacity l.initial.next;
}

abbrev pub decreases-terms : goal.decreases-terms
decreases-terms l = length l.left + length l.right
