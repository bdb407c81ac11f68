use Rattle.std.proofs.Common.{◌≡◌, ◌↔◌, ◌≤◌, take}
use Rattle.std.specs.Prelude.{IsTrue}
use Rattle.lt_lin.specs.Rows.{HasContradiction}
use Rattle.lt_lin.specs.Room.{places}
use Rattle.lt_lin.proofs.room.load.Given as goal

abbrev pub invariant-rows : goal.invariant-rows
invariant-rows l = record {
  known : l.desk.known.rows ≡ take l.row-index l.rows;
  told : IsTrue l.contradiction ↔ HasContradiction l.desk.known.rows;
  room : places l.desk.known.rows ≤ l.desk.limit;
  enough : places l.rows ≤ l.fn.desk.limit → l.desk.limit ≡ l.fn.desk.limit;
}
