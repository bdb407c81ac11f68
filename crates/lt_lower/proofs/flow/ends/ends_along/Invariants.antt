use Rattle.std.proofs.Common.{◌≡◌, ℕ, ◌+◌, ◌*◌, take, length, Some, slice_get}
use Rattle.lt_code.specs.Costs.{alone}
use Rattle.lt_emit.specs.Spending.{Spends}
use Rattle.lt_emit.specs.Emission.{Adds}
use Rattle.lt_lower.specs.declared.flow.Exits.{Exits as HeldExits}
use Rattle.lt_lower.specs.Stands.{HasExits, declared_along, EndsAlong}
use Rattle.lt_lower.proofs.flow.ends.ends_along.Given as goal

abbrev pub invariant-items : goal.invariant-items
invariant-items l =
    record {
      adds : Adds l.fn.b l.b (EndsAlong l.its l.all.items);
      spends : Spends (alone (5 * declared_along (take l.it-index l.its))) l.fn.b l.b;
      first : slice_get l.all.items 0 ≡ Some l.fn.x;
      last : slice_get l.all.items l.it-index ≡ Some l.inner;
      each : length l.all.items ≡ l.it-index + 1;
      unchanged : declared_along (take l.it-index l.its) ≡ 0 → l.inner ≡ l.fn.x;
      within : (k : ℕ) (y : HeldExits) → slice_get l.all.items k ≡ Some y → HasExits l.b y;
    }
