-- What a map by ids has is there.
use Rattle.std.proofs.Common.{◌≡◌, ℕ, nat_eq, Bool, Option, Bor, ap, ◌∙◌}
use Rattle.std.specs.Prelude.{is_some}
use Rattle.std.specs.Option.{option_copied}
use Rattle.std.specs.HashMap.{HashMap, get}
use Rattle.lt_env.specs.NameMaps.{member}
use Rattle.lt_env.proofs.NameMaps.{some_copied, some_member}

pub id_is_there : {S : Type 0} (there : Bool) (m : HashMap ℕ (Unit {0}) S) (id : ℕ) (r : Option (Bor (Unit {0}))) → get nat_eq m id ≡ member there → option_copied r ≡ get nat_eq m id → is_some r ≡ there
id_is_there there m id r a e = some_copied r ∙ ap is_some (e ∙ a) ∙ some_member there
