-- The parts of a comma expression, the last first.
use Rattle.std.proofs.Common.{◌≡◌, ℕ, zero, suc, ◌+◌, ◌<◌, ◌≤◌, Bool, true, false, List, [], ◌∷◌, length, drop, nat_eq, refl, sym, subst, arith}
use Rattle.std.proofs.Math.Dec.{eqb-zero-suc, eqb-suc-suc}
use Rattle.lt_tree.specs.declared.typed.tree.Value.{Value}
use Rattle.lt_tree.specs.Typing.Types.{CType}
use Rattle.lt_tree.specs.Typing.TypedTree as e
use Rattle.lt_tree.specs.Typing.ValueView.{values_in}
use Rattle.lt_meaning.specs.Expressions.{Fate, of_last}
use Rattle.lt_model.specs.declared.cell.Content.TheVariants as content
use Rattle.lt_code.specs.Pieces.{Piece, ◌▸◌}
use Rattle.lt_code.specs.Code.{Site, value_code, parts_of, up_to, constant}
use Rattle.lt_tree.specs.Typing.Types.{Void}
use Rattle.lt_emit.specs.Fate.{part_fate}
use Rattle.lt_emit.specs.Connecting.{behind_part, parts_from}

-- whether no parts are left
abbrev pub has_none : e.Values → Bool
has_none e.no_values = true
has_none (e.a_value v vs) = false

pub last_is : (types : List CType) (parts : List Value) (k : ℕ) → k ≤ length parts
    → nat_eq k (length parts) ≡ has_none (values_in types (drop k parts))
last_is types [] zero le = refl
last_is types [] (suc k) le = absurd (omega (arith, le))
last_is types (v ∷ parts) zero le = eqb-zero-suc (length parts)
last_is types (v ∷ parts) (suc k) le = subst (λ b. b ≡ has_none (values_in types (drop k parts))) (sym (eqb-suc-suc k (length parts))) (last_is types parts k (omega (arith, le)))

parts_use : (s : Site) (fate : Fate) (first : ℕ → Piece) (vs : e.Values) (r from to : ℕ) → parts_of s fate first vs r from to → r + 1 < s.registers
parts_use s fate first e.no_values r from to code = code.0
parts_use s fate first (e.a_value v vs) r from to code = code.0

-- a part in front of those behind it
part_before :
    (s : Site) (fate : Fate) (v : e.Value) (vs : e.Values) (r from m to : ℕ)
    → (value_code s (part_fate fate (has_none vs)) v (r + 1) ▸ behind_part s (has_none vs) r) from m
    → parts_from s fate vs r m to → parts_from s fate (e.a_value v vs) r from to
part_before s fate v e.no_values r from m to part rest =
    let At : ℕ → Type 0 = λ n. parts_from s fate (e.a_value v e.no_values) r from n in
    subst At rest (part.2.0, (_, part.1, part.2.1))
part_before s fate v (e.a_value w ws) r from m to part rest =
    (parts_use s fate _ ws r m to rest, (_, part.1, (_, part.2.1, (_, part.2.2, rest))))

pub part_stands :
    (s : Site) (fate : Fate) (is_last : Bool) (v : e.Value) (vs : e.Values) (r from m to : ℕ) → is_last ≡ has_none vs
    → (value_code s (part_fate fate is_last) v (r + 1) ▸ behind_part s is_last r) from m
    → parts_from s fate vs r m to → parts_from s fate (e.a_value v vs) r from to
part_stands s fate is_last v vs r from m to is part rest =
    let Is : Bool → Type 0 = λ b. (value_code s (part_fate fate b) v (r + 1) ▸ behind_part s b r) from m in
    part_before s fate v vs r from m to (subst Is is part) rest

-- all of them
pub comma_stands :
    (s : Site) (fate : Fate) (vs : e.Values) (r from m to : ℕ) → up_to s r (constant s r content.Unset) from m
    → parts_from s (of_last fate) vs r m to → value_code s fate (e.Comma Void vs) r from to
comma_stands s fate e.no_values r from m to first rest =
    let At : ℕ → Type 0 = λ n. up_to s r (constant s r content.Unset) from n in subst At rest first
comma_stands s fate (e.a_value v vs) r from m to first rest = (first.0, (m, first.1, rest))
