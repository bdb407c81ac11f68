-- String literals, C11 6.4.5, one character and one literal after the other.
use Rattle.std.specs.Prelude.{ℕ, ◌==◌, if◌then◌else◌, List, Option, Some, None, option_map}
use Rattle.lt_tree.specs.Strings.{is_plain, escape}
use Rattle.lt_expr.specs.Literals.{text_of}
use Rattle.lt_expr.specs.Front.{Reader, behind, first_value}

-- the byte that a byte and those behind it spell, and the bytes behind what spells it
abbrev pub character : ℕ → List ℕ → Option (ℕ × List ℕ)
character b bytes = if is_plain b then Some (b, bytes) else (if b == 92 then escape bytes else None)

-- STRING
abbrev pub literal_at : Reader (List ℕ)
literal_at r = option_map (λ w. (w, behind r)) (first_value r.0)

-- STRING+
abbrev pub text_at : Reader (List ℕ)
text_at r = option_map (λ x. (x.0, (x.1, r.1))) (text_of r.0)
