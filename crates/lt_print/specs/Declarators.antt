-- A declarator's text from left to right: what stands before the name, the name, and what stands behind it.
use Rattle.std.specs.Prelude.{ℕ, Bool, true, false, ◌&&◌, [], ◌∷◌, ◌++◌, Some, None}
use Rattle.lt_tree.specs.declared.terminal.Terminal.TheVariants as t
use Rattle.lt_tree.specs.Tree as c
use Rattle.lt_tree.specs.Canon.{Pieces, sign, gap_if, word_if, in_parentheses, qualifiers_pieces, maybe, parameters}
use Rattle.lt_print.specs.Lists.{stands}

-- `*` with its qualifiers, and a space where such are there and something stands inside
abbrev pub star : c.Qualifiers → Bool → Pieces
star q inside = sign t.Star ∷ (qualifiers_pieces q ++ gap_if (stands (qualifiers_pieces q) && inside))

-- the innermost of these parts is an array or a function
abbrev pub is_suffixed : c.Parts → Bool
is_suffixed (c.Array length rest) = true
is_suffixed (c.Function ps rest) = true
is_suffixed _ = false

-- before the name, the outermost part first; a `*` directly under an array or a function opens parentheses
abbrev pub front : Bool → c.Parts → Pieces
front inside c.no_parts = []
front inside (c.Pointer q rest) = front true rest ++ (word_if (is_suffixed rest) t.OpenParen ++ star q inside)
front inside (c.Array length rest) = front true rest
front inside (c.Function ps rest) = front true rest

-- behind the name, the innermost part first; `pointer` says that a `*` stands directly inside
abbrev pub back : ℕ → Bool → c.Parts → Pieces
back n pointer c.no_parts = []
back n pointer (c.Pointer q rest) = back n true rest
back n pointer (c.Array length rest) = word_if pointer t.CloseParen ++ (sign t.OpenIndex ∷ (maybe n length ++ (sign t.CloseIndex ∷ back n false rest)))
back n pointer (c.Function ps rest) = word_if pointer t.CloseParen ++ (in_parentheses (parameters n ps) ++ back n false rest)

-- the innermost of these parts is a pointer
abbrev pub is_pointer : c.Parts → Bool
is_pointer (c.Pointer q rest) = true
is_pointer _ = false

-- a name or a part is there
abbrev pub is_written : c.Declarator → Bool
is_written (c.declarator (Some w) parts) = true
is_written (c.declarator None c.no_parts) = false
is_written (c.declarator None parts) = true
