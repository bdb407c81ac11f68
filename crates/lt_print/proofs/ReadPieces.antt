-- Pieces as symbols of the grammar, at whatever places.
use Rattle.std.specs.Prelude.{◌≡◌, ℕ, refl, List, [], ◌∷◌, ◌++◌}
use Rattle.lt_tree.specs.declared.terminal.Terminal.{Terminal}
use Rattle.lt_tree.specs.declared.terminal.Terminal.TheVariants as k
use Rattle.lt_tree.specs.Symbols as s
use Rattle.lt_tree.specs.Symbols.{Symbol}
use Rattle.lt_tree.specs.Grammar.{IsLiteral}
use Rattle.lt_tree.specs.Pieces as p
use Rattle.lt_tree.specs.Pieces.{Piece, word, gap, indent, line_end, quoted}
use Rattle.lt_tree.specs.Canon.{Pieces, sign, comma_gap, apart}

-- The words among the pieces are these symbols, up to the rest, and strings are read back.
pub data Reads : (pieces : Pieces) → (ts rest : List Symbol) → Type 0 where
  done : {ts : List Symbol} → Reads [] ts ts
  a_name : {w : List ℕ} {at : ℕ} {ps : Pieces} {ts rest : List Symbol} → Reads ps ts rest → Reads (word (p.name w) ∷ ps) (s.name w at ∷ ts) rest
  a_constant : {w : List ℕ} {at : ℕ} {ps : Pieces} {ts rest : List Symbol} → Reads ps ts rest → Reads (word (p.constant w) ∷ ps) (s.constant w at ∷ ts) rest
  a_literal : {bytes : List ℕ} {at : ℕ} {ps : Pieces} {ts rest : List Symbol}
      → IsLiteral (quoted bytes) bytes → Reads ps ts rest → Reads (word (p.literal bytes) ∷ ps) (s.literal (quoted bytes) at ∷ ts) rest
  a_sign : {k : Terminal} {at : ℕ} {ps : Pieces} {ts rest : List Symbol} → Reads ps ts rest → Reads (word (p.sign k) ∷ ps) (s.sign k at ∷ ts) rest
  a_gap : {ps : Pieces} {ts rest : List Symbol} → Reads ps ts rest → Reads (gap ∷ ps) ts rest
  an_indent : {n : ℕ} {ps : Pieces} {ts rest : List Symbol} → Reads ps ts rest → Reads (indent n ∷ ps) ts rest
  a_line_end : {ps : Pieces} {ts rest : List Symbol} → Reads ps ts rest → Reads (line_end ∷ ps) ts rest

-- what is read of two parts in a row
pub record Parted (a b : Pieces) (ts rest : List Symbol) : Type 0 where
  pub between : List Symbol
  pub front : Reads a ts between
  pub back : Reads b between rest

pub parted : (a b : Pieces) {ts rest : List Symbol} → Reads (a ++ b) ts rest → Parted a b ts rest
parted [] b r = record { between = _; front = done; back = r }
parted (_ ∷ a) b (a_name r) = let q = parted a b r in record { between = q.between; front = a_name q.front; back = q.back }
parted (_ ∷ a) b (a_constant r) = let q = parted a b r in record { between = q.between; front = a_constant q.front; back = q.back }
parted (_ ∷ a) b (a_literal is r) = let q = parted a b r in record { between = q.between; front = a_literal is q.front; back = q.back }
parted (_ ∷ a) b (a_sign r) = let q = parted a b r in record { between = q.between; front = a_sign q.front; back = q.back }
parted (_ ∷ a) b (a_gap r) = let q = parted a b r in record { between = q.between; front = a_gap q.front; back = q.back }
parted (_ ∷ a) b (an_indent r) = let q = parted a b r in record { between = q.between; front = an_indent q.front; back = q.back }
parted (_ ∷ a) b (a_line_end r) = let q = parted a b r in record { between = q.between; front = a_line_end q.front; back = q.back }

-- what is read up to a sign, and behind it
pub record Split (a : Pieces) (x : Terminal) (b : Pieces) (ts rest : List Symbol) : Type 0 where
  pub at : ℕ
  pub between : List Symbol
  pub front : Reads a ts (s.sign x at ∷ between)
  pub back : Reads b between rest

split_at : {a : Pieces} {x : Terminal} {b : Pieces} {ts between rest : List Symbol} → Reads a ts between → Reads (sign x ∷ b) between rest → Split a x b ts rest
split_at front (a_sign back) = record { at = _; between = _; front = front; back = back }

pub split : (a : Pieces) (x : Terminal) (b : Pieces) {ts rest : List Symbol} → Reads (a ++ sign x ∷ b) ts rest → Split a x b ts rest
split a x b r = let q = parted a (sign x ∷ b) r in split_at q.front q.back

comma_at : {a b : Pieces} {ts between past rest : List Symbol} → Reads a ts between → Reads comma_gap between past → Reads b past rest → Split a k.Comma b ts rest
comma_at front (a_sign (a_gap done)) back = record { at = _; between = _; front = front; back = back }

-- and up to a comma
pub split_comma : (a b : Pieces) {ts rest : List Symbol} → Reads (a ++ comma_gap ++ b) ts rest → Split a k.Comma b ts rest
split_comma a b r = let q = parted (a ++ comma_gap) b r in let p = parted a comma_gap q.front in comma_at p.front p.back q.back

pub off_gap : {ps : Pieces} {ts rest : List Symbol} → Reads (gap ∷ ps) ts rest → Reads ps ts rest
off_gap (a_gap r) = r

pub off_indent : {n : ℕ} {ps : Pieces} {ts rest : List Symbol} → Reads (indent n ∷ ps) ts rest → Reads ps ts rest
off_indent (an_indent r) = r

pub off_line_end : {ps : Pieces} {ts rest : List Symbol} → Reads (line_end ∷ ps) ts rest → Reads ps ts rest
off_line_end (a_line_end r) = r

pub nothing_read : {ts rest : List Symbol} → Reads [] ts rest → ts ≡ rest
nothing_read done = refl

-- what is read in parentheses
pub record Inside (a : Pieces) (ts rest : List Symbol) : Type 0 where
  pub end : ℕ
  pub front : Reads a ts (s.sign k.CloseParen end ∷ rest)

closed : {a : Pieces} {ts between rest : List Symbol} → Reads a ts between → Reads (sign k.CloseParen ∷ []) between rest → Inside a ts rest
closed front (a_sign done) = record { end = _; front = front }

pub inside : (a : Pieces) {ts rest : List Symbol} → Reads (a ++ sign k.CloseParen ∷ []) ts rest → Inside a ts rest
inside a r = let q = parted a (sign k.CloseParen ∷ []) r in closed q.front q.back

apart_gap : {a b : Pieces} {ts between rest : List Symbol} → Reads a ts between → Reads (gap ∷ b) between rest → Parted a b ts rest
apart_gap front (a_gap back) = record { between = _; front = front; back = back }

-- and of two parts with a space between what isn't empty
pub parted_apart : (a b : Pieces) {ts rest : List Symbol} → Reads (apart a b) ts rest → Parted a b ts rest
parted_apart a [] r = record { between = _; front = r; back = done }
parted_apart [] (x ∷ b) r = record { between = _; front = done; back = r }
parted_apart (y ∷ a) (x ∷ b) r = let q = parted (y ∷ a) (gap ∷ x ∷ b) r in apart_gap q.front q.back

-- What may stand behind a declarator: a closing parenthesis, a comma, `;`, `=`, `:` or an opening brace.
pub data Ends : (rest : List Symbol) → Type 0 where
  by_parenthesis : {at : ℕ} {ts : List Symbol} → Ends (s.sign k.CloseParen at ∷ ts)
  by_comma : {at : ℕ} {ts : List Symbol} → Ends (s.sign k.Comma at ∷ ts)
  by_semicolon : {at : ℕ} {ts : List Symbol} → Ends (s.sign k.Semicolon at ∷ ts)
  by_equal : {at : ℕ} {ts : List Symbol} → Ends (s.sign k.Equal at ∷ ts)
  by_colon : {at : ℕ} {ts : List Symbol} → Ends (s.sign k.Colon at ∷ ts)
  by_brace : {at : ℕ} {ts : List Symbol} → Ends (s.sign k.OpenBrace at ∷ ts)
