-- What a type is made of, for arrays and for types with qualifiers.
use Rattle.std.proofs.Common.{◌≡◌, ℕ, zero, suc, ◌*◌, ◌^◌, ◌<◌, min, nat_lt, Bool, true, ◌&&◌, ◌||◌, sym, ap, ◌∙◌, arith}
use Rattle.std.proofs.lemmas.Bool.{lt-ltb}
use Rattle.std.proofs.Math.Nat.{mul_assoc, mul_comm, mul-zero, mul-pos}
use Rattle.lt_model.proofs.Counting.{capped_product}
use Rattle.lt_tree.specs.Tree.{Qualifiers}
use Rattle.lt_tree.specs.Typing.Types.{CType, Void, Num, Pointer, Array, Struct, Function, Floating, Qualified, qualifiers_of}
use Rattle.lt_tree.specs.Typing.Extents.{elements}
use Rattle.lt_table.specs.declared.table.kind.Kind.{Kind}
use Rattle.lt_table.specs.TableElements.{kind_is_complete, kind_cells, kind_is_constant, IsMadeOf}
use Rattle.lt_table.specs.TableRows.{TakesQualifiers}

pub one-mul : (n : ℕ) → 1 * n ≡ n
one-mul n = omega arith

pub count_array : (count n m : ℕ) → count ≡ min m (2 ^ 64) → min (min count (2 ^ 64) * n) (2 ^ 64) ≡ min (n * m) (2 ^ 64)
count_array count n m is = capped_product (2 ^ 64) count n ∙ ap (λ c. min (c * n) (2 ^ 64)) is ∙ capped_product (2 ^ 64) m n ∙ ap (λ p. min p (2 ^ 64)) (mul_comm m n)

positive : (n m : ℕ) (b : Bool) → (nat_lt 0 n && (nat_lt 0 m && b)) ≡ (nat_lt 0 (n * m) && b)
positive zero m b = let e : 0 * m ≡ 0 = omega arith in ap (λ p. nat_lt 0 p && b) (sym e)
positive (suc n) zero b =
    let left : nat_lt 0 (suc n) ≡ true = lt-ltb 0 (suc n) (omega arith) in
    ap (λ c. c && (nat_lt 0 0 && b)) left ∙ ap (λ p. nat_lt 0 p && b) (sym (mul-zero (suc n)))
positive (suc n) (suc m) b =
    let some : 0 < suc n * suc m = mul-pos (omega arith) (omega arith) in
    let left : nat_lt 0 (suc n) ≡ true = lt-ltb 0 (suc n) (omega arith) in
    let right : nat_lt 0 (suc m) ≡ true = lt-ltb 0 (suc m) (omega arith) in
    ap (λ c. c && (nat_lt 0 (suc m) && b)) left ∙ ap (λ c. c && b) right ∙ sym (ap (λ c. c && b) (lt-ltb 0 (suc n * suc m) some))

pub made_array : (k : Kind) (constant : Bool) (t : CType) (n : ℕ) → IsMadeOf k constant t → IsMadeOf k constant (Array t n)
made_array k constant t n h = record {
  complete = λ structs. ap (λ b. nat_lt 0 n && b) (h.complete structs) ∙ positive n (elements t) (kind_is_complete structs k);
  incomplete = h.incomplete;
  floating = h.floating;
  cells = λ known. ap (λ x. n * x) (h.cells known) ∙ sym (mul_assoc n (elements t) (kind_cells known k));
  extent = h.extent;
  parts = h.parts;
}

pub made_qualified : (k : Kind) (constant : Bool) (q : Qualifiers) (t : CType) → TakesQualifiers t → (qualifiers_of t).constant ≡ constant → IsMadeOf k constant t
    → IsMadeOf k q.constant (Qualified q t)
made_qualified k constant q (Array t n) takes is h = absurd takes
made_qualified k constant q (Function t ts dots) takes is h = absurd takes
made_qualified k constant q (Qualified p t) takes is h = absurd takes
made_qualified k constant q Void takes is h = record { complete = h.complete; incomplete = h.incomplete; floating = h.floating; cells = h.cells; extent = h.extent; parts = λ known. ap (λ b. q.constant || b) (h.parts known ∙ ap (λ c. c || kind_is_constant known k) (sym is)) }
made_qualified k constant q (Num s) takes is h = record { complete = h.complete; incomplete = h.incomplete; floating = h.floating; cells = h.cells; extent = h.extent; parts = λ known. ap (λ b. q.constant || b) (h.parts known ∙ ap (λ c. c || kind_is_constant known k) (sym is)) }
made_qualified k constant q (Pointer t) takes is h = record { complete = h.complete; incomplete = h.incomplete; floating = h.floating; cells = h.cells; extent = h.extent; parts = λ known. ap (λ b. q.constant || b) (h.parts known ∙ ap (λ c. c || kind_is_constant known k) (sym is)) }
made_qualified k constant q (Struct j) takes is h = record { complete = h.complete; incomplete = h.incomplete; floating = h.floating; cells = h.cells; extent = h.extent; parts = λ known. ap (λ b. q.constant || b) (h.parts known ∙ ap (λ c. c || kind_is_constant known k) (sym is)) }
made_qualified k constant q Floating takes is h = record { complete = h.complete; incomplete = h.incomplete; floating = h.floating; cells = h.cells; extent = h.extent; parts = λ known. ap (λ b. q.constant || b) (h.parts known ∙ ap (λ c. c || kind_is_constant known k) (sym is)) }
