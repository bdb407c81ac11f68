-- Ids as they are written: none passes the greatest that a label can have.
use Rattle.std.proofs.Common.{◌≡◌, refl, subst, ℕ, List, Bool, true, false, Option, Some, None}
use Rattle.std.proofs.lemmas.Bool.{and_parts}
use Rattle.std.specs.Prelude.{ℤ, pos, negsuc, nat_le, ◌&&◌, if◌then◌else◌}
use Rattle.lt_tree.specs.Constants.{value_of}
use Rattle.lt_tree.specs.Typing.Entities.{greatest_label_id}
use Rattle.lt_tree.specs.Typing.MarkRules.{id_from, id_of}

number_small : (k n : ℕ) (b : Bool) → (nat_le 1 k && nat_le k greatest_label_id) ≡ b → (if b then Some k else None) ≡ Some n → nat_le n greatest_label_id ≡ true
number_small k n true is e = subst (λ i. nat_le i greatest_label_id ≡ true) (number e) (and_parts (nat_le 1 k) (nat_le k greatest_label_id) is).1
  where
    number : Some k ≡ Some n → k ≡ n
    number e = cc
number_small k n false is e = absurd cc

value_small : (value : Option ℤ) (n : ℕ) → id_from value ≡ Some n → nat_le n greatest_label_id ≡ true
value_small None n e = absurd cc
value_small (Some (negsuc k)) n e = absurd cc
value_small (Some (pos k)) n e = number_small k n (nat_le 1 k && nat_le k greatest_label_id) refl e

pub id_small : (text : List ℕ) (n : ℕ) → id_of text ≡ Some n → nat_le n greatest_label_id ≡ true
id_small text n e = value_small (value_of text) n e

-- ---- conditions of marks, where more ids are good

pub third_more : (x y a b p : Bool) → (a ≡ true → b ≡ true) → (x && y && a && p) ≡ true → (x && y && b && p) ≡ true
third_more false y a b p f h = absurd cc
third_more true false a b p f h = absurd cc
third_more true true false b p f h = absurd cc
third_more true true true b p f h = rw (f refl) h

pub fourth_more : (x y z a b p q r : Bool) → (a ≡ true → b ≡ true) → (x && y && z && a && p && q && r) ≡ true → (x && y && z && b && p && q && r) ≡ true
fourth_more false y z a b p q r f h = absurd cc
fourth_more true false z a b p q r f h = absurd cc
fourth_more true true false a b p q r f h = absurd cc
fourth_more true true true false b p q r f h = absurd cc
fourth_more true true true true b p q r f h = rw (f refl) h

pub fourth_and_fifth_more : (x y z a b c d p q : Bool) → (a ≡ true → c ≡ true) → (b ≡ true → d ≡ true) → (x && y && z && a && b && p && q) ≡ true → (x && y && z && c && d && p && q) ≡ true
fourth_and_fifth_more false y z a b c d p q f g h = absurd cc
fourth_and_fifth_more true false z a b c d p q f g h = absurd cc
fourth_and_fifth_more true true false a b c d p q f g h = absurd cc
fourth_and_fifth_more true true true false b c d p q f g h = absurd cc
fourth_and_fifth_more true true true true false c d p q f g h = absurd cc
fourth_and_fifth_more true true true true true c d p q f g h = rw (f refl) (rw (g refl) h)
