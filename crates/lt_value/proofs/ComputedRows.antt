-- Rows of the table, computed.
use Rattle.std.proofs.Common.{◌≡◌, refl, pos, negsuc, ◌-◌, ◌^◌}
use lib.Count.{count_leading_zeros}
use Rattle.lt_value.specs.Entry.{entry_of, gcd_of}
use Rattle.lt_value.specs.Table.{sum_row, difference_row, product_row, remainder_row, left_shift_row, right_shift_row, mask_of}

even_and_three : sum_row (entry_of (pos 0) (pos 10) 2 (pos 0)) (entry_of (pos 3) (pos 3) 0 (pos 3)) ≡ entry_of (pos 3) (pos 13) 2 (pos 3)
unfolding gcd_of
even_and_three = refl

int_twice : product_row (entry_of (negsuc (2 ^ 31 - 1)) (pos (2 ^ 31 - 1)) 1 (pos 0)) (entry_of (pos 2) (pos 2) 0 (pos 2)) ≡ entry_of (negsuc (2 ^ 32 - 1)) (pos (2 ^ 32 - 2)) 2 (pos 0)
int_twice = refl

tens_by_five : remainder_row (entry_of (pos 3) (pos 93) 10 (pos 3)) (entry_of (pos 5) (pos 5) 0 (pos 5)) ≡ entry_of (pos 0) (pos 4) 5 (pos 3)
unfolding gcd_of
tens_by_five = refl

three_less_even : difference_row (entry_of (pos 3) (pos 3) 0 (pos 3)) (entry_of (pos 0) (pos 10) 2 (pos 0)) ≡ entry_of (negsuc 6) (pos 3) 2 (pos 3)
unfolding gcd_of
three_less_even = refl

shifted_up : left_shift_row (entry_of (pos 1) (pos 7) 3 (pos 1)) (entry_of (pos 2) (pos 2) 0 (pos 2)) ≡ entry_of (pos 4) (pos 28) 12 (pos 4)
shifted_up = refl

shifted_down : right_shift_row (entry_of (negsuc 8) (pos 20) 1 (pos 0)) (entry_of (pos 1) (pos 3) 1 (pos 0)) ≡ entry_of (negsuc 4) (pos 10) 1 (pos 0)
shifted_down = refl

five_has_three_bits : mask_of 5 ≡ 7
unfolding count_leading_zeros
five_has_three_bits = refl
