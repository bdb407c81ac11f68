-- Whole numbers of 128 signed bits: a sum or a product that fits, or none.
use Rattle.std.specs.Prelude.{ℤ, pos, negsuc, Bool, ◌&&◌, Option, Some, None, ◌-◌, ◌^◌, int_le, if◌then◌else◌}

abbrev pub fits : ℤ → Bool
fits z = int_le (negsuc (2 ^ 127 - 1)) z && int_le z (pos (2 ^ 127 - 1))

abbrev pub fitting : ℤ → Option ℤ
fitting z = if fits z then Some z else None
