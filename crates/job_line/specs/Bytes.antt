-- Bytes of a line: digits, names, and runs of them.
use Rattle.std.specs.Prelude.{ℕ, ◌+◌, ◌-◌, ◌*◌, ◌^◌, Bool, true, false, cond, ◌&&◌, ◌||◌, List, length, take, drop, ℤ, pos, neg_ℤ, Some, None, fold, Option, ◌==◌, nat_le, nat_lt, slice_index}
use Rattle.std.specs.List.{prefix_len}

-- a decimal digit
abbrev pub is_digit : ℕ → Bool
is_digit b = nat_le 48 b && nat_le b 57

-- a byte of a name: a digit or a small letter
abbrev pub is_name : ℕ → Bool
is_name b = is_digit b || (nat_le 97 b && nat_le b 122)

-- how many bytes in a row pass the test, from the place on
abbrev pub run_length : (ℕ → Bool) → List ℕ → ℕ → ℕ
run_length p line place = prefix_len p (drop place line)

-- those bytes
abbrev pub run_at : (ℕ → Bool) → List ℕ → ℕ → List ℕ
run_at p line place = take (prefix_len p (drop place line)) (drop place line)

-- the number that decimal digits write
abbrev pub value_of_digits : List ℕ → ℕ
value_of_digits ds = fold (λ n d. n * 10 + (d - 48)) 0 ds

-- whether this byte stands at the place
abbrev pub stands_at : ℕ → List ℕ → ℕ → Bool
stands_at b line place = nat_lt place (length line) && slice_index line place == b

-- a number, if 64 bits hold it: at most 2^64 - 1
abbrev pub fits64 : ℕ → Option ℕ
fits64 n = cond (nat_lt n (2 ^ 64)) (Some n) None

-- a number with or without a minus, if it is from -2^63 to 2^63 - 1
abbrev pub fits64_signed : Bool → ℕ → Option ℤ
fits64_signed true n = cond (nat_le n (2 ^ 63)) (Some (neg_ℤ (pos n))) None
fits64_signed false n = cond (nat_lt n (2 ^ 63)) (Some (pos n)) None
