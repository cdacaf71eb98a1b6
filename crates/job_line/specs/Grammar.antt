-- The grammar of a job line: a letter and fields, with single spaces between.
use Rattle.std.specs.Prelude.{ℕ, ◌+◌, Bool, cond, List, [], ◌∷◌, length, ℤ, Some, None, Ok, Err, Option, Result, ◌==◌, nat_lt, slice_index}
use Rattle.job_line.specs.Bytes.{is_digit, is_name, run_length, run_at, value_of_digits, stands_at, fits64, fits64_signed}
use Rattle.job_line.specs.declared.tokens.Field.{Field}
use Rattle.job_line.specs.declared.tokens.Field.TheVariants.{Sample, Number, Name}

-- what a field says
pub data Said : Type 0 where
  a_word : List ℕ → Said
  a_number : ℕ → Said
  a_signed : ℤ → Said

-- the kinds of line: a letter, and the fields that follow it, each after one space
--   A sample | S | P name number number | V name number | R
abbrev pub rows : List (ℕ × List Field)
rows =
    (65, Sample ∷ []) ∷
    (83, []) ∷
    (80, Name ∷ Number ∷ Number ∷ []) ∷
    (86, Name ∷ Number ∷ []) ∷
    (82, []) ∷
    []

-- the fields of a letter
abbrev pub fields_of : ℕ → List (ℕ × List Field) → Option (List Field)
fields_of letter [] = None
fields_of letter (row ∷ rest) = cond (letter == row.0) (Some row.1) (fields_of letter rest)

-- the answer, or else the first refusal
abbrev pub then_read : {A B : Type 0} → Result A ℕ → (A → Result B ℕ) → Result B ℕ
then_read (Ok x) next = next x
then_read (Err place) next = Err place

-- one or more digits: their number, and the place after them
abbrev pub digits_at : List ℕ → ℕ → Result (ℕ × ℕ) ℕ
digits_at line place =
    cond (run_length is_digit line place == 0) (Err place)
    (Ok (value_of_digits (run_at is_digit line place), place + run_length is_digit line place))

-- a number that is fits64 says something; one too large is refused at its first byte
abbrev pub says_held : {A : Type 0} → (A → Said) → Option A → ℕ → ℕ → Result (Said × ℕ) ℕ
says_held says (Some x) first after = Ok (says x, after)
says_held says None first after = Err first

-- a sample, with or without a minus as its first byte
abbrev pub sample_at : Bool → List ℕ → ℕ → Result (Said × ℕ) ℕ
sample_at minus line place =
    then_read (digits_at line (cond minus (place + 1) place))
    (λ n. says_held a_signed (fits64_signed minus n.0) place n.1)

-- what a field with its first byte at the place says, and the place after it; or the place of the refusal
abbrev pub field_at : Field → List ℕ → ℕ → Result (Said × ℕ) ℕ
field_at Sample line place = sample_at (stands_at 45 line place) line place
field_at Number line place = then_read (digits_at line place) (λ n. says_held a_number (fits64 n.0) place n.1)
field_at Name line place =
    cond (run_length is_name line place == 0) (Err place)
    (Ok (a_word (run_at is_name line place), place + run_length is_name line place))

-- a space, and the place after it
abbrev pub space_at : List ℕ → ℕ → Result ℕ ℕ
space_at line place = cond (stands_at 32 line place) (Ok (place + 1)) (Err place)

-- a space and a field
abbrev pub next_at : Field → List ℕ → ℕ → Result (Said × ℕ) ℕ
next_at field line place = then_read (space_at line place) (field_at field line)

-- the line ends at the place
abbrev pub end_at : List ℕ → ℕ → Result (Unit {0}) ℕ
end_at line place = cond (nat_lt place (length line)) (Err place) (Ok tt)

-- what the fields from the place on say, with nothing after them
abbrev pub fields_at : List Field → List ℕ → ℕ → Result (List Said) ℕ
fields_at [] line place = then_read (end_at line place) (λ _. Ok [])
fields_at (field ∷ rest) line place =
    then_read (next_at field line place) (λ one. then_read (fields_at rest line one.1) (λ more. Ok (one.0 ∷ more)))

-- a line of a letter with these fields
abbrev pub kind_at : ℕ → Option (List Field) → List ℕ → Result (ℕ × List Said) ℕ
kind_at letter None line = Err 0
kind_at letter (Some fields) line = then_read (fields_at fields line 1) (λ said. Ok (letter, said))

-- the letter of a formed line and what its fields say, or the place where it is refused
abbrev pub line_of : List ℕ → Result (ℕ × List Said) ℕ
line_of line =
    cond (length line == 0) (Err 0) (kind_at (slice_index line 0) (fields_of (slice_index line 0) rows) line)
