-- What the readers of a line do: they begin at b, answer r, and leave a.
use Rattle.std.specs.Prelude.{◌≡◌, ℕ, ◌+◌, cond, List, length, take, drop, Ok, Err, Result, OnErr, ◌==◌, nat_lt, slice_index}
use Rattle.job_line.specs.declared.fields.Fields.{Fields}
use Rattle.job_line.specs.declared.malformed.Malformed.{Malformed}
use Rattle.job_line.specs.Said.{told}

-- what is read, and the place after it, or the refusal, are those of the grammar; the line stays
abbrev pub Reads : {A B : Type 0} → (A → B) → Result (B × ℕ) ℕ → Fields → Result A Malformed → Fields → Type 0
Reads says read b r a = (told says r a.place ≡ read) × (a.line ≡ b.line)

-- and a refusal leaves the place where it was
abbrev pub Takes : {A B : Type 0} → (A → B) → Result (B × ℕ) ℕ → Fields → Result A Malformed → Fields → Type 0
Takes says read b r a = Reads says read b r a × OnErr r (a.place ≡ b.place)

-- the byte at a place, and so many bytes from a place on, of which there has to be one
abbrev pub byte_at : List ℕ → ℕ → Result (ℕ × ℕ) ℕ
byte_at line place = cond (nat_lt place (length line)) (Ok (slice_index line place, place + 1)) (Err place)

abbrev pub bytes_at : ℕ → List ℕ → ℕ → Result (List ℕ × ℕ) ℕ
bytes_at count line place = cond (count == 0) (Err place) (Ok (take count (drop place line), place + count))
