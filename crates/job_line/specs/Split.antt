-- The lines of a text.
use Rattle.std.specs.Prelude.{ℕ, ◌+◌, Bool, cond, not, List, [], ◌∷◌, drop, ◌==◌}
use Rattle.std.specs.List.{prefix_len}

-- a byte at the front of the first line
abbrev pub prepend : ℕ → List (List ℕ) → List (List ℕ)
prepend b [] = (b ∷ []) ∷ []
prepend b (line ∷ rest) = (b ∷ line) ∷ rest

-- the lines of a text: byte 10 ends a line, and the last may lack it
abbrev pub lines_of : List ℕ → List (List ℕ)
lines_of [] = []
lines_of (b ∷ bs) = cond (b == 10) ([] ∷ lines_of bs) (prepend b (lines_of bs))

-- a byte that stands inside a line
abbrev pub in_line : ℕ → Bool
in_line b = not (b == 10)

-- the first byte 10 at or after a place, or the text's length
abbrev pub line_end : List ℕ → ℕ → ℕ
line_end text from = from + prefix_len in_line (drop from text)
