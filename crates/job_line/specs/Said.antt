-- What a token and a line say, in the words of the grammar.
use Rattle.std.specs.Prelude.{ℕ, List, [], ◌∷◌, Ok, Err, Result}
use Rattle.job_line.specs.Grammar.{Said, a_word, a_number, a_signed}
use Rattle.job_line.specs.declared.tokens.Token.{Token}
use Rattle.job_line.specs.declared.tokens.Token.TheVariants.{Word, Number, Signed}
use Rattle.job_line.specs.declared.lines.Line.{Line}
use Rattle.job_line.specs.declared.lines.Line.TheVariants.{Add, Strike, Part, ReadOut, Release}
use Rattle.job_line.specs.declared.malformed.Malformed.{Malformed}

-- what a token says
abbrev pub token_says : Token → Said
token_says (Word w) = a_word w.now
token_says (Number n) = a_number n
token_says (Signed x) = a_signed x

-- what a line says: its letter, and what its fields say
abbrev pub line_says : Line → ℕ × List Said
line_says (Add x) = (65, a_signed x ∷ [])
line_says Strike = (83, [])
line_says (Part name m j) = (80, a_word name.now ∷ a_number m ∷ a_number j ∷ [])
line_says (ReadOut name m) = (86, a_word name.now ∷ a_number m ∷ [])
line_says Release = (82, [])

-- a reader's answer and the place after it, in what it says
abbrev pub told : {A B : Type 0} → (A → B) → Result A Malformed → ℕ → Result (B × ℕ) ℕ
told says (Ok x) after = Ok (says x, after)
told says (Err refusal) after = Err refusal.place

-- the answer of the whole line, in what it says
abbrev pub told_line : Result Line Malformed → Result (ℕ × List Said) ℕ
told_line (Ok line) = Ok (line_says line)
told_line (Err refusal) = Err refusal.place
