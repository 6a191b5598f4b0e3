-- The places of readers and of lines, by the bytes that are left.
use Rattle.std.specs.Prelude.{◌≡◌, ℕ, ◌+◌, List, [], ◌∷◌, drop, Ok, Err, Result}
use Rattle.text.specs.declared.fault.Fault.{Fault}
use Rattle.text.specs.declared.reader.Lines.{Lines}
use Rattle.text.specs.declared.reader.Reader.{Reader}
use Rattle.text.specs.declared.token.Token.{Token}
use Rattle.text.specs.declared.token.Token.TheVariants.{Digits, Fixed, LineEnd, Unknown}
use Rattle.text.specs.Lines.{start_of}
use Rattle.text.specs.Texts.{lines_of}
use Rattle.text.specs.Tokens.{At}
use Rattle.text.specs.Grammar.{Tok, number, fixed, ends, unknown}

-- a token by its bytes
abbrev pub tok : Token → Tok
tok (Digits ds) = number ds.now
tok (Fixed s) = fixed s
tok LineEnd = ends
tok Unknown = unknown

-- the starts of lines, the first of them the line n
abbrev pub starts : ℕ → List (List ℕ) → List At
starts n [] = []
starts n (l ∷ ls) = start_of n l ∷ starts (n + 1) ls

-- the starts of the lines that are left
abbrev pub left : Lines → List At
left l = starts l.line (lines_of (drop l.place l.text.now))

-- the reader's place in its line
abbrev pub at : Reader → At
at r = record { line = r.line; column = r.column; rest = drop r.place r.text.now }

-- reading gives x: what it answers, and the place where it stands then
abbrev pub Gives : {X : Type 0} → Result (X × At) Fault → Result X Fault → At → Type 0
Gives x (Ok f) b = x ≡ Ok (f, b)
Gives x (Err e) b = x ≡ Err e
