-- The token at a place of a line, found from the bytes that stand there.
use Rattle.std.specs.Prelude.{ℕ, ◌+◌, Bool, cond, List, length, take, drop, Some, None, Option, ◌==◌, nat_lt, slice_index}
use Rattle.std.specs.Char.{is_ascii_digit}
use Rattle.std.specs.List.{prefix_len}
use Rattle.text.specs.declared.token.Symbol.{Symbol}
use Rattle.text.specs.Grammar.{Tok, number, fixed, ends, unknown}
use Rattle.text.specs.declared.token.Symbol.TheVariants.{Colon, Assign, Equals, Memory, Open, Close, Less, Greater, Semicolon, Sync}

-- how many digits stand at the front
abbrev pub digits : List ℕ → ℕ
digits bs = prefix_len is_ascii_digit bs

-- how many spaces stand at the front
abbrev pub spaces : List ℕ → ℕ
spaces bs = prefix_len (λ b. b == 32) bs

-- whether bs has b at the place i; no symbol has the byte 0, which is read past the end
abbrev pub has : List ℕ → ℕ → ℕ → Bool
has bs i b = slice_index bs i == b

-- the symbol at the front, `:=` before `:`
abbrev pub symbol_at : List ℕ → Option Symbol
symbol_at bs =
    cond (has bs 0 58) (cond (has bs 1 61) (Some Assign) (Some Colon))
    (cond (has bs 0 61) (cond (has bs 1 61) (Some Equals) None)
    (cond (has bs 0 77) (Some Memory)
    (cond (has bs 0 91) (Some Open)
    (cond (has bs 0 93) (Some Close)
    (cond (has bs 0 60) (Some Less)
    (cond (has bs 0 62) (Some Greater)
    (cond (has bs 0 59) (Some Semicolon)
    (cond (has bs 0 115) (cond (has bs 1 121) (cond (has bs 2 110) (cond (has bs 3 99) (Some Sync) None) None) None) None))))))))

-- how many bytes a symbol has
abbrev pub symbol_width : Symbol → ℕ
symbol_width Colon = 1
symbol_width Assign = 2
symbol_width Equals = 2
symbol_width Memory = 1
symbol_width Open = 1
symbol_width Close = 1
symbol_width Less = 1
symbol_width Greater = 1
symbol_width Semicolon = 1
symbol_width Sync = 4

-- the token of a symbol, where there is one
abbrev pub or_unknown : Option Symbol → Tok
or_unknown (Some s) = fixed s
or_unknown None = unknown

-- the token that the rest of a line begins with
abbrev pub token : List ℕ → Tok
token bs = cond (length bs == 0) ends (cond (nat_lt 0 (digits bs)) (number (take (digits bs) bs)) (or_unknown (symbol_at bs)))

-- how many bytes a token has
abbrev pub width : Tok → ℕ
width (number ds) = length ds
width (fixed s) = symbol_width s
width ends = 0
width unknown = 0

-- a place in a line: its number, the column, and the rest of the line from there on
pub record At : Type 0 where
  pub line : ℕ
  pub column : ℕ
  pub rest : List ℕ

-- n bytes on
abbrev pub on : ℕ → At → At
on n a = record { line = a.line; column = a.column + n; rest = drop n a.rest }

-- past the spaces
abbrev pub skipped : At → At
skipped a = on (spaces a.rest) a

-- the next token, which stands past the spaces
abbrev pub next_token : At → Tok
next_token a = token (skipped a).rest

-- past the next token
abbrev pub past : At → At
past a = on (width (next_token a)) (skipped a)
