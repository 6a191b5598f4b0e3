-- What a line states, or its first fault, token by token.
use Rattle.std.specs.Prelude.{ℕ, ◌^◌, Bool, true, false, cond, List, [], ◌∷◌, Some, None, Ok, Err, Option, Result, ◌==◌, nat_lt}
use Rattle.traces.specs.declared.entry.Instruction.{Instruction}
use Rattle.traces.specs.declared.entry.Kind.{Kind}
use Rattle.traces.specs.declared.entry.Kind.TheVariants.{Load, Store, Swap, Sync as SyncKind}
use Rattle.traces.specs.Adding.{and_then, same_address}
use Rattle.traces.specs.Kinds.{address, instruction}
use Rattle.text.specs.declared.token.Symbol.{Symbol}
use Rattle.text.specs.declared.token.Symbol.TheVariants.{Colon, Assign, Equals, Memory, Open, Close, Less, Greater, Semicolon, Sync}
use Rattle.text.specs.declared.statement.Part.{Part}
use Rattle.text.specs.declared.statement.Part.TheVariants.{Thread, Address, SameAddress, Read, Written, Fixed, LineEnd}
use Rattle.text.specs.declared.statement.Fields.{Fields}
use Rattle.text.specs.declared.statement.Statement.{Statement}
use Rattle.text.specs.declared.fault.Cause.{Cause}
use Rattle.text.specs.declared.fault.Cause.TheVariants.{Misfit, TooLarge, OtherAddress}
use Rattle.text.specs.declared.fault.Fault.{Fault}
use Rattle.text.specs.Tokens.{At, skipped, next_token, past}
use Rattle.text.specs.Grammar.{denoted, Tok, number, fixed, ends, unknown}

-- the number that digits denote, where it fits in 64 bits
abbrev pub value_of : List ℕ → Option ℕ
value_of ds = cond (nat_lt (denoted 0 ds) (2 ^ 64)) (Some (denoted 0 ds)) None

-- the number, or the cause of a number that is too large
abbrev pub or_too_large : Option ℕ → Result ℕ Cause
or_too_large (Some n) = Ok n
or_too_large None = Err TooLarge

-- the number of a token, or why it is none
abbrev pub number_in : Tok → Result ℕ Cause
number_in (number ds) = or_too_large (value_of ds)
number_in (fixed s) = Err Misfit
number_in ends = Err Misfit
number_in unknown = Err Misfit

-- symbols are told apart by a number for each
abbrev pub code : Symbol → ℕ
code Colon = 0
code Assign = 1
code Equals = 2
code Memory = 3
code Open = 4
code Close = 5
code Less = 6
code Greater = 7
code Semicolon = 8
code Sync = 9

-- whether a token is the symbol s
abbrev pub is_symbol : Symbol → Tok → Bool
is_symbol s (fixed u) = code u == code s
is_symbol s (number ds) = false
is_symbol s ends = false
is_symbol s unknown = false

-- whether a token is the line's end
abbrev pub is_end : Tok → Bool
is_end (fixed s) = false
is_end (number ds) = false
is_end ends = true
is_end unknown = false

-- the fields once the number n, at column c, stands where a part wants one
abbrev pub put : Part → Fields → ℕ → ℕ → Result Fields Cause
put Thread f c n = Ok (record { thread = n; thread_column = c; address = f.address; address_column = f.address_column; read = f.read; written = f.written })
put Address f c n = Ok (record { thread = f.thread; thread_column = f.thread_column; address = address n; address_column = c; read = f.read; written = f.written })
put SameAddress f c n = cond (same_address (address n) f.address) (Ok f) (Err OtherAddress)
put Read f c n = Ok (record { thread = f.thread; thread_column = f.thread_column; address = f.address; address_column = f.address_column; read = n; written = f.written })
put Written f c n = Ok (record { thread = f.thread; thread_column = f.thread_column; address = f.address; address_column = f.address_column; read = f.read; written = n })
put (Fixed s) f c n = Ok f
put LineEnd f c n = Ok f

-- the fields once the token t, at column c, stands where a part is wanted, or why it does not fit
abbrev pub accepted : Part → Fields → ℕ → Tok → Result Fields Cause
accepted (Fixed s) f c t = cond (is_symbol s t) (Ok f) (Err Misfit)
accepted LineEnd f c t = cond (is_end t) (Ok f) (Err Misfit)
accepted Thread f c t = and_then (number_in t) (put Thread f c)
accepted Address f c t = and_then (number_in t) (put Address f c)
accepted SameAddress f c t = and_then (number_in t) (put SameAddress f c)
accepted Read f c t = and_then (number_in t) (put Read f c)
accepted Written f c t = and_then (number_in t) (put Written f c)

-- a fault at a place
abbrev pub fault_at : At → Cause → Fault
fault_at a e = record { cause = e; line = a.line; column = a.column }

-- a cause becomes a fault at a place
abbrev pub placed : {A : Type 0} → At → Result A Cause → Result A Fault
placed a (Ok x) = Ok x
placed a (Err e) = Err (fault_at a e)

-- parts of a line from a place on, one token each
unfoldable pub parts : List Part → Fields → At → Result (Fields × At) Fault
parts [] f a = Ok (f, a)
parts (p ∷ ps) f a = and_then (placed (skipped a) (accepted p f (skipped a).column (next_token a))) (λ g. parts ps g (past a))

-- what stands before the body
abbrev pub thread_parts : List Part
thread_parts = Thread ∷ Fixed Colon ∷ []

-- the address of a load or a store, behind its `M`
abbrev pub cell_parts : List Part
cell_parts = Fixed Open ∷ Address ∷ Fixed Close ∷ []

-- a load behind its `==`
abbrev pub load_parts : List Part
load_parts = Read ∷ LineEnd ∷ []

-- a store behind its `:=`
abbrev pub store_parts : List Part
store_parts = Written ∷ LineEnd ∷ []

-- a swap behind its `<`
abbrev pub swap_parts : List Part
swap_parts =
    Fixed Memory ∷ Fixed Open ∷ Address ∷ Fixed Close ∷ Fixed Equals ∷ Read ∷ Fixed Semicolon
    ∷ Fixed Memory ∷ Fixed Open ∷ SameAddress ∷ Fixed Close ∷ Fixed Assign ∷ Written ∷ Fixed Greater ∷ LineEnd ∷ []

-- a sync behind its `sync`
abbrev pub sync_parts : List Part
sync_parts = LineEnd ∷ []

-- the statement of a kind from the fields that were read
abbrev pub statement : Kind → Result (Fields × At) Fault → Result Statement Fault
statement k (Ok x) = Ok (record { kind = k; fields = x.0 })
statement k (Err e) = Err e

-- a load or a store behind its address
abbrev pub accessed : Fields → At → Result Statement Fault
accessed f a =
    cond (is_symbol Equals (next_token a)) (statement Load (parts load_parts f (past a)))
    (cond (is_symbol Assign (next_token a)) (statement Store (parts store_parts f (past a)))
    (Err (fault_at (skipped a) Misfit)))

-- one of the four bodies, which its first token and, of loads and stores, the one behind the address tell apart
abbrev pub body : Fields → At → Result Statement Fault
body f a =
    cond (is_symbol Memory (next_token a)) (and_then (parts cell_parts f (past a)) (λ x. accessed x.0 x.1))
    (cond (is_symbol Less (next_token a)) (statement Swap (parts swap_parts f (past a)))
    (cond (is_symbol Sync (next_token a)) (statement SyncKind (parts sync_parts f (past a)))
    (Err (fault_at (skipped a) Misfit))))

-- the fields before anything is read
abbrev pub no_fields : Fields
no_fields = record { thread = 0; thread_column = 0; address = address 0; address_column = 0; read = 0; written = 0 }

-- a statement as what a line states
abbrev pub some_statement : Result Statement Fault → Result (Option Statement) Fault
some_statement (Ok s) = Ok (Some s)
some_statement (Err e) = Err e

-- what a line states from its start on: nothing where it has no token, else a statement, or its first fault
abbrev pub line_from : At → Result (Option Statement) Fault
line_from a =
    cond (is_end (next_token a)) (Ok None)
    (some_statement (and_then (parts thread_parts no_fields a) (λ x. body x.0 x.1)))

-- the start of the line with the number n and the bytes bs
abbrev pub start_of : ℕ → List ℕ → At
start_of n bs = record { line = n; column = 1; rest = bs }

-- the instruction of a statement
abbrev pub instruction_of : Statement → Instruction
instruction_of s = instruction s.fields.thread s.kind s.fields.address s.fields.read s.fields.written
