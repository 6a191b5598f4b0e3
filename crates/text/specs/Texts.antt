-- What a text makes of a draft's instructions, line by line, or its first fault.
use Rattle.std.specs.Prelude.{◌≡◌, ℕ, ◌+◌, cond, List, [], ◌∷◌, length, Some, None, Ok, Err, Option, Result, ◌==◌, nat_lt}
use Rattle.traces.specs.declared.entry.Instruction.{Instruction}
use Rattle.traces.specs.declared.entry.Refusal.{Refusal}
use Rattle.traces.specs.declared.entry.Refusal.TheVariants.{UnknownKind, TooManyEntries, TooManyThreads, TooManyAddresses}
use Rattle.traces.specs.Adding.{admitted, and_then}
use Rattle.text.specs.declared.statement.Statement.{Statement}
use Rattle.text.specs.declared.fault.Cause.{Cause}
use Rattle.text.specs.declared.fault.Cause.TheVariants.{Trace}
use Rattle.text.specs.declared.fault.Fault.{Fault}
use Rattle.text.specs.Lines.{instruction_of, line_from, start_of}
use Rattle.text.specs.Faults.{too_long}
use Rattle.text.specs.Tokens.{At}

-- the lines with the byte b at the front of the first
abbrev pub into_first : ℕ → List (List ℕ) → List (List ℕ)
into_first b [] = (b ∷ []) ∷ []
into_first b (l ∷ ls) = (b ∷ l) ∷ ls

-- the lines of a text: each ends with byte 10, which the last may lack
unfoldable pub lines_of : List ℕ → List (List ℕ)
lines_of [] = []
lines_of (b ∷ bs) = cond (b == 10) ([] ∷ lines_of bs) (into_first b (lines_of bs))

-- where a draft's refusal of a statement is placed: at the thread number, or at the first address
abbrev pub column_of : Refusal → Statement → ℕ
column_of UnknownKind s = s.fields.thread_column
column_of TooManyEntries s = s.fields.thread_column
column_of TooManyThreads s = s.fields.thread_column
column_of TooManyAddresses s = s.fields.address_column

-- a refusal becomes a fault in the line n
abbrev pub placed_in : ℕ → Statement → Result (List Instruction) Refusal → Result (List Instruction) Fault
placed_in n s (Ok is) = Ok is
placed_in n s (Err e) = Err (record { cause = Trace e; line = n; column = column_of e s })

-- the instructions with what the line n states
abbrev pub entered : ℕ → List Instruction → Option Statement → Result (List Instruction) Fault
entered n is None = Ok is
entered n is (Some s) = placed_in n s (admitted is (instruction_of s))

-- what the line from a place on makes of the instructions
abbrev pub line_read_from : At → List Instruction → Result (List Instruction) Fault
line_read_from a is = and_then (line_from a) (entered a.line is)

-- what the line n makes of the instructions
abbrev pub line_read : ℕ → List Instruction → List ℕ → Result (List Instruction) Fault
line_read n is bs = line_read_from (start_of n bs) is

-- what lines make of the instructions, the first of them the line n
unfoldable pub lines_read : ℕ → List Instruction → List (List ℕ) → Result (List Instruction) Fault
lines_read n is [] = Ok is
lines_read n is (l ∷ ls) = and_then (line_read n is l) (λ js. lines_read (n + 1) js ls)

-- what a text makes of the instructions, or its first fault
abbrev pub text_read : List Instruction → List ℕ → Result (List Instruction) Fault
text_read is bs = cond (nat_lt 16384 (length bs)) (Err too_long) (lines_read 1 is (lines_of bs))

-- what adding a statement answers, and which instructions it leaves of those before it
abbrev pub Enters : List Instruction → Statement → Result (Unit {0}) Cause → List Instruction → Type 0
Enters before s (Ok _) after = admitted before (instruction_of s) ≡ Ok after
Enters before s (Err e) after = ((refusal : Refusal) × (e ≡ Trace refusal) × (admitted before (instruction_of s) ≡ Err refusal)) × (after ≡ before)
