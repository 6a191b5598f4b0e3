-- The number and the layer of a fault of reading.
use Rattle.std.specs.Prelude.{ℕ, List, ◌++◌, codes, decimal}
use Rattle.traces.specs.Kinds.{refusal_number, trace_layer}
use Rattle.text.specs.declared.fault.Cause.{Cause}
use Rattle.text.specs.declared.fault.Fault.{Fault}
use Rattle.text.specs.declared.fault.Cause.TheVariants.{TooLong, Misfit, TooLarge, OtherAddress, Trace}

-- the number of a cause; a draft's refusal keeps its own
abbrev pub cause_number : Cause → ℕ
cause_number TooLong = 10
cause_number Misfit = 11
cause_number TooLarge = 12
cause_number OtherAddress = 13
cause_number (Trace refusal) = refusal_number refusal

-- the layer of a cause: 3 is the text, and a draft's refusal keeps its own
abbrev pub cause_layer : Cause → ℕ
cause_layer TooLong = 3
cause_layer Misfit = 3
cause_layer TooLarge = 3
cause_layer OtherAddress = 3
cause_layer (Trace refusal) = trace_layer

-- how a fault with a number, a layer, a line and a column is written out
abbrev pub shown_as : ℕ → ℕ → ℕ → ℕ → List ℕ
shown_as number layer line column =
    codes "fault " ++ (decimal number ++ (codes " layer " ++ (decimal layer ++ (codes " line " ++ (decimal line ++ (codes " column " ++ decimal column))))))

-- how a fault of reading is written out
abbrev pub shown_fault : Fault → List ℕ
shown_fault f = shown_as (cause_number f.cause) (cause_layer f.cause) f.line f.column
