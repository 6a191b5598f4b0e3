-- What a text makes of a draft's instructions is settled: one end or one first fault.
use Rattle.std.proofs.Common.{◌≡◌, ℕ, ◌≤◌, List, length, sym, ap, ◌∙◌}
use Rattle.std.proofs.lemmas.Bool.{cond-false, le-ltb}
use Rattle.traces.specs.declared.entry.Instruction.{Instruction}
use Rattle.text.specs.Faults.{Definite}
use Rattle.text.specs.Places.{starts}
use Rattle.text.specs.Texts.{lines_of, lines_read, text_read}
use Rattle.text.specs.Tokens.{At}
use Rattle.text.proofs.Finding.{fault_found}
use Rattle.text.proofs.Lining.{grown_self, lines_none, lines_read_from, lines_stop, read_from}
use Rattle.text.proofs.Readings.{one_reading, readable_from, readable_read}
use Rattle.text.proofs.Refusing.{faulty_from}
use Rattle.traces.proofs.Holding.{few_addresses}

-- both answers follow from the calculation, which gives one
pub definite : (before : List Instruction) (bs : List ℕ) → Definite before bs
definite before bs = record {
  one_reading = one_reading bs;
  one_end = λ x y h k. cc (readable_read before bs x h, readable_read before bs y k);
  one_fault = λ f g h k. cc (fault_found before bs f h, fault_found before bs g k);
  never_both = λ x f h k. cc (fault_found before bs f k, readable_read before bs x h);
}

-- a text that is not too long is read line by line
pub text_short : (before : List Instruction) (bs : List ℕ) → length bs ≤ 16384 → text_read before bs ≡ lines_read 1 before (lines_of bs)
text_short before bs h = cond-false _ _ _ (le-ltb 16384 (length bs) h)

-- the same of its lines from their starts on
pub text_lines : (before : List Instruction) (bs : List ℕ) (l : List At) → length bs ≤ 16384 → l ≡ starts 1 (lines_of bs) → read_from before l ≡ text_read before bs
text_lines before bs l h e = ap (read_from before) e ∙ lines_read_from 1 before (lines_of bs) ∙ sym (text_short before bs h)

-- what reading a text line by line, to its end or to its first fault, comes to
pub ruleset reading = (text_lines, grown_self, lines_none, lines_stop, readable_from, faulty_from, few_addresses)
