-- Pairs of entries of one thread, and how many of them are kept in their sequence.
use Rattle.std.specs.Prelude.{ℕ, Bool, not, ◌&&◌, ◌||◌, List, length, sum_by, count_by, ◌==◌, nat_lt}
use Rattle.std.specs.List.{list_all, range_with_len}
use Rattle.traces.specs.declared.entry.Instruction.{Instruction}
use Rattle.forms.specs.Entries.{instruction_at}
use Rattle.forms.specs.PreservedOrder.{Preserved}

-- whether there is an entry i, and it waits
abbrev pub waiting : List Instruction → Preserved → ℕ → Bool
waiting is p i = nat_lt i (length is) && p.waits i

-- whether i is an earlier entry of j's thread
abbrev pub is_earlier : List Instruction → ℕ → ℕ → Bool
is_earlier is i j = (nat_lt i j && nat_lt j (length is)) && (instruction_at is i).thread == (instruction_at is j).thread

-- whether i is an earlier entry of j's thread that keeps ahead of j
abbrev pub keeps : List Instruction → Preserved → ℕ → ℕ → Bool
keeps is p i j = is_earlier is i j && p.ahead i j

-- a preserved order told of the entries of a trace alone, and of pairs of one thread alone
abbrev pub clipped : List Instruction → Preserved → Preserved
clipped is p = record { waits = waiting is p; ahead = keeps is p }

-- how many entries keep ahead of j
abbrev pub kept_before : List Instruction → Preserved → ℕ → ℕ
kept_before is p j = count_by (λ i. keeps is p i j) (range_with_len 0 j)

-- how many pairs of entries are kept in their sequence
abbrev pub kept_pairs : List Instruction → Preserved → ℕ
kept_pairs is p = sum_by (kept_before is p) (range_with_len 0 (length is))

-- whether the first of two tests of pairs passes with j at each number below j at which the second does
abbrev pub no_fewer_before : (ℕ → ℕ → Bool) → (ℕ → ℕ → Bool) → ℕ → Bool
no_fewer_before k l j = list_all (λ i. not (l i j) || k i j) (range_with_len 0 j)
