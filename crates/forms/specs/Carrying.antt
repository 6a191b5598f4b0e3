-- What carrying out an entry takes and does, given which entries are pending: what keeps it back, the value it sees, what it changes.
use Rattle.std.specs.Prelude.{ℕ, zero, suc, Bool, false, cond, not, ◌&&◌, ◌||◌, List, Some, None, Option, ◌==◌}
use Rattle.traces.specs.declared.entry.Address.{Address}
use Rattle.traces.specs.declared.entry.Instruction.{Instruction}
use Rattle.traces.specs.Adding.{same_address}
use Rattle.forms.specs.Entries.{instruction_at, reads_at, writes_at}
use Rattle.forms.specs.PreservedOrder.{Preserved}

-- whether a test passes at some number below k
abbrev pub some_below : (ℕ → Bool) → ℕ → Bool
some_below f zero = false
some_below f (suc k) = f k || some_below f k

-- the largest number below k at which a test passes
abbrev pub last_below : (ℕ → Bool) → ℕ → Option ℕ
last_below f zero = None
last_below f (suc k) = cond (f k) (Some k) (last_below f k)

-- whether i is a pending entry of e's thread that keeps ahead of e
unfoldable pub keeping : List Instruction → Preserved → (ℕ → Bool) → ℕ → ℕ → Bool
keeping is p pending e i = (instruction_at is i).thread == (instruction_at is e).thread && (pending i && p.ahead i e)

-- whether i is a pending entry of e's thread that writes e's address
unfoldable pub forwarding : List Instruction → (ℕ → Bool) → ℕ → ℕ → Bool
forwarding is pending e i =
    ((instruction_at is i).thread == (instruction_at is e).thread) && (pending i && (writes_at is i && same_address (instruction_at is i).address (instruction_at is e).address))

-- what an entry wrote, if there is one, or else x
abbrev pub forwarded : List Instruction → Option ℕ → ℕ → ℕ
forwarded is None x = x
forwarded is (Some w) x = (instruction_at is w).written

-- what memory holds at the address of r
abbrev pub contents : List Instruction → (Address → ℕ) → ℕ → ℕ
contents is memory r = memory (instruction_at is r).address

-- what e sees: the value of the latest pending entry earlier than e on its thread that writes its address, or else memory's
unfoldable pub seen : List Instruction → (ℕ → Bool) → (Address → ℕ) → ℕ → ℕ
seen is pending memory e = forwarded is (last_below (forwarding is pending e) e) (contents is memory e)

-- nothing pending and earlier on e's thread keeps ahead of e, and if e reads, it has read what it sees
unfoldable pub may_carry_out : List Instruction → Preserved → (ℕ → Bool) → (Address → ℕ) → ℕ → Bool
may_carry_out is p pending memory e =
    not (some_below (keeping is p pending e) e) && (not (reads_at is e) || (instruction_at is e).read == seen is pending memory e)

-- memory after e
unfoldable pub stored : List Instruction → (Address → ℕ) → ℕ → Address → ℕ
stored is memory e = cond (writes_at is e) (λ a. cond (same_address a (instruction_at is e).address) (instruction_at is e).written (memory a)) memory
