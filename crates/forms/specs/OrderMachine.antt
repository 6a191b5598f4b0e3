-- The rules of the order form: the entries are placed one by one.
use Rattle.std.specs.Prelude.{ℕ, Bool, false, cond, not, ◌&&◌, ◌||◌, List, [], ◌∷◌, length, Some, None, Option, ◌==◌, nat_lt}
use Rattle.traces.specs.declared.entry.Address.{Address}
use Rattle.traces.specs.declared.entry.Instruction.{Instruction}
use Rattle.forms.specs.Carrying.{may_carry_out, some_below, stored}
use Rattle.forms.specs.PreservedOrder.{Preserved}

-- which entries are placed, and what memory holds
pub record OrderPosition : Type 0 where
  pub placed : ℕ → Bool
  pub memory : Address → ℕ

-- nothing is placed, and memory holds 0 everywhere
unfoldable pub order_opening : OrderPosition
order_opening = record { placed = λ i. false; memory = λ a. 0 }

-- whether entry i is yet to be placed
abbrev pub unplaced : OrderPosition → ℕ → Bool
unplaced q i = not (q.placed i)

-- the position after e
unfoldable pub placing : List Instruction → OrderPosition → ℕ → OrderPosition
placing is q e = record { placed = λ i. (i == e) || q.placed i; memory = stored is q.memory e }

-- e is placed and so carried out, unless it does not exist, is placed already, or may not be carried out while the unplaced entries are pending
unfoldable pub place : List Instruction → Preserved → OrderPosition → ℕ → Option OrderPosition
place is p q e = cond (nat_lt e (length is) && (unplaced q e && may_carry_out is p (unplaced q) q.memory e)) (Some (placing is q e)) None

-- the entry that a code carries out
abbrev pub places : OrderPosition → ℕ → List ℕ
places q e = e ∷ []

-- all entries are placed
unfoldable pub all_placed : List Instruction → OrderPosition → Bool
all_placed is q = not (some_below (unplaced q) (length is))
