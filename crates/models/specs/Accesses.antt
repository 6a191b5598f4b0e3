-- Accesses: what a memory model sees of instructions.
use Rattle.std.specs.Prelude.{Bool, true, false, ◌&&◌, ◌||◌}
use Rattle.traces.specs.declared.entry.Instruction.{Instruction}
use Rattle.traces.specs.declared.entry.Kind.{Kind}
use Rattle.traces.specs.declared.entry.Kind.TheVariants.{Load, Store, Swap, Sync}
use Rattle.traces.specs.Adding.{same_address}
use Rattle.traces.specs.Kinds.{addressed, writes}
use Rattle.models.specs.declared.access.Access.{Access}

-- the access of an instruction
abbrev pub access_of : Instruction → Access
access_of i = record { kind = i.kind; address = i.address }

-- a store, and no other kind
abbrev pub is_store : Kind → Bool
is_store Load = false
is_store Store = true
is_store Swap = false
is_store Sync = false

-- a sync, and no other kind
abbrev pub is_sync : Kind → Bool
is_sync Load = false
is_sync Store = false
is_sync Swap = false
is_sync Sync = true

-- both are on an address, and it is the same
abbrev pub on_same_address : Access → Access → Bool
on_same_address i j = (addressed i.kind && addressed j.kind) && same_address i.address j.address

-- both write
abbrev pub both_write : Access → Access → Bool
both_write i j = writes i.kind && writes j.kind

-- one of them is a sync, or both are
abbrev pub either_syncs : Access → Access → Bool
either_syncs i j = is_sync i.kind || is_sync j.kind
