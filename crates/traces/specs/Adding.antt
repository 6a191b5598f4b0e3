-- What adding an instruction makes of the instructions so far.
use Rattle.std.specs.Prelude.{◌≡◌, ℕ, Bool, cond, List, [], ◌∷◌, ◌++◌, length, Some, None, Ok, Err, Option, Result, ◌==◌, nat_eq, nat_le, nat_lt}
use Rattle.traces.specs.declared.entry.Address.{Address}
use Rattle.traces.specs.declared.entry.Instruction.{Instruction}
use Rattle.traces.specs.declared.entry.Kind.{Kind}
use Rattle.traces.specs.declared.entry.Refusal.{Refusal}
use Rattle.traces.specs.declared.entry.Refusal.TheVariants.{UnknownKind, TooManyEntries, TooManyThreads, TooManyAddresses}
use Rattle.traces.specs.Kinds.{addressed, instruction, kind_of}
use Rattle.traces.specs.Slots.{appearing}

-- whether two addresses are the same
abbrev pub same_address : Address → Address → Bool
same_address a b = a.number == b.number

-- the thread number that an instruction brings
abbrev pub thread_in : Instruction → Option ℕ
thread_in i = Some i.thread

-- the address that an instruction brings: a sync has none
abbrev pub address_in : Instruction → Option Address
address_in i = cond (addressed i.kind) (Some i.address) None

-- the thread numbers of instructions, by first appearance
abbrev pub threads_of : List Instruction → List ℕ
threads_of is = appearing nat_eq thread_in [] is

-- the addresses of instructions, by first appearance
abbrev pub addresses_of : List Instruction → List Address
addresses_of is = appearing same_address address_in [] is

-- what the instructions become by one more, or the first reason to refuse it
abbrev pub admitted : List Instruction → Instruction → Result (List Instruction) Refusal
admitted is i =
    cond (nat_le 64 (length is)) (Err TooManyEntries)
    (cond (nat_lt 8 (length (threads_of (is ++ i ∷ [])))) (Err TooManyThreads)
    (cond (nat_lt 16 (length (addresses_of (is ++ i ∷ [])))) (Err TooManyAddresses)
    (Ok (is ++ i ∷ []))))

-- the same for an instruction by its fields, where its kind may be unknown
abbrev pub added_as : List Instruction → ℕ → Option Kind → Address → ℕ → ℕ → Result (List Instruction) Refusal
added_as is t None a r w = Err UnknownKind
added_as is t (Some k) a r w = admitted is (instruction t k a r w)

-- the same where the kind is given by its number
abbrev pub added : List Instruction → ℕ → ℕ → Address → ℕ → ℕ → Result (List Instruction) Refusal
added is t k a r w = added_as is t (kind_of k) a r w

-- what a call that is to make `made` of the instructions answers, and which instructions it leaves of those before it
abbrev pub Leaves : {F : Type 0} → Result (List Instruction) F → List Instruction → Result (Unit {0}) F → List Instruction → Type 0
Leaves made before (Ok _) after = made ≡ Ok after
Leaves made before (Err f) after = (made ≡ Err f) × (after ≡ before)

-- go on with what has come, or keep the fault
abbrev pub and_then : {A B E : Type 0} → Result A E → (A → Result B E) → Result B E
and_then (Ok x) f = f x
and_then (Err e) f = Err e

-- the instructions js added behind is, one after the other
abbrev pub admitted_all : List Instruction → List Instruction → Result (List Instruction) Refusal
admitted_all is [] = Ok is
admitted_all is (j ∷ js) = and_then (admitted is j) (λ ks. admitted_all ks js)
