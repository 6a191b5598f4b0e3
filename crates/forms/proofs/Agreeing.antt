-- Only what is pending before an entry tells whether it may be carried out.
use Rattle.std.proofs.Common.{◌≡◌, ℕ, zero, suc, ◌<◌, Bool, cond, not, ◌&&◌, ◌||◌, List, Some, refl, ap, ◌∙◌, arith}
use Rattle.std.specs.Prelude.{◌==◌}
use Rattle.traces.specs.declared.entry.Address.{Address}
use Rattle.traces.specs.declared.entry.Instruction.{Instruction}
use Rattle.traces.specs.Adding.{same_address}
use Rattle.forms.specs.Carrying.{contents, forwarded, forwarding, keeping, last_below, may_carry_out, seen, some_below}
use Rattle.forms.specs.Entries.{instruction_at, reads_at, writes_at}
use Rattle.forms.specs.PreservedOrder.{Preserved}

-- tests that agree below k find the same
pub some_below_same : (f g : ℕ → Bool) (k : ℕ) → ((i : ℕ) → i < k → f i ≡ g i) → some_below f k ≡ some_below g k
some_below_same f g zero agree = refl
some_below_same f g (suc k) agree =
    ap (λ b. b || some_below f k) (agree k (omega arith)) ∙ ap (λ b. g k || b) (some_below_same f g k (λ i below. agree i (omega arith)))

pub last_below_same : (f g : ℕ → Bool) (k : ℕ) → ((i : ℕ) → i < k → f i ≡ g i) → last_below f k ≡ last_below g k
last_below_same f g zero agree = refl
last_below_same f g (suc k) agree =
    ap (λ b. cond b (Some k) (last_below f k)) (agree k (omega arith)) ∙ ap (λ o. cond (g k) (Some k) o) (last_below_same f g k (λ i below. agree i (omega arith)))

-- only what is pending before an entry tells whether it may be carried out
pub may_agree : (is : List Instruction) (p : Preserved) (P Q : ℕ → Bool) (memory : Address → ℕ) (e : ℕ) → ((i : ℕ) → i < e → P i ≡ Q i)
    → may_carry_out is p P memory e ≡ may_carry_out is p Q memory e
unfolding may_carry_out seen keeping forwarding
may_agree is p P Q memory e agree =
    let kept : some_below (keeping is p P e) e ≡ some_below (keeping is p Q e) e =
    some_below_same (keeping is p P e) (keeping is p Q e) e (λ i below. ap (λ b. ((instruction_at is i).thread == (instruction_at is e).thread) && (b && p.ahead i e)) (agree i below)) in
    let forwards : last_below (forwarding is P e) e ≡ last_below (forwarding is Q e) e =
    last_below_same (forwarding is P e) (forwarding is Q e) e
    (λ i below. ap (λ b. ((instruction_at is i).thread == (instruction_at is e).thread) && (b && (writes_at is i && same_address (instruction_at is i).address (instruction_at is e).address))) (agree i below)) in
    ap (λ b. not b && (not (reads_at is e) || (instruction_at is e).read == seen is P memory e)) kept
    ∙ ap (λ o. not (some_below (keeping is p Q e) e) && (not (reads_at is e) || (instruction_at is e).read == forwarded is o (contents is memory e))) forwards
