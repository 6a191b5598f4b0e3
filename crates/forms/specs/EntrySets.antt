-- Sets of entries, by membership.
use Rattle.std.specs.Prelude.{◌≡◌, ℕ, ◌-◌, ◌/◌, ◌%◌, ◌^◌, ◌<◌, ◌≤◌, Bool, true, cond, Option, MatchOption, ◌==◌, ◌≢◌, bit_or, nat_lt}
use Rattle.forms.specs.declared.entry_set.EntrySet.{EntrySet}

-- whether i is in a set
abbrev pub member : EntrySet → ℕ → Bool
member s i = s.bits / 2 ^ i % 2 == 1

-- the set with no member
abbrev pub empty_set : EntrySet
empty_set = record { bits = 0 }

-- the set with i, where i is below 64, and else the set as it is
unfoldable pub inserted : EntrySet → ℕ → EntrySet
inserted s i = cond (nat_lt i 64) (record { bits = bit_or s.bits (2 ^ i) }) s

-- the set without i
unfoldable pub removed : EntrySet → ℕ → EntrySet
removed s i = cond (member s i) (record { bits = s.bits - 2 ^ i }) s

-- r is the greatest member that two sets have in common, or `None` where they have none
abbrev pub LatestCommon : EntrySet → EntrySet → Option ℕ → Type 0
LatestCommon s t r =
    MatchOption r ((i : ℕ) → member s i ≡ true → member t i ≢ true)
    (λ w. (w < 64) × (member s w ≡ true) × (member t w ≡ true) × ((v : ℕ) → member s v ≡ true → member t v ≡ true → v ≤ w))
