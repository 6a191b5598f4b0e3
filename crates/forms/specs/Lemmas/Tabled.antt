-- A preserved order in tables has the two laws, if the tables have them.
use Rattle.std.specs.Prelude.{◌≡◌, ℕ, ◌<◌, true, List, length}
use Rattle.std.proofs.lemmas.Bool.{and_from, eq-eqb, lt-ltb, not_from_false}
use Rattle.traces.specs.declared.entry.Instruction.{Instruction}
use Rattle.forms.specs.declared.entry_links.EntryLinks.{EntryLinks}
use Rattle.forms.specs.declared.entry_set.EntrySet.{EntrySet}
use Rattle.forms.specs.Entries.{Earlier, instruction_at}
use Rattle.forms.specs.KeptPairs.{is_earlier}
use Rattle.forms.specs.OrderTables.{CoherentInTable, PromptInTable, tabled}
use Rattle.forms.specs.PreservedOrder.{Laws}
use Rattle.forms.specs.Lemmas.Basics.{decides_same_address}

-- an earlier entry of a thread, by the test
pub earlier_from : (is : List Instruction) (i j : ℕ) → Earlier is i j → j < length is → is_earlier is i j ≡ true
earlier_from is i j er l = and_from _ _ (and_from _ _ (lt-ltb _ _ er.0) (lt-ltb _ _ l)) (eq-eqb _ _ er.1)

-- a preserved order in tables has the two laws, if the tables have them
pub tabled_laws : (is : List Instruction) (s : EntrySet) (links : List EntryLinks) → PromptInTable is s links → CoherentInTable is links → Laws is (tabled s links)
tabled_laws is s links prompt coherent = record {
  prompt = λ i j er l w. prompt i j (and_from _ _ (earlier_from is i j er l) (not_from_false _ w));
  coherent = λ i j er l on w same. coherent i j
      (and_from _ _ (earlier_from is i j er l) (and_from _ _ on (and_from _ _ w ((decides_same_address (instruction_at is i).address (instruction_at is j).address).1 same))));
}
