-- A refused call of the library leaves what it was lent.
-- Assumes nothing.
use Rattle.std.proofs.Common.{◌≡◌, ℕ, List, [], Result, Ok, Err, Option, None, Some, refl, ap, ◌∙◌}
use Rattle.rules.specs.Refusals.{number_in}
use Rattle.rules.specs.Operations.{asked_of}
use Rattle.rules.specs.Calls.{start_of, give_of, step_of, poke_of, show_of}
use Rattle.rules.specs.declared.answers.Answer.{Answer}
use Rattle.rules.specs.declared.operations.Operation.{Operation}
use Rattle.rules.specs.declared.refusals.Refusal.{Refusal}
use Rattle.rules.specs.declared.state.Called.{Called}
use Rattle.rules.specs.declared.state.Machine.{Machine}
use Rattle.rules.proofs.Lawful.{refusal_laws}
use Rattle.archive.specs.Records.{record_in}
use Rattle.archive.specs.Reader.{read_of}
use Rattle.archive.specs.Writer.{WriteOutcome, add_of, close_of}
use Rattle.archive.specs.Archive.{sought_of}
use Rattle.archive.specs.Promises.{AsFound}
use Rattle.archive.specs.declared.answers.Put.{Put}
use Rattle.archive.specs.declared.answers.Numbered.{Numbered}
use Rattle.archive.specs.declared.writer.Writer.{Writer}
use Rattle.archive.proofs.Refusing.{each_refusal_leaves}
use Rattle.bench.specs.CallOutcome.{call_outcome, left_by}
use Rattle.bench.specs.Machines.{made_by, give_asked}
use Rattle.bench.specs.Archives.{write_call_outcome, of_write, of_read}
use Rattle.bench.specs.Packed.{packed, packed_wrote, packed_read, handed_bytes}
use Rattle.bench.specs.Laws.{Refused, EachRefusedCallLeaves}
use Rattle.bench.proofs.Unpacked.{each_answer_unpacks}

-- what is refused as it is packed is refused
machine_refused : (a : Result Answer Refusal) → Refused (packed a) → number_in a ≡ 0 → ⊥
machine_refused a r z = r ((each_answer_unpacks.of_machine a).number ∙ z)

writer_refused : (a : Result Put Refusal) → Refused (packed_wrote a) → number_in a ≡ 0 → ⊥
writer_refused a r z = r ((each_answer_unpacks.of_writer a).number ∙ z)

record_refused : (a : Result (Option Numbered) Refusal) → Refused (packed_read a) → number_in a ≡ 0 → ⊥
record_refused a r z = r ((each_answer_unpacks.of_record a).number ∙ z)

-- .. and then what was found is left
found_left : {A S : Type 0} (a : Result A Refusal) (found : S) (left : A → S) → (number_in a ≡ 0 → ⊥) → left_by a found left ≡ found
found_left (Ok answer) found left r = absurd (r refl)
found_left (Err refusal) found left r = refl

made_left : (c : Called) (made : List ℕ) → (number_in c.answer ≡ 0 → ⊥) → made_by c made ≡ made
made_left c made = found_left c.answer made (λ answer. handed_bytes c.made)

give_left : (m : Machine) (core : ℕ) (o : Option Operation) → Refused (give_asked m core o).answer → give_asked m core o ≡ call_outcome (give_asked m core o).answer m
give_left m core None r = refl
give_left m core (Some o) r =
    let f = refusal_laws.give_as_found m core o [] [] [] (machine_refused (give_of m core o).answer r) in
    ap (call_outcome (packed (give_of m core o).answer)) f.machine_as_found

write_left : (o : WriteOutcome) (w : Writer) (block : List ℕ) → AsFound o w block → of_write o ≡ write_call_outcome (packed_wrote o.called.answer) w block
write_left o w block f = λ i. write_call_outcome (packed_wrote o.called.answer) (f.writer_as_found i) (f.block_as_found i)

read_left : (made : List ℕ) (r : Result (Option Numbered) Refusal) → Refused (packed_read r) → of_read made r ≡ call_outcome (packed_read r) made
read_left made r refused = ap (call_outcome (packed_read r)) (found_left r made _ (record_refused r refused))

pub each_refused_call_leaves : EachRefusedCallLeaves
each_refused_call_leaves =
    record {
      start = λ m count memory owners holders r.
          let o = start_of count memory owners holders in
          let n = machine_refused o.called.answer r in
          let f = refusal_laws.start_as_found count memory owners holders n in
          λ i. record {
            all = call_outcome (packed o.called.answer) (found_left o.called.answer m (λ answer. o.called.machine) n i);
            memory = f.memory_as_found i;
            owners = f.owners_as_found i;
            holders = f.holders_as_found i;
          };
      give = λ m core code a value. give_left m core (asked_of code (record { 0 = a }) value);
      step = λ m memory owners holders core made r.
          let o = step_of m memory owners holders core in
          let n = machine_refused o.called.answer r in
          let f = refusal_laws.step_as_found m memory owners holders core n in
          λ i. record {
            all = call_outcome (packed o.called.answer) (f.machine_as_found i);
            memory = f.memory_as_found i;
            owners = f.owners_as_found i;
            holders = f.holders_as_found i;
            made = made_left o.called made n i;
          };
      poke = λ m memory a value made r.
          let o = poke_of m memory (record { 0 = a }) value in
          let n = machine_refused o.called.answer r in
          let f = refusal_laws.poke_as_found m memory (record { 0 = a }) value [] [] n in
          λ i. record { all = call_outcome (packed o.called.answer) (f.machine_as_found i); memory = f.memory_as_found i; made = made_left o.called made n i };
      show = λ m memory a r.
          let c = show_of m memory (record { 0 = a }) in
          ap (call_outcome (packed c.answer)) (refusal_laws.show_as_found m memory (record { 0 = a }) [] [] (machine_refused c.answer r)).machine_as_found;
      add = λ w block made r.
          let o = add_of w block (record_in made) in
          write_left o w block (each_refusal_leaves.add_as_found w block (record_in made) (writer_refused o.called.answer r));
      close = λ w block r.
          let o = close_of w block in
          write_left o w block (each_refusal_leaves.close_as_found w block (writer_refused o.called.answer r));
      block_record = λ block expected after_short place made. read_left made (read_of block expected after_short place);
      archive_record = λ s number made. read_left made (sought_of s number);
    }
