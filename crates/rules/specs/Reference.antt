-- RULES 1, what is demanded: the reference machine of demand 3, on which whole operations are run one by one (RULES 1.10).
-- RULES 1.11: "The reference machine has no table and no locks."
-- RULES 1.12: "The reference machine decides each sc by the success rule as it is written (5), and knows nothing but the history of the accesses that are finished."
use Rattle.std.specs.Prelude.{ℕ, Bool, true, false, List, [], ◌∷◌, ◌==◌, if◌then◌else◌}
use Rattle.rules.specs.Word.{read_word, write_word}
use Rattle.rules.specs.Operations.{code_of, address_of, value_of, kind_of, shape}
use Rattle.rules.specs.Calls.{poke_record}
use Rattle.rules.specs.History.{History, succeeds}
use Rattle.rules.specs.declared.entry.GuestAddress.{GuestAddress}
use Rattle.rules.specs.declared.entry.EntryNumber.{EntryNumber}
use Rattle.rules.specs.declared.operations.Operation.{Operation}
use Rattle.rules.specs.declared.operations.Shape.{Shape}
use Rattle.rules.specs.declared.operations.Shape.TheVariants.{Load, Locks}
use Rattle.rules.specs.declared.operations.Locking.TheVariants.{Ll, Store, Sc}
use Rattle.rules.specs.declared.answers.Delivered.{Delivered}
use Rattle.rules.specs.declared.answers.Delivered.TheVariants as Answered
use Rattle.rules.specs.declared.answers.Record.{Record}

-- a whole operation of a core, or a poke by the bench
pub data Whole : Type 0 where
  does : ℕ → Operation → Whole
  pokes : GuestAddress → ℕ → Whole

-- memory and the history of finished accesses
pub record Reference : Type 0 where
  pub memory : List ℕ
  pub history : History

-- an operation run whole: memory after it, the access it made, and its answer
pub record Finished : Type 0 where
  pub memory : List ℕ
  pub access : Record
  pub answer : Delivered

-- the access that an operation of a core makes, with the value that it read, or is given to write
abbrev pub access_of : ℕ → Operation → Bool → ℕ → Record
access_of c o passed value = record { core = c; kind = kind_of (code_of o) passed; address = address_of o; value = value }

-- an operation that reads its word, and answers it
abbrev pub read_done : Reference → ℕ → Operation → (ℕ → Delivered) → Finished
read_done ref c o answer =
    record { memory = ref.memory; access = access_of c o false (read_word ref.memory (address_of o)); answer = answer (read_word ref.memory (address_of o)) }

-- one that writes its value, and an sc that does not
abbrev pub write_done : Reference → ℕ → Operation → Bool → Delivered → Finished
write_done ref c o passed answer = record { memory = write_word ref.memory (address_of o) (value_of o); access = access_of c o passed (value_of o); answer = answer }

abbrev pub sc_failed : Reference → ℕ → Operation → Finished
sc_failed ref c o = record { memory = ref.memory; access = access_of c o false (value_of o); answer = Answered.Sc 1 }

-- an operation of a shape, run whole
abbrev pub finish_by : Shape → (GuestAddress → EntryNumber) → Reference → ℕ → Operation → Finished
finish_by Load entry ref c o = read_done ref c o Answered.Load
finish_by (Locks Ll) entry ref c o = read_done ref c o Answered.Ll
finish_by (Locks Store) entry ref c o = write_done ref c o false Answered.Store
finish_by (Locks Sc) entry ref c o = if succeeds entry c (address_of o) ref.history then write_done ref c o true (Answered.Sc 0) else sc_failed ref c o

unfoldable pub finish : (GuestAddress → EntryNumber) → Reference → ℕ → Operation → Finished
finish entry ref c o = finish_by (shape o) entry ref c o

-- the reference after whole operations, the latest first, from a zero memory
unfoldable pub refer : (GuestAddress → EntryNumber) → List ℕ → List Whole → Reference
refer entry zeros [] = record { memory = zeros; history = [] }
refer entry zeros (does c o ∷ ws) =
    record { memory = (finish entry (refer entry zeros ws) c o).memory; history = (finish entry (refer entry zeros ws) c o).access ∷ (refer entry zeros ws).history }
refer entry zeros (pokes a v ∷ ws) = record { memory = write_word (refer entry zeros ws).memory a v; history = poke_record a v ∷ (refer entry zeros ws).history }

-- a core's operations among them, and their answers, the latest first
unfoldable pub operations_of : ℕ → List Whole → List Operation
operations_of c [] = []
operations_of c (does k o ∷ ws) = if k == c then o ∷ operations_of c ws else operations_of c ws
operations_of c (pokes a v ∷ ws) = operations_of c ws

unfoldable pub answers_of : (GuestAddress → EntryNumber) → List ℕ → ℕ → List Whole → List Delivered
answers_of entry zeros c [] = []
answers_of entry zeros c (does k o ∷ ws) = if k == c then (finish entry (refer entry zeros ws) k o).answer ∷ answers_of entry zeros c ws else answers_of entry zeros c ws
answers_of entry zeros c (pokes a v ∷ ws) = answers_of entry zeros c ws
