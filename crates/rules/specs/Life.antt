-- RULES 4, life of an operation: what each micro-step makes of a core, of its entry's owner and holder, and of the word at its address.
use Rattle.std.specs.Prelude.{ℕ, Bool, true, false, ◌&&◌, Option, Some, None, ◌==◌, nat_eq, if◌then◌else◌}
use Rattle.rules.specs.Sizes.{written}
use Rattle.rules.specs.Entry.{nowhere}
use Rattle.rules.specs.Operations.{code_of, address_of, value_of, shape_of, kind_of}
use Rattle.rules.specs.declared.entry.GuestAddress.{GuestAddress}
use Rattle.rules.specs.declared.operations.Operation.{Operation}
use Rattle.rules.specs.declared.operations.Shape.{Shape}
use Rattle.rules.specs.declared.operations.Shape.TheVariants.{Load, Locks}
use Rattle.rules.specs.declared.operations.Locking.{Locking}
use Rattle.rules.specs.declared.operations.Locking.TheVariants.{Ll, Store, Sc}
use Rattle.rules.specs.declared.answers.Answer.{Answer}
use Rattle.rules.specs.declared.answers.Answer.TheVariants.{Moved, Waits, Done}
use Rattle.rules.specs.declared.answers.Delivered.{Delivered}
use Rattle.rules.specs.declared.answers.Delivered.TheVariants as Answered
use Rattle.rules.specs.declared.answers.Record.{Record}
use Rattle.rules.specs.declared.cores.Core.{Core}
use Rattle.rules.specs.declared.cores.MicroStep.{MicroStep}

-- RULES 4.23: "A field of a core for which its present state has no use is 0.": of an idle core only the link may be in use
abbrev pub resting : Bool → GuestAddress → Core
resting linked link = record { busy = false; operation = 0; next = 0; passed = false; linked = linked; address = nowhere; value = 0; read = 0; link = link }

-- idle, with no link
abbrev pub idle : Core
idle = resting false nowhere

-- RULES 4.1: "A give hands an operation to an idle core."
abbrev pub given : Core → Operation → Core
given c o = record { busy = true; operation = code_of o; next = 1; passed = false; linked = c.linked; address = address_of o; value = value_of o; read = 0; link = c.link }

-- a busy core at another of its operation's steps
abbrev pub advanced : Core → ℕ → Core
advanced c next = record { busy = c.busy; operation = c.operation; next = next; passed = c.passed; linked = c.linked; address = c.address; value = c.value; read = c.read; link = c.link }

-- RULES 4.20: "A step that is done and leaves its operation unfinished answers `moved`."
-- RULES 4.22: "A step that is no access step hands out no record."
abbrev pub moves : Core → ℕ → ℕ → MicroStep
moves c owner holder = record { answer = Moved; made = None; core = c; owner = owner; holder = holder; writes = false }

-- RULES 4.21: "An access step hands out the record of its access: core, kind, address, value"
abbrev pub record_of : ℕ → Core → ℕ → Record
record_of me c value = record { core = me; kind = kind_of c.operation c.passed; address = c.address; value = value }

-- nothing changes
abbrev pub stays : Answer → Core → ℕ → ℕ → MicroStep
stays answer c owner holder = record { answer = answer; made = None; core = c; owner = owner; holder = holder; writes = false }

-- RULES 4.4: "A load has a single step, which is its access step: it reads the word, and the load is finished."
unfoldable pub load_step : ℕ → Core → ℕ → ℕ → ℕ → MicroStep
load_step me c owner holder word =
    record { answer = Done (Answered.Load word); made = Some (record_of me c word); core = resting c.linked c.link; owner = owner; holder = holder; writes = false }

-- RULES 4.6: "Step 1 takes the lock of the entry where its holder is 0."
-- RULES 4.7: "Where the holder is not 0, step 1 answers `waits` and changes nothing."
unfoldable pub lock_step : ℕ → Core → ℕ → ℕ → MicroStep
lock_step me c owner holder = if holder == 0 then moves (advanced c 2) owner (written me) else stays Waits c owner holder

-- RULES 4.8: "Step 2 of an ll makes this core the owner."
abbrev pub ll_mark : ℕ → Core → ℕ → ℕ → MicroStep
ll_mark me c owner holder = moves (advanced c 3) (written me) holder

-- RULES 4.9: "Step 2 of a store leaves the owner where it is this core, and makes it 0 where it is not."
abbrev pub store_mark : ℕ → Core → ℕ → ℕ → MicroStep
store_mark me c owner holder = moves (advanced c 3) (if nat_eq owner (written me) then owner else 0) holder

-- RULES 4.10: "Step 2 of an sc passes where the link is the sc's address and the owner is this core, and only there."
abbrev pub passes : ℕ → Core → ℕ → Bool
passes me c owner = c.linked && c.link.0 == c.address.0 && owner == written me

-- RULES 4.10: "The core remembers the outcome."
abbrev pub judged : Core → Bool → Core
judged c passed = record { busy = c.busy; operation = c.operation; next = 3; passed = passed; linked = c.linked; address = c.address; value = c.value; read = c.read; link = c.link }

abbrev pub sc_mark : ℕ → Core → ℕ → ℕ → MicroStep
sc_mark me c owner holder = moves (judged c (passes me c owner)) owner holder

unfoldable pub mark_step : Locking → ℕ → Core → ℕ → ℕ → MicroStep
mark_step Ll me c owner holder = ll_mark me c owner holder
mark_step Store me c owner holder = store_mark me c owner holder
mark_step Sc me c owner holder = sc_mark me c owner holder

-- RULES 4.11: "Step 3 is the access step."
-- RULES 4.12: "Step 3 of an ll reads the word, and the link becomes its address."
abbrev pub ll_access : ℕ → Core → ℕ → ℕ → ℕ → MicroStep
ll_access me c owner holder word =
    record {
      answer = Moved;
      made = Some (record_of me c word);
      core = record { busy = c.busy; operation = c.operation; next = 4; passed = c.passed; linked = true; address = c.address; value = c.value; read = word; link = c.address };
      owner = owner;
      holder = holder;
      writes = false;
    }

-- RULES 4.13: "Step 3 of a store writes the word."
abbrev pub store_access : ℕ → Core → ℕ → ℕ → MicroStep
store_access me c owner holder =
    record { answer = Moved; made = Some (record_of me c c.value); core = advanced c 4; owner = owner; holder = holder; writes = true }

-- RULES 4.14: "Step 3 of an sc that passed writes the word and makes the owner 0."
-- RULES 4.15: "Step 3 of an sc that did not pass changes neither the owner nor memory."
-- RULES 4.16: "Step 3 of an sc leaves its core without a link, whether it passed or not."
abbrev pub sc_access : ℕ → Core → ℕ → ℕ → MicroStep
sc_access me c owner holder =
    record {
      answer = Moved;
      made = Some (record_of me c c.value);
      core = record { busy = c.busy; operation = c.operation; next = 4; passed = c.passed; linked = false; address = c.address; value = c.value; read = c.read; link = nowhere };
      owner = if c.passed then 0 else owner;
      holder = holder;
      writes = c.passed;
    }

unfoldable pub access_step : Locking → ℕ → Core → ℕ → ℕ → ℕ → MicroStep
access_step Ll me c owner holder word = ll_access me c owner holder word
access_step Store me c owner holder word = store_access me c owner holder
access_step Sc me c owner holder word = sc_access me c owner holder

-- RULES 4.18: "A load and an ll answer the word that they read. A store answers no value."
-- RULES 4.19: "An sc answers 0 where it succeeded and 1 where it failed."
unfoldable pub delivered : Locking → Core → Delivered
delivered Ll c = Answered.Ll c.read
delivered Store c = Answered.Store
delivered Sc c = Answered.Sc (if c.passed then 0 else 1)

-- RULES 4.17: "Step 4 makes the holder 0 and delivers the answer, and the core is idle."
abbrev pub leave_step : Locking → Core → ℕ → MicroStep
leave_step l c owner = record { answer = Done (delivered l c); made = None; core = resting c.linked c.link; owner = owner; holder = 0; writes = false }

-- RULES 4.5: "An ll, a store and an sc have four steps each."
abbrev pub locked_step : Locking → ℕ → Core → ℕ → ℕ → ℕ → MicroStep
locked_step l me c owner holder word =
    if c.next == 1 then lock_step me c owner holder
    else if c.next == 2 then mark_step l me c owner holder
    else if c.next == 3 then access_step l me c owner holder word
    else leave_step l c owner

-- an operation that cannot occur has no step: a state that has one is out of its ranges (RULES 6.21)
abbrev pub step_by : Option Shape → ℕ → Core → ℕ → ℕ → ℕ → MicroStep
step_by None me c owner holder word = stays Waits c owner holder
step_by (Some Load) me c owner holder word = load_step me c owner holder word
step_by (Some (Locks l)) me c owner holder word = locked_step l me c owner holder word

-- RULES 4.3: "A micro-step takes a core's private part and hands back the one that it has from then on."
unfoldable pub micro_step : ℕ → Core → ℕ → ℕ → ℕ → MicroStep
micro_step me c owner holder word = step_by (shape_of c.operation) me c owner holder word
