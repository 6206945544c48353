-- A core of a run is the picture of a phase: which operation it is at, at which step, and its link. What each micro-step makes of a picture, by the operation's shape.
-- Assumes nothing.
use Rattle.std.proofs.Common.{◌≡◌, ℕ, Bool, true, false, eqb, Some, None, refl, ap, ◌∙◌, if◌then◌else◌}
use Rattle.rules.specs.Sizes.{written}
use Rattle.rules.specs.Operations.{code_of, address_of, value_of, shape_of, shape}
use Rattle.rules.specs.Life.{resting, idle, given, advanced, judged, moves, stays, ll_mark, store_mark, sc_mark, passes, ll_access, store_access, sc_access, micro_step, load_step, lock_step, mark_step, access_step, delivered}
use Rattle.rules.specs.History.{Link}
use Rattle.rules.specs.Reference.{access_of}
use Rattle.rules.specs.declared.entry.GuestAddress.{GuestAddress}
use Rattle.rules.specs.declared.operations.Operation.{Operation}
use Rattle.rules.specs.declared.operations.Shape.{Shape}
use Rattle.rules.specs.declared.operations.Shape.TheVariants.{Load, Locks}
use Rattle.rules.specs.declared.operations.Locking.{Locking}
use Rattle.rules.specs.declared.operations.Locking.TheVariants.{Ll, Store, Sc}
use Rattle.rules.specs.declared.answers.Answer.TheVariants.{Moved, Waits, Done}
use Rattle.rules.specs.declared.answers.Delivered.{Delivered}
use Rattle.rules.specs.declared.answers.Delivered.TheVariants as Answered
use Rattle.rules.specs.declared.cores.Core.{Core}
use Rattle.rules.specs.declared.cores.MicroStep.{MicroStep}
use Rattle.rules.proofs.Shapes.{shape_given}

-- an operation that takes no lock, and one that takes it
pub record Loading : Type 0 where
  pub operation : Operation
  pub shaped : shape operation ≡ Load

pub record Locked : Type 0 where
  pub operation : Operation
  pub locking : Locking
  pub shaped : shape operation ≡ Locks locking

abbrev pub place_of : Locked → GuestAddress
place_of l = address_of l.operation

-- idle; at a load; at step 1, 2, 3 and 4 of a locked operation, from the test on with its outcome, and at last with what was read
pub data Phase : Type 0 where
  rests : Phase
  loads : Loading → Phase
  asks : Locked → Phase
  holds : Locked → Phase
  reaches : Locked → Bool → Phase
  ends : Locked → Bool → ℕ → Phase

abbrev pub begins : Operation → Link → Core
begins o k = given (resting k.linked k.link) o

abbrev pub picture : Phase → Link → Core
picture rests k = resting k.linked k.link
picture (loads l) k = begins l.operation k
picture (asks l) k = begins l.operation k
picture (holds l) k = advanced (begins l.operation k) 2
picture (reaches l passed) k = judged (begins l.operation k) passed
picture (ends l passed read) k =
    let c = begins l.operation k in
    record { busy = true; operation = c.operation; next = 4; passed = passed; linked = k.linked; address = c.address; value = c.value; read = read; link = k.link }

-- what step 2 makes of the owner, and what it judges, as the rule has it
abbrev pub marked : ℕ → Locking → ℕ → ℕ
marked me Ll owner = (ll_mark me idle owner 0).owner
marked me Store owner = (store_mark me idle owner 0).owner
marked me Sc owner = (sc_mark me idle owner 0).owner

abbrev pub tests : Locking → ℕ → Core → ℕ → Bool
tests Ll me c owner = false
tests Store me c owner = false
tests Sc me c owner = passes me c owner

abbrev pub tested : ℕ → Locked → Link → ℕ → Bool
tested me l k owner = tests l.locking me (picture (holds l) k) owner

-- what step 3 makes: the record's value, the link and the owner, what was read, and whether it writes
abbrev pub value_by : Locking → ℕ → ℕ → ℕ
value_by Ll value word = word
value_by Store value word = value
value_by Sc value word = value

abbrev pub value_at : Locked → ℕ → ℕ
value_at l word = value_by l.locking (value_of l.operation) word

abbrev link_of_core : Core → Link
link_of_core c = record { linked = c.linked; link = c.link }

abbrev pub link_by : Locking → Core → Link
link_by Ll c = link_of_core (ll_access 0 c 0 0 0).core
link_by Store c = link_of_core (store_access 0 c 0 0).core
link_by Sc c = link_of_core (sc_access 0 c 0 0).core

abbrev pub link_at : Locked → Bool → Link → Link
link_at l passed k = link_by l.locking (picture (reaches l passed) k)

abbrev pub owner_at : Locking → Bool → ℕ → ℕ
owner_at Ll passed owner = (ll_access 0 idle owner 0 0).owner
owner_at Store passed owner = (store_access 0 idle owner 0).owner
owner_at Sc passed owner = (sc_access 0 (judged idle passed) owner 0).owner

abbrev pub read_at : Locking → ℕ → ℕ
read_at Ll word = word
read_at Store word = 0
read_at Sc word = 0

abbrev pub writes_at : Locking → Bool → Bool
writes_at Ll passed = false
writes_at Store passed = true
writes_at Sc passed = passed

-- what step 4 delivers
abbrev pub answer_at : Locking → Bool → ℕ → Delivered
answer_at Ll passed read = Answered.Ll read
answer_at Store passed read = Answered.Store
answer_at Sc passed read = Answered.Sc (if passed then 0 else 1)

-- the shape that its number has
pub shape_at : (l : Locked) → shape_of (code_of l.operation) ≡ Some (Locks l.locking)
shape_at l = shape_given l.operation ∙ ap (λ (s : Shape). Some s) l.shaped

module _ (me : ℕ) (k : Link) (owner holder word : ℕ) where
  pub load_step_lem : (l : Loading) → micro_step me (picture (loads l) k) owner holder word
      ≡ record { answer = Done (Answered.Load word); made = Some (access_of me l.operation false word); core = picture rests k; owner = owner; holder = holder; writes = false }
  unfolding micro_step load_step
  load_step_lem l = rw (shape_given l.operation, l.shaped)

  pub ask_step : (l : Locked) → micro_step me (picture (asks l) k) owner holder word
      ≡ (if eqb holder 0 then moves (picture (holds l) k) owner (written me) else stays Waits (picture (asks l) k) owner holder)
  unfolding micro_step lock_step
  ask_step l = rw (shape_at l)

  pub hold_step : (l : Locked) → micro_step me (picture (holds l) k) owner holder word ≡ moves (picture (reaches l (tested me l k owner)) k) (marked me l.locking owner) holder
  unfolding micro_step mark_step
  hold_step l = rw (shape_at l) (go l.locking)
    where
      go : (s : Locking) → mark_step s me (picture (holds l) k) owner holder ≡ moves (picture (reaches l (tests s me (picture (holds l) k) owner)) k) (marked me s owner) holder
      go Ll = refl
      go Store = refl
      go Sc = refl

  pub reach_step : (l : Locked) (passed : Bool) → micro_step me (picture (reaches l passed) k) owner holder word
      ≡ record {
        answer = Moved;
        made = Some (access_of me l.operation passed (value_at l word));
        core = picture (ends l passed (read_at l.locking word)) (link_at l passed k);
        owner = owner_at l.locking passed owner;
        holder = holder;
        writes = writes_at l.locking passed;
      }
  unfolding micro_step access_step
  reach_step l passed = rw (shape_at l) (go l.locking)
    where
      go : (s : Locking) → access_step s me (picture (reaches l passed) k) owner holder word
          ≡ record {
            answer = Moved;
            made = Some (access_of me l.operation passed (value_by s (value_of l.operation) word));
            core = picture (ends l passed (read_at s word)) (link_by s (picture (reaches l passed) k));
            owner = owner_at s passed owner;
            holder = holder;
            writes = writes_at s passed;
          }
      go Ll = refl
      go Store = refl
      go Sc = refl

  pub leave_step_lem : (l : Locked) (passed : Bool) (read : ℕ) → micro_step me (picture (ends l passed read) k) owner holder word
      ≡ record { answer = Done (answer_at l.locking passed read); made = None; core = picture rests k; owner = owner; holder = 0; writes = false }
  unfolding micro_step delivered
  leave_step_lem l passed read = rw (shape_at l) (go l.locking)
    where
      go : (s : Locking) → ◌≡◌ {A = MicroStep} (record { answer = Done (delivered s (picture (ends l passed read) k)); made = None; core = picture rests k; owner = owner; holder = 0; writes = false })
          (record { answer = Done (answer_at s passed read); made = None; core = picture rests k; owner = owner; holder = 0; writes = false })
      go Ll = refl
      go Store = refl
      go Sc = refl
