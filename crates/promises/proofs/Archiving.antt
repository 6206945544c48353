-- The records of a run are good, and so the run can be archived.
-- Assumes nothing.
use Rattle.std.proofs.Common.{Option, Some, None, if◌then◌else◌}
use mathlib.Core.Path.{◌≡◌, refl, sym, ap, subst, ◌∙◌}
use mathlib.Core.Bool.{Bool, true, false, ◌&&◌}
use mathlib.Core.List.{List, [], ◌∷◌, reverse, reverse_aux}
use Prim.Native.Nat.{ℕ, zero, suc, ◌^◌, ◌≤◌, ◌<◌}
use native.Mathlib.Omega.{arith}
use lib.ListN.{length, replicate, length-reverse}
use lib.Dec.{eqb, leb}
use borrow.Author.Tests.{eqb-true, eq-eqb, le-leb, lt-ltb}
use Rattle.rules.specs.Word.{read_word, write_word}
use Rattle.rules.specs.Kinds.{kind_at}
use Rattle.rules.specs.Operations.{code_of, address_of, value_of, kind_of, shape}
use Rattle.rules.specs.Refusals.{number_in}
use Rattle.rules.specs.Calls.{Outcome, poke_record}
use Rattle.rules.specs.Bytes.{Bytes}
use Rattle.rules.specs.History.{History, succeeds}
use Rattle.rules.specs.Reference.{Whole, does, pokes, Reference, refer, access_of, write_done, sc_failed, finish_by, finish}
use Rattle.rules.specs.Runs.{Call, give, step, poke, Fresh, act, after, records, given_to, last_of, at_access, in_order, entry_rule}
use Rattle.rules.specs.declared.entry.GuestAddress.{GuestAddress}
use Rattle.rules.specs.declared.entry.EntryNumber.{EntryNumber}
use Rattle.rules.specs.declared.operations.Operation.{Operation}
use Rattle.rules.specs.declared.operations.Operation.TheVariants as Asked
use Rattle.rules.specs.declared.operations.Shape.{Shape}
use Rattle.rules.specs.declared.operations.Shape.TheVariants.{Load, Locks}
use Rattle.rules.specs.declared.operations.Locking.TheVariants.{Ll, Store, Sc}
use Rattle.rules.specs.declared.answers.Record.{Record}
use Rattle.rules.proofs.Accepted.{Inside, sizes_fit_lem, core_small, give_accepted, step_accepted, word_accepted}
use Rattle.rules.specs.declared.answers.Delivered.TheVariants as Answered
use Rattle.rules.proofs.Numbers.{by_zero, not_refused, start_number, give_number, step_number, poke_number}
use Rattle.rules.proofs.Words.{word_laws}
use Rattle.rules.proofs.Lawful.{range_laws}
use Rattle.rules.proofs.Invariant.{run_inv}
use Rattle.archive.specs.Records.{kind_good, address_good}
use Rattle.archive.specs.Promises.{GoodRecord, AllGood}
use Rattle.archive.specs.declared.records.Side.TheVariants.{Writing}
use Rattle.archive.proofs.Taken.{every_list_is_archived}
use Rattle.promises.proofs.Quiet.{step_silent, poke_silent}
use Rattle.promises.specs.Archived.{WordsGiven, RecordsAreGood, RunsAreArchived}

-- an address that may stand in an archive
pub address_good_lem : {bytes : ℕ} (a : GuestAddress) → bytes ≤ 65536 → Inside bytes a → address_good a.0 ≡ true
unfolding address_good
address_good_lem a most i = rw (eq-eqb _ _ i.aligned, lt-ltb a.0 65536 (let l = i.below in omega arith))

-- an operation and a whole operation that make good records
pub record GoodOperation (o : Operation) : Type 0 where
  pub address : address_good (address_of o).0 ≡ true
  pub value : value_of o < 2 ^ 32

abbrev GoodOperations : List Operation → Type 0
GoodOperations [] = Unit {0}
GoodOperations (o ∷ os) = GoodOperation o × GoodOperations os

abbrev GoodWhole : Whole → Type 0
GoodWhole (does c o) = (c < 8) × GoodOperation o
GoodWhole (pokes a v) = (address_good a.0 ≡ true) × (v < 2 ^ 32)

abbrev GoodWholes : List Whole → Type 0
GoodWholes [] = Unit {0}
GoodWholes (w ∷ ws) = GoodWhole w × GoodWholes ws

-- an operation makes records of a core's kinds, which the writer takes
kinds_made : (o : Operation) (passed : Bool) (c : ℕ) → kind_good Writing c (kind_of (code_of o) passed) ≡ leb c 7
unfolding kind_of kind_good kind_at
kinds_made (Asked.Load a) passed c = refl
kinds_made (Asked.Ll a) passed c = refl
kinds_made (Asked.Store a v) passed c = refl
kinds_made (Asked.Sc a v) true c = refl
kinds_made (Asked.Sc a v) false c = refl

good_access : (c : ℕ) (o : Operation) (passed : Bool) (v : ℕ) → c < 8 → address_good (address_of o).0 ≡ true → v < 2 ^ 32 → GoodRecord Writing (access_of c o passed v)
good_access c o passed v small address value =
    record { good = rw (kinds_made o passed c, le-leb c 7 (omega arith), address); value = value }

good_poke : (a : GuestAddress) (v : ℕ) → address_good a.0 ≡ true → v < 2 ^ 32 → GoodRecord Writing (poke_record a v)
unfolding kind_good kind_at
good_poke a v address value = record { good = rw address; value = value }

-- the reference's history is good, and its memory is bytes
module _ (entry : GuestAddress → EntryNumber) where
  module _ (ref : Reference) (c : ℕ) (o : Operation) (bytes : Bytes ref.memory) (g : (c < 8) × GoodOperation o) where
    wrote : (passed : Bool) → GoodRecord Writing (access_of c o passed (value_of o)) × Bytes (write_word ref.memory (address_of o) (value_of o))
    wrote passed = (good_access c o passed (value_of o) g.0 g.1.address g.1.value, word_laws.bytes_stay ref.memory (address_of o) (value_of o) bytes)

    read : GoodRecord Writing (access_of c o false (read_word ref.memory (address_of o))) × Bytes ref.memory
    read = (good_access c o false (read_word ref.memory (address_of o)) g.0 g.1.address (word_laws.a_word ref.memory (address_of o) bytes), bytes)

    finish_good : GoodRecord Writing (finish entry ref c o).access × Bytes (finish entry ref c o).memory
    unfolding finish
    finish_good = go (shape o)
      where
        sc : (t : Bool) → GoodRecord Writing (if t then write_done ref c o true (Answered.Sc 0) else sc_failed ref c o).access × Bytes (if t then write_done ref c o true (Answered.Sc 0) else sc_failed ref c o).memory
        sc true = wrote true
        sc false = (good_access c o false (value_of o) g.0 g.1.address g.1.value, bytes)

        go : (s : Shape) → GoodRecord Writing (finish_by s entry ref c o).access × Bytes (finish_by s entry ref c o).memory
        go Load = read
        go (Locks Ll) = read
        go (Locks Store) = wrote false
        go (Locks Sc) = sc (succeeds entry c (address_of o) ref.history)

  refer_good : (zeros : List ℕ) → Bytes zeros → (ws : List Whole) → GoodWholes ws → AllGood Writing (refer entry zeros ws).history × Bytes (refer entry zeros ws).memory
  unfolding refer
  refer_good zeros bytes [] g = (tt, bytes)
  refer_good zeros bytes (does c o ∷ ws) g =
      let rest = refer_good zeros bytes ws g.1 in
      let f = finish_good (refer entry zeros ws) c o rest.1 g.0 in
      ((f.0, rest.0), f.1)
  refer_good zeros bytes (pokes a v ∷ ws) g =
      let rest = refer_good zeros bytes ws g.1 in
      ((good_poke a v g.0.0 g.0.1, rest.0), word_laws.bytes_stay (refer entry zeros ws).memory a v rest.1)

-- what is given, and run, in a run
last_good : (os : List Operation) → GoodOperations os → GoodOperation (last_of os)
unfolding address_good
last_good [] g = record { address = refl; value = omega arith }
last_good (o ∷ os) g = g.0

-- a call that is not refused, by its answer's number
given_fits : (o : Outcome) (core : ℕ) (op : Operation) → value_of op < 2 ^ 32 → number_in (act o (give core op)).called.answer ≡ 0 → GoodOperation op
unfolding act
given_fits o core op small z =
    let a = give_accepted o.called.machine core op (not_refused _ (sym (give_number o.called.machine core op) ∙ z)) in
    record { address = address_good_lem (address_of op) (sizes_fit_lem o.called.machine a.ranges).most_bytes a.address; value = small }

stepped_small : (o : Outcome) (core : ℕ) → number_in (act o (step core)).called.answer ≡ 0 → core < 8
unfolding act
stepped_small o core z =
    let a = step_accepted o.called.machine (length o.memory) o.owners o.holders core (not_refused _ (sym (step_number o.called.machine o.memory o.owners o.holders core) ∙ z)) in
    core_small o.called.machine a.ranges a.core_below

poked_fits : (o : Outcome) (a : GuestAddress) (v : ℕ) → number_in (act o (poke a v)).called.answer ≡ 0 → address_good a.0 ≡ true
unfolding act
poked_fits o a v z =
    let w = word_accepted o.called.machine (length o.memory) a (not_refused _ (sym (poke_number o.called.machine o.memory a v) ∙ z)) in
    address_good_lem a (sizes_fit_lem o.called.machine w.ranges).most_bytes w.address

-- an access adds its whole operation, if it was one
at_access_good : (made : Option Record) (w : Whole) (ws : List Whole) → GoodWhole w → GoodWholes ws → GoodWholes (at_access made w ws)
at_access_good None w ws g rest = rest
at_access_good (Some r) w ws g rest = (g, rest)

silent_good : (made : Option Record) (w : Whole) (ws : List Whole) → made ≡ None → GoodWholes ws → GoodWholes (at_access made w ws)
silent_good made w ws e rest = subst (λ (m : Option Record). GoodWholes (at_access m w ws)) (sym e) rest

module _ (fresh : Outcome) where
  given_good : (c : ℕ) (calls : List Call) → WordsGiven calls → GoodOperations (given_to fresh c calls)
  unfolding given_to
  given_good c [] w = tt
  given_good c (give core o ∷ calls) w = go (eqb core c) (eqb (number_in (act (after fresh calls) (give core o)).called.answer) 0) refl (given_good c calls w.1)
    where
      fits : number_in (act (after fresh calls) (give core o)).called.answer ≡ 0 → GoodOperation o
      fits z = given_fits (after fresh calls) core o w.0 z

      go : (s t : Bool) → eqb (number_in (act (after fresh calls) (give core o)).called.answer) 0 ≡ t → GoodOperations (given_to fresh c calls)
          → GoodOperations (if s && t then o ∷ given_to fresh c calls else given_to fresh c calls)
      go true true e rest = (fits (eqb-true _ _ e), rest)
      go true false e rest = rest
      go false t e rest = rest
  given_good c (step core ∷ calls) w = given_good c calls w
  given_good c (poke a v ∷ calls) w = given_good c calls w.1

  run_good : (calls : List Call) → WordsGiven calls → GoodWholes (in_order fresh calls)
  unfolding in_order
  run_good [] w = tt
  run_good (give core o ∷ calls) w = run_good calls w.1
  run_good (step core ∷ calls) w =
      let rest = run_good calls w in
      let made = (act (after fresh calls) (step core)).called.made in
      let op = last_of (given_to fresh core calls) in
      by_zero (GoodWholes (at_access made (does core op) (in_order fresh calls))) (number_in (act (after fresh calls) (step core)).called.answer)
      (λ z. at_access_good made (does core op) (in_order fresh calls) (stepped_small (after fresh calls) core z, last_good (given_to fresh core calls) (given_good core calls w)) rest)
      (λ d. silent_good made (does core op) (in_order fresh calls) (step_silent (after fresh calls) core d) rest)
  run_good (poke a v ∷ calls) w =
      let rest = run_good calls w.1 in
      let made = (act (after fresh calls) (poke a v)).called.made in
      by_zero (GoodWholes (at_access made (pokes a v) (in_order fresh calls))) (number_in (act (after fresh calls) (poke a v)).called.answer)
      (λ z. at_access_good made (pokes a v) (in_order fresh calls) (poked_fits (after fresh calls) a v z, w.0) rest)
      (λ d. silent_good made (pokes a v) (in_order fresh calls) (poke_silent (after fresh calls) a v d) rest)

-- a fresh memory is bytes
zero_bytes : (k : ℕ) → Bytes (replicate k 0)
zero_bytes zero i = omega arith
zero_bytes (suc k) zero = omega arith
zero_bytes (suc k) (suc i) = zero_bytes k i

fresh_bytes : (fresh : Outcome) → Fresh fresh → Bytes fresh.memory
fresh_bytes fresh f =
    let z = start_number f.count f.memory f.owners f.holders ∙ ap number_in f.accepted in
    subst Bytes (sym (ap (λ (o : Outcome). o.memory) f.started ∙ (range_laws.start_zero f.count f.memory f.owners f.holders z).0)) (zero_bytes (length f.memory))

pub records_are_good : RecordsAreGood
records_are_good fresh f calls w =
    subst (AllGood Writing) (sym (run_inv fresh f calls).history) (refer_good (entry_rule fresh) fresh.memory (fresh_bytes fresh f) (in_order fresh calls) (run_good fresh calls w)).0

-- the same in access order
reverse_good : (h k : History) → AllGood Writing h → AllGood Writing k → AllGood Writing (reverse_aux h k)
reverse_good [] k g e = e
reverse_good (r ∷ h) k g e = reverse_good h (r ∷ k) g.1 (g.0, e)

pub runs_are_archived : RunsAreArchived
runs_are_archived fresh f calls w few block size =
    every_list_is_archived block (reverse (records fresh calls)) size (reverse_good (records fresh calls) [] (records_are_good fresh f calls w) tt) (rw length-reverse few)
