-- What holds of the state and of the arguments where a call is not refused.
-- Assumes nothing.
use Rattle.std.proofs.Common.{◌≡◌, ℕ, zero, suc, ◌+◌, ◌/◌, ◌%◌, ◌<◌, ◌≤◌, Bool, true, false, not, ◌&&◌, ◌||◌, eqb, ltb, leb, List, Err, length, refl, ap, ◌∙◌, mod-lt, arith, ltb-true, eqb-true, leb-false, leb-true, if◌then◌else◌}
use mathlib.Core.Bool.{false≢true}
use lib.Arith.{lt_of_le-ne}
use borrow.Author.Tests.{eqb-false, not-false}
use Rattle.rules.specs.Basics.{all_below}
use Rattle.rules.specs.Sizes.{cores_fit, bytes_fit, entries_fit, tables_fit}
use Rattle.rules.specs.Entry.{entry_of}
use Rattle.rules.specs.Ranges.{core_at, inside, operation_fields, value_fields, link_fields, operation_fits, addresses_fit, place_fits, core_fits, sizes_fit, every_core_fits, in_ranges, damaged}
use Rattle.rules.specs.Operations.{address_of}
use Rattle.rules.specs.Refusals.{Tested, no_refusal}
use Rattle.rules.specs.declared.refusals.Refusal.TheVariants.{NoSuchCore, Unaligned, Outside, LentLengths, OutOfRange, Damaged, Busy, Idle}
use Rattle.rules.specs.Calls.{lent_fits, address_refusal, entry_at, mark_at, start_refusal, give_refusal, step_refusal, word_refusal}
use Rattle.rules.specs.declared.entry.GuestAddress.{GuestAddress}
use Rattle.rules.specs.declared.operations.Operation.{Operation}
use Rattle.rules.specs.declared.cores.Core.{Core}
use Rattle.rules.specs.declared.state.Machine.{Machine}
use Rattle.rules.proofs.Bools.{and₂, and₃, in_use, passed_over}

-- sizes that fit
pub record Sizes (m : Machine) : Type 0 where
  pub some_core : 1 ≤ m.count
  pub most_cores : m.count ≤ 8
  pub some_byte : 4 ≤ m.bytes
  pub most_bytes : m.bytes ≤ 65536
  pub words : m.bytes % 4 ≡ 0
  pub entries : entries_fit m.entries ≡ true

pub sizes : (m : Machine) → sizes_fit m ≡ true → Sizes m
sizes m h =
    let t = and₃ (cores_fit m.count) (bytes_fit m.bytes) (entries_fit m.entries) h in
    let cs = and₂ (leb 1 m.count) (leb m.count 8) t.0 in
    let bs = and₃ (leb 4 m.bytes) (leb m.bytes 65536) (eqb (m.bytes % 4) 0) t.1 in
    record {
      some_core = leb-true _ _ cs.0;
      most_cores = leb-true _ _ cs.1;
      some_byte = leb-true _ _ bs.0;
      most_bytes = leb-true _ _ bs.1;
      words = eqb-true _ _ bs.2;
      entries = t.2;
    }

pub sizes_fit_lem : (m : Machine) → in_ranges m ≡ true → Sizes m
unfolding in_ranges
sizes_fit_lem m h = sizes m (and₂ (sizes_fit m) (every_core_fits m) h).0

-- no entry count that fits is 0
pub some_entry : (e : ℕ) → entries_fit e ≡ true → 0 < e
unfolding entries_fit
some_entry zero h = absurd (false≢true h)
some_entry (suc e) h = omega arith

-- an entry's number is below the number of entries
pub entry_below : (entries : ℕ) (a : GuestAddress) → entries_fit entries ≡ true → (entry_of entries a).0 < entries
unfolding entry_of
entry_below entries a h = mod-lt (a.0 / 4) (some_entry entries h)

-- a test of each number below n, at one of them
pub at_below : (n : ℕ) (test : ℕ → Bool) (i : ℕ) → i < n → all_below n test ≡ true → test i ≡ true
at_below zero test i l h = absurd (omega arith)
at_below (suc n) test i l h = go (λ k. at_below n test i k both.0) (eqb i n) refl
  where
    both : (all_below n test ≡ true) × (test n ≡ true)
    both = and₂ (all_below n test) (test n) h

    go : (i < n → test i ≡ true) → (t : Bool) → eqb i n ≡ t → test i ≡ true
    go rest true e = ap test (eqb-true i n e) ∙ both.1
    go rest false e = rest (lt_of_le-ne (omega arith) (eqb-false i n e))

-- a core below the count is one of the eight
pub core_small : (m : Machine) {core : ℕ} → in_ranges m ≡ true → core < m.count → core < 8
core_small m h l = let s = sizes_fit_lem m h in omega arith

pub core_fits_lem : (m : Machine) → in_ranges m ≡ true → (i : ℕ) → i < 8 → core_fits m.count m.bytes i (core_at m i) ≡ true
unfolding in_ranges
core_fits_lem m h i l = at_below 8 (λ k. core_fits m.count m.bytes k (core_at m k)) i l (and₂ (sizes_fit m) (every_core_fits m) h).1

-- a core that fits, test by test
pub record Fits (count bytes i : ℕ) (c : Core) : Type 0 where
  pub operation_fields_lem : operation_fields c ≡ true
  pub value_fields_lem : value_fields c ≡ true
  pub link_fields_lem : link_fields c ≡ true
  pub operation_fits_lem : operation_fits c ≡ true
  pub addresses_fit_lem : addresses_fit bytes c ≡ true
  pub place_fits_lem : place_fits count i c ≡ true

pub fits : (count bytes i : ℕ) (c : Core) → core_fits count bytes i c ≡ true → Fits count bytes i c
unfolding core_fits
fits count bytes i c h =
    let t = and₂ (operation_fields c && value_fields c && link_fields c) (operation_fits c && addresses_fit bytes c && place_fits count i c) h in
    let u = and₃ (operation_fields c) (value_fields c) (link_fields c) t.0 in
    let v = and₃ (operation_fits c) (addresses_fit bytes c) (place_fits count i c) t.1 in
    record { operation_fields_lem = u.0; value_fields_lem = u.1; link_fields_lem = u.2; operation_fits_lem = v.0; addresses_fit_lem = v.1; place_fits_lem = v.2 }

-- an address of a whole word inside memory
pub record Inside (bytes : ℕ) (a : GuestAddress) : Type 0 where
  pub aligned : a.0 % 4 ≡ 0
  pub below : a.0 < bytes

pub is_inside : (bytes : ℕ) (a : GuestAddress) → inside bytes a ≡ true → Inside bytes a
is_inside bytes a h =
    let t = and₂ (eqb (a.0 % 4) 0) (ltb a.0 bytes) h in
    record { aligned = eqb-true _ _ t.0; below = ltb-true _ _ t.1 }

pub word_inside : {bytes : ℕ} (a : GuestAddress) → bytes % 4 ≡ 0 → Inside bytes a → a.0 + 4 ≤ bytes
word_inside a words h = omega arith

pub busy_inside : {count bytes i : ℕ} (c : Core) → Fits count bytes i c → c.busy ≡ true → Inside bytes c.address
busy_inside {bytes = bytes} c f b =
    is_inside bytes c.address
    (in_use c.busy (inside bytes c.address) b
    (and₂ (not c.busy || inside bytes c.address) (not c.linked || inside bytes c.link) f.addresses_fit_lem).0)

-- the address of an operation, a poke or a show that is not refused
pub address_accepted : (bytes : ℕ) (a : GuestAddress) → address_refusal bytes a ≡ no_refusal → Inside bytes a
address_accepted bytes a h =
    let t = passed_over (not (eqb (a.0 % 4) 0)) Unaligned (if leb bytes a.0 then Err Outside else no_refusal) h in
    let u = passed_over (leb bytes a.0) Outside no_refusal t.1 in
    record { aligned = eqb-true _ _ (not-false _ t.0); below = leb-false _ _ u.0 }

-- a start that is not refused
pub record StartAccepted (count memory owners holders : ℕ) : Type 0 where
  pub cores : cores_fit count ≡ true
  pub bytes : bytes_fit memory ≡ true
  pub entries : entries_fit owners ≡ true
  pub tables : holders ≡ owners

pub start_accepted : (count memory owners holders : ℕ) → start_refusal count memory owners holders ≡ no_refusal → StartAccepted count memory owners holders
unfolding start_refusal
start_accepted count memory owners holders h =
    let k₁ : Tested = if not (cores_fit count) then Err NoSuchCore else no_refusal in
    let t₀ = passed_over (not (bytes_fit memory && tables_fit owners holders)) LentLengths k₁ h in
    let t₁ = passed_over (not (cores_fit count)) NoSuchCore no_refusal t₀.1 in
    let b = and₂ (bytes_fit memory) (tables_fit owners holders) (not-false _ t₀.0) in
    let e = and₂ (entries_fit owners) (eqb holders owners) b.1 in
    record { cores = not-false _ t₁.0; bytes = b.0; entries = e.0; tables = eqb-true _ _ e.1 }

-- a give that is not refused
pub record GiveAccepted (m : Machine) (core : ℕ) (o : Operation) : Type 0 where
  pub ranges : in_ranges m ≡ true
  pub core_below : core < m.count
  pub idle : (core_at m core).busy ≡ false
  pub address : Inside m.bytes (address_of o)

pub give_accepted : (m : Machine) (core : ℕ) (o : Operation) → give_refusal m core o ≡ no_refusal → GiveAccepted m core o
unfolding give_refusal
give_accepted m core o h =
    let k₃ = address_refusal m.bytes (address_of o) in
    let k₂ : Tested = if (core_at m core).busy then Err Busy else k₃ in
    let k₁ : Tested = if leb m.count core then Err NoSuchCore else k₂ in
    let t₀ = passed_over (not (in_ranges m)) OutOfRange k₁ h in
    let t₁ = passed_over (leb m.count core) NoSuchCore k₂ t₀.1 in
    let t₂ = passed_over (core_at m core).busy Busy k₃ t₁.1 in
    record { ranges = not-false _ t₀.0; core_below = leb-false _ _ t₁.0; idle = t₂.0; address = address_accepted _ _ t₂.1 }

-- lent lengths that are the state's
pub record Lent (m : Machine) (memory owners holders : ℕ) : Type 0 where
  pub memory_length : memory ≡ m.bytes
  pub owners_length : owners ≡ m.entries
  pub holders_length : holders ≡ m.entries

pub lent : (m : Machine) (memory owners holders : ℕ) → lent_fits m memory owners holders ≡ true → Lent m memory owners holders
lent m memory owners holders h =
    let t = and₃ (eqb memory m.bytes) (eqb owners m.entries) (eqb holders m.entries) h in
    record { memory_length = eqb-true _ _ t.0; owners_length = eqb-true _ _ t.1; holders_length = eqb-true _ _ t.2 }

-- a step that is not refused
pub record StepAccepted (m : Machine) (memory : ℕ) (owners holders : List ℕ) (core : ℕ) : Type 0 where
  pub ranges : in_ranges m ≡ true
  pub lengths : Lent m memory (length owners) (length holders)
  pub core_below : core < m.count
  pub busy : (core_at m core).busy ≡ true
  pub whole : damaged m.count core (core_at m core) (mark_at owners (entry_at m core)) (mark_at holders (entry_at m core)) ≡ false

pub step_accepted : (m : Machine) (memory : ℕ) (owners holders : List ℕ) (core : ℕ) → step_refusal m memory owners holders core ≡ no_refusal → StepAccepted m memory owners holders core
unfolding step_refusal
step_accepted m memory owners holders core h =
    let hurt = damaged m.count core (core_at m core) (mark_at owners (entry_at m core)) (mark_at holders (entry_at m core)) in
    let k₄ : Tested = if hurt then Err Damaged else no_refusal in
    let k₃ : Tested = if not (core_at m core).busy then Err Idle else k₄ in
    let k₂ : Tested = if leb m.count core then Err NoSuchCore else k₃ in
    let k₁ : Tested = if not (lent_fits m memory (length owners) (length holders)) then Err LentLengths else k₂ in
    let t₀ = passed_over (not (in_ranges m)) OutOfRange k₁ h in
    let t₁ = passed_over (not (lent_fits m memory (length owners) (length holders))) LentLengths k₂ t₀.1 in
    let t₂ = passed_over (leb m.count core) NoSuchCore k₃ t₁.1 in
    let t₃ = passed_over (not (core_at m core).busy) Idle k₄ t₂.1 in
    let t₄ = passed_over hurt Damaged no_refusal t₃.1 in
    record {
      ranges = not-false _ t₀.0;
      lengths = lent m memory (length owners) (length holders) (not-false _ t₁.0);
      core_below = leb-false _ _ t₂.0;
      busy = not-false _ t₃.0;
      whole = t₄.0;
    }

-- a poke or a show that is not refused
pub record WordAccepted (m : Machine) (memory : ℕ) (a : GuestAddress) : Type 0 where
  pub ranges : in_ranges m ≡ true
  pub memory_length : memory ≡ m.bytes
  pub address : Inside m.bytes a

pub word_accepted : (m : Machine) (memory : ℕ) (a : GuestAddress) → word_refusal m memory a ≡ no_refusal → WordAccepted m memory a
unfolding word_refusal
word_accepted m memory a h =
    let k₂ = address_refusal m.bytes a in
    let k₁ : Tested = if not (eqb memory m.bytes) then Err LentLengths else k₂ in
    let t₀ = passed_over (not (in_ranges m)) OutOfRange k₁ h in
    let t₁ = passed_over (not (eqb memory m.bytes)) LentLengths k₂ t₀.1 in
    record { ranges = not-false _ t₀.0; memory_length = eqb-true _ _ (not-false _ t₁.0); address = address_accepted _ _ t₁.1 }

-- the word that such a call reads or writes lies in the lent memory
pub word_lent : {m : Machine} {memory : ℕ} {a : GuestAddress} → WordAccepted m memory a → a.0 + 4 ≤ memory
word_lent {m} {memory} {a} h = let w = word_inside a (sizes_fit_lem m h.ranges).words h.address in omega arith
