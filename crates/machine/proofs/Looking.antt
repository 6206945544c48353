-- What the code looks at in each core, in one pass, is what the ranges ask.
-- Assumes nothing.
use Rattle.std.proofs.Common.{◌≡◌, ℕ, ◌*◌, ◌/◌, ◌%◌, ◌^◌, ◌<◌, ◌≤◌, List, [], slice_index_or, bit_and, bit_or, Bool, true, false, not, ◌&&◌, ◌||◌, eqb, ltb, leb, Option, Some, None, is_some, sym, refl, ◌∙◌, arith, ltb-false, ltb-true, le-ltb, lt-ltb, ne_eqb, eqb-true, leb-false, leb-true, if◌then◌else◌}
use mathlib.Core.Bool.{false≢true, and-true}
use borrow.Author.Tests.{eqb-false, lt-leb}
use Rattle.std.specs.Int.{w32, rotate_right}
use Rattle.std.proofs.lemmas.Nat.{or_comm, or_shifted, or_lt, le_or_l, le_or_r}
use Rattle.rules.specs.Basics.{all_below}
use Rattle.rules.specs.Operations.{shape_of, a_load, an_ll, an_sc, with_value}
use Rattle.rules.specs.Ranges.{sizes_fit, uses_value, uses_read, uses_passed, in_use_or0, link_fields, operation_fits, inside, place_fits, core_fits, core_at, in_ranges}
use Rattle.machine.specs.Looked.{value_bit, read_bit, busy_stage, idle_stage, stage_of, can_be_at, spare, spare_are0, word_at, rooms_of, room_in, looks_right_at, core_looks_right, fits_at}
use Rattle.machine.specs.declared.ranges.TheConstants.{STAGES}
use Rattle.rules.specs.declared.operations.Shape.{Shape}
use Rattle.rules.specs.declared.operations.Shape.TheVariants.{Load, Locks}
use Rattle.rules.specs.declared.operations.Locking.TheVariants.{Ll, Store, Sc}
use Rattle.rules.specs.declared.cores.Core.{Core}
use Rattle.rules.specs.declared.state.Machine.{Machine}
use Rattle.rules.proofs.Bools.{and₂, and₃, and₄, same, and_false}
use Rattle.rules.proofs.Accepted.{at_below, core_fits_lem, sizes}

-- what the ranges ask of a core's operation, next step and flags, by whether the operation's number is 0 and by its shape
abbrev stage_fits : Bool → Option Shape → Bool → Bool → ℕ → Bool
stage_fits none s busy passed next =
    (busy || none) && (busy || eqb next 0) && (busy && an_sc s && (eqb next 3 || eqb next 4) || not passed)
    && (not busy || is_some s && (eqb next 1 || not (a_load s) && leb 2 next && leb next 4))

-- a value is in use, and what ll read
abbrev value_used : Option Shape → Bool → Bool
value_used s busy = busy && with_value s

abbrev read_used : Option Shape → Bool → ℕ → Bool
read_used s busy next = busy && an_ll s && eqb next 4

-- two tests say the same
agree : Bool → Bool → Bool
agree true b = b
agree false b = not b

agreed : (a b : Bool) → agree a b ≡ true → a ≡ b
unfolding agree
agreed true b h = sym h
agreed false true h = absurd (false≢true h)
agreed false false h = refl

-- a stage's bits for a value and for what ll read
abbrev in_use : ℕ → ℕ → Bool
in_use stage bit = not (eqb (bit_and stage bit) 0)

abbrev stage_for : Bool → Option Shape → ℕ → ℕ
stage_for none s next = if none then idle_stage next else busy_stage s next

-- one test of each stage of a shape: it is among the stages where it fits, and what it uses there
stage_right : Bool → Option Shape → Bool → Bool → ℕ → Bool
stage_right none s busy passed next =
    agree (can_be_at (stage_for none s next) busy passed) (stage_fits none s busy passed next)
    && (if can_be_at (stage_for none s next) busy passed then agree (in_use (stage_for none s next) value_bit) (value_used s busy) && agree (in_use (stage_for none s next) read_bit) (read_used s busy next) else true)

every_flag : (Bool → Bool → Bool) → Bool
every_flag test = test true true && test true false && (test false true && test false false)

shape_right : Bool → Option Shape → Bool
shape_right none s = every_flag (λ busy passed. all_below 16 (stage_right none s busy passed))

-- the number 0, a number that is no operation's, and each shape's
idle_right : shape_right true None ≡ true
unfolding shape_right every_flag stage_right can_be_at agree
idle_right = refl

shapes_right : (s : Option Shape) → shape_right false s ≡ true
unfolding shape_right every_flag stage_right can_be_at agree
shapes_right None = refl
shapes_right (Some Load) = refl
shapes_right (Some (Locks Ll)) = refl
shapes_right (Some (Locks Store)) = refl
shapes_right (Some (Locks Sc)) = refl

at_flags : (test : Bool → Bool → Bool) (busy passed : Bool) → every_flag test ≡ true → test busy passed ≡ true
unfolding every_flag
at_flags test busy passed h = go busy passed
  where
    t : (test true true && test true false ≡ true) × (test false true && test false false ≡ true)
    t = and₂ (test true true && test true false) (test false true && test false false) h

    go : (busy passed : Bool) → test busy passed ≡ true
    go true true = (and₂ (test true true) (test true false) t.0).0
    go true false = (and₂ (test true true) (test true false) t.0).1
    go false true = (and₂ (test false true) (test false false) t.1).0
    go false false = (and₂ (test false true) (test false false) t.1).1

-- a stage that is one of a shape's
record Staged (none : Bool) (s : Option Shape) (stage : ℕ) (busy passed : Bool) (next : ℕ) : Type 0 where
  fits : can_be_at stage busy passed ≡ stage_fits none s busy passed next
  uses : can_be_at stage busy passed ≡ true → (in_use stage value_bit ≡ value_used s busy) × (in_use stage read_bit ≡ read_used s busy next)

staged_by : (none : Bool) (s : Option Shape) → shape_right none s ≡ true → (busy passed : Bool) (next : ℕ) → next ≤ 15 → Staged none s (stage_for none s next) busy passed next
unfolding shape_right stage_right
staged_by none s h busy passed next n =
    let t = stage_for none s next in
    let all = at_flags (λ busy passed. all_below 16 (stage_right none s busy passed)) busy passed h in
    let both = and₂ (agree (can_be_at t busy passed) (stage_fits none s busy passed next)) _ (at_below 16 (stage_right none s busy passed) next (omega arith) all) in
    record {
      fits = agreed (can_be_at t busy passed) (stage_fits none s busy passed next) both.0;
      uses = λ c. let u = and₂ (agree (in_use t value_bit) (value_used s busy)) (agree (in_use t read_bit) (read_used s busy next)) (rw c at both.1) in
          (agreed (in_use t value_bit) (value_used s busy) u.0, agreed (in_use t read_bit) (read_used s busy next) u.1);
    }

staged : (operation : ℕ) (busy passed : Bool) (next : ℕ) → next ≤ 15 → Staged (eqb operation 0) (shape_of operation) (stage_of operation next) busy passed next
unfolding shape_of
staged operation busy passed next n = go (eqb operation 0) refl
  where
    go : (t : Bool) → eqb operation 0 ≡ t → Staged t (shape_of operation) (stage_for t (shape_of operation) next) busy passed next
    go true e = rw (eqb-true operation 0 e) (staged_by true None idle_right busy passed next n)
    go false e = staged_by false (shape_of operation) (shapes_right (shape_of operation)) busy passed next n

-- a number beyond 15 is no operation's, and that fits nowhere
no_shape : (operation : ℕ) → 15 < operation → shape_of operation ≡ None
unfolding shape_of
no_shape operation l = rw (ne_eqb operation 1 (λ e. omega arith), ne_eqb operation 2 (λ e. omega arith), ne_eqb operation 3 (λ e. omega arith), ne_eqb operation 4 (λ e. omega arith)) refl

shapeless : (busy passed : Bool) (next : ℕ) → stage_fits false None busy passed next ≡ false
shapeless true passed next = simp and_false
shapeless false passed next = refl

far_operation : (operation : ℕ) (busy passed : Bool) (next : ℕ) → 15 < operation → stage_fits (eqb operation 0) (shape_of operation) busy passed next ≡ false
far_operation operation busy passed next l = rw (ne_eqb operation 0 (λ e. omega arith), no_shape operation l) (shapeless busy passed next)

-- a next step beyond 7 fits nowhere
far_step : (none : Bool) (s : Option Shape) (busy passed : Bool) (next : ℕ) → 7 < next → stage_fits none s busy passed next ≡ false
far_step none s true passed next l = rw (ne_eqb next 1 (λ e. omega arith), lt-leb next 4 (omega arith)) (simp and_false)
far_step none s false passed next l = rw (ne_eqb next 0 (λ e. omega arith)) (simp and_false)

-- both numbers are small where their bits together are
pub small_operation : (operation next : ℕ) → bit_or operation next ≤ 15 → operation < 16
small_operation operation next h = let l = le_or_l operation next in omega arith

pub small_next : (operation next : ℕ) → bit_or operation next ≤ 15 → next < 16
small_next operation next h = let l = le_or_r operation next in omega arith

-- the stage's tests together
stage_looks : (operation : ℕ) (busy passed : Bool) (next : ℕ) → (leb (bit_or operation next) 15 && can_be_at (stage_of operation next) busy passed) ≡ stage_fits (eqb operation 0) (shape_of operation) busy passed next
stage_looks operation busy passed next = go (leb (bit_or operation next) 15) refl (leb operation 15) refl (leb next 15) refl
  where
    go : (s : Bool) → leb (bit_or operation next) 15 ≡ s → (t : Bool) → leb operation 15 ≡ t → (u : Bool) → leb next 15 ≡ u
        → (s && can_be_at (stage_of operation next) busy passed) ≡ stage_fits (eqb operation 0) (shape_of operation) busy passed next
    go true o t p u q = (staged operation busy passed next (let l = small_next operation next (leb-true (bit_or operation next) 15 o) in omega arith)).fits
    go false o false p u q = sym (far_operation operation busy passed next (leb-false operation 15 p))
    go false o true p false q = sym (far_step (eqb operation 0) (shape_of operation) busy passed next (let l = leb-false next 15 q in omega arith))
    go false o true p true q =
        let l = or_lt 4 operation next (let a = leb-true operation 15 p in omega arith) (let b = leb-true next 15 q in omega arith) in
        let m = leb-false (bit_or operation next) 15 o in absurd (omega arith)

-- the code's table has each operation's stages
table_right : all_below 16 (λ operation. all_below 16 (λ next. eqb (slice_index_or (slice_index_or {A = List ℕ} STAGES operation []) next 0) (stage_of operation next))) ≡ true
unfolding shape_of
table_right = refl

pub stage_found : (operation next : ℕ) → operation < 16 → next < 16 → slice_index_or (slice_index_or {A = List ℕ} STAGES operation []) next 0 ≡ stage_of operation next
stage_found operation next o n =
    let row = at_below 16 (λ operation. all_below 16 (λ next. eqb (slice_index_or (slice_index_or {A = List ℕ} STAGES operation []) next 0) (stage_of operation next))) operation o table_right in
    eqb-true _ _ (at_below 16 (λ next. eqb (slice_index_or (slice_index_or {A = List ℕ} STAGES operation []) next 0) (stage_of operation next)) next n row)

-- a field is spare or in use
spare_or : (used : Bool) (field : ℕ) → eqb (spare used field) 0 ≡ used || eqb field 0
spare_or true field = refl
spare_or false field = refl

-- one comparison of an address in use, of a memory whose sizes fit, and of one that is not
word_compares : (a bytes : ℕ) → bytes ≤ 65536 → bytes % 4 ≡ 0 → ltb (word_at a) (bytes / 4) ≡ eqb (a % 4) 0 && ltb a bytes
word_compares a bytes h e = go (eqb (a % 4) 0) refl (ltb a bytes) refl
  where
    go : (t : Bool) → eqb (a % 4) 0 ≡ t → (u : Bool) → ltb a bytes ≡ u → ltb (word_at a) (bytes / 4) ≡ t && u
    go true p true q = let m = eqb-true (a % 4) 0 p in let l = ltb-true a bytes q in lt-ltb (word_at a) (bytes / 4) (omega arith)
    go true p false q = let m = eqb-true (a % 4) 0 p in let l = ltb-false a bytes q in le-ltb (word_at a) (bytes / 4) (omega arith)
    go false p u q = let m = eqb-false (a % 4) 0 p in le-ltb (word_at a) (bytes / 4) (omega arith)

word_nowhere : (a : ℕ) → ltb (word_at a) 1 ≡ eqb a 0
word_nowhere a = go (eqb a 0) refl
  where
    go : (t : Bool) → eqb a 0 ≡ t → ltb (word_at a) 1 ≡ t
    go true p = let m = eqb-true a 0 p in lt-ltb (word_at a) 1 (omega arith)
    go false p = let m = eqb-false a 0 p in le-ltb (word_at a) 1 (omega arith)

-- an address rotated by two bits is its word's number, with its two lowest bits above it
pub rotated : (n : ℕ) → n < 2 ^ 32 → rotate_right w32 n 2 ≡ word_at n
rotated n l =
    let high : n * 1073741824 % 4294967296 ≡ n % 4 * 2 ^ 30 = omega arith in
    or_comm (n / 4) (n * 1073741824 % 4294967296) ∙ rw high (or_shifted (n % 4) 30 (n / 4) (omega arith) ∙ omega arith)

abbrev room_of : Bool → ℕ → ℕ
room_of used words = room_in (rooms_of words) used

-- an address, in use and inside, or 0
module _ (bytes : ℕ) (h : bytes ≤ 65536) (e : bytes % 4 ≡ 0) where
  abbrev address_fits : Bool → ℕ → Bool
  address_fits used a = (used || eqb a 0) && (not used || eqb (a % 4) 0 && ltb a bytes)

  address_looks : (used : Bool) (a : ℕ) → ltb (word_at a) (room_of used (bytes / 4)) ≡ address_fits used a
  address_looks true a = word_compares a bytes h e
  address_looks false a = word_nowhere a ∙ sym (and-true (eqb a 0))

-- The tests of the two sides, each side's in its own order. The look's: the place; the stage's two, value and read, then of address and link where they can be. The
-- ranges': operation, next step, passed, what occurs, value and read, address and link in use or 0 and inside; the place.
module _ (n b v r a< k< : Bool) (o m u f v' r' a k aᵢ kᵢ p : Bool)
    (stage : (n && b) ≡ o && m && u && f)
    (uses : (n && b) ≡ true → (v ≡ v') × (r ≡ r'))
    (address : a< ≡ a && aᵢ) (link : k< ≡ k && kᵢ) where
  abbrev looks : Bool
  looks = p && (n && (b && (v && r) && a< && k<))

  abbrev asked : Bool
  asked = ((o && m && a) && (v' && r' && u) && k) && (f && (aᵢ && kᵢ) && p)

  looks_asked : looks ≡ true → asked ≡ true
  looks_asked h =
      let g = and₂ p (n && (b && (v && r) && a< && k<)) h in
      let c = and₂ n (b && (v && r) && a< && k<) g.1 in
      let d = and₃ (b && (v && r)) a< k< c.1 in
      let e = and₂ b (v && r) d.0 in
      let z = and₂ v r e.1 in
      let st : n && b ≡ true = rw (c.0, e.0) in
      let w = and₄ o m u f (sym stage ∙ st) in
      let ad = and₂ a aᵢ (sym address ∙ d.1) in
      let li = and₂ k kᵢ (sym link ∙ d.2) in
      rw (w.0, w.1, ad.0, sym (uses st).0 ∙ z.0, sym (uses st).1 ∙ z.1, w.2, li.0, w.3, ad.1, li.1, g.0)

  asked_looks : asked ≡ true → looks ≡ true
  asked_looks h =
      let t = and₂ ((o && m && a) && (v' && r' && u) && k) (f && (aᵢ && kᵢ) && p) h in
      let c = and₃ (o && m && a) (v' && r' && u) k t.0 in
      let d = and₃ f (aᵢ && kᵢ) p t.1 in
      let e = and₃ o m a c.0 in
      let g = and₃ v' r' u c.1 in
      let z = and₂ aᵢ kᵢ d.1 in
      let st : n && b ≡ true = stage ∙ rw (e.0, e.1, g.2, d.0) in
      let w = and₂ n b st in
      let ad : a && aᵢ ≡ true = rw (e.2, z.0) in
      let li : k && kᵢ ≡ true = rw (c.2, z.1) in
      rw (w.0, w.1, (uses st).0 ∙ g.0, (uses st).1 ∙ g.1, address ∙ ad, link ∙ li, d.2)

  in_order : looks ≡ asked
  in_order = same looks asked looks_asked asked_looks

-- one core
module _ (count bytes i : ℕ) (c : Core) (h : bytes ≤ 65536) (e : bytes % 4 ≡ 0) where
  abbrev stage : ℕ
  stage = stage_of c.operation c.next

  abbrev numbers : Bool
  numbers = leb (bit_or c.operation c.next) 15

  uses_alike : (numbers && can_be_at stage c.busy c.passed) ≡ true
      → (eqb (spare (in_use stage value_bit) c.value) 0 ≡ value_used (shape_of c.operation) c.busy || eqb c.value 0) × (eqb (spare (in_use stage read_bit) c.read) 0 ≡ read_used (shape_of c.operation) c.busy c.next || eqb c.read 0)
  uses_alike h =
      let t = and₂ numbers (can_be_at stage c.busy c.passed) h in
      let l = small_next c.operation c.next (leb-true (bit_or c.operation c.next) 15 t.0) in
      let u = (staged c.operation c.busy c.passed c.next (omega arith)).uses t.1 in
      (rw u.0 (spare_or (value_used (shape_of c.operation) c.busy) c.value), rw u.1 (spare_or (read_used (shape_of c.operation) c.busy c.next) c.read))

  core_looks : (place_fits count i c && core_looks_right (rooms_of (bytes / 4)) c) ≡ core_fits count bytes i c
  unfolding core_looks_right looks_right_at spare_are0 core_fits
  core_looks =
      let words = bytes / 4 in
      in_order
      numbers (can_be_at stage c.busy c.passed) (eqb (spare (in_use stage value_bit) c.value) 0) (eqb (spare (in_use stage read_bit) c.read) 0)
      (ltb (word_at c.address.0) (room_of c.busy words)) (ltb (word_at c.link.0) (room_of c.linked words))
      (c.busy || eqb c.operation 0) (c.busy || eqb c.next 0) (uses_passed c || not c.passed) (operation_fits c) (in_use_or0 (uses_value c) c.value) (in_use_or0 (uses_read c) c.read)
      (in_use_or0 c.busy c.address.0) (link_fields c) (not c.busy || inside bytes c.address) (not c.linked || inside bytes c.link) (place_fits count i c)
      (stage_looks c.operation c.busy c.passed c.next) uses_alike (address_looks bytes h e c.busy c.address.0) (address_looks bytes h e c.linked c.link.0)

-- where the sizes fit, the look at a core asks what the ranges ask of it
alike : (m : Machine) → sizes_fit m ≡ true → (i : ℕ) → fits_at m i ≡ core_fits m.count m.bytes i (core_at m i)
unfolding fits_at
alike m h i = let s = sizes m h in core_looks m.count m.bytes i (core_at m i) s.most_bytes s.words

-- and so the look tells whether the state is in its ranges: sizes that do not fit, a core that does not, or all that fit
pub no_sizes : (m : Machine) → sizes_fit m ≡ false → in_ranges m ≡ false
unfolding in_ranges
no_sizes m h = rw h

-- a core below the count is in its place, and one at or above it where it is neither busy nor linked
pub in_place : (count i : ℕ) (c : Core) → i < count → place_fits count i c ≡ true
in_place count i c l = rw (lt-ltb i count l) refl

pub out_of_place : (count i : ℕ) (c : Core) → count ≤ i → place_fits count i c ≡ not (c.busy || c.linked)
out_of_place count i c l = rw (le-ltb i count l) refl

pub few_cores : (m : Machine) → sizes_fit m ≡ true → m.count ≤ 8
few_cores m h = (sizes m h).most_cores

pub few_bytes : (m : Machine) → sizes_fit m ≡ true → m.bytes ≤ 65536
few_bytes m h = (sizes m h).most_bytes

pub a_core_out : (m : Machine) (i : ℕ) → sizes_fit m ≡ true → i < 8 → fits_at m i ≡ false → in_ranges m ≡ false
a_core_out m i h below out = go (in_ranges m) refl
  where
    go : (t : Bool) → in_ranges m ≡ t → t ≡ false
    go true r = absurd (false≢true (sym out ∙ alike m h i ∙ core_fits_lem m r i below))
    go false r = refl

pub all_looked : (m : Machine) → sizes_fit m ≡ true → all_below 8 (fits_at m) ≡ true → in_ranges m ≡ true
unfolding in_ranges
all_looked m h all = rw (h, ← alike m h 0, ← alike m h 1, ← alike m h 2, ← alike m h 3, ← alike m h 4, ← alike m h 5, ← alike m h 6, ← alike m h 7) all
