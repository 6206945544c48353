-- A core that fits still fits after it is given an operation and after each of its micro-steps, and so does the machine that holds it.
-- Assumes nothing.
use Rattle.std.proofs.Common.{◌≡◌, ℕ, zero, suc, ◌<◌, Bool, true, false, not, ◌||◌, eqb, ltb, leb, List, length, get_or, set, replicate, Option, Some, None, refl, ap, ◌∙◌, get_or-set_other, get_or-set_same, ltb-false, ltb-true, lt-ltb, eq-eqb, eqb-true, if◌then◌else◌}
use lib.Seq.{set_out}
use borrow.Author.Tests.{eqb-false}
use Rattle.rules.specs.Operations.{address_of, shape_of}
use Rattle.rules.specs.Life.{resting, idle, given, advanced, judged, passes, step_by, micro_step, load_step, lock_step, mark_step, access_step, ll_access, sc_access}
use Rattle.rules.specs.Ranges.{value_fields, link_fields, operation_occurs, step_occurs, operation_fits, inside, place_fits, core_fits, core_at, every_core_fits, sizes_fit, in_ranges}
use Rattle.rules.specs.Calls.{all_idle, with_core}
use Rattle.rules.specs.Sizes.{cores_fit, bytes_fit, entries_fit}
use Rattle.rules.specs.declared.operations.Operation.{Operation}
use Rattle.rules.specs.declared.operations.Operation.TheVariants as Asked
use Rattle.rules.specs.declared.operations.Shape.{Shape}
use Rattle.rules.specs.declared.operations.Shape.TheVariants.{Load, Locks}
use Rattle.rules.specs.declared.operations.Locking.{Locking}
use Rattle.rules.specs.declared.operations.Locking.TheVariants.{Ll, Store, Sc}
use Rattle.rules.specs.declared.cores.Core.{Core}
use Rattle.rules.specs.declared.cores.MicroStep.{MicroStep}
use Rattle.rules.specs.declared.state.Machine.{Machine}
use Rattle.rules.proofs.Bools.{all_below_lem, and₂, and₃, or_true, in_use}
use Rattle.rules.proofs.Accepted.{Fits, fits, Inside, core_fits_lem}
use Rattle.rules.proofs.Numbers.{of_both}
use Rattle.rules.proofs.Shapes.{shape_given}

-- the tests together again
pub all_fit : {count bytes i : ℕ} (c : Core) → Fits count bytes i c → core_fits count bytes i c ≡ true
unfolding core_fits
all_fit c f = rw (f.operation_fields_lem, f.value_fields_lem, f.link_fields_lem, f.operation_fits_lem, f.addresses_fit_lem, f.place_fits_lem)

-- a core below the count has its place
placed : {count i : ℕ} (c : Core) → i < count → place_fits count i c ≡ true
placed c l = rw (lt-ltb _ _ l)

-- a core that rests keeps what was true of its link
pub resting_fits : {count bytes i : ℕ} (c : Core) → i < count → Fits count bytes i c → core_fits count bytes i (resting c.linked c.link) ≡ true
resting_fits {bytes = bytes} c l f =
    all_fit (resting c.linked c.link)
    (record {
      operation_fields_lem = refl;
      value_fields_lem = refl;
      link_fields_lem = f.link_fields_lem;
      operation_fits_lem = refl;
      addresses_fit_lem = (and₂ (not c.busy || inside bytes c.address) (not c.linked || inside bytes c.link) f.addresses_fit_lem).1;
      place_fits_lem = placed (resting c.linked c.link) l;
    })

-- a busy core in the middle of an operation: what of the old core bears on the new one, and what is new
module _ {count bytes i : ℕ} (c : Core) (l : i < count) (f : Fits count bytes i c) (b : c.busy ≡ true) where
  address_inside : inside bytes c.address ≡ true
  address_inside =
      in_use c.busy (inside bytes c.address) b
      (and₂ (not c.busy || inside bytes c.address) (not c.linked || inside bytes c.link) f.addresses_fit_lem).0

  link_inside : not c.linked || inside bytes c.link ≡ true
  link_inside = (and₂ (not c.busy || inside bytes c.address) (not c.linked || inside bytes c.link) f.addresses_fit_lem).1

  occurs : (operation_occurs c.operation ≡ true) × (step_occurs c.operation c.next ≡ true)
  occurs = and₂ (operation_occurs c.operation) (step_occurs c.operation c.next) (in_use c.busy _ b f.operation_fits_lem)

  -- a core that is still at its operation
  middle : (c' : Core) → c'.busy ≡ true → operation_occurs c'.operation ≡ true → step_occurs c'.operation c'.next ≡ true → value_fields c' ≡ true → link_fields c' ≡ true
      → inside bytes c'.address ≡ true → not c'.linked || inside bytes c'.link ≡ true → core_fits count bytes i c' ≡ true
  middle c' busy op step value link at near =
      all_fit c' (record { operation_fields_lem = rw busy; value_fields_lem = value; link_fields_lem = link; operation_fits_lem = rw (busy, op, step); addresses_fit_lem = rw (busy, at, near); place_fits_lem = placed c' l })

  -- the same operation at its next step
  onward : (c' : Core) → c'.busy ≡ c.busy → c'.operation ≡ c.operation → c'.address ≡ c.address → step_occurs c.operation c'.next ≡ true → value_fields c' ≡ true → link_fields c' ≡ true
      → not c'.linked || inside bytes c'.link ≡ true → core_fits count bytes i c' ≡ true
  onward c' busy op address step value link near =
      middle c' (busy ∙ b) (ap operation_occurs op ∙ occurs.0) (ap (λ (k : ℕ). step_occurs k c'.next) op ∙ step) value link (ap (inside bytes) address ∙ address_inside) near

  -- an operation that takes the lock
  module _ (s : Locking) (e : shape_of c.operation ≡ Some (Locks s)) where
    -- it has the steps 2 to 4
    has_step : (next : ℕ) → leb 2 next ≡ true → leb next 4 ≡ true → step_occurs c.operation next ≡ true
    has_step next low high = rw (e, low, high) (or_true (eqb next 1))

    -- at its next step with the same fields
    lock_kept : c.next ≡ 1 → core_fits count bytes i (advanced c 2) ≡ true
    lock_kept n = onward (advanced c 2) refl refl refl (has_step 2 refl refl) (go s e) f.link_fields_lem link_inside
      where
        go : (l : Locking) → shape_of c.operation ≡ Some (Locks l) → value_fields (advanced c 2) ≡ true
        go Ll k = rw (b, k) (rw (b, k, n) at f.value_fields_lem)
        go Store k = rw (b, k) (rw (b, k) at f.value_fields_lem)
        go Sc k = rw (b, k) (rw (b, k, n) at f.value_fields_lem)

  mark_kept : (s : Locking) → shape_of c.operation ≡ Some (Locks s) → (owner holder : ℕ) → c.next ≡ 2 → core_fits count bytes i (mark_step s i c owner holder).core ≡ true
  unfolding mark_step
  mark_kept Ll e owner holder n = onward (advanced c 3) refl refl refl (has_step Ll e 3 refl refl) (rw (b, e) (rw (b, e, n) at f.value_fields_lem)) f.link_fields_lem link_inside
  mark_kept Store e owner holder n = onward (advanced c 3) refl refl refl (has_step Store e 3 refl refl) (rw (b, e) (rw (b, e) at f.value_fields_lem)) f.link_fields_lem link_inside
  mark_kept Sc e owner holder n =
      onward (judged c (passes i c owner)) refl refl refl (has_step Sc e 3 refl refl)
      (rw (b, e, (and₂ (eqb c.read 0) (not c.passed) (rw (b, e, n) at f.value_fields_lem)).0))
      f.link_fields_lem link_inside

  access_kept : (s : Locking) → shape_of c.operation ≡ Some (Locks s) → (owner holder word : ℕ) → c.next ≡ 3 → core_fits count bytes i (access_step s i c owner holder word).core ≡ true
  unfolding access_step
  access_kept Ll e owner holder word n =
      let old = and₃ (eqb c.value 0) (eqb c.read 0) (not c.passed) (rw (b, e, n) at f.value_fields_lem) in
      onward (ll_access i c 0 0 word).core refl refl refl (has_step Ll e 4 refl refl) (rw (b, e, old.0, old.2)) refl address_inside
  access_kept Store e owner holder word n = onward (advanced c 4) refl refl refl (has_step Store e 4 refl refl) (rw (b, e) (rw (b, e) at f.value_fields_lem)) f.link_fields_lem link_inside
  access_kept Sc e owner holder word n = onward (sc_access i c 0 0).core refl refl refl (has_step Sc e 4 refl refl) (rw (b, e) (rw (b, e, n) at f.value_fields_lem)) refl refl

-- by a choice's test, with what it says
pub of_cases : {A : Type 0} (P : A → Type 0) (t : Bool) {a b : A} → (t ≡ true → P a) → (t ≡ false → P b) → P (if t then a else b)
of_cases P true p q = p refl
of_cases P false p q = q refl

-- each micro-step
pub micro_kept : (count bytes me : ℕ) (c : Core) (owner holder word : ℕ) → me < count → core_fits count bytes me c ≡ true → c.busy ≡ true
    → core_fits count bytes me (micro_step me c owner holder word).core ≡ true
unfolding micro_step load_step lock_step
micro_kept count bytes me c owner holder word l h b = go (shape_of c.operation) refl
  where
    P : MicroStep → Type 0
    P s = core_fits count bytes me s.core ≡ true

    f : Fits count bytes me c
    f = fits count bytes me c h

    go : (s : Option Shape) → shape_of c.operation ≡ s → P (step_by s me c owner holder word)
    go None e = h
    go (Some Load) e = resting_fits c l f
    go (Some (Locks s)) e =
        of_cases P (eqb c.next 1) (λ n. of_both P (eqb holder 0) (lock_kept c l f b s e (eqb-true _ _ n)) h) (λ n₁.
        of_cases P (eqb c.next 2) (λ n. mark_kept c l f b s e owner holder (eqb-true _ _ n)) (λ n₂.
        of_cases P (eqb c.next 3) (λ n. access_kept c l f b s e owner holder word (eqb-true _ _ n)) (λ n₃. resting_fits c l f)))

-- an operation given
pub given_kept : {count bytes : ℕ} (i : ℕ) (c : Core) (o : Operation) → i < count → core_fits count bytes i c ≡ true → Inside bytes (address_of o) → core_fits count bytes i (given c o) ≡ true
unfolding shape_of
given_kept {count} {bytes} i c o l h at =
    all_fit (given c o)
    (record {
      operation_fields_lem = refl;
      value_fields_lem = value o;
      link_fields_lem = f.link_fields_lem;
      operation_fits_lem = occurs_given o;
      addresses_fit_lem = rw (eq-eqb _ _ at.aligned, lt-ltb _ _ at.below) (and₂ (not c.busy || inside bytes c.address) (not c.linked || inside bytes c.link) f.addresses_fit_lem).1;
      place_fits_lem = placed (given c o) l;
    })
  where
    f : Fits count bytes i c
    f = fits count bytes i c h

    value : (o : Operation) → value_fields (given c o) ≡ true
    value (Asked.Load a) = refl
    value (Asked.Ll a) = refl
    value (Asked.Store a v) = refl
    value (Asked.Sc a v) = refl

    occurs_given : (o : Operation) → operation_fits (given c o) ≡ true
    occurs_given o = rw (shape_given o)

-- an element of a list with one element set is that one or the old one
pub set_or_old : {A : Type 0} (P : A → Type 0) (list : List A) (i j : ℕ) (a d : A) → (j ≡ i → P a) → P (get_or list j d) → P (get_or (set list i a) j d)
set_or_old P list i j a d new old = go (eqb j i) refl (ltb i (length list)) refl
  where
    go : (t : Bool) → eqb j i ≡ t → (u : Bool) → ltb i (length list) ≡ u → P (get_or (set list i a) j d)
    go true e true l = rw (eqb-true j i e, get_or-set_same list i a d (ltb-true i (length list) l)) (new (eqb-true j i e))
    go true e false l = rw (set_out list i a (ltb-false i (length list) l)) old
    go false e u l = rw (get_or-set_other list i j a d (eqb-false j i e)) old

-- a machine of idle cores
pub idle_anywhere : (n i : ℕ) → get_or (replicate n idle) i idle ≡ idle
idle_anywhere zero i = refl
idle_anywhere (suc n) zero = refl
idle_anywhere (suc n) (suc i) = idle_anywhere n i

idle_fits : (count bytes i : ℕ) → core_fits count bytes i idle ≡ true
idle_fits count bytes i =
    all_fit idle (record { operation_fields_lem = refl; value_fields_lem = refl; link_fields_lem = refl; operation_fits_lem = refl; addresses_fit_lem = refl; place_fits_lem = or_true (ltb i count) })

pub fresh_fits : (count bytes entries : ℕ) → cores_fit count ≡ true → bytes_fit bytes ≡ true → entries_fit entries ≡ true → in_ranges (all_idle count bytes entries) ≡ true
unfolding in_ranges
fresh_fits count bytes entries p q r =
    rw (p, q, r) (all_below_lem 8 (λ k. core_fits count bytes k (core_at (all_idle count bytes entries) k)) (λ k l. ap (core_fits count bytes k) (idle_anywhere 8 k) ∙ idle_fits count bytes k))

-- a machine with one core renewed
pub machine_kept : (m : Machine) (core : ℕ) (c : Core) → in_ranges m ≡ true → core_fits m.count m.bytes core c ≡ true → in_ranges (with_core m core c) ≡ true
unfolding in_ranges
machine_kept m core c h new =
    let t = and₂ (sizes_fit m) (every_core_fits m) h in
    rw t.0 (all_below_lem 8 (λ k. core_fits m.count m.bytes k (core_at (with_core m core c) k))
    (λ k l. set_or_old (λ (d : Core). core_fits m.count m.bytes k d ≡ true) m.cores core k c idle (λ e. ap (λ (j : ℕ). core_fits m.count m.bytes j c) e ∙ new) (core_fits_lem m h k l)))
