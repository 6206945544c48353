-- The tables of operations and of kinds fit together: an operation's number has its shape, and the kind that its access makes acts as its shape does. Here alone the operations and the kinds are gone through.
-- Assumes nothing.
use Rattle.std.proofs.Common.{◌≡◌, ℕ, Bool, true, false, eqb, Option, Some, None, refl, sym, ap, ◌∙◌, subst, eqb-true, if◌then◌else◌}
use Rattle.rules.specs.Kinds.{kind_number, kind_at, KindRule, rule_of, no_rule, rule_or_none, rule_at}
use Rattle.rules.specs.Operations.{code_of, shape_of, kind_of, shape}
use Rattle.rules.specs.declared.kinds.Kind.{Kind}
use Rattle.rules.specs.declared.kinds.Kind.TheVariants as Kinds
use Rattle.rules.specs.declared.operations.Operation.{Operation}
use Rattle.rules.specs.declared.operations.Operation.TheVariants as Asked
use Rattle.rules.specs.declared.operations.Shape.{Shape}
use Rattle.rules.specs.declared.operations.Shape.TheVariants.{Load, Locks}
use Rattle.rules.specs.declared.operations.Locking.{Locking}
use Rattle.rules.specs.declared.operations.Locking.TheVariants.{Ll, Store, Sc}
use Rattle.rules.proofs.Numbers.{of_both}

-- an operation's number has its shape
pub shape_given : (o : Operation) → shape_of (code_of o) ≡ Some (shape o)
unfolding shape_of
shape_given (Asked.Load a) = refl
shape_given (Asked.Ll a) = refl
shape_given (Asked.Store a v) = refl
shape_given (Asked.Sc a v) = refl

-- what the access of a shape does
abbrev pub sc_rule : Bool → KindRule
sc_rule passed = if passed then rule_of Kinds.Success else rule_of Kinds.Failure

abbrev pub locking_rule : Locking → Bool → KindRule
locking_rule Ll passed = rule_of Kinds.Ll
locking_rule Store passed = rule_of Kinds.Store
locking_rule Sc passed = sc_rule passed

abbrev pub shape_rule : Option Shape → Bool → KindRule
shape_rule None passed = no_rule
shape_rule (Some Load) passed = rule_of Kinds.Load
shape_rule (Some (Locks l)) passed = locking_rule l passed

-- what holds of both sides of a choice, taken twice by one test
twice : {A B : Type 0} (P : A → B → Type 0) (t : Bool) {a c : A} {b d : B} → P a b → P c d → P (if t then a else c) (if t then b else d)
twice P true p q = p
twice P false p q = q

-- by an operation's number
pub rule_by_shape : (operation : ℕ) (passed : Bool) → rule_at (kind_of operation passed) ≡ shape_rule (shape_of operation) passed
unfolding shape_of kind_of rule_at kind_at
rule_by_shape operation passed =
    twice Acts (eqb operation 1) refl
    (twice Acts (eqb operation 2) refl
    (twice Acts (eqb operation 3) refl
    (twice Acts (eqb operation 4) (sc passed)
    refl)))
  where
    Acts : ℕ → Option Shape → Type 0
    Acts kind s = rule_at kind ≡ shape_rule s passed

    sc : (p : Bool) → rule_at (if p then kind_number Kinds.Success else kind_number Kinds.Failure) ≡ sc_rule p
    sc true = refl
    sc false = refl

pub rule_made : (o : Operation) (passed : Bool) → rule_at (kind_of (code_of o) passed) ≡ shape_rule (Some (shape o)) passed
rule_made o passed = rule_by_shape (code_of o) passed ∙ ap (λ (s : Option Shape). shape_rule s passed) (shape_given o)

-- what holds of each row holds of every number's rule
pub by_rule : (P : KindRule → Type 0) → P (rule_of Kinds.Load) → P (rule_of Kinds.Ll) → P (rule_of Kinds.Store) → P (rule_of Kinds.Success) → P (rule_of Kinds.Failure) → P (rule_of Kinds.Poke) → P no_rule
    → (kind : ℕ) → P (rule_at kind)
unfolding rule_at kind_at
by_rule P load ll store success failure poke none kind =
    of_both Holds (eqb kind 1) load
    (of_both Holds (eqb kind 2) ll
    (of_both Holds (eqb kind 3) store
    (of_both Holds (eqb kind 4) success
    (of_both Holds (eqb kind 5) failure
    (of_both Holds (eqb kind 6) poke
    none)))))
  where
    Holds : Option Kind → Type 0
    Holds k = P (rule_or_none k)

-- a kind's number has its row
pub rule_numbered : (k : Kind) → rule_at (kind_number k) ≡ rule_of k
unfolding rule_at kind_at
rule_numbered Kinds.Load = refl
rule_numbered Kinds.Ll = refl
rule_numbered Kinds.Store = refl
rule_numbered Kinds.Success = refl
rule_numbered Kinds.Failure = refl
rule_numbered Kinds.Poke = refl

-- a number is a kind's, or no kind has it
pub by_number : (P : ℕ → Type 0) → ((k : Kind) → P (kind_number k)) → ((kind : ℕ) → rule_at kind ≡ no_rule → P kind) → (kind : ℕ) → P kind
unfolding rule_at kind_at
by_number P known other kind =
    is Kinds.Load (λ e₁.
    is Kinds.Ll (λ e₂.
    is Kinds.Store (λ e₃.
    is Kinds.Success (λ e₄.
    is Kinds.Failure (λ e₅.
    is Kinds.Poke (λ e₆.
    other kind (rw (e₁, e₂, e₃, e₄, e₅, e₆))))))))
  where
    -- it is this kind's, or else not
    is : (k : Kind) → (eqb kind (kind_number k) ≡ false → P kind) → P kind
    is k else' = go (eqb kind (kind_number k)) refl
      where
        go : (t : Bool) → eqb kind (kind_number k) ≡ t → P kind
        go true e = subst P (sym (eqb-true kind (kind_number k) e)) (known k)
        go false e = else' e
