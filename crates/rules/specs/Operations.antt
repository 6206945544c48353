-- RULES 2.3: "A core can do four operations: load, load-link (ll), store and store-conditional (sc)."
-- Of each: the number that a core's state keeps it by, its shape, which says what steps it has, and the kind of record that its access step makes. Every step goes by the shape; the number stands in the state alone, and the kind in the record.
use Rattle.std.specs.Prelude.{ℕ, Bool, true, false, Option, Some, None, ◌==◌, if◌then◌else◌}
use Rattle.rules.specs.Kinds.{kind_number}
use Rattle.rules.specs.declared.entry.GuestAddress.{GuestAddress}
use Rattle.rules.specs.declared.kinds.Kind.TheVariants as Kind
use Rattle.rules.specs.declared.operations.Operation.{Operation}
use Rattle.rules.specs.declared.operations.Operation.TheVariants as Asked
use Rattle.rules.specs.declared.operations.Shape.{Shape}
use Rattle.rules.specs.declared.operations.Shape.TheVariants.{Load, Locks}
use Rattle.rules.specs.declared.operations.Locking.TheVariants.{Ll, Store, Sc}

-- RULES 4.30: "A core keeps its operation as a number: 1 load, 2 ll, 3 store, 4 sc"
abbrev pub code_of : Operation → ℕ
code_of (Asked.Load a) = 1
code_of (Asked.Ll a) = 2
code_of (Asked.Store a v) = 3
code_of (Asked.Sc a v) = 4

-- the operation that a number asks for, if there is one (RULES 13.3): a load and an ll look at no value
unfoldable pub asked_of : ℕ → GuestAddress → ℕ → Option Operation
asked_of code a value =
    if code == 1 then Some (Asked.Load a)
    else if code == 2 then Some (Asked.Ll a)
    else if code == 3 then Some (Asked.Store a value)
    else if code == 4 then Some (Asked.Sc a value)
    else None

-- RULES 2.3: "Each is on one aligned word."
abbrev pub address_of : Operation → GuestAddress
address_of (Asked.Load a) = a
address_of (Asked.Ll a) = a
address_of (Asked.Store a v) = a
address_of (Asked.Sc a v) = a

-- RULES 4.25: "A busy core uses the value where the operation is a store or an sc."; elsewhere it is 0 (RULES 4.23)
abbrev pub value_of : Operation → ℕ
value_of (Asked.Load a) = 0
value_of (Asked.Ll a) = 0
value_of (Asked.Store a v) = v
value_of (Asked.Sc a v) = v

-- an operation's shape, by its number
-- RULES 4.4: "A load has a single step"
-- RULES 4.5: "An ll, a store and an sc have four steps each."
unfoldable pub shape_of : ℕ → Option Shape
shape_of operation =
    if operation == 1 then Some Load
    else if operation == 2 then Some (Locks Ll)
    else if operation == 3 then Some (Locks Store)
    else if operation == 4 then Some (Locks Sc)
    else None

-- the kind of record (RULES 7.5) that its access step makes: an sc makes one of two
unfoldable pub kind_of : ℕ → Bool → ℕ
kind_of operation passed =
    if operation == 1 then kind_number Kind.Load
    else if operation == 2 then kind_number Kind.Ll
    else if operation == 3 then kind_number Kind.Store
    else if operation == 4 then if passed then kind_number Kind.Success else kind_number Kind.Failure
    else 0

-- the shape of an operation that is asked for
abbrev pub shape : Operation → Shape
shape (Asked.Load a) = Load
shape (Asked.Ll a) = Locks Ll
shape (Asked.Store a v) = Locks Store
shape (Asked.Sc a v) = Locks Sc

-- the shapes, one by one
abbrev pub a_load : Option Shape → Bool
a_load None = false
a_load (Some Load) = true
a_load (Some (Locks l)) = false

abbrev pub an_ll : Option Shape → Bool
an_ll None = false
an_ll (Some Load) = false
an_ll (Some (Locks Ll)) = true
an_ll (Some (Locks Store)) = false
an_ll (Some (Locks Sc)) = false

abbrev pub an_sc : Option Shape → Bool
an_sc None = false
an_sc (Some Load) = false
an_sc (Some (Locks Ll)) = false
an_sc (Some (Locks Store)) = false
an_sc (Some (Locks Sc)) = true

-- those that are given a value to write
abbrev pub with_value : Option Shape → Bool
with_value None = false
with_value (Some Load) = false
with_value (Some (Locks Ll)) = false
with_value (Some (Locks Store)) = true
with_value (Some (Locks Sc)) = true
