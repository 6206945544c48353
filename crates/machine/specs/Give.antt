-- A give for a caller that knows its machine to be in its ranges and keeps it, which sees the sizes and one core; and a give on the machine where it stands.
use Rattle.std.specs.Prelude.{◌%◌, ℕ, Result, Ok, Err, None, nat_le, if◌then◌else◌}
use Rattle.rules.specs.Operations.{address_of}
use Rattle.rules.specs.Life.{given}
use Rattle.rules.specs.Refusals.{Tested, unless_refused}
use Rattle.rules.specs.Calls.{refused, answered, with_core, address_refusal}
use Rattle.rules.specs.declared.operations.Operation.{Operation}
use Rattle.rules.specs.declared.answers.Answer.{Answer}
use Rattle.rules.specs.declared.answers.Answer.TheVariants.{Taken}
use Rattle.rules.specs.declared.refusals.Refusal.{Refusal}
use Rattle.rules.specs.declared.refusals.Refusal.TheVariants.{NoSuchCore, Busy}
use Rattle.rules.specs.declared.cores.Core.{Core}
use Rattle.rules.specs.declared.state.Machine.{Machine}
use Rattle.rules.specs.declared.state.Called.{Called}
use Rattle.machine.specs.declared.sizes.Sizes.{Sizes}

-- a give's refusals but for a state out of its ranges, which is left to the caller
unfoldable pub known_give_refusal : Sizes → Core → ℕ → Operation → Tested
known_give_refusal s c core o =
    if nat_le s.count core then Err NoSuchCore else if c.busy then Err Busy else address_refusal s.bytes (address_of o)

unfoldable pub give_core_of : Sizes → Core → ℕ → Operation → Result Core Refusal
give_core_of s c core o = unless_refused (known_give_refusal s c core o) (λ r. Err r) (Ok (given c o))

-- what the caller makes of it: the core is put in its place, and a refusal leaves the machine
abbrev pub called_by_give : Machine → ℕ → Result Core Refusal → Called
called_by_give m core (Ok c) = answered Taken (with_core m (core % 8) c)
called_by_give m core (Err r) = refused r m

-- on the machine where it stands: the result and the machine that it leaves are what `give` hands back
abbrev pub given_at : Result Answer Refusal → Machine → Called
given_at answer m = record { answer = answer; made = None; machine = m }
