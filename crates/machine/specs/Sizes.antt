-- The sizes of a machine.
use Rattle.machine.specs.declared.sizes.Sizes.{Sizes}
use Rattle.rules.specs.declared.state.Machine.{Machine}

abbrev pub sizes_of : Machine → Sizes
sizes_of m = record { count = m.count; bytes = m.bytes; entries = m.entries }
