-- The kinds of record, and what an access of each does: a row a kind. All that goes by kinds goes by these rows.
use Rattle.std.specs.Prelude.{ℕ, Bool, true, false, Option, Some, None, ◌==◌, if◌then◌else◌}
use Rattle.rules.specs.Sizes.{written}
use Rattle.rules.specs.declared.kinds.Kind.{Kind}
use Rattle.rules.specs.declared.kinds.Kind.TheVariants.{Load, Ll, Store, Success, Failure, Poke}

-- RULES 7.5: "The kinds are: 1, a load; 2, an ll; 3, a store; 4, an sc that succeeded; 5, an sc that failed; 6, a poke."
abbrev pub kind_number : Kind → ℕ
kind_number Load = 1
kind_number Ll = 2
kind_number Store = 3
kind_number Success = 4
kind_number Failure = 5
kind_number Poke = 6

-- the kind that has a number, if one has it
unfoldable pub kind_at : ℕ → Option Kind
kind_at number =
    if number == kind_number Load then Some Load
    else if number == kind_number Ll then Some Ll
    else if number == kind_number Store then Some Store
    else if number == kind_number Success then Some Success
    else if number == kind_number Failure then Some Failure
    else if number == kind_number Poke then Some Poke
    else None

-- RULES 7.4: "the core, 0 to 7; a poke has 255"
abbrev pub poke_core : ℕ
poke_core = 255

-- what an access does with its value: it read it in memory, wrote it there, or neither
pub data Memory : Type 0 where
  reads : Memory
  writes : Memory
  neither : Memory

-- what it makes of its core's link
pub data LinkRule : Type 0 where
  keeps : LinkRule
  links : LinkRule
  unlinks : LinkRule

-- what it makes of its entry's owner mark: leave it, set it to its core, clear it, or clear another core's
pub data MarkRule : Type 0 where
  leaves : MarkRule
  marks : MarkRule
  clears : MarkRule
  clears_foreign : MarkRule

pub record KindRule : Type 0 where
  pub memory : Memory
  pub link : LinkRule
  pub mark : MarkRule

abbrev pub row : Memory → LinkRule → MarkRule → KindRule
row memory link mark = record { memory = memory; link = link; mark = mark }

-- the rows: RULES 4.4 of a load, 4.8 and 4.12 of an ll, 4.9 and 4.13 of a store, 4.14 to 4.16 of an sc, 4.31 and 4.32 of a poke
abbrev pub rule_of : Kind → KindRule
rule_of Load = row reads keeps leaves
rule_of Ll = row reads links marks
rule_of Store = row writes keeps clears_foreign
rule_of Success = row writes unlinks clears
rule_of Failure = row neither unlinks leaves
rule_of Poke = row writes keeps leaves

-- a number that no kind has does nothing
abbrev pub no_rule : KindRule
no_rule = row neither keeps leaves

abbrev pub rule_or_none : Option Kind → KindRule
rule_or_none None = no_rule
rule_or_none (Some kind) = rule_of kind

unfoldable pub rule_at : ℕ → KindRule
rule_at number = rule_or_none (kind_at number)

-- whether it writes
abbrev pub writing : Memory → Bool
writing reads = false
writing writes = true
writing neither = false

-- whether it sets its core's link, and whether it ends it
abbrev pub linking : LinkRule → Bool
linking keeps = false
linking links = true
linking unlinks = false

abbrev pub unlinking : LinkRule → Bool
unlinking keeps = false
unlinking links = false
unlinking unlinks = true

-- whether it ends other cores' links at its entry (RULES 5.6): whatever does not leave their mark
abbrev pub spoiling : MarkRule → Bool
spoiling leaves = false
spoiling marks = true
spoiling clears = true
spoiling clears_foreign = true

abbrev pub writes_kind : ℕ → Bool
writes_kind kind = writing (rule_at kind).memory

abbrev pub links_kind : ℕ → Bool
links_kind kind = linking (rule_at kind).link

abbrev pub unlinks_kind : ℕ → Bool
unlinks_kind kind = unlinking (rule_at kind).link

abbrev pub spoils_kind : ℕ → Bool
spoils_kind kind = spoiling (rule_at kind).mark

-- the mark that an access by a core leaves
abbrev pub mark_after : MarkRule → ℕ → ℕ → ℕ
mark_after leaves core owner = owner
mark_after marks core owner = written core
mark_after clears core owner = 0
mark_after clears_foreign core owner = if owner == written core then owner else 0
