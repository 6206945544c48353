-- How the table stands in every run from a fresh machine.
use Rattle.std.specs.Prelude.{◌≡◌, true, false, List, ℕ, ◌≤◌, ◌<◌, get_or}
use Rattle.rules.specs.Sizes.{written}
use Rattle.rules.specs.Operations.{shape_of, a_load}
use Rattle.rules.specs.Ranges.{core_at}
use Rattle.rules.specs.Refusals.{number_in}
use Rattle.rules.specs.Calls.{Outcome}
use Rattle.rules.specs.History.{link_of, owner_of}
use Rattle.rules.specs.Runs.{Call, Fresh, act, after, records, entry_rule}
use Rattle.rules.specs.declared.cores.Core.{Core}

-- a core inside steps 2 to 4 of a locked operation at an entry
pub record Inside (fresh : Outcome) (c : Core) (e : ℕ) : Type 0 where
  pub busy : c.busy ≡ true
  pub locked : a_load (shape_of c.operation) ≡ false
  pub from_2 : 2 ≤ c.next
  pub here : (entry_rule fresh c.address).0 ≡ e

pub record Stands (fresh : Outcome) (calls : List Call) : Type 0 where
  -- no call answers 4, 5 or 6
  pub never_4 : (call : Call) → number_in (act (after fresh calls) call).called.answer ≡ 4 → ⊥
  pub never_5 : (call : Call) → number_in (act (after fresh calls) call).called.answer ≡ 5 → ⊥
  pub never_6 : (call : Call) → number_in (act (after fresh calls) call).called.answer ≡ 6 → ⊥
  -- a holder of an entry is exactly the core inside steps 2 to 4 there
  pub holder_inside : (e i : ℕ) → get_or (after fresh calls).holders e 0 ≡ written i → Inside fresh (core_at (after fresh calls).called.machine i) e
  pub inside_holder : (e i : ℕ) → Inside fresh (core_at (after fresh calls).called.machine i) e → get_or (after fresh calls).holders e 0 ≡ written i
  -- an owner mark, where no one is inside, and every link are the history's
  pub owner_marks : (e : ℕ) → e < fresh.called.machine.entries → get_or (after fresh calls).holders e 0 ≡ 0 → get_or (after fresh calls).owners e 0 ≡ owner_of (entry_rule fresh) e (records fresh calls)
  pub links : (i : ℕ) → ((core_at (after fresh calls).called.machine i).linked ≡ (link_of i (records fresh calls)).linked) × ((core_at (after fresh calls).called.machine i).link ≡ (link_of i (records fresh calls)).link)

abbrev pub Standing : Type 0
Standing = (fresh : Outcome) → Fresh fresh → (calls : List Call) → Stands fresh calls
