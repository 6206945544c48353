-- What is promised, in one record: a field or two for each sentence of docs/RULES.md, section 1, in its order, and then what else holds. `promised` is a value of it, proved (proofs/Promised.antt).
use Rattle.rules.specs.Word.{read_word, write_word}
use Rattle.rules.specs.Entry.{entry_of}
use Rattle.rules.specs.Laws.{EntryLaws, WordLaws, RangeLaws}
use Rattle.archive.specs.Promises.{NeverOutOfRanges, FullIsRefused, FullRunIsReached}
use Rattle.promises.specs.Success.{WrittenRule}
use Rattle.promises.specs.CodeRuns.{CodeRuns}
use Rattle.promises.specs.Demand1.{CallsEnd, RefusalsNamed, RefusalsLeave}
use Rattle.promises.specs.Demand2.{MicroSteps, NoForbiddenSuccess, NamedCause, AnswersTell, ReadsBack, OnlyOne}
use Rattle.promises.specs.Demand3.{Demand3, NoTable, JudgedByHistory, RefusedAndWaiting, PokeWrites, PokeEndsNoLink}
use Rattle.promises.specs.Determined.{Determined}
use Rattle.promises.specs.Standing.{Standing}
use Rattle.promises.specs.Table.{SmallRuns, Met}
use Rattle.promises.specs.Archived.{RecordsAreGood, RunsAreArchived}

pub record Promised : Type 2 where
  -- Demand 1: calls and refusals

  -- RULES 1.1: "Every public call comes to an end and does nothing that is undefined, whatever it is handed."
  pub calls_end : CallsEnd
  -- RULES 1.2: "A refusal is given where these rules name it, and nowhere else."
  pub refusals_named : RefusalsNamed
  -- RULES 1.3: "A refusal leaves machine, memory, table and archive block as it found them."
  pub refusals_leave : RefusalsLeave
  -- Demand 2: steps, store-conditionals, blocks

  -- RULES 1.4: "Each micro-step does what the rules of the locked table say (4)."
  pub micro_steps : MicroSteps
  -- RULES 1.5: "In a run (1.9) no sc succeeds where RISC-V's A extension, judged by the cores' own accesses, says that it must fail (14)."
  pub no_forbidden_success : NoForbiddenSuccess
  -- RULES 1.6: "In a run an sc fails only for one of the causes that these rules name (5.7)."
  pub named_cause : NamedCause
  -- both, of what is answered. RULES 4.19: "An sc answers 0 where it succeeded and 1 where it failed."
  pub answers_tell : AnswersTell
  -- RULES 1.7: "What is read back from archive blocks is the records that were written."
  pub reads_back : ReadsBack
  -- RULES 1.8: "A block that is accepted is the only one with its number and its records."
  pub only_one : OnlyOne
  -- Demand 3: runs

  -- RULES 1.9: "A run begins with a fresh machine (6.16) and goes on with any sequence of gives, micro-steps and pokes by the bench. Each is made on the state and on the buffers as the call before it left them, and nothing else writes these buffers."
  pub code_runs : CodeRuns
  -- RULES 1.10: "At every moment of a run, memory and all the answers delivered so far are as if whole operations had been run one by one on the reference machine, in the order in which their access steps came."
  pub demand_3 : Demand3
  -- RULES 1.11: "The reference machine has no table and no locks."
  pub no_table : NoTable
  -- RULES 1.12: "The reference machine decides each sc by the success rule as it is written (5), and knows nothing but the history of the accesses that are finished."
  pub written_rule : WrittenRule
  pub judged_by_history : JudgedByHistory
  -- RULES 1.13: "A call that was refused and a step that waited are not in the history."
  pub refused_and_waiting : RefusedAndWaiting
  -- RULES 1.14: "A poke writes, and ends no link."
  pub poke_writes : PokeWrites
  pub poke_ends_no_link : PokeEndsNoLink
  -- What else holds

  -- how the table stands in a run: no call answers 4, 5 or 6 there, and locks, marks and links are as they should be
  pub standing : Standing
  -- RULES 1.18: "In the evening the run is put into an archive"
  pub records_are_good : RecordsAreGood
  pub runs_are_archived : RunsAreArchived
  -- RULES 7.22, the archive is full: it can come to that, and then `add` is refused 17; before, no call of a writer's run is refused 5
  pub full_is_reached : FullRunIsReached
  pub full_is_refused : FullIsRefused
  pub never_out_of_ranges : NeverOutOfRanges
  -- RULES 9.3: "P1 to P10 are proved"; and that demands 2 and 3 speak of runs that there are
  pub small_runs : SmallRuns
  pub met : Met
  -- RULES 3.7 and 3.9: the entry rule, and words of memory
  pub entry_laws : EntryLaws entry_of
  pub word_laws : WordLaws read_word write_word
  -- RULES 6.16 and 6.18: what a start leaves, and that each accepted call leaves its machine in its ranges
  pub range_laws : RangeLaws
  -- RULES 11.2: "Any two outcomes that a contract allows are shown to be equal."
  pub determined : Determined
